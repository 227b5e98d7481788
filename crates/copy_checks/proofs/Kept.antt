-- The read copies of a register, by numbers.
use Rattle.std.proofs.Common.{◌≡◌, ◌↔◌, ℕ, ◌<◌, Bool, true, false, List, [], ◌++◌, length, get_or, Option, None, Some, option_and_then, inl, inr, refl, sym, ap, subst, ◌∙◌}
use Rattle.std.specs.Prelude.{slice_get}
use Rattle.std.proofs.lemmas.Bool.{false≢true}
use Rattle.std.proofs.lemmas.Option.{get_or_from_slice_get, slice_get_within, slice_get-get_or}
use Rattle.words.specs.Members.{In}
use Rattle.links.proofs.Members.{in_left, in_right, in_either}
use Rattle.records.specs.Side.{Triple}
use Rattle.circuit.specs.Cells.{Cells}
use Rattle.circuit.specs.Parts.{Register, Source, sources}
use Rattle.circuit.specs.Triples.{IsEntry}
use Rattle.circuit.specs.Circuits.{Circuit, IsRead}
use Rattle.copy_rules.specs.Copies.{IsReadCopy, AreReadCopies}
use Rattle.design_checks.specs.CopyChecks.{part_in}
use Rattle.fabric_laws.proofs.Numbered.{get_in, number_there}
use Rattle.pin_feeds.proofs.Connected.{read_told}
use Rattle.pin_feeds.proofs.Writing.{there_below}
use Rattle.part_copies.specs.declared.numbers.CopyNumbers.{CopyNumbers}
use Rattle.part_copies.specs.Numbered.{IsPartNumber, AreCopyNumbers, AreNumberedOnce}
use Rattle.table_masks.specs.Least.{Shows}
use Rattle.copy_checks.specs.Listed.{present, AreThere, IsKept}

some_source : (a b : Source) → Some a ≡ Some b → a ≡ b
some_source a b h = cc

some_number : (a b : ℕ) → Some a ≡ Some b → a ≡ b
some_number a b h = cc

none_some : {X : Type 0} (x : X) → None ≡ Some x → ⊥
none_some x h = (let no : ⊥ = cc in no)

-- ---- lists of what is there

of_present : (o : Option ℕ) (k : ℕ) → In (present o) k → o ≡ Some k
of_present None k h = absurd h
of_present (Some n) k h = elim h [ inl e ↦ ap (λ m. Some m) e | inr never ↦ absurd never ]

in_present : (o : Option ℕ) (k : ℕ) → o ≡ Some k → In (present o) k
in_present None k h = absurd (none_some k h)
in_present (Some n) k h = inl (some_number n k h)

pub there_all : (a b d : Option ℕ) (list : List ℕ) → list ≡ (([] ++ present a) ++ present b) ++ present d → AreThere a b d list
there_all a b d list is k = (
  (λ h. elim (in_either (present a ++ present b) (present d) k (subst (λ xs. In xs k) is h)) [
    | inl i ↦ elim (in_either (present a) (present b) k i) [ inl j ↦ inl (of_present a k j) | inr j ↦ inr (inl (of_present b k j)) ]
    | inr i ↦ inr (inr (of_present d k i))
  ]),
  (λ h. subst (λ xs. In xs k) (sym is) (elim h [
    | inl e ↦ in_left (present a ++ present b) (present d) k (in_left (present a) (present b) k (in_present a k e))
    | inr i ↦ elim i [
      | inl e ↦ in_left (present a ++ present b) (present d) k (in_right (present a) (present b) k (in_present b k e))
      | inr e ↦ in_right (present a ++ present b) (present d) k (in_present d k e)
    ]
  ])),
)

-- ---- what is there and flagged

pub kept_none : (flags : List Bool) → IsKept flags None None
kept_none flags k = ((λ h. absurd (none_some k h)), (λ h. h.0))

pub kept_flagged : (flags : List Bool) (n : ℕ) → get_or flags n false ≡ true → IsKept flags (Some n) (Some n)
kept_flagged flags n on k = ((λ h. (h, subst (λ m. get_or flags m false ≡ true) (some_number n k h) on)), (λ h. h.0))

pub kept_unflagged : (flags : List Bool) (n : ℕ) → get_or flags n false ≡ false → IsKept flags (Some n) None
kept_unflagged flags n off k = (
  (λ h. absurd (none_some k h)),
  (λ h. absurd (false≢true (sym off ∙ subst (λ m. get_or flags m false ≡ true) (sym (some_number n k h.0)) h.1))),
)

-- ---- read parts are flagged

module _ (cells : Cells) (feeds numbers : List (Option ℕ)) (read : List Bool) (c : Circuit) (shows : Shows c cells feeds numbers read) where
  flags_own : (k : ℕ) → k < length (sources c.cells) → (get_or read k false ≡ true) ↔ In feeds (Some k)
  flags_own = subst (λ x. (k : ℕ) → k < length (sources x) → (get_or read k false ≡ true) ↔ In feeds (Some k)) (sym shows.feeds_are.cells_are) shows.flags

  flagged_read : (k : ℕ) (s : Source) → slice_get (sources c.cells) k ≡ Some s → get_or read k false ≡ true → IsRead c s
  flagged_read k s at on =
      let i = number_there feeds (Some k) ((flags_own k (slice_get_within (sources c.cells) k s at)).0 on) in
      let fed : get_or feeds i.0 None ≡ Some k = get_or_from_slice_get feeds i.0 (Some k) None i.1 in
      (read_told c feeds shows.feeds_are.tells s).1 (i.0, ap (option_and_then (slice_get (sources c.cells))) fed ∙ at)

  flag_by : (s : Source) (i : ℕ) (feed : Option ℕ) → get_or feeds i None ≡ feed → option_and_then (slice_get (sources c.cells)) feed ≡ Some s → (k : ℕ) × ((slice_get (sources c.cells) k ≡ Some s) × (get_or read k false ≡ true))
  flag_by s i None e h = absurd (none_some s h)
  flag_by s i (Some k) e h =
      let there : slice_get feeds i ≡ Some (Some k) = slice_get-get_or feeds i None (there_below feeds i k e) ∙ ap (λ x. Some x) e in
      (k, (h, (flags_own k (slice_get_within (sources c.cells) k s h)).1 (get_in feeds i (Some k) there)))

  read_flagged : (s : Source) → IsRead c s → (k : ℕ) × ((slice_get (sources c.cells) k ≡ Some s) × (get_or read k false ≡ true))
  read_flagged s r = (let i = (read_told c feeds shows.feeds_are.tells s).0 r in flag_by s i.0 (get_or feeds i.0 None) refl i.1)

  module _ (once : AreNumberedOnce c.cells) (t : Triple) (number : ℕ) (copies : CopyNumbers) (are : AreCopyNumbers (sources cells) t (Register number) copies) where
    numbered : (name : List ℕ) (o : Option ℕ) → IsPartNumber (sources cells) (part_in name (Register number)) o → IsPartNumber (sources c.cells) (part_in name (Register number)) o
    numbered name o = subst (λ v. IsPartNumber (sources v) (part_in name (Register number)) o) (sym shows.feeds_are.cells_are)

    -- a flagged copy is a read one
    read_by : (name : List ℕ) (k : ℕ) → IsEntry t name → IsPartNumber (sources cells) (part_in name (Register number)) (Some k) → get_or read k false ≡ true → IsReadCopy c t number k
    read_by name k entry is on =
        let x = numbered name (Some k) is in
        record {
          source = x.0;
          numbered = x.1.0;
          cell = name;
          copy = entry;
          is = x.1.1;
          read = record { listed = get_in (sources c.cells) k x.0 x.1.0; read = flagged_read k x.0 x.1.0 on };
        }

    -- a read one is that of its cell
    number_by : (name : List ℕ) (k : ℕ) (s : Source) (o : Option ℕ) → IsPartNumber (sources c.cells) (part_in name (Register number)) o → slice_get (sources c.cells) k ≡ Some s → s.part ≡ part_in name (Register number) → o ≡ Some k
    number_by name k s None none at e = absurd (none s (get_in (sources c.cells) k s at) e)
    number_by name k s (Some n) is at e = ap (λ m. Some m) (once n k is.0 s is.1.0 at (is.1.1 ∙ sym e))

    flagged_copy : (k : ℕ) → IsReadCopy c t number k → get_or read k false ≡ true
    flagged_copy k h =
        let f = read_flagged h.source h.read.read in
        let same : f.0 ≡ k = once f.0 k h.source h.source f.1.0 h.numbered refl in
        subst (λ m. get_or read m false ≡ true) same f.1.1

    module _ (first second third : Option ℕ) (first_kept : IsKept read copies.first first) (second_kept : IsKept read copies.second second) (third_kept : IsKept read copies.third third) (list : List ℕ)
        (there : AreThere first second third list) where
      copy_of : (k : ℕ) → In list k → IsReadCopy c t number k
      copy_of k i = elim ((there k).0 i) [
        | inl e ↦ (let x = (first_kept k).0 e in read_by t.first k (inl refl) (subst (IsPartNumber (sources cells) (part_in t.first (Register number))) x.0 are.first) x.1)
        | inr j ↦ elim j [
          | inl e ↦ (let x = (second_kept k).0 e in read_by t.second k (inr (inl refl)) (subst (IsPartNumber (sources cells) (part_in t.second (Register number))) x.0 are.second) x.1)
          | inr e ↦ (let x = (third_kept k).0 e in read_by t.third k (inr (inr (inl refl))) (subst (IsPartNumber (sources cells) (part_in t.third (Register number))) x.0 are.third) x.1)
        ]
      ]

      in_list : (k : ℕ) → IsReadCopy c t number k → In list k
      in_list k h = (let on = flagged_copy k h in (there k).1 (elim h.copy [
        | inl e ↦ inl ((first_kept k).1 (number_by t.first k h.source copies.first (numbered t.first copies.first are.first) h.numbered (h.is ∙ ap (λ n. part_in n (Register number)) (sym e)), on))
        | inr i ↦ elim i [
          | inl e ↦ inr (inl ((second_kept k).1 (number_by t.second k h.source copies.second (numbered t.second copies.second are.second) h.numbered (h.is ∙ ap (λ n. part_in n (Register number)) (sym e)), on)))
          | inr j ↦ elim j [
            | inl e ↦ inr (inr ((third_kept k).1 (number_by t.third k h.source copies.third (numbered t.third copies.third are.third) h.numbered (h.is ∙ ap (λ n. part_in n (Register number)) (sym e)), on)))
            | inr never ↦ absurd never
          ]
        ]
      ]))

      pub copies_read : AreReadCopies c t number list
      copies_read = record {
        each = λ i below. copy_of (get_or list i 0) (get_in list i (get_or list i 0) (slice_get-get_or list i 0 below));
        all = λ k h.
            let i = number_there list k (in_list k h) in
            (i.0, (slice_get_within list i.0 k i.1, get_or_from_slice_get list i.0 k 0 i.1));
      }

pub there_moved : (a b d x y z : Option ℕ) (list : List ℕ) → a ≡ x → b ≡ y → d ≡ z → AreThere a b d list → AreThere x y z list
there_moved a b d x y z list first second third there = subst (λ o. AreThere x y o list) third (subst (λ o. AreThere x o d list) second (subst (λ o. AreThere o b d list) first there))
