-- The numbers of parts that two maps have.
use Rattle.std.proofs.Common.{◌≡◌, ◌≢◌, ℕ, ◌+◌, ◌<◌, ◌≤◌, Bool, true, false, cond, List, length, None, Some, ◌⊎◌, inl, inr, refl, sym, ap, ap₂, subst, ◌∙◌, Bor, bytes_eq, arith}
use Rattle.std.specs.Prelude.{slice_get}
use Rattle.std.specs.declared.cmp.Ordering.{Ordering}
use Rattle.std.specs.declared.cmp.Ordering.TheVariants.{Less, Equal, Greater}
use Rattle.std.specs.Ordering.{nat_cmp, is_eq}
use Rattle.std.specs.Cmp.{IsTotalOrder, nat_cmp_total, on_total, then_total, tied_itself}
use Rattle.std.specs.FinMap.{nat_cmp-IsAntisymmetric}
use Rattle.std.specs.Cmp.Lexicographic.{slice_cmp}
use Rattle.std.specs.BTreeMap.{get}
use Rattle.std.proofs.lemmas.Cmp.{nat_list_eq_equiv}
use Rattle.std.proofs.lemmas.Map.Text.{is_eq-slice_cmp}
use Rattle.std.proofs.lemmas.Bool.{false≢true}
use Rattle.std.proofs.lemmas.Option.{slice_get_within}
use Rattle.std.proofs.lemmas.Slice.Eq.{bytes_eq-Decides}
use Rattle.fabric_laws.proofs.Numbered.{number_there}
use Rattle.fabric_laws.proofs.Orders.{first_ties, second_ties}
use Rattle.links.proofs.Members.{same_number}
use Rattle.words.specs.Members.{In}
use Rattle.circuit.specs.Parts.{PartKind, Table, Register, Pad, Source}
use Rattle.design_checks.specs.CopyChecks.{part_in}
use Rattle.part_triples.specs.Places.{place_in}
use Rattle.part_copies.specs.Keys.{CellMap, KeyMap, key_cmp, code_in, HasNumber, HoldsFirst, HoldsAll}
use Rattle.part_copies.specs.Numbered.{IsPartNumber}

-- ---- codes and keys

pub same_code : (a b : PartKind) → code_in a ≡ code_in b → a ≡ b
same_code (Table n) (Table m) h = ap Table (let e : n ≡ m = omega arith in e)
same_code (Table n) (Register m) h = absurd (omega arith)
same_code (Table n) Pad h = absurd (omega arith)
same_code (Register n) (Table m) h = absurd (omega arith)
same_code (Register n) (Register m) h = ap Register (let e : n ≡ m = omega arith in e)
same_code (Register n) Pad h = absurd (omega arith)
same_code Pad (Table m) h = absurd (omega arith)
same_code Pad (Register m) h = absurd (omega arith)
same_code Pad Pad h = refl

is_equal : (o : Ordering) → is_eq o ≡ true → o ≡ Equal
is_equal Less h = absurd (false≢true h)
is_equal Equal h = refl
is_equal Greater h = absurd (false≢true h)

key_total : IsTotalOrder key_cmp
key_total = then_total (on_total (λ q. q.0) nat_cmp_total) (on_total (λ q. q.1) nat_cmp_total)

-- keys that tie are equal
ties : (p q : ℕ × ℕ) → is_eq (key_cmp p q) ≡ true → (p.0 ≡ q.0) × (p.1 ≡ q.1)
ties p q h =
    let e : key_cmp p q ≡ Equal = is_equal (key_cmp p q) h in
    (nat_cmp-IsAntisymmetric p.0 q.0 (first_ties (nat_cmp p.0 q.0) (nat_cmp p.1 q.1) e), nat_cmp-IsAntisymmetric p.1 q.1 (second_ties (nat_cmp p.0 q.0) (nat_cmp p.1 q.1) e))

some_source : (a b : Source) → Some a ≡ Some b → a ≡ b
some_source a b h = cc

some_number : (a b : ℕ) → Some a ≡ Some b → a ≡ b
some_number a b h = cc

none_some : (a : ℕ) → None ≡ Some a → ⊥
none_some a h = (let no : ⊥ = cc in no)

split : (i n : ℕ) → i < n + 1 → (i < n) ⊎ (i ≡ n)
split i n h = elim (same_number i n) [ inl e ↦ inr e | inr other ↦ inl (omega arith) ]

same_name : (a b : List ℕ) → (a ≡ b) ⊎ (a ≢ b)
same_name a b = go (bytes_eq a b) refl
  where
    go : (t : Bool) → bytes_eq a b ≡ t → (a ≡ b) ⊎ (a ≢ b)
    go true e = inl ((bytes_eq-Decides a b).0 e)
    go false e = inr (λ h. false≢true (sym e ∙ (bytes_eq-Decides a b).1 h))

-- ---- names of cells

-- a name as a map looks it up
abbrev lent : List ℕ → Bor (List ℕ)
lent name = record { ref_ptr = (0, 0); now = name }

-- texts that tie in byte order are equal
text_ties : (a b : List ℕ) → is_eq (slice_cmp nat_cmp a b) ≡ bytes_eq b a
text_ties a b = is_eq-slice_cmp a b ∙ nat_list_eq_equiv.symm a b

pub name_there : (name : List ℕ) (place number : ℕ) (old : CellMap) → Some number ≡ place_in old name → HasNumber old old name place number
name_there name place number old there = record { there = sym there; before = inl (sym there); others = λ q other. refl }

pub name_new : (key : Bor (List ℕ)) (name : List ℕ) (place : ℕ) (old new : CellMap) → key.now ≡ name → None ≡ place_in old name
    → ((q : Bor (List ℕ)) → get (λ a b. slice_cmp nat_cmp a.now b.now) new q ≡ cond (is_eq (slice_cmp nat_cmp key.now q.now)) (Some place) (get (λ a b. slice_cmp nat_cmp a.now b.now) old q))
    → HasNumber old new name place place
name_new key name place old new is absent updated = record {
  there = at name ∙ ap (λ t. cond t (Some place) (place_in old name)) ((bytes_eq-Decides name name).1 refl);
  before = inr (sym absent, refl);
  others = λ q other. at q ∙ apart q other (bytes_eq q name) refl;
}
  where
    at : (q : List ℕ) → place_in new q ≡ cond (bytes_eq q name) (Some place) (place_in old q)
    at q = updated (lent q) ∙ ap (λ t. cond t (Some place) (place_in old q)) (ap (λ k. is_eq (slice_cmp nat_cmp k q)) is ∙ text_ties name q)

    apart : (q : List ℕ) → q ≢ name → (t : Bool) → bytes_eq q name ≡ t → cond (bytes_eq q name) (Some place) (place_in old q) ≡ place_in old q
    apart q other true e = absurd (other ((bytes_eq-Decides q name).0 e))
    apart q other false e = ap (λ t. cond t (Some place) (place_in old q)) e

-- ---- one part more

module _ (all : List Source) (n cell : ℕ) (s : Source) (old_cells cells : CellMap) (old numbers : KeyMap) (at : slice_get all n ≡ Some s) (has : HasNumber old_cells cells s.part.cell n cell)
    (updated : (q : ℕ × ℕ) → get key_cmp numbers q ≡ cond (is_eq (key_cmp (cell, code_in s.part.part) q)) (Some n) (get key_cmp old q)) (held : HoldsFirst all n old_cells old) where
  -- a part of the cell has the number of the cell
  own : (u : Source) × ((slice_get all cell ≡ Some u) × (u.part.cell ≡ s.part.cell))
  own = elim has.before [ inl h ↦ held.named s.part.cell cell h | inr h ↦ (s, (ap (slice_get all) h.1 ∙ at, refl)) ]

  named_more : (name : List ℕ) (k : ℕ) → place_in cells name ≡ Some k → (u : Source) × ((slice_get all k ≡ Some u) × (u.part.cell ≡ name))
  named_more name k h = elim (same_name name s.part.cell) [
    | inl e ↦ (let same : cell ≡ k = some_number cell k (sym has.there ∙ (ap (place_in cells) (sym e) ∙ h)) in (own.0, (ap (slice_get all) (sym same) ∙ own.1.0, own.1.1 ∙ sym e)))
    | inr other ↦ held.named name k (sym (has.others name other) ∙ h)
  ]

  Known : ℕ → ℕ → ℕ → Type 0
  Known c code k = (u : Source) × ((x : Source) × ((slice_get all c ≡ Some u) × ((slice_get all k ≡ Some x) × ((x.part.cell ≡ u.part.cell) × (code_in x.part.part ≡ code)))))

  known_by : (c code k : ℕ) (b : Bool) → is_eq (key_cmp (cell, code_in s.part.part) (c, code)) ≡ b → cond b (Some n) (get key_cmp old (c, code)) ≡ Some k → Known c code k
  unfolding Known
  known_by c code k true e h =
      let t = ties (cell, code_in s.part.part) (c, code) e in
      let same : n ≡ k = some_number n k h in
      (own.0, (s, (ap (slice_get all) (sym t.0) ∙ own.1.0, (ap (slice_get all) (sym same) ∙ at, (sym own.1.1, t.1)))))
  known_by c code k false e h = held.known c code k h

  known_more : (c code k : ℕ) → get key_cmp numbers (c, code) ≡ Some k → Known c code k
  known_more c code k h = known_by c code k (is_eq (key_cmp (cell, code_in s.part.part) (c, code))) refl (sym (updated (c, code)) ∙ h)

  Complete : Source → Type 0
  Complete x = (c : ℕ) × ((k : ℕ) × ((place_in cells x.part.cell ≡ Some c) × (get key_cmp numbers (c, code_in x.part.part) ≡ Some k)))

  complete_own : Complete s
  unfolding Complete
  complete_own = (cell, (n, (has.there, updated (cell, code_in s.part.part) ∙ ap (λ b. cond b (Some n) (get key_cmp old (cell, code_in s.part.part))) (ap is_eq (tied_itself key_total (cell, code_in s.part.part))))))

  keeps_name : (x : Source) (c : ℕ) → place_in old_cells x.part.cell ≡ Some c → place_in cells x.part.cell ≡ Some c
  keeps_name x c h = elim (same_name x.part.cell s.part.cell) [
    | inr other ↦ has.others x.part.cell other ∙ h
    | inl e ↦ elim has.before [
      | inl was ↦ ap (place_in cells) e ∙ (has.there ∙ (sym was ∙ (ap (place_in old_cells) (sym e) ∙ h)))
      | inr fresh ↦ absurd (none_some c (sym fresh.0 ∙ (ap (place_in old_cells) (sym e) ∙ h)))
    ]
  ]

  keeps_by : (q : ℕ × ℕ) (k : ℕ) (b : Bool) → get key_cmp old q ≡ Some k → (m : ℕ) × (cond b (Some n) (get key_cmp old q) ≡ Some m)
  keeps_by q k true h = (n, refl)
  keeps_by q k false h = (k, h)

  complete_more : (i : ℕ) (x : Source) → i < n + 1 → slice_get all i ≡ Some x → Complete x
  unfolding Complete
  complete_more i x below there = elim (split i n below) [
    | inr e ↦ subst Complete (some_source s x (sym at ∙ (ap (slice_get all) (sym e) ∙ there))) complete_own
    | inl l ↦ (let h = held.complete i x l there in
        let q : ℕ × ℕ = (h.0, code_in x.part.part) in
        let m = keeps_by q h.1.0 (is_eq (key_cmp (cell, code_in s.part.part) q)) h.1.1.1 in
        (h.0, (m.0, (keeps_name x h.0 h.1.1.0, updated q ∙ m.1))))
  ]

  pub part_added : HoldsFirst all (n + 1) cells numbers
  unfolding Known Complete
  part_added = record { named = named_more; known = known_more; complete = complete_more }

-- ---- none, and all

pub none_held : (all : List Source) (cells : CellMap) (numbers : KeyMap) → ((q : List ℕ) → place_in cells q ≡ None) → ((q : ℕ × ℕ) → get key_cmp numbers q ≡ None) → HoldsFirst all 0 cells numbers
none_held all cells numbers no_name no_key = record {
  named = λ name k h. absurd (none_some k (sym (no_name name) ∙ h));
  known = λ c code k h. absurd (none_some k (sym (no_key (c, code)) ∙ h));
  complete = λ i s below at. absurd (omega arith);
}

pub all_held : (all : List Source) (n : ℕ) (cells : CellMap) (numbers : KeyMap) → length all ≤ n → HoldsFirst all n cells numbers → HoldsAll all cells numbers
all_held all n cells numbers over held = record {
  named = held.named;
  known = held.known;
  complete = λ i s below at. held.complete i s (omega arith) at;
}

-- ---- what the maps tell

module _ (cells : CellMap) (numbers : KeyMap) (name : List ℕ) (part : PartKind) (all : List Source) (held : HoldsAll all cells numbers) where
  found : (s : Source) → In all s → s.part ≡ part_in name part → (c : ℕ) × ((k : ℕ) × ((place_in cells name ≡ Some c) × (get key_cmp numbers (c, code_in part) ≡ Some k)))
  found s i is =
      let k = number_there all s i in
      let h = held.complete k.0 s (slice_get_within all k.0 s k.1) k.1 in
      (h.0, (h.1.0, (ap (λ p. place_in cells p.cell) (sym is) ∙ h.1.1.0, ap (λ p. get key_cmp numbers (h.0, code_in p.part)) (sym is) ∙ h.1.1.1)))

  pub no_name : None ≡ place_in cells name → IsPartNumber all (part_in name part) None
  no_name none s i is = (let h = found s i is in none_some h.0 (none ∙ h.1.1.0))

  pub no_key : (c code : ℕ) → Some c ≡ place_in cells name → code ≡ code_in part → None ≡ get key_cmp numbers (c, code) → IsPartNumber all (part_in name part) None
  no_key c code cell_is code_is none s i is =
      let h = found s i is in
      let same : c ≡ h.0 = some_number c h.0 (cell_is ∙ h.1.1.0) in
      none_some h.1.0 (none ∙ (ap₂ (λ a b. get key_cmp numbers (a, b)) same code_is ∙ h.1.1.1))

  pub key_told : (c code k n : ℕ) → Some c ≡ place_in cells name → code ≡ code_in part → Some k ≡ get key_cmp numbers (c, code) → n ≡ k → IsPartNumber all (part_in name part) (Some n)
  key_told c code k n cell_is code_is there is =
      let own = held.named name c (sym cell_is) in
      let x = held.known c code k (sym there) in
      let one : x.0 ≡ own.0 = some_source x.0 own.0 (sym x.1.1.0 ∙ own.1.0) in
      let cell : x.1.0.part.cell ≡ name = x.1.1.1.1.0 ∙ (ap (λ (z : Source). z.part.cell) one ∙ own.1.1) in
      let kind : x.1.0.part.part ≡ part = same_code x.1.0.part.part part (x.1.1.1.1.1 ∙ code_is) in
      (x.1.0, (ap (slice_get all) is ∙ x.1.1.1.0, (λ i. record { cell = cell i; part = kind i })))
