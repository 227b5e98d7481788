-- Parts that are in a set of voters.
use Rattle.std.proofs.Common.{◌≡◌, ◌↔◌, ℕ, Bool, true, false, List, [], ◌∷◌, get_or, map, Some, ◌&&◌, ◌||◌, inl, inr, refl, sym, ap, ap₂, subst, ◌∙◌, bytes_eq, arith}
use Rattle.std.specs.Prelude.{slice_get, ◌==◌}
use Rattle.std.specs.List.{list_any}
use Rattle.std.specs.Option.{option_map}
use Rattle.std.specs.BTreeSet.{BTreeSet, contains_by}
use Rattle.std.proofs.lemmas.Bool.Decides.{nat_tests}
use Rattle.std.proofs.lemmas.Slice.Eq.{bytes_eq-Decides}
use Rattle.std.proofs.lemmas.Option.{get_or_from_slice_get, slice_get-map}
use Rattle.words.specs.Members.{In}
use Rattle.records.specs.Side.{Voter}
use Rattle.circuit.specs.Cells.{Cells}
use Rattle.circuit.specs.Parts.{PartKind, Table, Register, Pad, PartRef, Source, sources}
use Rattle.circuit.specs.Circuits.{Circuit}
use Rattle.circuit.specs.Triplicated.{IsVoter}
use Rattle.side_file.specs.Known.{Lent, table_order}
use Rattle.pin_rules.specs.Voters.{AreVoters}
use Rattle.voter_flags.specs.Listed.{ListsVoters, is_listed, kind_listed}

true_false : true ≡ false → ⊥
true_false h = (let no : ⊥ = cc in no)

both : (a b : Bool) → (a && b) ≡ true → (a ≡ true) × (b ≡ true)
both true b h = (refl, h)
both false b h = absurd (true_false (sym h))

abbrev test : List ℕ → ℕ → Voter → Bool
test cell n voter = bytes_eq cell voter.slice && (n == voter.table)

equal_number : (x y : ℕ) → (x == y) ≡ true → x ≡ y
equal_number x y h = grind (arith, nat_tests)

same_number : (x : ℕ) → (x == x) ≡ true
same_number x = grind (arith, nat_tests)

in_any_by : (cell : List ℕ) (n : ℕ) (v : Voter) (voters : List Voter) (b : Bool) → test cell n v ≡ b → (b || list_any (test cell n) voters) ≡ true
    → (list_any (test cell n) voters ≡ true → In voters (record { slice = cell; table = n })) → In (v ∷ voters) (record { slice = cell; table = n })
in_any_by cell n v voters true e h later =
    let parts = both (bytes_eq cell v.slice) (n == v.table) e in
    inl (ap₂ (λ (a : List ℕ) (b : ℕ). let w : Voter = record { slice = a; table = b } in w) (sym ((bytes_eq-Decides cell v.slice).0 parts.0)) (sym (equal_number n v.table parts.1)))
in_any_by cell n v voters false e h later = inr (later h)

in_any : (cell : List ℕ) (n : ℕ) (voters : List Voter) → list_any (test cell n) voters ≡ true → In voters (record { slice = cell; table = n })
in_any cell n [] h = true_false (sym h)
in_any cell n (v ∷ voters) h = in_any_by cell n v voters (test cell n v) refl h (λ j. in_any cell n voters j)

or_true : (b c : Bool) → c ≡ true → (b || c) ≡ true
or_true true c h = refl
or_true false c h = h

any_in : (cell : List ℕ) (n : ℕ) (voters : List Voter) → In voters (record { slice = cell; table = n }) → list_any (test cell n) voters ≡ true
any_in cell n [] i = absurd i
any_in cell n (v ∷ voters) i = elim i [
  | inl e ↦ (
      let slice : cell ≡ v.slice = sym (ap (λ (w : Voter). w.slice) e) in
      let table : n ≡ v.table = sym (ap (λ (w : Voter). w.table) e) in
      let first : bytes_eq cell v.slice ≡ true = (bytes_eq-Decides cell v.slice).1 slice in
      let second : (n == v.table) ≡ true = subst (λ m. (n == m) ≡ true) table (same_number n) in
      ap (λ b. b || list_any (test cell n) voters) (ap₂ (λ a b. a && b) first second)
      )
  | inr j ↦ or_true (test cell n v) (list_any (test cell n) voters) (any_in cell n voters j)
]

module _ (set : BTreeSet (Lent × ℕ)) (voters : List Voter) (lists : ListsVoters set voters) where
  votes : (cell : List ℕ) (kind : PartKind) → kind_listed set cell kind ≡ true → (n : ℕ) × ((kind ≡ Table n) × In voters (record { slice = cell; table = n }))
  votes cell (Table n) h = (n, (refl, in_any cell n voters (sym (lists (cell, n)) ∙ h)))
  votes cell (Register n) h = absurd (true_false (sym h))
  votes cell Pad h = absurd (true_false (sym h))

  voting : (cell : List ℕ) (kind : PartKind) (n : ℕ) → kind ≡ Table n → In voters (record { slice = cell; table = n }) → kind_listed set cell kind ≡ true
  voting cell kind n is i = ap (kind_listed set cell) is ∙ (lists (cell, n) ∙ any_in cell n voters i)

pub flags_are : (set : BTreeSet (Lent × ℕ)) (voters : List Voter) (cells : Cells) (ss : List Source) (flags : List Bool) → ListsVoters set voters → ss ≡ sources cells → flags ≡ map (λ s. is_listed set s.part) ss
    → (c : Circuit) → c.cells ≡ cells → c.side.voters ≡ voters → AreVoters c flags
flags_are set voters cells ss flags lists all made c same side = record {
  flags = λ k s at.
      let whole : flags ≡ map (λ (x : Source). is_listed set x.part) (sources c.cells) = made ∙ ap (map (λ (x : Source). is_listed set x.part)) (all ∙ ap sources (sym same)) in
      let there : slice_get flags k ≡ Some (is_listed set s.part) = ap (λ xs. slice_get xs k) whole ∙ (slice_get-map (λ (x : Source). is_listed set x.part) (sources c.cells) k ∙ ap (option_map (λ (x : Source). is_listed set x.part)) at) in
      let flag : get_or flags k false ≡ is_listed set s.part = get_or_from_slice_get flags k (is_listed set s.part) false there in (
        (λ h. let v = votes set voters lists s.part.cell s.part.part (sym flag ∙ h) in (v.0, (v.1.0, subst (λ vs. In vs (record { slice = s.part.cell; table = v.0 })) (sym side) v.1.1))),
        (λ h. flag ∙ voting set voters lists s.part.cell s.part.part h.0 h.1.0 (subst (λ vs. In vs (record { slice = s.part.cell; table = h.0 })) side h.1.1)),
      );
}
