-- The case that is found is the one that counts.
use Rattle.std.proofs.Common.{◌≡◌, ◌≢◌, ℕ, Bool, true, false, cond, inl, inr, List, [], ◌∷◌, ◌++◌, Option, Some, None, refl, sym, ap, subst, ◌∙◌, ◌↔◌}
use Rattle.std.specs.Prelude.{slice_get}
use Rattle.std.specs.Option.{option_map_or, option_and_then}
use Rattle.std.specs.Str.{bytes_eq}
use Rattle.std.proofs.lemmas.Bool.{false≢true}
use Rattle.std.proofs.lemmas.Option.{same_Some}
use Rattle.std.proofs.lemmas.Slice.Eq.{bytes_eq-Decides}
use Rattle.words.specs.Members.{In}
use Rattle.patterns.specs.Bits.{Bits}
use Rattle.records.specs.Profile.{Case, Choice}
use Rattle.fabric.specs.Graph.{Graph}
use Rattle.fabric.specs.Values.{value_at}
use Rattle.cells.specs.Takes.{case_with, case_of}
use Rattle.cells.specs.CaseCounts.{IsFirstWith, Counts, always, by_value}
use Rattle.cells_laws.proofs.Options.{tested_from, tested_to, then_from, then_to}

abbrev has_value : List ℕ → Case → Bool
has_value value c = option_map_or (bytes_eq value) c.value false

value_from : (value : List ℕ) (c : Case) → has_value value c ≡ true → c.value ≡ Some value
value_from value c h = let v = tested_from (bytes_eq value) c.value h in v.1.0 ∙ ap (λ w. Some w) (sym ((bytes_eq-Decides value v.0).0 v.1.1))

value_to : (value : List ℕ) (c : Case) → c.value ≡ Some value → has_value value c ≡ true
value_to value c e = tested_to (bytes_eq value) c.value value e ((bytes_eq-Decides value value).1 refl)

first_from : (value : List ℕ) (cases : List Case) (c : Case) → case_with cases value ≡ Some c → IsFirstWith cases value c
first_from value [] c h = absurd (let no : ⊥ = cc in no)
first_from value (d ∷ ds) c h = go (has_value value d) refl h (first_from value ds c)
  where
    go : (b : Bool) → has_value value d ≡ b → cond b (Some d) (case_with ds value) ≡ Some c → (case_with ds value ≡ Some c → IsFirstWith ds value c) → IsFirstWith (d ∷ ds) value c
    go true e k ih =
        let same : d ≡ c = same_Some d c k in
        subst (IsFirstWith (d ∷ ds) value) same (record { front = []; rest = ds; whole = refl; has = value_from value d e; earlier = λ x i. absurd i })
    go false e k ih =
        let r = ih k in
        record {
          front = d ∷ r.front;
          rest = r.rest;
          whole = ap (λ xs. d ∷ xs) r.whole;
          has = r.has;
          earlier = λ x i. elim i [ inl s ↦ (λ v. false≢true (sym e ∙ value_to value d (ap (λ y. y.value) s ∙ v))) | inr j ↦ r.earlier x j ];
        }

first_to : (value : List ℕ) (front rest : List Case) (c : Case) → c.value ≡ Some value → ((d : Case) → In front d → d.value ≢ Some value)
    → case_with (front ++ c ∷ rest) value ≡ Some c
first_to value [] rest c has earlier = subst (λ b. cond b (Some c) (case_with rest value) ≡ Some c) (sym (value_to value c has)) refl
first_to value (d ∷ ds) rest c has earlier = go (has_value value d) refl (first_to value ds rest c has (λ x i. earlier x (inr i)))
  where
    go : (b : Bool) → has_value value d ≡ b → case_with (ds ++ c ∷ rest) value ≡ Some c → cond b (Some d) (case_with (ds ++ c ∷ rest) value) ≡ Some c
    go true e ih = absurd (earlier d (inl refl) (value_from value d e))
    go false e ih = ih

head_from : (cases : List Case) (c : Case) → slice_get cases 0 ≡ Some c → (rest : List Case) × (cases ≡ c ∷ rest)
head_from [] c h = absurd (let no : ⊥ = cc in no)
head_from (d ∷ ds) c h = (ds, let same : d ≡ c = same_Some d c h in ap (λ x. x ∷ ds) same)

module _ (g : Graph) (image : Bits) (tile : ℕ) (choice : Choice) (c : Case) where
  abbrev case_at : Option (List ℕ) → Option Case
  case_at setting = option_map_or (λ setting. option_and_then (case_with choice.cases) (value_at g image tile setting)) setting (slice_get choice.cases 0)

  there : (setting : Option (List ℕ)) → choice.setting ≡ setting → case_at setting ≡ Some c → Counts g image tile choice c
  there None e h = let r = head_from choice.cases c h in always r.0 e r.1
  there (Some setting) e h =
      let v = then_from (case_with choice.cases) (value_at g image tile setting) c h in
      by_value setting v.0 e v.1.0 (first_from v.0 choice.cases c v.1.1)

  back : Counts g image tile choice c → case_of g image tile choice ≡ Some c
  back (always rest none whole) = subst (λ o. case_at o ≡ Some c) (sym none) (subst (λ cases. slice_get cases 0 ≡ Some c) (sym whole) refl)
  back (by_value setting value is has first) = subst (λ o. case_at o ≡ Some c) (sym is)
      (then_to (case_with choice.cases) (value_at g image tile setting) value c has
      (subst (λ cases. case_with cases value ≡ Some c) (sym first.whole) (first_to value first.front first.rest c first.has first.earlier)))

pub counting_case : (g : Graph) (image : Bits) (tile : ℕ) (choice : Choice) (c : Case) → (case_of g image tile choice ≡ Some c) ↔ Counts g image tile choice c
counting_case g image tile choice c = (there g image tile choice c choice.setting refl, back g image tile choice c)
