-- The first cell of the triple in which a cell stands.
use Rattle.std.proofs.Common.{◌≡◌, ℕ, Bool, true, false, cond, nat_lt, ltb-false, List, length, position, find, unwrap_or, Option, None, Some, option_and_then, refl, sym, ap, ◌∙◌}
use Rattle.std.specs.Prelude.{slice_get}
use Rattle.std.specs.List.{position_or_len}
use Rattle.std.proofs.lemmas.List.Folds.{find_at}
use Rattle.std.proofs.lemmas.Option.{slice_get_past}
use Rattle.records.specs.Side.{Triple, Side}
use Rattle.circuit.specs.Triples.{all_triples, is_entry, triple_with}
use Rattle.part_triples.specs.Numbers.{number_of}

at_or_none : (xs : List Triple) (i : ℕ) (b : Bool) → nat_lt i (length xs) ≡ b → slice_get xs i ≡ option_and_then (slice_get xs) (cond b (Some i) None)
at_or_none xs i true e = refl
at_or_none xs i false e = slice_get_past xs i (ltb-false i (length xs) e)

-- what is found is what stands at the place
find_position : (p : Triple → Bool) (xs : List Triple) → find p xs ≡ option_and_then (slice_get xs) (position p xs)
find_position p xs = find_at p xs ∙ at_or_none xs (position_or_len p xs) (nat_lt (position_or_len p xs) (length xs)) refl

module _ (side : Side) (name : List ℕ) (number : Option ℕ) where
  abbrev alone : Triple
  alone = record { first = name; second = name; third = name }

  triple_is : number ≡ number_of side name → triple_with side name ≡ unwrap_or (option_and_then (slice_get (all_triples side)) number) alone
  triple_is is = ap (λ o. unwrap_or o alone) (find_position (is_entry name) (all_triples side) ∙ ap (option_and_then (slice_get (all_triples side))) (sym is))

  -- that of a cell in no triple is its own
  pub own_first : option_and_then (slice_get (all_triples side)) number ≡ None → number ≡ number_of side name → name ≡ (triple_with side name).first
  own_first none is = ap (λ (t : Triple). t.first) (sym (triple_is is ∙ ap (λ o. unwrap_or o alone) none))

  pub listed_first : (t : Triple) → option_and_then (slice_get (all_triples side)) number ≡ Some t → number ≡ number_of side name → t.first ≡ (triple_with side name).first
  listed_first t there is = ap (λ (t : Triple). t.first) (sym (triple_is is ∙ ap (λ o. unwrap_or o alone) there))
