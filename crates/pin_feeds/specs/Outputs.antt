-- The part of each output, by its wire. (Our own.)
use Rattle.std.specs.Prelude.{◌≡◌, ℕ, suc, ◌<◌, List, [], ◌∷◌, length, get_or, slice_get, slice_set, Option, None, Some, is_some, option_and_then, if◌then◌else◌}
use Rattle.words.specs.Members.{In}
use Rattle.circuit.specs.Parts.{Source}

-- The list has for wires a part whose output it is: what is there has the output, and an output of a part that has a place there is there.
pub record AreOutputs (all : List Source) (parts : List (Option ℕ)) : Type 0 where
  pub known : (o k : ℕ) → get_or parts o None ≡ Some k → (s : Source) × ((slice_get all k ≡ Some s) × (s.out ≡ o))
  pub none : (s : Source) → In all s → s.out < length parts → get_or parts s.out None ≡ None → ⊥

-- the list with the parts written to it at the wires of their outputs, numbered from a number on
abbrev pub outputs_from : List (Option ℕ) → ℕ → List Source → List (Option ℕ)
outputs_from parts n [] = parts
outputs_from parts n (s ∷ ss) = outputs_from (slice_set parts s.out (Some n)) (suc n) ss

-- the part whose output feeds a wire, by the feed of each wire
abbrev pub part_at : List (Option ℕ) → List (Option ℕ) → ℕ → Option ℕ
part_at feeds parts w = option_and_then (λ o. get_or parts o None) (get_or feeds w None)

-- the feed of a wire, where it is the output of no part
abbrev pub unnamed_at : List (Option ℕ) → List (Option ℕ) → ℕ → Option ℕ
unnamed_at feeds parts w = option_and_then (λ o. if is_some (get_or parts o None) then None else Some o) (get_or feeds w None)
