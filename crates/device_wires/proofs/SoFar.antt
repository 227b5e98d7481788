-- The wires that loops have put in order so far.
use Rattle.std.proofs.Common.{◌≡◌, ◌+◌, ◌<◌, ℕ, List, [], ◌∷◌, ◌++◌, length, take, drop, get_or, filter_map, Option, sym, ap, subst, ◌∙◌}
use Rattle.std.specs.Prelude.{flat_map, option_to_list, Err, IsErrOf}
use Rattle.std.proofs.lemmas.List.{take_more, take-append-drop, append-nil}
use Rattle.std.proofs.lemmas.List.Concat.{flat_map-append}
use Rattle.std.proofs.lemmas.List.Elements.{filter_map-append}
use Rattle.records.specs.Limits.{most_wires}
use Rattle.fabric.specs.Wires.{Wire}
use Rattle.device_wires.specs.Gathered.{gathered}
use Rattle.device_wires.proofs.InOrder.{gathered-append, still_many}
use Rattle.device_names.proofs.Lists.{one_mapped}

module _ {B : Type 0} (wire : B → Option Wire) (wires : List Wire) (names : List B) where
  -- the wires of the first of them
  abbrev pub first_wires : ℕ → List Wire
  first_wires i = gathered wires (filter_map wire (take i names))

  -- one more
  pub wire_more : (i : ℕ) (d : B) → i < length names → gathered (first_wires i) (option_to_list (wire (get_or names i d))) ≡ first_wires (i + 1)
  wire_more i d h =
      let all = ap (filter_map wire) (take_more names i d h) ∙ filter_map-append wire (take i names) (get_or names i d ∷ []) in
      ap (gathered (first_wires i)) (sym (one_mapped wire (get_or names i d)))
      ∙ sym (gathered-append wires (filter_map wire (take i names)) (filter_map wire (get_or names i d ∷ [])))
      ∙ ap (gathered wires) (sym all)

  -- what is too much so far is too much in the end
  pub many_wires : (i : ℕ) → most_wires < length (first_wires i) → most_wires < length (gathered wires (filter_map wire names))
  many_wires i many =
      let parts = sym (filter_map-append wire (take i names) (drop i names)) ∙ ap (filter_map wire) (take-append-drop i names) in
      subst (λ named. most_wires < length (gathered wires named)) parts (still_many wires (filter_map wire (take i names)) (filter_map wire (drop i names)) many)

module _ {T : Type 0} (named : T → List Wire) (tiles : List T) where
  -- the wires of the first tiles
  abbrev pub first_tiles : ℕ → List Wire
  first_tiles i = gathered [] (flat_map named (take i tiles))

  -- one tile more
  pub tile_more : (i : ℕ) (d : T) → i < length tiles → gathered (first_tiles i) (named (get_or tiles i d)) ≡ first_tiles (i + 1)
  tile_more i d h =
      let all = ap (flat_map named) (take_more tiles i d h) ∙ flat_map-append named (take i tiles) (get_or tiles i d ∷ []) in
      ap (gathered (first_tiles i)) (sym (append-nil (named (get_or tiles i d))))
      ∙ sym (gathered-append [] (flat_map named (take i tiles)) (named (get_or tiles i d) ++ []))
      ∙ ap (gathered []) (sym all)

  pub many_tiles : (i : ℕ) → most_wires < length (first_tiles i) → most_wires < length (gathered [] (flat_map named tiles))
  many_tiles i many =
      let parts = sym (flat_map-append named (take i tiles) (drop i tiles)) ∙ ap (flat_map named) (take-append-drop i tiles) in
      subst (λ all. most_wires < length (gathered [] all)) parts (still_many [] (flat_map named (take i tiles)) (flat_map named (drop i tiles)) many)

-- an error is the same whatever value there might have been
pub same_error : {T U E : Type 0} (e f : E) → IsErrOf {T = T} (Err e) f → IsErrOf {T = U} (Err e) f
same_error e f is = let same : e ≡ f = cc in ap (λ x. Err x) same
