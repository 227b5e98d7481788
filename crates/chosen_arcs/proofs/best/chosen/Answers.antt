use Rattle.std.proofs.Common.{◌≡◌, ◌∙◌, ℕ, List, Ok, Err, Result, length}
use Rattle.std.specs.Prelude.{IfOk, nat_le, ◌&&◌}
use Rattle.patterns.specs.Fits.{fits}
use Rattle.records.specs.Database.{Arc}
use Rattle.records.specs.Grid.{origin_of}
use Rattle.fabric.specs.Chosen.{is_best_fit}
use Rattle.cram_image.specs.Image.{bits}
use Rattle.chosen_arcs.specs.Places.{places_where}
use Rattle.chosen_arcs.proofs.Placing.{places_same}
use Rattle.chosen_arcs.proofs.Longest.{best_is}
use Rattle.chosen_arcs.proofs.best.chosen.Goals as goal

-- an answer for one list is one for an equal list
as_list : {V E : Type 0} (items : V → List ℕ) (r : Result V E) (xs ys : List ℕ) → xs ≡ ys → IfOk r (λ v. items v ≡ xs) → IfOk r (λ v. items v ≡ ys)
as_list items (Ok v) xs ys same h = h ∙ same
as_list items (Err e) xs ys same h = tt

pub returns : goal.returns
returns c =
    let image = bits c.args.image.now in
    let origin = origin_of c.args.tile.now in
    let arcs = c.args.arcs.now in
    let m = c.longest_fit-longest.result in
    as_list (λ v. v.items) c.places_with.result
    (places_where (λ (a : Arc). nat_le m (length a.bits) && fits image origin a.bits) 0 arcs)
    (places_where (is_best_fit (λ (a : Arc). a.bits) image origin arcs) 0 arcs)
    (places_same (λ (a : Arc). nat_le m (length a.bits) && fits image origin a.bits) (is_best_fit (λ (a : Arc). a.bits) image origin arcs) 0 arcs
    (λ x i. best_is (λ (a : Arc). a.bits) image origin arcs m c.longest_fit-longest.ensures x))
    c.places_with.ensures
