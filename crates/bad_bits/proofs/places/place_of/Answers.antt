use Rattle.std.proofs.Common.{◌≡◌, ℕ, List, find, Option, None, Some, option_copied, ap, sym, subst, ◌∙◌}
use Rattle.std.specs.Ordering.{nat_cmp}
use Rattle.patterns.specs.Bits.{bits_of_list}
use Rattle.circuit.specs.Cells.{Cells}
use Rattle.circuit.specs.WellFormed.{NamesApart}
use Rattle.fabric.specs.Wires.{name_cmp}
use Rattle.rr_ids.specs.Domains.{domain_of}
use Rattle.upset_effect.specs.Effects.{FlipEffect}
use Rattle.design_answers.specs.BadBits.{DisturbedIn}
use Rattle.bad_bits.specs.Least.{LeastOrNone, TouchedOf, has_label}
use Rattle.bad_bits.proofs.Placing.{cell_at, least_wire, nowhere}
use denote.Ref.{Bor}
use Rattle.bad_bits.proofs.places.place_of.Goals as goal

pub returns-in-Some : goal.returns-in-Some
returns-in-Some c = λ k of_cells labels apart effect.
    let flips = bits_of_list c.args.flips.now in
    let d = domain_of c.args.domain in
    let wires : c.deref.result.now ≡ c.args.effect.now.disturbed = c.deref.ensures.value ∙ ap (λ (e : FlipEffect). e.disturbed) c.effect.view_is in
    let found : find (has_label c.args.labels.now d) c.args.effect.now.disturbed ≡ Some c.in-Some.wire =
    ap (find (has_label c.args.labels.now d)) (sym wires) ∙ (sym c.first_of.ensures ∙ c.in-Some.is) in
    subst (λ o. LeastOrNone nat_cmp (DisturbedIn k flips d) o) found (least_wire k flips d c.args.labels.now c.args.effect.now labels effect)

-- no disturbed wire has the domain
pub returns-in-Some-least_touched : goal.returns-in-Some-least_touched
returns-in-Some-least_touched c = λ k of_cells labels apart effect.
    let flips = bits_of_list c.args.flips.now in
    let d = domain_of c.args.domain in
    let wires : c.deref.result.now ≡ c.args.effect.now.disturbed = c.deref.ensures.value ∙ ap (λ (e : FlipEffect). e.disturbed) c.effect.view_is in
    let found : find (has_label c.args.labels.now d) c.args.effect.now.disturbed ≡ None =
    ap (find (has_label c.args.labels.now d)) (sym wires) ∙ (sym c.first_of.ensures ∙ c.in_default.is) in
    let none = subst (λ o. LeastOrNone nat_cmp (DisturbedIn k flips d) o) found (least_wire k flips d c.args.labels.now c.args.effect.now labels effect) in
    let least = subst (λ (o : Option (Bor (List ℕ))). LeastOrNone name_cmp (TouchedOf c.args.cells.now flips d) (option_copied o)) c.in-Some-least_touched.is
    (c.least_touched.ensures (subst NamesApart of_cells apart)) in
    cell_at k flips d none c.in-Some-least_touched.name.now
    (subst (λ (cs : Cells). LeastOrNone name_cmp (TouchedOf cs flips d) (Some c.in-Some-least_touched.name.now)) (sym of_cells) least)

-- nor has any touched cell
pub returns-in-None : goal.returns-in-None
returns-in-None c = λ k of_cells labels apart effect.
    let flips = bits_of_list c.args.flips.now in
    let d = domain_of c.args.domain in
    let wires : c.deref.result.now ≡ c.args.effect.now.disturbed = c.deref.ensures.value ∙ ap (λ (e : FlipEffect). e.disturbed) c.effect.view_is in
    let found : find (has_label c.args.labels.now d) c.args.effect.now.disturbed ≡ None =
    ap (find (has_label c.args.labels.now d)) (sym wires) ∙ (sym c.first_of.ensures ∙ c.in_default.is) in
    let none = subst (λ o. LeastOrNone nat_cmp (DisturbedIn k flips d) o) found (least_wire k flips d c.args.labels.now c.args.effect.now labels effect) in
    let untouched = subst (λ (o : Option (Bor (List ℕ))). LeastOrNone name_cmp (TouchedOf c.args.cells.now flips d) (option_copied o)) c.in-None.is
    (c.least_touched.ensures (subst NamesApart of_cells apart)) in
    nowhere k flips d none (subst (λ (cs : Cells). (name : List ℕ) → TouchedOf cs flips d name → ⊥) (sym of_cells) untouched)
