-- The cells or their first fault, once each part is known.
use Rattle.std.proofs.Common.{◌≡◌, ℕ, ◌≤◌, List, map, drop, length, Option, None, Some, Result, Ok, Err, sym, ap, ap₂, subst, ◌∙◌}
use Rattle.std.specs.Prelude.{IfSome}
use Rattle.words.specs.Firsts.{or_else, unless_fault}
use Rattle.words.specs.OrMemory.{OrMemory}
use Rattle.patterns.specs.Bits.{Bits}
use Rattle.records.specs.Profile.{SliceKind, PadKind, Profile}
use Rattle.records.specs.Side.{Placed, Side}
use Rattle.fabric.specs.Graph.{Graph}
use Rattle.circuit.specs.Cells.{Cells}
use Rattle.cells.specs.Sites.{Site, slice_site, pad_site}
use Rattle.cells.specs.Readings.{slices_of, pads_of}
use Rattle.cells.specs.Faults.{CellFault, site_fault, shape_fault}
use Rattle.cells.specs.CellsOf.{cells_of}
use Rattle.cell_readings.specs.First.{first_of}
use Rattle.cell_readings.proofs.First.{first_none, first_mapped}
use Rattle.slice_model.specs.Grid.{AllPlaced, HasFewPins, HaveFewPins}
use Rattle.slice_model.specs.Standing.{standing}
use Rattle.slice_model.specs.Turns.{faults_at, cells_at}
use Rattle.slice_model.proofs.AtSites.{slices_stand, pads_stand, slices_have_few}
use denote.Ref.{Bor}
use Rattle.slice_model.proofs.InTurn.{whole, stops, stops_later, goes_on, is_found}

-- a fault stops whatever was to be made
pub same_stop : {X Y E : Type 0} (o found : Option E) (u : X) (v : Y) → IfSome found (λ f. unless_fault o u ≡ Err f) → IfSome found (λ f. unless_fault o v ≡ Err f)
same_stop o None u v h = tt
same_stop None (Some f) u v h = absurd (let no : ⊥ = cc in no)
same_stop (Some g) (Some f) u v h = ap Err (let same : g ≡ f = cc in same)

-- where there is none, it is made
pub made_good : {X Y E : Type 0} (o : Option E) (u x : X) (v w : Y) → unless_fault o u ≡ Ok x → w ≡ v → unless_fault o v ≡ Ok w
made_good None u x v w e h = ap Ok (sym h)
made_good (Some f) u x v w e h = absurd (let no : ⊥ = cc in no)

-- all have passed, and what was found is what was to be found
pub ends_found : {X Y E : Type 0} (fault : X → Option E) (xs : List X) (i : ℕ) (u v : Y) → length xs ≤ i → first_of fault (drop i xs) ≡ first_of fault xs → v ≡ u
    → unless_fault (first_of fault xs) u ≡ Ok v
ends_found fault xs i u v l h e = ap (λ o. unless_fault o u) (sym h ∙ first_none fault xs i l) ∙ ap Ok (sym e)

-- lent cells in order are the cells in order
pub ordered_is : {K : Type 0} (site_of : Placed → Option (Site K)) (qs : List (Bor Placed)) (ps : List Placed) → map (λ q. q.now) qs ≡ ps
    → unless_fault (first_of (λ q. site_fault q.now.name (site_of q.now)) qs) (standing site_of (map (λ q. q.now) qs)) ≡ unless_fault (first_of (λ p. site_fault p.name (site_of p)) ps) (standing site_of ps)
ordered_is site_of qs ps e =
    ap₂ unless_fault (sym (first_mapped (λ (p : Placed). site_fault p.name (site_of p)) (λ (q : Bor Placed). q.now) qs) ∙ ap (first_of (λ (p : Placed). site_fault p.name (site_of p))) e) (ap (standing site_of) e)

module _ (g : Graph) (profile k : Profile) (image : Bits) (side n : Side) (same : k ≡ profile) (named : n ≡ side) where
  -- the faults of the sites of slices and of pads, and of shapes
  abbrev one : Profile → Option CellFault
  one p = first_of (λ c. site_fault c.name (slice_site g p c)) (slices_of side)

  abbrev two : Profile → Option CellFault
  two p = first_of (λ c. site_fault c.name (pad_site g p c)) (pads_of side)

  abbrev three : Profile → Side → Option CellFault
  three p s = first_of (shape_fault g p s) side.triples

  abbrev slices_at : Profile → List (Placed × Site SliceKind)
  slices_at p = standing (slice_site g p) (slices_of side)

  abbrev pads_at : Profile → List (Placed × Site PadKind)
  pads_at p = standing (pad_site g p) (pads_of side)

  abbrev rest : Option CellFault
  rest = faults_at g profile image side (slices_at profile) (pads_at profile)

  abbrev all : Cells
  all = cells_at g profile image side (slices_at profile) (pads_at profile)

  pub no_slice : (found : Option CellFault) → IfSome found (λ f. unless_fault (one k) (slices_at k) ≡ Err f) → IfSome found (λ f. cells_of g profile image side ≡ Err f)
  no_slice found h = subst (λ r. IfSome found (λ f. r ≡ Err f)) (sym (whole g profile image side))
      (stops (one profile) (or_else (two profile) (or_else (three profile side) rest)) found (slices_at profile) all
      (subst (λ p. IfSome found (λ f. unless_fault (one p) (slices_at p) ≡ Err f)) same h))

  module _ (slices : List (Placed × Site SliceKind)) (first : unless_fault (one k) (slices_at k) ≡ Ok slices) where
    first_there : unless_fault (one profile) (slices_at profile) ≡ Ok slices
    first_there = subst (λ p. unless_fault (one p) (slices_at p) ≡ Ok slices) same first

    pub no_pad : (found : Option CellFault) → IfSome found (λ f. unless_fault (two k) (pads_at k) ≡ Err f) → IfSome found (λ f. cells_of g profile image side ≡ Err f)
    no_pad found h = subst (λ r. IfSome found (λ f. r ≡ Err f)) (sym (whole g profile image side))
        (stops_later (one profile) (or_else (two profile) (or_else (three profile side) rest)) found (slices_at profile) slices all first_there
        (stops (two profile) (or_else (three profile side) rest) found (pads_at profile) all (subst (λ p. IfSome found (λ f. unless_fault (two p) (pads_at p) ≡ Err f)) same h)))

    pub slices_placed : AllPlaced g slices
    slices_placed = subst (AllPlaced g) (is_found (one k) (slices_at k) slices first) (slices_stand g k (slices_of side))

    pub few_pins : HasFewPins profile → HaveFewPins slices
    few_pins few = subst HaveFewPins (is_found (one k) (slices_at k) slices first) (slices_have_few g k (slices_of side) (subst HasFewPins (sym same) few))

    module _ (pads : List (Placed × Site PadKind)) (second : unless_fault (two k) (pads_at k) ≡ Ok pads) where
      second_there : unless_fault (two profile) (pads_at profile) ≡ Ok pads
      second_there = subst (λ p. unless_fault (two p) (pads_at p) ≡ Ok pads) same second

      pub no_shape : (found : Option CellFault) → IfSome found (λ f. unless_fault (three k n) (tt {0}) ≡ Err f) → IfSome found (λ f. cells_of g profile image side ≡ Err f)
      no_shape found h = subst (λ r. IfSome found (λ f. r ≡ Err f)) (sym (whole g profile image side))
          (stops_later (one profile) (or_else (two profile) (or_else (three profile side) rest)) found (slices_at profile) slices all first_there
          (stops_later (two profile) (or_else (three profile side) rest) found (pads_at profile) pads all second_there
          (stops (three profile side) rest found (tt {0}) all
          (subst (λ p. IfSome found (λ f. unless_fault (three p side) (tt {0}) ≡ Err f)) same (subst (λ s. IfSome found (λ f. unless_fault (three k s) (tt {0}) ≡ Err f)) named h)))))

      pub pads_placed : AllPlaced g pads
      pads_placed = subst (AllPlaced g) (is_found (two k) (pads_at k) pads second) (pads_stand g k (pads_of side))

      pub ended : {F : Type 0} (fault : F → Option CellFault) (r : Result Cells F) → unless_fault (three k n) (tt {0}) ≡ Ok (tt {0})
          → OrMemory (λ cells. cells) fault r (unless_fault (faults_at g profile image n slices pads) (cells_at g profile image n slices pads))
          → OrMemory (λ cells. cells) fault r (cells_of g profile image side)
      ended {F} fault r third h = subst (OrMemory (λ (c : Cells). c) fault r) (sym (whole g profile image side))
          (subst (OrMemory (λ (c : Cells). c) fault r)
          (goes_on (three profile side) rest (tt {0}) (tt {0}) all (subst (λ p. unless_fault (three p side) (tt {0}) ≡ Ok (tt {0})) same (subst (λ s. unless_fault (three k s) (tt {0}) ≡ Ok (tt {0})) named third))
          ∙ (goes_on (two profile) (or_else (three profile side) rest) (pads_at profile) pads all second_there
          ∙ goes_on (one profile) (or_else (two profile) (or_else (three profile side) rest)) (slices_at profile) slices all first_there))
          (subst (λ ps. OrMemory (λ (c : Cells). c) fault r (unless_fault (faults_at g profile image side (slices_at profile) ps) (cells_at g profile image side (slices_at profile) ps)))
          (sym (is_found (two profile) (pads_at profile) pads second_there))
          (subst (λ ss. OrMemory (λ (c : Cells). c) fault r (unless_fault (faults_at g profile image side ss pads) (cells_at g profile image side ss pads)))
          (sym (is_found (one profile) (slices_at profile) slices first_there))
          (subst (λ s. OrMemory (λ (c : Cells). c) fault r (unless_fault (faults_at g profile image s slices pads) (cells_at g profile image s slices pads))) named h))))
