-- The fault of the cells, and the cells, from those at their sites.
use Rattle.std.proofs.Common.{◌≡◌, List, [], ◌∷◌, ◌++◌, flat_map, map, Option, None, Some, Result, Ok, Err, refl, sym, ap, ap₂, subst, ◌∙◌}
use Rattle.std.specs.Prelude.{filter_map, option_map, IfSome}
use Rattle.std.specs.List.{cons_option}
use Rattle.std.specs.Option.{option_map_or, option_to_list}
use Rattle.words.specs.Firsts.{or_else, first_fault, first_fault_after, unless_fault}
use Rattle.patterns.specs.Bits.{Bits}
use Rattle.records.specs.Profile.{SliceKind, PadKind, Profile}
use Rattle.records.specs.Side.{Placed, Side}
use Rattle.fabric.specs.Graph.{Graph}
use Rattle.cells.specs.Sites.{Site, slice_site, pad_site, unnamed_pads}
use Rattle.cells.specs.Resolved.{slice_cell, pad_cell}
use Rattle.cells.specs.Readings.{Reading, pad_reading, slice_readings, unnamed_reading, readings, slices_of, pads_of}
use Rattle.cells.specs.Faults.{CellFault, site_fault, shape_fault, value_fault, unnamed_fault, cell_fault}
use Rattle.cells.specs.CellsOf.{unless, slice_cells, pad_cells, cells_of}
use Rattle.cell_readings.specs.First.{first_of}
use Rattle.circuit.specs.Cells.{Cells}
use Rattle.words.specs.OrMemory.{OrMemory}
use Rattle.slice_model.specs.Standing.{standing}
use Rattle.slice_model.specs.Turns.{slices_fault, pads_fault, modes_fault, faults_at, cells_at}
use Rattle.cell_readings.proofs.First.{first_both, first_mapped, first_flat}

pub alone : {X E : Type 0} (fault : X → Option E) (before xs : List X) → first_fault_after (λ b x. fault x) before xs ≡ first_of fault xs
alone fault before [] = refl
alone fault before (x ∷ xs) = ap (or_else (fault x)) (alone fault (before ++ x ∷ []) xs)

-- what is made of placed cells that have a site is made of those at sites
pub made_of : {K C : Type 0} (site_of : Placed → Option (Site K)) (make : Placed → Site K → C) (ps : List Placed)
    → filter_map (λ p. option_map (make p) (site_of p)) ps ≡ map (λ q. make q.0 q.1) (standing site_of ps)
made_of site_of make [] = refl
made_of {K} {C} site_of make (p ∷ ps) = go (site_of p) (made_of site_of make ps)
  where
    go : (o : Option (Site K)) → filter_map (λ p. option_map (make p) (site_of p)) ps ≡ map (λ q. make q.0 q.1) (standing site_of ps)
        → cons_option (option_map (make p) o) (filter_map (λ p. option_map (make p) (site_of p)) ps)
        ≡ map (λ q. make q.0 q.1) (cons_option (option_map (λ s. (p, s)) o) (standing site_of ps))
    go None h = h
    go (Some s) h = ap (λ cs. make p s ∷ cs) h

pub slices_made : (g : Graph) (profile : Profile) (image : Bits) (side : Side)
    → slice_cells g profile image side ≡ map (λ q. slice_cell g profile.rules image q.0 q.1) (standing (slice_site g profile) (slices_of side))
slices_made g profile image side = made_of (slice_site g profile) (slice_cell g profile.rules image) (slices_of side)

pub pads_made : (g : Graph) (profile : Profile) (side : Side) → pad_cells g profile side ≡ map (λ q. pad_cell g profile.rules side q.0 q.1) (standing (pad_site g profile) (pads_of side))
pads_made g profile side = made_of (pad_site g profile) (pad_cell g profile.rules side) (pads_of side)

pub lists_of : {K R : Type 0} (site_of : Placed → Option (Site K)) (read : Placed → Site K → List R) (ps : List Placed)
    → flat_map (λ p. option_map_or (read p) (site_of p) []) ps ≡ flat_map (λ q. read q.0 q.1) (standing site_of ps)
lists_of site_of read [] = refl
lists_of {K} site_of read (p ∷ ps) = go (site_of p) (lists_of site_of read ps)
  where
    go : (o : Option (Site K)) → flat_map (λ p. option_map_or (read p) (site_of p) []) ps ≡ flat_map (λ q. read q.0 q.1) (standing site_of ps)
        → option_map_or (read p) o [] ++ flat_map (λ p. option_map_or (read p) (site_of p) []) ps
        ≡ flat_map (λ q. read q.0 q.1) (cons_option (option_map (λ s. (p, s)) o) (standing site_of ps))
    go None h = h
    go (Some s) h = ap (λ rs. read p s ++ rs) h

pub items_of : {K R : Type 0} (site_of : Placed → Option (Site K)) (read : Placed → Site K → R) (ps : List Placed)
    → flat_map (λ p. option_to_list (option_map (read p) (site_of p))) ps ≡ map (λ q. read q.0 q.1) (standing site_of ps)
items_of site_of read [] = refl
items_of {K} site_of read (p ∷ ps) = go (site_of p) (items_of site_of read ps)
  where
    go : (o : Option (Site K)) → flat_map (λ p. option_to_list (option_map (read p) (site_of p))) ps ≡ map (λ q. read q.0 q.1) (standing site_of ps)
        → option_to_list (option_map (read p) o) ++ flat_map (λ p. option_to_list (option_map (read p) (site_of p))) ps
        ≡ map (λ q. read q.0 q.1) (cons_option (option_map (λ s. (p, s)) o) (standing site_of ps))
    go None h = h
    go (Some s) h = ap (λ rs. read p s ∷ rs) h

-- the first value that isn't modelled: of slices, of named pads, or of unnamed pads
pub values_read : (g : Graph) (profile : Profile) (image : Bits) (side : Side)
    → first_of value_fault (readings g profile image side)
    ≡ or_else (first_of (λ q. first_of value_fault (slice_readings g image q.0 q.1)) (standing (slice_site g profile) (slices_of side)))
    (or_else (first_of (λ q. value_fault (pad_reading g image side q.0 q.1)) (standing (pad_site g profile) (pads_of side))) (first_of (λ s. value_fault (unnamed_reading g image s)) (unnamed_pads g profile side)))
values_read g profile image side =
    let slices : List Reading = flat_map (λ p. option_map_or (slice_readings g image p) (slice_site g profile p) []) (slices_of side) in
    let pads : List Reading = flat_map (λ p. option_to_list (option_map (pad_reading g image side p) (pad_site g profile p))) (pads_of side) in
    let unnamed : List Reading = map (unnamed_reading g image) (unnamed_pads g profile side) in
    first_both value_fault (slices ++ pads) unnamed
    ∙ (ap (λ o. or_else o (first_of value_fault unnamed)) (first_both value_fault slices pads)
    ∙ (three (first_of value_fault slices) (first_of value_fault pads) (first_of value_fault unnamed)
    ∙ ap₂ or_else (ap (first_of value_fault) (lists_of (slice_site g profile) (slice_readings g image) (slices_of side)) ∙ first_flat value_fault (λ q. slice_readings g image q.0 q.1) (standing (slice_site g profile) (slices_of side)))
    (ap₂ or_else (ap (first_of value_fault) (items_of (pad_site g profile) (pad_reading g image side) (pads_of side)) ∙ first_mapped value_fault (λ q. pad_reading g image side q.0 q.1) (standing (pad_site g profile) (pads_of side)))
    (first_mapped value_fault (unnamed_reading g image) (unnamed_pads g profile side)))))
  where
    three : {E : Type 0} (a b c : Option E) → or_else (or_else a b) c ≡ or_else a (or_else b c)
    three None b c = refl
    three (Some e) b c = refl

-- the fault of the cells, pass by pass
pub faults_in_turn : (g : Graph) (profile : Profile) (image : Bits) (side : Side)
    → cell_fault g profile image side
    ≡ or_else (first_of (λ p. site_fault p.name (slice_site g profile p)) (slices_of side))
    (or_else (first_of (λ p. site_fault p.name (pad_site g profile p)) (pads_of side))
    (or_else (first_of (shape_fault g profile side) side.triples)
    (or_else (first_of value_fault (readings g profile image side)) (first_of (unnamed_fault g image) (unnamed_pads g profile side)))))
faults_in_turn g profile image side =
    ap₂ or_else (alone (λ (p : Placed). site_fault p.name (slice_site g profile p)) [] (slices_of side))
    (ap₂ or_else (alone (λ (p : Placed). site_fault p.name (pad_site g profile p)) [] (pads_of side))
    (ap₂ or_else (alone (shape_fault g profile side) [] side.triples)
    (ap₂ or_else (alone value_fault [] (readings g profile image side)) (alone (unnamed_fault g image) [] (unnamed_pads g profile side)))))

three : {E : Type 0} (a b c : Option E) → or_else (or_else a b) c ≡ or_else a (or_else b c)
three None b c = refl
three (Some e) b c = refl

same_unless : {X E : Type 0} (o : Option E) (x : X) → unless o x ≡ unless_fault o x
same_unless None x = refl
same_unless (Some e) x = refl

-- all faults of the cells, and the cells, from those at their sites
pub whole : (g : Graph) (profile : Profile) (image : Bits) (side : Side)
    → cells_of g profile image side
    ≡ unless_fault (or_else (first_of (λ p. site_fault p.name (slice_site g profile p)) (slices_of side))
    (or_else (first_of (λ p. site_fault p.name (pad_site g profile p)) (pads_of side))
    (or_else (first_of (shape_fault g profile side) side.triples)
    (faults_at g profile image side (standing (slice_site g profile) (slices_of side)) (standing (pad_site g profile) (pads_of side))))))
    (cells_at g profile image side (standing (slice_site g profile) (slices_of side)) (standing (pad_site g profile) (pads_of side)))
whole g profile image side =
    let slices : List (Placed × Site SliceKind) = standing (slice_site g profile) (slices_of side) in
    let pads : List (Placed × Site PadKind) = standing (pad_site g profile) (pads_of side) in
    let driving : Option CellFault = first_of (unnamed_fault g image) (unnamed_pads g profile side) in
    let values : or_else (first_of value_fault (readings g profile image side)) driving ≡ faults_at g profile image side slices pads =
    ap (λ o. or_else o driving) (values_read g profile image side)
    ∙ (three (slices_fault g image slices) (or_else (pads_fault g image side pads) (modes_fault g image (unnamed_pads g profile side))) driving
    ∙ ap (or_else (slices_fault g image slices)) (three (pads_fault g image side pads) (modes_fault g image (unnamed_pads g profile side)) driving)) in
    same_unless (cell_fault g profile image side) (record { slices = slice_cells g profile image side; pads = pad_cells g profile side })
    ∙ ap₂ unless_fault
    (faults_in_turn g profile image side
    ∙ ap (λ o. or_else (first_of (λ p. site_fault p.name (slice_site g profile p)) (slices_of side))
    (or_else (first_of (λ p. site_fault p.name (pad_site g profile p)) (pads_of side)) (or_else (first_of (shape_fault g profile side) side.triples) o))) values)
    (ap₂ (λ ss ps. (let c : Cells = record { slices = ss; pads = ps } in c)) (slices_made g profile image side) (pads_made g profile side))

-- a fault stops what comes behind it
pub stops : {X Y E : Type 0} (o p found : Option E) (u : X) (v : Y) → IfSome found (λ f. unless_fault o u ≡ Err f) → IfSome found (λ f. unless_fault (or_else o p) v ≡ Err f)
stops o p None u v h = tt
stops None p (Some f) u v h = absurd (let no : ⊥ = cc in no)
stops (Some g) p (Some f) u v h = ap Err (let same : g ≡ f = cc in same)

-- where there is none, what comes behind it goes on
pub goes_on : {X Y E : Type 0} (o p : Option E) (u x : X) (v : Y) → unless_fault o u ≡ Ok x → unless_fault p v ≡ unless_fault (or_else o p) v
goes_on None p u x v e = refl
goes_on (Some f) p u x v e = absurd (let no : ⊥ = cc in no)

pub stops_later : {X Y E : Type 0} (o p found : Option E) (u x : X) (v : Y) → unless_fault o u ≡ Ok x → IfSome found (λ f. unless_fault p v ≡ Err f)
    → IfSome found (λ f. unless_fault (or_else o p) v ≡ Err f)
stops_later o p found u x v e h = subst (λ r. IfSome found (λ f. r ≡ Err f)) (goes_on o p u x v e) h

-- and what was found is there
pub is_found : {X E : Type 0} (o : Option E) (u x : X) → unless_fault o u ≡ Ok x → u ≡ x
is_found None u x e = (let same : u ≡ x = cc in same)
is_found (Some f) u x e = absurd (let no : ⊥ = cc in no)
