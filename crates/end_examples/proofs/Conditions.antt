-- What the laws of plain tests ask of the layouts, and where the attempts start.
use Rattle.std.proofs.Common.{◌≡◌, true, refl}
use Rattle.std.specs.List.{list_all}
use Rattle.links.proofs.Below.{in_has}
use Rattle.links.specs.Below.{has}
use Rattle.fabric_laws.proofs.Graphs.{has_graph}
use Rattle.fabric_laws.proofs.Members.{all_from}
use Rattle.fabric_examples.proofs.Tests.{drives_once, clean_once}
use Rattle.circuit.specs.Parts.{sources}
use Rattle.records.specs.Config.{Config}
use Rattle.records.specs.Side.{Side}
use Rattle.upset.specs.Configured.{Configured}
use Rattle.upset.specs.Safe.{IsSafe}
use Rattle.upset_laws.specs.PlainUpset.{OutputsListed, is_safe}
use Rattle.upset_laws.proofs.PlainDomains.{safe_law}
use Rattle.repair.specs.Layouts.{configured}
use Rattle.repair.specs.Turns.{routing}
use Rattle.attempts.specs.Starts.{IsFirstState}
use Rattle.route_laws.proofs.Rules.{IsToldBy}
use Rattle.route_laws.proofs.Starts.{start_law}
use Rattle.end_examples.specs.Joined.{device, layout_at}
use Rattle.end_examples.specs.Ends.{job_of, starts_with, pad_design, pad_rest, to_pad, full_design, full_rest, slice_design, slice_rest, moved, to_slice}

outputs_listed : (k : Configured) → list_all (λ s. has k.graph.outputs s.out) (sources k.cells) ≡ true → OutputsListed k
outputs_listed k h s i = in_has k.graph.outputs s.out (all_from (λ x. has k.graph.outputs x.out) (sources k.cells) h s i)

pub told_by : (config : Config) (side : Side) → (let k = configured (layout_at config side) in drives_once (routing k) ≡ true)
    → (let k = configured (layout_at config side) in list_all (λ s. has k.graph.outputs s.out) (sources k.cells) ≡ true) → IsToldBy device (configured (layout_at config side))
told_by config side h listed =
    let k = configured (layout_at config side) in
    record { graph = has_graph device; clean = clean_once (routing k) h; outputs = outputs_listed k listed }

pub safe_by : (k : Configured) → IsToldBy device k → is_safe k ≡ true → IsSafe k
safe_by k told h = (safe_law device k told.graph told.clean told.outputs).0 h

-- the pad's design
pub told_pad : IsToldBy device (configured pad_rest)
told_pad = told_by pad_rest.config pad_rest.side refl refl

pub pad_starts : IsFirstState (job_of pad_design) (starts_with pad_rest to_pad)
pad_starts = start_law (job_of pad_design) (told_by pad_design.config pad_design.side refl refl) (starts_with pad_rest to_pad) refl refl refl refl refl refl refl refl

pub pad_safe : IsSafe (configured pad_rest)
pad_safe = safe_by (configured pad_rest) told_pad refl

-- the design with both sites full
pub told_full : IsToldBy device (configured full_rest)
told_full = told_by full_rest.config full_rest.side refl refl

pub full_starts : IsFirstState (job_of full_design) (starts_with full_rest to_slice)
full_starts = start_law (job_of full_design) (told_by full_design.config full_design.side refl refl) (starts_with full_rest to_slice) refl refl refl refl refl refl refl refl

pub full_safe : IsSafe (configured full_rest)
full_safe = safe_by (configured full_rest) told_full refl

-- the design with an empty site
pub told_slice : IsToldBy device (configured slice_rest)
told_slice = told_by slice_rest.config slice_rest.side refl refl

pub slice_starts : IsFirstState (job_of slice_design) (starts_with slice_rest to_slice)
slice_starts = start_law (job_of slice_design) (told_by slice_design.config slice_design.side refl refl) (starts_with slice_rest to_slice) refl refl refl refl refl refl refl refl

pub slice_safe : IsSafe (configured slice_rest)
slice_safe = safe_by (configured slice_rest) told_slice refl

pub told_moved : IsToldBy device (configured moved)
told_moved = told_by moved.config moved.side refl refl

pub moved_safe : IsSafe (configured moved)
moved_safe = safe_by (configured moved) told_moved refl
