-- The corridor, a design with input pads on a device, is masked at any moment.
use Rattle.std.proofs.Common.{◌≢◌, [], refl}
use Rattle.circuit.specs.Designs.{SameDesign}
use Rattle.circuit.specs.Faults.{Fault}
use Rattle.circuit.specs.Right.{RightOutside, TwoAreRight}
use Rattle.circuit.specs.Sound.{IsSoundCircuit}
use Rattle.circuit_laws.proofs.Sound.{Sound}
use Rattle.records.specs.Side.{Domain}
use Rattle.upset.specs.Configured.{Configured, circuit_of}
use Rattle.upset.specs.Safe.{IsMuxFault}
use Rattle.upset_laws.proofs.Masked.{mux_bits_masked}
use Rattle.repair.specs.Layouts.{configured}
use Rattle.mini_b.specs.Corridor.{corridor, corridor_side}
use Rattle.route_examples.specs.Corridors.{with_corridor}
use Rattle.route_examples.proofs.Conditions.{g}
use Rattle.route_examples.proofs.Answered.{told, corridor_safe}
use Rattle.route_examples.proofs.CorridorMeets.{corridor_formed, corridor_triplicated}
use Rattle.lasting_laws.specs.Lasting.{HardensAtAnyMoment, SaysSomething}
use Rattle.lasting_laws.proofs.Lasting.{at_any_moment, something}

abbrev k : Configured
k = configured (with_corridor g corridor)

sound : Sound (circuit_of k)
sound = record { clean = told.clean; formed = corridor_formed }

own : SameDesign (circuit_of k) (circuit_of k)
own = record {
  sides = record { slices = refl; pads = refl; triples = refl; inputs = refl; outputs = refl; clocks = refl; voters = refl };
  parts = refl;
  connections = λ x. ((λ h. h), (λ h. h));
}

pub has_inputs : corridor_side.inputs ≢ []
has_inputs e = let no : ⊥ = cc in no

pub corridor_sound : IsSoundCircuit (circuit_of k)
corridor_sound = record { clean = told.clean; formed = corridor_formed; triplicated = corridor_triplicated }

pub corridor_masked : (f : Fault) → IsMuxFault k f → ((d : Domain) × RightOutside (circuit_of k) f d) × TwoAreRight (circuit_of k) f
corridor_masked f m = mux_bits_masked k told.clean corridor_formed corridor_triplicated corridor_safe f m

pub corridor_lasts : HardensAtAnyMoment k k
corridor_lasts = at_any_moment k k sound sound corridor_triplicated corridor_triplicated own corridor_safe

pub corridor_says : SaysSomething k
corridor_says = something k sound corridor_triplicated
