-- A job has a start, where each output of its design is that of one part.
use Rattle.std.proofs.Common.{◌≡◌, ℕ, ◌↔◌, List, [], ◌∷◌, refl}
use Rattle.words.specs.Members.{In}
use Rattle.records.specs.Config.{Config}
use Rattle.circuit.specs.WellFormed.{OutputsApart}
use Rattle.circuit.specs.Circuits.{Connection, IsConnection}
use Rattle.repair.specs.Layouts.{configured}
use Rattle.repair.specs.Nets.{nets, IsRipped}
use Rattle.repair.specs.Ripping.{IsRippedLine, IsRest}
use Rattle.attempts.specs.Jobs.{Job, State, read_of, IsRippedPart}
use Rattle.attempts.specs.Wires.{connection_cmp}
use Rattle.attempts.specs.Starts.{IsRippedAtStart, IsFirstState}
use Rattle.words.proofs.Decided.{Decided, both}
use Rattle.route_laws.proofs.Usable.{is_connection}
use Rattle.answer_laws.proofs.Lists.{IsOrderOf, ordered}
use Rattle.answer_laws.proofs.Lines.{some_rest}
use Rattle.answer_laws.proofs.Ripped.{is_ripped, is_ripped_line, connections_with, is_ripped_part}
use Rattle.answer_laws.specs.Named.{IsNamed}
use Rattle.answer_laws.proofs.Named.{connection_total, ties_are_one}

module _ (job : Job) where
  rest : (config : Config) × IsRest (IsRipped job.rip job.device (configured job.design)) job.design.config (configured job.design) config
  rest = some_rest (IsRippedLine (IsRipped job.rip job.device (configured job.design)) job.design.config (configured job.design))
      (is_ripped_line (IsRipped job.rip job.device (configured job.design)) (is_ripped job.rip job.device (configured job.design))
      (nets job.device job.design.graph job.design.side) (λ net r. r.is_net) job.design.config (configured job.design))
      job.design.config

  -- a connection of the circuit that was read begins at a named part
  pub of_named_part : (x : Connection) → IsConnection (read_of job) x → IsNamed job.design.cells x.source
  of_named_part x c = record { source = c.source; listed = c.connects.source; is = c.from }

  ripped : (xs : List Connection) × ((x : Connection) → In xs x ↔ IsRippedAtStart job x)
  ripped = connections_with (read_of job) (IsRippedAtStart job) (λ x. both (is_connection (read_of job) x) (is_ripped_part job [] x.source)) (λ x h. h.0)

  module _ (apart : OutputsApart (read_of job)) where
    order : (xs : List Connection) × IsOrderOf (connection_cmp job.design.cells) (IsRippedAtStart job) xs
    order = ordered (connection_cmp job.design.cells) (connection_total job.design.cells) (IsRippedAtStart job) ripped.0 ripped.1
        (λ x y i j. ties_are_one job.design.cells x y apart.alone (of_named_part x ((ripped.1 x).0 i).0) (of_named_part y ((ripped.1 y).0 j).0))

    pub some_start : (state : State) × IsFirstState job state
    some_start = (
      record {
        layout = record { graph = job.design.graph; config = rest.0; cells = job.design.cells; side = job.design.side };
        order = order.0;
        rims = [];
        moved = [];
        sides = job.design.side ∷ [];
      },
      record {
        graph = refl;
        text = rest.1;
        cells = refl;
        side = refl;
        order = record { rising = order.1.rising; members = order.1.members };
        no_rims = refl;
        none_moved = refl;
        sides = refl;
      },
    )
