-- Where the second site is empty the slice moves there, and its connection gets the way of that site.
use Rattle.std.proofs.Common.{◌≡◌, ◌≢◌, inl, inr, [], ◌∷◌, refl, sym, ap, subst, ◌∙◌, codes, arith}
use Rattle.std.specs.declared.cmp.Ordering.TheVariants.{Greater}
use Rattle.words.specs.Members.{In}
use Rattle.records.specs.Side.{Placed}
use Rattle.fabric_laws.proofs.Graphs.{has_graph}
use Rattle.fabric_laws.proofs.Agreeing.{agreeing}
use Rattle.circuit.specs.Circuits.{Connection, IsConnection}
use Rattle.upset.specs.Configured.{circuit_of}
use Rattle.cells.specs.Resolved.{site_bits}
use Rattle.repair.specs.Layouts.{configured, turn_over}
use Rattle.repair.specs.Lines.{no_lines, no_texts, next_text}
use Rattle.repair.specs.Routes.{IsTheRoute}
use Rattle.repair.specs.Turns.{Turn}
use Rattle.attempts.specs.Jobs.{Job, State, read_of}
use Rattle.attempts.specs.Candidates.{BecomesRipped, IsMoved, IsCandidate, WasHeld, site_cmp, IsFirst, Step}
use Rattle.attempts.specs.Turns.{Complete}
use Rattle.attempts.specs.Attempts.{Attempt, after_step, AttemptBlocked, AttemptComplete, Moved, Routed, Ended, IsAnswer, ended, moves, completes}
use Rattle.route_laws.specs.PlainPaths.{first_paths, weight_by}
use Rattle.route_laws.proofs.Paths.{route_law}
use Rattle.attempt_examples.proofs.Tests.{connections, connects_listed, modelled, clear, names_differ}
use Rattle.end_examples.specs.Joined.{device, graph, placed, first_tile, second_tile, second_kind}
use Rattle.end_examples.specs.Ends.{job_of, starts_with, net, pad_cut, slice_design, slice_rest, to_slice, old_site, new_site, moved, step, routed, way}
use Rattle.end_examples.proofs.Conditions.{slice_starts, slice_safe, told_moved, moved_safe}
use Rattle.end_examples.proofs.Blocked.{slice_attempt}
use Rattle.end_examples.proofs.Sites.{IsOneOfTwo, is_first, is_second, one_of_two}

abbrev job : Job
job = job_of slice_design

abbrev state : State
state = starts_with slice_rest to_slice

-- the one connection of the design, and none after the move
read_listed : connections (read_of job) ≡ to_slice ∷ []
read_listed = refl

moved_listed : connections (circuit_of (configured moved)) ≡ []
moved_listed = refl

read_in : (x : Connection) → IsConnection (read_of job) x → In (to_slice ∷ []) x
read_in x h = connects_listed (read_of job) x h

moved_in : (x : Connection) → IsConnection (circuit_of (configured moved)) x → ⊥
moved_in x h = connects_listed (circuit_of (configured moved)) x h

none_ripped : (x : Connection) → BecomesRipped job state (codes "a") x → ⊥
none_ripped x b = b.new (read_in x b.connects)

is_moved : IsMoved job state step old_site new_site
is_moved = record {
  sites = record { from = refl; to = refl };
  rest = slice_rest.config;
  without = record { texts = next_text (record { arcs = no_lines; others = refl }) no_texts; others = refl };
  graph = refl;
  text = refl;
  side = refl;
  cells = refl;
  ripped_in_order = tt;
  ripped = λ x. ((λ i. absurd i), (λ b. none_ripped x b));
}

second_is_empty : (p : Placed) → In slice_rest.side.slices p → p.tile ≡ second_tile.name → ⊥
second_is_empty p i h = elim i [ inl e ↦ names_differ first_tile.name second_tile.name refl (ap (λ q. q.tile) e ∙ h) | inr n ↦ absurd n ]

candidate : IsCandidate job state step
candidate = record {
  old = old_site;
  new = new_site;
  moved = is_moved;
  shape = refl;
  empty = λ p i h k. second_is_empty p i h;
  clear = clear (configured slice_rest).image (site_bits graph new_site second_kind.settings) refl;
  clean = told_moved.clean;
  agree = (agreeing device graph (has_graph device) (configured moved).image moved.config).0 refl;
  alike = refl;
  modelled = modelled (circuit_of (configured moved)) refl;
  connected = λ x h n. absurd (n (read_in x h));
  none_new = λ x h. absurd (moved_in x h);
  safe = moved_safe;
}

not_held : WasHeld state step.move → ⊥
not_held h = elim h.1.0 [
  | inl e ↦ second_is_empty h.1.1.0 (subst (λ side. In side.slices h.1.1.0) (sym e) h.1.1.1.0) h.1.1.1.1.1.0
  | inr n ↦ absurd n
]

-- no other candidate comes before, since it stands there too
none_before : (other : Step) (c : IsCandidate job state other) → site_cmp old_site new_site c.new ≢ Greater
none_before other c = go (one_of_two other.move.tile other.move.kind c.new c.moved.sites.to)
  where
    go : IsOneOfTwo other.move.tile other.move.kind c.new → site_cmp old_site new_site c.new ≢ Greater
    go (is_first k t tile kind) = absurd (c.empty (placed (codes "a") first_tile.name) (inl refl) tile kind)
    go (is_second k t tile kind) = subst (λ s. site_cmp old_site new_site s ≢ Greater) (λ i. record { number = c.new.number; tile = t i; kind = k i }) (λ e. let no : ⊥ = cc in no)

the_old : candidate.old ≡ old_site
unfolding candidate
the_old = refl

first : IsFirst job state (codes "a") step
unfolding candidate
first = record { candidate = candidate; of_slice = refl; new = not_held; first = λ other c s n. none_before other c }

-- the second attempt
abbrev later : State
later = after_step state step pad_cut

abbrev turn : Turn
turn = turn_over (read_of job) moved net

one_path : first_paths later.rims turn 1 2 ≡ way ∷ []
one_path = refl

light : weight_by later.rims turn way ≡ 1
light = refl

way_there : IsTheRoute later.rims turn way 2
way_there = (route_law device turn told_moved later.rims 1 2 way (let weighs : weight_by later.rims turn way ≡ 1 = light in omega arith)).0 (subst (λ ps. In ps way) (sym one_path) (inl refl))

second : Attempt job later (Complete routed)
second = (net, (refl, inl (way, (way_there, (Complete routed, (refl, refl))))))

pub slice_moves : IsAnswer job (Ended (AttemptBlocked 4 0 ∷ Moved step.move ∷ AttemptComplete ∷ []) (Routed routed 1))
slice_moves = ended state slice_starts slice_safe (moves to_slice [] pad_cut step slice_attempt (omega arith) (λ e. let no : ⊥ = cc in no) first (completes routed second))
