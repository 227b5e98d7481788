-- On the small device the slice's two nets are ripped. The register's arc is the one way to the table, so one attempt
-- gives the design back.
use Rattle.std.proofs.Common.{◌≡◌, ◌≢◌, ℕ, ◌≤◌, true, false, inl, inr, List, [], ◌∷◌, Some, refl, sym, ap, subst, ◌∙◌, eq-eqb, codes, arith}
use Rattle.std.specs.Prelude.{slice_get, ◌==◌}
use Rattle.std.specs.declared.cmp.Ordering.TheVariants.{Less, Greater}
use Rattle.std.specs.Cmp.Lexicographic.{slice_cmp}
use Rattle.std.proofs.lemmas.Bool.{false≢true}
use Rattle.words.specs.Members.{In}
use Rattle.patterns.specs.Bits.{DeviceBit}
use Rattle.records.specs.Config.{ArcLine}
use Rattle.records.specs.Side.{Domain, D0}
use Rattle.records.specs.Ripping.{RipAll}
use Rattle.links.specs.Links.{here, Below, Feeds}
use Rattle.links.proofs.Below.{below_complete, has_in}
use Rattle.fabric.specs.Graph.{GraphMux, GraphArc}
use Rattle.fabric.specs.GraphOf.{arc_cmp}
use Rattle.fabric_laws.proofs.Graphs.{has_graph, some_same}
use Rattle.fabric_laws.proofs.Numbered.{entry_to}
use Rattle.fabric_examples.proofs.Tests.{is_feed, clean_once, feed}
use Rattle.circuit.specs.Pins.{Pin, pins}
use Rattle.circuit.specs.Circuits.{Connection, IsConnection}
use Rattle.circuit.specs.Domains.{HasDomain}
use Rattle.upset.specs.Configured.{circuit_of}
use Rattle.upset.specs.Safe.{IsSafe, FlipsHave, only}
use Rattle.upset_laws.proofs.PlainDomains.{safe_law}
use Rattle.paths.specs.Paths.{IsPath, weight_of}
use Rattle.repair.specs.Plain.{bits_of_mux}
use Rattle.repair.specs.Turns.{Turn, routing}
use Rattle.repair.specs.Usable.{IsUsable}
use Rattle.repair.specs.Routes.{wire_weight, roads_for, InTree, IsTheRoute}
use Rattle.repair.specs.Lines.{no_lines, keeps, drops, no_texts, next_text}
use Rattle.repair.specs.Layouts.{configured, turn_over}
use Rattle.repair.specs.Nets.{IsRipped}
use Rattle.repair.specs.Ripping.{IsRippedLine, IsRest}
use Rattle.attempts.specs.Wires.{connection_cmp}
use Rattle.attempts.specs.Turns.{Complete, ComesOut}
use Rattle.attempts.specs.Jobs.{read_of, IsRippedFirst, IsRippedPart}
use Rattle.attempts.specs.Starts.{IsRippedAtStart, IsFirstState}
use Rattle.attempts.specs.Attempts.{AttemptComplete, Routed, completes, Ended, IsAnswer, ended}
use Rattle.attempt_examples.specs.TwoTiles.{two_tiles, graph, line, design_text, ripped_text, first_tile, clock_tile, design, ripped_job, ripped_layout, ripped_state, clock, to_data, to_table}
use Rattle.attempt_examples.proofs.Tests.{feed_is, plain, clear}
use Rattle.attempt_examples.proofs.TwoTiles.{table_source, register_source, outputs_listed, read_has, read_in, no_clock_part, table_arc, clock_arc, pad_arc}

-- The nets of the slice are ripped: table and register have them.
abbrev IsRippedNet : ℕ → Type 0
IsRippedNet net = IsRipped RipAll two_tiles (configured design) net

no_clock_net : (n : ℕ) → (8 == n) ≡ false → In (8 ∷ []) n → ⊥
no_clock_net n h i = elim i [ inl e ↦ false≢true (sym h ∙ eq-eqb 8 n e) | inr none ↦ absurd none ]

table_net : IsRippedNet 2
table_net = record { is_net = inl refl; no_clock = no_clock_net 2 refl; chosen = tt }

register_net : IsRippedNet 3
register_net = record { is_net = inr (inl refl); no_clock = no_clock_net 3 refl; chosen = tt }

-- a wire that only the clock feeds is fed by no ripped net
fed_by_clock : (w : ℕ) → is_feed (routing (configured design)) 2 w ≡ false → is_feed (routing (configured design)) 3 w ≡ false → (net : ℕ) → IsRippedNet net → Feeds (routing (configured design)) net w → ⊥
fed_by_clock w g h net r f = elim r.is_net [
  | inl e ↦ false≢true (sym g ∙ feed_is (routing (configured design)) 2 w (subst (λ n. Feeds (routing (configured design)) n w) (sym e) f))
  | inr i ↦ elim i [
    | inl e ↦ false≢true (sym h ∙ feed_is (routing (configured design)) 3 w (subst (λ n. Feeds (routing (configured design)) n w) (sym e) f))
    | inr j ↦ elim j [ inl e ↦ r.no_clock (inl e) | inr n ↦ absurd n ]
  ]
]

abbrev Dropped : List ℕ → ArcLine → Type 0
Dropped = IsRippedLine IsRippedNet design_text (configured design)

table_line : Dropped first_tile.name (line (codes "A") (codes "Q"))
table_line = record { arc = table_arc; named = refl; plain = plain graph design_text 0 refl; net = 3; ripped = register_net; feeds = feed (routing (configured design)) 3 0 refl }

clock_line : Dropped first_tile.name (line (codes "CK") (codes "G_CK")) → ⊥
clock_line r = let same : clock_arc ≡ r.arc = some_same r.named in fed_by_clock 1 refl refl r.net r.ripped (subst (λ a. Feeds (routing (configured design)) r.net a.sink) (sym same) r.feeds)

pad_line : Dropped clock_tile.name (line (codes "G_CK") (codes "KI")) → ⊥
pad_line r = let same : pad_arc ≡ r.arc = some_same r.named in fed_by_clock 9 refl refl r.net r.ripped (subst (λ a. Feeds (routing (configured design)) r.net a.sink) (sym same) r.feeds)

rest : IsRest IsRippedNet design_text (configured design) ripped_text
rest = record {
  texts = next_text (record { arcs = drops table_line (keeps clock_line no_lines); others = refl }) (next_text (record { arcs = keeps pad_line no_lines; others = refl }) no_texts);
  others = refl;
}

table_ripped : IsRippedFirst ripped_job table_source.part
table_ripped = record { source = table_source; listed = inl refl; is = refl; ripped = table_net }

register_ripped : IsRippedFirst ripped_job register_source.part
register_ripped = record { source = register_source; listed = inr (inl refl); is = refl; ripped = register_net }

clock_stays : IsRippedFirst ripped_job clock → ⊥
clock_stays r = elim r.listed [
  | inl e ↦ no_clock_part (ap (λ s. s.part.cell) e ∙ ap (λ p. p.cell) r.is)
  | inr i ↦ elim i [
    | inl e ↦ no_clock_part (ap (λ s. s.part.cell) e ∙ ap (λ p. p.cell) r.is)
    | inr j ↦ elim j [ inl e ↦ r.ripped.no_clock (inl (ap (λ s. s.out) e)) | inr n ↦ absurd n ]
  ]
]

-- the ripped connections are the two from the slice's parts
is_ripped : (x : Connection) → In ripped_state.order x → IsRippedAtStart ripped_job x
is_ripped x i = elim i [
  | inl e ↦ (read_has x (inl e), subst (λ y. IsRippedPart ripped_job [] y.source) e (inl table_ripped))
  | inr j ↦ elim j [ inl e ↦ (read_has x (inr (inl e)), subst (λ y. IsRippedPart ripped_job [] y.source) e (inl register_ripped)) | inr n ↦ absurd n ]
]

in_order : (x : Connection) → IsRippedAtStart ripped_job x → In ripped_state.order x
in_order x r = elim (read_in x r.0) [
  | inl e ↦ inl e
  | inr i ↦ elim i [
    | inl e ↦ inr (inl e)
    | inr j ↦ elim j [
      | inl e ↦ elim r.1 [ inl f ↦ absurd (clock_stays (subst (λ y. IsRippedFirst ripped_job y.source) (sym e) f)) | inr later ↦ absurd later.1.0 ]
      | inr n ↦ absurd n
    ]
  ]
]

starts : IsFirstState ripped_job ripped_state
starts = record {
  graph = refl;
  text = rest;
  cells = refl;
  side = refl;
  order = record {
    rising = ((λ y i. elim i [ inl e ↦ subst (λ z. connection_cmp design.cells to_data z ≡ Less) e refl | inr n ↦ absurd n ]), ((λ y i. absurd i), tt));
    members = λ x. (is_ripped x, in_order x);
  };
  no_rims = refl;
  none_moved = refl;
  sides = refl;
}

ripped_safe : IsSafe (configured ripped_layout)
ripped_safe = (safe_law two_tiles (configured ripped_layout) (has_graph two_tiles) (clean_once (routing (configured ripped_layout)) refl) (outputs_listed ripped_layout refl)).0 refl

-- The turn of the register. Its arc is usable, rule by rule.
abbrev turn : Turn
turn = turn_over (read_of ripped_job) ripped_layout register_source

below_itself : (w : ℕ) → Below (routing turn.now) 0 w → 0 ≡ w
below_itself w b = elim (below_complete (routing turn.now).links b) [ inl e ↦ e | inr n ↦ absurd n ]

never_fed : (c : ℕ) → Feeds (routing turn.now) c 0 → ⊥
never_fed c f = elim f.output [
  | inl e ↦ from 2 refl e
  | inr i ↦ elim i [
    | inl e ↦ from 3 refl e
    | inr j ↦ elim j [ inl e ↦ from 6 refl e | inr k ↦ elim k [ inl e ↦ from 7 refl e | inr l ↦ elim l [ inl e ↦ from 8 refl e | inr n ↦ absurd n ] ] ]
  ]
]
  where
    from : (o : ℕ) → is_feed (routing turn.now) o 0 ≡ false → o ≡ c → ⊥
    from o h e = false≢true (sym h ∙ feed_is (routing turn.now) o 0 (subst (λ n. Feeds (routing turn.now) n 0) (sym e) f))

one_mux : (number : ℕ) (mux : GraphMux) → slice_get graph.muxes number ≡ Some mux → mux.sink ≡ 0 → number ≡ 0
one_mux number mux at s = elim (entry_to graph.muxes number mux at) [
  | inl e ↦ sym (ap (λ p. p.0) e)
  | inr i ↦ elim i [
    | inl e ↦ absurd (other 1 refl (ap (λ p. p.1.sink) e ∙ s))
    | inr j ↦ elim j [
      | inl e ↦ absurd (other 4 refl (ap (λ p. p.1.sink) e ∙ s))
      | inr k ↦ elim k [ inl e ↦ absurd (other 5 refl (ap (λ p. p.1.sink) e ∙ s)) | inr l ↦ elim l [ inl e ↦ absurd (other 9 refl (ap (λ p. p.1.sink) e ∙ s)) | inr n ↦ absurd n ] ]
    ]
  ]
]
  where
    other : (n : ℕ) → (n == 0) ≡ false → n ≡ 0 → ⊥
    other n h e = false≢true (sym h ∙ eq-eqb n 0 e)

-- an arc of the graph from the register's wire, or of its mux, is that arc
arc_is : (a : GraphArc) → In graph.arcs a → (a.source == 3) ≡ true → table_arc ≡ a
arc_is a i h = elim i [
  | inl e ↦ e
  | inr j ↦ elim j [
    | inl e ↦ absurd (other (sym e) refl)
    | inr k ↦ elim k [ inl e ↦ absurd (other (sym e) refl) | inr l ↦ elim l [ inl e ↦ absurd (other (sym e) refl) | inr m ↦ elim m [ inl e ↦ absurd (other (sym e) refl) | inr n ↦ absurd n ] ] ]
  ]
]
  where
    other : {b : GraphArc} → a ≡ b → (b.source == 3) ≡ false → ⊥
    other e f = false≢true (sym f ∙ subst (λ x. (x.source == 3) ≡ true) e h)

arc_of_mux : (a : GraphArc) → In graph.arcs a → a.mux ≡ 0 → a ≡ table_arc
arc_of_mux a i h = elim i [
  | inl e ↦ sym e
  | inr j ↦ elim j [
    | inl e ↦ absurd (other (sym e) refl)
    | inr k ↦ elim k [ inl e ↦ absurd (other (sym e) refl) | inr l ↦ elim l [ inl e ↦ absurd (other (sym e) refl) | inr m ↦ elim m [ inl e ↦ absurd (other (sym e) refl) | inr n ↦ absurd n ] ] ]
  ]
]
  where
    other : {b : GraphArc} → a ≡ b → (b.mux == 0) ≡ false → ⊥
    other {b} e f = false≢true (sym f ∙ eq-eqb b.mux 0 (ap (λ x. x.mux) (sym e) ∙ h))

-- all cells are of the first copy
domain_is : (w : ℕ) (d : Domain) → HasDomain (circuit_of turn.now) w d → d ≡ D0
domain_is w d h = elim h.listed [
  | inl e ↦ sym h.domain ∙ ap (λ s. s.domain) (sym e)
  | inr i ↦ elim i [ inl e ↦ sym h.domain ∙ ap (λ s. s.domain) (sym e) | inr j ↦ elim j [ inl e ↦ sym h.domain ∙ ap (λ s. s.domain) (sym e) | inr n ↦ absurd n ] ]
]

flips_are : (b : DeviceBit) (d : Domain) → FlipsHave turn.now (only b) d → d ≡ D0
flips_are b d h = elim h [
  | inl w ↦ domain_is w.0 d w.1.1
  | inr name ↦ elim name.1.1 [ inl e ↦ sym (ap (λ m. m.domain) e) | inr i ↦ elim i [ inl e ↦ sym (ap (λ m. m.domain) e) | inr n ↦ absurd n ] ]
]

-- the one pin at the arc's sink is the table's
own_pin : (p : Pin) → In (pins design.cells) p → 0 ≡ p.wire → to_table.pin ≡ p.ref
own_pin p i w = elim i [
  | inl e ↦ ap (λ q. q.ref) e
  | inr j ↦ elim j [ inl e ↦ absurd (other 2 refl (w ∙ sym (ap (λ q. q.wire) e))) | inr k ↦ elim k [ inl e ↦ absurd (other 1 refl (w ∙ sym (ap (λ q. q.wire) e))) | inr n ↦ absurd n ] ]
]
  where
    other : (n : ℕ) → (0 == n) ≡ false → 0 ≡ n → ⊥
    other n h e = false≢true (sym h ∙ eq-eqb 0 n e)

usable : IsUsable turn table_arc
usable = record {
  routable = record {
    listed = inl refl;
    free_sink = record {
      wire = _;
      named = refl;
      on_grid = refl;
      one_mux = one_mux;
      plain = plain graph ripped_text 0 refl;
      none_fixed = λ l i. absurd i;
      clear = clear turn.now.image (bits_of_mux graph 0) refl;
    };
    one_driver = λ w b n. absurd (n (sym (below_itself w b)));
    none_fed = record {
      unfed = λ w b f. never_fed f.0 (subst (Feeds (routing turn.now) f.0) (sym (below_itself w b)) f.1);
      no_output = λ w b i. false≢true (has_in graph.outputs 0 (subst (In graph.outputs) (sym (below_itself w b)) i));
    };
    chosen = record { chosen = refl; alone = λ other i s h. arc_of_mux other i s };
  };
  own_pins = λ w b p i e. subst (λ ref. IsConnection (read_of ripped_job) (record { source = register_source.part; pin = ref })) (own_pin p i (below_itself w b ∙ sym e)) (read_has to_table (inr (inl refl)));
  flips = λ b i other j s h d k. domain_is other.source d k;
  disturbed = λ b m w q dist d k. flips_are b d k;
}

-- Its path is that arc: there is no other way out of the register's tree.
tree_is : (w : ℕ) → InTree turn w → 3 ≡ w
tree_is w f = elim (below_complete (routing turn.now).links f.reach) [ inl e ↦ e | inr n ↦ absurd n ]

no_empty_path : IsPath (roads_for turn) (InTree turn) [] 0 → ⊥
no_empty_path f = never_fed 3 f

register_path : IsTheRoute [] turn (table_arc ∷ []) 0
register_path = record {
  is_path = (feed (routing turn.now) 3 3 refl, usable, here);
  least = least;
  first = first;
}
  where
    least : (other : List GraphArc) → IsPath (roads_for turn) (InTree turn) other 0 → weight_of (roads_for turn) (wire_weight []) (table_arc ∷ []) ≤ weight_of (roads_for turn) (wire_weight []) other
    least [] p = absurd (no_empty_path p)
    least (a ∷ later) p = omega arith

    ends : (later : List GraphArc) → slice_cmp arc_cmp (table_arc ∷ []) (table_arc ∷ later) ≢ Greater
    ends [] e = let none : ⊥ = cc in none
    ends (a ∷ later) e = let none : ⊥ = cc in none

    first : (other : List GraphArc) → IsPath (roads_for turn) (InTree turn) other 0
        → weight_of (roads_for turn) (wire_weight []) other ≡ weight_of (roads_for turn) (wire_weight []) (table_arc ∷ []) → slice_cmp arc_cmp (table_arc ∷ []) other ≢ Greater
    first [] p w = absurd (no_empty_path p)
    first (a ∷ later) p w = subst (λ x. slice_cmp arc_cmp (table_arc ∷ []) (x ∷ later) ≢ Greater) (arc_is a p.1.routable.listed (eq-eqb a.source 3 (sym (tree_is a.source p.0)))) (ends later)

-- the table's pin at the register is in the table's tree
table_path : IsTheRoute [] (turn_over (read_of ripped_job) ripped_layout table_source) [] 2
table_path = record {
  is_path = feed (routing turn.now) 2 2 refl;
  least = λ other p. omega arith;
  first = λ other p w. ends other;
}
  where
    ends : (later : List GraphArc) → slice_cmp arc_cmp [] later ≢ Greater
    ends [] e = let none : ⊥ = cc in none
    ends (a ∷ later) e = let none : ⊥ = cc in none

attempt : ComesOut (read_of ripped_job) [] ripped_layout ripped_state.order (Complete design)
attempt = (table_source, (refl, inl ([], (table_path, (Complete design, ((register_source, (refl, inl (table_arc ∷ [], (register_path, (Complete design, (refl, refl)))))), refl))))))

pub answer : IsAnswer ripped_job (Ended (AttemptComplete ∷ []) (Routed design 2))
answer = ended ripped_state starts ripped_safe (completes design attempt)
