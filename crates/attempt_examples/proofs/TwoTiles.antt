-- On the small device the move of the slice to the second tile is a candidate, and the first.
use Rattle.std.proofs.Common.{◌≡◌, ◌≢◌, ℕ, true, false, ◌⊎◌, inl, inr, List, [], ◌∷◌, refl, sym, ap, subst, ◌∙◌, ◌↔◌, eq-eqb, codes}
use Rattle.std.specs.Prelude.{◌==◌}
use Rattle.std.proofs.lemmas.Bool.{false≢true}
use Rattle.std.specs.List.{list_all}
use Rattle.std.specs.declared.cmp.Ordering.TheVariants.{Less, Greater}
use Rattle.words.specs.Members.{In}
use Rattle.records.specs.Side.{D0, Placed}
use Rattle.links.specs.Links.{IsClean, Feeds}
use Rattle.links.proofs.Below.{in_has}
use Rattle.links.specs.Below.{has}
use Rattle.fabric.specs.Graph.{GraphArc}
use Rattle.fabric.specs.InOrder.{IsRising}
use Rattle.fabric_laws.proofs.Graphs.{has_graph, some_same}
use Rattle.fabric_laws.proofs.Agreeing.{agreeing}
use Rattle.fabric_laws.proofs.Members.{all_from}
use Rattle.fabric_laws.proofs.Numbered.{get_in}
use Rattle.fabric_examples.proofs.Tests.{clean_once, feed}
use Rattle.circuit.specs.Cells.{InputWire, InputZero, InputOne}
use Rattle.circuit.specs.Parts.{OfTable, OfRegister, OfClock, PartRef, Source, sources}
use Rattle.circuit.specs.Pins.{Pin, pins}
use Rattle.circuit.specs.Circuits.{Connection, IsConnection}
use Rattle.upset.specs.Configured.{circuit_of}
use Rattle.upset.specs.Safe.{IsSafe}
use Rattle.upset_laws.specs.PlainUpset.{OutputsListed}
use Rattle.upset_laws.proofs.PlainDomains.{safe_law}
use Rattle.cells.specs.Resolved.{site_bits}
use Rattle.cells.specs.Standing.{SliceStandsAt}
use Rattle.cells_laws.proofs.Sites.{site_stands}
use Rattle.repair.specs.Layouts.{Layout, configured}
use Rattle.repair.specs.Lines.{WithoutArcLines, no_lines, keeps, drops, no_texts, next_text}
use Rattle.repair.specs.Turns.{routing}
use Rattle.attempts.specs.Jobs.{read_of, IsRippedBy, IsRippedPart}
use Rattle.attempts.specs.Candidates.{IsNewWire, IsClockLine, IsRemoved, IsClockRipped, BecomesRipped, Step, IsMoved, IsCandidate, WasHeld, site_cmp, IsFirst}
use Rattle.attempts.specs.Wires.{connection_cmp}
use Rattle.attempt_laws.proofs.SafeDesign.{no_part_ripped}
use Rattle.attempt_examples.specs.TwoTiles.{bit, the_kind, first_tile, second_tile, clock_tile, two_tiles, graph, line, design_text, rest_text, moved_text, slice_text, word, design, moved, job, state, old_site, new_site, table, register, clock, to_data, to_table, to_clock, step}
use Rattle.attempt_examples.proofs.Tests.{connections, listed_connects, connects_listed, feed_is, plain, modelled, clear, names_differ}

-- The device's wires are, by number: A, CK, F and Q of the first tile, those of the second, KI, and the clock G_CK.

abbrev pub slice : List ℕ
slice = codes "a"

abbrev pub table_source : Source
table_source = record { part = table; domain = D0; kind = OfTable (record { word = 1; pins = 0 ∷ []; out = 2 }); out = 2 }

abbrev pub register_source : Source
register_source = record {
  part = register;
  domain = D0;
  kind = OfRegister (record { input = InputWire 2; enable = InputOne; reset = InputZero; set = false; clock = InputWire 1; out = 3 });
  out = 3;
}

abbrev pub clock_source : Source
clock_source = record { part = clock; domain = D0; kind = OfClock; out = 8 }

abbrev clock_pin : Pin
clock_pin = record { ref = to_clock.pin; wire = 1 }

the_sources : sources design.cells ≡ table_source ∷ register_source ∷ clock_source ∷ []
the_sources = refl

-- both layouts are clean and safe
pub outputs_listed : (y : Layout) → list_all (λ s. has y.graph.outputs s.out) (sources y.cells) ≡ true → OutputsListed (configured y)
outputs_listed y h s i = in_has y.graph.outputs s.out (all_from (λ x. has y.graph.outputs x.out) (sources y.cells) h s i)

pub design_clean : IsClean (routing (configured design))
design_clean = clean_once (routing (configured design)) refl

moved_clean : IsClean (routing (configured moved))
moved_clean = clean_once (routing (configured moved)) refl

design_safe : IsSafe (configured design)
design_safe = (safe_law two_tiles (configured design) (has_graph two_tiles) design_clean (outputs_listed design refl)).0 refl

moved_safe : IsSafe (configured moved)
moved_safe = (safe_law two_tiles (configured moved) (has_graph two_tiles) moved_clean (outputs_listed moved refl)).0 refl

-- the design has the three connections, and the moved layout only that from the table to the register
read_listed : connections (read_of job) ≡ to_data ∷ to_table ∷ to_clock ∷ []
read_listed = refl

moved_listed : connections (circuit_of (configured moved)) ≡ to_data ∷ []
moved_listed = refl

pub read_has : (x : Connection) → In step.ripped x → IsConnection (read_of job) x
read_has x i = listed_connects (read_of job) x i

pub read_in : (x : Connection) → IsConnection (read_of job) x → In step.ripped x
read_in x h = connects_listed (read_of job) x h

moved_in : (x : Connection) → IsConnection (circuit_of (configured moved)) x → In (to_data ∷ []) x
moved_in x h = connects_listed (circuit_of (configured moved)) x h

-- The nets of the slice become ripped, and that of the clock doesn't.
none_ripped : (part : PartRef) → IsRippedPart job [] part → ⊥
none_ripped = no_part_ripped job refl design_safe

table_ripped : IsRippedBy job slice table
table_ripped = record { source = table_source; listed = inl refl; is = refl; touched = inl refl; no_clock = λ e. let no : ⊥ = cc in no }

register_ripped : IsRippedBy job slice register
register_ripped = record { source = register_source; listed = inr (inl refl); is = refl; touched = inl refl; no_clock = λ e. let no : ⊥ = cc in no }

-- the slice and the pad have different names
pub no_clock_part : slice ≡ clock.cell → ⊥
no_clock_part e = names_differ slice clock.cell refl e

clock_stays : IsRippedBy job slice clock → ⊥
clock_stays r = elim r.listed [
  | inl e ↦ no_clock_part (ap (λ s. s.part.cell) e ∙ ap (λ p. p.cell) r.is)
  | inr i ↦ elim i [
    | inl e ↦ no_clock_part (ap (λ s. s.part.cell) e ∙ ap (λ p. p.cell) r.is)
    | inr j ↦ elim j [ inl e ↦ r.no_clock (sym (ap (λ s. s.kind) e)) | inr n ↦ absurd n ]
  ]
]

-- the two lines of the slice's tile are removed: one of the register's net, and the clock line
abbrev pub table_arc : GraphArc
table_arc = record { mux = 0; place = 0; source = 3; sink = 0; origin = record { frame = 0; bit = 0 }; arc = record { source = codes "Q"; bits = bit 0 ∷ [] } }

table_line : IsRemoved job state slice first_tile.name (line (codes "A") (codes "Q"))
table_line = inl (record {
  arc = table_arc;
  named = refl;
  plain = plain graph design_text 0 refl;
  net = 3;
  ripped = (register_source, ((inr (inl refl), (register_ripped, none_ripped register)), refl));
  feeds = feed (routing (configured design)) 3 0 refl;
})

abbrev pub clock_arc : GraphArc
clock_arc = record { mux = 1; place = 0; source = 9; sink = 1; origin = record { frame = 0; bit = 0 }; arc = record { source = codes "G_CK"; bits = bit 1 ∷ [] } }

clock_line : IsClockLine state slice first_tile.name (line (codes "CK") (codes "G_CK"))
clock_line = record {
  arc = clock_arc;
  named = refl;
  plain = plain graph design_text 1 refl;
  pin = clock_pin;
  listed = inr (inr (inl refl));
  of_slice = refl;
  at_pin = refl;
  net = clock_source;
  is_net = inr (inr (inl refl));
  is_clock = refl;
  feeds = feed (routing (configured design)) 8 1 refl;
}

-- the line from the clock pad stays: the nets of the slice don't feed its sink, which isn't a pin
abbrev pub pad_arc : GraphArc
pad_arc = record { mux = 4; place = 0; source = 8; sink = 9; origin = record { frame = 0; bit = 4 }; arc = record { source = codes "KI"; bits = bit 0 ∷ [] } }

unfed : (net : ℕ) → has (2 ∷ 3 ∷ []) net ≡ true → Feeds (routing (configured design)) net 9 → ⊥
unfed net h f = elim (in_has (2 ∷ 3 ∷ []) net h) [
  | inl e ↦ false≢true (feed_is (routing (configured design)) 2 9 (subst (λ n. Feeds (routing (configured design)) n 9) (sym e) f))
  | inr i ↦ elim i [
    | inl e ↦ false≢true (feed_is (routing (configured design)) 3 9 (subst (λ n. Feeds (routing (configured design)) n 9) (sym e) f))
    | inr n ↦ absurd n
  ]
]

-- the nets that become ripped are those of the slice
new_wire : (net : ℕ) → IsNewWire job state slice net → has (2 ∷ 3 ∷ []) net ≡ true
new_wire net h = elim h.1.0.0 [
  | inl e ↦ subst (λ n. has (2 ∷ 3 ∷ []) n ≡ true) (ap (λ s. s.out) e ∙ h.1.1) refl
  | inr i ↦ elim i [
    | inl e ↦ subst (λ n. has (2 ∷ 3 ∷ []) n ≡ true) (ap (λ s. s.out) e ∙ h.1.1) refl
    | inr j ↦ elim j [ inl e ↦ absurd (clock_stays (subst (IsRippedBy job slice) (sym (ap (λ s. s.part) e)) h.1.0.1.0)) | inr n ↦ absurd n ]
  ]
]

no_pin : (pin : Pin) → In (pins design.cells) pin → pin.wire ≡ 9 → ⊥
no_pin pin i w = elim i [
  | inl e ↦ not_nine 0 (ap (λ p. p.wire) e ∙ w) refl
  | inr j ↦ elim j [ inl e ↦ not_nine 2 (ap (λ p. p.wire) e ∙ w) refl | inr k ↦ elim k [ inl e ↦ not_nine 1 (ap (λ p. p.wire) e ∙ w) refl | inr n ↦ absurd n ] ]
]
  where
    not_nine : (n : ℕ) → n ≡ 9 → (n == 9) ≡ false → ⊥
    not_nine n e f = false≢true (sym f ∙ eq-eqb n 9 e)

pad_line : IsRemoved job state slice clock_tile.name (line (codes "G_CK") (codes "KI")) → ⊥
pad_line h = elim h [
  | inl r ↦ (let same : pad_arc ≡ r.arc = some_same r.named in unfed r.net (new_wire r.net r.ripped) (subst (λ a. Feeds (routing (configured design)) r.net a.sink) (sym same) r.feeds))
  | inr k ↦ (let same : pad_arc ≡ k.arc = some_same k.named in no_pin k.pin k.listed (k.at_pin ∙ sym (ap (λ a. a.sink) same)))
]

removed : WithoutArcLines (IsRemoved job state slice) design_text rest_text
removed = record {
  texts = next_text (record { arcs = drops table_line (drops (inr clock_line) no_lines); others = refl }) (next_text (record { arcs = keeps pad_line no_lines; others = refl }) no_texts);
  others = refl;
}

-- the three connections become ripped, and no other
abbrev Lost : Connection → Type 0
Lost x = (IsRippedBy job slice x.source × (IsRippedPart job state.moved x.source → ⊥)) ⊎ IsClockRipped state slice x

lost : (x : Connection) → In step.ripped x → Lost x
unfolding clock_line
lost x i = elim i [
  | inl e ↦ subst Lost e (inl (table_ripped, none_ripped table))
  | inr j ↦ elim j [
    | inl e ↦ subst Lost e (inl (register_ripped, none_ripped register))
    | inr k ↦ elim k [
      | inl e ↦ subst Lost e (inr (record {
        text = slice_text (codes "R0C0:L") (line (codes "A") (codes "Q") ∷ line (codes "CK") (codes "G_CK") ∷ []) (word ∷ []);
        line = line (codes "CK") (codes "G_CK");
        section = inl refl;
        listed = inr (inl refl);
        clock = clock_line;
        from = refl;
        to = refl;
      }))
      | inr n ↦ absurd n
    ]
  ]
]

ripped : (x : Connection) → In step.ripped x ↔ BecomesRipped job state slice x
ripped x = ((λ i. record { connects = read_has x i; new = λ n. absurd n; lost = lost x i }), (λ b. read_in x b.connects))

in_order : IsRising (connection_cmp moved.cells) step.ripped
in_order = (
  (λ y i. elim i [ inl e ↦ subst (λ z. connection_cmp moved.cells to_data z ≡ Less) e refl | inr j ↦ elim j [ inl e ↦ subst (λ z. connection_cmp moved.cells to_data z ≡ Less) e refl | inr n ↦ absurd n ] ]),
  ((λ y i. elim i [ inl e ↦ subst (λ z. connection_cmp moved.cells to_table z ≡ Less) e refl | inr n ↦ absurd n ]), ((λ y i. absurd i), tt)),
)

is_moved : IsMoved job state step old_site new_site
is_moved = record {
  sites = record { from = refl; to = refl };
  rest = rest_text;
  without = removed;
  graph = refl;
  text = refl;
  side = refl;
  cells = refl;
  ripped_in_order = in_order;
  ripped = ripped;
}

-- no named slice stands in the second tile
second_is_empty : (p : Placed) → In design.side.slices p → p.tile ≡ second_tile.name → ⊥
second_is_empty p i h = elim i [ inl e ↦ names_differ first_tile.name second_tile.name refl (ap (λ q. q.tile) e ∙ h) | inr n ↦ absurd n ]

pub candidate : IsCandidate job state step
candidate = record {
  old = old_site;
  new = new_site;
  moved = is_moved;
  shape = refl;
  empty = λ p i h k. second_is_empty p i h;
  clear = clear (configured design).image (site_bits graph new_site the_kind.settings) refl;
  clean = moved_clean;
  agree = (agreeing two_tiles graph (has_graph two_tiles) (configured moved).image moved_text).0 refl;
  alike = refl;
  modelled = modelled (circuit_of (configured moved)) refl;
  connected = λ x h n. absurd (n (read_in x h));
  none_new = λ x h. elim (moved_in x h) [ inl e ↦ read_has x (inl e) | inr n ↦ absurd n ];
  safe = moved_safe;
}

-- the slice wasn't in the second tile
not_held : WasHeld state step.move → ⊥
not_held h = elim h.1.0 [
  | inl e ↦ second_is_empty h.1.1.0 (subst (λ side. In side.slices h.1.1.0) (sym e) h.1.1.1.0) h.1.1.1.1.1.0
  | inr n ↦ absurd n
]

-- a candidate stands in the second tile, and so doesn't come before this one
module _ (other : Step) (c : IsCandidate job state other) where
  stands : SliceStandsAt graph two_tiles.profile (record { name = []; tile = other.move.tile; kind = other.move.kind; domain = D0 }) c.new
  stands = site_stands graph two_tiles.profile.slices (λ k. k.tile) (λ k. k.name) (record { name = []; tile = other.move.tile; kind = other.move.kind; domain = D0 }) c.new c.moved.sites.to

  the_only_kind : the_kind ≡ c.new.kind
  the_only_kind = elim stands.listed [ inl e ↦ e | inr n ↦ absurd n ]

  not_first : first_tile ≡ c.new.tile → ⊥
  not_first e = c.empty (record { name = slice; tile = first_tile.name; kind = the_kind.name; domain = D0 }) (inl refl) (ap (λ t. t.name) e ∙ stands.tile_name) (ap (λ k. k.name) the_only_kind ∙ stands.kind_name)

  not_pad : clock_tile ≡ c.new.tile → ⊥
  not_pad e = names_differ the_kind.tile clock_tile.kind refl (ap (λ k. k.tile) the_only_kind ∙ stands.of_type ∙ sym (ap (λ t. t.kind) e))

  the_only_tile : second_tile ≡ c.new.tile
  the_only_tile = elim (get_in graph.grid.tiles c.new.number c.new.tile stands.in_grid) [
    | inl e ↦ absurd (not_first e)
    | inr i ↦ elim i [ inl e ↦ e | inr j ↦ elim j [ inl e ↦ absurd (not_pad e) | inr n ↦ absurd n ] ]
  ]

  pub none_before : site_cmp old_site new_site c.new ≢ Greater
  none_before = subst (λ s. site_cmp old_site new_site s ≢ Greater) (λ i. record { number = c.new.number; tile = the_only_tile i; kind = the_only_kind i }) (λ e. let no : ⊥ = cc in no)

pub first : IsFirst job state slice step
unfolding candidate
first = record { candidate = candidate; of_slice = refl; new = not_held; first = λ other c s n. none_before other c }
