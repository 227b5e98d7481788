-- The start keeps the design: its text is the design's without the routes of ripped nets.
use Rattle.std.proofs.Common.{◌≡◌, ℕ, inl, inr, List, [], ◌∷◌, ◌++◌, refl, sym, subst, ◌∙◌}
use Rattle.words.specs.Members.{In}
use Rattle.records.specs.Config.{ArcLine, TileText, Config}
use Rattle.circuit.specs.Circuits.{Connection, IsConnection}
use Rattle.upset.specs.Configured.{Configured, circuit_of}
use Rattle.upset.specs.Safe.{IsSafe}
use Rattle.repair.specs.Layouts.{Layout, configured}
use Rattle.repair.specs.Lines.{WithoutLines, no_lines, keeps, drops, TextsWithout, no_texts, next_text}
use Rattle.repair.specs.Nets.{IsRipped}
use Rattle.repair.specs.Ripping.{IsRippedLine, IsRest}
use Rattle.repair_laws.proofs.Numbers.{numbered}
use Rattle.layout_laws.specs.RestKept.{RestKept}
use Rattle.layout_laws.proofs.Rest.{ripped_rest}
use Rattle.links.proofs.Members.{in_left, in_right, in_either}
use Rattle.formed_laws.proofs.SideRead.{read_apart}
use Rattle.formed_laws.proofs.ProfileRead.{read_fit}
use Rattle.attempts.specs.Jobs.{Job, State, read_of}
use Rattle.attempts.specs.Starts.{IsFirstState}
use Rattle.attempt_laws.proofs.Starts.{same_layout}
use Rattle.headline_laws.specs.Sound.{IsSoundJob}
use Rattle.headline_laws.specs.Kept.{KeepsDesign, StateKeeps}
use Rattle.headline_laws.proofs.SameCells.{cells_same}
use Rattle.headline_laws.proofs.Formed.{formed_over, ready_over, well_formed, ready}

-- ---- lines of ripped nets, by a list of these nets

module _ (Ripped : ℕ → Type 0) (config : Config) (k : Configured) where
  abbrev Dropped : List ℕ → ArcLine → Type 0
  Dropped = IsRippedLine Ripped config k

  abbrev DroppedBy : List ℕ → List ℕ → ArcLine → Type 0
  DroppedBy nets = IsRippedLine (In nets) config k

  abbrev AllRipped : List ℕ → Type 0
  AllRipped nets = (n : ℕ) → In nets n → Ripped n

  by_list : (nets : List ℕ) (tile : List ℕ) (line : ArcLine) (d : Dropped tile line) → In nets d.net → DroppedBy nets tile line
  by_list nets tile line d i = record { arc = d.arc; named = d.named; plain = d.plain; net = d.net; ripped = i; feeds = d.feeds }

  of_list : (nets : List ℕ) → AllRipped nets → (tile : List ℕ) (line : ArcLine) → DroppedBy nets tile line → Dropped tile line
  of_list nets all tile line d = record { arc = d.arc; named = d.named; plain = d.plain; net = d.net; ripped = all d.net d.ripped; feeds = d.feeds }

  -- the nets of the lines that are dropped
  line_nets : (tile : List ℕ) {lines rest : List ArcLine} → WithoutLines (Dropped tile) lines rest
      → (nets : List ℕ) × (AllRipped nets × ((more : List ℕ) → AllRipped more → ((n : ℕ) → In nets n → In more n) → WithoutLines (DroppedBy more tile) lines rest))
  line_nets tile no_lines = ([], ((λ n i. absurd i), (λ more all i. no_lines)))
  line_nets tile (keeps {line} n w) = (let r = line_nets tile w in (r.0, (r.1.0, (λ more all i. keeps (λ d. n (of_list more all tile line d)) (r.1.1 more all i)))))
  line_nets tile (drops {line} d w) = (let r = line_nets tile w in (
    d.net ∷ r.0,
    ((λ n i. elim i [ inl e ↦ subst Ripped e d.ripped | inr j ↦ r.1.0 n j ]), (λ more all i. drops (by_list more tile line d (i d.net (inl refl))) (r.1.1 more all (λ n j. i n (inr j))))),
  ))

  text_nets : {texts rest : List TileText} → TextsWithout Dropped texts rest
      → (nets : List ℕ) × (AllRipped nets × ((more : List ℕ) → AllRipped more → ((n : ℕ) → In nets n → In more n) → TextsWithout (DroppedBy more) texts rest))
  text_nets no_texts = ([], ((λ n i. absurd i), (λ more all i. no_texts)))
  text_nets (next_text {text} t ts) = (let a = line_nets text.tile t.arcs in let b = text_nets ts in (
    a.0 ++ b.0,
    (
      (λ n i. elim (in_either a.0 b.0 n i) [ inl j ↦ a.1.0 n j | inr j ↦ b.1.0 n j ]),
      (λ more all i. next_text (record { arcs = a.1.1 more all (λ n j. i n (in_left a.0 b.0 n j)); others = t.others }) (b.1.1 more all (λ n j. i n (in_right a.0 b.0 n j)))),
    ),
  ))

  -- a text without the routes of ripped nets is one without the routes of some that can be listed
  pub listed_rest : (rest : Config) → IsRest Ripped config k rest → (nets : List ℕ) × (AllRipped nets × IsRest (In nets) config k rest)
  listed_rest rest h = (let r = text_nets h.texts in (r.0, (r.1.0, record { texts = r.1.1 r.0 r.1.0 (λ n i. i); others = h.others })))

module _ (job : Job) (sound : IsSoundJob job) where
  abbrev design : Configured
  design = configured job.design

  abbrev with_text : Config → Layout
  with_text config = record { graph = job.design.graph; config = config; cells = job.design.cells; side = job.design.side }

  module _ (config : Config) (nets : List ℕ) (rest : IsRest (In nets) job.design.config design config) where
    kept : RestKept design nets job.design.config config
    kept = ripped_rest design nets job.design.config config (numbered job.device job.design.graph sound.read.graph) sound.clean refl sound.agree rest

    rest_keeps : IsSafe (configured (with_text config)) → KeepsDesign job (with_text config)
    rest_keeps safe = record {
      graph = refl;
      side = record { slices = refl; pads = refl; triples = refl; inputs = refl; outputs = refl; clocks = refl; voters = refl };
      apart = read_apart job.design.side sound.read.side;
      parts = refl;
      cells = cells_same job.design.graph job.device.profile (configured (with_text config)).image design.image kept.words kept.enums job.design.side ∙ sound.read.cells;
      formed = formed_over design (configured (with_text config)).image (well_formed job.device design (read_apart job.design.side sound.read.side) (read_fit job.device.profile sound.read.profile) sound.read.graph sound.read.outputs sound.read.cells);
      ready = ready_over design (configured (with_text config)).image job.device (ready job.device design (read_apart job.design.side sound.read.side) (read_fit job.device.profile sound.read.profile) sound.read.graph sound.read.outputs sound.read.cells sound.clean) kept.clean;
      safe = safe;
      agree = kept.agree;
      modelled = λ p o i f. sound.modelled p o i (kept.fewer o p.wire f);
      none_new = λ x c. record {
        source = c.source;
        pin = c.pin;
        connects = record { source = c.connects.source; pin = c.connects.pin; feeds = kept.fewer c.source.out c.pin.wire c.connects.feeds };
        from = c.from;
        to = c.to;
      };
    }

    rest_connects : (x : Connection) (c : IsConnection (read_of job) x) → (In nets c.source.out → ⊥) → IsConnection (circuit_of (configured (with_text config))) x
    rest_connects x c out = record {
      source = c.source;
      pin = c.pin;
      connects = record { source = c.connects.source; pin = c.connects.pin; feeds = kept.others c.source.out c.pin.wire out c.connects.feeds };
      from = c.from;
      to = c.to;
    }

  pub start_keeps : (state : State) → IsFirstState job state → IsSafe (configured state.layout) → StateKeeps job state
  start_keeps state s safe =
      let r = listed_rest (IsRipped job.rip job.device design) job.design.config design state.layout.config s.text in
      let same : with_text state.layout.config ≡ state.layout = same_layout (with_text state.layout.config) state.layout (sym s.graph) refl (sym s.cells) (sym s.side) in
      record {
        design = subst (KeepsDesign job) same (rest_keeps state.layout.config r.0 r.1.1 (subst (λ y. IsSafe (configured y)) (sym same) safe));
        others = λ x c n. subst (λ y. IsConnection (circuit_of (configured y)) x) same (rest_connects state.layout.config r.0 r.1.1 x c (λ i. n ((s.order.members x).1
            (c, inl (record { source = c.source; listed = c.connects.source; is = c.from; ripped = r.1.0 c.source.out i })))));
      }
