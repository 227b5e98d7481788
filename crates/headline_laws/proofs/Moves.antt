-- A candidate step keeps the design: the slice moves to a site where no cell stands.
use Rattle.std.proofs.Common.{◌≡◌, ℕ, Bool, true, false, inl, inr, List, [], ◌∷◌, ◌++◌, map, ◌⊎◌, refl, sym, ap, ap₂, subst, ◌∙◌}
use Rattle.std.specs.Prelude.{Ok, if◌then◌else◌}
use Rattle.std.specs.Str.{bytes_eq}
use Rattle.std.proofs.lemmas.List.{map-append}
use Rattle.words.specs.Members.{In}
use Rattle.records.specs.Grid.{Tile}
use Rattle.records.specs.Profile.{SliceKind, PadKind}
use Rattle.records.specs.Side.{Domain, D0, Placed, Side}
use Rattle.fabric.specs.Graph.{Graph}
use Rattle.circuit.specs.Triples.{Member}
use Rattle.circuit.specs.Designs.{placed_members, SameSide}
use Rattle.cells.specs.CellsOf.{cells_of}
use Rattle.upset.specs.Configured.{Configured}
use Rattle.repair.specs.Layouts.{configured}
use Rattle.attempts.specs.Jobs.{Job, State}
use Rattle.attempts.specs.Moves.{Move, placed_anew, moved_side}
use Rattle.attempts.specs.Candidates.{Step, IsCandidate}
use Rattle.attempts.specs.Turns.{Cut}
use Rattle.attempts.specs.Attempts.{after_step}
use Rattle.links.proofs.Members.{in_left, in_right, in_either, in_map, of_map}
use Rattle.cells_laws.proofs.Sites.{site_stands}
use Rattle.cells_laws.proofs.Faults.{cells_accepted}
use Rattle.json_forms.specs.KindRules.{slice_name, pad_name}
use Rattle.fabric.specs.GraphOf.{IsGraph}
use Rattle.std.proofs.lemmas.Slice.Eq.{bytes_eq-Decides}
use Rattle.words.specs.Twice.{HasNoneTwice, NoTwo}
use Rattle.fabric_laws.proofs.Numbered.{get_in}
use Rattle.formed_laws.specs.Designs.{NoOverlap}
use Rattle.formed_laws.specs.SideRead.{site_of, placed_cells, Lists, IsPaired, IsApart}
use Rattle.formed_laws.specs.ProfileRead.{IsFit}
use Rattle.formed_laws.proofs.ProfileRead.{read_fit}
use Rattle.formed_laws.proofs.Twice.{left_part, right_part, joined_twice, not_both}
use Rattle.headline_laws.specs.Sound.{IsSoundJob}
use Rattle.headline_laws.specs.Kept.{KeepsDesign, StateKeeps}
use Rattle.headline_laws.proofs.Formed.{well_formed, ready}

module _ (m : Move) where
  -- a slice that is placed anew keeps its name and its domain
  choose_name : (b : Bool) (p : Placed) → (if b then (let q : Placed = record { name = p.name; tile = m.tile; kind = m.kind; domain = p.domain } in q) else p).name ≡ p.name
  choose_name true p = refl
  choose_name false p = refl

  choose_domain : (b : Bool) (p : Placed) → (if b then (let q : Placed = record { name = p.name; tile = m.tile; kind = m.kind; domain = p.domain } in q) else p).domain ≡ p.domain
  choose_domain true p = refl
  choose_domain false p = refl

  keeps_name : (p : Placed) → (placed_anew m p).name ≡ p.name
  keeps_name p = choose_name (bytes_eq p.name m.slice) p

  keeps_domain : (p : Placed) → (placed_anew m p).domain ≡ p.domain
  keeps_domain p = choose_domain (bytes_eq p.name m.slice) p

  same_names : (ps : List Placed) → map (λ p. p.name) (map (placed_anew m) ps) ≡ map (λ p. p.name) ps
  same_names [] = refl
  same_names (p ∷ ps) = ap₂ (λ (n : List ℕ) (ns : List (List ℕ)). n ∷ ns) (keeps_name p) (same_names ps)

  same_members : (ps : List Placed) → placed_members (map (placed_anew m) ps) ≡ placed_members ps
  same_members [] = refl
  same_members (p ∷ ps) = ap₂ (λ (n : Member) (ns : List Member). n ∷ ns) (λ i. record { name = keeps_name p i; domain = keeps_domain p i }) (same_members ps)

  -- where a slice of a name is placed, by whether it is the one that moves
  abbrev chosen : Bool → Placed → Placed
  chosen b p = if b then record { name = p.name; tile = m.tile; kind = m.kind; domain = p.domain } else p

  abbrev new_site : List ℕ × List ℕ
  new_site = (m.tile, m.kind)

  -- a site after the move is the new one, or the one before
  site_after : (b : Bool) (p : Placed) → (site_of (chosen b p) ≡ new_site) ⊎ (site_of (chosen b p) ≡ site_of p)
  site_after true p = inl refl
  site_after false p = inr refl

  module _ (ps : List Placed) (none : (p : Placed) → In ps p → site_of p ≡ new_site → ⊥) where
    -- slices of other names and other sites have other sites after the move
    sites_differ : (b d : Bool) (p q : Placed) → bytes_eq p.name m.slice ≡ b → bytes_eq q.name m.slice ≡ d → In ps p → In ps q
        → (p.name ≡ q.name → ⊥) → (site_of p ≡ site_of q → ⊥) → site_of (chosen b p) ≡ site_of (chosen d q) → ⊥
    sites_differ true true p q f g i j names sites e = names ((bytes_eq-Decides p.name m.slice).0 f ∙ sym ((bytes_eq-Decides q.name m.slice).0 g))
    sites_differ true false p q f g i j names sites e = none q j (sym e)
    sites_differ false true p q f g i j names sites e = none p i e
    sites_differ false false p q f g i j names sites e = sites e

    sites_once : (qs : List Placed) → ((p : Placed) → In qs p → In ps p) → HasNoneTwice (map (λ (p : Placed). p.name) qs) → HasNoneTwice (map site_of qs)
        → HasNoneTwice (map site_of (map (placed_anew m) qs))
    sites_once [] in_all names sites = tt
    sites_once (q ∷ qs) in_all names sites = (
      (λ i. (let a = of_map site_of (map (placed_anew m) qs) (site_of (placed_anew m q)) i in
          let b = of_map (placed_anew m) qs a.0 a.1.0 in
          sites_differ (bytes_eq q.name m.slice) (bytes_eq b.0.name m.slice) q b.0 refl refl (in_all q (inl refl)) (in_all b.0 (inr b.1.0))
          (λ e. names.0 (subst (In (map (λ (p : Placed). p.name) qs)) (sym e) (in_map (λ (p : Placed). p.name) qs b.0 b.1.0)))
          (λ e. sites.0 (subst (In (map site_of qs)) (sym e) (in_map site_of qs b.0 b.1.0)))
          (sym a.1.1 ∙ ap site_of (sym b.1.1)))),
      sites_once qs (λ p i. in_all p (inr i)) names.1 sites.1,
    )

  listed_anew : (ps : List Placed) (name : List ℕ) (d : Domain) → Lists ps name d → Lists (map (placed_anew m) ps) name d
  listed_anew ps name d l = (placed_anew m l.0, (in_map (placed_anew m) ps l.0 l.1.0, keeps_name l.0 ∙ l.1.1, keeps_domain l.0 ∙ l.1.2))

  -- a side file stays apart where the new site is empty
  pub apart_after : (side : Side) → IsApart side → ((p : Placed) → In (placed_cells side) p → site_of p ≡ new_site → ⊥) → IsApart (moved_side m side)
  apart_after side a none = record {
    names = subst HasNoneTwice (sym (name_list (map (placed_anew m) side.slices) ∙ ap (λ ns. ns ++ map (λ (p : Placed). p.name) side.pads) (same_names side.slices) ∙ sym (name_list side.slices))) a.names;
    sites = subst HasNoneTwice (sym (map-append site_of (map (placed_anew m) side.slices) side.pads))
        (joined_twice (map site_of (map (placed_anew m) side.slices)) (map site_of side.pads)
        (sites_once side.slices (λ p i. none p (in_left side.slices side.pads p i)) side.slices (λ p i. i)
        (left_part (map (λ (p : Placed). p.name) side.slices) (map (λ (p : Placed). p.name) side.pads) (subst HasNoneTwice (name_list side.slices) a.names))
        (left_part (map site_of side.slices) (map site_of side.pads) sites))
        (right_part (map site_of side.slices) (map site_of side.pads) sites)
        pads_apart);
    slice_entries = λ t i. (let e = a.slice_entries t i in record {
      first = listed_anew side.slices t.first _ e.first;
      second = listed_anew side.slices t.second _ e.second;
      third = listed_anew side.slices t.third _ e.third;
    });
    pad_entries = a.pad_entries;
    slices_paired = λ p i. (let b = of_map (placed_anew m) side.slices p i in
        subst (IsPaired side.triples) (sym (keeps_name b.0) ∙ ap (λ (q : Placed). q.name) b.1.1) (a.slices_paired b.0 b.1.0));
    pads_paired = a.pads_paired;
    entries = a.entries;
  }
    where
      name_list : (ps : List Placed) → map (λ (p : Placed). p.name) (ps ++ side.pads) ≡ map (λ (p : Placed). p.name) ps ++ map (λ (p : Placed). p.name) side.pads
      name_list ps = map-append (λ (p : Placed). p.name) ps side.pads

      sites : HasNoneTwice (map site_of side.slices ++ map site_of side.pads)
      sites = subst HasNoneTwice (map-append site_of side.slices side.pads) a.sites

      pads_apart : (z : List ℕ × List ℕ) → In (map site_of (map (placed_anew m) side.slices)) z → In (map site_of side.pads) z → ⊥
      pads_apart z i j =
          let q = of_map site_of (map (placed_anew m) side.slices) z i in
          let p = of_map (placed_anew m) side.slices q.0 q.1.0 in
          let r = of_map site_of side.pads z j in
          elim (site_after (bytes_eq p.0.name m.slice) p.0) [
            | inl e ↦ none r.0 (in_right side.slices side.pads r.0 r.1.0) (r.1.1 ∙ sym q.1.1 ∙ ap site_of (sym p.1.1) ∙ e)
            | inr e ↦ not_both (map site_of side.slices) (map site_of side.pads) sites z
                (subst (In (map site_of side.slices)) (sym e ∙ ap site_of p.1.1 ∙ q.1.1) (in_map site_of side.slices p.0 p.1.0)) j
          ]

  -- the side file is the same but for the site
  pub same_side : (a side : Side) → SameSide a side → SameSide a (moved_side m side)
  same_side a side s = record {
    slices = s.slices ∙ sym (same_members side.slices);
    pads = s.pads;
    triples = s.triples;
    inputs = s.inputs;
    outputs = s.outputs;
    clocks = s.clocks;
    voters = s.voters;
  }

-- no two alike elements of a list are two
once_one : {X : Type 0} (Like : X → X → Type 0) (xs : List X) → NoTwo Like xs → (x y : X) → In xs x → In xs y → Like x y → Like y x → x ≡ y
once_one Like [] n x y i j e f = absurd i
once_one Like (z ∷ zs) n x y i j e f = elim i [
  | inl a ↦ elim j [ inl b ↦ sym a ∙ b | inr l ↦ absurd (n.0 y l (subst (λ w. Like w y) (sym a) e)) ]
  | inr k ↦ elim j [ inl b ↦ absurd (n.0 x k (subst (λ w. Like w x) (sym b) f)) | inr l ↦ once_one Like zs n.1 x y k l e f ]
]

module _ (job : Job) (sound : IsSoundJob job) (state : State) (keeps : StateKeeps job state) (step : Step) (c : IsCandidate job state step) where
  abbrev g : Graph
  g = state.layout.graph

  abbrev move : Move
  move = step.move

  abbrev fit : IsFit job.device.profile
  fit = read_fit job.device.profile sound.read.profile

  at_new : Placed
  at_new = record { name = []; tile = move.tile; kind = move.kind; domain = D0 }

  -- no pad stands at the new site
  no_pad : (p : Placed) → In state.layout.side.pads p → p.tile ≡ move.tile → p.kind ≡ move.kind → ⊥
  unfolding at_new
  no_pad p i tile kind =
      let profile = job.device.profile in
      let there : In step.layout.side.pads p = subst (λ (s : Side). In s.pads p) (sym c.moved.side) i in
      let q = (cells_accepted g profile (configured step.layout).image step.layout.side step.layout.cells c.moved.cells).pads p there in
      let a = site_stands g profile.pads (λ (k : PadKind). k.tile) (λ (k : PadKind). k.name) p q.0 q.1.0 in
      let b = site_stands g profile.slices (λ (k : SliceKind). k.tile) (λ (k : SliceKind). k.name) at_new c.new c.moved.sites.to in
      let names : q.0.tile.name ≡ c.new.tile.name = a.tile_name ∙ tile ∙ sym b.tile_name in
      let once = subst (λ grid. NoTwo (λ (t : Tile) (u : Tile). t.name ≡ u.name) grid.tiles) (sym keeps.design.ready.graph.grid) sound.names.tiles in
      let same : q.0.tile ≡ c.new.tile = once_one (λ (t : Tile) (u : Tile). t.name ≡ u.name) g.grid.tiles once q.0.tile c.new.tile
      (get_in g.grid.tiles q.0.number q.0.tile a.in_grid) (get_in g.grid.tiles c.new.number c.new.tile b.in_grid) names (sym names) in
      let types : q.0.kind.tile ≡ c.new.kind.tile = a.of_type ∙ ap (λ (t : Tile). t.kind) same ∙ sym b.of_type in
      let kinds : q.0.kind.name ≡ c.new.kind.name = a.kind_name ∙ kind ∙ sym b.kind_name in
      not_both (map slice_name profile.slices) (map pad_name profile.pads) fit.kinds (slice_name c.new.kind)
      (in_map slice_name profile.slices c.new.kind b.listed)
      (subst (In (map pad_name profile.pads)) (ap₂ (λ (x : List ℕ) (y : List ℕ). (x, y)) types kinds) (in_map pad_name profile.pads q.0.kind a.listed))

  none_there : (p : Placed) → In (placed_cells state.layout.side) p → site_of p ≡ (move.tile, move.kind) → ⊥
  none_there p i e = elim (in_either state.layout.side.slices state.layout.side.pads p i) [
    | inl j ↦ c.empty p j (ap (λ (z : List ℕ × List ℕ). z.0) e) (ap (λ (z : List ℕ × List ℕ). z.1) e)
    | inr j ↦ no_pad p j (ap (λ (z : List ℕ × List ℕ). z.0) e) (ap (λ (z : List ℕ × List ℕ). z.1) e)
  ]

  abbrev there : Configured
  there = configured step.layout

  apart : IsApart step.layout.side
  apart = subst IsApart (sym c.moved.side) (apart_after move state.layout.side keeps.design.apart none_there)

  graph : step.layout.graph ≡ job.design.graph
  graph = c.moved.graph ∙ keeps.design.graph

  made : cells_of step.layout.graph job.device.profile there.image step.layout.side ≡ Ok step.layout.cells
  made = subst (λ h. cells_of h job.device.profile there.image step.layout.side ≡ Ok step.layout.cells) (sym c.moved.graph) c.moved.cells

  is_graph : IsGraph job.device step.layout.graph
  is_graph = subst (IsGraph job.device) (sym graph) sound.read.graph

  no_overlap : NoOverlap job.device step.layout.graph
  no_overlap = subst (NoOverlap job.device) (sym graph) sound.read.outputs

  pub step_keeps_design : KeepsDesign job step.layout
  step_keeps_design = record {
    graph = graph;
    side = subst (SameSide job.design.side) (sym c.moved.side) (same_side move job.design.side state.layout.side keeps.design.side);
    apart = apart;
    parts = keeps.design.parts ∙ sym c.alike;
    cells = made;
    formed = well_formed job.device there apart fit is_graph no_overlap made;
    ready = ready job.device there apart fit is_graph no_overlap made c.clean;
    safe = c.safe;
    agree = c.agree;
    modelled = c.modelled;
    none_new = c.none_new;
  }

-- so does the state after it
pub step_keeps : (job : Job) → IsSoundJob job → (state : State) → StateKeeps job state → (step : Step) → IsCandidate job state step → (cut : Cut) → StateKeeps job (after_step state step cut)
step_keeps job sound state keeps step c cut = record { design = step_keeps_design job sound state keeps step c; others = c.connected }
