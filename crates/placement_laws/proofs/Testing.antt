-- A candidate is a step whose move nothing speaks against and whose layout passes the tests.
use Rattle.std.proofs.Common.{◌≡◌, Bool, ◌↔◌, List, find, Option, Some, None, refl, sym, subst, ◌∙◌}
use Rattle.std.specs.Prelude.{◌&&◌}
use Rattle.std.specs.Str.{bytes_eq}
use Rattle.std.proofs.lemmas.Bool.{and_parts, and_from}
use Rattle.std.proofs.lemmas.Slice.Eq.{bytes_eq-Decides}
use Rattle.words.specs.Members.{In}
use Rattle.records.specs.Profile.{SliceKind}
use Rattle.records.specs.Side.{Placed, Side, D0}
use Rattle.cells.specs.Sites.{Site, slice_site}
use Rattle.attempts.specs.Moves.{Move}
use Rattle.attempts.specs.Jobs.{Job, State}
use Rattle.attempts.specs.Candidates.{Step, site_named, IsCandidate}
use Rattle.links.proofs.Members.{in_map}
use Rattle.fabric_laws.proofs.Members.{find_from}
use Rattle.formed_laws.proofs.Found.{found_none}
use Rattle.cells_laws.proofs.Options.{then_from}
use Rattle.cells_laws.proofs.Sites.{site_stands}
use Rattle.placements.specs.EqualSites.{IsSameSite, IsEqualSite, AreEqualSites, move_to, moves_to}
use Rattle.placements.specs.MoveFaults.{holder}
use Rattle.placements.specs.Tested.{IsTested}

-- no named slice stands at the site of a move
abbrev IsEmpty : Side → Move → Type 0
IsEmpty side m = (p : Placed) → In side.slices p → p.tile ≡ m.tile → p.kind ≡ m.kind → ⊥

abbrev stands_there : Move → Placed → Bool
stands_there m p = bytes_eq p.tile m.tile && bytes_eq p.kind m.kind

free_from : (side : Side) (m : Move) → IsEmpty side m → holder side m ≡ None
free_from side m empty = go (holder side m) refl
  where
    go : (o : Option Placed) → holder side m ≡ o → holder side m ≡ None
    go None e = e
    go (Some p) e =
        let f = find_from (stands_there m) side.slices p e in
        let both = and_parts (bytes_eq p.tile m.tile) (bytes_eq p.kind m.kind) f.1 in
        absurd (empty p f.0 ((bytes_eq-Decides p.tile m.tile).0 both.0) ((bytes_eq-Decides p.kind m.kind).0 both.1))

free_to : (side : Side) (m : Move) → holder side m ≡ None → IsEmpty side m
free_to side m free p i tile kind = found_none (stands_there m) side.slices free p i
    (and_from (bytes_eq p.tile m.tile) (bytes_eq p.kind m.kind) ((bytes_eq-Decides p.tile m.tile).1 tile) ((bytes_eq-Decides p.kind m.kind).1 kind))

module _ (job : Job) (state : State) (step : Step) where
  tested_from : IsCandidate job state step → IsTested job state step
  tested_from c = record {
    old = c.old;
    new = c.new;
    moved = c.moved;
    may_move = record { shape = c.shape; free = free_from state.layout.side step.move c.empty; clear = c.clear };
    passes = record { clean = c.clean; agree = c.agree; alike = c.alike; modelled = c.modelled; connected = c.connected; none_new = c.none_new; safe = c.safe };
  }

  tested_to : IsTested job state step → IsCandidate job state step
  tested_to t = record {
    old = t.old;
    new = t.new;
    moved = t.moved;
    shape = t.may_move.shape;
    empty = free_to state.layout.side step.move t.may_move.free;
    clear = t.may_move.clear;
    clean = t.passes.clean;
    agree = t.passes.agree;
    alike = t.passes.alike;
    modelled = t.passes.modelled;
    connected = t.passes.connected;
    none_new = t.passes.none_new;
    safe = t.passes.safe;
  }

  pub candidate_is_tested : IsCandidate job state step ↔ IsTested job state step
  candidate_is_tested = (tested_from, tested_to)

  module _ (c : IsCandidate job state step) where
    -- the new site has the names of the move
    new_names : (c.new.tile.name ≡ step.move.tile) × (c.new.kind.name ≡ step.move.kind)
    new_names =
        let h = site_stands state.layout.graph job.device.profile.slices (λ k. k.tile) (λ k. k.name) (record { name = step.move.slice; tile = step.move.tile; kind = step.move.kind; domain = D0 }) c.new c.moved.sites.to in
        (h.tile_name, h.kind_name)

    -- a slice stands at the present site
    stands_at_old : (p : Placed) × (In state.layout.side.slices p × ((p.tile ≡ c.old.tile.name) × (p.kind ≡ c.old.kind.name)))
    stands_at_old =
        let f = then_from (slice_site state.layout.graph job.device.profile) (find (λ (p : Placed). bytes_eq p.name step.move.slice) state.layout.side.slices) c.old c.moved.sites.from in
        let i = find_from (λ (p : Placed). bytes_eq p.name step.move.slice) state.layout.side.slices f.0 f.1.0 in
        let h = site_stands state.layout.graph job.device.profile.slices (λ k. k.tile) (λ k. k.name) f.0 c.old f.1.1 in
        (f.0, (i.0, (sym h.tile_name, sym h.kind_name)))

    -- so the new site is another one
    other_site : IsSameSite c.old c.new → ⊥
    other_site same =
        let s = stands_at_old in
        c.empty s.0 s.1.0 (s.1.1.0 ∙ same.0 ∙ new_names.0) (s.1.1.1 ∙ same.1 ∙ new_names.1)

    is_equal_site : IsEqualSite state.layout.graph job.device.profile c.old c.new
    is_equal_site = record {
      site = (λ i. site_named state.layout.graph job.device.profile (new_names.0 i) (new_names.1 i)) ∙ c.moved.sites.to;
      shape = c.shape;
      other = other_site;
    }

    pub candidate_is_listed : (list : List (Site SliceKind)) → AreEqualSites state.layout.graph job.device.profile c.old list → In (moves_to step.move.slice list) step.move
    candidate_is_listed list are =
        let same : move_to step.move.slice c.new ≡ step.move = (λ i. record { slice = step.move.slice; tile = new_names.0 i; kind = new_names.1 i }) in
        subst (In (moves_to step.move.slice list)) same (in_map (move_to step.move.slice) list c.new ((are.members c.new).1 is_equal_site))
