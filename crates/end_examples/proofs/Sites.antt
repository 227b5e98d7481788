-- The device has two sites for slices. Where both are taken a slice has no candidate.
use Rattle.std.proofs.Common.{◌≡◌, ℕ, false, inl, inr, List, [], ◌∷◌, Some, refl, sym, ap, ◌∙◌, codes, arith}
use Rattle.std.specs.Str.{bytes_eq}
use Rattle.records.specs.Grid.{Tile}
use Rattle.records.specs.Profile.{SliceKind}
use Rattle.records.specs.Side.{D0}
use Rattle.fabric_laws.proofs.Numbered.{get_in}
use Rattle.cells.specs.Sites.{Site}
use Rattle.cells.specs.Standing.{SliceStandsAt}
use Rattle.cells_laws.proofs.Sites.{site_stands}
use Rattle.attempts.specs.Jobs.{Job, State}
use Rattle.attempts.specs.Candidates.{site_named, HasNone}
use Rattle.attempts.specs.Attempts.{AttemptBlocked, EndSite, NoRoute, Ended, IsAnswer, ended, no_site}
use Rattle.attempt_examples.proofs.Tests.{names_differ}
use Rattle.end_examples.specs.Joined.{device, graph, placed, first_tile, second_tile, i_tile, j_tile, o_tile, first_kind, second_kind}
use Rattle.end_examples.specs.Ends.{job_of, starts_with, full_design, full_rest, full_cut, to_slice}
use Rattle.end_examples.proofs.Conditions.{full_starts, full_safe}
use Rattle.end_examples.proofs.Blocked.{full_attempt}

-- a site is that of the first tile or that of the second
pub data IsOneOfTwo (tile kind : List ℕ) (new : Site SliceKind) : Type 0 where
  is_first : first_kind ≡ new.kind → first_tile ≡ new.tile → first_tile.name ≡ tile → codes "S" ≡ kind → IsOneOfTwo tile kind new
  is_second : second_kind ≡ new.kind → second_tile ≡ new.tile → second_tile.name ≡ tile → codes "S" ≡ kind → IsOneOfTwo tile kind new

module _ (tile kind : List ℕ) (new : Site SliceKind) (to : site_named graph device.profile tile kind ≡ Some new) where
  stands : SliceStandsAt graph device.profile (record { name = []; tile = tile; kind = kind; domain = D0 }) new
  stands = site_stands graph device.profile.slices (λ (k : SliceKind). k.tile) (λ (k : SliceKind). k.name) (record { name = []; tile = tile; kind = kind; domain = D0 }) new to

  -- a kind stands in no tile of another type
  wrong : (k : SliceKind) (t : Tile) → bytes_eq k.tile t.kind ≡ false → k ≡ new.kind → t ≡ new.tile → ⊥
  wrong k t h e f = names_differ k.tile t.kind h (ap (λ x. x.tile) e ∙ stands.of_type ∙ sym (ap (λ x. x.kind) f))

  of_first : first_kind ≡ new.kind → first_tile ≡ new.tile
  of_first k = elim (get_in graph.grid.tiles new.number new.tile stands.in_grid) [
    | inl e ↦ e
    | inr a ↦ elim a [
      | inl e ↦ absurd (wrong first_kind second_tile refl k e)
      | inr b ↦ elim b [
        | inl e ↦ absurd (wrong first_kind i_tile refl k e)
        | inr c ↦ elim c [ inl e ↦ absurd (wrong first_kind j_tile refl k e) | inr d ↦ elim d [ inl e ↦ absurd (wrong first_kind o_tile refl k e) | inr n ↦ absurd n ] ]
      ]
    ]
  ]

  of_second : second_kind ≡ new.kind → second_tile ≡ new.tile
  of_second k = elim (get_in graph.grid.tiles new.number new.tile stands.in_grid) [
    | inl e ↦ absurd (wrong second_kind first_tile refl k e)
    | inr a ↦ elim a [
      | inl e ↦ e
      | inr b ↦ elim b [
        | inl e ↦ absurd (wrong second_kind i_tile refl k e)
        | inr c ↦ elim c [ inl e ↦ absurd (wrong second_kind j_tile refl k e) | inr d ↦ elim d [ inl e ↦ absurd (wrong second_kind o_tile refl k e) | inr n ↦ absurd n ] ]
      ]
    ]
  ]

  pub one_of_two : IsOneOfTwo tile kind new
  one_of_two = elim stands.listed [
    | inl k ↦ is_first k (of_first k) (ap (λ t. t.name) (of_first k) ∙ stands.tile_name) (ap (λ x. x.name) k ∙ stands.kind_name)
    | inr i ↦ elim i [
      | inl k ↦ is_second k (of_second k) (ap (λ t. t.name) (of_second k) ∙ stands.tile_name) (ap (λ x. x.name) k ∙ stands.kind_name)
      | inr n ↦ absurd n
    ]
  ]

abbrev job : Job
job = job_of full_design

abbrev state : State
state = starts_with full_rest to_slice

none : HasNone job state (codes "a")
none step c of_slice new = go (one_of_two step.move.tile step.move.kind c.new c.moved.sites.to)
  where
    go : IsOneOfTwo step.move.tile step.move.kind c.new → ⊥
    go (is_first k t tile kind) = c.empty (placed (codes "a") first_tile.name) (inl refl) tile kind
    go (is_second k t tile kind) = c.empty (placed (codes "b") second_tile.name) (inr (inl refl)) tile kind

pub full_ends : IsAnswer job (Ended (AttemptBlocked 4 0 ∷ []) (NoRoute EndSite 4 0 full_cut))
full_ends = ended state full_starts full_safe (no_site to_slice [] full_cut full_attempt (omega arith) (λ e. let no : ⊥ = cc in no) none)
