-- Where nothing flips no mux is affected, so no wire is disturbed and no cell touched.
use Rattle.std.proofs.Common.{◌≡◌, ℕ, Bool, true, false, List, [], ◌∷◌, map, filter, inl, inr, refl}
use Rattle.std.specs.List.{list_any}
use Rattle.words.specs.Members.{In}
use Rattle.patterns.specs.Bits.{DeviceBit, Bits}
use Rattle.links.proofs.Members.{in_either, of_map}
use Rattle.fabric.specs.Links.{arcs_of_mux}
use Rattle.fabric.specs.MuxBits.{bits_named}
use Rattle.circuit.specs.Faults.{Fault}
use Rattle.circuit_laws.proofs.Parts.{of_filter}
use Rattle.upset.specs.Configured.{Configured}
use Rattle.upset.specs.After.{is_affected}
use Rattle.upset.specs.Effect.{IsHit, IsShortSource, IsDisturbed, IsTouched, IsEffect}

-- none of a list passes a test that nothing passes
none_passes : {X : Type 0} (test : X → Bool) → ((x : X) → test x ≡ false) → (xs : List X) → list_any test xs ≡ false
none_passes test none [] = refl
none_passes test none (x ∷ xs) = rw (none x) (none_passes test none xs)

not_both : (b : Bool) → b ≡ false → b ≡ true → ⊥
not_both b clear set = let wrong : ⊥ = cc in wrong

-- a name made of an element that passes such a test
no_name : {X : Type 0} (name_of : X → List ℕ) (test : X → Bool) → ((x : X) → test x ≡ false) → (xs : List X) (name : List ℕ)
    → In (map name_of (filter test xs)) name → ⊥
no_name name_of test none xs name i =
    let x = of_map name_of (filter test xs) name i in
    not_both (test x.0) (none x.0) (of_filter test xs x.0 x.1.0).1

module _ (k : Configured) (flips : Bits) (none : (b : DeviceBit) → flips b ≡ false) where
  unaffected : (mux : ℕ) → is_affected k.graph flips mux ≡ false
  unaffected mux = none_passes (λ a. list_any flips (bits_named a.origin a.arc.bits)) (λ a. none_passes flips none (bits_named a.origin a.arc.bits)) (arcs_of_mux k.graph mux)

  no_hit : (w : ℕ) → IsHit k flips w → ⊥
  no_hit w h = not_both (is_affected k.graph flips h.arc.mux) (unaffected h.arc.mux) h.affected

  no_short : (x : ℕ) → IsShortSource k flips x → ⊥
  no_short x s = no_hit s.sink s.shorted.hit

  no_wire : (w : ℕ) → IsDisturbed k flips w → ⊥
  no_wire w d = elim d [ inl hit ↦ no_hit w hit | inr x ↦ no_short x.0 x.1.0 ]

  no_cell : (name : List ℕ) → IsTouched k flips name → ⊥
  no_cell name i =
      elim (in_either (map (λ s. s.name) (filter (λ s. list_any flips s.bits) k.cells.slices)) (map (λ p. p.name) (filter (λ p. list_any flips p.bits) k.cells.pads)) name i) [
        | inl j ↦ no_name (λ s. s.name) (λ s. list_any flips s.bits) (λ s. none_passes flips none s.bits) k.cells.slices name j
        | inr j ↦ no_name (λ p. p.name) (λ p. list_any flips p.bits) (λ p. none_passes flips none p.bits) k.cells.pads name j
      ]

  pub none_disturbed : (f : Fault) → IsEffect k flips f → (w : ℕ) → In f.disturbed w → ⊥
  none_disturbed f effect w i = no_wire w ((effect.disturbed w).0 i)

  pub none_touched : (f : Fault) → IsEffect k flips f → (name : List ℕ) → In f.touched name → ⊥
  none_touched f effect name i = no_cell name ((effect.touched name).0 i)
