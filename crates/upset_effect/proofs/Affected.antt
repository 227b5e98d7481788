-- The muxes that a flip affects.
use Rattle.std.proofs.Common.{◌≡◌, ℕ, Bool, true, false, List, sym}
use Rattle.std.specs.List.{list_any}
use Rattle.words.specs.Members.{In}
use Rattle.links.proofs.Members.{in_flat_map, of_flat_map}
use Rattle.patterns.specs.Bits.{DeviceBit, Bits}
use Rattle.fabric.specs.Graph.{GraphArc, Graph}
use Rattle.fabric.specs.Links.{arcs_of_mux}
use Rattle.fabric.specs.MuxBits.{bits_named}
use Rattle.fabric_laws.proofs.Members.{any_from, any_to}
use Rattle.graph_lists.specs.BitLists.{AreBitsOf, bits_in}
use Rattle.upset.specs.After.{is_affected}

-- tests that imply one another answer the same
pub same_truth : (a b : Bool) → (a ≡ true → b ≡ true) → (b ≡ true → a ≡ true) → a ≡ b
same_truth true b f g = sym (f (λ i. true))
same_truth false b f g = go b g
  where
    go : (c : Bool) → (c ≡ true → false ≡ true) → false ≡ c
    go true h = h (λ i. true)
    go false h = λ i. false

-- one of the bits of a mux flips
abbrev pub OneFlips : Graph → Bits → ℕ → Type 0
OneFlips g flips m = (b : DeviceBit) × (In (bits_in g m) b × (flips b ≡ true))

pub affected_from : (g : Graph) (flips : Bits) (m : ℕ) → is_affected g flips m ≡ true → OneFlips g flips m
affected_from g flips m h =
    let r = any_from (λ (a : GraphArc). list_any flips (bits_named a.origin a.arc.bits)) (arcs_of_mux g m) h in
    let s = any_from flips (bits_named r.0.origin r.0.arc.bits) r.2 in
    (s.0, (in_flat_map (λ (a : GraphArc). bits_named a.origin a.arc.bits) (arcs_of_mux g m) r.0 s.0 r.1 s.1, s.2))

pub affected_to : (g : Graph) (flips : Bits) (m : ℕ) → OneFlips g flips m → is_affected g flips m ≡ true
affected_to g flips m h =
    let r = of_flat_map (λ (a : GraphArc). bits_named a.origin a.arc.bits) (arcs_of_mux g m) h.0 h.1.0 in
    any_to (λ (a : GraphArc). list_any flips (bits_named a.origin a.arc.bits)) (arcs_of_mux g m) r.0 r.1.0 (any_to flips (bits_named r.0.origin r.0.arc.bits) h.0 r.1.1 h.1.1)

-- a mux is affected where one of its bits flips
pub affected_is : (g : Graph) (flips : Bits) (m : ℕ) (bits : List DeviceBit) → AreBitsOf g m bits → list_any flips bits ≡ is_affected g flips m
affected_is g flips m bits are = same_truth (list_any flips bits) (is_affected g flips m)
    (λ h. let r = any_from flips bits h in affected_to g flips m (r.0, ((are.members r.0).0 r.1, r.2)))
    (λ h. let r = affected_from g flips m h in any_to flips bits r.0 ((are.members r.0).1 r.1.0) r.1.1)
