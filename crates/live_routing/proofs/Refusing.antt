-- What contests the links of an image, by names.
use Rattle.std.proofs.Common.{◌≡◌, ℕ, ◌<◌, List, length, Some, sym, subst, inl, inr, arith}
use Rattle.std.specs.Prelude.{slice_get}
use Rattle.std.proofs.lemmas.Option.{slice_get_cases}
use Rattle.words.specs.Members.{In}
use Rattle.patterns.specs.Bits.{Bits}
use Rattle.records.specs.Config.{Config}
use Rattle.links.specs.Links.{Link}
use Rattle.fabric.specs.Device.{Device}
use Rattle.fabric.specs.Wires.{Wire}
use Rattle.fabric.specs.Graph.{Graph}
use Rattle.fabric.specs.GraphOf.{IsGraph}
use Rattle.fabric.specs.Links.{links_of, routing_of}
use Rattle.fabric.specs.Agree.{ArcsAgree}
use Rattle.design_checks.specs.RoutingChecks.{AreTwoLeast, Asserts, IsContested, alone, contested, two}
use Rattle.wire_contests.specs.declared.contest.Contest.{Contest}
use Rattle.wire_contests.specs.Contests.{IsContest}
use Rattle.live_routing.specs.declared.error.LiveError.{LiveError}
use Rattle.live_routing.specs.declared.error.LiveError.TheVariants.{ArcDiffers, Contested, Memory}
use Rattle.live_routing.specs.Refused.{Contests, IsRefusedContest, Refuses}
use Rattle.live_routing.proofs.Standing.{links_within, outputs_within}

-- what stands at a number below the length
there : {X : Type 0} (xs : List X) (i : ℕ) → i < length xs → (x : X) × (slice_get xs i ≡ Some x)
there xs i below = elim (slice_get_cases xs i).1 [
  | inl r ↦ (r.0, r.2)
  | inr r ↦ absurd (let m = r.0 in omega arith)
]

module _ (device : Device) (g : Graph) (is : IsGraph device g) (image : Bits) where
  asserts_below : (w x : ℕ) → Asserts (routing_of g image) w x → x < length g.wires
  asserts_below w x a = elim a [
    | inl c ↦ (links_within device g is image (record { source = x; sink = w }) c.0).0
    | inr o ↦ subst (λ n. n < length g.wires) (sym o.1) (outputs_within device g is w o.0)
  ]

  contested_below : (w : ℕ) → IsContested (routing_of g image) w → w < length g.wires
  contested_below w h = elim h [
    | inl c ↦ (links_within device g is image (record { source = c.0; sink = w }) c.1.1.0.0).1
    | inr o ↦ outputs_within device g is w o.0
  ]

  firsts_below : (w x y : ℕ) → AreTwoLeast (routing_of g image) w x y → (x < length g.wires) × (y < length g.wires)
  firsts_below w x y (two p q) = (asserts_below w x p.has, asserts_below w y q.has.0)
  firsts_below w x y (alone p n) = let b = asserts_below w x p.has in (b, b)

  pub refused : (c : Contest) → IsContest (routing_of g image) c → IsRefusedContest g image c
  refused c h =
      let ends = firsts_below c.wire c.first c.second h.two in
      let wire = there g.wires c.wire (contested_below c.wire h.least.has) in
      let first = there g.wires c.first ends.0 in
      let second = there g.wires c.second ends.1 in
      record {
        wire = wire.0;
        first = first.0;
        second = second.0;
        wire_is = wire.1;
        first_is = first.1;
        second_is = second.1;
        refused = contested c.wire c.first c.second wire.0 first.0 second.0 h.least h.two wire.1 first.1 second.1;
      }

  -- where arcs agree, what refuses the links refuses the routing
  pub refuses : (config : Config) (e : LiveError) → ArcsAgree g image config → Contests (routing_of g image) e → Refuses g image config e
  refuses config (ArcDiffers m) agree h = absurd h
  refuses config (Contested c) agree h = (agree, refused c h)
  refuses config Memory agree h = tt
