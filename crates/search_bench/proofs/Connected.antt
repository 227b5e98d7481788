-- The arcs of a grid and the rules of a net over it go together.
use Rattle.std.proofs.Common.{◌≡◌, ℕ, ◌+◌, ◌*◌, ◌/◌, ◌%◌, ◌<◌, ◌≤◌, List, length, get_or, drop, sym, subst, ap, ◌∙◌, refl, arith}
use Rattle.std.proofs.lemmas.List.{get_or-take, get_or-drop, length-drop, length-take-le}
use Rattle.words.specs.Members.{In}
use Rattle.links.specs.Links.{here}
use Rattle.paths.specs.Wiring.{IsArcOf}
use Rattle.net_links.specs.Nets.{IsConnection}
use Rattle.net_links.proofs.Listed.{in_at, place_of}
use Rattle.search_bench.specs.Grids.{IsGrid, IsTree, back, forth, network, net_rules, part}
use Rattle.search_bench.proofs.Trees.{tree_below}
use Rattle.search_bench.proofs.Rounds.{back_below, back_forth, forth_back, forth_below}

-- what stands in the part of a wire
part_len : (xs : List ℕ) (w : ℕ) → w * 10 + 10 ≤ length xs → length (part xs w) ≡ 10
part_len xs w h = let l = length-drop (w * 10) xs in length-take-le 10 (drop (w * 10) xs) (omega arith)

part_at : (xs : List ℕ) (w j : ℕ) → j < 10 → get_or (part xs w) j 0 ≡ get_or xs (w * 10 + j) 0
part_at xs w j h = get_or-take 10 (drop (w * 10) xs) j 0 h ∙ get_or-drop (w * 10) xs j 0

in_part : (xs : List ℕ) (w j a : ℕ) → w * 10 + 10 ≤ length xs → j < 10 → get_or xs (w * 10 + j) 0 ≡ a → In (part xs w) a
in_part xs w j a l h e = let n = part_len xs w l in subst (In (part xs w)) (part_at xs w j h ∙ e) (in_at (part xs w) j (omega arith))

pub record PartOf (xs : List ℕ) (w a : ℕ) : Type 0 where
  pub kind : ℕ
  pub low : kind < 10
  pub is : get_or xs (w * 10 + kind) 0 ≡ a

part_of : (xs : List ℕ) (w a : ℕ) → w * 10 + 10 ≤ length xs → In (part xs w) a → PartOf xs w a
part_of xs w a l i =
    let p = place_of (part xs w) a i in let n = part_len xs w l in let b = p.below in
    let low : p.place < 10 = omega arith in
    record { kind = p.place; low = low; is = sym (part_at xs w p.place low) ∙ p.is }

module _ (n : ℕ) (distances outs ins : List ℕ) (grid : IsGrid n distances outs ins) where
  abbrev far : ℕ → ℕ
  far j = get_or distances j 0

  abbrev source : ℕ → ℕ
  source a = a / 10

  abbrev sink : ℕ → ℕ
  sink a = forth n (a / 10) (far (a % 10))

  abbrev IsArc : ℕ → Type 0
  IsArc a = IsArcOf (network n distances outs ins).wiring a

  outs_room : (w : ℕ) → w < n → w * 10 + 10 ≤ length outs
  outs_room w h = let l = grid.outs_are.len in omega arith

  ins_room : (w : ℕ) → w < n → w * 10 + 10 ≤ length ins
  ins_room w h = let l = grid.ins_are.len in omega arith

  out_is : (w a : ℕ) → w < n → In (part outs w) a → a / 10 ≡ w
  out_is w a h i =
      let p = part_of outs w a (outs_room w h) i in let low = p.low in
      let e = grid.outs_are.each (w * 10 + p.kind) (omega arith) in let f = p.is in omega arith

  is_out : (a : ℕ) → a / 10 < n → IsArc a
  is_out a h = record { below = h; listed = in_part outs (a / 10) (a % 10) a (outs_room (a / 10) h) (omega arith) (grid.outs_are.each (a / 10 * 10 + a % 10) (omega arith) ∙ omega arith) }

  -- the arc at a place of the part of a wire
  into_is : (w j : ℕ) → w < n → j < 10 → get_or ins (w * 10 + j) 0 ≡ back n w (far j) * 10 + j
  into_is w j h low =
      let q : (w * 10 + j) / 10 ≡ w = omega arith in
      let r : (w * 10 + j) % 10 ≡ j = omega arith in
      grid.ins_are.each (w * 10 + j) (omega arith) ∙ (ap (λ z. back n z (far ((w * 10 + j) % 10)) * 10 + (w * 10 + j) % 10) q ∙ ap (λ z. back n w (far z) * 10 + z) r)

  in_is : (w a : ℕ) → w < n → In (part ins w) a → IsArc a × (sink a ≡ w)
  in_is w a h i =
      let p = part_of ins w a (ins_room w h) i in let low = p.low in
      let e : a ≡ back n w (far p.kind) * 10 + p.kind = sym p.is ∙ into_is w p.kind h p.low in
      let b = back_below n w (far p.kind) h (grid.within p.kind p.low) in
      let q : a / 10 ≡ back n w (far p.kind) = omega arith in
      let r : a % 10 ≡ p.kind = omega arith in (
        is_out a (omega arith),
        ap (λ z. forth n z (far (a % 10))) q ∙ (ap (λ z. forth n (back n w (far p.kind)) (far z)) r ∙ forth_back n w (far p.kind) (back n w (far p.kind)) h (grid.within p.kind p.low) refl),
      )

  is_in : (w a : ℕ) → w < n → IsArc a → sink a ≡ w → In (part ins w) a
  is_in w a h arc e =
      let low : a % 10 < 10 = omega arith in
      let b = back_forth n (a / 10) (far (a % 10)) w arc.below (grid.within (a % 10) low) e in
      in_part ins w (a % 10) a (ins_room w h) low (into_is w (a % 10) h low ∙ omega arith)

  pub sink_below : (a : ℕ) → IsArc a → sink a < n
  sink_below a arc = forth_below n (a / 10) (far (a % 10)) arc.below (grid.within (a % 10) (omega arith))

  pub connected : (places tree : List ℕ) (pin : ℕ) → IsTree places tree → length places ≡ n → pin < n → IsConnection (network n distances outs ins) (net_rules tree) pin
  connected places tree pin t len below = record {
    net = record {
      wiring = record {
        own = out_is;
        sinks = sink_below;
      };
      ins = λ w a h. (in_is w a h, (λ k. is_in w a h k.0 k.1));
      small = λ a arc. let b = arc.below in let f = grid.few in omega arith;
      rules = record { weights = λ w h. omega arith; nexts = λ w x h i. absurd i };
      drivers = λ w x h. ((λ i. absurd i), (λ k. absurd k.1));
      tree = record {
        below = λ w i. let b = tree_below places tree t w i in omega arith;
        closed = λ w x i l. absurd l;
      };
      roots = λ w i. i;
      rooted = λ w i. record { root = w; is_root = i; leads = here };
    };
    pin_is_wire = below;
  }
