-- The wires of a growing list wait, from a place on.
use Rattle.std.proofs.Common.{◌≡◌, ℕ, ◌+◌, ◌<◌, ◌≤◌, List, [], ◌∷◌, ◌++◌, Option, Some, None, length, get_or, drop, refl, sym, ap, ◌∙◌, inl, inr, arith}
use Rattle.std.proofs.lemmas.List.{drop-append-le, drop_more, drop_all, length-append}
use Rattle.wire_feeds.specs.declared.noted.FedWire.{FedWire}
use Rattle.wire_feeds.specs.Walks.{Walk, feeds_with, open_count, waiting_with}
use Rattle.wire_feeds.proofs.Noting.{same_count}
use Rattle.wire_feeds.proofs.Spreading.{Leaves, fed_below}
use Rattle.live_links.specs.Feeding.{fed_with, waiting}

waiting_append : (c : ℕ) (ws : List ℕ) (w : ℕ) → waiting c (ws ++ w ∷ []) ≡ waiting c ws ++ record { wire = w; feed = c } ∷ []
waiting_append c [] w = refl
waiting_append c (v ∷ vs) w = ap (λ (fs : List FedWire). record { wire = v; feed = c } ∷ fs) (waiting_append c vs w)

-- one more wire waits, unless it had a feed
pub waits_more : (c : ℕ) (fed : List ℕ) (at w : ℕ) (o : Option ℕ) → at ≤ length fed → waiting c (drop at (fed_with o fed w)) ≡ waiting_with o (waiting c (drop at fed)) w c
waits_more c fed at w (Some d) within = refl
waits_more c fed at w None within = ap (waiting c) (drop-append-le at fed (w ∷ []) within) ∙ waiting_append c (drop at fed) w

-- the next wire that waits
pub waits_first : (c : ℕ) (fed : List ℕ) (at : ℕ) → at < length fed → waiting c (drop at fed) ≡ record { wire = get_or fed at 0; feed = c } ∷ waiting c (drop (at + 1) fed)
waits_first c fed at below = ap (waiting c) (drop_more fed at 0 below)

pub waits_none : (c : ℕ) (fed : List ℕ) (at : ℕ) → length fed ≤ at → waiting c (drop at fed) ≡ []
waits_none c fed at past = ap (waiting c) (drop_all at fed past)

-- the first wire that waits leaves
pub left_first : (rows : List (List ℕ)) (outputs : List ℕ) (feeds : List (Option ℕ)) (rest : List FedWire) (from : FedWire)
    → Walk rows outputs (length rows) feeds (from ∷ rest) → Leaves rows outputs feeds rest from
left_first rows outputs feeds rest from walk =
    let fed = walk.held from (inl refl) in
    let below = fed_below feeds from.wire from.feed fed in
    record {
      walk = record {
        long = walk.long;
        reached = walk.reached;
        spread = λ w c h. elim (walk.spread w c h) [
          | inl none ↦ absurd (let b = fed_below feeds w c h in let l = walk.long in omega arith)
          | inr more ↦ elim more [
            | inl waits ↦ elim waits.1.0 [
              | inl e ↦ inl (sym waits.1.1 ∙ sym (ap (λ (f : FedWire). f.wire) e))
              | inr j ↦ inr (inl (waits.0, (j, waits.1.1)))
            ]
            | inr all ↦ inr (inr all)
          ]
        ];
        held = λ f i. walk.held f (inr i);
        own = walk.own;
      };
      fed = fed;
      below = let l = walk.long in omega arith;
    }

-- wires without a feed, and those that were given one, are as many as before together
pub counted_noted : (feeds : List (Option ℕ)) (fed : List ℕ) (w c : ℕ) (o : Option ℕ) → get_or feeds w None ≡ o → w < length feeds
    → open_count (feeds_with o feeds w c) + length (fed_with o fed w) ≡ open_count feeds + length fed
counted_noted feeds fed w c (Some d) is below = refl
counted_noted feeds fed w c None is below =
    let n = same_count feeds w c None [] is below in
    let l = length-append fed (w ∷ []) in
    omega arith
