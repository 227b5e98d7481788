-- What holds of labels and of the best label stays where they fall.
use Rattle.std.proofs.Common.{ℕ, ◌≤◌, ◌<◌, List, get_or, arith, inl, inr}
use Rattle.net_links.specs.Nets.{Network, NetRules}
use Rattle.pin_search.specs.Labels.{far, weight_in, label_by, GoesOn, Stands}
use Rattle.pin_search.specs.Searches.{AtMost, Spread, Joins, IsBest, Moves}

pub weight_up : (a b : ℕ) → a ≤ b → weight_in a ≤ weight_in b
weight_up a b h = omega arith

abbrev pub Falls : List ℕ → List ℕ → Type 0
Falls labels now = (w : ℕ) → get_or now w 0 ≤ get_or labels w 0

pub at_most_falls : (n : NetRules) (labels now : List ℕ) (best new_best s label : ℕ) → Falls labels now → new_best ≤ best → AtMost n labels best s label → AtMost n now new_best s label
at_most_falls n labels now best new_best s label f b h = elim h as (λ _. AtMost n now new_best s label) [
  | inl k ↦ (let l = f s in let x = k.1 in let y = k.2 in inl (k.0, (let p : get_or now s 0 < far = omega arith in p), (let q : get_or now s 0 ≤ label = omega arith in q)))
  | inr k ↦ (let x = k.0 in let y = k.1 in inr ((let p : new_best < far = omega arith in p), (let q : new_best ≤ label = omega arith in q)))
]

pub at_most_more : (n : NetRules) (labels : List ℕ) (best s label more : ℕ) → label ≤ more → AtMost n labels best s label → AtMost n labels best s more
at_most_more n labels best s label more m h = elim h as (λ _. AtMost n labels best s more) [
  | inl k ↦ (let y = k.2 in inl (k.0, k.1, (let q : get_or labels s 0 ≤ more = omega arith in q)))
  | inr k ↦ (let y = k.1 in inr (k.0, (let q : best ≤ more = omega arith in q)))
]

module _ (g : Network) (n : NetRules) where
  pub spread_falls : (labels now : List ℕ) (best new_best w label : ℕ) → Falls labels now → new_best ≤ best → Spread g n labels best w label → Spread g n now new_best w label
  spread_falls labels now best new_best w label f b s = record {
    links = λ x xw l. at_most_falls n labels now best new_best x label f b (s.links x xw l);
    arcs = λ a t e. at_most_falls n labels now best new_best (g.wiring.source a) (label_by g n label a) f b (s.arcs a t e);
  }

  pub goes_falls : (labels now : List ℕ) (w label a : ℕ) → Falls labels now → GoesOn g n labels w label a → GoesOn g n now w label a
  goes_falls labels now w label a f h =
      let l = f (g.wiring.sink a) in
      let m = weight_up (get_or now (g.wiring.sink a) 0) (get_or labels (g.wiring.sink a) 0) l in
      let x = h.near in let y = h.weight in
      record { taken = h.taken; below = h.below; small = h.small; near = omega arith; weight = omega arith }

  pub stands_falls : (pin : ℕ) (labels now : List ℕ) (w label : ℕ) → Falls labels now → Stands g n pin labels w label → Stands g n pin now w label
  stands_falls pin labels now w label f h = record { ends = h.ends; goes = λ a e. goes_falls labels now w label a f (h.goes a e) }

  pub joins_falls : (labels now : List ℕ) (best a : ℕ) → Falls labels now → Joins g n labels best a → Joins g n now best a
  joins_falls labels now best a f h =
      let l = f (g.wiring.sink a) in
      let m = weight_up (get_or now (g.wiring.sink a) 0) (get_or labels (g.wiring.sink a) 0) l in
      let x = h.near in let y = h.weight in
      record { taken = h.taken; from_tree = h.from_tree; small = h.small; near = omega arith; weight = omega arith }

  pub best_falls : (labels now : List ℕ) (best : ℕ) → Falls labels now → IsBest g n labels best → IsBest g n now best
  best_falls labels now best f h = record { most = h.most; first = h.first; joins = λ b a e. joins_falls labels now best a f (h.joins b a e) }

-- steps one after the other
pub moves_on : (labels : List ℕ) (queue : List (ℕ × ℕ)) (touched : List ℕ) (best : ℕ) (mid_labels : List ℕ) (mid_queue : List (ℕ × ℕ)) (mid_touched : List ℕ) (mid_best : ℕ) (now : List ℕ) (new_queue : List (ℕ × ℕ)) (new_touched : List ℕ) (new_best : ℕ)
    → Moves labels queue touched best mid_labels mid_queue mid_touched mid_best → Moves mid_labels mid_queue mid_touched mid_best now new_queue new_touched new_best
    → Moves labels queue touched best now new_queue new_touched new_best
moves_on labels queue touched best mid_labels mid_queue mid_touched mid_best now new_queue new_touched new_best p q =
    let a = p.best_falls in let b = q.best_falls in let c = p.less_work in let d = q.less_work in let e = p.more_touched in let f = q.more_touched in
    record {
      labels_fall = λ w. let x = p.labels_fall w in let y = q.labels_fall w in omega arith;
      best_falls = omega arith;
      less_work = omega arith;
      more_touched = omega arith;
    }

pub stays_put : (labels : List ℕ) (queue : List (ℕ × ℕ)) (touched : List ℕ) (best : ℕ) → Moves labels queue touched best labels queue touched best
stays_put labels queue touched best = record { labels_fall = λ w. omega arith; best_falls = omega arith; less_work = omega arith; more_touched = omega arith }
