-- A label is lowered, or the best label is.
use Rattle.std.proofs.Common.{◌≡◌, ℕ, ◌+◌, ◌*◌, ◌≤◌, ◌<◌, Bool, true, false, List, length, set, get_or, sym, subst, ap, ◌∙◌, arith, ◌⊎◌, inl, inr, get_or-set_same, get_or-set_other}
use Rattle.std.proofs.lemmas.List.{length-set}
use Rattle.std.proofs.lemmas.List.Sums.{sum_by-set}
use Rattle.std.proofs.lemmas.Bool.{cases_eq, cases_lt}
use Rattle.words.specs.Members.{In}
use Rattle.net_links.specs.Nets.{Network, NetRules}
use Rattle.wire_queue.specs.Waiting.{Waits, Stay}
use Rattle.pin_search.specs.Labels.{far, weight_in, Stands}
use Rattle.pin_search.specs.Searches.{Spread, Status, IsBest, IsMarked, Search, Moves}
use Rattle.pin_search.specs.Fronts.{noted}
use Rattle.pin_search.proofs.Touched.{at_each, is_noted}
use Rattle.pin_search.proofs.Falling.{Falls, weight_up, spread_falls, stands_falls, best_falls}

pub fall_set : (labels : List ℕ) (y c : ℕ) → y < length labels → c < get_or labels y 0 → Falls labels (set labels y c)
fall_set labels y c h l = at_each (λ x v. v ≤ get_or labels x 0) labels y c h (omega arith) (λ x d. omega arith)

module _ (g : Network) (n : NetRules) (pin busy : ℕ) (labels : List ℕ) (waiting : List Bool) (queue : List (ℕ × ℕ)) (touched : List ℕ) (best : ℕ) where
  pub lowered_search : (y c : ℕ) (now_queue : List (ℕ × ℕ)) → Search g n pin busy labels waiting queue touched best → y < g.wiring.wires → (In n.tree y → ⊥)
      → c < far → weight_in c ≤ (length touched + 1) * 4294967295 → Stands g n pin labels y c → c < get_or labels y 0 → Waits now_queue (weight_in c) y → Stay queue now_queue → ((entry : ℕ × ℕ) → In now_queue entry → (entry.1 ≡ y) ⊎ In queue entry)
      → Search g n pin busy (set labels y c) (set waiting y true) now_queue (noted labels touched y) best
  lowered_search y c now_queue s yw out cf small st cl waits stay others =
      let yl : y < length labels = (let e = s.labels_len in omega arith) in
      let yk : y < length waiting = (let e = s.waiting_len in omega arith) in
      let fall = fall_set labels y c yl cl in
      let no = is_noted g.wiring.wires labels touched y yw s.wires s.near s.once (s.known y yw) in
      let longer = no.longer in
      let here = get_or-set_same labels y c 0 yl in
      let flag = get_or-set_same waiting y true false yk in
      record {
        labels_len = length-set labels y c ∙ s.labels_len;
        waiting_len = length-set waiting y true ∙ s.waiting_len;
        most = at_each (λ x v. x < g.wiring.wires → v ≤ far) labels y c yl (λ _. omega arith) (λ x d. s.most x);
        at_pin = let z = s.at_pin in get_or-set_other labels y pin c 0 (λ e. let f : get_or labels pin 0 ≡ get_or labels y 0 = ap (λ k. get_or labels k 0) e in absurd (omega arith)) ∙ z;
        outside = at_each (λ x v. x < g.wiring.wires → v < far → In n.tree x → ⊥) labels y c yl (λ _ _. out) (λ x d. s.outside x);
        stands = at_each (λ x v. x < g.wiring.wires → v < far → Stands g n pin (set labels y c) x v) labels y c yl
            (λ _ _. stands_falls g n pin labels (set labels y c) y c fall st)
            (λ x d xw xf. stands_falls g n pin labels (set labels y c) x (get_or labels x 0) fall (s.stands x xw xf));
        marked = λ x xw. elim (cases_eq x y) as (λ _. IsMarked (set labels y c) (set waiting y true) now_queue x) [
          | inl e ↦ subst (IsMarked (set labels y c) (set waiting y true) now_queue) (sym e)
              (λ _. ((let k : get_or (set labels y c) y 0 < far = omega arith in k), subst (λ v. Waits now_queue (weight_in v) y) (sym here) waits))
          | inr d ↦ (λ m.
              let same = get_or-set_other labels y x c 0 d in
              let old = s.marked x xw (sym (get_or-set_other waiting y x true false d) ∙ m) in
              let o = old.0 in (
                (let k : get_or (set labels y c) x 0 < far = omega arith in k),
                subst (λ v. Waits now_queue (weight_in v) x) (sym same) (stay (weight_in (get_or labels x 0)) x old.1),
              ))
        ];
        queued = λ entry i. elim (others entry i) as (λ _. entry.1 < g.wiring.wires) [ inl e ↦ (let k : entry.1 ≡ y = e in omega arith) | inr j ↦ s.queued entry j ];
        status = λ x xw. elim (cases_eq x y) as (λ _. get_or (set labels y c) x 0 < far → Status g n busy (set labels y c) (set waiting y true) best x) [
          | inl e ↦ (λ _. inr (inl (ap (λ z. get_or (set waiting y true) z false) e ∙ flag)))
          | inr d ↦ (λ xf.
              let same = get_or-set_other labels y x c 0 d in
              elim (s.status x xw (let k : get_or labels x 0 < far = omega arith in k)) as (λ _. Status g n busy (set labels y c) (set waiting y true) best x) [
                | inl e ↦ inl e
                | inr h ↦ elim h as (λ _. Status g n busy (set labels y c) (set waiting y true) best x) [
                  | inl m ↦ inr (inl (get_or-set_other waiting y x true false d ∙ m))
                  | inr k ↦ elim k as (λ _. Status g n busy (set labels y c) (set waiting y true) best x) [
                    | inl sp ↦ inr (inr (inl (subst (Spread g n (set labels y c) best x) (sym same) (spread_falls g n labels (set labels y c) best best x (get_or labels x 0) fall (let k : best ≤ best = omega arith in k) sp))))
                    | inr ov ↦ (let o = ov.1 in inr (inr (inr (ov.0, (let k : best ≤ get_or (set labels y c) x 0 = omega arith in k)))))
                  ]
                ]
              ])
        ];
        bounded = at_each (λ x v. x < g.wiring.wires → v < far → weight_in v ≤ length (noted labels touched y) * 4294967295) labels y c yl
            (λ _ _. elim (cases_lt (get_or labels y 0) far) as (λ _. weight_in c ≤ length (noted labels touched y) * 4294967295) [
              | inl l ↦ (let b = s.bounded y yw l in let w = weight_up c (get_or labels y 0) (let k : c ≤ get_or labels y 0 = omega arith in k) in omega arith)
              | inr l ↦ (let m = no.one_more l in omega arith)
            ])
            (λ x d xw xf. let b = s.bounded x xw xf in omega arith);
        known = at_each (λ x v. x < g.wiring.wires → v < far → In (noted labels touched y) x) labels y c yl (λ _ _. no.here) (λ x d xw xf. no.stays x (s.known x xw xf));
        wires = no.wires;
        near = λ x i. elim (no.others x i) as (λ _. get_or (set labels y c) x 0 < far) [
          | inl e ↦ (let f : get_or (set labels y c) x 0 ≡ get_or (set labels y c) y 0 = ap (λ k. get_or (set labels y c) k 0) e in omega arith)
          | inr j ↦ (let f = fall x in let l = s.near x j in omega arith)
        ];
        once = no.once;
        best_is = best_falls g n labels (set labels y c) best fall s.best_is;
      }

  pub lowered_moves : (y c : ℕ) (now_queue : List (ℕ × ℕ)) → Search g n pin busy labels waiting queue touched best → y < g.wiring.wires → c < get_or labels y 0 → length now_queue ≤ length queue + 1
      → Moves labels queue touched best (set labels y c) now_queue (noted labels touched y) best
  lowered_moves y c now_queue s yw cl count =
      let yl : y < length labels = (let e = s.labels_len in omega arith) in
      let no = is_noted g.wiring.wires labels touched y yw s.wires s.near s.once (s.known y yw) in
      let sm = sum_by-set (λ (k : ℕ). k) labels y c 0 yl in
      record {
        labels_fall = fall_set labels y c yl cl;
        best_falls = omega arith;
        less_work = omega arith;
        more_touched = no.longer;
      }

  -- a better arc out of the tree
  pub best_lowered : (c : ℕ) → Search g n pin busy labels waiting queue touched best → IsBest g n labels c → c ≤ best → c < far → Search g n pin busy labels waiting queue touched c
  best_lowered c s is le cf = record {
    labels_len = s.labels_len;
    waiting_len = s.waiting_len;
    most = s.most;
    at_pin = s.at_pin;
    outside = s.outside;
    stands = s.stands;
    marked = s.marked;
    queued = s.queued;
    status = λ x xw xf. elim (s.status x xw xf) as (λ _. Status g n busy labels waiting c x) [
      | inl e ↦ inl e
      | inr h ↦ elim h as (λ _. Status g n busy labels waiting c x) [
        | inl m ↦ inr (inl m)
        | inr k ↦ elim k as (λ _. Status g n busy labels waiting c x) [
          | inl sp ↦ inr (inr (inl (spread_falls g n labels labels best c x (get_or labels x 0) (λ w. let k : get_or labels w 0 ≤ get_or labels w 0 = omega arith in k) le sp)))
          | inr ov ↦ (let o = ov.1 in inr (inr (inr (cf, (let k : c ≤ get_or labels x 0 = omega arith in k)))))
        ]
      ]
    ];
    bounded = s.bounded;
    known = s.known;
    wires = s.wires;
    near = s.near;
    once = s.once;
    best_is = is;
  }

  -- the busy wire was spread from
  pub turn_ends : (free : ℕ) → g.wiring.wires ≤ free → Search g n pin busy labels waiting queue touched best → (Spread g n labels best busy (get_or labels busy 0) ⊎ ((best < far) × (best ≤ get_or labels busy 0)))
      → Search g n pin free labels waiting queue touched best
  turn_ends free fw s sp = record {
    labels_len = s.labels_len;
    waiting_len = s.waiting_len;
    most = s.most;
    at_pin = s.at_pin;
    outside = s.outside;
    stands = s.stands;
    marked = s.marked;
    queued = s.queued;
    status = λ x xw xf. elim (s.status x xw xf) as (λ _. Status g n free labels waiting best x) [
      | inl e ↦ inr (inr (subst (λ z. Spread g n labels best z (get_or labels z 0) ⊎ ((best < far) × (best ≤ get_or labels z 0))) (sym e) sp))
      | inr h ↦ inr h
    ];
    bounded = s.bounded;
    known = s.known;
    wires = s.wires;
    near = s.near;
    once = s.once;
    best_is = s.best_is;
  }
