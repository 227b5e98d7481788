-- A wire leaves the queue, and how a search begins.
use Rattle.std.proofs.Common.{◌≡◌, ◌≢◌, ℕ, ◌-◌, ◌≤◌, ◌<◌, Bool, true, false, List, [], ◌∷◌, ◌++◌, length, set, get_or, replicate, sym, subst, ap, ◌∙◌, arith, ◌⊎◌, inl, inr, get_or-set_same, get_or-set_other, cond}
use Rattle.std.proofs.lemmas.List.{length-set, length-replicate, get_or-replicate}
use Rattle.std.proofs.lemmas.Bool.{cases_eq, cases_Bool, false≢true}
use Rattle.std.specs.Prelude.{nat_lt}
use Rattle.words.specs.Members.{In}
use Rattle.links.specs.Links.{here}
use Rattle.net_links.specs.Nets.{Network, NetRules}
use Rattle.wire_queue.specs.Waiting.{most, Waits, Leaves}
use borrow.Author.Tests.{ltb-true}
use Rattle.pin_search.specs.declared.front.Front.{Front}
use Rattle.pin_search.specs.Fronts.{noted, IsAtRest, Keeps}
use Rattle.pin_search.specs.Labels.{far, weight_in, Stands}
use Rattle.pin_search.specs.Searches.{Spread, Status, IsMarked, IsOnce, Search, IsSearched}

module _ (g : Network) (n : NetRules) (pin : ℕ) (labels : List ℕ) (waiting : List Bool) (queue now : List (ℕ × ℕ)) (touched : List ℕ) (best weight w : ℕ) (s : Search g n pin g.wiring.wires labels waiting queue touched best) (l : Leaves queue now weight w) where
  small : (x : ℕ) → get_or labels x 0 < far → weight_in (get_or labels x 0) ≤ most
  small x h = omega arith

  pub left_wire : w < g.wiring.wires
  left_wire = s.queued (most - weight, w) l.waited

  -- another wire still waits
  pub still_waits : (x : ℕ) → x < g.wiring.wires → get_or waiting x false ≡ true → ((weight_in (get_or labels x 0) ≡ weight) × (x ≡ w)) ⊎ Waits now (weight_in (get_or labels x 0)) x
  still_waits x xw m = let o = s.marked x xw m in l.stay (weight_in (get_or labels x 0)) x (small x o.0) o.1

  pub passed_over : (get_or waiting w false ≡ false) ⊎ (weight_in (get_or labels w 0) ≡ weight → ⊥) → Search g n pin g.wiring.wires labels waiting now touched best
  passed_over stale = record {
    labels_len = s.labels_len;
    waiting_len = s.waiting_len;
    most = s.most;
    at_pin = s.at_pin;
    outside = s.outside;
    stands = s.stands;
    marked = λ x xw m. (
      (s.marked x xw m).0,
      elim (still_waits x xw m) as (λ _. Waits now (weight_in (get_or labels x 0)) x) [
        | inl e ↦ elim stale as (λ _. Waits now (weight_in (get_or labels x 0)) x) [
          | inl f ↦ absurd (false≢true (sym f ∙ (ap (λ z. get_or waiting z false) (sym e.1) ∙ m)))
          | inr other ↦ absurd (other (ap (λ z. weight_in (get_or labels z 0)) (sym e.1) ∙ e.0))
        ]
        | inr h ↦ h
      ],
    );
    queued = λ entry i. s.queued entry (l.others entry i);
    status = s.status;
    bounded = s.bounded;
    known = s.known;
    wires = s.wires;
    near = s.near;
    once = s.once;
    best_is = s.best_is;
  }

  pub taken_out : Search g n pin w labels (set waiting w false) now touched best
  taken_out =
      let wl : w < length waiting = (let e = s.waiting_len in let h = left_wire in omega arith) in
      let off = get_or-set_same waiting w false false wl in
      record {
        labels_len = s.labels_len;
        waiting_len = length-set waiting w false ∙ s.waiting_len;
        most = s.most;
        at_pin = s.at_pin;
        outside = s.outside;
        stands = s.stands;
        marked = λ x xw. elim (cases_eq x w) as (λ _. IsMarked labels (set waiting w false) now x) [
          | inl e ↦ (λ m. absurd (false≢true (sym off ∙ (ap (λ z. get_or (set waiting w false) z false) (sym e) ∙ m))))
          | inr d ↦ (λ m. let old = sym (get_or-set_other waiting w x false false d) ∙ m in
              ((s.marked x xw old).0, elim (still_waits x xw old) as (λ _. Waits now (weight_in (get_or labels x 0)) x) [ inl e ↦ absurd (d e.1) | inr h ↦ h ]))
        ];
        queued = λ entry i. s.queued entry (l.others entry i);
        status = λ x xw xf. elim (cases_eq x w) as (λ _. Status g n w labels (set waiting w false) best x) [
          | inl e ↦ inl e
          | inr d ↦ elim (s.status x xw xf) as (λ _. Status g n w labels (set waiting w false) best x) [
            | inl e ↦ (let k : x ≡ g.wiring.wires = e in absurd (omega arith))
            | inr h ↦ elim h as (λ _. Status g n w labels (set waiting w false) best x) [
              | inl m ↦ inr (inl (get_or-set_other waiting w x false false d ∙ m))
              | inr k ↦ inr (inr k)
            ]
          ]
        ];
        bounded = s.bounded;
        known = s.known;
        wires = s.wires;
        near = s.near;
        once = s.once;
        best_is = s.best_is;
      }

  -- the rest can't be lighter than the best
  over_beyond : weight_in best < weight → weight ≤ most → (x : ℕ) → x < g.wiring.wires → get_or labels x 0 < far
      → Spread g n labels best x (get_or labels x 0) ⊎ ((best < far) × (best ≤ get_or labels x 0))
  over_beyond beyond le x xw xf =
      let b = s.best_is.most in
      elim (s.status x xw xf) as (λ _. Spread g n labels best x (get_or labels x 0) ⊎ ((best < far) × (best ≤ get_or labels x 0))) [
        | inl e ↦ (let k : x ≡ g.wiring.wires = e in absurd (omega arith))
        | inr h ↦ elim h as (λ _. Spread g n labels best x (get_or labels x 0) ⊎ ((best < far) × (best ≤ get_or labels x 0))) [
          | inl m ↦ inr (
            (let k : best < far = omega arith in k),
            elim (still_waits x xw m) as (λ _. best ≤ get_or labels x 0) [
              | inl e ↦ (let d = e.0 in omega arith)
              | inr i ↦ (let d = l.least (weight_in (get_or labels x 0)) x (small x xf) i in omega arith)
            ],
          )
          | inr k ↦ k
        ]
      ]

  pub ends_beyond : weight_in best < weight → weight ≤ most → IsSearched g n pin labels best
  ends_beyond beyond le = record { labels_len = s.labels_len; at_pin = s.at_pin; outside = s.outside; stands = s.stands; best_is = s.best_is; over = over_beyond beyond le }

module _ (g : Network) (n : NetRules) (pin : ℕ) (labels : List ℕ) (waiting : List Bool) (queue : List (ℕ × ℕ)) (touched : List ℕ) (best : ℕ) where
  over_empty : Search g n pin g.wiring.wires labels waiting queue touched best → queue ≡ []
      → (x : ℕ) → x < g.wiring.wires → get_or labels x 0 < far → Spread g n labels best x (get_or labels x 0) ⊎ ((best < far) × (best ≤ get_or labels x 0))
  over_empty s none x xw xf = elim (s.status x xw xf) as (λ _. Spread g n labels best x (get_or labels x 0) ⊎ ((best < far) × (best ≤ get_or labels x 0))) [
    | inl e ↦ (let k : x ≡ g.wiring.wires = e in absurd (omega arith))
    | inr h ↦ elim h as (λ _. Spread g n labels best x (get_or labels x 0) ⊎ ((best < far) × (best ≤ get_or labels x 0))) [
      | inl m ↦ absurd (subst (λ (q : List (ℕ × ℕ)). Waits q (weight_in (get_or labels x 0)) x) none (s.marked x xw m).1)
      | inr k ↦ k
    ]
  ]

  pub ends_empty : Search g n pin g.wiring.wires labels waiting queue touched best → queue ≡ [] → IsSearched g n pin labels best
  ends_empty s none = record { labels_len = s.labels_len; at_pin = s.at_pin; outside = s.outside; stands = s.stands; best_is = s.best_is; over = over_empty s none }

  pub same_search : (busy : ℕ) (l : List ℕ) (w : List Bool) (q : List (ℕ × ℕ)) (t : List ℕ) (b : ℕ) → Search g n pin busy labels waiting queue touched best
      → l ≡ labels → w ≡ waiting → q ≡ queue → t ≡ touched → b ≡ best → Search g n pin busy l w q t b
  same_search busy l w q t b s el ew eq et eb =
      subst (λ z. Search g n pin busy l w q t z) (sym eb) (subst (λ z. Search g n pin busy l w q z best) (sym et) (subst (λ z. Search g n pin busy l w z touched best) (sym eq)
      (subst (λ z. Search g n pin busy l z queue touched best) (sym ew) (subst (λ z. Search g n pin busy z waiting queue touched best) (sym el) s))))

-- the pin is labelled: nothing else is
pub begins : (g : Network) (n : NetRules) (pin : ℕ) (labels : List ℕ) (waiting : List Bool) (queue : List (ℕ × ℕ)) (touched : List ℕ) (best : ℕ) → pin < g.wiring.wires → (In n.tree pin → ⊥)
    → labels ≡ set (replicate g.wiring.wires far) pin 0 → waiting ≡ set (replicate g.wiring.wires false) pin true → Waits queue (weight_in 0) pin → ((entry : ℕ × ℕ) → In queue entry → (entry.1 ≡ pin) ⊎ In [] entry)
    → touched ≡ pin ∷ [] → best ≡ far → Search g n pin g.wiring.wires labels waiting queue touched best
begins g n pin labels waiting queue touched best pw out el ew waits others et eb =
    let ll : length labels ≡ g.wiring.wires = ap length el ∙ (length-set (replicate g.wiring.wires far) pin 0 ∙ length-replicate g.wiring.wires far) in
    let lw : length waiting ≡ g.wiring.wires = ap length ew ∙ (length-set (replicate g.wiring.wires false) pin true ∙ length-replicate g.wiring.wires false) in
    let fresh : pin < length (replicate g.wiring.wires far) = (let k = length-replicate g.wiring.wires far in omega arith) in
    let clear : pin < length (replicate g.wiring.wires false) = (let k = length-replicate g.wiring.wires false in omega arith) in
    let at : get_or labels pin 0 ≡ 0 = ap (λ xs. get_or xs pin 0) el ∙ get_or-set_same (replicate g.wiring.wires far) pin 0 0 fresh in
    let on : get_or waiting pin false ≡ true = ap (λ xs. get_or xs pin false) ew ∙ get_or-set_same (replicate g.wiring.wires false) pin true false clear in
    let other : (w : ℕ) → w < g.wiring.wires → w ≢ pin → get_or labels w 0 ≡ far = (λ w ww d. ap (λ xs. get_or xs w 0) el ∙ (get_or-set_other (replicate g.wiring.wires far) pin w 0 0 d ∙ get_or-replicate g.wiring.wires w far 0 ww)) in
    let only : (w : ℕ) → w < g.wiring.wires → get_or labels w 0 < far → w ≡ pin = (λ w ww h. elim (cases_eq w pin) as (λ _. w ≡ pin) [ inl e ↦ e | inr d ↦ (let o = other w ww d in absurd (omega arith)) ]) in
    record {
      labels_len = ll;
      waiting_len = lw;
      most = λ w ww. elim (cases_eq w pin) as (λ _. get_or labels w 0 ≤ far) [ inl e ↦ (let k : get_or labels w 0 ≡ get_or labels pin 0 = ap (λ z. get_or labels z 0) e in omega arith) | inr d ↦ (let o = other w ww d in omega arith) ];
      at_pin = at;
      outside = λ w ww h i. out (subst (In n.tree) (only w ww h) i);
      stands = λ w ww h. subst (λ z. Stands g n pin labels z (get_or labels z 0)) (sym (only w ww h)) (record { ends = λ _. here; goes = λ a e. absurd (omega arith) });
      marked = λ w ww. elim (cases_eq w pin) as (λ _. IsMarked labels waiting queue w) [
        | inl e ↦ subst (IsMarked labels waiting queue) (sym e) (λ _. ((let k : get_or labels pin 0 < far = omega arith in k), subst (λ v. Waits queue (weight_in v) pin) (sym at) waits))
        | inr d ↦ (λ m. absurd (false≢true (sym (ap (λ xs. get_or xs w false) ew ∙ (get_or-set_other (replicate g.wiring.wires false) pin w true false d ∙ get_or-replicate g.wiring.wires w false false ww)) ∙ m)))
      ];
      queued = λ entry i. elim (others entry i) as (λ _. entry.1 < g.wiring.wires) [ inl e ↦ (let k : entry.1 ≡ pin = e in omega arith) | inr j ↦ absurd j ];
      status = λ w ww h. inr (inl (ap (λ z. get_or waiting z false) (only w ww h) ∙ on));
      bounded = λ w ww h. let e : get_or labels w 0 ≡ get_or labels pin 0 = ap (λ z. get_or labels z 0) (only w ww h) in omega arith;
      known = λ w ww h. subst (λ ts. In ts w) (sym et) (inl (sym (only w ww h)));
      wires = λ w i. elim (subst (λ ts. In ts w) et i) as (λ _. w < g.wiring.wires) [ inl e ↦ (let k : pin ≡ w = e in omega arith) | inr j ↦ absurd j ];
      near = λ w i. elim (subst (λ ts. In ts w) et i) as (λ _. get_or labels w 0 < far) [ inl e ↦ (let k : get_or labels pin 0 ≡ get_or labels w 0 = ap (λ z. get_or labels z 0) e in omega arith) | inr j ↦ absurd j ];
      once = subst IsOnce (sym et) ((λ i. i), tt);
      best_is = record { most = omega arith; first = λ h. absurd (omega arith); joins = λ h. absurd (omega arith) };
    }

-- a wire with no label is noted at the end
pub noted_last : (labels touched : List ℕ) (w : ℕ) → far ≤ get_or labels w 0 → noted labels touched w ≡ touched ++ w ∷ []
noted_last labels touched w h = elim (cases_Bool (nat_lt (get_or labels w 0) far)) as (λ _. noted labels touched w ≡ touched ++ w ∷ []) [
  | inl e ↦ (let l : get_or labels w 0 < far = ltb-true (get_or labels w 0) far e in absurd (omega arith))
  | inr e ↦ ap (λ (q : Bool). cond q touched (touched ++ w ∷ [])) e
]

pub rest_keeps : (count : ℕ) (old new : Front) (w : ℕ) → w < count → IsAtRest count old → new.labels.items ≡ old.labels.items → new.waiting.items ≡ old.waiting.items → ((x : ℕ) → In new.touched.items x → (x ≡ w) ⊎ In old.touched.items x) → Keeps count new
rest_keeps count old new w wc rest el ew others = record {
  labels_len = ap length (el ∙ rest.labels) ∙ length-replicate count far;
  waiting_len = ap length (ew ∙ rest.waiting) ∙ length-replicate count false;
  wires = λ x i. elim (others x i) as (λ _. x < count) [ inl e ↦ (let k : x ≡ w = e in omega arith) | inr j ↦ absurd (subst (λ ts. In ts x) rest.touched j) ];
  known = λ x xc. inr (ap (λ xs. get_or xs x 0) (el ∙ rest.labels) ∙ get_or-replicate count x far 0 xc, ap (λ xs. get_or xs x false) (ew ∙ rest.waiting) ∙ get_or-replicate count x false false xc);
}
