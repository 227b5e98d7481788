-- The steps of a search, as the program takes them.
use Rattle.std.proofs.Common.{◌≡◌, ℕ, ◌+◌, ◌*◌, ◌≤◌, ◌<◌, ◌≢◌, Bool, true, false, List, length, set, get_or, sym, subst, ap, ◌∙◌, refl, arith, ◌⊎◌, inl, inr, get_or-set_other, cond}
use Rattle.std.proofs.lemmas.Bool.{cases_lt, cases_Bool, false≢true}
use Rattle.words.specs.Members.{In}
use Rattle.links.specs.Links.{here}
use Rattle.links.proofs.Walks.{reaches_from}
use Rattle.paths.specs.Wiring.{IsArcOf}
use Rattle.net_links.specs.Nets.{Network, NetRules, IsNet}
use Rattle.wire_queue.specs.Waiting.{Waits, Stay}
use Rattle.pin_search.specs.declared.front.Front.{Front}
use Rattle.pin_search.specs.Labels.{far, arcs_end, weight_in, first_in, label_of, label_by, IsTaken, GoesOn, Stands}
use Rattle.pin_search.specs.Searches.{AtMost, Spread, Joins, IsBest, Search, Moves}
use Rattle.pin_search.specs.Fronts.{Searches, Keeps, Turn, MovesTo, IsSmall, noted}
use Rattle.pin_search.proofs.Lowering.{lowered_search, lowered_moves}

pub first_of : (weight first : ℕ) → first < arcs_end → first_in (label_of weight first) ≡ first
first_of weight first h = omega arith

pub weight_of_label : (weight first : ℕ) → first < arcs_end → weight_in (label_of weight first) ≡ weight
weight_of_label weight first h = omega arith

module _ (g : Network) (n : NetRules) where
  pub taken_by : (a w : ℕ) → IsArcOf g.wiring a → g.wiring.sink a ≡ w → n.enterable w ≡ true → n.takes a ≡ true → IsTaken g n a
  taken_by a w arc e enters takes = (arc, ap (λ (b : Bool). cond b (n.takes a) false) (ap n.enterable e ∙ enters) ∙ takes)

  pub takes_of : (a : ℕ) → IsTaken g n a → n.takes a ≡ true
  takes_of a t = elim (cases_Bool (n.enterable (g.wiring.sink a))) as (λ _. n.takes a ≡ true) [
    | inl e ↦ sym (ap (λ (b : Bool). cond b (n.takes a) false) e) ∙ t.1
    | inr e ↦ absurd (false≢true (sym (ap (λ (b : Bool). cond b (n.takes a) false) e) ∙ t.1))
  ]

  pub enters_of : (a : ℕ) → IsTaken g n a → n.enterable (g.wiring.sink a) ≡ true
  enters_of a t = elim (cases_Bool (n.enterable (g.wiring.sink a))) as (λ _. n.enterable (g.wiring.sink a) ≡ true) [
    | inl e ↦ e
    | inr e ↦ absurd (false≢true (sym (ap (λ (b : Bool). cond b (n.takes a) false) e) ∙ t.1))
  ]

  -- a label goes back along a link
  pub stands_link : (pin : ℕ) (labels : List ℕ) (x w label : ℕ) → In (n.next x) w → Stands g n pin labels w label → Stands g n pin labels x label
  stands_link pin labels x w label l s = record {
    ends = λ e. reaches_from l (s.ends e);
    goes = λ a e. let h = s.goes a e in record { taken = h.taken; below = reaches_from l h.below; small = h.small; near = h.near; weight = h.weight };
  }

  -- a label goes back along an arc
  pub stands_arc : (pin : ℕ) (labels : List ℕ) (a w x label : ℕ) → IsTaken g n a → a < 4294967296 → g.wiring.sink a ≡ w → get_or labels w 0 < far → x ≡ g.wiring.source a
      → label ≡ label_by g n (get_or labels w 0) a → Stands g n pin labels x label
  stands_arc pin labels a w x label t small e near ex el =
      let first : first_in label ≡ a + 1 = ap first_in el ∙ first_of (weight_in (get_or labels w 0) + n.weight (g.wiring.sink a)) (a + 1) (omega arith) in
      let weight : weight_in label ≡ weight_in (get_or labels w 0) + n.weight (g.wiring.sink a) = ap weight_in el ∙ weight_of_label (weight_in (get_or labels w 0) + n.weight (g.wiring.sink a)) (a + 1) (omega arith) in
      let same : get_or labels (g.wiring.sink a) 0 ≡ get_or labels w 0 = ap (λ z. get_or labels z 0) e in
      let heavy : weight_in (get_or labels (g.wiring.sink a) 0) ≡ weight_in (get_or labels w 0) = ap weight_in same in
      subst (λ z. Stands g n pin labels z label) (sym ex)
      (record {
        ends = λ z. absurd (omega arith);
        goes = λ b f. subst (GoesOn g n labels (g.wiring.source a) label) (let k : a ≡ b = omega arith in k)
            (record { taken = t; below = here; small = small; near = omega arith; weight = omega arith });
      })

  -- an arc out of the tree is the best
  pub best_joins : (labels : List ℕ) (a w best : ℕ) → IsTaken g n a → In n.tree (g.wiring.source a) → a < 4294967296 → g.wiring.sink a ≡ w → get_or labels w 0 < far
      → best ≡ label_by g n (get_or labels w 0) a → best ≤ far → IsBest g n labels best
  best_joins labels a w best t tree small e near el most =
      let first : first_in best ≡ a + 1 = ap first_in el ∙ first_of (weight_in (get_or labels w 0) + n.weight (g.wiring.sink a)) (a + 1) (omega arith) in
      let weight : weight_in best ≡ weight_in (get_or labels w 0) + n.weight (g.wiring.sink a) = ap weight_in el ∙ weight_of_label (weight_in (get_or labels w 0) + n.weight (g.wiring.sink a)) (a + 1) (omega arith) in
      let same : get_or labels (g.wiring.sink a) 0 ≡ get_or labels w 0 = ap (λ z. get_or labels z 0) e in
      let heavy : weight_in (get_or labels (g.wiring.sink a) 0) ≡ weight_in (get_or labels w 0) = ap weight_in same in
      record {
        most = most;
        first = λ _. omega arith;
        joins = λ _ b f. subst (Joins g n labels best) (let k : a ≡ b = omega arith in k)
            (record { taken = t; from_tree = tree; small = small; near = omega arith; weight = omega arith });
      }

  module _ (pin busy : ℕ) where
    -- what is to be cleared, at any time
    pub kept : (old new : Front) → Searches g n pin busy old → new.labels.items ≡ old.labels.items → new.waiting.items ≡ old.waiting.items
        → ((x : ℕ) → In old.touched.items x → In new.touched.items x) → ((x : ℕ) → In new.touched.items x → x < g.wiring.wires) → Keeps g.wiring.wires new
    kept old new s el ew stays wires = record {
      labels_len = ap length el ∙ s.labels_len;
      waiting_len = ap length ew ∙ s.waiting_len;
      wires = wires;
      known = λ w ww. elim (cases_lt (get_or old.labels.items w 0) far) as (λ _. In new.touched.items w ⊎ ((get_or new.labels.items w 0 ≡ far) × (get_or new.waiting.items w false ≡ false))) [
        | inl l ↦ inl (stays w (s.known w ww l))
        | inr l ↦ (let m = s.most w ww in inr (
          ap (λ xs. get_or xs w 0) el ∙ (let k : get_or old.labels.items w 0 ≡ far = omega arith in k),
          ap (λ xs. get_or xs w false) ew ∙ (elim (cases_Bool (get_or old.waiting.items w false)) as (λ _. get_or old.waiting.items w false ≡ false) [
            | inl t ↦ (let k = (s.marked w ww t).0 in absurd (omega arith))
            | inr f ↦ f
          ]),
        ))
      ];
    }

    pub searches_keeps : (front : Front) → Searches g n pin busy front → Keeps g.wiring.wires front
    searches_keeps front s = kept front front s refl refl (λ x i. i) s.wires

    pub turn_taken : (k : ℕ) (old new : Front) (w label : ℕ) → Turn g n pin busy k old → w < g.wiring.wires → (In n.tree w → ⊥) → k ≤ label → label < far → IsSmall old label
        → Stands g n pin old.labels.items w label → label < get_or old.labels.items w 0
        → new.labels.items ≡ set old.labels.items w label → new.waiting.items ≡ set old.waiting.items w true → new.touched.items ≡ noted old.labels.items old.touched.items w → new.best ≡ old.best
        → Waits new.queue (weight_in label) w → Stay old.queue new.queue → ((entry : ℕ × ℕ) → In new.queue entry → (entry.1 ≡ w) ⊎ In old.queue entry) → Turn g n pin busy k new
    turn_taken k old new w label t ww out up near small st low el ew et eb waits stay others =
        let s = lowered_search g n pin busy old.labels.items old.waiting.items old.queue old.touched.items old.best w label new.queue t.search ww out near small st low waits stay others in
        let other : busy ≢ w = (λ e. let f : get_or old.labels.items busy 0 ≡ get_or old.labels.items w 0 = ap (λ z. get_or old.labels.items z 0) e in let i = t.label_is in absurd (omega arith)) in
        record {
          search = subst (λ b. Search g n pin busy new.labels.items new.waiting.items new.queue new.touched.items b) (sym eb)
              (subst (λ ts. Search g n pin busy new.labels.items new.waiting.items new.queue ts old.best) (sym et)
              (subst (λ ws. Search g n pin busy new.labels.items ws new.queue (noted old.labels.items old.touched.items w) old.best) (sym ew)
              (subst (λ ls. Search g n pin busy ls (set old.waiting.items w true) new.queue (noted old.labels.items old.touched.items w) old.best) (sym el) s)));
          wire = t.wire;
          label_is = ap (λ xs. get_or xs busy 0) el ∙ (get_or-set_other old.labels.items w busy label 0 other ∙ t.label_is);
          near = t.near;
        }

    pub moves_taken : (old new : Front) (w label : ℕ) → Searches g n pin busy old → w < g.wiring.wires → label < get_or old.labels.items w 0 → length new.queue ≤ length old.queue + 1
        → new.labels.items ≡ set old.labels.items w label → new.touched.items ≡ noted old.labels.items old.touched.items w → new.best ≡ old.best → MovesTo old new
    moves_taken old new w label s ww low count el et eb =
        let m = lowered_moves g n pin busy old.labels.items old.waiting.items old.queue old.touched.items old.best w label new.queue s ww low count in
        subst (λ b. Moves old.labels.items old.queue old.touched.items old.best new.labels.items new.queue new.touched.items b) (sym eb)
        (subst (λ ts. Moves old.labels.items old.queue old.touched.items old.best new.labels.items new.queue ts old.best) (sym et)
        (subst (λ ls. Moves old.labels.items old.queue old.touched.items old.best ls new.queue (noted old.labels.items old.touched.items w) old.best) (sym el) m))

pub noted_wires : (g : Network) (w : ℕ) (touched : List ℕ) → w < g.wiring.wires → ((x : ℕ) → In touched x → x < g.wiring.wires) → (x : ℕ) → (x ≡ w) ⊎ In touched x → x < g.wiring.wires
noted_wires g w touched ww wires x h = elim h as (λ _. x < g.wiring.wires) [ inl e ↦ (let k : x ≡ w = e in omega arith) | inr i ↦ wires x i ]

-- a wire was spread from along all its links and arcs
pub spread_all : (g : Network) (n : NetRules) (labels : List ℕ) (best w label : ℕ) → IsNet g n → w < g.wiring.wires → ((x : ℕ) → In (n.drivers w) x → AtMost n labels best x label)
    → ((a : ℕ) → In (g.ins w) a → IsTaken g n a → AtMost n labels best (g.wiring.source a) (label_by g n label a)) → Spread g n labels best w label
spread_all g n labels best w label net ww links arcs = record {
  links = λ x xw l. links x ((net.drivers w x ww).1 (xw, l));
  arcs = λ a t e. arcs a ((net.ins w a ww).1 (t.0, e)) t;
}

-- the label over an arc, as the program makes it
pub label_is : (g : Network) (n : NetRules) (a w k weight number label : ℕ) → g.wiring.sink a ≡ w → weight ≡ weight_in k + n.weight w → number ≡ a → label ≡ label_of weight (number + 1) → label ≡ label_by g n k a
label_is g n a w k weight number label e ew en el =
    let f : n.weight (g.wiring.sink a) ≡ n.weight w = ap n.weight e in omega arith

pub small_label : (weight number label : ℕ) (touched : List ℕ) → label ≡ label_of weight (number + 1) → number < 4294967296 → weight ≤ (length touched + 1) * 4294967295 → length touched < 4294967296 → label < far
small_label weight number label touched e small w few = omega arith
