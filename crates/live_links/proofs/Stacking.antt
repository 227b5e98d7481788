-- What is kept of links that were added, once one is added or taken back.
use Rattle.std.proofs.Common.{◌≡◌, ◌≢◌, ℕ, zero, suc, ◌+◌, ◌-◌, ◌<◌, ◌≤◌, Bool, cond, List, [], ◌∷◌, ◌++◌, Option, Some, None, length, get_or, take, refl, sym, ap, subst, ◌∙◌, inl, inr, arith}
use Rattle.std.specs.Prelude.{◌==◌}
use Rattle.std.specs.List.{count_by}
use Rattle.std.proofs.lemmas.Bool.{cases_eq, eq-eqb, ne_eqb}
use Rattle.std.proofs.lemmas.List.{length-set, length_push, get_or-set_same, get_or-set_other, length-take-le}
use Rattle.std.proofs.lemmas.List.Sums.{sum_by-cons}
use Rattle.words.specs.Members.{In}
use Rattle.links.specs.Links.{Link, Routing}
use Rattle.open_rows.specs.Rows.{Rows, popped, pushed}
use Rattle.wire_links.specs.Rows.{routing_of_rows}
use Rattle.live_links.specs.declared.added.AddedLink.{AddedLink}
use Rattle.live_links.specs.Feeding.{cleared}
use Rattle.live_links.specs.Joined.{AreCounted, CanGrow, HasGrown, IsJoined, IsLinkStack, IsStacked, added_to, base_drivers, base_next, base_of, grown_rows, links_of, more_of, shrunk_rows, stacked}
use Rattle.live_links.specs.Live.{IsAddable, with_link}
use Rattle.live_links.proofs.Joining.{Takes, grows, sink_unfed, source_below, walk_begins, within_grown}
use Rattle.live_links.proofs.Pushing.{filled_by, popped_pushed, pushed_other, pushed_row, row_below}

-- the present links are joined
pub joined_now : (base : Routing) (added : List AddedLink) (drivers next : List (List ℕ)) (feeds : List (Option ℕ)) → IsStacked base added drivers next feeds
    → IsJoined (added_to base added) drivers next feeds
joined_now base [] drivers next feeds s = s
joined_now base (a ∷ rest) drivers next feeds s = s.0

-- there are no more or fewer rows
pub length-base_next : (added : List AddedLink) (next : List (List ℕ)) → length (base_next added next) ≡ length next
length-base_next [] next = refl
length-base_next (a ∷ rest) next =
    length-base_next rest (popped next a.link.source) ∙ length-set next a.link.source (take (length (get_or next a.link.source []) - 1) (get_or next a.link.source []))

length-more_of : (rooms : List ℕ) (rows : List (List ℕ)) → length (more_of rooms rows) ≤ length rows
length-more_of [] rows = omega arith
length-more_of (r ∷ rs) [] = omega arith
length-more_of (r ∷ rs) (row ∷ rows) = let m = length-more_of rs rows in omega arith

more_at : (rooms : List ℕ) (rows : List (List ℕ)) (x n : ℕ) → n < get_or (more_of rooms rows) x 0 → length (get_or rows x []) + n < get_or rooms x 0
more_at [] rows x n h = absurd (omega arith)
more_at (r ∷ rs) [] x n h = absurd (omega arith)
more_at (r ∷ rs) (row ∷ rows) zero n h = omega arith
more_at (r ∷ rs) (row ∷ rows) (suc x) n h = more_at rs rows x n h

-- a link that is added is counted
counted_one : (l : Link) (ls : List Link) (x : ℕ) → l.source ≡ x → count_by (λ (a : Link). a.source == x) (l ∷ ls) ≡ suc (count_by (λ (a : Link). a.source == x) ls)
counted_one l ls x is =
    let f : Link → ℕ = λ a. cond (a.source == x) 1 0 in
    let cons = sum_by-cons f l ls in
    let one : f l ≡ 1 = ap (λ (b : Bool). let n : ℕ = cond b 1 0 in n) (eq-eqb l.source x is) in
    omega (arith, cons, one)

counted_other : (l : Link) (ls : List Link) (x : ℕ) → l.source ≢ x → count_by (λ (a : Link). a.source == x) (l ∷ ls) ≡ count_by (λ (a : Link). a.source == x) ls
counted_other l ls x other =
    let f : Link → ℕ = λ a. cond (a.source == x) 1 0 in
    let cons = sum_by-cons f l ls in
    let none : f l ≡ 0 = ap (λ (b : Bool). let n : ℕ = cond b 1 0 in n) (ne_eqb l.source x other) in
    omega (arith, cons, none)

-- a link is taken back
module _ (a : AddedLink) (rest : List AddedLink) (drivers next : Rows ℕ) (feeds : List (Option ℕ)) (outputs : List ℕ) (keeps : IsLinkStack (a ∷ rest) drivers next feeds outputs) where
  joined_top : IsJoined (added_to (base_of (a ∷ rest) drivers outputs) (a ∷ rest)) drivers.rows next.rows feeds
  joined_top = keeps.joined.0

  pub drivers_filled : 0 < length (get_or drivers.rows a.link.sink [])
  drivers_filled = filled_by (get_or drivers.rows a.link.sink []) a.link.source ((joined_top.has_drivers a.link.sink a.link.source).0 (inl refl))

  pub next_filled : 0 < length (get_or next.rows a.link.source [])
  next_filled = filled_by (get_or next.rows a.link.source []) a.link.sink ((joined_top.has_next a.link.source a.link.sink).0 (inl refl))

  source_known : a.link.source < length next.rows
  source_known = row_below next.rows a.link.source a.link.sink ((joined_top.has_next a.link.source a.link.sink).0 (inl refl))

  shorter_row : length (get_or (popped next.rows a.link.source) a.link.source []) + 1 ≡ length (get_or next.rows a.link.source [])
  shorter_row =
      let row : List ℕ = get_or next.rows a.link.source [] in
      let same = ap length (get_or-set_same next.rows a.link.source (take (length row - 1) row) [] source_known) in
      let long = length-take-le (length row - 1) row (omega arith) in
      let filled = next_filled in
      omega arith

  counted_below : AreCounted rest (popped next.rows a.link.source)
  counted_below x = let h = keeps.counted x in elim (cases_eq x a.link.source) [
    | inl e ↦ (let one = counted_one a.link (links_of rest) x (sym e) in
        let short = shorter_row in
        let here = ap (λ z. length (get_or (popped next.rows a.link.source) z [])) e in
        let there = ap (λ z. length (get_or next.rows z [])) e in omega arith)
    | inr other ↦ (let none = counted_other a.link (links_of rest) x (λ s. other (sym s)) in
        let same = ap length (get_or-set_other next.rows a.link.source x (take (length (get_or next.rows a.link.source []) - 1) (get_or next.rows a.link.source [])) [] other) in omega arith)
  ]

  pub taken_back : IsLinkStack rest (shrunk_rows drivers a.link.sink) (shrunk_rows next a.link.source) (cleared a.fed.items feeds) outputs
  taken_back = record {
    joined = keeps.joined.1;
    counted = counted_below;
    roomy = λ w below. keeps.roomy w (let l = length-set drivers.rows a.link.sink (take (length (get_or drivers.rows a.link.sink []) - 1) (get_or drivers.rows a.link.sink [])) in omega arith);
  }

-- a link is added
module _ (rest : List AddedLink) (drivers next : Rows ℕ) (feeds : List (Option ℕ)) (outputs : List ℕ) (keeps : IsLinkStack rest drivers next feeds outputs)
    (l : Link) (may : IsAddable (stacked rest drivers next outputs) l) (feed : ℕ) (is : get_or feeds l.source None ≡ Some feed) where
  joined_old : IsJoined (added_to (base_of rest drivers outputs) rest) drivers.rows next.rows feeds
  joined_old = joined_now (base_of rest drivers outputs) rest drivers.rows next.rows feeds keeps.joined

  takes : Takes (added_to (base_of rest drivers outputs) rest) l.source l.sink
  takes = record { fed = may.fed; undriven = may.undriven; one_driver = may.one_driver; unfed = may.unfed }

  sink_known : l.sink < length drivers.rows
  sink_known =
      let k = may.known in
      let m = length-more_of next.room (base_next rest next.rows) in
      let b = length-base_next rest next.rows in
      let n = joined_old.next_long in
      omega arith

  source_known_now : l.source < length next.rows
  source_known_now = source_below (added_to (base_of rest drivers outputs) rest) l.source l.sink drivers.rows next.rows feeds joined_old takes feed is sink_known

  driver_row : length (get_or drivers.rows l.sink []) ≡ 0
  driver_row = none_long (get_or drivers.rows l.sink []) (λ y i. may.undriven y ((joined_old.has_drivers l.sink y).1 i))
    where
      none_long : (xs : List ℕ) → ((y : ℕ) → In xs y → ⊥) → length xs ≡ 0
      none_long [] none = refl
      none_long (x ∷ xs) none = absurd (none x (inl refl))

  pub can_grow : CanGrow drivers next feeds l feed
  can_grow = record {
    drivers_known = sink_known;
    next_known = source_known_now;
    drivers_room = let r = keeps.roomy l.sink sink_known in let z = driver_row in omega arith;
    next_room = let m = more_at next.room (base_next rest next.rows) l.source (count_by (λ (a : Link). a.source == l.source) (links_of rest)) may.room in let c = keeps.counted l.source in omega arith;
    sink = let k = sink_known in let f = joined_old.feeds_long in omega arith;
    unfed = sink_unfed (added_to (base_of rest drivers outputs) rest) l.source l.sink drivers.rows next.rows feeds joined_old takes feed is sink_known;
    within = within_grown (added_to (base_of rest drivers outputs) rest) l.source l.sink drivers.rows next.rows feeds joined_old takes feed is sink_known;
    long = joined_old.feeds_long ∙ sym joined_old.next_long;
    begins = (outputs, walk_begins (added_to (base_of rest drivers outputs) rest) l.source l.sink drivers.rows next.rows feeds joined_old takes feed is sink_known);
  }

  module _ (feeds_now : List (Option ℕ)) (a : AddedLink) (grew : HasGrown next feeds l feed feeds_now a) where
    drivers_back : popped (pushed drivers.rows l.sink l.source) a.link.sink ≡ drivers.rows
    drivers_back = ap (λ (z : Link). popped (pushed drivers.rows l.sink l.source) z.sink) grew.link ∙ popped_pushed drivers.rows l.sink l.source sink_known

    next_back : popped (pushed next.rows l.source l.sink) a.link.source ≡ next.rows
    next_back = ap (λ (z : Link). popped (pushed next.rows l.source l.sink) z.source) grew.link ∙ popped_pushed next.rows l.source l.sink source_known_now

    base_back : base_of (a ∷ rest) (grown_rows drivers l.sink l.source) outputs ≡ base_of rest drivers outputs
    base_back = ap (λ (d : List (List ℕ)). routing_of_rows (base_drivers rest d) outputs) drivers_back

    joined_grown : IsJoined (added_to (base_of rest drivers outputs) (a ∷ rest)) (pushed drivers.rows l.sink l.source) (pushed next.rows l.source l.sink) feeds_now
    joined_grown =
        subst (λ (z : Link). IsJoined (record { links = z ∷ (links_of rest ++ (base_of rest drivers outputs).links); outputs = outputs }) (pushed drivers.rows l.sink l.source) (pushed next.rows l.source l.sink) feeds_now) (sym grew.link)
        (grows (added_to (base_of rest drivers outputs) rest) l.source l.sink drivers.rows next.rows feeds joined_old takes feed is sink_known feeds_now grew.long
        (grew.walk outputs (walk_begins (added_to (base_of rest drivers outputs) rest) l.source l.sink drivers.rows next.rows feeds joined_old takes feed is sink_known)))

    below_grown : IsStacked (base_of rest drivers outputs) rest (popped (pushed drivers.rows l.sink l.source) a.link.sink) (popped (pushed next.rows l.source l.sink) a.link.source) (cleared a.fed.items feeds_now)
    below_grown =
        let b = base_of rest drivers outputs in
        subst (λ (d : List (List ℕ)). IsStacked b rest d (popped (pushed next.rows l.source l.sink) a.link.source) (cleared a.fed.items feeds_now)) (sym drivers_back)
        (subst (λ (n : List (List ℕ)). IsStacked b rest drivers.rows n (cleared a.fed.items feeds_now)) (sym next_back)
        (subst (λ (f : List (Option ℕ)). IsStacked b rest drivers.rows next.rows f) (sym grew.undo) keeps.joined))

    counted_grown : AreCounted (a ∷ rest) (pushed next.rows l.source l.sink)
    counted_grown x =
        let h = keeps.counted x in
        let back = ap (λ (n : List (List ℕ)). length (get_or (base_next rest n) x [])) next_back in
        elim (cases_eq x l.source) [
          | inl e ↦ (let one = counted_one a.link (links_of rest) x (ap (λ (z : Link). z.source) grew.link ∙ sym e) in
              let row = ap length (ap (λ z. get_or (pushed next.rows l.source l.sink) z []) e ∙ pushed_row next.rows l.source l.sink source_known_now) in
              let long = length_push (get_or next.rows l.source []) l.sink in
              let there = ap (λ z. length (get_or next.rows z [])) e in omega arith)
          | inr other ↦ (let none = counted_other a.link (links_of rest) x (λ s. other (sym s ∙ ap (λ (z : Link). z.source) grew.link)) in
              let same = ap length (pushed_other next.rows l.source l.sink x other) in omega arith)
        ]

    -- what is kept with the link
    pub added_on : IsLinkStack (a ∷ rest) (grown_rows drivers l.sink l.source) (grown_rows next l.source l.sink) feeds_now outputs
    added_on = record {
      joined = subst (λ (b : Routing). IsStacked b (a ∷ rest) (pushed drivers.rows l.sink l.source) (pushed next.rows l.source l.sink) feeds_now) (sym base_back) (joined_grown, below_grown);
      counted = counted_grown;
      roomy = λ w below. keeps.roomy w (let m = length-set drivers.rows l.sink (get_or drivers.rows l.sink [] ++ l.source ∷ []) in omega arith);
    }

    -- the value has the link
    pub value_grown : stacked (a ∷ rest) (grown_rows drivers l.sink l.source) (grown_rows next l.source l.sink) outputs ≡ with_link (stacked rest drivers next outputs) l
    value_grown =
        let more : List ℕ = more_of next.room (base_next rest (popped (pushed next.rows l.source l.sink) a.link.source)) in
        ap (λ (b : Routing). record { base = b; links = a.link ∷ links_of rest; more = more }) base_back
        ∙ (ap (λ (z : Link). record { base = base_of rest drivers outputs; links = z ∷ links_of rest; more = more }) grew.link
        ∙ ap (λ (n : List (List ℕ)). record { base = base_of rest drivers outputs; links = l ∷ links_of rest; more = more_of next.room (base_next rest n) }) next_back)
