-- All nodes in order, or a cycle.
use Rattle.std.proofs.Common.{◌≡◌, ℕ, ◌+◌, ◌<◌, ◌⊎◌, List, [], ◌∷◌, ◌++◌, length, get_or, ap, ◌∙◌, sym, subst, inl, inr, arith}
use Rattle.std.specs.List.{All, range_with_len}
use Rattle.std.proofs.lemmas.List.FromFn.{length-map-range_with_len, map-range_with_len_more}
use Rattle.std.proofs.lemmas.List.{map-id}
use Rattle.words.specs.Members.{In}
use Rattle.links.proofs.Members.{is_in, same_number}
use Rattle.graph_lists.proofs.BitsOf.{range_from, range_to}
use Rattle.grouped.specs.Rows.{grouped, row_of}
use Rattle.cycle_order.specs.Orders.{IsLeastOnCycle, IsOnCycle, IsOrder, Leads}
use Rattle.cycle_order.specs.Trials.{AreOpposite, IsNext, IsTrimmed}
use Rattle.cycle_order.proofs.Pigeons.{kept_on_cycle}
use Rattle.cycle_order.proofs.Rowed.{each_is, leads_next, next_leads, opposite}
use Rattle.cycle_order.proofs.Turns.{cycle_by, none_on_cycle, turned}

-- where lists are trimmed the one way, none of them reaches itself
pub passed_free : (next before : List (List ℕ)) (nodes : List ℕ) → AreOpposite next before → IsTrimmed before nodes → (v : ℕ) → In nodes v → IsOnCycle (IsNext next) v → ⊥
passed_free next before nodes both trim v i cycle =
    none_on_cycle (λ a b. IsNext before b a) nodes trim.turn v i (cycle_by {Step = IsNext next} {Other = λ a b. IsNext before b a} v both.back cycle)

-- and the other way
pub ended_free : (next : List (List ℕ)) (nodes : List ℕ) → IsTrimmed next nodes → (v : ℕ) → In nodes v → IsOnCycle (IsNext next) v → ⊥
ended_free next nodes trim v i cycle = none_on_cycle (λ a b. IsNext next b a) nodes trim.turn v i (turned (IsNext next) v cycle)

-- rows both ways, the other way round
pub other_way : (next before : List (List ℕ)) → AreOpposite next before → AreOpposite before next
other_way next before both = record {
  long = sym both.long;
  next_within = both.before_within;
  before_within = both.next_within;
  back = λ u v i. both.forth v u i;
  forth = λ u v i. both.back v u i;
}

-- where no node reaches itself, all are listed
all_listed : (next before : List (List ℕ)) (nodes : List ℕ) → AreOpposite next before → IsTrimmed before nodes → ((v : ℕ) → v < length next → IsOnCycle (IsNext next) v → ⊥)
    → (v : ℕ) → v < length before → In nodes v
all_listed next before nodes both trim none v known = elim (is_in same_number nodes v) as (λ _. In nodes v) [
  | inl i ↦ i
  | inr out ↦ absurd (found (kept_on_cycle (λ a b. IsNext before b a) (λ x. In nodes x → ⊥) test (range_with_len 0 (length before)) led v (range_to 0 (length before) v (omega arith) (omega (arith, known))) out))
]
  where
    test : (x : ℕ) → (In nodes x → ⊥) ⊎ ((In nodes x → ⊥) → ⊥)
    test x = elim (is_in same_number nodes x) as (λ _. (In nodes x → ⊥) ⊎ ((In nodes x → ⊥) → ⊥)) [ inl i ↦ inr (λ f. f i) | inr f ↦ inl f ]

    led : (x : ℕ) → In (range_with_len 0 (length before)) x → (In nodes x → ⊥) → (p : ℕ) × (In (range_with_len 0 (length before)) p × ((In nodes p → ⊥) × IsNext before x p))
    led x i out =
        let b = (range_from 0 (length before) x i).1 in
        elim (trim.left x (omega (arith, b))) as (λ _. (p : ℕ) × (In (range_with_len 0 (length before)) p × ((In nodes p → ⊥) × IsNext before x p))) [
          | inl j ↦ absurd (out j)
          | inr w ↦ (let l = both.before_within x w.0 w.1.0 in (w.0, (range_to 0 (length before) w.0 (omega arith) (omega (arith, l)), (w.1.1, w.1.0))))
        ]

    found : ((z : ℕ) × IsOnCycle (λ a b. IsNext before b a) z) → ⊥
    found z =
        let cycle = cycle_by {Step = λ a b. IsNext before b a} {Other = IsNext next} z.0 (λ a b i. both.forth a b i) z.1 in
        let l = both.next_within in
        none z.0 (low z.0 cycle) cycle
      where
        low : (y : ℕ) → IsOnCycle (IsNext next) y → y < length next
        low y cycle = (let i = both.before_within cycle.0 y (both.back y cycle.0 cycle.1.0) in let e = both.long in omega (arith, i, e))

-- the nodes below a number, and one more
pub range_more : (n : ℕ) → range_with_len 0 (n + 1) ≡ range_with_len 0 n ++ n ∷ []
range_more n =
    sym (map-id (range_with_len 0 (n + 1)))
    ∙ (map-range_with_len_more (λ (k : ℕ). k) 0 n n (omega arith) ∙ ap (λ (zs : List ℕ). zs ++ n ∷ []) (map-id (range_with_len 0 n)))

-- the rows of links both ways
pub record AreRows (count : ℕ) (sources sinks : List ℕ) (next before : List (List ℕ)) : Type 0 where
  pub both : AreOpposite next before
  pub long : length before ≡ count
  pub to_rows : (u v : ℕ) → Leads sources sinks u v → IsNext next u v
  pub to_links : (u v : ℕ) → IsNext next u v → Leads sources sinks u v

rows_of : (count : ℕ) (sources sinks : List ℕ) → ((u : ℕ) → In sources u → u < count) → ((u : ℕ) → In sinks u → u < count)
    → AreRows count sources sinks (grouped (λ (n : ℕ). n) count sources sinks) (grouped (λ (n : ℕ). n) count sinks sources)
rows_of count sources sinks low lows = record {
  both = opposite count sources sinks low lows;
  long = length-map-range_with_len (row_of (λ (n : ℕ). n) sinks sources) 0 count;
  to_rows = leads_next count sources sinks low;
  to_links = next_leads count sources sinks;
}

-- the same of groupings, whatever they are called
pub rows_are : (count : ℕ) (sources sinks : List ℕ) (next before : List (List ℕ)) → All (λ (u : ℕ). u < count) sources → All (λ (u : ℕ). u < count) sinks
    → next ≡ grouped (λ (n : ℕ). n) count sources sinks → before ≡ grouped (λ (n : ℕ). n) count sinks sources → AreRows count sources sinks next before
rows_are count sources sinks next before low lows n b =
    subst (λ (xs : List (List ℕ)). AreRows count sources sinks xs before) (sym n)
    (subst (λ (xs : List (List ℕ)). AreRows count sources sinks (grouped (λ (k : ℕ). k) count sources sinks) xs) (sym b)
    (rows_of count sources sinks (each_is (λ u. u < count) sources low) (each_is (λ u. u < count) sinks lows)))

module _ (count : ℕ) (sources sinks : List ℕ) (next before : List (List ℕ)) (rows : AreRows count sources sinks next before) where
  -- the list of all nodes has those that have rows
  pub all_known : (all : List ℕ) → all ≡ range_with_len 0 count → (v : ℕ) → In all v → v < length before
  all_known all is v i = let l = (range_from 0 count v (subst (λ (zs : List ℕ). In zs v) is i)).1 in let e = rows.long in omega (arith, l, e)

  pub all_there : (all : List ℕ) → all ≡ range_with_len 0 count → (v : ℕ) → v < length before → In all v
  all_there all is v l = let e = rows.long in subst (λ (zs : List ℕ). In zs v) (sym is) (range_to 0 count v (omega arith) (omega (arith, l, e)))

  by_rows : (v : ℕ) → IsOnCycle (Leads sources sinks) v → IsOnCycle (IsNext next) v
  by_rows v cycle = cycle_by {Step = Leads sources sinks} {Other = IsNext next} v rows.to_rows cycle

  pub least_by_links : (v : ℕ) → IsLeastOnCycle (IsNext next) v → IsLeastOnCycle (Leads sources sinks) v
  least_by_links v l = record {
    on = cycle_by {Step = IsNext next} {Other = Leads sources sinks} v rows.to_links l.on;
    least = λ u cycle. l.least u (by_rows u cycle);
  }

  -- a node that reaches itself is below the count
  pub none_by_links : ((v : ℕ) → v < length next → IsOnCycle (IsNext next) v → ⊥) → (v : ℕ) → IsOnCycle (Leads sources sinks) v → ⊥
  none_by_links none v cycle =
      let by = by_rows v cycle in
      let l = rows.both.before_within by.0 v (rows.both.back v by.0 by.1.0) in
      let e = rows.both.long in
      none v (omega (arith, l, e)) by

  pub is_order : (nodes : List ℕ) → IsTrimmed before nodes → ((v : ℕ) → v < length next → IsOnCycle (IsNext next) v → ⊥) → IsOrder count (Leads sources sinks) nodes
  is_order nodes trim none =
      let long = rows.long in
      record {
        all = λ v. (
          (λ i. let l = trim.within v i in omega (arith, l, long)),
          (λ l. all_listed next before nodes rows.both trim none v (omega (arith, l, long))),
        );
        turn = record {
          apart = trim.turn.apart;
          after = λ k u h s. trim.turn.after k u h (rows.both.back u (get_or nodes k 0) (rows.to_rows u (get_or nodes k 0) s));
        };
      }
