-- Lists of nodes in turn.
use Rattle.std.proofs.Common.{◌≡◌, ℕ, ◌<◌, ◌≤◌, List, [], ◌∷◌, ◌++◌, length, get_or, take, drop, sym, subst, ◌∙◌, inl, inr, arith}
use Rattle.std.proofs.lemmas.Bool.{cases_lt}
use Rattle.std.proofs.lemmas.List.{get_or_append_left, get_or_at, get_or-take, length-append, length-take-le, take-append-drop, take-append-le, take-take, take_at}
use Rattle.words.specs.Members.{In}
use Rattle.links.specs.Links.{Reaches, here, onto}
use Rattle.links.proofs.Members.{in_left}
use Rattle.links.proofs.Walks.{reaches_by, reaches_from}
use Rattle.net_links.proofs.Listed.{place_of}
use Rattle.cycle_order.specs.Orders.{IsInTurn, IsLeastOnCycle, IsOnCycle}

pub none_in_turn : (Step : ℕ → ℕ → Type 0) → IsInTurn Step []
none_in_turn Step = record { apart = λ k h. absurd (omega arith); after = λ k u h. absurd (omega arith) }

-- what stands before a place, and at it, when a list has one element more
before_more : (xs : List ℕ) (v k : ℕ) → k < length xs → (take k (xs ++ v ∷ []) ≡ take k xs) × (get_or (xs ++ v ∷ []) k 0 ≡ get_or xs k 0)
before_more xs v k h = (take-append-le k xs (v ∷ []) (omega arith), get_or_append_left xs (v ∷ []) 0 k h)

at_end : (xs : List ℕ) (v k : ℕ) → k ≡ length xs → (take k (xs ++ v ∷ []) ≡ xs) × (get_or (xs ++ v ∷ []) k 0 ≡ v)
at_end xs v k e = (take_at xs (v ∷ []) k (sym e), get_or_at xs v [] 0 k (sym e))

-- a node comes behind all that lead to it
pub one_more_in_turn : (Step : ℕ → ℕ → Type 0) (xs : List ℕ) (v : ℕ) → IsInTurn Step xs → (In xs v → ⊥) → ((u : ℕ) → Step u v → In xs u) → IsInTurn Step (xs ++ v ∷ [])
one_more_in_turn Step xs v turn apart after =
    let long = length-append xs (v ∷ []) in
    record {
      apart = λ k h i. elim (cases_lt k (length xs)) [
        | inl l ↦ (let m = before_more xs v k l in turn.apart k l (subst (In (take k xs)) m.1 (subst (λ zs. In zs (get_or (xs ++ v ∷ []) k 0)) m.0 i)))
        | inr past ↦ (let m = at_end xs v k (omega (arith, long)) in apart (subst (In xs) m.1 (subst (λ zs. In zs (get_or (xs ++ v ∷ []) k 0)) m.0 i)))
      ];
      after = λ k u h s. elim (cases_lt k (length xs)) [
        | inl l ↦ (let m = before_more xs v k l in subst (λ zs. In zs u) (sym m.0) (turn.after k u l (subst (Step u) m.1 s)))
        | inr past ↦ (let m = at_end xs v k (omega (arith, long)) in subst (λ zs. In zs u) (sym m.0) (after u (subst (Step u) m.1 s)))
      ];
    }

-- what stands before a place stands before a later one
in_longer : (xs : List ℕ) (j k x : ℕ) → j ≤ k → In (take j xs) x → In (take k xs) x
in_longer xs j k x le i =
    subst (λ zs. In zs x) (take-append-drop j (take k xs))
    (in_left (take j (take k xs)) (drop j (take k xs)) x (subst (λ zs. In zs x) (sym (take-take j k xs le)) i))

-- the last step of a cycle
last_step : {Step : ℕ → ℕ → Type 0} {u v : ℕ} → Step v u → Reaches Step u v → (b : ℕ) × (Step b v × Reaches Step v b)
last_step {Step} {u} s here = (u, (s, here))
last_step {Step} {u} s (onto {b} r e) = (b, (e, reaches_from s r))

module _ (Step : ℕ → ℕ → Type 0) (xs : List ℕ) (turn : IsInTurn Step xs) where
  -- what leads to a node before a place stands before it
  before_too : (k u v : ℕ) → k ≤ length xs → In (take k xs) v → Step u v → In (take k xs) u
  before_too k u v le i s =
      let p = place_of (take k xs) v i in
      let short = length-take-le k xs le in
      let b = p.below in
      let lk : p.place < k = omega (arith, short, b) in
      let at : get_or xs p.place 0 ≡ v = sym (get_or-take k xs p.place 0 lk) ∙ p.is in
      in_longer xs p.place k u (omega arith) (turn.after p.place u (omega arith) (subst (Step u) (sym at) s))

  reached_too : (k : ℕ) → k ≤ length xs → {u v : ℕ} → Reaches Step u v → In (take k xs) v → In (take k xs) u
  reached_too k le here i = i
  reached_too k le (onto {b} r s) i = reached_too k le r (before_too k b _ le i s)

-- no node of a list in turn reaches itself
pub none_on_cycle : (Step : ℕ → ℕ → Type 0) (xs : List ℕ) → IsInTurn Step xs → (v : ℕ) → In xs v → IsOnCycle Step v → ⊥
none_on_cycle Step xs turn v i cycle =
    let p = place_of xs v i in
    let back = last_step {Step = Step} cycle.1.0 cycle.1.1 in
    let first : In (take p.place xs) back.0 = turn.after p.place back.0 p.below (subst (Step back.0) (sym p.is) back.1.0) in
    let below = p.below in
    turn.apart p.place p.below (subst (In (take p.place xs)) (sym p.is) (reached_too Step xs turn p.place (omega arith) back.1.1 first))

-- what is reached, the other way round
back : {Step : ℕ → ℕ → Type 0} {u v : ℕ} → Reaches Step u v → Reaches (λ a b. Step b a) v u
back {Step} here = here
back {Step} (onto {b} r e) = reaches_from {Step = λ x y. Step y x} e (back r)

-- a cycle is one the other way round
pub turned : (Step : ℕ → ℕ → Type 0) (v : ℕ) → IsOnCycle Step v → IsOnCycle (λ a b. Step b a) v
turned Step v cycle = let b = last_step {Step = Step} cycle.1.0 cycle.1.1 in (b.0, (b.1.0, back b.1.1))

pub cycle_by : {Step Other : ℕ → ℕ → Type 0} (v : ℕ) → ((a b : ℕ) → Step a b → Other a b) → IsOnCycle Step v → IsOnCycle Other v
cycle_by v f c = (c.0, (f v c.0 c.1.0, reaches_by f c.1.1))

-- a node that reaches itself, below which none does, is the least
pub least_of : (Step : ℕ → ℕ → Type 0) (v : ℕ) → IsOnCycle Step v → ((u : ℕ) → u < v → IsOnCycle Step u → ⊥) → IsLeastOnCycle Step v
least_of Step v on none = record { on = on; least = λ u cycle. elim (cases_lt u v) [ inl l ↦ absurd (none u l cycle) | inr le ↦ le ] }
