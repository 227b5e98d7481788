-- Feeds and drivers: what can be decided, and what a clean routing has one of at most.
use Rattle.std.proofs.Common.{◌≡◌, ℕ, ◌⊎◌, inl, inr, refl, sym, subst}
use Rattle.words.specs.Members.{In}
use Rattle.links.specs.Links.{Link, Routing, Drives, here, onto, Below, Feeds, Fed, Counting, IsClean}
use Rattle.links.proofs.Members.{any_of, is_in, same_number}
use Rattle.links.proofs.Below.{is_below}

pub is_output : (r : Routing) (w : ℕ) → In r.outputs w ⊎ (In r.outputs w → ⊥)
is_output r w = is_in same_number r.outputs w

pub is_fed : (r : Routing) (w : ℕ) → Fed r w ⊎ (Fed r w → ⊥)
is_fed r w = elim (any_of (λ c. Below r c w) (λ c. is_below r c w) r.outputs) [
  | inl x ↦ inl (x.0, record { output = x.1.0; reach = x.1.1 })
  | inr h ↦ inr (λ f. h f.0 f.1.output f.1.reach)
]

-- a link whose source counts for a wire
IsDriver : Routing → ℕ → Link → Type 0
IsDriver r w l = (l.sink ≡ w) × Fed r l.source

is_driver : (r : Routing) (w : ℕ) (l : Link) → IsDriver r w l ⊎ (IsDriver r w l → ⊥)
unfolding IsDriver
is_driver r w l = elim (same_number l.sink w) [
  | inr h ↦ inr (λ d. h d.0)
  | inl e ↦ elim (is_fed r l.source) [ inl f ↦ inl (e, f) | inr h ↦ inr (λ d. h d.1) ]
]

-- a wire has a counting driver, or it has none
pub driver : (r : Routing) (w : ℕ) → ((x : ℕ) × Counting r x w) ⊎ ((x : ℕ) → Counting r x w → ⊥)
unfolding IsDriver
driver r w = elim (any_of (IsDriver r w) (is_driver r w) r.links) [
  | inl l ↦ inl (l.0.source, (subst (λ z. In r.links (record { source = l.0.source; sink = z })) l.1.1.0 l.1.0, l.1.1.1))
  | inr h ↦ inr (λ x c. h (record { source = x; sink = w }) c.0 (refl, c.1))
]

pub is_counting : (r : Routing) (x w : ℕ) → Counting r x w ⊎ (Counting r x w → ⊥)
unfolding IsDriver
is_counting r x w = elim (any_of (λ l. (l.source ≡ x) × IsDriver r w l) (λ l. at_source l) r.links) [
  | inl l ↦ inl (
    subst (λ z. In r.links (record { source = z; sink = w })) l.1.1.0 (subst (λ z. In r.links (record { source = l.0.source; sink = z })) l.1.1.1.0 l.1.0),
    subst (Fed r) l.1.1.0 l.1.1.1.1,
  )
  | inr h ↦ inr (λ c. h (record { source = x; sink = w }) c.0 (refl, (refl, c.1)))
]
  where
    at_source : (l : Link) → ((l.source ≡ x) × IsDriver r w l) ⊎ (((l.source ≡ x) × IsDriver r w l) → ⊥)
    at_source l = elim (same_number l.source x) [
      | inr h ↦ inr (λ d. h d.0)
      | inl e ↦ elim (is_driver r w l) [ inl d ↦ inl (e, d) | inr h ↦ inr (λ d. h d.1) ]
    ]

pub feeds_on : (r : Routing) (c x w : ℕ) → Feeds r c x → Drives r x w → Feeds r c w
feeds_on r c x w f s = record { output = f.output; reach = onto f.reach s }

-- a wire with a feed is that cell output itself, or the same cell output feeds a counting driver of it
by_driver : (r : Routing) (c : ℕ) → In r.outputs c → {w : ℕ} → Below r c w → (c ≡ w) ⊎ ((x : ℕ) × (Counting r x w × Feeds r c x))
by_driver r c out here = inl refl
by_driver r c out (onto {b} q s) = (let f : Feeds r c b = record { output = out; reach = q } in inr (b, ((s, (c, f)), f)))

pub fed_by_driver : (r : Routing) (c w : ℕ) → Feeds r c w → (c ≡ w) ⊎ ((x : ℕ) × (Counting r x w × Feeds r c x))
fed_by_driver r c w f = by_driver r c f.output f.reach

module _ (r : Routing) (clean : IsClean r) where
  -- two walks from cell outputs to one wire begin at one of them
  one_walk : (c d : ℕ) → In r.outputs c → In r.outputs d → {w : ℕ} → Below r c w → Below r d w → c ≡ d
  one_walk c d out other here here = refl
  one_walk c d out other here (onto {b} q s) = absurd (clean.outputs_undriven c b out (s, (d, record { output = other; reach = q })))
  one_walk c d out other (onto {b} p s) here = absurd (clean.outputs_undriven d b other (s, (c, record { output = out; reach = p })))
  one_walk c d out other {w} (onto {b = a} p s) (onto {b} q t) =
      let same : a ≡ b = clean.one_driver w a b (s, (c, record { output = out; reach = p })) (t, (d, record { output = other; reach = q })) in
      one_walk c d out other p (subst (λ z. Below r d z) (sym same) q)

  pub one_feed : (c d w : ℕ) → Feeds r c w → Feeds r d w → c ≡ d
  one_feed c d w f g = one_walk c d f.output g.output f.reach g.reach
