-- Which pins are of which part, by the list of owners.
use Rattle.std.proofs.Common.{◌≡◌, ℕ, zero, suc, ◌+◌, List, [], ◌∷◌, ◌++◌, length, map, replicate, None, Some, ◌⊎◌, inl, inr, refl, sym, ap, ap₂, subst, ◌∙◌, arith}
use Rattle.std.specs.Prelude.{slice_get}
use Rattle.std.specs.List.{flat_map, zip}
use Rattle.std.proofs.lemmas.List.{append_assoc}
use Rattle.words.specs.Members.{In}
use Rattle.circuit.specs.Cells.{PadCell, Cells}
use Rattle.circuit.specs.Parts.{Source, numbered, sources, output_pads}
use Rattle.circuit.specs.Pins.{Pin, pad_pin, pins, source_pins}
use Rattle.pin_rules.specs.declared.owners.PinOwner.{PinOwner}
use Rattle.pin_rules.specs.declared.owners.PinOwner.TheVariants.{Part, Pad}
use Rattle.pin_rules.specs.Owners.{owners_from, owners_of, pad_owners}

some_same : {X : Type 0} (x y : X) → Some x ≡ Some y → x ≡ y
some_same x y h = cc

none_some : {X : Type 0} (x : X) → None ≡ Some x → ⊥
none_some x h = (let no : ⊥ = cc in no)

-- ---- lists side by side

zip_at : {X Y : Type 0} (xs : List X) (ys : List Y) (x : X) (y : Y) → In (zip xs ys) (x, y) → (i : ℕ) × ((slice_get xs i ≡ Some x) × (slice_get ys i ≡ Some y))
zip_at [] ys x y h = absurd h
zip_at (a ∷ xs) [] x y h = absurd h
zip_at (a ∷ xs) (b ∷ ys) x y h = elim h [
  | inl e ↦ (0, (ap (λ z. Some z.0) e, ap (λ z. Some z.1) e))
  | inr j ↦ (let r = zip_at xs ys x y j in (suc r.0, r.1))
]

at_zip : {X Y : Type 0} (xs : List X) (ys : List Y) (i : ℕ) (x : X) (y : Y) → slice_get xs i ≡ Some x → slice_get ys i ≡ Some y → In (zip xs ys) (x, y)
at_zip [] ys i x y h k = absurd (none_some x h)
at_zip (a ∷ xs) [] i x y h k = absurd (none_some y k)
at_zip (a ∷ xs) (b ∷ ys) zero x y h k = inl (ap₂ (λ u v. (u, v)) (some_same a x h) (some_same b y k))
at_zip (a ∷ xs) (b ∷ ys) (suc i) x y h k = inr (at_zip xs ys i x y h k)

of_replicated : (ps rest : List Pin) (o : PinOwner) (os : List PinOwner) (p : Pin) (q : PinOwner) → In (zip (ps ++ rest) (replicate (length ps) o ++ os)) (p, q) → (In ps p × (o ≡ q)) ⊎ In (zip rest os) (p, q)
of_replicated [] rest o os p q h = inr h
of_replicated (x ∷ ps) rest o os p q h = elim h [
  | inl e ↦ inl (inl (ap (λ z. z.0) e), ap (λ z. z.1) e)
  | inr j ↦ elim (of_replicated ps rest o os p q j) [ inl k ↦ inl (inr k.0, k.1) | inr k ↦ inr k ]
]

to_replicated : (ps rest : List Pin) (o : PinOwner) (os : List PinOwner) (p : Pin) → In ps p → In (zip (ps ++ rest) (replicate (length ps) o ++ os)) (p, o)
to_replicated [] rest o os p h = absurd h
to_replicated (x ∷ ps) rest o os p h = elim h [ inl e ↦ inl (ap (λ z. (z, o)) e) | inr j ↦ inr (to_replicated ps rest o os p j) ]

to_behind : (ps rest : List Pin) (o : PinOwner) (os : List PinOwner) (p : Pin) (q : PinOwner) → In (zip rest os) (p, q) → In (zip (ps ++ rest) (replicate (length ps) o ++ os)) (p, q)
to_behind [] rest o os p q h = h
to_behind (x ∷ ps) rest o os p q h = inr (to_behind ps rest o os p q h)

-- ---- pins of parts, before those of pads

abbrev Pairs : ℕ → List Source → List Pin → List PinOwner → List (Pin × PinOwner)
Pairs n ss ps os = zip (flat_map source_pins ss ++ ps) (owners_from n ss ++ os)

pairs_next : (n : ℕ) (s : Source) (ss : List Source) (ps : List Pin) (os : List PinOwner)
    → Pairs n (s ∷ ss) ps os ≡ zip (source_pins s ++ (flat_map source_pins ss ++ ps)) (replicate (length (source_pins s)) (Part n) ++ (owners_from (n + 1) ss ++ os))
pairs_next n s ss ps os = ap₂ (λ xs ys. zip xs ys) (append_assoc (source_pins s) (flat_map source_pins ss) ps) (append_assoc (replicate (length (source_pins s)) (Part n)) (owners_from (n + 1) ss) os)

of_pairs : (n : ℕ) (ss : List Source) (ps : List Pin) (os : List PinOwner) (p : Pin) (o : PinOwner) → In (Pairs n ss ps os) (p, o)
    → ((j : ℕ) × ((s : Source) × ((slice_get ss j ≡ Some s) × (In (source_pins s) p × (o ≡ Part (n + j)))))) ⊎ In (zip ps os) (p, o)
of_pairs n [] ps os p o h = inr h
of_pairs n (s ∷ ss) ps os p o h =
    elim (of_replicated (source_pins s) (flat_map source_pins ss ++ ps) (Part n) (owners_from (n + 1) ss ++ os) p o (subst (λ zs. In zs (p, o)) (pairs_next n s ss ps os) h)) [
      | inl k ↦ inl (0, (s, (refl, (k.0, sym k.1 ∙ (let e : n ≡ n + 0 = omega arith in ap (λ m. Part m) e)))))
      | inr k ↦ elim (of_pairs (n + 1) ss ps os p o k) [
        | inl r ↦ inl (suc r.0, (r.1.0, (r.1.1.0, (r.1.1.1.0, r.1.1.1.1 ∙ (let e : (n + 1) + r.0 ≡ n + suc r.0 = omega arith in ap (λ m. Part m) e)))))
        | inr r ↦ inr r
      ]
    ]

to_pairs : (n : ℕ) (ss : List Source) (ps : List Pin) (os : List PinOwner) (j : ℕ) (s : Source) (p : Pin) → slice_get ss j ≡ Some s → In (source_pins s) p → In (Pairs n ss ps os) (p, Part (n + j))
to_pairs n [] ps os j s p at i = absurd (none_some s at)
to_pairs n (u ∷ ss) ps os zero s p at i =
    let same : u ≡ s = some_same u s at in
    let e : n ≡ n + 0 = omega arith in
    let first = to_replicated (source_pins u) (flat_map source_pins ss ++ ps) (Part n) (owners_from (n + 1) ss ++ os) p (subst (λ x. In (source_pins x) p) (sym same) i) in
    subst (λ m. In (Pairs n (u ∷ ss) ps os) (p, Part m)) e (subst (λ zs. In zs (p, Part n)) (sym (pairs_next n u ss ps os)) first)
to_pairs n (u ∷ ss) ps os (suc j) s p at i =
    let e : (n + 1) + j ≡ n + suc j = omega arith in
    let rest = to_pairs (n + 1) ss ps os j s p at i in
    let behind = to_behind (source_pins u) (flat_map source_pins ss ++ ps) (Part n) (owners_from (n + 1) ss ++ os) p (Part ((n + 1) + j)) rest in
    subst (λ m. In (Pairs n (u ∷ ss) ps os) (p, Part m)) e (subst (λ zs. In zs (p, Part ((n + 1) + j))) (sym (pairs_next n u ss ps os)) behind)

past_pairs : (n : ℕ) (ss : List Source) (ps : List Pin) (os : List PinOwner) (p : Pin) (o : PinOwner) → In (zip ps os) (p, o) → In (Pairs n ss ps os) (p, o)
past_pairs n [] ps os p o h = h
past_pairs n (s ∷ ss) ps os p o h =
    subst (λ zs. In zs (p, o)) (sym (pairs_next n s ss ps os))
    (to_behind (source_pins s) (flat_map source_pins ss ++ ps) (Part n) (owners_from (n + 1) ss ++ os) p o (past_pairs (n + 1) ss ps os p o h))

-- ---- pins of output pads

abbrev PadPairs : ℕ → List PadCell → List (Pin × PinOwner)
PadPairs n pads = zip (map pad_pin pads) (numbered (λ (m : ℕ) (p : Pin). Pad m) n (map pad_pin pads))

of_pads : (n : ℕ) (pads : List PadCell) (p : Pin) (o : PinOwner) → In (PadPairs n pads) (p, o) → (j : ℕ) × ((pad : PadCell) × ((slice_get pads j ≡ Some pad) × ((pad_pin pad ≡ p) × (o ≡ Pad (n + j)))))
of_pads n [] p o h = absurd h
of_pads n (pad ∷ pads) p o h = elim h [
  | inl e ↦ (0, (pad, (refl, (ap (λ z. z.0) e, sym (ap (λ z. z.1) e) ∙ (let k : n ≡ n + 0 = omega arith in ap (λ m. Pad m) k)))))
  | inr i ↦ (let r = of_pads (suc n) pads p o i in (suc r.0, (r.1.0, (r.1.1.0, (r.1.1.1.0, r.1.1.1.1 ∙ (let k : suc n + r.0 ≡ n + suc r.0 = omega arith in ap (λ m. Pad m) k))))))
]

to_pads : (n : ℕ) (pads : List PadCell) (j : ℕ) (pad : PadCell) → slice_get pads j ≡ Some pad → In (PadPairs n pads) (pad_pin pad, Pad (n + j))
to_pads n [] j pad at = absurd (none_some pad at)
to_pads n (x ∷ pads) zero pad at = inl (let k : n ≡ n + 0 = omega arith in ap₂ (λ u m. (pad_pin u, Pad m)) (some_same x pad at) k)
to_pads n (x ∷ pads) (suc j) pad at = inr (let k : suc n + j ≡ n + suc j = omega arith in subst (λ m. In (PadPairs (suc n) pads) (pad_pin pad, Pad m)) k (to_pads (suc n) pads j pad at))

-- ---- all pins

part_pad : (k j : ℕ) → Part k ≡ Pad j → ⊥
part_pad k j h = (let no : ⊥ = cc in no)

pad_part : (k j : ℕ) → Pad j ≡ Part k → ⊥
pad_part k j h = (let no : ⊥ = cc in no)

same_part : (k j : ℕ) → Part k ≡ Part (0 + j) → j ≡ k
same_part k j h = (let e : k ≡ 0 + j = cc in omega arith)

same_pad : (k j : ℕ) → Pad k ≡ Pad (0 + j) → j ≡ k
same_pad k j h = (let e : k ≡ 0 + j = cc in omega arith)

module _ (cells : Cells) where
  -- a pin is of the part that its owner names
  pub owned_part : (i k : ℕ) (p : Pin) → slice_get (pins cells) i ≡ Some p → slice_get (owners_of cells) i ≡ Some (Part k) → (s : Source) × ((slice_get (sources cells) k ≡ Some s) × In (source_pins s) p)
  owned_part i k p at own =
      elim (of_pairs 0 (sources cells) (map pad_pin (output_pads cells)) (pad_owners (map pad_pin (output_pads cells))) p (Part k) (at_zip (pins cells) (owners_of cells) i p (Part k) at own)) [
        | inl r ↦ (r.1.0, (subst (λ m. slice_get (sources cells) m ≡ Some r.1.0) (same_part k r.0 r.1.1.1.1) r.1.1.0, r.1.1.1.0))
        | inr h ↦ (let r = of_pads 0 (output_pads cells) p (Part k) h in absurd (part_pad k (0 + r.0) r.1.1.1.1))
      ]

  pub owned_pad : (i j : ℕ) (p : Pin) → slice_get (pins cells) i ≡ Some p → slice_get (owners_of cells) i ≡ Some (Pad j) → (pad : PadCell) × ((slice_get (output_pads cells) j ≡ Some pad) × (pad_pin pad ≡ p))
  owned_pad i j p at own =
      elim (of_pairs 0 (sources cells) (map pad_pin (output_pads cells)) (pad_owners (map pad_pin (output_pads cells))) p (Pad j) (at_zip (pins cells) (owners_of cells) i p (Pad j) at own)) [
        | inl r ↦ absurd (pad_part (0 + r.0) j r.1.1.1.1)
        | inr h ↦ (let r = of_pads 0 (output_pads cells) p (Pad j) h in (r.1.0, (subst (λ m. slice_get (output_pads cells) m ≡ Some r.1.0) (same_pad j r.0 r.1.1.1.1) r.1.1.0, r.1.1.1.0)))
      ]

  -- each pin of a part has a number at which its owner names the part
  pub part_owned : (k : ℕ) (s : Source) (p : Pin) → slice_get (sources cells) k ≡ Some s → In (source_pins s) p → (i : ℕ) × ((slice_get (pins cells) i ≡ Some p) × (slice_get (owners_of cells) i ≡ Some (Part k)))
  part_owned k s p at i =
      let e : 0 + k ≡ k = omega arith in
      let there = to_pairs 0 (sources cells) (map pad_pin (output_pads cells)) (pad_owners (map pad_pin (output_pads cells))) k s p at i in
      zip_at (pins cells) (owners_of cells) p (Part k) (subst (λ m. In (zip (pins cells) (owners_of cells)) (p, Part m)) e there)

  pub pad_owned : (j : ℕ) (pad : PadCell) → slice_get (output_pads cells) j ≡ Some pad → (i : ℕ) × ((slice_get (pins cells) i ≡ Some (pad_pin pad)) × (slice_get (owners_of cells) i ≡ Some (Pad j)))
  pad_owned j pad at =
      let e : 0 + j ≡ j = omega arith in
      let there = past_pairs 0 (sources cells) (map pad_pin (output_pads cells)) (pad_owners (map pad_pin (output_pads cells))) (pad_pin pad) (Pad (0 + j)) (to_pads 0 (output_pads cells) j pad at) in
      zip_at (pins cells) (owners_of cells) (pad_pin pad) (Pad j) (subst (λ m. In (zip (pins cells) (owners_of cells)) (pad_pin pad, Pad m)) e there)
