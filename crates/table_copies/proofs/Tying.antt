-- Triples of parts are told apart by their parts of domain 0, and have bits as a list says.
use Rattle.std.proofs.Common.{◌≡◌, ℕ, Bool, true, false, bytes_eq, unwrap_or, List, [], ◌∷◌, length, map, ◌⊎◌, inl, inr, refl, sym, ap, ap₂, subst, ◌∙◌, arith}
use Rattle.std.specs.declared.cmp.Ordering.{Ordering}
use Rattle.std.specs.declared.cmp.Ordering.TheVariants.{Less, Equal}
use Rattle.std.proofs.lemmas.Slice.Eq.{bytes_eq-Decides}
use Rattle.words.specs.Members.{In}
use Rattle.records.specs.Side.{Triple}
use Rattle.fabric.specs.InOrder.{IsRising}
use Rattle.fabric_laws.proofs.Members.{any_from, any_to, find_to}
use Rattle.circuit.specs.Parts.{PartRef, Source, sources}
use Rattle.circuit.specs.Triples.{PartTriple, IsEntry, names_of, all_triples, is_entry, triple_of, triple_with}
use Rattle.circuit.specs.Circuits.{Circuit}
use Rattle.circuit.specs.WellFormed.{IsWellFormed}
use Rattle.circuit_laws.proofs.Parts.{source_lies}
use Rattle.circuit_laws.proofs.Same.{same_group}
use Rattle.attempts.specs.PinOrder.{part_cmp}
use Rattle.design_checks.specs.CopyChecks.{first_part}
use Rattle.table_copies.proofs.Order.{itself}

-- it is the triple of a part
abbrev pub IsReal : Circuit → PartTriple → Type 0
IsReal c f = (a : Source) × (In (sources c.cells) a × (triple_of c.side a.part ≡ f))

-- ---- the triple of a part is listed

entry_to : (name : List ℕ) (t : Triple) → IsEntry t name → is_entry name t ≡ true
entry_to name t i = any_to (bytes_eq name) (names_of t) name i ((bytes_eq-Decides name name).1 refl)

entry_from : (name : List ℕ) (t : Triple) → is_entry name t ≡ true → IsEntry t name
entry_from name t h = (let r = any_from (bytes_eq name) (names_of t) h in subst (IsEntry t) (sym ((bytes_eq-Decides name r.0).0 r.2)) r.1)

-- the triple that is found for a name is the one in which it stands
triple_is : (c : Circuit) → IsWellFormed c → (t : Triple) (name : List ℕ) → In (all_triples c.side) t → IsEntry t name → triple_with c.side name ≡ t
triple_is c formed t name i e = ap (λ o. unwrap_or o (record { first = name; second = name; third = name }))
    (find_to (is_entry name) (all_triples c.side) t i (entry_to name t e) (λ u j h. formed.triples.once u t name j i (entry_from name u h) e))

real_listed : (c : Circuit) → IsWellFormed c → (f : PartTriple) → IsReal c f → In (all_triples c.side) f.cells
real_listed c formed f h =
    let a = h.0 in
    let t = formed.triples.paired a.part.cell a.domain (source_lies c.cells a h.1.0) in
    let found : triple_with c.side a.part.cell ≡ t.0 = triple_is c formed t.0 a.part.cell t.1.0 t.1.1 in
    subst (In (all_triples c.side)) (sym found ∙ ap (λ (g : PartTriple). g.cells) h.1.1) t.1.0

pub same_triples : (c : Circuit) → IsWellFormed c → (f g : PartTriple) → IsReal c f → IsReal c g → first_part f ≡ first_part g → f ≡ g
same_triples c formed f g h k e =
    let cells : f.cells ≡ g.cells = formed.triples.once f.cells g.cells f.cells.first (real_listed c formed f h) (real_listed c formed g k) (inl refl) (inl (ap (λ (z : PartRef). z.cell) (sym e))) in
    let parts : f.part ≡ g.part = ap (λ (z : PartRef). z.part) e in
    λ i. record { cells = cells i; part = parts i }

-- ---- bits by a list

bit_for : PartTriple → PartTriple → Bool → Bool → Bool
bit_for f g d rest = elim (same_group f g) [ inl e ↦ d | inr h ↦ rest ]

-- the bits of triples in a row
pub bits_by : List PartTriple → List Bool → PartTriple → Bool
bits_by [] ds g = false
bits_by (f ∷ fs) [] g = false
bits_by (f ∷ fs) (d ∷ ds) g = bit_for f g d (bits_by fs ds g)

own_bit : (f : PartTriple) (d rest : Bool) → bit_for f f d rest ≡ d
unfolding bit_for
own_bit f d rest = by (same_group f f)
  where
    by : (o : (f ≡ f) ⊎ (f ≡ f → ⊥)) → elim o [ inl e ↦ d | inr h ↦ rest ] ≡ d
    by (inl e) = refl
    by (inr h) = absurd (h refl)

other_bit : (f g : PartTriple) (d rest : Bool) → (f ≡ g → ⊥) → bit_for f g d rest ≡ rest
unfolding bit_for
other_bit f g d rest apart = by (same_group f g)
  where
    by : (o : (f ≡ g) ⊎ (f ≡ g → ⊥)) → elim o [ inl e ↦ d | inr h ↦ rest ] ≡ rest
    by (inl e) = absurd (apart e)
    by (inr h) = refl

map_others : (f : PartTriple) (d : Bool) (bits : PartTriple → Bool) (gs : List PartTriple) → ((g : PartTriple) → In gs g → f ≡ g → ⊥) → map (λ g. bit_for f g d (bits g)) gs ≡ map bits gs
map_others f d bits [] apart = refl
map_others f d bits (g ∷ gs) apart = ap₂ (λ x xs. x ∷ xs) (other_bit f g d (bits g) (apart g (inl refl))) (map_others f d bits gs (λ z i. apart z (inr i)))

abbrev pub feeder_cmp : PartTriple → PartTriple → Ordering
feeder_cmp a b = part_cmp (first_part a) (first_part b)

apart_from : (f : PartTriple) (gs : List PartTriple) → ((g : PartTriple) → In gs g → feeder_cmp f g ≡ Less) → (g : PartTriple) → In gs g → f ≡ g → ⊥
apart_from f gs rising g i e =
    (let less : feeder_cmp f f ≡ Less = subst (λ z. feeder_cmp f z ≡ Less) (sym e) (rising g i) in let both : Equal ≡ Less = sym (itself (first_part f)) ∙ less in let no : ⊥ = cc in no)

pub bits_are : (fs : List PartTriple) (ds : List Bool) → IsRising feeder_cmp fs → length fs ≡ length ds → map (bits_by fs ds) fs ≡ ds
unfolding bits_by
bits_are [] [] rising same = refl
bits_are [] (d ∷ ds) rising same = absurd (omega arith)
bits_are (f ∷ fs) [] rising same = absurd (omega arith)
bits_are (f ∷ fs) (d ∷ ds) rising same =
    ap₂ (λ x xs. x ∷ xs) (own_bit f d (bits_by fs ds f)) (map_others f d (bits_by fs ds) fs (apart_from f fs rising.0) ∙ bits_are fs ds rising.1 (omega arith))
