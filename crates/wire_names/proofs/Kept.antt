-- The codes of wires that are kept, and the wires.
use Rattle.std.proofs.Common.{◌≡◌, ◌≢◌, ◌∙◌, ℕ, true, List, [], ◌∷◌, ◌++◌, length, map, position, nat_eq, Option, None, Some, refl, sym, ap, subst, arith, inl, inr, length-append, option_map}
use Rattle.std.specs.Cmp.Lexicographic.{pointwise}
use Rattle.std.specs.Prelude.{slice_get}
use Rattle.std.proofs.lemmas.Slice.Eq.{bytes_eq-Decides}
use Rattle.std.proofs.lemmas.List.{map-append, length-map}
use Rattle.std.proofs.lemmas.Option.{slice_get-map}
use Rattle.words.specs.Members.{In}
use Rattle.words.specs.Twice.{HasNoneTwice}
use Rattle.records.specs.Limits.{most_wires}
use Rattle.fabric.specs.Wires.{Wire, same_wire}
use Rattle.fabric.specs.WireNames.{WireName, Named, Ignored}
use Rattle.fabric_laws.proofs.Orders.{same_wire_is, same_wire_refl}
use Rattle.fabric_laws.proofs.Numbered.{get_in}
use Rattle.wire_names.specs.Kept.{CanBeKept, HasShortBase, number_of_name, with_name}
use Rattle.wire_names.specs.Codes.{code_of, wire_of, IsCodeOf, IsCodeOfName, IsKept, AreKept}
use Rattle.wire_names.proofs.Places.{same_test, same_place, no_place, none_at}

-- a code is a key exactly where its wire is the key's
same_code : (wire : Wire) (code key : List ℕ) → IsCodeOf wire code → IsKept key → pointwise nat_eq code key ≡ same_wire wire (wire_of key)
same_code wire code key is kept =
    same_test (pointwise nat_eq code key) (same_wire wire (wire_of key))
    (λ e. let same : wire ≡ wire_of key = sym is.decoded ∙ ap wire_of ((bytes_eq-Decides code key).0 e) in subst (λ w. same_wire wire w ≡ true) same (same_wire_refl wire))
    (λ e. (bytes_eq-Decides code key).1 (is.coded ∙ ap code_of (same_wire_is wire (wire_of key) e) ∙ sym kept.coded))

-- the place of a wire's code is the wire's number
pub place_is_number : (name : WireName) (code : List ℕ) (codes : List (List ℕ)) → AreKept codes → IsCodeOfName name code
    → position (pointwise nat_eq code) codes ≡ number_of_name (map wire_of codes) name
place_is_number (Named wire) code codes kept is =
    same_place (pointwise nat_eq code) (same_wire wire) wire_of codes (λ key i. same_code wire code key is (kept.kept key i))
place_is_number Ignored code codes kept is = absurd is

in_mapped : {X Y : Type 0} (f : X → Y) (xs : List X) (y : Y) → In (map f xs) y → (x : X) × In xs x × (f x ≡ y)
in_mapped f [] y i = absurd i
in_mapped f (x ∷ xs) y i = elim i [
  | inl e ↦ (x, inl refl, e)
  | inr j ↦ (let r = in_mapped f xs y j in (r.0, inr r.1, r.2))
]

-- what can't be kept isn't
pub never_kept : (name : WireName) (codes : List (List ℕ)) → AreKept codes → (CanBeKept name → ⊥) → number_of_name (map wire_of codes) name ≡ None
never_kept (Named wire) codes kept never =
    no_place (same_wire wire) (map wire_of codes)
    (λ other i e. let r = in_mapped wire_of codes other i in
    never (subst HasShortBase (r.2 ∙ sym (same_wire_is wire other e)) (kept.kept r.0 r.1).short))
never_kept Ignored codes kept never = refl

in_cases : {X : Type 0} (P : X → Type 0) (xs : List X) (y : X) → ((x : X) → In xs x → P x) → P y → (x : X) → In (xs ++ y ∷ []) x → P x
in_cases P [] y all last x i = elim i [ inl e ↦ subst P e last | inr j ↦ absurd j ]
in_cases P (z ∷ zs) y all last x i = elim i [ inl e ↦ all x (inl e) | inr j ↦ in_cases P zs y (λ w k. all w (inr k)) last x j ]

in_front : {X : Type 0} (xs : List X) (x y : X) → In (xs ++ y ∷ []) x → (x ≡ y → ⊥) → In xs x
in_front [] x y i other = elim i [ inl e ↦ absurd (other (sym e)) | inr j ↦ absurd j ]
in_front (z ∷ zs) x y i other = elim i [ inl e ↦ inl e | inr j ↦ inr (in_front zs x y j other) ]

once_more : {X : Type 0} (xs : List X) (y : X) → HasNoneTwice xs → (In xs y → ⊥) → HasNoneTwice (xs ++ y ∷ [])
once_more [] y once new = ((λ i. i), tt)
once_more (x ∷ xs) y once new =
    ((λ i. once.0 (in_front xs x y i (λ e. new (inl e)))), once_more xs y once.1 (λ i. new (inr i)))

-- the codes with one more
pub one_more_kept : (name : WireName) (code : List ℕ) (codes : List (List ℕ)) → AreKept codes → IsCodeOfName name code → CanBeKept name
    → position (pointwise nat_eq code) codes ≡ None → length codes ≢ most_wires → AreKept (codes ++ code ∷ [])
one_more_kept (Named wire) code codes kept is short new room = record {
  kept = in_cases IsKept codes code kept.kept (record { coded = is.coded ∙ ap code_of (sym is.decoded); short = subst HasShortBase (sym is.decoded) short });
  once = subst HasNoneTwice (sym (map-append wire_of codes (code ∷ [])))
      (once_more (map wire_of codes) (wire_of code) kept.once
      (λ i. none_at (same_wire wire) (map wire_of codes) (sym (place_is_number (Named wire) code codes kept is) ∙ new) (wire_of code) i
      (subst (λ w. same_wire wire w ≡ true) (sym is.decoded) (same_wire_refl wire))));
  few = (let few = kept.few in omega (arith, length-append codes (code ∷ [])));
}
one_more_kept Ignored code codes kept is short new room = absurd is

-- and the wires with one more
pub one_more_wire : (name : WireName) (code : List ℕ) (codes : List (List ℕ)) → IsCodeOfName name code → map wire_of (codes ++ code ∷ []) ≡ with_name (map wire_of codes) name
one_more_wire (Named wire) code codes is = map-append wire_of codes (code ∷ []) ∙ ap (λ w. map wire_of codes ++ w ∷ []) is.decoded
one_more_wire Ignored code codes is = absurd is

pub kept_at : (codes : List (List ℕ)) (place : ℕ) (code : List ℕ) → AreKept codes → slice_get codes place ≡ Some code → IsKept code
kept_at codes place code kept at = kept.kept code (get_in codes place code at)

-- the same of the list of wires that contracts see
pub number_found : (name : WireName) (code : List ℕ) (codes : List (List ℕ)) (wires : List Wire) → AreKept codes → map wire_of codes ≡ wires → IsCodeOfName name code
    → position (pointwise nat_eq code) codes ≡ number_of_name wires name
number_found name code codes wires kept seen is = place_is_number name code codes kept is ∙ ap (λ ws. number_of_name ws name) seen

pub number_none : (name : WireName) (codes : List (List ℕ)) (wires : List Wire) → AreKept codes → map wire_of codes ≡ wires → (CanBeKept name → ⊥)
    → number_of_name wires name ≡ None
number_none name codes wires kept seen never = ap (λ ws. number_of_name ws name) (sym seen) ∙ never_kept name codes kept never

pub named_at : (codes : List (List ℕ)) (wires : List Wire) (place : ℕ) (code : List ℕ) → map wire_of codes ≡ wires → Some code ≡ slice_get codes place
    → Some (Named (wire_of code)) ≡ option_map (λ w. Named w) (slice_get wires place)
named_at codes wires place code seen at =
    ap (option_map (λ c. Named (wire_of c))) at
    ∙ twice (slice_get codes place)
    ∙ ap (option_map (λ w. Named w)) (sym (slice_get-map wire_of codes place) ∙ ap (λ ws. slice_get ws place) seen)
  where
    twice : (o : Option (List ℕ)) → option_map (λ c. Named (wire_of c)) o ≡ option_map (λ w. Named w) (option_map wire_of o)
    twice None = refl
    twice (Some c) = refl

pub wires_length : (codes : List (List ℕ)) (wires : List Wire) → map wire_of codes ≡ wires → length wires ≡ length codes
wires_length codes wires seen = ap length (sym seen) ∙ length-map codes wire_of
