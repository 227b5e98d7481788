-- The order of arcs' lines is that of their sinks and sources, since no byte of a name is as low as the space between.
use Rattle.std.proofs.Common.{◌≡◌, ℕ, ◌<◌, List, [], ◌∷◌, ◌++◌, Bool, true, false, ◌&&◌, cond, nat_lt, nat_le, eqb, refl, ap, ◌∙◌, arith}
use Rattle.std.specs.declared.cmp.Ordering.{Ordering}
use Rattle.std.specs.declared.cmp.Ordering.TheVariants.{Less, Equal, Greater}
use Rattle.std.specs.Ordering.{nat_cmp, ordering_then}
use Rattle.std.specs.Cmp.Lexicographic.{slice_cmp}
use Rattle.std.specs.List.{list_all}
use Rattle.std.proofs.lemmas.Bool.Decides.{nat_tests}
use Rattle.texts.specs.Names.{is_name, is_name_byte}

pub first_true : (a b : Bool) → a && b ≡ true → a ≡ true
first_true true b h = refl
first_true false b h = absurd (let no : ⊥ = cc in no)

pub second_true : (a b : Bool) → a && b ≡ true → b ≡ true
second_true true b h = h
second_true false b h = absurd (let no : ⊥ = cc in no)

above_space : (b : ℕ) → is_name_byte b ≡ true → 32 < b
above_space b h = let low : nat_le 0x21 b ≡ true = first_true (nat_le 0x21 b) (nat_le b 0x7E) h in grind (arith, nat_tests)

space_below : (b : ℕ) → 32 < b → nat_cmp 32 b ≡ Less
space_below b h = let lt : nat_lt 32 b ≡ true = grind (arith, nat_tests) in ap (λ x. cond x Less (cond (eqb 32 b) Equal Greater)) lt

above_blank : (b : ℕ) → 32 < b → nat_cmp b 32 ≡ Greater
above_blank b h =
    let lt : nat_lt b 32 ≡ false = grind (arith, nat_tests) in
    let eq : eqb b 32 ≡ false = grind (arith, nat_tests) in
    ap (λ x. cond x Less (cond (eqb b 32) Equal Greater)) lt ∙ ap (λ x. cond x Equal Greater) eq

then_then : (o p q : Ordering) → ordering_then o (ordering_then p q) ≡ ordering_then (ordering_then o p) q
then_then Less p q = refl
then_then Equal p q = refl
then_then Greater p q = refl

-- names with a space and a text behind each are ordered by the names first
behind_spaces : (s t a b : List ℕ) → list_all is_name_byte s ≡ true → list_all is_name_byte t ≡ true
    → slice_cmp nat_cmp (s ++ 32 ∷ a) (t ++ 32 ∷ b) ≡ ordering_then (slice_cmp nat_cmp s t) (slice_cmp nat_cmp a b)
behind_spaces [] [] a b hs ht = refl
behind_spaces [] (y ∷ ys) a b hs ht =
    ap (λ o. ordering_then o (slice_cmp nat_cmp a (ys ++ 32 ∷ b))) (space_below y (above_space y (first_true (is_name_byte y) (list_all is_name_byte ys) ht)))
behind_spaces (x ∷ xs) [] a b hs ht =
    ap (λ o. ordering_then o (slice_cmp nat_cmp (xs ++ 32 ∷ a) b)) (above_blank x (above_space x (first_true (is_name_byte x) (list_all is_name_byte xs) hs)))
behind_spaces (x ∷ xs) (y ∷ ys) a b hs ht =
    ap (ordering_then (nat_cmp x y))
    (behind_spaces xs ys a b (second_true (is_name_byte x) (list_all is_name_byte xs) hs) (second_true (is_name_byte y) (list_all is_name_byte ys) ht))
    ∙ then_then (nat_cmp x y) (slice_cmp nat_cmp xs ys) (slice_cmp nat_cmp a b)

bytes_of_name : (s : List ℕ) → is_name s ≡ true → list_all is_name_byte s ≡ true
bytes_of_name s h = second_true _ (list_all is_name_byte s) h

-- the order of arcs' lines
pub arc_order : (s t a b : List ℕ) → is_name s ≡ true → is_name t ≡ true
    → slice_cmp nat_cmp (s ++ 32 ∷ a) (t ++ 32 ∷ b) ≡ ordering_then (slice_cmp nat_cmp s t) (slice_cmp nat_cmp a b)
arc_order s t a b hs ht = behind_spaces s t a b (bytes_of_name s hs) (bytes_of_name t ht)
