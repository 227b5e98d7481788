-- The way from a wire to its code and back.
use Rattle.std.proofs.Common.{◌≡◌, Option, None, Some, MatchOption, ◌<◌, ◌^◌, ℕ, ℤ, List, ◌∷◌, ◌++◌, [], length, take, drop, FitsSigned, w32, arith, refl, ap, ◌∙◌, append_assoc}
use Rattle.std.specs.Int.{cast_signed, cast_unsigned}
use Rattle.std.proofs.lemmas.Int.{to_z-of_z, ints}
use Rattle.std.proofs.lemmas.Nat.{from_le_bytes-to_le_bytes_4}
use Rattle.fabric.specs.Wires.{Local}
use Rattle.wire_names.specs.Codes.{bytes_of, signed_of, code_of, wire_of, IsCodeOf}

four_bytes : (z : ℤ) → length (bytes_of z) ≡ 4
unfolding bytes_of
four_bytes z = refl

below_word : (z : ℤ) → FitsSigned w32 z → cast_unsigned w32 z < 2 ^ 32
below_word z f = omega (arith, ints)

signed_is : (z : ℤ) → FitsSigned w32 z → signed_of (bytes_of z) ≡ z
unfolding signed_of bytes_of
signed_is z f = ap (cast_signed w32) (from_le_bytes-to_le_bytes_4 (cast_unsigned w32 z) (below_word z f)) ∙ to_z-of_z w32 z f

front_is : (z : ℤ) (rest : List ℕ) → take 4 (bytes_of z ++ rest) ≡ bytes_of z
unfolding bytes_of
front_is z rest = refl

behind_is : (z : ℤ) (rest : List ℕ) → drop 4 (bytes_of z ++ rest) ≡ rest
unfolding bytes_of
behind_is z rest = refl

local_decoded : (row column : ℤ) (base : List ℕ) → FitsSigned w32 row → FitsSigned w32 column → wire_of (code_of (Local row column base)) ≡ Local row column base
local_decoded row column base f g =
    let rows = ap signed_of (front_is row (bytes_of column ++ base)) ∙ signed_is row f in
    let rest = behind_is row (bytes_of column ++ base) in
    let columns = ap (λ r. signed_of (take 4 r)) rest ∙ ap signed_of (front_is column base) ∙ signed_is column g in
    let bases = ap (drop 4) rest ∙ behind_is column base in
    λ i. Local (rows i) (columns i) (bases i)

-- a code that is built of a kind, two numbers and a base
pub local_coded : (row column : ℤ) (base code : List ℕ) → FitsSigned w32 row → FitsSigned w32 column
    → code ≡ ((0 ∷ []) ++ bytes_of row ++ bytes_of column) ++ base → IsCodeOf (Local row column base) code
local_coded row column base code f g e =
    let whole : code ≡ code_of (Local row column base) = e ∙ ap (λ xs. 0 ∷ xs) (append_assoc (bytes_of row) (bytes_of column) base) in
    record { coded = whole; decoded = ap wire_of whole ∙ local_decoded row column base f g }

pub head_length : (row column : ℤ) → length ((0 ∷ []) ++ bytes_of row ++ bytes_of column) ≡ 9
unfolding bytes_of
head_length row column = refl

-- an answer whose cases say more
pub weaker : {X P P' : Type 0} {Q Q' : X → Type 0} (o : Option X) → (P → P') → ((x : X) → Q x → Q' x) → MatchOption o P Q → MatchOption o P' Q'
weaker None p q m = p m
weaker (Some x) p q m = q x m
