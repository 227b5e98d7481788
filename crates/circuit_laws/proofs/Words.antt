-- A table's output where the bits of its pins differ at pins that it ignores alone.
use Rattle.std.proofs.Common.{◌≡◌, ℕ, suc, ◌+◌, Bool, true, false, List, [], ◌∷◌, ◌++◌, length, map, set, ◌⊎◌, inl, inr, refl, sym, ap, ◌∙◌, append_assoc, length-append, arith}
use Rattle.std.proofs.Math.Seq.{set_at}
use Rattle.words.specs.Members.{In}
use Rattle.circuit.specs.Cells.{TableCell}
use Rattle.circuit.specs.Parts.{PartRef, numbered}
use Rattle.circuit.specs.Pins.{PinRef, Pin, pin_at, table_pins}
use Rattle.circuit.specs.Worlds.{word_bit, table_output}

-- the word has one bit for both values at place n of `count` bits
abbrev pub Indifferent : ℕ → ℕ → ℕ → Type 0
Indifferent count word n = (bits : List Bool) → length bits ≡ count → word_bit word (set bits n true) ≡ word_bit word (set bits n false)

module _ (count word : ℕ) where
  one_turned : (n : ℕ) → Indifferent count word n → (xs ys : List Bool) → length xs ≡ n → length xs + suc (length ys) ≡ count
      → word_bit word (xs ++ true ∷ ys) ≡ word_bit word (xs ++ false ∷ ys)
  one_turned n same xs ys e len =
      let h = same (xs ++ true ∷ ys) (length-append xs (true ∷ ys) ∙ len) in
      ap (word_bit word) (sym (set_at xs true ys true n e)) ∙ (h ∙ ap (word_bit word) (set_at xs true ys false n e))

  -- the bit at an ignored place may be another one
  turned : (n : ℕ) → Indifferent count word n → (a b : Bool) (xs ys : List Bool) → length xs ≡ n
      → length xs + suc (length ys) ≡ count → word_bit word (xs ++ a ∷ ys) ≡ word_bit word (xs ++ b ∷ ys)
  turned n same true true xs ys e len = refl
  turned n same true false xs ys e len = one_turned n same xs ys e len
  turned n same false true xs ys e len = sym (one_turned n same xs ys e len)
  turned n same false false xs ys e len = refl

  abbrev bits_at : (Pin → Bool) → PartRef → ℕ → List ℕ → List Bool
  bits_at x part n ws = map x (numbered (pin_at part) n ws)

  length_bits : (x : Pin → Bool) (part : PartRef) (n : ℕ) (ws : List ℕ) → length (bits_at x part n ws) ≡ length ws
  length_bits x part n [] = refl
  length_bits x part n (w ∷ ws) = ap suc (length_bits x part (suc n) ws)

  length_push : (xs : List Bool) (b : Bool) (n : ℕ) → length xs ≡ n → length (xs ++ b ∷ []) ≡ suc n
  length_push xs b n e = length-append xs (b ∷ []) ∙ (let h : length xs + 1 ≡ suc n = omega arith in h)

  -- from pin n on, behind the bits of the pins before it
  same_from : (part : PartRef) (xs : List Bool) (n : ℕ) (ws : List ℕ) (x y : Pin → Bool) → length xs ≡ n → n + length ws ≡ count
      → ((p : Pin) → In (numbered (pin_at part) n ws) p → (x p ≡ y p) ⊎ Indifferent count word p.ref.pin) → word_bit word (xs ++ bits_at x part n ws) ≡ word_bit word (xs ++ bits_at y part n ws)
  same_from part xs n [] x y len all h = refl
  same_from part xs n (w ∷ ws) x y len all h =
      let p = pin_at part n w in
      let rest_x = bits_at x part (suc n) ws in
      let rest_y = bits_at y part (suc n) ws in
      let long : length xs + suc (length rest_x) ≡ count = rw (length_bits x part (suc n) ws, len) all in
      let first : word_bit word (xs ++ x p ∷ rest_x) ≡ word_bit word (xs ++ y p ∷ rest_x) = elim (h p (inl refl)) [
        | inl e ↦ ap (λ b. word_bit word (xs ++ b ∷ rest_x)) e
        | inr g ↦ turned n g (x p) (y p) xs rest_x len long
      ] in
      let rest = same_from part (xs ++ y p ∷ []) (suc n) ws x y (length_push xs (y p) n len) (count_rest n (length ws) all) (λ q j. h q (inr j)) in
      first ∙ (ap (word_bit word) (sym (append_assoc xs (y p ∷ []) rest_x)) ∙ (rest ∙ ap (word_bit word) (append_assoc xs (y p ∷ []) rest_y)))
    where
      count_rest : (n m : ℕ) → n + suc m ≡ count → suc n + m ≡ count
      count_rest n m e = omega arith

zero_add : (n : ℕ) → 0 + n ≡ n
zero_add n = omega arith

-- bits that differ at ignored pins alone give one output
pub same_output : (part : PartRef) (t : TableCell) (x y : Pin → Bool)
    → ((p : Pin) → In (table_pins part t) p → (x p ≡ y p) ⊎ Indifferent (length t.pins) t.word p.ref.pin)
    → table_output part t x ≡ table_output part t y
same_output part t x y h = same_from (length t.pins) t.word part [] 0 t.pins x y refl (zero_add (length t.pins)) h

-- the output goes by the bits of as many pins as there are, on whatever wires
pub same_refs : (x : PinRef → Bool) (part : PartRef) (n : ℕ) (ws vs : List ℕ) → length ws ≡ length vs
    → map (λ p. x p.ref) (numbered (pin_at part) n ws) ≡ map (λ p. x p.ref) (numbered (pin_at part) n vs)
same_refs x part n [] [] e = refl
same_refs x part n [] (v ∷ vs) e = absurd (let no : ⊥ = omega arith in no)
same_refs x part n (w ∷ ws) [] e = absurd (let no : ⊥ = omega arith in no)
same_refs x part n (w ∷ ws) (v ∷ vs) e = (let h : length ws ≡ length vs = omega arith in ap (λ bs. x (record { part = part; pin = n }) ∷ bs) (same_refs x part (suc n) ws vs h))
