-- The faults of an arc and of an option, where the open mux or enum is known.
use Rattle.std.proofs.Common.{◌≡◌, ℕ, List, [], ◌∷◌, ◌++◌, true, false, Option, Some, None, IsSome, IfSome, Result, Ok, Err, length, nat_lt, refl, sym, ap, subst, ◌∙◌}
use Rattle.words.specs.OrMemory.{OrMemory}
use Rattle.words.specs.Firsts.{unless_fault}
use Rattle.records.specs.Database.{Arc, Mux, WordSetting, EnumOption, EnumSetting}
use Rattle.patterns.specs.Bits.{PatternBit}
use Rattle.records.specs.Limits.{PatternBits, most_pattern_bits}
use Rattle.grammars.specs.BitsDb.{DbFault, TooLarge, has_source, has_value, last_of, arc_fault, bits_fault, option_fault, entry_fault, some_if}
use Rattle.grammars.specs.RowByRow.{with_bits}
use Rattle.grammars.proofs.Lasts.{last_pushed}

arc_at : (number : ℕ) (muxes front : List Mux) (mux : Mux) (arc : Arc) → muxes ≡ front ++ mux ∷ [] → arc_fault number (Some arc) (last_of muxes) ≡ entry_fault number (has_source mux.arcs arc.source) arc.bits
arc_at number muxes front mux arc split = ap (arc_fault number (Some arc)) (ap last_of split ∙ last_pushed front mux)

-- a pattern of more bits is too large
pub long_arc : (number : ℕ) (muxes front : List Mux) (mux : Mux) (arc : Arc) (next : List Mux) → muxes ≡ front ++ mux ∷ [] → has_source mux.arcs arc.source ≡ false
    → nat_lt most_pattern_bits (length arc.bits) ≡ true → unless_fault (arc_fault number (Some arc) (last_of muxes)) next ≡ Err (TooLarge PatternBits)
long_arc number muxes front mux arc next split has long =
    ap (λ f. unless_fault f next) (arc_at number muxes front mux arc split ∙ ap (λ b. entry_fault number b arc.bits) has ∙ ap (λ b. some_if b (TooLarge PatternBits)) long)

-- another arc has no fault
pub new_arc : (number : ℕ) (muxes front : List Mux) (mux : Mux) (arc : Arc) (next : List Mux) → muxes ≡ front ++ mux ∷ [] → has_source mux.arcs arc.source ≡ false
    → nat_lt most_pattern_bits (length arc.bits) ≡ false → unless_fault (arc_fault number (Some arc) (last_of muxes)) next ≡ Ok next
new_arc number muxes front mux arc next split has long =
    ap (λ f. unless_fault f next) (arc_at number muxes front mux arc split ∙ ap (λ b. entry_fault number b arc.bits) has ∙ ap (λ b. some_if b (TooLarge PatternBits)) long)

option_at : (number : ℕ) (enums front : List EnumSetting) (enum : EnumSetting) (option : EnumOption) → enums ≡ front ++ enum ∷ [] → option_fault number (Some option) (last_of enums) ≡ entry_fault number (has_value enum.options option.value) option.bits
option_at number enums front enum option split = ap (option_fault number (Some option)) (ap last_of split ∙ last_pushed front enum)

pub long_option : (number : ℕ) (enums front : List EnumSetting) (enum : EnumSetting) (option : EnumOption) (next : List EnumSetting) → enums ≡ front ++ enum ∷ [] → has_value enum.options option.value ≡ false
    → nat_lt most_pattern_bits (length option.bits) ≡ true → unless_fault (option_fault number (Some option) (last_of enums)) next ≡ Err (TooLarge PatternBits)
long_option number enums front enum option next split has long =
    ap (λ f. unless_fault f next) (option_at number enums front enum option split ∙ ap (λ b. entry_fault number b option.bits) has ∙ ap (λ b. some_if b (TooLarge PatternBits)) long)

pub new_option : (number : ℕ) (enums front : List EnumSetting) (enum : EnumSetting) (option : EnumOption) (next : List EnumSetting) → enums ≡ front ++ enum ∷ [] → has_value enum.options option.value ≡ false
    → nat_lt most_pattern_bits (length option.bits) ≡ false → unless_fault (option_fault number (Some option) (last_of enums)) next ≡ Ok next
new_option number enums front enum option next split has long =
    ap (λ f. unless_fault f next) (option_at number enums front enum option split ∙ ap (λ b. entry_fault number b option.bits) has ∙ ap (λ b. some_if b (TooLarge PatternBits)) long)

-- the bits of a row within the limit have no fault
pub new_bits : (number : ℕ) (words : List WordSetting) (o : Option (List PatternBit)) (bits : List PatternBit) → Some bits ≡ o → nat_lt most_pattern_bits (length bits) ≡ false
    → unless_fault (bits_fault number o) (with_bits words o) ≡ Ok (with_bits words (Some bits))
new_bits number words o bits same short =
    ap (λ p. unless_fault (bits_fault number p) (with_bits words p)) (sym same) ∙ ap (λ b. unless_fault (some_if b (TooLarge PatternBits)) (with_bits words (Some bits))) short

-- a fault is one whatever the value would be
pub same_fault : {X Y : Type 0} (fault : Option DbFault) (x : X) (y : Y) (f : DbFault) → unless_fault fault x ≡ Err f → unless_fault fault y ≡ Err f
same_fault None x y f h = absurd (let no : ⊥ = cc in no)
same_fault (Some g) x y f h = let same : g ≡ f = cc in ap Err same

pub error_carried : {X Y : Type 0} (o fault : Option DbFault) (x : X) (y : Y) → IfSome o (λ f. unless_fault fault x ≡ Err f) → IfSome o (λ f. unless_fault fault y ≡ Err f)
error_carried None fault x y h = h
error_carried (Some f) fault x y h = same_fault fault x y f h

-- a value that is there goes into a greater one
pub value_carried : {X Y : Type 0} (fault : Option DbFault) (x x' : X) (whole : X → Y) → unless_fault fault x ≡ Ok x' → unless_fault fault (whole x) ≡ Ok (whole x')
value_carried None x x' whole h = let same : x ≡ x' = cc in ap (λ y. Ok (whole y)) same
value_carried (Some f) x x' whole h = absurd (let no : ⊥ = cc in no)

-- what is read into a part is read into the whole
pub carried : {X Y U E : Type 0} (fault_of : E → Option DbFault) (result : Result U E) (fault : Option DbFault) (x x' : X) (whole : X → Y) → OrMemory (λ _. x') fault_of result (unless_fault fault x) → OrMemory (λ _. whole x') fault_of result (unless_fault fault (whole x))
carried fault_of (Ok u) fault x x' whole h = value_carried fault x x' whole h
carried fault_of (Err e) fault x x' whole h = error_carried (fault_of e) fault x (whole x) h

-- a list has a last element behind a push
pub last_is_there : {X : Type 0} (all front : List X) (x : X) → all ≡ front ++ x ∷ [] → IsSome (last_of all)
last_is_there all front x split = subst IsSome (sym (ap last_of split ∙ last_pushed front x)) refl
