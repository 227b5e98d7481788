-- The words of `harden`: its three names to write under differ, since each is refused where one before it has its value.
use Rattle.std.proofs.Common.{◌≡◌, ◌≢◌, ℕ, suc, ◌+◌, ◌≤◌, Bool, true, false, not, List, [], ◌∷◌, ◌++◌, Option, Some, None, inl, inr, ◌&&◌, if◌then◌else◌, codes, refl, sym, ap, subst, ◌∙◌, arith}
use Rattle.std.specs.Prelude.{Result, Ok, Err, find, length, unwrap_or}
use Rattle.std.specs.Option.{option_and_then}
use Rattle.std.specs.Str.{bytes_eq}
use Rattle.std.proofs.lemmas.Slice.Eq.{bytes_eq-Decides}
use Rattle.words.specs.Members.{In}
use Rattle.words.specs.Firsts.{first_fault, Faultless}
use Rattle.words.proofs.Found.{none_found}
use Rattle.commands.specs.Commands.{Command, Inputs, Hardening, Check, Analyse, Harden}
use Rattle.patterns.specs.Bits.{DeviceBit}
use Rattle.commands.specs.BitWords.{bit_words}
use Rattle.commands.specs.Options.{Given, given_from, Kind, OutName, Allowed, allowed_named, is_given, is_out, has_value, is_out_value, is_bad_value, value_fault, named_fault, option_fault, lacks_one, value_given, rounds_of, number_within}
use Rattle.commands.specs.Readings.{input_options, harden_options, without_fault, options_of, text_of, inputs_of, hardening_of, with_options, run_of, run_words, drivers_with, drivers_words, command_words, is_among, reading_of}
use Rattle.texts.specs.Numbers.{decimal_of}
use Rattle.command_laws.specs.Given.{IsFitToHarden}
use Rattle.command_laws.proofs.Found.{first_found, one_before, none_passes, other_fails}
use Rattle.command_laws.proofs.Run.{within, known_command}

-- an out option as it is given: its value isn't that of an out option before it
record Out (given : List Given) (name : List ℕ) : Type 0 where
  front : List Given
  option : Given
  rest : List Given
  whole : given ≡ front ++ option ∷ rest
  named : option.name ≡ name
  found : find (λ g. bytes_eq g.name name) given ≡ Some option
  value : List ℕ
  valued : option.value ≡ Some value
  fresh : is_out_value harden_options front value ≡ false
  is_out_option : is_out harden_options name ≡ true

-- where an option has no fault its value can stand there
record Stands (before : List Given) (x : Given) (option : Allowed) : Type 0 where
  value : List ℕ
  valued : x.value ≡ Some value
  good : is_bad_value harden_options before option.kind value ≡ false

value_stands : (before : List Given) (x : Given) (option : Allowed) → named_fault harden_options before x (Some option) ≡ None → Stands before x option
value_stands before x option h = go (is_given before x.name) x.value refl h
  where
    inner : (v : List ℕ) → x.value ≡ Some v → (b : Bool) → is_bad_value harden_options before option.kind v ≡ b → (if b then Some (suc x.number) else None) ≡ None → Stands before x option
    inner v e true bad k = absurd (let no : ⊥ = cc in no)
    inner v e false good k = record { value = v; valued = e; good = good }

    go : (b : Bool) (o : Option (List ℕ)) → x.value ≡ o → (if b then Some x.number else value_fault harden_options before x.number option o) ≡ None → Stands before x option
    go true o e k = absurd (let no : ⊥ = cc in no)
    go false None e k = absurd (let no : ⊥ = cc in no)
    go false (Some v) e k = inner v e (is_bad_value harden_options before option.kind v) refl (taken (is_bad_value harden_options before option.kind v) k)
      where
        taken : (b : Bool) → (if b then Some (x.number + 1) else None) ≡ None → (if b then Some (suc x.number) else None) ≡ None
        taken true m = absurd (let no : ⊥ = cc in no)
        taken false m = refl

isnt_not : (b : Bool) → not b ≡ false → b ≡ true
isnt_not true h = refl
isnt_not false h = absurd (let no : ⊥ = cc in no)

module _ (given : List Given) (faultless : Faultless (option_fault harden_options) given) (complete : lacks_one harden_options given ≡ false) where
  is_there : (name : List ℕ) (kind : Kind) → In harden_options (record { name = name; kind = kind; needed = true }) → is_given given name ≡ true
  is_there name kind i = isnt_not (is_given given name) (none_passes (λ a. a.needed && not (is_given given a.name)) harden_options complete (record { name = name; kind = kind; needed = true }) i)

  out_option : (name : List ℕ) → In harden_options (record { name = name; kind = OutName; needed = true })
      → allowed_named harden_options name ≡ Some (record { name = name; kind = OutName; needed = true }) → is_out harden_options name ≡ true → Out given name
  out_option name i known out =
      let f = first_found (λ (g : Given). bytes_eq g.name name) given (is_there name OutName i) in
      let named : f.element.name ≡ name = (bytes_eq-Decides f.element.name name).0 f.passes in
      let option : Allowed = record { name = name; kind = OutName; needed = true } in
      let known_there : allowed_named harden_options f.element.name ≡ Some option = ap (allowed_named harden_options) named ∙ known in
      let s = value_stands f.front f.element option (sym (ap (named_fault harden_options f.front f.element) known_there) ∙ faultless f.front f.rest f.element f.whole) in
      record {
        front = f.front;
        option = f.element;
        rest = f.rest;
        whole = f.whole;
        named = named;
        found = f.found;
        value = s.value;
        valued = s.valued;
        fresh = s.good;
        is_out_option = out;
      }

  -- the later of two out options has another value
  later_differs : (a b : List ℕ) (x : Out given a) (y : Out given b) → In y.front x.option → x.value ≢ y.value
  later_differs a b x y i e =
      let test = none_passes (λ (g : Given). is_out harden_options g.name && has_value y.value g.value) y.front y.fresh x.option i in
      let other = other_fails (is_out harden_options x.option.name) (has_value y.value x.option.value) test (ap (is_out harden_options) x.named ∙ x.is_out_option) in
      let differs : bytes_eq y.value x.value ≡ false = sym (ap (has_value y.value) x.valued) ∙ other in
      let same : bytes_eq y.value x.value ≡ true = (bytes_eq-Decides y.value x.value).1 (sym e) in
      let no : true ≡ false = sym same ∙ differs in
      cc

  values_differ : (a b : List ℕ) → a ≢ b → (x : Out given a) (y : Out given b) → x.value ≢ y.value
  values_differ a b names x y =
      elim (one_before x.front y.front x.option y.option x.rest y.rest (sym x.whole ∙ y.whole) (λ e. names (sym x.named ∙ (ap (λ g. g.name) e ∙ y.named)))) [
        | inl i ↦ later_differs a b x y i
        | inr i ↦ (λ e. later_differs b a y x i (sym e))
      ]

  text_is : (name : List ℕ) (x : Out given name) → text_of given name ≡ x.value
  text_is name x = ap (λ o. unwrap_or (option_and_then (λ (g : Given). g.value) o) []) x.found ∙ ap (λ o. unwrap_or o []) x.valued

  texts_differ : (a b : List ℕ) → a ≢ b → Out given a → Out given b → text_of given a ≢ text_of given b
  texts_differ a b names x y e = values_differ a b names x y (sym (text_is a x) ∙ (e ∙ text_is b y))

rounds_within : (o : Option (List ℕ)) → (1 ≤ unwrap_or (option_and_then rounds_of o) 32) × (unwrap_or (option_and_then rounds_of o) 32 ≤ 256)
rounds_within None = (omega arith, omega arith)
rounds_within (Some v) = go (rounds_of v) refl
  where
    go : (o : Option ℕ) → rounds_of v ≡ o → (1 ≤ unwrap_or o 32) × (unwrap_or o 32 ≤ 256)
    go None e = (omega arith, omega arith)
    go (Some n) e = within 1 256 (decimal_of v) n e

names_differ : (a b : List ℕ) → bytes_eq a b ≡ false → a ≢ b
names_differ a b h e = (let same : bytes_eq a b ≡ true = (bytes_eq-Decides a b).1 e in let no : true ≡ false = sym same ∙ h in cc)

hardening_fits : (given : List Given) → Faultless (option_fault harden_options) given → lacks_one harden_options given ≡ false → IsFitToHarden (hardening_of given)
hardening_fits given faultless complete =
    let text = out_option given faultless complete (codes "--out") (inr (inr (inr (inr (inl refl))))) refl refl in
    let side = out_option given faultless complete (codes "--side-out") (inr (inr (inr (inr (inr (inl refl)))))) refl refl in
    let cut = out_option given faultless complete (codes "--cut-out") (inr (inr (inr (inr (inr (inr (inl refl))))))) refl refl in
    let rounds = rounds_within (value_given given (codes "--rounds")) in
    record {
      text_and_side = texts_differ given faultless complete (codes "--out") (codes "--side-out") (names_differ (codes "--out") (codes "--side-out") refl) text side;
      text_and_cut = texts_differ given faultless complete (codes "--out") (codes "--cut-out") (names_differ (codes "--out") (codes "--cut-out") refl) text cut;
      side_and_cut = texts_differ given faultless complete (codes "--side-out") (codes "--cut-out") (names_differ (codes "--side-out") (codes "--cut-out") refl) side cut;
      some_rounds = rounds.0;
      few_rounds = rounds.1;
    }

-- ---- which words are those of `harden`

-- options that are taken have no fault, and none is missing
record Taken (words : List (List ℕ)) (given : List Given) : Type 0 where
  all : given ≡ given_from 2 words
  no_fault : first_fault (option_fault harden_options) (given_from 2 words) ≡ None
  complete : lacks_one harden_options (given_from 2 words) ≡ false

options_taken : (words : List (List ℕ)) (given : List Given) → options_of harden_options words ≡ Ok given → Taken words given
options_taken words given h = go (first_fault (option_fault harden_options) (given_from 2 words)) refl h
  where
    inner : (b : Bool) → lacks_one harden_options (given_from 2 words) ≡ b → first_fault (option_fault harden_options) (given_from 2 words) ≡ None
        → (if b then Err (length words + 2) else Ok (given_from 2 words)) ≡ Ok given → Taken words given
    inner true e f k = absurd (let no : ⊥ = cc in no)
    inner false e f k = record { all = (let same : given ≡ given_from 2 words = cc in same); no_fault = f; complete = e }

    go : (o : Option ℕ) → first_fault (option_fault harden_options) (given_from 2 words) ≡ o → without_fault harden_options (given_from 2 words) o (length words) ≡ Ok given → Taken words given
    go (Some k) f e = absurd (let no : ⊥ = cc in no)
    go None f e = inner (lacks_one harden_options (given_from 2 words)) refl f e

options_fit : (words : List (List ℕ)) (given : List Given) → options_of harden_options words ≡ Ok given → IsFitToHarden (hardening_of given)
options_fit words given h =
    let t = options_taken words given h in
    subst (λ gs. IsFitToHarden (hardening_of gs)) (sym t.all) (hardening_fits (given_from 2 words) (none_found (option_fault harden_options) (given_from 2 words) t.no_fault) t.complete)

-- other commands aren't `harden`
abbrev IsNoHarden : Command → Type 0
IsNoHarden (Harden inputs h) = ⊥
IsNoHarden _ = Unit {0}

not_harden : (make : List Given → Command) → ((given : List Given) → IsNoHarden (make given)) → (r : Result (List Given) ℕ) (inputs : Inputs) (h : Hardening) → with_options make r ≡ Ok (Harden inputs h) → ⊥
not_harden make other (Ok given) inputs h e = (let same : make given ≡ Harden inputs h = cc in subst IsNoHarden same (other given))
not_harden make other (Err k) inputs h e = cc

run_is_no_harden : (o : Option ℕ) (words : List (List ℕ)) (inputs : Inputs) (h : Hardening) → run_of o words ≡ Ok (Harden inputs h) → ⊥
run_is_no_harden None words inputs h e = cc
run_is_no_harden (Some n) [] inputs h e = cc
run_is_no_harden (Some n) (w ∷ words) inputs h e = cc

run_no_harden : (words : List (List ℕ)) (inputs : Inputs) (h : Hardening) → run_words words ≡ Ok (Harden inputs h) → ⊥
run_no_harden [] inputs h e = cc
run_no_harden (word ∷ words) inputs h e = run_is_no_harden (number_within 1 2048 (decimal_of word)) words inputs h e

drivers_no_harden : (name : List ℕ) (r : Result (List DeviceBit) ℕ) (inputs : Inputs) (h : Hardening) → drivers_with name r ≡ Ok (Harden inputs h) → ⊥
drivers_no_harden name (Ok bits) inputs h e = cc
drivers_no_harden name (Err k) inputs h e = cc

drivers_words_no_harden : (words : List (List ℕ)) (inputs : Inputs) (h : Hardening) → drivers_words words ≡ Ok (Harden inputs h) → ⊥
drivers_words_no_harden [] inputs h e = cc
drivers_words_no_harden (name ∷ words) inputs h e = drivers_no_harden name (bit_words 3 words) inputs h e

chosen : {C : Type 0} (drivers check analyse harden run : Bool) (z a b c d : Result C ℕ) (x : C)
    → (if drivers then z else if check then a else if analyse then b else if harden then c else if run then d else Err 1) ≡ Ok x
    → (z ≡ Ok x → ⊥) → (a ≡ Ok x → ⊥) → (b ≡ Ok x → ⊥) → (d ≡ Ok x → ⊥) → c ≡ Ok x
chosen true _ _ _ _ z a b c d x h w p q r = absurd (w h)
chosen false true _ _ _ z a b c d x h w p q r = absurd (p h)
chosen false false true _ _ z a b c d x h w p q r = absurd (q h)
chosen false false false true _ z a b c d x h w p q r = h
chosen false false false false true z a b c d x h w p q r = absurd (r h)
chosen false false false false false z a b c d x h w p q r = absurd (let no : ⊥ = cc in no)

made_fit : (words : List (List ℕ)) (r : Result (List Given) ℕ) → options_of harden_options words ≡ r → (inputs : Inputs) (h : Hardening)
    → with_options (λ given. Harden (inputs_of given) (hardening_of given)) r ≡ Ok (Harden inputs h) → IsFitToHarden h
made_fit words (Ok given) e inputs h k = (let same : hardening_of given ≡ h = cc in subst IsFitToHarden same (options_fit words given e))
made_fit words (Err n) e inputs h k = absurd (let no : ⊥ = cc in no)

pub harden_fits : (known words : List (List ℕ)) (inputs : Inputs) (h : Hardening) → reading_of known words ≡ Ok (Harden inputs h) → IsFitToHarden h
harden_fits known [] inputs h e = absurd (let no : ⊥ = cc in no)
harden_fits known (name ∷ words) inputs h e =
    made_fit words (options_of harden_options words) refl inputs h
    (chosen (bytes_eq name (codes "drivers")) (bytes_eq name (codes "check")) (bytes_eq name (codes "analyse")) (bytes_eq name (codes "harden")) (bytes_eq name (codes "run")) (drivers_words words)
    (with_options (λ given. Check (inputs_of given)) (options_of input_options words)) (with_options (λ given. Analyse (inputs_of given)) (options_of input_options words))
    (with_options (λ given. Harden (inputs_of given) (hardening_of given)) (options_of harden_options words)) (run_words words) (Harden inputs h)
    (known_command (is_among known name) (command_words name words) (Harden inputs h) e) (drivers_words_no_harden words inputs h)
    (not_harden (λ given. Check (inputs_of given)) (λ g. tt) (options_of input_options words) inputs h)
    (not_harden (λ given. Analyse (inputs_of given)) (λ g. tt) (options_of input_options words) inputs h)
    (run_no_harden words inputs h))
