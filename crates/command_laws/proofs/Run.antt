-- The words of `run`, and numbers within bounds.
use Rattle.std.proofs.Common.{◌≡◌, ℕ, ◌≤◌, Bool, true, false, List, [], ◌∷◌, Option, Some, None, ◌&&◌, if◌then◌else◌, codes, refl, sym, ap, subst, ◌∙◌}
use Rattle.std.specs.Prelude.{Result, Ok, Err, nat_le}
use Rattle.std.proofs.lemmas.Bool.{leb-true}
use Rattle.std.specs.Str.{bytes_eq}
use Rattle.texts.specs.Numbers.{decimal_of}
use Rattle.commands.specs.Commands.{Command, Check, Analyse, Harden, Run}
use Rattle.patterns.specs.Bits.{DeviceBit}
use Rattle.commands.specs.BitWords.{bit_words}
use Rattle.commands.specs.Options.{Given, number_within}
use Rattle.commands.specs.Readings.{input_options, harden_options, options_of, inputs_of, hardening_of, with_options, run_of, run_words, drivers_with, drivers_words, command_words, is_among, reading_of}

both_true : (a b : Bool) → (a && b) ≡ true → (a ≡ true) × (b ≡ true)
both_true true b h = (refl, h)
both_true false b h = absurd (let no : ⊥ = cc in no)

-- a number that is taken lies within its bounds
pub within : (least most : ℕ) (o : Option ℕ) (n : ℕ) → number_within least most o ≡ Some n → (least ≤ n) × (n ≤ most)
within least most None n h = absurd (let no : ⊥ = cc in no)
within least most (Some m) n h = go (nat_le least m && nat_le m most) refl
  where
    go : (b : Bool) → (nat_le least m && nat_le m most) ≡ b → (least ≤ n) × (n ≤ most)
    go true e =
        let taken : Some m ≡ Some n = sym (ap (λ b. if b then Some m else None) e) ∙ h in
        let same : m ≡ n = cc in
        let both = both_true (nat_le least m) (nat_le m most) e in
        (subst (λ k. least ≤ k) same (leb-true least m both.0), subst (λ k. k ≤ most) same (leb-true m most both.1))
    go false e = absurd (let none : None ≡ Some n = sym (ap (λ b. if b then Some m else None) e) ∙ h in let no : ⊥ = cc in no)

run_taken : (o : Option ℕ) (words : List (List ℕ)) (n : ℕ) → run_of o words ≡ Ok (Run n) → o ≡ Some n
run_taken None words n h = absurd (let no : ⊥ = cc in no)
run_taken (Some m) [] n h = (let same : m ≡ n = cc in ap Some same)
run_taken (Some m) (w ∷ words) n h = absurd (let no : ⊥ = cc in no)

run_within : (words : List (List ℕ)) (n : ℕ) → run_words words ≡ Ok (Run n) → (1 ≤ n) × (n ≤ 2048)
run_within [] n h = absurd (let no : ⊥ = cc in no)
run_within (word ∷ words) n h = within 1 2048 (decimal_of word) n (run_taken (number_within 1 2048 (decimal_of word)) words n h)

-- options never make the command `run`
abbrev IsNoRun : Command → Type 0
IsNoRun (Run n) = ⊥
IsNoRun _ = Unit {0}

no_run : (make : List Given → Command) → ((given : List Given) → IsNoRun (make given)) → (r : Result (List Given) ℕ) (n : ℕ) → with_options make r ≡ Ok (Run n) → ⊥
no_run make h (Ok given) n e = (let same : make given ≡ Run n = cc in subst IsNoRun same (h given))
no_run make h (Err k) n e = cc

chosen : (drivers check analyse harden run : Bool) (z a b c d : Result Command ℕ) (n : ℕ)
    → (if drivers then z else if check then a else if analyse then b else if harden then c else if run then d else Err 1) ≡ Ok (Run n)
    → (z ≡ Ok (Run n) → ⊥) → (a ≡ Ok (Run n) → ⊥) → (b ≡ Ok (Run n) → ⊥) → (c ≡ Ok (Run n) → ⊥) → d ≡ Ok (Run n)
chosen true _ _ _ _ z a b c d n h w p q r = absurd (w h)
chosen false true _ _ _ z a b c d n h w p q r = absurd (p h)
chosen false false true _ _ z a b c d n h w p q r = absurd (q h)
chosen false false false true _ z a b c d n h w p q r = absurd (r h)
chosen false false false false true z a b c d n h w p q r = h
chosen false false false false false z a b c d n h w p q r = absurd (let no : ⊥ = cc in no)

drivers_no_run : (name : List ℕ) (r : Result (List DeviceBit) ℕ) (n : ℕ) → drivers_with name r ≡ Ok (Run n) → ⊥
drivers_no_run name (Ok bits) n e = cc
drivers_no_run name (Err k) n e = cc

drivers_words_no_run : (words : List (List ℕ)) (n : ℕ) → drivers_words words ≡ Ok (Run n) → ⊥
drivers_words_no_run [] n e = cc
drivers_words_no_run (name ∷ words) n e = drivers_no_run name (bit_words 3 words) n e

-- a command that a program knows is that of its words
pub known_command : {C : Type 0} (known : Bool) (r : Result C ℕ) (x : C) → (if known then r else Err 1) ≡ Ok x → r ≡ Ok x
known_command true r x h = h
known_command false r x h = absurd (let no : ⊥ = cc in no)

pub run_fits : (known words : List (List ℕ)) (n : ℕ) → reading_of known words ≡ Ok (Run n) → (1 ≤ n) × (n ≤ 2048)
run_fits known [] n h = absurd (let no : ⊥ = cc in no)
run_fits known (name ∷ words) n h =
    run_within words n
    (chosen (bytes_eq name (codes "drivers")) (bytes_eq name (codes "check")) (bytes_eq name (codes "analyse")) (bytes_eq name (codes "harden")) (bytes_eq name (codes "run")) (drivers_words words)
    (with_options (λ given. Check (inputs_of given)) (options_of input_options words)) (with_options (λ given. Analyse (inputs_of given)) (options_of input_options words))
    (with_options (λ given. Harden (inputs_of given) (hardening_of given)) (options_of harden_options words)) (run_words words) n
    (known_command (is_among known name) (command_words name words) (Run n) h) (drivers_words_no_run words n)
    (no_run (λ given. Check (inputs_of given)) (λ g. tt) (options_of input_options words) n)
    (no_run (λ given. Analyse (inputs_of given)) (λ g. tt) (options_of input_options words) n)
    (no_run (λ given. Harden (inputs_of given) (hardening_of given)) (λ g. tt) (options_of harden_options words) n))
