-- Options of a command line: pairs of an option's name and its value, in any order. (Our own.)
use Rattle.std.specs.Prelude.{ℕ, ◌+◌, Bool, true, false, not, List, [], ◌∷◌, find, Option, Some, None, nat_le, is_some, codes, if◌then◌else◌, ◌&&◌, ◌||◌}
use Rattle.std.specs.List.{list_any}
use Rattle.std.specs.Option.{option_and_then}
use Rattle.std.specs.Str.{bytes_eq}
use Rattle.texts.specs.Numbers.{decimal_of}
use Rattle.records.specs.Limits.{most_rounds}

-- An option as it stands among the words: the number of the word that names it, its name, and the word behind it,
-- which is its value whatever it is. None stands behind it where the words run out.
pub record Given : Type 0 where
  pub number : ℕ
  pub name : List ℕ
  pub value : Option (List ℕ)

-- the words as options, two by two, the first of which has this number
abbrev pub given_from : ℕ → List (List ℕ) → List Given
given_from number [] = []
given_from number (name ∷ []) = record { number = number; name = name; value = None } ∷ []
given_from number (name ∷ value ∷ words) = record { number = number; name = name; value = Some value } ∷ given_from (number + 2) words

-- what a value may be: any text, a name that no out option before it has, a number of rounds, or what to rip
pub data Kind : Type 0 where
  Text : Kind
  OutName : Kind
  Rounds : Kind
  WhatToRip : Kind

-- an option of a command, and whether it has to be given
pub record Allowed : Type 0 where
  pub name : List ℕ
  pub kind : Kind
  pub needed : Bool

abbrev pub allowed_named : List Allowed → List ℕ → Option Allowed
allowed_named allowed name = find (λ a. bytes_eq a.name name) allowed

abbrev pub is_given : List Given → List ℕ → Bool
is_given given name = list_any (λ g. bytes_eq g.name name) given

abbrev pub is_out_name : Kind → Bool
is_out_name Text = false
is_out_name OutName = true
is_out_name Rounds = false
is_out_name WhatToRip = false

abbrev pub is_out : List Allowed → List ℕ → Bool
is_out allowed name = list_any (λ a. bytes_eq a.name name && is_out_name a.kind) allowed

abbrev pub has_value : List ℕ → Option (List ℕ) → Bool
has_value value None = false
has_value value (Some other) = bytes_eq value other

-- a value that an out option before it has
abbrev pub is_out_value : List Allowed → List Given → List ℕ → Bool
is_out_value allowed before value = list_any (λ g. is_out allowed g.name && has_value value g.value) before

abbrev pub number_within : ℕ → ℕ → Option ℕ → Option ℕ
number_within least most None = None
number_within least most (Some n) = if nat_le least n && nat_le n most then Some n else None

abbrev pub rounds_of : List ℕ → Option ℕ
rounds_of value = number_within 1 most_rounds (decimal_of value)

-- a value of this kind can't stand behind these options
abbrev pub is_bad_value : List Allowed → List Given → Kind → List ℕ → Bool
is_bad_value allowed before Text value = false
is_bad_value allowed before OutName value = is_out_value allowed before value
is_bad_value allowed before Rounds value = not (is_some (rounds_of value))
is_bad_value allowed before WhatToRip value = not (bytes_eq value (codes "unsafe") || bytes_eq value (codes "all"))

-- the number of the first of the two words of an option that can't stand there: an option that isn't known or
-- stands before it already, or a bad value; where there is no value the words have run out
abbrev pub value_fault : List Allowed → List Given → ℕ → Allowed → Option (List ℕ) → Option ℕ
value_fault allowed before number option None = Some (number + 1)
value_fault allowed before number option (Some value) = if is_bad_value allowed before option.kind value then Some (number + 1) else None

abbrev pub named_fault : List Allowed → List Given → Given → Option Allowed → Option ℕ
named_fault allowed before given None = Some given.number
named_fault allowed before given (Some option) =
    if is_given before given.name then Some given.number else value_fault allowed before given.number option given.value

abbrev pub option_fault : List Allowed → List Given → Given → Option ℕ
option_fault allowed before given = named_fault allowed before given (allowed_named allowed given.name)

-- a needed option isn't there
abbrev pub lacks_one : List Allowed → List Given → Bool
lacks_one allowed given = list_any (λ a. a.needed && not (is_given given a.name)) allowed

abbrev pub value_given : List Given → List ℕ → Option (List ℕ)
value_given given name = option_and_then (λ g. g.value) (find (λ g. bytes_eq g.name name) given)
