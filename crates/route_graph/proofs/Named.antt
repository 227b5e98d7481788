-- The wire under a number, by its name.
use Rattle.std.proofs.Common.{◌≡◌, ℕ, ◌<◌, List, [], length, get_or, slice_get, Option, None, Some, option_map, refl, sym, ap, ◌∙◌}
use Rattle.std.specs.Option.{IsSome}
use Rattle.std.proofs.lemmas.Option.{slice_get-get_or}
use Rattle.fabric.specs.Wires as wires
use Rattle.fabric.specs.WireNames as names
use Rattle.wire_names.specs.declared.wire.WireName.{WireName}
use Rattle.wire_names.specs.LentNames.{wire_name}

module _ (ws : List wires.Wire) (w : ℕ) (below : w < length ws) where
  abbrev wire : wires.Wire
  wire = get_or ws w (wires.Wide [])

  named_there : option_map names.Named (slice_get ws w) ≡ Some (names.Named wire)
  named_there = ap (option_map names.Named) (slice_get-get_or ws w (wires.Wide []) below)

  pub is_there : (o : Option WireName) → option_map wire_name o ≡ option_map names.Named (slice_get ws w) → IsSome o
  is_there None h = absurd (let e : None ≡ Some (names.Named wire) = h ∙ named_there in let no : ⊥ = cc in no)
  is_there (Some n) h = refl

  name_is : (o : Option WireName) (n : WireName) → o ≡ Some n → option_map wire_name o ≡ option_map names.Named (slice_get ws w) → wire_name n ≡ names.Named wire
  name_is o n is h = (let e : Some (wire_name n) ≡ Some (names.Named wire) = ap (option_map wire_name) (sym is) ∙ (h ∙ named_there) in let same : wire_name n ≡ names.Named wire = cc in same)

  pub not_ignored : (o : Option WireName) (n : WireName) → o ≡ Some n → option_map wire_name o ≡ option_map names.Named (slice_get ws w) → wire_name n ≡ names.Ignored → ⊥
  not_ignored o n is h ignored = (let e : names.Named wire ≡ names.Ignored = sym (name_is o n is h) ∙ ignored in let wrong : ⊥ = cc in wrong)

  pub wire_is : (o : Option WireName) (n : WireName) (x : wires.Wire) → o ≡ Some n → option_map wire_name o ≡ option_map names.Named (slice_get ws w) → wire_name n ≡ names.Named x → slice_get ws w ≡ Some x
  wire_is o n x is h named = (let e : names.Named wire ≡ names.Named x = sym (name_is o n is h) ∙ named in let same : wire ≡ x = cc in slice_get-get_or ws w (wires.Wide []) below ∙ ap (λ y. Some y) same)
