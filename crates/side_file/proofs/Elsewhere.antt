-- The first entry in another domain, in one list of triples after another.
use Rattle.std.proofs.Common.{◌≡◌, ℕ, List, ◌++◌, not, find, Option, Some, None, refl, ap, ◌∙◌}
use Rattle.std.specs.Option.{option_map, option_or}
use Rattle.std.specs.List.{flat_map}
use Rattle.std.proofs.lemmas.Grind.{flat_map-append}
use Rattle.std.proofs.lemmas.List.Folds.{find-append}
use Rattle.records.specs.Side.{Domain, Triple}
use Rattle.side_form.specs.Side.{entries_of_triple}
use Rattle.side_file.specs.declared.domains.ByDomain.{ByDomain}
use Rattle.side_file.specs.ByDomain.{is_there, elsewhere_in}

map_in_turn : {X Y : Type 0} (f : X → Y) (a b : Option X) → option_map f (option_or a b) ≡ option_or (option_map f a) (option_map f b)
map_in_turn f None b = refl
map_in_turn f (Some x) b = refl

elsewhere_in_turn : (sets : ByDomain) (a b : List Triple) → elsewhere_in sets (a ++ b) ≡ option_or (elsewhere_in sets a) (elsewhere_in sets b)
elsewhere_in_turn sets a b =
    ap (option_map (λ (entry : List ℕ × Domain). entry.0))
    (ap (find (λ entry. not (is_there sets entry))) (flat_map-append entries_of_triple a b)
    ∙ find-append (λ entry. not (is_there sets entry)) (flat_map entries_of_triple a) (flat_map entries_of_triple b))
    ∙ map_in_turn (λ (entry : List ℕ × Domain). entry.0) (find (λ entry. not (is_there sets entry)) (flat_map entries_of_triple a))
    (find (λ entry. not (is_there sets entry)) (flat_map entries_of_triple b))

pub in_first : (sets : ByDomain) (a b : List Triple) (name : List ℕ) → elsewhere_in sets a ≡ Some name → elsewhere_in sets (a ++ b) ≡ Some name
in_first sets a b name is = elsewhere_in_turn sets a b ∙ ap (λ o. option_or o (elsewhere_in sets b)) is

pub in_rest : (sets : ByDomain) (a b : List Triple) → elsewhere_in sets a ≡ None → elsewhere_in sets (a ++ b) ≡ elsewhere_in sets b
in_rest sets a b is = elsewhere_in_turn sets a b ∙ ap (λ o. option_or o (elsewhere_in sets b)) is
