-- Prefixes of names, as a program tests them.
use Rattle.std.proofs.Common.{◌≡◌, ℕ, true, List, ◌++◌, length, drop, refl}
use Rattle.std.specs.Prelude.{nat_eq}
use Rattle.std.specs.List.{starts_with}
use Rattle.std.proofs.lemmas.Slice.Eq.{starts_is}
use Rattle.std.proofs.lemmas.Bool.Decides.{Decides-eqb}
use Rattle.fabric.specs.WireNames.{BeginsWithOne}
use Rattle.fabric.specs.WireOfName.{begins_with_one}
use Rattle.fabric_laws.proofs.Members.{any_from, any_to}

-- a name that starts with a prefix is that prefix, and what is left of it
pub starts_from : (name prefix : List ℕ) → starts_with nat_eq name prefix ≡ true → name ≡ prefix ++ drop (length prefix) name
starts_from name prefix h = (starts_is Decides-eqb name prefix (starts_with nat_eq name prefix) refl).0 h

pub starts_to : (name prefix rest : List ℕ) → name ≡ prefix ++ rest → starts_with nat_eq name prefix ≡ true
starts_to name prefix rest e = (starts_is Decides-eqb name prefix (starts_with nat_eq name prefix) refl).1 rest e

pub begins_from : (prefixes : List (List ℕ)) (name : List ℕ) → begins_with_one prefixes name ≡ true → BeginsWithOne prefixes name
begins_from prefixes name h =
    let r = any_from (λ prefix. starts_with nat_eq name prefix) prefixes h in
    record { prefix = r.0; rest = drop (length r.0) name; listed = r.1; whole = starts_from name r.0 r.2 }

pub begins_to : (prefixes : List (List ℕ)) (name : List ℕ) → BeginsWithOne prefixes name → begins_with_one prefixes name ≡ true
begins_to prefixes name b = any_to (λ prefix. starts_with nat_eq name prefix) prefixes b.prefix b.listed (starts_to name b.prefix b.rest b.whole)
