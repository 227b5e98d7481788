-- Names that are in the domains of their places are listed.
use Rattle.std.proofs.Common.{◌≡◌, ℕ, List, [], ◌∷◌, Bool, true, false, cond, ◌&&◌, not, find, Option, Some, None, map, bytes_eq, refl, ap, sym, ◌∙◌, inl, inr, Result, Ok, Err, IfOk}
use Rattle.std.specs.List.{flat_map}
use Rattle.std.specs.Option.{option_map, option_copied}
use denote.Ref.{Bor}
use Rattle.std.specs.Set.{is_member}
use Rattle.std.proofs.lemmas.Bool.{or_cases, or_left, or_right, and_parts}
use Rattle.std.proofs.lemmas.Cmp.{nat_list_eq_equiv}
use Rattle.words.specs.Firsts.{or_else}
use Rattle.records.specs.Side.{Domain, D0, D1, D2, Placed, Triple, Side}
use Rattle.side_form.specs.Side.{UnknownName, WrongDomain, entries_of_triple, names_of_triples, cell_names, is_in_domain, same_domain, first_elsewhere, first_outside, pad_triples, wrong_domain, unknown_name}

-- ---- the first that doesn't pass

passes_here : {X : Type 0} (passes : Bool) (x : X) (rest : Option X) → cond (not passes) (Some x) rest ≡ None → passes ≡ true
passes_here true x rest none = refl
passes_here false x rest none = absurd (let no : ⊥ = cc in no)

none_later : {X : Type 0} (passes : Bool) (x : X) (rest : Option X) → cond (not passes) (Some x) rest ≡ None → rest ≡ None
none_later true x rest none = none
none_later false x rest none = absurd (let no : ⊥ = cc in no)

none_behind : {X : Type 0} (passes : Bool) (x : X) (rest : Option X) → passes ≡ true → rest ≡ None → cond (not passes) (Some x) rest ≡ None
none_behind true x rest is none = none
none_behind false x rest is none = absurd (let no : ⊥ = cc in no)

-- ---- one cell, one triple, all triples

-- a cell of a name in a domain is a cell of that name
listed : (cells : List Placed) (entry : List ℕ × Domain) → is_in_domain cells entry ≡ true → is_member bytes_eq (cell_names cells) entry.0 ≡ true
listed [] entry there = there
listed (cell ∷ cells) entry there =
    elim (or_cases (bytes_eq cell.name entry.0 && same_domain cell.domain entry.1) (is_in_domain cells entry) there) [
      | inl here ↦
          or_left (bytes_eq entry.0 cell.name) (is_member bytes_eq (cell_names cells) entry.0)
          (nat_list_eq_equiv.symm entry.0 cell.name ∙ (and_parts (bytes_eq cell.name entry.0) (same_domain cell.domain entry.1) here).0)
      | inr later ↦ or_right (bytes_eq entry.0 cell.name) (is_member bytes_eq (cell_names cells) entry.0) (listed cells entry later)
    ]

abbrev entry_outside : List Placed → List (List ℕ × Domain) → Option (List ℕ × Domain)
entry_outside cells entries = find (λ entry. not (is_in_domain cells entry)) entries

all_listed : (cells : List Placed) (triples : List Triple) → entry_outside cells (flat_map entries_of_triple triples) ≡ None
    → first_outside (names_of_triples triples) (cell_names cells) ≡ None
all_listed cells [] none = refl
all_listed cells (t ∷ triples) none =
    let second : entry_outside cells ((t.second, D1) ∷ (t.third, D2) ∷ flat_map entries_of_triple triples) ≡ None = none_later (is_in_domain cells (t.first, D0)) _ _ none in
    let third : entry_outside cells ((t.third, D2) ∷ flat_map entries_of_triple triples) ≡ None = none_later (is_in_domain cells (t.second, D1)) _ _ second in
    let rest : entry_outside cells (flat_map entries_of_triple triples) ≡ None = none_later (is_in_domain cells (t.third, D2)) _ _ third in
    none_behind (is_member bytes_eq (cell_names cells) t.first) _ _ (listed cells (t.first, D0) (passes_here _ _ _ none))
    (none_behind (is_member bytes_eq (cell_names cells) t.second) _ _ (listed cells (t.second, D1) (passes_here _ _ _ second))
    (none_behind (is_member bytes_eq (cell_names cells) t.third) _ _ (listed cells (t.third, D2) (passes_here _ _ _ third)) (all_listed cells triples rest)))

-- ---- the whole

mapped_none : {X Y : Type 0} (f : X → Y) (o : Option X) → option_map f o ≡ None → o ≡ None
mapped_none f None none = refl
mapped_none f (Some x) none = absurd (let no : ⊥ = cc in no)

none_first : {X : Type 0} (a b : Option X) → or_else a b ≡ None → a ≡ None
none_first None b none = refl
none_first (Some x) b none = none

none_then : {X : Type 0} (a b : Option X) → or_else a b ≡ None → b ≡ None
none_then None b none = none
none_then (Some x) b none = absurd (let no : ⊥ = cc in no)

listed_in : (cells : List Placed) (triples : List Triple) → first_elsewhere cells triples ≡ None → first_outside (names_of_triples triples) (cell_names cells) ≡ None
listed_in cells triples none = all_listed cells triples (mapped_none (λ (entry : List ℕ × Domain). entry.0) _ none)

-- where each entry is in the domain of its place, the first name that isn't listed is that of a voter
pub unlisted_in_place : (side : Side) → wrong_domain side ≡ None
    → unknown_name side ≡ option_map UnknownName (first_outside (map (λ voter. voter.slice) side.voters) (cell_names side.slices))
unlisted_in_place side none =
    let slices : Option (List ℕ) = first_elsewhere side.slices side.triples in
    let pads : Option (List ℕ) = first_elsewhere side.pads (pad_triples side) in
    let both : or_else slices pads ≡ None = mapped_none WrongDomain (or_else slices pads) none in
    rw (listed_in side.slices side.triples (none_first slices pads both), listed_in side.pads (pad_triples side) (none_then slices pads both)) refl

-- the same of what was looked for among voters
pub unlisted_by_voters : {E : Type 0} (side : Side) (r : Result (Option (Bor (List ℕ))) E) → wrong_domain side ≡ None
    → IfOk r (λ name. option_copied name ≡ first_outside (map (λ voter. voter.slice) side.voters) (cell_names side.slices))
    → IfOk r (λ name. unknown_name side ≡ option_map UnknownName (option_copied name))
unlisted_by_voters side (Ok name) none is = unlisted_in_place side none ∙ ap (option_map UnknownName) (sym is)
unlisted_by_voters side (Err e) none is = tt
