-- A second use is one that a set knows.
use Rattle.std.proofs.Common.{◌≡◌, ℕ, List, Bool, true, false, cond, ◌||◌, not, Some, None, bytes_eq, refl, ap, ◌∙◌}
use Rattle.std.specs.BTreeSet.{BTreeSet, contains_by}
use Rattle.records.specs.Side.{Placed, Voter}
use Rattle.side_form.specs.Side.{DuplicateName, cell_fault, same_site, entry_fault, voter_fault}
use Rattle.side_file.specs.Known.{Lent, NameKey, SiteKey, has_name, site_order, table_order, KnowsNames, KnowsCells, KnowsSites, KnowsVoters}
use Rattle.side_file.proofs.Walks.{any_of_two}

-- ---- by what was added

used : {E : Type 0} (there : Bool) (e : E) → not there ≡ false → cond there (Some e) None ≡ Some e
used true e is = refl
used false e is = absurd (let no : ⊥ = cc in no)

unused : {E : Type 0} (there : Bool) (e : E) → not there ≡ true → cond there (Some e) None ≡ None
unused true e is = absurd (let no : ⊥ = cc in no)
unused false e is = refl

used_first : {E : Type 0} (a b : Bool) (e : E) → not a ≡ false → cond (a || b) (Some e) None ≡ Some e
used_first true b e is = refl
used_first false b e is = absurd (let no : ⊥ = cc in no)

used_then : {E : Type 0} (a b : Bool) (e : E) → not b ≡ false → cond (a || b) (Some e) None ≡ Some e
used_then true b e is = refl
used_then false true e is = refl
used_then false false e is = absurd (let no : ⊥ = cc in no)

unused_both : {E : Type 0} (a b : Bool) (e : E) → not a ≡ true → not b ≡ true → cond (a || b) (Some e) None ≡ None
unused_both true b e is other = absurd (let no : ⊥ = cc in no)
unused_both false true e is other = absurd (let no : ⊥ = cc in no)
unused_both false false e is other = refl

-- ---- cells

cell_use : (before : List Placed) (cell : Placed) (names : BTreeSet NameKey) (sites : BTreeSet SiteKey) → KnowsCells names before → KnowsSites sites before
    → cell_fault before cell ≡ cond (has_name names cell.name || contains_by (site_order (cell.tile, cell.kind)) sites) (Some (DuplicateName cell.name)) None
cell_use before cell names sites known_names known_sites =
    ap (λ b. cond b (Some (DuplicateName cell.name)) None)
    (any_of_two (λ (other : Placed). bytes_eq other.name cell.name) (λ other. same_site other cell) before
    ∙ rw (known_names cell.name, known_sites (cell.tile, cell.kind)) refl)

pub cell_named_before : (before : List Placed) (cell : Placed) (names : BTreeSet NameKey) (sites : BTreeSet SiteKey) → KnowsCells names before → KnowsSites sites before
    → not (has_name names cell.name) ≡ false → cell_fault before cell ≡ Some (DuplicateName cell.name)
cell_named_before before cell names sites known_names known_sites is =
    cell_use before cell names sites known_names known_sites
    ∙ used_first (has_name names cell.name) (contains_by (site_order (cell.tile, cell.kind)) sites) (DuplicateName cell.name) is

pub cell_sited_before : (before : List Placed) (cell : Placed) (names : BTreeSet NameKey) (sites : BTreeSet SiteKey) → KnowsCells names before → KnowsSites sites before
    → not (contains_by (site_order (cell.tile, cell.kind)) sites) ≡ false → cell_fault before cell ≡ Some (DuplicateName cell.name)
cell_sited_before before cell names sites known_names known_sites is =
    cell_use before cell names sites known_names known_sites
    ∙ used_then (has_name names cell.name) (contains_by (site_order (cell.tile, cell.kind)) sites) (DuplicateName cell.name) is

pub cell_is_new : (before : List Placed) (cell : Placed) (names : BTreeSet NameKey) (sites : BTreeSet SiteKey) → KnowsCells names before → KnowsSites sites before
    → not (has_name names cell.name) ≡ true → not (contains_by (site_order (cell.tile, cell.kind)) sites) ≡ true → cell_fault before cell ≡ None
cell_is_new before cell names sites known_names known_sites is free =
    cell_use before cell names sites known_names known_sites
    ∙ unused_both (has_name names cell.name) (contains_by (site_order (cell.tile, cell.kind)) sites) (DuplicateName cell.name) is free

-- ---- entries of triples

pub entry_used : (before : List (List ℕ)) (name : List ℕ) (set : BTreeSet NameKey) → KnowsNames set before → not (has_name set name) ≡ false
    → entry_fault before name ≡ Some (DuplicateName name)
entry_used before name set known is = rw (← known name) (used (has_name set name) (DuplicateName name) is)

pub entry_is_new : (before : List (List ℕ)) (name : List ℕ) (set : BTreeSet NameKey) → KnowsNames set before → not (has_name set name) ≡ true → entry_fault before name ≡ None
entry_is_new before name set known is = rw (← known name) (unused (has_name set name) (DuplicateName name) is)

-- ---- voters

pub voter_used : (before : List Voter) (voter : Voter) (set : BTreeSet (Lent × ℕ)) → KnowsVoters set before → not (contains_by (table_order (voter.slice, voter.table)) set) ≡ false
    → voter_fault before voter ≡ Some (DuplicateName voter.slice)
voter_used before voter set known is =
    rw (← known (voter.slice, voter.table)) (used (contains_by (table_order (voter.slice, voter.table)) set) (DuplicateName voter.slice) is)

pub voter_is_new : (before : List Voter) (voter : Voter) (set : BTreeSet (Lent × ℕ)) → KnowsVoters set before → not (contains_by (table_order (voter.slice, voter.table)) set) ≡ true
    → voter_fault before voter ≡ None
voter_is_new before voter set known is =
    rw (← known (voter.slice, voter.table)) (unused (contains_by (table_order (voter.slice, voter.table)) set) (DuplicateName voter.slice) is)
