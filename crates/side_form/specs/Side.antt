-- What the bytes of a side file are read as. (Our own.)
use Rattle.std.specs.Prelude.{ℕ, Bool, true, false, not, List, [], ◌∷◌, ◌++◌, length, map, find, Option, Some, None, option_map, Result, Ok, Err, nat_lt, if◌then◌else◌, ◌==◌, ◌&&◌, ◌||◌, codes}
use Rattle.std.specs.List.{flat_map, list_any}
use Rattle.std.specs.Option.{ok_or}
use Rattle.std.specs.Set.{is_member}
use Rattle.std.specs.Str.{bytes_eq}
use Rattle.serde_json.specs.Data.{Data}
use Rattle.words.specs.Firsts.{or_else, first_fault, unless_fault}
use Rattle.records.specs.Limits.{Slices, Pads, most_slices, most_pads}
use Rattle.records.specs.Side.{Domain, D0, D1, D2, Placed, Triple, Voter, Side}
use Rattle.json_forms.specs.Results.{◌>>=◌}
use Rattle.json_forms.specs.Values.{reading_of, object_in, list_in, member_in}
use Rattle.json_forms.specs.Faults.{FormFault, NotJson, BadShape, TooLarge, top_key}
use Rattle.json_forms.specs.Lists.{list_read, elements_read, any_form}
use Rattle.side_form.specs.Placings.{placed_in, names_in, voter_in}

-- A fault of the form; a second use; a name that isn't listed as what it is used as; a cell in no triple; an
-- entry of a triple that isn't in the domain of its place.
pub data SideFault : Type 0 where
  OfForm : FormFault → SideFault
  DuplicateName : List ℕ → SideFault
  UnknownName : List ℕ → SideFault
  Unpaired : List ℕ → SideFault
  WrongDomain : List ℕ → SideFault

-- ---- the form

-- `clocks` has at most one entry, which is looked at before the entries
abbrev pub clocks_read : Data → Result (List Triple) FormFault
clocks_read d = do
  elements ← ok_or (member_in (codes "clocks") list_in d) (BadShape (codes "clocks"))
  if nat_lt 1 (length elements) then Err (BadShape (codes "clocks")) else elements_read (codes "clocks") names_in any_form elements

-- The lists of a side file by their forms, in this order.
unfoldable pub side_in : Data → Result Side FormFault
side_in d = do
  slices ← list_read (codes "slices") placed_in any_form d
  pads ← list_read (codes "pads") placed_in any_form d
  triples ← list_read (codes "triples") names_in any_form d
  inputs ← list_read (codes "inputs") names_in any_form d
  outputs ← list_read (codes "outputs") names_in any_form d
  clocks ← clocks_read d
  voters ← list_read (codes "voters") voter_in any_form d
  Ok (record { slices = slices; pads = pads; triples = triples; inputs = inputs; outputs = outputs; clocks = clocks; voters = voters })

-- ---- limits

abbrev pub size_fault : Side → Option SideFault
size_fault side =
    if nat_lt most_slices (length side.slices) then Some (OfForm (TooLarge Slices))
    else if nat_lt most_pads (length side.pads) then Some (OfForm (TooLarge Pads))
    else None

-- ---- second uses

abbrev pub same_site : Placed → Placed → Bool
same_site a b = bytes_eq a.tile b.tile && bytes_eq a.kind b.kind

-- a cell behind others: its name is new, and its site is free
abbrev pub cell_fault : List Placed → Placed → Option SideFault
cell_fault before cell =
    if list_any (λ other. bytes_eq other.name cell.name || same_site other cell) before then Some (DuplicateName cell.name) else None

abbrev pub names_of_triple : Triple → List (List ℕ)
names_of_triple t = t.first ∷ t.second ∷ t.third ∷ []

abbrev pub names_of_triples : List Triple → List (List ℕ)
names_of_triples triples = flat_map names_of_triple triples

-- a name of a triple behind others
abbrev pub entry_fault : List (List ℕ) → List ℕ → Option SideFault
entry_fault before name = if is_member bytes_eq before name then Some (DuplicateName name) else None

abbrev pub same_voter : Voter → Voter → Bool
same_voter a b = bytes_eq a.slice b.slice && (a.table == b.table)

abbrev pub voter_fault : List Voter → Voter → Option SideFault
voter_fault before voter = if list_any (same_voter voter) before then Some (DuplicateName voter.slice) else None

-- the triples of pads
abbrev pub pad_triples : Side → List Triple
pad_triples side = side.inputs ++ (side.outputs ++ side.clocks)

-- The first second use: a name or a site of the cells, a name in all triples together, or a voter.
abbrev pub second_use : Side → Option SideFault
second_use side =
    or_else (first_fault cell_fault (side.slices ++ side.pads))
    (or_else (first_fault entry_fault (names_of_triples (side.triples ++ pad_triples side))) (first_fault voter_fault side.voters))

-- ---- names that are listed

abbrev pub cell_names : List Placed → List (List ℕ)
cell_names cells = map (λ cell. cell.name) cells

-- the first of some names that isn't among others
abbrev pub first_outside : List (List ℕ) → List (List ℕ) → Option (List ℕ)
first_outside names listed = find (λ name. not (is_member bytes_eq listed name)) names

-- The first name that isn't listed as what it is used as: slices in triples, pads in inputs, outputs and clocks,
-- and slices in voters.
abbrev pub unknown_name : Side → Option SideFault
unknown_name side =
    option_map UnknownName (or_else (first_outside (names_of_triples side.triples) (cell_names side.slices))
    (or_else (first_outside (names_of_triples (pad_triples side)) (cell_names side.pads))
    (first_outside (map (λ voter. voter.slice) side.voters) (cell_names side.slices))))

-- The first cell that is in no triple.
abbrev pub unpaired : Side → Option SideFault
unpaired side =
    option_map Unpaired (or_else (first_outside (cell_names side.slices) (names_of_triples side.triples))
    (first_outside (cell_names side.pads) (names_of_triples (pad_triples side))))

-- ---- domains

abbrev pub same_domain : Domain → Domain → Bool
same_domain D0 D0 = true
same_domain D1 D1 = true
same_domain D2 D2 = true
same_domain _ _ = false

-- the names of a triple with the domains of their places
abbrev pub entries_of_triple : Triple → List (List ℕ × Domain)
entries_of_triple t = (t.first, D0) ∷ (t.second, D1) ∷ (t.third, D2) ∷ []

abbrev pub is_in_domain : List Placed → List ℕ × Domain → Bool
is_in_domain cells entry = list_any (λ cell. bytes_eq cell.name entry.0 && same_domain cell.domain entry.1) cells

abbrev pub first_elsewhere : List Placed → List Triple → Option (List ℕ)
first_elsewhere cells triples = option_map (λ entry. entry.0) (find (λ entry. not (is_in_domain cells entry)) (flat_map entries_of_triple triples))

-- The first entry of a triple that isn't in the domain of its place.
abbrev pub wrong_domain : Side → Option SideFault
wrong_domain side = option_map WrongDomain (or_else (first_elsewhere side.slices side.triples) (first_elsewhere side.pads (pad_triples side)))

-- ---- the whole

-- the first fault of lists of the right forms
abbrev pub side_fault : Side → Option SideFault
side_fault side = or_else (size_fault side) (or_else (second_use side) (or_else (unknown_name side) (or_else (unpaired side) (wrong_domain side))))

abbrev pub in_form : {X : Type 0} → Result X FormFault → Result X SideFault
in_form (Ok x) = Ok x
in_form (Err fault) = Err (OfForm fault)

-- What the bytes of a side file are read as, or their first fault.
abbrev pub side_of : List ℕ → Result Side SideFault
side_of bytes = do
  d ← ok_or (reading_of bytes) (OfForm NotJson)
  _ ← ok_or (object_in d) (OfForm (BadShape top_key))
  side ← in_form (side_in d)
  unless_fault (side_fault side) side
