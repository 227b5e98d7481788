-- What is read into the sections is read into the whole.
use Rattle.std.proofs.Common.{◌≡◌, ℕ, List, Option, Some, None, IfSome, Result, Ok, Err, sym, ap, subst}
use Rattle.words.specs.OrMemory.{OrMemory}
use Rattle.records.specs.Config.{Head, TileText}
use Rattle.config_grammar.specs.ConfigLines.{ConfigLine}
use Rattle.config_grammar.specs.ConfigText.{ConfigFault, bad_if, is_none_yet}
use Rattle.config_text.specs.declared.errors.ConfigError.{ConfigError}
use Rattle.config_text.specs.declared.says.InTile.{InTile}
use Rattle.config_text.specs.declared.says.InTile.TheVariants.{Arc, Word, Enum, Unknown}
use Rattle.config_text.specs.Faults.{fault_of}
use Rattle.config_text.specs.Sayings.{in_tile_view}
use Rattle.config_text.specs.LineByLine.{Reading, with_last, line_behind, with_says, fault_behind, or_fault}

-- a fault is one whatever the value would be
same_fault : {X Y : Type 0} (fault : Option ConfigFault) (x : X) (y : Y) (f : ConfigFault) → or_fault fault x ≡ Err f → or_fault fault y ≡ Err f
same_fault None x y f h = absurd (let no : ⊥ = cc in no)
same_fault (Some g) x y f h = let same : g ≡ f = cc in ap Err same

error_carried : {X Y : Type 0} (o fault : Option ConfigFault) (x : X) (y : Y) → IfSome o (λ f. or_fault fault x ≡ Err f) → IfSome o (λ f. or_fault fault y ≡ Err f)
error_carried None fault x y h = h
error_carried (Some f) fault x y h = same_fault fault x y f h

value_carried : {X Y : Type 0} (fault : Option ConfigFault) (x held : X) (whole : X → Y) → or_fault fault x ≡ Ok held → or_fault fault (whole x) ≡ Ok (whole held)
value_carried None x held whole h = let same : x ≡ held = cc in ap (λ y. Ok (whole y)) same
value_carried (Some f) x held whole h = absurd (let no : ⊥ = cc in no)

carried : {X Y U : Type 0} (result : Result U ConfigError) (fault : Option ConfigFault) (x held : X) (whole : X → Y) → OrMemory (λ _. held) fault_of result (or_fault fault x) → OrMemory (λ _. whole held) fault_of result (or_fault fault (whole x))
carried (Ok u) fault x held whole h = value_carried fault x held whole h
carried (Err e) fault x held whole h = error_carried (fault_of e) fault x (whole x) h

line_in_section : {U : Type 0} (n : ℕ) (line : InTile) (devices : List (List ℕ)) (heads : List Head) (sections held : List TileText) (result : Result U ConfigError)
    → OrMemory (λ _. held) fault_of result (or_fault (bad_if (is_none_yet sections) n) (with_last (line_behind n (in_tile_view line)) sections))
    → OrMemory (λ _. let r : Reading = record { devices = devices; heads = heads; sections = held } in r) fault_of result
    (or_fault (fault_behind n (record { devices = devices; heads = heads; sections = sections }) (Some (in_tile_view line))) (with_says n (Some (in_tile_view line)) (record { devices = devices; heads = heads; sections = sections })))
line_in_section n (Arc sink source) devices heads sections held result h =
    carried result (bad_if (is_none_yet sections) n) (with_last (line_behind n (in_tile_view (Arc sink source))) sections) held (λ (ts : List TileText). let r : Reading = record { devices = devices; heads = heads; sections = ts } in r) h
line_in_section n (Word name digits) devices heads sections held result h =
    carried result (bad_if (is_none_yet sections) n) (with_last (line_behind n (in_tile_view (Word name digits))) sections) held (λ (ts : List TileText). let r : Reading = record { devices = devices; heads = heads; sections = ts } in r) h
line_in_section n (Enum name value) devices heads sections held result h =
    carried result (bad_if (is_none_yet sections) n) (with_last (line_behind n (in_tile_view (Enum name value))) sections) held (λ (ts : List TileText). let r : Reading = record { devices = devices; heads = heads; sections = ts } in r) h
line_in_section n (Unknown frame bit) devices heads sections held result h =
    carried result (bad_if (is_none_yet sections) n) (with_last (line_behind n (in_tile_view (Unknown frame bit))) sections) held (λ (ts : List TileText). let r : Reading = record { devices = devices; heads = heads; sections = ts } in r) h

-- a line of a section changes the sections alone
pub line_said : {U : Type 0} (n : ℕ) (said : ConfigLine) (line : InTile) (devices : List (List ℕ)) (heads : List Head) (sections held : List TileText) (result : Result U ConfigError)
    → said ≡ in_tile_view line
    → OrMemory (λ _. held) fault_of result (or_fault (bad_if (is_none_yet sections) n) (with_last (line_behind n (in_tile_view line)) sections))
    → OrMemory (λ _. let r : Reading = record { devices = devices; heads = heads; sections = held } in r) fault_of result
    (or_fault (fault_behind n (record { devices = devices; heads = heads; sections = sections }) (Some said)) (with_says n (Some said) (record { devices = devices; heads = heads; sections = sections })))
line_said n said line devices heads sections held result same h =
    let before : Reading = record { devices = devices; heads = heads; sections = sections } in
    let P : ConfigLine → Type 0 = λ l. OrMemory (λ _. let r : Reading = record { devices = devices; heads = heads; sections = held } in r) fault_of result
    (or_fault (fault_behind n before (Some l)) (with_says n (Some l) before)) in
    subst P (sym same) (line_in_section n line devices heads sections held result h)
