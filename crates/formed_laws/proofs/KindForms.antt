-- What the form of a slice kind says of its tables.
use Rattle.std.proofs.Common.{◌≡◌, ◌≤◌, ℕ, Bool, true, false, List, length, Option, Some, None, refl, ap, subst}
use Rattle.std.specs.Prelude.{nat_le, if◌then◌else◌, codes}
use Rattle.std.proofs.lemmas.Bool.{and_parts, leb-true}
use Rattle.serde_json.specs.Data.{Data}
use Rattle.words.specs.Members.{In}
use Rattle.records.specs.Profile.{Require, TableKind, RegisterKind, SliceKind}
use Rattle.json_forms.specs.Options.{◌>>=◌}
use Rattle.json_forms.specs.Values.{member_in, name_in}
use Rattle.json_forms.specs.Parts.{list_of}
use Rattle.json_forms.specs.Kinds.{require_in, is_pin_count, table_in, register_in, slice_in}
use Rattle.formed_laws.proofs.Elements.{of_list}

abbrev Text : Type 0
Text = Option (List ℕ)

-- a table of parts that are all there, where it has 1 to 4 pins
table_with : (pins : List (List ℕ)) (word out : List ℕ) (t : TableKind) (b : Bool) → is_pin_count (length pins) ≡ b
    → (if b then Some (record { word = word; pins = pins; out = out }) else None) ≡ Some t → is_pin_count (length t.pins) ≡ true
table_with pins word out t true e h = let same : record { word = word; pins = pins; out = out } ≡ t = cc in subst (λ (u : TableKind). is_pin_count (length u.pins) ≡ true) same e
table_with pins word out t false e h = absurd (let no : ⊥ = cc in no)

table_of_parts : (word : Text) (pins : Option (List (List ℕ))) (out : Text) (t : TableKind)
    → (word >>= λ w. pins >>= λ ps. out >>= λ o. if is_pin_count (length ps) then Some (record { word = w; pins = ps; out = o }) else None) ≡ Some t
    → is_pin_count (length t.pins) ≡ true
table_of_parts None pins out t h = absurd (let no : ⊥ = cc in no)
table_of_parts (Some w) None out t h = absurd (let no : ⊥ = cc in no)
table_of_parts (Some w) (Some ps) None t h = absurd (let no : ⊥ = cc in no)
table_of_parts (Some w) (Some ps) (Some o) t h = table_with ps w o t (is_pin_count (length ps)) refl h

-- a table that is read has 1 to 4 pins
table_pins : (d : Data) (t : TableKind) → table_in d ≡ Some t → (1 ≤ length t.pins) × (length t.pins ≤ 4)
unfolding table_in
table_pins d t h =
    let e = table_of_parts (member_in (codes "word") name_in d) (member_in (codes "pins") (list_of name_in) d) (member_in (codes "out") name_in d) t h in
    let parts = and_parts (nat_le 1 (length t.pins)) (nat_le (length t.pins) 4) e in
    (leb-true 1 (length t.pins) parts.0, leb-true (length t.pins) 4 parts.1)

tables_of_parts : (tile name shape : Text) (settings : Option (List (List ℕ))) (require : Option (List Require)) (tables : Option (List TableKind)) (registers : Option (List RegisterKind)) (k : SliceKind)
    → (tile >>= λ t. name >>= λ n. shape >>= λ s. settings >>= λ ss. require >>= λ rs. tables >>= λ ts. registers >>= λ gs.
    Some (record { tile = t; name = n; shape = s; settings = ss; require = rs; tables = ts; registers = gs })) ≡ Some k
    → tables ≡ Some k.tables
tables_of_parts None name shape settings require tables registers k h = absurd (let no : ⊥ = cc in no)
tables_of_parts (Some t) None shape settings require tables registers k h = absurd (let no : ⊥ = cc in no)
tables_of_parts (Some t) (Some n) None settings require tables registers k h = absurd (let no : ⊥ = cc in no)
tables_of_parts (Some t) (Some n) (Some s) None require tables registers k h = absurd (let no : ⊥ = cc in no)
tables_of_parts (Some t) (Some n) (Some s) (Some ss) None tables registers k h = absurd (let no : ⊥ = cc in no)
tables_of_parts (Some t) (Some n) (Some s) (Some ss) (Some rs) None registers k h = absurd (let no : ⊥ = cc in no)
tables_of_parts (Some t) (Some n) (Some s) (Some ss) (Some rs) (Some ts) None k h = absurd (let no : ⊥ = cc in no)
tables_of_parts (Some t) (Some n) (Some s) (Some ss) (Some rs) (Some ts) (Some gs) k h =
    let same : record { tile = t; name = n; shape = s; settings = ss; require = rs; tables = ts; registers = gs } ≡ k = cc in ap (λ (j : SliceKind). Some j.tables) same

-- each table of a slice kind that is read has 1 to 4 pins
pub slice_pins : (d : Data) (k : SliceKind) → slice_in d ≡ Some k → (t : TableKind) → In k.tables t → (1 ≤ length t.pins) × (length t.pins ≤ 4)
unfolding slice_in
slice_pins d k h t i =
    let e = tables_of_parts (member_in (codes "tile") name_in d) (member_in (codes "name") name_in d) (member_in (codes "shape") name_in d) (member_in (codes "settings") (list_of name_in) d)
    (member_in (codes "require") (list_of require_in) d) (member_in (codes "tables") (list_of table_in) d) (member_in (codes "registers") (list_of register_in) d) k h in
    let r = of_list table_in (codes "tables") d k.tables e t i in
    table_pins r.0 t r.1
