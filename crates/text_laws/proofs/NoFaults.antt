-- The text of a configuration of the form that is read has no fault.
use Rattle.std.proofs.Common.{◌≡◌, ◌<◌, ◌≤◌, ◌+◌, ℕ, Bool, true, false, not, inl, inr, List, [], ◌∷◌, ◌++◌, length, map, filter, flat_map, Some, None, cond, refl, sym, ap, subst, ◌∙◌, arith, append_assoc, append-nil, length-append}
use Rattle.std.specs.Prelude.{Result, Ok, nat_lt}
use Rattle.std.specs.List.{cons_option}
use Rattle.std.specs.Str.{bytes_eq}
use Rattle.std.proofs.lemmas.Bool.{false≢true, lt-ltb}
use Rattle.std.proofs.lemmas.List.{length-map}
use Rattle.std.proofs.lemmas.Slice.Eq.{bytes_eq-Decides}
use Rattle.std.proofs.lemmas.List.Elements.{filter_map-append}
use Rattle.words.specs.Members.{In}
use Rattle.words.specs.Firsts.{first_fault_after, first_fault, fault_or}
use Rattle.words.specs.Twice.{HasNoneTwice}
use Rattle.records.specs.Config.{Head, ArcLine, WordLine, EnumLine, UnknownLine, TileText, Config}
use Rattle.formed_laws.proofs.Objects.{rising_once}
use Rattle.links.proofs.Members.{in_map, in_either}
use Rattle.cells_laws.proofs.Options.{none_or}
use Rattle.fabric_laws.proofs.Members.{any_from}
use Rattle.config_grammar.specs.ConfigLines.{ConfigLine, DeviceLine, HeadLine, TileLine, ArcOf, WordOf, EnumOf, UnknownOf, OutsideLine}
use Rattle.config_grammar.specs.ConfigPrint.{config_text}
use Rattle.config_grammar.specs.Sections.{Item, sections_of, device_in}
use Rattle.config_grammar.specs.ConfigText.{ConfigFault, BadLine, TooLarge, items_of, devices_of, has_tile, bad_if, is_none_yet, tile_fault, says_fault, item_fault, config_of, with_device, configuration_of}
use Rattle.records.specs.Limits.{Tiles, most_tiles}
use Rattle.text_laws.specs.Formed.{IsFormedText}
use Rattle.text_laws.specs.Printed.{said_in, section_says, said_by}
use Rattle.text_laws.specs.SameButLines.{has_lines, EachHasLines, SameButLines}
use Rattle.text_laws.proofs.ConfigOrder.{tile_in, tile_names, names_are}
use Rattle.text_laws.proofs.ConfigPrinted.{printed_says}
use Rattle.text_laws.proofs.PrintedParts.{says_some, has_some, its_device_is}
use Rattle.text_laws.proofs.SameAgain.{same_again, says_lines}

-- lines may stand behind others that name these devices and these tiles
abbrev RightAfter : List (List ℕ) → List (List ℕ) → List ConfigLine → Type 0
RightAfter ds ns [] = Unit {0}
RightAfter ds ns (DeviceLine d ∷ ls) = (is_none_yet ds ≡ true) × RightAfter (ds ++ d ∷ []) ns ls
RightAfter ds ns (HeadLine t ∷ ls) = RightAfter ds ns ls
RightAfter ds ns (TileLine n ∷ ls) = (In ns n → ⊥) × (length ns < 65536) × RightAfter ds (ns ++ n ∷ []) ls
RightAfter ds ns (ArcOf a b ∷ ls) = (is_none_yet ns ≡ false) × RightAfter ds ns ls
RightAfter ds ns (WordOf a b ∷ ls) = (is_none_yet ns ≡ false) × RightAfter ds ns ls
RightAfter ds ns (EnumOf a b ∷ ls) = (is_none_yet ns ≡ false) × RightAfter ds ns ls
RightAfter ds ns (UnknownOf a b ∷ ls) = (is_none_yet ns ≡ false) × RightAfter ds ns ls
RightAfter ds ns (OutsideLine ∷ ls) = ⊥

not_had_tile : (sections : List TileText) (name : List ℕ) → (In (map (λ t. t.tile) sections) name → ⊥) → has_tile sections name ≡ false
not_had_tile sections name h = go (has_tile sections name) refl
  where
    go : (b : Bool) → has_tile sections name ≡ b → has_tile sections name ≡ false
    go false e = e
    go true e =
        absurd (let r = any_from (λ (t : TileText). bytes_eq t.tile name) sections e in
        h (subst (In (map (λ (t : TileText). t.tile) sections)) ((bytes_eq-Decides r.0.tile name).0 r.2) (in_map (λ (t : TileText). t.tile) sections r.0 r.1)))

none_mapped : (ts : List TileText) → is_none_yet ts ≡ is_none_yet (map (λ t. t.tile) ts)
none_mapped [] = refl
none_mapped (t ∷ ts) = refl

tile_right : (n : ℕ) (before : List Item) (name : List ℕ) → (In (tile_names before) name → ⊥) → length (tile_names before) < 65536 → tile_fault n (sections_of before) name ≡ None
tile_right n before name new few =
    let sections = sections_of before in
    let size : length sections < 65536 = omega (arith, length-map {B = List ℕ} sections (λ t. t.tile), ap length (names_are before)) in
    ap (λ b. cond b (Some (BadLine n)) (cond (nat_lt (length sections) most_tiles) None (Some (TooLarge Tiles)))) (not_had_tile sections name (λ i. new (subst (λ ns. In ns name) (names_are before) i)))
    ∙ ap (λ b. cond b None (Some (TooLarge Tiles))) (lt-ltb (length sections) 65536 size)

some_right : (n : ℕ) (before : List Item) → is_none_yet (tile_names before) ≡ false → bad_if (is_none_yet (sections_of before)) n ≡ None
some_right n before h = ap (λ b. bad_if b n) (none_mapped (sections_of before) ∙ ap is_none_yet (names_are before) ∙ h)

right_here : (n : ℕ) (before : List Item) (l : ConfigLine) (ls : List ConfigLine) → RightAfter (devices_of before) (tile_names before) (l ∷ ls) → says_fault n before (Some l) ≡ None
right_here n before (DeviceLine d) ls h = ap (λ b. bad_if (not b) n) h.0
right_here n before (HeadLine t) ls h = refl
right_here n before (TileLine name) ls h = tile_right n before name h.0 h.1
right_here n before (ArcOf a b) ls h = some_right n before h.0
right_here n before (WordOf a b) ls h = some_right n before h.0
right_here n before (EnumOf a b) ls h = some_right n before h.0
right_here n before (UnknownOf a b) ls h = some_right n before h.0
right_here n before OutsideLine ls h = absurd h

with_none : (ds ns : List (List ℕ)) (ls : List ConfigLine) → RightAfter ds ns ls → RightAfter (ds ++ []) (ns ++ []) ls
with_none ds ns ls h = subst (λ d. RightAfter d (ns ++ []) ls) (sym (append-nil ds)) (subst (λ n. RightAfter ds n ls) (sym (append-nil ns)) h)

right_next : (ds ns : List (List ℕ)) (l : ConfigLine) (ls : List ConfigLine) → RightAfter ds ns (l ∷ ls) → RightAfter (ds ++ cons_option (device_in (Some l)) []) (ns ++ cons_option (tile_in (Some l)) []) ls
right_next ds ns (DeviceLine d) ls h = subst (λ n. RightAfter (ds ++ d ∷ []) n ls) (sym (append-nil ns)) h.1
right_next ds ns (HeadLine t) ls h = with_none ds ns ls h
right_next ds ns (TileLine n) ls h = subst (λ d. RightAfter d (ns ++ n ∷ []) ls) (sym (append-nil ds)) h.2
right_next ds ns (ArcOf a b) ls h = with_none ds ns ls h.1
right_next ds ns (WordOf a b) ls h = with_none ds ns ls h.1
right_next ds ns (EnumOf a b) ls h = with_none ds ns ls h.1
right_next ds ns (UnknownOf a b) ls h = with_none ds ns ls h.1
right_next ds ns OutsideLine ls h = absurd h

right : (ls : List ConfigLine) (before items : List Item) → map (λ i. i.says) items ≡ map (λ l. Some l) ls → RightAfter (devices_of before) (tile_names before) ls → first_fault_after item_fault before items ≡ None
right [] before [] e h = refl
right [] before (i ∷ is) e h = absurd (let no : ⊥ = cc in no)
right (l ∷ ls) before [] e h = absurd (let no : ⊥ = cc in no)
right (l ∷ ls) before (i ∷ is) e h =
    let said : i.says ≡ Some l = cc in
    let later : map (λ i. i.says) is ≡ map (λ l. Some l) ls = cc in
    let devices : devices_of (before ++ i ∷ []) ≡ devices_of before ++ cons_option (device_in (Some l)) [] =
    filter_map-append (λ (i : Item). device_in i.says) before (i ∷ []) ∙ ap (λ o. devices_of before ++ cons_option (device_in o) []) said in
    let names : tile_names (before ++ i ∷ []) ≡ tile_names before ++ cons_option (tile_in (Some l)) [] =
    filter_map-append (λ (i : Item). tile_in i.says) before (i ∷ []) ∙ ap (λ o. tile_names before ++ cons_option (tile_in o) []) said in
    none_or (item_fault before i) (first_fault_after item_fault (before ++ i ∷ []) is) (ap (says_fault i.number before) said ∙ right_here i.number before l ls h)
    (right ls (before ++ i ∷ []) is later
    (subst (λ d. RightAfter d (tile_names (before ++ i ∷ [])) ls) (sym devices)
    (subst (λ n. RightAfter (devices_of before ++ cons_option (device_in (Some l)) []) n ls) (sym names) (right_next (devices_of before) (tile_names before) l ls h))))

-- ---- the lines of a configuration may stand as they do

module _ {X : Type 0} (line : X → ConfigLine) (step : (x : X) (ds ns : List (List ℕ)) (ls : List ConfigLine) → is_none_yet ns ≡ false → RightAfter ds ns ls → RightAfter ds ns (line x ∷ ls)) where
  mapped_right : (xs : List X) (ds ns : List (List ℕ)) (ls : List ConfigLine) → is_none_yet ns ≡ false → RightAfter ds ns ls → RightAfter ds ns (map line xs ++ ls)
  mapped_right [] ds ns ls some r = r
  mapped_right (x ∷ xs) ds ns ls some r = step x ds ns (map line xs ++ ls) some (mapped_right xs ds ns ls some r)

split_lines : (a w e u ls : List ConfigLine) → (a ++ w ++ e ++ u) ++ ls ≡ a ++ (w ++ (e ++ (u ++ ls)))
split_lines a w e u ls = simp append_assoc

section_right : (t : TileText) (ds ns : List (List ℕ)) (ls : List ConfigLine) → is_none_yet ns ≡ false → RightAfter ds ns ls → RightAfter ds ns (said_in t ++ ls)
section_right t ds ns ls some r =
    let u = mapped_right (λ (u : UnknownLine). UnknownOf u.frame u.bit) (λ x ds ns ls s k. (s, k)) t.unknowns ds ns ls some r in
    let e = mapped_right (λ (e : EnumLine). EnumOf e.name e.value) (λ x ds ns ls s k. (s, k)) t.enums ds ns (map (λ u. UnknownOf u.frame u.bit) t.unknowns ++ ls) some u in
    let w = mapped_right (λ (w : WordLine). WordOf w.name w.bits) (λ x ds ns ls s k. (s, k)) t.words ds ns (map (λ e. EnumOf e.name e.value) t.enums ++ (map (λ u. UnknownOf u.frame u.bit) t.unknowns ++ ls)) some e in
    let a = mapped_right (λ (a : ArcLine). ArcOf a.sink a.source) (λ x ds ns ls s k. (s, k)) t.arcs ds ns
    (map (λ w. WordOf w.name w.bits) t.words ++ (map (λ e. EnumOf e.name e.value) t.enums ++ (map (λ u. UnknownOf u.frame u.bit) t.unknowns ++ ls))) some w in
    subst (RightAfter ds ns)
    (sym (split_lines (map (λ (a : ArcLine). ArcOf a.sink a.source) t.arcs) (map (λ (w : WordLine). WordOf w.name w.bits) t.words) (map (λ (e : EnumLine). EnumOf e.name e.value) t.enums)
    (map (λ (u : UnknownLine). UnknownOf u.frame u.bit) t.unknowns) ls)) a

some_pushed : (ns : List (List ℕ)) (n : List ℕ) → is_none_yet (ns ++ n ∷ []) ≡ false
some_pushed [] n = refl
some_pushed (m ∷ ns) n = refl

-- a section that has lines names its tile, and another says nothing
says_right : (name : List ℕ) (lines : List ConfigLine) (ds ns : List (List ℕ)) (rest : List ConfigLine) → (In ns name → ⊥) → (says_some lines ≡ true → length ns < 65536) → RightAfter ds ns rest
    → (says_some lines ≡ true → RightAfter ds (ns ++ name ∷ []) (lines ++ rest)) → RightAfter ds ns (section_says name lines ++ rest)
says_right name [] ds ns rest new few plain inside = plain
says_right name (l ∷ ls) ds ns rest new few plain inside = (new, few refl, inside refl)

-- behind a section with lines there is room for it and those with lines behind it, and behind any for those behind it
counted : (b : Bool) (n left : ℕ) (t : TileText) (ts : List TileText) → length (filter has_lines ts) ≡ left → n + length (cond b (t ∷ filter has_lines ts) (filter has_lines ts)) ≤ 65536
    → (n + left ≤ 65536) × (b ≡ true → n + 1 + left ≤ 65536)
counted true n left t ts e h = (omega (arith, e), λ _. omega (arith, e))
counted false n left t ts e h = (omega (arith, e), λ no. absurd (false≢true no))

tiles_right : (ts : List TileText) (ds ns : List (List ℕ)) → ((n : List ℕ) → In (map (λ t. t.tile) ts) n → In ns n → ⊥) → HasNoneTwice (map (λ t. t.tile) ts)
    → length ns + length (filter has_lines ts) ≤ 65536 → RightAfter ds ns (flat_map (λ t. section_says t.tile (said_in t)) ts)
tiles_right [] ds ns apart once few = tt
tiles_right (t ∷ ts) ds ns apart once few =
    let rest = flat_map (λ t. section_says t.tile (said_in t)) ts in
    let has = has_some t in
    let fewer = counted (has_lines t) (length ns) (length (filter has_lines ts)) t ts refl few in
    let later : (n : List ℕ) → In (map (λ t. t.tile) ts) n → In (ns ++ t.tile ∷ []) n → ⊥ = λ n i j. elim (in_either ns (t.tile ∷ []) n j) [
      | inl k ↦ apart n (inr i) k
      | inr k ↦ elim k [ inl e ↦ once.0 (subst (In (map (λ t. t.tile) ts)) (sym e) i) | inr z ↦ z ]
    ] in
    let behind : says_some (said_in t) ≡ true → RightAfter ds (ns ++ t.tile ∷ []) rest = λ s. tiles_right ts ds (ns ++ t.tile ∷ []) later once.1 (omega (arith, length-append ns (t.tile ∷ []), fewer.1 (has ∙ s))) in
    says_right t.tile (said_in t) ds ns rest (apart t.tile (inl refl)) (λ s. omega (arith, fewer.1 (has ∙ s))) (tiles_right ts ds ns (λ n i. apart n (inr i)) once.1 fewer.0)
    (λ s. section_right t ds (ns ++ t.tile ∷ []) rest (some_pushed ns t.tile) (behind s))

heads_right : (hs : List Head) (ds ns : List (List ℕ)) (ls : List ConfigLine) → RightAfter ds ns ls → RightAfter ds ns (map (λ h. HeadLine h.text) hs ++ ls)
heads_right [] ds ns ls r = r
heads_right (h ∷ hs) ds ns ls r = heads_right hs ds ns ls r

config_right : (c : Config) → HasNoneTwice (map (λ t. t.tile) c.tiles) → length (filter has_lines c.tiles) ≤ 65536 → RightAfter [] [] (said_by c)
config_right c once few =
    (refl, heads_right c.heads (c.device ∷ []) [] (flat_map (λ t. section_says t.tile (said_in t)) c.tiles) (tiles_right c.tiles (c.device ∷ []) [] (λ n i j. j) once (omega arith)))

-- ---- the whole

-- what the text of a configuration is read as
printed_value : (c : Config) → IsFormedText c → configuration_of (config_text c) ≡ Ok (config_of c.device (items_of (config_text c)))
printed_value c formed =
    let items = items_of (config_text c) in
    let once = rising_once (map (λ (t : TileText). t.tile) c.tiles) formed.order.tiles in
    let no_faults : first_fault item_fault items ≡ None = right (said_by c) [] items (printed_says c formed) (config_right c once formed.few) in
    ap (λ f. fault_or f (with_device items (devices_of items))) no_faults ∙ ap (with_device items) (its_device_is c formed)

pub printed_read : (c : Config) → IsFormedText c → (d : Config) × ((configuration_of (config_text c) ≡ Ok d) × SameButLines c d)
printed_read c formed = (config_of c.device (items_of (config_text c)), (printed_value c formed, same_again c formed))

-- a text is read as one configuration
read_once : (c d : Config) → IsFormedText c → configuration_of (config_text c) ≡ Ok d → config_of c.device (items_of (config_text c)) ≡ d
read_once c d formed read = same_value (sym (printed_value c formed) ∙ read)
  where
    same_value : {a b : Config} → let r : Result Config ConfigFault = Ok a in r ≡ Ok b → a ≡ b
    same_value e = cc

-- whatever the text is read as is the same but for lines, and has lines in each section
pub printed_same : (c d : Config) → IsFormedText c → configuration_of (config_text c) ≡ Ok d → SameButLines c d
printed_same c d formed read = subst (SameButLines c) (read_once c d formed read) (same_again c formed)

pub printed_lines : (c d : Config) → IsFormedText c → configuration_of (config_text c) ≡ Ok d → EachHasLines d
printed_lines c d formed read = subst EachHasLines (read_once c d formed read) (says_lines c formed)
