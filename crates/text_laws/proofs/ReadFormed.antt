-- A configuration that is read has the form that the laws on printing ask.
use Rattle.std.proofs.Common.{◌≡◌, ◌<◌, ◌≤◌, ℕ, suc, Bool, true, false, inl, List, [], ◌∷◌, ◌++◌, length, map, filter, Option, Some, None, cond, refl, sym, ap, subst, ◌∙◌, arith, append_assoc, append-nil, length-append}
use Rattle.std.specs.Prelude.{Ok, nat_lt}
use Rattle.std.specs.List.{cons_option}
use Rattle.std.specs.declared.cmp.Ordering.{Ordering}
use Rattle.std.specs.declared.cmp.Ordering.TheVariants.{Less, Equal, Greater}
use Rattle.std.specs.Ordering.{nat_cmp, match_ordering}
use Rattle.std.specs.Cmp.Lexicographic.{slice_cmp}
use Rattle.std.proofs.lemmas.Bool.{ltb-true}
use Rattle.std.proofs.lemmas.List.{length-map}
use Rattle.std.proofs.lemmas.List.Elements.{filter_map-append}
use Rattle.words.specs.Members.{In}
use Rattle.words.specs.Firsts.{first_fault_after, first_fault}
use Rattle.words.specs.Ordered.{put_in_order, in_order}
use Rattle.records.specs.Config.{TileText, Config}
use Rattle.records.specs.Limits.{Tiles, most_tiles}
use Rattle.texts.specs.Names.{is_name}
use Rattle.links.proofs.Members.{of_map}
use Rattle.cells_laws.proofs.Options.{or_none}
use Rattle.fabric_laws.proofs.Members.{in_filter_map_from}
use Rattle.config_grammar.specs.ConfigLines.{ConfigLine, DeviceLine, HeadLine, TileLine, ArcOf, WordOf, EnumOf, UnknownOf, OutsideLine}
use Rattle.config_grammar.specs.Sections.{Item, sections_of, device_in}
use Rattle.config_grammar.specs.ConfigText.{BadLine, TooLarge, items_of, devices_of, has_tile, tile_fault, says_fault, item_fault, section_in_order, config_of, with_device}
use Rattle.text_laws.specs.ConfigOrder.{IsInOrder}
use Rattle.text_laws.specs.Formed.{IsFormedSection, IsFormedText}
use Rattle.text_laws.specs.Printed.{IsReadConfig}
use Rattle.text_laws.specs.SameButLines.{has_lines}
use Rattle.text_laws.proofs.ConfigOrder.{tile_in, tile_names, names_are, read_in_order}
use Rattle.text_laws.proofs.ConfigRead.{AllStand, behind_stands, heads_stand, device_stands, section_stands, items_stand, ordered_from, no_fault}

-- ---- a configuration that is read has few tiles

few_tile : (n : ℕ) (sections : List TileText) (name : List ℕ) → tile_fault n sections name ≡ None → length sections < 65536
few_tile n sections name h = go (has_tile sections name) (nat_lt (length sections) most_tiles) refl h
  where
    go : (b c : Bool) → nat_lt (length sections) most_tiles ≡ c → cond b (Some (BadLine n)) (cond c None (Some (TooLarge Tiles))) ≡ None → length sections < 65536
    go true c e k = absurd (let no : ⊥ = cc in no)
    go false true e k = ltb-true (length sections) 65536 e
    go false false e k = absurd (let no : ⊥ = cc in no)

still_few : (ns : List (List ℕ)) → length ns ≤ 65536 → length (ns ++ []) ≤ 65536
still_few ns h = omega (arith, ap length (append-nil ns))

one_more_few : (n : ℕ) (before : List Item) (o : Option ConfigLine) → length (tile_names before) ≤ 65536 → says_fault n before o ≡ None → length (tile_names before ++ cons_option (tile_in o) []) ≤ 65536
one_more_few n before None h k = still_few (tile_names before) h
one_more_few n before (Some (DeviceLine d)) h k = still_few (tile_names before) h
one_more_few n before (Some (HeadLine t)) h k = still_few (tile_names before) h
one_more_few n before (Some (TileLine name)) h k =
    omega (arith, length-append (tile_names before) (name ∷ []), few_tile n (sections_of before) name k, length-map {B = List ℕ} (sections_of before) (λ t. t.tile), ap length (names_are before))
one_more_few n before (Some (ArcOf a b)) h k = still_few (tile_names before) h
one_more_few n before (Some (WordOf a b)) h k = still_few (tile_names before) h
one_more_few n before (Some (EnumOf a b)) h k = still_few (tile_names before) h
one_more_few n before (Some (UnknownOf a b)) h k = still_few (tile_names before) h
one_more_few n before (Some OutsideLine) h k = still_few (tile_names before) h

few_names : (before items : List Item) → length (tile_names before) ≤ 65536 → first_fault_after item_fault before items ≡ None → length (tile_names (before ++ items)) ≤ 65536
few_names before [] h k = subst (λ is. length (tile_names is) ≤ 65536) (sym (append-nil before)) h
few_names before (i ∷ is) h k =
    let p = or_none (item_fault before i) (first_fault_after item_fault (before ++ i ∷ []) is) k in
    let more = subst (λ ns. length ns ≤ 65536) (sym (filter_map-append (λ (i : Item). tile_in i.says) before (i ∷ []))) (one_more_few i.number before i.says h p.0) in
    subst (λ is. length (tile_names is) ≤ 65536) (append_assoc before (i ∷ []) is) (few_names (before ++ i ∷ []) is more p.1)

put_length : {X : Type 0} (key : X → List ℕ) (x : X) (ys : List X) → length (put_in_order key x ys) ≡ suc (length ys)
put_length key x [] = refl
put_length key x (y ∷ ys) = go (slice_cmp nat_cmp (key x) (key y)) (put_length key x ys)
  where
    go : (o : Ordering) → length (put_in_order key x ys) ≡ suc (length ys) → length (match_ordering o (x ∷ y ∷ ys) (x ∷ y ∷ ys) (y ∷ put_in_order key x ys)) ≡ suc (suc (length ys))
    go Less e = refl
    go Equal e = refl
    go Greater e = ap suc e

ordered_length : {X : Type 0} (key : X → List ℕ) (xs : List X) → length (in_order key xs) ≡ length xs
ordered_length key [] = refl
ordered_length key (x ∷ xs) = put_length key x (in_order key xs) ∙ ap suc (ordered_length key xs)

few_tiles : (items : List Item) (ds : List (List ℕ)) (c : Config) → length (tile_names items) ≤ 65536 → with_device items ds ≡ Ok c → length c.tiles ≤ 65536
few_tiles items [] c h e = absurd (let no : ⊥ = cc in no)
few_tiles items (d ∷ ds) c h e =
    let same : config_of d items ≡ c = cc in
    let sections = sections_of items in
    subst (λ (x : Config). length x.tiles ≤ 65536) same
    (omega (arith, ordered_length (λ (t : TileText). t.tile) (map section_in_order sections), length-map {B = TileText} sections section_in_order, length-map {B = List ℕ} sections (λ t. t.tile), ap length (names_are items)))

left_few : {X : Type 0} (t : X → Bool) (xs : List X) → length (filter t xs) ≤ length xs
left_few t [] = omega arith
left_few t (x ∷ xs) = go (t x) (left_few t xs)
  where
    go : (b : Bool) → length (filter t xs) ≤ length xs → length (cond b (x ∷ filter t xs) (filter t xs)) ≤ suc (length xs)
    go true h = omega arith
    go false h = omega arith

-- ---- the whole

formed_of : (items : List Item) (ds : List (List ℕ)) (c : Config) → AllStand items → ((d : List ℕ) → In ds d → is_name d ≡ true) → IsInOrder c → length c.tiles ≤ 65536 → with_device items ds ≡ Ok c
    → IsFormedText c
formed_of items [] c h k order few e = absurd (let no : ⊥ = cc in no)
formed_of items (d ∷ ds) c h k order few e =
    let same : config_of d items ≡ c = cc in
    let sections : (t : TileText) → In (config_of d items).tiles t → IsFormedSection t = λ t i.
    (let m = of_map section_in_order (sections_of items) t (ordered_from (λ t. t.tile) (map section_in_order (sections_of items)) t i) in
    subst IsFormedSection m.1.1 (section_stands m.0 ((behind_stands items h).sections m.0 m.1.0))) in
    subst IsFormedText same (record {
      device = k d (inl refl);
      heads = heads_stand items h;
      sections = sections;
      order = subst IsInOrder (sym same) order;
      few = subst (λ (x : Config). length (filter has_lines x.tiles) ≤ 65536) (sym same) (omega (arith, left_few has_lines c.tiles, few));
    })

-- a configuration that is read has the form
pub read_formed : (c : Config) → IsReadConfig c → IsFormedText c
read_formed c read =
    let items = items_of read.0 in
    let n = no_fault (first_fault item_fault items) (with_device items (devices_of items)) read.1 in
    let all = items_stand read.0 n.0 in
    let named : (d : List ℕ) → In (devices_of items) d → is_name d ≡ true = λ d i.
    (let r = in_filter_map_from (λ (item : Item). device_in item.says) items d i in device_stands r.0.says d (all r.0 r.1) r.2) in
    formed_of items (devices_of items) c all named (read_in_order c read) (few_tiles items (devices_of items) c (few_names [] items (omega arith) n.0) n.1) n.1
