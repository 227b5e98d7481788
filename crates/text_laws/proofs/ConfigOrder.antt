-- The tiles of a configuration that is read, and the arcs of a tile, stand in order, each once.
use Rattle.std.proofs.Common.{◌≡◌, ◌⊎◌, ℕ, Bool, true, false, inl, inr, List, [], ◌∷◌, ◌++◌, length, map, filter_map, Option, Some, None, cond, refl, sym, ap, subst, ◌∙◌, append_assoc, append-nil}
use Rattle.std.specs.Prelude.{Ok, nat_lt}
use Rattle.std.specs.List.{cons_option}
use Rattle.std.specs.declared.cmp.Ordering.{Ordering}
use Rattle.std.specs.declared.cmp.Ordering.TheVariants.{Less, Equal, Greater}
use Rattle.std.specs.Ordering.{ordering_reverse, match_ordering}
use Rattle.std.specs.Cmp.Lexicographic.{nat_list_cmp_total}
use Rattle.std.proofs.lemmas.List.Elements.{filter_map-append}
use Rattle.words.specs.Members.{In}
use Rattle.words.specs.Firsts.{first_fault_after, first_fault}
use Rattle.words.specs.Twice.{HasNoneTwice}
use Rattle.words.specs.Ordered.{put_in_order, put_once, in_order, in_order_once}
use Rattle.records.specs.Config.{TileText, Config}
use Rattle.links.proofs.Members.{in_map, of_map}
use Rattle.fabric.specs.Wires.{name_cmp}
use Rattle.fabric.specs.InOrder.{IsRising}
use Rattle.fabric_laws.proofs.Orders.{name_same}
use Rattle.cells_laws.proofs.Options.{or_none}
use Rattle.config_grammar.specs.ConfigLines.{ConfigLine, DeviceLine, HeadLine, TileLine, ArcOf, WordOf, EnumOf, UnknownOf, OutsideLine}
use Rattle.config_grammar.specs.Sections.{Item, Behind, behind_with, behind_of, sections_of}
use Rattle.config_grammar.specs.ConfigText.{TooLarge, BadLine, items_of, devices_of, has_tile, tile_fault, says_fault, item_fault, arc_key, section_in_order, config_of, with_device}
use Rattle.records.specs.Limits.{Tiles, most_tiles}
use Rattle.text_laws.specs.Printed.{IsReadConfig}
use Rattle.text_laws.specs.ConfigOrder.{IsInOrder}
use Rattle.text_laws.proofs.Pushed.{pushed_twice, not_had}
use Rattle.text_laws.proofs.ConfigRead.{put_from, put_once_from, ordered_from, no_fault}

module _ {X : Type 0} (key : X → List ℕ) where
  -- what is put in its place comes after what it isn't before
  later : (x y : X) (ys : List X) → IsRising name_cmp (map key (y ∷ ys)) → name_cmp (key x) (key y) ≡ Greater → (z : X) → (x ≡ z) ⊎ In ys z → name_cmp (key y) (key z) ≡ Less
  later x y ys r h z i = elim i [
    | inl e ↦ subst (λ w. name_cmp (key y) (key w) ≡ Less) e (nat_list_cmp_total.antisymm (key y) (key x) ∙ ap ordering_reverse h)
    | inr j ↦ r.0 (key z) (in_map key ys z j)
  ]

  before_all : (x y : X) (ys : List X) → IsRising name_cmp (map key (y ∷ ys)) → name_cmp (key x) (key y) ≡ Less → (k : List ℕ) → In (map key (y ∷ ys)) k → name_cmp (key x) k ≡ Less
  before_all x y ys r h k i = elim i [ inl e ↦ subst (λ w. name_cmp (key x) w ≡ Less) e h | inr j ↦ nat_list_cmp_total.trans (key x) (key y) k h (r.0 k j) ]

  put_once_rising : (x : X) (ys : List X) → IsRising name_cmp (map key ys) → IsRising name_cmp (map key (put_once key x ys))
  put_once_rising x [] r = ((λ k i. absurd i), tt)
  put_once_rising x (y ∷ ys) r = go (name_cmp (key x) (key y)) refl (put_once_rising x ys r.1)
    where
      go : (o : Ordering) → name_cmp (key x) (key y) ≡ o → IsRising name_cmp (map key (put_once key x ys))
          → IsRising name_cmp (map key (match_ordering o (x ∷ y ∷ ys) (x ∷ ys) (y ∷ put_once key x ys)))
      go Less h ih = (before_all x y ys r h, r)
      go Equal h ih = ((λ k i. nat_list_cmp_total.congr (key x) (key y) k h ∙ r.0 k i), r.1)
      go Greater h ih = ((λ k i. (let m = of_map key (put_once key x ys) k i in subst (λ w. name_cmp (key y) w ≡ Less) m.1.1 (later x y ys r h m.0 (put_once_from key x ys m.0 m.1.0)))), ih)

  once_rising : (xs : List X) → IsRising name_cmp (map key (in_order_once key xs))
  once_rising [] = tt
  once_rising (x ∷ xs) = put_once_rising x (in_order_once key xs) (once_rising xs)

  put_rising : (x : X) (ys : List X) → IsRising name_cmp (map key ys) → (In (map key ys) (key x) → ⊥) → IsRising name_cmp (map key (put_in_order key x ys))
  put_rising x [] r new = ((λ k i. absurd i), tt)
  put_rising x (y ∷ ys) r new = go (name_cmp (key x) (key y)) refl (put_rising x ys r.1 (λ i. new (inr i)))
    where
      go : (o : Ordering) → name_cmp (key x) (key y) ≡ o → IsRising name_cmp (map key (put_in_order key x ys))
          → IsRising name_cmp (map key (match_ordering o (x ∷ y ∷ ys) (x ∷ y ∷ ys) (y ∷ put_in_order key x ys)))
      go Less h ih = (before_all x y ys r h, r)
      go Equal h ih = absurd (new (inl (sym (name_same (key x) (key y) h))))
      go Greater h ih = ((λ k i. (let m = of_map key (put_in_order key x ys) k i in subst (λ w. name_cmp (key y) w ≡ Less) m.1.1 (later x y ys r h m.0 (put_from key x ys m.0 m.1.0)))), ih)

  ordered_rising : (xs : List X) → HasNoneTwice (map key xs) → IsRising name_cmp (map key (in_order key xs))
  ordered_rising [] h = tt
  ordered_rising (x ∷ xs) h =
      put_rising x (in_order key xs) (ordered_rising xs h.1)
      (λ i. (let m = of_map key (in_order key xs) (key x) i in h.0 (subst (In (map key xs)) m.1.1 (in_map key xs m.0 (ordered_from key xs m.0 m.1.0)))))

-- ---- no tile has two sections

abbrev pub tile_in : Option ConfigLine → Option (List ℕ)
tile_in None = None
tile_in (Some (DeviceLine name)) = None
tile_in (Some (HeadLine text)) = None
tile_in (Some (TileLine name)) = Some name
tile_in (Some (ArcOf sink source)) = None
tile_in (Some (WordOf name bits)) = None
tile_in (Some (EnumOf name value)) = None
tile_in (Some (UnknownOf frame bit)) = None
tile_in (Some OutsideLine) = None

abbrev pub tile_names : List Item → List (List ℕ)
tile_names items = filter_map (λ i. tile_in i.says) items

names_step : (n : ℕ) (o : Option ConfigLine) (b : Behind) → map (λ t. t.tile) (behind_with n o b).sections ≡ cons_option (tile_in o) (map (λ t. t.tile) b.sections)
names_step n None b = refl
names_step n (Some (DeviceLine name)) b = refl
names_step n (Some (HeadLine text)) b = refl
names_step n (Some (TileLine name)) b = refl
names_step n (Some (ArcOf sink source)) b = refl
names_step n (Some (WordOf name bits)) b = refl
names_step n (Some (EnumOf name value)) b = refl
names_step n (Some (UnknownOf frame bit)) b = refl
names_step n (Some OutsideLine) b = refl

pub names_are : (items : List Item) → map (λ t. t.tile) (sections_of items) ≡ tile_names items
names_are [] = refl
names_are (i ∷ is) = names_step i.number i.says (behind_of is) ∙ ap (cons_option (tile_in i.says)) (names_are is)

new_tile : (number : ℕ) (sections : List TileText) (name : List ℕ) → tile_fault number sections name ≡ None → has_tile sections name ≡ false
new_tile number sections name h = go (has_tile sections name) h
  where
    go : (b : Bool) → (cond b (Some (BadLine number)) (cond (nat_lt (length sections) most_tiles) None (Some (TooLarge Tiles)))) ≡ None → b ≡ false
    go true k = absurd (let no : ⊥ = cc in no)
    go false k = refl

as_before : (names : List (List ℕ)) → HasNoneTwice names → HasNoneTwice (names ++ [])
as_before names h = subst HasNoneTwice (sym (append-nil names)) h

one_more_name : (number : ℕ) (before : List Item) (o : Option ConfigLine) → HasNoneTwice (tile_names before) → says_fault number before o ≡ None → HasNoneTwice (tile_names before ++ cons_option (tile_in o) [])
one_more_name number before None h k = as_before (tile_names before) h
one_more_name number before (Some (DeviceLine name)) h k = as_before (tile_names before) h
one_more_name number before (Some (HeadLine text)) h k = as_before (tile_names before) h
one_more_name number before (Some (TileLine name)) h k =
    pushed_twice (tile_names before) name h
    (λ i. not_had (λ (t : TileText). t.tile) (sections_of before) name (new_tile number (sections_of before) name k) (subst (λ ns. In ns name) (sym (names_are before)) i))
one_more_name number before (Some (ArcOf sink source)) h k = as_before (tile_names before) h
one_more_name number before (Some (WordOf name bits)) h k = as_before (tile_names before) h
one_more_name number before (Some (EnumOf name value)) h k = as_before (tile_names before) h
one_more_name number before (Some (UnknownOf frame bit)) h k = as_before (tile_names before) h
one_more_name number before (Some OutsideLine) h k = as_before (tile_names before) h

names_once : (before items : List Item) → HasNoneTwice (tile_names before) → first_fault_after item_fault before items ≡ None → HasNoneTwice (tile_names (before ++ items))
names_once before [] h k = subst (λ is. HasNoneTwice (tile_names is)) (sym (append-nil before)) h
names_once before (i ∷ is) h k =
    let p = or_none (item_fault before i) (first_fault_after item_fault (before ++ i ∷ []) is) k in
    let more = subst HasNoneTwice (sym (filter_map-append (λ (i : Item). tile_in i.says) before (i ∷ []))) (one_more_name i.number before i.says h p.0) in
    subst (λ is. HasNoneTwice (tile_names is)) (append_assoc before (i ∷ []) is) (names_once (before ++ i ∷ []) is more p.1)

same_tiles : (ts : List TileText) → map (λ t. t.tile) (map section_in_order ts) ≡ map (λ t. t.tile) ts
same_tiles [] = refl
same_tiles (t ∷ ts) = ap (λ ns. t.tile ∷ ns) (same_tiles ts)

ordered_config : (items : List Item) (ds : List (List ℕ)) (c : Config) → HasNoneTwice (tile_names items) → with_device items ds ≡ Ok c → IsInOrder c
ordered_config items [] c h e = absurd (let no : ⊥ = cc in no)
ordered_config items (d ∷ ds) c h e =
    let same : config_of d items ≡ c = cc in
    let sections = map section_in_order (sections_of items) in
    subst IsInOrder same (record {
      tiles = ordered_rising (λ t. t.tile) sections (subst HasNoneTwice (sym (same_tiles (sections_of items) ∙ names_are items)) h);
      arcs = λ t i.
          (let m = of_map section_in_order (sections_of items) t (ordered_from (λ t. t.tile) sections t i) in
          subst (λ (u : TileText). IsRising name_cmp (map arc_key u.arcs)) m.1.1 (once_rising arc_key m.0.arcs));
    })

-- a configuration that is read is in order
pub read_in_order : (c : Config) → IsReadConfig c → IsInOrder c
read_in_order c read =
    let items = items_of read.0 in
    let n = no_fault (first_fault item_fault items) (with_device items (devices_of items)) read.1 in
    ordered_config items (devices_of items) c (names_once [] items tt n.0) n.1
