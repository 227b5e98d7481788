-- What the text of a configuration says is the configuration again, but for the numbers of lines.
use Rattle.std.proofs.Common.{◌≡◌, ℕ, Bool, true, false, inl, inr, List, [], ◌∷◌, map, filter, cond, refl, sym, ap, ap₂, subst, ◌∙◌}
use Rattle.std.specs.declared.cmp.Ordering.TheVariants.{Less}
use Rattle.std.specs.Ordering.{match_ordering}
use Rattle.words.specs.Members.{In}
use Rattle.words.specs.Ordered.{put_in_order, put_once, in_order, in_order_once}
use Rattle.records.specs.Config.{ArcLine, WordLine, EnumLine, UnknownLine, TileText, Config}
use Rattle.links.proofs.Members.{in_map, of_map}
use Rattle.fabric.specs.Wires.{name_cmp}
use Rattle.fabric.specs.InOrder.{IsRising}
use Rattle.fabric_laws.proofs.Members.{in_filter_from}
use Rattle.config_grammar.specs.ConfigPrint.{config_text}
use Rattle.config_grammar.specs.ConfigText.{items_of, arc_key, section_in_order, config_of}
use Rattle.config_grammar.specs.Sections.{sections_of}
use Rattle.text_laws.specs.Formed.{IsFormedText}
use Rattle.text_laws.specs.SameButLines.{unnumbered_arc, unnumbered, has_lines, EachHasLines, SameButLines}
use Rattle.text_laws.proofs.PrintedParts.{its_heads_are, its_sections_are}

-- ---- what is in order stays as it is

module _ {X : Type 0} (key : X → List ℕ) where
  put_first : (x : X) (ys : List X) → ((k : List ℕ) → In (map key ys) k → name_cmp (key x) k ≡ Less) → put_in_order key x ys ≡ x ∷ ys
  put_first x [] h = refl
  put_first x (y ∷ ys) h = ap (λ o. match_ordering o (x ∷ y ∷ ys) (x ∷ y ∷ ys) (y ∷ put_in_order key x ys)) (h (key y) (inl refl))

  ordered_same : (xs : List X) → IsRising name_cmp (map key xs) → in_order key xs ≡ xs
  ordered_same [] r = refl
  ordered_same (x ∷ xs) r = ap (put_in_order key x) (ordered_same xs r.1) ∙ put_first x xs r.0

  put_once_first : (x : X) (ys : List X) → ((k : List ℕ) → In (map key ys) k → name_cmp (key x) k ≡ Less) → put_once key x ys ≡ x ∷ ys
  put_once_first x [] h = refl
  put_once_first x (y ∷ ys) h = ap (λ o. match_ordering o (x ∷ y ∷ ys) (x ∷ ys) (y ∷ put_once key x ys)) (h (key y) (inl refl))

  once_same : (xs : List X) → IsRising name_cmp (map key xs) → in_order_once key xs ≡ xs
  once_same [] r = refl
  once_same (x ∷ xs) r = ap (put_once key x) (once_same xs r.1) ∙ put_once_first x xs r.0

  -- so does what is left of it
  left_rising : (t : X → Bool) (xs : List X) → IsRising name_cmp (map key xs) → IsRising name_cmp (map key (filter t xs))
  left_rising t [] r = tt
  left_rising t (x ∷ xs) r = go (t x) (left_rising t xs r.1)
    where
      go : (b : Bool) → IsRising name_cmp (map key (filter t xs)) → IsRising name_cmp (map key (cond b (x ∷ filter t xs) (filter t xs)))
      go true ih = ((λ k i. (let m = of_map key (filter t xs) k i in subst (λ w. name_cmp (key x) w ≡ Less) m.1.1 (r.0 (key m.0) (in_map key xs m.0 (in_filter_from t xs m.0 m.1.0).0)))), ih)
      go false ih = ih

-- ---- sections that are the same without numbers

arc_keys : (arcs : List ArcLine) → map arc_key (map unnumbered_arc arcs) ≡ map arc_key arcs
arc_keys [] = refl
arc_keys (a ∷ more) = ap (λ ks. arc_key a ∷ ks) (arc_keys more)

keys_of : (t : TileText) → map arc_key (unnumbered t).arcs ≡ map arc_key t.arcs
keys_of t = arc_keys t.arcs

names_of : (ts : List TileText) → map (λ t. t.tile) (map unnumbered ts) ≡ map (λ t. t.tile) ts
names_of [] = refl
names_of (t ∷ ts) = ap (λ ns. t.tile ∷ ns) (names_of ts)

still_has : (arcs : List ArcLine) (words : List WordLine) (enums : List EnumLine) (unknowns : List UnknownLine) (tile : List ℕ) (line : ℕ)
    → let t : TileText = record { tile = tile; line = line; arcs = arcs; words = words; enums = enums; unknowns = unknowns } in has_lines (unnumbered t) ≡ has_lines t
still_has (a ∷ more) words enums unknowns tile line = refl
still_has [] (w ∷ more) enums unknowns tile line = refl
still_has [] [] (e ∷ more) unknowns tile line = refl
still_has [] [] [] (u ∷ more) tile line = refl
still_has [] [] [] [] tile line = refl

lines_kept : (t : TileText) → has_lines (unnumbered t) ≡ has_lines t
lines_kept t = still_has t.arcs t.words t.enums t.unknowns t.tile t.line

-- a property that numbers don't matter for goes over from sections to the same ones
goes_over : (P : TileText → Type 0) → ((t u : TileText) → unnumbered t ≡ unnumbered u → P u → P t) → (ts us : List TileText) → map unnumbered ts ≡ map unnumbered us
    → ((u : TileText) → In us u → P u) → (t : TileText) → In ts t → P t
goes_over P step [] us e h t i = absurd i
goes_over P step (x ∷ ts) [] e h t i = absurd (let no : ⊥ = cc in no)
goes_over P step (x ∷ ts) (y ∷ us) e h t i =
    let first : unnumbered x ≡ unnumbered y = cc in
    let later : map unnumbered ts ≡ map unnumbered us = cc in
    elim i [ inl s ↦ subst P s (step x y first (h y (inl refl))) | inr j ↦ goes_over P step ts us later (λ u k. h u (inr k)) t j ]

each_in_order : (ts : List TileText) → ((t : TileText) → In ts t → IsRising name_cmp (map arc_key t.arcs)) → map section_in_order ts ≡ ts
each_in_order [] h = refl
each_in_order (t ∷ ts) h =
    ap₂ (λ (u : TileText) us. u ∷ us) (ap (λ (arcs : List ArcLine). let u : TileText = record t { arcs = arcs } in u) (once_same arc_key t.arcs (h t (inl refl)))) (each_in_order ts (λ u i. h u (inr i)))

all_left : (ts : List TileText) → ((t : TileText) → In ts t → has_lines t ≡ true) → filter has_lines ts ≡ ts
all_left [] h = refl
all_left (t ∷ ts) h = ap (λ b. cond b (t ∷ filter has_lines ts) (filter has_lines ts)) (h t (inl refl)) ∙ ap (λ us. t ∷ us) (all_left ts (λ u i. h u (inr i)))

-- what the text of a configuration says
module _ (c : Config) (formed : IsFormedText c) where
  abbrev kept : List TileText
  kept = filter has_lines c.tiles

  abbrev sections : List TileText
  sections = sections_of (items_of (config_text c))

  sections_have_lines : (t : TileText) → In sections t → has_lines t ≡ true
  sections_have_lines =
      goes_over (λ t. has_lines t ≡ true) (λ t u e h. sym (lines_kept t) ∙ ap has_lines e ∙ lines_kept u ∙ h) sections kept (its_sections_are c formed)
      (λ t i. (in_filter_from has_lines c.tiles t i).1)

  arcs_in_order : (t : TileText) → In sections t → IsRising name_cmp (map arc_key t.arcs)
  arcs_in_order =
      goes_over (λ t. IsRising name_cmp (map arc_key t.arcs)) (λ t u e r. subst (IsRising name_cmp) (sym (keys_of u) ∙ ap (λ (v : TileText). map arc_key v.arcs) (sym e) ∙ keys_of t) r) sections kept
      (its_sections_are c formed) (λ t i. formed.order.arcs t (in_filter_from has_lines c.tiles t i).0)

  -- the sections stand in order already
  tiles_are_sections : (config_of c.device (items_of (config_text c))).tiles ≡ sections
  tiles_are_sections =
      let names : map (λ (t : TileText). t.tile) kept ≡ map (λ t. t.tile) sections = sym (names_of kept) ∙ ap (map (λ t. t.tile)) (sym (its_sections_are c formed)) ∙ names_of sections in
      let rising = subst (IsRising name_cmp) names (left_rising (λ (t : TileText). t.tile) has_lines c.tiles formed.order.tiles) in
      ap (in_order (λ t. t.tile)) (each_in_order sections arcs_in_order) ∙ ordered_same (λ t. t.tile) sections rising

  pub same_again : SameButLines c (config_of c.device (items_of (config_text c)))
  same_again = record {
    device = refl;
    heads = its_heads_are c formed;
    sections = ap (λ ts. map unnumbered (filter has_lines ts)) tiles_are_sections ∙ ap (map unnumbered) (all_left sections sections_have_lines) ∙ its_sections_are c formed;
  }

  pub says_lines : EachHasLines (config_of c.device (items_of (config_text c)))
  says_lines t i = sections_have_lines t (subst (λ ts. In ts t) tiles_are_sections i)
