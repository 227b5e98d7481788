-- What a configuration that is read says can stand in a text.
use Rattle.std.proofs.Common.{◌≡◌, ◌+◌, ◌-◌, ℕ, length, min, true, not, ◌⊎◌, inl, inr, List, [], ◌∷◌, ◌++◌, filter, Option, Some, None, refl, sym, ap, subst, ◌∙◌}
use Rattle.std.specs.Prelude.{Result, Ok}
use Rattle.std.specs.declared.cmp.Ordering.{Ordering}
use Rattle.std.specs.declared.cmp.Ordering.TheVariants.{Less, Equal, Greater}
use Rattle.std.specs.Ordering.{nat_cmp, match_ordering}
use Rattle.std.specs.Cmp.Lexicographic.{slice_cmp}
use Rattle.words.specs.Members.{In}
use Rattle.words.specs.Firsts.{first_fault_after, first_fault, fault_or}
use Rattle.words.specs.Ordered.{put_in_order, put_once, in_order, in_order_once}
use Rattle.records.specs.Config.{Head, ArcLine, WordLine, EnumLine, UnknownLine, TileText, Config}
use Rattle.texts.specs.Lines.{Line, last_number, lines_of}
use Rattle.texts.specs.Parts.{no_line_feed, IsTextOf}
use Rattle.texts.specs.Names.{is_name}
use Rattle.texts.proofs.LineParts.{lines_make}
use Rattle.links.proofs.Members.{of_map}
use Rattle.fabric_laws.proofs.Members.{in_filter_from}
use Rattle.cells_laws.proofs.Options.{or_none}
use Rattle.config_grammar.specs.ConfigLines.{ConfigLine, DeviceLine, HeadLine, TileLine, ArcOf, WordOf, EnumOf, UnknownOf, OutsideLine, says, is_skipped, words_in}
use Rattle.config_grammar.specs.Sections.{Item, no_lines, Behind, behind_with, behind_of, head_before, heads_of, device_in}
use Rattle.config_grammar.specs.ConfigText.{ConfigFault, item_of, items_of, says_fault, item_fault, arc_key, section_in_order}
use Rattle.text_laws.specs.Formed.{CanStand, LinesCanStand, IsFormedSection}
use Rattle.text_laws.proofs.TextLines.{words_are}
use Rattle.text_laws.proofs.Said.{said_stands}

-- ---- sections and heads

pub record BehindStands (b : Behind) : Type 0 where
  pub inside : LinesCanStand b.inside
  pub sections : (t : TileText) → In b.sections t → IsFormedSection t

abbrev pub SaysWhatStands : Option ConfigLine → Type 0
SaysWhatStands None = Unit {0}
SaysWhatStands (Some line) = CanStand line

nothing_stands : (n : ℕ) (name : List ℕ) → LinesCanStand (no_lines n name)
nothing_stands n name = record { arcs = λ a i. absurd i; words = λ w i. absurd i; enums = λ e i. absurd i; unknowns = λ u i. absurd i }

-- x in front of others with a property
with_front : {X : Type 0} (P : X → Type 0) (x : X) (xs : List X) → P x → ((y : X) → In xs y → P y) → (y : X) → In (x ∷ xs) y → P y
with_front P x xs p h y i = elim i [ inl e ↦ subst P e p | inr j ↦ h y j ]

behind_step : (n : ℕ) (o : Option ConfigLine) (b : Behind) → SaysWhatStands o → BehindStands b → BehindStands (behind_with n o b)
behind_step n None b k h = h
behind_step n (Some (DeviceLine name)) b k h = h
behind_step n (Some (HeadLine text)) b k h = h
behind_step n (Some (TileLine name)) b k h = record {
  inside = nothing_stands 0 [];
  sections =
      with_front IsFormedSection (record { tile = name; line = n; arcs = b.inside.arcs; words = b.inside.words; enums = b.inside.enums; unknowns = b.inside.unknowns }) b.sections
      (record { name = k; lines = record { arcs = h.inside.arcs; words = h.inside.words; enums = h.inside.enums; unknowns = h.inside.unknowns } }) h.sections;
}
behind_step n (Some (ArcOf sink source)) b k h = record {
  inside = record {
    arcs = with_front (λ (a : ArcLine). CanStand (ArcOf a.sink a.source)) (record { sink = sink; source = source; line = n }) b.inside.arcs k h.inside.arcs;
    words = h.inside.words;
    enums = h.inside.enums;
    unknowns = h.inside.unknowns;
  };
  sections = h.sections;
}
behind_step n (Some (WordOf name bits)) b k h = record {
  inside = record {
    arcs = h.inside.arcs;
    words = with_front (λ (w : WordLine). CanStand (WordOf w.name w.bits)) (record { name = name; bits = bits; line = n }) b.inside.words k h.inside.words;
    enums = h.inside.enums;
    unknowns = h.inside.unknowns;
  };
  sections = h.sections;
}
behind_step n (Some (EnumOf name value)) b k h = record {
  inside = record {
    arcs = h.inside.arcs;
    words = h.inside.words;
    enums = with_front (λ (e : EnumLine). CanStand (EnumOf e.name e.value)) (record { name = name; value = value; line = n }) b.inside.enums k h.inside.enums;
    unknowns = h.inside.unknowns;
  };
  sections = h.sections;
}
behind_step n (Some (UnknownOf frame bit)) b k h = record {
  inside = record {
    arcs = h.inside.arcs;
    words = h.inside.words;
    enums = h.inside.enums;
    unknowns = with_front (λ (u : UnknownLine). CanStand (UnknownOf u.frame u.bit)) (record { frame = frame; bit = bit; line = n }) b.inside.unknowns k h.inside.unknowns;
  };
  sections = h.sections;
}
behind_step n (Some OutsideLine) b k h = absurd k

-- each of some items says what can stand in a text
abbrev pub AllStand : List Item → Type 0
AllStand items = (i : Item) → In items i → SaysWhatStands i.says

pub behind_stands : (items : List Item) → AllStand items → BehindStands (behind_of items)
behind_stands [] h = record { inside = nothing_stands 0 []; sections = λ t i. absurd i }
behind_stands (item ∷ items) h = behind_step item.number item.says (behind_of items) (h item (inl refl)) (behind_stands items (λ i j. h i (inr j)))

head_step : (o : Option ConfigLine) (heads : List Head) → SaysWhatStands o → ((h : Head) → In heads h → CanStand (HeadLine h.text)) → (h : Head) → In (head_before o heads) h → CanStand (HeadLine h.text)
head_step None heads k f = f
head_step (Some (DeviceLine name)) heads k f = f
head_step (Some (HeadLine text)) heads k f = with_front (λ (h : Head). CanStand (HeadLine h.text)) (record { text = text }) heads k f
head_step (Some (TileLine name)) heads k f = f
head_step (Some (ArcOf sink source)) heads k f = f
head_step (Some (WordOf name bits)) heads k f = f
head_step (Some (EnumOf name value)) heads k f = f
head_step (Some (UnknownOf frame bit)) heads k f = f
head_step (Some OutsideLine) heads k f = f

pub heads_stand : (items : List Item) → AllStand items → (h : Head) → In (heads_of items) h → CanStand (HeadLine h.text)
heads_stand [] k h i = absurd i
heads_stand (item ∷ items) k h i = head_step item.says (heads_of items) (k item (inl refl)) (heads_stand items (λ j l. k j (inr l))) h i

pub device_stands : (o : Option ConfigLine) (d : List ℕ) → SaysWhatStands o → device_in o ≡ Some d → is_name d ≡ true
device_stands None d k h = absurd (let no : ⊥ = cc in no)
device_stands (Some (DeviceLine name)) d k h = let same : name ≡ d = cc in subst (λ n. is_name n ≡ true) same k
device_stands (Some (HeadLine text)) d k h = absurd (let no : ⊥ = cc in no)
device_stands (Some (TileLine name)) d k h = absurd (let no : ⊥ = cc in no)
device_stands (Some (ArcOf sink source)) d k h = absurd (let no : ⊥ = cc in no)
device_stands (Some (WordOf name bits)) d k h = absurd (let no : ⊥ = cc in no)
device_stands (Some (EnumOf name value)) d k h = absurd (let no : ⊥ = cc in no)
device_stands (Some (UnknownOf frame bit)) d k h = absurd (let no : ⊥ = cc in no)
device_stands (Some OutsideLine) d k h = absurd (let no : ⊥ = cc in no)

-- ---- what is put in order was there

module _ {X : Type 0} (key : X → List ℕ) where
  pub put_from : (x : X) (ys : List X) (z : X) → In (put_in_order key x ys) z → (x ≡ z) ⊎ In ys z
  put_from x [] z i = i
  put_from x (y ∷ ys) z i = go (slice_cmp nat_cmp (key x) (key y)) i (put_from x ys z)
    where
      go : (o : Ordering) → In (match_ordering o (x ∷ y ∷ ys) (x ∷ y ∷ ys) (y ∷ put_in_order key x ys)) z → (In (put_in_order key x ys) z → (x ≡ z) ⊎ In ys z) → (x ≡ z) ⊎ In (y ∷ ys) z
      go Less j ih = j
      go Equal j ih = j
      go Greater j ih = elim j [ inl e ↦ inr (inl e) | inr l ↦ elim (ih l) [ inl e ↦ inl e | inr m ↦ inr (inr m) ] ]

  pub put_once_from : (x : X) (ys : List X) (z : X) → In (put_once key x ys) z → (x ≡ z) ⊎ In ys z
  put_once_from x [] z i = i
  put_once_from x (y ∷ ys) z i = go (slice_cmp nat_cmp (key x) (key y)) i (put_once_from x ys z)
    where
      go : (o : Ordering) → In (match_ordering o (x ∷ y ∷ ys) (x ∷ ys) (y ∷ put_once key x ys)) z → (In (put_once key x ys) z → (x ≡ z) ⊎ In ys z) → (x ≡ z) ⊎ In (y ∷ ys) z
      go Less j ih = j
      go Equal j ih = elim j [ inl e ↦ inl e | inr l ↦ inr (inr l) ]
      go Greater j ih = elim j [ inl e ↦ inr (inl e) | inr l ↦ elim (ih l) [ inl e ↦ inl e | inr m ↦ inr (inr m) ] ]

  pub ordered_from : (xs : List X) (z : X) → In (in_order key xs) z → In xs z
  ordered_from [] z i = i
  ordered_from (x ∷ xs) z i = elim (put_from x (in_order key xs) z i) [ inl e ↦ inl e | inr j ↦ inr (ordered_from xs z j) ]

  ordered_once_from : (xs : List X) (z : X) → In (in_order_once key xs) z → In xs z
  ordered_once_from [] z i = i
  ordered_once_from (x ∷ xs) z i = elim (put_once_from x (in_order_once key xs) z i) [ inl e ↦ inl e | inr j ↦ inr (ordered_once_from xs z j) ]

pub section_stands : (t : TileText) → IsFormedSection t → IsFormedSection (section_in_order t)
section_stands t h = record {
  name = h.name;
  lines = record { arcs = λ a i. h.lines.arcs a (ordered_once_from arc_key t.arcs a i); words = h.lines.words; enums = h.lines.enums; unknowns = h.lines.unknowns };
}

-- ---- the items of a text that is read

line_feeds : (number start : ℕ) (lines : List Line) (text : List ℕ) → IsTextOf number start lines text → (line : Line) → In lines line → no_line_feed line.text ≡ true
line_feeds number start [] text h line i = absurd i
line_feeds number start (first ∷ lines) text h line i = elim i [
  | inl e ↦ subst (λ (l : Line). no_line_feed l.text ≡ true) e h.1.one_line
  | inr j ↦ line_feeds (min (number + 1) last_number) (start + (length text - length h.0)) lines h.0 h.4 line j
]

says_what_stands : (line : Line) (number : ℕ) (before : List Item) → no_line_feed line.text ≡ true → (o : Option ConfigLine) → says line.text (words_in line) ≡ o → says_fault number before o ≡ None → SaysWhatStands o
says_what_stands line number before feeds None e k = tt
says_what_stands line number before feeds (Some said) e k =
    said_stands line.text said feeds (sym (ap (says line.text) (words_are line)) ∙ e)
    (λ out. (let fault : says_fault number before (Some OutsideLine) ≡ None = subst (λ s. says_fault number before (Some s) ≡ None) out k in let no : ⊥ = cc in no))

none_in : {X E : Type 0} (f : List X → X → Option E) (before xs : List X) → first_fault_after f before xs ≡ None → (x : X) → In xs x → (b : List X) × (f b x ≡ None)
none_in f before [] h x i = absurd i
none_in f before (y ∷ ys) h x i =
    let p = or_none (f before y) (first_fault_after f (before ++ y ∷ []) ys) h in
    elim i [ inl e ↦ (before, subst (λ z. f before z ≡ None) e p.0) | inr j ↦ none_in f (before ++ y ∷ []) ys p.1 x j ]

pub items_stand : (bytes : List ℕ) → first_fault item_fault (items_of bytes) ≡ None → AllStand (items_of bytes)
items_stand bytes h item i =
    let l = of_map item_of (filter (λ line. not (is_skipped (words_in line))) (lines_of bytes)) item i in
    let there = (in_filter_from (λ line. not (is_skipped (words_in line))) (lines_of bytes) l.0 l.1.0).0 in
    let f = none_in item_fault [] (items_of bytes) h item i in
    let right = subst (λ x. item_fault f.0 x ≡ None) (sym l.1.1) f.1 in
    subst (λ (x : Item). SaysWhatStands x.says) l.1.1
    (says_what_stands l.0 l.0.number f.0 (line_feeds 1 0 (lines_of bytes) bytes (lines_make bytes) l.0 there) (says l.0.text (words_in l.0)) refl right)

pub no_fault : {c : Config} (o : Option ConfigFault) (r : Result Config ConfigFault) → fault_or o r ≡ Ok c → (o ≡ None) × (r ≡ Ok c)
no_fault None r h = (refl, h)
no_fault (Some f) r h = absurd (let no : ⊥ = cc in no)
