-- No line of a text is refused exactly where each section names what is there.
use Rattle.std.proofs.Common.{◌≡◌, ℕ, zero, suc, List, [], ◌∷◌, ◌++◌, map, flat_map, Option, Some, None, option_map, refl, sym, ap, ◌∙◌}
use Rattle.std.specs.Prelude.{slice_get}
use Rattle.std.specs.Option.{option_map_or}
use Rattle.std.specs.Str.{bytes_eq}
use Rattle.words.specs.Members.{In}
use Rattle.records.specs.Grid.{Tile}
use Rattle.records.specs.Config.{TileText, Config}
use Rattle.fabric.specs.InOrder.{IsRising}
use Rattle.fabric.specs.Wires.{name_cmp}
use Rattle.fabric.specs.Device.{Device}
use Rattle.fabric.specs.Graph.{Graph}
use Rattle.fabric.specs.GraphOf.{settings_in, IsGraph}
use Rattle.fabric.specs.Image.{tile_named}
use Rattle.fabric_laws.proofs.Numbered.{at_position}
use Rattle.config_grammar.specs.ConfigText.{arc_key}
use Rattle.answers.specs.Refusals.{UnknownTile}
use Rattle.design_checks.specs.LineChecks.{LineFault, fault_at, arc_faults, word_faults, enum_faults, unknown_faults, lines_faults, section_faults_in, section_faults, line_faults, lowest_line, line_refusal}
use Rattle.text_laws.specs.Formed.{IsFormedSection, IsFormedText}
use Rattle.written_laws.specs.Writable.{TilePlace, SectionStands, IsWritable}
use Rattle.written_laws.proofs.Lists.{left_empty, right_empty, both_empty, each_empty, all_empty}

get_map : {X Y : Type 0} (f : X → Y) (xs : List X) (n : ℕ) (x : X) → slice_get xs n ≡ Some x → slice_get (map f xs) n ≡ Some (f x)
get_map f [] n x e = absurd (let no : ⊥ = cc in no)
get_map f (z ∷ xs) zero x e = ap (λ y. Some (f y)) (let s : z ≡ x = cc in s)
get_map f (z ∷ xs) (suc n) x e = get_map f xs n x e

-- ---- places

module _ (device : Device) (g : Graph) (is : IsGraph device g) where
  -- the settings of a tile are those of its database
  pub settings_there : (number : ℕ) (tile : Tile) → slice_get g.grid.tiles number ≡ Some tile → slice_get g.settings number ≡ Some (settings_in device tile)
  settings_there number tile e =
      ap (λ s. slice_get s number) is.settings ∙ get_map (settings_in device) device.grid.tiles number tile (ap (λ x. slice_get x.tiles number) (sym is.grid) ∙ e)

  pub place_of : (name : List ℕ) (number : ℕ) → tile_named g name ≡ Some number → TilePlace g name
  place_of name number e =
      let p = at_position (λ t. bytes_eq t.name name) g.grid.tiles number e in
      record { number = number; tile = p.0; settings = settings_in device p.0; named = e; there = p.1.0; set = settings_there number p.0 p.1.0 }

-- a place has one number, one tile and its settings
pub one_place : {g : Graph} {name : List ℕ} (p q : TilePlace g name) → p.number ≡ q.number
one_place p q = let e : Some p.number ≡ Some q.number = sym p.named ∙ q.named in let s : p.number ≡ q.number = cc in s

-- ---- the faults of a section

module _ (g : Graph) (t : TileText) (p : TilePlace g t.tile) where
  abbrev Faults : Type 0
  Faults = List LineFault

  abbrev of_arcs : Faults
  of_arcs = flat_map (arc_faults g p.number p.tile) t.arcs

  abbrev of_words : Faults
  of_words = flat_map (word_faults p.settings) t.words

  abbrev of_enums : Faults
  of_enums = flat_map (enum_faults p.settings) t.enums

  abbrev of_unknowns : Faults
  of_unknowns = flat_map (unknown_faults p.tile) t.unknowns

  section_is : section_faults g t ≡ lines_faults g t p.number p.tile p.settings
  section_is =
      ap (λ o. option_map_or (section_faults_in g t) o (fault_at t.line UnknownTile ∷ [])) p.named
      ∙ (ap (λ o. option_map_or (λ tile. option_map_or (lines_faults g t p.number tile) (slice_get g.settings p.number) []) o []) p.there
      ∙ ap (λ o. option_map_or (lines_faults g t p.number p.tile) o []) p.set)

  pub from_faults : section_faults g t ≡ [] → IsFormedSection t → IsRising name_cmp (map arc_key t.arcs) → SectionStands g t
  from_faults h formed order = record {
    place = p;
    arcs = each_empty (arc_faults g p.number p.tile) t.arcs (left_empty of_arcs of_words (left_empty (of_arcs ++ of_words) of_enums front));
    words = λ w i. (each_empty (word_faults p.settings) t.words (right_empty of_arcs of_words (left_empty (of_arcs ++ of_words) of_enums front)) w i, (formed.lines.words w i).1);
    enums = each_empty (enum_faults p.settings) t.enums (right_empty (of_arcs ++ of_words) of_enums front);
    unknowns = λ u i. (each_empty (unknown_faults p.tile) t.unknowns (right_empty (of_arcs ++ of_words ++ of_enums) of_unknowns whole) u i, formed.lines.unknowns u i);
    order = order;
  }
    where
      whole : of_arcs ++ of_words ++ of_enums ++ of_unknowns ≡ []
      whole = sym section_is ∙ h

      front : of_arcs ++ of_words ++ of_enums ≡ []
      front = left_empty (of_arcs ++ of_words ++ of_enums) of_unknowns whole

pub to_faults : (g : Graph) (t : TileText) → SectionStands g t → section_faults g t ≡ []
to_faults g t s =
    section_is g t s.place
    ∙ both_empty (of_arcs g t s.place ++ of_words g t s.place ++ of_enums g t s.place) (of_unknowns g t s.place)
    (both_empty (of_arcs g t s.place ++ of_words g t s.place) (of_enums g t s.place)
    (both_empty (of_arcs g t s.place) (of_words g t s.place) (all_empty (arc_faults g s.place.number s.place.tile) t.arcs s.arcs)
    (all_empty (word_faults s.place.settings) t.words (λ w i. (s.words w i).0)))
    (all_empty (enum_faults s.place.settings) t.enums s.enums))
    (all_empty (unknown_faults s.place.tile) t.unknowns (λ u i. (s.unknowns u i).0))

-- ---- the text

none_lowest : (faults : List LineFault) → option_map (λ (f : LineFault). f.refusal) (lowest_line faults) ≡ None → faults ≡ []
none_lowest [] h = refl
none_lowest (f ∷ fs) h = absurd (let no : ⊥ = cc in no)

-- a text of the form that is read, of which no line is refused, is one that may be written for it
pub read_is_writable : (device : Device) (g : Graph) → IsGraph device g → (c : Config) → IsFormedText c → line_refusal g c ≡ None → IsWritable g c c
read_is_writable device g is c formed none = record { device = refl; heads = refl; tiles = formed.order.tiles; sections = λ t i. section t (formed.sections t i) (formed.order.arcs t i) (at t i) }
  where
    at : (t : TileText) → In c.tiles t → section_faults g t ≡ []
    at = each_empty (section_faults g) c.tiles (none_lowest (line_faults g c) none)

    section : (t : TileText) → IsFormedSection t → IsRising name_cmp (map arc_key t.arcs) → section_faults g t ≡ [] → SectionStands g t
    section t form order h = go (tile_named g t.tile) refl
      where
        go : (o : Option ℕ) → tile_named g t.tile ≡ o → SectionStands g t
        go None e = absurd (let bad : option_map_or (section_faults_in g t) None (fault_at t.line UnknownTile ∷ []) ≡ [] = ap (λ o. option_map_or (section_faults_in g t) o (fault_at t.line UnknownTile ∷ [])) (sym e) ∙ h in let no : ⊥ = cc in no)
        go (Some n) e = from_faults g t (place_of device g is t.tile n e) h form order

-- no line of a text that may be written is refused
pub none_refused : (g : Graph) (read c : Config) → IsWritable g read c → line_refusal g c ≡ None
none_refused g read c w = ap (λ faults. option_map (λ (f : LineFault). f.refusal) (lowest_line faults)) (all_empty (section_faults g) c.tiles (λ t i. to_faults g t (w.sections t i)))
