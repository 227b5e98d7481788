-- Tests for the form of a configuration that is read, and the toggle, which passes them.
use Rattle.std.proofs.Common.{◌≡◌, Bool, true, List, [], ◌∷◌, length, map, refl, arith}
use Rattle.std.specs.Prelude.{◌&&◌, nat_lt, nat_le, ℕ}
use Rattle.std.specs.List.{list_all}
use Rattle.std.specs.declared.cmp.Ordering.{Ordering}
use Rattle.std.specs.declared.cmp.Ordering.TheVariants.{Less, Equal, Greater}
use Rattle.std.specs.Ordering.{is_lt}
use Rattle.std.proofs.lemmas.Bool.{false≢true, and_parts, leb-true, ltb-true}
use Rattle.records.specs.Config.{ArcLine, WordLine, EnumLine, UnknownLine, TileText}
use Rattle.texts.specs.Names.{is_name}
use Rattle.fabric.specs.InOrder.{IsRising}
use Rattle.fabric.specs.Wires.{name_cmp}
use Rattle.fabric_laws.proofs.Members.{all_from}
use Rattle.config_grammar.specs.ConfigText.{arc_key}
use Rattle.mini.specs.Toggle.{toggle}
use Rattle.text_laws.specs.Formed.{LinesCanStand, IsFormedSection, IsFormedText}

abbrev pub is_arc_line : ArcLine → Bool
is_arc_line a = is_name a.sink && is_name a.source

abbrev pub is_word_line : WordLine → Bool
is_word_line w = is_name w.name && nat_lt 0 (length w.bits)

abbrev pub is_enum_line : EnumLine → Bool
is_enum_line e = is_name e.name && is_name e.value

abbrev pub is_unknown_line : UnknownLine → Bool
is_unknown_line u = nat_le u.frame 65535 && nat_le u.bit 65535

abbrev pub lines_stand : TileText → Bool
lines_stand t = (list_all is_arc_line t.arcs && list_all is_word_line t.words) && (list_all is_enum_line t.enums && list_all is_unknown_line t.unknowns)

-- ---- the tests are right

lines_right : (t : TileText) → lines_stand t ≡ true → LinesCanStand t
lines_right t h =
    let both = and_parts (list_all is_arc_line t.arcs && list_all is_word_line t.words) (list_all is_enum_line t.enums && list_all is_unknown_line t.unknowns) h in
    let first = and_parts (list_all is_arc_line t.arcs) (list_all is_word_line t.words) both.0 in
    let second = and_parts (list_all is_enum_line t.enums) (list_all is_unknown_line t.unknowns) both.1 in
    record {
      arcs = λ a i. and_parts (is_name a.sink) (is_name a.source) (all_from is_arc_line t.arcs first.0 a i);
      words = λ w i. (let p = and_parts (is_name w.name) (nat_lt 0 (length w.bits)) (all_from is_word_line t.words first.1 w i) in (p.0, ltb-true 0 (length w.bits) p.1));
      enums = λ e i. and_parts (is_name e.name) (is_name e.value) (all_from is_enum_line t.enums second.0 e i);
      unknowns = λ u i. (let p = and_parts (nat_le u.frame 65535) (nat_le u.bit 65535) (all_from is_unknown_line t.unknowns second.1 u i) in (leb-true u.frame 65535 p.0, leb-true u.bit 65535 p.1));
    }

abbrev pub section_stands : TileText → Bool
section_stands t = is_name t.tile && lines_stand t

pub section_right : (t : TileText) → section_stands t ≡ true → IsFormedSection t
section_right t h = let p = and_parts (is_name t.tile) (lines_stand t) h in record { name = p.0; lines = lines_right t p.1 }

less_right : (o : Ordering) → is_lt o ≡ true → o ≡ Less
less_right Less h = refl
less_right Equal h = absurd (false≢true h)
less_right Greater h = absurd (false≢true h)

abbrev pub are_rising : List (List ℕ) → Bool
are_rising [] = true
are_rising (k ∷ ks) = list_all (λ l. is_lt (name_cmp k l)) ks && are_rising ks

pub rising_right : (ks : List (List ℕ)) → are_rising ks ≡ true → IsRising name_cmp ks
rising_right [] h = tt
rising_right (k ∷ ks) h =
    let p = and_parts (list_all (λ l. is_lt (name_cmp k l)) ks) (are_rising ks) h in
    ((λ l i. less_right (name_cmp k l) (all_from (λ l. is_lt (name_cmp k l)) ks p.0 l i)), rising_right ks p.1)

-- ---- the toggle

-- the toggle has the form of a configuration that is read, and its lines have no numbers
pub toggle_formed : IsFormedText toggle
toggle_formed = record {
  device = refl;
  heads = λ h i. absurd i;
  sections = λ t i. section_right t (all_from section_stands toggle.tiles refl t i);
  order = record {
    tiles = rising_right (map (λ t. t.tile) toggle.tiles) refl;
    arcs = λ t i. rising_right (map arc_key t.arcs) (all_from (λ t. are_rising (map arc_key t.arcs)) toggle.tiles refl t i);
  };
  few = omega arith;
}
