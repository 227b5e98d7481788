-- The form of a configuration that a reader leaves, whatever numbers its lines have, and the form of a side file. What a
-- router writes has these forms too, where lines that are made have no numbers. (After Project Trellis.)
use Rattle.std.specs.Prelude.{◌≡◌, ◌≤◌, ◌<◌, ℕ, true, false, List, length, filter, Some, None}
use Rattle.std.specs.List.{list_any}
use Rattle.words.specs.Members.{In}
use Rattle.texts.specs.Lines.{Line}
use Rattle.texts.specs.Names.{is_name}
use Rattle.texts.specs.Parts.{no_line_feed}
use Rattle.records.specs.Config.{Head, ArcLine, WordLine, EnumLine, UnknownLine, TileText, Config}
use Rattle.records.specs.Side.{Placed, Triple, Voter, Side}
use Rattle.records.specs.Limits.{most_tiles}
use Rattle.config_grammar.specs.ConfigLines.{ConfigLine, DeviceLine, HeadLine, TileLine, ArcOf, WordOf, EnumOf, UnknownOf, OutsideLine, is_return, says, words_in}
use Rattle.side_form.specs.Side.{side_fault}
use Rattle.text_laws.specs.ConfigOrder.{IsInOrder}
use Rattle.text_laws.specs.SameButLines.{has_lines}

-- a head as it is kept: one line that says itself
pub record IsHead (text : List ℕ) : Type 0 where
  pub one_line : no_line_feed text ≡ true
  pub returns : list_any is_return text ≡ false
  pub says_itself : (line : Line) → line.text ≡ text → says text (words_in line) ≡ Some (HeadLine text)

-- A line can stand in a text: its names are names, a word has bits, and the numbers of a raw bit are small enough.
abbrev pub CanStand : ConfigLine → Type 0
CanStand (DeviceLine name) = is_name name ≡ true
CanStand (HeadLine text) = IsHead text
CanStand (TileLine name) = is_name name ≡ true
CanStand (ArcOf sink source) = (is_name sink ≡ true) × (is_name source ≡ true)
CanStand (WordOf name bits) = (is_name name ≡ true) × (0 < length bits)
CanStand (EnumOf name value) = (is_name name ≡ true) × (is_name value ≡ true)
CanStand (UnknownOf frame bit) = (frame ≤ 65535) × (bit ≤ 65535)
CanStand OutsideLine = ⊥

-- each line of a section can stand in a text
pub record LinesCanStand (t : TileText) : Type 0 where
  pub arcs : (a : ArcLine) → In t.arcs a → CanStand (ArcOf a.sink a.source)
  pub words : (w : WordLine) → In t.words w → CanStand (WordOf w.name w.bits)
  pub enums : (e : EnumLine) → In t.enums e → CanStand (EnumOf e.name e.value)
  pub unknowns : (u : UnknownLine) → In t.unknowns u → CanStand (UnknownOf u.frame u.bit)

pub record IsFormedSection (t : TileText) : Type 0 where
  pub name : CanStand (TileLine t.tile)
  pub lines : LinesCanStand t

-- A configuration of the form that is read: each line can stand, tiles and arcs are in order, and no more sections have
-- lines than a text may have.
pub record IsFormedText (c : Config) : Type 0 where
  pub device : CanStand (DeviceLine c.device)
  pub heads : (h : Head) → In c.heads h → CanStand (HeadLine h.text)
  pub sections : (t : TileText) → In c.tiles t → IsFormedSection t
  pub order : IsInOrder c
  pub few : length (filter has_lines c.tiles) ≤ most_tiles

-- the names of a cell are names
pub record IsFormedCell (p : Placed) : Type 0 where
  pub name : is_name p.name ≡ true
  pub tile : is_name p.tile ≡ true
  pub kind : is_name p.kind ≡ true

pub record IsFormedTriple (t : Triple) : Type 0 where
  pub first : is_name t.first ≡ true
  pub second : is_name t.second ≡ true
  pub third : is_name t.third ≡ true

pub record IsFormedVoter (v : Voter) : Type 0 where
  pub slice : is_name v.slice ≡ true
  pub table : v.table ≤ 65535

-- A side file of the form that is read: its names are names, it has one clock at most, and its lists have no fault.
pub record IsFormedSide (side : Side) : Type 0 where
  pub slices : (p : Placed) → In side.slices p → IsFormedCell p
  pub pads : (p : Placed) → In side.pads p → IsFormedCell p
  pub triples : (t : Triple) → In side.triples t → IsFormedTriple t
  pub inputs : (t : Triple) → In side.inputs t → IsFormedTriple t
  pub outputs : (t : Triple) → In side.outputs t → IsFormedTriple t
  pub clocks : (t : Triple) → In side.clocks t → IsFormedTriple t
  pub one_clock : length side.clocks ≤ 1
  pub voters : (v : Voter) → In side.voters v → IsFormedVoter v
  pub no_fault : side_fault side ≡ None
