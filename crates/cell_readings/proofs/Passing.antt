-- Settings that are modelled, and those that aren't.
use Rattle.std.proofs.Common.{◌≡◌, ℕ, ◌*◌, ◌%◌, ◌^◌, ◌<◌, ◌≤◌, true, false, List, [], length, Option, None, Some, Result, Ok, Err, option_map, refl, sym, ap, subst, ◌∙◌, arith}
use Rattle.std.specs.Prelude.{IfSome, codes, unwrap_or, slice_get, option_and_then, ◌==◌, if◌then◌else◌}
use Rattle.std.specs.Option.{option_map_or}
use Rattle.std.proofs.lemmas.Bool.{false_from_ne_true}
use Rattle.std.proofs.lemmas.Bool.Decides.{Decides-eqb}
use Rattle.std.proofs.lemmas.Nat.{one_shl}
use Rattle.std.proofs.Math.Pow.{pow_mono}
use Rattle.words.specs.Firsts.{unless_fault}
use Rattle.patterns.specs.Bits.{DeviceBit, Bits}
use Rattle.records.specs.Database.{WordSetting}
use Rattle.records.specs.Grid.{Tile, origin_of}
use Rattle.records.specs.Profile.{TableKind}
use Rattle.fabric.specs.Graph.{Graph}
use Rattle.fabric.specs.Settings.{Settings, word_named, word_bits}
use Rattle.fabric.specs.Values.{word_at}
use Rattle.named_graph.specs.Standing.{settings_at}
use Rattle.cells.specs.Readings.{Reading, digits_of, table_reading}
use Rattle.cells.specs.Faults.{Unmodelled, value_fault}

-- a number of bits is that of the assignments of bits to few pins, or is less
pub few_pins : (bits pins : ℕ) → pins < 64 → (bits == 1 * 2 ^ pins % 2 ^ 64) ≡ (bits == 2 ^ pins)
few_pins bits pins l = ap (λ n. bits == n) (one_shl pins 64 l)

less : (n m p : ℕ) → n < m → m ≤ p → n ≡ p → ⊥
less n m p b l e = omega arith

pub many_pins : (bits pins : ℕ) → bits < 2 ^ 64 → 64 ≤ pins → false ≡ (bits == 2 ^ pins)
many_pins bits pins b l =
    sym (false_from_ne_true (bits == 2 ^ pins) (λ e. less bits (2 ^ 64) (2 ^ pins) b (pow_mono l) ((Decides-eqb bits (2 ^ pins)).0 e)))

-- a setting that is modelled has no fault
pub passes : (r : Reading) → r.modelled ≡ true → unless_fault (value_fault r) (tt {0}) ≡ Ok (tt {0})
passes r e = ap (λ b. unless_fault (if b then None else Some (Unmodelled r.cell r.setting (unwrap_or r.value (codes "?")))) (tt {0})) e

pub fails : (r : Reading) → r.modelled ≡ false → unless_fault (value_fault r) (tt {0}) ≡ Err (Unmodelled r.cell r.setting (unwrap_or r.value (codes "?")))
fails r e = ap (λ b. unless_fault (if b then None else Some (Unmodelled r.cell r.setting (unwrap_or r.value (codes "?")))) (tt {0})) e

-- a fault that is named
pub is_named : {F : Type 0} (o : Option F) (u : F) (x : Result (Unit {0}) F) → o ≡ Some u → x ≡ Err u → IfSome o (λ f. x ≡ Err f)
is_named o u x e h = subst (λ p. IfSome p (λ f. x ≡ Err f)) (sym e) h

-- the bits of the word of a name in a tile
pub word_is : (g : Graph) (image : Bits) (t : ℕ) (name : List ℕ) (tile : Tile) → Some tile ≡ slice_get g.grid.tiles t
    → word_at g image t name ≡ option_map (word_bits image (origin_of tile)) (word_named (settings_at g t) name)
word_is g image t name tile e =
    ap (λ o. option_and_then (λ u. option_and_then (λ settings. option_map (word_bits image (origin_of u)) (word_named settings name)) (slice_get g.settings t)) o) (sym e) ∙ go (slice_get g.settings t)
  where
    go : (o : Option Settings) → option_and_then (λ settings. option_map (word_bits image (origin_of tile)) (word_named settings name)) o
        ≡ option_map (word_bits image (origin_of tile)) (word_named (option_map_or (λ settings. settings) o (record { words = []; enums = [] })) name)
    go None = refl
    go (Some s) = refl

-- what is read for a table, by its word
abbrev pub read_word : Bits → DeviceBit → List ℕ → TableKind → Option WordSetting → Reading
read_word image origin cell k word = record {
  cell = cell;
  setting = k.word;
  value = option_map digits_of (option_map (word_bits image origin) word);
  modelled = option_map_or (λ bits. length bits == 2 ^ length k.pins) (option_map (word_bits image origin) word) false;
}

pub table_is : (g : Graph) (image : Bits) (cell : List ℕ) (t : ℕ) (k : TableKind) (tile : Tile) → Some tile ≡ slice_get g.grid.tiles t
    → table_reading g image cell t k ≡ read_word image (origin_of tile) cell k (word_named (settings_at g t) k.word)
table_is g image cell t k tile e =
    ap (λ o. (let r : Reading = record { cell = cell; setting = k.word; value = option_map digits_of o; modelled = option_map_or (λ bits. length bits == 2 ^ length k.pins) o false } in r))
    (word_is g image t k.word tile e)
