-- The words of tables that are modelled are small.
use Rattle.std.proofs.Common.{◌≡◌, ℕ, ◌^◌, ◌≤◌, Bool, true, false, List, [], ◌∷◌, ◌++◌, map, flat_map, length, Option, None, Some, inl, inr, refl, sym, ap, subst, ◌∙◌, arith}
use Rattle.std.specs.Prelude.{◌==◌, unwrap_or, codes, if◌then◌else◌}
use Rattle.std.specs.Option.{option_map_or}
use Rattle.std.proofs.lemmas.Bool.Decides.{Decides-eqb}
use Rattle.std.proofs.Math.Pow.{pow_mono}
use Rattle.words.specs.Firsts.{or_else, unless_fault}
use Rattle.words.specs.Members.{In}
use Rattle.patterns.specs.Bits.{Bits}
use Rattle.records.specs.Profile.{TableKind, SliceKind}
use Rattle.records.specs.Side.{Placed}
use Rattle.links.proofs.Members.{in_left, in_right, in_map}
use Rattle.fabric.specs.Graph.{Graph}
use Rattle.fabric.specs.Values.{word_at}
use Rattle.cells.specs.Sites.{Site}
use Rattle.cells.specs.Readings.{Reading, require_reading, table_reading, register_readings, slice_readings}
use Rattle.cells.specs.Faults.{CellFault, Unmodelled, value_fault}
use Rattle.cells_laws.proofs.Options.{or_none}
use Rattle.cell_readings.specs.First.{first_of}
use Rattle.slice_model.specs.Grid.{HasSmallWord, HaveSmallWords, AllHaveSmallWords, HaveFewPins}
use Rattle.slice_model.specs.Turns.{slices_fault}

-- where there is no first fault, no element has one
none_of : {X E : Type 0} (fault : X → Option E) (xs : List X) → first_of fault xs ≡ None → (x : X) → In xs x → fault x ≡ None
none_of fault [] h x i = absurd i
none_of fault (y ∷ ys) h x i =
    let parts = or_none (fault y) (first_of fault ys) h in
    elim i [ inl e ↦ subst (λ z. fault z ≡ None) e parts.0 | inr j ↦ none_of fault ys parts.1 x j ]

modelled : (r : Reading) → value_fault r ≡ None → r.modelled ≡ true
modelled r h = go r.modelled h
  where
    go : (b : Bool) → (if b then None else Some (Unmodelled r.cell r.setting (unwrap_or r.value (codes "?")))) ≡ None → b ≡ true
    go true e = refl
    go false e = absurd (let no : ⊥ = cc in no)

few_bits : (n p : ℕ) → n ≡ 2 ^ p → p ≤ 4 → n ≤ 16
few_bits n p e l = let most : 2 ^ p ≤ 2 ^ 4 = pow_mono l in omega arith

small_word : (o : Option (List Bool)) (pins : ℕ) → option_map_or (λ bits. length bits == 2 ^ pins) o false ≡ true → pins ≤ 4 → length (unwrap_or o []) ≤ 16
small_word None pins h l = absurd (let no : ⊥ = cc in no)
small_word (Some bits) pins h l = few_bits (length bits) pins ((Decides-eqb (length bits) (2 ^ pins)).0 h) l

table_small : (g : Graph) (image : Bits) (p : Placed) (s : Site SliceKind) (t : TableKind) → first_of value_fault (slice_readings g image p s) ≡ None → In s.kind.tables t → length t.pins ≤ 4
    → HasSmallWord g image s.number t.word
table_small g image p s t h i few =
    let there : In (slice_readings g image p s) (table_reading g image p.name s.number t) =
    in_left (map (require_reading g image p.name s.number) s.kind.require ++ map (table_reading g image p.name s.number) s.kind.tables) (flat_map (register_readings g image p.name s.number) s.kind.registers)
    (table_reading g image p.name s.number t)
    (in_right (map (require_reading g image p.name s.number) s.kind.require) (map (table_reading g image p.name s.number) s.kind.tables) (table_reading g image p.name s.number t)
    (in_map (table_reading g image p.name s.number) s.kind.tables t i)) in
    record {
      few = small_word (word_at g image s.number t.word) (length t.pins)
          (modelled (table_reading g image p.name s.number t) (none_of value_fault (slice_readings g image p s) h (table_reading g image p.name s.number t) there)) few;
    }

pub words_small : (g : Graph) (image : Bits) (slices : List (Placed × Site SliceKind)) → HaveFewPins slices → slices_fault g image slices ≡ None → AllHaveSmallWords g image slices
words_small g image slices few h = record {
  each = λ q i. record {
    each = λ t j. table_small g image q.0 q.1 t (none_of (λ q. first_of value_fault (slice_readings g image q.0 q.1)) slices h q i) j (few.few q t i j);
  };
}

-- where a first fault of two isn't there
pub none_both : {X E : Type 0} (a b : Option E) (u v : X) → unless_fault (or_else a b) u ≡ unless_fault None v → a ≡ None
none_both None b u v e = refl
none_both (Some f) b u v e = absurd (let no : ⊥ = cc in no)
