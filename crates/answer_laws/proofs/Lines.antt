-- A text without the arc lines that are dropped exists, where it can be decided which are.
use Rattle.std.proofs.Common.{◌≡◌, ℕ, inl, inr, List, [], ◌∷◌, refl}
use Rattle.records.specs.Config.{ArcLine, TileText, Config}
use Rattle.repair.specs.Lines.{with_texts, WithoutLines, no_lines, keeps, drops, TextWithout, TextsWithout, no_texts, next_text, WithoutArcLines}
use Rattle.words.proofs.Decided.{Decided}

some_lines : (Dropped : ArcLine → Type 0) → ((line : ArcLine) → Decided (Dropped line)) → (lines : List ArcLine) → (rest : List ArcLine) × WithoutLines Dropped lines rest
some_lines Dropped test [] = ([], no_lines)
some_lines Dropped test (line ∷ lines) = go (test line) (some_lines Dropped test lines)
  where
    go : Decided (Dropped line) → ((rest : List ArcLine) × WithoutLines Dropped lines rest) → (rest : List ArcLine) × WithoutLines Dropped (line ∷ lines) rest
    go (inl d) rest = (rest.0, drops d rest.1)
    go (inr n) rest = (line ∷ rest.0, keeps n rest.1)

module _ (Dropped : List ℕ → ArcLine → Type 0) (test : (tile : List ℕ) (line : ArcLine) → Decided (Dropped tile line)) where
  some_text : (text : TileText) → (rest : TileText) × TextWithout (Dropped text.tile) text rest
  some_text text =
      let lines = some_lines (Dropped text.tile) (test text.tile) text.arcs in (
        record { tile = text.tile; line = text.line; arcs = lines.0; words = text.words; enums = text.enums; unknowns = text.unknowns },
        record { arcs = lines.1; others = refl },
      )

  some_texts : (texts : List TileText) → (rest : List TileText) × TextsWithout Dropped texts rest
  some_texts [] = ([], no_texts)
  some_texts (text ∷ texts) = let first = some_text text in let rest = some_texts texts in (first.0 ∷ rest.0, next_text first.1 rest.1)

  pub some_rest : (config : Config) → (rest : Config) × WithoutArcLines Dropped config rest
  some_rest config = let texts = some_texts config.tiles in (with_texts config texts.0, record { texts = texts.1; others = refl })
