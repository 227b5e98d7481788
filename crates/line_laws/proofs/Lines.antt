-- Lines that are dropped are dropped without their numbers too.
use Rattle.std.proofs.Common.{ℕ, List, map, ap}
use Rattle.records.specs.Config.{ArcLine, TileText, Config}
use Rattle.repair.specs.Lines.{WithoutLines, no_lines, keeps, drops, TextWithout, TextsWithout, no_texts, next_text, WithoutArcLines}
use Rattle.text_laws.specs.SameButLines.{unnumbered_arc, unnumbered}
use Rattle.line_laws.specs.Plain.{plain_config}

module _ (Dropped Other : List ℕ → ArcLine → Type 0) (to : (tile : List ℕ) (line : ArcLine) → Dropped tile line → Other tile (unnumbered_arc line))
    (from : (tile : List ℕ) (line : ArcLine) → Other tile (unnumbered_arc line) → Dropped tile line) where
  lines_along : (tile : List ℕ) {lines rest : List ArcLine} → WithoutLines (Dropped tile) lines rest → WithoutLines (Other tile) (map unnumbered_arc lines) (map unnumbered_arc rest)
  lines_along tile no_lines = no_lines
  lines_along tile (keeps {line} n w) = keeps (λ d. n (from tile line d)) (lines_along tile w)
  lines_along tile (drops {line} d w) = drops (to tile line d) (lines_along tile w)

  text_along : (text rest : TileText) → TextWithout (Dropped text.tile) text rest → TextWithout (Other text.tile) (unnumbered text) (unnumbered rest)
  text_along text rest w = record { arcs = lines_along text.tile w.arcs; others = ap unnumbered w.others }

  texts_along : {texts rest : List TileText} → TextsWithout Dropped texts rest → TextsWithout Other (map unnumbered texts) (map unnumbered rest)
  texts_along no_texts = no_texts
  texts_along (next_text {text} {new} w ws) = next_text (text_along text new w) (texts_along ws)

  pub rest_along : (config rest : Config) → WithoutArcLines Dropped config rest → WithoutArcLines Other (plain_config config) (plain_config rest)
  rest_along config rest w = record { texts = texts_along w.texts; others = ap plain_config w.others }
