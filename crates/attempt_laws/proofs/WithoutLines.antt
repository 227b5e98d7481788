-- A text without the lines that are dropped is one text.
use Rattle.std.proofs.Common.{◌≡◌, ℕ, List, ◌∷◌, refl, sym, ap, ap₂, ◌∙◌}
use Rattle.records.specs.Config.{ArcLine, TileText, Config}
use Rattle.repair.specs.Lines.{with_texts, WithoutLines, no_lines, keeps, drops, TextWithout, TextsWithout, no_texts, next_text, WithoutArcLines}

one_rest : {Dropped : ArcLine → Type 0} {lines rest other : List ArcLine} → WithoutLines Dropped lines rest → WithoutLines Dropped lines other → rest ≡ other
one_rest no_lines no_lines = refl
one_rest (keeps {line} n w) (keeps m v) = ap (λ ls. line ∷ ls) (one_rest w v)
one_rest (keeps n w) (drops d v) = absurd (n d)
one_rest (drops d w) (keeps n v) = absurd (n d)
one_rest (drops d w) (drops e v) = one_rest w v

one_text : {Dropped : ArcLine → Type 0} {text rest other : TileText} → TextWithout Dropped text rest → TextWithout Dropped text other → rest ≡ other
one_text {text} a b =
    a.others ∙ ap (λ arcs. record { tile = text.tile; line = text.line; arcs = arcs; words = text.words; enums = text.enums; unknowns = text.unknowns }) (one_rest a.arcs b.arcs) ∙ sym b.others

one_texts : {Dropped : List ℕ → ArcLine → Type 0} {texts rest other : List TileText} → TextsWithout Dropped texts rest → TextsWithout Dropped texts other → rest ≡ other
one_texts no_texts no_texts = refl
one_texts (next_text t ts) (next_text u us) = ap₂ (λ x xs. x ∷ xs) (one_text t u) (one_texts ts us)

pub one_config : {Dropped : List ℕ → ArcLine → Type 0} {config rest other : Config} → WithoutArcLines Dropped config rest → WithoutArcLines Dropped config other → rest ≡ other
one_config {config} a b = a.others ∙ ap (with_texts config) (one_texts a.texts b.texts) ∙ sym b.others
