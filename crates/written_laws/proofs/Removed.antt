-- A text that may be written stays one without some of its arc lines.
use Rattle.std.proofs.Common.{◌≡◌, ℕ, inl, inr, List, ◌∷◌, map, refl, sym, ap, ap₂, subst, ◌∙◌}
use Rattle.words.specs.Members.{In}
use Rattle.records.specs.Config.{ArcLine, TileText, Config}
use Rattle.links.proofs.Members.{in_map, of_map}
use Rattle.fabric.specs.InOrder.{IsRising}
use Rattle.fabric.specs.Wires.{name_cmp}
use Rattle.fabric.specs.Graph.{Graph}
use Rattle.config_grammar.specs.ConfigText.{arc_key}
use Rattle.repair.specs.Lines.{WithoutLines, no_lines, keeps, drops, TextWithout, TextsWithout, no_texts, next_text, WithoutArcLines}
use Rattle.written_laws.specs.Writable.{SectionStands, IsWritable}
use Rattle.written_laws.proofs.Sections.{tiles_of}

was_listed : {Dropped : ArcLine → Type 0} {lines rest : List ArcLine} → WithoutLines Dropped lines rest → (a : ArcLine) → In rest a → In lines a
was_listed no_lines a i = i
was_listed (keeps n w) a i = elim i [ inl e ↦ inl e | inr j ↦ inr (was_listed w a j) ]
was_listed (drops d w) a i = inr (was_listed w a i)

still_rising : {Dropped : ArcLine → Type 0} {lines rest : List ArcLine} → WithoutLines Dropped lines rest → IsRising name_cmp (map arc_key lines) → IsRising name_cmp (map arc_key rest)
still_rising no_lines r = r
still_rising (keeps {line} {lines} {rest} n w) r = (
  (λ k i. (let m = of_map arc_key rest k i in r.0 k (subst (In (map arc_key lines)) m.1.1 (in_map arc_key lines m.0 (was_listed w m.0 m.1.0))))),
  still_rising w r.1,
)
still_rising (drops d w) r = still_rising w r.1

section_without : {Dropped : ArcLine → Type 0} (g : Graph) (text rest : TileText) → TextWithout Dropped text rest → SectionStands g text → SectionStands g rest
section_without g text rest t s = subst (SectionStands g) (sym t.others) (record {
  place = s.place;
  arcs = λ a i. s.arcs a (was_listed t.arcs a i);
  words = s.words;
  enums = s.enums;
  unknowns = s.unknowns;
  order = still_rising t.arcs s.order;
})

tiles_without : {Dropped : List ℕ → ArcLine → Type 0} {texts rest : List TileText} → TextsWithout Dropped texts rest → tiles_of rest ≡ tiles_of texts
tiles_without no_texts = refl
tiles_without (next_text t ts) = ap₂ (λ (n : List ℕ) (ns : List (List ℕ)). n ∷ ns) (ap (λ (x : TileText). x.tile) t.others) (tiles_without ts)

sections_without : {Dropped : List ℕ → ArcLine → Type 0} (g : Graph) {texts rest : List TileText} → TextsWithout Dropped texts rest
    → ((t : TileText) → In texts t → SectionStands g t) → (t : TileText) → In rest t → SectionStands g t
sections_without g no_texts all t i = absurd i
sections_without g (next_text {text} {new} w ws) all t i = elim i [
  | inl e ↦ subst (SectionStands g) e (section_without g text new w (all text (inl refl)))
  | inr j ↦ sections_without g ws (λ u k. all u (inr k)) t j
]

pub rest_writable : {Dropped : List ℕ → ArcLine → Type 0} (g : Graph) (one c rest : Config) → WithoutArcLines Dropped c rest → IsWritable g one c → IsWritable g one rest
rest_writable g one c rest h w = record {
  device = ap (λ (x : Config). x.device) h.others ∙ w.device;
  heads = ap (λ (x : Config). x.heads) h.others ∙ w.heads;
  tiles = subst (IsRising name_cmp) (sym (tiles_without h.texts)) w.tiles;
  sections = sections_without g h.texts w.sections;
}
