-- The lines of a path make the image with its patterns written.
use Rattle.std.proofs.Common.{◌≡◌, ℕ, ◌⊎◌, ◌↔◌, inl, inr, List, [], ◌∷◌, refl, sym, subst, ◌∙◌}
use Rattle.words.specs.Members.{In}
use Rattle.records.specs.Config.{Config}
use Rattle.fabric.specs.Device.{Device}
use Rattle.fabric.specs.Graph.{GraphArc}
use Rattle.fabric.specs.GraphOf.{IsGraph}
use Rattle.fabric.specs.Image.{image_of}
use Rattle.fabric.specs.Agree.{HasLine, ArcsAgree}
use Rattle.paths.specs.Paths.{LeadsOn, HasNoSinkTwice}
use Rattle.repair.specs.Plain.{unknown_bits, IsPlain}
use Rattle.repair.specs.Added.{with_arcs}
use Rattle.repair.specs.Lines.{with_arc_line, with_arc_lines}
use Rattle.repair.specs.Turns.{Turn}
use Rattle.repair.specs.Usable.{IsRoutable, IsUsable}
use Rattle.repair.specs.Routes.{roads_for, IsRoute}
use Rattle.layout_laws.specs.Named.{NamesOnce}
use Rattle.repair_laws.proofs.Fed.{agree_new}
use Rattle.repair_laws.proofs.Kept.{after_arc}
use Rattle.repair_laws.proofs.Path.{Sound, sound_after, rest_path}
use Rattle.layout_laws.proofs.Lines.{plain_by}
use Rattle.layout_laws.proofs.Inserted.{image_with_line, lines_with_line, unknowns_with_line}

-- a turn over another text
abbrev pub over : Turn → Config → Turn
over t more = record { read = t.read; config = more; now = t.now; net = t.net }

-- what a text with the same unknown lines leaves usable
module _ (t : Turn) (more : Config) (e : unknown_bits t.now.graph more ≡ unknown_bits t.now.graph t.config) where
  routable_over : (a : GraphArc) → IsRoutable t.now t.config a → IsRoutable t.now more a
  routable_over a r = record {
    listed = r.listed;
    free_sink = record {
      wire = r.free_sink.wire;
      named = r.free_sink.named;
      on_grid = r.free_sink.on_grid;
      one_mux = r.free_sink.one_mux;
      plain = plain_by t.now.graph t.config more a.mux e r.free_sink.plain;
      none_fixed = r.free_sink.none_fixed;
      clear = r.free_sink.clear;
    };
    one_driver = r.one_driver;
    none_fed = r.none_fed;
    chosen = r.chosen;
  }

  usable_over : (a : GraphArc) → IsUsable t a → IsUsable (over t more) a
  usable_over a u = record { routable = routable_over a u.routable; own_pins = u.own_pins; flips = u.flips; disturbed = u.disturbed }

  leads_over : (w : ℕ) (path : List GraphArc) (pin : ℕ) → LeadsOn (roads_for t) w path pin → LeadsOn (roads_for (over t more)) w path pin
  leads_over w [] pin p = p
  leads_over w (a ∷ rest) pin p = (p.0, usable_over a p.1, leads_over a.sink rest pin p.2)

  pub route_over : (path : List GraphArc) (pin : ℕ) → IsRoute t path pin → IsRoute (over t more) path pin
  route_over [] pin p = p
  route_over (a ∷ rest) pin p = (p.0, usable_over a p.1, leads_over a.sink rest pin p.2)

pub sound_over : (t : Turn) (more : Config) → Sound t → Sound (over t more)
sound_over t more s = record { numbers = s.numbers; clean = s.clean; outputs = s.outputs; settings = s.settings; net = s.net }

-- The text with the lines of a path: its image, its arcs, and the bits of its unknown lines.
pub record Lined (t : Turn) (path : List GraphArc) : Type 0 where
  pub image : image_of t.now.graph (with_arc_lines t.now.graph t.config path) ≡ with_arcs t.now.image path
  pub lines : (c : GraphArc) → HasLine t.now.graph (with_arc_lines t.now.graph t.config path) c ↔ (HasLine t.now.graph t.config c ⊎ In path c)
  pub unknowns : unknown_bits t.now.graph (with_arc_lines t.now.graph t.config path) ≡ unknown_bits t.now.graph t.config
  pub plain : (a : GraphArc) → In path a → IsPlain t.now.graph t.config a.mux
  pub listed : (a : GraphArc) → In path a → In t.now.graph.arcs a

module _ (device : Device) (once : NamesOnce device) where
  lined_step : (t : Turn) (a : GraphArc) (rest : List GraphArc) → IsGraph device t.now.graph → Sound t → t.now.image ≡ image_of t.now.graph t.config
      → ArcsAgree t.now.graph t.now.image t.config → IsUsable t a → Lined (over (after_arc t a) (with_arc_line t.now.graph t.config a)) rest → Lined t (a ∷ rest)
  lined_step t a rest is sound image agree use_a r =
      let one = lines_with_line device t.now t.config a is once sound.numbers agree use_a.routable in
      let same = unknowns_with_line device t.now t.config a is once sound.numbers agree use_a.routable in
      record {
        image = r.image;
        lines = λ c. (
          (λ h. elim ((r.lines c).0 h) [ inl k ↦ elim ((one c).0 k) [ inl o ↦ inl o | inr e ↦ inr (inl (sym e)) ] | inr j ↦ inr (inr j) ]),
          (λ h. (r.lines c).1 (elim h [ inl o ↦ inl ((one c).1 (inl o)) | inr k ↦ elim k [ inl e ↦ inl ((one c).1 (inr (sym e))) | inr j ↦ inr j ] ])),
        );
        unknowns = r.unknowns ∙ same;
        plain = λ b i. elim i [
          | inl e ↦ subst (λ x. IsPlain t.now.graph t.config x.mux) e use_a.routable.free_sink.plain
          | inr j ↦ plain_by t.now.graph (with_arc_line t.now.graph t.config a) t.config b.mux (sym same) (r.plain b j)
        ];
        listed = λ b i. elim i [ inl e ↦ subst (In t.now.graph.arcs) e use_a.routable.listed | inr j ↦ r.listed b j ];
      }

  pub lined : (t : Turn) → IsGraph device t.now.graph → Sound t → t.now.image ≡ image_of t.now.graph t.config → ArcsAgree t.now.graph t.now.image t.config
      → (path : List GraphArc) (pin : ℕ) → IsRoute t path pin → HasNoSinkTwice (roads_for t) path → Lined t path
  lined t is sound image agree [] pin p none = record {
    image = sym image;
    lines = λ c. ((λ h. inl h), (λ h. elim h [ inl k ↦ k | inr n ↦ absurd n ]));
    unknowns = refl;
    plain = λ a i. absurd i;
    listed = λ a i. absurd i;
  }
  lined t is sound image agree (a ∷ rest) pin p none =
      let more = with_arc_line t.now.graph t.config a in
      let same = unknowns_with_line device t.now t.config a is once sound.numbers agree p.1.routable in
      let after : Sound (after_arc t a) = sound_after t sound a p.1 p.0 in
      lined_step t a rest is sound image agree p.1
      (lined (over (after_arc t a) more) is (sound_over (after_arc t a) more after)
      (sym (image_with_line device t.now t.config a is once sound.numbers agree p.1.routable image))
      (agree_new t.now t.config a sound.numbers p.1.routable t.config more (lines_with_line device t.now t.config a is once sound.numbers agree p.1.routable) agree)
      rest pin (route_over (after_arc t a) more same rest pin (rest_path t sound a p.1 p.0 rest pin none.0 p.2)) none.1)
