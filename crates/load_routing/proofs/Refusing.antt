-- Routings that are refused, by names.
use Rattle.std.proofs.Common.{◌≡◌, ◌<◌, ℕ, true, false, List, [], length, get_or, inl, inr, Option, None, Some, option_map, refl, sym, ap, subst, ◌∙◌}
use Rattle.std.specs.Prelude.{slice_get}
use Rattle.std.specs.Option.{IsSome, option_map_or}
use Rattle.std.proofs.lemmas.Option.{slice_get-get_or, slice_get_within}
use Rattle.patterns.specs.Bits.{Bits}
use Rattle.records.specs.Config.{Config}
use Rattle.fabric.specs.Wires as wires
use Rattle.fabric.specs.WireNames as names
use Rattle.fabric.specs.Graph.{Graph}
use Rattle.fabric.specs.Agree.{ArcsAgree}
use Rattle.answers.specs.Refusals as answers
use Rattle.answers.specs.Refusals.{Refusal}
use Rattle.design_checks.specs.Checks.{Passes, ◌before◌}
use Rattle.design_checks.specs.RoutingChecks.{MuxName, ArcsDiffer, differ, AreContested}
use Rattle.arc_lines.specs.Differing.{IsRefusedMux, name_at, mux_name}
use Rattle.wire_contests.specs.declared.contest.Contest.{Contest}
use Rattle.report_text.specs.declared.named.Wire as reported
use Rattle.report_text.specs.Names.{wire_view}
use Rattle.live_routing.specs.declared.error.LiveError.{LiveError}
use Rattle.live_routing.specs.declared.error.LiveError.TheVariants.{ArcDiffers, Contested, Memory}
use Rattle.live_routing.specs.Refused.{IsRefusedContest, Refuses}
use Rattle.load_routing.specs.declared.error.LoadError.{LoadError}
use Rattle.load_routing.specs.Refused.{IsRefusal, IsRefusedBy}
use Rattle.load_routing.specs.Standing.{StandsIn}
use Rattle.load_routing.specs.Wires.{named_wire}
use Rattle.load_routing.proofs.Checked.{refused_by, first_refuses, second_refuses}

-- ---- wires

module _ (ws : List wires.Wire) (w : ℕ) (name : names.WireName) (named : option_map names.Named (slice_get ws w) ≡ Some name) where
  there : (o : Option wires.Wire) → option_map names.Named o ≡ Some name → o ≡ named_wire name
  there None e = absurd (let no : ⊥ = cc in no)
  there (Some wire) e = (let s : names.Named wire ≡ name = cc in ap named_wire s)

  pub wire_there : (o : Option reported.Wire) → option_map wire_view o ≡ named_wire name → w < length ws → IsSome o
  wire_there (Some wire) e below = refl
  wire_there None e below = absurd (none_there (slice_get ws w) refl (there (slice_get ws w) named ∙ sym e))
    where
      none_there : (o : Option wires.Wire) → slice_get ws w ≡ o → o ≡ None → ⊥
      none_there None is e = (let there : slice_get ws w ≡ Some (get_or ws w (wires.Wide [])) = slice_get-get_or ws w (wires.Wide []) below in let no : None ≡ Some (get_or ws w (wires.Wide [])) = sym is ∙ there in let wrong : ⊥ = cc in wrong)
      none_there (Some x) is e = (let no : ⊥ = cc in no)

  pub wire_is : (o : Option reported.Wire) (wire : reported.Wire) → option_map wire_view o ≡ named_wire name → o ≡ Some wire → slice_get ws w ≡ Some (wire_view wire)
  wire_is o wire e is = there (slice_get ws w) named ∙ (sym e ∙ ap (option_map wire_view) is)

pub contest_named : (ws : List wires.Wire) (c : Contest) (x y z wire first second : wires.Wire)
    → slice_get ws c.wire ≡ Some x → slice_get ws c.first ≡ Some y → slice_get ws c.second ≡ Some z
    → slice_get ws c.wire ≡ Some wire → slice_get ws c.first ≡ Some first → slice_get ws c.second ≡ Some second
    → answers.Contested x y z ≡ answers.Contested wire first second
contest_named ws c x y z wire first second a b d e f g =
    let p : x ≡ wire = (let s : Some x ≡ Some wire = sym a ∙ e in let t : x ≡ wire = cc in t) in
    let q : y ≡ first = (let s : Some y ≡ Some first = sym b ∙ f in let t : y ≡ first = cc in t) in
    let r : z ≡ second = (let s : Some z ≡ Some second = sym d ∙ g in let t : z ≡ second = cc in t) in
    cc

-- ---- what is refused

module _ (g : Graph) (image : Bits) (config : Config) where
  pub arcs_pass : ArcsAgree g image config → Passes (ArcsDiffer g image config)
  arcs_pass agree _ (differ name l) = elim l.has.differs [
    | inl h ↦ h.1.1 (agree.chosen_has_line l.has.arc l.has.listed h.0 h.1.0)
    | inr h ↦ (let no : true ≡ false = sym (agree.line_is_chosen l.has.arc h.0) ∙ h.1 in let wrong : ⊥ = cc in wrong)
  ]

  pub mux_refuses : (m : ℕ) (r : Refusal) (e : LoadError) → r ≡ answers.ArcDiffers (name_at g m).tile (name_at g m).sink → IsRefusal r e
      → IsRefusedMux g image config m → IsRefusedBy (ArcsDiffer g image config before AreContested g image) e
  mux_refuses m r e is says refused =
      let name : name_at g m ≡ mux_name g refused.mux = ap (λ o. option_map_or (mux_name g) o (record { tile = []; sink = [] })) refused.is in
      let same : r ≡ answers.ArcDiffers (mux_name g refused.mux).tile (mux_name g refused.mux).sink = is ∙ ap (λ (n : MuxName). answers.ArcDiffers n.tile n.sink) name in
      first_refuses (ArcsDiffer g image config) (AreContested g image) e (refused_by (ArcsDiffer g image config) r e (subst (ArcsDiffer g image config) (sym same) refused.refused) says)

  pub contest_refuses : (c : Contest) (r : Refusal) (e : LoadError)
      → ((wire first second : wires.Wire) → slice_get g.wires c.wire ≡ Some wire → slice_get g.wires c.first ≡ Some first → slice_get g.wires c.second ≡ Some second → r ≡ answers.Contested wire first second)
      → IsRefusal r e → ArcsAgree g image config → IsRefusedContest g image c → IsRefusedBy (ArcsDiffer g image config before AreContested g image) e
  contest_refuses c r e is says agree refused =
      second_refuses (ArcsDiffer g image config) (AreContested g image) e (arcs_pass agree)
      (refused_by (AreContested g image) r e (subst (AreContested g image) (sym (is refused.wire refused.first refused.second refused.wire_is refused.first_is refused.second_is)) refused.refused) says)

  -- what a live routing's error names is there
  pub named_stands : (e : LiveError) → Refuses g image config e → StandsIn g e
  named_stands (ArcDiffers m) h = slice_get_within g.muxes m h.mux h.is
  named_stands (Contested c) h =
      (slice_get_within g.wires c.wire h.1.wire h.1.wire_is, (slice_get_within g.wires c.first h.1.first h.1.first_is, slice_get_within g.wires c.second h.1.second h.1.second_is))
  named_stands Memory h = tt
