use Rattle.std.proofs.Common.{◌<◌, ℕ, List, subst, sym, ◌∙◌}
use Rattle.std.proofs.lemmas.Bool.{true≢false}
use Rattle.words.specs.Members.{In}
use Rattle.route_cut.proofs.Whole.{cut_shut, cut_stays, net_tested_is_cut, refused}
use Rattle.route_cut.proofs.checks.is_cut_with_rim.Goals as goal

pub returns-then-not-all_stay : goal.returns-then-not-all_stay
returns-then-not-all_stay g c = refused c.all_stay.result c.all_stay.ensures.1 c.if-not-all_stay.true (cut_stays (g.R.Links.network c.args.rules.now) (g.R.PathRules.rules c.args.rules.now) c.requires.net c.args.inside.now c.args.rim.now c.args.pin)

pub returns : goal.returns
returns g c =
    let network = g.R.Links.network c.args.rules.now in
    let rs = g.R.PathRules.rules c.args.rules.now in
    let inside = c.args.inside.now in
    let rim = c.args.rim.now in (
      (λ e. net_tested_is_cut network rs c.requires.net inside rim c.args.pin (record {
        inside_rises = c.is_rising.ensures.0 c.if-not-is_rising.false;
        rim_rises = c.is_rising-2.ensures.0 c.if-not-is_rising-2.false;
        below = subst (λ (n : ℕ). (w : ℕ) → In inside w → w < n) c.wires.ensures (c.are_below.ensures.0 c.if-not-are_below.false);
        rim_below = subst (λ (n : ℕ). (w : ℕ) → In rim w → w < n) c.wires-2.ensures (c.are_below-2.ensures.0 c.if-not-are_below-2.false);
        roots_in = subst (λ (xs : List ℕ). (w : ℕ) → In xs w → In inside w) c.roots.ensures (c.holds_all.ensures.0 c.if-not-holds_all.false);
        pin_out = λ i. true≢false (sym (c.is_in.ensures.1 i) ∙ c.if-is_in.false);
        apart = c.holds_none.ensures.0 c.if-not-holds_none.false;
        stays = c.all_stay.ensures.0 c.if-not-all_stay.false;
        shut = c.rim_is_shut.ensures.0 e;
      })),
      (λ h. c.rim_is_shut.ensures.1 (cut_shut network rs c.requires.net inside rim c.args.pin h)),
    )
