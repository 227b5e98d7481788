use Rattle.std.proofs.Common.{get_or, sym, subst, arith, inl, inr}
use Rattle.words.specs.Members.{In}
use Rattle.net_links.proofs.Listed.{met, one_more_holds, each_member}
use Rattle.net_search.specs.Marks.{Lists}
use Rattle.net_search.proofs.cut.rim_of.Goals as goal

pub list_wire-requires-clause-wire : goal.list_wire-requires-clause-wire
list_wire-requires-clause-wire c = c.requires.wires c.w-item.result (met c.args.edge.now c.loop-w.w-index c.w-item.result c.loop-w-test.true c.w-item.is)

pub list_wire-requires-clause-outside : goal.list_wire-requires-clause-outside
list_wire-requires-clause-outside c = c.loop-w.invariant.outside

pub loop-w-preserved : goal.loop-w-preserved
loop-w-preserved c =
    let e = c.in_ok-list_wire.ensures in
    let here = met c.args.edge.now c.loop-w.w-index c.w-item.result c.loop-w-test.true c.w-item.is in record {
      outside = e.outside;
      from = λ x i. elim (e.others x i) [ inl j ↦ c.loop-w.invariant.from x j | inr q ↦ subst (In c.args.edge.now) (sym q) here ];
      lists = one_more_holds (Lists c.args.marks.now c.list_wire.new.rim.items) c.args.edge.now c.loop-w.w-index c.w-item.result c.loop-w-test.true c.w-item.is e.lists
          (λ k kl o. e.stay (get_or c.args.edge.now k 0) (c.loop-w.invariant.lists k kl o));
    }

pub returns : goal.returns
returns c = λ w. (
  (λ i. (c.loop-w.invariant.from w i, c.loop-w.invariant.outside w i)),
  (λ h. each_member (Lists c.args.marks.now c.loop-w.rim.items) c.args.edge.now (λ k l. c.loop-w.invariant.lists k (let t = c.loop-w-test.false in omega arith)) w h.0 h.1),
)
