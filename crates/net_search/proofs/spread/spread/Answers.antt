use Rattle.net_search.proofs.Growing.{grows_in}
use Rattle.net_search.proofs.spread.spread.Goals as goal

pub spread_arcs-requires-clause-from : goal.spread_arcs-requires-clause-from
spread_arcs-requires-clause-from g c = grows_in c.args.reach.now.inside.items c.spread_links.new.reach.inside.items c.args.w c.in_ok-spread_links.ensures.inside c.requires.from

pub returns-clause-kept : goal.returns-clause-kept
returns-clause-kept g c = record {
  links = λ x l. grows_in c.spread_links.new.reach.inside.items c.spread_arcs.new.reach.inside.items x c.in_ok-spread_arcs.ensures.inside (c.in_ok-spread_links.ensures.links x l);
  arcs = c.in_ok-spread_arcs.ensures.stay;
}
