-- What a search over a net of a grid goes by.
use Rattle.net_links.specs.Nets.{Network, NetRules}
use Rattle.search_bench.specs.declared.net.Net.{Net}
use Rattle.search_bench.specs.Grids.{network, net_rules}

abbrev pub network_of : Net → Network
network_of net = network net.arcs.wires net.arcs.distances net.arcs.outs.items net.arcs.ins.items

abbrev pub rules_of : Net → NetRules
rules_of net = net_rules net.tree.wires.items
