-- The limit that a value of the program's enum names.
use Rattle.records.specs.Limits as limit
use Rattle.rr_ids.specs.declared.limits.Limit.{Limit}
use Rattle.rr_ids.specs.declared.limits.Limit.TheVariants.{Tiles, Types, Place, Pattern, Slices, Pads, Parts, Wires, Muxes, Arcs}

abbrev pub limit_of : Limit → limit.Limit
limit_of Tiles = limit.Tiles
limit_of Types = limit.Types
limit_of Place = limit.Place
limit_of Pattern = limit.PatternBits
limit_of Slices = limit.Slices
limit_of Pads = limit.Pads
limit_of Parts = limit.Parts
limit_of Wires = limit.Wires
limit_of Muxes = limit.Muxes
limit_of Arcs = limit.Arcs
