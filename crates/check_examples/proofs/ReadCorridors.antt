-- The cells of the corridors with a fault are those of their images.
use Rattle.std.proofs.Common.{◌≡◌, true, Ok, None, refl}
use Rattle.fabric.specs.Graph.{Graph}
use Rattle.fabric.specs.Image.{image_of}
use Rattle.fabric_laws.specs.PlainGraph.{graph_of}
use Rattle.cells.specs.CellsOf.{slice_cells, pad_cells, cells_of}
use Rattle.cells.specs.Faults.{cell_fault}
use Rattle.mini_b.specs.MiniB.{mini_b}
use Rattle.mini_b.specs.Corridor.{corridor, corridor_side}
use Rattle.mini_b.specs.CorridorCells.{corridor_cells}
use Rattle.cells_examples.proofs.CorridorRead.{read_so, same_bits, same_role, same_pad, same_pads, pads_from, pads}
use Rattle.check_examples.specs.CorridorRefused.{looped, turned, turned_cells, side_without_u, cells_without_u, stray_track}

abbrev g : Graph
g = graph_of mini_b

looped_faultless : cell_fault g mini_b.profile (image_of g looped) corridor_side ≡ None
looped_faultless = refl

looped_slices : slice_cells g mini_b.profile (image_of g looped) corridor_side ≡ (corridor_cells g).slices
looped_slices = refl

pub looped_read : cells_of g mini_b.profile (image_of g looped) corridor_side ≡ Ok (corridor_cells g)
looped_read = read_so g mini_b.profile (image_of g looped) corridor_side (corridor_cells g) looped_faultless looped_slices pads

turned_faultless : cell_fault g mini_b.profile (image_of g turned) corridor_side ≡ None
turned_faultless = refl

turned_slices : slice_cells g mini_b.profile (image_of g turned) corridor_side ≡ (turned_cells g).slices
turned_slices = refl

pub turned_read : cells_of g mini_b.profile (image_of g turned) corridor_side ≡ Ok (turned_cells g)
turned_read = read_so g mini_b.profile (image_of g turned) corridor_side (turned_cells g) turned_faultless turned_slices pads

unnamed_faultless : cell_fault g mini_b.profile (image_of g corridor) side_without_u ≡ None
unnamed_faultless = refl

unnamed_slices : slice_cells g mini_b.profile (image_of g corridor) side_without_u ≡ (cells_without_u g).slices
unnamed_slices = refl

unnamed_pads_tested : same_pads (pad_cells g mini_b.profile side_without_u) (cells_without_u g).pads ≡ true
unfolding same_pads same_pad same_role same_bits
unnamed_pads_tested = refl

unnamed_pads : pad_cells g mini_b.profile side_without_u ≡ (cells_without_u g).pads
unnamed_pads = pads_from (pad_cells g mini_b.profile side_without_u) (cells_without_u g).pads unnamed_pads_tested

pub unnamed_read : cells_of g mini_b.profile (image_of g corridor) side_without_u ≡ Ok (cells_without_u g)
unnamed_read = read_so g mini_b.profile (image_of g corridor) side_without_u (cells_without_u g) unnamed_faultless unnamed_slices unnamed_pads

stray_faultless : cell_fault g mini_b.profile (image_of g stray_track) side_without_u ≡ None
stray_faultless = refl

stray_slices : slice_cells g mini_b.profile (image_of g stray_track) side_without_u ≡ (cells_without_u g).slices
stray_slices = refl

pub stray_read : cells_of g mini_b.profile (image_of g stray_track) side_without_u ≡ Ok (cells_without_u g)
stray_read = read_so g mini_b.profile (image_of g stray_track) side_without_u (cells_without_u g) stray_faultless stray_slices unnamed_pads
