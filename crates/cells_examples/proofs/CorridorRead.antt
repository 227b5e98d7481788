-- The cells of the corridor are those of its image.
use Rattle.std.proofs.Common.{◌≡◌, Bool, true, false, List, [], ◌∷◌, ◌&&◌, Option, Ok, None, refl, ap, ap₂, ◌∙◌}
use Rattle.std.specs.Prelude.{◌==◌}
use Rattle.std.specs.Str.{bytes_eq}
use Rattle.std.proofs.lemmas.Bool.{false≢true, and_parts, eqb-true}
use Rattle.std.proofs.lemmas.Slice.Eq.{bytes_eq-Decides}
use Rattle.patterns.specs.Bits.{DeviceBit, Bits, same_bit}
use Rattle.records.specs.Profile.{Profile}
use Rattle.records.specs.Side.{Side}
use Rattle.cells.specs.CellsOf.{slice_cells, pad_cells, cells_of, unless}
use Rattle.cells.specs.Faults.{CellFault, cell_fault}
use Rattle.circuit.specs.Cells.{Role, InputPad, OutputPad, ClockPad, PadCell, Cells}
use Rattle.fabric.specs.Graph.{Graph}
use Rattle.fabric.specs.Image.{image_of}
use Rattle.fabric_laws.specs.PlainGraph.{graph_of}
use Rattle.fabric_laws.proofs.SameBits.{same_is}
use Rattle.circuit_examples.proofs.Tests.{domain_eq, domain_is}
use Rattle.mini_b.specs.MiniB.{mini_b}
use Rattle.mini_b.specs.Corridor.{corridor, corridor_side}
use Rattle.mini_b.specs.CorridorCells.{corridor_cells}

abbrev g : Graph
g = graph_of mini_b

-- where there is no fault, cells are told by their slices and their pads
unless_none : (f : Option CellFault) (x y : Cells) → f ≡ None → x.slices ≡ y.slices → x.pads ≡ y.pads → unless f x ≡ Ok y
unless_none f x y e s p = ap (λ o. unless o x) e ∙ ap Ok (λ i. record { slices = s i; pads = p i })

pub read_so : (graph : Graph) (profile : Profile) (image : Bits) (side : Side) (cells : Cells) → cell_fault graph profile image side ≡ None
    → slice_cells graph profile image side ≡ cells.slices → pad_cells graph profile side ≡ cells.pads → cells_of graph profile image side ≡ Ok cells
read_so graph profile image side cells none slices pads = unless_none (cell_fault graph profile image side) _ cells none slices pads

-- pads told apart by a test, which costs less to compute than to compare them
unfoldable pub same_bits : List DeviceBit → List DeviceBit → Bool
same_bits [] [] = true
same_bits (b ∷ bs) (c ∷ cs) = same_bit b c && same_bits bs cs
same_bits _ _ = false

bits_from : (bs cs : List DeviceBit) → same_bits bs cs ≡ true → bs ≡ cs
unfolding same_bits
bits_from [] [] h = refl
bits_from [] (c ∷ cs) h = absurd (false≢true h)
bits_from (b ∷ bs) [] h = absurd (false≢true h)
bits_from (b ∷ bs) (c ∷ cs) h = let parts = and_parts (same_bit b c) (same_bits bs cs) h in ap₂ (λ z zs. z ∷ zs) (same_is b c parts.0) (bits_from bs cs parts.1)

unfoldable pub same_role : Role → Role → Bool
same_role InputPad InputPad = true
same_role OutputPad OutputPad = true
same_role ClockPad ClockPad = true
same_role _ _ = false

role_from : (r q : Role) → same_role r q ≡ true → r ≡ q
unfolding same_role
role_from InputPad InputPad h = refl
role_from OutputPad OutputPad h = refl
role_from ClockPad ClockPad h = refl
role_from InputPad OutputPad h = absurd (false≢true h)
role_from InputPad ClockPad h = absurd (false≢true h)
role_from OutputPad InputPad h = absurd (false≢true h)
role_from OutputPad ClockPad h = absurd (false≢true h)
role_from ClockPad InputPad h = absurd (false≢true h)
role_from ClockPad OutputPad h = absurd (false≢true h)

unfoldable pub same_pad : PadCell → PadCell → Bool
same_pad x y = bytes_eq x.name y.name && (domain_eq x.domain y.domain && (same_role x.role y.role && ((x.wire == y.wire) && same_bits x.bits y.bits)))

pad_from : (x y : PadCell) → same_pad x y ≡ true → x ≡ y
unfolding same_pad
pad_from x y h =
    let one = and_parts (bytes_eq x.name y.name) _ h in
    let two = and_parts (domain_eq x.domain y.domain) _ one.1 in
    let three = and_parts (same_role x.role y.role) _ two.1 in
    let four = and_parts (x.wire == y.wire) (same_bits x.bits y.bits) three.1 in
    let names = (bytes_eq-Decides x.name y.name).0 one.0 in
    let domains = domain_is x.domain y.domain two.0 in
    let roles = role_from x.role y.role three.0 in
    let wires = eqb-true x.wire y.wire four.0 in
    let bits = bits_from x.bits y.bits four.1 in
    λ i. record { name = names i; domain = domains i; role = roles i; wire = wires i; bits = bits i }

unfoldable pub same_pads : List PadCell → List PadCell → Bool
same_pads [] [] = true
same_pads (x ∷ xs) (y ∷ ys) = same_pad x y && same_pads xs ys
same_pads _ _ = false

pub pads_from : (xs ys : List PadCell) → same_pads xs ys ≡ true → xs ≡ ys
unfolding same_pads
pads_from [] [] h = refl
pads_from [] (y ∷ ys) h = absurd (false≢true h)
pads_from (x ∷ xs) [] h = absurd (false≢true h)
pads_from (x ∷ xs) (y ∷ ys) h = let parts = and_parts (same_pad x y) (same_pads xs ys) h in ap₂ (λ z zs. z ∷ zs) (pad_from x y parts.0) (pads_from xs ys parts.1)

pads_tested : same_pads (pad_cells g mini_b.profile corridor_side) (corridor_cells g).pads ≡ true
unfolding same_pads same_pad same_role same_bits
pads_tested = refl

pub pads : pad_cells g mini_b.profile corridor_side ≡ (corridor_cells g).pads
pads = pads_from (pad_cells g mini_b.profile corridor_side) (corridor_cells g).pads pads_tested

none_faulty : cell_fault g mini_b.profile (image_of g corridor) corridor_side ≡ None
none_faulty = refl

slices : slice_cells g mini_b.profile (image_of g corridor) corridor_side ≡ (corridor_cells g).slices
slices = refl

pub corridor_read : cells_of g mini_b.profile (image_of g corridor) corridor_side ≡ Ok (corridor_cells g)
corridor_read = read_so g mini_b.profile (image_of g corridor) corridor_side (corridor_cells g) none_faulty slices pads
