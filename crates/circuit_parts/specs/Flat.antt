-- Parts and pins in flat lists: each has a number there. (Our own.)
use Rattle.std.specs.Prelude.{◌≡◌, ℕ, ◌+◌, ◌<◌, ◌^◌, List, [], ◌∷◌, length, take}
use Rattle.std.specs.List.{flat_map}
use Rattle.circuit.specs.Cells.{PadCell, Cells}
use Rattle.circuit.specs.Parts.{Source, sources, output_pads}
use Rattle.circuit.specs.Pins.{Pin, source_pins, pins}

-- each part with an output, and each pin, has a number below 2 ^ 32
pub record AreFew (cells : Cells) : Type 0 where
  pub few_sources : length (sources cells) < 2 ^ 32
  pub few_pins : length (pins cells) < 2 ^ 32

-- The number of the first pin of the part with this number. For the number of parts it is that of the first pin of an
-- output pad.
abbrev pub first_pin : Cells → ℕ → ℕ
first_pin cells k = length (flat_map source_pins (take k (sources cells)))

-- where the pins of each part begin, behind so many pins, and last where those of output pads do
abbrev pub starts_from : ℕ → List Source → List ℕ
starts_from n [] = n ∷ []
starts_from n (s ∷ ss) = n ∷ starts_from (n + length (source_pins s)) ss

-- the lists are those of the cells
pub record AreFlat (cells : Cells) (all_sources : List Source) (all_pins : List Pin) (pads : List PadCell) (starts : List ℕ) : Type 0 where
  pub few : AreFew cells
  pub sources_are : all_sources ≡ sources cells
  pub pins_are : all_pins ≡ pins cells
  pub pads_are : pads ≡ output_pads cells
  pub starts_are : starts ≡ starts_from 0 (sources cells)
