-- The fault that an error names.
use Rattle.std.specs.Prelude.{Option, Some, None}
use Rattle.cells.specs.Faults as cells
use Rattle.cell_readings.specs.declared.errors.CellError.{CellError}
use Rattle.cell_readings.specs.declared.errors.CellError.TheVariants.{UnknownSite, ShapeDiffers, Unmodelled, UnnamedPad, Memory}

-- none where memory was wanted
abbrev pub fault_of : CellError → Option cells.CellFault
fault_of (UnknownSite name) = Some (cells.UnknownSite name)
fault_of (ShapeDiffers name) = Some (cells.ShapeDiffers name)
fault_of (Unmodelled cell setting value) = Some (cells.Unmodelled cell setting value)
fault_of (UnnamedPad tile kind) = Some (cells.UnnamedPad tile kind)
fault_of Memory = None
