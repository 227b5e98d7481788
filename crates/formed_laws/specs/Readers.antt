-- What the readers of files leave. (Our own.)
use Rattle.std.specs.Prelude.{◌≡◌, ℕ, List, Ok}
use Rattle.records.specs.Grid.{Grid}
use Rattle.records.specs.Profile.{Profile}
use Rattle.records.specs.Side.{Side}
use Rattle.json_forms.specs.Grid.{grid_of}
use Rattle.json_forms.specs.Profile.{profile_of}
use Rattle.side_form.specs.Side.{side_of}

-- some bytes are read as this grid
abbrev pub IsReadGrid : Grid → Type 0
IsReadGrid grid = (bytes : List ℕ) × (grid_of bytes ≡ Ok grid)

-- some bytes are read as this profile
abbrev pub IsReadProfile : Profile → Type 0
IsReadProfile profile = (bytes : List ℕ) × (profile_of bytes ≡ Ok profile)

-- some bytes are read as this side file
abbrev pub IsReadSide : Side → Type 0
IsReadSide side = (bytes : List ℕ) × (side_of bytes ≡ Ok side)
