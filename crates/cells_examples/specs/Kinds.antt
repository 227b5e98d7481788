-- Kinds of slices beside that of MINI-A.
use Rattle.std.specs.Prelude.{ℕ, List, [], ◌∷◌, None, codes}
use Rattle.records.specs.Database.{EnumOption}
use Rattle.records.specs.Profile.{SliceKind}
use Rattle.fabric.specs.Settings.{Settings}
use Rattle.mini.specs.MiniA.{at, mlc}

-- the settings of the tiles of MINI-A's slices
abbrev pub in_mlc : Settings
in_mlc = record { words = mlc.words; enums = mlc.enums }

abbrev pub logic : EnumOption
logic = record { value = codes "LOGIC"; bits = [] }

abbrev pub carry : ℕ → EnumOption
carry bit = record { value = codes "CCU2"; bits = at 2 bit ∷ [] }

-- the same settings, but for the mode
abbrev pub with_mode : List EnumOption → Settings
with_mode options = record { words = mlc.words; enums = record { name = codes "S0.MODE"; default = None; options = options } ∷ [] }

-- a kind with a shape and settings
abbrev pub kind : List ℕ → List (List ℕ) → SliceKind
kind shape settings = record { tile = codes "MLC"; name = codes "S0"; shape = shape; settings = settings; require = []; tables = []; registers = [] }

abbrev pub plain : SliceKind
plain = kind (codes "L") (codes "S0.MODE" ∷ codes "S0.K" ∷ [])

-- the same kind for another tile type
abbrev pub elsewhere : SliceKind
elsewhere = record plain { tile = codes "MLD" }
