-- A design is what its files are parsed as, one after another.
use Rattle.std.proofs.Common.{◌≡◌, ℕ, Bool, true, false, List, length, Option, Some, None, refl, ap, subst, ◌∙◌}
use Rattle.std.specs.Prelude.{Result, Ok, Err, nat_lt, if◌then◌else◌}
use Rattle.records.specs.Limits.{most_config_bytes, most_json_bytes}
use Rattle.records.specs.Grid.{Grid}
use Rattle.records.specs.Profile.{Profile}
use Rattle.records.specs.Side.{Side}
use Rattle.records.specs.Config.{Config}
use Rattle.fabric.specs.Device.{TypeDb}
use Rattle.json_forms.specs.Results.{◌>>=◌}
use Rattle.answers.specs.Refusals.{Refusal, TooLong}
use Rattle.commands.specs.Commands.{Inputs}
use Rattle.design_files.specs.Names.{grid_name, types_of}
use Rattle.design_files.specs.Parsed.{Files, or_refused, parsed, read_config, read_grid, read_profile, read_side}
use Rattle.design_files.specs.Designs.{Design, databases_in, design_of}
use Rattle.formed_laws.proofs.Results.{both}

-- what isn't refused is what the reader gave
pub not_refused : {X F : Type 0} (refusal : F → Refusal) (r : Result X F) (x : X) → or_refused refusal r ≡ Ok x → r ≡ Ok x
not_refused refusal (Ok y) x e = (let same : y ≡ x = cc in ap (λ z. Ok z) same)
not_refused refusal (Err f) x e = absurd (let wrong : ⊥ = cc in wrong)

pub short_enough : {X : Type 0} (b : Bool) (e : Refusal) (r : Result X Refusal) (x : X) → (if b then Err e else r) ≡ Ok x → r ≡ Ok x
short_enough true e r x h = absurd (let wrong : ⊥ = cc in wrong)
short_enough false e r x h = h

-- what is parsed is read from some bytes
pub parsed_from : {X : Type 0} (name : List ℕ) (most : ℕ) (read : List ℕ → Result X Refusal) (o : Option (List ℕ)) (x : X) → parsed name most read o ≡ Ok x
    → (bytes : List ℕ) × (read bytes ≡ Ok x)
parsed_from name most read None x h = absurd (let wrong : ⊥ = cc in wrong)
parsed_from name most read (Some bytes) x h = (bytes, short_enough (nat_lt most (length bytes)) (TooLong name) (read bytes) x h)

-- one step of a reading after another
then_ok : {A B F : Type 0} (r : Result A F) (f : A → Result B F) (a : A) (b : B) → r ≡ Ok a → f a ≡ Ok b → (r >>= f) ≡ Ok b
then_ok r f a b e k = ap (λ z. z >>= f) e ∙ k

ok_same : (d e : Design) → (let o : Result Design Refusal = Ok d in o) ≡ Ok e → d ≡ e
ok_same d e h = cc

-- each file is parsed as its part of a design
pub record AreParsed (files : Files) (inputs : Inputs) (design : Design) : Type 0 where
  pub config : parsed inputs.config most_config_bytes (read_config inputs.config) (files inputs.config) ≡ Ok design.config
  pub grid : (let name = grid_name inputs.family design.config.device in parsed name most_json_bytes (read_grid name) (files name)) ≡ Ok design.device.grid
  pub profile : parsed inputs.profile most_json_bytes (read_profile inputs.profile) (files inputs.profile) ≡ Ok design.device.profile
  pub side : parsed inputs.side most_json_bytes (read_side inputs.side) (files inputs.side) ≡ Ok design.side
  pub types : databases_in files inputs.family (types_of design.device.grid) ≡ Ok design.device.types

module _ (files : Files) (inputs : Inputs) where
  abbrev grid_at : Config → List ℕ
  grid_at config = grid_name inputs.family config.device

  abbrev made : Config → Grid → Profile → Side → List TypeDb → Result Design Refusal
  made config grid profile side types = Ok (record { config = config; device = record { grid = grid; types = types; profile = profile }; side = side })

  abbrev after_side : Config → Grid → Profile → Side → Result Design Refusal
  after_side config grid profile side = databases_in files inputs.family (types_of grid) >>= made config grid profile side

  abbrev after_profile : Config → Grid → Profile → Result Design Refusal
  after_profile config grid profile = parsed inputs.side most_json_bytes (read_side inputs.side) (files inputs.side) >>= after_side config grid profile

  abbrev after_grid : Config → Grid → Result Design Refusal
  after_grid config grid = parsed inputs.profile most_json_bytes (read_profile inputs.profile) (files inputs.profile) >>= after_profile config grid

  abbrev after_config : Config → Result Design Refusal
  after_config config = parsed (grid_at config) most_json_bytes (read_grid (grid_at config)) (files (grid_at config)) >>= after_grid config

  of_parts : (design : Design) (config : Config) (grid : Grid) (profile : Profile) (side : Side) (types : List TypeDb)
      → parsed inputs.config most_config_bytes (read_config inputs.config) (files inputs.config) ≡ Ok config
      → parsed (grid_at config) most_json_bytes (read_grid (grid_at config)) (files (grid_at config)) ≡ Ok grid
      → parsed inputs.profile most_json_bytes (read_profile inputs.profile) (files inputs.profile) ≡ Ok profile
      → parsed inputs.side most_json_bytes (read_side inputs.side) (files inputs.side) ≡ Ok side
      → databases_in files inputs.family (types_of grid) ≡ Ok types
      → made config grid profile side types ≡ Ok design → AreParsed files inputs design
  of_parts design config grid profile side types c g p s ts e =
      let all : Design = record { config = config; device = record { grid = grid; types = types; profile = profile }; side = side } in
      subst (AreParsed files inputs) (ok_same all design e) (record { config = c; grid = g; profile = p; side = s; types = ts })

  -- a design that is read is parsed in all its parts
  pub files_parsed : (design : Design) → design_of files inputs ≡ Ok design → AreParsed files inputs design
  unfolding design_of
  files_parsed design h =
      let config = both (parsed inputs.config most_config_bytes (read_config inputs.config) (files inputs.config)) after_config design h in
      let grid = both (parsed (grid_at config.0) most_json_bytes (read_grid (grid_at config.0)) (files (grid_at config.0))) (after_grid config.0) design config.1.1 in
      let profile = both (parsed inputs.profile most_json_bytes (read_profile inputs.profile) (files inputs.profile)) (after_profile config.0 grid.0) design grid.1.1 in
      let side = both (parsed inputs.side most_json_bytes (read_side inputs.side) (files inputs.side)) (after_side config.0 grid.0 profile.0) design profile.1.1 in
      let types = both (databases_in files inputs.family (types_of grid.0)) (made config.0 grid.0 profile.0 side.0) design side.1.1 in
      of_parts design config.0 grid.0 profile.0 side.0 types.0 config.1.0 grid.1.0 profile.1.0 side.1.0 types.1.0 types.1.1

  -- and one that is parsed in all its parts is read
  pub parsed_read : (design : Design) → AreParsed files inputs design → design_of files inputs ≡ Ok design
  unfolding design_of
  parsed_read design p =
      then_ok (parsed inputs.config most_config_bytes (read_config inputs.config) (files inputs.config)) after_config design.config design p.config
      (then_ok (parsed (grid_at design.config) most_json_bytes (read_grid (grid_at design.config)) (files (grid_at design.config))) (after_grid design.config) design.device.grid design p.grid
      (then_ok (parsed inputs.profile most_json_bytes (read_profile inputs.profile) (files inputs.profile)) (after_profile design.config design.device.grid) design.device.profile design p.profile
      (then_ok (parsed inputs.side most_json_bytes (read_side inputs.side) (files inputs.side)) (after_side design.config design.device.grid design.device.profile) design.side design p.side
      (then_ok (databases_in files inputs.family (types_of design.device.grid)) (made design.config design.device.grid design.device.profile design.side) design.device.types design p.types refl))))
