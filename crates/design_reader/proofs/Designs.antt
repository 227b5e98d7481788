-- The files of a design, one after the other.
use Rattle.std.proofs.Common.{◌≡◌, ℕ, List, refl, sym, ap, subst, ◌∙◌}
use Rattle.std.specs.Prelude.{Result, Ok}
use Rattle.json_forms.specs.Results.{◌>>=◌}
use Rattle.records.specs.Grid.{Grid}
use Rattle.records.specs.Profile.{Profile}
use Rattle.records.specs.Side.{Side}
use Rattle.records.specs.Config.{Config}
use Rattle.fabric.specs.Device.{TypeDb}
use Rattle.answers.specs.Refusals.{Refusal}
use Rattle.commands.specs.Commands.{Inputs}
use Rattle.design_files.specs.Names.{grid_name, types_of}
use Rattle.design_files.specs.Parsed.{Files}
use Rattle.design_files.specs.Designs.{Design, config_in, grid_in, profile_in, side_file_in, databases_in, design_of}
use Rattle.run_ends.specs.Reads.{IsReached, the_config, the_grid, the_profile, the_side, a_database}
use Rattle.design_reader.specs.declared.errors.FileError.{FileError}
use Rattle.design_reader.specs.Answers.{Refuses, IsName}
use Rattle.design_reader.specs.Reached.{IsDatabaseReached}
use Rattle.design_reader.proofs.Steps.{refuses_as, first_refuses}

module _ (files : Files) (inputs : Inputs) where
  -- what is read behind each file
  abbrev behind_side : Config → Grid → Profile → Side → Result Design Refusal
  behind_side config grid profile side =
      databases_in files inputs.family (types_of grid) >>= λ types. Ok (record { config = config; device = record { grid = grid; types = types; profile = profile }; side = side })

  abbrev behind_profile : Config → Grid → Profile → Result Design Refusal
  behind_profile config grid profile = side_file_in files inputs >>= behind_side config grid profile

  abbrev behind_grid : Config → Grid → Result Design Refusal
  behind_grid config grid = profile_in files inputs >>= behind_profile config grid

  abbrev behind_config : Config → Result Design Refusal
  behind_config config = grid_in files inputs config.device >>= behind_grid config

  one_by_one : design_of files inputs ≡ (config_in files inputs >>= behind_config)
  unfolding design_of
  one_by_one = refl

  pub at_config : (e : FileError) → Refuses (config_in files inputs) (IsName inputs.config) e → Refuses (design_of files inputs) (IsReached files inputs) e
  at_config e h =
      refuses_as (config_in files inputs >>= behind_config) (design_of files inputs) (IsReached files inputs) (IsReached files inputs) e one_by_one (λ n r. r)
      (first_refuses (config_in files inputs) behind_config (IsName inputs.config) (IsReached files inputs) e (λ n is. subst (IsReached files inputs) (sym is) the_config) h)

  module _ (config : Config) (config_is : config_in files inputs ≡ Ok config) where
    to_grid : design_of files inputs ≡ behind_config config
    to_grid = one_by_one ∙ ap (λ c. c >>= behind_config) config_is

    pub at_grid : (e : FileError) → Refuses (grid_in files inputs config.device) (IsName (grid_name inputs.family config.device)) e → Refuses (design_of files inputs) (IsReached files inputs) e
    at_grid e h =
        refuses_as (behind_config config) (design_of files inputs) (IsReached files inputs) (IsReached files inputs) e to_grid (λ n r. r)
        (first_refuses (grid_in files inputs config.device) (behind_grid config) (IsName (grid_name inputs.family config.device)) (IsReached files inputs) e
        (λ n is. subst (IsReached files inputs) (sym is) (the_grid config_is)) h)

    module _ (grid : Grid) (grid_is : grid_in files inputs config.device ≡ Ok grid) where
      to_profile : design_of files inputs ≡ behind_grid config grid
      to_profile = to_grid ∙ ap (λ g. g >>= behind_grid config) grid_is

      pub at_profile : (e : FileError) → Refuses (profile_in files inputs) (IsName inputs.profile) e → Refuses (design_of files inputs) (IsReached files inputs) e
      at_profile e h =
          refuses_as (behind_grid config grid) (design_of files inputs) (IsReached files inputs) (IsReached files inputs) e to_profile (λ n r. r)
          (first_refuses (profile_in files inputs) (behind_profile config grid) (IsName inputs.profile) (IsReached files inputs) e
          (λ n is. subst (IsReached files inputs) (sym is) (the_profile config_is grid_is)) h)

      module _ (profile : Profile) (profile_is : profile_in files inputs ≡ Ok profile) where
        to_side : design_of files inputs ≡ behind_profile config grid profile
        to_side = to_profile ∙ ap (λ p. p >>= behind_profile config grid) profile_is

        pub at_side : (e : FileError) → Refuses (side_file_in files inputs) (IsName inputs.side) e → Refuses (design_of files inputs) (IsReached files inputs) e
        at_side e h =
            refuses_as (behind_profile config grid profile) (design_of files inputs) (IsReached files inputs) (IsReached files inputs) e to_side (λ n r. r)
            (first_refuses (side_file_in files inputs) (behind_side config grid profile) (IsName inputs.side) (IsReached files inputs) e
            (λ n is. subst (IsReached files inputs) (sym is) (the_side config_is grid_is profile_is)) h)

        module _ (side : Side) (side_is : side_file_in files inputs ≡ Ok side) where
          to_databases : design_of files inputs ≡ behind_side config grid profile side
          to_databases = to_side ∙ ap (λ s. s >>= behind_side config grid profile) side_is

          pub at_databases : (e : FileError) → Refuses (databases_in files inputs.family (types_of grid)) (IsDatabaseReached files inputs.family (types_of grid)) e
              → Refuses (design_of files inputs) (IsReached files inputs) e
          at_databases e h =
              refuses_as (behind_side config grid profile side) (design_of files inputs) (IsReached files inputs) (IsReached files inputs) e to_databases (λ n r. r)
              (first_refuses (databases_in files inputs.family (types_of grid))
              (λ types. Ok (record { config = config; device = record { grid = grid; types = types; profile = profile }; side = side }))
              (IsDatabaseReached files inputs.family (types_of grid)) (IsReached files inputs) e
              (λ n r. subst (IsReached files inputs) (sym r.its_name) (a_database r.kind config_is grid_is profile_is side_is r.next)) h)

          pub whole : (types : List TypeDb) → databases_in files inputs.family (types_of grid) ≡ Ok types
              → design_of files inputs ≡ Ok (record { config = config; device = record { grid = grid; types = types; profile = profile }; side = side })
          whole types is =
              to_databases
              ∙ ap (λ (d : Result (List TypeDb) Refusal). d >>= λ types. Ok (record { config = config; device = record { grid = grid; types = types; profile = profile }; side = side })) is

-- ---- the same over files that stay, and inputs that are given in another form

module _ (files f1 f2 f3 f4 : Files) (inputs given : Inputs) (is_given : inputs ≡ given) where
  given_refuses : (e : FileError) → Refuses (design_of files inputs) (IsReached files inputs) e → Refuses (design_of files given) (IsReached files given) e
  given_refuses e h = subst (λ (i : Inputs). Refuses (design_of files i) (IsReached files i) e) is_given h

  pub config_refused : (e : FileError) → Refuses (config_in files inputs) (IsName inputs.config) e → Refuses (design_of files given) (IsReached files given) e
  config_refused e h = given_refuses e (at_config files inputs e h)

  module _ (config : Config) (device : List ℕ) (config_is : config_in files inputs ≡ Ok config) (k1 : f1 ≡ files) (device_is : device ≡ config.device) where
    pub grid_refused : (e : FileError) → Refuses (grid_in f1 inputs device) (IsName (grid_name inputs.family device)) e → Refuses (design_of files given) (IsReached files given) e
    grid_refused e h =
        given_refuses e
        (at_grid files inputs config config_is e
        (subst (λ (d : List ℕ). Refuses (grid_in files inputs d) (IsName (grid_name inputs.family d)) e) device_is
        (subst (λ (f : Files). Refuses (grid_in f inputs device) (IsName (grid_name inputs.family device)) e) k1 h)))

    module _ (grid : Grid) (grid_is : grid_in f1 inputs device ≡ Ok grid) (k2 : f2 ≡ f1) where
      the_grid_is : grid_in files inputs config.device ≡ Ok grid
      the_grid_is = subst (λ (d : List ℕ). grid_in files inputs d ≡ Ok grid) device_is (subst (λ (f : Files). grid_in f inputs device ≡ Ok grid) k1 grid_is)

      pub profile_refused : (e : FileError) → Refuses (profile_in f2 inputs) (IsName inputs.profile) e → Refuses (design_of files given) (IsReached files given) e
      profile_refused e h =
          given_refuses e
          (at_profile files inputs config config_is grid the_grid_is e (subst (λ (f : Files). Refuses (profile_in f inputs) (IsName inputs.profile) e) (k2 ∙ k1) h))

      module _ (profile : Profile) (profile_is : profile_in f2 inputs ≡ Ok profile) (k3 : f3 ≡ f2) where
        the_profile_is : profile_in files inputs ≡ Ok profile
        the_profile_is = subst (λ (f : Files). profile_in f inputs ≡ Ok profile) (k2 ∙ k1) profile_is

        pub side_refused : (e : FileError) → Refuses (side_file_in f3 inputs) (IsName inputs.side) e → Refuses (design_of files given) (IsReached files given) e
        side_refused e h =
            given_refuses e
            (at_side files inputs config config_is grid the_grid_is profile the_profile_is e
            (subst (λ (f : Files). Refuses (side_file_in f inputs) (IsName inputs.side) e) (k3 ∙ k2 ∙ k1) h))

        module _ (side : Side) (side_is : side_file_in f3 inputs ≡ Ok side) (k4 : f4 ≡ f3) where
          the_side_is : side_file_in files inputs ≡ Ok side
          the_side_is = subst (λ (f : Files). side_file_in f inputs ≡ Ok side) (k3 ∙ k2 ∙ k1) side_is

          pub databases_refused : (e : FileError) → Refuses (databases_in f4 inputs.family (types_of grid)) (IsDatabaseReached f4 inputs.family (types_of grid)) e
              → Refuses (design_of files given) (IsReached files given) e
          databases_refused e h =
              given_refuses e
              (at_databases files inputs config config_is grid the_grid_is profile the_profile_is side the_side_is e
              (subst (λ (f : Files). Refuses (databases_in f inputs.family (types_of grid)) (IsDatabaseReached f inputs.family (types_of grid)) e) (k4 ∙ k3 ∙ k2 ∙ k1) h))

          pub read_whole : (types : List TypeDb) → databases_in f4 inputs.family (types_of grid) ≡ Ok types
              → design_of files given ≡ Ok (record { config = config; device = record { grid = grid; types = types; profile = profile }; side = side })
          read_whole types h =
              sym (ap (design_of files) is_given)
              ∙ whole files inputs config config_is grid the_grid_is profile the_profile_is side the_side_is types
              (subst (λ (f : Files). databases_in f inputs.family (types_of grid) ≡ Ok types) (k4 ∙ k3 ∙ k2 ∙ k1) h)
