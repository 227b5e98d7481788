-- In which order the files of a design are come to.
use Rattle.std.proofs.Common.{◌≡◌, ◌≢◌, ℕ, List, [], ◌∷◌, ◌++◌, ◌⊎◌, refl, sym, ap, subst, inl, inr}
use Rattle.std.specs.Prelude.{Result, Ok, Err}
use Rattle.words.specs.Members.{In}
use Rattle.records.specs.Config.{Config}
use Rattle.records.specs.Grid.{Grid}
use Rattle.answers.specs.Refusals.{Refusal}
use Rattle.commands.specs.Commands.{Inputs}
use Rattle.design_files.specs.Names.{grid_name, types_of}
use Rattle.design_files.specs.Parsed.{Files}
use Rattle.design_files.specs.Designs.{config_in, grid_in, profile_in}
use Rattle.run_ends.specs.Reads.{IsReached, the_config, the_grid, the_profile, the_side, a_database}
use Rattle.run_end_laws.specs.Answers.{IsDatabaseOf}

both_ways : {X F : Type 0} (r : Result X F) (x : X) (f : F) → r ≡ Ok x → r ≡ Err f → ⊥
both_ways r x f h k = cc

module _ (files : Files) (inputs : Inputs) where
  -- after a configuration that is refused no other file is read
  pub after_config : (r : Refusal) (name : List ℕ) → config_in files inputs ≡ Err r → IsReached files inputs name → name ≡ inputs.config
  after_config r _ h the_config = refl
  after_config r _ h (the_grid {config} c) = absurd (both_ways (config_in files inputs) config r c h)
  after_config r _ h (the_profile {config} c g) = absurd (both_ways (config_in files inputs) config r c h)
  after_config r _ h (the_side {config} c g p) = absurd (both_ways (config_in files inputs) config r c h)
  after_config r _ h (a_database {config} kind c g p s n) = absurd (both_ways (config_in files inputs) config r c h)

  same_ok : {X F : Type 0} (r : Result X F) (x y : X) → r ≡ Ok x → r ≡ Ok y → x ≡ y
  same_ok r x y h k = cc

  -- the files before the side file
  pub after_profile : (r : Refusal) (config : Config) (name : List ℕ) → config_in files inputs ≡ Ok config → profile_in files inputs ≡ Err r → IsReached files inputs name
      → (name ≡ inputs.config) ⊎ ((name ≡ grid_name inputs.family config.device) ⊎ (name ≡ inputs.profile))
  after_profile r config _ h k the_config = inl refl
  after_profile r config _ h k (the_grid {config = other} c) =
      inr (inl (ap (λ (d : Config). grid_name inputs.family d.device) (same_ok (config_in files inputs) other config c h)))
  after_profile r config _ h k (the_profile c g) = inr (inr refl)
  after_profile r config _ h k (the_side {profile} c g p) = absurd (both_ways (profile_in files inputs) profile r p k)
  after_profile r config _ h k (a_database {profile} kind c g p s n) = absurd (both_ways (profile_in files inputs) profile r p k)

  in_order : (before rest : List (List ℕ)) (kind : List ℕ) → In (before ++ kind ∷ rest) kind
  in_order [] rest kind = inl refl
  in_order (b ∷ before) rest kind = inr (in_order before rest kind)

  same_grid : (config other : Config) (grid its : Grid) → config_in files inputs ≡ Ok config → grid_in files inputs config.device ≡ Ok grid
      → config_in files inputs ≡ Ok other → grid_in files inputs other.device ≡ Ok its → its ≡ grid
  same_grid config other grid its h k c g =
      same_ok (grid_in files inputs config.device) its grid
      (subst (λ (d : Config). grid_in files inputs d.device ≡ Ok its) (same_ok (config_in files inputs) other config c h) g) k

  -- another file is the database of a tile type of the named device's grid
  pub is_database : (config : Config) (grid : Grid) (name : List ℕ) → config_in files inputs ≡ Ok config → grid_in files inputs config.device ≡ Ok grid
      → IsReached files inputs name → name ≢ inputs.config → name ≢ grid_name inputs.family config.device → name ≢ inputs.profile → name ≢ inputs.side
      → IsDatabaseOf inputs.family grid name
  is_database config grid _ h k the_config a b c d = absurd (a refl)
  is_database config grid _ h k (the_grid {config = other} o) a b c d =
      absurd (b (ap (λ (d : Config). grid_name inputs.family d.device) (same_ok (config_in files inputs) other config o h)))
  is_database config grid _ h k (the_profile o g) a b c d = absurd (c refl)
  is_database config grid _ h k (the_side o g p) a b c d = absurd (d refl)
  is_database config grid _ h k (a_database {config = other} {grid = its} kind o g p s n) a b c d = record {
    kind = kind;
    listed = subst (λ (x : Grid). In (types_of x) kind) (same_grid config other grid its h k o g)
        (subst (λ (kinds : List (List ℕ)). In kinds kind) (sym n.order) (in_order n.before n.rest kind));
    its_name = refl;
  }
