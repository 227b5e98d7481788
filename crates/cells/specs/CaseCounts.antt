-- Which case of a choice counts, in words. (Our own.)
use Rattle.std.specs.Prelude.{◌≡◌, ◌≢◌, ℕ, List, ◌∷◌, ◌++◌, Some, None}
use Rattle.words.specs.Members.{In}
use Rattle.patterns.specs.Bits.{Bits}
use Rattle.records.specs.Profile.{Case, Choice}
use Rattle.fabric.specs.Graph.{Graph}
use Rattle.fabric.specs.Values.{value_at}

-- the first of some cases with a value
pub record IsFirstWith (cases : List Case) (value : List ℕ) (c : Case) : Type 0 where
  pub front : List Case
  pub rest : List Case
  pub whole : cases ≡ front ++ c ∷ rest
  pub has : c.value ≡ Some value
  pub earlier : (d : Case) → In front d → d.value ≢ Some value

-- The one case of a choice without a setting counts; else the first with the value of the setting does.
pub data Counts (g : Graph) (image : Bits) (tile : ℕ) (choice : Choice) (c : Case) : Type 0 where
  always : (rest : List Case) → choice.setting ≡ None → choice.cases ≡ c ∷ rest → Counts g image tile choice c
  by_value : (setting value : List ℕ) → choice.setting ≡ Some setting → value_at g image tile setting ≡ Some value → IsFirstWith choice.cases value c → Counts g image tile choice c
