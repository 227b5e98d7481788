-- What holds of a text without the routes of ripped nets.
use Rattle.std.specs.Prelude.{◌≡◌, ℕ, List}
use Rattle.words.specs.Members.{In}
use Rattle.records.specs.Config.{Config}
use Rattle.links.specs.Links.{Feeds, IsClean}
use Rattle.fabric.specs.Image.{image_of}
use Rattle.fabric.specs.Agree.{ArcsAgree}
use Rattle.fabric.specs.Values.{word_at, value_at}
use Rattle.upset.specs.Configured.{Configured}
use Rattle.repair.specs.Added.{with_image}
use Rattle.repair.specs.Plain.{unknown_bits}
use Rattle.repair.specs.Turns.{routing}

-- The image is clean, and the arcs agree. No net feeds more, the nets that aren't ripped feed what they fed, and the
-- settings are as before.
pub record RestKept (k : Configured) (nets : List ℕ) (config rest : Config) : Type 0 where
  pub clean : IsClean (routing (with_image k (image_of k.graph rest)))
  pub agree : ArcsAgree k.graph (image_of k.graph rest) rest
  pub fewer : (c w : ℕ) → Feeds (routing (with_image k (image_of k.graph rest))) c w → Feeds (routing k) c w
  pub others : (c w : ℕ) → (In nets c → ⊥) → Feeds (routing k) c w → Feeds (routing (with_image k (image_of k.graph rest))) c w
  pub words : (tile : ℕ) (name : List ℕ) → word_at k.graph (image_of k.graph rest) tile name ≡ word_at k.graph k.image tile name
  pub enums : (tile : ℕ) (name : List ℕ) → value_at k.graph (image_of k.graph rest) tile name ≡ value_at k.graph k.image tile name
  pub unknowns : unknown_bits k.graph rest ≡ unknown_bits k.graph config
