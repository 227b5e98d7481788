-- The domain of a wire. (Our own.)
use Rattle.std.specs.Prelude.{◌≡◌, ℕ}
use Rattle.words.specs.Members.{In}
use Rattle.links.specs.Links.{Feeds}
use Rattle.records.specs.Side.{Domain}
use Rattle.circuit.specs.Parts.{Source, sources}
use Rattle.circuit.specs.Circuits.{Circuit}

-- The domain of a wire is that of the named cell whose modelled output is the one feed of the wire. A wire
-- without such a feed has none.
pub record HasDomain (c : Circuit) (w : ℕ) (d : Domain) : Type 0 where
  pub source : Source
  pub listed : In (sources c.cells) source
  pub feeds : Feeds c.routing source.out w
  pub only : (o : ℕ) → Feeds c.routing o w → o ≡ source.out
  pub domain : source.domain ≡ d
