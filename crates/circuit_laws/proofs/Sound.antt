-- What holds of the feeds of a circuit with a clean routing and well-formed cells.
use Rattle.std.proofs.Common.{◌≡◌, ℕ, ◌⊎◌, inl, inr, refl, ap, ◌∙◌}
use Rattle.words.specs.Members.{In}
use Rattle.links.specs.Links.{here, Below, Feeds, IsClean}
use Rattle.records.specs.Side.{Domain}
use Rattle.circuit.specs.Parts.{Source, sources}
use Rattle.circuit.specs.Pins.{Pin, pins}
use Rattle.circuit.specs.Circuits.{Circuit, Connects}
use Rattle.circuit.specs.Domains.{HasDomain}
use Rattle.circuit.specs.WellFormed.{IsWellFormed}
use Rattle.links.proofs.Members.{any_of}
use Rattle.links.proofs.Below.{is_below}
use Rattle.links.proofs.Feeds.{one_feed}

-- the routing is clean and the cells are well formed
pub record Sound (c : Circuit) : Type 0 where
  pub clean : IsClean c.routing
  pub formed : IsWellFormed c

-- the output of a part feeds a wire
pub record FeedsFrom (c : Circuit) (s : Source) (w : ℕ) : Type 0 where
  pub source : In (sources c.cells) s
  pub feeds : Feeds c.routing s.out w

pub at_pin : (c : Circuit) (s : Source) (p : Pin) → Connects c s p → FeedsFrom c s p.wire
at_pin c s p cn = record { source = cn.source; feeds = cn.feeds }

pub to_pin : (c : Circuit) (s : Source) (p : Pin) → In (pins c.cells) p → FeedsFrom c s p.wire → Connects c s p
to_pin c s p ip f = record { source = f.source; pin = ip; feeds = f.feeds }

module _ (c : Circuit) (ok : Sound c) where
  -- one part at most feeds a wire
  pub source_same : (s u : Source) (w : ℕ) → FeedsFrom c s w → FeedsFrom c u w → s ≡ u
  source_same s u w f g = ok.formed.outputs.alone s u f.source g.source (one_feed c.routing ok.clean s.out u.out w f.feeds g.feeds)

  own_wire : (s : Source) → In (sources c.cells) s → Feeds c.routing s.out s.out
  own_wire s i = record { output = ok.formed.outputs.listed s i; reach = here }

  -- a part feeds the wire of its output
  pub feeds_own : (s : Source) → In (sources c.cells) s → FeedsFrom c s s.out
  feeds_own s i = record { source = i; feeds = own_wire s i }

  -- the part that feeds a wire, or that there is none
  pub feed_at : (w : ℕ) → ((s : Source) × FeedsFrom c s w) ⊎ ((s : Source) → FeedsFrom c s w → ⊥)
  feed_at w = elim (any_of (λ s. Below c.routing s.out w) (λ s. is_below c.routing s.out w) (sources c.cells)) [
    | inl x ↦ inl (x.0, record { source = x.1.0; feeds = record { output = ok.formed.outputs.listed x.0 x.1.0; reach = x.1.1 } })
    | inr h ↦ inr (λ s f. h s f.source f.feeds.reach)
  ]

  -- a wire that a part feeds has the part's domain
  pub has_domain : (s : Source) (w : ℕ) → FeedsFrom c s w → HasDomain c w s.domain
  has_domain s w f = record { source = s; listed = f.source; feeds = f.feeds; only = λ o g. one_feed c.routing ok.clean o s.out w g f.feeds; domain = refl }

  -- and no other
  pub domain_is : (s : Source) (w : ℕ) (d : Domain) → FeedsFrom c s w → HasDomain c w d → s.domain ≡ d
  domain_is s w d f h = ap (λ z. z.domain) (source_same s h.source w f (record { source = h.listed; feeds = h.feeds })) ∙ h.domain
