-- Sources without a name.
use Rattle.std.proofs.Common.{◌≡◌, ℕ, List, Option, Some, sym, subst}
use Rattle.std.specs.Prelude.{slice_get}
use Rattle.links.specs.Links.{IsClean}
use Rattle.fabric.specs.Wires.{Wire}
use Rattle.fabric.specs.Graph.{Graph}
use Rattle.answers.specs.Refusals.{UnnamedSource}
use Rattle.circuit.specs.Cells.{Cells}
use Rattle.circuit.specs.Pins.{Pin, PinRef, pins}
use Rattle.circuit.specs.Circuits.{Circuit}
use Rattle.design_checks.specs.Checks.{Passes}
use Rattle.design_checks.specs.PinChecks.{SourceUnnamed, unnamed}
use Rattle.pin_feeds.specs.declared.errors.UnnamedFeed.{UnnamedFeed}
use Rattle.pin_feeds.specs.PinFeeds.{ArePinFeeds}
use Rattle.pin_feeds.specs.Unnamed.{IsUnnamedFeed}
use Rattle.pin_feeds.proofs.Connected.{named}
use Rattle.load_routing.specs.declared.error.LoadError.{LoadError}
use Rattle.load_routing.specs.Refused.{IsRefusal, IsRefusedBy}
use Rattle.load_routing.proofs.Checked.{refused_by}

-- where each pin is fed by a part, no source is unnamed
pub feeds_pass : (g : Graph) (c : Circuit) (feeds : List (Option ℕ)) → IsClean c.routing → ArePinFeeds c feeds → Passes (SourceUnnamed g c)
feeds_pass g c feeds clean are r (unnamed ref o wire least fed at) =
    let s = named c feeds clean are fed.pin o fed.listed fed.feeds in
    fed.unnamed s.0 s.1.0 s.1.1

-- the pin and its feed are refused by their names
pub feed_refuses : (g : Graph) (c : Circuit) (u : UnnamedFeed) (cells : Cells) → c.cells ≡ cells → IsUnnamedFeed c u → (ref : PinRef) → ((p : Pin) → slice_get (pins cells) u.pin ≡ Some p → ref ≡ p.ref)
    → (wire : Wire) → slice_get g.wires u.feed ≡ Some wire → (e : LoadError) → IsRefusal (UnnamedSource ref wire) e → IsRefusedBy (SourceUnnamed g c) e
feed_refuses g c u cells same is ref refs wire at e says =
    let name : ref ≡ is.pin.ref = refs is.pin (subst (λ (x : Cells). slice_get (pins x) u.pin ≡ Some is.pin) same is.numbered) in
    refused_by (SourceUnnamed g c) (UnnamedSource ref wire) e (subst (λ (x : PinRef). SourceUnnamed g c (UnnamedSource x wire)) (sym name) (unnamed is.pin.ref u.feed wire is.least is.feed at)) says
