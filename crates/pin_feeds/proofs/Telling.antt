-- What the feed of a wire and the parts of outputs tell of a pin.
use Rattle.std.proofs.Common.{◌≡◌, ◌≢◌, ℕ, ◌<◌, List, length, get_or, Option, None, Some, refl, sym, subst, ◌∙◌}
use Rattle.std.specs.Prelude.{is_some, if◌then◌else◌}
use Rattle.std.specs.Option.{option_and_then}
use Rattle.words.specs.Members.{In}
use Rattle.links.specs.Links.{Feeds, IsClean}
use Rattle.links.proofs.Feeds.{one_feed}
use Rattle.circuit.specs.Parts.{Source, sources}
use Rattle.circuit.specs.Pins.{Pin}
use Rattle.circuit.specs.Circuits.{Circuit}
use Rattle.fabric_laws.proofs.Numbered.{get_in}
use Rattle.wire_feeds.specs.Rows.{AreFeeds}
use Rattle.pin_feeds.specs.Outputs.{AreOutputs, part_at, unnamed_at}
use Rattle.pin_feeds.specs.PinFeeds.{IsPinFeed}
use Rattle.pin_feeds.proofs.Writing.{there_below}

some_same : (a b : ℕ) → Some a ≡ Some b → a ≡ b
some_same a b h = cc

none_some : (a : ℕ) → None ≡ Some a → ⊥
none_some a h = (let no : ⊥ = cc in no)

some_none : (a : ℕ) → Some a ≡ None → ⊥
some_none a h = (let no : ⊥ = cc in no)

module _ (c : Circuit) (feeds parts : List (Option ℕ)) (are : AreFeeds c.routing feeds) (outputs : AreOutputs (sources c.cells) parts) (long : length parts ≡ length feeds) where
  -- an output at which no part stands is the output of none
  unnamed_output : (o : ℕ) → In c.routing.outputs o → get_or parts o None ≡ None → (s : Source) → In (sources c.cells) s → s.out ≡ o → ⊥
  unnamed_output o i h s j e =
      let below : o < length feeds = there_below feeds o o (are.own o i) in
      let within : s.out < length parts = subst (λ x. x < length parts) (sym e) (subst (λ l. o < l) (sym long) below) in
      outputs.none s j within (subst (λ x. get_or parts x None ≡ None) (sym e) h)

  -- ---- a feed that isn't modelled

  unnamed_of : (w o p : ℕ) (part : Option ℕ) → get_or feeds w None ≡ Some p → get_or parts p None ≡ part → (if is_some part then None else Some p) ≡ Some o
      → Feeds c.routing o w × ((s : Source) → In (sources c.cells) s → s.out ≢ o)
  unnamed_of w o p (Some k) fed at h = absurd (none_some o h)
  unnamed_of w o p None fed at h =
      let feeds_it : Feeds c.routing p w = are.fed w p fed in
      let e : p ≡ o = some_same p o h in
      (subst (λ x. Feeds c.routing x w) e feeds_it, λ s i same. unnamed_output p feeds_it.output at s i (same ∙ sym e))

  unnamed_from : (w o : ℕ) (feed : Option ℕ) → get_or feeds w None ≡ feed → option_and_then (λ p. if is_some (get_or parts p None) then None else Some p) feed ≡ Some o
      → Feeds c.routing o w × ((s : Source) → In (sources c.cells) s → s.out ≢ o)
  unnamed_from w o None fed h = absurd (none_some o h)
  unnamed_from w o (Some p) fed h = unnamed_of w o p (get_or parts p None) fed refl h

  pub unnamed_feed : (w o : ℕ) → unnamed_at feeds parts w ≡ Some o → Feeds c.routing o w × ((s : Source) → In (sources c.cells) s → s.out ≢ o)
  unnamed_feed w o h = unnamed_from w o (get_or feeds w None) refl h

  -- ---- a feed that is

  pin_of : (p : Pin) (o : ℕ) (part : Option ℕ) → get_or feeds p.wire None ≡ Some o → get_or parts o None ≡ part → (if is_some part then None else Some o) ≡ None → IsPinFeed c p part
  pin_of p o None fed at h = absurd (some_none o h)
  pin_of p o (Some k) fed at h =
      let s = outputs.known o k at in
      (s.0, (s.1.0, subst (λ x. Feeds c.routing x p.wire) (sym s.1.1) (are.fed p.wire o fed)))

  pin_from : (p : Pin) (feed : Option ℕ) → get_or feeds p.wire None ≡ feed → option_and_then (λ o. if is_some (get_or parts o None) then None else Some o) feed ≡ None
      → IsPinFeed c p (option_and_then (λ o. get_or parts o None) feed)
  pin_from p None fed h = are.unfed p.wire fed
  pin_from p (Some o) fed h = pin_of p o (get_or parts o None) fed refl h

  pub named_pin : (p : Pin) → unnamed_at feeds parts p.wire ≡ None → IsPinFeed c p (part_at feeds parts p.wire)
  named_pin p h = pin_from p (get_or feeds p.wire None) refl h

  module _ (clean : IsClean c.routing) where
    modelled_of : (w o p : ℕ) (part : Option ℕ) → get_or feeds w None ≡ Some p → Feeds c.routing o w → get_or parts p None ≡ part → (if is_some part then None else Some p) ≡ None
        → (s : Source) × (In (sources c.cells) s × (s.out ≡ o))
    modelled_of w o p None fed f at h = absurd (some_none p h)
    modelled_of w o p (Some k) fed f at h =
        let s = outputs.known p k at in
        (s.0, (get_in (sources c.cells) k s.0 s.1.0, s.1.1 ∙ one_feed c.routing clean p o w (are.fed w p fed) f))

    modelled_from : (w o : ℕ) (feed : Option ℕ) → get_or feeds w None ≡ feed → Feeds c.routing o w → option_and_then (λ p. if is_some (get_or parts p None) then None else Some p) feed ≡ None
        → (s : Source) × (In (sources c.cells) s × (s.out ≡ o))
    modelled_from w o None fed f h = absurd (are.unfed w fed (o, f))
    modelled_from w o (Some p) fed f h = modelled_of w o p (get_or parts p None) fed f refl h

    pub modelled_feed : (w o : ℕ) → Feeds c.routing o w → unnamed_at feeds parts w ≡ None → (s : Source) × (In (sources c.cells) s × (s.out ≡ o))
    modelled_feed w o f h = modelled_from w o (get_or feeds w None) refl f h
