-- Pins that are flagged, and the properties that checks refuse.
use Rattle.std.proofs.Common.{◌≡◌, ◌≢◌, ℕ, Bool, true, false, List, length, get_or, Option, None, Some, refl, sym, ap, ap₂, subst, ◌∙◌}
use Rattle.std.specs.Prelude.{◌&&◌, slice_get}
use Rattle.std.specs.declared.cmp.Ordering.TheVariants.{Greater}
use Rattle.std.proofs.lemmas.Option.{slice_get_within}
use Rattle.words.specs.Members.{In}
use Rattle.fabric_laws.proofs.Numbered.{get_in, number_there}
use Rattle.circuit.specs.Cells.{PadCell}
use Rattle.circuit.specs.Parts.{Source, sources, output_pads}
use Rattle.circuit.specs.Pins.{Pin, PinRef, pad_pin, pins, source_pins}
use Rattle.circuit.specs.Circuits.{Circuit}
use Rattle.attempts.specs.PinOrder.{pin_cmp}
use Rattle.design_checks.specs.Checks.{IsLeast}
use Rattle.design_checks.specs.PinChecks.{OfReadPart, of_part, of_pad}
use Rattle.pin_feeds.specs.PinFeeds.{feed_source}
use Rattle.pin_feeds.specs.Told.{Tells}
use Rattle.pin_rules.specs.declared.owners.PinOwner.{PinOwner}
use Rattle.pin_rules.specs.declared.owners.PinOwner.TheVariants.{Part, Pad}
use Rattle.pin_rules.specs.declared.rules.PinRule.{PinRule}
use Rattle.pin_rules.specs.Owners.{owners_of}
use Rattle.pin_rules.specs.ReadParts.{AreReadParts}
use Rattle.pin_rules.specs.Rules.{breaks, pad_breaks}
use Rattle.pin_rules.specs.Flags.{flag_at, owner_flag, pad_flag, part_flag, pin_flag}
use Rattle.pin_rules.specs.Least.{LeastFlagged, pin_order}
use Rattle.pin_rules.proofs.Owned.{owned_part, owned_pad, part_owned, pad_owned}
use Rattle.pin_rules.proofs.Reading.{flag_reads, read_flagged}

true_false : true ≡ false → ⊥
true_false h = (let no : ⊥ = cc in no)

pub both : (a b : Bool) → (a && b) ≡ true → (a ≡ true) × (b ≡ true)
both true b h = (refl, h)
both false b h = absurd (true_false (sym h))

some_same : {X : Type 0} (x y : X) → Some x ≡ Some y → x ≡ y
some_same x y h = cc

-- A rule is one of a property of pins: what flags say of each pin is the property.
pub record IsRuleOf (c : Circuit) (feeds : List (Option ℕ)) (rule : PinRule) (pins_of : Source → List Pin) (Has : Source → Pin → Type 0) (OfPad : PadCell → Type 0) : Type 0 where
  pub listed : (s : Source) (p : Pin) → In (pins_of s) p → In (source_pins s) p
  pub part_is : (i k : ℕ) (s : Source) (p : Pin) → slice_get (pins c.cells) i ≡ Some p → slice_get (sources c.cells) k ≡ Some s → In (source_pins s) p
      → breaks rule k s p.ref.pin (feed_source c.cells feeds i) ≡ true → In (pins_of s) p × Has s p
  pub part_has : (i k : ℕ) (s : Source) (p : Pin) → slice_get (pins c.cells) i ≡ Some p → slice_get (sources c.cells) k ≡ Some s → In (source_pins s) p
      → In (pins_of s) p → Has s p → breaks rule k s p.ref.pin (feed_source c.cells feeds i) ≡ true
  pub pad_is : (i : ℕ) (pad : PadCell) → slice_get (pins c.cells) i ≡ Some (pad_pin pad) → pad_breaks rule pad (feed_source c.cells feeds i) ≡ true → OfPad pad
  pub pad_has : (i : ℕ) (pad : PadCell) → slice_get (pins c.cells) i ≡ Some (pad_pin pad) → OfPad pad → pad_breaks rule pad (feed_source c.cells feeds i) ≡ true

-- no pin has the property, or the pin with this number is the least that has it
abbrev pub FoundOf : Circuit → (PinRef → Type 0) → Option ℕ → Type 0
FoundOf c Has None = (ref : PinRef) → Has ref → ⊥
FoundOf c Has (Some n) = (p : Pin) × ((slice_get (pins c.cells) n ≡ Some p) × IsLeast pin_cmp Has p.ref)

module _ (c : Circuit) (feeds : List (Option ℕ)) (read : List Bool) (owners : List PinOwner) (tells : Tells c feeds) (are : AreReadParts c.cells feeds read) (own : owners ≡ owners_of c.cells)
    (rule : PinRule) (pins_of : Source → List Pin) (Has : Source → Pin → Type 0) (OfPad : PadCell → Type 0) (law : IsRuleOf c feeds rule pins_of Has OfPad) where
  -- ---- from flags

  of_part_flag : (i k : ℕ) (p : Pin) (s : Source) → slice_get (pins c.cells) i ≡ Some p → slice_get (sources c.cells) k ≡ Some s → In (source_pins s) p
      → part_flag rule read k p.ref.pin (feed_source c.cells feeds i) (Some s) ≡ true → OfReadPart c pins_of Has OfPad p.ref
  of_part_flag i k p s at there mine h =
      let parts = both (get_or read k false) (breaks rule k s p.ref.pin (feed_source c.cells feeds i)) h in
      let has = law.part_is i k s p at there mine parts.1 in
      of_part s p (record { listed = get_in (sources c.cells) k s there; read = flag_reads c feeds read tells are k s there parts.0 }) has.0 has.1

  of_owner : (i : ℕ) (p : Pin) (o : Option PinOwner) → slice_get (pins c.cells) i ≡ Some p → slice_get (owners_of c.cells) i ≡ o
      → owner_flag rule c.cells read p.ref.pin (feed_source c.cells feeds i) o ≡ true → OfReadPart c pins_of Has OfPad p.ref
  of_owner i p None at is h = absurd (true_false (sym h))
  of_owner i p (Some (Part k)) at is h =
      let s = owned_part c.cells i k p at is in
      of_part_flag i k p s.0 at s.1.0 s.1.1 (sym (ap (part_flag rule read k p.ref.pin (feed_source c.cells feeds i)) s.1.0) ∙ h)
  of_owner i p (Some (Pad j)) at is h =
      let d = owned_pad c.cells i j p at is in
      let there : slice_get (pins c.cells) i ≡ Some (pad_pin d.0) = at ∙ ap (λ (x : Pin). Some x) (sym d.1.1) in
      let has = law.pad_is i d.0 there (sym (ap (pad_flag rule (feed_source c.cells feeds i)) d.1.0) ∙ h) in
      subst (λ (x : Pin). OfReadPart c pins_of Has OfPad x.ref) d.1.1 (of_pad d.0 (get_in (output_pads c.cells) j d.0 d.1.0) has)

  flag_has : (i : ℕ) (p : Pin) → slice_get (pins c.cells) i ≡ Some p → flag_at rule c.cells feeds read owners i ≡ true → OfReadPart c pins_of Has OfPad p.ref
  flag_has i p at h =
      let same : slice_get owners i ≡ slice_get (owners_of c.cells) i = ap (λ xs. slice_get xs i) own in
      of_owner i p (slice_get (owners_of c.cells) i) at refl
      (ap (λ o. owner_flag rule c.cells read p.ref.pin (feed_source c.cells feeds i) o) (sym same) ∙ (sym (ap (pin_flag rule c.cells read (feed_source c.cells feeds i) (slice_get owners i)) at) ∙ h))

  -- ---- to flags

  flag_by : (i : ℕ) (p : Pin) (o : PinOwner) → slice_get (pins c.cells) i ≡ Some p → slice_get (owners_of c.cells) i ≡ Some o
      → owner_flag rule c.cells read p.ref.pin (feed_source c.cells feeds i) (Some o) ≡ true → flag_at rule c.cells feeds read owners i ≡ true
  flag_by i p o at is h =
      let same : slice_get owners i ≡ Some o = ap (λ xs. slice_get xs i) own ∙ is in
      ap (pin_flag rule c.cells read (feed_source c.cells feeds i) (slice_get owners i)) at ∙ (ap (owner_flag rule c.cells read p.ref.pin (feed_source c.cells feeds i)) same ∙ h)

  abbrev Seen : PinRef → Type 0
  Seen ref = (i : ℕ) × ((p : Pin) × ((slice_get (pins c.cells) i ≡ Some p) × ((p.ref ≡ ref) × (flag_at rule c.cells feeds read owners i ≡ true))))

  has_flag : (ref : PinRef) → OfReadPart c pins_of Has OfPad ref → Seen ref
  has_flag _ (of_part s p r i h) =
      let k = read_flagged c feeds read tells are s r.read in
      let mine = law.listed s p i in
      let at = part_owned c.cells k.0 s p k.1.0 mine in
      let flag : part_flag rule read k.0 p.ref.pin (feed_source c.cells feeds at.0) (Some s) ≡ true = ap₂ (λ a b. a && b) k.1.1 (law.part_has at.0 k.0 s p at.1.0 k.1.0 mine i h) in
      (at.0, (p, (at.1.0, (refl, flag_by at.0 p (Part k.0) at.1.0 at.1.1 (ap (part_flag rule read k.0 p.ref.pin (feed_source c.cells feeds at.0)) k.1.0 ∙ flag)))))
  has_flag _ (of_pad d i h) =
      let j = number_there (output_pads c.cells) d i in
      let at = pad_owned c.cells j.0 d j.1 in
      let flag : pad_breaks rule d (feed_source c.cells feeds at.0) ≡ true = law.pad_has at.0 d at.1.0 h in
      (at.0, (pad_pin d, (at.1.0, (refl, flag_by at.0 (pad_pin d) (Pad j.0) at.1.0 at.1.1 (ap (pad_flag rule (feed_source c.cells feeds at.0)) j.1 ∙ flag)))))

  -- ---- the least

  pub found : (r : Option ℕ) → LeastFlagged pin_order (pins c.cells) (λ i. flag_at rule c.cells feeds read owners i ≡ true) (length (pins c.cells)) r → FoundOf c (OfReadPart c pins_of Has OfPad) r
  found None none = λ ref h. (let s = has_flag ref h in none s.0 (slice_get_within (pins c.cells) s.0 s.1.0 s.1.1.0) s.1.1.1.1)
  found (Some n) least = (
    least.item,
    (
      least.numbered,
      record {
        has = flag_has n least.item least.numbered least.flagged;
        least = λ ref h.
            let s = has_flag ref h in
            subst (λ x. pin_cmp least.item.ref x ≢ Greater) s.1.1.1.0 (least.least s.0 s.1.0 (slice_get_within (pins c.cells) s.0 s.1.0 s.1.1.0) s.1.1.0 s.1.1.1.1);
      },
    ),
  )
