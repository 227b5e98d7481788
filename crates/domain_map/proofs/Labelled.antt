-- The domain that stands for a wire is its own.
use Rattle.std.proofs.Common.{◌≡◌, ◌≢◌, ◌↔◌, ℕ, zero, suc, ◌<◌, ◌≤◌, Bool, true, false, List, [], ◌∷◌, ◌++◌, length, get_or, drop, map, replicate, Option, None, Some, option_map, option_and_then, refl, sym, ap, subst, ◌∙◌, arith}
use Rattle.std.specs.Prelude.{slice_get}
use Rattle.words.specs.Members.{In}
use Rattle.records.specs.Side.{Domain}
use Rattle.links.specs.Links.{Fed, Feeds, IsClean}
use Rattle.links.proofs.Feeds.{one_feed}
use Rattle.circuit.specs.Cells.{Cells}
use Rattle.circuit.specs.Parts.{Source, sources}
use Rattle.circuit.specs.Pins.{Pin, pins}
use Rattle.circuit.specs.Circuits.{Circuit}
use Rattle.circuit.specs.Domains.{HasDomain}
use Rattle.circuit.specs.WellFormed.{IsWellFormed}
use Rattle.fabric_laws.proofs.Numbered.{get_in}
use Rattle.wire_feeds.specs.Rows.{AreFeeds}
use Rattle.pin_feeds.specs.Outputs.{AreOutputs}
use Rattle.pin_feeds.proofs.Writing.{there_below}
use Rattle.domain_map.specs.Labels.{WireLabels, AreLabels, domain_by, marks_with}
use Rattle.domain_map.proofs.Marked.{marks_are}

get_map : {X Y : Type 0} (f : X → Y) (xs : List X) (i : ℕ) (d : X) → get_or (map f xs) i (f d) ≡ f (get_or xs i d)
get_map f [] i d = refl
get_map f (x ∷ xs) zero d = refl
get_map f (x ∷ xs) (suc i) d = get_map f xs i d

some_number : (a b : ℕ) → Some a ≡ Some b → a ≡ b
some_number a b h = cc

none_number : (a : ℕ) → None ≡ Some a → ⊥
none_number a h = (let no : ⊥ = cc in no)

none_domain : (d : Domain) → None ≡ Some d → ⊥
none_domain d h = (let no : ⊥ = cc in no)

some_domain : (d e : Domain) → Some d ≡ Some e → d ≡ e
some_domain d e h = cc

module _ (c : Circuit) (feeds parts : List (Option ℕ)) (clean : IsClean c.routing) (formed : IsWellFormed c) (are : AreFeeds c.routing feeds) (outputs : AreOutputs (sources c.cells) parts) (long : length parts ≡ length feeds) where
  abbrev by : Option ℕ → Option Domain
  by = domain_by (sources c.cells) parts

  -- ---- a domain stands there

  listed_part : (s : Source) → In (sources c.cells) s → In c.routing.outputs s.out → get_or parts s.out None ≡ None → ⊥
  listed_part s i o h = outputs.none s i (subst (λ n. s.out < n) (sym long) (there_below feeds s.out s.out (are.own s.out o))) h

  stands_part : (s : Source) (part : Option ℕ) → In (sources c.cells) s → In c.routing.outputs s.out → get_or parts s.out None ≡ part → option_map (λ (x : Source). x.domain) (option_and_then (slice_get (sources c.cells)) part) ≡ Some s.domain
  stands_part s None i o at = absurd (listed_part s i o at)
  stands_part s (Some k) i o at =
      let t = outputs.known s.out k at in
      let same : t.0 ≡ s = formed.outputs.alone t.0 s (get_in (sources c.cells) k t.0 t.1.0) i t.1.1 in
      ap (option_map (λ (x : Source). x.domain)) t.1.0 ∙ ap (λ (x : Source). Some x.domain) same

  stands_feed : (w : ℕ) (d : Domain) (feed : Option ℕ) → get_or feeds w None ≡ feed → HasDomain c w d → by feed ≡ Some d
  stands_feed w d None fed has = absurd (are.unfed w fed (has.source.out, has.feeds))
  stands_feed w d (Some o) fed has =
      let same : o ≡ has.source.out = has.only o (are.fed w o fed) in
      ap (λ x. by (Some x)) same ∙ (stands_part has.source (get_or parts has.source.out None) has.listed has.feeds.output refl ∙ ap (λ x. Some x) has.domain)

  -- ---- what stands there is the domain

  is_part : (w o k : ℕ) (d : Domain) → get_or feeds w None ≡ Some o → get_or parts o None ≡ Some k → option_map (λ (x : Source). x.domain) (slice_get (sources c.cells) k) ≡ Some d → HasDomain c w d
  is_part w o k d fed at h =
      let t = outputs.known o k at in
      let f : Feeds c.routing t.0.out w = subst (λ x. Feeds c.routing x w) (sym t.1.1) (are.fed w o fed) in
      record {
        source = t.0;
        listed = get_in (sources c.cells) k t.0 t.1.0;
        feeds = f;
        only = λ x g. one_feed c.routing clean x t.0.out w g f;
        domain = some_domain t.0.domain d (sym (ap (option_map (λ (x : Source). x.domain)) t.1.0) ∙ h);
      }

  is_feed : (w o : ℕ) (d : Domain) (part : Option ℕ) → get_or feeds w None ≡ Some o → get_or parts o None ≡ part → option_map (λ (x : Source). x.domain) (option_and_then (slice_get (sources c.cells)) part) ≡ Some d → HasDomain c w d
  is_feed w o d None fed at h = absurd (none_domain d h)
  is_feed w o d (Some k) fed at h = is_part w o k d fed at h

  is_domain : (w : ℕ) (d : Domain) (feed : Option ℕ) → get_or feeds w None ≡ feed → by feed ≡ Some d → HasDomain c w d
  is_domain w d None fed h = absurd (none_domain d h)
  is_domain w d (Some o) fed h = is_feed w o d (get_or parts o None) fed refl h

  domains_told : (w : ℕ) (d : Domain) → HasDomain c w d ↔ (get_or (map by feeds) w None ≡ Some d)
  domains_told w d = (
    (λ has. get_map by feeds w None ∙ stands_feed w d (get_or feeds w None) refl has),
    (λ h. is_domain w d (get_or feeds w None) refl (sym (get_map by feeds w None) ∙ h)),
  )

-- the labels that are made are those of the circuit
pub labels_made : (cells : Cells) (feeds parts : List (Option ℕ)) (domains : List (Option Domain)) (marks : List Bool) → AreOutputs (sources cells) parts → length parts ≡ length feeds
    → domains ≡ map (domain_by (sources cells) parts) feeds → marks ≡ marks_with (replicate (length feeds) false) (pins cells) → ((p : Pin) → In (pins cells) p → p.wire < length feeds)
    → (c : Circuit) → c.cells ≡ cells → IsClean c.routing → IsWellFormed c → AreFeeds c.routing feeds → AreLabels c (record { domains = domains; is_pin = marks })
labels_made cells feeds parts domains marks outputs long domains_are marks_made within c of_cells clean formed are = record {
  domains_are = λ w d.
      let own : AreOutputs (sources c.cells) parts = subst (λ x. AreOutputs (sources x) parts) (sym of_cells) outputs in
      let same : map (domain_by (sources c.cells) parts) feeds ≡ domains = ap (λ x. map (domain_by (sources x) parts) feeds) of_cells ∙ sym domains_are in
      subst (λ xs. HasDomain c w d ↔ (get_or xs w None ≡ Some d)) same (domains_told c feeds parts clean formed are own long w d);
  pins_are = λ w. subst (λ x. (get_or marks w false ≡ true) ↔ In (map (λ p. p.wire) (pins x)) w) (sym of_cells) (marks_are (pins cells) (length feeds) marks marks_made within w);
}
