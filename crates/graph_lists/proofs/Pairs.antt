-- Links by their sources and by their sinks.
use Rattle.std.proofs.Common.{◌≡◌, ℕ, List, filter, refl, sym, ap, subst, ◌∙◌}
use Rattle.std.specs.Prelude.{◌==◌}
use Rattle.std.specs.Ordering.{nat_cmp, ordering_then}
use Rattle.std.specs.declared.cmp.Ordering.{Ordering}
use Rattle.std.specs.declared.cmp.Ordering.TheVariants.{Less, Equal, Greater}
use Rattle.std.proofs.lemmas.Bool.{eqb-true, eq-eqb}
use Rattle.words.specs.Members.{In}
use Rattle.links.specs.Links.{Link}
use Rattle.links.proofs.Members.{in_map, of_map}
use Rattle.fabric.specs.InOrder.{IsRising}
use Rattle.fabric.specs.GraphOf.{link_cmp}
use Rattle.fabric_laws.proofs.Members.{in_filter_from, in_filter_to}
use Rattle.graph_lists.specs.FixedLists.{links_from, links_into}
use Rattle.graph_lists.proofs.Listed.{rising_map_filter, equal_is}

abbrev link : ℕ → ℕ → Link
link x w = record { source = x; sink = w }

pub from_is : (links : List Link) (x w : ℕ) → In (links_from links x) w → In links (link x w)
from_is links x w i =
    let found = of_map (λ (l : Link). l.sink) (filter (λ l. l.source == x) links) w i in
    let passes = in_filter_from (λ (l : Link). l.source == x) links found.0 found.1.0 in
    let source : found.0.source ≡ x = eqb-true found.0.source x passes.1 in
    let sink : found.0.sink ≡ w = found.1.1 in
    let same : found.0 ≡ link x w = λ j. record { source = source j; sink = sink j } in
    subst (In links) same passes.0

pub from_has : (links : List Link) (x w : ℕ) → In links (link x w) → In (links_from links x) w
from_has links x w i =
    in_map (λ (l : Link). l.sink) (filter (λ l. l.source == x) links) (link x w) (in_filter_to (λ (l : Link). l.source == x) links (link x w) i (eq-eqb x x refl))

pub into_is : (links : List Link) (x w : ℕ) → In (links_into links w) x → In links (link x w)
into_is links x w i =
    let found = of_map (λ (l : Link). l.source) (filter (λ l. l.sink == w) links) x i in
    let passes = in_filter_from (λ (l : Link). l.sink == w) links found.0 found.1.0 in
    let sink : found.0.sink ≡ w = eqb-true found.0.sink w passes.1 in
    let source : found.0.source ≡ x = found.1.1 in
    let same : found.0 ≡ link x w = λ j. record { source = source j; sink = sink j } in
    subst (In links) same passes.0

pub into_has : (links : List Link) (x w : ℕ) → In links (link x w) → In (links_into links w) x
into_has links x w i =
    in_map (λ (l : Link). l.source) (filter (λ l. l.sink == w) links) (link x w) (in_filter_to (λ (l : Link). l.sink == w) links (link x w) i (eq-eqb w w refl))

-- the second of two orders decides where the first ties, and the first where the second does
pub second_less : (a b : Ordering) → a ≡ Equal → ordering_then a b ≡ Less → b ≡ Less
second_less a b e h = sym (ap (λ o. ordering_then o b) e) ∙ h

first_by_cases : (a : Ordering) → ordering_then a Equal ≡ Less → a ≡ Less
first_by_cases Less h = refl
first_by_cases Equal h = absurd (let no : ⊥ = cc in no)
first_by_cases Greater h = absurd (let no : ⊥ = cc in no)

pub first_less : (a b : Ordering) → b ≡ Equal → ordering_then a b ≡ Less → a ≡ Less
first_less a b e h = first_by_cases a (sym (ap (λ o. ordering_then a o) e) ∙ h)

pub from_rises : (links : List Link) (w : ℕ) → IsRising link_cmp links → IsRising nat_cmp (links_from links w)
from_rises links w rising =
    rising_map_filter link_cmp nat_cmp (λ (l : Link). l.source == w) (λ (l : Link). l.sink)
    (λ a b here there less. first_less (nat_cmp a.sink b.sink) (nat_cmp a.source b.source) (equal_is a.source b.source (eqb-true a.source w here ∙ sym (eqb-true b.source w there))) less)
    links rising

pub into_rises : (links : List Link) (w : ℕ) → IsRising link_cmp links → IsRising nat_cmp (links_into links w)
into_rises links w rising =
    rising_map_filter link_cmp nat_cmp (λ (l : Link). l.sink == w) (λ (l : Link). l.source)
    (λ a b here there less. second_less (nat_cmp a.sink b.sink) (nat_cmp a.source b.source) (equal_is a.sink b.sink (eqb-true a.sink w here ∙ sym (eqb-true b.sink w there))) less)
    links rising
