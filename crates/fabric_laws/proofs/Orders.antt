-- The orders of wires, links and arcs are total.
use Rattle.std.proofs.Common.{◌≡◌, ℕ, ℤ, true, List, refl, ap}
use Rattle.std.specs.declared.cmp.Ordering.{Ordering}
use Rattle.std.specs.declared.cmp.Ordering.TheVariants.{Less, Equal, Greater}
use Rattle.std.specs.Ordering.{nat_cmp, int_cmp, ordering_then, ordering_reverse, on, then_cmp, is_eq}
use Rattle.std.specs.Cmp.{IsTotalOrder, nat_cmp_total, int_cmp_total, on_total, then_total, tied_itself}
use Rattle.std.specs.Cmp.Lexicographic.{nat_list_cmp_total}
use Rattle.std.specs.FinMap.{nat_cmp-IsAntisymmetric, int_cmp-IsAntisymmetric, slice_cmp-IsAntisymmetric}
use Rattle.std.proofs.lemmas.Bool.{false≢true}
use Rattle.links.specs.Links.{Link}
use Rattle.fabric.specs.Wires.{Wire, Local, Wide, name_cmp, wire_cmp, same_wire}
use Rattle.fabric.specs.Graph.{GraphArc}
use Rattle.fabric.specs.GraphOf.{arc_cmp, link_cmp}

-- a row, a column and a base
record Spot : Type 0 where
  row : ℤ
  column : ℤ
  base : List ℕ

abbrev spot_cmp : Spot → Spot → Ordering
spot_cmp = then_cmp (on (λ s. s.row) int_cmp) (then_cmp (on (λ s. s.column) int_cmp) (on (λ s. s.base) name_cmp))

spot_total : IsTotalOrder spot_cmp
spot_total = then_total (on_total (λ s. s.row) int_cmp_total) (then_total (on_total (λ s. s.column) int_cmp_total) (on_total (λ s. s.base) nat_list_cmp_total))

abbrev spot : ℤ → ℤ → List ℕ → Spot
spot row column base = record { row = row; column = column; base = base }

wire_turn : (x y : Wire) → wire_cmp x y ≡ ordering_reverse (wire_cmp y x)
wire_turn (Local r c b) (Local r' c' b') = spot_total.antisymm (spot r c b) (spot r' c' b')
wire_turn (Local r c b) (Wide b') = refl
wire_turn (Wide b) (Local r' c' b') = refl
wire_turn (Wide b) (Wide b') = nat_list_cmp_total.antisymm b b'

wire_trans : (x y z : Wire) → wire_cmp x y ≡ Less → wire_cmp y z ≡ Less → wire_cmp x z ≡ Less
wire_trans (Local r c b) (Local r' c' b') (Local r'' c'' b'') p q = spot_total.trans (spot r c b) (spot r' c' b') (spot r'' c'' b'') p q
wire_trans (Local r c b) (Local r' c' b') (Wide b'') p q = refl
wire_trans (Local r c b) (Wide b') (Local r'' c'' b'') p q = absurd (let no : ⊥ = cc in no)
wire_trans (Local r c b) (Wide b') (Wide b'') p q = refl
wire_trans (Wide b) (Local r' c' b') z p q = absurd (let no : ⊥ = cc in no)
wire_trans (Wide b) (Wide b') (Local r'' c'' b'') p q = absurd (let no : ⊥ = cc in no)
wire_trans (Wide b) (Wide b') (Wide b'') p q = nat_list_cmp_total.trans b b' b'' p q

wire_alike : (x y z : Wire) → wire_cmp x y ≡ Equal → wire_cmp x z ≡ wire_cmp y z
wire_alike (Local r c b) (Local r' c' b') (Local r'' c'' b'') p = spot_total.congr (spot r c b) (spot r' c' b') (spot r'' c'' b'') p
wire_alike (Local r c b) (Local r' c' b') (Wide b'') p = refl
wire_alike (Local r c b) (Wide b') z p = absurd (let no : ⊥ = cc in no)
wire_alike (Wide b) (Local r' c' b') z p = absurd (let no : ⊥ = cc in no)
wire_alike (Wide b) (Wide b') (Local r'' c'' b'') p = refl
wire_alike (Wide b) (Wide b') (Wide b'') p = nat_list_cmp_total.congr b b' b'' p

pub wire_total : IsTotalOrder wire_cmp
wire_total = record { antisymm = wire_turn; trans = wire_trans; congr = wire_alike }

-- two orders one after the other tie where both do
pub first_ties : (a b : Ordering) → ordering_then a b ≡ Equal → a ≡ Equal
first_ties Less b h = absurd (let no : ⊥ = cc in no)
first_ties Equal b h = refl
first_ties Greater b h = absurd (let no : ⊥ = cc in no)

pub second_ties : (a b : Ordering) → ordering_then a b ≡ Equal → b ≡ Equal
second_ties Less b h = absurd (let no : ⊥ = cc in no)
second_ties Equal b h = h
second_ties Greater b h = absurd (let no : ⊥ = cc in no)

pub name_same : (a b : List ℕ) → name_cmp a b ≡ Equal → a ≡ b
name_same = slice_cmp-IsAntisymmetric nat_cmp-IsAntisymmetric

pub wire_same : (x y : Wire) → wire_cmp x y ≡ Equal → x ≡ y
wire_same (Local r c b) (Local r' c' b') h =
    let rows = int_cmp-IsAntisymmetric r r' (first_ties (int_cmp r r') (ordering_then (int_cmp c c') (name_cmp b b')) h) in
    let rest = second_ties (int_cmp r r') (ordering_then (int_cmp c c') (name_cmp b b')) h in
    let columns = int_cmp-IsAntisymmetric c c' (first_ties (int_cmp c c') (name_cmp b b') rest) in
    let bases = name_same b b' (second_ties (int_cmp c c') (name_cmp b b') rest) in
    λ i. Local (rows i) (columns i) (bases i)
wire_same (Local r c b) (Wide b') h = absurd (let no : ⊥ = cc in no)
wire_same (Wide b) (Local r' c' b') h = absurd (let no : ⊥ = cc in no)
wire_same (Wide b) (Wide b') h = ap (λ t. Wide t) (name_same b b' h)

is_equal : (o : Ordering) → is_eq o ≡ true → o ≡ Equal
is_equal Less h = absurd (false≢true h)
is_equal Equal h = refl
is_equal Greater h = absurd (false≢true h)

pub same_wire_is : (x y : Wire) → same_wire x y ≡ true → x ≡ y
same_wire_is x y h = wire_same x y (is_equal (wire_cmp x y) h)

pub same_wire_refl : (x : Wire) → same_wire x x ≡ true
same_wire_refl x = ap is_eq (tied_itself wire_total x)

pub link_total : IsTotalOrder link_cmp
link_total = then_total (on_total (λ l. l.sink) nat_cmp_total) (on_total (λ l. l.source) nat_cmp_total)

pub link_same : (a b : Link) → link_cmp a b ≡ Equal → a ≡ b
link_same a b h =
    let sinks = nat_cmp-IsAntisymmetric a.sink b.sink (first_ties (nat_cmp a.sink b.sink) (nat_cmp a.source b.source) h) in
    let sources = nat_cmp-IsAntisymmetric a.source b.source (second_ties (nat_cmp a.sink b.sink) (nat_cmp a.source b.source) h) in
    λ i. record { source = sources i; sink = sinks i }

pub arc_total : IsTotalOrder arc_cmp
arc_total = then_total (on_total (λ a. a.sink) nat_cmp_total) (then_total (on_total (λ a. a.source) nat_cmp_total)
    (then_total (on_total (λ a. a.mux) nat_cmp_total) (on_total (λ a. a.place) nat_cmp_total)))

-- arcs that tie are one arc's place in one mux
pub record OnePlace (a b : GraphArc) : Type 0 where
  pub mux : a.mux ≡ b.mux
  pub place : a.place ≡ b.place

pub arc_ties : (a b : GraphArc) → arc_cmp a b ≡ Equal → OnePlace a b
arc_ties a b h =
    let muxes = ordering_then (nat_cmp a.mux b.mux) (nat_cmp a.place b.place) in
    let sources = ordering_then (nat_cmp a.source b.source) muxes in
    let behind_sink = second_ties (nat_cmp a.sink b.sink) sources h in
    let behind_source = second_ties (nat_cmp a.source b.source) muxes behind_sink in
    record {
      mux = nat_cmp-IsAntisymmetric a.mux b.mux (first_ties (nat_cmp a.mux b.mux) (nat_cmp a.place b.place) behind_source);
      place = nat_cmp-IsAntisymmetric a.place b.place (second_ties (nat_cmp a.mux b.mux) (nat_cmp a.place b.place) behind_source);
    }
