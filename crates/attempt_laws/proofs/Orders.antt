-- Connections and sites are in total orders, so that a list of given connections in order is one list, and of two
-- sites neither of which comes after the other the names are the same.
use Rattle.std.proofs.Common.{◌≡◌, ◌≢◌, ◌↔◌, List, refl}
use Rattle.std.specs.declared.cmp.Ordering.{Ordering}
use Rattle.std.specs.declared.cmp.Ordering.TheVariants.{Less, Equal, Greater}
use Rattle.std.specs.Ordering.{nat_cmp, ordering_then, ordering_reverse}
use Rattle.std.specs.Cmp.{IsTotalOrder, nat_cmp_total, on_total, then_total}
use Rattle.std.specs.Cmp.Lexicographic.{nat_list_cmp_total}
use Rattle.words.specs.Members.{In}
use Rattle.records.specs.Profile.{SliceKind}
use Rattle.fabric.specs.InOrder.{IsRising}
use Rattle.fabric.specs.Wires.{name_cmp}
use Rattle.circuit.specs.Cells.{Cells}
use Rattle.circuit.specs.Circuits.{Connection}
use Rattle.cells.specs.Sites.{Site}
use Rattle.attempts.specs.PinOrder.{rank_of, number_of, part_cmp, pin_cmp}
use Rattle.attempts.specs.Wires.{net_wire, pin_wire, connection_cmp}
use Rattle.attempts.specs.Candidates.{place_of, distance, site_cmp}
use Rattle.fabric_laws.proofs.Orders.{first_ties, second_ties, name_same}
use Rattle.fabric_laws.proofs.Sorted.{determined}

pub part_total : IsTotalOrder part_cmp
part_total = then_total (on_total (λ p. p.cell) nat_list_cmp_total) (then_total (on_total (λ p. rank_of p.part) nat_cmp_total) (on_total (λ p. number_of p.part) nat_cmp_total))

pub pin_total : IsTotalOrder pin_cmp
pin_total = then_total (on_total (λ p. p.part) part_total) (on_total (λ p. p.pin) nat_cmp_total)

connection_total : (cells : Cells) → IsTotalOrder (connection_cmp cells)
connection_total cells = then_total (on_total (net_wire cells) nat_cmp_total) (then_total (on_total (pin_wire cells) nat_cmp_total) (on_total (λ x. x.pin) pin_total))

-- two lists in order of the connections that have a property are one
pub one_order : (cells : Cells) (Has : Connection → Type 0) (xs ys : List Connection) → IsRising (connection_cmp cells) xs → IsRising (connection_cmp cells) ys
    → ((x : Connection) → In xs x ↔ Has x) → ((x : Connection) → In ys x ↔ Has x) → xs ≡ ys
one_order cells Has xs ys p q f g = determined (connection_cmp cells) (connection_total cells) xs ys p q (λ x i. (g x).1 ((f x).0 i)) (λ x i. (f x).1 ((g x).0 i))

site_total : (from : Site SliceKind) → IsTotalOrder (site_cmp from)
site_total from =
    then_total (on_total (λ s. distance from.tile s.tile) nat_cmp_total)
    (then_total (on_total (λ s. (place_of s.tile).0) nat_cmp_total)
    (then_total (on_total (λ s. (place_of s.tile).1) nat_cmp_total)
    (then_total (on_total (λ s. s.kind.name) nat_list_cmp_total) (on_total (λ s. s.tile.name) nat_list_cmp_total))))

neither_greater : (a b : Ordering) → a ≡ ordering_reverse b → a ≢ Greater → b ≢ Greater → a ≡ Equal
neither_greater Less Less e p q = absurd (let no : ⊥ = cc in no)
neither_greater Less Equal e p q = absurd (let no : ⊥ = cc in no)
neither_greater Less Greater e p q = absurd (q refl)
neither_greater Equal b e p q = refl
neither_greater Greater b e p q = absurd (p refl)

-- what two sites have in common that tie
pub record SameNames (a b : Site SliceKind) : Type 0 where
  pub tile : a.tile.name ≡ b.tile.name
  pub kind : a.kind.name ≡ b.kind.name

-- of sites of which neither comes after the other, the tile and the kind have the same names
pub same_names : (from a b : Site SliceKind) → site_cmp from a b ≢ Greater → site_cmp from b a ≢ Greater → SameNames a b
same_names from a b p q =
    let kinds = name_cmp a.kind.name b.kind.name in
    let tiles = name_cmp a.tile.name b.tile.name in
    let names = ordering_then kinds tiles in
    let column = nat_cmp (place_of a.tile).1 (place_of b.tile).1 in
    let row = nat_cmp (place_of a.tile).0 (place_of b.tile).0 in
    let far = nat_cmp (distance from.tile a.tile) (distance from.tile b.tile) in
    let tie = neither_greater (site_cmp from a b) (site_cmp from b a) ((site_total from).antisymm a b) p q in
    let named = second_ties column names (second_ties row (ordering_then column names) (second_ties far (ordering_then row (ordering_then column names)) tie)) in
    record { tile = name_same a.tile.name b.tile.name (second_ties kinds tiles named); kind = name_same a.kind.name b.kind.name (first_ties kinds tiles named) }
