-- Links are few, and lead between parts of the cells.
use Rattle.std.proofs.Common.{◌≡◌, ℕ, zero, suc, ◌+◌, ◌-◌, ◌<◌, ◌≤◌, ◌^◌, Bool, true, false, List, [], ◌∷◌, length, get_or, take, drop, map, Option, None, Some, inl, inr, refl, sym, ap, subst, arith}
use Rattle.std.specs.Prelude.{slice_range, if◌then◌else◌}
use Rattle.std.specs.List.{All, flat_map}
use Rattle.std.proofs.lemmas.List.{length-append, length-take, take_all}
use Rattle.words.specs.Members.{In}
use Rattle.links.proofs.Members.{in_either, of_map}
use Rattle.circuit.specs.Cells.{Cells}
use Rattle.circuit.specs.Parts.{Source, sources, output_pads}
use Rattle.circuit.specs.Pins.{pad_pin, pins, source_pins}
use Rattle.circuit_parts.specs.Flat.{first_pin}
use Rattle.circuit_parts.proofs.Starts.{first_rises}
use Rattle.net_order.specs.declared.feeding.TableLink.{TableLink}
use Rattle.net_order.specs.Links.{is_table, links_from, links_into, links_of, links_with}
use Rattle.net_order.specs.Orders.{AreKnown}

into_few : (k : ℕ) (fs : List (Option ℕ)) → length (links_into k fs) ≤ length fs
into_few k [] = omega arith
into_few k (None ∷ fs) = (let rest = into_few k fs in omega arith)
into_few k (Some j ∷ fs) = (let rest = into_few k fs in omega arith)

of_few : (k : ℕ) (b : Bool) (fs : List (Option ℕ)) → length (if b then links_into k fs else []) ≤ length fs
of_few k true fs = into_few k fs
of_few k false fs = omega arith

range_few : (fs : List (Option ℕ)) (a b : ℕ) → length (slice_range fs a b) ≤ b - a
range_few fs a b = (let e = length-take (b - a) (drop a fs) in omega arith)

from_few : (cells : Cells) (feeds : List (Option ℕ)) (ss : List Source) (n : ℕ) → n + length ss ≡ length (sources cells)
    → length (links_from cells feeds n ss) + first_pin cells n ≤ first_pin cells (length (sources cells))
from_few cells feeds [] n all =
    let e : n ≡ length (sources cells) = omega arith in
    let same : first_pin cells n ≡ first_pin cells (length (sources cells)) = ap (first_pin cells) e in
    omega arith
from_few cells feeds (s ∷ ss) n all =
    let rest = from_few cells feeds ss (n + 1) (omega arith) in
    let row = slice_range feeds (first_pin cells n) (first_pin cells (n + 1)) in
    let own : length (links_of n s.kind row) ≤ length row = of_few n (is_table s.kind) row in
    let few : length row ≤ first_pin cells (n + 1) - first_pin cells n = range_few feeds (first_pin cells n) (first_pin cells (n + 1)) in
    let rises : first_pin cells n ≤ first_pin cells (n + 1) = first_rises cells n (omega arith) in
    let parts = length-append (links_of n s.kind row) (links_from cells feeds (n + 1) ss) in
    omega arith

last_first : (cells : Cells) → first_pin cells (length (sources cells)) ≤ length (pins cells)
last_first cells =
    let whole : first_pin cells (length (sources cells)) ≡ length (flat_map source_pins (sources cells)) = ap (λ ss. length (flat_map source_pins ss)) (take_all (length (sources cells)) (sources cells) (omega arith)) in
    let parts = length-append (flat_map source_pins (sources cells)) (map pad_pin (output_pads cells)) in
    omega arith

-- there are no more links than pins
pub links_few : (cells : Cells) (feeds : List (Option ℕ)) (links : List TableLink) → links ≡ links_with cells feeds → length (pins cells) < 2 ^ 32 → length links < 2 ^ 32
links_few cells feeds links is few =
    let all = from_few cells feeds (sources cells) 0 (omega arith) in
    let most = last_first cells in
    let size : length links ≡ length (links_with cells feeds) = ap (λ xs. length xs) is in
    omega arith

-- ---- ends

in_drop : {X : Type 0} (n : ℕ) (xs : List X) (x : X) → In (drop n xs) x → In xs x
in_drop zero xs x i = i
in_drop (suc n) [] x i = i
in_drop (suc n) (y ∷ xs) x i = inr (in_drop n xs x i)

in_take : {X : Type 0} (n : ℕ) (xs : List X) (x : X) → In (take n xs) x → In xs x
in_take zero xs x i = absurd i
in_take (suc n) [] x i = i
in_take (suc n) (y ∷ xs) x i = elim i [ inl e ↦ inl e | inr j ↦ inr (in_take n xs x j) ]

pub of_into : (k : ℕ) (fs : List (Option ℕ)) (l : TableLink) → In (links_into k fs) l → In fs (Some l.source) × (l.table ≡ k)
of_into k [] l i = absurd i
of_into k (None ∷ fs) l i = (let r = of_into k fs l i in (inr r.0, r.1))
of_into k (Some j ∷ fs) l i = elim i [
  | inl e ↦ (inl (ap (λ (x : TableLink). Some x.source) e), ap (λ (x : TableLink). x.table) (sym e))
  | inr h ↦ (let r = of_into k fs l h in (inr r.0, r.1))
]

of_kind : (k : ℕ) (b : Bool) (fs : List (Option ℕ)) (l : TableLink) → In (if b then links_into k fs else []) l → In fs (Some l.source) × (l.table ≡ k)
of_kind k true fs l i = of_into k fs l i
of_kind k false fs l i = absurd i

ends_from : (cells : Cells) (feeds : List (Option ℕ)) (ss : List Source) (n : ℕ) (l : TableLink) → In (links_from cells feeds n ss) l → In feeds (Some l.source) × (l.table < n + length ss)
ends_from cells feeds [] n l i = absurd i
ends_from cells feeds (s ∷ ss) n l i =
    let row = slice_range feeds (first_pin cells n) (first_pin cells (n + 1)) in
    elim (in_either (links_of n s.kind row) (links_from cells feeds (n + 1) ss) l i) [
      | inl j ↦ (
          let r = of_kind n (is_table s.kind) row l j in
          let is : l.table ≡ n = r.1 in
          (in_drop (first_pin cells n) feeds (Some l.source) (in_take (first_pin cells (n + 1) - first_pin cells n) (drop (first_pin cells n) feeds) (Some l.source) r.0), (let h : l.table < n + suc (length ss) = omega arith in h))
          )
      | inr j ↦ (let r = ends_from cells feeds ss (n + 1) l j in let below = r.1 in (r.0, (let h : l.table < n + suc (length ss) = omega arith in h)))
    ]

there : (xs : List ℕ) (k d : ℕ) → k < length xs → In xs (get_or xs k d)
there [] k d h = absurd (omega arith)
there (x ∷ xs) zero d h = inl refl
there (x ∷ xs) (suc k) d h = inr (there xs k d (omega arith))

-- links lead from parts of the cells
pub sources_within : (cells : Cells) (feeds : List (Option ℕ)) (links : List TableLink) (nodes : List ℕ) (count : ℕ) → AreKnown cells feeds → links ≡ links_with cells feeds → nodes ≡ map (λ l. l.source) links → count ≡ length (sources cells)
    → All (λ node. node < count) nodes
sources_within cells feeds links nodes count known is made many = λ k d below.
    let at : In nodes (get_or nodes k d) = there nodes k d below in
    let l = of_map (λ (x : TableLink). x.source) links (get_or nodes k d) (subst (λ xs. In xs (get_or nodes k d)) made at) in
    let ends = ends_from cells feeds (sources cells) 0 l.0 (subst (λ xs. In xs l.0) is l.1.0) in
    let less : l.0.source < length (sources cells) = known l.0.source ends.0 in
    let same : l.0.source ≡ get_or nodes k d = l.1.1 in
    omega arith

-- they lead into parts of the cells
pub tables_within : (cells : Cells) (feeds : List (Option ℕ)) (links : List TableLink) (nodes : List ℕ) (count : ℕ) → links ≡ links_with cells feeds → nodes ≡ map (λ l. l.table) links → count ≡ length (sources cells)
    → All (λ node. node < count) nodes
tables_within cells feeds links nodes count is made many = λ k d below.
    let at : In nodes (get_or nodes k d) = there nodes k d below in
    let l = of_map (λ (x : TableLink). x.table) links (get_or nodes k d) (subst (λ xs. In xs (get_or nodes k d)) made at) in
    let ends = ends_from cells feeds (sources cells) 0 l.0 (subst (λ xs. In xs l.0) is l.1.0) in
    let less : l.0.table < 0 + length (sources cells) = ends.1 in
    let same : l.0.table ≡ get_or nodes k d = l.1.1 in
    omega arith
