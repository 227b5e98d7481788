-- What is refused of a graph, from counts.
use Rattle.std.proofs.Common.{◌≡◌, ◌≢◌, ℕ, ◌<◌, ◌≤◌, List, map, flat_map, length, count_by, nat_eq, nat_cmp, slice_get, Option, None, Some, refl, sym, ap, subst, ◌∙◌, inl, inr, arith}
use Rattle.std.specs.declared.cmp.Ordering.TheVariants.{Less, Equal, Greater}
use Rattle.std.proofs.lemmas.Bool.{cases_lt, le-ltb, lt-ltb}
use Rattle.std.proofs.lemmas.List.{length-map}
use Rattle.words.specs.Members.{In}
use Rattle.words.specs.Firsts.{or_else}
use Rattle.links.proofs.Members.{in_map, of_map}
use Rattle.records.specs.Limits.{Limit, Wires, Muxes, Arcs, most_wires, most_muxes, most_arcs, limit_name}
use Rattle.fabric.specs.InOrder.{InOrderOnce}
use Rattle.fabric.specs.Wires.{Wire, wire_cmp}
use Rattle.fabric.specs.Device.{Device}
use Rattle.fabric.specs.TileWires.{tile_wires}
use Rattle.fabric.specs.Graph.{Graph, GraphArc}
use Rattle.fabric.specs.GraphOf.{IsGraph, arc_cmp, arcs_of, muxes_of, outputs_of}
use Rattle.fabric_laws.proofs.Orders.{wire_total}
use Rattle.fabric_laws.proofs.Sorted.{one_list}
use Rattle.graph_lists.specs.ArcLists.{ArcNumbers, mux_order, numbers_of}
use Rattle.graph_lists.proofs.Fewer.{not_more}
use Rattle.graph_lists.proofs.Listed.{equal_is}
use Rattle.row_laws.proofs.MuxOrder.{in_mux_order}
use Rattle.graph_numbers.specs.Numbers.{mux_numbers}
use Rattle.graph_numbers.specs.StandFor.{mux_of, arc_of, arc_numbers}
use Rattle.graph_numbers.specs.Graphs.{GraphNumbers, graph_with, AreGraphNumbers}
use Rattle.graph_numbers.proofs.Numbered.{muxes_stand, arcs_stand}
use Rattle.graph_numbers.proofs.Whole.{whole}
use Rattle.number_lists.proofs.Views.{kept, arcs_counted, muxes_counted}
use Rattle.fabric_laws.proofs.Graphs.{one_graph}
use Rattle.answers.specs.Refusals.{Refusal, TooLarge}
use Rattle.design_checks.specs.GraphChecks.{Overlap, overlap, graph_name, graph_size_refusal, size_refusal}
use Rattle.link_rows.specs.Kept.{IsFirstTwice}
use Rattle.size_laws.specs.Sizes.{AreWiresOf, IsTooLarge, IsSmall, OverlapsAt, OverlapsNowhere}

refused : (limit : Limit) (most count : ℕ) → most < count → size_refusal limit most count ≡ Some (TooLarge graph_name (limit_name limit))
refused limit most count l = rw (lt-ltb most count l) refl

passed : (limit : Limit) (most count : ℕ) → count ≤ most → size_refusal limit most count ≡ None
passed limit most count l = rw (le-ltb most count l) refl

-- the first that is refused decides
abbrev in_row : Option Refusal → Option Refusal → Option Refusal → Option Refusal
in_row a b c = or_else a (or_else b c)

-- the graph of a device has its wires
same_wires : (device : Device) (wires : List Wire) (g : Graph) → AreWiresOf device wires → IsGraph device g → g.wires ≡ wires
same_wires device wires g are is = one_list wire_cmp wire_total (flat_map (tile_wires device) device.grid.tiles) g.wires wires is.wires are

mux_count : (device : Device) (wires : List Wire) → length (mux_numbers device wires) ≡ length (muxes_of device wires)
mux_count device wires =
    sym (length-map (mux_numbers device wires) (mux_of device))
    ∙ (ap (λ xs. length xs) (muxes_stand device wires) ∙ length-map (muxes_of device wires) (λ m. Some m))

arc_count : (device : Device) (wires : List Wire) → length (arc_numbers device wires (muxes_of device wires)) ≡ length (arcs_of device wires)
arc_count device wires =
    sym (length-map (arc_numbers device wires (muxes_of device wires)) (arc_of (muxes_of device wires)))
    ∙ (ap (λ xs. length xs) (arcs_stand device wires) ∙ length-map (arcs_of device wires) (λ a. Some a))

tied : (a : ArcNumbers) → mux_order a a ≡ Equal
tied a = rw (equal_is a.mux a.mux refl, equal_is a.place a.place refl) refl

-- in arc order there are as many arcs as in mux order
no_fewer : (device : Device) (wires : List Wire) (arcs : List GraphArc) → InOrderOnce arc_cmp (arcs_of device wires) arcs → length (arcs_of device wires) ≤ length arcs
no_fewer device wires arcs are =
    let same : InOrderOnce mux_order (map numbers_of arcs) (map numbers_of (arcs_of device wires)) = record {
      rising = in_mux_order device wires;
      members = λ x. (
        (λ i. let f = of_map numbers_of (arcs_of device wires) x i in subst (In (map numbers_of arcs)) f.1.1 (in_map numbers_of arcs f.0 ((are.members f.0).1 f.1.0))),
        (λ i. let f = of_map numbers_of arcs x i in subst (In (map numbers_of (arcs_of device wires))) f.1.1 (in_map numbers_of (arcs_of device wires) f.0 ((are.members f.0).0 f.1.0))),
      );
    } in
    let less = not_more mux_order tied (map numbers_of arcs) (map numbers_of (arcs_of device wires)) same in
    let first = length-map arcs numbers_of in
    let second = length-map (arcs_of device wires) numbers_of in
    omega arith

mux_long : (device : Device) (wires : List Wire) (g : Graph) → AreWiresOf device wires → IsGraph device g → length g.muxes ≡ length (mux_numbers device wires)
mux_long device wires g are is = ap (λ ms. length ms) (is.muxes ∙ ap (muxes_of device) (same_wires device wires g are is)) ∙ sym (mux_count device wires)

pub wires_refuse : (device : Device) (wires : List Wire) → AreWiresOf device wires → most_wires < length wires → IsTooLarge device Wires
wires_refuse device wires are many g is =
    let l = ap (λ ws. length ws) (same_wires device wires g are is) in
    ap (λ o. in_row o (size_refusal Muxes most_muxes (length g.muxes)) (size_refusal Arcs most_arcs (length g.arcs))) (refused Wires most_wires (length g.wires) (subst (λ n. most_wires < n) (sym l) many))

pub muxes_refuse : (device : Device) (wires : List Wire) → AreWiresOf device wires → length wires ≤ most_wires → most_muxes < length (mux_numbers device wires) → IsTooLarge device Muxes
muxes_refuse device wires are few many g is =
    let l = ap (λ ws. length ws) (same_wires device wires g are is) in
    let m = mux_long device wires g are is in
    ap (λ o. in_row o (size_refusal Muxes most_muxes (length g.muxes)) (size_refusal Arcs most_arcs (length g.arcs))) (passed Wires most_wires (length g.wires) (subst (λ n. n ≤ most_wires) (sym l) few))
    ∙ ap (λ o. in_row None o (size_refusal Arcs most_arcs (length g.arcs))) (refused Muxes most_muxes (length g.muxes) (subst (λ n. most_muxes < n) (sym m) many))

more_arcs : (device : Device) (wires : List Wire) (most : ℕ) (g : Graph) → AreWiresOf device wires → IsGraph device g → most < length (arc_numbers device wires (muxes_of device wires)) → most < length g.arcs
more_arcs device wires most g are is many =
    let same = same_wires device wires g are is in
    let fewer = no_fewer device wires g.arcs (subst (λ ws. InOrderOnce arc_cmp (arcs_of device ws) g.arcs) same is.arcs) in
    let count = arc_count device wires in
    omega arith

pub arcs_refuse : (device : Device) (wires : List Wire) → AreWiresOf device wires → length wires ≤ most_wires → length (mux_numbers device wires) ≤ most_muxes
    → most_arcs < length (arc_numbers device wires (muxes_of device wires)) → IsTooLarge device Arcs
arcs_refuse device wires are few fewer many g is =
    let l = ap (λ ws. length ws) (same_wires device wires g are is) in
    let m = mux_long device wires g are is in
    ap (λ o. in_row o (size_refusal Muxes most_muxes (length g.muxes)) (size_refusal Arcs most_arcs (length g.arcs))) (passed Wires most_wires (length g.wires) (subst (λ n. n ≤ most_wires) (sym l) few))
    ∙ (ap (λ o. in_row None o (size_refusal Arcs most_arcs (length g.arcs))) (passed Muxes most_muxes (length g.muxes) (subst (λ n. n ≤ most_muxes) (sym m) fewer))
    ∙ ap (λ o. in_row None None o) (refused Arcs most_arcs (length g.arcs) (more_arcs device wires most_arcs g are is many)))

all_passed : (g : Graph) → length g.wires ≤ most_wires → length g.muxes ≤ most_muxes → length g.arcs ≤ most_arcs → graph_size_refusal g ≡ None
all_passed g wires muxes arcs =
    ap (λ o. in_row o (size_refusal Muxes most_muxes (length g.muxes)) (size_refusal Arcs most_arcs (length g.arcs))) (passed Wires most_wires (length g.wires) wires)
    ∙ (ap (λ o. in_row None o (size_refusal Arcs most_arcs (length g.arcs))) (passed Muxes most_muxes (length g.muxes) muxes)
    ∙ ap (λ o. in_row None None o) (passed Arcs most_arcs (length g.arcs) arcs))

pub none_refuses : (device : Device) (n : GraphNumbers) → AreGraphNumbers device n → length n.wires ≤ most_wires → length n.muxes ≤ most_muxes → length n.arcs ≤ most_arcs → IsSmall device
none_refuses device n are wires muxes arcs g is =
    let k = kept device n are in
    let made = graph_with device n in
    let one : made ≡ g = one_graph device made g (whole device n are) is in
    subst (λ (x : Graph). graph_size_refusal x ≡ None) one
    (all_passed made wires (subst (λ l. l ≤ most_muxes) (sym (muxes_counted device n made k)) muxes) (subst (λ l. l ≤ most_arcs) (sym (arcs_counted device n made k)) arcs))

not_greater : (a b : ℕ) → a ≤ b → nat_cmp a b ≢ Greater
not_greater a b l e = elim (cases_lt a b) [
  | inl less ↦ (let k : nat_cmp a b ≡ Less = rw (lt-ltb a b less) refl in let no : ⊥ = cc in no)
  | inr more ↦ (let k : nat_cmp a b ≡ Equal = equal_is a b (omega arith) in let no : ⊥ = cc in no)
]

pub twice_overlaps : (device : Device) (wires : List Wire) (w : ℕ) (wire : Wire) → AreWiresOf device wires → IsFirstTwice (outputs_of device wires) w → slice_get wires w ≡ Some wire → OverlapsAt device wire
twice_overlaps device wires w wire are first there g is =
    let same = sym (same_wires device wires g are is) in
    overlap w wire
    (record {
      has = subst (λ ws. 2 ≤ count_by (nat_eq w) (outputs_of device ws)) same first.twice;
      least = λ y has. not_greater w y (elim (cases_lt y w) [
        | inl lower ↦ absurd (let f = first.first y lower in let h : 2 ≤ count_by (nat_eq y) (outputs_of device wires) = subst (λ ws. 2 ≤ count_by (nat_eq y) (outputs_of device ws)) (sym same) has in omega arith)
        | inr l ↦ l
      ]);
    })
    (ap (λ ws. slice_get ws w) (sym same) ∙ there)

pub once_does_not : (device : Device) (wires : List Wire) → AreWiresOf device wires → ((w : ℕ) → count_by (nat_eq w) (outputs_of device wires) < 2) → OverlapsNowhere device
once_does_not device wires are once g is r o = go o
  where
    go : {s : Refusal} → Overlap device g s → ⊥
    go (overlap w wire least there) =
        let f = once w in
        let h : 2 ≤ count_by (nat_eq w) (outputs_of device wires) = subst (λ ws. 2 ≤ count_by (nat_eq w) (outputs_of device ws)) (same_wires device wires g are is) least.has in
        omega arith
