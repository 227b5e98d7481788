use Rattle.std.proofs.Common.{◌≡◌, ◌∙◌, get_or, ap, of_calls, rules}
use Rattle.std.specs.Prelude.{slice_get}
use Rattle.std.specs.Ordering.{ordering_index}
use Rattle.std.specs.declared.cmp.Ordering.TheVariants.{Less, Equal, Greater}
use Rattle.std.specs.List.Sorted.{IsNonDecreasingBy, IsPartitionPoint}
use Rattle.std.proofs.lemmas.Fn.{always_returns_same}
use Rattle.graph_lists.specs.ArcLists.{ArcNumbers, numbers_cmp}
use Rattle.arc_search.proofs.Found.{found, not_found}
use Rattle.arc_search.proofs.search.number_of.Goals as goal

pub returns-in-Ok : goal.returns-in-Ok
returns-in-Ok c = λ rising.
    let arcs = c.args.arcs.now in
    let key = c.args.key.now in
    let equal : (d : ArcNumbers) → numbers_cmp (get_or arcs c.in-Ok.number d) key ≡ Equal = c.in-Ok.ensures.position (λ a. numbers_cmp a key) (always_returns_same _ _ _ (λ a r f called. search (rules, of_calls))) in
    ap (slice_get arcs) c.from_u32.ensures ∙ found arcs key c.in-Ok.number c.in-Ok.ensures.bound equal

pub returns-in-Err : goal.returns-in-Err
returns-in-Err c = λ rising.
    let arcs = c.args.arcs.now in
    let key = c.args.key.now in
    let split : IsNonDecreasingBy (λ y. ordering_index (numbers_cmp y key)) arcs → IsPartitionPoint (λ y. numbers_cmp y key ≡ Less) (λ y. numbers_cmp y key ≡ Greater) arcs c.in-Err.field-0 =
    c.in-Err.ensures.position (λ a. numbers_cmp a key) (always_returns_same _ _ _ (λ a r f called. search (rules, of_calls))) in
    not_found arcs key c.in-Err.field-0 split rising
