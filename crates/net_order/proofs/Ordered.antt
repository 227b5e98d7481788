-- Orders along links, by both ends of the links.
use Rattle.std.proofs.Common.{◌≡◌, ℕ, List, map, Option, Result, Ok, Err, sym, subst}
use Rattle.std.specs.Prelude.{slice_index, IfOk, MatchResult}
use Rattle.words.specs.Members.{In}
use Rattle.links.specs.Links.{Reaches, here, onto}
use Rattle.circuit.specs.Cells.{Cells}
use Rattle.circuit.specs.Circuits.{Circuit}
use Rattle.cycle_order.specs.declared.error.OrderError.{OrderError as NodeError}
use Rattle.cycle_order.specs.declared.error.OrderError.TheVariants as nodes
use Rattle.cycle_order.specs.Orders.{IsOnCycle, IsLeastOnCycle, IsOrder, Leads, Refuses as RefusesNodes}
use Rattle.design_checks.specs.Checks.{Passes}
use Rattle.design_checks.specs.PinChecks.{TablesLoop}
use Rattle.pin_feeds.specs.Told.{Tells}
use Rattle.net_order.specs.declared.feeding.TableLink.{TableLink}
use Rattle.net_order.specs.Links.{links_with}
use Rattle.net_order.specs.Orders.{AreInNameOrder, IsLinked, Refuses}
use Rattle.net_order.proofs.BothEnds.{of_ends, to_ends}
use Rattle.net_order.proofs.Loops.{least_loop, no_loop}

-- paths of one kind of steps are paths of another where the steps are
mapped : {X : Type 0} (Step Other : X → X → Type 0) → ((u v : X) → Step u v → Other u v) → (u v : X) → Reaches Step u v → Reaches Other u v
mapped Step Other f u _ here = here
mapped Step Other f u _ (onto {b = b} {c = d} path step) = onto (mapped Step Other f u b path) (f b d step)

module _ (cells : Cells) (feeds : List (Option ℕ)) (links : List TableLink) (is : links ≡ links_with cells feeds) (froms tos : List ℕ) (froms_are : froms ≡ map (λ l. l.source) links) (tos_are : tos ≡ map (λ l. l.table) links) where
  lead_linked : (u v : ℕ) → Leads froms tos u v → IsLinked cells feeds u v
  lead_linked u v h =
      let ends : Leads (map (λ (l : TableLink). l.source) links) (map (λ (l : TableLink). l.table) links) u v =
      subst (λ xs. Leads (map (λ (l : TableLink). l.source) links) xs u v) tos_are (subst (λ xs. Leads xs tos u v) froms_are h) in
      subst (λ ls. In ls (record { source = u; table = v })) is (of_ends links u v ends)

  linked_leads : (u v : ℕ) → IsLinked cells feeds u v → Leads froms tos u v
  linked_leads u v h =
      let ends = to_ends links (record { source = u; table = v }) (subst (λ ls. In ls (record { source = u; table = v })) (sym is) h) in
      subst (λ xs. Leads xs tos u v) (sym froms_are) (subst (λ xs. Leads (map (λ (l : TableLink). l.source) links) xs u v) (sym tos_are) ends)

  cycle_linked : (v : ℕ) → IsOnCycle (Leads froms tos) v → IsOnCycle (IsLinked cells feeds) v
  cycle_linked v h = (h.0, (lead_linked v h.0 h.1.0, mapped (Leads froms tos) (IsLinked cells feeds) lead_linked h.0 v h.1.1))

  linked_cycle : (v : ℕ) → IsOnCycle (IsLinked cells feeds) v → IsOnCycle (Leads froms tos) v
  linked_cycle v h = (h.0, (linked_leads v h.0 h.1.0, mapped (IsLinked cells feeds) (Leads froms tos) linked_leads h.0 v h.1.1))

  -- an order by ends is one by links
  pub order_linked : (count : ℕ) (order : List ℕ) → IsOrder count (Leads froms tos) order → IsOrder count (IsLinked cells feeds) order
  order_linked count order h = record { all = h.all; turn = record { apart = h.turn.apart; after = λ k u below step. h.turn.after k u below (linked_leads u (slice_index order k) step) } }

  pub no_cycle : ((v : ℕ) → IsOnCycle (Leads froms tos) v → ⊥) → (v : ℕ) → IsOnCycle (IsLinked cells feeds) v → ⊥
  no_cycle none v h = none v (linked_cycle v h)

  pub least_linked : (v : ℕ) → IsLeastOnCycle (Leads froms tos) v → IsLeastOnCycle (IsLinked cells feeds) v
  least_linked v h = record { on = cycle_linked v h.on; least = λ u k. h.least u (linked_cycle u k) }

-- ---- answers

pub passed : (cells : Cells) (feeds : List (Option ℕ)) → ((v : ℕ) → IsOnCycle (IsLinked cells feeds) v → ⊥) → (c : Circuit) → c.cells ≡ cells → Tells c feeds → AreInNameOrder cells → Passes (TablesLoop c)
passed cells feeds none c same tells order =
    no_loop c feeds tells (subst AreInNameOrder (sym same) order) (subst (λ x. (v : ℕ) → IsOnCycle (IsLinked x feeds) v → ⊥) (sym same) none)

pub refused : (cells : Cells) (feeds : List (Option ℕ)) (e : NodeError) → RefusesNodes (IsLinked cells feeds) e → (c : Circuit) → c.cells ≡ cells → Tells c feeds → AreInNameOrder cells → Refuses c e
refused cells feeds (nodes.Loop v) least c same tells order =
    least_loop c feeds tells (subst AreInNameOrder (sym same) order) v (subst (λ x. IsLeastOnCycle (IsLinked x feeds) v) (sym same) least)
refused cells feeds nodes.Memory least c same tells order = tt

-- what an order by ends answers, for links
module _ (cells : Cells) (feeds : List (Option ℕ)) (links : List TableLink) (is : links ≡ links_with cells feeds) (froms tos : List ℕ) (froms_are : froms ≡ map (λ l. l.source) links) (tos_are : tos ≡ map (λ l. l.table) links) where
  pub ok_linked : {V E : Type 0} (r : Result V E) (items : V → List ℕ) (count many : ℕ) → count ≡ many → IfOk r (λ v. IsOrder count (Leads froms tos) (items v)) → IfOk r (λ v. IsOrder many (IsLinked cells feeds) (items v))
  ok_linked (Ok v) items count many e h = subst (λ n. IsOrder n (IsLinked cells feeds) (items v)) e (order_linked cells feeds links is froms tos froms_are tos_are count (items v) h)
  ok_linked (Err x) items count many e h = tt

  pub answer_linked : {V : Type 0} (r : Result V NodeError) → MatchResult r (λ _. (v : ℕ) → IsOnCycle (Leads froms tos) v → ⊥) (RefusesNodes (Leads froms tos))
      → MatchResult r (λ _. (v : ℕ) → IsOnCycle (IsLinked cells feeds) v → ⊥) (RefusesNodes (IsLinked cells feeds))
  answer_linked (Ok v) h = no_cycle cells feeds links is froms tos froms_are tos_are h
  answer_linked (Err (nodes.Loop v)) h = least_linked cells feeds links is froms tos froms_are tos_are v h
  answer_linked (Err nodes.Memory) h = tt
