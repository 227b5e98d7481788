-- Loops of tables by numbers, and in the circuit.
use Rattle.std.proofs.Common.{◌≡◌, ◌≢◌, ℕ, ◌<◌, ◌≤◌, List, Option, Some, inl, inr, refl, sym, ap, subst, ◌∙◌, arith}
use Rattle.std.specs.Prelude.{slice_get}
use Rattle.std.specs.declared.cmp.Ordering.{Ordering}
use Rattle.std.specs.declared.cmp.Ordering.TheVariants.{Less, Greater}
use Rattle.links.specs.Links.{Reaches, here, onto}
use Rattle.links.proofs.Members.{same_number}
use Rattle.fabric_laws.proofs.Numbered.{number_there}
use Rattle.circuit.specs.Cells.{TableCell}
use Rattle.circuit.specs.Parts.{PartRef, OfTable, Source, sources}
use Rattle.circuit.specs.Circuits.{Circuit, IsReadBy}
use Rattle.cycle_order.specs.Orders.{IsOnCycle, IsLeastOnCycle}
use Rattle.attempts.specs.PinOrder.{part_cmp}
use Rattle.answers.specs.Refusals.{Refusal, Loop}
use Rattle.design_checks.specs.Checks.{Passes}
use Rattle.design_checks.specs.PinChecks.{IsOnLoop, TablesLoop, loop}
use Rattle.pin_feeds.specs.Told.{Tells}
use Rattle.net_order.specs.Orders.{AreInNameOrder, IsLinked}
use Rattle.net_order.proofs.ReadTables.{link_reads, reading_links}
use Rattle.net_order.proofs.TableOrder.{one_number, tables_rise, itself}

some_same : {X : Type 0} (x y : X) → Some x ≡ Some y → x ≡ y
some_same x y h = cc

less_greater : (o : Ordering) → o ≡ Less → o ≢ Greater
less_greater o h k = (let no : ⊥ = cc in no)

module _ (c : Circuit) (feeds : List (Option ℕ)) (tells : Tells c feeds) where
  abbrev Linked : ℕ → ℕ → Type 0
  Linked = IsLinked c.cells feeds

  -- a path of links is one in the circuit
  path_is : (w : ℕ) (x : Source) → slice_get (sources c.cells) w ≡ Some x → (v : ℕ) → Reaches Linked w v → (y : Source) × ((slice_get (sources c.cells) v ≡ Some y) × Reaches (IsReadBy c) x y)
  path_is w x at _ here = (x, (at, here))
  path_is w x at _ (onto {b = b} {c = d} path step) =
      let b' = path_is w x at b path in
      let r = link_reads c feeds tells b d step in
      let same : r.0 ≡ b'.0 = some_same r.0 b'.0 (sym r.1.1.0 ∙ b'.1.0) in
      (r.1.0, (r.1.1.1.0, onto b'.1.1 (subst (λ z. IsReadBy c z r.1.0) same r.1.1.1.1)))

  -- a part on a cycle of links is on a loop
  cycle_loops : (v : ℕ) (s : Source) → slice_get (sources c.cells) v ≡ Some s → IsOnCycle Linked v → IsOnLoop c s.part
  cycle_loops v s at cycle =
      let first = link_reads c feeds tells v cycle.0 cycle.1.0 in
      let same : first.0 ≡ s = some_same first.0 s (sym first.1.1.0 ∙ at) in
      let back = path_is cycle.0 first.1.0 first.1.1.1.0 v cycle.1.1 in
      let ends : back.0 ≡ s = some_same back.0 s (sym back.1.0 ∙ at) in
      record { source = s; is = refl; next = first.1.0; reads = subst (λ z. IsReadBy c z first.1.0) same first.1.1.1.1; back = subst (Reaches (IsReadBy c) first.1.0) ends back.1.1 }

  module _ (order : AreInNameOrder c.cells) where
    abbrev IsTable : Source → Type 0
    IsTable s = (t : TableCell) × (s.kind ≡ OfTable t)

    -- a path through tables is one of links
    is_path : (k : ℕ) (x : Source) → slice_get (sources c.cells) k ≡ Some x → IsTable x → (y : Source) → Reaches (IsReadBy c) x y → (m : ℕ) × ((slice_get (sources c.cells) m ≡ Some y) × (Reaches Linked k m × IsTable y))
    is_path k x at table _ here = (k, (at, (here, table)))
    is_path k x at table _ (onto {b = b} {c = y} path step) =
        let p = is_path k x at table b path in
        let n = number_there (sources c.cells) y step.listed in
        let l = reading_links c feeds tells n.0 b y n.1 step in
        let same : l.0 ≡ p.0 = one_number c.cells order l.0 p.0 b p.1.1.1.0 l.1.0 p.1.0 p.1.1.1.1 in
        (n.0, (n.1, (onto p.1.1.0 (subst (λ z. Linked z n.0) same l.1.1), (step.table, step.is_table))))

    -- a part on a loop is on a cycle of links
    loop_cycles : (part : PartRef) → (l : IsOnLoop c part) → (v : ℕ) × ((slice_get (sources c.cells) v ≡ Some l.source) × (IsOnCycle Linked v × IsTable l.source))
    loop_cycles part l =
        let n = number_there (sources c.cells) l.next l.reads.listed in
        let first = reading_links c feeds tells n.0 l.source l.next n.1 l.reads in
        let back = is_path n.0 l.next n.1 (l.reads.table, l.reads.is_table) l.source l.back in
        let same : back.0 ≡ first.0 = one_number c.cells order back.0 first.0 l.source back.1.1.1.0 back.1.0 first.1.0 back.1.1.1.1 in
        (first.0, (first.1.0, ((n.0, (first.1.1, subst (Reaches Linked n.0) same back.1.1.0)), back.1.1.1)))

    -- no cycle of links, no loop
    pub no_loop : ((v : ℕ) → IsOnCycle Linked v → ⊥) → Passes (TablesLoop c)
    no_loop none = passes
      where
        passes : (r : Refusal) → TablesLoop c r → ⊥
        passes _ (loop part least) = (let v = loop_cycles part least.has in none v.0 v.1.1.0)

    step_source : (v w : ℕ) → Linked v w → (s : Source) × (slice_get (sources c.cells) v ≡ Some s)
    step_source v w step = (let r = link_reads c feeds tells v w step in (r.0, r.1.1.0))

    by_numbers : (v w : ℕ) (s u : Source) (t x : TableCell) → v ≤ w → slice_get (sources c.cells) v ≡ Some s → slice_get (sources c.cells) w ≡ Some u → s.kind ≡ OfTable t → u.kind ≡ OfTable x → part_cmp s.part u.part ≢ Greater
    by_numbers v w s u t x below at_s at_u k l = elim (same_number v w) [
      | inl e ↦ (let same : s ≡ u = some_same s u (sym at_s ∙ (ap (slice_get (sources c.cells)) e ∙ at_u)) in subst (λ z. part_cmp s.part z.part ≢ Greater) same (itself s.part))
      | inr other ↦ (let less : v < w = omega arith in less_greater (part_cmp s.part u.part) (tables_rise c.cells order v w s u t x less at_s at_u k l))
    ]

    -- the least on a cycle of links is the least on a loop
    pub least_loop : (v : ℕ) → IsLeastOnCycle Linked v → (s : Source) × ((slice_get (sources c.cells) v ≡ Some s) × TablesLoop c (Loop s.part))
    unfolding step_source cycle_loops
    least_loop v least =
        let s = step_source v least.on.0 least.on.1.0 in
        let has = cycle_loops v s.0 s.1 least.on in
        let own = loop_cycles s.0.part has in (
          s.0,
          (
            s.1,
            loop s.0.part (record {
              has = has;
              least = λ part l. (
                  let other = loop_cycles part l in
                  let is_table : IsTable s.0 = own.1.1.1 in
                  subst (λ p. part_cmp s.0.part p ≢ Greater) l.is
                  (by_numbers v other.0 s.0 l.source is_table.0 other.1.1.1.0 (least.least other.0 other.1.1.0) s.1 other.1.0 is_table.1 other.1.1.1.1)
                  );
            }),
          ),
        )
