-- No table reaches itself where ranks of parts rise from each part to the tables that it feeds.
use Rattle.std.proofs.Common.{◌≡◌, ℕ, ◌<◌, ◌≤◌, Bool, true, arith}
use Rattle.std.specs.Prelude.{nat_lt}
use Rattle.std.specs.List.{list_all}
use Rattle.std.proofs.lemmas.Bool.{ltb-true}
use Rattle.links.specs.Links.{Reaches, here, onto}
use Rattle.circuit.specs.Parts.{Source, sources}
use Rattle.circuit.specs.Pins.{bit_pins}
use Rattle.circuit.specs.Circuits.{Circuit, IsReadBy}
use Rattle.circuit.specs.Triplicated.{NoTableLoop}
use Rattle.circuit_laws.proofs.Sound.{at_pin}
use Rattle.circuit_laws.proofs.Parts.{table_bit}
use Rattle.circuit_examples.proofs.Tests.{implies, implied, all_in}
use Rattle.circuit_examples.proofs.Feeding.{feeds, is_feeds}

module _ (c : Circuit) (rank : Source → ℕ) where
  -- each part that feeds a pin of this one has a lower rank
  abbrev pub rises_to : Source → Bool
  rises_to u = list_all (λ p. list_all (λ s. implies (feeds c s p.wire) (nat_lt (rank s) (rank u))) (sources c.cells)) (bit_pins u)

  module _ (rise : list_all rises_to (sources c.cells) ≡ true) where
    before : (s u : Source) → IsReadBy c s u → rank s < rank u
    before s u rd =
        let all = all_in rises_to (sources c.cells) u rise rd.listed in
        let at = all_in (λ p. list_all (λ s. implies (feeds c s p.wire) (nat_lt (rank s) (rank u))) (sources c.cells)) (bit_pins u) rd.pin all (table_bit u rd.table rd.is_table rd.pin rd.takes) in
        let one = all_in (λ s. implies (feeds c s rd.pin.wire) (nat_lt (rank s) (rank u))) (sources c.cells) s at rd.connects.source in
        ltb-true (rank s) (rank u) (implied (feeds c s rd.pin.wire) (nat_lt (rank s) (rank u)) one (is_feeds c s rd.pin.wire (at_pin c s rd.pin rd.connects)))

    not_before : {u v : Source} → Reaches (IsReadBy c) u v → rank u ≤ rank v
    not_before here = omega arith
    not_before (onto {b} {c = v} q r) = let h = not_before q in let l = before b v r in omega arith

    pub loopless : NoTableLoop c
    loopless s u rd back = let l = before s u rd in let h = not_before back in omega arith
