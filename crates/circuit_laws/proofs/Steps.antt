-- From cycle to cycle: the copies of a register keep one bit in the undisturbed run, and the registers outside the
-- domain of the fault keep their bits in the faulty one. So output pads outside it show the same.
use Rattle.std.proofs.Common.{◌≡◌, ◌≢◌, ℕ, zero, suc, ◌<◌, Bool, inl, inr, refl, sym, ap, ◌∙◌, arith}
use Rattle.words.specs.Members.{In}
use Rattle.records.specs.Side.{Domain, Triple}
use Rattle.circuit.specs.Cells.{RegisterCell, PadCell}
use Rattle.circuit.specs.Parts.{OfRegister, Source, output_pads}
use Rattle.circuit.specs.Pins.{Pin, data_pins, bit_pins, clock_pins, pad_pin}
use Rattle.circuit.specs.Triples.{PartTriple}
use Rattle.circuit.specs.Circuits.{Circuit}
use Rattle.circuit.specs.Worlds.{Clock, World, bit_of, carried_by}
use Rattle.circuit.specs.Faults.{Fault, no_fault, FaultHas}
use Rattle.circuit.specs.Runs.{IsCycle, IsStep, IsRun, IsClocked}
use Rattle.circuit.specs.Registers.{FedAlike}
use Rattle.circuit.specs.Triplicated.{ReadPart, IsTriplicated}
use Rattle.links.proofs.Members.{in_right}
use Rattle.circuit_laws.proofs.Parts.{source_lies, register_bit, pad_lies, of_output_pads, pad_pin_listed}
use Rattle.circuit_laws.proofs.Sound.{Sound, FeedsFrom, at_pin, to_pin, domain_is}
use Rattle.circuit_laws.proofs.Depth.{plus, deep_left, deep_right, ordered}
use Rattle.circuit_laws.proofs.Cycle.{read_at, steady, out_is, pins_same}
use Rattle.circuit_laws.proofs.Copies.{HeldAlike, dry, copies}
use Rattle.circuit_laws.proofs.Outside.{HeldOutside, steady_out, out_outside, pin_outside, agree}
use Rattle.circuit_laws.proofs.Registers.{input_listed, enable_listed, reset_listed, next_same, same_taken, alike_taken, clocked_at, clock_pin_of, no_voter, register_fed}

module _ (c : Circuit) (ok : Sound c) (tri : IsTriplicated c) where
  -- in an undisturbed cycle each read register is clocked
  pub clocked : (input : Triple → Bool) (v : World) → IsCycle c no_fault input v → (s : Source) (r : RegisterCell) → ReadPart c s
      → s.kind ≡ OfRegister r → IsClocked v r.clock
  clocked input v iv s r rs ks =
      let g = tri.clocks.clocked s r rs ks in
      let a = g.1.1.0 in
      let f = at_pin c a g.0 g.1.1.1.0 in
      let carries : v.wire g.0.wire ≡ Clock = steady c ok input v iv a g.0.wire f ∙ (out_is c ok input v iv a f.source ∙ ap (carried_by c.side input v a.part) g.1.1.1.1) in
      clocked_at v s.part r.clock g.0 (clock_pin_of s r g.0 ks g.1.0) carries

  -- pins of two read registers that one triple feeds count as one bit
  copied_pin : (input : Triple → Bool) (v : World) → IsCycle c no_fault input v → HeldAlike c v
      → (s u : Source) (q r : RegisterCell) (x y : Pin) → ReadPart c s → ReadPart c u
      → s.kind ≡ OfRegister q → u.kind ≡ OfRegister r → In (data_pins s.part q) x → In (data_pins u.part r) y → FedAlike c x y → bit_of v x ≡ bit_of v y
  copied_pin input v iv held s u q r x y rs ru ks ku ix iy fed =
      let bx = register_bit s q ks x ix in
      let by = register_bit u r ku y iy in
      let a = fed.first in
      let b = fed.second in
      let fa = at_pin c a x fed.feeds_first in
      let fb = at_pin c b y fed.feeds_second in
      let da = ordered c ok tri.no_loop a fa.source in
      let db = ordered c ok tri.no_loop b fb.source in
      let na = dry c tri s a x rs bx fa in
      let nb = dry c tri u b y ru by fb in
      pins_same c ok input v iv s u x y a b rs.listed ru.listed bx by na fa fb
      (copies c ok tri input v iv (plus da.0 db.0) held a b (read_at c s a x rs.listed bx fa) (read_at c u b y ru.listed by fb) fed.same na nb (deep_right c da.0 db.0 a da.1) (deep_left c da.0 db.0 b db.1))

  copies_next : (input : Triple → Bool) (v next : World) → IsCycle c no_fault input v → IsStep c no_fault v next → HeldAlike c v
      → HeldAlike c next
  copies_next input v next iv step held = λ s u q r rs ru same ks ku.
      let alike = tri.copies.registers s u q r rs ru ks ku same in
      step s q rs.listed ks (λ h. h) (clocked input v iv s q rs ks)
      ∙ (next_same v v s.part u.part q r
      (alike_taken c v s.part u.part 2 q.reset r.reset alike.reset (λ x y ix iy. copied_pin input v iv held s u q r x y rs ru ks ku (reset_listed s.part q x ix) (reset_listed u.part r y iy))) alike.set
      (alike_taken c v s.part u.part 1 q.enable r.enable alike.enable (λ x y ix iy. copied_pin input v iv held s u q r x y rs ru ks ku (enable_listed s.part q x ix) (enable_listed u.part r y iy)))
      (alike_taken c v s.part u.part 0 q.input r.input alike.input (λ x y ix iy. copied_pin input v iv held s u q r x y rs ru ks ku (input_listed s.part q x ix) (input_listed u.part r y iy)))
      (held s u q r rs ru same ks ku)
      ∙ sym (step u r ru.listed ku (λ h. h) (clocked input v iv u r ru ku)))

  -- in an undisturbed run the read registers of a triple hold one bit in each cycle
  pub copies_always : (start : PartTriple → Bool) (input : ℕ → Triple → Bool) (n : ℕ) (run : ℕ → World)
      → IsRun c no_fault start input n run → (t : ℕ) → t < n → HeldAlike c (run t)
  copies_always start input n run is zero lt = λ s u q r rs ru same ks ku. is.starts lt s q rs.listed ks rs.read ∙ (ap start same ∙ sym (is.starts lt u r ru.listed ku ru.read))
  copies_always start input n run is (suc t) lt =
      let before : t < n = omega arith in
      copies_next (input t) (run t) (run (suc t)) (is.cycles t before) (is.steps t lt) (copies_always start input n run is t before)

  -- the part that feeds an output pad
  pub pad_feeder : (p : PadCell) → In (output_pads c.cells) p → (a : Source) × (FeedsFrom c a p.wire × (a.domain ≡ p.domain))
  pad_feeder p jp = (let h = tri.own.pads p jp (tri.open_pins.pads p jp) in (h.source, (record { source = h.listed; feeds = h.feeds }, h.domain)))

  pub pad_reads : (p : PadCell) (a : Source) → In (output_pads c.cells) p → FeedsFrom c a p.wire → ReadPart c a
  pad_reads p a jp f = record { listed = f.source; read = (pad_pin p, to_pin c a (pad_pin p) (pad_pin_listed c.cells p jp) f) }

  -- what feeds the clock pin of a read register is of its domain
  clock_domain : (s : Source) (r : RegisterCell) (p : Pin) → ReadPart c s → s.kind ≡ OfRegister r → In (clock_pins s) p
      → (a : Source) → FeedsFrom c a p.wire → a.domain ≡ s.domain
  clock_domain s r p rs ks ip a fa = elim (tri.own.parts s p rs (in_right (bit_pins s) (clock_pins s) p ip) (a.out, fa.feeds)) [
    | inl h ↦ domain_is c ok a p.wire s.domain fa h
    | inr h ↦ absurd (no_voter c s r rs.listed ks h.0)
  ]

  module _ (f : Fault) (d : Domain) (within : (e : Domain) → FaultHas c f e → e ≡ d) where
    clocked_outside : (input : Triple → Bool) (v w : World) → IsCycle c no_fault input v → IsCycle c f input w
        → (s : Source) (r : RegisterCell) → ReadPart c s → s.domain ≢ d → s.kind ≡ OfRegister r → IsClocked w r.clock
    clocked_outside input v w iv iw s r rs out ks =
        let g = tri.clocks.clocked s r rs ks in
        let a = g.1.1.0 in
        let fa = at_pin c a g.0 g.1.1.1.0 in
        let own : a.domain ≡ s.domain = clock_domain s r g.0 rs ks g.1.0 a fa in
        let away : a.domain ≢ d = λ e. out (sym own ∙ e) in
        let carries : w.wire g.0.wire ≡ Clock = steady_out c ok tri input v iv f d within w iw a g.0.wire away fa
        ∙ (out_outside c ok tri input v iv f d within w iw a fa.source away ∙ ap (carried_by c.side input w a.part) g.1.1.1.1) in
        clocked_at w s.part r.clock g.0 (clock_pin_of s r g.0 ks g.1.0) carries

    held_pin : (input : Triple → Bool) (v w : World) → IsCycle c no_fault input v → IsCycle c f input w → HeldAlike c v
        → HeldOutside c d v w → (s : Source) (r : RegisterCell) (p : Pin) → ReadPart c s → s.domain ≢ d
        → s.kind ≡ OfRegister r → In (data_pins s.part r) p → bit_of v p ≡ bit_of w p
    held_pin input v w iv iw held outside s r p rs out ks ip =
        let bp = register_bit s r ks p ip in
        let g = register_fed c tri s r p rs ks ip in
        let a = g.0.source in
        let fa = g.0.feeds in
        let away : a.domain ≢ d = λ e. out (sym g.1 ∙ e) in
        let deep = ordered c ok tri.no_loop a fa.source in
        pin_outside c ok tri input v iv f d within w iw s a p rs.listed bp (dry c tri s a p rs bp fa) fa away
        (agree c ok tri input v iv f d within w iw deep.0 a (read_at c s a p rs.listed bp fa) away held outside deep.1)

    held_next : (input : Triple → Bool) (v w vn wn : World) → IsCycle c no_fault input v → IsCycle c f input w
        → IsStep c no_fault v vn → IsStep c f w wn → HeldAlike c v → HeldOutside c d v w → HeldOutside c d vn wn
    held_next input v w vn wn iv iw sv sw held outside = λ s r rs out ks.
        sv s r rs.listed ks (λ h. h) (clocked input v iv s r rs ks)
        ∙ (next_same v w s.part s.part r r
        (same_taken v w s.part 2 r.reset (λ p i. held_pin input v w iv iw held outside s r p rs out ks (reset_listed s.part r p i))) refl
        (same_taken v w s.part 1 r.enable (λ p i. held_pin input v w iv iw held outside s r p rs out ks (enable_listed s.part r p i)))
        (same_taken v w s.part 0 r.input (λ p i. held_pin input v w iv iw held outside s r p rs out ks (input_listed s.part r p i)))
        (outside s r rs out ks)
        ∙ sym (sw s r rs.listed ks (λ h. out (within s.domain (inr (s.part.cell, (h, source_lies c.cells s rs.listed))))) (clocked_outside input v w iv iw s r rs out ks)))

    shows_outside : (input : Triple → Bool) (v w : World) → IsCycle c no_fault input v → IsCycle c f input w → HeldAlike c v
        → HeldOutside c d v w → (p : PadCell) → In (output_pads c.cells) p → p.domain ≢ d → w.shown p.name ≡ v.shown p.name
    shows_outside input v w iv iw held outside p jp out =
        let g = pad_feeder p jp in
        let a = g.0 in
        let fa = g.1.0 in
        let away : a.domain ≢ d = λ e. out (sym g.1.1 ∙ e) in
        let deep = ordered c ok tri.no_loop a fa.source in
        iw.shows p jp (λ h. out (within p.domain (inr (p.name, (h, pad_lies c.cells p (of_output_pads c.cells p jp))))))
        ∙ (steady_out c ok tri input v iv f d within w iw a p.wire away fa
        ∙ (sym (agree c ok tri input v iv f d within w iw deep.0 a (pad_reads p a jp fa) away held outside deep.1)
        ∙ (sym (steady c ok input v iv a p.wire fa) ∙ sym (iv.shows p jp (λ h. h)))))

    module _ (start : PartTriple → Bool) (input : ℕ → Triple → Bool) (m n : ℕ) (right faulty : ℕ → World) (ir : IsRun c no_fault start input m right) (is : IsRun c f start input n faulty) where
      held_always : (t : ℕ) → t < m → t < n → HeldOutside c d (right t) (faulty t)
      held_always zero lm ln = λ s r rs out ks. ir.starts lm s r rs.listed ks rs.read ∙ sym (is.starts ln s r rs.listed ks rs.read)
      held_always (suc t) lm ln =
          let bm : t < m = omega arith in
          let bn : t < n = omega arith in
          held_next (input t) (right t) (faulty t) (right (suc t)) (faulty (suc t)) (ir.cycles t bm) (is.cycles t bn) (ir.steps t lm) (is.steps t ln) (copies_always start input m right ir t bm) (held_always t bm bn)

      pub shows_always : (t : ℕ) → t < m → t < n → (p : PadCell) → In (output_pads c.cells) p → p.domain ≢ d
          → (faulty t).shown p.name ≡ (right t).shown p.name
      shows_always t lm ln p jp out = shows_outside (input t) (right t) (faulty t) (ir.cycles t lm) (is.cycles t ln) (copies_always start input m right ir t lm) (held_always t lm ln) p jp out
