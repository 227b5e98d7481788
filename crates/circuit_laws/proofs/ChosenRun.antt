-- Each choice has just one run.
use Rattle.std.proofs.Common.{◌≡◌, ℕ, zero, suc, ◌<◌, Bool, inl, inr, refl, sym, ap, subst, ◌∙◌, arith}
use Rattle.words.specs.Members.{In}
use Rattle.links.specs.Links.{Below}
use Rattle.records.specs.Side.{Triple}
use Rattle.circuit.specs.Cells.{Input, InputWire, InputNotWire, InputZero, InputOne, RegisterCell}
use Rattle.circuit.specs.Parts.{PartRef, Kind, OfTable, OfRegister, OfInput, OfClock, Source, sources}
use Rattle.circuit.specs.Pins.{pins}
use Rattle.circuit.specs.Triples.{PartTriple}
use Rattle.circuit.specs.Circuits.{Circuit, IsRead}
use Rattle.circuit.specs.Worlds.{Value, Bit, Clock, World}
use Rattle.circuit.specs.Faults.{Fault}
use Rattle.circuit.specs.Runs.{IsCycle, IsRun, next_bit, IsClocked}
use Rattle.circuit.specs.Choices.{TakesFree, Follows, HasBit, Agree}
use Rattle.circuit.specs.Triplicated.{NoTableLoop}
use Rattle.links.proofs.Members.{any_of}
use Rattle.links.proofs.Below.{is_below}
use Rattle.circuit_laws.proofs.Parts.{register_bit}
use Rattle.circuit_laws.proofs.Refs.{part_same, part_named}
use Rattle.circuit_laws.proofs.Sound.{Sound}
use Rattle.circuit_laws.proofs.Assign.{group}
use Rattle.circuit_laws.proofs.Registers.{input_listed, enable_listed, reset_listed, next_same, same_taken}
use Rattle.circuit_laws.proofs.Solve.{Decided, is_touched, pick, picked, passed}
use Rattle.circuit_laws.proofs.Made.{PartNamed, made, made_register, made_cycle, made_free, agree}

is_clock : (x : Value) → Decided (x ≡ Clock)
is_clock (Bit b) = inr (λ e. (let no : ⊥ = cc in no))
is_clock Clock = inl refl

is_clocked : (w : World) (x : Input) → Decided (IsClocked w x)
is_clocked w (InputWire a) = is_clock (w.wire a)
is_clocked w (InputNotWire a) = is_clock (w.wire a)
is_clocked w InputZero = inr (λ h. h)
is_clocked w InputOne = inr (λ h. h)

clocked_same : (v w : World) (x : Input) → ((a : ℕ) → v.wire a ≡ w.wire a) → IsClocked v x → IsClocked w x
clocked_same v w (InputWire a) same h = sym (same a) ∙ h
clocked_same v w (InputNotWire a) same h = sym (same a) ∙ h
clocked_same v w InputZero same h = h
clocked_same v w InputOne same h = h

-- a part is read, or it isn't
is_read : (c : Circuit) → Sound c → (s : Source) → In (sources c.cells) s → Decided (IsRead c s)
is_read c ok s js = elim (any_of (λ p. Below c.routing s.out p.wire) (λ p. is_below c.routing s.out p.wire) (pins c.cells)) [
  | inl x ↦ inl (x.0, record { source = js; pin = x.1.0; feeds = record { output = ok.formed.outputs.listed s js; reach = x.1.1 } })
  | inr h ↦ inr (λ r. h r.0 r.1.pin r.1.feeds.reach)
]

module _ (c : Circuit) (ok : Sound c) (free : NoTableLoop c) (f : Fault) (start : PartTriple → Bool) (input : ℕ → Triple → Bool) (choice : ℕ → World) where
  -- the bits that parts hold at the start
  abbrev first_by : (r : PartRef) → PartNamed c ok free f (input 0) (choice 0) r → Bool
  first_by r (inl x) = pick (is_read c ok x.0 x.1.0) (start (group c x.0)) ((choice 0).part x.0.part)
  first_by r (inr n) = (choice 0).part r

  abbrev next_by_kind : (now chosen : World) → PartRef → Kind → Bool
  next_by_kind now chosen r (OfTable t) = chosen.part r
  next_by_kind now chosen r (OfRegister q) = pick (is_touched f r.cell) (chosen.part r) (pick (is_clocked now q.clock) (next_bit now r q) (chosen.part r))
  next_by_kind now chosen r OfInput = chosen.part r
  next_by_kind now chosen r OfClock = chosen.part r

  -- and those that they hold next
  abbrev next_by : (now chosen : World) (r : PartRef) → PartNamed c ok free f (input 0) (choice 0) r → Bool
  next_by now chosen r (inl x) = next_by_kind now chosen x.0.part x.0.kind
  next_by now chosen r (inr n) = chosen.part r

  pub world_at : ℕ → World
  world_at zero = made c ok free f (input 0) (choice 0) (λ r. first_by r (part_named c.cells r))
  world_at (suc t) = made c ok free f (input (suc t)) (choice (suc t)) (λ r. next_by (world_at t) (choice (suc t)) r (part_named c.cells r))

  world_is : (t : ℕ) → IsCycle c f (input t) (world_at t)
  unfolding world_at
  world_is zero = made_cycle c ok free f (input 0) (choice 0) (λ r. first_by r (part_named c.cells r))
  world_is (suc t) = made_cycle c ok free f (input (suc t)) (choice (suc t)) (λ r. next_by (world_at t) (choice (suc t)) r (part_named c.cells r))

  world_free : (t : ℕ) → TakesFree c f (choice t) (world_at t)
  unfolding world_at
  world_free zero = made_free c ok free f (input 0) (choice 0) (λ r. first_by r (part_named c.cells r))
  world_free (suc t) = made_free c ok free f (input (suc t)) (choice (suc t)) (λ r. next_by (world_at t) (choice (suc t)) r (part_named c.cells r))

  held_first : (s : Source) (r : RegisterCell) → In (sources c.cells) s → s.kind ≡ OfRegister r
      → (world_at 0).part s.part ≡ first_by s.part (part_named c.cells s.part)
  unfolding world_at
  held_first s r js ks = made_register c ok free f (input 0) (choice 0) (λ z. first_by z (part_named c.cells z)) s r js ks

  held_next : (t : ℕ) (s : Source) (r : RegisterCell) → In (sources c.cells) s → s.kind ≡ OfRegister r
      → (world_at (suc t)).part s.part ≡ next_by (world_at t) (choice (suc t)) s.part (part_named c.cells s.part)
  unfolding world_at
  held_next t s r js ks = made_register c ok free f (input (suc t)) (choice (suc t)) (λ z. next_by (world_at t) (choice (suc t)) z (part_named c.cells z)) s r js ks

  first_read : (s : Source) → In (sources c.cells) s → IsRead c s → (x : PartNamed c ok free f (input 0) (choice 0) s.part)
      → first_by s.part x ≡ start (group c s)
  first_read s js read (inl x) =
      let same = part_same c.cells ok.formed.names x.0 s x.1.0 js x.1.1 in
      picked (is_read c ok x.0 x.1.0) _ _ (subst (IsRead c) (sym same) read) ∙ ap (λ z. start (group c z)) same
  first_read s js read (inr n) = absurd (n s js refl)

  first_unread : (s : Source) → In (sources c.cells) s → (IsRead c s → ⊥)
      → (x : PartNamed c ok free f (input 0) (choice 0) s.part) → first_by s.part x ≡ (choice 0).part s.part
  first_unread s js unread (inl x) =
      let same = part_same c.cells ok.formed.names x.0 s x.1.0 js x.1.1 in
      passed (is_read c ok x.0 x.1.0) _ _ (λ h. unread (subst (IsRead c) same h)) ∙ ap (λ z. (choice 0).part z.part) same
  first_unread s js unread (inr n) = absurd (n s js refl)

  next_register : (now chosen : World) (s : Source) (r : RegisterCell) → In (sources c.cells) s → s.kind ≡ OfRegister r
      → (x : PartNamed c ok free f (input 0) (choice 0) s.part)
      → next_by now chosen s.part x ≡ pick (is_touched f s.part.cell) (chosen.part s.part) (pick (is_clocked now r.clock) (next_bit now s.part r) (chosen.part s.part))
  next_register now chosen s r js ks (inl x) = ap (λ z. next_by_kind now chosen z.part z.kind) (part_same c.cells ok.formed.names x.0 s x.1.0 js x.1.1) ∙ ap (next_by_kind now chosen s.part) ks
  next_register now chosen s r js ks (inr n) = absurd (n s js refl)

  next_is : (t : ℕ) (s : Source) (r : RegisterCell) → In (sources c.cells) s → s.kind ≡ OfRegister r
      → (world_at (suc t)).part s.part ≡ pick (is_touched f s.part.cell) ((choice (suc t)).part s.part) (pick (is_clocked (world_at t) r.clock) (next_bit (world_at t) s.part r) ((choice (suc t)).part s.part))
  next_is t s r js ks = held_next t s r js ks ∙ next_register (world_at t) (choice (suc t)) s r js ks (part_named c.cells s.part)

  pick_other : {P : Type 0} (d : Decided P) (x y : Bool) → x ≡ y → pick d x y ≡ x
  pick_other (inl h) x y e = refl
  pick_other (inr h) x y e = sym e

  pub run_is : (n : ℕ) → IsRun c f start input n world_at
  run_is n = record {
    starts = λ lt s r js ks read. held_first s r js ks ∙ first_read s js read (part_named c.cells s.part);
    cycles = λ t lt. world_is t;
    steps = λ t lt s r js ks calm clocked. next_is t s r js ks ∙ (passed (is_touched f s.part.cell) _ _ calm ∙ picked (is_clocked (world_at t) r.clock) _ _ clocked);
  }

  pub run_follows : (n : ℕ) → Follows c f choice n world_at
  run_follows n = record {
    cycles = λ t lt. world_free t;
    unread = λ lt s r js ks unread. held_first s r js ks ∙ first_unread s js unread (part_named c.cells s.part);
    touched = λ t lt s r js ks h. next_is t s r js ks ∙ picked (is_touched f s.part.cell) _ _ h;
    unclocked = λ t lt s r js ks stopped. next_is t s r js ks ∙ pick_other (is_touched f s.part.cell) _ _ (sym (passed (is_clocked (world_at t) r.clock) _ _ stopped));
  }

  -- two runs that follow the choice agree
  module _ (n : ℕ) (v w : ℕ → World) (rv : IsRun c f start input n v) (rw : IsRun c f start input n w) (fv : Follows c f choice n v) (fw : Follows c f choice n w) where
    agree_from : (t : ℕ) → t < n
        → ((s : Source) (r : RegisterCell) → In (sources c.cells) s → s.kind ≡ OfRegister r
        → (v t).part s.part ≡ (w t).part s.part) → Agree c (v t) (w t)
    agree_from t lt held = agree c ok free f (input t) (choice t) (v t) (w t) (rv.cycles t lt) (rw.cycles t lt) (fv.cycles t lt) (fw.cycles t lt) held

    held_zero : (lt : 0 < n) (s : Source) (r : RegisterCell) → In (sources c.cells) s → s.kind ≡ OfRegister r
        → (v 0).part s.part ≡ (w 0).part s.part
    held_zero lt s r js ks = elim (is_read c ok s js) [
      | inl h ↦ rv.starts lt s r js ks h ∙ sym (rw.starts lt s r js ks h)
      | inr h ↦ fv.unread lt s r js ks h ∙ sym (fw.unread lt s r js ks h)
    ]

    held_suc : (t : ℕ) (lt : suc t < n) → Agree c (v t) (w t) → (s : Source) (r : RegisterCell) → In (sources c.cells) s
        → s.kind ≡ OfRegister r → (v t).part s.part ≡ (w t).part s.part
        → Decided (In f.touched s.part.cell) → Decided (IsClocked (v t) r.clock) → (v (suc t)).part s.part ≡ (w (suc t)).part s.part
    held_suc t lt same s r js ks before (inl h) d = fv.touched t lt s r js ks h ∙ sym (fw.touched t lt s r js ks h)
    held_suc t lt same s r js ks before (inr calm) (inl clocked) =
        rv.steps t lt s r js ks calm clocked
        ∙ (next_same (v t) (w t) s.part s.part r r
        (same_taken (v t) (w t) s.part 2 r.reset (λ p i. same.pins s p js (register_bit s r ks p (reset_listed s.part r p i)))) refl
        (same_taken (v t) (w t) s.part 1 r.enable (λ p i. same.pins s p js (register_bit s r ks p (enable_listed s.part r p i))))
        (same_taken (v t) (w t) s.part 0 r.input (λ p i. same.pins s p js (register_bit s r ks p (input_listed s.part r p i))))
        before
        ∙ sym (rw.steps t lt s r js ks calm (clocked_same (v t) (w t) r.clock same.wires clocked)))
    held_suc t lt same s r js ks before (inr calm) (inr stopped) =
        fv.unclocked t lt s r js ks stopped ∙ sym (fw.unclocked t lt s r js ks (λ h. stopped (clocked_same (w t) (v t) r.clock (λ a. sym (same.wires a)) h)))

    register_agrees : (v w : World) → Agree c v w → (s : Source) (r : RegisterCell) → In (sources c.cells) s
        → s.kind ≡ OfRegister r → v.part s.part ≡ w.part s.part
    register_agrees v w same s r js ks = same.parts s js (subst HasBit (sym ks) tt)

    pub agree_always : (t : ℕ) → t < n → Agree c (v t) (w t)
    agree_always zero lt = agree_from 0 lt (held_zero lt)
    agree_always (suc t) lt =
        let before : t < n = omega arith in
        let same = agree_always t before in
        agree_from (suc t) lt (λ s r js ks. held_suc t lt same s r js ks (register_agrees (v t) (w t) same s r js ks) (is_touched f s.part.cell) (is_clocked (v t) r.clock))
