-- A fault can begin in any cycle: there is a run in which it does.
use Rattle.std.proofs.Common.{◌≡◌, ℕ, suc, ◌+◌, ◌-◌, ◌<◌, ◌≤◌, Bool, cond, leb, ◌⊎◌, inl, inr, sym, ap, subst, ◌∙◌, arith}
use Rattle.std.proofs.lemmas.Bool.{le-leb, lt-leb}
use Rattle.words.specs.Members.{In}
use Rattle.records.specs.Side.{Triple}
use Rattle.links.specs.Links.{Below}
use Rattle.links.proofs.Members.{any_of}
use Rattle.links.proofs.Below.{is_below}
use Rattle.circuit.specs.Cells.{RegisterCell}
use Rattle.circuit.specs.Parts.{OfRegister, Source, sources}
use Rattle.circuit.specs.Pins.{pins}
use Rattle.circuit.specs.Triples.{PartTriple}
use Rattle.circuit.specs.Circuits.{Circuit, IsRead}
use Rattle.circuit.specs.Worlds.{World}
use Rattle.circuit.specs.Faults.{Fault, no_fault}
use Rattle.circuit.specs.Runs.{IsCycle, IsStep, IsStart, IsRun}
use Rattle.circuit.specs.Choices.{Follows}
use Rattle.circuit.specs.Triplicated.{IsTriplicated}
use Rattle.circuit_laws.proofs.Sound.{Sound}
use Rattle.circuit_laws.proofs.ChosenRun.{world_at, run_is, run_follows}
use Rattle.circuit_laws.proofs.Anew.{held, anew}
use Rattle.moment_laws.specs.Moments.{fault_in, IsRunFrom}
use Rattle.moment_laws.proofs.Moments.{early_or_late, fault_before, fault_later}

-- a part is read, or it isn't
is_read : (c : Circuit) → Sound c → (s : Source) → In (sources c.cells) s → IsRead c s ⊎ (IsRead c s → ⊥)
is_read c ok s js = elim (any_of (λ p. Below c.routing s.out p.wire) (λ p. is_below c.routing s.out p.wire) (pins c.cells)) [
  | inl x ↦ inl (x.0, record { source = js; pin = x.1.0; feeds = record { output = ok.formed.outputs.listed s js; reach = x.1.1 } })
  | inr h ↦ inr (λ r. h r.0 r.1.pin r.1.feeds.reach)
]

module _ (c : Circuit) (ok : Sound c) (tri : IsTriplicated c) (f : Fault) (t : ℕ) (start : PartTriple → Bool) (input : ℕ → Triple → Bool) (choice : ℕ → World) where
  -- an undisturbed run
  own : ℕ → World
  own = world_at c ok tri.no_loop no_fault start input choice

  own_is : (n : ℕ) → IsRun c no_fault start input n own
  unfolding own
  own_is n = run_is c ok tri.no_loop no_fault start input choice n

  now : PartTriple → Bool
  now = held c ok (own t)

  -- its read registers hold a common start in cycle t
  now_is : IsStart c now (own t)
  unfolding now
  now_is =
      let some : 0 < suc t - t = omega arith in
      let here : t + 0 ≡ t = omega arith in
      let last : t < suc t = omega arith in
      subst (λ z. IsStart c (held c ok (own t)) (own z)) here ((anew c ok tri start input (suc t) own (own_is (suc t)) t last).starts some)

  -- a run under the fault from there on, in which unread registers hold what they held
  later : ℕ → World
  later = world_at c ok tri.no_loop f now (λ i. input (t + i)) (λ i. own (t + i))

  later_is : (n : ℕ) → IsRun c f now (λ i. input (t + i)) n later
  unfolding later
  later_is n = run_is c ok tri.no_loop f now (λ i. input (t + i)) (λ i. own (t + i)) n

  later_follows : (n : ℕ) → Follows c f (λ i. own (t + i)) n later
  unfolding later
  later_follows n = run_follows c ok tri.no_loop f now (λ i. input (t + i)) (λ i. own (t + i)) n

  -- where they meet, registers hold the same
  meet : (s : Source) (r : RegisterCell) → In (sources c.cells) s → s.kind ≡ OfRegister r → (later 0).part s.part ≡ (own t).part s.part
  meet s r js ks = elim (is_read c ok s js) [
    | inl read ↦ (let one : 0 < 1 = omega arith in (later_is 1).starts one s r js ks read ∙ sym (now_is s r js ks read))
    | inr unread ↦ (let one : 0 < 1 = omega arith in
        let here : t + 0 ≡ t = omega arith in
        (later_follows 1).unread one s r js ks unread ∙ ap (λ z. (own z).part s.part) here)
  ]

  pub begun : ℕ → World
  begun i = cond (leb t i) (later (i - t)) (own i)

  early : (i : ℕ) → i < t → begun i ≡ own i
  unfolding begun
  early i h = ap (λ b. cond b (later (i - t)) (own i)) (lt-leb t i h)

  late : (i : ℕ) → t ≤ i → begun i ≡ later (i - t)
  unfolding begun
  late i h = ap (λ b. cond b (later (i - t)) (own i)) (le-leb t i h)

  first_of_all : IsStart c start (begun 0)
  first_of_all = elim (early_or_late t 0) [
    | inl h ↦ (let one : 0 < 1 = omega arith in subst (IsStart c start) (sym (early 0 h)) ((own_is 1).starts one))
    | inr h ↦ (let one : 0 < 1 = omega arith in
        let none : t ≡ 0 = omega arith in
        let zero_on : 0 - t ≡ 0 = omega arith in
        let at : begun 0 ≡ later 0 = late 0 h ∙ ap later zero_on in
        λ s r js ks read. ap (λ w. w.part s.part) at ∙ (meet s r js ks ∙ (ap (λ z. (own z).part s.part) none ∙ (own_is 1).starts one s r js ks read)))
  ]

  cycle_at : (i : ℕ) → IsCycle c (fault_in f t i) (input i) (begun i)
  cycle_at i = elim (early_or_late t i) [
    | inl h ↦ (let here : i < suc i = omega arith in
        subst (λ w. IsCycle c (fault_in f t i) (input i) w) (sym (early i h)) (subst (λ g. IsCycle c g (input i) (own i)) (sym (fault_before f t i h)) ((own_is (suc i)).cycles i here)))
    | inr h ↦ (let here : i - t < suc i = omega arith in
        let back : t + (i - t) ≡ i = omega arith in
        subst (λ w. IsCycle c (fault_in f t i) (input i) w) (sym (late i h)) (subst (λ g. IsCycle c g (input i) (later (i - t))) (sym (fault_later f t i h))
        (subst (λ z. IsCycle c f (input z) (later (i - t))) back ((later_is (suc i)).cycles (i - t) here))))
  ]

  -- the step into the first disturbed cycle
  step_in : (i : ℕ) → suc i ≡ t → IsStep c no_fault (own i) (later 0)
  step_in i e = λ s r js ks calm clocked.
      (let last : suc i < suc (suc i) = omega arith in
      meet s r js ks ∙ (ap (λ z. (own z).part s.part) (sym e) ∙ (own_is (suc (suc i))).steps i last s r js ks calm clocked))

  step_early : (i : ℕ) → i < t → IsStep c no_fault (begun i) (begun (suc i))
  step_early i h = elim (early_or_late t (suc i)) [
    | inl k ↦ (let last : suc i < suc (suc i) = omega arith in
        subst (λ w. IsStep c no_fault w (begun (suc i))) (sym (early i h)) (subst (λ w. IsStep c no_fault (own i) w) (sym (early (suc i) k)) ((own_is (suc (suc i))).steps i last)))
    | inr k ↦ (let e : suc i ≡ t = omega arith in
        let none : suc i - t ≡ 0 = omega arith in
        subst (λ w. IsStep c no_fault w (begun (suc i))) (sym (early i h)) (subst (λ w. IsStep c no_fault (own i) w) (sym (late (suc i) k ∙ ap later none)) (step_in i e)))
  ]

  step_late : (i : ℕ) → t ≤ i → IsStep c f (begun i) (begun (suc i))
  step_late i h =
      let after : t ≤ suc i = omega arith in
      let next : suc i - t ≡ suc (i - t) = omega arith in
      let last : suc (i - t) < suc (suc i) = omega arith in
      subst (λ w. IsStep c f w (begun (suc i))) (sym (late i h)) (subst (λ w. IsStep c f (later (i - t)) w) (sym (late (suc i) after ∙ ap later next)) ((later_is (suc (suc i))).steps (i - t) last))

  step_at : (i : ℕ) → IsStep c (fault_in f t i) (begun i) (begun (suc i))
  step_at i = elim (early_or_late t i) [
    | inl h ↦ subst (λ g. IsStep c g (begun i) (begun (suc i))) (sym (fault_before f t i h)) (step_early i h)
    | inr h ↦ subst (λ g. IsStep c g (begun i) (begun (suc i))) (sym (fault_later f t i h)) (step_late i h)
  ]

  pub begun_is : (n : ℕ) → IsRunFrom c f t start input n begun
  begun_is n = record { starts = λ h. first_of_all; cycles = λ i h. cycle_at i; steps = λ i h. step_at i }
