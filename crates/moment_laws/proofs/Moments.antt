-- A fault may begin in any cycle: the read registers hold there what they hold undisturbed, which is a common start.
use Rattle.std.proofs.Common.{◌≡◌, ◌≢◌, ℕ, zero, suc, ◌+◌, ◌-◌, ◌<◌, ◌≤◌, Bool, List, if◌then◌else◌, ◌⊎◌, inl, inr, refl, sym, ap, subst, ◌∙◌, arith}
use Rattle.std.proofs.lemmas.Bool.{le-leb, lt-leb}
use Rattle.words.specs.Members.{In}
use Rattle.records.specs.Side.{Domain, D0, D1, D2, Triple}
use Rattle.circuit.specs.Cells.{PadCell}
use Rattle.circuit.specs.Parts.{output_pads}
use Rattle.circuit.specs.Triples.{PartTriple, triple_of}
use Rattle.circuit.specs.Circuits.{Circuit}
use Rattle.circuit.specs.Worlds.{World}
use Rattle.circuit.specs.Faults.{Fault, no_fault}
use Rattle.circuit.specs.Runs.{IsCycle, IsStep, IsStart, IsRun}
use Rattle.circuit.specs.Right.{IsRight, RightOutside, TwoOfThree}
use Rattle.circuit.specs.Triplicated.{ReadPart, IsTriplicated}
use Rattle.circuit.specs.Designs.{SameDesign}
use Rattle.circuit_laws.proofs.Sound.{Sound}
use Rattle.circuit_laws.proofs.ChosenRun.{world_at, run_is}
use Rattle.circuit_laws.proofs.Anew.{held, anew}
use Rattle.circuit_laws.proofs.OneDesign.{held_next, shown_same}
use Rattle.circuit_laws.proofs.Keeps.{same_back}
use Rattle.circuit_laws.proofs.OutputsRight.{first_pad, second_pad, third_pad}
use Rattle.moment_laws.specs.Moments.{HoldTheSame, fault_in, IsRunFrom, KeepsAllBefore, KeepsOutsideFromAnyCycle, KeepsTwoFromAnyCycle}

-- a circuit is of its own design
own_design : (c : Circuit) → SameDesign c c
own_design c = record {
  sides = record { slices = refl; pads = refl; triples = refl; inputs = refl; outputs = refl; clocks = refl; voters = refl };
  parts = refl;
  connections = λ x. ((λ h. h), (λ h. h));
}

pub fault_before : (f : Fault) (t i : ℕ) → i < t → fault_in f t i ≡ no_fault
fault_before f t i h = ap (λ b. if b then f else no_fault) (lt-leb t i h)

pub fault_later : (f : Fault) (t i : ℕ) → t ≤ i → fault_in f t i ≡ f
fault_later f t i h = ap (λ b. if b then f else no_fault) (le-leb t i h)

-- the first cycles of a run are a run
shorter : (c : Circuit) (f : Fault) (start : PartTriple → Bool) (input : ℕ → Triple → Bool) (m n : ℕ) (run : ℕ → World) → m ≤ n → IsRun c f start input n run → IsRun c f start input m run
shorter c f start input m n run le is = record {
  starts = λ h. (let g : 0 < n = omega arith in is.starts g);
  cycles = λ i h. (let g : i < n = omega arith in is.cycles i g);
  steps = λ i h. (let g : suc i < n = omega arith in is.steps i g);
}

-- ---- a fault from the first cycle on, and one that doesn't come

pub from_first : (c : Circuit) (f : Fault) (start : PartTriple → Bool) (input : ℕ → Triple → Bool) (n : ℕ) (run : ℕ → World) → IsRunFrom c f 0 start input n run → IsRun c f start input n run
from_first c f start input n run is = record {
  starts = is.starts;
  cycles = λ i h. subst (λ g. IsCycle c g (input i) (run i)) (fault_later f 0 i (omega arith)) (is.cycles i h);
  steps = λ i h. subst (λ g. IsStep c g (run i) (run (suc i))) (fault_later f 0 i (omega arith)) (is.steps i h);
}

pub to_first : (c : Circuit) (f : Fault) (start : PartTriple → Bool) (input : ℕ → Triple → Bool) (n : ℕ) (run : ℕ → World) → IsRun c f start input n run → IsRunFrom c f 0 start input n run
to_first c f start input n run is = record {
  starts = is.starts;
  cycles = λ i h. subst (λ g. IsCycle c g (input i) (run i)) (sym (fault_later f 0 i (omega arith))) (is.cycles i h);
  steps = λ i h. subst (λ g. IsStep c g (run i) (run (suc i))) (sym (fault_later f 0 i (omega arith))) (is.steps i h);
}

-- where it begins at the end or behind it, a run is undisturbed
pub to_never : (c : Circuit) (f : Fault) (t : ℕ) (start : PartTriple → Bool) (input : ℕ → Triple → Bool) (n : ℕ) (run : ℕ → World) → n ≤ t → IsRun c no_fault start input n run → IsRunFrom c f t start input n run
to_never c f t start input n run le is = record {
  starts = is.starts;
  cycles = λ i h. (let b : i < t = omega arith in subst (λ g. IsCycle c g (input i) (run i)) (sym (fault_before f t i b)) (is.cycles i h));
  steps = λ i h. (let b : i < t = omega arith in subst (λ g. IsStep c g (run i) (run (suc i))) (sym (fault_before f t i b)) (is.steps i h));
}

pub from_never : (c : Circuit) (f : Fault) (t : ℕ) (start : PartTriple → Bool) (input : ℕ → Triple → Bool) (n : ℕ) (run : ℕ → World) → n ≤ t → IsRunFrom c f t start input n run → IsRun c no_fault start input n run
from_never c f t start input n run le is = record {
  starts = is.starts;
  cycles = λ i h. (let b : i < t = omega arith in subst (λ g. IsCycle c g (input i) (run i)) (fault_before f t i b) (is.cycles i h));
  steps = λ i h. (let b : i < t = omega arith in subst (λ g. IsStep c g (run i) (run (suc i))) (fault_before f t i b) (is.steps i h));
}

-- ---- a run in which the fault begins in cycle t

module _ (e : Circuit) (ok : Sound e) (tri : IsTriplicated e) (f : Fault) (t : ℕ) (start : PartTriple → Bool) (input : ℕ → Triple → Bool) (n : ℕ) (run : ℕ → World) (is : IsRunFrom e f t start input n run) where
  -- up to there it is an undisturbed run
  pub before : (m : ℕ) → m ≤ n → m ≤ t → IsRun e no_fault start input m run
  before m lm lt = record {
    starts = λ h. (let g : 0 < n = omega arith in is.starts g);
    cycles = λ i h. (let b : i < t = omega arith in let g : i < n = omega arith in subst (λ x. IsCycle e x (input i) (run i)) (fault_before f t i b) (is.cycles i g));
    steps = λ i h. (let b : i < t = omega arith in let g : suc i < n = omega arith in subst (λ x. IsStep e x (run i) (run (suc i))) (fault_before f t i b) (is.steps i g));
  }

  -- an undisturbed run from the same start on the same input
  pub own : ℕ → World
  own = world_at e ok tri.no_loop no_fault start input run

  pub own_is : (m : ℕ) → IsRun e no_fault start input m own
  unfolding own
  own_is m = run_is e ok tri.no_loop no_fault start input run m

  -- the read registers hold in each cycle up to there what they hold undisturbed
  held_then : (k : ℕ) → k < n → k ≤ t → HoldTheSame e e (run k) (own k)
  held_then zero lt le = λ s u q r rs ru parts ks ku. is.starts lt s q rs.listed ks rs.read ∙ (ap start (ap (triple_of e.side) parts) ∙ sym ((own_is n).starts lt u r ru.listed ku ru.read))
  held_then (suc k) lt le =
      let here : k < n = omega arith in
      let early : k < t = omega arith in
      let low : k ≤ t = omega arith in
      held_next e e ok ok tri tri (own_design e) (input k) (run k) (own k) (run (suc k)) (own (suc k))
      (subst (λ x. IsCycle e x (input k) (run k)) (fault_before f t k early) (is.cycles k here)) ((own_is n).cycles k here)
      (subst (λ x. IsStep e x (run k) (run (suc k))) (fault_before f t k early) (is.steps k lt)) ((own_is n).steps k lt) (held_then k here low)

  module _ (lt : t < n) where
    now : PartTriple → Bool
    now = held e ok (own t)

    own_anew : IsRun e no_fault now (λ i. input (t + i)) (n - t) (λ i. own (t + i))
    unfolding now
    own_anew = anew e ok tri start input n own (own_is n) t lt

    -- so what stands there is a common start
    starts_now : IsStart e now (run t)
    starts_now = λ s r js ks read.
        (let some : 0 < n - t = omega arith in
        let here : t + 0 ≡ t = omega arith in
        let part : ReadPart e s = record { listed = js; read = read } in
        held_then t lt (omega arith) s s r r part part refl ks ks ∙ subst (λ z. IsStart e now (own z)) here (own_anew.starts some) s r js ks read)

    -- and from there on it is a run under the fault
    disturbed : IsRun e f now (λ i. input (t + i)) (n - t) (λ i. run (t + i))
    disturbed = record {
      starts = λ h. (let here : t ≡ t + 0 = omega arith in subst (λ z. IsStart e now (run z)) here starts_now);
      cycles = λ i h. (let within : t + i < n = omega arith in let late : t ≤ t + i = omega arith in subst (λ x. IsCycle e x (input (t + i)) (run (t + i))) (fault_later f t (t + i) late) (is.cycles (t + i) within));
      steps = λ i h.
          (let within : suc (t + i) < n = omega arith in
          let late : t ≤ t + i = omega arith in
          let next : suc (t + i) ≡ t + suc i = omega arith in
          subst (λ z. IsStep e f (run (t + i)) (run z)) next (subst (λ x. IsStep e x (run (t + i)) (run (suc (t + i)))) (fault_later f t (t + i) late) (is.steps (t + i) within)));
    }

    -- so it shows outside a domain what the undisturbed run shows
    shows_later : (d : Domain) → RightOutside e f d → (i : ℕ) → t ≤ i → i < n → (p : PadCell) → In (output_pads e.cells) p → p.domain ≢ d → (run i).shown p.name ≡ (own i).shown p.name
    shows_later d right i late within p jp out =
        let after : i - t < n - t = omega arith in
        let back : t + (i - t) ≡ i = omega arith in
        subst (λ z. (run z).shown p.name ≡ (own z).shown p.name) back
        (right now (λ j. input (t + j)) (n - t) (λ j. run (t + j)) disturbed (i - t) after p jp out (n - t) (λ j. own (t + j)) own_anew after)

-- ---- what it keeps of a circuit of the design

pub early_or_late : (t i : ℕ) → (i < t) ⊎ (t ≤ i)
early_or_late t zero = go t
  where
    go : (t : ℕ) → (0 < t) ⊎ (t ≤ 0)
    go zero = inr (omega arith)
    go (suc t) = inl (omega arith)
early_or_late zero (suc i) = inr (omega arith)
early_or_late (suc t) (suc i) = elim (early_or_late t i) [ inl h ↦ inl (omega arith) | inr h ↦ inr (omega arith) ]

-- of three pads, one in each domain, two lie outside any domain
two_of : (R : List ℕ → Type 0) (d : Domain) (x y z : List ℕ) → ((D0 ≡ d → ⊥) → R x) → ((D1 ≡ d → ⊥) → R y) → ((D2 ≡ d → ⊥) → R z) → TwoOfThree (R x) (R y) (R z)
two_of R D0 x y z a b c = inr (inr (b (λ e. (let no : ⊥ = cc in no)), c (λ e. (let no : ⊥ = cc in no))))
two_of R D1 x y z a b c = inr (inl (a (λ e. (let no : ⊥ = cc in no)), c (λ e. (let no : ⊥ = cc in no))))
two_of R D2 x y z a b c = inl (a (λ e. (let no : ⊥ = cc in no)), b (λ e. (let no : ⊥ = cc in no)))

module _ (c e : Circuit) (oc : Sound c) (oe : Sound e) (tc : IsTriplicated c) (te : IsTriplicated e) (same : SameDesign c e) where
  -- two undisturbed runs of some lengths show the same in each cycle of both
  both_show : (start : PartTriple → Bool) (input : ℕ → Triple → Bool) (m n : ℕ) (v w : ℕ → World) → IsRun e no_fault start input m v → IsRun c no_fault start input n w
      → (i : ℕ) → i < m → i < n → (p : PadCell) → In (output_pads e.cells) p → (v i).shown p.name ≡ (w i).shown p.name
  both_show start input m n v w iv iw i lm ln p jp =
      shown_same e c oe oc te tc (same_back c e same) start input (suc i) v w
      (shorter e no_fault start input (suc i) m v (omega arith) iv) (shorter c no_fault start input (suc i) n w (omega arith) iw) i (omega arith) p jp

  module _ (f : Fault) where
    pub kept_before : KeepsAllBefore c e f
    kept_before = λ t start input n run is i lt early p jp. λ m right ir lm.
        both_show start input (suc i) m run right (before e oe te f t start input n run is (suc i) (omega arith) (omega arith)) ir i (omega arith) lm p jp

    module _ (d : Domain) (right : RightOutside e f d) where
      pub kept_outside : KeepsOutsideFromAnyCycle c e f d
      kept_outside = λ t start input n run is i lt p jp out. elim (early_or_late t i) [
        | inl early ↦ kept_before t start input n run is i lt early p jp
        | inr late ↦ (λ m other io lm.
            (let begun : t < n = omega arith in
            shows_later e oe te f t start input n run is begun d right i late lt p jp out
            ∙ both_show start input n m (own e oe te f t start input n run is) other (own_is e oe te f t start input n run is n) io i lt lm p jp))
      ]

      pub kept_two : KeepsTwoFromAnyCycle c e f
      kept_two = λ t start input n run is i lt o jo.
          (let at = kept_outside t start input n run is i lt in
          let a = first_pad e oe te o jo in
          let b = second_pad e oe te o jo in
          let z = third_pad e oe te o jo in
          let R = IsRight c start input i (run i) in
          two_of R d o.first o.second o.third
          (λ away. subst R a.1.1.0 (at a.0 a.1.0 (λ h. away (sym a.1.1.1 ∙ h))))
          (λ away. subst R b.1.1.0 (at b.0 b.1.0 (λ h. away (sym b.1.1.1 ∙ h))))
          (λ away. subst R z.1.1.0 (at z.0 z.1.0 (λ h. away (sym z.1.1.1 ∙ h)))))
