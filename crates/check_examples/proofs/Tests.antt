-- An element is least with a property where a test tells that it comes after no other one.
use Rattle.std.proofs.Common.{◌≡◌, ◌≢◌, Bool, true, false, not, List, subst}
use Rattle.std.specs.List.{list_all}
use Rattle.std.specs.declared.cmp.Ordering.{Ordering}
use Rattle.std.specs.declared.cmp.Ordering.TheVariants.{Less, Equal, Greater}
use Rattle.words.specs.Members.{In}
use Rattle.design_checks.specs.Checks.{IsLeast}
use Rattle.circuit_examples.proofs.Tests.{implies, implied, all_in, no_false}

abbrev pub is_after : Ordering → Bool
is_after Less = false
is_after Equal = false
is_after Greater = true

pub not_after : (o : Ordering) → not (is_after o) ≡ true → o ≢ Greater
not_after Less h e = (let no : ⊥ = cc in no)
not_after Equal h e = (let no : ⊥ = cc in no)
not_after Greater h e = no_false h

module _ {X Y : Type 0} (cmp : X → X → Ordering) (Has : X → Type 0) where
  -- what has the property is told by elements of a list that pass a test
  abbrev pub Told : List Y → (Y → X) → (Y → Bool) → Type 0
  Told list name test = (z : X) → Has z → (y : Y) × (In list y × ((name y ≡ z) × (test y ≡ true)))

  pub least_by : (list : List Y) (name : Y → X) (test : Y → Bool) (x : X) → Has x → Told list name test
      → list_all (λ y. implies (test y) (not (is_after (cmp x (name y))))) list ≡ true → IsLeast cmp Has x
  least_by list name test x has told all = record {
    has = has;
    least = λ z h. (let t = told z h in
        subst (λ v. cmp x v ≢ Greater) t.1.1.0 (not_after (cmp x (name t.0)) (implied (test t.0) _ (all_in (λ y. implies (test y) (not (is_after (cmp x (name y))))) list t.0 all t.1.0) t.1.1.1)));
  }
