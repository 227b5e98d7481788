use Rattle.std.proofs.Common.{◌≡◌, ◌++◌, ◌∷◌, [], ℕ, List, length, map, cond, Some, None, Bor, ap, sym, subst, ◌∙◌, nat_cmp, arith}
use Rattle.std.specs.Ordering.{is_eq}
use Rattle.std.specs.BTreeMap.{get}
use Rattle.std.specs.Cmp.Lexicographic.{slice_cmp}
use Rattle.std.proofs.lemmas.List.{length-map, map-append, length-append}
use Rattle.name_numbers.specs.Numbers.{HoldsNumbers, number_of}
use Rattle.name_numbers.proofs.Pushed.{holds_more, last_number}
use Rattle.name_numbers.proofs.numbers.NameNumbers.add.Goals as goal

pub invariant_of-self-in-Ok : goal.invariant_of-self-in-Ok
invariant_of-self-in-Ok c =
    let now : Bor (List ℕ) → List ℕ = λ name. name.now in
    let items = c.self.inside.names.items in
    let old = map now items in
    let pushed : map now c.push.new.self.items ≡ old ++ c.args.name.now ∷ [] = ap (map now) c.in_ok-push.ensures.items ∙ map-append now items (c.args.name ∷ []) in
    let absent : number_of old c.bytes-2.result.now ≡ None = (λ i. number_of (c.self.view_is i) ((c.bytes-2.ensures.same ∙ sym c.bytes.ensures.same) i)) ∙ sym c.number.ensures ∙ c.in_default.is in
    let count : length c.as_slice-number.result.now ≡ length old = ap length c.as_slice-number.ensures.value ∙ sym (length-map items now) in
    let updated = λ (q : Bor (List ℕ)). c.in-Ok.ensures.updates.0 q
    ∙ ap (λ n. cond (is_eq (slice_cmp nat_cmp c.bytes-2.result.now q.now)) (Some n) (get (λ a b. slice_cmp nat_cmp a.now b.now) c.self.inside.numbers q)) count in
    let held = holds_more old c.bytes-2.result c.self.inside.numbers c.insert.new.self c.self.invariant.0 absent updated in (
      subst (λ names. HoldsNumbers names c.insert.new.self) (ap (λ name. old ++ name ∷ []) c.bytes-2.ensures.same ∙ sym pushed) held,
      (let long = ap length c.in_ok-push.ensures.items ∙ length-append items (c.args.name ∷ []) in let few = c.if-number-ge-MOST_NAMES.false in let n = ap length c.as_slice-number.ensures.value in omega arith),
    )

pub returns-in-Ok-clause-number : goal.returns-in-Ok-clause-number
returns-in-Ok-clause-number c =
    let now : Bor (List ℕ) → List ℕ = λ name. name.now in
    let items = c.self.inside.names.items in
    let old = map now items in
    let pushed : map now c.push.new.self.items ≡ old ++ c.args.name.now ∷ [] = ap (map now) c.in_ok-push.ensures.items ∙ map-append now items (c.args.name ∷ []) in
    let absent : number_of old c.args.name.now ≡ None = (λ i. number_of (c.self.view_is i) (sym c.bytes.ensures.same i)) ∙ sym c.number.ensures ∙ c.in_default.is in
    let count : length c.as_slice-number.result.now ≡ length old = ap length c.as_slice-number.ensures.value ∙ sym (length-map items now) in
    ap (λ n. Some n) count ∙ sym (last_number old c.args.name.now absent) ∙ ap (λ names. number_of names c.args.name.now) (sym pushed)
