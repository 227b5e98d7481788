use Rattle.std.proofs.Common.{◌≡◌, ◌↔◌, ℕ, List, Ok, Err, Result, sym, subst}
use Rattle.std.specs.Prelude.{IfOk}
use Rattle.words.specs.Members.{In}
use Rattle.words.specs.Twice.{HasNoneTwice}
use Rattle.links.specs.Links.{Reaches}
use Rattle.wire_feeds.specs.Rows.{Leads}
use Rattle.wire_links.proofs.Finding.{found_all, found_once}
use Rattle.wire_links.proofs.reached.below_along.Goals as goal

-- what holds of a list holds of an answer that is the list
of_list : {V E : Type 0} (items : V → List ℕ) (r : Result V E) (xs : List ℕ) (P : List ℕ → Type 0) → P xs → IfOk r (λ v. items v ≡ xs) → IfOk r (λ v. P (items v))
of_list items (Ok v) xs P h e = subst P (sym e) h
of_list items (Err e) xs P h k = tt

pub returns-clause-all : goal.returns-clause-all
returns-clause-all c =
    let P : List ℕ → Type 0 = λ xs. (x : ℕ) → In xs x ↔ Reaches (Leads c.args.next.now) c.args.w x in
    of_list (λ v. v.items) c.wires_of.result c.as_slice.result.now P
    (subst P (sym c.as_slice.ensures.keys) (found_all c.args.next.now c.args.w c.find_all.new.found.keys c.in_ok-find_all.ensures)) c.wires_of.ensures

pub returns-clause-once : goal.returns-clause-once
returns-clause-once c =
    of_list (λ v. v.items) c.wires_of.result c.as_slice.result.now HasNoneTwice
    (subst HasNoneTwice (sym c.as_slice.ensures.keys) (found_once c.find_all.new.found.keys c.as_slice.ensures.unique)) c.wires_of.ensures
