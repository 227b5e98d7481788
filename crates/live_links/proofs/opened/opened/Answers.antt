use Rattle.std.proofs.Common.{ℕ, List, [], length, get_or, ap, ◌∙◌, arith}
use Rattle.std.proofs.lemmas.List.{length-map}
use Rattle.live_links.proofs.Opening.{length-rooms_of, none_at, room_at}
use Rattle.live_links.proofs.opened.opened.Goals as goal

pub fill-requires-clause-same : goal.fill-requires-clause-same
fill-requires-clause-same c =
    let none : ℕ → List ℕ = λ _. [] in
    ap length c.in_ok-opened.ensures.rows ∙ (length-map c.deref.result.now none ∙ (ap length (c.deref.ensures.value ∙ c.in_ok-rooms.ensures.rooms) ∙ length-rooms_of c.args.rows.now c.args.more.now c.requires.same))

pub fill-requires-clause-empty : goal.fill-requires-clause-empty
fill-requires-clause-empty c = λ k. ap (λ (r : List (List ℕ)). get_or r k []) c.in_ok-opened.ensures.rows ∙ none_at c.deref.result.now k

pub fill-requires-clause-room : goal.fill-requires-clause-room
fill-requires-clause-room c = λ k.
    let is = ap (λ (r : List ℕ). get_or r k 0) (c.in_ok-opened.ensures.room ∙ (c.deref.ensures.value ∙ c.in_ok-rooms.ensures.rooms)) in
    let at = room_at c.args.rows.now c.args.more.now k c.requires.same in
    omega arith
