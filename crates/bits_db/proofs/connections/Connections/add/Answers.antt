use Rattle.std.proofs.Common.{◌≡◌, ◌∷◌, ◌++◌, [], List, ℕ, sym, ap, ◌∙◌}
use Rattle.records.specs.Database.{Fixed}
use Rattle.bits_db.specs.KnownEnds.{Ends, connection_of}
use Rattle.bits_db.proofs.Names.{not_false, not_true}
use Rattle.bits_db.proofs.Ends.{known_connection, new_connection, ends_with_one}
use Rattle.bits_db.proofs.connections.Connections.add.Goals as goal

-- the connection of the names of its ends
made : (sink sink' source source' : List ℕ) → sink ≡ sink' → source ≡ source' → ◌≡◌ {A = Fixed} (record { sink = sink; source = source }) (record { sink = sink'; source = source' })
made sink sink' source source' p q =
    ap (λ (n : List ℕ). let f : Fixed = record { sink = n; source = source } in f) p ∙ ap (λ (n : List ℕ). let f : Fixed = record { sink = sink'; source = n } in f) q

pub returns-then-not-branch-clause-connections : goal.returns-then-not-branch-clause-connections
returns-then-not-branch-clause-connections c =
    let key : Ends = (c.args.sink, c.args.source) in
    let known = not_false _ (sym c.in_ok-insert.ensures.added ∙ c.if-not-branch.true) in
    let has = sym (c.requires.known key) ∙ known in
    sym (known_connection c.args.self.now.connections (connection_of key) has)

pub returns-clause-connections : goal.returns-clause-connections
returns-clause-connections c =
    let key : Ends = (c.args.sink, c.args.source) in
    let known = not_true _ (sym c.in_ok-insert.ensures.added ∙ c.if-not-branch.false) in
    let has = sym (c.requires.known key) ∙ known in
    let made_of = made c.in_ok-sink.sink c.args.sink.now c.in_ok-source.source c.args.source.now c.in_ok-sink.ensures c.in_ok-source.ensures in
    c.in_ok-push.ensures.ok ∙ ap (λ f. c.args.self.now.connections ++ f ∷ []) made_of
    ∙ sym (new_connection c.args.self.now.connections (connection_of key) has)

pub returns-clause-known : goal.returns-clause-known
returns-clause-known c =
    let key : Ends = (c.args.sink, c.args.source) in
    let connection : Fixed = record { sink = c.in_ok-sink.sink; source = c.in_ok-source.source } in
    let made_of = made c.in_ok-sink.sink c.args.sink.now c.in_ok-source.source c.args.source.now c.in_ok-sink.ensures c.in_ok-source.ensures in
    rw c.in_ok-push.ensures.ok (ends_with_one c.args.self.now.connections connection c.args.self.now.ends c.insert.new.self key made_of c.requires.known c.in_ok-insert.ensures.updates.0)
