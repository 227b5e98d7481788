use Rattle.std.proofs.Common.{ap, ◌∙◌, sym, subst, map, inl, inr, arith}
use Rattle.wire_names.specs.Kept.{HasShortBase}
use Rattle.wire_names.specs.LentNames.{wire_name}
use Rattle.fabric.specs.TileWires.{named_wire}
use Rattle.device_wires.specs.Gathered.{AreGathered}
use Rattle.device_wires.specs.Keys.{wire_of}
use Rattle.device_wires.proofs.KeyOrder.{key_more, one_too_many, one_wire, short_key}
use Rattle.device_wires.proofs.gathered.Gathered.add.Goals as goal
use Rattle.device_wires.proofs.gathered.Gathered.add.Goals.{else-len-ge-MOST_WIRES-via-then-len-ge-MOST_WIRES+else-not-contains, else-len-ge-MOST_WIRES-via-else-len-ge-MOST_WIRES}

pub returns-then-not-contains-clause-many : goal.returns-then-not-contains-clause-many
returns-then-not-contains-clause-many c = λ _.
    one_too_many c.self.inside.keys.keys c.in-Some.key c.args.self.now (named_wire (wire_name c.args.wire.now)) c.self.view_is c.in-Some.ensures
    (let full = c.if-len-ge-MOST_WIRES.true in let count = c.len.ensures.len in omega arith)
    c.if-not-contains.ensures

pub invariant_of-self-2 : goal.invariant_of-self-2
invariant_of-self-2 c =
    let short : HasShortBase (wire_of c.in-Some.key) = short_key (wire_name c.args.wire.now) (wire_of c.in-Some.key) c.in-Some.ensures c.requires in
    let more = key_more c.self.inside.keys.keys c.in-Some.key c.self.invariant short in
    subst (λ keys. AreGathered (map wire_of keys)) (sym c.in_ok-insert.ensures.keys) (elim c.else-len-ge-MOST_WIRES.branch [
      | else-len-ge-MOST_WIRES-via-then-len-ge-MOST_WIRES+else-not-contains w ↦ more (inr w.if-not-contains.ensures)
      | else-len-ge-MOST_WIRES-via-else-len-ge-MOST_WIRES w ↦ more (inl (let less = w.if-len-ge-MOST_WIRES.false in let count = c.len.ensures.len in omega arith))
    ])

pub returns-clause-ok : goal.returns-clause-ok
returns-clause-ok c =
    ap (map wire_of) c.in_ok-insert.ensures.keys
    ∙ one_wire c.self.inside.keys.keys c.in-Some.key c.args.self.now (named_wire (wire_name c.args.wire.now)) c.self.view_is c.in-Some.ensures
