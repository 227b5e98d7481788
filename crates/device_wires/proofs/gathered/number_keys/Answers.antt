use Rattle.std.proofs.Common.{◌≡◌, ◌++◌, ◌∷◌, [], ap, ◌∙◌, sym, subst, map, append_assoc}
use Rattle.wire_names.specs.Kept.{CanBeKept, number_of_name, with_name}
use Rattle.device_wires.specs.Keys.{wire_of}
use Rattle.device_wires.proofs.InOrder.{is_next}
use Rattle.device_wires.proofs.gathered.number_keys.Goals as goal

pub intern-requires : goal.intern-requires
intern-requires c =
    let whole = map wire_of c.args.keys.now.keys in
    let parts : c.loop-key.names ++ map wire_of (c.in-Some.key.now ∷ c.next.new.self) ≡ whole =
    ap (λ keys. c.loop-key.names ++ map wire_of keys) (sym c.in-Some.ensures.steps) ∙ c.loop-key.invariant in
    subst CanBeKept (sym c.name_of.ensures) (is_next c.loop-key.names (map wire_of c.next.new.self) whole (wire_of c.in-Some.key.now) c.requires parts).short

pub loop-key-preserved : goal.loop-key-preserved
loop-key-preserved c =
    let whole = map wire_of c.args.keys.now.keys in
    let parts : c.loop-key.names ++ map wire_of (c.in-Some.key.now ∷ c.next.new.self) ≡ whole =
    ap (λ keys. c.loop-key.names ++ map wire_of keys) (sym c.in-Some.ensures.steps) ∙ c.loop-key.invariant in
    let next = is_next c.loop-key.names (map wire_of c.next.new.self) whole (wire_of c.in-Some.key.now) c.requires parts in
    let numbered = c.in_ok-intern.ensures.new (ap (number_of_name c.loop-key.names) c.name_of.ensures ∙ next.new) in
    ap (λ names. names ++ map wire_of c.next.new.self) (numbered.1 ∙ ap (with_name c.loop-key.names) c.name_of.ensures)
    ∙ append_assoc c.loop-key.names (wire_of c.in-Some.key.now ∷ []) (map wire_of c.next.new.self)
    ∙ parts
