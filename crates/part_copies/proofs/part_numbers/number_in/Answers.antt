use Rattle.std.proofs.Common.{ap, ◌∙◌}
use Rattle.cell_parts.specs.PartViews.{part_of}
use Rattle.part_triples.specs.Places.{place_in}
use Rattle.part_copies.proofs.Keyed.{no_name, no_key, key_told}
use Rattle.part_copies.proofs.part_numbers.number_in.Goals as goal

pub returns-in-None : goal.returns-in-None
returns-in-None c = λ all held. no_name c.args.names.now c.args.numbers.now c.args.cell.now (part_of c.args.part) all held (c.in-None.ensures.value ∙ ap (place_in c.args.names.now) c.bytes.ensures.same)

pub returns-in-None-get : goal.returns-in-None-get
returns-in-None-get c = λ all held.
    no_key c.args.names.now c.args.numbers.now c.args.cell.now (part_of c.args.part) all held c.in-Some.number.now c.code_of.result
    (c.in-Some.ensures.value ∙ ap (place_in c.args.names.now) c.bytes.ensures.same) c.code_of.ensures c.in-None-get.ensures.value

pub returns-in-Some-get : goal.returns-in-Some-get
returns-in-Some-get c = λ all held.
    key_told c.args.names.now c.args.numbers.now c.args.cell.now (part_of c.args.part) all held c.in-Some.number.now c.code_of.result c.in-Some-get.place.now c.from_u32.result
    (c.in-Some.ensures.value ∙ ap (place_in c.args.names.now) c.bytes.ensures.same) c.code_of.ensures c.in-Some-get.ensures.value c.from_u32.ensures
