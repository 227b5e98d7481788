use Rattle.std.proofs.Common.{ap, ◌∙◌, bytes_eq, flat_map}
use Rattle.std.specs.List.{list_any}
use Rattle.circuit.specs.Triples.{names_of}
use Rattle.cell_sites.proofs.Finding.{among_entries}
use Rattle.cell_sites.proofs.entries.has_entry.Goals as goal

pub returns : goal.returns
returns c = λ triples held.
    c.contains.ensures ∙ (held.found c.bytes.result ∙ (ap (λ a. list_any (bytes_eq a) (flat_map names_of triples)) c.bytes.ensures.same ∙ among_entries c.args.name.now triples))
