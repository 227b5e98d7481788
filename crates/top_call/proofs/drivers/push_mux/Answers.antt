use Rattle.std.proofs.Common.{◌++◌, List, ℕ, ap, ◌∙◌}
use Rattle.records.specs.Database.{Arc, Mux}
use Rattle.cram_image.specs.Image.{bits as bits_in}
use Rattle.texts.specs.Printing.{spaced, line_feed}
use Rattle.answers.specs.Drivers.{no_origin, or_dash, driver_line}
use Rattle.top_call.specs.Longest.{longest_fit, sources_of}
use Rattle.top_call.proofs.Chosen.{line_pushed}
use Rattle.top_call.proofs.drivers.push_mux.Goals as goal

pub returns : goal.returns
returns c =
    let bits = bits_in c.args.image.now in
    let old = c.args.text.now.items in
    let sources = λ (arcs : List Arc). spaced (or_dash (sources_of bits (longest_fit bits no_origin arcs) arcs)) in
    let line = λ (sink : List ℕ) (arcs : List Arc). ((old ++ sink) ++ sources arcs) ++ line_feed in
    c.in_ok-push.ensures.items
    ∙ ap (λ text. text ++ line_feed) (c.in_ok-push_sources.ensures ∙ ap (λ text. text ++ sources c.as_slice.result.now) c.in_ok-extend_from_slice.ensures.items)
    ∙ ap (λ sink. line sink c.as_slice.result.now) c.bytes.ensures.same
    ∙ ap (line c.mux.inside.sink) c.as_slice.ensures
    ∙ line_pushed old bits (record { sink = c.mux.inside.sink; arcs = c.mux.inside.arcs })
    ∙ ap (λ (mux : Mux). old ++ driver_line bits mux) c.mux.view_is
