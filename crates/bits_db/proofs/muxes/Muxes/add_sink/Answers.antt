use Rattle.std.proofs.Common.{◌≡◌, ◌∙◌, ◌++◌, ◌∷◌, [], List, ap}
use Rattle.records.specs.Database.{Arc, Mux}
use Rattle.bits_db.proofs.Names.{names_with_one, no_entry_at_head}
use Rattle.bits_db.proofs.muxes.Muxes.add_sink.Goals as goal

pub returns-clause-known : goal.returns-clause-known
returns-clause-known c =
    let muxes = c.args.self.now.muxes in
    let mux : Mux = record { sink = c.in_ok-name.name; arcs = c.new-arcs.result } in
    let stored : c.push.new.self ≡ muxes ++ mux ∷ [] = c.in_ok-push.ensures.ok ∙ ap (λ (ms : List Mux). ms ++ mux ∷ []) c.in_ok-fit_last.ensures in
    record {
      names = rw stored (names_with_one (λ (m : Mux). m.sink) muxes mux c.args.self.now.sinks c.insert.new.self c.args.sink c.in_ok-name.ensures c.requires.known.names c.in_ok-insert.ensures.known);
      entries = rw stored (no_entry_at_head (λ (a : Arc). a.source) (λ (m : Mux). m.arcs) muxes mux c.clear.new.self c.clear.ensures c.new-arcs.ensures);
    }
