use Rattle.std.proofs.Common.{◌≡◌, ◌∷◌, ◌++◌, [], List, true, false, Ok, Some, length, nat_lt, refl, sym, ap, ◌∙◌}
use Rattle.records.specs.Database.{Arc, Mux}
use Rattle.records.specs.Limits.{most_pattern_bits}
use Rattle.grammars.specs.BitsDb.{has_sink, has_source}
use Rattle.grammars.specs.RowByRow.{with_arc}
use Rattle.grammars.proofs.Lasts.{with_last_pushed}
use Rattle.bits_db.specs.Known.{last_arcs}
use Rattle.bits_db.proofs.Names.{not_true, entry_known, entries_with_one, names_with_last}
use Rattle.bits_db.proofs.Entries.{long_arc, new_arc}
use Rattle.bits_db.proofs.muxes.Muxes.add_arc.Goals as goal

pub returns-then-is_too_long-clause-muxes : goal.returns-then-is_too_long-clause-muxes
returns-then-is_too_long-clause-muxes c =
    let known = not_true _ (sym c.in_ok-insert.ensures.added ∙ c.if-not-branch.false) in
    let has = entry_known (λ (a : Arc). a.source) (λ (m : Mux). m.arcs) c.args.self.now.muxes c.pop.new.self c.in-Some.mux c.args.self.now.sources c.args.arc.source c.args.source false c.in-Some.ensures c.requires.source c.requires.known.entries known in
    let bits = ap (λ (a : Arc). nat_lt most_pattern_bits (length a.bits)) c.arc.view_is in
    let long : nat_lt most_pattern_bits (length c.args.arc.bits) ≡ true = sym bits ∙ sym c.is_too_long.ensures ∙ c.if-is_too_long.true in
    long_arc c.args.number c.args.self.now.muxes c.pop.new.self c.in-Some.mux c.args.arc _ c.in-Some.ensures has long

pub returns-clause-known : goal.returns-clause-known
returns-clause-known c =
    let muxes = c.args.self.now.muxes in
    let front = c.pop.new.self in
    let mux = c.in-Some.mux in
    let arc = c.args.arc in
    let change : Mux → Mux = λ m. record { sink = m.sink; arcs = m.arcs ++ arc ∷ [] } in
    let pushed : c.push.new.self ≡ c.mux.inside.arcs ++ arc ∷ [] = c.in_ok-push.ensures.ok in
    let stored : c.push-2.new.self ≡ front ++ record { sink = c.mux.inside.sink; arcs = c.push.new.self } ∷ [] = c.in_ok-push-2.ensures.ok in
    let new : c.push-2.new.self ≡ front ++ change mux ∷ [] =
    stored ∙ ap (λ arcs. front ++ record { sink = c.mux.inside.sink; arcs = arcs } ∷ []) pushed
    ∙ ap (λ (m : Mux). front ++ change m ∷ []) c.mux.view_is in
    let all : c.push-2.new.self ≡ with_arc muxes (Some arc) = new ∙ sym (with_last_pushed change front mux) ∙ ap (λ ms. with_arc ms (Some arc)) (sym c.in-Some.ensures) in
    record {
      names = λ q. c.requires.known.names q ∙ sym (ap (λ ms. has_sink ms q) all ∙ names_with_last (λ (m : Mux). m.sink) change (λ m. refl) muxes q);
      entries = λ q.
          entries_with_one (λ (a : Arc). a.source) (λ (m : Mux). m.arcs) front mux (change mux) arc c.args.self.now.sources c.insert.new.self c.args.source c.requires.source refl
          (λ p. c.requires.known.entries p ∙ ap (λ ms. has_source (last_arcs ms) p) c.in-Some.ensures)
          c.in_ok-insert.ensures.known q
          ∙ ap (λ ms. has_source (last_arcs ms) q) (sym new);
    }

pub returns-clause-muxes : goal.returns-clause-muxes
returns-clause-muxes c =
    let front = c.pop.new.self in
    let mux = c.in-Some.mux in
    let arc = c.args.arc in
    let change : Mux → Mux = λ m. record { sink = m.sink; arcs = m.arcs ++ arc ∷ [] } in
    let pushed : c.push.new.self ≡ c.mux.inside.arcs ++ arc ∷ [] = c.in_ok-push.ensures.ok in
    let stored : c.push-2.new.self ≡ front ++ record { sink = c.mux.inside.sink; arcs = c.push.new.self } ∷ [] = c.in_ok-push-2.ensures.ok in
    let new : c.push-2.new.self ≡ front ++ change mux ∷ [] =
    stored ∙ ap (λ arcs. front ++ record { sink = c.mux.inside.sink; arcs = arcs } ∷ []) pushed
    ∙ ap (λ (m : Mux). front ++ change m ∷ []) c.mux.view_is in
    let split : c.args.self.now.muxes ≡ front ++ mux ∷ [] = c.in-Some.ensures in
    let all : with_arc c.args.self.now.muxes (Some arc) ≡ c.push-2.new.self = ap (λ ms. with_arc ms (Some arc)) split ∙ with_last_pushed change front mux ∙ sym new in
    let known = not_true _ (sym c.in_ok-insert.ensures.added ∙ c.if-not-branch.false) in
    let has = entry_known (λ (a : Arc). a.source) (λ (m : Mux). m.arcs) c.args.self.now.muxes front mux c.args.self.now.sources arc.source c.args.source false c.in-Some.ensures c.requires.source c.requires.known.entries known in
    let bits = ap (λ (a : Arc). nat_lt most_pattern_bits (length a.bits)) c.arc.view_is in
    let short : nat_lt most_pattern_bits (length arc.bits) ≡ false = sym bits ∙ sym c.is_too_long.ensures ∙ c.if-is_too_long.false in
    new_arc c.args.number c.args.self.now.muxes front mux arc (with_arc c.args.self.now.muxes (Some arc)) split has short ∙ ap (λ (ms : List Mux). Ok ms) all
