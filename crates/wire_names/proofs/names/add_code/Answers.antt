use Rattle.std.proofs.Common.{◌≡◌, ◌∙◌, ap, map, nat_eq, refl, false, ◌++◌, ◌∷◌, []}
use Rattle.std.specs.Cmp.Lexicographic.{pointwise}
use Rattle.std.specs.List.{list_any}
use Rattle.std.specs.Prelude.{if◌then◌else◌}
use Rattle.std.proofs.lemmas.List.{map-append}
use Rattle.wire_names.proofs.Places.{same_place, none_any}
use Rattle.wire_names.proofs.names.add_code.Goals as goal

pub returns-clause-ok : goal.returns-clause-ok
returns-clause-ok c =
    let keys = c.args.codes.now.keys in
    let key = c.in_ok-key.key in
    let copied = c.in_ok-key.ensures.items in
    let absent = same_place (λ k. pointwise nat_eq c.args.code.now k.items) (pointwise nat_eq c.args.code.now) (λ k. k.items) keys (λ k i. refl) ∙ c.requires in
    let fresh : list_any (λ k. pointwise nat_eq key.items k.items) keys ≡ false =
    ap (λ code. list_any (λ k. pointwise nat_eq code k.items) keys) copied ∙ none_any (λ k. pointwise nat_eq c.args.code.now k.items) keys absent in
    ap (map (λ k. k.items)) (c.in_ok-insert.ensures.keys ∙ ap (λ b. if b then keys else keys ++ key ∷ []) fresh)
    ∙ map-append (λ k. k.items) keys (key ∷ [])
    ∙ ap (λ code. map (λ k. k.items) keys ++ code ∷ []) copied
