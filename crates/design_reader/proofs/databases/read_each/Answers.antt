use Rattle.std.proofs.Common.{◌≡◌, ℕ, ◌+◌, ◌≤◌, List, map, take, drop, length, sym, ap, subst, ◌∙◌, arith, rules}
use Rattle.std.specs.Prelude.{Result, Ok, Err}
use Rattle.std.proofs.lemmas.List.{take_all, length-map}
use denote.Ref.{Bor}
use Rattle.records.specs.Database.{TileDb}
use Rattle.fabric.specs.Device.{TypeDb}
use Rattle.answers.specs.Refusals.{Refusal}
use Rattle.design_files.specs.Parsed.{Files}
use Rattle.design_files.specs.Designs.{databases_in}
use Rattle.design_files.specs.Names.{database_name}
use Rattle.design_reader.specs.declared.errors.FileError.{FileError}
use Rattle.design_reader.specs.Answers.{Gives, Refuses, IsName}
use Rattle.design_reader.specs.Reached.{IsDatabaseReached}
use Rattle.design_reader.proofs.InTurn.{names_more, names_split, rises_so_far, kinds_more, of_kind, one_more, next_refuses}
use Rattle.design_reader.proofs.ReadForms.{more_read}
use Rattle.design_reader.proofs.databases.read_each.Goals as goal

pub loop-kind-preserved : goal.loop-kind-preserved
loop-kind-preserved g c =
    let files : Files = g.F.Files.file c.args.files.now in
    let family : List ℕ = c.args.family.now in
    let kinds : List (Bor (List ℕ)) = c.args.kinds.now in
    let i : ℕ = c.loop-kind.kind-index in
    let kind : Bor (List ℕ) = c.kind-item.result in
    let kept = c.loop-kind.invariant in
    let db : TileDb = c.in_ok-database.database in
    let types : List TypeDb = c.loop-kind.databases in
    let more = names_more kinds i kind c.loop-kind-test.true c.kind-item.is in
    record {
      told = λ t. c.in_ok-database.ensures.told (kept.told t);
      content = c.in_ok-database.ensures.content ∙ kept.content;
      read = λ t.
          let here : of_kind files family kind.now ≡ Ok db =
          subst (λ (f : Files). of_kind f family kind.now ≡ Ok db) kept.content (c.in_ok-database.ensures.answer (kept.told t)) in
          ap (databases_in files family) more
          ∙ one_more files family (take i (map (λ k. k.now) kinds)) kind.now types db (kept.read t) here
          ∙ ap (λ (ts : List TypeDb). let r : Result (List TypeDb) Refusal = Ok ts in r) (sym c.in_ok-add.ensures);
      form = more_read types _ (record { kind = kind.now; db = db }) c.in_ok-add.ensures kept.form c.in_ok-database.ensures.form;
      kinds =
          ap (λ (ts : List TypeDb). map (λ u. u.kind) ts) c.in_ok-add.ensures
          ∙ kinds_more types (record { kind = kind.now; db = db }) (take i (map (λ k. k.now) kinds)) (take (i + 1) (map (λ k. k.now) kinds)) kept.kinds more;
      reads = c.in_ok-database.ensures.reads ∙ kept.reads;
      writes = c.in_ok-database.ensures.writes ∙ kept.writes;
    }

pub add-requires : goal.add-requires
add-requires g c =
    let kinds : List (Bor (List ℕ)) = c.args.kinds.now in
    let i : ℕ = c.loop-kind.kind-index in
    let kind : Bor (List ℕ) = c.kind-item.result in
    rises_so_far (map (λ k. k.now) kinds) (map (λ u. u.kind) c.loop-kind.databases) (take i (map (λ k. k.now) kinds)) (drop (i + 1) (map (λ k. k.now) kinds)) kind.now c.requires
    (names_split kinds i kind c.loop-kind-test.true c.kind-item.is) c.loop-kind.invariant.kinds

pub returns-in_err-database-clause-answer : goal.returns-in_err-database-clause-answer
returns-in_err-database-clause-answer g c =
    let files : Files = g.F.Files.file c.args.files.now in
    let family : List ℕ = c.args.family.now in
    let kinds : List (Bor (List ℕ)) = c.args.kinds.now in
    let names = map (λ k. k.now) kinds in
    let i : ℕ = c.loop-kind.kind-index in
    let kind : Bor (List ℕ) = c.kind-item.result in
    let e : FileError = c.in_err-database.field-0.0 in
    let is : c.from_residual.result ≡ Err e = search rules in
    λ told.
    subst (Gives (λ ts. ts) (databases_in files family names) (IsDatabaseReached files family names)) (sym is)
    (next_refuses files family names (take i names) (drop (i + 1) names) kind.now c.loop-kind.databases e
    (names_split kinds i kind c.loop-kind-test.true c.kind-item.is) (c.loop-kind.invariant.read told)
    (subst (λ (f : Files). Refuses (of_kind f family kind.now) (IsName (database_name family kind.now)) e) c.loop-kind.invariant.content
    (c.in_err-database.ensures.answer (c.loop-kind.invariant.told told))))

pub returns-clause-answer : goal.returns-clause-answer
returns-clause-answer g c = λ told.
    let files : Files = g.F.Files.file c.args.files.now in
    let family : List ℕ = c.args.family.now in
    let names = map (λ k. k.now) c.args.kinds.now in
    let many : length names ≤ c.loop-kind.kind-index = rw length-map (omega arith) in
    subst (λ (ns : List (List ℕ)). databases_in files family ns ≡ Ok c.loop-kind.databases) (take_all c.loop-kind.kind-index names many) (c.loop-kind.invariant.read told)
