use Rattle.std.proofs.Common.{◌≡◌, map, take}
use Rattle.std.specs.Prelude.{Ok}
use Rattle.design_files.specs.Designs.{databases_in}
use Rattle.design_reader.specs.Forms.{AreReadDatabases}
use Rattle.design_reader.proofs.databases.read_each.Given as goal

-- the databases of the types so far were read, and no read failed
abbrev pub invariant-loop-kind : goal.invariant-loop-kind
invariant-loop-kind g l =
    let F = g.F.Files in
    let so_far = take l.kind-index (map (λ kind. kind.now) l.kinds) in
    record {
      told : F.told l.fn.files → F.told l.files;
      content : F.file l.files ≡ F.file l.fn.files;
      read : F.told l.fn.files → databases_in (F.file l.fn.files) l.family so_far ≡ Ok l.databases;
      form : AreReadDatabases l.databases;
      kinds : map (λ t. t.kind) l.databases ≡ so_far;
      reads : F.read_faults l.files ≡ F.read_faults l.fn.files;
      writes : F.write_faults l.files ≡ F.write_faults l.fn.files;
    }
