use Rattle.std.proofs.Common.{◌≡◌, true, take, bytes_eq}
use Rattle.std.specs.List.{list_all}
use Rattle.std.specs.Set.{is_member}
use Rattle.records.specs.Profile.{TableKind}
use Rattle.cell_profile.proofs.rules.words_stand.Given as goal

-- the words so far are among the settings
abbrev pub invariant-loop-table : goal.invariant-loop-table
invariant-loop-table l = list_all (λ (table : TableKind). is_member bytes_eq l.settings table.word) (take l.table-index l.tables) ≡ true
