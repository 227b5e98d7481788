use Rattle.std.proofs.Common.{◌≡◌, ◌++◌, drop, map}
use Rattle.records.specs.Profile.{PadKind}
use Rattle.slice_model.specs.Unnamed.{unnamed_of}
use Rattle.slice_model.proofs.unnamed.add_kinds.Given as goal
use denote.Ref.{Bor}

-- the sites so far and those of the kinds that are left are all
abbrev pub invariant-loop-kind : goal.invariant-loop-kind
invariant-loop-kind l = l.sites.items ++ unnamed_of l.names l.number l.tile (map (λ (k : Bor PadKind). k.now) (drop l.kind-index l.kinds)) ≡ l.fn.sites.items ++ unnamed_of l.names l.number l.tile (map (λ (k : Bor PadKind). k.now) l.kinds)
