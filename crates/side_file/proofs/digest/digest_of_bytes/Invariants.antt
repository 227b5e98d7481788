use Rattle.std.proofs.Common.{◌≡◌, drop}
use Rattle.side_file.specs.Digest.{digest_behind, digest_of}
use Rattle.side_file.proofs.digest.digest_of_bytes.Given as goal

-- the rest of the bytes makes the digest whole
abbrev pub invariant-loop-byte : goal.invariant-loop-byte
invariant-loop-byte l = digest_behind l.digest (drop l.byte-index l.bytes) ≡ digest_of l.bytes
