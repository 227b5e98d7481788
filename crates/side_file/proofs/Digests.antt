-- Digests, a byte at a time.
use Rattle.std.proofs.Common.{◌≡◌, ℕ, ◌+◌, ◌<◌, List, length, get_or, drop, ap, sym, ◌∙◌}
use Rattle.std.proofs.lemmas.List.{at_drop_more}
use Rattle.side_file.specs.Digest.{digest_with, digest_behind}

-- one byte more
pub digest_more : (bytes : List ℕ) (digest i byte : ℕ) → i < length bytes → byte ≡ get_or bytes i 0
    → digest_behind (digest_with digest byte) (drop (i + 1) bytes) ≡ digest_behind digest (drop i bytes)
digest_more bytes digest i byte within is =
    ap (λ b. digest_behind (digest_with digest b) (drop (i + 1) bytes)) is ∙ sym (at_drop_more (digest_behind digest) bytes i 0 within)
