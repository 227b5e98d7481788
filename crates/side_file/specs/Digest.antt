-- A number of a name, by which most names are told apart at once. Nothing rests on which number it is.
use Rattle.std.specs.Prelude.{ℕ, ◌*◌, ◌%◌, ◌^◌, List, [], ◌∷◌, bit_xor}

-- a digest with one more byte
abbrev pub digest_with : ℕ → ℕ → ℕ
digest_with digest byte = bit_xor digest byte * 1099511628211 % 2 ^ 64

-- a digest with more bytes
abbrev pub digest_behind : ℕ → List ℕ → ℕ
digest_behind digest [] = digest
digest_behind digest (byte ∷ bytes) = digest_behind (digest_with digest byte) bytes

-- The digest of bytes. (The hash FNV-1a of 64 bits, by Fowler, Noll and Vo.)
abbrev pub digest_of : List ℕ → ℕ
digest_of bytes = digest_behind 14695981039346656037 bytes
