-- What was read so far grows by what one read gave.
use Rattle.std.proofs.Common.{◌≡◌, ℕ, ◌+◌, ◌≤◌, List, [], ◌++◌, length, take, drop, Option, Some, None, ap, ◌∙◌, arith, length-append, length-drop}
use Rattle.std.proofs.lemmas.List.{length-take-le}
use Rattle.std.proofs.Math.Seq.{take-add}
use Rattle.outside.specs.declared.ReadAnswer.TheVariants.{Got}
use Rattle.outside.specs.Files.{Reads, HoldsPart}

-- these bytes are a front of the file
abbrev pub StartsFile : Option (List ℕ) → List ℕ → Type 0
StartsFile None front = front ≡ []
StartsFile (Some bytes) front = (length front ≤ length bytes) × (take (length front) bytes ≡ front)

part_length : (bytes buffer : List ℕ) (at n : ℕ) → HoldsPart bytes at n buffer → length (take n buffer) ≡ n
part_length bytes buffer at n part =
    ap length part.same ∙ length-take-le n (drop at bytes) (omega (arith, part.within, length-drop at bytes))

pub starts_file_more : (file : Option (List ℕ)) (front buffer : List ℕ) (n : ℕ) → StartsFile file front
    → Reads file (length front) (Got n) buffer → StartsFile file (front ++ take n buffer)
starts_file_more None front buffer n starts part = absurd part
starts_file_more (Some bytes) front buffer n starts part =
    let part_is : length (take n buffer) ≡ n = part_length bytes buffer (length front) n part in
    let grown : length (front ++ take n buffer) ≡ length front + n = length-append front (take n buffer) ∙ ap (λ m. length front + m) part_is in
    let both : take (length front + n) bytes ≡ take (length front) bytes ++ take n (drop (length front) bytes) = take-add (length front) n bytes in
    (omega (arith, grown, part.within), rw grown (rw (both, starts.1, part.same)))
