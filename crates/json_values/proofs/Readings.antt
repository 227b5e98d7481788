-- Where bytes are text, their reading is that of `serde_json`; where they aren't, there is none.
use Rattle.std.proofs.Common.{◌≡◌, ℕ, List, Bool, true, false, Some, None, cond, refl}
use Rattle.std.specs.Str.{IsUtf8, is_utf8}
use Rattle.std.proofs.lemmas.Str.{IsUtf8-from_is_utf8, is_utf8-from_IsUtf8}
use Rattle.serde_json.specs.Data.{Data}
use Rattle.serde_json.specs.Read.{read}
use Rattle.json_forms.specs.Values.{reading_of}

pub text_is_read : (bytes : List ℕ) (d : Data) → IsUtf8 bytes → read bytes ≡ Some d → reading_of bytes ≡ Some d
unfolding reading_of
text_is_read bytes d text e = rw (is_utf8-from_IsUtf8 bytes text) e

none_by_test : (bytes : List ℕ) (b : Bool) → is_utf8 bytes ≡ b → (IsUtf8 bytes → read bytes ≡ None) → cond b (read bytes) None ≡ None
none_by_test bytes true e none = none (IsUtf8-from_is_utf8 bytes e)
none_by_test bytes false e none = refl

pub none_is_read : (bytes : List ℕ) → (IsUtf8 bytes → read bytes ≡ None) → reading_of bytes ≡ None
unfolding reading_of
none_is_read bytes none = none_by_test bytes (is_utf8 bytes) refl none
