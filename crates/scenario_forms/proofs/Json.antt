-- Which text is JSON.
use Rattle.std.proofs.Common.{◌≡◌, ℕ, List, Bool, true, false, cond, Option, Some, None, refl}
use Rattle.std.specs.Str.{IsUtf8, is_utf8}
use Rattle.std.proofs.lemmas.Str.{IsUtf8-from_is_utf8, is_utf8-from_IsUtf8}
use Rattle.serde_json.specs.Data.{Data}
use Rattle.serde_json.specs.Read.{read}
use Rattle.scenario_forms.specs.Reading.{data_of}

pub some_data : (bytes : List ℕ) (d : Data) → IsUtf8 bytes → read bytes ≡ Some d → data_of bytes ≡ Some d
some_data bytes d text is = rw (is_utf8-from_IsUtf8 bytes text) is

either : (b : Bool) (o : Option Data) → (b ≡ true → o ≡ None) → cond b o None ≡ None
either true o h = h refl
either false o h = refl

pub no_data : (bytes : List ℕ) → (IsUtf8 bytes → read bytes ≡ None) → data_of bytes ≡ None
no_data bytes h = either (is_utf8 bytes) (read bytes) (λ e. h (IsUtf8-from_is_utf8 bytes e))
