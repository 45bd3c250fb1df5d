-- A line as JSON, from what `Value::from_slice` says.
use Rattle.std.proofs.Common.{◌≡◌, ℕ, List, Bool, true, false, refl, Some, None, Ok, Err}
use Rattle.std.specs.Str.{IsUtf8, is_utf8}
use Rattle.std.proofs.lemmas.Str.{is_utf8-from_IsUtf8, IsUtf8-from_is_utf8}
use Rattle.serde_json.specs.Data.{Data}
use Rattle.serde_json.specs.Read.{read}
use Rattle.span_script.specs.declared.reason.Reason.TheVariants.{NotJson}
use Rattle.span_script.specs.Operation.{json_of}

pub json_ok : (line : List ℕ) (d : Data) → IsUtf8 line → read line ≡ Some d → json_of line ≡ Ok d
unfolding json_of
json_ok line d u r = rw (is_utf8-from_IsUtf8 line u, r) refl

refused_at : (line : List ℕ) (b : Bool) → is_utf8 line ≡ b → (IsUtf8 line → read line ≡ None) → json_of line ≡ Err NotJson
unfolding json_of
refused_at line true e h = rw (e, h (IsUtf8-from_is_utf8 line e)) refl
refused_at line false e h = rw e refl

pub json_err : (line : List ℕ) → (IsUtf8 line → read line ≡ None) → json_of line ≡ Err NotJson
json_err line h = refused_at line (is_utf8 line) refl h
