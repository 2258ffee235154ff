-- A text that is read into a new context.
use Rattle.std.proofs.Common.{◌≡◌, ◌≤◌, ℕ, Bool, true, false, List, length, Option, Some, None, refl, arith}
use Rattle.std.specs.Prelude.{Result, Ok, Err, IfOk, if◌then◌else◌, nat_lt, not, ◌==◌}
use Rattle.std.specs.Str.Lossy.{utf8_valid_len}
use Rattle.std.proofs.lemmas.Bool.Decides.{nat_tests}
use Rattle.ir_text_tokens.specs.declared.refusal.TextRefusal.{TextRefusal}
use Rattle.ir_text_tokens.specs.declared.refusal.TextRefusal.TheVariants.{TooMany, NotUtf8}
use Rattle.ir_types.specs.Things.{ContextModel}
use Rattle.ir_tree.specs.Tree.{Op}
use Rattle.ir_text_tokens.specs.Limits.{most_bytes, text_reason}
use Rattle.ir_text_types.specs.declared.error.ReadError.{ReadError}
use Rattle.ir_text_operations.specs.Claims.{IsOnly, IsNone, IsBody, IsSource}
use Rattle.ir_text_operations.specs.Spelling.{IsExplicit}
use Rattle.ir_text_operations.proofs.Modules.{body_is_source}

pub source_read : (o : Bool) (bytes : List ℕ) (r : Result (ContextModel × Op) ReadError) → IsNone (IsExplicit o bytes) → IfOk r (λ x. IsOnly (IsBody o bytes) x.0 x.1) → IfOk r (λ x. IsOnly (IsSource o bytes) x.0 x.1)
source_read o bytes (Ok x) none h = body_is_source o bytes x.0 x.1 none h
source_read o bytes (Err e) none h = tt

-- a text that isn't refused is within its limit
pub within_limit : (bytes : List ℕ) → None ≡ text_reason bytes → length bytes ≤ 16777216
within_limit bytes e = by (nat_lt most_bytes (length bytes)) refl e
  where
    Reason : Type 0
    Reason = Option (TextRefusal × ℕ)

    too_many : Reason
    too_many = Some (TooMany, most_bytes)

    not_utf8 : Reason
    not_utf8 = if not (utf8_valid_len bytes == length bytes) then Some (NotUtf8, utf8_valid_len bytes) else None

    few : (n : ℕ) → nat_lt 16777216 n ≡ false → n ≤ 16777216
    few n h = grind (arith, nat_tests)

    by : (b : Bool) → nat_lt most_bytes (length bytes) ≡ b → ◌≡◌ {A = Reason} None (if b then too_many else not_utf8) → length bytes ≤ 16777216
    by true h e = absurd cc
    by false h e = few (length bytes) h
