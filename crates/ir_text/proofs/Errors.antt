-- The conversion of the errors of reading a text.
use Rattle.std.proofs.Common.{◌≡◌, ◌≤◌, ◌-◌, ◌∙◌, ℕ, List, length, inl, refl, ap, arith}
use Rattle.std.specs.Prelude.{Result, Err}
use Rattle.ir_types.specs.declared.refusal.Refusal.{Refusal}
use Rattle.ir_text_tokens.proofs.Reasons.{of_texts}
use Rattle.ir_text_tokens.specs.declared.fault.Fault.{Fault}
use Rattle.ir_text_types.specs.declared.error.ReadError.{ReadError as Inner}
use Rattle.ir_text_types.specs.declared.error.ReadError.TheVariants as inner
use Rattle.ir_text_operations.specs.declared.single.OpError.{OpError}
use Rattle.ir_text_operations.specs.declared.single.OpError.TheVariants.{Text}
use Rattle.ir_text.specs.declared.error.ReadError.{ReadError}
use Rattle.ir_text.specs.declared.error.ReadError.TheVariants as errors
use Rattle.ir_text.specs.Answers.{IsTextRefusal, IsOpRefusal, error_at}

within : (n left : ℕ) → n - left ≤ n
within n left = omega arith

-- the result is an error of a text, with an offset in the text
pub error_reported : (bytes : List ℕ) (e : Inner) → IsTextRefusal bytes (error_at (length bytes) e)
error_reported bytes inner.Memory = tt
error_reported bytes (inner.Full left) = within (length bytes) left
error_reported bytes (inner.Refused f) = (of_texts f.refusal, within (length bytes) f.left)

-- such an error is also an error of an operation's text
pub reported_of_op : (bytes : List ℕ) (e : ReadError) → IsTextRefusal bytes e → IsOpRefusal bytes e
reported_of_op bytes errors.Memory h = tt
reported_of_op bytes (errors.Full offset) h = h
reported_of_op bytes (errors.Refused refusal offset) h = (inl h.0, h.1)

-- a consequence of every refusal is one of the converted refusal
pub refused_so : {X Y : Type 0} (n : ℕ) (e : Inner) (g : ReadError) (P : Type 0) → ((f : Fault) → ◌≡◌ {A = Result X Inner} (Err e) (Err (inner.Refused f)) → P) → g ≡ error_at n e
    → (r : Refusal) (o : ℕ) → ◌≡◌ {A = Result Y ReadError} (Err g) (Err (errors.Refused r o)) → P
refused_so n inner.Memory g P h same r o k = absurd cc
refused_so n (inner.Full left) g P h same r o k = absurd cc
refused_so n (inner.Refused f) g P h same r o k = h f refl

-- the same for a full context
pub full_so : {X Y : Type 0} (n : ℕ) (e : Inner) (g : ReadError) (P : Type 0) → ((left : ℕ) → ◌≡◌ {A = Result X Inner} (Err e) (Err (inner.Full left)) → P) → g ≡ error_at n e
    → (o : ℕ) → ◌≡◌ {A = Result Y ReadError} (Err g) (Err (errors.Full o)) → P
full_so n inner.Memory g P h same o k = absurd cc
full_so n (inner.Full left) g P h same o k = h left refl
full_so n (inner.Refused f) g P h same o k = absurd cc

-- the error of an operation's text has the error of the text inside
pub text_visited : {X Y : Type 0} (k : OpError) (e g : Inner) → k ≡ Text e → ◌≡◌ {A = Result X Inner} (Err e) (Err g) → ◌≡◌ {A = Result Y OpError} (Err k) (Err (Text g))
text_visited {X} {Y} k e g is same = let one : e ≡ g = cc in ap Err (is ∙ ap Text one)
