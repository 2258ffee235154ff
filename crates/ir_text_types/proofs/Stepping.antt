-- The context's results and the steps of a parse agree.
use Rattle.std.proofs.Common.{◌≡◌, ℕ, Option, Some, None, refl}
use Rattle.std.specs.Prelude.{Ok, Err}
use Rattle.ir_types.specs.declared.refusal.Refusal.{Refusal}
use Rattle.ir_types.specs.declared.refusal.Refusal.TheVariants as r
use Rattle.ir_types.specs.Reasons.{IsRefusedFor}
use Rattle.ir_text_types.specs.Outcomes.{Read, interned, Fails}
use Rattle.ir_text_types.specs.Errors.{error_of}

-- an accepted call has no reason for a refusal
pub step_reads : {A B : Type 0} (reason : Option Refusal) (x : A) (y : B) → IsRefusedFor reason (Ok x) → interned reason y ≡ Read y
step_reads None x y h = refl
step_reads (Some e) x y h = absurd cc

refusal_fails : {B : Type 0} (e : Refusal) (left : ℕ) (y : B) → Fails (error_of left e) (interned (Some e) y)
refusal_fails r.TooMany left y = refl
refusal_fails r.Memory left y = tt
refusal_fails e left y = refl

-- a refused call has its reason, or memory ran out
pub step_fails : (A : Type 0) {B : Type 0} (reason : Option Refusal) (e : Refusal) (left : ℕ) (y : B) → IsRefusedFor {A = A} reason (Err e) → Fails (error_of left e) (interned reason y)
step_fails A None e left y h = rw h tt
step_fails A (Some reason) e left y h = let same : e ≡ reason = cc in rw same (refusal_fails reason left y)
