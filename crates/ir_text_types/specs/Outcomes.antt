-- The results of parsing: a value, or `Wrong` if the text is wrong, or `Full` if the context is full.
use Rattle.std.specs.Prelude.{◌≡◌, Option, Some, None, Result, Ok, Err}
use Rattle.ir_types.specs.declared.refusal.Refusal.{Refusal}
use Rattle.ir_types.specs.declared.refusal.Refusal.TheVariants.{TooMany}
use Rattle.ir_text_types.specs.declared.error.ReadError.{ReadError}
use Rattle.ir_text_types.specs.declared.error.ReadError.TheVariants as errors

pub data Outcome (A : Type 0) : Type 0 where
  Read : A → Outcome A
  Wrong : Outcome A
  Full : Outcome A

infixl 10 ◌>>=◌
abbrev pub ◌>>=◌ : {A B : Type 0} → Outcome A → (A → Outcome B) → Outcome B
Read x >>= f = f x
Wrong >>= f = Wrong
Full >>= f = Full

-- a parse that fails only on a wrong text
abbrev pub of_option : {A : Type 0} → Option A → Outcome A
of_option (Some x) = Read x
of_option None = Wrong

-- the interned entry, unless the context refuses it; `TooMany` is the refusal of a full context
abbrev pub interned : {A : Type 0} → Option Refusal → A → Outcome A
interned None x = Read x
interned (Some TooMany) x = Full
interned (Some refusal) x = Wrong

-- a parser of values of A maps a state to a value and a state
abbrev pub Parse : Type 0 → Type 0 → Type 0
Parse S A = S → Outcome (A × S)

-- a function's error agrees with the definition, unless memory ran out
abbrev pub Fails : {Y : Type 0} → ReadError → Outcome Y → Type 0
Fails errors.Memory outcome = Unit {0}
Fails (errors.Full left) outcome = outcome ≡ Full
Fails (errors.Refused fault) outcome = outcome ≡ Wrong

abbrev pub Returns : {X Y : Type 0} → (X → Y) → Result X ReadError → Outcome Y → Type 0
Returns view (Ok x) outcome = outcome ≡ Read (view x)
Returns view (Err e) outcome = Fails e outcome
