-- The lengths of lists that are parsed.
use Rattle.std.specs.Prelude.{if◌then◌else◌}
use Rattle.std.specs.Str.{bytes_eq}
use Rattle.std.proofs.Common.{◌≡◌, ℕ, zero, suc, ◌+◌, ◌≤◌, Bool, true, false, List, [], ◌∷◌, ◌++◌, length, Option, Some, None, ap, arith}
use Rattle.std.proofs.lemmas.List.{length-append}
use Rattle.ir_text_tokens.specs.declared.token.Mark.{Mark}
use Rattle.ir_text_tokens.specs.declared.token.Mark.TheVariants.{Comma, Colon, OpenRound, CloseRound, Arrow}
use Rattle.ir_text_types.specs.Outcomes.{Outcome, Read, Wrong, ◌>>=◌, of_option, Parse}
use Rattle.ir_text_types.specs.Lists.{more_from, more_at, list_from, list_at}
use Rattle.ir_text_types.specs.Typed.{Typed, after_typed}
use Rattle.ir_text_types.specs.TypeReading.{types_at, outputs_from, outputs_at, signature_at, many, type_at, function_type_at}
use Rattle.ir_text_operations.specs.OpReading.{signature_here}
use Rattle.ir_text_types.proofs.Worlds.{bind_read, option_read}
use Rattle.ir_text_operations.specs.Openings.{result_types_at}

abbrev pair : {A S : Type 0} → A → S → Outcome (A × S)
pair x s = Read (x, s)

-- a parse has one result
read_parts : {A S : Type 0} (x y : A) (s t : S) → pair x s ≡ pair y t → (x ≡ y) × (s ≡ t)
read_parts {A} {S} x y s t e =
    let p : (x, s) ≡ (y, t) = cc in
    (ap (λ (q : A × S). q.0) p, ap (λ (q : A × S). q.1) p)

module _ {S A : Type 0} (after : Mark → S → Option S) (close : Mark) (p : List A → Parse S A) where
  from_length : (headroom : ℕ) → ((items : List A) (s : S) (xs : List A) (s' : S) → more_at after close p headroom items s ≡ Read (xs, s') → length xs ≤ length items + headroom)
      → (items : List A) (x : A) (mid : S) (xs : List A) (s' : S) (o : Option S) → more_from after close p (more_at after close p headroom) (items ++ x ∷ []) mid o ≡ Read (xs, s') → length xs ≤ length items + suc headroom
  from_length headroom go items x mid xs s' (Some end) e =
      let same = (read_parts (items ++ x ∷ []) xs end s' e).0 in
      rw (← same) (omega (arith, length-append items (x ∷ [])))
  from_length headroom go items x mid xs s' None e =
      let c = option_read (after Comma mid) (more_at after close p headroom (items ++ x ∷ [])) (xs, s') e in
      omega (arith, go (items ++ x ∷ []) c.0 xs s' c.2, length-append items (x ∷ []))

  more_length : (headroom : ℕ) (items : List A) (s : S) (xs : List A) (s' : S) → more_at after close p headroom items s ≡ Read (xs, s') → length xs ≤ length items + headroom
  unfolding more_at
  more_length zero items s xs s' e = absurd cc
  more_length (suc headroom) items s xs s' e =
      let b = bind_read (p items s) (λ x. more_from after close p (more_at after close p headroom) (items ++ x.0 ∷ []) x.1 (after close x.1)) (xs, s') e in
      from_length headroom (more_length headroom) items b.0.0 b.0.1 xs s' (after close b.0.1) b.2

  list_from_length : (headroom : ℕ) (s : S) (xs : List A) (s' : S) (o : Option S) → list_from after close p headroom s o ≡ Read (xs, s') → length xs ≤ headroom
  list_from_length headroom s xs s' (Some end) e = rw (← (read_parts [] xs end s' e).0) (omega arith)
  list_from_length headroom s xs s' None e = omega (arith, more_length headroom [] s xs s' e)

  pub list_length : (headroom : ℕ) (s : S) (xs : List A) (s' : S) → list_at after close p headroom s ≡ Read (xs, s') → length xs ≤ headroom
  unfolding list_at
  list_length headroom s xs s' e = list_from_length headroom s xs s' (after close s) e

types_length : (p : Parse Typed ℕ) (headroom : ℕ) (s : Typed) (xs : List ℕ) (s' : Typed) → types_at p headroom s ≡ Read (xs, s') → length xs ≤ headroom
unfolding types_at
types_length p headroom s xs s' e = list_length after_typed CloseRound (λ before. p) headroom s xs s' e

outputs_length : (p : Parse Typed ℕ) (headroom : ℕ) (s : Typed) (xs : List ℕ) (s' : Typed) (o : Option Typed) → 1 ≤ headroom → outputs_from p headroom s o ≡ Read (xs, s') → length xs ≤ headroom
outputs_length p headroom s xs s' (Some c) h e = types_length p headroom c xs s' e
outputs_length p headroom s xs s' None h e =
    let b = bind_read (p s) (λ x. Read (x.0 ∷ [], x.1)) (xs, s') e in
    rw (← (read_parts (b.0.0 ∷ []) xs b.0.1 s' b.2).0) h

signature_length : (p : Parse Typed ℕ) (headroom : ℕ) (s : Typed) (x : List ℕ × List ℕ) (s' : Typed) → 1 ≤ headroom → signature_at p headroom s ≡ Read (x, s') → length x.1 ≤ headroom
unfolding signature_at outputs_at
signature_length p headroom s x s' h e =
    let i = bind_read (types_at p many s) (λ inputs. of_option (after_typed Arrow inputs.1) >>= λ a. outputs_at p headroom a >>= λ outputs. Read ((inputs.0, outputs.0), outputs.1)) (x, s') e in
    let a = option_read (after_typed Arrow i.0.1) (λ a. outputs_at p headroom a >>= λ outputs. Read ((i.0.0, outputs.0), outputs.1)) (x, s') i.2 in
    let o = bind_read (outputs_at p headroom a.0) (λ outputs. Read ((i.0.0, outputs.0), outputs.1)) (x, s') a.2 in
    let same : o.0.0 ≡ x.1 = ap (λ (q : List ℕ × List ℕ). q.1) (read_parts (i.0.0, o.0.0) x o.0.1 s' o.2).0 in
    rw (← same) (outputs_length p headroom a.0 o.0.0 o.0.1 (after_typed OpenRound a.0) h o.1)

-- an operation has at most 256 results
pub function_type_length : (s : Typed) (x : List ℕ × List ℕ) (s' : Typed) → signature_here s ≡ Read (x, s') → length x.1 ≤ 256
unfolding function_type_at
function_type_length s x s' e =
    let c = option_read (after_typed OpenRound s) (signature_at (type_at s.1.opaque 32) 256) (x, s') e in
    signature_length (type_at s.1.opaque 32) 256 c.0 x s' (omega arith) c.2

-- the same if the types of its operands agree
abbrev tested : Bool → List ℕ × Typed → Outcome (List ℕ × Typed)
tested b x = if b then Read x else Wrong

test_read : (b : Bool) (xs : List ℕ) (t : Typed) (ys : List ℕ) (u : Typed) → tested b (xs, t) ≡ Read (ys, u) → xs ≡ ys
test_read true xs t ys u e = (read_parts xs ys t u e).0
test_read false xs t ys u e = absurd cc

pub outputs_few : (inputs : List ℕ) (s : Typed) (xs : List ℕ) (s' : Typed) → result_types_at inputs s ≡ Read (xs, s') → length xs ≤ 256
unfolding result_types_at
outputs_few inputs s xs s' e =
    let c = option_read (after_typed Colon s) (λ c. signature_here c >>= λ t. tested (bytes_eq inputs t.0.0) (t.0.1, t.1)) (xs, s') e in
    let t = bind_read (signature_here c.0) (λ t. tested (bytes_eq inputs t.0.0) (t.0.1, t.1)) (xs, s') c.2 in
    let same = test_read (bytes_eq inputs t.0.0.0) t.0.0.1 t.0.1 xs s' t.2 in
    rw (← same) (function_type_length c.0 t.0.0 t.0.1 t.1)
