-- Function types of scalar types that the context has.
use Rattle.std.proofs.Common.{◌≡◌, refl, ap, sym, subst, ◌∙◌, ℕ, zero, suc, ◌-◌, ◌≤◌, Bool, true, List, [], ◌∷◌, ◌++◌, length, get_or, take, drop, Option, Some, None, arith}
use Rattle.std.specs.Prelude.{option_map, ◌==◌, IfSome}
use Rattle.std.specs.Str.{bytes_eq}
use Rattle.std.proofs.lemmas.List.{append_assoc, length-map, nil_from_length}
use Rattle.std.proofs.lemmas.Slice.Eq.{bytes_eq-Decides}
use Rattle.std.proofs.lemmas.Bool.{eqb-true}
use Rattle.ir_types.proofs.Truths.{uncons}
use Rattle.ir_text_tokens.specs.declared.token.Mark.TheVariants.{OpenRound, CloseRound, Comma, Colon, Arrow}
use Rattle.ir_types.specs.Limits.{most_depth}
use Rattle.ir_types.specs.Things.{ContextModel}
use Rattle.ir_text_types.specs.Marks.{after}
use Rattle.ir_text_types.specs.Outcomes.{Read, of_option}
use Rattle.ir_text_types.specs.Lists.{more_at, list_at}
use Rattle.ir_text_types.specs.Typed.{Text, after_typed}
use Rattle.ir_text_types.specs.TypeReading.{many, type_at, types_at, outputs_at, signature_at, function_type_at}
use Rattle.ir_text_types.proofs.ListSteps.{got}
use Rattle.ir_text_operations.specs.Openings.{result_types_at}
use Rattle.ir_text_names.specs.declared.bound.TypedValue.{TypedValue}
use Rattle.ir_text_operations.specs.OpReading.{bound_types}
use Rattle.ir_text_operations.specs.ScalarSignatures.{IsTypeAt, AreMoreInputsAt, AreInputsAt, AreOutputsAt, HasInputs}

-- what a result is, by what it is a view of
pub given : {X Y : Type 0} (f : X → Y) (r : Option X) (o : Option Y) → option_map f r ≡ o → IfSome r (λ x. o ≡ Some (f x))
given f (Some x) o h = sym h
given f None o h = tt

-- ---- inputs

module _ (c : ContextModel) (bytes : Text) (n : ℕ) (rest : Text) (is_type : IsTypeAt c bytes n rest) where
  -- the last input
  pub last_input : (end : Text) → after CloseRound rest ≡ Some end → (o : Bool) (headroom : ℕ) (items : List ℕ) → 1 ≤ headroom
      → more_at after_typed CloseRound (λ before. type_at o most_depth) headroom items (bytes, c) ≡ Read (items ++ n ∷ [], (end, c))
  unfolding more_at
  last_input end close o zero items few = absurd (omega (arith, few))
  last_input end close o (suc headroom) items few = rw (is_type o 31, close) refl

  -- an input before others
  pub next_input : (mid : Text) (types : List ℕ) (end : Text) → after CloseRound rest ≡ None → after Comma rest ≡ Some mid → AreMoreInputsAt c mid types end → (o : Bool) (headroom : ℕ) (items : List ℕ) → suc (length types) ≤ headroom
      → more_at after_typed CloseRound (λ before. type_at o most_depth) headroom items (bytes, c) ≡ Read (items ++ n ∷ types, (end, c))
  unfolding more_at
  next_input mid types end close comma others o zero items few = absurd (omega (arith, few))
  next_input mid types end close comma others o (suc headroom) items few =
      rw (is_type o 31, close, comma)
      (others o headroom (items ++ n ∷ []) (omega (arith, few)) ∙ ap (λ (xs : List ℕ). Read (xs, (end, c))) (append_assoc items (n ∷ []) types))

pub no_inputs : (c : ContextModel) (bytes end : Text) → after CloseRound bytes ≡ Some end → AreInputsAt c bytes [] end
unfolding types_at list_at
no_inputs c bytes end close o = rw close refl

pub some_inputs : (c : ContextModel) (bytes : Text) (types : List ℕ) (end : Text) → after CloseRound bytes ≡ None → length types ≤ 256 → AreMoreInputsAt c bytes types end → AreInputsAt c bytes types end
unfolding types_at list_at
some_inputs c bytes types end close few inputs o = rw close (inputs o many [] (omega (arith, few)))

-- ---- the inputs, which have the types of operands

-- the only operand
pub alone : (operands : List TypedValue) (operand d : TypedValue) → 1 ≤ length operands → operand ≡ get_or operands 0 d → (length (take (length operands - 1) (drop 1 operands)) == 0) ≡ true → operands ≡ operand ∷ []
alone operands operand d some first none =
    let tail : List TypedValue = take (length operands - 1) (drop 1 operands) in
    uncons operands operand d (omega (arith, some)) first ∙ ap (λ os. operand ∷ os) (nil_from_length tail (eqb-true (length tail) 0 none))

module _ (c : ContextModel) (bytes rest : Text) (operands : List TypedValue) (operand : TypedValue) (is_type : IsTypeAt c bytes operand.ty rest) (end : Text) where
  pub last_of : operands ≡ operand ∷ [] → after CloseRound rest ≡ Some end → AreMoreInputsAt c bytes (bound_types operands) end
  last_of split close = subst (λ os. AreMoreInputsAt c bytes (bound_types os) end) (sym split) (last_input c bytes operand.ty rest is_type end close)

  pub before_of : (tail : List TypedValue) (mid : Text) → operands ≡ operand ∷ tail → after CloseRound rest ≡ None → after Comma rest ≡ Some mid
      → AreMoreInputsAt c mid (bound_types tail) end → AreMoreInputsAt c bytes (bound_types operands) end
  before_of tail mid split close comma others =
      subst (λ os. AreMoreInputsAt c bytes (bound_types os) end) (sym split) (next_input c bytes operand.ty rest is_type mid (bound_types tail) end close comma others)

pub none_of : (c : ContextModel) (bytes : Text) (operands : List TypedValue) (end : Text) → length operands ≡ 0 → after CloseRound bytes ≡ Some end → AreInputsAt c bytes (bound_types operands) end
none_of c bytes [] end e close = no_inputs c bytes end close
none_of c bytes (x ∷ xs) end e close = absurd (omega (arith, e))

pub some_of : (c : ContextModel) (bytes : Text) (operands : List TypedValue) (end : Text) → after CloseRound bytes ≡ None → length operands ≤ 256
    → AreMoreInputsAt c bytes (bound_types operands) end → AreInputsAt c bytes (bound_types operands) end
some_of c bytes operands end close few inputs = some_inputs c bytes (bound_types operands) end close (omega (arith, few, length-map operands (λ (b : TypedValue). b.ty))) inputs

-- ---- the outputs

pub is_output : (c : ContextModel) (bytes rest : Text) (n : ℕ) → after OpenRound bytes ≡ None → IsTypeAt c bytes n rest → AreOutputsAt c bytes (n ∷ []) rest
unfolding outputs_at
is_output c bytes rest n none is_type o = rw (none, is_type o 31) refl

pub no_output : (bytes opened end : Text) → after OpenRound bytes ≡ Some opened → after CloseRound opened ≡ Some end → (c : ContextModel) → AreOutputsAt c bytes [] end
unfolding outputs_at types_at list_at
no_output bytes opened end opens close c o = rw (opens, close) refl

-- ---- the function type

pub are_inputs : (c : ContextModel) (bytes opened closed arrow : Text) (inputs : List ℕ)
    → after OpenRound bytes ≡ Some opened → AreInputsAt c opened inputs closed → after Arrow closed ≡ Some arrow → HasInputs c bytes inputs arrow
unfolding function_type_at signature_at
are_inputs c bytes opened closed arrow inputs opens ins arrows o outputs end out = rw (opens, ins o, arrows, out) refl

pub is_signature : (c : ContextModel) (bytes arrow : Text) (inputs outputs : List ℕ) (end : Text) → HasInputs c bytes inputs arrow → AreOutputsAt c arrow outputs end
    → (o : Bool) → function_type_at o (bytes, c) ≡ Read ((inputs, outputs), (end, c))
is_signature c bytes arrow inputs outputs end ins out o = ins o outputs end (out o)

same_bytes : (xs : List ℕ) → bytes_eq xs xs ≡ true
same_bytes xs = (bytes_eq-Decides xs xs).1 refl

-- the types of the results
pub are_result_types : (c : ContextModel) (bytes mid : Text) (inputs outputs : List ℕ) (rest : Text) → of_option (after Colon bytes) ≡ Read mid
    → ((o : Bool) → function_type_at o (mid, c) ≡ Read ((inputs, outputs), (rest, c))) → result_types_at inputs (bytes, c) ≡ Read (outputs, (rest, c))
unfolding result_types_at
are_result_types c bytes mid inputs outputs rest colon reads = rw (got (after Colon bytes) mid colon, reads c.opaque, same_bytes inputs) refl
