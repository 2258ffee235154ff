-- An argument of a block is parsed part by part.
use Rattle.std.proofs.Common.{◌≡◌, ℕ, List, [], ◌∷◌, length, Option, Some, None, Result, Ok, Err, refl, ◌∙◌}
use Rattle.std.specs.Prelude.{option_map}
use Rattle.ir_text_tokens.specs.declared.token.Mark.TheVariants.{CloseRound, Comma, Colon}
use Rattle.ir_text_tokens.specs.Scopes.{Scopes}
use Rattle.ir_types.specs.Things.{ContextModel}
use Rattle.ir_tree.specs.declared.value.Value.TheVariants as values
use Rattle.ir_text_types.specs.declared.error.ReadError.{ReadError}
use Rattle.ir_text_types.specs.declared.error.ReadError.TheVariants as errors
use Rattle.ir_text_types.specs.Marks.{after}
use Rattle.ir_text_types.specs.Outcomes.{Outcome, Read, ◌>>=◌, of_option, Fails}
use Rattle.ir_text_types.specs.Typed.{Typed}
use Rattle.ir_text_types.proofs.ListSteps.{fails_with, fails_option}
use Rattle.ir_text_names.specs.declared.bound.TypedValue.{TypedValue}
use Rattle.ir_text_names.specs.declared.lists.AfterItem.{AfterItem}
use Rattle.ir_text_names.specs.declared.lists.AfterItem.TheVariants.{End, More}
use Rattle.ir_text_names.specs.Alike.{IsAlike}
use Rattle.ir_text_names.specs.ListSteps.{IsAfter}
use Rattle.ir_text_names.specs.States.{State, to_bytes, after_in, typed, with_typed, with_scopes}
use Rattle.ir_text_names.specs.NameReading.{value_name_at}
use Rattle.ir_text_names.specs.BlockReading.{bind, arg_after_name, arg_at, colon_type_at, type_here}
use Rattle.ir_text_names.proofs.ItemSteps.{AfterIn}

-- an error of the same kind agrees with the definition if the other one does
pub alike_fails : {A : Type 0} (e other : ReadError) (o : Outcome A) → IsAlike e other → Fails e o → Fails other o
alike_fails errors.Memory other o same f = rw same tt
alike_fails (errors.Full left) other o same f = rw same f
alike_fails (errors.Refused fault) other o same f = rw same.1 f

module _ (id r : ℕ) (before : List ℕ) (s : State) where
  abbrev pack : ℕ → List TypedValue
  pack ty = (record { value = values.Arg id r (length before); ty = ty }) ∷ []

  bound_as : List ℕ → ℕ × Typed → Outcome (ℕ × State)
  bound_as n y = bind n (pack y.0) s.scopes >>= λ scopes. Read (y.0, with_scopes (with_typed s y.1) scopes)

  -- the argument with the type after its colon
  abbrev from_type : List ℕ × List ℕ → Outcome (ℕ × State)
  from_type n = colon_type_at (n.1, s.things) >>= bound_as n.0

  colon_same : (n : List ℕ × List ℕ) (o : Option (List ℕ)) → (of_option (option_map (to_bytes (to_bytes s n.1)) o) >>= λ c. type_here 32 (typed c) >>= λ y. bind n.0 (pack y.0) (to_bytes s n.1).scopes >>= λ scopes. Read (y.0, with_scopes (with_typed (to_bytes s n.1) y.1) scopes))
      ≡ ((of_option (option_map (λ rest. (rest, s.things)) o) >>= type_here 32) >>= bound_as n.0)
  unfolding bound_as
  colon_same n (Some rest) = refl
  colon_same n None = refl

  named_same : (n : List ℕ × List ℕ) → arg_after_name id r (length before) (to_bytes s n.1) n.0 ≡ from_type n
  unfolding colon_type_at
  named_same n = colon_same n (after Colon n.1)

  pub no_name : (e : ReadError) → Fails e (value_name_at s.bytes) → Fails e (arg_at id r before s)
  unfolding arg_at
  no_name e f = fails_with e (value_name_at s.bytes) (arg_at id r before s) (λ none. rw none refl) (λ none. rw none refl) f

  module _ (n : List ℕ × List ℕ) (name : value_name_at s.bytes ≡ Read n) where
    named : arg_at id r before s ≡ from_type n
    unfolding arg_at
    named = rw name (named_same n)

    pub no_type : (e other : ReadError) → IsAlike e other → Fails e (colon_type_at (n.1, s.things)) → Fails other (arg_at id r before s)
    no_type e other same f = alike_fails e other (arg_at id r before s) same (fails_with e (colon_type_at (n.1, s.things)) (arg_at id r before s) (λ none. named ∙ rw none refl) (λ none. named ∙ rw none refl) f)

    module _ (ty : ℕ) (t : Typed) (typed : colon_type_at (n.1, s.things) ≡ Read (ty, t)) where
      with_type : arg_at id r before s ≡ bound_as n.0 (ty, t)
      with_type = named ∙ rw typed refl

      pub not_bound : (e : ReadError) → Fails e (bind n.0 (pack ty) s.scopes) → Fails e (arg_at id r before s)
      unfolding bound_as
      not_bound e f = fails_with e (bind n.0 (pack ty) s.scopes) (arg_at id r before s) (λ none. with_type ∙ rw none refl) (λ none. with_type ∙ rw none refl) f

      pub is_bound : (scopes : Scopes (List TypedValue)) → bind n.0 (pack ty) s.scopes ≡ Read scopes → arg_at id r before s ≡ Read (ty, with_scopes (with_typed s t) scopes)
      unfolding bound_as
      is_bound scopes bound = with_type ∙ rw bound refl

-- what follows an argument, with the names and the context after it
pub trailing_in : (scopes : Scopes (List TypedValue)) (next : ℕ) (c : ContextModel) (bytes : List ℕ) (result : Result AfterItem ReadError) → IsAfter CloseRound bytes result
    → AfterIn after_in CloseRound (record { bytes = bytes; scopes = scopes; next = next; things = c }) result (λ rest. record { bytes = rest; scopes = scopes; next = next; things = c })
trailing_in scopes next c bytes (Ok (End rest)) b = rw b refl
trailing_in scopes next c bytes (Ok (More rest)) b = let going = b.0 in let comma = b.1 in (rw going refl, rw comma refl)
trailing_in scopes next c bytes (Err e) b = let going = b.0 in (rw going refl, fails_option e (after Comma bytes) (of_option (option_map (λ rest. record { bytes = rest; scopes = scopes; next = next; things = c }) (after Comma bytes))) (λ none. rw none refl) b.1)
