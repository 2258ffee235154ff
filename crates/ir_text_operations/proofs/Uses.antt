-- Operands, parsed name first.
use Rattle.std.proofs.Common.{◌≡◌, ℕ, List, Option, Some, None, refl, ◌∙◌}
use Rattle.ir_text_tokens.specs.Scopes.{Binding}
use Rattle.ir_text_tokens.specs.Tokens.{Lexeme, value, next}
use Rattle.ir_text_types.specs.declared.error.ReadError.{ReadError}
use Rattle.ir_text_types.specs.Outcomes.{Outcome, Read, ◌>>=◌, of_option, Fails}
use Rattle.ir_text_types.proofs.ListSteps.{fails_with}
use Rattle.ir_text_names.specs.declared.bound.TypedValue.{TypedValue}
use Rattle.ir_text_types.specs.Typed.{Text}
use Rattle.ir_text_names.specs.NameReading.{name_from, value_name_at}
use Rattle.ir_text_operations.specs.Free.{pack_denoted_by}
use Rattle.ir_text_operations.specs.PrecedingReading.{Frees, member_of, use_from, use_at}

module _ (free : Frees) (here : List (Binding (List TypedValue))) where
  abbrev seen : List ℕ × Text → Outcome (TypedValue × Text)
  seen n = member_of (pack_denoted_by free here n.0) n.1

  by_token : (l : Lexeme) (rest : Text) → use_from free here l rest ≡ (name_from l rest >>= seen)
  by_token (value n) rest = refl
  by_token _ rest = refl

  by_next : (o : Option (Lexeme × Text)) → (of_option o >>= λ t. use_from free here t.0 t.1) ≡ ((of_option o >>= λ t. name_from t.0 t.1) >>= seen)
  by_next (Some t) = by_token t.0 t.1
  by_next None = refl

  use_is : (bytes : Text) → use_at free here bytes ≡ (value_name_at bytes >>= seen)
  unfolding use_at value_name_at
  use_is bytes = by_next (next bytes)

  pub no_name : (bytes : Text) (e : ReadError) → Fails e (value_name_at bytes) → Fails e (use_at free here bytes)
  no_name bytes e f = fails_with e (value_name_at bytes) (use_at free here bytes) (λ none. use_is bytes ∙ rw none refl) (λ none. use_is bytes ∙ rw none refl) f

  pub named : (bytes : Text) (n : List ℕ × Text) → value_name_at bytes ≡ Read n → use_at free here bytes ≡ seen n
  named bytes n e = use_is bytes ∙ rw e refl
