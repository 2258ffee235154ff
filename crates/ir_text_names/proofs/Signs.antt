-- Names of results are written if and only if a percent sign comes first.
use Rattle.std.proofs.Common.{◌≡◌, ℕ, Bool, true, false, cond, List, [], ◌∷◌, take, drop, Option, Some, None, refl, ap, sym, ◌∙◌}
use Rattle.std.specs.Prelude.{◌==◌, option_map}
use Rattle.std.proofs.lemmas.Bool.{eqb-true}
use Rattle.ir_text_tokens.specs.Tokens.{Lexeme, value, skip, next, first_token, name_at, name_parts, suffix_len, trailing_first}
use Rattle.ir_text_types.specs.Outcomes.{Read, Wrong, of_option, ◌>>=◌}
use Rattle.ir_text_types.specs.Lists.{more_at}
use Rattle.ir_text_names.specs.NameReading.{names_at, results_at, result_at, value_name_at}

first_is_name : (all r : List ℕ) → trailing_first 37 all ≡ Some r → first_token all ≡ name_at value r
first_is_name [] r e = absurd cc
first_is_name (c ∷ cs) r e = from (c == 37) refl e
  where
    from : (t : Bool) → (c == 37) ≡ t → cond t (Some cs) None ≡ Some r → first_token (c ∷ cs) ≡ name_at value r
    from true h e =
        let same : cs ≡ r = cc in
        rw (eqb-true c 37 h, same) refl
    from false h e = absurd cc

no_names : (bytes : List ℕ) → next bytes ≡ None → names_at bytes ≡ Wrong
unfolding names_at more_at result_at value_name_at
no_names bytes e = rw e refl

pub named_first : (bytes r : List ℕ) → trailing_first 37 (skip bytes) ≡ Some r → results_at bytes ≡ (names_at bytes >>= λ x. Read (Some x.0, x.1))
unfolding results_at next
named_first bytes r e = from (name_parts r) (first_is_name (skip bytes) r e)
  where
    from : (o : Option (List ℕ × List ℕ)) → next bytes ≡ option_map (λ x. (value x.0, x.1)) o → results_at bytes ≡ (names_at bytes >>= λ x. Read (Some x.0, x.1))
    from None h = rw (h, no_names bytes h) refl
    from (Some x) h = rw h refl
