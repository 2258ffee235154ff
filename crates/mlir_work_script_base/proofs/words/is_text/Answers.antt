use Rattle.std.proofs.Common.{◌≡◌, ◌∙◌, List, ℕ, Bool, true, false, sym, refl, Result, Ok, Err}
use Rattle.std.specs.Result.{MatchResult, is_ok}
use Rattle.std.specs.Str.{IsUtf8, is_utf8}
use Rattle.std.proofs.lemmas.Str.{is_utf8-from_IsUtf8, IsUtf8-from_is_utf8}
use Rattle.mlir_work_script_base.proofs.words.is_text.Goals as goal

not_text : (bs : List ℕ) (t : Bool) → ¬ (IsUtf8 bs) → is_utf8 bs ≡ t → false ≡ t
not_text bs false h e = refl
not_text bs true h e = absurd (h (IsUtf8-from_is_utf8 bs e))

text_test : {S E : Type 0} (A : S → Type 0) (B : E → Type 0) (bs : List ℕ) (r : Result S E) → MatchResult r (λ s. A s × IsUtf8 bs) (λ e. ¬ (IsUtf8 bs) × B e) → is_ok r ≡ is_utf8 bs
text_test A B bs (Ok s) h = sym (is_utf8-from_IsUtf8 bs h.1)
text_test A B bs (Err e) h = not_text bs (is_utf8 bs) h.0 refl

pub returns : goal.returns
returns c = c.is_ok.ensures.value ∙ text_test _ _ c.args.line.now c.from_utf8.result c.from_utf8.ensures.cases
