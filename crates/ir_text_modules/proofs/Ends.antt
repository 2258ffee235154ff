-- What may follow an attribute.
use Rattle.std.proofs.Common.{◌≡◌, ℕ, Bool, true, false, List, [], ◌∷◌, refl, sym, subst}
use Rattle.std.specs.Prelude.{◌==◌}
use Rattle.std.proofs.lemmas.Bool.{eqb-true}
use Rattle.ir_text_tokens.specs.declared.token.Mark.TheVariants.{DoubleColon, Less}
use Rattle.ir_text_tokens.specs.Bytes.{is_suffix}
use Rattle.ir_text_tokens.specs.Printing.{Stops}
use Rattle.ir_text_tokens.proofs.Printed.{mark_token}
use Rattle.ir_text_tokens.specs.Bodies.{begins}
use Rattle.ir_text_types.specs.Grammars.{Not, IsMark}
use Rattle.ir_text_modules.specs.Kept.{EndsType}
use Rattle.ir_text_modules.specs.WrittenAttributes.{EndsAttr}
use Rattle.ir_text_modules.proofs.Small.{ends_word}

pub ends_suffix : (o : Bool) (rest : List ℕ) → EndsAttr o rest → Stops is_suffix rest
ends_suffix false rest s = s.0
ends_suffix true rest s = s.0

pub ends_colons : (o : Bool) (rest : List ℕ) → EndsAttr o rest → Not IsMark DoubleColon rest
ends_colons false rest s = s.1
ends_colons true rest s = s.1

pub no_angle : (rest : List ℕ) → Not IsMark Less rest → begins 60 rest ≡ false
no_angle [] n = refl
no_angle (c ∷ cs) n = by (c == 60) refl
  where
    by : (b : Bool) → (c == 60) ≡ b → b ≡ false
    by false e = refl
    by true e = absurd (n cs (subst (λ d. IsMark Less (d ∷ cs) cs) (sym (eqb-true c 60 e)) (mark_token Less cs tt)))

pub ends_type : (o : Bool) (rest : List ℕ) → EndsAttr o rest → EndsType o rest
ends_type false rest s = ends_word rest s.0
ends_type true rest s = (s.0, no_angle rest s.3)
