-- Punctuation marks in a text.
use Rattle.std.proofs.Common.{◌≡◌, ℕ, true, cond, List, Option, Some, None, refl, sym, ap, subst, ◌∙◌}
use Rattle.std.specs.Prelude.{option_map, option_and_then, ◌==◌, if◌then◌else◌}
use Rattle.std.proofs.lemmas.Bool.{eqb-true}
use Rattle.std.proofs.lemmas.Option.{cond_some}
use Rattle.ir_text_tokens.specs.declared.token.Mark.{Mark}
use Rattle.ir_text_tokens.specs.declared.token.Mark.TheVariants.{OpenRound, CloseRound, OpenCurly, CloseCurly, OpenSquare, CloseSquare, Less, Greater, Comma, Equal, Colon, DoubleColon, Minus, Arrow, Question, Star, End}
use Rattle.ir_text_tokens.specs.Tokens.{Lexeme, mark, next}
use Rattle.ir_types.specs.Things.{ContextModel}
use Rattle.ir_types.specs.Sound.{IsSound}
use Rattle.ir_types.proofs.Growth.{grows_refl}
use Rattle.ir_text_types.specs.Marks.{mark_code, is_mark, after}
use Rattle.ir_text_types.specs.Grammars.{IsMark, Not}
use Rattle.ir_text_types.specs.Typed.{Typed, after_typed}
use Rattle.ir_text_types.specs.Worlds.{From}
use Rattle.ir_text_types.proofs.Worlds.{Marks}

-- ---- marks

abbrev mark_from : ℕ → Mark
mark_from c =
    cond (c == 40) OpenRound (cond (c == 41) CloseRound (cond (c == 123) OpenCurly (cond (c == 125) CloseCurly (cond (c == 91) OpenSquare (cond (c == 93) CloseSquare (cond (c == 60) Less (cond (c == 62) Greater
    (cond (c == 44) Comma (cond (c == 61) Equal (cond (c == 58) Colon (cond (c == 2) DoubleColon (cond (c == 45) Minus (cond (c == 1) Arrow (cond (c == 63) Question (cond (c == 42) Star End)))))))))))))))

mark_from_code : (m : Mark) → mark_from (mark_code m) ≡ m
mark_from_code OpenRound = refl
mark_from_code CloseRound = refl
mark_from_code OpenCurly = refl
mark_from_code CloseCurly = refl
mark_from_code OpenSquare = refl
mark_from_code CloseSquare = refl
mark_from_code Less = refl
mark_from_code Greater = refl
mark_from_code Comma = refl
mark_from_code Equal = refl
mark_from_code Colon = refl
mark_from_code DoubleColon = refl
mark_from_code Minus = refl
mark_from_code Arrow = refl
mark_from_code Question = refl
mark_from_code Star = refl
mark_from_code End = refl

same_mark : (k m : Mark) → (mark_code k == mark_code m) ≡ true → k ≡ m
same_mark k m e = sym (mark_from_code k) ∙ ap mark_from (eqb-true _ _ e) ∙ mark_from_code m

is_mark_is : (m : Mark) (t : Lexeme) → is_mark m t ≡ true → t ≡ mark m
is_mark_is m (mark k) e = ap mark (same_mark k m e)
is_mark_is m _ e = absurd cc

is_mark_self : (m : Mark) → is_mark m (mark m) ≡ true
is_mark_self OpenRound = refl
is_mark_self CloseRound = refl
is_mark_self OpenCurly = refl
is_mark_self CloseCurly = refl
is_mark_self OpenSquare = refl
is_mark_self CloseSquare = refl
is_mark_self Less = refl
is_mark_self Greater = refl
is_mark_self Comma = refl
is_mark_self Equal = refl
is_mark_self Colon = refl
is_mark_self DoubleColon = refl
is_mark_self Minus = refl
is_mark_self Arrow = refl
is_mark_self Question = refl
is_mark_self Star = refl
is_mark_self End = refl

abbrev trailing : Mark → Lexeme × List ℕ → Option (List ℕ)
trailing m t = if is_mark m t.0 then Some t.1 else None

abbrev pair : Lexeme → List ℕ → Option (Lexeme × List ℕ)
pair t rest = Some (t, rest)

trailing_found : (m : Mark) (o : Option (Lexeme × List ℕ)) (rest : List ℕ) → option_and_then (trailing m) o ≡ Some rest → o ≡ pair (mark m) rest
trailing_found m None rest e = absurd cc
trailing_found m (Some t) rest e =
    let c = cond_some (is_mark m t.0) t.1 rest e in
    ap (λ l. pair l t.1) (is_mark_is m t.0 c.0) ∙ ap (pair (mark m)) c.1

pub after_found : (m : Mark) (bytes rest : List ℕ) → after m bytes ≡ Some rest → IsMark m bytes rest
unfolding after
after_found m bytes rest e = trailing_found m (next bytes) rest e

pub after_only : (m : Mark) (bytes rest : List ℕ) → IsMark m bytes rest → after m bytes ≡ Some rest
unfolding after
after_only m bytes rest e = rw (e, is_mark_self m) refl

pub after_none : (m : Mark) (bytes : List ℕ) → after m bytes ≡ None → Not IsMark m bytes
after_none m bytes e = λ rest t. let s = after_only m bytes rest t in absurd cc

none_from : (m : Mark) (bytes : List ℕ) (o : Option (List ℕ)) → after m bytes ≡ o → Not IsMark m bytes → o ≡ None
none_from m bytes None e h = refl
none_from m bytes (Some rest) e h = absurd (h rest (after_found m bytes rest e))

pub none_after : (m : Mark) (bytes : List ℕ) → Not IsMark m bytes → after m bytes ≡ None
none_after m bytes h = none_from m bytes (after m bytes) refl h

-- ---- a text with the context

abbrev pub things : Typed → ContextModel
things s = s.1

-- the same text is left in both states
abbrev pub Same : ContextModel → Typed → List ℕ → Type 0
Same z s t = s.0 ≡ t

abbrev with_things : ContextModel → List ℕ → Typed
with_things c r = (r, c)

map_found : (o : Option (List ℕ)) (c : ContextModel) (s' : Typed) → option_map (with_things c) o ≡ Some s' → (r : List ℕ) × (o ≡ Some r) × (s' ≡ (r, c))
map_found None c s' e = absurd cc
map_found (Some r) c s' e = (r, refl, cc)

map_none : (o : Option (List ℕ)) (c : ContextModel) → option_map (with_things c) o ≡ None → o ≡ None
map_none None c e = refl
map_none (Some r) c e = absurd cc

-- the texts agree in the present context
pub text_now : (s : Typed) (t : List ℕ) → IsSound s.1 → From (λ z. Same z s t) s.1 → s.0 ≡ t
text_now s t sound h = h s.1 (grows_refl s.1) sound

pub typed_marks : Marks things Same after_typed IsMark
typed_marks = record {
  found = λ m s t s' sound h e.
      let b = map_found (after m s.0) s.1 s' e in
      rw (← text_now s t sound h, b.2) (b.0, after_found m s.0 b.0 b.1, grows_refl s.1, sound, λ z g w. refl);
  only = λ m s t t' sound h k. ((t', s.1), rw (after_only m s.0 t' (subst (λ b. IsMark m b t') (sym (text_now s t sound h)) k)) refl, grows_refl s.1, sound, λ z g w. refl);
  none = λ m s t sound h e. subst (λ b. Not IsMark m b) (text_now s t sound h) (after_none m s.0 (map_none (after m s.0) s.1 e));
  lacks = λ m s t sound h e. rw (none_after m s.0 (subst (λ b. Not IsMark m b) (sym (text_now s t sound h)) e)) refl;
}
