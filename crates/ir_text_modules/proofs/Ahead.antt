-- Grammars that depend only on the next token and the rest of the text: leading blanks change nothing.
use Rattle.std.proofs.Common.{◌≡◌, ℕ, zero, suc, List, [], ◌∷◌, refl, sym, ◌∙◌, inl, inr}
use Rattle.ir_text_tokens.specs.declared.token.Mark.{Mark}
use Rattle.ir_text_tokens.specs.Tokens.{Lexeme, next}
use Rattle.ir_text_tokens.proofs.Printed.{blank_passed}
use Rattle.ir_text_types.specs.Grammars.{Grammar, Then, After, Not, Either, IsMore, IsList, Token, IsMark}

abbrev pub Ahead : {B : Type 0} → Grammar (List ℕ) B → Type 0
Ahead {B = B} P = (y : B) (a b new : List ℕ) → next a ≡ next b → P y a new → P y b new

-- no derivation begins with the mark
abbrev pub Lacks : {B : Type 0} → Mark → Grammar (List ℕ) B → Type 0
Lacks {B = B} m P = (y : B) (a new : List ℕ) → P y a new → Not IsMark m a

pub token_ahead : (t : Lexeme) (a b new : List ℕ) → next a ≡ next b → Token t a new → Token t b new
token_ahead t a b new e h = sym e ∙ h

pub not_ahead : (m : Mark) (a b : List ℕ) → next a ≡ next b → Not IsMark m a → Not IsMark m b
not_ahead m a b e h = λ new k. h new (e ∙ k)

pub after_ahead : {B : Type 0} (m : Mark) (Q : Grammar (List ℕ) B) → Ahead (After IsMark m Q)
after_ahead m Q y a b new e h = (h.0, sym e ∙ h.1, h.2)

pub then_ahead : {A B : Type 0} (P : Grammar (List ℕ) A) (Q : A → Grammar (List ℕ) B) → Ahead P → Ahead (Then P Q)
then_ahead P Q first y a b new e h = (h.0, h.1, first h.0 a b h.1 e h.2, h.3)

pub either_ahead : {B : Type 0} (m : Mark) (Q R : Grammar (List ℕ) B) → Ahead R → Ahead (Either IsMark m Q R)
either_ahead m Q R other y a b new e (inl h) = inl (after_ahead m Q y a b new e h)
either_ahead m Q R other y a b new e (inr h) = inr (not_ahead m a b e h.0, other y a b new e h.1)

module _ {B : Type 0} (close : Mark) (P : List B → Grammar (List ℕ) B) (item : (preceding : List B) → Ahead (P preceding)) where
  pub more_ahead : (headroom : ℕ) (preceding : List B) → Ahead (IsMore IsMark close P headroom preceding)
  unfolding IsMore
  more_ahead zero preceding y a b new e h = absurd h
  more_ahead (suc headroom) preceding y a b new e h = (h.0, h.1, item preceding h.0 a b h.1 e h.2, h.3)

  pub list_ahead : (headroom : ℕ) → Ahead (IsList IsMark close P headroom)
  unfolding IsList
  list_ahead headroom y a b new e (inl h) = inl (sym e ∙ h.0, h.1)
  list_ahead headroom y a b new e (inr h) = inr (not_ahead close a b e h.0, more_ahead headroom [] y a b new e h.1)

-- a leading space
pub space : {B : Type 0} (P : Grammar (List ℕ) B) → Ahead P → (y : B) (old new : List ℕ) → P y old new → P y (32 ∷ old) new
space P ahead y old new h = ahead y old (32 ∷ old) new (sym (blank_passed 32 old refl)) h

pub space_token : (t : Lexeme) (old new : List ℕ) → Token t old new → Token t (32 ∷ old) new
space_token t old new h = blank_passed 32 old refl ∙ h

pub space_not : (m : Mark) (old : List ℕ) → Not IsMark m old → Not IsMark m (32 ∷ old)
space_not m old h = not_ahead m old (32 ∷ old) (sym (blank_passed 32 old refl)) h
