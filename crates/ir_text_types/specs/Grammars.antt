-- Grammars over any state: a value is derived from one state to another.
use Rattle.std.specs.Prelude.{◌≡◌, ◌⊎◌, ℕ, zero, suc, List, [], ◌∷◌, ◌++◌, Some}
use Rattle.ir_text_tokens.specs.declared.token.Mark.{Mark}
use Rattle.ir_text_tokens.specs.declared.token.Mark.TheVariants.{Comma}
use Rattle.ir_text_tokens.specs.Tokens.{Lexeme, mark, next}

abbrev pub Grammar : Type 0 → Type 0 → Type 1
Grammar T B = B → (old new : T) → Type 0

-- P, and then Q with P's value
abbrev pub Then : {T A B : Type 0} → Grammar T A → (A → Grammar T B) → Grammar T B
Then {T = T} {A = A} P Q y old new = (x : A) × (mid : T) × P x old mid × Q x y mid new

-- the end: no more text
abbrev pub Done : {T B : Type 0} → B → Grammar T B
Done y z old new = (z ≡ y) × (new ≡ old)

-- the end, if the condition holds
abbrev pub DoneIf : {T B : Type 0} → Type 0 → B → Grammar T B
DoneIf F y z old new = F × (z ≡ y) × (new ≡ old)

-- P, if the condition holds
abbrev pub When : {T B : Type 0} → Type 0 → Grammar T B → Grammar T B
When F P y old new = F × P y old new

module _ {T : Type 0} (Tok : Mark → T → T → Type 0) where
  -- the mark isn't next
  abbrev pub Not : Mark → T → Type 0
  Not m t = (new : T) → Tok m t new → ⊥

  -- the mark, and then Q
  abbrev pub After : {B : Type 0} → Mark → Grammar T B → Grammar T B
  After m Q y old new = (mid : T) × Tok m old mid × Q y mid new

  -- Q after the mark if the mark is next, otherwise R
  abbrev pub Either : {B : Type 0} → Mark → Grammar T B → Grammar T B → Grammar T B
  Either m Q R y old new = After m Q y old new ⊎ (Not m old × R y old new)

  module _ {B : Type 0} (close : Mark) (P : List B → Grammar T B) where
    -- one item after those of `front`, and then the end, or a comma and one more item; at most `room` items
    unfoldable pub IsMore : ℕ → List B → Grammar T (List B)
    IsMore zero preceding ys old new = ⊥
    IsMore (suc headroom) preceding ys old new =
        (y : B) × (mid : T) × P preceding y old mid
        × ((Tok close mid new × (ys ≡ preceding ++ y ∷ [])) ⊎ (Not close mid × (next : T) × Tok Comma mid next × IsMore headroom (preceding ++ y ∷ []) ys next new))

    -- the closing mark, or items up to the closing mark
    unfoldable pub IsList : ℕ → Grammar T (List B)
    IsList headroom ys old new = (Tok close old new × (ys ≡ [])) ⊎ (Not close old × IsMore headroom [] ys old new)

-- the next token of a text, with the blanks and comments before it
abbrev pub Token : Lexeme → (bytes rest : List ℕ) → Type 0
Token t bytes rest = next bytes ≡ Some (t, rest)

abbrev pub IsMark : Mark → (bytes rest : List ℕ) → Type 0
IsMark m = Token (mark m)
