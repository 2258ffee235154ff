-- Steps that the text alone decides, or its next token.
use Rattle.std.proofs.Common.{◌≡◌, ℕ, List, Option, Some, refl, sym, ap, subst, ◌∙◌, inr}
use Rattle.ir_text_tokens.specs.Tokens.{Lexeme, next}
use Rattle.ir_types.specs.Things.{ContextModel}
use Rattle.ir_types.proofs.Growth.{grows_refl}
use Rattle.ir_text_types.specs.Outcomes.{Outcome, Read, ◌>>=◌, of_option, Parse}
use Rattle.ir_text_types.specs.Typed.{Typed}
use Rattle.ir_text_types.specs.Grammars.{Grammar, Token}
use Rattle.ir_text_types.proofs.Worlds.{option_read, Exact, Comes, step_on, reads_on}
use Rattle.ir_text_types.proofs.TextLaws.{things, Same, text_now}

abbrev kept : {A : Type 0} → ContextModel → A × List ℕ → Outcome (A × Typed)
kept c x = Read (x.0, (x.1, c))

-- a parser of the text alone agrees with its grammar
pub text_exact : {A : Type 0} (c : ContextModel) (p : List ℕ → Option (A × List ℕ)) (P : Grammar (List ℕ) A)
    → ((t t' : List ℕ) (x : A) → p t ≡ Some (x, t') → P x t t') → ((t t' : List ℕ) (x : A) → P x t t' → p t ≡ Some (x, t'))
    → Exact things Same c (λ z x y. x ≡ y) (λ s. of_option (p s.0) >>= λ x. Read (x.0, (x.1, s.1))) P
text_exact {A = A} c p P into from = record {
  found = λ s t x s' g sound h e.
      let b = option_read (p s.0) (kept s.1) (x, s') e in
      let rendered : P b.0.0 t b.0.1 = subst (λ u. P b.0.0 u b.0.1) (text_now s t sound h) (into s.0 b.0.1 b.0.0 b.1) in
      let same : (b.0.0, (b.0.1, s.1)) ≡ (x, s') = cc (b.2) in
      subst (λ (q : A × Typed). Comes things Same (λ z x y. x ≡ y) P s t q.0 q.1) same
      (b.0.0, b.0.1, rendered, record { grows = grows_refl s.1; sound = sound; stands = λ z j w. refl; agree = λ z j w. refl });
  only = λ s t y t' g sound h k.
      let read : p s.0 ≡ Some (y, t') = ap p (text_now s t sound h) ∙ from t t' y k in
      rw read (inr (y, (t', s.1), refl, record { grows = grows_refl s.1; sound = sound; stands = λ z j w. refl; agree = λ z j w. refl }));
}

module _ {A B : Type 0} (c : ContextModel) (R : ContextModel → A → B → Type 0) where
  -- the parse after the token
  pub trailing_exact : (rest : List ℕ) (p : Parse Typed A) (P : Grammar (List ℕ) B) → Exact things Same c R p P → Exact things Same c R (λ s. p (rest, s.1)) (λ y old new. P y rest new)
  trailing_exact rest p P k = record {
    found = λ s t x s' g sound h e.
        let f = k.found (rest, s.1) rest x s' g sound (λ z j w. refl) e in
        (f.0, f.1, f.2, step_on things Same R s (rest, s.1) x f.0 s' f.1 (grows_refl s.1) f.3);
    only = λ s t y t' g sound h j. reads_on things Same R s (rest, s.1) (p (rest, s.1)) y t' (grows_refl s.1) (k.only (rest, s.1) rest y t' g sound (λ z i w. refl) j);
  }

  pub token_exact : (f : Typed → Lexeme → List ℕ → Outcome (A × Typed)) (F : Lexeme → List ℕ → Grammar (List ℕ) B) → ((l : Lexeme) (rest : List ℕ) → Exact things Same c R (λ s. f s l rest) (F l rest))
      → Exact things Same c R (λ s. of_option (next s.0) >>= λ l. f s l.0 l.1) (λ y old new. (l : Lexeme) × (rest : List ℕ) × Token l old rest × F l rest y old new)
  token_exact f F each = record {
    found = λ s t x s' g sound h e.
        let b = option_read (next s.0) (λ l. f s l.0 l.1) (x, s') e in
        let k = (each b.0.0 b.0.1).found s t x s' g sound h b.2 in
        (k.0, k.1, (b.0.0, b.0.1, subst (λ r. Token b.0.0 r b.0.1) (text_now s t sound h) b.1, k.2), k.3);
    only = λ s t y t' g sound h j.
        let token : next s.0 ≡ Some (j.0, j.1) = subst (λ r. Token j.0 r j.1) (sym (text_now s t sound h)) j.2 in
        rw token ((each j.0 j.1).only s t y t' g sound h j.3);
  }
