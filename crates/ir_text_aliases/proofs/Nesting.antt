-- The expected closing brackets in a value as a list, the nearest last.
use Rattle.std.proofs.Common.{◌≡◌, ℕ, ◌+◌, ◌<◌, true, false, List, [], ◌∷◌, ◌++◌, length, take, drop, Option, Some, None, refl, sym, ap, ◌∙◌, arith}
use Rattle.std.specs.Prelude.{◌==◌, reverse, option_map}
use Rattle.std.proofs.lemmas.List.{length-reverse}
use Rattle.ir_text_tokens.specs.declared.refusal.TextRefusal.{TextRefusal}
use Rattle.ir_text_tokens.specs.declared.refusal.TextRefusal.TheVariants.{TooDeep, Unexpected}
use Rattle.ir_text_tokens.specs.Strings.{closing}
use Rattle.ir_text_tokens.specs.Tokens.{Lexeme, string, next}
use Rattle.ir_text_tokens.proofs.Decimals.{eqb_self}
use Rattle.ir_text_tokens.specs.Bodies.{closer_of, closes_nearest, is_closed, opened}
use Rattle.ir_text_tokens.proofs.Walk.{pushed, popped}
use Rattle.ir_text_aliases.specs.Values.{bracket_fault, coming_after, is_first, open_fault}
use Rattle.ir_text_tokens.proofs.Facts.{string_token}

-- ---- strings

pub closed_string : (cs rest : List ℕ) (t : Lexeme) → next (34 ∷ cs) ≡ Some (t, rest) → true ≡ is_closed (closing cs)
closed_string cs rest t e = from (closing cs) (sym (string_token cs) ∙ e)
  where
    from : (o : Option ℕ) → option_map {U = Lexeme × List ℕ} (λ (x : List ℕ × List ℕ). (string x.0, x.1)) (option_map {U = List ℕ × List ℕ} (λ n. (take n cs, drop (n + 1) cs)) o) ≡ Some (t, rest) → true ≡ is_closed o
    from None e = absurd cc
    from (Some n) e = refl

pub open_string : (cs : List ℕ) → next (34 ∷ cs) ≡ None → false ≡ is_closed (closing cs)
open_string cs e = from (closing cs) (sym (string_token cs) ∙ e)
  where
    from : (o : Option ℕ) → option_map {U = Lexeme × List ℕ} (λ (x : List ℕ × List ℕ). (string x.0, x.1)) (option_map {U = List ℕ × List ℕ} (λ n. (take n cs, drop (n + 1) cs)) o) ≡ None → false ≡ is_closed o
    from None e = refl
    from (Some n) e = absurd cc

-- ---- one more bracket

pub misplaced : (c : ℕ) (os : List ℕ) → closes_nearest c ≡ true → open_fault c os ≡ Some Unexpected
misplaced c os e = rw e refl

abbrev Opened : ℕ → List ℕ → List ℕ → Type 0
Opened c items new = (open_fault c (reverse items) ≡ None) × (reverse new ≡ opened (closer_of c) (reverse items))

pub no_bracket : (c : ℕ) (items : List ℕ) → closes_nearest c ≡ false → closer_of c ≡ None → Opened c items items
no_bracket c items e h = (rw (e, h) refl, rw h refl)

pub too_deep : (c d : ℕ) (items : List ℕ) → closes_nearest c ≡ false → closer_of c ≡ Some d → (length items == 32) ≡ true → open_fault c (reverse items) ≡ Some TooDeep
too_deep c d items e h full = rw (e, h, length-reverse items, full) refl

pub one_more : (c d : ℕ) (items new : List ℕ) → closes_nearest c ≡ false → closer_of c ≡ Some d → (length items == 32) ≡ false → new ≡ items ++ d ∷ [] → Opened c items new
one_more c d items new e h headroom p = (rw (e, h, length-reverse items, headroom) refl, ap reverse p ∙ pushed items d ∙ rw h refl)

-- ---- a bracket that closes or opens

abbrev Nested : ℕ → List ℕ → List ℕ → Type 0
Nested c items new = (bracket_fault c (reverse items) ≡ None) × (reverse new ≡ coming_after c (reverse items))

pub closes : (c o : ℕ) (items new : List ℕ) → items ≡ new ++ o ∷ [] → c ≡ o → Nested c items new
closes c o items new p e =
    let k : reverse items ≡ o ∷ reverse new = popped items new o p in
    let f : (c == o) ≡ true = rw e (eqb_self o) in
    (rw (k, f) refl, sym (rw (k, f) refl))

pub not_first : (c o : ℕ) (items new : List ℕ) → items ≡ new ++ o ∷ [] → (c == o) ≡ false → is_first c (reverse items) ≡ false
not_first c o items new p e = rw (popped items new o p, e) refl

pub nested : (c : ℕ) (items old new : List ℕ) → is_first c (reverse old) ≡ false → items ≡ old → Opened c items new → Nested c old new
nested c items old new e s h = rw (e, ← s) h

pub nested_fault : (c : ℕ) (items old : List ℕ) (x : TextRefusal) → is_first c (reverse old) ≡ false → items ≡ old → open_fault c (reverse items) ≡ Some x → bracket_fault c (reverse old) ≡ Some x
nested_fault c items old x e s h = rw (e, ← s) h

pub none_first : (c : ℕ) (items : List ℕ) → (0 < length items → ⊥) → is_first c (reverse items) ≡ false
none_first c [] n = refl
none_first c (o ∷ os) n = absurd (n (omega arith))
