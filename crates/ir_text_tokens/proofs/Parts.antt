-- The rest of the text after a string or a name is the rest after the token.
use Rattle.std.proofs.Common.{◌≡◌, ℕ, suc, ◌+◌, Bool, true, false, cond, List, [], ◌∷◌, length, take, drop, Option, Some, None, refl, sym, ap, ◌∙◌, subst, arith}
use Rattle.std.specs.Prelude.{◌==◌, ◌||◌, ◌&&◌, ◌-◌, not, option_map}
use Rattle.std.proofs.lemmas.List.{length-drop}
use Rattle.std.proofs.lemmas.Bool.{eqb-true}
use Rattle.std.proofs.lemmas.Option.{some_pair_parts}
use Rattle.ir_text_tokens.specs.declared.refusal.TextRefusal.TheVariants.{BadToken}
use Rattle.ir_text_tokens.specs.Strings.{closing}
use Rattle.ir_text_tokens.specs.Tokens.{Lexeme, string, hash, bang, next, skip, string_at, name_at, suffix_len}
use Rattle.ir_text_tokens.specs.Bodies.{begins, fault_of, is_alias, is_sign, is_undivided, part_len}
use Rattle.ir_text_tokens.proofs.KeptBodies.{name_within}
use Rattle.ir_text_tokens.proofs.Facts.{string_token}

pub after_string : (cs rest : List ℕ) (t : Lexeme) → next (34 ∷ cs) ≡ Some (t, rest) → (fault_of 34 cs ≡ None) × (rest ≡ drop (part_len 34 cs) cs)
after_string cs rest t e = from (closing cs) refl (sym (string_token cs) ∙ e)
  where
    from : (o : Option ℕ) → closing cs ≡ o → option_map {U = Lexeme × List ℕ} (λ (x : List ℕ × List ℕ). (string x.0, x.1)) (option_map {U = List ℕ × List ℕ} (λ n. (take n cs, drop (n + 1) cs)) o) ≡ Some (t, rest)
        → (fault_of 34 cs ≡ None) × (rest ≡ drop (part_len 34 cs) cs)
    from None h e = absurd cc
    from (Some n) h e =
        let k : n + 1 ≡ suc n = omega arith in
        let p = some_pair_parts (string (take n cs)) t (drop (n + 1) cs) rest e in
        rw h (refl, sym p.1 ∙ ap (λ m. drop m cs) k)

pub no_string : (cs : List ℕ) → next (34 ∷ cs) ≡ None → fault_of 34 cs ≡ Some BadToken
no_string cs e = from (closing cs) refl (sym (string_token cs) ∙ e)
  where
    from : (o : Option ℕ) → closing cs ≡ o → option_map {U = Lexeme × List ℕ} (λ (x : List ℕ × List ℕ). (string x.0, x.1)) (option_map {U = List ℕ × List ℕ} (λ n. (take n cs, drop (n + 1) cs)) o) ≡ None → fault_of 34 cs ≡ Some BadToken
    from None h e = rw h refl
    from (Some n) h e = absurd cc

hash_token : (cs : List ℕ) → next (35 ∷ cs) ≡ name_at hash cs
unfolding next skip
hash_token [] = refl
hash_token (d ∷ ds) = refl

bang_token : (cs : List ℕ) → next (33 ∷ cs) ≡ name_at bang cs
unfolding next skip
bang_token [] = refl
bang_token (d ∷ ds) = refl

named : (make : List ℕ → Lexeme) (cs rest : List ℕ) (t : Lexeme) → name_at make cs ≡ Some (t, rest) → rest ≡ drop (suffix_len cs) cs
named make cs rest t e = from (suffix_len cs == 0) e
  where
    from : (z : Bool) → option_map {U = Lexeme × List ℕ} (λ (x : List ℕ × List ℕ). (make x.0, x.1)) (cond z None (Some (take (suffix_len cs) cs, drop (suffix_len cs) cs))) ≡ Some (t, rest) → rest ≡ drop (suffix_len cs) cs
    from true e = absurd cc
    from false e = sym (some_pair_parts (make (take (suffix_len cs) cs)) t (drop (suffix_len cs) cs) rest e).1

unnamed : (make : List ℕ → Lexeme) (cs : List ℕ) → name_at make cs ≡ None → cs ≡ drop (suffix_len cs) cs
unnamed make cs e = from (suffix_len cs == 0) refl e
  where
    from : (z : Bool) → (suffix_len cs == 0) ≡ z → option_map {U = Lexeme × List ℕ} (λ (x : List ℕ × List ℕ). (make x.0, x.1)) (cond z None (Some (take (suffix_len cs) cs, drop (suffix_len cs) cs))) ≡ None → cs ≡ drop (suffix_len cs) cs
    from true h e = rw (eqb-true (suffix_len cs) 0 h) refl
    from false h e = absurd cc

by_sign : (P : ℕ → Type 0) → P 35 → P 33 → (c : ℕ) → is_sign c ≡ true → P c
by_sign P a b c e = from (c == 35) refl (c == 33) refl e
  where
    from : (t : Bool) → (c == 35) ≡ t → (u : Bool) → (c == 33) ≡ u → (t || u) ≡ true → P c
    from true h u k e = subst P (sym (eqb-true c 35 h)) a
    from false h true k e = subst P (sym (eqb-true c 33 k)) b
    from false h false k e = absurd cc

pub trailing_name : (c : ℕ) (cs rest : List ℕ) (t : Lexeme) → is_sign c ≡ true → next (c ∷ cs) ≡ Some (t, rest) → rest ≡ drop (suffix_len cs) cs
trailing_name c cs rest t s e = by_sign (λ c. next (c ∷ cs) ≡ Some (t, rest) → rest ≡ drop (suffix_len cs) cs) (λ e. named hash cs rest t (sym (hash_token cs) ∙ e)) (λ e. named bang cs rest t (sym (bang_token cs) ∙ e)) c s e

pub no_name : (c : ℕ) (cs : List ℕ) → is_sign c ≡ true → next (c ∷ cs) ≡ None → cs ≡ drop (suffix_len cs) cs
no_name c cs s e = by_sign (λ c. next (c ∷ cs) ≡ None → cs ≡ drop (suffix_len cs) cs) (λ e. unnamed hash cs (sym (hash_token cs) ∙ e)) (λ e. unnamed bang cs (sym (bang_token cs) ∙ e)) c s e

-- the name is the text between its sigil and the rest
pub alias_is : (c : ℕ) (cs rest : List ℕ) → is_sign c ≡ true → rest ≡ drop (suffix_len cs) cs → (is_undivided (take (length cs - length rest) cs) && not (begins 60 rest)) ≡ is_alias c cs
alias_is c cs rest s e =
    let n = suffix_len cs in
    let k : length cs - length (drop n cs) ≡ n = omega (arith, length-drop n cs, name_within cs) in
    rw e (rw (k, s) refl)
