-- Whether a memref is opaque depends only on its body.
use Rattle.std.proofs.Common.{◌≡◌, ℕ, ◌+◌, ◌<◌, Bool, true, false, true≢false, List, [], ◌∷◌, ◌++◌, length, Option, Some, None, inl, inr, refl, sym, ap, subst, ◌∙◌, arith}
use Rattle.std.specs.Prelude.{◌==◌, ◌||◌, not, Ok}
use Rattle.std.proofs.lemmas.Bool.{eqb-true}
use Rattle.std.proofs.lemmas.Bool.Decides.{nat_tests}
use Rattle.ir_text_tokens.specs.declared.refusal.TextRefusal.{TextRefusal}
use Rattle.ir_text_tokens.specs.declared.refusal.TextRefusal.TheVariants.{LeftOut}
use Rattle.ir_text_tokens.specs.Bytes.{is_blank}
use Rattle.ir_text_tokens.proofs.Blanks.{skip_nothing}
use Rattle.ir_text_tokens.specs.Tokens.{skip}
use Rattle.ir_text_tokens.specs.Bodies.{begins, closer_of, fault_of, is_plain_body, is_plain_memref, part_len, scan}
use Rattle.ir_text_tokens.proofs.Steps.{Steps, steps}
use Rattle.ir_text_tokens.proofs.Again.{shorter}
use Rattle.ir_text_modules.proofs.Commas as commas

-- ---- blanks

slash_stays : (d : ℕ) (x : List ℕ) → (d == 47) ≡ false → skip (47 ∷ d ∷ x) ≡ 47 ∷ d ∷ x
unfolding skip
slash_stays d x e = rw e refl

blank_goes : (c : ℕ) (x : List ℕ) → is_blank c ≡ true → skip (c ∷ x) ≡ skip x
unfolding skip
blank_goes c [] b = rw b refl
blank_goes c (d ∷ ds) b = let s : (c == 47) ≡ false = grind (arith, nat_tests) in rw (s, b) refl

-- ---- the first byte of a body after blanks

none_some : (o : Option ℕ) (d : ℕ) → o ≡ None → o ≡ Some d → ⊥
none_some o d e f = absurd cc

-- a blank is a plain byte
record IsSpace (c : ℕ) (cs : List ℕ) : Type 0 where
  pub end : (c == 62) ≡ false
  pub opens : closer_of c ≡ None
  pub alone : part_len c cs ≡ 0

is_space : (c : ℕ) (cs : List ℕ) → is_blank c ≡ true → IsSpace c cs
is_space c cs b =
    let round : (c == 40) ≡ false = grind (arith, nat_tests) in
    let square : (c == 91) ≡ false = grind (arith, nat_tests) in
    let curly : (c == 123) ≡ false = grind (arith, nat_tests) in
    let less : (c == 60) ≡ false = grind (arith, nat_tests) in
    let quote : (c == 34) ≡ false = grind (arith, nat_tests) in
    let hash : (c == 35) ≡ false = grind (arith, nat_tests) in
    let bang : (c == 33) ≡ false = grind (arith, nat_tests) in
    let minus : (c == 45) ≡ false = grind (arith, nat_tests) in
    record { end = grind (arith, nat_tests); opens = rw (round, square, curly, less) refl; alone = rw (quote, hash, bang, minus) refl }

blank_scan : (c : ℕ) (cs r : List ℕ) → is_blank c ≡ true → scan (62 ∷ []) 0 (c ∷ cs) ≡ Ok r → scan (62 ∷ []) 0 cs ≡ Ok r
blank_scan c cs r b e = from (is_space c cs b) (steps c 62 [] cs r e)
  where
    from : IsSpace c cs → Steps c 62 [] cs r → scan (62 ∷ []) 0 cs ≡ Ok r
    from f (inl s) = absurd (true≢false (sym s.0 ∙ f.end))
    from f (inr (inl s)) = absurd (none_some (closer_of c) s.1 f.opens s.2)
    from f (inr (inr s)) = subst (λ n. scan (62 ∷ []) n cs ≡ Ok r) f.alone s.3

-- the byte after the blanks of a body and the text after it don't depend on the rest of the text
abbrev pub Blanks : List ℕ → List ℕ → List ℕ → Type 0
Blanks w r rest = (c : ℕ) × (u : List ℕ) × (skip (w ++ r) ≡ c ∷ u ++ r) × (skip (w ++ rest) ≡ c ∷ u ++ rest)

blanks_slash : (w r rest : List ℕ) → scan (62 ∷ []) 0 (47 ∷ w ++ r) ≡ Ok r → Blanks (47 ∷ w) r rest
blanks_slash [] r rest e = from (steps 47 62 [] r r e)
  where
    from : Steps 47 62 [] r r → Blanks (47 ∷ []) r rest
    from (inl s) = absurd (true≢false (sym s.0))
    from (inr (inl s)) = absurd (none_some None s.1 refl s.2)
    from (inr (inr s)) = absurd (omega (arith, shorter 62 [] (part_len 47 r) r r s.3))
blanks_slash (d ∷ w) r rest e = by (d == 47) refl (steps 47 62 [] (d ∷ w ++ r) r e)
  where
    fine : (o : Option TextRefusal) → o ≡ Some LeftOut → o ≡ None → ⊥
    fine o e f = absurd cc

    by : (t : Bool) → (d == 47) ≡ t → Steps 47 62 [] (d ∷ w ++ r) r → Blanks (47 ∷ d ∷ w) r rest
    by false k s = (47, d ∷ w, slash_stays d (w ++ r) k, slash_stays d (w ++ rest) k)
    by true k (inl s) = absurd (true≢false (sym s.0))
    by true k (inr (inl s)) = absurd (none_some None s.1 refl s.2)
    by true k (inr (inr s)) = absurd (fine (fault_of 47 (d ∷ w ++ r)) (rw k refl) s.2)

blanks_step : (c : ℕ) (w r rest : List ℕ) → (scan (62 ∷ []) 0 (w ++ r) ≡ Ok r → Blanks w r rest) → scan (62 ∷ []) 0 (c ∷ w ++ r) ≡ Ok r → Blanks (c ∷ w) r rest
blanks_step c w r rest h e = by (is_blank c) refl (c == 47) refl
  where
    by : (b : Bool) → is_blank c ≡ b → (s : Bool) → (c == 47) ≡ s → Blanks (c ∷ w) r rest
    by true b s k = let f = h (blank_scan c (w ++ r) r b e) in (f.0, f.1, blank_goes c (w ++ r) b ∙ f.2, blank_goes c (w ++ rest) b ∙ f.3)
    by false b false k = (c, w, skip_nothing c (w ++ r) k b, skip_nothing c (w ++ rest) k b)
    by false b true k = subst (λ d. scan (62 ∷ []) 0 (d ∷ w ++ r) ≡ Ok r → Blanks (d ∷ w) r rest) (sym (eqb-true c 47 k)) (blanks_slash w r rest) e

pub blanks_again : (w r rest : List ℕ) → scan (62 ∷ []) 0 (w ++ r) ≡ Ok r → Blanks w r rest
blanks_again [] r rest e = absurd (omega (arith, shorter 62 [] 0 r r e))
blanks_again (c ∷ w) r rest e = blanks_step c w r rest (blanks_again w r rest) e

-- ---- memrefs

star_again : (w r rest : List ℕ) → scan (62 ∷ []) 0 (w ++ r) ≡ Ok r → begins 42 (skip (w ++ r)) ≡ begins 42 (skip (w ++ rest))
star_again w r rest e = let b = blanks_again w r rest e in ap (begins 42) b.2 ∙ sym (ap (begins 42) b.3)

pub plain_again : (w r rest : List ℕ) → scan (62 ∷ []) 0 (w ++ r) ≡ Ok r → is_plain_memref (60 ∷ w ++ r) ≡ is_plain_memref (60 ∷ w ++ rest)
plain_again w r rest e =
    let star = star_again w r rest e in
    let comma = commas.again w (62 ∷ []) 0 r rest e in
    let middle : is_plain_body (60 ∷ w ++ r) ≡ is_plain_body (60 ∷ w ++ rest) = λ i. not (star i || comma i) in
    ap is_plain_body (skip_nothing 60 (w ++ r) refl refl) ∙ middle ∙ sym (ap is_plain_body (skip_nothing 60 (w ++ rest) refl refl))
