-- The search for a comma: the commas inside a body don't count, and the text after a body doesn't matter to its
-- commas.
use Rattle.std.proofs.Common.{◌≡◌, ℕ, zero, suc, ◌+◌, ◌<◌, Bool, true, false, List, [], ◌∷◌, ◌++◌, length, Some, None, inl, inr, refl, sym, ap, subst, ◌∙◌, arith}
use Rattle.std.specs.Prelude.{◌==◌, ◌&&◌, Ok, not}
use Rattle.std.proofs.lemmas.Bool.{and_parts}
use Rattle.ir_tree.proofs.Counts.{and_false}
use Rattle.std.proofs.lemmas.List.{length-append}
use Rattle.ir_text_tokens.specs.Bodies.{closer_of, comma_ahead, fault_of, is_fine, is_none, most_open, part_len, scan}
use Rattle.ir_text_tokens.proofs.Steps.{Steps, steps}
use Rattle.ir_text_tokens.proofs.Again.{shorter}
use Rattle.ir_text_tokens.proofs.KeptBodies.{part_again}

-- ---- one step

comma : (c o : ℕ) (os cs : List ℕ) → (c == 44 && is_none os) ≡ true → comma_ahead (o ∷ os) 0 (c ∷ cs) ≡ true
unfolding comma_ahead
comma c o os cs n = rw n refl

pub closing : (c o : ℕ) (os cs : List ℕ) → (c == 44 && is_none os) ≡ false → (c == o) ≡ true → comma_ahead (o ∷ os) 0 (c ∷ cs) ≡ comma_ahead os 0 cs
unfolding comma_ahead
closing c o os cs n e = rw (n, e) refl

pub opening : (c o d : ℕ) (os cs : List ℕ) → (c == 44 && is_none os) ≡ false → (c == o) ≡ false → closer_of c ≡ Some d → comma_ahead (o ∷ os) 0 (c ∷ cs) ≡ (not (length (o ∷ os) == most_open) && comma_ahead (d ∷ o ∷ os) 0 cs)
unfolding comma_ahead
opening c o d os cs n e h = rw (n, e, h) refl

pub extra : (c o : ℕ) (os cs : List ℕ) → (c == 44 && is_none os) ≡ false → (c == o) ≡ false → closer_of c ≡ None → comma_ahead (o ∷ os) 0 (c ∷ cs) ≡ (is_fine (fault_of c cs) && comma_ahead (o ∷ os) (part_len c cs) cs)
unfolding comma_ahead
extra c o os cs n e h = rw (n, e, h) refl

-- ---- a comma that is found past a body follows the body

-- closing brackets are expected after the body
module _ (b : ℕ) (bs : List ℕ) where
  some_left : (os : List ℕ) → is_none (os ++ b ∷ bs) ≡ false
  some_left [] = refl
  some_left (o ∷ os) = refl

  hidden : (c : ℕ) (os : List ℕ) → (c == 44 && is_none (os ++ b ∷ bs)) ≡ false
  hidden c os = rw (some_left os) (and_false (c == 44))

  abbrev Passes : List ℕ → ℕ → List ℕ → List ℕ → Type 0
  Passes os n cs r = scan os n cs ≡ Ok r → comma_ahead (os ++ b ∷ bs) n cs ≡ true → comma_ahead (b ∷ bs) 0 r ≡ true

  passes_closed : (os cs r : List ℕ) → ((p : ℕ) (ps : List ℕ) (n : ℕ) → Passes (p ∷ ps) n cs r) → Passes os 0 cs r
  unfolding scan
  passes_closed [] cs r h e k = let same : cs ≡ r = cc e in subst (λ l. comma_ahead (b ∷ bs) 0 l ≡ true) same k
  passes_closed (p ∷ ps) cs r h e k = h p ps 0 e k

  passes_step : (o : ℕ) (os : List ℕ) (c : ℕ) (cs r : List ℕ) → ((p : ℕ) (ps : List ℕ) (n : ℕ) → Passes (p ∷ ps) n cs r) → Passes (o ∷ os) 0 (c ∷ cs) r
  passes_step o os c cs r h e k = from (steps c o os cs r e)
    where
      from : Steps c o os cs r → comma_ahead (b ∷ bs) 0 r ≡ true
      from (inl s) = passes_closed os cs r h s.1 (sym (closing c o (os ++ b ∷ bs) cs (hidden c os) s.0) ∙ k)
      from (inr (inl s)) =
          let p = and_parts (not (length (o ∷ os ++ b ∷ bs) == most_open)) (comma_ahead (s.1 ∷ o ∷ os ++ b ∷ bs) 0 cs) (sym (opening c o s.1 (os ++ b ∷ bs) cs (hidden c os) s.0 s.2) ∙ k) in
          h s.1 (o ∷ os) 0 s.4 p.1
      from (inr (inr s)) =
          let p = and_parts (is_fine (fault_of c cs)) (comma_ahead (o ∷ os ++ b ∷ bs) (part_len c cs) cs) (sym (extra c o (os ++ b ∷ bs) cs (hidden c os) s.0 s.1) ∙ k) in
          h o os (part_len c cs) s.3 p.1

  pub passes : (o : ℕ) (os : List ℕ) (n : ℕ) (cs r : List ℕ) → Passes (o ∷ os) n cs r
  unfolding scan comma_ahead
  passes o os n [] r e k = absurd cc
  passes o os (suc n) (c ∷ cs) r e k = passes o os n cs r e k
  passes o os zero (c ∷ cs) r e k = passes_step o os c cs r (λ p ps n f g. passes p ps n cs r f g) e k

-- ---- a comma in a body is found, whatever text follows the body

again_step : (c : ℕ) (w : List ℕ) (o : ℕ) (os r rest : List ℕ) → ((ps : List ℕ) (n : ℕ) → scan ps n (w ++ r) ≡ Ok r → comma_ahead ps n (w ++ r) ≡ comma_ahead ps n (w ++ rest)) → scan (o ∷ os) 0 (c ∷ w ++ r) ≡ Ok r
    → comma_ahead (o ∷ os) 0 (c ∷ w ++ r) ≡ comma_ahead (o ∷ os) 0 (c ∷ w ++ rest)
again_step c w o os r rest h e = by (c == 44 && is_none os) refl
  where
    from : (c == 44 && is_none os) ≡ false → Steps c o os (w ++ r) r → comma_ahead (o ∷ os) 0 (c ∷ w ++ r) ≡ comma_ahead (o ∷ os) 0 (c ∷ w ++ rest)
    from n (inl s) = closing c o os (w ++ r) n s.0 ∙ h os 0 s.1 ∙ sym (closing c o os (w ++ rest) n s.0)
    from n (inr (inl s)) =
        opening c o s.1 os (w ++ r) n s.0 s.2 ∙ ap (λ t. not (length (o ∷ os) == most_open) && t) (h (s.1 ∷ o ∷ os) 0 s.4) ∙ sym (opening c o s.1 os (w ++ rest) n s.0 s.2)
    from n (inr (inr s)) =
        let lt : part_len c (w ++ r) < length w = omega (arith, shorter o os (part_len c (w ++ r)) (w ++ r) r s.3, length-append w r) in
        let k = part_again c w r rest s.2 lt in
        let same : (is_fine (fault_of c (w ++ r)) && comma_ahead (o ∷ os) (part_len c (w ++ r)) (w ++ r)) ≡ (is_fine (fault_of c (w ++ rest)) && comma_ahead (o ∷ os) (part_len c (w ++ rest)) (w ++ rest)) = rw (s.2, k.0, k.1) (h (o ∷ os) (part_len c (w ++ r)) s.3) in
        extra c o os (w ++ r) n s.0 s.1 ∙ same ∙ sym (extra c o os (w ++ rest) n s.0 s.1)

    by : (t : Bool) → (c == 44 && is_none os) ≡ t → comma_ahead (o ∷ os) 0 (c ∷ w ++ r) ≡ comma_ahead (o ∷ os) 0 (c ∷ w ++ rest)
    by true n = comma c o os (w ++ r) n ∙ sym (comma c o os (w ++ rest) n)
    by false n = from n (steps c o os (w ++ r) r e)

pub again : (w os : List ℕ) (n : ℕ) (r rest : List ℕ) → scan os n (w ++ r) ≡ Ok r → comma_ahead os n (w ++ r) ≡ comma_ahead os n (w ++ rest)
unfolding scan comma_ahead
again w [] n r rest e = refl
again [] (o ∷ os) n r rest e = absurd (omega (arith, shorter o os n r r e))
again (c ∷ w) (o ∷ os) (suc n) r rest e = again w (o ∷ os) n r rest e
again (c ∷ w) (o ∷ os) zero r rest e = again_step c w o os r rest (λ ps n f. again w ps n r rest f) e
