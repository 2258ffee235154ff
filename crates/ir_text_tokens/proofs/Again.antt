-- Reading a body doesn't depend on the text after it.
use Rattle.std.proofs.Common.{◌≡◌, ℕ, zero, suc, ◌+◌, ◌-◌, ◌<◌, ◌≤◌, List, [], ◌∷◌, ◌++◌, length, take, Option, Some, None, inl, inr, refl, sym, ap, ◌∙◌, arith}
use Rattle.std.specs.Prelude.{Result, Ok, Err}
use Rattle.std.proofs.lemmas.List.{length-append}
use Rattle.std.proofs.lemmas.Option.{some_pair_parts}
use Rattle.std.proofs.Math.Seq.{take-append_seam}
use Rattle.ir_text_tokens.specs.declared.fault.Fault.{Fault}
use Rattle.ir_text_tokens.specs.Bodies.{trailing_first, body_at, closer_of, parted, part_len, scan, scanned}
use Rattle.ir_text_tokens.proofs.Steps.{Steps, steps, closing_step, opening_step, other_step}
use Rattle.ir_text_tokens.proofs.KeptBodies.{part_again}

abbrev rest_of : Result (List ℕ) Fault → List ℕ
rest_of (Ok rest) = rest
rest_of (Err fault) = []

same_rest : (a b : List ℕ) (found : Result (List ℕ) Fault) → found ≡ Ok a → found ≡ Ok b → a ≡ b
same_rest a b found e f = ap rest_of (sym e ∙ f)

-- ---- more expected brackets, less text left

closed : (os cs r : List ℕ) → ((p : ℕ) (ps : List ℕ) (n : ℕ) → scan (p ∷ ps) n cs ≡ Ok r → n + length r < length cs) → scan os 0 cs ≡ Ok r → length r < suc (length cs)
unfolding scan
closed [] cs r h e = let k = same_rest cs r (Ok cs) refl e in omega (arith, ap length k)
closed (p ∷ ps) cs r h e = omega (arith, h p ps 0 e)

shorter_step : (o : ℕ) (os : List ℕ) (c : ℕ) (cs r : List ℕ) → ((p : ℕ) (ps : List ℕ) (n : ℕ) → scan (p ∷ ps) n cs ≡ Ok r → n + length r < length cs) → scan (o ∷ os) 0 (c ∷ cs) ≡ Ok r → length r < suc (length cs)
shorter_step o os c cs r h e = from (steps c o os cs r e)
  where
    from : Steps c o os cs r → length r < suc (length cs)
    from (inl s) = closed os cs r h s.1
    from (inr (inl s)) = omega (arith, h s.1 (o ∷ os) 0 s.4)
    from (inr (inr s)) = omega (arith, h o os (part_len c cs) s.3)

pub shorter : (o : ℕ) (os : List ℕ) (n : ℕ) (bs r : List ℕ) → scan (o ∷ os) n bs ≡ Ok r → n + length r < length bs
unfolding scan
shorter o os n [] r e = absurd (cc)
shorter o os (suc n) (c ∷ cs) r e = omega (arith, shorter o os n cs r e)
shorter o os zero (c ∷ cs) r e = omega (arith, shorter_step o os c cs r (λ p ps n f. shorter p ps n cs r f) e)

-- ---- the rest of the text is a suffix

abbrev Ends : List ℕ → List ℕ → Type 0
Ends bs r = (w : List ℕ) × (bs ≡ w ++ r)

longer : (c : ℕ) (bs r : List ℕ) → Ends bs r → Ends (c ∷ bs) r
longer c bs r p = (c ∷ p.0, ap (λ l. c ∷ l) p.1)

ends_step : (o : ℕ) (os : List ℕ) (c : ℕ) (cs r : List ℕ) → ((ps : List ℕ) (n : ℕ) → scan ps n cs ≡ Ok r → Ends cs r) → scan (o ∷ os) 0 (c ∷ cs) ≡ Ok r → Ends (c ∷ cs) r
ends_step o os c cs r h e = from (steps c o os cs r e)
  where
    from : Steps c o os cs r → Ends (c ∷ cs) r
    from (inl s) = longer c cs r (h os 0 s.1)
    from (inr (inl s)) = longer c cs r (h (s.1 ∷ o ∷ os) 0 s.4)
    from (inr (inr s)) = longer c cs r (h (o ∷ os) (part_len c cs) s.3)

ends : (os : List ℕ) (n : ℕ) (bs r : List ℕ) → scan os n bs ≡ Ok r → Ends bs r
unfolding scan
ends [] n bs r e = ([], same_rest bs r (Ok bs) refl e)
ends (o ∷ os) n [] r e = absurd (cc)
ends (o ∷ os) (suc n) (c ∷ cs) r e = longer c cs r (ends (o ∷ os) n cs r e)
ends (o ∷ os) zero (c ∷ cs) r e = ends_step o os c cs r (λ ps n f. ends ps n cs r f) e

-- ---- and another text may replace it

again_step : (c : ℕ) (w : List ℕ) (o : ℕ) (os r rest : List ℕ) → ((ps : List ℕ) (n : ℕ) → scan ps n (w ++ r) ≡ Ok r → scan ps n (w ++ rest) ≡ Ok rest) → scan (o ∷ os) 0 (c ∷ w ++ r) ≡ Ok r → scan (o ∷ os) 0 (c ∷ w ++ rest) ≡ Ok rest
again_step c w o os r rest h e = from (steps c o os (w ++ r) r e)
  where
    from : Steps c o os (w ++ r) r → scan (o ∷ os) 0 (c ∷ w ++ rest) ≡ Ok rest
    from (inl s) = closing_step c o os (w ++ rest) s.0 ∙ h os 0 s.1
    from (inr (inl s)) = opening_step c o s.1 os (w ++ rest) s.0 s.2 s.3 ∙ h (s.1 ∷ o ∷ os) 0 s.4
    from (inr (inr s)) =
        let lt : part_len c (w ++ r) < length w = omega (arith, shorter o os (part_len c (w ++ r)) (w ++ r) r s.3, length-append w r) in
        let k = part_again c w r rest s.2 lt in
        other_step c o os (w ++ rest) s.0 s.1 ∙ rw (k.0, k.1) (h (o ∷ os) (part_len c (w ++ r)) s.3)

again : (w os : List ℕ) (n : ℕ) (r rest : List ℕ) → scan os n (w ++ r) ≡ Ok r → scan os n (w ++ rest) ≡ Ok rest
unfolding scan
again [] [] n r rest e = refl
again [] (o ∷ os) n r rest e = absurd (omega (arith, shorter o os n r r e))
again (c ∷ w) [] n r rest e = absurd (omega (arith, ap length (same_rest (c ∷ w ++ r) r (Ok (c ∷ w ++ r)) refl e), length-append w r))
again (c ∷ w) (o ∷ os) (suc n) r rest e = again w (o ∷ os) n r rest e
again (c ∷ w) (o ∷ os) zero r rest e = again_step c w o os r rest (λ ps n f. again w ps n r rest f) e

-- ---- bodies

preceding : (w q : List ℕ) → take (length (w ++ q) - length q) (w ++ q) ≡ w
preceding w q = let e : length (w ++ q) - length q ≡ length w = omega (arith, length-append w q) in rw e (take-append_seam w q)

-- a body that is found: its opening bracket, the text inside, and its closing bracket
abbrev Found : List ℕ → List ℕ → List ℕ → Type 0
Found bytes b r = (c d : ℕ) × (w : List ℕ) × (closer_of c ≡ Some d) × (bytes ≡ c ∷ w ++ r) × (b ≡ c ∷ w) × (scan (d ∷ []) 0 (w ++ r) ≡ Ok r)

found : (bytes b r : List ℕ) → body_at bytes ≡ Some (b, r) → Found bytes b r
found [] b r e = absurd cc
found (c ∷ cs) b r e = by_bracket (closer_of c) refl e
  where
    by_scan : (d : ℕ) → closer_of c ≡ Some d → (s : Result (List ℕ) Fault) → scan (d ∷ []) 0 cs ≡ s → parted (c ∷ cs) s ≡ Some (b, r) → Found (c ∷ cs) b r
    by_scan d k (Err f) m e = absurd cc
    by_scan d k (Ok q) m e =
        let parts = some_pair_parts (take (length (c ∷ cs) - length q) (c ∷ cs)) b q r e in
        let p = ends (d ∷ []) 0 cs q m in
        let whole : c ∷ cs ≡ c ∷ p.0 ++ q = ap (λ l. c ∷ l) p.1 in
        let is : b ≡ c ∷ p.0 = sym parts.0 ∙ ap (λ l. take (length l - length q) l) whole ∙ preceding (c ∷ p.0) q in
        rw (← parts.1) (c, d, p.0, k, whole, is, ap (scan (d ∷ []) 0) (sym p.1) ∙ m)

    by_bracket : (u : Option ℕ) → closer_of c ≡ u → parted (c ∷ cs) (trailing_first u (c ∷ cs) cs) ≡ Some (b, r) → Found (c ∷ cs) b r
    by_bracket None k e = absurd cc
    by_bracket (Some d) k e = by_scan d k (scan (d ∷ []) 0 cs) refl e

pub stands_at_the_start : (bytes b r : List ℕ) → body_at bytes ≡ Some (b, r) → bytes ≡ b ++ r
stands_at_the_start bytes b r e = let f = found bytes b r e in f.4 ∙ ap (λ l. l ++ r) (sym f.5)

pub reads_again : (bytes b r rest : List ℕ) → body_at bytes ≡ Some (b, r) → body_at (b ++ rest) ≡ Some (b, rest)
reads_again bytes b r rest e =
    let f = found bytes b r e in
    let m = again f.2 (f.1 ∷ []) 0 r rest f.6 in
    rw f.5 (rw (f.3, m) (ap (λ v. Some (v, rest)) (preceding (f.0 ∷ f.2) rest)))

-- the rest of the text after a body is no longer than the text
pub within : (bytes r : List ℕ) → scanned bytes ≡ Ok r → length r ≤ length bytes
within [] r e = absurd cc
within (c ∷ cs) r e = by_bracket (closer_of c) e
  where
    by_bracket : (u : Option ℕ) → trailing_first u (c ∷ cs) cs ≡ Ok r → length r ≤ length (c ∷ cs)
    by_bracket None e = absurd cc
    by_bracket (Some d) e = let p = ends (d ∷ []) 0 cs r e in omega (arith, ap length p.1, length-append p.0 r)
