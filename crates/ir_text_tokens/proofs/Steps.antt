-- One step of the scan, and the result if a body is found.
use Rattle.std.proofs.Common.{◌≡◌, ℕ, zero, suc, ◌≤◌, Bool, true, false, cond, List, [], ◌∷◌, length, drop, Option, Some, None, ◌⊎◌, inl, inr, refl, arith}
use Rattle.std.specs.Prelude.{◌==◌, Ok}
use Rattle.ir_text_tokens.specs.declared.refusal.TextRefusal.{TextRefusal}
use Rattle.ir_text_tokens.specs.declared.refusal.TextRefusal.TheVariants.{TooDeep}
use Rattle.ir_text_tokens.specs.Bodies.{closer_of, fault_of, is_closed, most_open, opened, part_len, refused_at, scan, unless}

pub closing_step : (c o : ℕ) (os cs : List ℕ) → (c == o) ≡ true → scan (o ∷ os) 0 (c ∷ cs) ≡ scan os 0 cs
unfolding scan
closing_step c o os cs e = rw e refl

pub opening_step : (c o d : ℕ) (os cs : List ℕ) → (c == o) ≡ false → closer_of c ≡ Some d → (length (o ∷ os) == most_open) ≡ false → scan (o ∷ os) 0 (c ∷ cs) ≡ scan (d ∷ o ∷ os) 0 cs
unfolding scan
opening_step c o d os cs e h k = rw (e, h, k) refl

pub deep_step : (c o d : ℕ) (os cs : List ℕ) → (c == o) ≡ false → closer_of c ≡ Some d → (length (o ∷ os) == most_open) ≡ true → scan (o ∷ os) 0 (c ∷ cs) ≡ refused_at TooDeep (c ∷ cs)
unfolding scan
deep_step c o d os cs e h k = rw (e, h, k) refl

pub other_step : (c o : ℕ) (os cs : List ℕ) → (c == o) ≡ false → closer_of c ≡ None → scan (o ∷ os) 0 (c ∷ cs) ≡ unless (fault_of c cs) (c ∷ cs) (scan (o ∷ os) (part_len c cs) cs)
unfolding scan
other_step c o os cs e h = rw (e, h) refl

-- the scan skips the bytes of the part that it read
pub passed : (o : ℕ) (os : List ℕ) (n : ℕ) (cs : List ℕ) → n ≤ length cs → scan (o ∷ os) n cs ≡ scan (o ∷ os) 0 (drop n cs)
unfolding scan
passed o os zero cs le = refl
passed o os (suc n) [] le = absurd (omega (arith, le))
passed o os (suc n) (c ∷ cs) le = passed o os n cs (omega (arith, le))

-- ---- if a body is found

-- the byte closes the nearest bracket, or opens another, or does neither
abbrev pub Steps : ℕ → ℕ → List ℕ → List ℕ → List ℕ → Type 0
Steps c o os cs r =
    (((c == o) ≡ true) × (scan os 0 cs ≡ Ok r))
    ⊎ (((c == o) ≡ false) × (d : ℕ) × (closer_of c ≡ Some d) × ((length (o ∷ os) == most_open) ≡ false) × (scan (d ∷ o ∷ os) 0 cs ≡ Ok r))
    ⊎ (((c == o) ≡ false) × (closer_of c ≡ None) × (fault_of c cs ≡ None) × (scan (o ∷ os) (part_len c cs) cs ≡ Ok r))

pub steps : (c o : ℕ) (os cs r : List ℕ) → scan (o ∷ os) 0 (c ∷ cs) ≡ Ok r → Steps c o os cs r
unfolding scan
steps c o os cs r e = from (c == o) refl (closer_of c) refl (length (o ∷ os) == most_open) refl (fault_of c cs) refl e
  where
    from : (t : Bool) → (c == o) ≡ t → (u : Option ℕ) → closer_of c ≡ u → (v : Bool) → (length (o ∷ os) == most_open) ≡ v → (w : Option TextRefusal) → fault_of c cs ≡ w
        → cond t (scan os 0 cs) (cond (is_closed u) (cond v (refused_at TooDeep (c ∷ cs)) (scan (opened u (o ∷ os)) 0 cs)) (unless w (c ∷ cs) (scan (o ∷ os) (part_len c cs) cs))) ≡ Ok r
        → Steps c o os cs r
    from true h u k v l w m e = inl (h, e)
    from false h (Some d) k true l w m e = absurd cc
    from false h (Some d) k false l w m e = inr (inl (h, d, k, l, e))
    from false h None k v l None m e = inr (inr (h, k, m, e))
    from false h None k v l (Some f) m e = absurd cc
