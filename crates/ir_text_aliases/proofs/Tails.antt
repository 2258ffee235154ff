-- The rest of the text after a part is a suffix of the text.
use Rattle.std.proofs.Common.{◌≡◌, ℕ, zero, suc, ◌-◌, ◌≤◌, Bool, true, false, cond, List, [], ◌∷◌, ◌++◌, length, take, drop, Option, Some, None, refl, sym, ap, ◌∙◌, subst, append_assoc, arith}
use Rattle.std.specs.Prelude.{◌==◌, Result, Ok, Err}
use Rattle.std.proofs.lemmas.List.{length-append, take-append-drop}
use Rattle.std.proofs.Math.Seq.{drop-append_seam}
use Rattle.ir_text_tokens.specs.declared.refusal.TextRefusal.{TextRefusal}
use Rattle.ir_text_tokens.specs.declared.refusal.TextRefusal.TheVariants.{Unexpected}
use Rattle.ir_text_tokens.specs.declared.fault.Fault.{Fault}
use Rattle.ir_text_tokens.specs.Bytes.{is_blank}
use Rattle.ir_text_tokens.specs.Tokens.{is_comment, skip, skip_line}
use Rattle.ir_text_tokens.specs.Bodies.{refused_at}
use Rattle.ir_text_aliases.specs.Lexemes.{lexeme_len, word_len}
use Rattle.ir_text_aliases.specs.Places.{trailing_loc, located, place_end, place_fault}
use Rattle.ir_text_aliases.specs.Places as places
use Rattle.ir_text_aliases.specs.Values.{coming_after}

abbrev pub IsTail : List ℕ → List ℕ → Type 0
IsTail bs r = (w : List ℕ) × (bs ≡ w ++ r)

pub same : (bs : List ℕ) → IsTail bs bs
same bs = ([], refl)

pub longer : (c : ℕ) (bs r : List ℕ) → IsTail bs r → IsTail (c ∷ bs) r
longer c bs r p = (c ∷ p.0, ap (λ l. c ∷ l) p.1)

pub within : (a b r : List ℕ) → IsTail a b → IsTail b r → IsTail a r
within a b r p q = (p.0 ++ q.0, p.1 ∙ ap (λ l. p.0 ++ l) q.1 ∙ sym (append_assoc p.0 q.0 r))

pub dropped : (n : ℕ) (bs : List ℕ) → IsTail bs (drop n bs)
dropped n bs = (take n bs, sym (take-append-drop n bs))

pub shorter : (bs r : List ℕ) → IsTail bs r → length r ≤ length bs
shorter bs r p = omega (arith, ap length p.1, length-append p.0 r)

pub is_drop : (bs r : List ℕ) → IsTail bs r → r ≡ drop (length bs - length r) bs
is_drop bs r p =
    let k : length bs - length r ≡ length p.0 = omega (arith, ap length p.1, length-append p.0 r) in
    sym (ap (λ n. drop n bs) k ∙ ap (drop (length p.0)) p.1 ∙ drop-append_seam p.0 r)

by_skip : (c : ℕ) (cs : List ℕ) (t u : Bool) → IsTail cs (skip_line cs) → IsTail cs (skip cs) → IsTail (c ∷ cs) (cond t (skip_line cs) (cond u (skip cs) (c ∷ cs)))
by_skip c cs true u p q = longer c cs (skip_line cs) p
by_skip c cs false true p q = longer c cs (skip cs) q
by_skip c cs false false p q = same (c ∷ cs)

by_line : (c : ℕ) (cs : List ℕ) (t : Bool) → IsTail cs (skip_line cs) → IsTail cs (skip cs) → IsTail (c ∷ cs) (cond t (skip cs) (skip_line cs))
by_line c cs true p q = longer c cs (skip cs) q
by_line c cs false p q = longer c cs (skip_line cs) p

mutual
  unfolding skip

  pub skipped : (bs : List ℕ) → IsTail bs (skip bs)
  skipped [] = ([], refl)
  skipped (c ∷ cs) = by_skip c cs (is_comment c cs) (is_blank c) (line_skipped cs) (skipped cs)

  line_skipped : (bs : List ℕ) → IsTail bs (skip_line bs)
  line_skipped [] = ([], refl)
  line_skipped (c ∷ cs) = by_line c cs (c == 10) (line_skipped cs) (skipped cs)

-- ---- locations

abbrev rest_of : Result (List ℕ) Fault → List ℕ
rest_of (Ok rest) = rest
rest_of (Err fault) = []

placed : (os : List ℕ) (n : ℕ) (bs r : List ℕ) → place_end os n bs ≡ Ok r → IsTail bs r
unfolding place_end
placed [] n bs r e = subst (IsTail bs) (ap rest_of e) (dropped n bs)
placed (o ∷ os) n [] r e = absurd cc
placed (o ∷ os) (suc n) (c ∷ cs) r e = longer c cs r (placed (o ∷ os) n cs r e)
placed (o ∷ os) zero (c ∷ cs) r e = from (place_fault c cs (o ∷ os)) e (placed (coming_after c (o ∷ os)) (lexeme_len c cs) cs r)
  where
    from : (x : Option TextRefusal) → places.unless x (c ∷ cs) (place_end (coming_after c (o ∷ os)) (lexeme_len c cs) cs) ≡ Ok r → (place_end (coming_after c (o ∷ os)) (lexeme_len c cs) cs ≡ Ok r → IsTail cs r) → IsTail (c ∷ cs) r
    from None k h = longer c cs r (h k)
    from (Some x) k h = absurd cc

pub located_tail : (bs r : List ℕ) → located bs ≡ Ok r → IsTail bs r
located_tail [] r e = absurd cc
located_tail (c ∷ cs) r e = from (c == 40) e
  where
    from : (t : Bool) → cond t (place_end (41 ∷ []) 0 cs) (refused_at Unexpected (c ∷ cs)) ≡ Ok r → IsTail (c ∷ cs) r
    from true k = longer c cs r (placed (41 ∷ []) 0 cs r k)
    from false k = absurd cc

pub after_tail : (bs : List ℕ) → IsTail bs (trailing_loc bs)
after_tail bs = within bs (drop (word_len bs) bs) (trailing_loc bs) (dropped (word_len bs) bs) (skipped (drop (word_len bs) bs))

pub place_tail : (cs r : List ℕ) → located (trailing_loc cs) ≡ Ok r → IsTail cs r
place_tail cs r e = within cs (trailing_loc cs) r (after_tail cs) (located_tail (trailing_loc cs) r e)
