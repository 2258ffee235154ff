-- One step of the search for a comma.
use Rattle.std.proofs.Common.{◌≡◌, ℕ, zero, suc, ◌<◌, ◌≤◌, true, false, List, [], ◌∷◌, ◌++◌, length, drop, Some, None, refl, sym, ap, ◌∙◌, slice_index_or, arith}
use Rattle.std.specs.Prelude.{◌==◌, ◌&&◌, reverse}
use Rattle.std.proofs.lemmas.List.{length-reverse}
use Rattle.std.proofs.lemmas.Bool.Decides.{nat_tests}
use Rattle.ir_text_tokens.specs.declared.refusal.TextRefusal.{TextRefusal}
use Rattle.ir_text_tokens.proofs.Decimals.{eqb_self}
use Rattle.ir_text_tokens.specs.Bodies.{closer_of, comma_ahead, fault_of, is_none, most_open, part_len}
use Rattle.ir_text_tokens.specs.Commas.{IsNoComma}
use Rattle.ir_text_tokens.proofs.KeptBodies.{part_within}
use Rattle.ir_text_tokens.proofs.Walk.{pushed, counted}
use Rattle.ir_text_tokens.proofs.Wholes.{not_zero}

closing : (c o : ℕ) (os cs : List ℕ) → IsNoComma c os → (c == o) ≡ true → comma_ahead (o ∷ os) 0 (c ∷ cs) ≡ comma_ahead os 0 cs
unfolding comma_ahead
closing c o os cs n e = rw (n, e) refl

opening : (c o d : ℕ) (os cs : List ℕ) → IsNoComma c os → (c == o) ≡ false → closer_of c ≡ Some d → (length (o ∷ os) == most_open) ≡ false → comma_ahead (o ∷ os) 0 (c ∷ cs) ≡ comma_ahead (d ∷ o ∷ os) 0 cs
unfolding comma_ahead
opening c o d os cs n e h k = rw (n, e, h, k) refl

too_deep : (c o d : ℕ) (os cs : List ℕ) → IsNoComma c os → (c == o) ≡ false → closer_of c ≡ Some d → (length (o ∷ os) == most_open) ≡ true → comma_ahead (o ∷ os) 0 (c ∷ cs) ≡ false
unfolding comma_ahead
too_deep c o d os cs n e h k = rw (n, e, h, k) refl

extra : (c o : ℕ) (os cs : List ℕ) → IsNoComma c os → (c == o) ≡ false → closer_of c ≡ None → fault_of c cs ≡ None → comma_ahead (o ∷ os) 0 (c ∷ cs) ≡ comma_ahead (o ∷ os) (part_len c cs) cs
unfolding comma_ahead
extra c o os cs n e h f = rw (n, e, h, f) refl

faulty : (c o : ℕ) (os cs : List ℕ) (x : TextRefusal) → IsNoComma c os → (c == o) ≡ false → closer_of c ≡ None → fault_of c cs ≡ Some x → comma_ahead (o ∷ os) 0 (c ∷ cs) ≡ false
unfolding comma_ahead
faulty c o os cs x n e h f = rw (n, e, h, f) refl

passed : (o : ℕ) (os : List ℕ) (n : ℕ) (cs : List ℕ) → n ≤ length cs → comma_ahead (o ∷ os) n cs ≡ comma_ahead (o ∷ os) 0 (drop n cs)
unfolding comma_ahead
passed o os zero cs le = refl
passed o os (suc n) [] le = absurd (omega (arith, le))
passed o os (suc n) (c ∷ cs) le = passed o os n cs (omega (arith, le))

-- ---- with the stack of expected closing brackets as a list, the nearest last

pub closed_ahead : (items : List ℕ) (o c : ℕ) (all tail : List ℕ) → all ≡ c ∷ tail → c ≡ o → IsNoComma c (reverse items) → comma_ahead (o ∷ reverse items) 0 all ≡ comma_ahead (reverse items) 0 tail
closed_ahead items o c all tail a e n = ap (comma_ahead (o ∷ reverse items) 0) a ∙ closing c o (reverse items) tail n (rw e (eqb_self o))

pub other_ahead : (items new : List ℕ) (o c : ℕ) (all tail rest : List ℕ) → all ≡ c ∷ tail → (c == o) ≡ false → closer_of c ≡ None → fault_of c tail ≡ None → rest ≡ drop (part_len c tail) tail → new ≡ items ++ o ∷ []
    → IsNoComma c (reverse items) → comma_ahead (o ∷ reverse items) 0 all ≡ comma_ahead (reverse new) 0 rest
other_ahead items new o c all tail rest a e h f r p n =
    ap (comma_ahead (o ∷ reverse items) 0) a ∙ extra c o (reverse items) tail n e h f
    ∙ passed o (reverse items) (part_len c tail) tail (part_within c tail)
    ∙ ap (comma_ahead (o ∷ reverse items) 0) (sym r)
    ∙ ap (λ l. comma_ahead l 0 rest) (sym (ap reverse p ∙ pushed items o))

pub faulty_ahead : (items : List ℕ) (o c : ℕ) (all tail : List ℕ) (x : TextRefusal) → all ≡ c ∷ tail → (c == o) ≡ false → closer_of c ≡ None → fault_of c tail ≡ Some x
    → IsNoComma c (reverse items) → comma_ahead (o ∷ reverse items) 0 all ≡ false
faulty_ahead items o c all tail x a e h f n = ap (comma_ahead (o ∷ reverse items) 0) a ∙ faulty c o (reverse items) tail x n e h f

pub deep_ahead : (items new : List ℕ) (o c d : ℕ) (all tail : List ℕ) → all ≡ c ∷ tail → (c == o) ≡ false → closer_of c ≡ Some d → new ≡ items ++ o ∷ [] → (length new == 32) ≡ true
    → IsNoComma c (reverse items) → comma_ahead (o ∷ reverse items) 0 all ≡ false
deep_ahead items new o c d all tail a e h p full n =
    ap (comma_ahead (o ∷ reverse items) 0) a ∙ too_deep c o d (reverse items) tail n e h (ap (λ n. n == most_open) (counted items new o p) ∙ full)

pub opened_ahead : (items new newer : List ℕ) (o c d : ℕ) (all tail : List ℕ) → all ≡ c ∷ tail → (c == o) ≡ false → closer_of c ≡ Some d → new ≡ items ++ o ∷ [] → (length new == 32) ≡ false → newer ≡ new ++ d ∷ []
    → IsNoComma c (reverse items) → comma_ahead (o ∷ reverse items) 0 all ≡ comma_ahead (reverse newer) 0 tail
opened_ahead items new newer o c d all tail a e h p headroom q n =
    ap (comma_ahead (o ∷ reverse items) 0) a
    ∙ opening c o d (reverse items) tail n e h (ap (λ n. n == most_open) (counted items new o p) ∙ headroom)
    ∙ ap (λ l. comma_ahead l 0 tail) (sym (ap reverse q ∙ pushed new d ∙ ap (λ l. d ∷ l) (ap reverse p ∙ pushed items o)))

-- ---- ends

pub comma_here : (o : ℕ) (os rest : List ℕ) → 1 ≤ length rest → (slice_index_or rest 0 0 == 44 && is_none os) ≡ true → comma_ahead (o ∷ os) 0 rest ≡ true
unfolding comma_ahead
comma_here o os [] le e = absurd (omega (arith, le))
comma_here o os (c ∷ cs) le e = rw e refl

pub none_at_the_end : (o : ℕ) (os rest : List ℕ) → length rest < 1 → comma_ahead (o ∷ os) 0 rest ≡ false
unfolding comma_ahead
none_at_the_end o os [] lt = refl
none_at_the_end o os (c ∷ cs) lt = absurd (omega (arith, lt))

pub none_after : (items rest : List ℕ) → (0 < length items → ⊥) → comma_ahead (reverse items) 0 rest ≡ false
unfolding comma_ahead
none_after [] rest n = refl
none_after (o ∷ os) rest n = absurd (n (omega arith))

counts_none : (l : List ℕ) → is_none l ≡ (length l == 0)
counts_none [] = refl
counts_none (o ∷ os) = sym (not_zero (length os))

pub none_left : (items : List ℕ) → is_none (reverse items) ≡ (length items == 0)
none_left items = counts_none (reverse items) ∙ ap (λ n. n == 0) (length-reverse items)
