-- The walk has the expected closing brackets in a list, the nearest last.
use Rattle.std.proofs.Common.{◌≡◌, ℕ, ◌<◌, true, false, List, [], ◌∷◌, ◌++◌, length, drop, Some, None, refl, sym, ap, ◌∙◌, arith}
use Rattle.std.specs.Prelude.{◌==◌, reverse, Ok, Err}
use Rattle.std.proofs.lemmas.List.{length-append, length-reverse, reverse-append}
use Rattle.ir_text_tokens.specs.declared.refusal.TextRefusal.{TextRefusal}
use Rattle.ir_text_tokens.specs.declared.refusal.TextRefusal.TheVariants.{TooDeep, Unexpected}
use Rattle.ir_text_tokens.specs.declared.fault.Fault.{Fault}
use Rattle.ir_text_tokens.specs.Bodies.{closer_of, fault_of, most_open, part_len, refused_at, scan, unless}
use Rattle.ir_text_tokens.proofs.Steps.{closing_step, opening_step, deep_step, other_step, passed}
use Rattle.ir_text_tokens.proofs.Decimals.{eqb_self}
use Rattle.ir_text_tokens.proofs.KeptBodies.{part_within}

refused : (f : Fault) (x : TextRefusal) (bytes : List ℕ) → f.refusal ≡ x → f.left ≡ length bytes → refused_at x bytes ≡ Err f
refused f x bytes e h = λ i. Err (record { refusal = sym e i; left = sym h i })

pub pushed : (items : List ℕ) (o : ℕ) → reverse (items ++ o ∷ []) ≡ o ∷ reverse items
pushed items o = reverse-append items (o ∷ [])

pub counted : (items new : List ℕ) (o : ℕ) → new ≡ items ++ o ∷ [] → length (o ∷ reverse items) ≡ length new
counted items new o p = omega (arith, ap length p, length-append items (o ∷ []), length-reverse items)

pub closed : (items : List ℕ) (o c : ℕ) (all tail : List ℕ) → all ≡ c ∷ tail → c ≡ o → scan (o ∷ reverse items) 0 all ≡ scan (reverse items) 0 tail
closed items o c all tail a e = ap (scan (o ∷ reverse items) 0) a ∙ closing_step c o (reverse items) tail (rw e (eqb_self o))

pub other : (items new : List ℕ) (o c : ℕ) (all tail rest : List ℕ) → all ≡ c ∷ tail → (c == o) ≡ false → closer_of c ≡ None → fault_of c tail ≡ None → rest ≡ drop (part_len c tail) tail → new ≡ items ++ o ∷ []
    → scan (o ∷ reverse items) 0 all ≡ scan (reverse new) 0 rest
other items new o c all tail rest a e n f r p =
    ap (scan (o ∷ reverse items) 0) a ∙ other_step c o (reverse items) tail e n
    ∙ ap (λ x. unless x (c ∷ tail) (scan (o ∷ reverse items) (part_len c tail) tail)) f
    ∙ passed o (reverse items) (part_len c tail) tail (part_within c tail)
    ∙ ap (scan (o ∷ reverse items) 0) (sym r)
    ∙ ap (λ l. scan l 0 rest) (sym (ap reverse p ∙ pushed items o))

pub other_refused : (items : List ℕ) (o c : ℕ) (all tail : List ℕ) (f : Fault) (x : TextRefusal) → all ≡ c ∷ tail → (c == o) ≡ false → closer_of c ≡ None → fault_of c tail ≡ Some x → f.refusal ≡ x → f.left ≡ length all
    → scan (o ∷ reverse items) 0 all ≡ Err f
other_refused items o c all tail f x a e n k h l =
    ap (scan (o ∷ reverse items) 0) a ∙ other_step c o (reverse items) tail e n
    ∙ ap (λ x. unless x (c ∷ tail) (scan (o ∷ reverse items) (part_len c tail) tail)) k
    ∙ refused f x (c ∷ tail) h (l ∙ ap length a)

pub deep : (items new : List ℕ) (o c d : ℕ) (all tail : List ℕ) (f : Fault) → all ≡ c ∷ tail → (c == o) ≡ false → closer_of c ≡ Some d → new ≡ items ++ o ∷ [] → (length new == 32) ≡ true → f.refusal ≡ TooDeep → f.left ≡ length all
    → scan (o ∷ reverse items) 0 all ≡ Err f
deep items new o c d all tail f a e n p full h l =
    ap (scan (o ∷ reverse items) 0) a
    ∙ deep_step c o d (reverse items) tail e n (ap (λ n. n == most_open) (counted items new o p) ∙ full)
    ∙ refused f TooDeep (c ∷ tail) h (l ∙ ap length a)

pub opened : (items new newer : List ℕ) (o c d : ℕ) (all tail : List ℕ) → all ≡ c ∷ tail → (c == o) ≡ false → closer_of c ≡ Some d → new ≡ items ++ o ∷ [] → (length new == 32) ≡ false → newer ≡ new ++ d ∷ []
    → scan (o ∷ reverse items) 0 all ≡ scan (reverse newer) 0 tail
opened items new newer o c d all tail a e n p headroom q =
    ap (scan (o ∷ reverse items) 0) a
    ∙ opening_step c o d (reverse items) tail e n (ap (λ n. n == most_open) (counted items new o p) ∙ headroom)
    ∙ ap (λ l. scan l 0 tail) (sym (ap reverse q ∙ pushed new d ∙ ap (λ l. d ∷ l) (ap reverse p ∙ pushed items o)))

-- ---- if no byte or no bracket is left

pub popped : (items new : List ℕ) (o : ℕ) → items ≡ new ++ o ∷ [] → reverse items ≡ o ∷ reverse new
popped items new o e = ap reverse e ∙ pushed new o

pub at_the_end : (items : List ℕ) (o : ℕ) (rest : List ℕ) (f : Fault) → length rest < 1 → f.refusal ≡ Unexpected → f.left ≡ length rest → scan (o ∷ reverse items) 0 rest ≡ Err f
unfolding scan
at_the_end items o [] f lt h l = refused f Unexpected [] h l
at_the_end items o (c ∷ cs) f lt h l = absurd (omega (arith, lt))

pub none_to_come : (items rest : List ℕ) → (0 < length items → ⊥) → scan (reverse items) 0 rest ≡ Ok rest
unfolding scan
none_to_come [] rest n = refl
none_to_come (o ∷ os) rest n = absurd (n (omega arith))
