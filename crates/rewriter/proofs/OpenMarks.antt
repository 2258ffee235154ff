-- Open marks of a transaction, and open marks of the machine.
use Rattle.std.proofs.Common.{◌≡◌, ◌≢◌, ◌∙◌, sym, ap, subst, refl, ℕ, suc, ◌+◌, List, [], ◌∷◌, ◌++◌, length, take, drop, Bool, true, false, cond, IsTrue, arith}
use Rattle.std.specs.Prelude.{reverse, map, filter}
use Rattle.std.proofs.lemmas.List.{reverse-append, drop-take}
use Rattle.ir_event.specs.declared.event.Event.{Event}
use Rattle.rewriter.specs.Contents.{Edit}
use Rattle.rewriter.specs.Machine.{OpenMark, counted_marks, grows_under}
use Rattle.rewriter.specs.declared.mark.JournalMark.{JournalMark}
use Rattle.rewriter.specs.Held.{TransactionModel, open_mark, open_marks}
use Rattle.rewriter.specs.Marked.{counted_among}

-- if no mark is open, the machine has no mark
pub open_none : (h : TransactionModel) → h.marks ≡ [] → open_marks h ≡ []
open_none h e = ap (λ ks. reverse (map (open_mark h) ks)) e

-- a list that can't be nonempty is empty
pub unmarked : (ks : List JournalMark) → (ks ≢ [] → IsTrue false) → ks ≡ []
unmarked [] h = refl
unmarked (k ∷ ks) h = absurd (let never : IsTrue false = h (λ e. let f : k ∷ ks ≡ [] = e in cc) in cc)

one_more : (k : OpenMark) (xs : List OpenMark) (e : Edit) → IsTrue (grows_under (xs ++ k ∷ []) e)
one_more k [] e = refl
one_more k (x ∷ xs) e = refl

-- if a mark is open, an edit needs memory
pub grows_marked : (h : TransactionModel) (e : Edit) → h.marks ≢ [] → IsTrue (grows_under (open_marks h) e)
grows_marked h e some = go h.marks some
  where
    go : (ks : List JournalMark) → ks ≢ [] → IsTrue (grows_under (reverse (map (open_mark h) ks)) e)
    go [] none = absurd (none refl)
    go (k ∷ ks) n = subst (λ (l : List OpenMark). IsTrue (grows_under l e)) (sym (reverse-append (open_mark h k ∷ []) (map (open_mark h) ks))) (one_more (open_mark h k) (reverse (map (open_mark h) ks)) e)

-- ---- marks that count

counted_append : (xs ys : List OpenMark) → counted_marks (xs ++ ys) ≡ counted_marks xs + counted_marks ys
counted_append [] ys = let e : counted_marks ys ≡ 0 + counted_marks ys = omega arith in e
counted_append (x ∷ xs) ys = go x.counted (counted_append xs ys)
  where
    go : (t : Bool) → counted_marks (xs ++ ys) ≡ counted_marks xs + counted_marks ys
        → length (cond t (x ∷ filter (λ k. k.counted) (xs ++ ys)) (filter (λ k. k.counted) (xs ++ ys))) ≡ length (cond t (x ∷ filter (λ k. k.counted) xs) (filter (λ k. k.counted) xs)) + counted_marks ys
    go true e = let f = e in omega (arith, f)
    go false e = e

counted_back : (xs : List OpenMark) → counted_marks (reverse xs) ≡ counted_marks xs
counted_back [] = refl
counted_back (x ∷ xs) =
    let ih = counted_back xs in
    let whole = counted_append (x ∷ []) xs in
    ap counted_marks (reverse-append (x ∷ []) xs) ∙ counted_append (reverse xs) (x ∷ []) ∙ swap _ _ _ ih whole
  where
    swap : (a b c : ℕ) → a ≡ b → c ≡ counted_marks (x ∷ []) + b → a + counted_marks (x ∷ []) ≡ c
    swap a b c e f = omega (arith, e, f)

-- the transaction and the machine count the same marks
pub counted_open : (h : TransactionModel) → counted_marks (open_marks h) ≡ counted_among h.marks
counted_open h = counted_back (map (open_mark h) h.marks) ∙ go h.marks
  where
    go : (ks : List JournalMark) → counted_marks (map (open_mark h) ks) ≡ counted_among ks
    go [] = refl
    go (k ∷ ks) = each k.counted (go ks)
      where
        each : (t : Bool) → counted_marks (map (open_mark h) ks) ≡ counted_among ks
            → length (cond t (open_mark h k ∷ filter (λ o. o.counted) (map (open_mark h) ks)) (filter (λ o. o.counted) (map (open_mark h) ks))) ≡ length (cond t (k ∷ filter (λ o. o.counted) ks) (filter (λ o. o.counted) ks))
        each true e = ap suc e
        each false e = e

-- the last of some marks is one of them
pub last_same : (ks js : List JournalMark) (k j : JournalMark) → ks ++ k ∷ [] ≡ js ++ j ∷ [] → k ≡ j
last_same [] [] k j e = cc
last_same [] (i ∷ []) k j e = absurd cc
last_same [] (i ∷ (l ∷ js)) k j e = absurd cc
last_same (i ∷ []) [] k j e = absurd cc
last_same (i ∷ (l ∷ ks)) [] k j e = absurd cc
last_same (i ∷ ks) (l ∷ js) k j e = last_same ks js k j (let f : ks ++ k ∷ [] ≡ js ++ j ∷ [] = cc in f)

pub drop_taken : (n : ℕ) (es : List Event) → drop n (take n es) ≡ []
drop_taken n es = ap (λ m. drop n (take m es)) (let e : n ≡ n + 0 = omega arith in e) ∙ drop-take n 0 es

-- the marks before the newest are equal too
pub preceding_same : (ks js : List JournalMark) (k j : JournalMark) → ks ++ k ∷ [] ≡ js ++ j ∷ [] → ks ≡ js
preceding_same [] [] k j e = refl
preceding_same [] (i ∷ []) k j e = absurd cc
preceding_same [] (i ∷ (l ∷ js)) k j e = absurd cc
preceding_same (i ∷ []) [] k j e = absurd cc
preceding_same (i ∷ (l ∷ ks)) [] k j e = absurd cc
preceding_same (i ∷ ks) (l ∷ js) k j e =
    let f : ks ++ k ∷ [] ≡ js ++ j ∷ [] = cc in
    let g : i ≡ l = cc in
    (λ n. g n ∷ preceding_same ks js k j f n)
