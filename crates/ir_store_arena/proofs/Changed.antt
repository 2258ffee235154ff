-- Writes to the whole list of entries, and their effect on the two parts.
use Rattle.std.proofs.Common.{◌≡◌, ℕ, suc, ◌+◌, ◌-◌, ◌<◌, ◌≤◌, List, [], ◌∷◌, ◌++◌, set, take, drop, refl, sym, ap, ◌∙◌, subst, length, arith, length-append, append_assoc, Bool, true, false, ◌||◌, eqb, Some, None}
use Rattle.std.specs.List.{insert, remove}
use Rattle.std.proofs.Math.Seq.{take-append_seam, drop-append_seam, drop-append-add, take-append-add, take-set-lt, take-add}
use Rattle.std.proofs.lemmas.List.{length-take, take-append-drop, take-append-le, drop-append-le, drop-set-lt, length-take-le, length-drop, map-append, take_at}
use Rattle.ir_tree_laws.specs.trees.Edits.{put_entry, drop_entry}
use Rattle.ir_store_arena.specs.Slots.{keys, slots_of, has_key, is_gone, has_slot, keep_gone, with_change}

-- the concatenation of the present entries and the others represents both parts
pub slots_seam : (n : ℕ) (present gone : List (ℕ × ℕ)) → length present ≡ n → slots_of n (present ++ gone) ≡ record { present = present; gone = keys gone }
slots_seam n present gone l =
    let P : ℕ → Type 0 = λ m. slots_of m (present ++ gone) ≡ record { present = present; gone = keys gone } in
    subst P l (λ i. record { present = take-append_seam present gone i; gone = keys (drop-append_seam present gone i) })

any_append : (k : ℕ) (xs ys : List (ℕ × ℕ)) → has_key k (xs ++ ys) ≡ (has_key k xs || is_gone k (keys ys))
any_append k [] [] = refl
any_append k [] (y ∷ ys) = ap (λ z. eqb y.0 k || z) (any_append k [] ys)
any_append k (x ∷ xs) ys = ap (λ z. eqb x.0 k || z) (any_append k xs ys) ∙ or_assoc (eqb x.0 k) (has_key k xs) (is_gone k (keys ys))
  where
    or_assoc : (p q r : Bool) → (p || (q || r)) ≡ ((p || q) || r)
    or_assoc p q r = elim p as (λ v. (v || (q || r)) ≡ ((v || q) || r)) [ true ↦ refl | false ↦ refl ]

-- a key has a slot if some entry has the key
pub slot_is : (k n : ℕ) (all : List (ℕ × ℕ)) → has_key k all ≡ has_slot k (slots_of n all)
slot_is k n all = ap (has_key k) (sym (take-append-drop n all)) ∙ any_append k (take n all) (drop n all)

module _ (before : ℕ → ℕ → Bool) (k n at : ℕ) (old : List (ℕ × ℕ)) (l : n ≤ length old) where
  abbrev preceding : List (ℕ × ℕ)
  preceding = take n old

  abbrev back : List (ℕ × ℕ)
  back = drop n old

  preceding_long : length preceding ≡ n
  preceding_long = length-take-le n old l

  -- an entry is replaced
  pub set_shows : (a : ℕ) (mid : List (ℕ × ℕ)) → n ≤ length mid → take n mid ≡ preceding → keys (drop n mid) ≡ keep_gone k (keys back) → at < length preceding
      → put_entry before k a preceding ≡ set preceding at (k, a) → slots_of n (set mid at (k, a)) ≡ with_change before k (Some a) (slots_of n old)
  set_shows a mid m p g i e =
      let here : at < n = omega (arith, preceding_long) in
      let there : take n (set mid at (k, a)) ≡ put_entry before k a preceding = take-set-lt n mid at (k, a) here ∙ ap (λ z. set z at (k, a)) p ∙ sym e in
      let rest : keys (drop n (set mid at (k, a))) ≡ keep_gone k (keys back) = ap keys (drop-set-lt n mid at (k, a) here) ∙ g in
      λ i. record { present = there i; gone = rest i }

  -- a new entry
  pub insert_shows : (a : ℕ) (mid : List (ℕ × ℕ)) → n ≤ length mid → take n mid ≡ preceding → keys (drop n mid) ≡ keep_gone k (keys back) → at ≤ length preceding
      → put_entry before k a preceding ≡ insert preceding at (k, a) → slots_of (n + 1) (insert mid at (k, a)) ≡ with_change before k (Some a) (slots_of n old)
  insert_shows a mid m p g i e =
      let q = take n mid in
      let r = drop n mid in
      let ql : length q ≡ n = length-take-le n mid m in
      let j : at ≤ length q = omega (arith, ql, preceding_long) in
      let new = insert q at (k, a) in
      let new_long : length new ≡ n + 1 = length-append (take at q) ((k, a) ∷ drop at q) ∙ omega (arith, length-take-le at q j, length-drop at q, ql) in
      let whole : insert mid at (k, a) ≡ new ++ r =
      ap (λ z. insert z at (k, a)) (sym (take-append-drop n mid))
      ∙ (λ i. take-append-le at q r j i ++ (k, a) ∷ drop-append-le at q r j i)
      ∙ sym (append_assoc (take at q) ((k, a) ∷ drop at q) r) in
      let there : new ≡ put_entry before k a preceding = ap (λ z. insert z at (k, a)) p ∙ sym e in
      ap (slots_of (n + 1)) whole ∙ slots_seam (n + 1) new r new_long ∙ (λ i. record { present = there i; gone = g i })

  -- a key is removed, and its slot moved to the end
  pub remove_shows : (v : ℕ) → at < length preceding → drop_entry before k preceding ≡ remove preceding at → slots_of (n - 1) (remove old at ++ (k, v) ∷ []) ≡ with_change before k None (slots_of n old)
  remove_shows v i e =
      let new = remove preceding at in
      let cut : suc at ≤ length preceding = omega arith in
      let new_long : length new ≡ n - 1 = length-append (take at preceding) (drop (suc at) preceding) ∙ omega (arith, length-take-le at preceding (omega arith), length-drop (suc at) preceding, preceding_long) in
      let whole : remove old at ++ (k, v) ∷ [] ≡ new ++ (back ++ (k, v) ∷ []) =
      ap (λ z. remove z at ++ (k, v) ∷ []) (sym (take-append-drop n old))
      ∙ ap (λ z. z ++ (k, v) ∷ []) ((λ i. take-append-le at preceding back (omega arith) i ++ drop-append-le (suc at) preceding back cut i) ∙ sym (append_assoc (take at preceding) (drop (suc at) preceding) back))
      ∙ append_assoc new back ((k, v) ∷ []) in
      let rest : keys (back ++ (k, v) ∷ []) ≡ keys back ++ k ∷ [] = map-append (λ x. x.0) back ((k, v) ∷ []) in
      ap (slots_of (n - 1)) whole ∙ slots_seam (n - 1) new (back ++ (k, v) ∷ []) new_long ∙ (λ i. record { present = sym e i; gone = rest i })

-- the slot of a removed key is released
pub forget_shows : (k n at : ℕ) (old : List (ℕ × ℕ)) → n ≤ length old → keep_gone k (keys (drop n old)) ≡ keys (remove (drop n old) at) → keys (drop n (remove old (n + at))) ≡ keep_gone k (keys (drop n old))
forget_shows k n at old l e =
    let preceding = take n old in
    let back = drop n old in
    let long : length preceding ≡ n = length-take-le n old l in
    let P : ℕ → Type 0 = λ m. drop m (remove (preceding ++ back) (m + at)) ≡ remove back at in
    let cut : suc (length preceding + at) ≡ length preceding + suc at = omega arith in
    let whole : remove (preceding ++ back) (length preceding + at) ≡ preceding ++ remove back at =
    (λ i. take-append-add preceding back at i ++ (ap (λ m. drop m (preceding ++ back)) cut ∙ drop-append-add preceding back (suc at)) i)
    ∙ append_assoc preceding (take at back) (drop (suc at) back) in
    let own : drop n (remove (preceding ++ back) (n + at)) ≡ remove back at = subst P long (ap (drop (length preceding)) whole ∙ drop-append_seam preceding (remove back at)) in
    ap keys (ap (λ z. drop n (remove z (n + at))) (sym (take-append-drop n old)) ∙ own) ∙ sym e

-- the entries before it are unchanged
pub forget_keeps : (n at : ℕ) (old : List (ℕ × ℕ)) → n ≤ length old → take n (remove old (n + at)) ≡ take n old
forget_keeps n at old l =
    ap (λ z. take n (z ++ drop (suc (n + at)) old)) (take-add n at old)
    ∙ ap (take n) (append_assoc (take n old) (take at (drop n old)) (drop (suc (n + at)) old))
    ∙ take_at (take n old) (take at (drop n old) ++ drop (suc (n + at)) old) n (length-take-le n old l)

pub forget_long : (n at : ℕ) (old : List (ℕ × ℕ)) → n ≤ length old → n ≤ length (remove old (n + at))
forget_long n at old l = omega (arith, length-append (take (n + at) old) (drop (suc (n + at)) old), length-take (n + at) old, length-drop (suc (n + at)) old)
