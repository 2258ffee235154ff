-- The rows of diagnostics are those of the pairs of an operation and a reported rule, in ascending order.
use Rattle.std.proofs.Common.{◌≡◌, refl, sym, ap, ◌∙◌, subst, ℕ, ◌+◌, ◌<◌, Bool, true, false, cond, eqb-true, eq-eqb, List, [], ◌∷◌, ◌++◌, map, Option, Some, None, inl, inr, arith}
use lib.Dec.{T}
use Rattle.std.specs.Prelude.{⊤}
use Rattle.std.specs.declared.cmp.Ordering.{Ordering}
use Rattle.std.specs.declared.cmp.Ordering.TheVariants.{Less, Equal, Greater}
use Rattle.std.specs.Ordering.{ordering_then, nat_cmp, eq_by_cmp, is_lt}
use Rattle.std.specs.Cmp.{nat_cmp_is}
use Rattle.std.specs.List.{AllByRecursion, filter}
use Rattle.std.specs.List.Sorted.{IsStrictlySortedBy}
use Rattle.std.specs.FinMap.Entries.{put, by_order, find, below_all, is_sorted}
use Rattle.ir_tree.specs.Meaning.{Operation}
use Rattle.ir_tree_laws.specs.Members.{In}
use Rattle.ir_tree_laws.specs.Stands.{OpWithPathOf, op_with_path_id, stands}
use Rattle.ir_tree_laws.proofs.Listed.{bool_cases, in_left, in_right, in_parts, in_map, in_mapped}
use Rattle.ir_verify_base.specs.Surroundings.{surround}
use Rattle.ir_verify_base.specs.Fits.{Surroundings}
use Rattle.ir_verify_base.specs.Facts.{sorted_in, sorted_facts}
use Rattle.ir_verify_base.proofs.SortedFacts.{tied, left, right, unfound, found, is_in_order}
use Rattle.op_registry.specs.Registry.{row_of}
use Rattle.ir_verify.specs.Breaks.{broken_rules_in, numbers_from, broken}
use Rattle.ir_verify.specs.Beyond.{is_beyond, is_on_types, reported}
use Rattle.ir_verify.specs.Diagnostics.{rule_rows, rows_of, diagnostics_of}
use Rattle.ir_verify.specs.Pairs.{ArePairs, pair_cmp, pair_row}

-- ---- pairs of operations with their rules
abbrev with_rules : ℕ × List ℕ → List (ℕ × ℕ)
with_rules e = map (λ (r : ℕ). (e.0, r)) e.1

abbrev pairs_of : List (ℕ × List ℕ) → List (ℕ × ℕ)
pairs_of [] = []
pairs_of (e ∷ es) = with_rules e ++ pairs_of es

rows_more : (x : ℕ) (rs : List ℕ) (ps : List (ℕ × ℕ)) → map pair_row (map (λ (r : ℕ). (x, r)) rs ++ ps) ≡ rule_rows x rs ++ map pair_row ps
rows_more x [] ps = refl
rows_more x (r ∷ rs) ps = ap (λ l. pair_row (x, r) ∷ l) (rows_more x rs ps)

rows_say : (es : List (ℕ × List ℕ)) → rows_of es ≡ map pair_row (pairs_of es)
rows_say [] = refl
rows_say (e ∷ es) = ap (λ l. rule_rows e.0 e.1 ++ l) (rows_say es) ∙ sym (rows_more e.0 e.1 (pairs_of es))

-- ---- the pairs of a tree
abbrev Holds : List (ℕ × List ℕ) → ℕ × ℕ → Type 0
Holds es p = (rules : List ℕ) × (find nat_cmp p.0 es ≡ Some rules) × In p.1 rules

-- lookup of the first key, and of another one
first_found : (x : ℕ) (e : ℕ × List ℕ) (es : List (ℕ × List ℕ)) → e.0 ≡ x → find nat_cmp x (e ∷ es) ≡ Some e.1
first_found x e es k = ap (λ b. cond b (Some e.1) (find nat_cmp x es)) (tied x e.0 ∙ eq-eqb e.0 x k)

not_both : (o : Option (List ℕ)) (rules : List ℕ) → o ≡ None → o ≡ Some rules → ⊥
not_both o rules a b = let no : None ≡ Some rules = sym a ∙ b in absurd cc

held : (es : List (ℕ × List ℕ)) → T (is_sorted nat_cmp es) → (p : ℕ × ℕ) → In p (pairs_of es) → Holds es p
held [] o p h = absurd h
held (e ∷ es) o p h = elim (in_parts p (with_rules e) (pairs_of es) h) [
  | inl i ↦ (let m = in_mapped (λ (r : ℕ). (e.0, r)) p e.1 i in
      (e.1, first_found p.0 e es (ap (λ (q : ℕ × ℕ). q.0) (sym m.2)), subst (λ r. In r e.1) (ap (λ (q : ℕ × ℕ). q.1) (sym m.2)) m.1))
  | inr i ↦ (let w = held es (right _ _ o) p i in
      elim (bool_cases (eq_by_cmp nat_cmp p.0 e.0)) [
        | inl k ↦ absurd (not_both (find nat_cmp p.0 es) w.0 (unfound p.0 es (subst (λ x. T (below_all nat_cmp x es)) (eqb-true e.0 p.0 (sym (tied p.0 e.0) ∙ k)) (left _ _ o))) w.1)
        | inr k ↦ (w.0, ap (λ b. cond b (Some e.1) (find nat_cmp p.0 es)) k ∙ w.1, w.2)
      ])
]

listed : (es : List (ℕ × List ℕ)) (p : ℕ × ℕ) → Holds es p → In p (pairs_of es)
listed [] p w = absurd (not_both None w.0 refl w.1)
listed (e ∷ es) p w = elim (bool_cases (eq_by_cmp nat_cmp p.0 e.0)) [
  | inl k ↦ (let key : e.0 ≡ p.0 = eqb-true e.0 p.0 (sym (tied p.0 e.0) ∙ k) in
      let two : Some e.1 ≡ Some w.0 = sym (first_found p.0 e es key) ∙ w.1 in
      let rules : e.1 ≡ w.0 = cc in
      in_left p (with_rules e) (pairs_of es) (subst (λ x. In (x, p.1) (with_rules e)) key (in_map (λ (r : ℕ). (e.0, r)) p.1 e.1 (subst (λ l. In p.1 l) (sym rules) w.2))))
  | inr k ↦ in_right p (with_rules e) (pairs_of es) (listed es p (w.0, sym (ap (λ b. cond b (Some e.1) (find nat_cmp p.0 es)) k) ∙ w.1, w.2))
]

-- ---- the pairs ascend
less : (o : Ordering) → T (is_lt o) → o ≡ Less
less Less h = refl
less Equal h = absurd h
less Greater h = absurd h

numbers_above : (m n : ℕ) (bs : List Bool) → m < n → AllByRecursion (λ y. nat_cmp m y ≡ Less) (numbers_from n bs)
numbers_above m n [] l = tt
numbers_above m n (true ∷ bs) l = (sym (nat_cmp_is m n Less l), numbers_above m (n + 1) bs (omega arith))
numbers_above m n (false ∷ bs) l = numbers_above m (n + 1) bs (omega arith)

numbers_rise : (n : ℕ) (bs : List Bool) → IsStrictlySortedBy nat_cmp (numbers_from n bs)
unfolding IsStrictlySortedBy
numbers_rise n [] = tt
numbers_rise n (true ∷ bs) = (numbers_above n (n + 1) bs (omega arith), numbers_rise (n + 1) bs)
numbers_rise n (false ∷ bs) = numbers_rise (n + 1) bs

-- the reported rules ascend too
above_kept : (x : ℕ) (p : ℕ → Bool) (rs : List ℕ) → AllByRecursion (λ y. nat_cmp x y ≡ Less) rs → AllByRecursion (λ y. nat_cmp x y ≡ Less) (filter p rs)
above_kept x p [] a = tt
above_kept x p (r ∷ rs) a = one (p r) (filter p rs) (above_kept x p rs a.1)
  where
    one : (b : Bool) (l : List ℕ) → AllByRecursion (λ y. nat_cmp x y ≡ Less) l → AllByRecursion (λ y. nat_cmp x y ≡ Less) (cond b (r ∷ l) l)
    one true l h = (a.0, h)
    one false l h = h

kept_rise : (p : ℕ → Bool) (rs : List ℕ) → IsStrictlySortedBy nat_cmp rs → IsStrictlySortedBy nat_cmp (filter p rs)
unfolding IsStrictlySortedBy
kept_rise p [] h = tt
kept_rise p (r ∷ rs) h = one (p r) (filter p rs) (above_kept r p rs h.0) (kept_rise p rs h.1)
  where
    one : (b : Bool) (l : List ℕ) → AllByRecursion (λ y. nat_cmp r y ≡ Less) l → IsStrictlySortedBy nat_cmp l → IsStrictlySortedBy nat_cmp (cond b (r ∷ l) l)
    one true l a k = (a, k)
    one false l a k = k

reported_rise : (s : Surroundings) → IsStrictlySortedBy nat_cmp (reported s)
reported_rise s = kept_rise _ (numbers_from 1 (broken_rules_in (row_of s.node.head.name) s)) (numbers_rise 1 (broken_rules_in (row_of s.node.head.name) s))

-- the rules of each operation ascend
abbrev EachRises : List (ℕ × List ℕ) → Type 0
EachRises [] = ⊤
EachRises (e ∷ es) = IsStrictlySortedBy nat_cmp e.1 × EachRises es

put_rises : (x : ℕ) (rs : List ℕ) (es : List (ℕ × List ℕ)) → IsStrictlySortedBy nat_cmp rs → EachRises es → EachRises (put nat_cmp x rs es)
put_rises x rs [] r h = (r, tt)
put_rises x rs (e ∷ es) r h = elim (nat_cmp x e.0) as (λ o. EachRises (by_order o ((x, rs) ∷ e ∷ es) ((e.0, rs) ∷ es) (e ∷ put nat_cmp x rs es))) [
  | Less ↦ (r, h)
  | Equal ↦ (r, h.1)
  | Greater ↦ (h.0, put_rises x rs es r h.1)
]

facts_rise : (t : Operation) (ss : List (OpWithPathOf (List ℕ) _ _)) → EachRises (sorted_in reported t ss)
facts_rise t [] = tt
facts_rise t (s ∷ ss) = put_rises (op_with_path_id s) (reported (surround t s)) (sorted_in reported t ss) (reported_rise (surround t s)) (facts_rise t ss)

-- the pairs of each operation ascend
abbrev Above : ℕ × ℕ → List (ℕ × ℕ) → Type 0
Above p ps = AllByRecursion (λ q. pair_cmp p q ≡ Less) ps

above_both : (p : ℕ × ℕ) (ps qs : List (ℕ × ℕ)) → Above p ps → Above p qs → Above p (ps ++ qs)
above_both p [] qs a b = b
above_both p (q ∷ ps) qs a b = (a.0, above_both p ps qs a.1 b)

same_above : (x r : ℕ) (rs : List ℕ) → AllByRecursion (λ y. nat_cmp r y ≡ Less) rs → Above (x, r) (map (λ (r : ℕ). (x, r)) rs)
same_above x r [] a = tt
same_above x r (y ∷ rs) a = (ap (λ o. ordering_then o (nat_cmp r y)) (sym (nat_cmp_is x x Equal refl)) ∙ a.0, same_above x r rs a.1)

later_above : (x r y : ℕ) (rs : List ℕ) → nat_cmp x y ≡ Less → Above (x, r) (map (λ (r : ℕ). (y, r)) rs)
later_above x r y [] e = tt
later_above x r y (s ∷ rs) e = (ap (λ o. ordering_then o (nat_cmp r s)) e, later_above x r y rs e)

all_above : (x r : ℕ) (es : List (ℕ × List ℕ)) → T (below_all nat_cmp x es) → Above (x, r) (pairs_of es)
all_above x r [] h = tt
all_above x r (e ∷ es) h = above_both (x, r) (with_rules e) (pairs_of es) (later_above x r e.0 e.1 (less (nat_cmp x e.0) (left _ _ h))) (all_above x r es (right _ _ h))

more_rise : (x : ℕ) (rs : List ℕ) (ps : List (ℕ × ℕ)) → IsStrictlySortedBy nat_cmp rs → ((r : ℕ) → Above (x, r) ps) → IsStrictlySortedBy pair_cmp ps → IsStrictlySortedBy pair_cmp (map (λ (r : ℕ). (x, r)) rs ++ ps)
unfolding IsStrictlySortedBy
more_rise x [] ps r a h = h
more_rise x (y ∷ rs) ps r a h = (above_both (x, y) (map (λ (r : ℕ). (x, r)) rs) ps (same_above x y rs r.0) (a y), more_rise x rs ps r.1 a h)

pairs_rise : (es : List (ℕ × List ℕ)) → T (is_sorted nat_cmp es) → EachRises es → IsStrictlySortedBy pair_cmp (pairs_of es)
unfolding IsStrictlySortedBy
pairs_rise [] o h = tt
pairs_rise (e ∷ es) o h = more_rise e.0 e.1 (pairs_of es) h.0 (λ r. all_above e.0 r es (left _ _ o)) (pairs_rise es (right _ _ o) h.1)

-- ---- the law
pub pairs_reported : (t : Operation) → (ps : List (ℕ × ℕ)) × (diagnostics_of t ≡ map pair_row ps) × ArePairs t ps
pairs_reported t =
    let es = sorted_facts reported t in
    let sorted = is_in_order reported t (stands [] t) in
    let at = λ (x : ℕ). found reported t x (stands [] t) in (
      pairs_of es,
      rows_say es,
      record {
        is_reported = λ p i. (let w = held es sorted p i in (w.0, sym (at p.0) ∙ w.1, w.2));
        all = λ p w. listed es p (w.0, at p.0 ∙ w.1, w.2);
        rising = pairs_rise es sorted (facts_rise t (stands [] t));
      },
    )
