-- The defined values of a partial function, as an ascending list.
use Rattle.std.proofs.Common.{◌≡◌, ℕ, zero, suc, ◌+◌, ◌-◌, ◌<◌, ◌≤◌, List, [], ◌∷◌, ◌++◌, Bool, true, false, Option, Some, None, refl, sym, ap, ◌∙◌, subst, arith, cond, eqb, ◌&&◌, map, inl, inr, append_assoc}
use Rattle.std.specs.Prelude.{not}
use Rattle.std.specs.Prelude.{option_map}
use Rattle.std.specs.Ordering.{nat_cmp}
use Rattle.listeners_support.specs.Map.{IdMap}
use Rattle.listeners_support.specs.Map as idmap
use Rattle.std.proofs.lemmas.Bool.{eq-eqb, ne_eqb, cases_eq}
use Rattle.std.proofs.lemmas.List.{map-append}
use Rattle.listeners_support.specs.Bits.{has, IsNone, IsNext}
use Rattle.ir_event.proofs.ById.{look, Above, Rising, rising_same}
use Rattle.effects.specs.declared.row.Row.{Row}
use Rattle.effects.specs.Dead.{may_go}
use Rattle.effects.specs.Points.{Rows}
use Rattle.effects.specs.Walks.{rows_at}
use Rattle.effects.specs.Marks.{is_zero, acts, AreMarked}
use Rattle.effects.specs.Counts.{Counts}
use Rattle.effects.specs.declared.effect_kinds.EffectKinds.{EffectKinds}
use Rattle.effects.specs.Effects.{is_none}
use Rattle.effects.specs.Reports.{those, having}
use Rattle.effects.specs.Listed.{said, checked}
use Rattle.effects.specs.Picked.{with_said, picked, if_true, idle_row, idle_in_set, idle_numbers, if_some, effects_in, said_row, effects_in_set, acting_numbers}
use Rattle.effects.proofs.Judging.{checked_rising, look_checked}
use Rattle.effects.proofs.Reporting.{said_rising, look_said}

module _ {V : Type 0} (f : ℕ → Option V) where
  -- undefined numbers at the start may be left out
  pub picked_past : (from k n : ℕ) → ((y : ℕ) → from ≤ y → y < from + k → f y ≡ None) → picked f from (k + n) ≡ picked f (from + k) n
  picked_past from zero n none = let a : 0 + n ≡ n = omega arith in let b : from ≡ from + 0 = omega arith in ap (picked f from) a ∙ ap (λ x. picked f x n) b
  picked_past from (suc k) n none =
      let a : suc k + n ≡ suc (k + n) = omega arith in
      let b : suc from + k ≡ from + suc k = omega arith in
      ap (picked f from) a ∙ ap (λ o. with_said from o (picked f (suc from) (k + n))) (none from (omega arith) (omega arith)) ∙ picked_past (suc from) k n (λ y l m. none y (omega (arith, l)) (omega (arith, m))) ∙ ap (λ x. picked f x n) b

  with_above : (j x : ℕ) (o : Option V) (ps : List (ℕ × V)) → j < x → Above j ps → Above j (with_said x o ps)
  with_above j x None ps l a = a
  with_above j x (Some v) ps l a = (l, a)

  picked_above : (j from n : ℕ) → j < from → Above j (picked f from n)
  picked_above j from zero l = tt
  picked_above j from (suc n) l = with_above j from (f from) (picked f (suc from) n) l (picked_above j (suc from) n (omega (arith, l)))

  with_rising : (x : ℕ) (o : Option V) (ps : List (ℕ × V)) → Above x ps → Rising ps → Rising (with_said x o ps)
  with_rising x None ps a r = r
  with_rising x (Some v) ps a r = (a, r)

  picked_rising : (from n : ℕ) → Rising (picked f from n)
  picked_rising from zero = tt
  picked_rising from (suc n) = with_rising from (f from) (picked f (suc from) n) (picked_above from (suc from) n (omega arith)) (picked_rising (suc from) n)

  none_above : (x : ℕ) (ps : List (ℕ × V)) → Above x ps → look x ps ≡ None
  none_above x [] a = refl
  none_above x (p ∷ ps) a = ap (λ b. cond b (Some p.1) (look x ps)) (ne_eqb x p.0 (λ e. let l = a.0 in omega (arith, e, l))) ∙ none_above x ps a.1

  with_here : (x : ℕ) (o : Option V) (ps : List (ℕ × V)) → Above x ps → look x (with_said x o ps) ≡ o
  with_here x None ps a = none_above x ps a
  with_here x (Some v) ps a = ap (λ b. cond b (Some v) (look x ps)) (eq-eqb x x refl)

  with_other : (x y : ℕ) (o : Option V) (ps : List (ℕ × V)) → (x ≡ y → ⊥) → look x (with_said y o ps) ≡ look x ps
  with_other x y None ps ne = refl
  with_other x y (Some v) ps ne = ap (λ b. cond b (Some v) (look x ps)) (ne_eqb x y ne)

  picked_look : (x from n : ℕ) → from ≤ x → ((y : ℕ) → from + n ≤ y → f y ≡ None) → look x (picked f from n) ≡ f x
  picked_look x from zero l none = sym (none x (omega (arith, l)))
  picked_look x from (suc n) l none = elim (cases_eq x from) [
    | inl e ↦ ap (λ y. look y (picked f from (suc n))) e ∙ with_here from (f from) (picked f (suc from) n) (picked_above from (suc from) n (omega arith)) ∙ ap f (sym e)
    | inr ne ↦ with_other x from (f from) (picked f (suc from) n) ne ∙ picked_look x (suc from) n (omega (arith, l, ne)) (λ y m. none y (omega (arith, m)))
  ]

  -- an ascending list with the values of the function is the list of its defined values
  pub picked_is : (n : ℕ) (ps : List (ℕ × V)) → ((y : ℕ) → n ≤ y → f y ≡ None) → Rising ps → ((x : ℕ) → look x ps ≡ f x) → picked f 0 n ≡ ps
  picked_is n ps none rising is =
      rising_same (picked f 0 n) ps (picked_rising 0 n) rising (λ x. picked_look x 0 n (omega arith) (λ y l. none y (omega (arith, l))) ∙ sym (is x))

-- ---- the numbers with the value `true`

-- the value, if it is true
abbrev only : Option Bool → Option Bool
only None = None
only (Some b) = if_true b

abbrev true_ones : List (ℕ × Bool) → List (ℕ × Bool)
true_ones [] = []
true_ones (p ∷ ps) = with_said p.0 (if_true p.1) (true_ones ps)

those_true : (ps : List (ℕ × Bool)) → those ps ≡ map (λ (p : ℕ × Bool). p.0) (true_ones ps)
those_true [] = refl
those_true (p ∷ ps) = go p.1 (those_true ps)
  where
    go : (b : Bool) → those ps ≡ map (λ (p : ℕ × Bool). p.0) (true_ones ps) → cond b (p.0 ∷ those ps) (those ps) ≡ map (λ (p : ℕ × Bool). p.0) (with_said p.0 (if_true b) (true_ones ps))
    go true rest = λ i. p.0 ∷ rest i
    go false rest = rest

module _ (f : ℕ → Option Bool) where
  true_above : (x : ℕ) (ps : List (ℕ × Bool)) → Above x ps → Above x (true_ones ps)
  true_above x [] a = tt
  true_above x (p ∷ ps) a = with_above f x p.0 (if_true p.1) (true_ones ps) a.0 (true_above x ps a.1)

  true_rising : (ps : List (ℕ × Bool)) → Rising ps → Rising (true_ones ps)
  true_rising [] r = tt
  true_rising (p ∷ ps) r = with_rising f p.0 (if_true p.1) (true_ones ps) (true_above p.0 ps r.0) (true_rising ps r.1)

  true_look : (x : ℕ) (ps : List (ℕ × Bool)) → Rising ps → look x (true_ones ps) ≡ only (look x ps)
  true_look x [] r = refl
  true_look x (p ∷ ps) r = elim (cases_eq x p.0) [
    | inl e ↦ ap (λ y. look y (true_ones (p ∷ ps))) e ∙ with_here f p.0 (if_true p.1) (true_ones ps) (true_above p.0 ps r.0) ∙ sym (ap (λ b. only (cond b (Some p.1) (look x ps))) (eq-eqb x p.0 e))
    | inr ne ↦ with_other f x p.0 (if_true p.1) (true_ones ps) ne ∙ true_look x ps r.1 ∙ sym (ap (λ b. only (cond b (Some p.1) (look x ps))) (ne_eqb x p.0 ne))
  ]

-- ---- dead operations

module _ (set : List ℕ) (rows : Rows) where
  not_there : (x : ℕ) → has set x ≡ false → idle_in_set set rows x ≡ None
  not_there x e = ap (λ b. if_true (b && idle_row (rows x))) e

  one_said : (x : ℕ) (b : Bool) (ps : List (ℕ × Bool)) → map (λ (p : ℕ × Bool). p.0) (with_said x (if_true b) ps) ≡ those ((x, b) ∷ []) ++ map (λ (p : ℕ × Bool). p.0) ps
  one_said x true ps = refl
  one_said x false ps = refl

  -- the next number of the set
  pub next_idle : (from x n : ℕ) → IsNext set from x → idle_numbers set rows from ((x - from) + (1 + n)) ≡ those ((x, idle_row (rows x)) ∷ []) ++ idle_numbers set rows (x + 1) n
  next_idle from x n next =
      let f = idle_in_set set rows in
      let l = next.0 in
      let at : from + (x - from) ≡ x = omega (arith, l) in
      let one : 1 + n ≡ suc n = omega arith in
      let on : suc x ≡ x + 1 = omega arith in
      ap (map (λ (p : ℕ × Bool). p.0)) (
      picked_past f from (x - from) (1 + n) (λ y a b. not_there y (next.2 y a (omega (arith, b, at))))
      ∙ (λ i. picked f (at i) (one i))
      ∙ ap (λ b. with_said x (if_true (b && idle_row (rows x))) (picked f (suc x) n)) next.1
      ∙ ap (λ y. with_said x (if_true (idle_row (rows x))) (picked f y n)) on
      )
      ∙ one_said x (idle_row (rows x)) (picked f (x + 1) n)

-- if the set has the operations whose count is 0, these are the dead ones
module _ (set : List ℕ) (counts : Counts) (m : IdMap Row) (unused : AreMarked is_zero counts set) (ordered : idmap.IsOrdered m) where
  said_dead : (x : ℕ) → only (look x (checked counts m.entries)) ≡ idle_in_set set (rows_at m) x
  said_dead x = ap only (look_checked counts x m.entries) ∙ go (rows_at m x) ∙ ap (λ b. if_true (b && idle_row (rows_at m x))) (sym (unused x))
    where
      go : (r : Option Row) → only (option_map (λ (r : Row). is_zero (counts x) && may_go r.has) r) ≡ if_true (is_zero (counts x) && idle_row r)
      go None = none (is_zero (counts x))
        where
          none : (b : Bool) → None ≡ if_true (b && false)
          none true = refl
          none false = refl
      go (Some r) = refl

  pub dead_numbers : (n : ℕ) → IsNone set n → idle_numbers set (rows_at m) 0 n ≡ those (checked counts m.entries)
  dead_numbers n none =
      let f = idle_in_set set (rows_at m) in
      let ps = checked counts m.entries in
      let rising = checked_rising counts m.entries ordered in
      ap (map (λ (p : ℕ × Bool). p.0)) (picked_is f n (true_ones ps) (λ y l. not_there set (rows_at m) y (none y l)) (true_rising f ps rising) (λ x. true_look f x ps rising ∙ said_dead x))
      ∙ sym (those_true ps)

-- a list that grew by the first of the remaining items
pub one_more : {X Y : Type 0} (f : X → Y) (a b z : List Y) (now one rest : List X) → b ≡ a ++ map f one → now ≡ one ++ rest → a ++ map f now ≡ z → b ++ map f rest ≡ z
one_more f a b z now one rest grown split is =
    ap (λ xs. xs ++ map f rest) grown ∙ append_assoc a (map f one) (map f rest) ∙ ap (λ xs. a ++ xs) (sym (map-append f one rest)) ∙ ap (λ xs. a ++ map f xs) (sym split) ∙ is

-- ---- operations with effects

abbrev if_effects : Option EffectKinds → Option EffectKinds
if_effects None = None
if_effects (Some s) = if_some s

having_more : (p : ℕ × EffectKinds) (ps : List (ℕ × EffectKinds)) → having (p ∷ ps) ≡ with_said p.0 (if_some p.1) (having ps)
having_more p ps = go (is_none p.1)
  where
    go : (b : Bool) → cond b (having ps) (p ∷ having ps) ≡ with_said p.0 (cond b None (Some p.1)) (having ps)
    go true = refl
    go false = refl

having_above : (x : ℕ) (ps : List (ℕ × EffectKinds)) → Above x ps → Above x (having ps)
having_above x [] a = tt
having_above x (p ∷ ps) a = subst (Above x) (sym (having_more p ps)) (with_above (λ _. None) x p.0 (if_some p.1) (having ps) a.0 (having_above x ps a.1))

having_rising : (ps : List (ℕ × EffectKinds)) → Rising ps → Rising (having ps)
having_rising [] r = tt
having_rising (p ∷ ps) r = subst Rising (sym (having_more p ps)) (with_rising (λ _. None) p.0 (if_some p.1) (having ps) (having_above p.0 ps r.0) (having_rising ps r.1))

having_look : (x : ℕ) (ps : List (ℕ × EffectKinds)) → Rising ps → look x (having ps) ≡ if_effects (look x ps)
having_look x [] r = refl
having_look x (p ∷ ps) r = ap (look x) (having_more p ps) ∙ elim (cases_eq x p.0) [
  | inl e ↦ ap (λ y. look y (with_said p.0 (if_some p.1) (having ps))) e ∙ with_here (λ _. None) p.0 (if_some p.1) (having ps) (having_above p.0 ps r.0) ∙ sym (ap (λ b. if_effects (cond b (Some p.1) (look x ps))) (eq-eqb x p.0 e))
  | inr ne ↦ with_other (λ _. None) x p.0 (if_some p.1) (having ps) ne ∙ having_look x ps r.1 ∙ sym (ap (λ b. if_effects (cond b (Some p.1) (look x ps))) (ne_eqb x p.0 ne))
]

module _ (set : List ℕ) (rows : Rows) where
  none_there : (x : ℕ) → has set x ≡ false → effects_in_set set rows x ≡ None
  none_there x e = ap (λ b. cond b (effects_in (rows x)) None) e

  one_row : (x : ℕ) (r : Option Row) (ps : List (ℕ × EffectKinds)) → with_said x (effects_in r) ps ≡ said_row x r ++ ps
  one_row x None ps = refl
  one_row x (Some r) ps = go (is_none r.has)
    where
      go : (b : Bool) → with_said x (cond b None (Some r.has)) ps ≡ cond b [] ((x, r.has) ∷ []) ++ ps
      go true = refl
      go false = refl

  -- the next number of the set
  pub next_acting : (from x n : ℕ) → IsNext set from x → acting_numbers set rows from ((x - from) + (1 + n)) ≡ said_row x (rows x) ++ acting_numbers set rows (x + 1) n
  next_acting from x n next =
      let f = effects_in_set set rows in
      let l = next.0 in
      let at : from + (x - from) ≡ x = omega (arith, l) in
      let one : 1 + n ≡ suc n = omega arith in
      let on : suc x ≡ x + 1 = omega arith in
      picked_past f from (x - from) (1 + n) (λ y a b. none_there y (next.2 y a (omega (arith, b, at))))
      ∙ (λ i. picked f (at i) (one i))
      ∙ ap (λ b. with_said x (cond b (effects_in (rows x)) None) (picked f (suc x) n)) next.1
      ∙ ap (λ y. with_said x (effects_in (rows x)) (picked f y n)) on
      ∙ one_row x (rows x) (picked f (x + 1) n)

-- if the set has the operations with an effect, these are those of the table
module _ (set : List ℕ) (m : IdMap Row) (acting : AreMarked acts (rows_at m) set) (ordered : idmap.IsOrdered m) where
  said_acting : (x : ℕ) → if_effects (look x (said m.entries)) ≡ effects_in_set set (rows_at m) x
  said_acting x = ap if_effects (look_said x m.entries) ∙ go (rows_at m x) ∙ ap (λ b. cond b (effects_in (rows_at m x)) None) (sym (acting x))
    where
      none : (r : Row) (b : Bool) → cond b None (Some r.has) ≡ cond (not b) (cond b None (Some r.has)) None
      none r true = refl
      none r false = refl

      go : (r : Option Row) → if_effects (option_map (λ (r : Row). r.has) r) ≡ cond (acts r) (effects_in r) None
      go None = refl
      go (Some r) = none r (is_none r.has)

  pub acting_rows : (n : ℕ) → IsNone set n → acting_numbers set (rows_at m) 0 n ≡ having (said m.entries)
  acting_rows n none =
      let f = effects_in_set set (rows_at m) in
      let ps = said m.entries in
      let rising = said_rising m.entries ordered in
      picked_is f n (having ps) (λ y l. none_there set (rows_at m) y (none y l)) (having_rising ps rising) (λ x. having_look x ps rising ∙ said_acting x)
