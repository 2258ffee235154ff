-- The order of uses.
use Rattle.std.proofs.Common.{◌≡◌, refl, ap, sym, ◌∙◌, subst, ℕ, Bool, true, false, true≢false, cond, List, [], ◌∷◌, ◌++◌, Option, Some, None}
use Rattle.std.specs.declared.cmp.Ordering.{Ordering}
use Rattle.std.specs.declared.cmp.Ordering.TheVariants.{Less, Equal, Greater}
use Rattle.std.specs.Ordering.{ordering_then, ordering_reverse, nat_cmp, is_gt, is_eq, is_lt}
use Rattle.std.specs.Option.{option_cmp}
use Rattle.std.specs.Cmp.{IsTotalOrder, on_total, then_total, nat_cmp_total, tied_itself}
use Rattle.std.specs.Cmp.Lexicographic.{options_total}
use Rattle.std.specs.FinMap.{nat_cmp-IsAntisymmetric}
use Rattle.ir_event.specs.trees.declared.value.Value.{Value}
use Rattle.ir_event.specs.trees.declared.value.Value.TheVariants.{Result, Arg}
use Rattle.ir_event.specs.trees.Frames.{owner_of, place_of}
use Rattle.listeners.specs.declared.key.Use.{Use}
use Rattle.listeners.specs.Uses.{use_cmp, put_use, in_order}
use Rattle.listeners.proofs.Drops.{drop_use}

pub use_total : IsTotalOrder use_cmp
use_total =
    then_total (on_total (λ (u : Use). (owner_of u.value).0) nat_cmp_total)
    (then_total (on_total (λ (u : Use). (owner_of u.value).1) (options_total nat_cmp_total))
    (then_total (on_total (λ (u : Use). place_of u.value) nat_cmp_total)
    (then_total (on_total (λ (u : Use). u.user) nat_cmp_total) (on_total (λ (u : Use). u.operand) nat_cmp_total))))

-- two comparisons that are equal
both_equal : (a b : Ordering) → ordering_then a b ≡ Equal → (a ≡ Equal) × (b ≡ Equal)
both_equal Less b e = absurd (true≢false (ap is_lt e))
both_equal Equal b e = (refl, e)
both_equal Greater b e = absurd (true≢false (ap is_gt e))

same_option : (x y : Option ℕ) → option_cmp nat_cmp x y ≡ Equal → x ≡ y
same_option None None e = refl
same_option None (Some y) e = absurd (true≢false (ap is_lt e))
same_option (Some x) None e = absurd (true≢false (ap is_gt e))
same_option (Some x) (Some y) e = ap Some (nat_cmp-IsAntisymmetric x y e)

same_parts : (v w : Value) → (owner_of v).0 ≡ (owner_of w).0 → (owner_of v).1 ≡ (owner_of w).1 → place_of v ≡ place_of w → v ≡ w
same_parts (Result x k) (Result y l) a b c = λ i. Result (a i) (c i)
same_parts (Result x k) (Arg y s l) a b c = absurd cc
same_parts (Arg x r k) (Result y l) a b c = absurd cc
same_parts (Arg x r k) (Arg y s l) a b c = let e : r ≡ s = cc in λ i. Arg (a i) (e i) (c i)

-- uses that compare equal are equal
pub same_use : (u v : Use) → use_cmp u v ≡ Equal → u ≡ v
same_use u v e =
    let a = both_equal _ _ e in
    let b = both_equal _ _ a.1 in
    let c = both_equal _ _ b.1 in
    let d = both_equal _ _ c.1 in
    let value = same_parts u.value v.value (nat_cmp-IsAntisymmetric _ _ a.0) (same_option _ _ b.0) (nat_cmp-IsAntisymmetric _ _ c.0) in
    λ i. record { value = value i; user = nat_cmp-IsAntisymmetric u.user v.user d.0 i; operand = nat_cmp-IsAntisymmetric u.operand v.operand d.1 i }

-- two uses in either order
two : (u v : Use) (us : List Use) → cond (is_gt (use_cmp u v)) (v ∷ u ∷ us) (u ∷ v ∷ us) ≡ cond (is_gt (use_cmp v u)) (u ∷ v ∷ us) (v ∷ u ∷ us)
two u v us = go (use_cmp u v) refl
  where
    go : (r : Ordering) → use_cmp u v ≡ r → cond (is_gt (use_cmp u v)) (v ∷ u ∷ us) (u ∷ v ∷ us) ≡ cond (is_gt (use_cmp v u)) (u ∷ v ∷ us) (v ∷ u ∷ us)
    go Less e = ap (λ o. cond (is_gt o) (v ∷ u ∷ us) (u ∷ v ∷ us)) e ∙ sym (ap (λ o. cond (is_gt o) (u ∷ v ∷ us) (v ∷ u ∷ us)) (use_total.antisymm v u ∙ ap ordering_reverse e))
    go Equal e =
        let s = same_use u v e in
        ap (λ o. cond (is_gt o) (v ∷ u ∷ us) (u ∷ v ∷ us)) e ∙ (λ i. s i ∷ sym s i ∷ us) ∙ sym (ap (λ o. cond (is_gt o) (u ∷ v ∷ us) (v ∷ u ∷ us)) (use_total.antisymm v u ∙ ap ordering_reverse e))
    go Greater e = ap (λ o. cond (is_gt o) (v ∷ u ∷ us) (u ∷ v ∷ us)) e ∙ sym (ap (λ o. cond (is_gt o) (u ∷ v ∷ us) (v ∷ u ∷ us)) (use_total.antisymm v u ∙ ap ordering_reverse e))

-- if u comes after w and v doesn't, v comes before u
after_by : (u v w : Use) (r : Ordering) → use_cmp u w ≡ Greater → use_cmp v w ≡ r → is_gt r ≡ false → use_cmp u v ≡ Greater
after_by u v w Less a b h =
    let wu : use_cmp w u ≡ Less = use_total.antisymm w u ∙ ap ordering_reverse a in
    let vu : use_cmp v u ≡ Less = use_total.trans v w u b wu in
    use_total.antisymm u v ∙ ap ordering_reverse vu
after_by u v w Equal a b h = let s : v ≡ w = same_use v w b in subst (λ (x : Use). use_cmp u x ≡ Greater) (sym s) a
after_by u v w Greater a b h = absurd (true≢false h)

greater : (r : Ordering) → is_gt r ≡ true → r ≡ Greater
greater Less e = absurd (true≢false (sym e))
greater Equal e = absurd (true≢false (sym e))
greater Greater e = refl

pub trailing : (u v w : Use) → is_gt (use_cmp u w) ≡ true → is_gt (use_cmp v w) ≡ false → is_gt (use_cmp u v) ≡ true
trailing u v w a b = ap is_gt (after_by u v w (use_cmp v w) (greater (use_cmp u w) a) refl b)

-- if v comes before u, u doesn't come before v
pub not_both : (u v : Use) → is_gt (use_cmp u v) ≡ true → is_gt (use_cmp v u) ≡ false
not_both u v a = ap is_gt (use_total.antisymm v u ∙ ap ordering_reverse (greater (use_cmp u v) a))

-- one step of `put_use`
pub put_after : (u v : Use) (vs : List Use) → is_gt (use_cmp u v) ≡ true → put_use u (v ∷ vs) ≡ v ∷ put_use u vs
put_after u v vs e = ap (λ b. cond b (v ∷ put_use u vs) (u ∷ v ∷ vs)) e

pub put_first : (u v : Use) (vs : List Use) → is_gt (use_cmp u v) ≡ false → put_use u (v ∷ vs) ≡ u ∷ v ∷ vs
put_first u v vs e = ap (λ b. cond b (v ∷ put_use u vs) (u ∷ v ∷ vs)) e

-- two uses may be inserted in either order
pub put_twice : (u v : Use) (us : List Use) → put_use u (put_use v us) ≡ put_use v (put_use u us)
put_twice u v [] = two u v []
put_twice u v (w ∷ ws) = go (put_twice u v ws) (is_gt (use_cmp u w)) (is_gt (use_cmp v w)) refl refl
  where
    go : put_use u (put_use v ws) ≡ put_use v (put_use u ws) → (a b : Bool) → is_gt (use_cmp u w) ≡ a → is_gt (use_cmp v w) ≡ b → put_use u (put_use v (w ∷ ws)) ≡ put_use v (put_use u (w ∷ ws))
    go later true true e f =
        ap (put_use u) (put_after v w ws f) ∙ put_after u w (put_use v ws) e ∙ ap (λ l. w ∷ l) later ∙ sym (put_after v w (put_use u ws) f) ∙ sym (ap (put_use v) (put_after u w ws e))
    go later true false e f =
        let uv = trailing u v w e f in
        ap (put_use u) (put_first v w ws f) ∙ put_after u v (w ∷ ws) uv ∙ ap (λ l. v ∷ l) (put_after u w ws e) ∙ sym (put_first v w (put_use u ws) f) ∙ sym (ap (put_use v) (put_after u w ws e))
    go later false true e f =
        let vu = trailing v u w f e in
        ap (put_use u) (put_after v w ws f) ∙ put_first u w (put_use v ws) e ∙ sym (ap (λ l. u ∷ l) (put_after v w ws f)) ∙ sym (put_after v u (w ∷ ws) vu) ∙ sym (ap (put_use v) (put_first u w ws e))
    go later false false e f =
        ap (put_use u) (put_first v w ws f)
        ∙ (λ i. cond (is_gt (use_cmp u v)) (v ∷ put_first u w ws e i) (u ∷ v ∷ w ∷ ws))
        ∙ two u v (w ∷ ws)
        ∙ sym (λ i. cond (is_gt (use_cmp v u)) (u ∷ put_first v w ws f i) (v ∷ u ∷ w ∷ ws))
        ∙ sym (ap (put_use v) (put_first u w ws e))

-- one use among others may be inserted first or last
pub insert_sorted : (xs ys : List Use) (u : Use) → in_order (xs ++ u ∷ ys) ≡ put_use u (in_order (xs ++ ys))
insert_sorted [] ys u = refl
insert_sorted (x ∷ xs) ys u = ap (put_use x) (insert_sorted xs ys u) ∙ put_twice x u (in_order (xs ++ ys))

-- uses in order are unchanged by ordering
put_later : (u : Use) (us : List Use) → in_order (put_use u us) ≡ put_use u (in_order us)
put_later u [] = refl
put_later u (v ∷ vs) = go (put_later u vs) (is_gt (use_cmp u v)) refl
  where
    go : in_order (put_use u vs) ≡ put_use u (in_order vs) → (b : Bool) → is_gt (use_cmp u v) ≡ b → in_order (put_use u (v ∷ vs)) ≡ put_use u (in_order (v ∷ vs))
    go later true e = ap in_order (put_after u v vs e) ∙ ap (put_use v) later ∙ put_twice v u (in_order vs)
    go later false e = ap in_order (put_first u v vs e)

pub order_again : (us : List Use) → in_order (in_order us) ≡ in_order us
order_again [] = refl
order_again (u ∷ us) = put_later u (in_order us) ∙ ap (put_use u) (order_again us)

-- removing an inserted use restores the list
pub drop_put : (u : Use) (us : List Use) → drop_use u (put_use u us) ≡ us
drop_put u [] = ap (λ r. cond (is_eq r) [] (u ∷ [])) (tied_itself use_total u)
drop_put u (v ∷ vs) = go (drop_put u vs) (is_gt (use_cmp u v)) refl
  where
    go : drop_use u (put_use u vs) ≡ vs → (b : Bool) → is_gt (use_cmp u v) ≡ b → drop_use u (put_use u (v ∷ vs)) ≡ v ∷ vs
    go later true e =
        ap (drop_use u) (put_after u v vs e)
        ∙ ap (λ r. cond (is_eq r) (put_use u vs) (v ∷ drop_use u (put_use u vs))) (greater (use_cmp u v) e)
        ∙ ap (λ l. v ∷ l) later
    go later false e = ap (drop_use u) (put_first u v vs e) ∙ ap (λ r. cond (is_eq r) (v ∷ vs) (u ∷ drop_use u (v ∷ vs))) (tied_itself use_total u)
