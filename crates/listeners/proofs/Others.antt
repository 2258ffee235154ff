-- The uses by one operation, and those by others.
use Rattle.std.proofs.Common.{◌≡◌, refl, ap, sym, ◌∙◌, ℕ, ◌+◌, Bool, true, false, cond, not, ◌&&◌, eqb, eq-eqb, List, [], ◌∷◌, ◌++◌}
use Rattle.std.proofs.lemmas.Bool.{cases_eq, ne_eqb}
use Rattle.std.proofs.Common.{⊎_elim}
use Rattle.std.specs.Ordering.{is_gt}
use Rattle.ir_event.specs.trees.declared.value.Value.{Value}
use Rattle.listeners.specs.declared.key.Use.{Use}
use Rattle.listeners.specs.Uses.{operand_uses, use_cmp, put_use, in_order}
use Rattle.listeners.specs.Others.{is_other, only, others}
use Rattle.listeners.proofs.Drops.{drop_all, insert_entries}
use Rattle.listeners.proofs.Moving.{drop_all_order, put_all_order}
use Rattle.listeners.proofs.Orders.{put_after, put_first, put_twice}
use Rattle.ir_event.proofs.of_types.Sorting.{flips_eq}

-- the filtered uses of two concatenated lists
pub only_append : (p : ℕ → Bool) (us vs : List Use) → only p (us ++ vs) ≡ only p us ++ only p vs
only_append p [] vs = refl
only_append p (u ∷ us) vs =
    ap (λ l. cond (p u.user) (u ∷ l) l) (only_append p us vs)
    ∙ elim (p u.user) as (λ b. cond b (u ∷ only p us ++ only p vs) (only p us ++ only p vs) ≡ cond b (u ∷ only p us) (only p us) ++ only p vs) [ true ↦ refl | false ↦ refl ]

pub only_same : (p q : ℕ → Bool) (us : List Use) → ((x : ℕ) → p x ≡ q x) → only p us ≡ only q us
only_same p q [] h = refl
only_same p q (u ∷ us) h = λ i. cond (h u.user i) (u ∷ only_same p q us h i) (only_same p q us h i)

pub only_both : (p q : ℕ → Bool) (us : List Use) → only p (only q us) ≡ only (λ x. q x && p x) us
only_both p q [] = refl
only_both p q (u ∷ us) =
    elim (q u.user) as (λ b. only p (cond b (u ∷ only q us) (only q us)) ≡ cond (b && p u.user) (u ∷ only (λ x. q x && p x) us) (only (λ x. q x && p x) us))
    [ true ↦ ap (λ l. cond (p u.user) (u ∷ l) l) (only_both p q us) | false ↦ only_both p q us ]

and_turned : (a b : Bool) → (a && b) ≡ (b && a)
and_turned true true = refl
and_turned true false = refl
and_turned false true = refl
and_turned false false = refl

pub only_turned : (p q : ℕ → Bool) (us : List Use) → only p (only q us) ≡ only q (only p us)
only_turned p q us = only_both p q us ∙ only_same (λ x. q x && p x) (λ x. p x && q x) us (λ x. and_turned (q x) (p x)) ∙ sym (only_both q p us)

pub others_twice : (x : ℕ) (us : List Use) → others x (others x us) ≡ others x us
others_twice x us = only_both (is_other x) (is_other x) us ∙ only_same (λ y. is_other x y && is_other x y) (is_other x) us (λ y. once (not (eqb x y)))
  where
    once : (b : Bool) → (b && b) ≡ b
    once true = refl
    once false = refl

-- the uses of one operation are all kept or all removed
pub own_only : (p : ℕ → Bool) (x k : ℕ) (vs : List Value) → only p (operand_uses x k vs) ≡ cond (p x) (operand_uses x k vs) []
own_only p x k [] = none (p x)
  where
    none : (b : Bool) → ◌≡◌ {A = List Use} [] (cond b [] [])
    none true = refl
    none false = refl
own_only p x k (v ∷ vs) =
    let u : Use = record { value = v; user = x; operand = k } in
    let rest : List Use = operand_uses x (k + 1) vs in
    ap (λ l. cond (p x) (u ∷ l) l) (own_only p x (k + 1) vs)
    ∙ elim (p x) as (λ b. cond b (u ∷ cond b rest []) (cond b rest []) ≡ cond b (u ∷ rest) []) [ true ↦ refl | false ↦ refl ]

pub own_out : (x k : ℕ) (vs : List Value) → others x (operand_uses x k vs) ≡ []
own_out x k vs = own_only (is_other x) x k vs ∙ ap (λ b. cond (not b) (operand_uses x k vs) []) (eq-eqb x x refl)

pub own_in : (x y k : ℕ) (vs : List Value) → eqb x y ≡ false → others x (operand_uses y k vs) ≡ operand_uses y k vs
own_in x y k vs e = own_only (is_other x) y k vs ∙ ap (λ b. cond (not b) (operand_uses y k vs) []) e

-- the remaining uses don't depend on the order
preceding : (x : ℕ) (u : Use) (us vs : List Use) → in_order (others x us) ≡ in_order (others x vs) → in_order (others x (u ∷ us)) ≡ in_order (others x (u ∷ vs))
preceding x u us vs e =
    elim (not (eqb x u.user)) as (λ b. in_order (cond b (u ∷ others x us) (others x us)) ≡ in_order (cond b (u ∷ others x vs) (others x vs))) [ true ↦ ap (put_use u) e | false ↦ e ]

either_first : (a b : Bool) (u v : Use) (l : List Use) → in_order (cond b (v ∷ cond a (u ∷ l) l) (cond a (u ∷ l) l)) ≡ in_order (cond a (u ∷ cond b (v ∷ l) l) (cond b (v ∷ l) l))
either_first true true u v l = put_twice v u (in_order l)
either_first true false u v l = refl
either_first false true u v l = refl
either_first false false u v l = refl

put_others : (x : ℕ) (u : Use) (us : List Use) → in_order (others x (put_use u us)) ≡ in_order (others x (u ∷ us))
put_others x u [] = refl
put_others x u (v ∷ vs) = go (put_others x u vs) (is_gt (use_cmp u v)) refl
  where
    go : in_order (others x (put_use u vs)) ≡ in_order (others x (u ∷ vs)) → (b : Bool) → is_gt (use_cmp u v) ≡ b → in_order (others x (put_use u (v ∷ vs))) ≡ in_order (others x (u ∷ v ∷ vs))
    go later true e =
        ap (λ l. in_order (others x l)) (put_after u v vs e) ∙ preceding x v (put_use u vs) (u ∷ vs) later ∙ either_first (not (eqb x u.user)) (not (eqb x v.user)) u v (others x vs)
    go later false e = ap (λ l. in_order (others x l)) (put_first u v vs e)

others_order : (x : ℕ) (us : List Use) → in_order (others x (in_order us)) ≡ in_order (others x us)
others_order x [] = refl
others_order x (u ∷ us) = put_others x u (in_order us) ∙ preceding x u (in_order us) us (others_order x us)

pub others_alike : (x : ℕ) (us vs : List Use) → in_order us ≡ in_order vs → in_order (others x us) ≡ in_order (others x vs)
others_alike x us vs e = sym (others_order x us) ∙ ap (λ l. in_order (others x l)) e ∙ others_order x vs

-- uses prepended to others
pub after_alike : (us vs ws : List Use) → in_order vs ≡ in_order ws → in_order (us ++ vs) ≡ in_order (us ++ ws)
after_alike us vs ws e = sym (put_all_order us vs) ∙ ap (insert_entries us) e ∙ put_all_order us ws

pub cancelled : (us vs ws : List Use) → in_order (us ++ vs) ≡ in_order (us ++ ws) → in_order vs ≡ in_order ws
cancelled us vs ws e = sym (drop_all_order us vs) ∙ ap (drop_all us) e ∙ drop_all_order us ws
