-- Changes of a table: one entry, and a walk up the parents.
use Rattle.std.proofs.Common.{◌≡◌, ℕ, ◌+◌, List, ◌∷◌, Bool, true, false, true≢false, Option, Some, None, refl, sym, ap, ◌∙◌, subst, arith, cond, ◌&&◌, inl}
use Rattle.std.specs.Bool.{OnTrue}
use Rattle.op_registry.specs.declared.own.Own.{Own}
use Rattle.op_registry.specs.declared.own.Own.TheVariants.{Pure, Only, Recursive, Unknown}
use Rattle.effects.specs.declared.row.Row.{Row}
use Rattle.effects.specs.Effects.{Effect, unknown, allocate, free, read, write, has, none, own_kinds, is_recursive}
use Rattle.effects.specs.Points.{Point, one_if, is_in, Apart, Rows, given, count_of, with_row, Holds}
use Rattle.effects.specs.Walks.{new_row, no_counts}
use Rattle.effects.specs.Following.{Whole, PutIn, TakenOut, ShiftedTo}
use Rattle.effects.proofs.Tables.{has_none, and_none, taken, put_in, moved}
use Rattle.std.proofs.lemmas.Option.{same_Some}

pub on_true_more : (b : Bool) (P Q : Type 0) → (P → Q) → OnTrue b P → OnTrue b Q
on_true_more true P Q f p = f p
on_true_more false P Q f p = tt

pub on_true_is : (b : Bool) (P : Type 0) → b ≡ true → OnTrue b P → P
on_true_is true P e p = p
on_true_is false P e p = absurd (true≢false (sym e))

-- two tables are equal except for one entry
same_rows : (a b : Rows) (x y : ℕ) (r : Option Row) → y ≡ x → ((z : ℕ) → b z ≡ with_row x r a z) → with_row y r a ≡ b
same_rows a b x y r e is = λ i z. (ap (λ w. with_row w r a z) e ∙ sym (is z)) i

-- no operation is removed from a table that has no entry for it
gone : (a : Rows) (x : ℕ) (n : Point) (ns : List Point) → a x ≡ None → n.id ≡ x → Whole a (n ∷ ns) → ⊥
gone a x n ns none id h = let k = h.known n (inl refl) in let bad : None ≡ Some k.row = sym none ∙ ap a (sym id) ∙ k.is in absurd cc

pub take_some : (a mid b : Rows) (x : ℕ) (r : Row) → a x ≡ Some r → ((y : ℕ) → mid y ≡ with_row x None a y) → ((ns : List Point) → Apart ns → Holds mid ns r.parent none r.has → Whole b ns) → TakenOut x a b
take_some a mid b x r here is up n ns id apart h =
    up ns apart.1 (subst (λ (z : Rows). Holds z ns r.parent none r.has) (same_rows a mid x n.id None id is) (taken a n ns r apart (ap a id ∙ here) h))

pub take_none : (a b : Rows) (x : ℕ) → a x ≡ None → TakenOut x a b
take_none a b x none n ns id apart h = absurd (gone a x n ns none id h)

pub detach_none : (a b : Rows) (x : ℕ) (p : Option ℕ) → a x ≡ None → ShiftedTo x p a b
detach_none a b x p none n ns id apart h = absurd (gone a x n ns none id h)

pub detach_some : (a mid b : Rows) (x : ℕ) (r : Row) → a x ≡ Some r → ((y : ℕ) → mid y ≡ with_row x (Some (record r { parent = None })) a y)
    → ((ns : List Point) → Apart ns → Holds mid ns r.parent none r.has → Whole b ns) → ShiftedTo x None a b
detach_some a mid b x r here is up n ns id apart h =
    let k = h.known n (inl refl) in
    let above : n.parent ≡ r.parent = sym k.parent ∙ ap (λ (s : Row). s.parent) (same_Some k.row r (sym k.is ∙ ap a id ∙ here)) in
    let m : Point = record n { parent = None } in
    let due : (e : Effect) (y : ℕ) → one_if (is_in y n.parent && has e r.has) + one_if (is_in y r.parent && has e none) ≡ one_if (is_in y m.parent && has e r.has) + one_if (is_in y r.parent && has e r.has) =
    λ e y. (let z = and_none (is_in y r.parent) (has e none) (has_none e) in let w : one_if (is_in y n.parent && has e r.has) ≡ one_if (is_in y r.parent && has e r.has) = ap (λ p. one_if (is_in y p && has e r.has)) above in omega (arith, z, w)) in
    let step = moved a n m ns r (record r { parent = None }) refl refl apart.0 (ap a id ∙ here) refl refl refl refl h r.parent none r.has due in
    up (m ∷ ns) apart (subst (λ (z : Rows). Holds z (m ∷ ns) r.parent none r.has) (same_rows a mid x n.id (Some (record r { parent = None })) id is) step)

pub attach_some : (a mid b : Rows) (x q : ℕ) (r : Row) → a x ≡ Some r → ((y : ℕ) → mid y ≡ with_row x (Some (record r { parent = Some q })) a y)
    → ((ns : List Point) → Apart ns → Holds mid ns (Some q) r.has none → Whole b ns)
    → (n : Point) (ns : List Point) → n.id ≡ x → n.parent ≡ None → Apart (n ∷ ns) → Whole a (n ∷ ns) → Whole b (record n { parent = Some q } ∷ ns)
attach_some a mid b x q r here is up n ns id alone apart h =
    let m : Point = record n { parent = Some q } in
    let due : (e : Effect) (y : ℕ) → one_if (is_in y n.parent && has e r.has) + one_if (is_in y (Some q) && has e r.has) ≡ one_if (is_in y m.parent && has e r.has) + one_if (is_in y (Some q) && has e none) =
    λ e y. (let z = and_none (is_in y (Some q)) (has e none) (has_none e) in let w : one_if (is_in y n.parent && has e r.has) ≡ 0 = ap (λ p. one_if (is_in y p && has e r.has)) alone in omega (arith, z, w)) in
    let step = moved a n m ns r (record r { parent = Some q }) refl refl apart.0 (ap a id ∙ here) refl refl refl refl h (Some q) r.has none due in
    up (m ∷ ns) apart (subst (λ (z : Rows). Holds z (m ∷ ns) (Some q) r.has none) (same_rows a mid x n.id (Some (record r { parent = Some q })) id is) step)

count_none : (e : Effect) → count_of e no_counts ≡ 0
count_none unknown = refl
count_none allocate = refl
count_none free = refl
count_none read = refl
count_none write = refl

own_none : (o : Own) → is_recursive o ≡ true → own_kinds o ≡ none
own_none Pure r = refl
own_none (Only s) r = absurd (true≢false (sym r))
own_none Recursive r = refl
own_none Unknown r = absurd (true≢false (sym r))

new_has : (o : Own) (e : Effect) → has e (own_kinds o) ≡ given e o 0
new_has o e = go (is_recursive o) refl
  where
    go : (b : Bool) → is_recursive o ≡ b → has e (own_kinds o) ≡ cond b false (has e (own_kinds o))
    go true r = ap (has e) (own_none o r) ∙ has_none e
    go false r = refl

pub put_some : (a mid b : Rows) (x : ℕ) (p : Option ℕ) (o : Own) (r : Row) → r ≡ new_row p o → ((y : ℕ) → mid y ≡ with_row x (Some r) a y)
    → ((ns : List Point) → Apart ns → Holds mid ns p r.has none → Whole b ns) → PutIn x p o a b
put_some a mid b x p o r made is up n ns id parent own apart childless h =
    let q : r.parent ≡ p = ap (λ (k : Row). k.parent) made in
    let step = put_in a n ns r apart.0 childless (q ∙ sym parent) (ap (λ (k : Row). k.recursive) made ∙ ap is_recursive (sym own))
    (λ e. ap (λ (k : Row). count_of e k.counts) made ∙ count_none e) (λ e. ap (λ (k : Row). has e k.has) made ∙ new_has o e ∙ ap (λ k. given e k 0) (sym own)) h in
    up (n ∷ ns) apart (subst (λ z. Holds mid (n ∷ ns) z r.has none) q (subst (λ (z : Rows). Holds z (n ∷ ns) r.parent r.has none) (same_rows a mid x n.id (Some r) id is) step))

pub put_more : (a mid b : Rows) (x : ℕ) (p : Option ℕ) (o : Own) (r : Row) → r ≡ new_row p o → ((y : ℕ) → mid y ≡ with_row x (Some r) a y)
    → ((ns : List Point) → Apart ns → Holds mid ns r.parent r.has none → Whole b ns) → PutIn x p o a b
put_more a mid b x p o r made is up =
    put_some a mid b x p o r made is (λ ns apart h. up ns apart (subst (λ z. Holds mid ns z r.has none) (sym (ap (λ (k : Row). k.parent) made)) h))
