-- The facts of a walk agree with the operations, and no other facts do.
use Rattle.std.proofs.Common.{◌≡◌, ◌≢◌, ℕ, List, [], ◌∷◌, ◌++◌, Option, Some, None, ◌⊎◌, inl, inr, refl, sym, ap, ◌∙◌, subst, cond, eqb}
use Rattle.std.proofs.lemmas.Bool.{eq-eqb, ne_eqb, cases_eq}
use Rattle.ir_event.specs.trees.declared.value.Value.{Value}
use Rattle.ir_event.specs.trees.declared.value.Value.TheVariants.{Result, Arg}
use Rattle.ir_event.specs.tree_laws.Members.{In}
use Rattle.dialects_int.specs.Folds.{Known, fold_of}
use Rattle.constants.specs.Facts.{Header, Facts, known, knowns, folded, folded_if, AreLocal}
use Rattle.constants.specs.Walk.{nothing, with_fact, walk, look_among, AllVisited, AreOrdered, visited_after}
use Rattle.ir_event.proofs.of_tree_laws.Facts.{in_or_not}

pub put_same : (x : ℕ) (v : Option Known) (t : Facts) → with_fact x v t x ≡ v
put_same x v t = ap (λ b. cond b v (t x)) (eq-eqb x x refl)

pub put_other : (x y : ℕ) (v : Option Known) (t : Facts) → y ≢ x → with_fact x v t y ≡ t y
put_other x y v t ne = ap (λ b. cond b v (t y)) (ne_eqb y x ne)

pub some_or_none : (o : Option Known) → (o ≡ None) ⊎ ((v : Known) × (o ≡ Some v))
some_or_none None = inl refl
some_or_none (Some v) = inr (v, refl)

pub not_both : (o : Option Known) (v : Known) → o ≡ None → o ≡ Some v → ⊥
not_both o v p q = let e : None ≡ Some v = sym p ∙ q in cc

pub none_if_not : (o : Option Known) → ((v : Known) → o ≡ Some v → ⊥) → o ≡ None
none_if_not None h = refl
none_if_not (Some v) h = absurd (h v refl)

-- the known values of operands depend only on those of their operations
pub knowns_visited : (s t : Facts) (visited : List ℕ) (vs : List Value) → ((y : ℕ) → In y visited → s y ≡ t y) → AllVisited visited vs → knowns s vs ≡ knowns t vs
knowns_visited s t visited [] same all = refl
knowns_visited s t visited (Result x k ∷ vs) same all = λ i. cond (eqb k 0) (same x all.0 i) None ∷ knowns_visited s t visited vs same all.1 i
knowns_visited s t visited (Arg x r k ∷ vs) same all = ap (λ r. None ∷ r) (knowns_visited s t visited vs same all)

pub known_same : (s t : Facts) (v : Value) → ((y : ℕ) → s y ≡ t y) → known s v ≡ known t v
known_same s t (Result x k) same = ap (λ o. cond (eqb k 0) o None) (same x)
known_same s t (Arg x r k) same = refl

pub knowns_same : (s t : Facts) (vs : List Value) → ((y : ℕ) → s y ≡ t y) → knowns s vs ≡ knowns t vs
knowns_same s t [] same = refl
knowns_same s t (v ∷ vs) same = λ i. known_same s t v same i ∷ knowns_same s t vs same i

pub folded_knowns : (h : Header) (s t : Facts) → knowns s h.operands ≡ knowns t h.operands → folded h s ≡ folded h t
folded_knowns h s t e = ap (λ ks. fold_of h.name h.properties ks h.results) e

pub value_same : (o : Option Header) (s t : Facts) → ((y : ℕ) → s y ≡ t y) → folded_if o s ≡ folded_if o t
value_same None s t same = refl
value_same (Some h) s t same = folded_knowns h s t (knowns_same s t h.operands same)

pub visited_stays : (y : ℕ) (visited : List ℕ) (hs : List Header) → In y visited → In y (visited_after visited hs)
visited_stays y visited [] h = h
visited_stays y visited (n ∷ hs) h = visited_stays y (n.id ∷ visited) hs (inr h)

abbrev Solved : Facts → List Header → Type 0
Solved t [] = Unit {0}
Solved t (h ∷ hs) = (t h.id ≡ folded h t) × Solved t hs

walk_keeps : (visited : List ℕ) (hs : List Header) (s : Facts) (y : ℕ) → AreOrdered visited hs → In y visited → walk hs s y ≡ s y
walk_keeps visited [] s y o h = refl
walk_keeps visited (n ∷ hs) s y o h =
    walk_keeps (n.id ∷ visited) hs (with_fact n.id (folded n s) s) y o.2 (inr h)
    ∙ put_other n.id y (folded n s) s (λ e. o.0 (subst (λ z. In z visited) e h))

pub walk_outside : (visited : List ℕ) (hs : List Header) (s : Facts) (y : ℕ) → (In y (visited_after visited hs) → ⊥) → walk hs s y ≡ s y
walk_outside visited [] s y out = refl
walk_outside visited (n ∷ hs) s y out =
    walk_outside (n.id ∷ visited) hs (with_fact n.id (folded n s) s) y out
    ∙ put_other n.id y (folded n s) s (λ e. out (visited_stays y (n.id ∷ visited) hs (inl e)))

walk_solves : (visited : List ℕ) (hs : List Header) (s : Facts) → AreOrdered visited hs → Solved (walk hs s) hs
walk_solves visited [] s o = tt
walk_solves visited (n ∷ hs) s o =
    let s1 : Facts = with_fact n.id (folded n s) s in
    let t : Facts = walk hs s1 in
    let same : (y : ℕ) → In y visited → s y ≡ t y = λ y h. sym (walk_keeps visited (n ∷ hs) s y o h) in
    (walk_keeps (n.id ∷ visited) hs s1 n.id o.2 (inl refl) ∙ put_same n.id (folded n s) s ∙ folded_knowns n s t (knowns_visited s t visited n.operands same o.1), walk_solves (n.id ∷ visited) hs s1 o.2)

-- the equations have one solution
solved_walk : (visited : List ℕ) (hs : List Header) (s t : Facts) → AreOrdered visited hs → ((y : ℕ) → In y visited → s y ≡ t y) → Solved t hs → (y : ℕ) → In y (visited_after visited hs) → walk hs s y ≡ t y
solved_walk visited [] s t o same solved y h = same y h
solved_walk visited (n ∷ hs) s t o same solved y h =
    let s1 : Facts = with_fact n.id (folded n s) s in
    let e : folded n s ≡ t n.id = folded_knowns n s t (knowns_visited s t visited n.operands same o.1) ∙ sym solved.0 in
    let same1 : (z : ℕ) → In z (n.id ∷ visited) → s1 z ≡ t z = λ z g. elim (cases_eq z n.id) [
      | inl eq ↦ ap s1 eq ∙ put_same n.id (folded n s) s ∙ e ∙ ap t (sym eq)
      | inr ne ↦ put_other n.id z (folded n s) s ne ∙ same z (elim g [ inl eq ↦ absurd (ne eq) | inr g2 ↦ g2 ])
    ] in
    solved_walk (n.id ∷ visited) hs s1 t o.2 same1 solved.1 y h

pub node_here : (n : Header) (hs : List Header) → look_among (n ∷ hs) n.id ≡ Some n
node_here n hs = ap (λ b. cond b (Some n) (look_among hs n.id)) (eq-eqb n.id n.id refl)

pub node_there : (n : Header) (hs : List Header) (x : ℕ) → x ≢ n.id → look_among (n ∷ hs) x ≡ look_among hs x
node_there n hs x ne = ap (λ b. cond b (Some n) (look_among hs x)) (ne_eqb x n.id ne)

-- from the equation at each number to the equation of each operation in the list, and back
solved_from_local : (visited : List ℕ) (hs : List Header) (t : Facts) → AreOrdered visited hs → ((x : ℕ) → (In x visited → ⊥) → t x ≡ folded_if (look_among hs x) t) → Solved t hs
solved_from_local visited [] t o l = tt
solved_from_local visited (n ∷ hs) t o l = (
  l n.id o.0 ∙ ap (λ m. folded_if m t) (node_here n hs),
  solved_from_local (n.id ∷ visited) hs t o.2 (λ x out. l x (λ h. out (inr h)) ∙ ap (λ m. folded_if m t) (node_there n hs x (λ e. out (inl e)))),
)

local_from_solved : (visited : List ℕ) (hs : List Header) (t : Facts) → AreOrdered visited hs → ((x : ℕ) → (In x (visited_after visited hs) → ⊥) → t x ≡ None) → Solved t hs
    → (x : ℕ) → (In x visited → ⊥) → t x ≡ folded_if (look_among hs x) t
local_from_solved visited [] t o outside solved x out = outside x out
local_from_solved visited (n ∷ hs) t o outside solved x out = elim (cases_eq x n.id) [
  | inl e ↦ ap t e ∙ solved.0 ∙ ap (λ m. folded_if m t) (sym (node_here n hs)) ∙ ap (λ z. folded_if (look_among (n ∷ hs) z) t) (sym e)
  | inr ne ↦ local_from_solved (n.id ∷ visited) hs t o.2 outside solved.1 x (λ h. elim h [ inl e ↦ ne e | inr h2 ↦ out h2 ])
      ∙ ap (λ m. folded_if m t) (sym (node_there n hs x ne))
]

pub node_outside : (visited : List ℕ) (hs : List Header) (x : ℕ) → (In x (visited_after visited hs) → ⊥) → look_among hs x ≡ None
node_outside visited [] x out = refl
node_outside visited (n ∷ hs) x out = node_there n hs x (λ e. out (visited_stays x (n.id ∷ visited) hs (inl e))) ∙ node_outside (n.id ∷ visited) hs x out

-- the facts of the walk agree with the operations
pub walk_is_local : (hs : List Header) → AreOrdered [] hs → AreLocal (look_among hs) (walk hs nothing)
walk_is_local hs o x = local_from_solved [] hs (walk hs nothing) o (λ y out. walk_outside [] hs nothing y out) (walk_solves [] hs nothing o) x (λ h. h)

-- no other facts agree with them
pub local_is_walk : (hs : List Header) (t : Facts) → AreOrdered [] hs → AreLocal (look_among hs) t → (x : ℕ) → t x ≡ walk hs nothing x
local_is_walk hs t o l x = elim (in_or_not x (visited_after [] hs)) [
  | inl h ↦ sym (solved_walk [] hs nothing t o (λ y g. absurd g) (solved_from_local [] hs t o (λ y _. l y)) x h)
  | inr non ↦ l x ∙ ap (λ m. folded_if m t) (node_outside [] hs x non) ∙ sym (walk_outside [] hs nothing x non)
]

pub walk_append : (xs ys : List Header) (t : Facts) → walk (xs ++ ys) t ≡ walk ys (walk xs t)
walk_append [] ys t = refl
walk_append (n ∷ xs) ys t = walk_append xs ys (with_fact n.id (folded n t) t)
