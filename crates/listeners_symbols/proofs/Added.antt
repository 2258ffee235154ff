-- Tables to which the roles of operations are added, parents before their children.
use Rattle.std.proofs.Common.{◌≡◌, refl, ap, sym, ◌∙◌, subst, ℕ, Bool, true, false, true≢false, ◌||◌, eqb, eq-eqb, eqb-true, List, [], ◌∷◌, Option, Some, None, inl, inr}
use Rattle.std.specs.Prelude.{option_map, is_some, IfSome}
use Rattle.std.specs.List.{list_any}
use Rattle.ir_event.specs.types.Things.{ContextModel}
use Rattle.ir_event.specs.trees.Ids.{ids, has_id}
use Rattle.ir_event.specs.trees.Meaning.{Operation}
use Rattle.ir_event.specs.tree_laws.Stands.{stands, op_with_path}
use Rattle.ir_event.proofs.of_tree_laws.Listed.{bool_cases, neither}
use Rattle.ir_event.proofs.of_tree_laws.Members.{member}
use Rattle.ir_event.proofs.of_tree_laws.Around.{stand_present}
use Rattle.ir_event.specs.declared.world.World.{World}
use Rattle.ir_event.specs.Modules.{module_in}
use Rattle.listeners_symbols.specs.Roles.{OpWithPath, role, role_of}
use Rattle.listeners_symbols.specs.declared.role.Role.{Role as Numbers}
use Rattle.listeners_symbols.specs.Table.{Table, Says, MaySay, HasParents, Keeps, Renewed, AreRight, Added, RoleIsOf, role_meaning}
use Rattle.listeners_symbols.proofs.Omitted.{said, some_more}
use Rattle.std.proofs.lemmas.Bool.{or_left, or_right}
use Rattle.ir_event.proofs.of_tree_laws.Reasoned.{some_there}

-- an entry that was there stays there
pub still : (c : ContextModel) (t : Operation) (x : ℕ) (f g : Table) → Renewed c t x f g → (p : ℕ) → is_some (f p) ≡ true → is_some (g p) ≡ true
still c t x f g r p i = elim (bool_cases (eqb x p)) [
  | inr apart ↦ ap is_some (r.others p apart) ∙ i
  | inl same ↦ (let e = eqb-true x p same in subst (λ z. is_some (g z) ≡ true) e (r.stays (ap (λ z. is_some (f z)) e ∙ i)))
]

pub renewed_parents : (c : ContextModel) (t : Operation) (x : ℕ) (f g : Table) → Renewed c t x f g → HasParents f → HasParents g
renewed_parents c t x f g r h y k e = some_more (λ p. is_some (f p) ≡ true) (λ p. is_some (g p) ≡ true) k.parent before (still c t x f g r)
  where
    before : IfSome k.parent (λ p. is_some (f p) ≡ true)
    before = elim (bool_cases (eqb x y)) [
      | inr apart ↦ h y k (sym (r.others y apart) ∙ e)
      | inl same ↦ r.parents k (ap g (eqb-true x y same) ∙ e)
    ]

module _ (c : ContextModel) (t : Operation) where
  pub added_none : (f : Table) → Added c t [] f f
  added_none f = record { right = λ h r. r; says = λ h r x e. absurd (true≢false (sym e)); parents = λ h. h; others = λ x e. refl }

  own_says : (x : ℕ) (f g : Table) → Renewed c t x f g → has_id x t ≡ true → AreRight c t f → MaySay c (role_of t x) (g x)
  own_says x f g r has right = r.own has (λ p j. let z = some_there (f p) (r.parent p j) in subst (Says c (role_of t p)) (sym z.1) (right p z.0 z.1))

  -- the table after one update
  renewed_right : (x : ℕ) (f g : Table) → Renewed c t x f g → has_id x t ≡ true → AreRight c t f → AreRight c t g
  renewed_right x f g r has right y k e = elim (bool_cases (eqb x y)) [
    | inr apart ↦ right y k (sym (r.others y apart) ∙ e)
    | inl same ↦ (let i = eqb-true x y same in
        subst (λ z. Says c (role_of t z) (Some k)) i (said c (role_of t x) k (subst (MaySay c (role_of t x)) (ap g i ∙ e) (own_says x f g r has right))))
  ]

  pub added_one : (x : ℕ) (xs : List ℕ) (f g h : Table) → Renewed c t x f g → Added c t xs g h → Added c t (x ∷ xs) f h
  added_one x xs f g h r a = record {
    right = λ all right. a.right (λ y k. all y (or_right (eqb x y) (list_any (λ z. eqb z y) xs) k)) (renewed_right x f g r (all x (or_left (eqb x x) (list_any (λ z. eqb z x) xs) (eq-eqb x x refl))) right);
    says = λ all right y k. says (λ y k. all y (or_right (eqb x y) (list_any (λ z. eqb z y) xs) k)) (all x (or_left (eqb x x) (list_any (λ z. eqb z x) xs) (eq-eqb x x refl))) right y k (list_any (λ z. eqb z y) xs) refl;
    parents = λ p. a.parents (renewed_parents c t x f g r p);
    others = λ y k. (let n = neither (eqb x y) (list_any (λ z. eqb z y) xs) k in a.others y n.1 ∙ r.others y n.0);
  }
    where
      says : ((y : ℕ) → list_any (λ z. eqb z y) xs ≡ true → has_id y t ≡ true) → has_id x t ≡ true → AreRight c t f → (y : ℕ) → (eqb x y || list_any (λ z. eqb z y) xs) ≡ true → (b : Bool) → list_any (λ z. eqb z y) xs ≡ b → MaySay c (role_of t y) (h y)
      says all has right y k true e = a.says all (renewed_right x f g r has right) y e
      says all has right y k false e = elim (bool_cases (eqb x y)) [
        | inl i ↦ subst (MaySay c (role_of t y)) (sym (a.others y e)) (subst (λ z. MaySay c (role_of t z) (g z)) (eqb-true x y i) (own_says x f g r has right))
        | inr i ↦ absurd (true≢false (sym k ∙ (λ j. i j || e j)))
      ]

  no_role : (y : ℕ) → list_any (λ z. eqb z y) (ids t) ≡ false → role_of t y ≡ None
  no_role y e = go (op_with_path y t) refl
    where
      go : (o : Option OpWithPath) → op_with_path y t ≡ o → role_of t y ≡ None
      go None f = ap (option_map (role t)) f
      go (Some s) f =
          let m = member y (stands [] t) s f in
          absurd (true≢false (sym (stand_present [] t s m.0) ∙ ap (λ k. list_any (λ z. eqb z k) (ids t)) m.1 ∙ e))

  -- the table of a whole tree
  pub all_added : (xs : List ℕ) (f g : Table) → xs ≡ ids t → ((y : ℕ) → f y ≡ None) → Added c t xs f g → Keeps c t g
  all_added xs f g e vacant a = record { says = λ y. says y (list_any (λ z. eqb z y) xs) refl; parents = a.parents (λ x r i. nothing x r i) }
    where
      nothing : {P : Type 0} (x : ℕ) (r : Numbers) → f x ≡ Some r → P
      nothing x r i = (let no : None ≡ Some r = sym (vacant x) ∙ i in absurd cc)

      says : (y : ℕ) (b : Bool) → list_any (λ z. eqb z y) xs ≡ b → MaySay c (role_of t y) (g y)
      says y true i = a.says (λ x k. ap (list_any (λ z. eqb z x)) (sym e) ∙ k) (λ x r j. nothing x r j) y i
      says y false i =
          let none : g y ≡ None = a.others y i ∙ vacant y in
          inl (record { is = ap (option_map (role_meaning c)) none ∙ sym (no_role y (ap (list_any (λ z. eqb z y)) (sym e) ∙ i)); known = subst (λ o. IfSome o (RoleIsOf c)) (sym none) tt })

-- the same in an equal IR state
pub renewed_in : (u w : World) → u ≡ w → (x : ℕ) (f g : Table) → Renewed u.ctx (module_in u).tree x f g → Renewed w.ctx (module_in w).tree x f g
renewed_in u w e x f g r = subst (λ (z : World). Renewed z.ctx (module_in z).tree x f g) e r

pub added_as : (c : ContextModel) (t : Operation) (xs ys : List ℕ) (f g : Table) → xs ≡ ys → Added c t xs f g → Added c t ys f g
added_as c t xs ys f g e a = subst (λ l. Added c t l f g) e a

pub added_in : (u w : World) → u ≡ w → (xs : List ℕ) (f g : Table) → Added u.ctx (module_in u).tree xs f g → Added w.ctx (module_in w).tree xs f g
added_in u w e xs f g r = subst (λ (z : World). Added z.ctx (module_in z).tree xs f g) e r
