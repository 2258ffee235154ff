-- The operations of a block move, one after another, before the operation around the block.
use Rattle.std.proofs.Common.{◌≡◌, refl, ap, sym, ◌∙◌, subst, ℕ, ◌+◌, Bool, false, ◌&&◌, cond, eqb, eq-eqb, eqb-true, List, [], ◌∷◌, ◌++◌, length, Some, None, option_map, inl, inr, arith}
use Rattle.ir_tree.specs.declared.value.Value.TheVariants.{Arg}
use Rattle.ir_tree.specs.declared.place.Place.{Place}
use Rattle.ir_tree.specs.Tree.{OpOf, op, block, OpsOf, no_ops, next, head, regions}
use Rattle.ir_tree.specs.Ids.{HasDistinctIds, find, has_id}
use Rattle.ir_tree.specs.Uses.{uses_of}
use Rattle.ir_tree.specs.Places.{put, put_here, is_in_block, put_in, without, shifted, each_list, region_each_list, ops_each_list, drop_op}
use Rattle.ir_tree.specs.WellFormed.{ModuleOf}
use Rattle.ir_tree.proofs.Moves.{list_id}
use Rattle.ir_tree_laws.specs.Stands.{StepOf, OpWithPathOf, stands, dropping}
use Rattle.ir_tree_laws.specs.Members.{In}
use Rattle.ir_tree_laws.specs.Values.{region_at}
use Rattle.ir_tree_laws.specs.Reasons.{shift_reason}
use Rattle.ir_tree_laws.proofs.Listed.{bool_cases}
use Rattle.ir_tree_laws.proofs.Readings.{step}
use Rattle.ir_tree_laws.proofs.Members.{stand, within, joined_ops, ops_child, stand_found, same_stand}
use Rattle.ir_tree_laws.proofs.Around.{around_there, absent_find}
use Rattle.ir_tree_laws.proofs.Without.{same_head}
use Rattle.ir_tree_laws.proofs.Put.{child, put_find, region_each}
use Rattle.ir_tree_laws.proofs.Edited.{put_uses, taken_uses}
use Rattle.patterns_base.proofs.Placed.{Following}
use Rattle.patterns_base.proofs.Made.{Located}
use Rattle.patterns_base.proofs.Headed.{found_there}
use Rattle.patterns_base.proofs.Moved as moved
use Rattle.ir_tree_laws.proofs.Values.{joined_more}
use Rattle.ir_types.proofs.Truths.{nil_parts}

-- none of them is y
abbrev Lacks : ℕ → List ℕ → Type 0
Lacks y [] = Unit {0}
Lacks y (x ∷ xs) = (eqb x y ≡ false) × Lacks y xs

module _ {N T A : Type 0} where
  -- the ids of the operations of a list, without those inside them
  abbrev pub list_ids : OpsOf N T A → List ℕ
  list_ids no_ops = []
  list_ids (next o os) = (head o).id ∷ list_ids os

  each_ids : (f : ℕ → ℕ → OpsOf N T A → OpsOf N T A) (os : OpsOf N T A) → list_ids (ops_each_list f os) ≡ list_ids os
  each_ids f no_ops = refl
  each_ids f (next o os) = λ i. list_id f o i ∷ each_ids f os i

  dropped_ids : (y : ℕ) (os : OpsOf N T A) → Lacks y (list_ids os) → list_ids (drop_op y os) ≡ list_ids os
  dropped_ids y no_ops l = refl
  dropped_ids y (next o os) l = ap (λ b. list_ids (cond b (drop_op y os) (next o (drop_op y os)))) l.0 ∙ ap (λ is. (head o).id ∷ is) (dropped_ids y os l.1)

  each_region : (f : ℕ → ℕ → OpsOf N T A → OpsOf N T A) (r : ℕ) (q : OpOf N T A) (args : List T) (os : OpsOf N T A) → region_at r (regions q) ≡ Some (block args os) → region_at r (regions (each_list f q)) ≡ Some (block args (f (head q).id r (ops_each_list f os)))
  each_region f r (op h rs) args os e = (let n : 0 + r ≡ r = omega arith in region_each f h.id 0 r rs ∙ ap (λ z. option_map (region_each_list f h.id z) (region_at r rs)) n ∙ ap (option_map (region_each_list f h.id r)) e)

module _ {N T A : Type 0} (isolated is_table : N → Bool) where
  -- operation x isn't isolated and isn't a symbol table, and has a block with these operations, whose arguments aren't
  -- used
  pub record Holding (x r : ℕ) (insertion : Place) (held : List ℕ) (m : ModuleOf N T A) : Type 0 where
    pub located : Located isolated x insertion m
    pub args : List T
    pub list : OpsOf N T A
    pub is : region_at r (regions located.at.here) ≡ Some (block args list)
    pub ids : list_ids list ≡ held
    pub opened : isolated (head located.at.here).name ≡ false
    pub simple : is_table (head located.at.here).name ≡ false
    pub spared : (k : ℕ) → uses_of (Arg x r k) m.tree ≡ []

  module _ (x r : ℕ) (insertion : Place) (m : ModuleOf N T A) (s : Located isolated x insertion m) (args : List T) (y : OpOf N T A) (rest : OpsOf N T A) (is : region_at r (regions s.at.here) ≡ Some (block args (next y rest)))
      (opened : isolated (head s.at.here).name ≡ false) (simple : is_table (head s.at.here).name ≡ false) (spared : (k : ℕ) → uses_of (Arg x r k) m.tree ≡ []) where
    abbrev t : OpOf N T A
    t = m.tree

    abbrev d : HasDistinctIds m.tree
    d = s.wellformed.distinct

    abbrev b : StepOf N T A
    b = step s.at.here r args [] rest

    abbrev up : List (StepOf N T A)
    up = s.at.step_in ∷ s.at.path

    inside : (fs : List (OpOf N T A)) (o : OpOf N T A) (os : OpsOf N T A) → region_at r (regions s.at.here) ≡ Some (block args (joined_ops fs (next o os))) → In (stand o (step s.at.here r args fs os ∷ s.at.step_in ∷ s.at.path)) (stands [] m.tree)
    inside fs o os e = within s.at.here up (stand o (step s.at.here r args fs os ∷ up)) (child s.at.here up r args (joined_ops fs (next o os)) (stand o (step s.at.here r args fs os ∷ up)) e (ops_child s.at.here up r args [] fs o os)) [] t s.at.there

    there : In (stand y (step s.at.here r args [] rest ∷ s.at.step_in ∷ s.at.path)) (stands [] m.tree)
    there = inside [] y rest is

    abbrev yi : ℕ
    yi = (head y).id

    -- the other operations of the block stay
    others : (fs : List (OpOf N T A)) (os : OpsOf N T A) → region_at r (regions s.at.here) ≡ Some (block args (joined_ops (y ∷ fs) os)) → Lacks (head y).id (list_ids os)
    others fs no_ops e = tt
    others fs (next o os) e =
        (other (inside (y ∷ fs) o os e), others (fs ++ o ∷ []) os (e ∙ ap (λ z. Some (block args (next y z))) (sym (joined_more fs o os))))
      where
        other : In (stand o (step s.at.here r args (y ∷ fs) os ∷ s.at.step_in ∷ s.at.path)) (stands [] m.tree) → eqb (head o).id (head y).id ≡ false
        other h = elim (bool_cases (eqb (head o).id yi)) [
          | inr k ↦ k
          | inl k ↦ (let same = same_stand t d (stand o (step s.at.here r args (y ∷ fs) os ∷ up)) (stand y (b ∷ up)) h there (eqb-true (head o).id yi k) in
              let paths : step s.at.here r args (y ∷ fs) os ∷ up ≡ b ∷ up = ap (λ (z : OpWithPathOf N T A). z.path) same in
              let steps : step s.at.here r args (y ∷ fs) os ≡ b = cc in
              let l = ap (λ (z : StepOf N T A). length z.preceding) steps in
              absurd (omega (arith, l)))
        ]

    abbrev go_free : shift_reason isolated is_table (head y).id insertion m.tree ≡ None
    go_free = moved.move_free isolated is_table x insertion m s y b there refl refl opened spared simple

    abbrev after : ModuleOf N T A
    after = record m { tree = shifted (head y).id insertion m.tree }

    abbrev located_after : Located isolated x insertion (record m { tree = shifted (head y).id insertion m.tree })
    located_after = moved.move_located isolated is_table x insertion m s y b there refl refl opened spared simple

    abbrev x_left : Following x insertion (without (head y).id m.tree)
    x_left = moved.x_left isolated is_table x insertion m s y b there refl refl

    -- x after the move
    x_after : find x (put insertion y (without (head y).id m.tree)) ≡ Some (put insertion y (each_list (dropping (head y).id) s.at.here))
    x_after =
        put_find insertion y x (absent_find x y x_out) (without yi t)
        ∙ ap (option_map (put insertion y)) (ap (λ z. find z (without yi t)) (sym x_left.id) ∙ stand_found (without yi t) (moved.u_distinct isolated is_table x insertion m s y b there refl refl) (stand x_left.here (x_left.step_in ∷ x_left.path)) x_left.there)
      where
        x_out : has_id x y ≡ false
        x_out = ap (λ z. has_id z y) (sym s.at.id) ∙ moved.not_in isolated is_table x insertion m s y b there refl refl s.at.here up s.at.there (omega arith)

    here_after : located_after.at.here ≡ put insertion y (each_list (dropping (head y).id) s.at.here)
    here_after = (let two : Some located_after.at.here ≡ Some (put insertion y (each_list (dropping yi) s.at.here)) = sym (found_there isolated x insertion after located_after) ∙ ap (find x) (moved.after_is isolated is_table x insertion m s y b there refl refl) ∙ x_after in cc)

    head_after : head located_after.at.here ≡ head s.at.here
    head_after = ap (λ o. head o) here_after ∙ same_head yi (put_here insertion y) (each_list (dropping yi) s.at.here) ∙ same_head yi (dropping yi) s.at.here

    -- the place isn't in the block
    elsewhere : is_in_block insertion x r ≡ false
    elsewhere = elim (bool_cases (eqb x insertion.parent)) [
      | inr k ↦ ap (λ c. c && eqb r insertion.region) k
      | inl k ↦ (let same = same_stand t d (stand s.at.here up) (stand s.at.step_in.parent s.at.path) s.at.there (around_there t s.at.here s.at.step_in s.at.path s.at.there).1 (s.at.id ∙ eqb-true x insertion.parent k ∙ ap (λ (p : Place). p.parent) s.at.place) in
          let l = ap (λ (z : OpWithPathOf N T A). length z.path) same in
          absurd (omega (arith, l)))
    ]

    abbrev list_after : OpsOf N T A
    list_after = put_here insertion y x r (ops_each_list (put_here insertion y) (drop_op (head y).id (ops_each_list (dropping (head y).id) (next y rest))))

    is_after : region_at r (regions located_after.at.here) ≡ Some (block args (put_here insertion y x r (ops_each_list (put_here insertion y) (drop_op (head y).id (ops_each_list (dropping (head y).id) (next y rest))))))
    is_after =
        ap (λ o. region_at r (regions o)) here_after
        ∙ each_region (put_here insertion y) r (each_list (dropping yi) s.at.here) args (drop_op yi (ops_each_list (dropping yi) (next y rest))) (each_region (dropping yi) r s.at.here args (next y rest) is)
        ∙ ap (λ z. Some (block args (put_here insertion y z r (ops_each_list (put_here insertion y) (drop_op yi (ops_each_list (dropping yi) (next y rest))))))) (ap (λ h. h.id) (same_head yi (dropping yi) s.at.here) ∙ s.at.id)

    ids_after : list_ids (put_here insertion y x r (ops_each_list (put_here insertion y) (drop_op (head y).id (ops_each_list (dropping (head y).id) (next y rest))))) ≡ list_ids rest
    ids_after =
        ap (λ c. list_ids (cond c (put_in insertion.before y (ops_each_list (put_here insertion y) (drop_op yi (ops_each_list (dropping yi) (next y rest))))) (ops_each_list (put_here insertion y) (drop_op yi (ops_each_list (dropping yi) (next y rest)))))) elsewhere
        ∙ each_ids (put_here insertion y) (drop_op yi (ops_each_list (dropping yi) (next y rest)))
        ∙ ap (λ c. list_ids (cond c (drop_op yi (ops_each_list (dropping yi) rest)) (next (each_list (dropping yi) y) (drop_op yi (ops_each_list (dropping yi) rest))))) (eq-eqb (head (each_list (dropping yi) y)).id yi (list_id (dropping yi) y))
        ∙ dropped_ids yi (ops_each_list (dropping yi) rest) (subst (Lacks yi) (sym (each_ids (dropping yi) rest)) (others [] rest is))
        ∙ each_ids (dropping yi) rest

    -- its arguments aren't used
    spared_after : (k : ℕ) → uses_of (Arg x r k) (shifted (head y).id insertion m.tree) ≡ []
    spared_after k =
        let v = Arg x r k in
        let a = taken_uses yi t y d (moved.y_found isolated is_table x insertion m s y b there refl refl) (moved.y_root isolated is_table x insertion m s y b there refl refl) v in
        let p = put_uses insertion y (without yi t) (moved.may isolated is_table x insertion m s y b there refl refl) v in
        let n = nil_parts a.0 (uses_of v y ++ a.1) (sym a.2 ∙ spared k) in
        let n2 = nil_parts (uses_of v y) a.1 n.1 in
        let left : uses_of v (without yi t) ≡ [] = a.3 ∙ (λ i. n.0 i ++ n2.1 i) in
        let q = nil_parts p.0 p.1 (sym p.2 ∙ left) in
        ap (uses_of v) (moved.after_is isolated is_table x insertion m s y b there refl refl) ∙ p.3 ∙ λ i. q.0 i ++ (n2.0 i ++ q.1 i)

    held_after : Holding x r insertion (list_ids rest) (record m { tree = shifted (head y).id insertion m.tree })
    held_after = record {
      located = located_after;
      args = args;
      list = list_after;
      is = is_after;
      ids = ids_after;
      opened = ap (λ h. isolated h.name) head_after ∙ opened;
      simple = ap (λ h. is_table h.name) head_after ∙ simple;
      spared = spared_after;
    }

  -- the first operation is moved
  pub hold_step : (x r : ℕ) (insertion : Place) (y : ℕ) (ys : List ℕ) (m : ModuleOf N T A) → Holding x r insertion (y ∷ ys) m → (shift_reason isolated is_table y insertion m.tree ≡ None) × Holding x r insertion ys (record m { tree = shifted y insertion m.tree })
  hold_step x r insertion y ys m h = go h.list h.is h.ids
    where
      go : (os : OpsOf N T A) → region_at r (regions h.located.at.here) ≡ Some (block h.args os) → list_ids os ≡ y ∷ ys → (shift_reason isolated is_table y insertion m.tree ≡ None) × Holding x r insertion ys (record m { tree = shifted y insertion m.tree })
      go no_ops is ids = absurd cc
      go (next o os) is ids =
          let first : (head o).id ≡ y = cc in
          let later : list_ids os ≡ ys = cc in
          subst (λ (p : ℕ × List ℕ). (shift_reason isolated is_table p.0 insertion m.tree ≡ None) × Holding x r insertion p.1 (record m { tree = shifted p.0 insertion m.tree })) (λ i. (first i, later i))
          (go_free x r insertion m h.located h.args o os is h.opened h.simple h.spared, held_after x r insertion m h.located h.args o os is h.opened h.simple h.spared)
