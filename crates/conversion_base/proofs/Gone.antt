-- If all casts are replaced, or one is refused, no cast is left.
use Rattle.std.proofs.Common.{◌≡◌, refl, ap, sym, ◌∙◌, subst, ℕ, ◌+◌, Bool, true, false, true≢false, cond, not, ◌&&◌, ◌||◌, eqb, eqb-true, List, [], ◌∷◌, ◌++◌, Option, Some, None, option_map, inl, inr, arith, leb-true, lt-ltb}
use Rattle.std.specs.Prelude.{codes, nat_le, nat_lt}
use Rattle.std.specs.List.{list_all, list_any}
use Rattle.ir_event.specs.types.declared.refusal.Refusal.TheVariants.{Full, IdsExhausted}
use Rattle.ir_event.specs.types.Terms.{TypeTerm, AttrTerm}
use Rattle.ir_event.specs.types.Words.{is_isolated}
use Rattle.ir_event.specs.trees.declared.value.Value.{Value}
use Rattle.ir_event.specs.trees.declared.value.Value.TheVariants.{Result}
use Rattle.ir_event.specs.trees.declared.place.Place.{Place}
use Rattle.ir_event.specs.trees.Tree.{HeadOf, op, head}
use Rattle.ir_event.specs.trees.Ids.{ids, find, has_id, op_count}
use Rattle.ir_event.specs.trees.Frames.{owner_of}
use Rattle.ir_event.specs.trees.Limits.{most_ops, most_next}
use Rattle.ir_event.specs.trees.Places.{place_of, without}
use Rattle.ir_event.specs.trees.Edits.{put_values, each_head}
use Rattle.ir_event.specs.trees.Sites.{visible}
use Rattle.ir_event.specs.trees.Meaning.{Operation}
use Rattle.ir_event.specs.trees.WellFormed.{IsWellFormed}
use Rattle.ir_event.proofs.of_trees.Heads.{head_find}
use Rattle.ir_event.specs.tree_laws.Members.{In}
use Rattle.ir_event.specs.tree_laws.Stands.{OpWithPathOf, op_with_path_id, stands, dominated_by, dropping, left_stand}
use Rattle.ir_event.specs.tree_laws.Reads.{is_within}
use Rattle.ir_event.specs.tree_laws.Reasons.{with_id, leaves_within, unused_outside}
use Rattle.ir_event.proofs.of_tree_laws.Listed.{bool_cases, all_each, each_all, in_map, both, either, neither}
use Rattle.ir_event.proofs.of_tree_laws.Readings.{stands_ids, stands_every}
use Rattle.ir_event.proofs.of_tree_laws.Members.{stand, stand_found, found_stands, itself}
use Rattle.ir_event.proofs.of_tree_laws.Around.{stand_present, left_apart}
use Rattle.ir_event.proofs.of_tree_laws.Without.{member_left, left_member, same_head}
use Rattle.ir_event.proofs.of_tree_laws.Edited.{put_order}
use Rattle.ir_event.proofs.of_tree_laws.Wellformed.{from_wellformed, left_well_formed, Spared}
use Rattle.ir_event.proofs.of_tree_laws.DominatedBy.{visible_there}
use Rattle.ir_event.specs.Modules.{Module}
use Rattle.patterns_base.specs.Contents.{Edit, all_edited, edited}
use Rattle.patterns_base.specs.Edits.{Make, Replace}
use Rattle.patterns_base.proofs.Made.{Located, located}
use Rattle.patterns_base.proofs.Made as made
use Rattle.patterns_base.proofs.Give as give
use Rattle.patterns_base.proofs.Headed as headed
use Rattle.patterns_base.specs.Looks.{Header, One, insertion_of, insertion_point, one, one_from}
use Rattle.patterns_base.specs.Made.{cast}
use Rattle.patterns_base.specs.Makes.{give_new, made_by}
use Rattle.patterns_base.specs.Rewrites.{Rewrite, none, refused, becomes, rewrite_by, carried_out}
use Rattle.patterns_base.specs.Words.{named}
use Rattle.conversion_base.specs.Targets.{cast_name}
use Rattle.conversion_base.specs.Reconciling.{index_edits, index_rewrite, is_cast, is_cast_found, takes_index}
use Rattle.conversion_base.specs.Conversion.{Ended, converted, given_up, ended_after, next_part, in_turn, cast_ended, cast_at, casts_left, has_no_cast}
use Rattle.conversion_base.specs.declared.applied_rule.AppliedRule.{AppliedRule as Applied}
use Rattle.conversion_base.proofs.Makes.{given_some, carried}
use Rattle.conversion_base.proofs.Falls.{cast_there, found_id}
use Rattle.patterns_base.proofs.Facts.{when_some}

-- ---- an `arith.index_cast` that replaces an operation

-- its insertion point
pub record Again (m n : Module) (x : ℕ) : Type 0 where
  pub insertion : Place
  pub place : Place
  pub placed : place_of x m.tree ≡ Some place
  pub in_insertion_of : insertion ≡ record place { before = Some x }
  pub here : Operation
  pub found : find x m.tree ≡ Some here
  pub value : Value
  pub ty : TypeTerm
  pub operands : (head here).operands ≡ value ∷ []
  pub results : (head here).results ≡ ty ∷ []
  pub headroom : nat_lt (op_count m.tree) most_ops ≡ true
  pub more : nat_lt m.next most_next ≡ true
  pub is : n ≡ all_edited (give_new insertion m.next x (cast (codes "arith.index_cast") ty value)) m

ends_of : (name : List ℕ) (vs : List Value) (ts : List TypeTerm) (p : One) → one_from name vs ts ≡ Some p → (vs ≡ p.first ∷ []) × (ts ≡ p.ty ∷ [])
ends_of name [] ts p e = absurd cc
ends_of name (a ∷ []) [] p e = absurd cc
ends_of name (a ∷ []) (ty ∷ []) p e = (let same : record { name = name; first = a; ty = ty } ≡ p = cc in (ap (λ (q : One). q.first ∷ []) same, ap (λ (q : One). q.ty ∷ []) same))
ends_of name (a ∷ []) (ty ∷ u ∷ ts) p e = absurd cc
ends_of name (a ∷ b ∷ vs) ts p e = absurd cc

placed_in : (x : ℕ) (f : Option Place) (insertion : Place) → option_map (insertion_point x) f ≡ Some insertion → (place : Place) × (f ≡ Some place) × (insertion ≡ record place { before = Some x })
placed_in x None insertion e = absurd cc
placed_in x (Some p) insertion e = (p, refl, (let same : insertion_point x p ≡ insertion = cc in sym same))

roomy : (m n : Module) (es : List Edit) → made_by es ≡ 1 → carried_out es m ≡ becomes n → (nat_lt (op_count m.tree) most_ops ≡ true) × (nat_lt m.next most_next ≡ true)
roomy m n es one e = go (nat_le (op_count m.tree + made_by es) most_ops) refl (nat_le (m.next + made_by es) most_next) refl e
  where
    go : (a : Bool) → nat_le (op_count m.tree + made_by es) most_ops ≡ a → (b : Bool) → nat_le (m.next + made_by es) most_next ≡ b → cond a (cond b (becomes (all_edited es m)) (refused IdsExhausted)) (refused Full) ≡ becomes n
        → (nat_lt (op_count m.tree) most_ops ≡ true) × (nat_lt m.next most_next ≡ true)
    go true p true q e =
        (let l = leb-true (op_count m.tree + made_by es) most_ops p in
        let k = leb-true (m.next + made_by es) most_next q in
        (lt-ltb (op_count m.tree) most_ops (omega (arith, l, one)), lt-ltb m.next most_next (omega (arith, k, one))))
    go true p false q e = absurd cc
    go false p b q e = absurd cc

again : (m n : Module) (x : ℕ) → index_rewrite m x ≡ becomes n → Again m n x
again m n x e = go (index_edits m x) refl e
  where
    go : (o : Option (List Edit)) → index_edits m x ≡ o → rewrite_by o m ≡ becomes n → Again m n x
    go None f e = absurd cc
    go (Some es) f e =
        (let h = given_some (find x m.tree) _ es f in
        let g = given_some (insertion_of x m.tree) _ es h.2 in
        let p = given_some (one (head h.0)) _ es g.2 in
        let w = when_some (takes_index m.tree p.0.first p.0.ty) _ es p.2 in
        let same : give_new g.0 m.next x (cast (codes "arith.index_cast") p.0.ty p.0.first) ≡ es = (let s = w.1 in cc) in
        let ends = ends_of (head h.0).name (head h.0).operands (head h.0).results p.0 p.1 in
        let at = placed_in x (place_of x m.tree) g.0 g.1 in
        let headroom = roomy m n es (ap made_by (sym same)) e in
        record {
          insertion = g.0;
          place = at.0;
          placed = at.1;
          in_insertion_of = at.2;
          here = h.0;
          found = h.1;
          value = p.0.first;
          ty = p.0.ty;
          operands = ends.0;
          results = ends.1;
          headroom = headroom.0;
          more = headroom.1;
          is = carried es m n e ∙ ap (λ l. all_edited l m) (sym same);
        })

-- whether an operation is a cast, by its head
abbrev is_cast_head : Option Header → Bool
is_cast_head None = false
is_cast_head (Some h) = named cast_name h.name

by_head : (f : Option Operation) → is_cast_found f ≡ is_cast_head (option_map (λ o. head o) f)
by_head None = refl
by_head (Some o) = refl

-- the module stays well-formed, and each of its casts was a cast before
pub record Fewer (m n : Module) (x : ℕ) : Type 0 where
  pub wellformed : IsWellFormed is_isolated n
  pub was : (y : ℕ) → is_cast y n.tree ≡ true → (is_cast y m.tree ≡ true) × (y ≡ x → ⊥)

module _ (m : Module) (w : IsWellFormed is_isolated m) (n : Module) (x : ℕ) (a : Again m n x) where
  abbrev new : Operation
  new = cast (codes "arith.index_cast") a.ty a.value

  standing : Located is_isolated x a.insertion m
  standing = subst (λ p. Located is_isolated x p m) (sym a.in_insertion_of) (located is_isolated x a.place m w a.placed)

  same_here : standing.at.here ≡ a.here
  same_here = (let two : Some standing.at.here ≡ Some a.here = sym (headed.found_there is_isolated x a.insertion m standing) ∙ a.found in cc)

  seen : list_all (visible is_isolated m.tree x) (a.value ∷ []) ≡ true
  seen =
      let s = standing.at in
      let at : OpWithPathOf (List ℕ) TypeTerm AttrTerm = stand s.here (s.step_in ∷ s.path) in
      let own : list_all (dominated_by is_isolated at.path) (a.value ∷ []) ≡ true = ap (list_all (dominated_by is_isolated at.path)) (sym (ap (λ (z : Operation). (head z).operands) same_here ∙ a.operands)) ∙ (from_wellformed is_isolated m.tree w.wellformed).dominated_by_own at s.there in
      let one = (both (dominated_by is_isolated at.path a.value) true own).0 in
      ap (λ b. b && true) (ap (λ z. visible is_isolated m.tree z a.value) (sym s.id) ∙ visible_there is_isolated m.tree w.distinct at s.there a.value ∙ one)

  abbrev after_make : Module
  after_make = edited (Make a.insertion new) m

  made_stands : Located is_isolated x a.insertion after_make
  made_stands = made.make_located is_isolated x a.insertion m standing new refl seen refl a.headroom a.more

  dominated_by_it : visible is_isolated after_make.tree x (Result m.next 0) ≡ true
  dominated_by_it = made.dominated_by_new is_isolated x a.insertion m standing new refl 0 refl

  abbrev after_replace : Module
  after_replace = edited (Replace (Result x 0) (Result m.next 0)) after_make

  replaced_stands : Located is_isolated x a.insertion after_replace
  replaced_stands = headed.replaced_located is_isolated x a.insertion after_make made_stands (Result m.next 0) dominated_by_it 0

  there : has_id x m.tree ≡ true
  there = give.there_is is_isolated x a.insertion m standing

  one_after : (head made_stands.at.here).results ≡ a.ty ∷ []
  one_after =
      let heads : head made_stands.at.here ≡ head standing.at.here =
      (let two : Some (head made_stands.at.here) ≡ Some (head standing.at.here) =
      ap (option_map (λ o. head o)) (sym (headed.found_there is_isolated x a.insertion after_make made_stands))
      ∙ made.heads_stay is_isolated x a.insertion m standing new refl x there
      ∙ ap (option_map (λ o. head o)) (headed.found_there is_isolated x a.insertion m standing) in cc) in
      ap (λ (h : HeadOf (List ℕ) TypeTerm AttrTerm). h.results) heads ∙ ap (λ (z : Operation). (head z).results) same_here ∙ a.results

  nobody : unused_outside x after_replace.tree ≡ true
  nobody = give.given_spared is_isolated x a.insertion after_make made_stands (Result m.next 0) dominated_by_it a.ty one_after

  root : eqb (head after_replace.tree).id x ≡ false
  root = headed.not_root is_isolated x a.insertion after_replace replaced_stands

  spared : Spared is_isolated x after_replace.tree
  spared s h g =
      let o = replaced_stands.at.here in
      let f = headed.found_there is_isolated x a.insertion after_replace replaced_stands in
      let own : list_all (λ v. not (is_within (owner_of v).0 (Some o))) (head s.here).operands ≡ true =
      ap (leaves_within (Some o)) (sym (same_head x (dropping x) s.here)) ∙ ap (λ z. leaves_within z (head (left_stand x s).here)) (sym f)
      ∙ all_each (λ (u : OpWithPathOf (List ℕ) TypeTerm AttrTerm). leaves_within (find x after_replace.tree) (head u.here)) (stands [] (without x after_replace.tree))
      (stands_every (λ q. leaves_within (find x after_replace.tree) (head q)) [] (without x after_replace.tree) ∙ nobody) (left_stand x s) (left_member x after_replace.tree s h g) in
      each_all (λ v. not (eqb (owner_of v).0 x)) (head s.here).operands (λ v k. elim (bool_cases (eqb (owner_of v).0 x)) [
        | inr e ↦ ap not e
        | inl e ↦ absurd (
            let out = all_each (λ v. not (is_within (owner_of v).0 (Some o))) (head s.here).operands own v k in
            let inside : is_within (owner_of v).0 (Some o) ≡ true = ap (λ z. is_within z (Some o)) (eqb-true (owner_of v).0 x e ∙ sym replaced_stands.at.id) ∙ stand_present [] o (stand o []) (itself [] o) in
            true≢false (sym out ∙ ap not inside))
      ])

  last_wellformed : IsWellFormed is_isolated (record after_replace { tree = without x after_replace.tree })
  last_wellformed = left_well_formed is_isolated x after_replace replaced_stands.wellformed spared

  -- the remaining casts
  of_erased : (y : ℕ) → is_cast y (without x after_replace.tree) ≡ true → (is_cast y after_replace.tree ≡ true) × (y ≡ x → ⊥)
  of_erased y c =
      let o = cast_there y (without x after_replace.tree) c in
      let u = found_stands y (without x after_replace.tree) o.0 o.1 in
      let k = member_left x after_replace.tree u.0 u.1 in
      let heads : head u.0.here ≡ head k.0.here = ap (λ (z : OpWithPathOf (List ℕ) TypeTerm AttrTerm). head z.here) k.3 ∙ same_head x (dropping x) k.0.here in
      let id : op_with_path_id k.0 ≡ y = sym (ap (λ (h : Header). h.id) heads) ∙ u.2 in
      let found : find y after_replace.tree ≡ Some k.0.here = ap (λ z. find z after_replace.tree) (sym id) ∙ stand_found after_replace.tree replaced_stands.wellformed.distinct k.0 k.1 in
      let name : named cast_name (head k.0.here).name ≡ true = ap (λ (h : Header). named cast_name h.name) (sym heads ∙ ap (λ (z : Operation). head z) u.3) ∙ o.2 in
      (ap is_cast_found found ∙ name, λ e. left_apart x after_replace.tree k.0 k.1 k.2 root (id ∙ e))

  of_replaced : (y : ℕ) → is_cast y after_replace.tree ≡ true → is_cast y after_make.tree ≡ true
  of_replaced y c = go (find y after_make.tree) ∙ (ap is_cast_found (sym (head_find (put_values (Result x 0) (Result m.next 0)) (λ h. record { id = refl; name = refl; results = refl }) y after_make.tree)) ∙ c)
    where
      go : (f : Option Operation) → is_cast_found f ≡ is_cast_found (option_map (each_head (put_values (Result x 0) (Result m.next 0))) f)
      go None = refl
      go (Some (op h rs)) = refl

  of_made : (y : ℕ) → is_cast y after_make.tree ≡ true → is_cast y m.tree ≡ true
  of_made y c = elim (bool_cases (has_id y m.tree)) [
    | inl e ↦ by_head (find y m.tree) ∙ ap is_cast_head (sym (made.heads_stay is_isolated x a.insertion m standing new refl y e)) ∙ sym (by_head (find y after_make.tree)) ∙ c
    | inr e ↦ absurd (
        let o = cast_there y after_make.tree c in
        let h = (found_id y after_make.tree o.0 o.1).0 in
        let parts = put_order a.insertion (with_id m.next new) m.tree (made.may is_isolated x a.insertion m standing new refl) in
        let here : list_any (λ z. eqb z y) (parts.0 ++ (m.next ∷ parts.1)) ≡ true = ap (list_any (λ z. eqb z y)) (sym parts.3) ∙ h in
        let gone : list_any (λ z. eqb z y) (parts.0 ++ parts.1) ≡ false = ap (list_any (λ z. eqb z y)) (sym parts.2) ∙ e in
        let is : m.next ≡ y = eqb-true m.next y (only (λ z. eqb z y) m.next parts.0 parts.1 here gone) in
        let not_cast : is_cast y after_make.tree ≡ false = ap (λ z. is_cast z after_make.tree) (sym is) ∙ ap is_cast_found (made.new_found is_isolated x a.insertion m standing new refl) in
        true≢false (sym c ∙ not_cast))
  ]
    where
      only : (p : ℕ → Bool) (z : ℕ) (us vs : List ℕ) → list_any p (us ++ (z ∷ vs)) ≡ true → list_any p (us ++ vs) ≡ false → p z ≡ true
      only p z [] vs h g = elim (either (p z) (list_any p vs) h) [ inl k ↦ k | inr k ↦ absurd (true≢false (sym k ∙ g)) ]
      only p z (u ∷ us) vs h g =
          let n = neither (p u) (list_any p (us ++ vs)) g in
          only p z us vs (ap (λ b. b || list_any p (us ++ (z ∷ vs))) (sym n.0) ∙ h) n.1

  pub fewer : Fewer m n x
  fewer = record {
    wellformed = subst (IsWellFormed is_isolated) (sym a.is) last_wellformed;
    was = λ y c.
        let e = of_erased y (ap (λ (q : Module). is_cast y q.tree) (sym a.is) ∙ c) in
        (of_made y (of_replaced y e.0), e.1);
  }

-- ---- all casts in turn

-- each cast of a module is among some operations
record Among (xs : List ℕ) (m : Module) : Type 0 where
  wellformed : IsWellFormed is_isolated m
  among : (y : ℕ) → is_cast y m.tree ≡ true → In y xs

among_all : (m : Module) → IsWellFormed is_isolated m → Among (ids m.tree) m
among_all m w = record {
  wellformed = w;
  among = λ y c.
      let o = cast_there y m.tree c in
      let s = found_stands y m.tree o.0 o.1 in
      subst (λ z. In z (ids m.tree)) s.2 (subst (In (op_with_path_id s.0)) (stands_ids [] m.tree) (in_map (λ (u : OpWithPathOf (List ℕ) TypeTerm AttrTerm). op_with_path_id u) s.0 (stands [] m.tree) s.1));
}

-- if a part succeeds after other parts, the other parts succeeded
pub ended_before : (f : Module → Ended) (e : Ended) (n : Module) (ks : List Applied) → next_part f e ≡ converted n ks → (p : Module) × (js : List Applied) × (e ≡ converted p js) × (is : List Applied) × (f p ≡ converted n is)
ended_before f (converted p js) n ks e = (let r = go (f p) refl e in (p, js, refl, r.0, r.1))
  where
    go : (d : Ended) → f p ≡ d → ended_after js d ≡ converted n ks → (is : List Applied) × (f p ≡ converted n is)
    go (converted q is) g e = (is, g ∙ (let same : q ≡ n = cc in ap (λ r. converted r is) same))
    go (given_up r x) g e = absurd cc
ended_before f (given_up r x) n ks e = absurd cc

one_less : (x : ℕ) (xs : List ℕ) (m n : Module) (ks : List Applied) → Among (x ∷ xs) m → cast_at m x ≡ converted n ks → Among xs n
one_less x xs m n ks a e = go (is_cast x m.tree) refl e
  where
    index_step : (r : Rewrite) → index_rewrite m x ≡ r → cast_ended x r ≡ converted n ks → Among xs n
    index_step none f e = absurd cc
    index_step (refused r) f e = absurd cc
    index_step (becomes p) f e =
        (let same : p ≡ n = cc in
        let w = fewer m a.wellformed n x (again m n x (f ∙ ap becomes same)) in
        record {
          wellformed = w.wellformed;
          among = λ y c. let was = w.was y c in elim (a.among y was.0) [ inl e ↦ absurd (was.1 e) | inr h ↦ h ];
        })

    go : (b : Bool) → is_cast x m.tree ≡ b → cond b (cast_ended x (index_rewrite m x)) (converted m []) ≡ converted n ks → Among xs n
    go true f e = index_step (index_rewrite m x) refl e
    go false f e =
        (let same : m ≡ n = cc in
        subst (Among xs) same (record {
          wellformed = a.wellformed;
          among = λ y c. elim (a.among y c) [ inl e ↦ absurd (true≢false (sym c ∙ ap (λ z. is_cast z m.tree) e ∙ f)) | inr h ↦ h ];
        }))

none_among : (xs : List ℕ) (m n : Module) (ks : List Applied) → Among xs m → in_turn cast_at xs m ≡ converted n ks → Among [] n
none_among [] m n ks a e = (let same : m ≡ n = cc in subst (Among []) same a)
none_among (x ∷ xs) m n ks a e = (let s = ended_before (in_turn cast_at xs) (cast_at m x) n ks e in none_among xs s.0 n s.3 (one_less x xs m s.0 s.1 a s.2) s.4)

pub no_cast_is_left : (m n : Module) (ks : List Applied) → IsWellFormed is_isolated m → casts_left m ≡ converted n ks → has_no_cast n.tree ≡ true
no_cast_is_left m n ks w e =
    let a = none_among (ids m.tree) m n ks (among_all m w) e in
    sym (stands_every (λ o. not (named cast_name (head o).name)) [] n.tree)
    ∙ each_all (λ (s : OpWithPathOf (List ℕ) TypeTerm AttrTerm). not (named cast_name (head s.here).name)) (stands [] n.tree) (λ s h. elim (bool_cases (named cast_name (head s.here).name)) [
      | inr f ↦ ap not f
      | inl f ↦ absurd (a.among (op_with_path_id s) (ap is_cast_found (stand_found n.tree a.wellformed.distinct s h) ∙ f))
    ])
