-- Placeholders are replaced by their values, and erased.
use Rattle.std.proofs.Common.{◌≡◌, refl, ap, sym, ◌∙◌, subst, ℕ, zero, suc, ◌+◌, ◌<◌, ◌≤◌, Bool, true, false, true≢false, cond, not, ◌&&◌, eqb, eq-eqb, eqb-true, List, [], ◌∷◌, ◌++◌, length, map, Option, Some, None, option_map, inl, inr, ◌⊎◌, arith}
use Rattle.std.specs.List.{list_all, list_any}
use Rattle.std.specs.Option.{option_eq}
use Rattle.std.specs.Prelude.{is_some}
use Rattle.std.proofs.lemmas.List.{length-map}
use Rattle.ir_event.specs.types.Words.{is_isolated}
use Rattle.ir_event.specs.types.Terms.{TypeTerm, AttrTerm}
use Rattle.ir_event.specs.types.SameTypes.{same_type}
use Rattle.ir_event.specs.trees.declared.value.Value.{Value}
use Rattle.ir_event.specs.trees.declared.value.Value.TheVariants.{Result}
use Rattle.ir_event.specs.trees.declared.place.Place.{Place}
use Rattle.ir_event.specs.trees.Tree.{op, head}
use Rattle.ir_event.specs.trees.Ids.{HasDistinctIds, find, has_id, op_count}
use Rattle.ir_event.specs.trees.Edits.{each_head, put_value, put_values, with_value_replaced}
use Rattle.ir_event.specs.trees.Frames.{owner_of}
use Rattle.ir_event.specs.trees.Places.{without}
use Rattle.ir_event.specs.trees.Sites.{visible}
use Rattle.ir_event.specs.trees.Uses.{same_value, uses_of}
use Rattle.ir_event.specs.trees.Meaning.{Operation}
use Rattle.ir_event.specs.trees.WellFormed.{IsWellFormed}
use Rattle.ir_event.proofs.of_trees.Heads.{head_find}
use Rattle.ir_event.proofs.of_trees.Replaced.{old_unused, others_stay}
use Rattle.ir_event.specs.tree_laws.Stands.{OpWithPathOf, StepOf, op_with_path_id, stands, dominated_by as dominated_by_from}
use Rattle.ir_event.specs.tree_laws.Members.{In}
use Rattle.ir_event.specs.tree_laws.Reasons.{is_visible_to_users}
use Rattle.ir_event.specs.tree_laws.Values.{type_of_value}
use Rattle.ir_event.proofs.of_tree_laws.Around.{present_stand}
use Rattle.ir_event.proofs.of_tree_laws.Edited.{taken_op_count}
use Rattle.ir_event.proofs.of_tree_laws.HeadForm.{edit_ids, replaced_keeps}
use Rattle.ir_event.proofs.of_tree_laws.Heads.{Alike, each_id}
use Rattle.ir_event.proofs.of_tree_laws.Listed.{bool_cases, each_all, in_map, in_mapped}
use Rattle.ir_event.proofs.of_tree_laws.Members.{found_stands, has_around, same_stand, stand, stand_found, within}
use Rattle.ir_event.proofs.of_tree_laws.DominatedBy.{visible_there}
use Rattle.ir_event.specs.Modules.{Module}
use Rattle.rewriter_machine.specs.Contents.{Edit, all_edited, edit_reason, edited}
use Rattle.rewriter_machine.specs.Edits.{Erase, Replace}
use Rattle.patterns_base.specs.Lists.{Free}
use Rattle.patterns_base.proofs.Preceding.{stands_before}
use Rattle.patterns_base.proofs.Given.{user}
use Rattle.patterns_base.proofs.Headed as headed
use Rattle.patterns_base.proofs.Plans.{StandsAt, dominated_by}
use Rattle.patterns_soundness.specs.base.Looks.{Header}
use Rattle.patterns_soundness.proofs.Across.{before_is, after_inside, inside_after, later_outside, not_root, own_depth}
use Rattle.patterns_soundness.proofs.Arguments.{replaced_uses}
use Rattle.patterns_soundness.proofs.CastsAccepted.{Headroom}
use Rattle.patterns_soundness.proofs.Kept.{Kept}
use Rattle.patterns_soundness.proofs.NearAccepted.{erase_wellformed, erase_reason, inner_more, left_kept, operands_in, result_type, results_in, there_by, there_is}
use Rattle.patterns_soundness.proofs.Ordered.{Before, Inside, before_headed, inside_headed}
use Rattle.patterns_soundness.proofs.Results.{type_kept}
use Rattle.patterns_soundness.proofs.Points.{own_operand}
use Rattle.patterns_soundness.proofs.Within.{heads_headed}
use Rattle.ir_event.proofs.of_tree_laws.Reverted.{passed}

abbrev OpWithPath : Type 0
OpWithPath = OpWithPathOf (List ℕ) TypeTerm AttrTerm

-- a placeholder, the value that replaces it, and the type
abbrev pub Pair : Type 0
Pair = ℕ × Value × TypeTerm

abbrev pub pair_edits : List Pair → List Edit
pair_edits ps = map (λ (p : Pair). Replace (Result p.0 0) p.1) ps

module _ (x y l : ℕ) (insertion : Place) (rs ys : List TypeTerm) (few : ℕ) where
  -- x comes after y, and l is in a block of y
  pub record Near (m : Module) : Type 0 where
    pub located : StandsAt x insertion m
    pub before : Before y x m.tree
    pub x_results : results_in x m.tree ≡ Some rs
    pub y_results : results_in y m.tree ≡ Some ys
    pub inside : Inside y 0 l m.tree
    pub operands : operands_in l m.tree ≡ Some few

  -- a placeholder, which comes before y
  pub record Holder (h : ℕ) (ty : TypeTerm) (m : Module) : Type 0 where
    pub before : Before h y m.tree
    pub results : results_in h m.tree ≡ Some (ty ∷ [])

  pub near_kept : (B : ℕ → Type 0) (m n : Module) → B x → B y → B l → Kept is_isolated B m.tree n.tree → IsWellFormed is_isolated n → Near m → Near n
  near_kept B m n bx by bl k w s = record {
    located = record { wellformed = w; at = inside_after x insertion n.tree (before_is x insertion m.tree s.located.at) (k.inside insertion.parent insertion.region x bx (after_inside x insertion m.tree s.located.at)) };
    before = k.before y x by bx s.before;
    x_results = ap (option_map (λ (h : Header). h.results)) (k.heads x bx) ∙ s.x_results;
    y_results = ap (option_map (λ (h : Header). h.results)) (k.heads y by) ∙ s.y_results;
    inside = k.inside y 0 l bl s.inside;
    operands = ap (option_map (λ (h : Header). length h.operands)) (k.heads l bl) ∙ s.operands;
  }

  pub holder_kept : (B : ℕ → Type 0) (m n : Module) (h : ℕ) (ty : TypeTerm) → B h → B y → Kept is_isolated B m.tree n.tree → Holder h ty m → Holder h ty n
  holder_kept B m n h ty bh by k s = record { before = k.before h y bh by s.before; results = ap (option_map (λ (z : Header). z.results)) (k.heads h bh) ∙ s.results }

  module _ (f : Header → Header) (alike : (h : Header) → Alike (f h) h) (same : (h : Header) → (f h).results ≡ h.results) (as_many : (h : Header) → length (f h).operands ≡ length h.operands) (m : Module) where
    results_headed : (b : ℕ) (tys : List TypeTerm) → results_in b m.tree ≡ Some tys → results_in b (each_head f m.tree) ≡ Some tys
    results_headed b tys e = ap (option_map (λ (h : Header). h.results)) (heads_headed f alike m.tree b) ∙ go (option_map head (find b m.tree)) ∙ e
      where
        go : (o : Option Header) → option_map (λ (h : Header). h.results) (option_map f o) ≡ option_map (λ (h : Header). h.results) o
        go None = refl
        go (Some h) = ap Some (same h)

    pub near_headed : Near m → IsWellFormed is_isolated (record m { tree = each_head f m.tree }) → Near (record m { tree = each_head f m.tree })
    near_headed s w = record {
      located = headed.located_headed is_isolated f alike x insertion m s.located w;
      before = before_headed f alike m.tree y x s.before;
      x_results = results_headed x rs s.x_results;
      y_results = results_headed y ys s.y_results;
      inside = inside_headed f alike m.tree y 0 l s.inside;
      operands = ap (option_map (λ (h : Header). length h.operands)) (heads_headed f alike m.tree l) ∙ go (option_map head (find l m.tree)) ∙ s.operands;
    }
      where
        go : (o : Option Header) → option_map (λ (h : Header). length h.operands) (option_map f o) ≡ option_map (λ (h : Header). length h.operands) o
        go None = refl
        go (Some h) = ap Some (as_many h)

    pub holder_headed : (h : ℕ) (ty : TypeTerm) → Holder h ty m → Holder h ty (record m { tree = each_head f m.tree })
    holder_headed h ty s = record { before = before_headed f alike m.tree h y s.before; results = results_headed h (ty ∷ []) s.results }

  -- ---- replaced
  pub record Fresh (p : Pair) (zs : List Operation) (m : Module) : Type 0 where
    pub holder : Holder p.0 p.2 m
    pub ty : TypeTerm
    pub of : type_of_value p.1 m.tree ≡ Some ty
    pub same : same_type p.2 ty ≡ true
    pub seen : (o : Operation) → In o zs → dominated_by (head o).id p.1 m ≡ true
    pub users : (u : ℕ × ℕ) → In u (uses_of (Result p.0 0) m.tree) → (o : Operation) × In o zs × (has_id u.0 o ≡ true)
    pub out : (o : Operation) → In o zs → has_id p.0 o ≡ false

  module _ (p : Pair) (zs : List Operation) (m : Module) (w : IsWellFormed is_isolated m) (finds : (o : Operation) → In o zs → find (head o).id m.tree ≡ Some o) (s : Fresh p zs m) where
    abbrev t : Operation
    t = m.tree

    abbrev f : Header → Header
    f = put_values (Result p.0 0) p.1

    abbrev alike : (h : Header) → Alike (put_values (Result p.0 0) p.1 h) h
    alike h = record { id = refl; name = refl; results = refl }

    users_ok : is_visible_to_users is_isolated (Result p.0 0) p.1 m.tree ≡ true
    users_ok = each_all (λ u. visible is_isolated t u.0 p.1) (uses_of (Result p.0 0) t) (λ u h.
        let o = s.users u h in
        let k = user (Result p.0 0) t u h in
        let own = own_operand t w.distinct w.wellformed.visible k.0 k.1 (Result p.0 0) k.3 in
        let z = found_stands (head o.0).id t o.0 (finds o.0 o.1) in
        let there : In (stand o.0 z.0.path) (stands [] t) = subst (λ (q : Operation). In (stand q z.0.path) (stands [] t)) z.3 z.1 in
        ap (λ i. visible is_isolated t i p.1) k.2
        ∙ visible_there is_isolated t w.distinct k.0 k.1 p.1
        ∙ inner_more t w.distinct o.0 z.0.path there (Result p.0 0) (s.out o.0 o.1) k.0.here k.0.path k.1 (ap (λ i. has_id i o.0) (sym k.2) ∙ o.2) own p.1 (sym (visible_there is_isolated t w.distinct (stand o.0 z.0.path) there p.1) ∙ s.seen o.0 o.1))

    pub one_reason : edit_reason (Replace (Result p.0 0) p.1) m ≡ None
    one_reason =
        (let old = result_type p.0 t p.2 s.holder.results in
        passed _ _ _ (ap is_some old)
        (passed _ _ _ (ap is_some s.of)
        (passed _ _ _ ((λ i. option_eq same_type (old i) (s.of i)) ∙ s.same)
        (passed _ _ _ users_ok refl))))

    pub one_wellformed : IsWellFormed is_isolated (edited (Replace (Result p.0 0) p.1) m)
    one_wellformed = replaced_keeps is_isolated (Result p.0 0) p.1 m w users_ok

    abbrev zs_after : List Operation
    zs_after = map (each_head (put_values (Result p.0 0) p.1)) zs

    finds_after : (o : Operation) → In o (map (each_head (put_values (Result p.0 0) p.1)) zs) → find (head o).id (edited (Replace (Result p.0 0) p.1) m).tree ≡ Some o
    finds_after o i =
        let k = in_mapped (each_head f) o zs i in
        ap (λ (q : Operation). find (head q).id (each_head f t)) k.2 ∙ ap (λ z. find z (each_head f t)) (each_id f alike k.0)
        ∙ head_find f (λ h. record { id = refl; name = refl; results = refl }) (head k.0).id t ∙ ap (option_map (each_head f)) (finds k.0 k.1) ∙ ap Some (sym k.2)

    has_same : (z : ℕ) (o : Operation) → has_id z (each_head (put_values (Result p.0 0) p.1) o) ≡ has_id z o
    has_same z o = ap (list_any (λ k. eqb k z)) (edit_ids f alike o)

    fresh_after : (q : Pair) → Fresh q zs m → Fresh q (map (each_head (put_values (Result p.0 0) p.1)) zs) (edited (Replace (Result p.0 0) p.1) m)
    fresh_after q r = record {
      holder = holder_headed f alike (λ h. refl) (λ h. length-map h.operands (put_value (Result p.0 0) p.1)) m q.0 q.2 r.holder;
      ty = r.ty;
      of = type_kept (Result p.0 0) p.1 t q.1 ∙ r.of;
      same = r.same;
      seen = λ o i. (let k = in_mapped (each_head f) o zs i in ap (λ (z : Operation). visible is_isolated (each_head f t) (head z).id q.1) k.2 ∙ ap (λ z. visible is_isolated (each_head f t) z q.1) (each_id f alike k.0) ∙ headed.dominated_by_headed is_isolated f alike t (head k.0).id q.1 ∙ r.seen k.0 k.1);
      users = λ u h. (let e = replaced_uses (Result p.0 0) p.1 t (Result q.0 0) u h in users_by u e.0 e.1 e.2);
      out = λ o i. (let k = in_mapped (each_head f) o zs i in ap (has_id q.0) k.2 ∙ has_same q.0 k.0 ∙ r.out k.0 k.1);
    }
      where
        moved : (u : ℕ × ℕ) → ((o : Operation) × In o zs × (has_id u.0 o ≡ true)) → (o : Operation) × In o (map (each_head (put_values (Result p.0 0) p.1)) zs) × (has_id u.0 o ≡ true)
        moved u o = (each_head f o.0, in_map (each_head f) o.0 zs o.1, has_same u.0 o.0 ∙ o.2)

        users_by : (u e : ℕ × ℕ) → e.0 ≡ u.0 → In e (uses_of (Result q.0 0) m.tree) ⊎ In e (uses_of (Result p.0 0) m.tree) → (o : Operation) × In o (map (each_head (put_values (Result p.0 0) p.1)) zs) × (has_id u.0 o ≡ true)
        users_by u e id (inl k) = (let o = r.users e k in moved u (o.0, o.1, ap (λ z. has_id z o.0) (sym id) ∙ o.2))
        users_by u e id (inr k) = (let o = s.users e k in moved u (o.0, o.1, ap (λ z. has_id z o.0) (sym id) ∙ o.2))

  -- none of the placeholders is replaced by another
  abbrev pub AllApart : List Pair → Type 0
  AllApart [] = Unit {0}
  AllApart (p ∷ ps) = (same_value (Result p.0 0) p.1 ≡ false) × ((q : Pair) → In q ps → (same_value (Result p.0 0) (Result q.0 0) ≡ false) × (same_value (Result p.0 0) q.1 ≡ false)) × AllApart ps

  pub record ReplacedAll (ps : List Pair) (m : Module) : Type 0 where
    pub free : (fs : List Edit) → Free fs (all_edited (pair_edits ps) m) → Free (pair_edits ps ++ fs) m
    pub wellformed : IsWellFormed is_isolated (all_edited (pair_edits ps) m)
    pub near : Near m → Near (all_edited (pair_edits ps) m)
    pub holders : (h : ℕ) (ty : TypeTerm) → Holder h ty m → Holder h ty (all_edited (pair_edits ps) m)
    pub unused : (p : Pair) → In p ps → uses_of (Result p.0 0) (all_edited (pair_edits ps) m).tree ≡ []
    pub keeps : (v : Value) → ((p : Pair) → In p ps → (same_value v (Result p.0 0) ≡ false) × (same_value v p.1 ≡ false)) → uses_of v m.tree ≡ [] → uses_of v (all_edited (pair_edits ps) m).tree ≡ []
    pub dominance : (b : ℕ) (v : Value) → dominated_by b v (all_edited (pair_edits ps) m) ≡ dominated_by b v m
    pub next : (all_edited (pair_edits ps) m).next ≡ m.next
    pub counts : op_count (all_edited (pair_edits ps) m).tree ≡ op_count m.tree

  pub replaced_all : (ps : List Pair) (zs : List Operation) (m : Module) → IsWellFormed is_isolated m → ((o : Operation) → In o zs → find (head o).id m.tree ≡ Some o) → ((p : Pair) → In p ps → Fresh p zs m) → AllApart ps → ReplacedAll ps m
  replaced_all [] zs m w finds fresh apart = record { free = λ fs k. k; wellformed = w; near = λ s. s; holders = λ h ty s. s; unused = λ p i. absurd i; keeps = λ v a e. e; dominance = λ b v. refl; next = refl; counts = refl }
  replaced_all (p ∷ ps) zs m w finds fresh apart =
      let s = fresh p (inl refl) in
      let n = edited (Replace (Result p.0 0) p.1) m in
      let wellformed = one_wellformed p zs m w finds s in
      let g = put_values (Result p.0 0) p.1 in
      let like : (h : Header) → Alike (put_values (Result p.0 0) p.1 h) h = (λ h. record { id = refl; name = refl; results = refl }) in
      let later = replaced_all ps (map (each_head g) zs) n wellformed (finds_after p zs m w finds s) (λ q i. fresh_after p zs m w finds s q (fresh q (inr i))) apart.2 in
      record {
        free = λ fs k. (one_reason p zs m w finds s, later.free fs k);
        wellformed = later.wellformed;
        near = λ k. later.near (near_headed g like (λ h. refl) (λ h. length-map h.operands (put_value (Result p.0 0) p.1)) m k wellformed);
        holders = λ h ty k. later.holders h ty (holder_headed g like (λ h. refl) (λ h. length-map h.operands (put_value (Result p.0 0) p.1)) m h ty k);
        unused = done later;
        keeps = λ v a e. later.keeps v (λ q i. a q (inr i)) (others_stay (Result p.0 0) p.1 v (a p (inl refl)).0 (a p (inl refl)).1 m.tree ∙ e);
        dominance = λ b v. later.dominance b v ∙ headed.dominated_by_headed is_isolated g like m.tree b v;
        next = later.next;
        counts = later.counts ∙ ap length (edit_ids g like m.tree);
      }
    where
      done : ReplacedAll ps (edited (Replace (Result p.0 0) p.1) m) → (q : Pair) → In q (p ∷ ps) → uses_of (Result q.0 0) (all_edited (pair_edits ps) (edited (Replace (Result p.0 0) p.1) m)).tree ≡ []
      done later q (inl e) = subst (λ (z : Pair). uses_of (Result z.0 0) (all_edited (pair_edits ps) (edited (Replace (Result p.0 0) p.1) m)).tree ≡ []) (sym e) (later.keeps (Result p.0 0) (λ k i. apart.1 k i) (old_unused (Result p.0 0) p.1 apart.0 m.tree))
      done later q (inr i) = later.unused q i
