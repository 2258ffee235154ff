-- The rule that removes casts back keeps modules ready, and refines what they compute if the cast isn't unrealized.
use Rattle.std.proofs.Common.{◌≡◌, ℕ, ◌<◌, ◌≤◌, ◌^◌, refl, ap, sym, ◌∙◌, subst, List, [], ◌∷◌, map, Bool, true, false, true≢false, ◌&&◌, Some, None, ◌⊎◌, inl, inr, slice_get, arith, Option}
use Rattle.std.specs.Prelude.{codes, nat_le, if◌then◌else◌, is_some}
use Rattle.std.specs.List.{list_all}
use Rattle.std.proofs.lemmas.Bool.{and_parts}
use Rattle.std.proofs.lemmas.Bool.Decides.{nat_tests}
use Rattle.std.proofs.lemmas.Option.{same_Some}
use Rattle.ir_types.specs.declared.bits.BitsKind.{BitsKind}
use Rattle.ir_types.specs.Bits.{width_of}
use Rattle.ir_types.specs.Readings.{type_width}
use Rattle.ir_types.specs.Terms.{TypeTerm}
use Rattle.ir_types.specs.Words.{is_isolated}
use Rattle.ir_tree.specs.declared.value.Value.{Value}
use Rattle.ir_tree.specs.declared.value.Value.TheVariants.{Result}
use Rattle.ir_tree.specs.declared.place.Place.{Place}
use Rattle.ir_tree.specs.Tree.{head}
use Rattle.ir_tree.specs.Meaning.{Operation}
use Rattle.ir_tree_laws.specs.Values.{has_value}
use Rattle.ir_event.specs.Modules.{Module}
use Rattle.dialects_int.specs.declared.operations.Cast.{Cast}
use Rattle.dialects_int.specs.declared.operations.Cast.TheVariants as casts
use Rattle.dialects_int.specs.declared.operations.Rule.TheVariants as how
use Rattle.dialects_int.specs.Arithmetic.{cast_of, sign_extended, zero_extended}
use Rattle.dialects_int.specs.Folds.{kind_of, rule_of, rules}
use Rattle.dialects_int.proofs.CastLaws.{extended_back, zeros_back}
use Rattle.rewriter_machine.specs.Contents.{Edit}
use Rattle.user_patterns_check.specs.Checks.{refines}
use Rattle.user_patterns_check.specs.Outcomes.{Outcome, given, resize_outcome}
use Rattle.patterns_laws.specs.Keeps.{Each as EachOf}
use Rattle.patterns_laws.specs.Words.{among, index_casts, named}
use Rattle.patterns_laws.proofs.KnownFolds.{below, given_some, some_bits}
use Rattle.patterns_base.specs.declared.rule.Rule.TheVariants.{CastBack}
use Rattle.patterns_base.specs.Casting.{through_index, unrealized}
use Rattle.patterns_base.specs.Looks.{One, defining_op, is_verified, is_of_type, one, source, when}
use Rattle.patterns_base.specs.Makes.{give}
use Rattle.patterns_base.specs.Rules.{rule}
use Rattle.patterns_base.proofs.Dispatch.{of_among}
use Rattle.patterns_base.proofs.Facts.{when_some}
use Rattle.patterns_soundness.specs.Accepted.{AreAccepted}
use Rattle.patterns_soundness.proofs.Shapes.{one_is}
use Rattle.user_patterns_data.specs.Matching.{Header}
use Rattle.patterns_refinement.specs.Meaning.{Assignment, of_one, result_kind}
use Rattle.patterns_refinement.specs.Better.{kind_in, is_kinded, narrows, takes}
use Rattle.patterns_refinement.specs.Keeping.{IsReady, KeepsReady, is_there}
use Rattle.patterns_refinement.specs.IndexCasts.{CastsBack}
use Rattle.patterns_refinement.proofs.Casts.{extends, of_type, twice_refined}
use Rattle.patterns_refinement.proofs.Dropping.{old_improves, value_kind, widths}
use Rattle.patterns_refinement.proofs.Forms.{named_is}
use Rattle.patterns_refinement.proofs.Wellformed.{operands_stand}
use Rattle.patterns_refinement.proofs.Monotone.{same_refined}
use Rattle.patterns_refinement.proofs.Verified.{asks_kind}
use Rattle.patterns_refinement.proofs.Ruled.{Ruled, Site, gives_refined, known_kinds, of_rule, root_has, rule_kinds, ruled, site_of, value_bits}
use Rattle.patterns_refinement.proofs.Sources.{Sole, made_or_poison, operand_there, sole_of}
use Rattle.patterns_refinement.proofs.StaysReady.{GivesOld, old_ready}
use Rattle.patterns_refinement.proofs.Trees.{each_found}

-- ---- an existing value replaces the result
back_given : (t : Operation) (n : ℕ) (insertion : Place) (o : Operation) (p q : One) (es : List Edit) → when (is_of_type t p.ty q.first) (Some (give (head o).id q.first)) ≡ Some es → (v : Value) × (give (head o).id v ≡ es)
back_given t n insertion o p q es e = let w = when_some (is_of_type t p.ty q.first) (Some (give (head o).id q.first)) es e in (q.first, same_Some _ _ w.1)

through_given : (t : Operation) (n : ℕ) (insertion : Place) (o : Operation) (p : One) (es : List Edit) → through_index t n insertion o p ≡ Some es → (v : Value) × (give (head o).id v ≡ es)
through_given t n insertion o p es e =
    let s = given_some (source t p.name p.first) (λ y. given (one y) (λ q. when (nat_le (type_width p.ty) (type_width q.ty)) (when (is_of_type t p.ty q.first) (Some (give (head o).id q.first))))) es e in
    let i = given_some (one s.0) (λ q. when (nat_le (type_width p.ty) (type_width q.ty)) (when (is_of_type t p.ty q.first) (Some (give (head o).id q.first)))) es s.2 in
    let w = when_some (nat_le (type_width p.ty) (type_width i.0.ty)) (when (is_of_type t p.ty i.0.first) (Some (give (head o).id i.0.first))) es i.2 in
    back_given t n insertion o p i.0 es w.1

unrealized_given : (t : Operation) (n : ℕ) (insertion : Place) (o : Operation) (p : One) (es : List Edit) → unrealized t n insertion o p ≡ Some es → (v : Value) × (give (head o).id v ≡ es)
unrealized_given t n insertion o p es e = go (is_of_type t p.ty p.first) e
  where
    back : given (source t p.name p.first) (λ y. given (one y) (λ q. when (is_of_type t p.ty q.first) (Some (give (head o).id q.first)))) ≡ Some es → (v : Value) × (give (head o).id v ≡ es)
    back e =
        let s = given_some (source t p.name p.first) (λ y. given (one y) (λ q. when (is_of_type t p.ty q.first) (Some (give (head o).id q.first)))) es e in
        let i = given_some (one s.0) (λ q. when (is_of_type t p.ty q.first) (Some (give (head o).id q.first))) es s.2 in
        back_given t n insertion o p i.0 es i.2

    go : (b : Bool) → (if b then Some (give (head o).id p.first) else given (source t p.name p.first) (λ y. given (one y) (λ q. when (is_of_type t p.ty q.first) (Some (give (head o).id q.first))))) ≡ Some es → (v : Value) × (give (head o).id v ≡ es)
    go true e = (p.first, same_Some _ _ e)
    go false e = back e

pub cast_back_gives : GivesOld CastBack
unfolding rule
cast_back_gives t n insertion o es e =
    let w = one_is (head o) (λ p. if named (codes "builtin.unrealized_conversion_cast") p.name then unrealized t n insertion o p else when (among index_casts p.name) (through_index t n insertion o p)) es e in
    let p : One = record { name = (head o).name; first = w.first; ty = w.ty } in
    go p (named (codes "builtin.unrealized_conversion_cast") (head o).name) w.makes
  where
    go : (p : One) (b : Bool) → (if b then unrealized t n insertion o p else when (among index_casts p.name) (through_index t n insertion o p)) ≡ Some es → (v : Value) × (give (head o).id v ≡ es)
    go p true e = unrealized_given t n insertion o p es e
    go p false e = through_given t n insertion o p es (when_some (among index_casts p.name) (through_index t n insertion o p) es e).1

-- ---- index casts
abbrev IsIndexCast : List ℕ → Type 0
IsIndexCast name = (c : Cast) × (rule_of name ≡ Some (how.IndexCast c)) × (extends c ≡ true)

index_casts_are : EachOf IsIndexCast index_casts
unfolding rule_of rules index_casts
index_casts_are = ((casts.ExtendSigned, refl, refl), ((casts.ExtendUnsigned, refl, refl), tt))

-- a cast of a number to at least as many bits and back gives the number
came_back : (c : Cast) (u v a b i : ℕ) → extends c ≡ true → 1 ≤ u → u ≤ v → a < 2 ^ u → cast_of c u v a ≡ Some b → cast_of c v u b ≡ Some i → i ≡ a
came_back casts.Truncate u v a b i e s l h f g = absurd (true≢false (sym e))
came_back casts.ExtendSigned u v a b i e s l h f g = same_Some i a (sym g ∙ ap (λ b. Some (sign_extended v u b)) (sym (same_Some (sign_extended u v a) b f)) ∙ ap (λ n. Some n) (extended_back u v a s l h))
came_back casts.ExtendUnsigned u v a b i e s l h f g = same_Some i a (sym g ∙ ap (λ b. Some (zero_extended u b)) (sym (same_Some (zero_extended v a) b f)) ∙ ap (λ n. Some n) (zeros_back u v a l h))

module _ (m : Module) (a : Assignment) (done : ℕ → Bool) (x : ℕ) (o : Operation) (s : Site m a done x o) where
  -- the outcome of such a cast, by the kind of its result
  index_result : (c : Cast) (v : Value) (k : BitsKind) (y : Outcome) → rule_of (head o).name ≡ Some (how.IndexCast c) → result_kind (head o) ≡ Some k → (head o).operands ≡ v ∷ [] → done x ≡ true → ((z : Outcome) → resize_outcome c k (a v) ≡ Some z → refines z y ≡ true) → refines (a (Result x 0)) y ≡ true
  index_result c v k y e is ops d f =
      let r = of_rule m a done x o s (how.IndexCast c) e in
      let same : r.kind ≡ k = same_Some _ _ (sym r.is ∙ is) in
      gives_refined m a done x o s (how.IndexCast c) y e r d
      (λ z i. f z (subst (λ k. resize_outcome c k (a v) ≡ Some z) same (subst (λ vs. of_one (resize_outcome c r.kind) (map a vs) ≡ Some z) ops i)))

  index_made : (c : Cast) (v : Value) (k : BitsKind) → rule_of (head o).name ≡ Some (how.IndexCast c) → result_kind (head o) ≡ Some k → (head o).operands ≡ v ∷ [] → done x ≡ true → (resize_outcome c k (a v) ≡ Some (a (Result x 0))) ⊎ (a (Result x 0) ≡ None)
  index_made c v k e is ops d =
      let r = of_rule m a done x o s (how.IndexCast c) e in
      let same : r.kind ≡ k = same_Some _ _ (sym r.is ∙ is) in
      elim (made_or_poison m a done x o s (how.IndexCast c) e r d) [
        | inl i ↦ inl (subst (λ k. resize_outcome c k (a v) ≡ Some (a (Result x 0))) same (subst (λ vs. of_one (resize_outcome c r.kind) (map a vs) ≡ Some (a (Result x 0))) ops i))
        | inr none ↦ inr none
      ]

module _ (accepted : AreAccepted) where
  -- the operations that the rule matched
  record Back (m n : Module) (x : ℕ) (q : Ruled CastBack m n x) : Type 0 where
    pub middle : Value
    pub ty : TypeTerm
    pub operands : (head q.here).operands ≡ middle ∷ []
    pub results : (head q.here).results ≡ ty ∷ []
    pub outer : IsIndexCast (head q.here).name
    pub inner : Header
    pub first : Value
    pub inner_ty : TypeTerm
    pub inner_operands : inner.operands ≡ first ∷ []
    pub inner_results : inner.results ≡ inner_ty ∷ []
    pub gives : given (defining_op m.tree middle) (λ h. when (named (head q.here).name h.name && is_verified m.tree h) (Some h)) ≡ Some inner
    pub wide : nat_le (type_width ty) (type_width inner_ty) ≡ true
    pub of_its_type : is_of_type m.tree ty first ≡ true
    pub edits : give (head q.here).id first ≡ q.edits

  back_here : (m n : Module) (x : ℕ) (q : Ruled CastBack m n x) → named (codes "builtin.unrealized_conversion_cast") (head q.here).name ≡ false → Back m n x q
  unfolding rule
  back_here m n x q real =
      let h = head q.here in
      let id = h.id in
      let w = one_is h (λ p. if named (codes "builtin.unrealized_conversion_cast") p.name then unrealized m.tree m.next q.insertion q.here p else when (among index_casts p.name) (through_index m.tree m.next q.insertion q.here p)) q.edits q.made in
      let p : One = record { name = h.name; first = w.first; ty = w.ty } in
      let made : when (among index_casts h.name) (through_index m.tree m.next q.insertion q.here p) ≡ Some q.edits =
      sym (ap (λ b. if b then unrealized m.tree m.next q.insertion q.here p else when (among index_casts h.name) (through_index m.tree m.next q.insertion q.here p)) real) ∙ w.makes in
      let g = when_some (among index_casts h.name) (through_index m.tree m.next q.insertion q.here p) q.edits made in
      let s = given_some (source m.tree h.name w.first) (λ y. given (one y) (λ i. when (nat_le (type_width w.ty) (type_width i.ty)) (when (is_of_type m.tree w.ty i.first) (Some (give id i.first))))) q.edits g.1 in
      let i = one_is s.0 (λ i. when (nat_le (type_width w.ty) (type_width i.ty)) (when (is_of_type m.tree w.ty i.first) (Some (give id i.first)))) q.edits s.2 in
      let l = when_some (nat_le (type_width w.ty) (type_width i.ty)) (when (is_of_type m.tree w.ty i.first) (Some (give id i.first))) q.edits i.makes in
      let t = when_some (is_of_type m.tree w.ty i.first) (Some (give id i.first)) q.edits l.1 in
      record {
        middle = w.first;
        ty = w.ty;
        operands = w.operands;
        results = w.results;
        outer = of_among IsIndexCast index_casts h.name index_casts_are g.0;
        inner = s.0;
        first = i.first;
        inner_ty = i.ty;
        inner_operands = i.operands;
        inner_results = i.results;
        gives = s.1;
        wide = l.0;
        of_its_type = t.0;
        edits = same_Some _ _ t.1;
      }

  -- the kinds of their values
  record BackKinds (m n : Module) (x : ℕ) (q : Ruled CastBack m n x) (w : Back m n x q) : Type 0 where
    pub sole : Sole m (λ h. named (head q.here).name h.name && is_verified m.tree h) w.middle w.inner
    pub name : rule_of (head sole.here).name ≡ Some (how.IndexCast w.outer.0)
    pub kind : BitsKind
    pub is : result_kind (head q.here) ≡ Some kind
    pub first_kind : kind_in m.tree w.first ≡ Some kind
    pub intermediate : BitsKind
    pub between_is : result_kind (head sole.here) ≡ Some intermediate
    pub wide : width_of kind ≤ width_of intermediate
    pub value : has_value w.first m.tree ≡ true
    pub inside : (head sole.here).operands ≡ w.first ∷ []

  taken_kind : (c : Cast) (o : Option BitsKind) (k : BitsKind) → narrows c o k ≡ true → (j : BitsKind) × (o ≡ Some j)
  taken_kind c None k e = absurd (true≢false (sym e))
  taken_kind c (Some j) k e = (j, refl)

  back_kinds : (m n : Module) (x : ℕ) (q : Ruled CastBack m n x) (w : Back m n x q) → IsReady m → BackKinds m n x q w
  back_kinds m n x q w ready =
      let k = rule_kinds m.tree (head q.here) (each_found (λ h. is_kinded m.tree h ≡ true) x m.tree ready.kinded q.here q.found).0 (root_has q ready.wellformed ready.kinded refl) (how.IndexCast w.outer.0) w.outer.1 in
      let stand = operands_stand is_isolated m.tree ready.wellformed.distinct ready.wellformed.wellformed.visible in
      let there = (each_found (λ h. list_all (λ v. has_value v m.tree) h.operands ≡ true) x m.tree stand q.here q.found).0 in
      let middle : has_value w.middle m.tree ≡ true = (and_parts (has_value w.middle m.tree) true (subst (λ vs. list_all (λ v. has_value v m.tree) vs ≡ true) w.operands there)).0 in
      let s = sole_of m (λ h. named (head q.here).name h.name && is_verified m.tree h) w.middle w.inner w.gives middle w.inner_ty w.inner_results in
      let inside = (each_found (λ h. list_all (λ v. has_value v m.tree) h.operands ≡ true) s.id m.tree stand s.here s.found).0 in
      let operands = ap (λ (h : Header). h.operands) s.heads ∙ w.inner_operands in
      let alike = named_is (head q.here).name w.inner.name (and_parts (named (head q.here).name w.inner.name) (is_verified m.tree w.inner) s.passed).0 in
      let name = ap rule_of (ap (λ (h : Header). h.name) s.heads ∙ alike) ∙ w.outer.1 in
      let middle_kind = taken_kind w.outer.0 (kind_in m.tree w.middle) k.kind (subst (λ vs. takes (how.IndexCast w.outer.0) (head q.here) k.kind (map (kind_in m.tree) vs) ≡ true) w.operands k.operands) in
      let j = known_kinds m.tree (head s.here) (each_found (λ h. is_kinded m.tree h ≡ true) s.id m.tree ready.kinded s.here s.found).0 (how.IndexCast w.outer.0) name middle_kind.0 (sym s.kind ∙ middle_kind.1) in
      let of : kind_of w.ty ≡ Some k.kind = sym (ap (λ tys. given (slice_get tys 0) kind_of) w.results) ∙ k.is in
      let inner_of : kind_of w.inner_ty ≡ Some j.kind = sym (ap (λ tys. given (slice_get tys 0) kind_of) (ap (λ (h : Header). h.results) s.heads ∙ w.inner_results)) ∙ j.is in
      record {
        sole = s;
        name = name;
        kind = k.kind;
        is = k.is;
        first_kind = of_type m.tree w.ty w.first w.of_its_type ∙ of;
        intermediate = j.kind;
        between_is = j.is;
        wide = at_most (width_of k.kind) (width_of j.kind) (sym (λ i. nat_le (widths w.ty k.kind of i) (widths w.inner_ty j.kind inner_of i)) ∙ w.wide);
        value = (and_parts (has_value w.first m.tree) true (subst (λ vs. list_all (λ v. has_value v m.tree) vs ≡ true) operands inside)).0;
        inside = operands;
      }
    where
      at_most : (u v : ℕ) → nat_le u v ≡ true → u ≤ v
      at_most u v e = grind (arith, nat_tests)

  pub cast_back_ready : KeepsReady CastBack
  cast_back_ready = old_ready accepted CastBack cast_back_gives

  pub casts_back : CastsBack
  casts_back m n x o a done ready computing found real e =
      let q = ruled accepted CastBack m n x ready.wellformed ready.sorted e in
      let same : o ≡ q.here = same_Some _ _ (sym found ∙ q.found) in
      let w = back_here m n x q (sym (ap (λ (o : Operation). named (codes "builtin.unrealized_conversion_cast") (head o).name) same) ∙ real) in
      let k = back_kinds m n x q w ready in
      let s = site_of m a done x q.here ready.wellformed ready.kinded computing q.found (root_has q ready.wellformed ready.kinded refl) in
      let i = site_of m a done k.sole.id k.sole.here ready.wellformed ready.kinded computing k.sole.found (λ i. ap is_some k.between_is) in
      let middle : done x ≡ true → is_there done w.middle ≡ true = (λ d. operand_there m a done x q.here s (is_there done) w.middle w.operands (s.fed d)) in
      let inner : done x ≡ true → done k.sole.id ≡ true = (λ d. ap (is_there done) (sym k.sole.value) ∙ middle d) in
      old_improves CastBack m n x a done ready.wellformed (cast_back_ready m n x ready e).kinded computing q (ap asks_kind w.outer.1) w.first s (record {
        edits = w.edits;
        value = k.value;
        better = λ d.
            index_result m a done x q.here s w.outer.0 w.middle k.kind (a w.first) w.outer.1 k.is w.operands d
            (λ z f.
            twice_refined w.outer.0 w.outer.0 k.intermediate k.kind (a w.first) (a w.middle) z (a w.first) f
            (subst (λ v. (resize_outcome w.outer.0 k.intermediate (a w.first) ≡ Some (a v)) ⊎ (a v ≡ None)) (sym k.sole.value) (index_made m a done k.sole.id k.sole.here i w.outer.0 w.first k.intermediate k.name k.between_is k.inside (inner d)))
            (λ y b j is c g.
            let value_types = value_kind m a done x q.here s w.first k.kind y k.first_kind is in
            let fits = value_bits m a done x q.here s w.first k.value y is in
            let number : j ≡ y.1 =
            came_back w.outer.0 (width_of k.kind) (width_of k.intermediate) y.1 b j w.outer.2 (subst (λ k. 1 ≤ width_of k) value_types (some_bits y.0 y.1 fits)) k.wide (subst (λ k. y.1 < 2 ^ width_of k) value_types (below y.0 y.1 fits))
            (subst (λ u. cast_of w.outer.0 (width_of u) (width_of k.intermediate) y.1 ≡ Some b) value_types c) g in
            let back = sym value_types in
            same_refined (Some (k.kind, j)) (a w.first) ((λ t. Some (back t, number t)) ∙ sym is)));
        there = λ d. operand_there m a done k.sole.id k.sole.here i (is_there done) w.first k.inside (i.fed (inner d));
      })
