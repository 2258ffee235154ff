-- Rules that replace the result by an existing value.
use Rattle.std.proofs.Common.{◌≡◌, refl, ap, sym, ◌∙◌, subst, ℕ, ◌+◌, ◌≤◌, Bool, true, false, ◌&&◌, List, [], ◌∷◌, Option, Some, None, if◌then◌else◌, inl, inr}
use Rattle.std.specs.Prelude.{codes, ◌==◌, nat_le}
use Rattle.std.specs.Option.{option_eq}
use Rattle.ir_event.specs.types.Readings.{type_width}
use Rattle.ir_event.specs.types.Terms.{TypeTerm}
use Rattle.ir_event.specs.types.SameTypes.{same_type}
use Rattle.ir_event.proofs.of_types.SameTerms.{type_is, type_refl}
use Rattle.ir_event.specs.trees.declared.value.Value.{Value}
use Rattle.ir_event.specs.trees.declared.place.Place.{Place}
use Rattle.ir_event.specs.trees.Tree.{head}
use Rattle.ir_event.specs.trees.Ids.{op_count}
use Rattle.ir_event.specs.trees.Limits.{most_ops, most_next}
use Rattle.ir_event.specs.trees.Uses.{same_value}
use Rattle.ir_event.specs.trees.Meaning.{Operation}
use Rattle.ir_event.specs.tree_laws.Members.{In}
use Rattle.ir_event.proofs.of_tree_laws.Listed.{both}
use Rattle.ir_event.specs.tree_laws.Values.{type_of_value}
use Rattle.ir_event.specs.Modules.{Module}
use Rattle.rewriter_machine.specs.Contents.{Edit}
use Rattle.patterns_base.specs.Lists.{Free}
use Rattle.patterns_base.proofs.Plans.{dominated_by}
use Rattle.patterns_soundness.specs.base.Keeps.{Each, given}
use Rattle.patterns_soundness.specs.base.Words.{among, with_one_as_right_identity, with_zero_as_right_identity, index_casts, idempotent, named}
use Rattle.patterns_soundness.specs.base.Made.{i1}
use Rattle.patterns_soundness.specs.base.Looks.{Header, One, is_number, is_of_type, known, one, passes, source, when}
use Rattle.patterns_soundness.specs.base.Makes.{give, made_by}
use Rattle.patterns_soundness.specs.base.Casting.{cast_back, through_index, unrealized}
use Rattle.patterns_soundness.specs.base.Folding.{is_all_ones, drop_zero, drop_one, drop_all_ones, keep_itself, choose_same, choose_known, choose_truth}
use Rattle.patterns_soundness.proofs.Typed.{ChoiceTypes, a_choice, among_each, choice_is, choices_are, conjunction_is, ignoring_one_are, ignoring_zero_are, keeping_are, named_is, number_is, two_numbers, typed, types_at}
use Rattle.patterns_soundness.proofs.Points.{DefiningOp, Point, here_is, dominated_by_after, dominated_by_operand, stands_there}
use Rattle.patterns_soundness.proofs.Limits as fits_in
use Rattle.patterns_soundness.proofs.Limits.{IsWithinLimits}
use Rattle.patterns_soundness.proofs.Shapes.{one_is, source_is, three_is, two_is}
use Rattle.patterns_laws.proofs.KnownFolds.{given_some}
use Rattle.std.proofs.lemmas.Option.{same_Some}
use Rattle.patterns_soundness.proofs.of_base.Facts.{when_some}

-- the operations that edits make are within the limits
abbrev pub HasHeadroom : Module → List Edit → Type 0
HasHeadroom m es = (op_count m.tree + made_by es ≤ most_ops) × (m.next + made_by es ≤ most_next)

pub turned : (a b : TypeTerm) → same_type a b ≡ true → same_type b a ≡ true
turned a b e = subst (λ z. same_type z a ≡ true) (type_is a b e) (type_refl a)

of_type : (o : Option TypeTerm) (ty : TypeTerm) → option_eq same_type o (Some ty) ≡ true → (u : TypeTerm) × (o ≡ Some u) × (same_type ty u ≡ true)
of_type None ty e = absurd cc
of_type (Some u) ty e = (u, refl, turned u ty e)

module _ (m : Module) (o : Operation) (insertion : Place) (s : Point m o insertion) where
  abbrev x : ℕ
  x = (head o).id

  abbrev t : Operation
  t = m.tree

  -- the operation is one before which edits insert
  pub fits : (ty : TypeTerm) → (head o).results ≡ ty ∷ [] → (k : ℕ) → op_count m.tree + k ≤ most_ops → m.next + k ≤ most_next → IsWithinLimits (head o).id insertion ty k m
  fits ty one k ops ids = record { located = stands_there m o insertion s; one = ap (λ z. (head z).results) (here_is m o insertion s) ∙ one; ops = ops; ids = ids }

  -- a value of the result's type that dominates the operation replaces the result
  pub gives : (es : List Edit) (v : Value) (ty : TypeTerm) → (head o).results ≡ ty ∷ [] → Some (give (head o).id v) ≡ Some es → dominated_by (head o).id v m ≡ true → (u : TypeTerm) → type_of_value v m.tree ≡ Some u → same_type ty u ≡ true
      → HasHeadroom m es → Free es m
  gives es v ty one is seen u of same headroom =
      subst (λ z. HasHeadroom m z → Free z m) (same_Some (give x v) es is)
      (λ (r : HasHeadroom m (give x v)). fits_in.given x insertion ty 0 m (fits ty one 0 r.0 r.1) v seen u of same) headroom

  -- the first of two numbers
  gives_number : (es : List Edit) (a b : Value) (ty : TypeTerm) → types_at (head o).name ≡ Some two_numbers → (head o).operands ≡ a ∷ b ∷ [] → (head o).results ≡ ty ∷ [] → Some (give (head o).id a) ≡ Some es → HasHeadroom m es → Free es m
  gives_number es a b ty row operands results is headroom =
      let w = number_is t o a b ty (typed t o two_numbers.0 two_numbers.1 s.wellformed.distinct s.found s.verified row) operands results in
      gives es a ty results is (dominated_by_operand m o insertion s a (subst (In a) (sym operands) (inl refl))) w.0 w.1 (turned w.0 ty w.2) headroom

  -- rules on two operands: the first one replaces the result, if the table entry requires numbers
  of_two : (es : List Edit) (a b : Value) (ty : TypeTerm) (words : List (List ℕ)) → Each (λ name. types_at name ≡ Some two_numbers) words → among words (head o).name ≡ true → (head o).operands ≡ a ∷ b ∷ [] → (head o).results ≡ ty ∷ []
      → Some (give (head o).id a) ≡ Some es → HasHeadroom m es → Free es m
  of_two es a b ty words rows name = gives_number es a b ty (among_each (λ name. types_at name ≡ Some two_numbers) words (head o).name rows name)

  pub free_drop_zero : (n : ℕ) (es : List Edit) → drop_zero m.tree n insertion o ≡ Some es → HasHeadroom m es → Free es m
  free_drop_zero n es e =
      let p = two_is (head o) _ es e in
      let w = when_some (among with_zero_as_right_identity (head o).name && is_number t 0 p.second) (Some (give x p.first)) es p.makes in
      of_two es p.first p.second p.ty with_zero_as_right_identity ignoring_zero_are (both (among with_zero_as_right_identity (head o).name) _ w.0).0 p.operands p.results w.1

  pub free_drop_one : (n : ℕ) (es : List Edit) → drop_one m.tree n insertion o ≡ Some es → HasHeadroom m es → Free es m
  free_drop_one n es e =
      let p = two_is (head o) _ es e in
      let w = when_some (among with_one_as_right_identity (head o).name && is_number t 1 p.second) (Some (give x p.first)) es p.makes in
      of_two es p.first p.second p.ty with_one_as_right_identity ignoring_one_are (both (among with_one_as_right_identity (head o).name) _ w.0).0 p.operands p.results w.1

  pub free_drop_all_ones : (n : ℕ) (es : List Edit) → drop_all_ones m.tree n insertion o ≡ Some es → HasHeadroom m es → Free es m
  free_drop_all_ones n es e =
      let p = two_is (head o) _ es e in
      let w = when_some (named (codes "arith.andi") (head o).name && passes (is_all_ones p.ty) (known t p.second)) (Some (give x p.first)) es p.makes in
      gives_number es p.first p.second p.ty (named_is (λ name. types_at name ≡ Some two_numbers) (codes "arith.andi") (head o).name conjunction_is (both (named (codes "arith.andi") (head o).name) _ w.0).0) p.operands p.results w.1

  pub free_keep_itself : (n : ℕ) (es : List Edit) → keep_itself m.tree n insertion o ≡ Some es → HasHeadroom m es → Free es m
  free_keep_itself n es e =
      let p = two_is (head o) _ es e in
      let w = when_some (among idempotent (head o).name && same_value p.first p.second) (Some (give x p.first)) es p.makes in
      of_two es p.first p.second p.ty idempotent keeping_are (both (among idempotent (head o).name) _ w.0).0 p.operands p.results w.1

  -- choices
  chosen : (name : named (codes "arith.select") (head o).name ≡ true) (c a b : Value) (ty : TypeTerm) → (head o).operands ≡ c ∷ a ∷ b ∷ [] → (head o).results ≡ ty ∷ [] → ChoiceTypes m.tree c a b ty
  chosen name c a b ty operands results =
      choice_is t o c a b ty (typed t o a_choice.0 a_choice.1 s.wellformed.distinct s.found s.verified (named_is (λ name. types_at name ≡ Some a_choice) (codes "arith.select") (head o).name choices_are name)) operands results

  gives_second : (es : List Edit) (c a b : Value) (ty : TypeTerm) → (head o).operands ≡ c ∷ a ∷ b ∷ [] → (head o).results ≡ ty ∷ [] → ChoiceTypes m.tree c a b ty → Some (give (head o).id a) ≡ Some es → HasHeadroom m es → Free es m
  gives_second es c a b ty operands results w is = gives es a ty results is (dominated_by_operand m o insertion s a (subst (In a) (sym operands) (inr (inl refl)))) w.first w.taken (turned w.first ty w.same)

  gives_third : (es : List Edit) (c a b : Value) (ty : TypeTerm) → (head o).operands ≡ c ∷ a ∷ b ∷ [] → (head o).results ≡ ty ∷ [] → ChoiceTypes m.tree c a b ty → Some (give (head o).id b) ≡ Some es → HasHeadroom m es → Free es m
  gives_third es c a b ty operands results w is =
      gives es b ty results is (dominated_by_operand m o insertion s b (subst (In b) (sym operands) (inr (inr (inl refl))))) w.second w.other
      (subst (λ z. same_type z w.second ≡ true) (type_is w.first ty w.same) w.like)

  pub free_choose_same : (n : ℕ) (es : List Edit) → choose_same m.tree n insertion o ≡ Some es → HasHeadroom m es → Free es m
  free_choose_same n es e =
      let p = three_is (head o) _ es e in
      let w = when_some (named (codes "arith.select") (head o).name) _ es p.makes in
      let u = when_some (same_value p.second p.third) (Some (give x p.second)) es w.1 in
      gives_second es p.first p.second p.third p.ty p.operands p.results (chosen w.0 p.first p.second p.third p.ty p.operands p.results) u.1

  pub free_choose_known : (n : ℕ) (es : List Edit) → choose_known m.tree n insertion o ≡ Some es → HasHeadroom m es → Free es m
  free_choose_known n es e =
      let p = three_is (head o) _ es e in
      let w = when_some (named (codes "arith.select") (head o).name) _ es p.makes in
      let u = given_some (known t p.first) _ es w.1 in
      by_bit p.first p.second p.third p.ty p.operands p.results (chosen w.0 p.first p.second p.third p.ty p.operands p.results) (u.0.1 == 0) u.2
    where
      by_bit : (c a b : Value) (ty : TypeTerm) → (head o).operands ≡ c ∷ a ∷ b ∷ [] → (head o).results ≡ ty ∷ [] → ChoiceTypes m.tree c a b ty → (bit : Bool) → Some (give (head o).id (if bit then b else a)) ≡ Some es → HasHeadroom m es → Free es m
      by_bit c a b ty operands results w true is = gives_third es c a b ty operands results w is
      by_bit c a b ty operands results w false is = gives_second es c a b ty operands results w is

  pub free_choose_truth : (n : ℕ) (es : List Edit) → choose_truth m.tree n insertion o ≡ Some es → HasHeadroom m es → Free es m
  free_choose_truth n es e =
      let p = three_is (head o) _ es e in
      let w = when_some (named (codes "arith.select") (head o).name) _ es p.makes in
      let u = when_some (same_type p.ty i1 && (is_number t 1 p.second && is_number t 0 p.third)) (Some (give x p.first)) es w.1 in
      let c = chosen w.0 p.first p.second p.third p.ty p.operands p.results in
      gives es p.first p.ty p.results u.1 (dominated_by_operand m o insertion s p.first (subst (In p.first) (sym p.operands) (inl refl))) c.requested c.condition
      (subst (λ z. same_type p.ty z ≡ true) (sym c.truth) (both (same_type p.ty i1) _ u.0).0)

  -- an operand of the operand's defining operation replaces the result, if it has the type of the result
  pub gives_after : (es : List Edit) (a : Value) (ty : TypeTerm) (h : Header) (v : Value) → (head o).operands ≡ a ∷ [] → (head o).results ≡ ty ∷ [] → DefiningOp m.tree a h → h.operands ≡ v ∷ []
      → when (is_of_type m.tree ty v) (Some (give (head o).id v)) ≡ Some es → HasHeadroom m es → Free es m
  gives_after es a ty h v operands results g inner e =
      let w = when_some (is_of_type t ty v) (Some (give x v)) es e in
      let u = of_type (type_of_value v t) ty w.0 in
      gives es v ty results w.1 (dominated_by_after m o insertion s a (subst (In a) (sym operands) (inl refl)) h g v (subst (In v) (sym inner) (inl refl))) u.0 u.1 u.2

  pub free_cast_back : (n : ℕ) (es : List Edit) → cast_back m.tree n insertion o ≡ Some es → HasHeadroom m es → Free es m
  free_cast_back n es e =
      let p = one_is (head o) _ es e in
      by_name p.first p.ty p.operands p.results (named (codes "builtin.unrealized_conversion_cast") (head o).name) p.makes
    where
      of_name : Value → TypeTerm → One
      of_name a ty = record { name = (head o).name; first = a; ty = ty }

      by_type : (a : Value) (ty : TypeTerm) → (head o).operands ≡ a ∷ [] → (head o).results ≡ ty ∷ [] → (c : Bool) → is_of_type t ty a ≡ c
          → (if c then Some (give x a) else given (source t (head o).name a) (λ y. given (one y) (λ q. when (is_of_type t ty q.first) (Some (give x q.first))))) ≡ Some es → HasHeadroom m es → Free es m
      by_type a ty operands results true f is =
          let u = of_type (type_of_value a t) ty f in
          gives es a ty results is (dominated_by_operand m o insertion s a (subst (In a) (sym operands) (inl refl))) u.0 u.1 u.2
      by_type a ty operands results false f is =
          let y = given_some (source t (head o).name a) _ es is in
          let q = one_is y.0 _ es y.2 in
          gives_after es a ty y.0 q.first operands results (source_is t (head o).name a y.0 y.1) q.operands q.makes

      by_name : (a : Value) (ty : TypeTerm) → (head o).operands ≡ a ∷ [] → (head o).results ≡ ty ∷ [] → (b : Bool)
          → (if b then unrealized t n insertion o (record { name = (head o).name; first = a; ty = ty }) else when (among index_casts (head o).name) (through_index t n insertion o (record { name = (head o).name; first = a; ty = ty }))) ≡ Some es → HasHeadroom m es → Free es m
      by_name a ty operands results true is = by_type a ty operands results (is_of_type t ty a) refl is
      by_name a ty operands results false is =
          let w = when_some (among index_casts (head o).name) _ es is in
          let y = given_some (source t (head o).name a) _ es w.1 in
          let q = one_is y.0 _ es y.2 in
          let v = when_some (nat_le (type_width ty) (type_width q.ty)) _ es q.makes in
          gives_after es a ty y.0 q.first operands results (source_is t (head o).name a y.0 y.1) q.operands v.1
