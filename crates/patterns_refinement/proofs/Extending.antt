-- The rule on extensions of extensions keeps modules ready and refines what they compute.
use Rattle.std.proofs.Common.{◌≡◌, ℕ, ◌<◌, ◌≤◌, ◌^◌, refl, ap, sym, ◌∙◌, subst, List, [], ◌∷◌, Bool, true, false, true≢false, ◌&&◌, ◌||◌, Some, None, inl, inr, slice_get, arith}
use Rattle.std.specs.Prelude.{codes, is_some}
use Rattle.std.specs.List.{list_all}
use Rattle.std.proofs.lemmas.Bool.{and_parts, or_cases}
use Rattle.std.proofs.lemmas.Option.{same_Some}
use Rattle.ir_types.specs.declared.bits.BitsKind.{BitsKind}
use Rattle.ir_types.specs.declared.bits.BitsKind.TheVariants as bits
use Rattle.ir_types.specs.Bits.{width_of}
use Rattle.ir_types.specs.Reasons.{is_width}
use Rattle.ir_types.specs.Terms.{TypeTerm}
use Rattle.ir_types.specs.Words.{is_isolated}
use Rattle.ir_tree.specs.declared.value.Value.{Value}
use Rattle.ir_tree.specs.declared.value.Value.TheVariants.{Result}
use Rattle.ir_tree.specs.Tree.{head}
use Rattle.ir_tree.specs.Ids.{find}
use Rattle.ir_tree_laws.specs.Values.{has_value}
use Rattle.ir_event.specs.Modules.{Module}
use Rattle.dialects_int.specs.declared.operations.Cast.{Cast}
use Rattle.dialects_int.specs.declared.operations.Cast.TheVariants as casts
use Rattle.dialects_int.specs.declared.operations.Rule.TheVariants as how
use Rattle.dialects_int.specs.Arithmetic.{cast_of, sign_extended, zero_extended}
use Rattle.dialects_int.specs.Folds.{Known, kind_of, rule_of, rules}
use Rattle.dialects_int.proofs.CastLaws.{extended_twice, sign_of_zeros, zeros_twice}
use Rattle.user_patterns_check.specs.Checks.{refines}
use Rattle.user_patterns_check.specs.Outcomes.{Outcome, given, resize_outcome}
use Rattle.patterns_laws.specs.Keeps.{Each as EachOf}
use Rattle.patterns_laws.specs.Made.{cast}
use Rattle.patterns_laws.specs.Words.{among, extensions, named}
use Rattle.patterns_laws.proofs.KnownFolds.{below, given_some, some_bits}
use Rattle.patterns_base.specs.declared.rule.Rule.TheVariants.{ExtendExtension}
use Rattle.patterns_base.specs.Looks.{defining_op, is_verified, one, source_among, when}
use Rattle.patterns_base.specs.Makes.{give_new}
use Rattle.patterns_base.specs.Rules.{rule}
use Rattle.patterns_base.proofs.Dispatch.{of_among}
use Rattle.patterns_base.proofs.Facts.{when_some}
use Rattle.patterns_soundness.specs.Accepted.{AreAccepted}
use Rattle.patterns_soundness.proofs.Shapes.{one_is}
use Rattle.user_patterns_data.specs.Matching.{Header}
use Rattle.patterns_refinement.specs.Meaning.{Assignment, owner, result_kind}
use Rattle.patterns_refinement.specs.Better.{is_kinded, kind_in, narrows}
use Rattle.patterns_refinement.specs.Keeping.{Computing, IsReady, KeepsComputing, KeepsReady, is_there}
use Rattle.patterns_refinement.proofs.Casts.{cast_gives, cast_is, cast_made, cast_outcome, cast_refined, cast_result, extends, source_makes, source_there, twice_refined}
use Rattle.patterns_refinement.proofs.Dropping.{value_kind}
use Rattle.patterns_refinement.proofs.Extensions.{Extends, verified_extends}
use Rattle.patterns_refinement.proofs.Wellformed.{is_below, operands_stand}
use Rattle.patterns_refinement.proofs.Forms.{named_is}
use Rattle.patterns_refinement.proofs.Giving.{after_new}
use Rattle.patterns_refinement.proofs.Makings.{GivesNew, GivesOutcomes, all_agree, all_at, new_improves, new_ready, with_all}
use Rattle.patterns_refinement.proofs.Ruled.{Ruled, Site, rule_kinds, ruled, site_of, value_bits, root_has}
use Rattle.patterns_refinement.proofs.Sources.{Sole, operand_there, sole_of}
use Rattle.patterns_refinement.proofs.Trees.{each_found, value_below}

-- ---- extensions of a number
abbrev IsExtending : List ℕ → Type 0
IsExtending name = (c : Cast) × (rule_of name ≡ Some (how.IntegerCast c)) × (extends c ≡ true)

all_extending : EachOf IsExtending extensions
unfolding rule_of rules extensions
all_extending = ((casts.ExtendSigned, refl, refl), ((casts.ExtendUnsigned, refl, refl), tt))

by_extsi : rule_of (codes "arith.extsi") ≡ Some (how.IntegerCast casts.ExtendSigned)
unfolding rule_of rules
by_extsi = refl

-- an extension of an extension of the same kind, or of a zero extension, is a single extension
abbrev joins : Cast → Cast → Bool
joins casts.ExtendSigned casts.ExtendSigned = true
joins casts.ExtendUnsigned casts.ExtendSigned = true
joins casts.ExtendUnsigned casts.ExtendUnsigned = true
joins _ _ = false

itself_joins : (c : Cast) → extends c ≡ true → joins c c ≡ true
itself_joins casts.ExtendSigned e = refl
itself_joins casts.ExtendUnsigned e = refl
itself_joins casts.Truncate e = e

signed_joins : (c : Cast) → extends c ≡ true → joins c casts.ExtendSigned ≡ true
signed_joins casts.ExtendSigned e = refl
signed_joins casts.ExtendUnsigned e = refl
signed_joins casts.Truncate e = e

same_cast : (c d : Cast) → how.IntegerCast c ≡ how.IntegerCast d → c ≡ d
same_cast c d e = cc

joined : (c d : Cast) (u v w a b i : ℕ) → joins c d ≡ true → 1 ≤ u → u < v → a < 2 ^ u → cast_of c u v a ≡ Some b → cast_of d v w b ≡ Some i → cast_of c u w a ≡ Some i
joined casts.ExtendSigned casts.ExtendSigned u v w a b i j s l h e f =
    sym (ap (λ n. Some n) (extended_twice u v w a s (omega (arith, l)) h)) ∙ ap (λ b. Some (sign_extended v w b)) (same_Some (sign_extended u v a) b e) ∙ f
joined casts.ExtendUnsigned casts.ExtendSigned u v w a b i j s l h e f =
    sym (ap (λ n. Some n) (sign_of_zeros u v w a l h)) ∙ ap (λ b. Some (sign_extended v w b)) (same_Some (zero_extended v a) b e) ∙ f
joined casts.ExtendUnsigned casts.ExtendUnsigned u v w a b i j s l h e f =
    sym (ap (λ n. Some n) (zeros_twice u v w a (omega (arith, l)) h)) ∙ ap (λ b. Some (zero_extended w b)) (same_Some (zero_extended v a) b e) ∙ f
joined casts.ExtendSigned casts.ExtendUnsigned u v w a b i j s l h e f = absurd (true≢false (sym j))
joined casts.ExtendSigned casts.Truncate u v w a b i j s l h e f = absurd (true≢false (sym j))
joined casts.ExtendUnsigned casts.Truncate u v w a b i j s l h e f = absurd (true≢false (sym j))
joined casts.Truncate casts.ExtendSigned u v w a b i j s l h e f = absurd (true≢false (sym j))
joined casts.Truncate casts.ExtendUnsigned u v w a b i j s l h e f = absurd (true≢false (sym j))
joined casts.Truncate casts.Truncate u v w a b i j s l h e f = absurd (true≢false (sym j))

-- an extension takes a number of any kind, and always has an outcome
extends_any : (c : Cast) (j k : BitsKind) → extends c ≡ true → narrows c (Some j) k ≡ true
extends_any casts.ExtendSigned j k e = refl
extends_any casts.ExtendUnsigned j k e = refl
extends_any casts.Truncate j k e = absurd (true≢false (sym e))

extended : (c : Cast) (v w a : ℕ) → extends c ≡ true → (b : ℕ) × (cast_of c v w a ≡ Some b)
extended casts.ExtendSigned v w a e = (sign_extended v w a, refl)
extended casts.ExtendUnsigned v w a e = (zero_extended w a, refl)
extended casts.Truncate v w a e = absurd (true≢false (sym e))

module _ (accepted : AreAccepted) where
  -- the operations that the rule matched
  record Twice (m n : Module) (x : ℕ) (q : Ruled ExtendExtension m n x) : Type 0 where
    pub middle : Value
    pub ty : TypeTerm
    pub operands : (head q.here).operands ≡ middle ∷ []
    pub results : (head q.here).results ≡ ty ∷ []
    pub outer : IsExtending (head q.here).name
    pub inner : Header
    pub first : Value
    pub inner_ty : TypeTerm
    pub inner_operands : inner.operands ≡ first ∷ []
    pub inner_results : inner.results ≡ inner_ty ∷ []
    pub gives : given (defining_op m.tree middle) (λ h. when (among extensions h.name && is_verified m.tree h) (Some h)) ≡ Some inner
    pub alike : (named (head q.here).name inner.name || named (codes "arith.extsi") (head q.here).name) ≡ true
    pub edits : give_new q.insertion m.next (head q.here).id (cast inner.name ty first) ≡ q.edits

  twice_here : (m n : Module) (x : ℕ) (q : Ruled ExtendExtension m n x) → Twice m n x q
  unfolding rule
  twice_here m n x q =
      let h = head q.here in
      let w = one_is h (λ p. when (among extensions p.name) (given (source_among m.tree extensions p.first) (λ y. given (one y) (λ i. when (named p.name i.name || named (codes "arith.extsi") p.name) (Some (give_new q.insertion m.next h.id (cast i.name p.ty i.first))))))) q.edits q.made in
      let g = when_some (among extensions h.name) (given (source_among m.tree extensions w.first) (λ y. given (one y) (λ i. when (named h.name i.name || named (codes "arith.extsi") h.name) (Some (give_new q.insertion m.next h.id (cast i.name w.ty i.first)))))) q.edits w.makes in
      let s = given_some (source_among m.tree extensions w.first) (λ y. given (one y) (λ i. when (named h.name i.name || named (codes "arith.extsi") h.name) (Some (give_new q.insertion m.next h.id (cast i.name w.ty i.first))))) q.edits g.1 in
      let i = one_is s.0 (λ i. when (named h.name i.name || named (codes "arith.extsi") h.name) (Some (give_new q.insertion m.next h.id (cast i.name w.ty i.first)))) q.edits s.2 in
      let e = when_some (named h.name s.0.name || named (codes "arith.extsi") h.name) (Some (give_new q.insertion m.next h.id (cast s.0.name w.ty i.first))) q.edits i.makes in
      record {
        middle = w.first;
        ty = w.ty;
        operands = w.operands;
        results = w.results;
        outer = of_among IsExtending extensions h.name all_extending g.0;
        inner = s.0;
        first = i.first;
        inner_ty = i.ty;
        inner_operands = i.operands;
        inner_results = i.results;
        gives = s.1;
        alike = e.0;
        edits = same_Some _ _ e.1;
      }

  -- the kinds of their values
  record TwiceKinds (m n : Module) (x : ℕ) (q : Ruled ExtendExtension m n x) (w : Twice m n x q) : Type 0 where
    pub sole : Sole m (λ h. among extensions h.name && is_verified m.tree h) w.middle w.inner
    pub kind : BitsKind
    pub of : kind_of w.ty ≡ Some kind
    pub is : result_kind (head q.here) ≡ Some kind
    pub width : is_width (width_of kind) ≡ true
    pub inside : IsExtending w.inner.name
    pub joins_it : joins inside.0 w.outer.0 ≡ true
    pub extension : Extends m.tree w.first w.inner_ty
    pub intermediate : kind_in m.tree w.middle ≡ Some (bits.Int extension.to)
    pub value : has_value w.first m.tree ≡ true

  twice_kinds : (m n : Module) (x : ℕ) (q : Ruled ExtendExtension m n x) (w : Twice m n x q) → IsReady m → TwiceKinds m n x q w
  twice_kinds m n x q w ready =
      let k = rule_kinds m.tree (head q.here) (each_found (λ h. is_kinded m.tree h ≡ true) x m.tree ready.kinded q.here q.found).0 (root_has q ready.wellformed ready.kinded refl) (how.IntegerCast w.outer.0) w.outer.1 in
      let stand = operands_stand is_isolated m.tree ready.wellformed.distinct ready.wellformed.wellformed.visible in
      let there = (each_found (λ h. list_all (λ v. has_value v m.tree) h.operands ≡ true) x m.tree stand q.here q.found).0 in
      let middle : has_value w.middle m.tree ≡ true = (and_parts (has_value w.middle m.tree) true (subst (λ vs. list_all (λ v. has_value v m.tree) vs ≡ true) w.operands there)).0 in
      let s = sole_of m (λ h. among extensions h.name && is_verified m.tree h) w.middle w.inner w.gives middle w.inner_ty w.inner_results in
      let inside = each_found (λ h. list_all (λ v. has_value v m.tree) h.operands ≡ true) s.id m.tree stand s.here s.found in
      let passed = and_parts (among extensions w.inner.name) (is_verified m.tree w.inner) s.passed in
      let c = of_among IsExtending extensions w.inner.name all_extending passed.0 in
      let operands = ap (λ (h : Header). h.operands) s.heads ∙ w.inner_operands in
      let results = ap (λ (h : Header). h.results) s.heads ∙ w.inner_results in
      let extension =
      verified_extends m.tree s.here w.first w.inner_ty ready.wellformed.distinct (ap (λ y. find y m.tree) inside.1 ∙ s.found) (ap (is_verified m.tree) s.heads ∙ passed.1) operands results
      (ap (λ (h : Header). among extensions h.name) s.heads ∙ passed.0) in
      record {
        sole = s;
        kind = k.kind;
        of = sym (ap (λ tys. given (slice_get tys 0) kind_of) w.results) ∙ k.is;
        is = k.is;
        width = k.width;
        inside = c;
        joins_it = elim (or_cases (named (head q.here).name w.inner.name) (named (codes "arith.extsi") (head q.here).name) w.alike) [
          | inl i ↦
              let same : how.IntegerCast c.0 ≡ how.IntegerCast w.outer.0 = same_Some _ _ (sym c.1 ∙ ap rule_of (named_is (head q.here).name w.inner.name i) ∙ w.outer.1) in
              ap (joins c.0) (sym (same_cast c.0 w.outer.0 same)) ∙ itself_joins c.0 c.2
          | inr i ↦
              let same : how.IntegerCast w.outer.0 ≡ how.IntegerCast casts.ExtendSigned = same_Some _ _ (sym w.outer.1 ∙ ap rule_of (named_is (codes "arith.extsi") (head q.here).name i) ∙ by_extsi) in
              ap (joins c.0) (same_cast w.outer.0 casts.ExtendSigned same) ∙ signed_joins c.0 c.2
        ];
        extension = extension;
        intermediate = s.kind ∙ ap (λ tys. given (slice_get tys 0) kind_of) results ∙ extension.result;
        value = (and_parts (has_value w.first m.tree) true (subst (λ vs. list_all (λ v. has_value v m.tree) vs ≡ true) operands inside.0)).0;
      }

  module _ (m n : Module) (x : ℕ) (q : Ruled ExtendExtension m n x) (w : Twice m n x q) (ready : IsReady m) (k : TwiceKinds m n x q w) where
    abbrev test : Header → Bool
    test h = among extensions h.name && is_verified m.tree h

    first_below : owner w.first < m.next
    first_below = value_below m.next m.tree (is_below m.next m.tree ready.wellformed.below) w.first k.value

    takes_first : narrows k.inside.0 (kind_in m.tree w.first) k.kind ≡ true
    takes_first = ap (λ j. narrows k.inside.0 j k.kind) k.extension.operand ∙ extends_any k.inside.0 (bits.Int k.extension.from) k.kind k.inside.2

    extension_new : GivesNew ExtendExtension m n x q
    extension_new = record {
      made = cast w.inner.name w.ty w.first ∷ [];
      value_types = k.kind ∷ [];
      value = Result m.next 0;
      edits = sym w.edits ∙ ap (λ y. give_new q.insertion m.next y (cast w.inner.name w.ty w.first)) q.id;
      are = (
        cast_made (with_all (kind_in m.tree) m.next None (Some k.kind ∷ [])) w.inner.name w.ty w.first k.kind k.inside.0 k.inside.1 k.of k.width
            (ap (λ j. narrows k.inside.0 j k.kind) (all_agree (kind_in m.tree) m.next None (Some k.kind ∷ []) w.first first_below) ∙ takes_first),
        tt,
      );
    }

    module _ (a : Assignment) (done : ℕ → Bool) (computing : Computing a done m.tree) where
      abbrev out : Outcome
      out = cast_outcome k.inside.0 k.kind (a w.first)

      site : Site m a done x q.here
      site = site_of m a done x q.here ready.wellformed ready.kinded computing q.found (root_has q ready.wellformed ready.kinded refl)

      middle_there : done x ≡ true → is_there done w.middle ≡ true
      middle_there d = operand_there m a done x q.here site (is_there done) w.middle w.operands (site.fed d)

      total : resize_outcome k.inside.0 k.kind (a w.first) ≡ Some (cast_outcome k.inside.0 k.kind (a w.first))
      total = cast_is k.inside.0 k.kind (a w.first) k.width (λ y i. extended k.inside.0 (width_of y.0) (width_of k.kind) y.1 k.inside.2)

      both_cast : (y : Known) (b i : ℕ) → a w.first ≡ Some y → cast_of k.inside.0 (width_of y.0) k.extension.to y.1 ≡ Some b → cast_of w.outer.0 k.extension.to (width_of k.kind) b ≡ Some i
          → cast_of k.inside.0 (width_of y.0) (width_of k.kind) y.1 ≡ Some i
      both_cast y b i is c d =
          let fits = value_bits m a done x q.here site w.first k.value y is in
          let from : width_of y.0 ≡ k.extension.from = ap width_of (value_kind m a done x q.here site w.first (bits.Int k.extension.from) y k.extension.operand is) in
          joined k.inside.0 w.outer.0 (width_of y.0) k.extension.to (width_of k.kind) y.1 b i k.joins_it (some_bits y.0 y.1 fits) (omega (arith, from, k.extension.more)) (below y.0 y.1 fits) c d

      extension_outcomes : GivesOutcomes ExtendExtension m n x q extension_new a done
      unfolding extension_new
      extension_outcomes = record {
        outcomes = cast_outcome k.inside.0 k.kind (a w.first) ∷ [];
        give = (
          cast_gives a done m.next x (cast_outcome k.inside.0 k.kind (a w.first) ∷ []) w.inner.name w.ty w.first k.kind k.inside.0 k.inside.1 k.of first_below
              (λ d. source_there m (λ h. among extensions h.name && is_verified m.tree h) w.middle w.inner k.sole w.first w.inner_operands k.inside.0 k.inside.1 a done ready.wellformed ready.kinded computing (λ i. ap is_some (sym k.sole.kind ∙ k.intermediate)) (middle_there d)) total,
          tt,
        );
        better = λ d.
            subst (λ o. refines (a (Result x 0)) o ≡ true) (sym ((all_at a m.next None (cast_outcome k.inside.0 k.kind (a w.first) ∷ [])).0 0))
            (cast_result m a done x q.here site w.outer.0 w.middle k.kind out w.outer.1 k.is w.operands d
            (λ z i.
            twice_refined k.inside.0 w.outer.0 (bits.Int k.extension.to) k.kind (a w.first) (a w.middle) z out i
            (source_makes m (λ h. among extensions h.name && is_verified m.tree h) w.middle w.inner k.sole w.first w.inner_operands k.inside.0 k.inside.1 a done ready.wellformed ready.kinded computing (λ i. ap is_some (sym k.sole.kind ∙ k.intermediate)) (middle_there d) (bits.Int k.extension.to) k.intermediate)
            (λ y b j is c f. cast_refined k.inside.0 k.kind (a w.first) y j is (both_cast y b j is c f))));
        there = λ d. after_new m.next x done m.next (omega arith) ∙ d;
      }

  pub extend_extension_ready : KeepsReady ExtendExtension
  extend_extension_ready m n x ready e =
      let q = ruled accepted ExtendExtension m n x ready.wellformed ready.sorted e in
      let w = twice_here m n x q in
      new_ready ExtendExtension m n x q (extension_new m n x q w ready (twice_kinds m n x q w ready)) ready

  pub extend_extension_computing : KeepsComputing ExtendExtension
  extend_extension_computing m n x a done ready computing e =
      let q = ruled accepted ExtendExtension m n x ready.wellformed ready.sorted e in
      let w = twice_here m n x q in
      let k = twice_kinds m n x q w ready in
      new_improves ExtendExtension m n x q (extension_new m n x q w ready k) a done (extension_outcomes m n x q w ready k a done computing) ready refl (extend_extension_ready m n x ready e).kinded computing
