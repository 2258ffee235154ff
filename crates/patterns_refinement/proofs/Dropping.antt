-- Rules that replace an operation's result by one of its operands refine what a module computes.
use Rattle.std.proofs.Common.{◌≡◌, ℕ, refl, ap, sym, ◌∙◌, subst, [], ◌∷◌, map, Bool, true, false, true≢false, ◌&&◌, eqb, eqb-true, Option, Some, None, slice_get}
use Rattle.std.specs.Prelude.{codes, ◌==◌, if◌then◌else◌}
use Rattle.std.specs.List.{list_all}
use Rattle.std.proofs.lemmas.Bool.{and_parts}
use Rattle.std.proofs.lemmas.Option.{none-some, same_Some}
use Rattle.ir_types.specs.declared.bits.BitsKind.{BitsKind}
use Rattle.ir_types.specs.declared.bits.BitsKind.TheVariants as kind
use Rattle.ir_types.specs.declared.node.Sign.TheVariants.{Signed, Signless, Unsigned}
use Rattle.ir_types.specs.Bits.{width_of}
use Rattle.ir_types.specs.Readings.{type_width}
use Rattle.ir_types.specs.Terms.{TypeTerm}
use Rattle.ir_types.specs.Terms as term
use Rattle.ir_types.specs.Words.{is_isolated}
use Rattle.ir_tree.specs.declared.value.Value.{Value}
use Rattle.ir_tree.specs.declared.value.Value.TheVariants.{Result}
use Rattle.ir_tree.specs.Tree.{head}
use Rattle.ir_tree.specs.Uses.{same_value}
use Rattle.ir_tree.specs.WellFormed.{IsWellFormed}
use Rattle.ir_tree.specs.Meaning.{Operation}
use Rattle.ir_tree.proofs.Replaced.{same_value_true}
use Rattle.ir_tree_laws.specs.Values.{has_value, type_of_value}
use Rattle.ir_event.specs.Modules.{Module}
use Rattle.ir_event.specs.Step.{IsSorted}
use Rattle.dialects_int.specs.declared.operations.Arithmetic.{Arithmetic}
use Rattle.dialects_int.specs.declared.operations.Arithmetic.TheVariants as op
use Rattle.dialects_int.specs.declared.operations.Rule.TheVariants as how
use Rattle.dialects_int.specs.Arithmetic.{all_ones, choice_of}
use Rattle.dialects_int.specs.Laws.{ignores_one, ignores_zero, keeps_itself}
use Rattle.dialects_int.specs.Folds.{Known, kind_of, rule_of, same_kind}
use Rattle.rewriter_machine.specs.Contents.{all_edited}
use Rattle.patterns_base.specs.Lists.{Free}
use Rattle.user_patterns_check.specs.Outcomes.{Outcome, given, pair_outcome, select_outcome}
use Rattle.user_patterns_check.specs.Checks.{refines}
use Rattle.user_patterns_check.proofs.Keeping.{value_refined}
use Rattle.patterns_laws.specs.Words.{among, with_one_as_right_identity, with_zero_as_right_identity, idempotent, named}
use Rattle.patterns_laws.proofs.KnownFolds.{given_some}
use Rattle.patterns_base.specs.declared.rule.Rule.{Rule}
use Rattle.patterns_base.specs.declared.rule.Rule.TheVariants.{DropAllOnes, DropOne, DropZero, KeepItself}
use Rattle.patterns_base.specs.Looks.{is_number, known, passes, when}
use Rattle.patterns_base.specs.Folding.{is_all_ones}
use Rattle.patterns_base.specs.Makes.{give}
use Rattle.patterns_base.specs.Rewrites.{becomes, rewrite_of}
use Rattle.patterns_base.specs.Rules.{rule}
use Rattle.patterns_base.proofs.Dispatch.{of_among}
use Rattle.patterns_soundness.specs.Accepted.{AreAccepted}
use Rattle.patterns_soundness.proofs.Shapes.{two_is}
use Rattle.patterns_base.proofs.Facts.{when_some}
use Rattle.patterns_refinement.specs.Meaning.{Assignment, IsOfType, of_three, of_two}
use Rattle.patterns_refinement.specs.Better.{AreKinded, is_arithmetic_there, is_kind, kind_in, takes}
use Rattle.patterns_refinement.specs.Keeping.{Computing, Improves, done_after, is_there}
use Rattle.patterns_refinement.proofs.Firsts.{Firsts, IsPair, both_kept, by_and, chosen_kept, first_kept, keeping_pairs, one_first, one_pairs, ones_first, zero_first, zero_pairs}
use Rattle.patterns_refinement.proofs.Forms.{named_is}
use Rattle.patterns_refinement.proofs.Giving.{given_improves, old_given}
use Rattle.patterns_refinement.proofs.Monotone.{itself}
use Rattle.patterns_refinement.proofs.Verified.{asks_kind}
use Rattle.patterns_refinement.proofs.Ruled.{may_lack, Ruled, Site, gives_refined, known_there, named_arithmetic, of_rule, ruled, site_of, value_bits, root_has}
use Rattle.patterns_refinement.proofs.Sources.{kind_test}
use Rattle.patterns_refinement.proofs.Trees.{value_below}

-- ---- an existing value replaces the result
module _ (r : Rule) (m n : Module) (x : ℕ) (a : Assignment) (done : ℕ → Bool) (wellformed : IsWellFormed is_isolated m) (kinded : AreKinded n.tree) (computing : Computing a done m.tree) (q : Ruled r m n x) where
  -- the conditions under which v may replace the result
  pub record MayGive (v : Value) : Type 0 where
    pub edits : give (head q.here).id v ≡ q.edits
    pub value : has_value v m.tree ≡ true
    pub better : done x ≡ true → refines (a (Result x 0)) (a v) ≡ true
    pub there : done x ≡ true → is_there done v ≡ true

  pub old_improves : asks_kind (rule_of (head q.here).name) ≡ true → (v : Value) → Site m a done x q.here → MayGive v → Improves a done m (done_after m.next x done) n.tree
  old_improves named v s g =
      let these : q.edits ≡ give x v = sym g.edits ∙ ap (λ y. give y v) q.id in
      given_improves m n x a done q.insertion [] v wellformed q.within (ap is_arithmetic_there q.found ∙ named_arithmetic (head q.here) s.has named) computing kinded (old_given a m.next x done v (value_below m.next m.tree s.below v g.value) g.better g.there)
      (subst (λ es. Free es m) these q.free) (subst (λ es. all_edited es m ≡ n) these q.module_is)

-- ---- binary operations
module _ (m : Module) (a : Assignment) (done : ℕ → Bool) (x : ℕ) (o : Operation) (s : Site m a done x o) where
  pub record OfTwo (u v : Value) : Type 0 where
    pub first : has_value u m.tree ≡ true
    pub second : has_value v m.tree ≡ true
    pub first_there : done x ≡ true → is_there done u ≡ true
    pub second_there : done x ≡ true → is_there done v ≡ true

  pub of_two_is : (u v : Value) → (head o).operands ≡ u ∷ v ∷ [] → OfTwo u v
  of_two_is u v e =
      let h = and_parts (has_value u m.tree) (list_all (λ v. has_value v m.tree) (v ∷ [])) (subst (λ vs. list_all (λ v. has_value v m.tree) vs ≡ true) e s.values) in
      let there : done x ≡ true → (is_there done u ≡ true) × (list_all (is_there done) (v ∷ []) ≡ true) = (λ d. and_parts (is_there done u) (list_all (is_there done) (v ∷ [])) (subst (λ vs. list_all (is_there done) vs ≡ true) e (s.fed d))) in
      record {
        first = h.0;
        second = (and_parts (has_value v m.tree) true h.1).0;
        first_there = λ d. (there d).0;
        second_there = λ d. (and_parts (is_there done v) true (there d).1).0;
      }

  -- v refines every value that all possible outcomes of the operation refine
  pub pair_refined : (op : Arithmetic) (u v : Value) (y : Outcome) → rule_of (head o).name ≡ Some (how.Binary op) → (head o).operands ≡ u ∷ v ∷ [] → done x ≡ true → ((z : Outcome) → pair_outcome op (a u) (a v) ≡ Some z → refines z y ≡ true) → refines (a (Result x 0)) y ≡ true
  pair_refined op u v y e ops d f =
      gives_refined m a done x o s (how.Binary op) y e (of_rule m a done x o s (how.Binary op) e) d
      (λ z i. f z (subst (λ vs. of_two (pair_outcome op) (map a vs) ≡ Some z) ops i))

-- ---- selects
module _ (m : Module) (a : Assignment) (done : ℕ → Bool) (x : ℕ) (o : Operation) (s : Site m a done x o) where
  pub record OfThree (c u v : Value) : Type 0 where
    pub first : has_value c m.tree ≡ true
    pub second : has_value u m.tree ≡ true
    pub third : has_value v m.tree ≡ true
    pub first_there : done x ≡ true → is_there done c ≡ true
    pub second_there : done x ≡ true → is_there done u ≡ true
    pub third_there : done x ≡ true → is_there done v ≡ true

  three_parts : (f : Value → Bool) (c u v : Value) → list_all f (c ∷ u ∷ v ∷ []) ≡ true → (f c ≡ true) × (f u ≡ true) × (f v ≡ true)
  three_parts f c u v e =
      let g = and_parts (f c) (list_all f (u ∷ v ∷ [])) e in
      let h = and_parts (f u) (list_all f (v ∷ [])) g.1 in
      (g.0, h.0, (and_parts (f v) true h.1).0)

  pub of_three_is : (c u v : Value) → (head o).operands ≡ c ∷ u ∷ v ∷ [] → OfThree c u v
  of_three_is c u v e =
      let h = three_parts (λ v. has_value v m.tree) c u v (subst (λ vs. list_all (λ v. has_value v m.tree) vs ≡ true) e s.values) in
      let there : done x ≡ true → (is_there done c ≡ true) × (is_there done u ≡ true) × (is_there done v ≡ true) = (λ d. three_parts (is_there done) c u v (subst (λ vs. list_all (is_there done) vs ≡ true) e (s.fed d))) in
      record { first = h.0; second = h.1; third = h.2; first_there = λ d. (there d).0; second_there = λ d. (there d).1; third_there = λ d. (there d).2 }

  pub choice_refined : (c u v : Value) (y : Outcome) → rule_of (head o).name ≡ Some how.Select → (head o).operands ≡ c ∷ u ∷ v ∷ [] → done x ≡ true
      → ((k : Known) → a c ≡ Some k → same_kind k.0 (kind.Int 1) ≡ true → refines (choice_of k.1 (a u) (a v)) y ≡ true) → refines (a (Result x 0)) y ≡ true
  choice_refined c u v y e ops d f =
      gives_refined m a done x o s how.Select y e (of_rule m a done x o s how.Select e) d
      (λ z i. chosen_kept (a c) (a u) (a v) y z f (subst (λ vs. of_three select_outcome (map a vs) ≡ Some z) ops i))

  -- a known outcome has the kind of its value
  pub value_kind : (v : Value) (l : BitsKind) (y : Known) → kind_in m.tree v ≡ Some l → a v ≡ Some y → y.0 ≡ l
  value_kind v l y i e =
      let g = given_some (type_of_value v m.tree) kind_of l i in
      same_Some _ _ (sym (subst (λ o. IsOfType g.0 o) e (s.types v g.0 g.1)).0 ∙ g.2)

  pub kind_by : (v : Value) (k : BitsKind) (y : Known) → is_kind k (kind_in m.tree v) ≡ true → a v ≡ Some y → y.0 ≡ k
  kind_by v k y i e = value_kind v k y (kind_test k (kind_in m.tree v) i) e

pub widths : (ty : TypeTerm) (k : BitsKind) → kind_of ty ≡ Some k → type_width ty ≡ width_of k
widths (term.Integer Signless w) k e = ap width_of (same_Some (kind.Int w) k e)
widths (term.Integer Signed w) k e = absurd (none-some k e)
widths (term.Integer Unsigned w) k e = absurd (none-some k e)
widths term.Index k e = ap width_of (same_Some kind.Index k e)
widths (term.Function is os) k e = absurd (none-some k e)
widths (term.Memref ds ty) k e = absurd (none-some k e)
widths (term.OpaqueType s) k e = absurd (none-some k e)

pub one_of : (P : Value → Type 0) (c : ℕ) (u v : Value) → P u → P v → P (choice_of c u v)
one_of P c u v p q = go (c == 0)
  where
    go : (b : Bool) → P (if b then v else u)
    go true = q
    go false = p

pub chosen_is : (a : Assignment) (c : ℕ) (u v : Value) → refines (choice_of c (a u) (a v)) (a (choice_of c u v)) ≡ true
chosen_is a c u v = go (c == 0)
  where
    go : (b : Bool) → refines (if b then a v else a u) (a (if b then v else u)) ≡ true
    go true = itself (a v)
    go false = itself (a u)

pub chosen_better : (c : ℕ) (p q y : Outcome) → refines p y ≡ true → refines q y ≡ true → refines (choice_of c p q) y ≡ true
chosen_better c p q y e f = go (c == 0)
  where
    go : (b : Bool) → refines (if b then q else p) y ≡ true
    go true = f
    go false = e

-- ---- constants
pub known_is : (m : Module) (a : Assignment) (done : ℕ → Bool) → IsWellFormed is_isolated m → AreKinded m.tree → Computing a done m.tree → (v : Value) (k y : Known) → has_value v m.tree ≡ true → is_there done v ≡ true → known m.tree v ≡ Some k → a v ≡ Some y → k ≡ y
known_is m a done wellformed kinded computing v k y h there e i = same_Some _ _ (value_refined y (Some k) (subst (λ o. refines o (Some k) ≡ true) i (known_there m a done wellformed computing kinded v k h there e)))

pub known_test : (test : Known → Bool) (o : Option Known) → passes test o ≡ true → (k : Known) × (o ≡ Some k) × (test k ≡ true)
known_test test None e = absurd (true≢false (sym e))
known_test test (Some k) e = (k, refl, e)

-- the rule refines what was computed, if all operations have operands of their kinds before and after
abbrev pub Keeps : Rule → Type 0
Keeps r =
    (m n : Module) (x : ℕ) (a : Assignment) (done : ℕ → Bool) → IsWellFormed is_isolated m → IsSorted m → AreKinded m.tree → AreKinded n.tree → Computing a done m.tree
    → rewrite_of r m x ≡ becomes n → Improves a done m (done_after m.next x done) n.tree

module _ (accepted : AreAccepted) where
  -- the second operand is a number
  number_second : (f : Arithmetic → Bool) (b : ℕ) → ((o : Arithmetic) → f o ≡ true → Firsts o (λ k. b)) → (r : Rule) (m n : Module) (x : ℕ) (a : Assignment) (done : ℕ → Bool) → IsWellFormed is_isolated m → AreKinded m.tree → AreKinded n.tree → Computing a done m.tree
      → may_lack r ≡ false → (q : Ruled r m n x) (u v : Value) → IsPair f (head q.here).name → (head q.here).operands ≡ u ∷ v ∷ [] → is_number m.tree b v ≡ true → give (head q.here).id u ≡ q.edits → Improves a done m (done_after m.next x done) n.tree
  number_second f b firsts r m n x a done wellformed kinded after computing stays q u v p ops number edits =
      let s = site_of m a done x q.here wellformed kinded computing q.found (root_has q wellformed kinded stays) in
      let two = of_two_is m a done x q.here s u v ops in
      let k = known_test (λ k. eqb k.1 b) (known m.tree v) number in
      old_improves r m n x a done wellformed after computing q (ap asks_kind p.1) u s (record {
        edits = edits;
        value = two.first;
        better = λ d.
            pair_refined m a done x q.here s p.0 u v (a u) p.1 ops d
            (λ z i. first_kept p.0 (λ k. b) p.3 (firsts p.0 p.2) (a u) (a v) z (value_bits m a done x q.here s u two.first)
            (λ y e.
            let same : k.0 ≡ y = known_is m a done wellformed kinded computing v k.0 y two.second (two.second_there d) k.1 e in
            ap (λ (y : Known). y.1) (sym same) ∙ eqb-true k.0.1 b k.2)
            i);
        there = two.first_there;
      })

  pub drop_zero_keeps : Keeps DropZero
  unfolding rule
  drop_zero_keeps m n x a done wellformed sorted kinded after computing e =
      let q = ruled accepted DropZero m n x wellformed sorted e in
      let w = two_is (head q.here) (λ p. when (among with_zero_as_right_identity p.name && is_number m.tree 0 p.second) (Some (give (head q.here).id p.first))) q.edits q.made in
      let g = when_some (among with_zero_as_right_identity (head q.here).name && is_number m.tree 0 w.second) (Some (give (head q.here).id w.first)) q.edits w.makes in
      let h = and_parts (among with_zero_as_right_identity (head q.here).name) (is_number m.tree 0 w.second) g.0 in
      number_second ignores_zero 0 zero_first DropZero m n x a done wellformed kinded after computing refl q w.first w.second (of_among (IsPair ignores_zero) with_zero_as_right_identity (head q.here).name zero_pairs h.0) w.operands h.1 (same_Some _ _ g.1)

  pub drop_one_keeps : Keeps DropOne
  unfolding rule
  drop_one_keeps m n x a done wellformed sorted kinded after computing e =
      let q = ruled accepted DropOne m n x wellformed sorted e in
      let w = two_is (head q.here) (λ p. when (among with_one_as_right_identity p.name && is_number m.tree 1 p.second) (Some (give (head q.here).id p.first))) q.edits q.made in
      let g = when_some (among with_one_as_right_identity (head q.here).name && is_number m.tree 1 w.second) (Some (give (head q.here).id w.first)) q.edits w.makes in
      let h = and_parts (among with_one_as_right_identity (head q.here).name) (is_number m.tree 1 w.second) g.0 in
      number_second ignores_one 1 one_first DropOne m n x a done wellformed kinded after computing refl q w.first w.second (of_among (IsPair ignores_one) with_one_as_right_identity (head q.here).name one_pairs h.0) w.operands h.1 (same_Some _ _ g.1)

  pub keep_itself_keeps : Keeps KeepItself
  unfolding rule
  keep_itself_keeps m n x a done wellformed sorted kinded after computing e =
      let q = ruled accepted KeepItself m n x wellformed sorted e in
      let w = two_is (head q.here) (λ p. when (among idempotent p.name && same_value p.first p.second) (Some (give (head q.here).id p.first))) q.edits q.made in
      let g = when_some (among idempotent (head q.here).name && same_value w.first w.second) (Some (give (head q.here).id w.first)) q.edits w.makes in
      let h = and_parts (among idempotent (head q.here).name) (same_value w.first w.second) g.0 in
      let p = of_among (IsPair keeps_itself) idempotent (head q.here).name keeping_pairs h.0 in
      let same = same_value_true w.first w.second h.1 in
      let s = site_of m a done x q.here wellformed kinded computing q.found (root_has q wellformed kinded refl) in
      let two = of_two_is m a done x q.here s w.first w.second w.operands in
      old_improves KeepItself m n x a done wellformed after computing q (q.numeric refl) w.first s (record {
        edits = same_Some _ _ g.1;
        value = two.first;
        better = λ d.
            pair_refined m a done x q.here s p.0 w.first w.second (a w.first) p.1 w.operands d
            (λ z i. both_kept p.0 p.3 p.2 (a w.first) z (ap (λ v. pair_outcome p.0 (a w.first) (a v)) same ∙ i));
        there = two.first_there;
      })

  pub drop_all_ones_keeps : Keeps DropAllOnes
  unfolding rule
  drop_all_ones_keeps m n x a done wellformed sorted kinded after computing e =
      let q = ruled accepted DropAllOnes m n x wellformed sorted e in
      let w = two_is (head q.here) (λ p. when (named (codes "arith.andi") p.name && passes (is_all_ones p.ty) (known m.tree p.second)) (Some (give (head q.here).id p.first))) q.edits q.made in
      let g = when_some (named (codes "arith.andi") (head q.here).name && passes (is_all_ones w.ty) (known m.tree w.second)) (Some (give (head q.here).id w.first)) q.edits w.makes in
      let h = and_parts (named (codes "arith.andi") (head q.here).name) (passes (is_all_ones w.ty) (known m.tree w.second)) g.0 in
      let k = known_test (is_all_ones w.ty) (known m.tree w.second) h.1 in
      let name = ap rule_of (named_is (codes "arith.andi") (head q.here).name h.0) ∙ by_and in
      let s = site_of m a done x q.here wellformed kinded computing q.found (root_has q wellformed kinded refl) in
      let two = of_two_is m a done x q.here s w.first w.second w.operands in
      let of = of_rule m a done x q.here s (how.Binary op.And) name in
      let value_types = and_parts (is_kind of.kind (kind_in m.tree w.first)) (is_kind of.kind (kind_in m.tree w.second)) (subst (λ vs. takes (how.Binary op.And) (head q.here) of.kind (map (kind_in m.tree) vs) ≡ true) w.operands of.operands) in
      let width : type_width w.ty ≡ width_of of.kind = widths w.ty of.kind (sym (ap (λ tys. given (slice_get tys 0) kind_of) w.results) ∙ of.is) in
      old_improves DropAllOnes m n x a done wellformed after computing q (q.numeric refl) w.first s (record {
        edits = same_Some _ _ g.1;
        value = two.first;
        better = λ d.
            pair_refined m a done x q.here s op.And w.first w.second (a w.first) name w.operands d
            (λ z i. first_kept op.And (λ k. all_ones (width_of k)) refl ones_first (a w.first) (a w.second) z (value_bits m a done x q.here s w.first two.first)
            (λ y e.
            let same = known_is m a done wellformed kinded computing w.second k.0 y two.second (two.second_there d) k.1 e in
            ap (λ (y : Known). y.1) (sym same) ∙ eqb-true k.0.1 (all_ones (type_width w.ty)) k.2
            ∙ ap all_ones (width ∙ ap width_of (sym (kind_by m a done x q.here s w.second of.kind y value_types.1 e))))
            i);
        there = two.first_there;
      })
