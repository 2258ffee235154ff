-- The rules that give 0, and the rule that gives a condition, keep modules ready and refine what they compute.
use Rattle.std.proofs.Common.{◌≡◌, ℕ, ◌<◌, ◌≤◌, ◌^◌, refl, ap, sym, ◌∙◌, subst, List, [], ◌∷◌, map, Bool, true, false, ◌&&◌, not, eqb, eqb-true, Option, Some, None, slice_get}
use Rattle.std.specs.Prelude.{◌==◌, if◌then◌else◌}
use Rattle.std.proofs.lemmas.Bool.{and_parts}
use Rattle.std.proofs.lemmas.Nat.{pow_pos}
use Rattle.std.proofs.lemmas.Option.{none-some, same_Some}
use Rattle.ir_types.specs.declared.bits.BitsKind.{BitsKind}
use Rattle.ir_types.specs.Bits.{width_of}
use Rattle.ir_types.specs.Terms.{TypeTerm}
use Rattle.ir_tree.specs.declared.value.Value.{Value}
use Rattle.ir_tree.specs.Tree.{head}
use Rattle.ir_tree.specs.Uses.{same_value}
use Rattle.ir_tree.proofs.Replaced.{same_value_true}
use Rattle.ir_event.specs.Modules.{Module}
use Rattle.dialects_int.specs.declared.operations.Arithmetic.{Arithmetic}
use Rattle.dialects_int.specs.declared.operations.Arithmetic.TheVariants as op
use Rattle.dialects_int.specs.declared.operations.Rule.TheVariants as how
use Rattle.dialects_int.specs.Arithmetic.{value_of}
use Rattle.dialects_int.specs.Folds.{Known, kind_of, rule_of, rules, same_kind}
use Rattle.dialects_int.proofs.PairLaws.{itself_cleared, itself_gone, nothing_left, nothing_left_unsigned}
use Rattle.user_patterns_check.specs.Outcomes.{Outcome, divides, given, is_signed_remainder, is_some_number, checked, no_value, pair_outcome}
use Rattle.user_patterns_check.specs.Checks.{refines}
use Rattle.patterns_laws.specs.Keeps.{Each}
use Rattle.patterns_laws.specs.Words.{among, self_inverse, remainders}
use Rattle.patterns_laws.proofs.KnownFolds.{below, some_bits}
use Rattle.patterns_base.specs.declared.rule.Rule.{Rule}
use Rattle.patterns_base.specs.declared.rule.Rule.TheVariants.{CancelItself, ZeroRemainder}
use Rattle.patterns_base.specs.Looks.{is_number, known, when}
use Rattle.patterns_base.specs.Makes.{give_constant}
use Rattle.patterns_base.specs.Rules.{rule}
use Rattle.patterns_base.proofs.Dispatch.{of_among}
use Rattle.patterns_base.proofs.Facts.{when_some}
use Rattle.patterns_soundness.specs.Accepted.{AreAccepted}
use Rattle.patterns_soundness.proofs.Shapes.{two_is}
use Rattle.patterns_refinement.specs.Better.{is_kind, is_kinded, kind_in, takes}
use Rattle.patterns_refinement.specs.Keeping.{IsReady, KeepsComputing, KeepsReady}
use Rattle.patterns_refinement.proofs.Constants.{GivesNumber, number_improves, number_ready}
use Rattle.patterns_refinement.proofs.Dropping.{kind_by, known_is, known_test, of_two_is, pair_refined}
use Rattle.patterns_refinement.proofs.Firsts.{poison_refined}
use Rattle.patterns_refinement.proofs.Monotone.{none_made, same_refined}
use Rattle.patterns_refinement.proofs.OfBits.{are_bits}
use Rattle.patterns_refinement.proofs.Ruled.{may_lack, Ruled, of_rule, rule_kinds, ruled, site_of, value_bits, root_has}
use Rattle.patterns_refinement.proofs.Trees.{each_found}

-- ---- operations that give 0
abbrev IsKnownOf : BitsKind → Outcome → Type 0
IsKnownOf k p = (y : Known) → p ≡ Some y → y.0 ≡ k

-- the operation gives 0, or is a signed remainder by a number that isn't 0
checked_zero : (o : Arithmetic) (k : BitsKind) (x : Known) (b : ℕ) (z : Outcome) → x.0 ≡ k → (r : Option ℕ) → ((n : ℕ) → r ≡ Some n → n ≡ 0) → checked o x.0 b r ≡ Some z → refines z (Some (k, 0)) ≡ true
checked_zero o k x b z h (Some n) f m = same_refined z (Some (k, 0)) (sym (same_Some _ _ m) ∙ (λ i. Some (h i, f n refl i)))
checked_zero o k x b z h None f m = go (is_signed_remainder o && not (b == 0)) m
  where
    go : (c : Bool) → (if c then Some (Some (x.0, 0)) else no_value o) ≡ Some z → refines z (Some (k, 0)) ≡ true
    go true m = same_refined z (Some (k, 0)) (sym (same_Some _ _ m) ∙ (λ i. Some (h i, 0)))
    go false m = poison_refined z (Some (k, 0)) (none_made (divides o) z m).1

zero_given : (o : Arithmetic) (k : BitsKind) (p q z : Outcome) → IsKnownOf k p → ((x y : Known) (n : ℕ) → p ≡ Some x → q ≡ Some y → value_of o (width_of x.0) x.1 y.1 ≡ Some n → n ≡ 0) → pair_outcome o p q ≡ Some z → refines z (Some (k, 0)) ≡ true
zero_given o k None q z h f m = poison_refined z (Some (k, 0)) (none_made (divides o && not (is_some_number q)) z m).1
zero_given o k (Some x) None z h f m = poison_refined z (Some (k, 0)) (none_made (divides o) z m).1
zero_given o k (Some x) (Some y) z h f m = go (same_kind x.0 y.0) m
  where
    go : (c : Bool) → (if c then checked o x.0 y.1 (value_of o (width_of x.0) x.1 y.1) else None) ≡ Some z → refines z (Some (k, 0)) ≡ true
    go false m = absurd (none-some z m)
    go true m = checked_zero o k x y.1 z (h x refl) (value_of o (width_of x.0) x.1 y.1) (λ n e. f x y n refl refl e) m

-- the operations with this property: of a value and itself, and by 1
abbrev IsCancelling : List ℕ → Type 0
IsCancelling name = (o : Arithmetic) × (rule_of name ≡ Some (how.Binary o)) × ((w a n : ℕ) → value_of o w a a ≡ Some n → n ≡ 0)

abbrev IsLeaving : List ℕ → Type 0
IsLeaving name = (o : Arithmetic) × (rule_of name ≡ Some (how.Binary o)) × ((w a n : ℕ) → 1 ≤ w → a < 2 ^ w → value_of o w a 1 ≡ Some n → n ≡ 0)

cancelling_pairs : Each IsCancelling self_inverse
unfolding rule_of rules self_inverse
cancelling_pairs = ((op.Subtract, refl, (λ w a n e. same_Some n 0 (sym e ∙ itself_gone w a))), ((op.ExclusiveOr, refl, (λ w a n e. same_Some n 0 (sym e ∙ itself_cleared w a))), tt))

remainder_pairs : Each IsLeaving remainders
unfolding rule_of rules remainders
remainder_pairs = ((op.RemainderSigned, refl, (λ w a n h l e. nothing_left w a n h l e)), ((op.RemainderUnsigned, refl, (λ w a n h l e. same_Some n 0 (sym e ∙ nothing_left_unsigned w a))), tt))

-- ---- their outcomes
module _ (accepted : AreAccepted) where
  zero_number : (r : Rule) (m n : Module) (x : ℕ) (q : Ruled r m n x) (o : Arithmetic) (ty : TypeTerm) → may_lack r ≡ false → IsReady m → rule_of (head q.here).name ≡ Some (how.Binary o) → (head q.here).results ≡ ty ∷ []
      → give_constant q.insertion m.next (head q.here).id ty 0 ≡ q.edits → GivesNumber r m n x q
  zero_number r m n x q o ty stays ready name results edits =
      let k = rule_kinds m.tree (head q.here) (each_found (λ h. is_kinded m.tree h ≡ true) x m.tree ready.kinded q.here q.found).0 (root_has q ready.wellformed ready.kinded stays) (how.Binary o) name in
      record { ty = ty; bits = 0; kind = k.kind; of = sym (ap (λ tys. given (slice_get tys 0) kind_of) results) ∙ k.is; fits = are_bits k.kind 0 k.width (pow_pos (width_of k.kind)); width = k.width; edits = edits }

  -- an operation on a value and itself
  record Cancels (m n : Module) (x : ℕ) (q : Ruled CancelItself m n x) : Type 0 where
    pub first : Value
    pub second : Value
    pub same : first ≡ second
    pub ty : TypeTerm
    pub operands : (head q.here).operands ≡ first ∷ second ∷ []
    pub results : (head q.here).results ≡ ty ∷ []
    pub pair : IsCancelling (head q.here).name
    pub edits : give_constant q.insertion m.next (head q.here).id ty 0 ≡ q.edits

  cancels : (m n : Module) (x : ℕ) (q : Ruled CancelItself m n x) → Cancels m n x q
  unfolding rule
  cancels m n x q =
      let w = two_is (head q.here) (λ p. when (among self_inverse p.name && same_value p.first p.second) (Some (give_constant q.insertion m.next (head q.here).id p.ty 0))) q.edits q.made in
      let g = when_some (among self_inverse (head q.here).name && same_value w.first w.second) (Some (give_constant q.insertion m.next (head q.here).id w.ty 0)) q.edits w.makes in
      let h = and_parts (among self_inverse (head q.here).name) (same_value w.first w.second) g.0 in
      record {
        first = w.first;
        second = w.second;
        same = same_value_true w.first w.second h.1;
        ty = w.ty;
        operands = w.operands;
        results = w.results;
        pair = of_among IsCancelling self_inverse (head q.here).name cancelling_pairs h.0;
        edits = same_Some _ _ g.1;
      }

  pub cancel_itself_ready : KeepsReady CancelItself
  cancel_itself_ready m n x ready e =
      let q = ruled accepted CancelItself m n x ready.wellformed ready.sorted e in
      let c = cancels m n x q in
      number_ready CancelItself m n x q (zero_number CancelItself m n x q c.pair.0 c.ty refl ready c.pair.1 c.results c.edits) ready

  pub cancel_itself_computing : KeepsComputing CancelItself
  unfolding cancels zero_number
  cancel_itself_computing m n x a done ready computing e =
      let q = ruled accepted CancelItself m n x ready.wellformed ready.sorted e in
      let c = cancels m n x q in
      let g = zero_number CancelItself m n x q c.pair.0 c.ty refl ready c.pair.1 c.results c.edits in
      let s = site_of m a done x q.here ready.wellformed ready.kinded computing q.found (root_has q ready.wellformed ready.kinded refl) in
      let k = of_rule m a done x q.here s (how.Binary c.pair.0) c.pair.1 in
      let value_types = and_parts (is_kind k.kind (kind_in m.tree c.first)) (is_kind k.kind (kind_in m.tree c.second)) (subst (λ vs. takes (how.Binary c.pair.0) (head q.here) k.kind (map (kind_in m.tree) vs) ≡ true) c.operands k.operands) in
      number_improves CancelItself m n x q g a done
      (λ d. pair_refined m a done x q.here s c.pair.0 c.first c.second (Some (g.kind, 0)) c.pair.1 c.operands d
      (λ z i. zero_given c.pair.0 g.kind (a c.first) (a c.second) z (λ y j. kind_by m a done x q.here s c.first k.kind y value_types.0 j ∙ same_Some _ _ (sym k.is ∙ ap (λ tys. given (slice_get tys 0) kind_of) c.results ∙ g.of))
      (λ y w n j l v.
      let both : y ≡ w = same_Some _ _ (sym j ∙ ap a c.same ∙ l) in
      c.pair.2 (width_of y.0) y.1 n (ap (λ (w : Known). value_of c.pair.0 (width_of y.0) y.1 w.1) both ∙ v))
      i))
      ready refl (cancel_itself_ready m n x ready e).kinded computing

  -- an operation by 1
  record Leaves (m n : Module) (x : ℕ) (q : Ruled ZeroRemainder m n x) : Type 0 where
    pub first : Value
    pub second : Value
    pub number : is_number m.tree 1 second ≡ true
    pub ty : TypeTerm
    pub operands : (head q.here).operands ≡ first ∷ second ∷ []
    pub results : (head q.here).results ≡ ty ∷ []
    pub pair : IsLeaving (head q.here).name
    pub edits : give_constant q.insertion m.next (head q.here).id ty 0 ≡ q.edits

  leaves : (m n : Module) (x : ℕ) (q : Ruled ZeroRemainder m n x) → Leaves m n x q
  unfolding rule
  leaves m n x q =
      let w = two_is (head q.here) (λ p. when (among remainders p.name && is_number m.tree 1 p.second) (Some (give_constant q.insertion m.next (head q.here).id p.ty 0))) q.edits q.made in
      let g = when_some (among remainders (head q.here).name && is_number m.tree 1 w.second) (Some (give_constant q.insertion m.next (head q.here).id w.ty 0)) q.edits w.makes in
      let h = and_parts (among remainders (head q.here).name) (is_number m.tree 1 w.second) g.0 in
      record {
        first = w.first;
        second = w.second;
        number = h.1;
        ty = w.ty;
        operands = w.operands;
        results = w.results;
        pair = of_among IsLeaving remainders (head q.here).name remainder_pairs h.0;
        edits = same_Some _ _ g.1;
      }

  pub zero_remainder_ready : KeepsReady ZeroRemainder
  zero_remainder_ready m n x ready e =
      let q = ruled accepted ZeroRemainder m n x ready.wellformed ready.sorted e in
      let c = leaves m n x q in
      number_ready ZeroRemainder m n x q (zero_number ZeroRemainder m n x q c.pair.0 c.ty refl ready c.pair.1 c.results c.edits) ready

  pub zero_remainder_computing : KeepsComputing ZeroRemainder
  unfolding leaves zero_number
  zero_remainder_computing m n x a done ready computing e =
      let q = ruled accepted ZeroRemainder m n x ready.wellformed ready.sorted e in
      let c = leaves m n x q in
      let g = zero_number ZeroRemainder m n x q c.pair.0 c.ty refl ready c.pair.1 c.results c.edits in
      let s = site_of m a done x q.here ready.wellformed ready.kinded computing q.found (root_has q ready.wellformed ready.kinded refl) in
      let two = of_two_is m a done x q.here s c.first c.second c.operands in
      let k = of_rule m a done x q.here s (how.Binary c.pair.0) c.pair.1 in
      let value_types = and_parts (is_kind k.kind (kind_in m.tree c.first)) (is_kind k.kind (kind_in m.tree c.second)) (subst (λ vs. takes (how.Binary c.pair.0) (head q.here) k.kind (map (kind_in m.tree) vs) ≡ true) c.operands k.operands) in
      let number = known_test (λ k. eqb k.1 1) (known m.tree c.second) c.number in
      number_improves ZeroRemainder m n x q g a done
      (λ d. pair_refined m a done x q.here s c.pair.0 c.first c.second (Some (g.kind, 0)) c.pair.1 c.operands d
      (λ z i. zero_given c.pair.0 g.kind (a c.first) (a c.second) z (λ y j. kind_by m a done x q.here s c.first k.kind y value_types.0 j ∙ same_Some _ _ (sym k.is ∙ ap (λ tys. given (slice_get tys 0) kind_of) c.results ∙ g.of))
      (λ y w n j l v.
      let bits = value_bits m a done x q.here s c.first two.first y j in
      let one : w.1 ≡ 1 = ap (λ (w : Known). w.1) (sym (known_is m a done ready.wellformed ready.kinded computing c.second number.0 w two.second (two.second_there d) number.1 l)) ∙ eqb-true number.0.1 1 number.2 in
      c.pair.2 (width_of y.0) y.1 n (some_bits y.0 y.1 bits) (below y.0 y.1 bits) (ap (value_of c.pair.0 (width_of y.0) y.1) (sym one) ∙ v))
      i))
      ready refl (zero_remainder_ready m n x ready e).kinded computing
