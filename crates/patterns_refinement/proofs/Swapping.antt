-- A rule that swaps the operands of an operation keeps modules ready and refines what they compute.
use Rattle.ir_types.specs.Readings.{signed_of}
use Rattle.std.specs.Ordering.{int_eq}
use Rattle.std.proofs.Math.IntN.{*ℤ_comm, +ℤ_comm}
use Rattle.std.proofs.Math.Nat.{mul_comm}
use Rattle.std.proofs.Common.{◌≡◌, ℕ, ◌<◌, ◌^◌, refl, ap, sym, ◌∙◌, subst, List, [], ◌∷◌, map, Bool, true, false, true≢false, ◌&&◌, not, eqb, eqb-true, eq-eqb, Option, Some, None, ◌⊎◌, inl, inr, ◌+◌, ◌%◌, arith, ◌||◌}
use Rattle.std.specs.Prelude.{if◌then◌else◌, bit_and, bit_or, bit_xor, is_some, ◌==◌}
use Rattle.std.specs.List.{list_all}
use Rattle.std.proofs.lemmas.Bool.{and_from, and_parts}
use Rattle.std.proofs.lemmas.Option.{same_Some}
use Rattle.ir_types.specs.Bits.{width_of}
use Rattle.ir_types.specs.Reasons.{is_width}
use Rattle.ir_types.specs.Words.{is_isolated}
use Rattle.ir_types.specs.Terms.{TypeTerm}
use Rattle.ir_tree.specs.declared.value.Value.{Value}
use Rattle.ir_tree.specs.declared.value.Value.TheVariants.{Result, Arg}
use Rattle.ir_tree.specs.Tree.{head}
use Rattle.ir_tree.specs.Edits.{at, each_head, put_operand}
use Rattle.ir_tree.specs.Ids.{HasDistinctIds, find}
use Rattle.ir_tree.specs.WellFormed.{IsWellFormed}
use Rattle.ir_tree.specs.Meaning.{Operation}
use Rattle.ir_tree_laws.specs.Values.{has_value}
use Rattle.ir_tree_laws.proofs.Listed.{bool_cases}
use Rattle.ir_event.specs.Modules.{Module}
use Rattle.dialects_int.specs.declared.operations.Arithmetic.{Arithmetic}
use Rattle.dialects_int.specs.declared.operations.Arithmetic.TheVariants as op
use Rattle.dialects_int.specs.declared.operations.Rule.TheVariants as how
use Rattle.dialects_int.specs.Arithmetic.{maximum_of, minimum_of, product_of, signed_maximum_of, signed_minimum_of, sum_of, value_of}
use Rattle.dialects_int.specs.Laws.{commutes}
use Rattle.dialects_int.specs.Folds.{Known, rule_of, rules, same_kind}
use Rattle.dialects_int.proofs.KnownOperands.{same_itself}
use Rattle.dialects_int.proofs.PairLaws.{swaps}
use Rattle.rewriter_machine.specs.Contents.{all_edited}
use Rattle.rewriter_machine.specs.Edits.{SetOperand}
use Rattle.patterns_base.specs.Lists.{Free}
use Rattle.user_patterns_check.specs.Outcomes.{Outcome, divides, is_some_number, checked, pair_outcome}
use Rattle.user_patterns_check.proofs.Keeping.{same_kinds}
use Rattle.patterns_laws.specs.Keeps.{Each as EachOf}
use Rattle.patterns_laws.specs.Words.{among, commutative}
use Rattle.patterns_laws.proofs.KnownFolds.{below, some_bits}
use Rattle.patterns_base.specs.declared.rule.Rule.TheVariants.{SwapConstant}
use Rattle.patterns_base.specs.Looks.{is_constant, is_known, when}
use Rattle.patterns_base.specs.Rules.{rule}
use Rattle.patterns_base.proofs.Dispatch.{of_among}
use Rattle.patterns_base.proofs.Facts.{when_some}
use Rattle.patterns_soundness.specs.Accepted.{AreAccepted}
use Rattle.patterns_soundness.proofs.Shapes.{two_is}
use Rattle.user_patterns_data.specs.Matching.{Header}
use Rattle.patterns_refinement.specs.Meaning.{ArgumentsOfTypes, Each, EachBlock, FitsDone, ResultsOfTypes, makes, owner, result_kind, breaks_by, breaks_flags, breaks_pair, flags_of, overflows_signed, overflows_unsigned, Flags, is_inexact}
use Rattle.patterns_refinement.specs.Better.{IsSure, is_kind, is_kinded, is_poison_by_ones, is_signed_quotient, kind_in, takes, takes_its, gives, is_arithmetic_there}
use Rattle.patterns_refinement.proofs.Frees.{Was, free_still, was_old}
use Rattle.patterns_refinement.specs.After.{OperandsStand}
use Rattle.patterns_refinement.specs.Applied.{IsBelow}
use Rattle.patterns_refinement.specs.Choices.{Chooses}
use Rattle.patterns_refinement.specs.Observing.{is_computed}
use Rattle.patterns_refinement.specs.Keeping.{IsFed, KeepsComputing, KeepsReady, done_after, is_there}
use Rattle.patterns_refinement.proofs.Dropping.{of_two_is}
use Rattle.patterns_refinement.proofs.Edited.{blocks_changed, each_both, each_changed}
use Rattle.patterns_refinement.proofs.EditsForm.{all_wellformed}
use Rattle.patterns_refinement.proofs.Wellformed.{is_below, operands_stand}
use Rattle.patterns_refinement.proofs.Forms.{makes_is}
use Rattle.patterns_refinement.proofs.Giving.{after_old}
use Rattle.patterns_refinement.proofs.Monotone.{itself}
use Rattle.patterns_refinement.proofs.OfBits.{IsOfBits}
use Rattle.patterns_refinement.proofs.Readied.{AreKinds, HasKind, Rises, Takes, all_rise, each_rises, kinds_are, kinds_found, same_kinds_of, same_takes}
use Rattle.patterns_refinement.proofs.Rewritten.{same_makes}
use Rattle.patterns_refinement.proofs.Ruled.{Ruled, of_rule, rule_kinds, ruled, site_of, value_bits, root_has}
use Rattle.patterns_refinement.proofs.Settling.{each_by_found}
use Rattle.patterns_refinement.proofs.Trees.{ArgumentsAre, ResultsAre, each_found, value_below}
use Rattle.patterns_refinement.proofs.Showing.{IsUnseen, at_unseen, kept_so, number_at, unseen_shows, unseen_through}
use Rattle.patterns_refinement.proofs.Origins.{Alike, IsOldKind, KeepsKinds, all_alike, kept_chooses, kinds_themselves, no_choice, origins_are}

-- ---- the outcome for swapped operands
number_there : (o : Arithmetic) → commutes o ≡ true → (w a b : ℕ) → (n : ℕ) × (value_of o w a b ≡ Some n)
number_there op.Add e w a b = (sum_of w a b, refl)
number_there op.Multiply e w a b = (product_of w a b, refl)
number_there op.And e w a b = (bit_and a b, refl)
number_there op.Or e w a b = (bit_or a b, refl)
number_there op.ExclusiveOr e w a b = (bit_xor a b, refl)
number_there op.MaximumSigned e w a b = (signed_maximum_of w a b, refl)
number_there op.MaximumUnsigned e w a b = (maximum_of a b, refl)
number_there op.MinimumSigned e w a b = (signed_minimum_of w a b, refl)
number_there op.MinimumUnsigned e w a b = (minimum_of a b, refl)
number_there o e w a b = absurd (true≢false (sym e))

never_divides : (o : Arithmetic) → commutes o ≡ true → divides o ≡ false
never_divides op.DivideSigned e = absurd (true≢false (sym e))
never_divides op.DivideUnsigned e = absurd (true≢false (sym e))
never_divides op.RemainderSigned e = absurd (true≢false (sym e))
never_divides op.RemainderUnsigned e = absurd (true≢false (sym e))
never_divides o e = refl

no_quotient : (o : Arithmetic) → commutes o ≡ true → is_signed_quotient (Some (how.Binary o)) ≡ false
no_quotient op.DivideSigned e = absurd (true≢false (sym e))
no_quotient o e = refl

abbrev poison_unless : Bool → Option Outcome
poison_unless b = if b then None else Some None

module _ (o : Arithmetic) (c : commutes o ≡ true) where
  poison_turned : (b : Bool) → poison_unless (divides o && b) ≡ poison_unless (divides o)
  poison_turned b = ap (λ d. poison_unless (d && b)) (never_divides o c) ∙ sym (ap poison_unless (never_divides o c))

  checked_turned : (x y : Known) → IsOfBits (Some x) → IsOfBits (Some y) → x.0 ≡ y.0 → checked o x.0 y.1 (value_of o (width_of x.0) x.1 y.1) ≡ checked o y.0 x.1 (value_of o (width_of y.0) y.1 x.1)
  checked_turned x y h g k =
      let n = number_there o c (width_of x.0) x.1 y.1 in
      let hx = h x refl in
      let gy = subst (λ k. y.1 < 2 ^ width_of k) (sym k) (below y.0 y.1 (g y refl)) in
      let turned = sym (swaps o (width_of x.0) x.1 y.1 (some_bits x.0 x.1 hx) (below x.0 x.1 hx) gy c) ∙ n.1 in
      ap (checked o x.0 y.1) n.1 ∙ (λ i. Some (Some (k i, n.0))) ∙ sym (ap (checked o y.0 x.1) (ap (λ k. value_of o (width_of k) y.1 x.1) (sym k) ∙ turned))

  turned : (p q : Outcome) → IsOfBits p → IsOfBits q → pair_outcome o p q ≡ pair_outcome o q p
  turned None None h g = refl
  turned None (Some y) h g = poison_turned (not (is_some_number (Some y)))
  turned (Some x) None h g = sym (poison_turned (not (is_some_number (Some x))))
  turned (Some x) (Some y) h g = go (same_kind x.0 y.0) refl (same_kind y.0 x.0) refl
    where
      go : (c : Bool) → same_kind x.0 y.0 ≡ c → (d : Bool) → same_kind y.0 x.0 ≡ d
          → (if c then checked o x.0 y.1 (value_of o (width_of x.0) x.1 y.1) else None) ≡ (if d then checked o y.0 x.1 (value_of o (width_of y.0) y.1 x.1) else None)
      go true e true f = checked_turned x y h g (same_kinds x.0 y.0 e)
      go true e false f = absurd (true≢false (sym (ap (same_kind y.0) (same_kinds x.0 y.0 e) ∙ same_itself y.0) ∙ f))
      go false e true f = absurd (true≢false (sym (ap (same_kind x.0) (same_kinds y.0 x.0 f) ∙ same_itself x.0) ∙ e))
      go false e false f = refl

plus_turned : (a b : ℕ) → a + b ≡ b + a
plus_turned a b = omega arith

sum_turned : (w a b : ℕ) → sum_of w a b ≡ sum_of w b a
unfolding sum_of
sum_turned w a b = ap (λ n. n % 2 ^ w) (plus_turned a b)

product_turned : (w a b : ℕ) → product_of w a b ≡ product_of w b a
unfolding product_of
product_turned w a b = ap (λ n. n % 2 ^ w) (mul_comm a b)

-- the operation breaks its flags for the same operands
module _ (f : Flags) (w : ℕ) where
  signed_turned : (o : Arithmetic) → commutes o ≡ true → (a b : ℕ) → overflows_signed o w a b ≡ overflows_signed o w b a
  signed_turned op.Add e a b = λ i. not (int_eq (signed_of w (sum_turned w a b i)) (+ℤ_comm (signed_of w a) (signed_of w b) i))
  signed_turned op.Multiply e a b = λ i. not (int_eq (signed_of w (product_turned w a b i)) (*ℤ_comm (signed_of w a) (signed_of w b) i))
  signed_turned op.And e a b = refl
  signed_turned op.Or e a b = refl
  signed_turned op.ExclusiveOr e a b = refl
  signed_turned op.MaximumSigned e a b = refl
  signed_turned op.MaximumUnsigned e a b = refl
  signed_turned op.MinimumSigned e a b = refl
  signed_turned op.MinimumUnsigned e a b = refl
  signed_turned op.Subtract e a b = absurd (true≢false (sym e))
  signed_turned op.ShiftLeft e a b = absurd (true≢false (sym e))
  signed_turned op.DivideSigned e a b = refl
  signed_turned op.DivideUnsigned e a b = refl
  signed_turned op.RemainderSigned e a b = refl
  signed_turned op.RemainderUnsigned e a b = refl
  signed_turned op.ShiftRightSigned e a b = refl
  signed_turned op.ShiftRightUnsigned e a b = refl

  unsigned_turned : (o : Arithmetic) → commutes o ≡ true → (a b : ℕ) → overflows_unsigned o w a b ≡ overflows_unsigned o w b a
  unsigned_turned op.Add e a b = λ i. not (sum_turned w a b i == plus_turned a b i)
  unsigned_turned op.Multiply e a b = λ i. not (product_turned w a b i == mul_comm a b i)
  unsigned_turned op.And e a b = refl
  unsigned_turned op.Or e a b = refl
  unsigned_turned op.ExclusiveOr e a b = refl
  unsigned_turned op.MaximumSigned e a b = refl
  unsigned_turned op.MaximumUnsigned e a b = refl
  unsigned_turned op.MinimumSigned e a b = refl
  unsigned_turned op.MinimumUnsigned e a b = refl
  unsigned_turned op.Subtract e a b = absurd (true≢false (sym e))
  unsigned_turned op.ShiftLeft e a b = absurd (true≢false (sym e))
  unsigned_turned op.DivideSigned e a b = refl
  unsigned_turned op.DivideUnsigned e a b = refl
  unsigned_turned op.RemainderSigned e a b = refl
  unsigned_turned op.RemainderUnsigned e a b = refl
  unsigned_turned op.ShiftRightSigned e a b = refl
  unsigned_turned op.ShiftRightUnsigned e a b = refl

  exact_turned : (o : Arithmetic) → commutes o ≡ true → (a b : ℕ) → is_inexact o w a b ≡ is_inexact o w b a
  exact_turned op.Add e a b = refl
  exact_turned op.Multiply e a b = refl
  exact_turned op.And e a b = refl
  exact_turned op.Or e a b = refl
  exact_turned op.ExclusiveOr e a b = refl
  exact_turned op.MaximumSigned e a b = refl
  exact_turned op.MaximumUnsigned e a b = refl
  exact_turned op.MinimumSigned e a b = refl
  exact_turned op.MinimumUnsigned e a b = refl
  exact_turned op.Subtract e a b = refl
  exact_turned op.ShiftLeft e a b = refl
  exact_turned op.DivideSigned e a b = absurd (true≢false (sym e))
  exact_turned op.DivideUnsigned e a b = absurd (true≢false (sym e))
  exact_turned op.RemainderSigned e a b = refl
  exact_turned op.RemainderUnsigned e a b = refl
  exact_turned op.ShiftRightSigned e a b = absurd (true≢false (sym e))
  exact_turned op.ShiftRightUnsigned e a b = absurd (true≢false (sym e))

  breaks_turned : (o : Arithmetic) → commutes o ≡ true → (p q : Outcome) → breaks_pair f o w (p ∷ q ∷ []) ≡ breaks_pair f o w (q ∷ p ∷ [])
  breaks_turned o e None None = refl
  breaks_turned o e None (Some y) = refl
  breaks_turned o e (Some x) None = refl
  breaks_turned o e (Some x) (Some y) = λ i. (f.nsw && signed_turned o e x.1 y.1 i) || ((f.nuw && unsigned_turned o e x.1 y.1 i) || (f.exact && exact_turned o e x.1 y.1 i))

abbrev IsSwapping : List ℕ → Type 0
IsSwapping name = (o : Arithmetic) × (rule_of name ≡ Some (how.Binary o)) × (commutes o ≡ true)

swapping_pairs : EachOf IsSwapping commutative
unfolding rule_of rules commutative
swapping_pairs =
    ((op.Add, refl, refl), ((op.Multiply, refl, refl), ((op.And, refl, refl), ((op.Or, refl, refl), ((op.ExclusiveOr, refl, refl), ((op.MaximumSigned, refl, refl), ((op.MaximumUnsigned, refl, refl), ((op.MinimumSigned, refl, refl), ((op.MinimumUnsigned, refl, refl), tt)))))))))

-- ---- heads
module _ (x : ℕ) (u v : Value) (o : Operation) (ops : (head o).operands ≡ u ∷ v ∷ []) (own : eqb (head o).id x ≡ true) where
  abbrev first : Header → Header
  first = at x (put_operand 0 v)

  abbrev second : Header → Header
  second = at x (put_operand 1 u)

  abbrev swapped : Header
  swapped = record (head o) { operands = v ∷ u ∷ [] }

  at_own : second (first (head o)) ≡ record (head o) { operands = v ∷ u ∷ [] }
  at_own =
      ap second (ap (λ b. if b then put_operand 0 v (head o) else head o) own)
      ∙ ap (λ b. if b then put_operand 1 u (put_operand 0 v (head o)) else put_operand 0 v (head o)) own
      ∙ ap (λ vs. put_operand 1 u (put_operand 0 v (record (head o) { operands = vs }))) ops

  at_other : (h : Header) → eqb h.id x ≡ false → second (first h) ≡ h
  at_other h e = ap second (ap (λ b. if b then put_operand 0 v h else h) e) ∙ ap (λ b. if b then put_operand 1 u h else h) e

  abbrev IsIt : Header → Type 0
  IsIt h = eqb h.id x ≡ true → h ≡ head o

  abbrev Both : (Header → Type 0) → Header → Type 0
  Both P h = P h × IsIt h

  abbrev From : (Header → Type 0) → Header → Type 0
  From P h = (g : Header) × (h ≡ first g) × P g × IsIt g

  swapped_each : (P Q : Header → Type 0) → ((h : Header) → P h → Q h) → (P (head o) → Q (record (head o) { operands = v ∷ u ∷ [] })) → (t : Operation) → Each IsIt t → Each P t → Each Q (each_head second (each_head first t))
  swapped_each P Q other its t it s =
      each_changed (From P) Q second (λ h p. subst Q (sym (ap second p.1)) (go p.0 p.2 p.3 (bool_cases (eqb p.0.id x)))) (each_head first t)
      (each_changed (Both P) (From P) first (λ h p. (h, refl, p.0, p.1)) t (each_both P IsIt (Both P) (λ h p q. (p, q)) t s it))
    where
      go : (g : Header) → P g → IsIt g → (eqb g.id x ≡ true) ⊎ (eqb g.id x ≡ false) → Q (second (first g))
      go g p i (inl e) = subst (λ h. Q (second (first h))) (sym (i e)) (subst Q (sym at_own) (its (subst P (i e) p)))
      go g p i (inr e) = subst Q (sym (at_other g e)) (other g p)

  same_id : (f : Header → Header) → ((h : Header) → h.id ≡ (f h).id) → (h : Header) → h.id ≡ (at x f h).id
  same_id f k h = go (eqb h.id x)
    where
      go : (b : Bool) → h.id ≡ (if b then f h else h).id
      go true = k h
      go false = refl

  swapped_blocks : (Q : ℕ → ℕ → List TypeTerm → Type 0) (t : Operation) → EachBlock Q t → EachBlock Q (each_head second (each_head first t))
  swapped_blocks Q t s = blocks_changed Q second (same_id (put_operand 1 u) (λ h. refl)) (each_head first t) (blocks_changed Q first (same_id (put_operand 0 v) (λ h. refl)) t s)

-- ---- the operations executed after the rewrite
abbrev pub Low : Module → (Header → Type 0) → Header → Type 0
Low m P h = P h × (h.id < m.next)

abbrev Located : Module → Header → Type 0
Located m h = (h.id < m.next) × (list_all (λ v. has_value v m.tree) h.operands ≡ true)

module _ (m : Module) (x : ℕ) (done : ℕ → Bool) (below : IsBelow m.next m.tree) where
  pub still_there : (ws : List Value) → list_all (λ v. has_value v m.tree) ws ≡ true → list_all (is_there done) ws ≡ true → list_all (is_there (done_after m.next x done)) ws ≡ true
  still_there [] s e = refl
  still_there (w ∷ ws) s e =
      let h = and_parts (is_there done w) (list_all (is_there done) ws) e in
      let g = and_parts (has_value w m.tree) (list_all (λ v. has_value v m.tree) ws) s in
      and_from (is_there (done_after m.next x done) w) (list_all (is_there (done_after m.next x done)) ws) (one w (value_below m.next m.tree below w g.0) h.0) (still_there ws g.1 h.1)
    where
      one : (w : Value) → owner w < m.next → is_there done w ≡ true → is_there (done_after m.next x done) w ≡ true
      one (Result y j) l e = after_old m.next x done y l ∙ e
      one (Arg y r j) l e = refl

  pub fed_later : OperandsStand m.tree → Each (IsFed done) m.tree → Each (IsFed (done_after m.next x done)) m.tree
  fed_later operands fed =
      each_both (IsFed done) (Located m) (IsFed (done_after m.next x done)) (λ h p q i. still_there h.operands q.1 (p (sym (after_old m.next x done h.id q.0) ∙ i))) m.tree fed
      (each_both (λ h. h.id < m.next) (λ h. list_all (λ v. has_value v m.tree) h.operands ≡ true) (Located m) (λ h p q. (p, q)) m.tree below operands)

-- ---- the rule
module _ (accepted : AreAccepted) where
  record Swaps (m n : Module) (x : ℕ) (q : Ruled SwapConstant m n x) : Type 0 where
    pub first : Value
    pub second : Value
    pub ty : TypeTerm
    pub operands : (head q.here).operands ≡ first ∷ second ∷ []
    pub pair : IsSwapping (head q.here).name
    pub edits : q.edits ≡ SetOperand x 0 second ∷ SetOperand x 1 first ∷ []

  swaps_here : (m n : Module) (x : ℕ) (q : Ruled SwapConstant m n x) → Swaps m n x q
  unfolding rule
  swaps_here m n x q =
      let h = head q.here in
      let w = two_is h (λ p. when (among commutative p.name && (is_known m.tree p.first && not (is_constant m.tree p.second))) (Some (SetOperand h.id 0 p.second ∷ SetOperand h.id 1 p.first ∷ []))) q.edits q.made in
      let g = when_some (among commutative h.name && (is_known m.tree w.first && not (is_constant m.tree w.second))) (Some (SetOperand h.id 0 w.second ∷ SetOperand h.id 1 w.first ∷ [])) q.edits w.makes in
      let t = and_parts (among commutative h.name) (is_known m.tree w.first && not (is_constant m.tree w.second)) g.0 in
      record {
        first = w.first;
        second = w.second;
        ty = w.ty;
        operands = w.operands;
        pair = of_among IsSwapping commutative h.name swapping_pairs t.0;
        edits = sym (same_Some _ _ g.1) ∙ ap (λ y. SetOperand y 0 w.second ∷ SetOperand y 1 w.first ∷ []) q.id;
      }

  its : (m n : Module) (x : ℕ) (q : Ruled SwapConstant m n x) → HasDistinctIds m.tree → Each (λ h. eqb h.id x ≡ true → h ≡ head q.here) m.tree
  its m n x q d = each_by_found (λ h. eqb h.id x ≡ true → h ≡ head q.here) m.tree d (λ p e i. ap head (same_Some _ _ (sym (ap (λ y. find y m.tree) (sym (eqb-true (head p).id x i)) ∙ e) ∙ q.found)))

  pub swap_constant_ready : KeepsReady SwapConstant
  swap_constant_ready m n x ready e =
      let q = ruled accepted SwapConstant m n x ready.wellformed ready.sorted e in
      let w = swaps_here m n x q in
      let own = eq-eqb (head q.here).id x q.id in
      let es = SetOperand x 0 w.second ∷ SetOperand x 1 w.first ∷ [] in
      let after : all_edited es m ≡ n = subst (λ es. all_edited es m ≡ n) w.edits q.module_is in
      let is = ap (λ (m : Module). m.tree) after in
      let wellformed = subst (IsWellFormed is_isolated) after (all_wellformed es m (tt, (tt, tt)) ready.wellformed (subst (λ es. Free es m) w.edits q.free)) in
      let it = its m n x q ready.wellformed.distinct in
      let old = kinds_are m.tree ready.wellformed.distinct in
      let value_types = kind_in m.tree in
      let below = is_below m.next m.tree ready.wellformed.below in
      let k = rule_kinds m.tree (head q.here) (each_found (λ h. is_kinded m.tree h ≡ true) x m.tree ready.kinded q.here q.found).0 (root_has q ready.wellformed ready.kinded refl) (how.Binary w.pair.0) w.pair.1 in
      let both = and_parts (is_kind k.kind (value_types w.first)) (is_kind k.kind (value_types w.second)) (subst (λ vs. takes (how.Binary w.pair.0) (head q.here) k.kind (map (kind_in m.tree) vs) ≡ true) w.operands k.operands) in
      let takes_swapped : Takes (kind_in m.tree) (record (head q.here) { operands = w.second ∷ w.first ∷ [] }) =
      same_takes (head q.here) (head q.here).id (w.second ∷ w.first ∷ []) (value_types w.second ∷ value_types w.first ∷ [])
      ∙ ap (λ r. takes_its r (result_kind (head q.here)) (head q.here) (value_types w.second ∷ value_types w.first ∷ [])) w.pair.1
      ∙ ap (λ k. takes_its (Some (how.Binary w.pair.0)) k (head q.here) (value_types w.second ∷ value_types w.first ∷ [])) k.is
      ∙ and_from (is_width (width_of k.kind)) (is_kind k.kind (value_types w.second) && is_kind k.kind (value_types w.first)) k.width (and_from (is_kind k.kind (value_types w.second)) (is_kind k.kind (value_types w.first)) both.1 both.0) in
      let u = all_edited es m in
      let are : AreKinds (kind_in m.tree) (all_edited es m).tree =
      record {
        results = swapped_each x w.first w.second q.here w.operands own (ResultsAre (HasKind (kind_in m.tree))) (ResultsAre (HasKind (kind_in m.tree))) (λ h p. p) (λ p. p) m.tree it old.results;
        arguments = swapped_blocks x w.first w.second q.here w.operands own (ArgumentsAre (HasKind (kind_in m.tree))) m.tree old.arguments;
      } in
      let stand = operands_stand is_isolated n.tree wellformed.distinct wellformed.wellformed.visible in
      record {
        wellformed = wellformed;
        sorted = all_rise n.tree wellformed.distinct (subst (λ t. Each Rises t) is (swapped_each x w.first w.second q.here w.operands own Rises Rises (λ h p. p) (λ p. p) m.tree it (each_rises m.tree ready.sorted)));
        kinded =
            each_both (Takes value_types) (λ h. list_all (λ v. has_value v n.tree) h.operands ≡ true) (λ h. is_kinded n.tree h ≡ true)
            (λ h p s. ap (takes_its (rule_of h.name) (result_kind h) h) (same_kinds_of (kind_in n.tree) value_types (λ v. has_value v n.tree) (kinds_found value_types n.tree (subst (λ t. AreKinds value_types t) is are)) h.operands s) ∙ p) n.tree
            (subst (λ t. Each (Takes value_types) t) is (swapped_each x w.first w.second q.here w.operands own (λ h. is_kinded m.tree h ≡ true) (Takes value_types) (λ h p. p) (λ p. takes_swapped) m.tree it ready.kinded))
            stand;
      }

  pub swap_constant_computing : KeepsComputing SwapConstant
  swap_constant_computing m n x a done ready computing e =
      let q = ruled accepted SwapConstant m n x ready.wellformed ready.sorted e in
      let w = swaps_here m n x q in
      let own = eq-eqb (head q.here).id x q.id in
      let later = done_after m.next x done in
      let is : all_edited (SetOperand x 0 w.second ∷ SetOperand x 1 w.first ∷ []) m ≡ n = subst (λ es. all_edited es m ≡ n) w.edits q.module_is in
      let tree = ap (λ (m : Module). m.tree) is in
      let it = its m n x q ready.wellformed.distinct in
      let s = site_of m a done x q.here ready.wellformed ready.kinded computing q.found (root_has q ready.wellformed ready.kinded refl) in
      let two = of_two_is m a done x q.here s w.first w.second w.operands in
      let k = of_rule m a done x q.here s (how.Binary w.pair.0) w.pair.1 in
      let below = is_below m.next m.tree ready.wellformed.below in
      let h = head q.here in
      let makes_same : makes (record h { operands = w.second ∷ w.first ∷ [] }) (a w.second ∷ a w.first ∷ []) ≡ makes h (map a h.operands) =
      same_makes h h.id (w.second ∷ w.first ∷ []) (a w.second ∷ a w.first ∷ [])
      ∙ makes_is h (a w.second ∷ a w.first ∷ []) (how.Binary w.pair.0) k.kind w.pair.1 k.is
      ∙ turned w.pair.0 w.pair.2 (a w.second) (a w.first) (value_bits m a done x q.here s w.second two.second) (value_bits m a done x q.here s w.first two.first)
      ∙ sym (makes_is h (a w.first ∷ a w.second ∷ []) (how.Binary w.pair.0) k.kind w.pair.1 k.is) ∙ ap (λ vs. makes h (map a vs)) (sym w.operands) in
      let by_kind : (xs : List Outcome) → breaks_flags h xs ≡ breaks_pair (flags_of h) w.pair.0 (width_of k.kind) xs = (λ xs i. breaks_by (w.pair.1 i) (flags_of h) (k.is i) xs) in
      let flags_same : breaks_flags (record h { operands = w.second ∷ w.first ∷ [] }) (a w.second ∷ a w.first ∷ []) ≡ breaks_flags h (map a h.operands) =
      by_kind (a w.second ∷ a w.first ∷ []) ∙ breaks_turned (flags_of h) (width_of k.kind) w.pair.0 w.pair.2 (a w.second) (a w.first)
      ∙ sym (by_kind (a w.first ∷ a w.second ∷ [])) ∙ ap (λ vs. breaks_flags h (map a vs)) (sym w.operands) in
      let was : (y : ℕ) → y < m.next → later y ≡ true → done y ≡ true = (λ y l i. sym (after_old m.next x done y l) ∙ i) in
      record {
        now = a;
        better = λ v l. itself (a v);
        stays = λ v l e. refl;
        free = λ v l e.
            ap (λ t. gives later t v) (sym tree)
            ∙ free_still m.next done later m.tree (all_edited (SetOperand x 0 w.second ∷ SetOperand x 1 w.first ∷ []) m).tree
            (swapped_each x w.first w.second q.here w.operands own (Was m.next done later m.tree) (Was m.next done later m.tree) (λ h p. p) (λ p. p) m.tree it (was_old m.next done later m.tree ready.wellformed.distinct was)) v l e;
        computing = record {
          fits = subst (λ t. Each (FitsDone a later) t) tree
              (swapped_each x w.first w.second q.here w.operands own (Low m (FitsDone a done)) (FitsDone a later) (λ h p i j. p.0 (was h.id p.1 i) j)
              (λ p i j. elim (p.0 (was h.id p.1 i) j) [ inl f ↦ inl (makes_same ∙ f.0, flags_same ∙ f.1) | inr b ↦ inr (flags_same ∙ b.0, ap is_some makes_same ∙ b.1, b.2) ])
              m.tree it (each_both (FitsDone a done) (λ h. h.id < m.next) (Low m (FitsDone a done)) (λ h p l. (p, l)) m.tree computing.fits below));
          typed = (
            subst (λ t. Each (ResultsOfTypes a) t) tree (swapped_each x w.first w.second q.here w.operands own (ResultsOfTypes a) (ResultsOfTypes a) (λ h p. p) (λ p. p) m.tree it computing.typed.0),
            subst (λ t. EachBlock (ArgumentsOfTypes a) t) tree (swapped_blocks x w.first w.second q.here w.operands own (ArgumentsOfTypes a) m.tree computing.typed.1),
          );
          sure = subst (λ t. Each (IsSure a later) t) tree
              (swapped_each x w.first w.second q.here w.operands own (Low m (IsSure a done)) (IsSure a later) (λ h p i j. p.0 (was h.id p.1 i) j)
              (λ p i j. ap (λ r. is_signed_quotient r && is_poison_by_ones (a w.second ∷ a w.first ∷ [])) w.pair.1 ∙ ap (λ b. b && is_poison_by_ones (a w.second ∷ a w.first ∷ [])) (no_quotient w.pair.0 w.pair.2))
              m.tree it (each_both (IsSure a done) (λ h. h.id < m.next) (Low m (IsSure a done)) (λ h p l. (p, l)) m.tree computing.sure below));
          fed = subst (λ t. Each (IsFed later) t) tree
              (swapped_each x w.first w.second q.here w.operands own (IsFed later) (IsFed later) (λ h p. p)
              (λ p i.
              let b = and_parts (is_there later w.first) (is_there later w.second && true) (subst (λ vs. list_all (is_there later) vs ≡ true) w.operands (p i)) in
              and_from (is_there later w.second) (is_there later w.first && true) (and_parts (is_there later w.second) true b.1).0 (and_from (is_there later w.first) true b.0 refl))
              m.tree it (fed_later m x done below (operands_stand is_isolated m.tree ready.wellformed.distinct ready.wellformed.wellformed.visible) computing.fed));
        };
        shows =
            let first = put_operand 0 w.second in
            let second = put_operand 1 w.first in
            let one = at_unseen x first (λ h. refl) m.tree (number_at x m.tree ready.wellformed.distinct (ap is_arithmetic_there q.found ∙ k.arithmetic)) in
            let t = each_head (at x first) m.tree in
            let two = at_unseen x second (λ h. refl) t one.numbers in
            let unseen : IsUnseen x m.tree n.tree = subst (IsUnseen x m.tree) tree (unseen_through x m.tree t (each_head (at x second) t) one two) in
            let simple : (v : Value) → owner v < m.next → is_computed m.tree v ≡ false → is_computed n.tree v ≡ false =
            free_still m.next (λ y. true) (λ y. true) m.tree n.tree
            (subst (λ t. Each (Was m.next (λ y. true) (λ y. true) m.tree) t) tree
            (swapped_each x w.first w.second q.here w.operands own (Was m.next (λ y. true) (λ y. true) m.tree) (Was m.next (λ y. true) (λ y. true) m.tree) (λ h p. p) (λ p. p) m.tree it (was_old m.next (λ y. true) (λ y. true) m.tree ready.wellformed.distinct (λ y l i. refl)))) in
            let old = kinds_themselves m.next m.tree ready.wellformed.distinct below in
            let value_kinds : KeepsKinds m.next m.tree n.tree =
            subst (KeepsKinds m.next m.tree) tree
            (record {
              results = swapped_each x w.first w.second q.here w.operands own (ResultsAre (IsOldKind m.next m.tree)) (ResultsAre (IsOldKind m.next m.tree)) (λ h p. p) (λ p. p) m.tree it old.results;
              arguments = swapped_blocks x w.first w.second q.here w.operands own (ArgumentsAre (IsOldKind m.next m.tree)) m.tree old.arguments;
            }) in
            let alike = all_alike m.next m.tree n.tree value_kinds below (operands_stand is_isolated m.tree ready.wellformed.distinct ready.wellformed.wellformed.visible) in
            unseen_shows a a m later x n.tree unseen (λ v. itself (a v)) alike simple
            (λ o are. origins_are m.next a a o later m.tree n.tree are simple
            (subst (λ t. Each (Chooses a o later n.tree) t) tree
            (swapped_each x w.first w.second q.here w.operands own (λ h. Alike m.tree n.tree h × Chooses a o later m.tree h) (Chooses a o later n.tree)
            (λ h p. kept_chooses h h (kept_so m.next m.tree n.tree a a later (λ v. itself (a v)) h p.0) o are p.1)
            (λ p i. absurd (true≢false (sym i ∙ no_choice n.tree (record h { operands = w.second ∷ w.first ∷ [] }) k.arithmetic)))
            m.tree it (each_both (Alike m.tree n.tree) (Chooses a o later m.tree) (λ h. Alike m.tree n.tree h × Chooses a o later m.tree h) (λ h p q. (p, q)) m.tree alike are.chosen))));
      }
