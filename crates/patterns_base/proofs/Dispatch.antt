-- If the table doesn't list a rule for a name, the rule doesn't apply.
use Rattle.std.proofs.Common.{◌≡◌, ℕ, List, [], ◌∷◌, Bool, true, false, Some, None, refl, sym, ap, ◌∙◌, subst, arith}
use Rattle.std.specs.Prelude.{Option, codes, ◌&&◌, not, if◌then◌else◌}
use Rattle.std.specs.List.{list_all}
use Rattle.std.specs.Str.{bytes_eq}
use Rattle.std.proofs.lemmas.Slice.Eq.{bytes_eq-Decides}
use Rattle.ir_types.specs.Terms.{TypeTerm, AttrTerm}
use Rattle.ir_tree.specs.declared.value.Value.{Value}
use Rattle.ir_tree.specs.declared.place.Place.{Place}
use Rattle.ir_tree.specs.Tree.{op, head}
use Rattle.ir_tree.specs.Meaning.{Operation}
use Rattle.op_registry.specs.Registry.{next_to, row_of, own_of}
use Rattle.op_registry.specs.Rows.{Row, rows}
use Rattle.patterns_laws.specs.integers.Folds.{Known, rule_of, rules, fold_of, is_property}
use Rattle.patterns_laws.specs.integers.declared.operations.Rule as integers
use Rattle.patterns_base.specs.declared.rule.Rule.{Rule}
use Rattle.patterns_base.specs.declared.rule.Rule.TheVariants.{EraseDead, FoldToConstant, SwapConstant, DropZero}
use Rattle.patterns_base.specs.declared.rule.Rule.TheVariants.{DropOne, DropAllOnes, CancelItself, KeepItself}
use Rattle.patterns_base.specs.declared.rule.Rule.TheVariants.{ZeroRemainder, RegroupConstants, AddNegative}
use Rattle.patterns_base.specs.declared.rule.Rule.TheVariants.{CompareItself, MirrorComparison, CompareZero}
use Rattle.patterns_base.specs.declared.rule.Rule.TheVariants.{ChooseSame, ChooseKnown, ChooseTruth, ChooseOpposite}
use Rattle.patterns_base.specs.declared.rule.Rule.TheVariants.{ExtendExtension, CutCast, CastBack, OpenBranch}
use Rattle.patterns_base.specs.declared.rule.Rule.TheVariants.{OpenLoop, StopLoop, ExpandMinMax, ExpandDifference}
use Rattle.patterns_base.specs.declared.rule.Rule.TheVariants.{ExpandRemainder, LowerIndex, LowerLoop, LowerChoice}
use Rattle.effects.specs.declared.effect_kinds.EffectKinds.{EffectKinds}
use Rattle.effects.specs.Effects.{effects_by, regions_effects}
use Rattle.effects.specs.Dead.{is_unused, is_kept}
use Rattle.effects.specs.Dead as dead
use Rattle.patterns_laws.specs.Words.{named, among, commutative, with_zero_as_right_identity, with_one_as_right_identity, self_inverse, idempotent, remainders, associative, extensions, index_casts, index_users, arithmetic, predicate_of_min_max, division_of_remainder}
use Rattle.patterns_laws.specs.Keeps.{given, Each}
use Rattle.patterns_base.specs.Looks.{Header, One, Two, Three, when, is_erasable, one, two, three, one_from, two_from, three_from}
use Rattle.patterns_base.specs.Rules.{table, rules_for, has_rule, rule, OnlyListed}
use Rattle.patterns_base.specs.Folding.{folded_to, erase_dead, fold_to_constant, swap_constant, drop_zero, drop_one, drop_all_ones, cancel_itself, keep_itself, zero_remainder, regroup_constants, add_negative, compare_itself, mirror_comparison, compare_zero, choose_same, choose_known, choose_truth, choose_opposite, expand_min_max, expand_difference, expand_remainder}
use Rattle.patterns_base.specs.Casting.{extend_extension, cut_cast, cast_back}
use Rattle.patterns_base.specs.Opening.{open_branch, open_loop, stop_loop}
use Rattle.patterns_base.specs.Lowering.{lower_index, lower_loop, lower_choice}
use Rattle.std.proofs.lemmas.Bool.{and_right}
use Rattle.ir_types.proofs.Truths.{choose}
use Rattle.ir_types.proofs.Growth.{name_is}

never : {A : Type 0} → true ≡ false → A
never e = absurd (grind arith)

-- ---- names among words

-- a property of each word holds of a name among them
pub of_among : (P : List ℕ → Type 0) (ws : List (List ℕ)) (name : List ℕ) → Each P ws → among ws name ≡ true → P name
of_among P [] name each h = absurd (grind arith)
of_among P (w ∷ ws) name each h = by (bytes_eq name w) refl (λ more. of_among P ws name each.1 more)
  where
    by : (t : Bool) → bytes_eq name w ≡ t → (among ws name ≡ true → P name) → P name
    by true e more = subst P (sym (name_is name w e)) each.0
    by false e more = more (grind arith)

-- a name without a rule isn't among words that have the rule, and isn't a word that has it
elsewhere : (r : Rule) (ws : List (List ℕ)) (name : List ℕ) → Each (λ w. has_rule r w ≡ true) ws → has_rule r name ≡ false → among ws name ≡ false
elsewhere r ws name each lacks = by (among ws name) refl
  where
    by : (t : Bool) → among ws name ≡ t → t ≡ false
    by true e = sym (of_among (λ w. has_rule r w ≡ true) ws name each e) ∙ lacks
    by false e = refl

another : (r : Rule) (w name : List ℕ) → has_rule r w ≡ true → has_rule r name ≡ false → named w name ≡ false
another r w name has lacks = by (bytes_eq name w) refl
  where
    by : (t : Bool) → bytes_eq name w ≡ t → t ≡ false
    by true e = sym has ∙ ap (has_rule r) (sym (name_is name w e)) ∙ lacks
    by false e = refl

-- the table has no entry for the name
nothing_next_to : {A : Type 0} (r : Rule) (rows : List (List ℕ × A)) (name : List ℕ) → Each (λ (row : List ℕ × A). has_rule r row.0 ≡ true) rows → has_rule r name ≡ false → next_to name rows ≡ None
nothing_next_to r [] name each lacks = refl
nothing_next_to r (row ∷ more) name each lacks = by (bytes_eq name row.0) refl (nothing_next_to r more name each.1 lacks)
  where
    by : (t : Bool) → bytes_eq name row.0 ≡ t → next_to name more ≡ None → (if t then Some row.1 else next_to name more) ≡ None
    by true e rest = never (sym each.0 ∙ ap (has_rule r) (sym (name_is name row.0 e)) ∙ lacks)
    by false e rest = rest

-- ---- tests that fail
aborted : {X : Type 0} (b : Bool) (r : Option X) → b ≡ false → when b r ≡ None
aborted true r h = absurd (grind arith)
aborted false r h = refl

stopped_first : {X : Type 0} (b c : Bool) (r : Option X) → b ≡ false → when (b && c) r ≡ None
stopped_first true c r h = absurd (grind arith)
stopped_first false c r h = refl

none_given : {X Y : Type 0} (x : Option X) (f : X → Option Y) → ((y : X) → f y ≡ None) → given x f ≡ None
none_given None f h = refl
none_given (Some y) f h = h y

one_none : {X : Type 0} (name : List ℕ) (vs : List Value) (ts : List TypeTerm) (f : One → Option X) → ((p : One) → p.name ≡ name → f p ≡ None) → given (one_from name vs ts) f ≡ None
one_none name [] ts f h = refl
one_none name (a ∷ []) [] f h = refl
one_none name (a ∷ []) (ty ∷ []) f h = h (record { name = name; first = a; ty = ty }) refl
one_none name (a ∷ []) (ty ∷ u ∷ us) f h = refl
one_none name (a ∷ b ∷ vs) ts f h = refl

two_none : {X : Type 0} (name : List ℕ) (vs : List Value) (ts : List TypeTerm) (f : Two → Option X) → ((p : Two) → p.name ≡ name → f p ≡ None) → given (two_from name vs ts) f ≡ None
two_none name [] ts f h = refl
two_none name (a ∷ []) ts f h = refl
two_none name (a ∷ b ∷ []) [] f h = refl
two_none name (a ∷ b ∷ []) (ty ∷ []) f h = h (record { name = name; first = a; second = b; ty = ty }) refl
two_none name (a ∷ b ∷ []) (ty ∷ u ∷ us) f h = refl
two_none name (a ∷ b ∷ c ∷ vs) ts f h = refl

three_none : {X : Type 0} (name : List ℕ) (vs : List Value) (ts : List TypeTerm) (f : Three → Option X) → ((p : Three) → p.name ≡ name → f p ≡ None) → given (three_from name vs ts) f ≡ None
three_none name [] ts f h = refl
three_none name (a ∷ []) ts f h = refl
three_none name (a ∷ b ∷ []) ts f h = refl
three_none name (a ∷ b ∷ c ∷ []) [] f h = refl
three_none name (a ∷ b ∷ c ∷ []) (ty ∷ []) f h = h (record { name = name; first = a; second = b; third = c; ty = ty }) refl
three_none name (a ∷ b ∷ c ∷ []) (ty ∷ u ∷ us) f h = refl
three_none name (a ∷ b ∷ c ∷ d ∷ vs) ts f h = refl

-- an operation with two operands whose name isn't among words, or isn't a given word
two_among : {X : Type 0} (ws : List (List ℕ)) (h : Header) (c : Two → Bool) (f : Two → Option X) → among ws h.name ≡ false → given (two h) (λ p. when (among ws p.name && c p) (f p)) ≡ None
two_among ws h c f e = two_none h.name h.operands h.results (λ p. when (among ws p.name && c p) (f p)) (λ p s. stopped_first (among ws p.name) (c p) (f p) (ap (among ws) s ∙ e))

two_named : {X : Type 0} (w : List ℕ) (h : Header) (f : Two → Option X) → named w h.name ≡ false → given (two h) (λ p. when (named w p.name) (f p)) ≡ None
two_named w h f e = two_none h.name h.operands h.results (λ p. when (named w p.name) (f p)) (λ p s. aborted (named w p.name) (f p) (ap (named w) s ∙ e))

three_named : {X : Type 0} (w : List ℕ) (h : Header) (f : Three → Option X) → named w h.name ≡ false → given (three h) (λ p. when (named w p.name) (f p)) ≡ None
three_named w h f e = three_none h.name h.operands h.results (λ p. when (named w p.name) (f p)) (λ p s. aborted (named w p.name) (f p) (ap (named w) s ∙ e))

one_named : {X : Type 0} (w : List ℕ) (h : Header) (f : One → Option X) → named w h.name ≡ false → given (one h) (λ p. when (named w p.name) (f p)) ≡ None
one_named w h f e = one_none h.name h.operands h.results (λ p. when (named w p.name) (f p)) (λ p s. aborted (named w p.name) (f p) (ap (named w) s ∙ e))

one_among : {X : Type 0} (ws : List (List ℕ)) (h : Header) (f : One → Option X) → among ws h.name ≡ false → given (one h) (λ p. when (among ws p.name) (f p)) ≡ None
one_among ws h f e = one_none h.name h.operands h.results (λ p. when (among ws p.name) (f p)) (λ p s. aborted (among ws p.name) (f p) (ap (among ws) s ∙ e))

two_next_to : {A X : Type 0} (rows : List (List ℕ × A)) (h : Header) (f : Two → A → Option X) → next_to h.name rows ≡ None → given (two h) (λ p. given (next_to p.name rows) (f p)) ≡ None
two_next_to rows h f e = two_none h.name h.operands h.results (λ p. given (next_to p.name rows) (f p)) (λ p s. ap (λ z. given z (f p)) (ap (λ name. next_to name rows) s ∙ e))

at_swap_constant : Each (λ w. has_rule SwapConstant w ≡ true) commutative
unfolding rules_for table commutative
at_swap_constant = (refl, (refl, (refl, (refl, (refl, (refl, (refl, (refl, (refl, tt)))))))))

at_drop_zero : Each (λ w. has_rule DropZero w ≡ true) with_zero_as_right_identity
unfolding rules_for table with_zero_as_right_identity
at_drop_zero = (refl, (refl, (refl, (refl, (refl, (refl, (refl, tt)))))))

at_drop_one : Each (λ w. has_rule DropOne w ≡ true) with_one_as_right_identity
unfolding rules_for table with_one_as_right_identity
at_drop_one = (refl, (refl, (refl, tt)))

at_cancel_itself : Each (λ w. has_rule CancelItself w ≡ true) self_inverse
unfolding rules_for table self_inverse
at_cancel_itself = (refl, (refl, tt))

at_keep_itself : Each (λ w. has_rule KeepItself w ≡ true) idempotent
unfolding rules_for table idempotent
at_keep_itself = (refl, (refl, (refl, (refl, (refl, (refl, tt))))))

at_zero_remainder : Each (λ w. has_rule ZeroRemainder w ≡ true) remainders
unfolding rules_for table remainders
at_zero_remainder = (refl, (refl, tt))

at_regroup_constants : Each (λ w. has_rule RegroupConstants w ≡ true) associative
unfolding rules_for table associative
at_regroup_constants = (refl, (refl, (refl, (refl, (refl, tt)))))

at_extend_extension : Each (λ w. has_rule ExtendExtension w ≡ true) extensions
unfolding rules_for table extensions
at_extend_extension = (refl, (refl, tt))

at_cast_back : Each (λ w. has_rule CastBack w ≡ true) index_casts
unfolding rules_for table index_casts
at_cast_back = (refl, (refl, tt))

at_lower_index : Each (λ w. has_rule LowerIndex w ≡ true) index_users
unfolding rules_for table index_users arithmetic
at_lower_index = (refl, (refl, (refl, (refl, (refl, (refl, (refl, (refl, (refl, (refl, (refl, (refl, (refl, (refl, (refl, (refl, (refl, (refl, (refl, (refl, tt))))))))))))))))))))

at_expand_min_max : Each (λ (row : List ℕ × ℕ). has_rule ExpandMinMax row.0 ≡ true) predicate_of_min_max
unfolding rules_for table predicate_of_min_max
at_expand_min_max = (refl, (refl, (refl, (refl, tt))))

at_expand_remainder : Each (λ (row : List ℕ × List ℕ). has_rule ExpandRemainder row.0 ≡ true) division_of_remainder
unfolding rules_for table division_of_remainder
at_expand_remainder = (refl, (refl, tt))

at_cast_back_unrealized : has_rule CastBack (codes "builtin.unrealized_conversion_cast") ≡ true
unfolding rules_for table
at_cast_back_unrealized = refl

at_drop_all_ones : has_rule DropAllOnes (codes "arith.andi") ≡ true
unfolding rules_for table
at_drop_all_ones = refl

at_add_negative : has_rule AddNegative (codes "arith.subi") ≡ true
unfolding rules_for table
at_add_negative = refl

at_compare_itself : has_rule CompareItself (codes "arith.cmpi") ≡ true
unfolding rules_for table
at_compare_itself = refl

at_mirror_comparison : has_rule MirrorComparison (codes "arith.cmpi") ≡ true
unfolding rules_for table
at_mirror_comparison = refl

at_compare_zero : has_rule CompareZero (codes "arith.cmpi") ≡ true
unfolding rules_for table
at_compare_zero = refl

at_choose_same : has_rule ChooseSame (codes "arith.select") ≡ true
unfolding rules_for table
at_choose_same = refl

at_choose_known : has_rule ChooseKnown (codes "arith.select") ≡ true
unfolding rules_for table
at_choose_known = refl

at_choose_truth : has_rule ChooseTruth (codes "arith.select") ≡ true
unfolding rules_for table
at_choose_truth = refl

at_choose_opposite : has_rule ChooseOpposite (codes "arith.select") ≡ true
unfolding rules_for table
at_choose_opposite = refl

at_cut_cast : has_rule CutCast (codes "arith.trunci") ≡ true
unfolding rules_for table
at_cut_cast = refl

at_open_branch : has_rule OpenBranch (codes "scf.if") ≡ true
unfolding rules_for table
at_open_branch = refl

at_open_loop : has_rule OpenLoop (codes "scf.for") ≡ true
unfolding rules_for table
at_open_loop = refl

at_stop_loop : has_rule StopLoop (codes "scf.while") ≡ true
unfolding rules_for table
at_stop_loop = refl

at_expand_difference : has_rule ExpandDifference (codes "arith.subi") ≡ true
unfolding rules_for table
at_expand_difference = refl

at_lower_loop : has_rule LowerLoop (codes "scf.for") ≡ true
unfolding rules_for table
at_lower_loop = refl

at_lower_choice : has_rule LowerChoice (codes "scf.if") ≡ true
unfolding rules_for table
at_lower_choice = refl

two_ways : {X : Type 0} (b c : Bool) (x y : Option X) → b ≡ false → c ≡ false → (if b then x else when c y) ≡ None
two_ways true c x y h k = absurd (grind arith)
two_ways false c x y h k = aborted c y k

-- ---- operations that don't fold
tail_of : {X : Type 0} → List X → List X
tail_of [] = []
tail_of (x ∷ xs) = xs

at_fold_to_constant : Each (λ (row : List ℕ × integers.Rule). has_rule FoldToConstant row.0 ≡ true) (tail_of rules)
unfolding rules_for table rules tail_of
at_fold_to_constant = (refl, (refl, (refl, (refl, (refl, (refl, (refl, (refl, (refl, (refl, (refl, (refl, (refl, (refl, (refl, (refl, (refl, (refl, (refl, (refl, (refl, (refl, (refl, (refl, tt))))))))))))))))))))))))

first_is : (name : List ℕ) → bytes_eq name (codes "arith.constant") ≡ false → next_to name (tail_of rules) ≡ None → rule_of name ≡ None
unfolding rules rule_of tail_of
first_is name e rest = rw (e) rest

unfolded : (name : List ℕ) (p : List (List ℕ × AttrTerm)) (xs : List (Option Known)) (ts : List TypeTerm) → rule_of name ≡ None → fold_of name p xs ts ≡ None
unfolding fold_of
unfolded name p xs [] e = refl
unfolded name p xs (ty ∷ []) e = rw (e) (choose (list_all (is_property name) p) None None refl refl)
unfolded name p xs (ty ∷ u ∷ us) e = refl

-- ---- operations that have effects, or stay whatever they do
abbrev Goes : List ℕ → Type 0
Goes name = has_rule EraseDead name ≡ false → (k : EffectKinds) → (not (is_kept name) && dead.may_go (effects_by (own_of name) k)) ≡ false

pub next_to_or : {A : Type 0} (P : List ℕ → Type 0) (rows : List (List ℕ × A)) (name : List ℕ) → Each (λ (row : List ℕ × A). P row.0) rows → (next_to name rows ≡ None → P name) → P name
next_to_or P [] name each none = none refl
next_to_or P (row ∷ more) name each none = by (bytes_eq name row.0) refl (λ rest. next_to_or P more name each.1 rest) none
  where
    by : (t : Bool) → bytes_eq name row.0 ≡ t → ((next_to name more ≡ None → P name) → P name) → ((if t then Some row.1 else next_to name more) ≡ None → P name) → P name
    by true e rest none = subst P (sym (name_is name row.0 e)) each.0
    by false e rest none = rest none

at_erase_dead : Each (λ (row : List ℕ × Row). Goes row.0) rows
unfolding rules_for table rows row_of
at_erase_dead = (λ e k. refl, (λ e k. never e, (λ e k. refl, (λ e k. refl, (λ e k. refl, (λ e k. never e, (λ e k. never e, (λ e k. never e, (λ e k. never e, (λ e k. never e, (λ e k. never e, (λ e k. never e, (λ e k. never e, (λ e k. never e, (λ e k. never e, (λ e k. never e, (λ e k. never e, (λ e k. never e, (λ e k. never e, (λ e k. never e, (λ e k. never e, (λ e k. never e, (λ e k. never e, (λ e k. never e, (λ e k. never e, (λ e k. never e, (λ e k. never e, (λ e k. never e, (λ e k. never e, (λ e k. never e, (λ e k. never e, (λ e k. never e, (λ e k. never e, (λ e k. refl, (λ e k. refl, (λ e k. never e, (λ e k. refl, (λ e k. never e, (λ e k. refl, tt)))))))))))))))))))))))))))))))))))))))

unlisted : (name : List ℕ) → next_to name rows ≡ None → Goes name
unfolding row_of
unlisted name e lacks k = rw (e) (and_right _ false refl)

goes_of : (name : List ℕ) → Goes name
goes_of name = next_to_or Goes rows name at_erase_dead (unlisted name)

goes_not : (t o : Operation) → has_rule EraseDead (head o).name ≡ false → is_erasable t o ≡ false
unfolding is_erasable
goes_not t (op h rs) lacks = and_right (is_unused h.id t) _ (goes_of h.name lacks (regions_effects own_of rs))

stopped_or : {X : Type 0} (b c : Bool) (r : Option X) → (b ≡ false → r ≡ None) → when (not b && c) r ≡ None
stopped_or true c r h = refl
stopped_or false true r h = h refl
stopped_or false false r h = refl

-- ---- each rule
module _ (t : Operation) (n : ℕ) (insertion : Place) (o : Operation) where
  abbrev h : Header
  h = head o

  abbrev Without : Rule → Type 0
  Without r = has_rule r h.name ≡ false

  none_swap_constant : Without SwapConstant → swap_constant t n insertion o ≡ None
  none_swap_constant lacks = two_among commutative h _ _ (elsewhere SwapConstant commutative h.name at_swap_constant lacks)

  none_drop_zero : Without DropZero → drop_zero t n insertion o ≡ None
  none_drop_zero lacks = two_among with_zero_as_right_identity h _ _ (elsewhere DropZero with_zero_as_right_identity h.name at_drop_zero lacks)

  none_drop_one : Without DropOne → drop_one t n insertion o ≡ None
  none_drop_one lacks = two_among with_one_as_right_identity h _ _ (elsewhere DropOne with_one_as_right_identity h.name at_drop_one lacks)

  none_cancel_itself : Without CancelItself → cancel_itself t n insertion o ≡ None
  none_cancel_itself lacks = two_among self_inverse h _ _ (elsewhere CancelItself self_inverse h.name at_cancel_itself lacks)

  none_keep_itself : Without KeepItself → keep_itself t n insertion o ≡ None
  none_keep_itself lacks = two_among idempotent h _ _ (elsewhere KeepItself idempotent h.name at_keep_itself lacks)

  none_zero_remainder : Without ZeroRemainder → zero_remainder t n insertion o ≡ None
  none_zero_remainder lacks = two_among remainders h _ _ (elsewhere ZeroRemainder remainders h.name at_zero_remainder lacks)

  none_regroup_constants : Without RegroupConstants → regroup_constants t n insertion o ≡ None
  none_regroup_constants lacks = two_none h.name h.operands h.results _ (λ p s. aborted (among associative p.name) _ (ap (among associative) s ∙ elsewhere RegroupConstants associative h.name at_regroup_constants lacks))

  none_drop_all_ones : Without DropAllOnes → drop_all_ones t n insertion o ≡ None
  none_drop_all_ones lacks = two_none h.name h.operands h.results _ (λ p s. stopped_first (named (codes "arith.andi") p.name) _ _ (ap (named (codes "arith.andi")) s ∙ another DropAllOnes (codes "arith.andi") h.name at_drop_all_ones lacks))

  none_add_negative : Without AddNegative → add_negative t n insertion o ≡ None
  none_add_negative lacks = two_named (codes "arith.subi") h _ (another AddNegative (codes "arith.subi") h.name at_add_negative lacks)

  none_compare_itself : Without CompareItself → compare_itself t n insertion o ≡ None
  none_compare_itself lacks = two_named (codes "arith.cmpi") h _ (another CompareItself (codes "arith.cmpi") h.name at_compare_itself lacks)

  none_mirror_comparison : Without MirrorComparison → mirror_comparison t n insertion o ≡ None
  none_mirror_comparison lacks = two_named (codes "arith.cmpi") h _ (another MirrorComparison (codes "arith.cmpi") h.name at_mirror_comparison lacks)

  none_compare_zero : Without CompareZero → compare_zero t n insertion o ≡ None
  none_compare_zero lacks = two_named (codes "arith.cmpi") h _ (another CompareZero (codes "arith.cmpi") h.name at_compare_zero lacks)

  none_expand_difference : Without ExpandDifference → expand_difference t n insertion o ≡ None
  none_expand_difference lacks = two_named (codes "arith.subi") h _ (another ExpandDifference (codes "arith.subi") h.name at_expand_difference lacks)

  none_choose_same : Without ChooseSame → choose_same t n insertion o ≡ None
  none_choose_same lacks = three_named (codes "arith.select") h _ (another ChooseSame (codes "arith.select") h.name at_choose_same lacks)

  none_choose_known : Without ChooseKnown → choose_known t n insertion o ≡ None
  none_choose_known lacks = three_named (codes "arith.select") h _ (another ChooseKnown (codes "arith.select") h.name at_choose_known lacks)

  none_choose_truth : Without ChooseTruth → choose_truth t n insertion o ≡ None
  none_choose_truth lacks = three_named (codes "arith.select") h _ (another ChooseTruth (codes "arith.select") h.name at_choose_truth lacks)

  none_choose_opposite : Without ChooseOpposite → choose_opposite t n insertion o ≡ None
  none_choose_opposite lacks = three_named (codes "arith.select") h _ (another ChooseOpposite (codes "arith.select") h.name at_choose_opposite lacks)

  none_extend_extension : Without ExtendExtension → extend_extension t n insertion o ≡ None
  none_extend_extension lacks = one_among extensions h _ (elsewhere ExtendExtension extensions h.name at_extend_extension lacks)

  none_cut_cast : Without CutCast → cut_cast t n insertion o ≡ None
  none_cut_cast lacks = one_named (codes "arith.trunci") h _ (another CutCast (codes "arith.trunci") h.name at_cut_cast lacks)

  none_cast_back : Without CastBack → cast_back t n insertion o ≡ None
  none_cast_back lacks = one_none h.name h.operands h.results _ (λ p s. two_ways (named (codes "builtin.unrealized_conversion_cast") p.name) (among index_casts p.name) _ _
      (ap (named (codes "builtin.unrealized_conversion_cast")) s ∙ another CastBack (codes "builtin.unrealized_conversion_cast") h.name at_cast_back_unrealized lacks)
      (ap (among index_casts) s ∙ elsewhere CastBack index_casts h.name at_cast_back lacks))

  none_open_branch : Without OpenBranch → open_branch t insertion o ≡ None
  none_open_branch lacks = aborted (named (codes "scf.if") h.name) _ (another OpenBranch (codes "scf.if") h.name at_open_branch lacks)

  none_open_loop : Without OpenLoop → open_loop t insertion o ≡ None
  none_open_loop lacks = aborted (named (codes "scf.for") h.name) _ (another OpenLoop (codes "scf.for") h.name at_open_loop lacks)

  none_stop_loop : Without StopLoop → stop_loop t insertion o ≡ None
  none_stop_loop lacks = aborted (named (codes "scf.while") h.name) _ (another StopLoop (codes "scf.while") h.name at_stop_loop lacks)

  none_expand_min_max : Without ExpandMinMax → expand_min_max t n insertion o ≡ None
  none_expand_min_max lacks = two_next_to predicate_of_min_max h _ (nothing_next_to ExpandMinMax predicate_of_min_max h.name at_expand_min_max lacks)

  none_expand_remainder : Without ExpandRemainder → expand_remainder t n insertion o ≡ None
  none_expand_remainder lacks = two_next_to division_of_remainder h _ (nothing_next_to ExpandRemainder division_of_remainder h.name at_expand_remainder lacks)

  none_lower_index : Without LowerIndex → lower_index t n insertion o ≡ None
  none_lower_index lacks = stopped_first (among index_users h.name) _ _ (elsewhere LowerIndex index_users h.name at_lower_index lacks)

  none_lower_loop : Without LowerLoop → lower_loop t n insertion o ≡ None
  none_lower_loop lacks = stopped_first (named (codes "scf.for") h.name) _ _ (another LowerLoop (codes "scf.for") h.name at_lower_loop lacks)

  none_lower_choice : Without LowerChoice → lower_choice t n insertion o ≡ None
  none_lower_choice lacks = stopped_first (named (codes "scf.if") h.name) _ _ (another LowerChoice (codes "scf.if") h.name at_lower_choice lacks)

  none_erase_dead : Without EraseDead → erase_dead t n insertion o ≡ None
  none_erase_dead lacks = aborted (is_erasable t o) _ (goes_not t o lacks)

  nothing_to : (ts : List TypeTerm) (x : Option Known) → x ≡ None → folded_to t n insertion o ts x ≡ None
  nothing_to [] x e = refl
  nothing_to (ty ∷ []) None e = refl
  nothing_to (ty ∷ []) (Some k) e = absurd (grind arith)
  nothing_to (ty ∷ u ∷ us) x e = refl

  none_fold_to_constant : Without FoldToConstant → fold_to_constant t n insertion o ≡ None
  none_fold_to_constant lacks = stopped_or (named (codes "arith.constant") h.name) _ _
      (λ e. nothing_to h.results _ (unfolded h.name h.properties _ h.results (first_is h.name e (nothing_next_to FoldToConstant (tail_of rules) h.name at_fold_to_constant lacks))))

-- a rule that isn't listed doesn't apply
pub only_listed : OnlyListed
unfolding rule
only_listed EraseDead = none_erase_dead
only_listed FoldToConstant = none_fold_to_constant
only_listed SwapConstant = none_swap_constant
only_listed DropZero = none_drop_zero
only_listed DropOne = none_drop_one
only_listed DropAllOnes = none_drop_all_ones
only_listed CancelItself = none_cancel_itself
only_listed KeepItself = none_keep_itself
only_listed ZeroRemainder = none_zero_remainder
only_listed RegroupConstants = none_regroup_constants
only_listed AddNegative = none_add_negative
only_listed CompareItself = none_compare_itself
only_listed MirrorComparison = none_mirror_comparison
only_listed CompareZero = none_compare_zero
only_listed ChooseSame = none_choose_same
only_listed ChooseKnown = none_choose_known
only_listed ChooseTruth = none_choose_truth
only_listed ChooseOpposite = none_choose_opposite
only_listed ExtendExtension = none_extend_extension
only_listed CutCast = none_cut_cast
only_listed CastBack = none_cast_back
only_listed OpenBranch = none_open_branch
only_listed OpenLoop = none_open_loop
only_listed StopLoop = none_stop_loop
only_listed ExpandMinMax = none_expand_min_max
only_listed ExpandDifference = none_expand_difference
only_listed ExpandRemainder = none_expand_remainder
only_listed LowerIndex = none_lower_index
only_listed LowerLoop = none_lower_loop
only_listed LowerChoice = none_lower_choice
