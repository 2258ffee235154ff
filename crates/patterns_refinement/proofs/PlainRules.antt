-- Rules create operations with names at which the rules on casts back, loops and conditionals don't apply.
use Rattle.std.proofs.Common.{◌≡◌, ℕ, refl, ap, sym, ◌∙◌, subst, List, [], ◌∷◌, map, Bool, true, false, ◌&&◌, ◌||◌, not, eqb, Option, Some, None, slice_get, ◌⊎◌, inl, inr}
use Rattle.std.specs.Prelude.{codes, if◌then◌else◌}
use Rattle.std.specs.List.{list_all}
use Rattle.std.proofs.lemmas.Bool.{and_parts}
use Rattle.std.proofs.lemmas.Option.{none-some, same_Some}
use Rattle.ir_types.specs.SameTypes.{same_type}
use Rattle.ir_types.specs.Terms.{AttrTerm, TypeTerm}
use Rattle.ir_tree.specs.declared.value.Value.{Value}
use Rattle.ir_tree.specs.declared.place.Part.{Part}
use Rattle.ir_tree.specs.declared.place.Part.TheVariants.{Attrs, Props}
use Rattle.ir_tree.specs.declared.place.Place.{Place}
use Rattle.ir_tree.specs.Tree.{head, no_regions, regions}
use Rattle.ir_tree.specs.Edits.{at, change_part, put_operand, put_values}
use Rattle.ir_tree.specs.Uses.{same_value}
use Rattle.ir_tree.specs.Meaning.{Operation}
use Rattle.ir_event.specs.Modules.{Module}
use Rattle.dialects_int.specs.Folds.{Known, fold_of}
use Rattle.rewriter_machine.specs.Contents.{Edit, all_edited, edited}
use Rattle.rewriter_machine.specs.Edits.{DropAttr, Erase, Insert, Make, Move, Replace, SetAttr, SetOperand}
use Rattle.op_registry.specs.Registry.{next_to}
use Rattle.patterns_laws.specs.Keeps.{Each as EachOf, given}
use Rattle.patterns_laws.specs.Made.{i1}
use Rattle.patterns_laws.specs.Words.{among, predicate_of_min_max, self_inverse, extensions, with_one_as_right_identity, with_zero_as_right_identity, idempotent, named, associative, remainders, commutative}
use Rattle.patterns_laws.proofs.KnownFolds.{given_some}
use Rattle.patterns_base.specs.declared.rule.Rule.{Rule}
use Rattle.patterns_base.specs.declared.rule.Rule.TheVariants.{AddNegative, CancelItself, ChooseKnown}
use Rattle.patterns_base.specs.declared.rule.Rule.TheVariants.{ChooseOpposite, ChooseSame, ChooseTruth}
use Rattle.patterns_base.specs.declared.rule.Rule.TheVariants.{CompareItself, CompareZero, CutCast}
use Rattle.patterns_base.specs.declared.rule.Rule.TheVariants.{DropAllOnes, DropOne, DropZero}
use Rattle.patterns_base.specs.declared.rule.Rule.TheVariants.{EraseDead, ExpandDifference, ExpandMinMax}
use Rattle.patterns_base.specs.declared.rule.Rule.TheVariants.{ExtendExtension, FoldToConstant, KeepItself}
use Rattle.patterns_base.specs.declared.rule.Rule.TheVariants.{MirrorComparison, RegroupConstants, SwapConstant}
use Rattle.patterns_base.specs.declared.rule.Rule.TheVariants.{ZeroRemainder}
use Rattle.patterns_base.specs.Casting.{resizing}
use Rattle.patterns_base.specs.Folding.{folded_to, is_all_ones, is_to_swap, may_read}
use Rattle.patterns_base.specs.Looks.{Header, One, Two, defining_op, is_verified, is_number, is_of_type, known, is_erasable, one, one_from, passes, predicate, source, source_among, three, two, two_from, when}
use Rattle.patterns_base.specs.Rules.{rule, rules_for, table}
use Rattle.patterns_base.proofs.Dispatch.{of_among}
use Rattle.patterns_base.proofs.Facts.{when_some}
use Rattle.patterns_refinement.specs.Canonical.{IsPlain, is_plain}
use Rattle.patterns_refinement.proofs.Edited.{each_changed, each_without}
use Rattle.patterns_refinement.proofs.Forms.{named_is}
use Rattle.patterns_refinement.proofs.Rewritten.{all_put}

-- ---- edits that make such operations, of one result: of the type of the first that an operation has, or a truth value
abbrev pub IsTypedBy : Header → List TypeTerm → Type 0
IsTypedBy h tys = (ty : TypeTerm) × (tys ≡ ty ∷ []) × ((slice_get h.results 0 ≡ Some ty) ⊎ (ty ≡ i1))

abbrev pub MakesPlain : Header → Edit → Type 0
MakesPlain h (Make place o) = (is_plain (head o).name ≡ true) × (regions o ≡ no_regions) × IsTypedBy h (head o).results
MakesPlain h (Erase x) = Unit {0}
MakesPlain h (SetOperand x k v) = Unit {0}
MakesPlain h (Replace old new) = Unit {0}
MakesPlain h (SetAttr x k a) = Unit {0}
MakesPlain h _ = ⊥

abbrev pub AllPlain : Header → List Edit → Type 0
AllPlain h [] = Unit {0}
AllPlain h (e ∷ es) = MakesPlain h e × AllPlain h es

abbrev Simple : Header → Type 0
Simple h = is_plain h.name ≡ true

changed_at : (x : ℕ) (f : Header → Header) → ((h : Header) → Simple h → Simple (f h)) → (h : Header) → Simple h → Simple (at x f h)
changed_at x f keeps h p = go (eqb h.id x)
  where
    go : (b : Bool) → Simple (if b then f h else h)
    go true = keeps h p
    go false = p

changed_part : (part : Part) (f : List (List ℕ × AttrTerm) → List (List ℕ × AttrTerm)) (h : Header) → Simple h → Simple (change_part part f h)
changed_part Props f h p = p
changed_part Attrs f h p = p

one_plain : (h : Header) (e : Edit) (m : Module) → MakesPlain h e → IsPlain m → IsPlain (edited e m)
one_plain h (Make place o) m p s = all_put Simple place m.next (o ∷ []) m.tree (p.0, tt) (p.1, tt) s
one_plain h (Erase x) m p s = each_without Simple x m.tree s
one_plain h (SetOperand x k v) m p s = each_changed Simple Simple (at x (put_operand k v)) (changed_at x (put_operand k v) (λ h q. q)) m.tree s
one_plain h (Replace old new) m p s = each_changed Simple Simple (put_values old new) (λ h q. q) m.tree s
one_plain h (SetAttr x k a) m p s = each_changed Simple Simple _ (changed_at x _ (changed_part _ _)) m.tree s
one_plain h (Insert place o) m p s = absurd p
one_plain h (Move x place) m p s = absurd p
one_plain h (DropAttr x k) m p s = absurd p

pub all_plain : (h : Header) (es : List Edit) (m : Module) → AllPlain h es → IsPlain m → IsPlain (all_edited es m)
all_plain h [] m p s = s
all_plain h (e ∷ es) m p s = all_plain h es (edited e m) p.1 (one_plain h e m p.0 s)

-- ---- the results of a rule
pub record Fine (h : Header) (r : Option (List Edit)) : Type 0 where
  pub simple : (es : List Edit) → r ≡ Some es → AllPlain h es

fine_none : {h : Header} → Fine h None
fine_none = record { simple = λ es e. absurd (none-some es e) }

fine_some : {h : Header} (es : List Edit) → AllPlain h es → Fine h (Some es)
fine_some {h} es p = record { simple = λ fs e. subst (AllPlain h) (same_Some _ _ e) p }

fine_when : {h : Header} (b : Bool) (r : Option (List Edit)) → (b ≡ true → Fine h r) → Fine h (when b r)
fine_when true r f = f refl
fine_when false r f = fine_none

fine_given : {h : Header} {X : Type 0} (x : Option X) (f : X → Option (List Edit)) → ((y : X) → x ≡ Some y → Fine h (f y)) → Fine h (given x f)
fine_given None f g = fine_none
fine_given (Some y) f g = g y refl

fine_if : {h : Header} (b : Bool) (r s : Option (List Edit)) → (b ≡ true → Fine h r) → Fine h s → Fine h (if b then r else s)
fine_if true r s f g = f refl
fine_if false r s f g = g

-- types
by_root : (h : Header) (ty : TypeTerm) → slice_get h.results 0 ≡ Some ty → IsTypedBy h (ty ∷ [])
by_root h ty e = (ty, refl, inl e)

by_truth : (h : Header) → IsTypedBy h (i1 ∷ [])
by_truth h = (i1, refl, inr refl)

two_type : (h : Header) (p : Two) → two h ≡ Some p → slice_get h.results 0 ≡ Some p.ty
two_type h p e = go h.operands h.results e
  where
    go : (vs : List Value) (tys : List TypeTerm) → two_from h.name vs tys ≡ Some p → slice_get tys 0 ≡ Some p.ty
    go [] tys e = absurd (none-some p e)
    go (a ∷ []) tys e = absurd (none-some p e)
    go (a ∷ b ∷ c ∷ vs) tys e = absurd (none-some p e)
    go (a ∷ b ∷ []) [] e = absurd (none-some p e)
    go (a ∷ b ∷ []) (ty ∷ uy ∷ tys) e = absurd (none-some p e)
    go (a ∷ b ∷ []) (ty ∷ []) e = let s : record { name = h.name; first = a; second = b; ty = ty } ≡ p = same_Some _ _ e in ap (λ (p : Two). Some p.ty) s

one_type : (h : Header) (p : One) → one h ≡ Some p → slice_get h.results 0 ≡ Some p.ty
one_type h p e = go h.operands h.results e
  where
    go : (vs : List Value) (tys : List TypeTerm) → one_from h.name vs tys ≡ Some p → slice_get tys 0 ≡ Some p.ty
    go [] tys e = absurd (none-some p e)
    go (a ∷ b ∷ vs) tys e = absurd (none-some p e)
    go (a ∷ []) [] e = absurd (none-some p e)
    go (a ∷ []) (ty ∷ uy ∷ tys) e = absurd (none-some p e)
    go (a ∷ []) (ty ∷ []) e = let s : record { name = h.name; first = a; ty = ty } ≡ p = same_Some _ _ e in ap (λ (p : One). Some p.ty) s

-- names
plain_constant : is_plain (codes "arith.constant") ≡ true
unfolding rules_for table
plain_constant = refl

plain_addi : is_plain (codes "arith.addi") ≡ true
unfolding rules_for table
plain_addi = refl

plain_cmpi : is_plain (codes "arith.cmpi") ≡ true
unfolding rules_for table
plain_cmpi = refl

plain_select : is_plain (codes "arith.select") ≡ true
unfolding rules_for table
plain_select = refl

plain_xori : is_plain (codes "arith.xori") ≡ true
unfolding rules_for table
plain_xori = refl

plain_regrouping : EachOf (λ name. is_plain name ≡ true) associative
unfolding rules_for table associative
plain_regrouping = (refl, (refl, (refl, (refl, (refl, tt)))))

plain_extensions : EachOf (λ name. is_plain name ≡ true) extensions
unfolding rules_for table extensions
plain_extensions = (refl, (refl, tt))

plain_cut : is_plain (codes "arith.trunci") ≡ true
unfolding rules_for table
plain_cut = refl

one_name : (h : Header) (p : One) → one h ≡ Some p → p.name ≡ h.name
one_name h p e = go h.operands h.results e
  where
    go : (vs : List Value) (tys : List TypeTerm) → one_from h.name vs tys ≡ Some p → p.name ≡ h.name
    go [] tys e = absurd (none-some p e)
    go (a ∷ b ∷ vs) tys e = absurd (none-some p e)
    go (a ∷ []) [] e = absurd (none-some p e)
    go (a ∷ []) (ty ∷ uy ∷ tys) e = absurd (none-some p e)
    go (a ∷ []) (ty ∷ []) e = let s : record { name = h.name; first = a; ty = ty } ≡ p = same_Some _ _ e in ap (λ (p : One). p.name) (sym s)

source_among_is : (t : Operation) (names : List (List ℕ)) (v : Value) (h : Header) → source_among t names v ≡ Some h → among names h.name ≡ true
source_among_is t names v h e =
    let g = given_some (defining_op t v) (λ h. when (among names h.name && is_verified t h) (Some h)) h e in
    let w = when_some (among names g.0.name && is_verified t g.0) (Some g.0) h g.2 in
    let same : g.0 ≡ h = same_Some _ _ w.1 in
    ap (λ (h : Header). among names h.name) (sym same) ∙ (and_parts (among names g.0.name) (is_verified t g.0) w.0).0

fine_folded : (t : Operation) (n : ℕ) (insertion : Place) (o : Operation) (tys : List TypeTerm) (k : Option Known) → (head o).results ≡ tys → Fine (head o) (folded_to t n insertion o tys k)
fine_folded t n insertion o [] None s = fine_none
fine_folded t n insertion o [] (Some k) s = fine_none
fine_folded t n insertion o (ty ∷ uy ∷ tys) None s = fine_none
fine_folded t n insertion o (ty ∷ uy ∷ tys) (Some k) s = fine_none
fine_folded t n insertion o (ty ∷ []) None s = fine_none
fine_folded t n insertion o (ty ∷ []) (Some k) s = fine_some _ ((plain_constant, refl, by_root (head o) ty (ap (λ tys. slice_get tys 0) s)), (tt, (tt, tt)))

-- ---- each rule
abbrev pub IsFine : Rule → Type 0
IsFine r = (t : Operation) (n : ℕ) (insertion : Place) (o : Operation) → Fine (head o) (rule r t n insertion o)

pub fine_erase_dead : IsFine EraseDead
unfolding rule
fine_erase_dead t n insertion o = fine_when (is_erasable t o) _ (λ e. fine_some _ (tt, tt))

pub fine_fold_to_constant : IsFine FoldToConstant
unfolding rule
fine_fold_to_constant t n insertion o =
    let h = head o in
    fine_when (not (named (codes "arith.constant") h.name) && list_all (may_read t n insertion o) h.operands) _
    (λ e. fine_folded t n insertion o h.results (fold_of h.name h.properties (map (known t) h.operands) h.results) refl)

pub fine_swap_constant : IsFine SwapConstant
unfolding rule
fine_swap_constant t n insertion o = fine_given (two (head o)) _ (λ p i. fine_when (among commutative p.name && is_to_swap t n insertion o p) _ (λ e. fine_some _ (tt, (tt, tt))))

pub fine_drop_zero : IsFine DropZero
unfolding rule
fine_drop_zero t n insertion o = fine_given (two (head o)) _ (λ p i. fine_when (among with_zero_as_right_identity p.name && is_number t 0 p.second) _ (λ e. fine_some _ (tt, (tt, tt))))

pub fine_drop_one : IsFine DropOne
unfolding rule
fine_drop_one t n insertion o = fine_given (two (head o)) _ (λ p i. fine_when (among with_one_as_right_identity p.name && is_number t 1 p.second) _ (λ e. fine_some _ (tt, (tt, tt))))

pub fine_drop_all_ones : IsFine DropAllOnes
unfolding rule
fine_drop_all_ones t n insertion o = fine_given (two (head o)) _ (λ p i. fine_when (named (codes "arith.andi") p.name && passes (is_all_ones p.ty) (known t p.second)) _ (λ e. fine_some _ (tt, (tt, tt))))

pub fine_cancel_itself : IsFine CancelItself
unfolding rule
fine_cancel_itself t n insertion o = fine_given (two (head o)) _ (λ p i. fine_when (among self_inverse p.name && same_value p.first p.second) _ (λ e. fine_some _ ((plain_constant, refl, by_root (head o) p.ty (two_type (head o) p i)), (tt, (tt, tt)))))

pub fine_keep_itself : IsFine KeepItself
unfolding rule
fine_keep_itself t n insertion o = fine_given (two (head o)) _ (λ p i. fine_when (among idempotent p.name && same_value p.first p.second) _ (λ e. fine_some _ (tt, (tt, tt))))

pub fine_zero_remainder : IsFine ZeroRemainder
unfolding rule
fine_zero_remainder t n insertion o = fine_given (two (head o)) _ (λ p i. fine_when (among remainders p.name && is_number t 1 p.second) _ (λ e. fine_some _ ((plain_constant, refl, by_root (head o) p.ty (two_type (head o) p i)), (tt, (tt, tt)))))

pub fine_regroup_constants : IsFine RegroupConstants
unfolding rule
fine_regroup_constants t n insertion o =
    fine_given (two (head o)) _
    (λ p i. fine_when (among associative p.name) _
    (λ e. fine_given (known t p.second) _
    (λ d j. fine_given (source t p.name p.first) _
    (λ y l. fine_given (two y) _
    (λ q s. fine_given (known t q.second) _
    (λ c u. fine_given (fold_of p.name [] (Some c ∷ Some d ∷ []) (p.ty ∷ [])) _
    (λ k v. fine_some _ ((plain_constant, refl, by_root (head o) p.ty (two_type (head o) p i)), ((of_among (λ name. is_plain name ≡ true) associative p.name plain_regrouping e, refl, by_root (head o) p.ty (two_type (head o) p i)), (tt, (tt, tt)))))))))))

pub fine_add_negative : IsFine AddNegative
unfolding rule
fine_add_negative t n insertion o =
    fine_given (two (head o)) _
    (λ p i. fine_when (named (codes "arith.subi") p.name) _
    (λ e. fine_given (known t p.second) _ (λ c j. fine_some _ ((plain_constant, refl, by_root (head o) p.ty (two_type (head o) p i)), ((plain_addi, refl, by_root (head o) p.ty (two_type (head o) p i)), (tt, (tt, tt)))))))

pub fine_compare_itself : IsFine CompareItself
unfolding rule
fine_compare_itself t n insertion o =
    fine_given (two (head o)) _
    (λ p i. fine_when (named (codes "arith.cmpi") p.name) _
    (λ e. fine_given (predicate (head o)) _
    (λ asks j. fine_when (same_value p.first p.second) _ (λ f. fine_some _ ((plain_constant, refl, by_root (head o) p.ty (two_type (head o) p i)), (tt, (tt, tt)))))))

pub fine_mirror_comparison : IsFine MirrorComparison
unfolding rule
fine_mirror_comparison t n insertion o =
    fine_given (two (head o)) _
    (λ p i. fine_when (named (codes "arith.cmpi") p.name) _
    (λ e. fine_given (predicate (head o)) _
    (λ asks j. fine_when (is_to_swap t n insertion o p) _ (λ f. fine_some _ (tt, (tt, (tt, tt)))))))

pub fine_compare_zero : IsFine CompareZero
unfolding rule
fine_compare_zero t n insertion o =
    fine_given (two (head o)) _
    (λ p i. fine_when (named (codes "arith.cmpi") p.name) _
    (λ e. fine_given (predicate (head o)) _
    (λ asks j. fine_when (is_number t 0 p.second && (eqb asks 6 || eqb asks 9)) _ (λ f. fine_some _ ((plain_constant, refl, by_root (head o) p.ty (two_type (head o) p i)), (tt, (tt, tt)))))))

pub fine_choose_same : IsFine ChooseSame
unfolding rule
fine_choose_same t n insertion o =
    fine_given (three (head o)) _
    (λ p i. fine_when (named (codes "arith.select") p.name) _ (λ e. fine_when (same_value p.second p.third) _ (λ f. fine_some _ (tt, (tt, tt)))))

pub fine_choose_known : IsFine ChooseKnown
unfolding rule
fine_choose_known t n insertion o =
    fine_given (three (head o)) _
    (λ p i. fine_when (named (codes "arith.select") p.name) _ (λ e. fine_given (known t p.first) _ (λ c j. fine_some _ (tt, (tt, tt)))))

pub fine_choose_truth : IsFine ChooseTruth
unfolding rule
fine_choose_truth t n insertion o =
    fine_given (three (head o)) _
    (λ p i. fine_when (named (codes "arith.select") p.name) _
    (λ e. fine_when (same_type p.ty i1 && (is_number t 1 p.second && is_number t 0 p.third)) _ (λ f. fine_some _ (tt, (tt, tt)))))

pub fine_choose_opposite : IsFine ChooseOpposite
unfolding rule
fine_choose_opposite t n insertion o =
    fine_given (three (head o)) _
    (λ p i. fine_when (named (codes "arith.select") p.name) _
    (λ e. fine_given (source t (codes "arith.xori") p.first) _
    (λ y j. fine_given (two y) _ (λ q l. fine_when (is_number t 1 q.second) _ (λ f. fine_some _ (tt, (tt, (tt, tt))))))))

pub fine_extend_extension : IsFine ExtendExtension
unfolding rule
fine_extend_extension t n insertion o =
    fine_given (one (head o)) _
    (λ p i. fine_when (among extensions p.name) _
    (λ e. fine_given (source_among t extensions p.first) _
    (λ y j. fine_given (one y) _
    (λ q l. fine_when (named p.name q.name || named (codes "arith.extsi") p.name) _
    (λ f. fine_some _
    ((ap is_plain (one_name y q l) ∙ of_among (λ name. is_plain name ≡ true) extensions y.name plain_extensions (source_among_is t extensions p.first y j), refl, by_root (head o) p.ty (one_type (head o) p i)), (tt, (tt, tt))))))))

pub fine_cut_cast : IsFine CutCast
unfolding rule
fine_cut_cast t n insertion o =
    fine_given (one (head o)) _
    (λ p i. fine_when (named (codes "arith.trunci") p.name) _
    (λ e. fine_given (source_among t resizing p.first) _
    (λ y j. fine_given (one y) _
    (λ q l. fine_if (named (codes "arith.trunci") q.name) _ _
    (λ f. fine_some _ ((ap is_plain (named_is (codes "arith.trunci") q.name f) ∙ plain_cut, refl, by_root (head o) p.ty (one_type (head o) p i)), (tt, (tt, tt))))
    (fine_when (is_of_type t p.ty q.first) _ (λ f. fine_some _ (tt, (tt, tt))))))))

pub fine_expand_min_max : IsFine ExpandMinMax
unfolding rule
fine_expand_min_max t n insertion o =
    fine_given (two (head o)) _
    (λ p i. fine_given (next_to p.name predicate_of_min_max) _
    (λ asks j. fine_some _ ((plain_cmpi, refl, by_truth (head o)), ((plain_select, refl, by_root (head o) p.ty (two_type (head o) p i)), (tt, (tt, tt))))))

pub fine_expand_difference : IsFine ExpandDifference
unfolding rule
fine_expand_difference t n insertion o =
    fine_given (two (head o)) _
    (λ p i.
    let root = by_root (head o) p.ty (two_type (head o) p i) in
    fine_when (named (codes "arith.subi") p.name) _
    (λ e. fine_some _ ((plain_constant, refl, root), ((plain_xori, refl, root), ((plain_constant, refl, root), ((plain_addi, refl, root), ((plain_addi, refl, root), (tt, (tt, tt)))))))))
