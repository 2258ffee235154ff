-- The listed rules keep the kinds of a module's values within a set that has `i1`. So they keep narrow modules narrow.
use Rattle.std.proofs.Common.{◌≡◌, ℕ, zero, suc, ◌<◌, ◌≤◌, refl, sym, ◌∙◌, subst, List, [], ◌∷◌, Bool, true, false, eqb, Some, slice_get, inl, inr, arith}
use Rattle.std.specs.Prelude.{if◌then◌else◌, nat_le}
use Rattle.std.proofs.lemmas.Bool.Decides.{nat_tests}
use Rattle.std.proofs.lemmas.Option.{none-some, same_Some}
use Rattle.ir_types.specs.declared.bits.BitsKind.{BitsKind}
use Rattle.ir_types.specs.declared.bits.BitsKind.TheVariants as kind
use Rattle.ir_types.specs.Terms.{AttrTerm, TypeTerm}
use Rattle.ir_tree.specs.declared.value.Value.TheVariants.{Arg, Result}
use Rattle.ir_tree.specs.declared.place.Part.{Part}
use Rattle.ir_tree.specs.declared.place.Part.TheVariants.{Attrs, Props}
use Rattle.ir_tree.specs.Tree.{head}
use Rattle.ir_tree.specs.Edits.{at, change_part, put_operand, put_values}
use Rattle.ir_tree.specs.Meaning.{Operation}
use Rattle.ir_tree_laws.specs.Members.{In}
use Rattle.ir_tree_laws.specs.Values.{type_of_value}
use Rattle.ir_event.specs.Modules.{Module}
use Rattle.dialects_int.specs.Folds.{kind_of}
use Rattle.rewriter_machine.specs.Contents.{Edit, all_edited, edited}
use Rattle.rewriter_machine.specs.Edits.{DropAttr, Erase, Insert, Make, Move, Replace, SetAttr, SetOperand}
use Rattle.patterns_laws.specs.Made.{i1}
use Rattle.patterns_laws.proofs.KnownFolds.{given_some}
use Rattle.patterns_base.specs.declared.rule.Rule.{Rule}
use Rattle.patterns_base.specs.Rewrites.{becomes, rewrite_of}
use Rattle.patterns_soundness.specs.Accepted.{AreAccepted}
use Rattle.user_patterns_data.specs.Matching.{Header}
use Rattle.patterns_refinement.specs.Meaning.{Each, EachBlock}
use Rattle.patterns_refinement.specs.Better.{kind_in}
use Rattle.patterns_refinement.specs.Keeping.{IsReady}
use Rattle.patterns_refinement.specs.Runs.{kept_rules}
use Rattle.patterns_refinement.specs.Narrow.{HaveKinds, NarrowRulesKeep, is_narrow}
use Rattle.patterns_refinement.proofs.Edited.{blocks_below, blocks_changed, blocks_without, each_both, each_changed, each_without}
use Rattle.patterns_refinement.proofs.Wellformed.{is_below}
use Rattle.patterns_refinement.proofs.PlainRules.{AllPlain, IsFine, IsTypedBy, MakesPlain, fine_add_negative, fine_cancel_itself, fine_choose_known, fine_choose_opposite, fine_choose_same, fine_choose_truth, fine_compare_itself, fine_compare_zero, fine_cut_cast, fine_drop_all_ones, fine_drop_one, fine_drop_zero, fine_erase_dead, fine_expand_difference, fine_expand_min_max, fine_extend_extension, fine_fold_to_constant, fine_keep_itself, fine_mirror_comparison, fine_regroup_constants, fine_swap_constant, fine_zero_remainder}
use Rattle.patterns_refinement.proofs.Readied.{HasKind, kinds_are}
use Rattle.patterns_refinement.proofs.Rewritten.{all_blocks, all_put}
use Rattle.patterns_refinement.proofs.Ruled.{ruled}
use Rattle.patterns_refinement.proofs.Trees.{ArgumentsAre, ResultsAre, each_found, typed_found}

-- ---- types of kinds of a set
abbrev pub IsSmall : (BitsKind → Bool) → TypeTerm → Type 0
IsSmall good ty = (k : BitsKind) → kind_of ty ≡ Some k → good k ≡ true

abbrev pub AllSmall : (BitsKind → Bool) → List TypeTerm → Type 0
AllSmall good tys = (k : ℕ) (ty : TypeTerm) → slice_get tys k ≡ Some ty → IsSmall good ty

pub alone_small : (good : BitsKind → Bool) (ty : TypeTerm) → IsSmall good ty → AllSmall good (ty ∷ [])
alone_small good ty s zero uy e = subst (IsSmall good) (same_Some ty uy e) s
alone_small good ty s (suc k) uy e = absurd (none-some uy e)

module _ (good : BitsKind → Bool) where
  abbrev SmallHead : Header → Type 0
  SmallHead h = AllSmall good h.results

  abbrev SmallBlock : ℕ → ℕ → List TypeTerm → Type 0
  SmallBlock y r args = AllSmall good args

  -- the types of all values of a tree
  pub record AreSmall (t : Operation) : Type 0 where
    pub results : Each (λ h. AllSmall good h.results) t
    pub arguments : EachBlock (λ y r args. AllSmall good args) t

  pub narrow_of : (m : Module) → AreSmall m.tree → HaveKinds good m
  narrow_of m s v k e = let g = given_some (type_of_value v m.tree) kind_of k e in typed_found (λ w ty. IsSmall good ty) m.tree s.results s.arguments v g.0 g.1 k g.2

  pub small_of : (m : Module) → IsReady m → HaveKinds good m → AreSmall m.tree
  small_of m ready narrow =
      let old = kinds_are m.tree ready.wellformed.distinct in
      let below = is_below m.next m.tree ready.wellformed.below in
      record {
        results = each_both (ResultsAre (HasKind (kind_in m.tree))) (λ h. h.id < m.next) SmallHead (λ h p l k ty e j i. narrow (Result h.id k) j (p k ty e ∙ i)) m.tree old.results below;
        arguments = blocks_below (ArgumentsAre (HasKind (kind_in m.tree))) SmallBlock m.next (λ y r args l p k ty e j i. narrow (Arg y r k) j (p k ty e ∙ i)) m.tree below old.arguments;
      }

  -- ---- edits
  changed_at : (x : ℕ) (f : Header → Header) → ((h : Header) → SmallHead h → SmallHead (f h)) → (h : Header) → SmallHead h → SmallHead (at x f h)
  changed_at x f keeps h p = go (eqb h.id x)
    where
      go : (b : Bool) → SmallHead (if b then f h else h)
      go true = keeps h p
      go false = p

  same_id : (x : ℕ) (f : Header → Header) → ((h : Header) → h.id ≡ (f h).id) → (h : Header) → h.id ≡ (at x f h).id
  same_id x f same h = go (eqb h.id x)
    where
      own : Header → ℕ
      own h = h.id

      go : (b : Bool) → h.id ≡ own (if b then f h else h)
      go true = same h
      go false = refl

  changed_part : (part : Part) (f : List (List ℕ × AttrTerm) → List (List ℕ × AttrTerm)) (h : Header) → SmallHead h → SmallHead (change_part part f h)
  changed_part Props f h p = p
  changed_part Attrs f h p = p

  part_id : (part : Part) (f : List (List ℕ × AttrTerm) → List (List ℕ × AttrTerm)) (h : Header) → h.id ≡ (change_part part f h).id
  part_id Props f h = refl
  part_id Attrs f h = refl

  truth_small : good (kind.Int 1) ≡ true → IsSmall good i1
  truth_small l k e = subst (λ k. good k ≡ true) (same_Some (kind.Int 1) k e) l

  typed_small : (h : Header) → good (kind.Int 1) ≡ true → SmallHead h → (tys : List TypeTerm) → IsTypedBy h tys → AllSmall good tys
  typed_small h l s tys t = subst (AllSmall good) (sym t.1) (alone_small good t.0 (elim t.2 [ inl e ↦ s 0 t.0 e | inr e ↦ subst (IsSmall good) (sym e) (truth_small l) ]))

  one_small : (h : Header) → good (kind.Int 1) ≡ true → SmallHead h → (e : Edit) (m : Module) → MakesPlain h e → AreSmall m.tree → AreSmall (edited e m).tree
  one_small h l s (Make place o) m p r = record {
    results = all_put SmallHead place m.next (o ∷ []) m.tree (typed_small h l s (head o).results p.2, tt) (p.1, tt) r.results;
    arguments = all_blocks SmallBlock place m.next (o ∷ []) m.tree (p.1, tt) r.arguments;
  }
  one_small h l s (Erase x) m p r = record { results = each_without SmallHead x m.tree r.results; arguments = blocks_without SmallBlock x m.tree r.arguments }
  one_small h l s (SetOperand x k v) m p r = record {
    results = each_changed SmallHead SmallHead (at x (put_operand k v)) (changed_at x (put_operand k v) (λ h q. q)) m.tree r.results;
    arguments = blocks_changed SmallBlock (at x (put_operand k v)) (same_id x (put_operand k v) (λ h. refl)) m.tree r.arguments;
  }
  one_small h l s (Replace old new) m p r = record {
    results = each_changed SmallHead SmallHead (put_values old new) (λ h q. q) m.tree r.results;
    arguments = blocks_changed SmallBlock (put_values old new) (λ h. refl) m.tree r.arguments;
  }
  one_small h l s (SetAttr x k a) m p r = record {
    results = each_changed SmallHead SmallHead _ (changed_at x _ (changed_part _ _)) m.tree r.results;
    arguments = blocks_changed SmallBlock _ (same_id x _ (part_id _ _)) m.tree r.arguments;
  }
  one_small h l s (Insert place o) m p r = absurd p
  one_small h l s (Move x place) m p r = absurd p
  one_small h l s (DropAttr x k) m p r = absurd p

  all_small : (h : Header) → good (kind.Int 1) ≡ true → SmallHead h → (es : List Edit) (m : Module) → AllPlain h es → AreSmall m.tree → AreSmall (all_edited es m).tree
  all_small h l s [] m p r = r
  all_small h l s (e ∷ es) m p r = all_small h l s es (edited e m) p.1 (one_small h l s e m p.0 r)

  -- ---- rules
  pub fine_narrow : AreAccepted → good (kind.Int 1) ≡ true → (r : Rule) → IsFine r → (m n : Module) (x : ℕ) → IsReady m → HaveKinds good m → rewrite_of r m x ≡ becomes n → HaveKinds good n
  fine_narrow accepted l r fine m n x ready narrow e =
      let q = ruled accepted r m n x ready.wellformed ready.sorted e in
      let s = small_of m ready narrow in
      let root = (each_found SmallHead x m.tree s.results q.here q.found).0 in
      narrow_of n (subst (λ (n : Module). AreSmall n.tree) q.module_is (all_small (head q.here) l root q.edits m ((fine m.tree m.next q.insertion q.here).simple q.edits q.made) s))

abbrev EachFine : List Rule → Type 0
EachFine [] = Unit {0}
EachFine (r ∷ rs) = IsFine r × EachFine rs

one_fine : (rs : List Rule) → EachFine rs → (r : Rule) → In r rs → IsFine r
one_fine [] k r i = absurd i
one_fine (s ∷ rs) k r (inl i) = subst IsFine (sym i) k.0
one_fine (s ∷ rs) k r (inr i) = one_fine rs k.1 r i

each_fine : EachFine kept_rules
each_fine =
    (fine_erase_dead, (fine_fold_to_constant, (fine_swap_constant, (fine_drop_zero, (fine_drop_one, (fine_drop_all_ones, (fine_cancel_itself, (fine_keep_itself, (fine_zero_remainder, (fine_regroup_constants, (fine_add_negative, (fine_compare_itself, (fine_mirror_comparison, (fine_compare_zero, (fine_choose_same, (fine_choose_known, (fine_choose_truth, (fine_choose_opposite, (fine_extend_extension, (fine_cut_cast, (fine_expand_min_max, (fine_expand_difference, tt))))))))))))))))))))))

pub kept_fine : (r : Rule) → In r kept_rules → IsFine r
kept_fine r i = one_fine kept_rules each_fine r i

pub rules_keep_kinds : AreAccepted → (good : BitsKind → Bool) → good (kind.Int 1) ≡ true → (r : Rule) → In r kept_rules → (m n : Module) (x : ℕ) → IsReady m → HaveKinds good m → rewrite_of r m x ≡ becomes n → HaveKinds good n
rules_keep_kinds accepted good l r i m n x ready value_kinds e = fine_narrow good accepted l r (kept_fine r i) m n x ready value_kinds e

pub truth_narrow : (most : ℕ) → 1 ≤ most → is_narrow most (kind.Int 1) ≡ true
truth_narrow most l = one most l
  where
    one : (most : ℕ) → 1 ≤ most → nat_le 1 most ≡ true
    one most l = grind (arith, nat_tests)

pub narrow_rules_keep : AreAccepted → NarrowRulesKeep
narrow_rules_keep accepted most l r i m n x ready narrow e = rules_keep_kinds accepted (is_narrow most) (truth_narrow most l) r i m n x ready narrow e
