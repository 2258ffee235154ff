-- Canonicalization of modules without unrealized casts, and without loops and conditionals of `scf`, refines what
-- they compute.
use Rattle.std.proofs.Common.{◌≡◌, ℕ, zero, suc, refl, ap, sym, ◌∙◌, subst, List, [], ◌∷◌, Bool, true, false, true≢false, ◌&&◌, ◌||◌, not, Some, ◌⊎◌, inl, inr, slice_get}
use Rattle.std.specs.Prelude.{codes}
use Rattle.std.specs.List.{list_any}
use Rattle.std.proofs.lemmas.Option.{none-some, same_Some}
use Rattle.ir_types.specs.declared.bits.BitsKind.{BitsKind}
use Rattle.ir_types.specs.declared.bits.BitsKind.TheVariants as kind
use Rattle.ir_tree.specs.Tree.{head}
use Rattle.ir_tree_laws.specs.Members.{In}
use Rattle.ir_event.specs.Modules.{Module}
use Rattle.patterns_laws.specs.Keeps.{Each as EachOf}
use Rattle.patterns_laws.specs.Words.{named}
use Rattle.patterns_base.specs.declared.rule.Rule.{Rule}
use Rattle.patterns_base.specs.declared.rule.Rule.TheVariants.{AddNegative, CancelItself, CastBack}
use Rattle.patterns_base.specs.declared.rule.Rule.TheVariants.{ChooseKnown, ChooseOpposite, ChooseSame}
use Rattle.patterns_base.specs.declared.rule.Rule.TheVariants.{ChooseTruth, CompareItself, CompareZero}
use Rattle.patterns_base.specs.declared.rule.Rule.TheVariants.{CutCast, DropAllOnes, DropOne}
use Rattle.patterns_base.specs.declared.rule.Rule.TheVariants.{DropZero, EraseDead, ExtendExtension}
use Rattle.patterns_base.specs.declared.rule.Rule.TheVariants.{FoldToConstant, KeepItself, MirrorComparison}
use Rattle.patterns_base.specs.declared.rule.Rule.TheVariants.{OpenBranch, OpenLoop, RegroupConstants}
use Rattle.patterns_base.specs.declared.rule.Rule.TheVariants.{StopLoop, SwapConstant, ZeroRemainder}
use Rattle.patterns_base.specs.Canonicalization.{End, canonicalization_of, ended, greedy_rules}
use Rattle.patterns_base.specs.RuleNames.{all_rules}
use Rattle.patterns_base.specs.Rewrites.{becomes, rewrite_of}
use Rattle.patterns_base.specs.Rules.{OnlyListed, has_rule}
use Rattle.patterns_soundness.specs.Accepted.{AreAccepted}
use Rattle.greedy.specs.Rewriting.{IsOfItsRules}
use Rattle.patterns_refinement.specs.Canonical.{CanonicalizationKeeps, IsPlain, is_plain, opening_rules}
use Rattle.patterns_refinement.specs.Keeping.{IsReady}
use Rattle.patterns_refinement.specs.Runs.{kept_rules}
use Rattle.patterns_refinement.specs.Narrow.{HaveKinds, NarrowCanonicalizationKeeps, is_narrow}
use Rattle.patterns_refinement.proofs.AllKept.{all_kept}
use Rattle.patterns_refinement.proofs.CastingBack.{cast_back_gives, cast_back_ready, casts_back}
use Rattle.patterns_refinement.proofs.Listed.{led}
use Rattle.patterns_refinement.proofs.NarrowRules.{fine_narrow, truth_narrow}
use Rattle.patterns_refinement.proofs.PlainRules.{AllPlain, IsFine, all_plain, fine_add_negative, fine_cancel_itself, fine_choose_known, fine_choose_opposite, fine_choose_same, fine_choose_truth, fine_compare_itself, fine_compare_zero, fine_cut_cast, fine_drop_all_ones, fine_drop_one, fine_drop_zero, fine_erase_dead, fine_extend_extension, fine_fold_to_constant, fine_keep_itself, fine_mirror_comparison, fine_regroup_constants, fine_swap_constant, fine_zero_remainder}
use Rattle.patterns_refinement.proofs.Ruled.{ruled}
use Rattle.patterns_refinement.proofs.Running.{rules_under}
use Rattle.patterns_refinement.proofs.Trees.{each_found}
use Rattle.patterns_refinement.specs.Passing.{KeptAt}

-- ---- the rules of canonicalization: each refines, or doesn't apply at operations with plain names
at_place : (k : ℕ) (rs : List Rule) (r : Rule) → slice_get rs k ≡ Some r → In r rs
at_place zero [] r e = absurd (none-some r e)
at_place (suc k) [] r e = absurd (none-some r e)
at_place zero (s ∷ rs) r e = inl (sym (same_Some _ _ e))
at_place (suc k) (s ∷ rs) r e = inr (at_place k rs r e)

three_false : (u a b c : Bool) → (not u && not (a || (b || (c || false)))) ≡ true → (a ≡ false) × (b ≡ false) × (c ≡ false)
three_false false false false false e = (refl, refl, refl)
three_false false true b c e = absurd (true≢false (sym e))
three_false false false true c e = absurd (true≢false (sym e))
three_false false false false true e = absurd (true≢false (sym e))
three_false true a b c e = absurd (true≢false (sym e))

opening_lack : (name : List ℕ) → is_plain name ≡ true → (has_rule OpenBranch name ≡ false) × (has_rule OpenLoop name ≡ false) × (has_rule StopLoop name ≡ false)
opening_lack name e = three_false (named (codes "builtin.unrealized_conversion_cast") name) (has_rule OpenBranch name) (has_rule OpenLoop name) (has_rule StopLoop name) e

no_unrealized : (name : List ℕ) → is_plain name ≡ true → named (codes "builtin.unrealized_conversion_cast") name ≡ false
no_unrealized name e = go (named (codes "builtin.unrealized_conversion_cast") name) (list_any (λ r. has_rule r name) opening_rules) e
  where
    go : (b c : Bool) → (not b && not c) ≡ true → b ≡ false
    go false c e = refl
    go true c e = absurd (true≢false (sym e))

abbrev IsKnown : Rule → Type 0
IsKnown r = (In r kept_rules × IsFine r) ⊎ ((r ≡ CastBack) ⊎ ((name : List ℕ) → is_plain name ≡ true → has_rule r name ≡ false))

all_known : EachOf IsKnown greedy_rules
unfolding all_rules
all_known =
    (inl (at_place 0 kept_rules EraseDead refl, fine_erase_dead), (inl (at_place 1 kept_rules FoldToConstant refl, fine_fold_to_constant), (inl (at_place 2 kept_rules SwapConstant refl, fine_swap_constant), (inl (at_place 3 kept_rules DropZero refl, fine_drop_zero), (inl (at_place 4 kept_rules DropOne refl, fine_drop_one), (inl (at_place 5 kept_rules DropAllOnes refl, fine_drop_all_ones), (inl (at_place 6 kept_rules CancelItself refl, fine_cancel_itself), (inl (at_place 7 kept_rules KeepItself refl, fine_keep_itself), (inl (at_place 8 kept_rules ZeroRemainder refl, fine_zero_remainder), (inl (at_place 9 kept_rules RegroupConstants refl, fine_regroup_constants), (inl (at_place 10 kept_rules AddNegative refl, fine_add_negative), (inl (at_place 11 kept_rules CompareItself refl, fine_compare_itself), (inl (at_place 12 kept_rules MirrorComparison refl, fine_mirror_comparison), (inl (at_place 13 kept_rules CompareZero refl, fine_compare_zero), (inl (at_place 14 kept_rules ChooseSame refl, fine_choose_same), (inl (at_place 15 kept_rules ChooseKnown refl, fine_choose_known), (inl (at_place 16 kept_rules ChooseTruth refl, fine_choose_truth), (inl (at_place 17 kept_rules ChooseOpposite refl, fine_choose_opposite), (inl (at_place 18 kept_rules ExtendExtension refl, fine_extend_extension), (inl (at_place 19 kept_rules CutCast refl, fine_cut_cast), (inr (inl refl), (inr (inr (λ name e. (opening_lack name e).0)), (inr (inr (λ name e. (opening_lack name e).1)), (inr (inr (λ name e. (opening_lack name e).2)), tt))))))))))))))))))))))))

one_known : (rs : List Rule) → EachOf IsKnown rs → (r : Rule) → In r rs → IsKnown r
one_known [] k r i = absurd i
one_known (s ∷ rs) k r (inl i) = subst IsKnown (sym i) k.0
one_known (s ∷ rs) k r (inr i) = one_known rs k.1 r i

fine_cast_back : IsFine CastBack
fine_cast_back t n insertion o = record { simple = λ es e. let g = cast_back_gives t n insertion o es e in subst (AllPlain (head o)) g.1 (tt, (tt, tt)) }

-- ---- invariants of rewrites
-- ---- runs of them
module _ (accepted : AreAccepted) (only : OnlyListed) where
  abbrev pub IsStep : Module → Module → ℕ → Type 0
  IsStep m p x = IsPlain p × KeptAt m p x

  -- a rule that creates only operations with plain names keeps the module plain
  pub plain_after : (m p : Module) (x : ℕ) (r : Rule) → IsFine r → IsReady m → IsPlain m → rewrite_of r m x ≡ becomes p → IsPlain p
  plain_after m p x r fine ready simple e =
      let q = ruled accepted r m p x ready.wellformed ready.sorted e in
      subst IsPlain q.module_is (all_plain (head q.here) q.edits m ((fine m.tree m.next q.insertion q.here).simple q.edits q.made) simple)

  back_step : (m p : Module) (x : ℕ) → IsReady m → IsPlain m → rewrite_of CastBack m x ≡ becomes p → IsStep m p x
  back_step m p x ready simple e =
      let q = ruled accepted CastBack m p x ready.wellformed ready.sorted e in
      let name = (each_found (λ h. is_plain h.name ≡ true) x m.tree simple q.here q.found).0 in (
        plain_after m p x CastBack fine_cast_back ready simple e,
        (cast_back_ready accepted m p x ready e, (λ a done c. casts_back accepted m p x q.here a done ready c q.found (no_unrealized (head q.here).name name) e)),
      )

  -- the other rules don't apply in a plain module
  never : (m p : Module) (x : ℕ) (r : Rule) → IsReady m → IsPlain m → ((name : List ℕ) → is_plain name ≡ true → has_rule r name ≡ false) → rewrite_of r m x ≡ becomes p → ⊥
  never m p x r ready simple lacks e =
      let q = ruled accepted r m p x ready.wellformed ready.sorted e in
      let name = (each_found (λ h. is_plain h.name ≡ true) x m.tree simple q.here q.found).0 in
      none-some q.edits (sym (only r m.tree m.next q.insertion q.here (lacks (head q.here).name name)) ∙ q.made)

  pub one_step : (m p : Module) (x : ℕ) (r : Rule) → In r greedy_rules → IsReady m → IsPlain m → rewrite_of r m x ≡ becomes p → IsStep m p x
  one_step m p x r i ready simple e = go (one_known greedy_rules all_known r i)
    where
      go : IsKnown r → IsStep m p x
      go (inl k) =
          let keeps = all_kept accepted kept_rules (λ r i. i) r k.0 in
          (plain_after m p x r k.1 ready simple e, (keeps.0 m p x ready e, (λ a done c. keeps.1 m p x a done ready c e)))
      go (inr (inl same)) = back_step m p x ready simple (ap (λ r. rewrite_of r m x) (sym same) ∙ e)
      go (inr (inr lacks)) = absurd (never m p x r ready simple lacks e)

  pub canonicalization_keeps : IsOfItsRules → CanonicalizationKeeps
  canonicalization_keeps own limit m n k e ready simple i =
      let l = led greedy_rules limit k m n e (own limit m ∙ i) in
      let r = rules_under IsPlain greedy_rules (λ r i m p x simple ready e. one_step m p x r i ready simple e) l.0 m n simple ready l.1 in
      (r.1.0, r.0, r.1.1, r.1.2)

  -- a step keeps the kinds of a module's values within a set that has `i1`
  pub kinds_step : (good : BitsKind → Bool) → good (kind.Int 1) ≡ true → (m p : Module) (x : ℕ) (r : Rule) → In r greedy_rules → IsReady m → IsPlain m → HaveKinds good m → rewrite_of r m x ≡ becomes p → HaveKinds good p
  kinds_step good l m p x r i ready simple value_kinds e = go (one_known greedy_rules all_known r i)
    where
      go : IsKnown r → HaveKinds good p
      go (inl k) = fine_narrow good accepted l r k.1 m p x ready value_kinds e
      go (inr (inl same)) = fine_narrow good accepted l CastBack fine_cast_back m p x ready value_kinds (ap (λ r. rewrite_of r m x) (sym same) ∙ e)
      go (inr (inr lacks)) = absurd (never m p x r ready simple lacks e)

  pub canonicalization_kinds : IsOfItsRules → (good : BitsKind → Bool) → good (kind.Int 1) ≡ true
      → (limit : ℕ) (m n : Module) (k : ℕ) (e : End) → IsReady m → IsPlain m → HaveKinds good m → canonicalization_of limit m ≡ ended n k e → HaveKinds good n
  canonicalization_kinds own good l limit m n k e ready simple value_kinds i =
      let d = led greedy_rules limit k m n e (own limit m ∙ i) in
      let r =
      rules_under (λ m. IsPlain m × HaveKinds good m) greedy_rules (λ r i m p x s ready e. let t = one_step m p x r i ready s.0 e in ((t.0, kinds_step good l m p x r i ready s.0 s.1 e), t.1)) d.0 m n (simple, value_kinds) ready d.1 in
      r.0.1

  pub canonicalization_narrow : IsOfItsRules → NarrowCanonicalizationKeeps
  canonicalization_narrow own most some limit m n k e ready simple narrow i =
      canonicalization_kinds own (is_narrow most) (truth_narrow most some) limit m n k e ready simple narrow i
