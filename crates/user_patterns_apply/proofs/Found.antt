-- The edits of a pattern, computed from the view of an operation.
use Rattle.std.proofs.Common.{◌≡◌, refl, ap, sym, ◌∙◌, subst, ℕ, [], ◌∷◌, Bool, true, false, Option, Some, None, option_map}
use Rattle.std.specs.Prelude.{is_some}
use Rattle.ir_event.specs.types.Things.{ContextModel}
use Rattle.ir_event.specs.trees.declared.place.Place.{Place}
use Rattle.ir_event.specs.trees.Tree.{head}
use Rattle.ir_event.specs.trees.Ids.{find}
use Rattle.ir_event.specs.trees.Meaning.{Operation}
use Rattle.ir_event.specs.Modules.{Module, module_in}
use Rattle.ir_event.specs.declared.world.World.{World}
use Rattle.patterns_lowering.specs.Held.{TransactionModel, module_held}
use Rattle.patterns_base.specs.Keeps.{given}
use Rattle.patterns_base.specs.Looks.{Header, insertion_of, is_verified, when}
use Rattle.patterns_base.specs.Rewrites.{carried_out, rewrite_by}
use Rattle.patterns_matchers.specs.Reads.{head_at}
use Rattle.patterns.specs.Applied.{RewriteOutcome}
use Rattle.patterns.proofs.Applying.{same_module}
use Rattle.user_patterns_data.specs.Planning.{Plan}
use Rattle.user_patterns_data.specs.Shapes.{PatternModel}
use Rattle.user_patterns_apply.specs.Built.{plan_in, plan_of}
use Rattle.user_patterns_apply.specs.declared.rewrite_plan.BuildPlan.{BuildPlan}
use Rattle.user_patterns_apply.specs.Own.{edits_for, is_one, user_pattern_edits, user_pattern_rewrite}
use Rattle.user_patterns_apply.specs.Mismatches.{Test, first_failing, first_of, user_pattern_mismatch, plan_tests, point_of, point_tests, tests_at, unless, with_value}
use Rattle.user_patterns_apply.specs.declared.mismatch.Mismatch.{Mismatch}
use Rattle.user_patterns_apply.specs.declared.mismatch.Mismatch.TheVariants as fails
use Rattle.user_patterns_check.specs.Outcomes.{given as given_data}
use Rattle.user_patterns_data.specs.Matching.{when as when_data}
use Rattle.user_patterns_apply.specs.Planned.{planned_edits}
use Rattle.user_patterns_apply.specs.declared.match_pattern.PlacedBuild.{PlacedBuild}

module _ (p : PatternModel) (m : Module) (x : ℕ) where
  abbrev plan : Option Plan
  plan = plan_of m.tree (is_verified m.tree) m.next p x

  edits_are : user_pattern_edits p m x ≡ given (find x m.tree) (λ o. given (insertion_of x m.tree) (λ insertion. when (is_one (head o).results) (edits_for insertion x (plan_of m.tree (is_verified m.tree) m.next p x))))
  unfolding user_pattern_edits
  edits_are = refl

  -- the edits at the insertion point of the operation
  edits_at : user_pattern_edits p m x ≡ given (point_of x m.tree) (λ point. edits_for point x (plan_of m.tree (is_verified m.tree) m.next p x))
  edits_at = edits_are ∙ go (find x m.tree)
    where
      in_one : (z : Bool) (f : Option Place) → given f (λ point. when z (edits_for point x plan)) ≡ given (when_data z f) (λ point. edits_for point x plan)
      in_one true None = refl
      in_one true (Some f) = refl
      in_one false None = refl
      in_one false (Some f) = refl

      go : (o : Option Operation) → given o (λ o. given (insertion_of x m.tree) (λ point. when (is_one (head o).results) (edits_for point x plan)))
          ≡ given (given_data o (λ o. when_data (is_one (head o).results) (insertion_of x m.tree))) (λ point. edits_for point x plan)
      go None = refl
      go (Some o) = in_one (is_one (head o).results) (insertion_of x m.tree)

  mismatch_is : user_pattern_mismatch p m x ≡ first_of (plan_tests m.tree (is_verified m.tree) m.next p x) (point_tests x m.tree)
  unfolding user_pattern_mismatch
  mismatch_is = refl

  -- without a plan
  pub no_plan : None ≡ plan_of m.tree (is_verified m.tree) m.next p x → None ≡ user_pattern_edits p m x
  no_plan e = go (point_of x m.tree) ∙ ap (λ q. given (point_of x m.tree) (λ point. edits_for point x q)) e ∙ sym edits_at
    where
      go : (f : Option Place) → None ≡ given f (λ point. edits_for point x None)
      go None = refl
      go (Some f) = refl

  pub plan_fails : (r : Mismatch) → Some r ≡ plan_tests m.tree (is_verified m.tree) m.next p x → Some r ≡ user_pattern_mismatch p m x
  plan_fails r e = ap (λ z. first_of z (point_tests x m.tree)) e ∙ sym mismatch_is

  -- without an insertion point
  pub no_point : None ≡ point_of x m.tree → None ≡ user_pattern_edits p m x
  no_point e = ap (λ f. given f (λ point. edits_for point x (plan_of m.tree (is_verified m.tree) m.next p x))) e ∙ sym edits_at

  module _ (passes : None ≡ plan_tests m.tree (is_verified m.tree) m.next p x) where
    by_point : point_tests x m.tree ≡ user_pattern_mismatch p m x
    by_point = ap (λ z. first_of z (point_tests x m.tree)) passes ∙ sym mismatch_is

    pub point_fails : (r : Test) → r ≡ point_tests x m.tree → r ≡ user_pattern_mismatch p m x
    point_fails r e = e ∙ by_point

  pub some_plan : (c : ContextModel) (f : Place) → Some f ≡ point_of x m.tree → (built : BuildPlan) → Some (plan_in c m.next built) ≡ plan_of m.tree (is_verified m.tree) m.next p x → Some (planned_edits c m.next x (record { point = f; built = built })) ≡ user_pattern_edits p m x
  some_plan c f at built is =
      ap (edits_for f x) is ∙ ap (λ z. given z (λ point. edits_for point x (plan_of m.tree (is_verified m.tree) m.next p x))) at ∙ sym edits_at

-- ---- the insertion point, from the view of an operation

module _ (x : ℕ) (t : Operation) where
  pub nowhere : None ≡ head_at x t → None ≡ point_of x t
  nowhere e = go (find x t) e
    where
      go : (o : Option Operation) → None ≡ option_map (λ o. head o) o → None ≡ given_data o (λ o. when_data (is_one (head o).results) (insertion_of x t))
      go None e = refl
      go (Some o) e = absurd cc

  pub nowhere_fails : None ≡ head_at x t → Some fails.Results ≡ point_tests x t
  nowhere_fails e = go (find x t) e
    where
      go : (o : Option Operation) → None ≡ option_map (λ o. head o) o → Some fails.Results ≡ with_value o fails.Results (λ o. tests_at (is_one (head o).results) (insertion_of x t))
      go None e = refl
      go (Some o) e = absurd cc

  module _ (h : Header) (shown : Some h ≡ head_at x t) (b : Bool) (e : b ≡ is_one h.results) where
    point_is : point_of x t ≡ when_data b (insertion_of x t)
    point_is = go (find x t) shown
      where
        go : (o : Option Operation) → Some h ≡ option_map (λ o. head o) o → given_data o (λ o. when_data (is_one (head o).results) (insertion_of x t)) ≡ when_data b (insertion_of x t)
        go None i = absurd cc
        go (Some o) i = (let one : h ≡ head o = cc in ap (λ z. when_data z (insertion_of x t)) (sym (e ∙ ap (λ (z : Header). is_one z.results) one)))

    tests_are : point_tests x t ≡ tests_at b (insertion_of x t)
    tests_are = go (find x t) shown
      where
        go : (o : Option Operation) → Some h ≡ option_map (λ o. head o) o → with_value o fails.Results (λ o. tests_at (is_one (head o).results) (insertion_of x t)) ≡ tests_at b (insertion_of x t)
        go None i = absurd cc
        go (Some o) i = (let one : h ≡ head o = cc in ap (λ z. tests_at z (insertion_of x t)) (sym (e ∙ ap (λ (z : Header). is_one z.results) one)))

    pub not_single : b ≡ false → None ≡ point_of x t
    not_single n = sym (point_is ∙ ap (λ z. when_data z (insertion_of x t)) n)

    pub not_single_fails : b ≡ false → Some fails.Results ≡ point_tests x t
    not_single_fails n = sym (tests_are ∙ ap (λ z. tests_at z (insertion_of x t)) n)

    module _ (single : b ≡ true) (f : Option Place) (at : f ≡ insertion_of x t) where
      pub single_point : f ≡ point_of x t
      single_point = at ∙ sym (point_is ∙ ap (λ z. when_data z (insertion_of x t)) single)

      pub single_tests : first_failing (unless (is_some f) fails.IsRoot ∷ []) ≡ point_tests x t
      single_tests = ap (λ z. first_failing (unless (is_some z) fails.IsRoot ∷ [])) at ∙ sym (tests_are ∙ ap (λ z. tests_at z (insertion_of x t)) single)

-- ---- the rewriter's IR state, and the module that it holds

rewrite_is : (p : PatternModel) (m : Module) (x : ℕ) → user_pattern_rewrite p m x ≡ rewrite_by (user_pattern_edits p m x) m
unfolding user_pattern_rewrite
rewrite_is p m x = refl

module _ (w : World) (h : TransactionModel) (ctx : w.ctx ≡ h.ctx) (store : w.store ≡ h.store) (x : ℕ) (p : PatternModel) (r : Option PlacedBuild) (is : option_map (planned_edits w.ctx (module_in w).next x) r ≡ user_pattern_edits p (module_in w) x) where
  same : module_in w ≡ module_held h
  same = same_module w h ctx store x

  rewritten : user_pattern_rewrite p (module_held h) x ≡ rewrite_by (option_map (planned_edits w.ctx (module_in w).next x) r) (module_held h)
  rewritten = rewrite_is p (module_held h) x ∙ ap (λ m. rewrite_by (user_pattern_edits p m x) (module_held h)) (sym same) ∙ ap (λ q. rewrite_by q (module_held h)) (sym is)

  pub was_none : r ≡ None → RewriteOutcome (user_pattern_rewrite p (module_held h) x) false (module_held h) (module_held h)
  was_none n =
      subst (λ a. RewriteOutcome a false (module_held h) (module_held h))
      (sym (rewritten ∙ ap (λ q. rewrite_by (option_map (planned_edits w.ctx (module_in w).next x) q) (module_held h)) n))
      (refl, refl)

  pub rewrite_due : (q : PlacedBuild) → r ≡ Some q → user_pattern_rewrite p (module_held h) x ≡ carried_out (planned_edits h.ctx (module_held h).next x q) (module_held h)
  rewrite_due q found =
      rewritten ∙ ap (λ q. rewrite_by (option_map (planned_edits w.ctx (module_in w).next x) q) (module_held h)) found
      ∙ λ i. carried_out (planned_edits (ctx i) (same i).next x q) (module_held h)

  pub edits_due : (q : PlacedBuild) → r ≡ Some q → user_pattern_edits p (module_held h) x ≡ Some (planned_edits h.ctx (module_held h).next x q)
  edits_due q found =
      ap (λ m. user_pattern_edits p m x) (sym same) ∙ sym is ∙ ap (option_map (planned_edits w.ctx (module_in w).next x)) found
      ∙ λ i. Some (planned_edits (ctx i) (same i).next x q)
