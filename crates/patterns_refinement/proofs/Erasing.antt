-- The rule that erases dead operations keeps modules ready and refines what they compute.
use Rattle.std.proofs.Common.{◌≡◌, ℕ, ◌<◌, refl, ap, sym, ◌∙◌, subst, List, [], ◌∷◌, Bool, true, false, Some}
use Rattle.std.specs.List.{list_all}
use Rattle.std.proofs.lemmas.Option.{same_Some}
use Rattle.ir_types.specs.Words.{is_isolated}
use Rattle.ir_tree.specs.declared.value.Value.{Value}
use Rattle.ir_tree.specs.Tree.{head, op}
use Rattle.ir_tree.specs.Ids.{find}
use Rattle.ir_tree.specs.Places.{without}
use Rattle.ir_tree.specs.WellFormed.{IsWellFormed}
use Rattle.ir_tree.specs.Meaning.{Operation}
use Rattle.ir_tree_laws.specs.Values.{has_value}
use Rattle.ir_event.specs.Modules.{Module}
use Rattle.dialects_int.specs.Folds.{rule_of}
use Rattle.effects.specs.Dead.{is_unused}
use Rattle.rewriter_machine.specs.Contents.{all_edited}
use Rattle.rewriter_machine.specs.Edits.{Erase}
use Rattle.patterns_base.specs.Lists.{Free}
use Rattle.patterns_base.specs.declared.rule.Rule.TheVariants.{EraseDead}
use Rattle.patterns_base.specs.Looks.{is_erasable}
use Rattle.patterns_base.specs.Rewrites.{becomes, rewrite_of}
use Rattle.patterns_base.specs.Rules.{rule}
use Rattle.patterns_base.proofs.Facts.{when_some}
use Rattle.patterns_soundness.specs.Accepted.{AreAccepted}
use Rattle.user_patterns_data.specs.Matching.{Header}
use Rattle.patterns_refinement.specs.Meaning.{ArgumentsOfTypes, Assignment, Each, FitsDone, ResultsOfTypes, result_kind, owner}
use Rattle.patterns_refinement.specs.Applied.{IsBelow}
use Rattle.patterns_refinement.specs.After.{OperandsStand}
use Rattle.patterns_refinement.specs.Better.{AreKinded, IsSure, is_kinded, kind_in, takes_its}
use Rattle.patterns_refinement.specs.Observing.{Shows, Stays, is_computed, is_unmissed}
use Rattle.patterns_refinement.specs.Keeping.{Computing, Improves, IsFed, IsReady, KeepsComputing, KeepsReady, done_after, is_there}
use Rattle.patterns_refinement.proofs.Edited.{blocks_without, each_both, each_without}
use Rattle.patterns_refinement.proofs.EditsForm.{all_wellformed}
use Rattle.patterns_refinement.proofs.Wellformed.{is_below, operands_stand}
use Rattle.patterns_refinement.proofs.Frees.{Was, free_still, was_old}
use Rattle.patterns_refinement.proofs.Giving.{after_old}
use Rattle.patterns_refinement.proofs.Makings.{still_there}
use Rattle.patterns_refinement.proofs.Monotone.{itself}
use Rattle.patterns_refinement.proofs.Readied.{AreKinds, HasKind, Rises, all_rise, each_rises, kinds_are, kinds_found, same_kinds_of}
use Rattle.patterns_refinement.proofs.Ruled.{ruled}
use Rattle.patterns_refinement.proofs.Origins.{Alike, IsKept, all_alike, erased_kinds, kinds_themselves}
use Rattle.patterns_refinement.proofs.Showing.{at_root, erased_follows, kept_so, same_origins, stays_so}
use Rattle.patterns_refinement.proofs.Trees.{ArgumentsAre, ResultsAre, value_below}
use Rattle.std.proofs.lemmas.Bool.{and_from, and_parts}

-- ---- the kinds of operands
less_kinded : (x : ℕ) (t : Operation) → AreKinds (kind_in t) t → AreKinded t → OperandsStand (without x t) → AreKinded (without x t)
less_kinded x t value_types kinded stand =
    let u = without x t in
    let less : AreKinds (kind_in t) u = record {
      results = each_without (ResultsAre (HasKind (kind_in t))) x t value_types.results;
      arguments = blocks_without (ArgumentsAre (HasKind (kind_in t))) x t value_types.arguments;
    } in
    each_both (λ h. is_kinded t h ≡ true) (λ h. list_all (λ v. has_value v u) h.operands ≡ true) (λ h. is_kinded u h ≡ true)
    (λ h p q. ap (takes_its (rule_of h.name) (result_kind h) h) (same_kinds_of (kind_in u) (kind_in t) (λ v. has_value v u) (kinds_found (kind_in t) u less) h.operands q) ∙ p) u
    (each_without (λ h. is_kinded t h ≡ true) x t kinded) stand

-- ---- the operations executed after the rewrite
module _ (n x : ℕ) (done : ℕ → Bool) (t : Operation) (below : IsBelow n t) (operands : OperandsStand t) where
  abbrev later : ℕ → Bool
  later = done_after n x done

  was : (y : ℕ) → y < n → done_after n x done y ≡ true → done y ≡ true
  was y l e = sym (after_old n x done y l) ∙ e

  all_still : (vs : List Value) → list_all (λ v. has_value v t) vs ≡ true → list_all (is_there done) vs ≡ true → list_all (is_there (done_after n x done)) vs ≡ true
  all_still [] s e = refl
  all_still (v ∷ vs) s e =
      let h = and_parts (is_there done v) (list_all (is_there done) vs) e in
      let g = and_parts (has_value v t) (list_all (λ v. has_value v t) vs) s in
      and_from (is_there later v) (list_all (is_there later) vs) (still_there n x done v (value_below n t below v g.0) h.0) (all_still vs g.1 h.1)

  abbrev IsOwn : Header → Type 0
  IsOwn h = (h.id < n) × (list_all (λ v. has_value v t) h.operands ≡ true)

  own : Each IsOwn t
  own = each_both (λ h. h.id < n) (λ h. list_all (λ v. has_value v t) h.operands ≡ true) IsOwn (λ h p q. (p, q)) t below operands

  module _ (a : Assignment) (c : Computing a done t) where
    later_fits : Each (FitsDone a later) t
    later_fits = each_both (FitsDone a done) (λ h. h.id < n) (FitsDone a later) (λ h p q i. p (was h.id q i)) t c.fits below

    later_sure : Each (IsSure a later) t
    later_sure = each_both (IsSure a done) (λ h. h.id < n) (IsSure a later) (λ h p q i. p (was h.id q i)) t c.sure below

    later_fed : Each (IsFed later) t
    later_fed = each_both (IsFed done) IsOwn (IsFed later) (λ h p q i. all_still h.operands q.1 (p (was h.id q.0 i))) t c.fed own

    less_computing : Computing a (done_after n x done) (without x t)
    less_computing = record {
      fits = each_without (FitsDone a later) x t later_fits;
      typed = (each_without (ResultsOfTypes a) x t c.typed.0, blocks_without (ArgumentsOfTypes a) x t c.typed.1);
      sure = each_without (IsSure a later) x t later_sure;
      fed = each_without (IsFed later) x t later_fed;
    }

-- ---- the rule
module _ (accepted : AreAccepted) where
  record Erased (m n : Module) (x : ℕ) : Type 0 where
    pub here : Operation
    pub found : find x m.tree ≡ Some here
    pub unmissed : is_unmissed here ≡ true
    pub free : Free (Erase x ∷ []) m
    pub module_is : all_edited (Erase x ∷ []) m ≡ n

  erased : (m n : Module) (x : ℕ) → IsReady m → rewrite_of EraseDead m x ≡ becomes n → Erased m n x
  unfolding rule is_erasable
  erased m n x ready e =
      let q = ruled accepted EraseDead m n x ready.wellformed ready.sorted e in
      let w = when_some (is_erasable m.tree q.here) (Some (Erase (head q.here).id ∷ [])) q.edits q.made in
      let these : q.edits ≡ Erase x ∷ [] = sym (same_Some _ _ w.1) ∙ ap (λ y. Erase y ∷ []) q.id in
      record {
        here = q.here;
        found = q.found;
        unmissed = (and_parts (is_unused (head q.here).id m.tree) (is_unmissed q.here) w.0).1;
        free = subst (λ es. Free es m) these q.free;
        module_is = subst (λ es. all_edited es m ≡ n) these q.module_is;
      }

  module _ (m n : Module) (x : ℕ) (ready : IsReady m) (q : Erased m n x) where
    tree_is : n.tree ≡ without x m.tree
    tree_is = ap (λ (m : Module). m.tree) (sym q.module_is)

    wellformed_after : IsWellFormed is_isolated n
    wellformed_after = subst (IsWellFormed is_isolated) q.module_is (all_wellformed (Erase x ∷ []) m (tt, tt) ready.wellformed q.free)

    erase_ready : IsReady n
    erase_ready = record {
      wellformed = wellformed_after;
      sorted = all_rise n.tree wellformed_after.distinct (subst (λ t. Each Rises t) (sym tree_is) (each_without Rises x m.tree (each_rises m.tree ready.sorted)));
      kinded =
          subst AreKinded (sym tree_is)
          (less_kinded x m.tree (kinds_are m.tree ready.wellformed.distinct) ready.kinded
          (subst OperandsStand tree_is (operands_stand is_isolated n.tree wellformed_after.distinct wellformed_after.wellformed.visible)));
    }

    erase_improves : (a : Assignment) (done : ℕ → Bool) → Computing a done m.tree → Improves a done m (done_after m.next x done) n.tree
    erase_improves a done c =
        let below = is_below m.next m.tree ready.wellformed.below in
        let operands = operands_stand is_isolated m.tree ready.wellformed.distinct ready.wellformed.wellformed.visible in
        let later = done_after m.next x done in
        let were =
        each_without (Was m.next done later m.tree) x m.tree (was_old m.next done later m.tree ready.wellformed.distinct (was m.next x done m.tree below operands)) in
        let u = without x m.tree in
        let alike = all_alike m.next m.tree u (erased_kinds m.next x m.tree (kinds_themselves m.next m.tree ready.wellformed.distinct below)) below operands in
        let kept : Each (λ h. IsKept m.next m.tree u a a later h h) m.tree =
        each_both (Alike m.tree u) (λ h. h.id < m.next) (λ h. IsKept m.next m.tree u a a later h h) (λ h p l. kept_so m.next m.tree u a a later (λ v. itself (a v)) h p) m.tree alike below in
        let stays : Each (λ h. Stays m.next m.tree u a a later h h) m.tree =
        each_both (Alike m.tree u) (λ h. h.id < m.next) (λ h. Stays m.next m.tree u a a later h h) (λ h p l. stays_so m.next m.tree u a a later (λ v. itself (a v)) h p) m.tree alike below in
        let simple : (v : Value) → owner v < m.next → is_computed m.tree v ≡ false → is_computed u v ≡ false =
        free_still m.next (λ y. true) (λ y. true) m.tree u
        (each_without (Was m.next (λ y. true) (λ y. true) m.tree) x m.tree (was_old m.next (λ y. true) (λ y. true) m.tree ready.wellformed.distinct (λ y l i. refl))) in
        record {
          now = a;
          better = λ v l. itself (a v);
          stays = λ v l e. refl;
          free = free_still m.next done later m.tree n.tree (subst (λ t. Each (Was m.next done later m.tree) t) (sym tree_is) were);
          computing = subst (λ t. Computing a later t) (sym tree_is) (less_computing m.next x done m.tree below operands a c);
          shows =
              subst (Shows a a m later) (sym tree_is)
              (record {
                root = λ e. subst (Stays m.next m.tree u a a later (head m.tree)) (sym (head_without m.tree)) (at_root (λ h. Stays m.next m.tree u a a later h h) m.tree stays);
                follows = erased_follows (Stays m.next m.tree u a a later) m.tree x q.here ready.wellformed.distinct q.found q.unmissed stays;
                simple = simple;
                origins = same_origins m.next m.tree u a a later kept (λ P s. each_without P x m.tree s) simple;
              });
        }
      where
        head_without : (t : Operation) → head (without x t) ≡ head t
        head_without (op h rs) = refl

  pub erase_dead_ready : KeepsReady EraseDead
  erase_dead_ready m n x ready e = erase_ready m n x ready (erased m n x ready e)

  pub erase_dead_computing : KeepsComputing EraseDead
  erase_dead_computing m n x a done ready computing e = erase_improves m n x ready (erased m n x ready e) a done computing
