-- A module in which a value, existing or new, replaces an operation's result, computes what the module computed.
use Rattle.std.proofs.Common.{◌≡◌, ℕ, ◌+◌, ◌<◌, ◌≤◌, refl, ap, sym, ◌∙◌, subst, List, [], ◌∷◌, ◌++◌, map, Bool, true, false, inl, arith}
use Rattle.std.specs.Prelude.{if◌then◌else◌}
use Rattle.std.specs.List.{list_all}
use Rattle.std.proofs.lemmas.Bool.{and_from, and_parts, le-ltb, lt-ltb}
use Rattle.ir_types.specs.Words.{is_isolated}
use Rattle.ir_tree.specs.declared.value.Value.{Value}
use Rattle.ir_tree.specs.declared.value.Value.TheVariants.{Result, Arg}
use Rattle.ir_tree.specs.declared.place.Place.{Place}
use Rattle.ir_tree.specs.Tree.{head}
use Rattle.ir_tree.specs.Edits.{put_value, put_values}
use Rattle.ir_tree.specs.Ids.{HasDistinctIds}
use Rattle.ir_tree.specs.Uses.{same_value}
use Rattle.ir_tree.specs.WellFormed.{IsWellFormed}
use Rattle.ir_tree.specs.Meaning.{Operation}
use Rattle.ir_tree.proofs.Replaced.{same_value_true}
use Rattle.ir_tree_laws.specs.Values.{has_value}
use Rattle.ir_tree_laws.proofs.Listed.{all_each}
use Rattle.ir_event.specs.Modules.{Module}
use Rattle.user_patterns_check.specs.Checks.{refines}
use Rattle.rewriter_machine.specs.Contents.{all_edited}
use Rattle.rewriter_machine.specs.Edits.{Make}
use Rattle.patterns_base.specs.Makes.{give}
use Rattle.patterns_base.specs.Lists.{Free}
use Rattle.user_patterns_data.specs.Matching.{Header}
use Rattle.patterns_refinement.specs.Meaning.{AreOfTypes, Assignment, Each, FitsAll, TypedEach, is_arithmetic, owner}
use Rattle.patterns_refinement.specs.Observing.{Shows, is_computed}
use Rattle.patterns_refinement.specs.After.{OperandsStand, rewritten, with_made}
use Rattle.patterns_refinement.specs.Applied.{Agree, IsBelow}
use Rattle.patterns_refinement.specs.Better.{AllBetter, AllSure, AreKinded, gives}
use Rattle.patterns_refinement.proofs.Frees.{Was, free_still, was_new, was_old}
use Rattle.patterns_refinement.specs.Keeping.{Computing, Improves, IsFed, done_after, is_there}
use Rattle.patterns_refinement.proofs.Applying.{all_edited_made}
use Rattle.patterns_refinement.proofs.Edited.{each_both}
use Rattle.patterns_refinement.proofs.EditsForm.{all_wellformed, made_plain}
use Rattle.patterns_refinement.proofs.Wellformed.{is_below, operands_stand}
use Rattle.patterns_refinement.proofs.Lifted.{IsBetterWith, IsReady, all_put_better, lifted, old_ready}
use Rattle.patterns_refinement.proofs.Monotone.{itself}
use Rattle.patterns_refinement.proofs.Rewritten.{AllBare, AllPut, all_put, given_each, operands_same}
use Rattle.patterns_refinement.proofs.Origins.{IsKept, KeepsKinds, Replaces, kept_put, kinds_themselves, replaces_computed, rewritten_kinds}
use Rattle.patterns_refinement.proofs.Showing.{IsReplaceable, all_better, all_through, replaced_shows}
use Rattle.patterns_refinement.proofs.Trees.{value_below}

-- ---- the operations executed after a rewrite
module _ (n x : ℕ) (done : ℕ → Bool) where
  pub after_old : (y : ℕ) → y < n → done_after n x done y ≡ done y
  after_old y l = ap (λ b. if b then done y else done x) (lt-ltb y n l)

  pub after_new : (y : ℕ) → n ≤ y → done_after n x done y ≡ done x
  after_new y l = ap (λ b. if b then done y else done x) (le-ltb y n l)

-- the value that replaces the result of operation x, with outcomes of all new operations
pub record Making (a : Assignment) (n x : ℕ) (done : ℕ → Bool) (made : List Operation) (v : Value) : Type 0 where
  pub outcomes : Assignment
  pub agrees : Agree n a outcomes
  pub bare : AllBare made
  pub typed : TypedEach outcomes n made
  pub ready : AllPut (IsReady outcomes (done_after n x done)) n made
  pub fed : AllPut (IsFed (done_after n x done)) n made
  pub numbers : AllPut (λ h. is_arithmetic h ≡ true) n made
  pub better : done x ≡ true → refines (outcomes (Result x 0)) (outcomes v) ≡ true
  pub there : done x ≡ true → is_there (done_after n x done) v ≡ true

module _ (a : Assignment) (n x : ℕ) (done : ℕ → Bool) (made : List Operation) (v : Value) (k : Making a n x done made v) (t : Operation) (below : IsBelow n t) (operands : OperandsStand t) (within : x < n) (computing : Computing a done t) where
  abbrev c : Assignment
  c = k.outcomes

  abbrev later : ℕ → Bool
  later = done_after n x done

  was : (y : ℕ) → y < n → done_after n x done y ≡ true → done y ≡ true
  was y l e = sym (after_old n x done y l) ∙ e

  there_better : (ws : List Value) → list_all (is_there done) ws ≡ true → AllBetter (map c ws) (map c (map (put_value (Result x 0) v) ws))
  there_better [] e = tt
  there_better (w ∷ ws) e = let h = and_parts (is_there done w) (list_all (is_there done) ws) e in (go (same_value (Result x 0) w) refl h.0, there_better ws h.1)
    where
      go : (b : Bool) → same_value (Result x 0) w ≡ b → is_there done w ≡ true → refines (c w) (c (if b then v else w)) ≡ true
      go true i s = let same = same_value_true (Result x 0) w i in subst (λ u. refines (c u) (c v) ≡ true) same (k.better (ap (is_there done) same ∙ s))
      go false i s = itself (c w)

  old_better : Each (IsBetterWith c later (map (put_value (Result x 0) v))) t
  old_better = each_both (IsFed done) (λ h. h.id < n) (IsBetterWith c later (map (put_value (Result x 0) v))) (λ h p q i. there_better h.operands (p (was h.id q i))) t computing.fed below

  new_better : (y : ℕ) (os : List Operation) → n ≤ y → AllPut (IsBetterWith c later (map (put_value (Result x 0) v))) y os
  new_better y [] l = tt
  new_better y (o ∷ os) l = (
    (λ i. all_put_better c (Result x 0) v (k.better (sym (after_new n x done y l) ∙ i)) (head o).operands),
    new_better (y + 1) os (omega (arith, l)),
  )

  still_there : (ws : List Value) → list_all (λ v. has_value v t) ws ≡ true → list_all (is_there done) ws ≡ true → list_all (is_there (done_after n x done)) ws ≡ true
  still_there [] s e = refl
  still_there (w ∷ ws) s e =
      let h = and_parts (is_there done w) (list_all (is_there done) ws) e in
      let g = and_parts (has_value w t) (list_all (λ v. has_value v t) ws) s in
      and_from (is_there later w) (list_all (is_there later) ws) (one w (value_below n t below w g.0) h.0) (still_there ws g.1 h.1)
    where
      one : (w : Value) → owner w < n → is_there done w ≡ true → is_there (done_after n x done) w ≡ true
      one (Result y j) l e = after_old n x done y l ∙ e
      one (Arg y r j) l e = refl

  old_fed : Each (IsFed later) t
  old_fed =
      each_both (IsFed done) Located (IsFed later) (λ h p q i. still_there h.operands q.1 (p (was h.id q.0 i))) t computing.fed
      (each_both (λ h. h.id < n) (λ h. list_all (λ v. has_value v t) h.operands ≡ true) Located (λ h p q. (p, q)) t below operands)
    where
      Located : Header → Type 0
      Located h = (h.id < n) × (list_all (λ v. has_value v t) h.operands ≡ true)

  put_there : (ws : List Value) → list_all (is_there (done_after n x done)) ws ≡ true → list_all (is_there (done_after n x done)) (map (put_value (Result x 0) v) ws) ≡ true
  put_there [] e = refl
  put_there (w ∷ ws) e =
      let h = and_parts (is_there later w) (list_all (is_there later) ws) e in
      and_from (is_there later (put_value (Result x 0) v w)) (list_all (is_there later) (map (put_value (Result x 0) v) ws)) (go (same_value (Result x 0) w) refl h.0) (put_there ws h.1)
    where
      go : (b : Bool) → same_value (Result x 0) w ≡ b → is_there (done_after n x done) w ≡ true → is_there (done_after n x done) (if b then v else w) ≡ true
      go true i s = k.there (was x within (ap (is_there later) (same_value_true (Result x 0) w i) ∙ s))
      go false i s = s

  all_were : (insertion : Place) → HasDistinctIds t → Each (Was n done later t) (rewritten insertion n made x v t)
  all_were insertion d =
      given_each a c n x v done (Was n done (done_after n x done) t) (λ h p. p) (with_made insertion n made t)
      (all_put (Was n done (done_after n x done) t) insertion n made t (was_new n done (done_after n x done) t n made (omega arith)) k.bare (was_old n done (done_after n x done) t d was))

  all_plain : (insertion : Place) → HasDistinctIds t → Each (Was n (λ y. true) (λ y. true) t) (rewritten insertion n made x v t)
  all_plain insertion d =
      given_each a c n x v done (Was n (λ y. true) (λ y. true) t) (λ h p. p) (with_made insertion n made t)
      (all_put (Was n (λ y. true) (λ y. true) t) insertion n made t (was_new n (λ y. true) (λ y. true) t n made (omega arith)) k.bare (was_old n (λ y. true) (λ y. true) t d (λ y l i. refl)))

  old_kept : (now : Assignment) → ((w : Value) → refines (c w) (now w) ≡ true) → (u : Operation) → KeepsKinds n t u → Replaces n x v t u a (done_after n x done) → Each (λ h. IsKept n t u a now (done_after n x done) h (put_values (Result x 0) v h)) t
  old_kept now better u value_kinds replaces =
      each_both (IsBetterWith c later (map (put_value (Result x 0) v))) (λ h. list_all (λ v. has_value v t) h.operands ≡ true) (λ h. IsKept n t u a now later h (put_values (Result x 0) v h))
      (λ h p s. kept_put n x v t u a now later value_kinds replaces h (λ w i. value_below n t below w (all_each (λ v. has_value v t) h.operands s w i))
      (λ i.
      all_through (map a h.operands) (map c (map (put_value (Result x 0) v) h.operands)) (map now (map (put_value (Result x 0) v) h.operands))
      (subst (λ zs. AllBetter zs (map c (map (put_value (Result x 0) v) h.operands))) (operands_same a c n x v done k.agrees t below h.operands s) (p i))
      (all_better c now better (map (put_value (Result x 0) v) h.operands)))) t old_better operands

  all_fed : (insertion : Place) → Each (IsFed later) (rewritten insertion n made x v t)
  all_fed insertion =
      given_each a c n x v done (IsFed (done_after n x done)) (λ h p i. put_there h.operands (p i)) (with_made insertion n made t) (all_put (IsFed (done_after n x done)) insertion n made t k.fed k.bare old_fed)

-- the operation is arithmetic or may be erased
pub replaced_improves : (m n : Module) (x : ℕ) (a : Assignment) (done : ℕ → Bool) (insertion : Place) (made : List Operation) (v : Value) → IsWellFormed is_isolated m → x < m.next → IsReplaceable x m.tree
    → Replaces m.next x v m.tree (rewritten insertion m.next made x v m.tree) a (done_after m.next x done) → Computing a done m.tree → AreKinded n.tree
    → Making a m.next x done made v → Free (map (λ o. Make insertion o) made ++ give x v) m → all_edited (map (λ o. Make insertion o) made ++ give x v) m ≡ n → Improves a done m (done_after m.next x done) n.tree
replaced_improves m n x a done insertion made v wellformed within replaceable replaces computing kinded k free e =
    let c = k.outcomes in
    let later = done_after m.next x done in
    let is : n.tree ≡ rewritten insertion m.next made x v m.tree = ap (λ (m : Module). m.tree) (sym e) ∙ all_edited_made insertion made x v m in
    let below = is_below m.next m.tree wellformed.below in
    let operands = operands_stand is_isolated m.tree wellformed.distinct wellformed.wellformed.visible in
    let after_wellformed = subst (IsWellFormed is_isolated) e (all_wellformed _ m (made_plain insertion made _ k.bare (tt, (tt, tt))) wellformed free) in
    let s =
    lifted a c m.next x v done later k.agrees m.tree below operands insertion made k.bare (subst (λ t. HasDistinctIds t) is after_wellformed.distinct) (subst AreKinded is kinded) computing.typed k.typed
    (old_ready a c m.next x v done later k.agrees m.tree below operands (was a m.next x done made v k m.tree below operands within computing) computing.fits computing.sure)
    k.ready
    (old_better a m.next x done made v k m.tree below operands within computing) (new_better a m.next x done made v k m.tree below operands within computing m.next made (omega arith)) in
    let free : (w : Value) → owner w < m.next → gives done m.tree w ≡ false → gives later (rewritten insertion m.next made x v m.tree) w ≡ false =
    free_still m.next done later m.tree (rewritten insertion m.next made x v m.tree) (all_were a m.next x done made v k m.tree below operands within computing insertion wellformed.distinct) in
    record {
      now = s.now;
      better = λ w l. subst (λ o. refines o (s.now w) ≡ true) (k.agrees w l) (s.better w);
      stays = λ w l e. s.stays w (free w l e) ∙ k.agrees w l;
      free = λ w l e. ap (λ t. gives later t w) is ∙ free w l e;
      computing = record {
        fits = subst (λ t. FitsAll s.now later t) (sym is) s.fits;
        typed = subst (λ t. AreOfTypes s.now t) (sym is) s.typed;
        sure = subst (λ t. AllSure s.now later t) (sym is) s.sure;
        fed = subst (λ t. Each (IsFed later) t) (sym is) (all_fed a m.next x done made v k m.tree below operands within computing insertion);
      };
      shows =
          let u = rewritten insertion m.next made x v m.tree in
          let value_kinds = rewritten_kinds m.next m.tree x v insertion made k.bare (kinds_themselves m.next m.tree wellformed.distinct below) in
          let kept = old_kept a m.next x done made v k m.tree below operands within computing s.now s.better u value_kinds replaces in
          let simple = free_still m.next (λ y. true) (λ y. true) m.tree u (all_plain a m.next x done made v k m.tree below operands within computing insertion wellformed.distinct) in
          subst (Shows a s.now m later) (sym is) (replaced_shows m x v insertion made a s.now later wellformed.distinct replaceable k.bare k.numbers kept simple);
    }

-- the operation is arithmetic
pub given_improves : (m n : Module) (x : ℕ) (a : Assignment) (done : ℕ → Bool) (insertion : Place) (made : List Operation) (v : Value) → IsWellFormed is_isolated m → x < m.next → is_computed m.tree (Result x 0) ≡ true → Computing a done m.tree → AreKinded n.tree
    → Making a m.next x done made v → Free (map (λ o. Make insertion o) made ++ give x v) m → all_edited (map (λ o. Make insertion o) made ++ give x v) m ≡ n → Improves a done m (done_after m.next x done) n.tree
given_improves m n x a done insertion made v wellformed within root =
    replaced_improves m n x a done insertion made v wellformed within (inl root) (replaces_computed m.next x v m.tree (rewritten insertion m.next made x v m.tree) a (done_after m.next x done) root)

-- an existing value that refines the result
pub old_given : (a : Assignment) (n x : ℕ) (done : ℕ → Bool) (v : Value) → owner v < n → (done x ≡ true → refines (a (Result x 0)) (a v) ≡ true) → (done x ≡ true → is_there done v ≡ true) → Making a n x done [] v
old_given a n x done v l better there = record {
  outcomes = a;
  agrees = λ w h. refl;
  bare = tt;
  typed = tt;
  ready = tt;
  fed = tt;
  numbers = tt;
  better = better;
  there = λ e. one v l (there e);
}
  where
    one : (w : Value) → owner w < n → is_there done w ≡ true → is_there (done_after n x done) w ≡ true
    one (Result y j) l e = after_old n x done y l ∙ e
    one (Arg y r j) l e = refl
