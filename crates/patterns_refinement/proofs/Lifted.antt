-- A tree in which a refinement replaces an operation's result computes a refinement of what the tree computed.
use Rattle.std.proofs.Common.{◌≡◌, ℕ, ◌+◌, ◌<◌, refl, ap, sym, ◌∙◌, subst, List, [], ◌∷◌, map, Bool, true, false, Option, Some, inl, inr}
use Rattle.std.specs.Prelude.{is_some, if◌then◌else◌}
use Rattle.std.specs.List.{list_all}
use Rattle.ir_types.specs.declared.bits.BitsKind.{BitsKind}
use Rattle.ir_tree.specs.declared.value.Value.{Value}
use Rattle.ir_tree.specs.declared.value.Value.TheVariants.{Result}
use Rattle.ir_tree.specs.declared.place.Place.{Place}
use Rattle.ir_tree.specs.Tree.{head}
use Rattle.ir_tree.specs.Edits.{put_value, put_values, with_value_replaced}
use Rattle.ir_tree.specs.Ids.{HasDistinctIds}
use Rattle.ir_tree.specs.Uses.{same_value}
use Rattle.ir_tree.specs.Meaning.{Operation}
use Rattle.ir_tree.proofs.Replaced.{same_value_true}
use Rattle.ir_tree_laws.specs.Values.{has_value, type_of_value}
use Rattle.ir_tree_laws.proofs.Reasoned.{some_there}
use Rattle.dialects_int.specs.Folds.{kind_of}
use Rattle.user_patterns_check.specs.Outcomes.{Outcome}
use Rattle.user_patterns_check.specs.Checks.{refines}
use Rattle.patterns_laws.proofs.KnownFolds.{given_some}
use Rattle.user_patterns_data.specs.Matching.{Header}
use Rattle.std.proofs.lemmas.Option.{same_Some}
use Rattle.patterns_refinement.proofs.FlagsKept.{known_refined, obeys_unbroken, still_unbroken}
use Rattle.patterns_refinement.specs.Meaning.{AreOfTypes, ArgumentsOfTypes, Assignment, Each, FitsAll, FitsDone, IsOfType, ResultsOfTypes, TypedEach, is_arithmetic, makes, Obeys, breaks_flags}
use Rattle.patterns_refinement.specs.Applied.{Agree, IsBelow}
use Rattle.patterns_refinement.specs.After.{OperandsStand, rewritten, with_made}
use Rattle.patterns_refinement.specs.Better.{AllBetter, AllSure, AreKinded, AreOf, GivesLess, IsSure, Settled, is_kinded, kind_in, may_overflow, GivesNoLess}
use Rattle.patterns_refinement.proofs.Edited.{each_both, each_changed, each_without}
use Rattle.patterns_refinement.proofs.Monotone.{itself, monotone, through}
use Rattle.patterns_refinement.proofs.Rewritten.{AllBare, AllPut, all_blocks, all_put, given_blocks, given_each, new_typed, old_typed, operands_same, same_makes}
use Rattle.patterns_refinement.proofs.Settling.{settles, sure_stays}
use Rattle.patterns_refinement.proofs.Trees.{TypesFound, types_found}

-- ---- values that replace others
module _ (c : Assignment) (old new : Value) where
  put_better : refines (c old) (c new) ≡ true → (w : Value) → refines (c w) (c (put_value old new w)) ≡ true
  put_better e w = go (same_value old w) refl
    where
      go : (b : Bool) → same_value old w ≡ b → refines (c w) (c (if b then new else w)) ≡ true
      go true i = subst (λ u. refines (c u) (c new) ≡ true) (same_value_true old w i) e
      go false i = itself (c w)

  pub all_put_better : refines (c old) (c new) ≡ true → (ws : List Value) → AllBetter (map c ws) (map c (map (put_value old new) ws))
  all_put_better e [] = tt
  all_put_better e (w ∷ ws) = (put_better e w, all_put_better e ws)

-- ---- known outcomes of operands have their kinds
pub operands_are : (t : Operation) (c : Assignment) → TypesFound c t → (vs : List Value) → AreOf (map (kind_in t) vs) (map c vs)
operands_are t c f [] = tt
operands_are t c f (v ∷ vs) = (
  (λ k x i e.
      let g = given_some (type_of_value v t) kind_of k i in
      same_Some _ _ (sym (subst (λ o. IsOfType g.0 o) e (f v g.0 g.1)).0 ∙ g.2)),
  operands_are t c f vs,
)

-- ---- an operation with other operands
module _ (c : Assignment) (done : ℕ → Bool) where
  -- the operation fits, and isn't a division of poison by -1
  abbrev pub IsReady : Header → Type 0
  IsReady h = done h.id ≡ true → is_arithmetic h ≡ true → Obeys c h.id h × (may_overflow h (map c h.operands) ≡ false)

  -- with refined operands, if it is executed
  abbrev pub IsBetterWith : (List Value → List Value) → Header → Type 0
  IsBetterWith f h = done h.id ≡ true → AllBetter (map c h.operands) (map c (f h.operands))

  module _ (t : Operation) (f : List Value → List Value) (of : TypesFound c t) (h : Header) (ready : IsReady h) (better : IsBetterWith f h) (kinded : is_kinded t (record h { operands = f h.operands }) ≡ true) where
    abbrev g : Header
    g = record h { operands = f h.operands }

    abbrev js : List (Option BitsKind)
    js = map (kind_in t) (f h.operands)

    made : Obeys c h.id h → (z : Outcome) × (makes h (map c h.operands) ≡ Some z) × (refines (c (Result h.id 0)) z ≡ true)
    made (inl e) = (c (Result h.id 0), e.0, itself (c (Result h.id 0)))
    made (inr b) = let s = some_there (makes h (map c h.operands)) b.1 in (s.0, s.1, subst (λ o. refines o s.0 ≡ true) (sym b.2) refl)

    same : makes (record h { operands = f h.operands }) (map c h.operands) ≡ makes h (map c h.operands)
    same = same_makes h h.id (f h.operands) (map c h.operands)

    pub other_gives : GivesLess c done (record h { operands = f h.operands })
    other_gives i j =
        let r = ready i j in
        let m = made r.0 in
        let n = monotone g js (map c h.operands) (map c (f h.operands)) m.0 kinded (operands_are t c of (f h.operands)) r.1 (better i) (same ∙ m.1) in
        let gives : GivesNoLess g (c (Result h.id 0)) (map c (f h.operands)) = record { outcome = n.outcome; is_made = n.is_made; better = through (c (Result h.id 0)) m.0 n.outcome m.2 n.better } in (
          gives,
          (λ k. still_unbroken g (map c h.operands) (map c (f h.operands)) m.0 (same ∙ m.1) (known_refined (c (Result h.id 0)) m.0 m.2 k) (better i) (obeys_unbroken c h.id h r.0 k)),
        )

    pub other_sure : IsSure c done (record h { operands = f h.operands })
    other_sure i j =
        let r = ready i j in
        let m = made r.0 in
        sure_stays g (map c h.operands) (map c (f h.operands)) m.0 (better i) r.1 (same ∙ m.1)

-- ---- a tree
module _ (a c : Assignment) (n x : ℕ) (v : Value) (done later : ℕ → Bool) (agree : Agree n a c) (t : Operation) (below : IsBelow n t) (operands : OperandsStand t) where
  abbrev f : List Value → List Value
  f = map (put_value (Result x 0) v)

  abbrev Both : Header → Type 0
  Both h = FitsDone a done h × IsSure a done h

  abbrev Located : Header → Type 0
  Located h = (h.id < n) × (list_all (λ v. has_value v t) h.operands ≡ true)

  -- the operation still fits, and has refined operands
  abbrev ReadyFor : Header → Type 0
  ReadyFor h = IsReady c later h × IsBetterWith c later (map (put_value (Result x 0) v)) h

  -- an old operation that fits still does
  pub old_ready : ((y : ℕ) → y < n → later y ≡ true → done y ≡ true) → FitsAll a done t → AllSure a done t → Each (IsReady c later) t
  old_ready was fits sure =
      each_both Both Located (IsReady c later) one t
      (each_both (FitsDone a done) (IsSure a done) Both (λ h p q. (p, q)) t fits sure)
      (each_both (λ h. h.id < n) (λ h. list_all (λ v. has_value v t) h.operands ≡ true) Located (λ h p q. (p, q)) t below operands)
    where
      one : (h : Header) → Both h → Located h → IsReady c later h
      one h p q i j =
          let is = was h.id q.0 i in
          let same = operands_same a c n x v done agree t below h.operands q.1 in
          let result = agree (Result h.id 0) q.0 in (
            elim (p.0 is j) [
              | inl e ↦ inl (ap (makes h) same ∙ e.0 ∙ ap (λ o. Some o) (sym result), ap (breaks_flags h) same ∙ e.1)
              | inr b ↦ inr (ap (breaks_flags h) same ∙ b.0, ap is_some (ap (makes h) same) ∙ b.1, result ∙ b.2)
            ],
            ap (may_overflow h) same ∙ p.1 is j,
          )

  module _ (insertion : Place) (made : List Operation) (bare : AllBare made) (distinct : HasDistinctIds (rewritten insertion n made x v t)) (kinded : AreKinded (rewritten insertion n made x v t)) where
    abbrev after : Operation
    after = rewritten insertion n made x v t

    -- the earlier form of an operation
    record Came (h : Header) : Type 0 where
      pub here : Header
      pub is : h ≡ put_values (Result x 0) v here
      pub ready : IsReady c later here
      pub better : IsBetterWith c later (map (put_value (Result x 0) v)) here

    pub lifted : AreOfTypes a t → TypedEach c n made → Each (IsReady c later) t → AllPut (IsReady c later) n made
        → Each (IsBetterWith c later (map (put_value (Result x 0) v))) t → AllPut (IsBetterWith c later (map (put_value (Result x 0) v))) n made
        → Settled c later (rewritten insertion n made x v t)
    lifted typed new ready new_ready better new_better =
        settles c later after distinct kinded types
        (each_both Came (λ h. is_kinded after h ≡ true) (IsSure c later) sure after came kinded)
        (each_both Came (λ h. is_kinded after h ≡ true) (GivesLess c later) gives after came kinded)
      where
        both_put : (m : ℕ) (os : List Operation) → AllPut (IsReady c later) m os → AllPut (IsBetterWith c later (map (put_value (Result x 0) v))) m os → AllPut ReadyFor m os
        both_put m [] p q = tt
        both_put m (o ∷ os) p q = ((p.0, q.0), both_put (m + 1) os p.1 q.1)

        came : Each Came (rewritten insertion n made x v t)
        came =
            each_without Came x (with_value_replaced (Result x 0) v (with_made insertion n made t))
            (each_changed ReadyFor Came (put_values (Result x 0) v) (λ h p. record { here = h; is = refl; ready = p.0; better = p.1 }) (with_made insertion n made t)
            (all_put ReadyFor insertion n made t (both_put n made new_ready new_better) bare (each_both (IsReady c later) (IsBetterWith c later (map (put_value (Result x 0) v))) ReadyFor (λ h p q. (p, q)) t ready better)))

        types : AreOfTypes c (rewritten insertion n made x v t)
        types =
            let old = old_typed a c n x v done agree t below typed in (
              given_each a c n x v done (ResultsOfTypes c) (λ h p. p) (with_made insertion n made t) (all_put (ResultsOfTypes c) insertion n made t (new_typed c n made new) bare old.0),
              given_blocks a c n x v done (ArgumentsOfTypes c) (with_made insertion n made t) (all_blocks (ArgumentsOfTypes c) insertion n made t bare old.1),
            )

        found : TypesFound c (rewritten insertion n made x v t)
        found = types_found c after types

        gives : (h : Header) → Came h → is_kinded after h ≡ true → GivesLess c later h
        gives h p k =
            subst (GivesLess c later) (sym p.is)
            (other_gives c later after (map (put_value (Result x 0) v)) found p.here p.ready p.better (subst (λ h. is_kinded after h ≡ true) p.is k))

        sure : (h : Header) → Came h → is_kinded after h ≡ true → IsSure c later h
        sure h p k =
            subst (IsSure c later) (sym p.is)
            (other_sure c later after (map (put_value (Result x 0) v)) found p.here p.ready p.better (subst (λ h. is_kinded after h ≡ true) p.is k))

-- if the value refines the result, each use is refined
pub uses_better : (c : Assignment) (done : ℕ → Bool) (x : ℕ) (v : Value) → refines (c (Result x 0)) (c v) ≡ true → (t : Operation) → Each (λ h. Unit {0}) t → Each (IsBetterWith c done (map (put_value (Result x 0) v))) t
uses_better c done x v e t s = each_both (λ h. Unit {0}) (λ h. Unit {0}) (IsBetterWith c done (map (put_value (Result x 0) v))) (λ h p q i. all_put_better c (Result x 0) v e h.operands) t s s

pub new_uses_better : (c : Assignment) (done : ℕ → Bool) (x : ℕ) (v : Value) → refines (c (Result x 0)) (c v) ≡ true → (m : ℕ) (os : List Operation) → AllPut (IsBetterWith c done (map (put_value (Result x 0) v))) m os
new_uses_better c done x v e m [] = tt
new_uses_better c done x v e m (o ∷ os) = ((λ i. all_put_better c (Result x 0) v e (head o).operands), new_uses_better c done x v e (m + 1) os)
