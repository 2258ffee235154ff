-- If two trees agree on everything that rules read, and on the types one level deeper, shallow user patterns apply
-- alike in both. The operations that a pattern makes are inserted before its root.
use Rattle.std.proofs.Common.{◌≡◌, refl, ap, sym, ◌∙◌, subst, ℕ, ◌+◌, List, [], ◌∷◌, ◌++◌, map, Bool, true, false, true≢false, ◌&&◌, eqb, Option, Some, None}
use Rattle.std.specs.List.{list_all}
use Rattle.std.specs.Prelude.{is_some, option_map, slice_get}
use Rattle.std.proofs.lemmas.Option.{none-some, same_Some}
use Rattle.ir_event.specs.types.Terms.{TypeTerm}
use Rattle.ir_event.specs.trees.declared.value.Value.{Value}
use Rattle.ir_event.specs.trees.declared.value.Value.TheVariants.{Result, Arg}
use Rattle.ir_event.specs.trees.declared.place.Place.{Place}
use Rattle.ir_event.specs.trees.Tree.{head, regions, no_regions}
use Rattle.ir_event.specs.trees.Ids.{find}
use Rattle.ir_event.specs.trees.Uses.{same_value}
use Rattle.ir_event.specs.trees.Meaning.{Operation}
use Rattle.ir_event.specs.Modules.{Module}
use Rattle.rewriter_machine.specs.Contents.{Edit}
use Rattle.rewriter_machine.specs.Edits.{Make}
use Rattle.patterns_base.specs.Keeps.{given}
use Rattle.patterns_base.specs.Looks.{Header, when, is_verified, insertion_of, defining_op}
use Rattle.patterns_base.specs.Makes.{give}
use Rattle.ir_event.specs.types.declared.bits.BitsKind.{BitsKind}
use Rattle.patterns_laws.specs.Made.{constant, made}
use Rattle.patterns_laws.specs.integers.Folds.{Known}
use Rattle.user_patterns_check.specs.Contents.{Content}
use Rattle.user_patterns_check.specs.Outcomes.{Outcome, run}
use Rattle.user_patterns_check.specs.Outcomes as outcomes
use Rattle.user_patterns_data.specs.Matching as matching
use Rattle.user_patterns_data.specs.Matching.{BoundValues, defining_op_head, bound, nothing, ops_match, placed, binding_at}
use Rattle.user_patterns_data.specs.Fitting.{content_with, fits}
use Rattle.user_patterns_data.specs.Names.{name_of, operands_of, predicate_of}
use Rattle.user_patterns_data.specs.Planning.{Plan, all_made, constants_known, entries_by, extra_known, extra_place, is_numeric, bound_type, made_as, new_place, old_place, places, planned, planned_by, planned_from, typed, values_at}
use Rattle.user_patterns_data.specs.Planning.{outcomes as outcomes_of}
use Rattle.user_patterns_data.specs.declared.pattern.NewValue.{NewValue}
use Rattle.user_patterns_data.specs.declared.pattern.NewValue.TheVariants as new
use Rattle.user_patterns_data.proofs.BoundValues.{when_some}
use Rattle.user_patterns_data.specs.Shapes.{PatternModel}
use Rattle.user_patterns_build.specs.CanBuild.{can_build}
use Rattle.user_patterns_apply.specs.Built.{plan_of}
use Rattle.patterns.specs.soundness.Alike.{Same, ShowsAlike}
use Rattle.patterns.specs.soundness.Near.{Still}
use Rattle.user_patterns_apply.specs.Own.{edits_for, is_one, user_pattern_edits}
use Rattle.user_patterns_data.specs.Alike.{GivesAlike}

-- ---- the defining operation of a value
module _ (t u : Operation) where
  pub gives_alike : (v : Value) → ShowsAlike t u v → GivesAlike t u (is_verified t) (is_verified u) v
  gives_alike (Arg x r k) s = refl
  gives_alike (Result x k) s = go (option_map head (find x t)) refl
    where
      go : (g : Option Header) → option_map head (find x t) ≡ g → defining_op_head t (is_verified t) (Result x k) ≡ defining_op_head u (is_verified u) (Result x k)
      go None e =
          ap (λ o. outcomes.given o (λ (h : Header). matching.when (is_verified t h && eqb k 0) (Some h))) e
          ∙ sym (ap (λ o. outcomes.given o (λ (h : Header). matching.when (is_verified u h && eqb k 0) (Some h))) (sym s.gives ∙ e))
      go (Some h) e =
          ap (λ o. outcomes.given o (λ (h : Header). matching.when (is_verified t h && eqb k 0) (Some h))) e
          ∙ ap (λ b. matching.when (b && eqb k 0) (Some h)) (s.verified h e)
          ∙ sym (ap (λ o. outcomes.given o (λ (h : Header). matching.when (is_verified u h && eqb k 0) (Some h))) (sym s.gives ∙ e))

-- the verified defining operation of a value defines it
pub defining_op_of : (t : Operation) (verified : Header → Bool) (v : Value) (h : Header) → defining_op_head t verified v ≡ Some h → defining_op t v ≡ Some h
defining_op_of t verified (Arg x r k) h e = absurd (none-some h e)
defining_op_of t verified (Result x k) h e = go (option_map head (find x t)) e
  where
    go : (g : Option Header) → outcomes.given g (λ (h : Header). matching.when (verified h && eqb k 0) (Some h)) ≡ Some h → g ≡ Some h
    go None e = absurd (none-some h e)
    go (Some d) e = by (verified d && eqb k 0) e
      where
        by : (b : Bool) → matching.when b (Some d) ≡ Some h → Some d ≡ Some h
        by true e = e
        by false e = absurd (none-some h e)

-- ---- edits exist in both trees, or in neither
edits_same : (f g : Place) (x : ℕ) (p q : Option Plan) → Same p q → Same (edits_for f x p) (edits_for g x q)
edits_same f g x None None e = refl
edits_same f g x None (Some q) e = absurd (true≢false (sym e))
edits_same f g x (Some p) None e = absurd (true≢false e)
edits_same f g x (Some p) (Some q) e = refl

plans_same : (p : PatternModel) (t u : Operation) (verified cleans : Header → Bool) (n k x : ℕ) → Same (planned t verified n p x) (planned u cleans k p x) → Same (plan_of t verified n p x) (plan_of u cleans k p x)
plans_same p t u verified cleans n k x e = go (can_build p)
  where
    go : (b : Bool) → is_some (matching.when b (planned t verified n p x)) ≡ is_some (matching.when b (planned u cleans k p x))
    go true = e
    go false = refl

pub own_same : (p : PatternModel) (n m : Module) (x : ℕ) (o q : Operation) → find x n.tree ≡ Some o → find x m.tree ≡ Some q → head o ≡ head q → Same (insertion_of x n.tree) (insertion_of x m.tree)
    → Same (planned n.tree (is_verified n.tree) n.next p x) (planned m.tree (is_verified m.tree) m.next p x) → Same (user_pattern_edits p n x) (user_pattern_edits p m x)
unfolding user_pattern_edits
own_same p n m x o q is was heads precedings plans =
    ap (λ a. is_some (given a (λ o. given (insertion_of x n.tree) (λ insertion. when (is_one (head o).results) (edits_for insertion x (plan_of n.tree (is_verified n.tree) n.next p x)))))) is
    ∙ go (insertion_of x n.tree) (insertion_of x m.tree) precedings
    ∙ sym (ap (λ a. is_some (given a (λ o. given (insertion_of x m.tree) (λ insertion. when (is_one (head o).results) (edits_for insertion x (plan_of m.tree (is_verified m.tree) m.next p x)))))) was)
  where
    both : (f g : Place) → Same (edits_for f x (plan_of n.tree (is_verified n.tree) n.next p x)) (edits_for g x (plan_of m.tree (is_verified m.tree) m.next p x))
    both f g = edits_same f g x _ _ (plans_same p n.tree m.tree (is_verified n.tree) (is_verified m.tree) n.next m.next x plans)

    single : (f g : Place) (b : Bool) → is_some (when b (edits_for f x (plan_of n.tree (is_verified n.tree) n.next p x))) ≡ is_some (when b (edits_for g x (plan_of m.tree (is_verified m.tree) m.next p x)))
    single f g true = both f g
    single f g false = refl

    go : (a b : Option Place) → Same a b → is_some (given a (λ insertion. when (is_one (head o).results) (edits_for insertion x (plan_of n.tree (is_verified n.tree) n.next p x)))) ≡ is_some (given b (λ insertion. when (is_one (head q).results) (edits_for insertion x (plan_of m.tree (is_verified m.tree) m.next p x))))
    go None None e = refl
    go None (Some g) e = absurd (true≢false (sym e))
    go (Some f) None e = absurd (true≢false e)
    go (Some f) (Some g) e = single f g (is_one (head o).results) ∙ ap (λ (h : Header). is_some (when (is_one h.results) (edits_for g x (plan_of m.tree (is_verified m.tree) m.next p x)))) heads

-- ---- the operations that a pattern makes
abbrev AreLeaves : List Operation → Type 0
AreLeaves [] = Unit {0}
AreLeaves (o ∷ os) = (regions o ≡ no_regions) × AreLeaves os

-- a property of all possible results holds of the result
given_holds : {X Y : Type 0} (P : Y → Type 0) (x : Option X) (f : X → Option Y) → ((y : X) (z : Y) → f y ≡ Some z → P z) → (z : Y) → outcomes.given x f ≡ Some z → P z
given_holds P None f h z e = absurd (none-some z e)
given_holds P (Some y) f h z e = h y z e

when_holds : {Y : Type 0} (P : Y → Type 0) (b : Bool) (r : Option Y) → ((z : Y) → r ≡ Some z → P z) → (z : Y) → matching.when b r ≡ Some z → P z
when_holds P true r h z e = h z e
when_holds P false r h z e = absurd (none-some z e)

abbrev IsLeaf : Operation → Type 0
IsLeaf o = regions o ≡ no_regions

made_leaf : (b : BoundValues Value) (ts : BoundValues TypeTerm) (env : List Outcome) (w : NewValue) (o : Operation) → made_as b ts env w ≡ Some o → IsLeaf o
made_leaf b ts env (new.Operation p) o e =
    given_holds IsLeaf (values_at (operands_of p.form) b) (λ vs. outcomes.given (binding_at p.ty ts) (λ term. Some (made (name_of p.form) vs term (entries_by (predicate_of p.form) (name_of p.form)))))
    (λ vs q i. given_holds IsLeaf (binding_at p.ty ts) (λ term. Some (made (name_of p.form) vs term (entries_by (predicate_of p.form) (name_of p.form)))) (λ term r j. sym (ap (λ (z : Operation). regions z) (same_Some _ _ j))) q i) o e
made_leaf b ts env (new.Constant k t) o e =
    given_holds IsLeaf (outcomes.given (slice_get env k) (λ x. x)) (λ (x : Known). outcomes.given (binding_at t ts) (λ term. Some (constant term x.1)))
    (λ x q i. given_holds IsLeaf (binding_at t ts) (λ term. Some (constant term x.1)) (λ term r j. sym (ap (λ (z : Operation). regions z) (same_Some _ _ j))) q i) o e

abbrev Made : Type 0
Made = List Operation × BoundValues Value

abbrev LeavesMade : Made → Type 0
LeavesMade r = AreLeaves r.0

abbrev onto : Operation → Made → Made
onto o r = (o ∷ r.0, r.1)

all_leaves : (ts : BoundValues TypeTerm) (env : List Outcome) (ws : List NewValue) (n k : ℕ) (b : BoundValues Value) (r : Made) → all_made ts env n k ws b ≡ Some r → LeavesMade r
all_leaves ts env [] n k b r e = subst LeavesMade (same_Some _ _ e) tt
all_leaves ts env (w ∷ ws) n k b r e = by_made (made_as b ts env w) refl (λ c z i. all_leaves ts env ws (n + 1) (k + 1) c z i) e
  where
    by_made : (a : Option Operation) → made_as b ts env w ≡ a → ((c : BoundValues Value) (z : Made) → all_made ts env (n + 1) (k + 1) ws c ≡ Some z → LeavesMade z)
        → outcomes.given a (λ o. outcomes.given (bound same_value k (Result n 0) b) (λ c. option_map (onto o) (all_made ts env (n + 1) (k + 1) ws c))) ≡ Some r → LeavesMade r
    by_made None i later e = absurd (none-some r e)
    by_made (Some o) i later e =
        given_holds LeavesMade (bound same_value k (Result n 0) b) (λ c. option_map (onto o) (all_made ts env (n + 1) (k + 1) ws c))
        (λ c z j. more_of o (made_leaf b ts env w o i) (all_made ts env (n + 1) (k + 1) ws c) (later c) z j) r e
      where
        more_of : (o : Operation) → IsLeaf o → (a : Option Made) → ((z : Made) → a ≡ Some z → LeavesMade z) → (y : Made) → option_map (onto o) a ≡ Some y → LeavesMade y
        more_of o leaf None later y e = absurd (none-some y e)
        more_of o leaf (Some z) later y e = subst LeavesMade (same_Some _ _ e) (leaf, later z refl)

abbrev LeavesPlanned : Plan → Type 0
LeavesPlanned made = AreLeaves made.0

planned_leaves : (t : Operation) (verified : Header → Bool) (n : ℕ) (p : PatternModel) (x : ℕ) (made : Plan) → planned t verified n p x ≡ Some made → LeavesPlanned made
unfolding planned
planned_leaves t verified n p x made e =
    given_holds LeavesPlanned (bound same_value p.root (Result x 0) (nothing (places p))) (λ b. outcomes.given (ops_match t verified (placed (old_place p) p.old) b) (λ c. outcomes.given (typed t verified n p c) (planned_by t verified n p c)))
    (λ b z i. given_holds LeavesPlanned (ops_match t verified (placed (old_place p) p.old) b) (λ c. outcomes.given (typed t verified n p c) (planned_by t verified n p c))
    (λ c y j. given_holds LeavesPlanned (typed t verified n p c) (planned_by t verified n p c) (λ ts w l. from c ts w l) y j) z i) made e
  where
    of_made : (b : BoundValues Value) (ts : BoundValues TypeTerm) (env : List Outcome) (made : Plan) → planned_from t verified n p b ts env ≡ Some made → LeavesPlanned made
    of_made b ts env made e =
        when_holds LeavesPlanned (extra_known t verified n p (extra_place p) p.extra b env) (outcomes.given (all_made ts env n (new_place p) p.new b) (λ (r : Made). outcomes.given (binding_at p.result r.1) (λ v. Some (r.0, v))))
        (λ z i. by_made (all_made ts env n (new_place p) p.new b) refl z i) made e
      where
        by_made : (a : Option Made) → all_made ts env n (new_place p) p.new b ≡ a → (z : Plan) → outcomes.given a (λ (r : Made). outcomes.given (binding_at p.result r.1) (λ v. Some (r.0, v))) ≡ Some z → LeavesPlanned z
        by_made None i z e = absurd (none-some z e)
        by_made (Some r) i z e = given_holds LeavesPlanned (binding_at p.result r.1) (λ v. Some (r.0, v)) (λ v y j. subst LeavesPlanned (same_Some _ _ j) (all_leaves ts env p.new n (new_place p) b r i)) z e

    from : (b : BoundValues Value) (ts : BoundValues TypeTerm) (made : Plan) → planned_by t verified n p b ts ≡ Some made → LeavesPlanned made
    from b ts made e = when_holds LeavesPlanned (list_all is_numeric ts) _ (λ z i. by_kinds (map bound_type ts) z i) made e
      where
        by_kinds : (ks : List BitsKind) (made : Plan) → matching.when (fits ks p && constants_known t verified n p b) (outcomes.given (run (Content.given (content_with ks p)) (outcomes_of t verified n p 0 p.values b)) (planned_from t verified n p b ts)) ≡ Some made → LeavesPlanned made
        by_kinds ks made e =
            when_holds LeavesPlanned (fits ks p && constants_known t verified n p b) (outcomes.given (run (Content.given (content_with ks p)) (outcomes_of t verified n p 0 p.values b)) (planned_from t verified n p b ts))
            (λ z i. given_holds LeavesPlanned (run (Content.given (content_with ks p)) (outcomes_of t verified n p 0 p.values b)) (planned_from t verified n p b ts) (λ env y j. of_made b ts env y j) z i) made e

still_given : (x : ℕ) (insertion : Place) (os : List Operation) (v : Value) → AreLeaves os → Still x insertion (map (λ o. Make insertion o) os ++ give x v)
still_given x preceding [] v l = refl
still_given x preceding (o ∷ os) v l = (refl, l.0, still_given x preceding os v l.1)

-- the edits of a user pattern
pub record UserPatternsPlanned (p : PatternModel) (m : Module) (x : ℕ) (es : List Edit) : Type 0 where
  pub here : Operation
  pub place : Place
  pub found : find x m.tree ≡ Some here
  pub insertion : insertion_of x m.tree ≡ Some place
  pub still : Still x place es

pub user_patterns_planned : (p : PatternModel) (m : Module) (x : ℕ) (es : List Edit) → user_pattern_edits p m x ≡ Some es → UserPatternsPlanned p m x es
unfolding user_pattern_edits
user_patterns_planned p m x es e = go (find x m.tree) refl (insertion_of x m.tree) refl e
  where
    still : (place : Place) (a : Option Plan) → plan_of m.tree (is_verified m.tree) m.next p x ≡ a → edits_for place x a ≡ Some es → Still x place es
    still place None i e = absurd (none-some es e)
    still place (Some made) i e = subst (λ l. Still x place l) (same_Some _ _ e) (still_given x place made.0 made.1 (planned_leaves m.tree (is_verified m.tree) m.next p x made (when_some (can_build p) (planned m.tree (is_verified m.tree) m.next p x) made i)))

    single : (place : Place) (b : Bool) → when b (edits_for place x (plan_of m.tree (is_verified m.tree) m.next p x)) ≡ Some es → edits_for place x (plan_of m.tree (is_verified m.tree) m.next p x) ≡ Some es
    single place true e = e
    single place false e = absurd (none-some es e)

    go : (a : Option Operation) → find x m.tree ≡ a → (b : Option Place) → insertion_of x m.tree ≡ b → given a (λ o. given b (λ insertion. when (is_one (head o).results) (edits_for insertion x (plan_of m.tree (is_verified m.tree) m.next p x)))) ≡ Some es → UserPatternsPlanned p m x es
    go None k b l e = absurd (none-some es e)
    go (Some o) k None l e = absurd (none-some es e)
    go (Some o) k (Some place) l e = record { here = o; place = place; found = k; insertion = l; still = still place _ refl (single place (is_one (head o).results) e) }

-- a user pattern has no edits at the root
pub user_pattern_rootless : (p : PatternModel) (m : Module) (x : ℕ) → insertion_of x m.tree ≡ None → user_pattern_edits p m x ≡ None
unfolding user_pattern_edits
user_pattern_rootless p m x e = go (find x m.tree)
  where
    go : (a : Option Operation) → given a (λ o. given (insertion_of x m.tree) (λ insertion. when (is_one (head o).results) (edits_for insertion x (plan_of m.tree (is_verified m.tree) m.next p x)))) ≡ None
    go None = refl
    go (Some o) = ap (λ f. given f (λ insertion. when (is_one (head o).results) (edits_for insertion x (plan_of m.tree (is_verified m.tree) m.next p x)))) e
