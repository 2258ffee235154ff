-- Rewrites by the rules of canonicalization are orderly.
use Rattle.std.proofs.Common.{◌≡◌, refl, ap, sym, ◌∙◌, subst, ℕ, ◌+◌, ◌<◌, Bool, true, false, true≢false, eqb, eqb-true, List, [], ◌∷◌, ◌++◌, append-nil, Option, Some, None, inl, inr, cond, arith}
use Rattle.std.specs.Prelude.{All, nat_le, option_map}
use Rattle.std.specs.List.{IsDistinct}
use Rattle.std.proofs.lemmas.List.Elements.{All-head, All-tail, filter_passes}
use Rattle.ir_event.specs.types.declared.refusal.Refusal.TheVariants.{Full, IdsExhausted}
use Rattle.ir_event.specs.trees.declared.place.Place.{Place}
use Rattle.ir_event.specs.types.Terms.{TypeTerm, AttrTerm}
use Rattle.ir_event.specs.trees.Tree.{OpsOf, no_ops, next, head, regions}
use Rattle.ir_event.specs.trees.Ids.{ids, regions_ids, HasDistinctIds, find, op_count}
use Rattle.ir_event.specs.trees.Limits.{most_ops, most_next}
use Rattle.ir_event.specs.trees.Places.{place_of}
use Rattle.ir_event.specs.trees.Meaning.{Operation}
use Rattle.ir_event.specs.tree_laws.Reads.{is_within}
use Rattle.ir_event.proofs.of_tree_laws.Around.{present_stand}
use Rattle.ir_event.proofs.of_tree_laws.Wellformed.{ids_below}
use Rattle.ir_event.proofs.of_tree_laws.Shift.{own_distinct}
use Rattle.ir_event.specs.Modules.{Module}
use Rattle.rewriter_machine.specs.Contents.{Edit, all_edited}
use Rattle.patterns_base.specs.declared.rule.Rule.{Rule}
use Rattle.patterns_base.specs.RuleNames.{all_rules, is_canonical}
use Rattle.patterns_base.specs.Keeps.{given}
use Rattle.patterns_base.specs.Looks.{when, insertion_point, insertion_of, ended_by}
use Rattle.patterns_base.specs.Makes.{made_by}
use Rattle.patterns_base.specs.Rules.{rule}
use Rattle.patterns_base.specs.Rewrites.{Rewrite, none, refused, becomes, edits_of, rewrite_by, rewrite_of, carried_out, eligible}
use Rattle.patterns_base.proofs.Facts.{when_some}
use Rattle.patterns_base.specs.Canonicalization.{or_else, first_rule, greedy_rules, highest_priority}
use Rattle.greedy.specs.Orders.{Orderly}
use Rattle.greedy.proofs.Cuts.{left_in, right_in}
use Rattle.greedy.proofs.Edits.{names, still_stays, opens_stays, stays_orderly}
use Rattle.greedy.proofs.Nearby.{Near, widths}
use Rattle.greedy.proofs.Listed.{Listed, is_listed}
use Rattle.greedy.proofs.Rootless.{unplaced}
use Rattle.patterns.specs.soundness.Soundness.{IsNear}
use Rattle.patterns.specs.soundness.Near.{AreNear, Opens, Still}
use Rattle.patterns.proofs.of_facts.Facts.{soundness, lowers_not}
use Rattle.greedy.proofs.Starts.{Between, intermediate, start, wide, Opened, opened}
use Rattle.std.proofs.lemmas.Bool.{cases_Bool}
use Rattle.rewriter_machine.proofs.Trees.{found_id}
use Rattle.ir_event.proofs.of_trees.Facts.{ids_head}

-- the operations of a block without the last
before_last : (o : Operation) (os : OpsOf (List ℕ) TypeTerm AttrTerm) → (ended_by o os).before ≡ names (wide o os)
before_last o no_ops = refl
before_last o (next p os) = ap (λ l. (head o).id ∷ l) (before_last p os)

-- the edits of a rule at an operation
record Planned (r : Rule) (m : Module) (x : ℕ) (es : List Edit) : Type 0 where
  here : Operation
  place : Place
  found : find x m.tree ≡ Some here
  insertion : insertion_of x m.tree ≡ Some place
  by : rule r m.tree m.next place here ≡ Some es

planned : (r : Rule) (m : Module) (x : ℕ) (es : List Edit) → edits_of r m x ≡ Some es → Planned r m x es
unfolding edits_of
planned r m x es e = go (find x m.tree) refl (insertion_of x m.tree) refl e
  where
    go : (a : Option Operation) → find x m.tree ≡ a → (b : Option Place) → insertion_of x m.tree ≡ b → given a (λ o. given b (λ insertion. when (eligible r m.tree (head o)) (rule r m.tree m.next insertion o))) ≡ Some es → Planned r m x es
    go None k b l e = absurd cc
    go (Some o) k None l e = absurd cc
    go (Some o) k (Some place) l e = record { here = o; place = place; found = k; insertion = l; by = (when_some (eligible r m.tree (head o)) (rule r m.tree m.next place o) es e).1 }

pub carried : (es : List Edit) (m n : Module) → carried_out es m ≡ becomes n → all_edited es m ≡ n
carried es m n e = go (nat_le (op_count m.tree + made_by es) most_ops) (nat_le (m.next + made_by es) most_next) e
  where
    go : (a b : Bool) → cond a (cond b (becomes (all_edited es m)) (refused IdsExhausted)) (refused Full) ≡ becomes n → all_edited es m ≡ n
    go true true e = cc
    go true false e = absurd cc
    go false b e = absurd cc

-- the place before an operation that isn't the root
preceding_before : (x : ℕ) (t : Operation) (place : Place) → insertion_of x t ≡ Some place → place.before ≡ Some x
preceding_before x t place e = go (place_of x t) e
  where
    go : (p : Option Place) → option_map (insertion_point x) p ≡ Some place → place.before ≡ Some x
    go None e = absurd cc
    go (Some p) e = (let same : insertion_point x p ≡ place = cc in ap (λ (q : Place). q.before) (sym same))

preceding_inner : (x : ℕ) (t : Operation) (place : Place) → HasDistinctIds t → insertion_of x t ≡ Some place → eqb (head t).id x ≡ false
preceding_inner x t place d e = elim (cases_Bool (eqb (head t).id x)) [
  | inr k ↦ k
  | inl k ↦ absurd (let bad : None ≡ Some place = sym (ap (option_map (insertion_point x)) (ap (λ y. place_of y t) (sym (eqb-true (head t).id x k)) ∙ unplaced t d)) ∙ e in cc)
]

module _ (m : Module) (d : HasDistinctIds m.tree) (below : All (λ y. y < m.next) (ids m.tree)) (x : ℕ) where
  under : (z : ℕ) → Listed z (ids m.tree) → z < m.next
  under z h = let s = present_stand [] m.tree z h in subst (λ y. y < m.next) s.2 (ids_below m.next m.tree below s.0 s.1)

  pub edits_orderly : (es : List Edit) (o : Operation) (place : Place) → find x m.tree ≡ Some o → insertion_of x m.tree ≡ Some place → AreNear place o es → Orderly x m (all_edited es m)
  edits_orderly es o place f p (inl s) =
      stays_orderly x m (all_edited es m) b.preceding (regions_ids (regions o)) b.back d (b.is ∙ ap (λ l. b.preceding ++ (l ++ b.back)) own) (λ y. ap (is_within y) f ∙ ap (is_listed y) own)
      (still_stays x b.preceding b.back (regions_ids (regions o)) place (preceding_before x m.tree place p) m.next old es m [] (λ z h. absurd (true≢false (sym h))) (omega arith) under
      (subst (λ l. Near x l b.back [] (regions_ids (regions o)) [] m.tree) (sym (append-nil b.preceding)) (start x m.tree o d f id b)) (subst (λ y. Still y place es) id s))
    where
      id : (head o).id ≡ x
      id = found_id x m.tree o f

      b : Between x m.tree o
      b = intermediate x m.tree o d f (preceding_inner x m.tree place d p)

      own : ids o ≡ x ∷ regions_ids (regions o)
      own = ids_head o ∙ ap (λ y. y ∷ regions_ids (regions o)) id

      old : (z : ℕ) → Listed z (x ∷ regions_ids (regions o)) → z < m.next
      old z h = under z (subst (Listed z) (sym (b.is ∙ ap (λ l. b.preceding ++ (l ++ b.back)) own)) (right_in z b.preceding ((x ∷ regions_ids (regions o)) ++ b.back) (left_in z (x ∷ regions_ids (regions o)) b.back h)))
  edits_orderly es o place f p (inr s) =
      stays_orderly x m (all_edited es m) w.preceding (w.inner ++ (widths (wide s.first s.rest) ++ w.outer)) w.back d w.is (λ y. ap (is_within y) f ∙ ap (is_listed y) w.own)
      (opens_stays x w.preceding w.back w.inner w.outer place (preceding_before x m.tree place p) (wide s.first s.rest) es m (subst (IsDistinct eqb) w.own (own_distinct x m.tree o d f)) w.near (subst (λ l. Opens x place l es) (before_last s.first s.rest) (subst (λ y. Opens y place (ended_by s.first s.rest).before es) id s.opens)))
    where
      id : (head o).id ≡ x
      id = found_id x m.tree o f

      w : Opened x m.tree o (wide s.first s.rest)
      w = opened x m.tree o d f id (preceding_inner x m.tree place d p) s.number s.args s.first s.rest s.there

  rewrite_orderly : (r : Rule) → IsNear r → (n : Module) → rewrite_of r m x ≡ becomes n → Orderly x m n
  unfolding rewrite_of
  rewrite_orderly r near n e = go (edits_of r m x) refl e
    where
      go : (a : Option (List Edit)) → edits_of r m x ≡ a → rewrite_by a m ≡ becomes n → Orderly x m n
      go None k e = absurd cc
      go (Some es) k e =
          let p = planned r m x es k in
          subst (Orderly x m) (carried es m n e) (edits_orderly es p.here p.place p.found p.insertion (near m.tree m.next p.place p.here es p.by))

  abbrev pub IsTried : Rule → Type 0
  IsTried r = is_canonical r ≡ true

  pub first_orderly : (rs : List Rule) → All IsTried rs → (n : Module) → first_rule rs m x ≡ becomes n → Orderly x m n
  unfolding first_rule
  first_orderly [] h n e = absurd cc
  first_orderly (r ∷ rs) h n e = go (rewrite_of r m x) refl (first_orderly rs (All-tail IsTried r rs h) n) e
    where
      go : (a : Rewrite) → rewrite_of r m x ≡ a → (first_rule rs m x ≡ becomes n → Orderly x m n) → or_else a (first_rule rs m x) ≡ becomes n → Orderly x m n
      go none k later e = later e
      go (refused f) k later e = absurd cc
      go (becomes p) k later e = rewrite_orderly r ((soundness r).near (lowers_not r (All-head IsTried r rs h))) n (k ∙ e)

  pub rewrite_tried : (r : Rule) → is_canonical r ≡ true → (n : Module) → rewrite_of r m x ≡ becomes n → Orderly x m n
  rewrite_tried r h n e = rewrite_orderly r ((soundness r).near (lowers_not r h)) n e

  pub highest_priority_orderly : (n : Module) → highest_priority m x ≡ becomes n → Orderly x m n
  highest_priority_orderly n e = first_orderly greedy_rules (filter_passes is_canonical all_rules) n e
