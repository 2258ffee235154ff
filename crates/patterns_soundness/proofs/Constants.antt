-- Rules that compute with constants.
use Rattle.std.proofs.Common.{◌≡◌, refl, ap, ◌∙◌, subst, ℕ, List, [], ◌∷◌, Option, Some, None, ◌&&◌, ◌||◌, not, map}
use Rattle.std.specs.Prelude.{codes, is_some}
use Rattle.ir_event.specs.types.Terms.{TypeTerm}
use Rattle.ir_event.specs.trees.declared.value.Value.{Value}
use Rattle.ir_event.specs.trees.declared.place.Place.{Place}
use Rattle.ir_event.specs.trees.Tree.{head}
use Rattle.ir_event.specs.trees.Meaning.{Operation}
use Rattle.dialects_int.specs.Folds.{Known, fold_of}
use Rattle.patterns_soundness.specs.base.Words.{named, among}
use Rattle.patterns_soundness.specs.base.Looks.{Header, Two, when, source, known, two}
use Rattle.patterns_soundness.specs.base.Folding.{folded_to, regrouped, fold_to_constant, regroup_constants, add_negative}
use Rattle.patterns_soundness.specs.base.Folding.{may_read}
use Rattle.patterns_soundness.specs.base.Rules.{rule}
use Rattle.std.specs.List.{list_all}
use Rattle.ir_event.specs.tree_laws.Members.{In}
use Rattle.patterns_laws.specs.Words.{associative}
use Rattle.patterns_laws.proofs.Composed.{all_regrouped, negative_added}
use Rattle.patterns_laws.proofs.Lowered.{folded}
use Rattle.patterns_soundness.specs.base.declared.rule.Rule.TheVariants.{FoldToConstant, RegroupConstants, AddNegative}
use Rattle.patterns_soundness.proofs.of_base.Dispatch.{only_listed}
use Rattle.patterns_soundness.proofs.of_base.Making.{converting_rules_make}
use Rattle.patterns_soundness.specs.Alike.{Same, DominatedByAlike}
use Rattle.patterns_soundness.specs.Soundness.{Soundness}
use Rattle.patterns_soundness.proofs.Near.{none_there, still, tested, of_some, Fine}
use Rattle.patterns_soundness.proofs.Looking.{given_alike, when_alike, two_operands, source_alike, known_alike, constant_alike, on_two_alike, inner_two}
use Rattle.patterns_soundness.proofs.Accepting.{are_accepted_at}
use Rattle.ir_event.proofs.of_tree_laws.DominatedBy.{all_same}
use Rattle.listeners_support.proofs.Operands.{same_map}

module _ (t : Operation) (n : ℕ) (place : Place) (o : Operation) where
  abbrev h : Header
  h = head o

  abbrev x : ℕ
  x = h.id

  near_folded : (tys : List TypeTerm) (k : Option Known) → Fine place o (folded_to t n place o tys k)
  near_folded [] k = none_there place o
  near_folded (ty ∷ []) None = none_there place o
  near_folded (ty ∷ []) (Some k) = still place o _ (refl, refl, refl)
  near_folded (ty ∷ u ∷ us) k = none_there place o

  regroup : (p : Two) (a : Value) (c d : Known) → Fine place o (regrouped t n place o p a c d)
  regroup p a c d = of_some place o _ _ (λ k. still place o _ (refl, refl, (refl, refl, refl)))

  near_fold_to_constant : Fine place o (fold_to_constant t n place o)
  near_fold_to_constant = tested place o _ _ (near_folded _ _)

  near_regroup_constants : Fine place o (regroup_constants t n place o)
  near_regroup_constants = of_some place o (two h) _ (λ p. tested place o _ _ (of_some place o (known t p.second) _ (λ d. of_some place o (source t p.name p.first) _ (λ y. of_some place o (two y) _ (λ q. of_some place o (known t q.second) _ (λ c. regroup p q.first c d))))))

  near_add_negative : Fine place o (add_negative t n place o)
  near_add_negative = of_some place o (two h) _ (λ p. tested place o _ _ (of_some place o (known t p.second) _ (λ c. still place o _ (refl, refl, (refl, refl, refl)))))

module _ (t u : Operation) (n k : ℕ) (f g : Place) (o p : Operation) (same : head o ≡ head p) (dominated_by : DominatedByAlike t u (head o)) where
  may_read_alike : (v : Value) → In v (head o).operands → may_read t n f o v ≡ may_read u k g p v
  may_read_alike v h = let s = dominated_by.operands v h in λ i. not (constant_alike t u v s i) || is_some (known_alike t u v s i)

  folded_alike : (ts : List TypeTerm) (c : Option Known) → Same (folded_to t n f o ts c) (folded_to u k g p ts c)
  folded_alike [] c = refl
  folded_alike (ty ∷ []) None = refl
  folded_alike (ty ∷ []) (Some c) = refl
  folded_alike (ty ∷ s ∷ ts) c = refl

  same_fold_to_constant : Same (fold_to_constant t n f o) (fold_to_constant u k g p)
  same_fold_to_constant =
      subst (λ (q : Header). Same (fold_to_constant t n f o) (when (not (named (codes "arith.constant") q.name) && list_all (may_read u k g p) q.operands) (folded_to u k g p q.results (fold_of q.name q.properties (map (known u) q.operands) q.results)))) same
      (when_alike _ _ _ _ (ap (λ b. not (named (codes "arith.constant") (head o).name) && b) (all_same (may_read t n f o) (may_read u k g p) (head o).operands may_read_alike))
      (folded_alike (head o).results (fold_of (head o).name (head o).properties (map (known t) (head o).operands) (head o).results)
      ∙ ap (λ cs. is_some (folded_to u k g p (head o).results (fold_of (head o).name (head o).properties cs (head o).results))) (same_map (known t) (known u) (head o).operands (λ v h. known_alike t u v (dominated_by.operands v h)))))

  same_regroup_constants : Same (regroup_constants t n f o) (regroup_constants u k g p)
  same_regroup_constants = on_two_alike t u o p same dominated_by _ _ (λ q s r e. when_alike (among associative q.name) _ _ _ refl
      (given_alike (known t q.second) (known u q.second) _ _ (known_alike t u q.second r) (λ d i.
      given_alike (source t q.name q.first) (source u q.name q.first) _ _ (source_alike t u q.name q.first s) (λ y j.
      given_alike (two y) (two y) _ _ refl (λ z l.
      given_alike (known t z.second) (known u z.second) _ _ (known_alike t u z.second (inner_two t u o p same dominated_by q.first (two_operands (head o) q e).0 q.name y j z l)) (λ c m.
      given_alike (fold_of q.name [] (Some c ∷ Some d ∷ []) (q.ty ∷ [])) _ _ _ refl (λ v w. refl)))))))

  same_add_negative : Same (add_negative t n f o) (add_negative u k g p)
  same_add_negative = on_two_alike t u o p same dominated_by _ _ (λ q s r e. when_alike (named (codes "arith.subi") q.name) _ _ _ refl (given_alike (known t q.second) (known u q.second) _ _ (known_alike t u q.second r) (λ c i. refl)))

pub fold_to_constant_facts : Soundness FoldToConstant
unfolding rule
fold_to_constant_facts = record {
  keeps = folded;
  listed = only_listed FoldToConstant;
  near = λ lowers t n place o. (near_fold_to_constant t n place o).each;
  alike = λ lowers t u n k f g o p looks. same_fold_to_constant t u n k f g o p looks.heads looks.dominated_by;
  accepted = are_accepted_at FoldToConstant;
  makes = λ converts t n insertion o es. converting_rules_make FoldToConstant t n insertion o es converts;
}

pub regroup_constants_facts : Soundness RegroupConstants
unfolding rule
regroup_constants_facts = record {
  keeps = all_regrouped;
  listed = only_listed RegroupConstants;
  near = λ lowers t n place o. (near_regroup_constants t n place o).each;
  alike = λ lowers t u n k f g o p looks. same_regroup_constants t u n k f g o p looks.heads looks.dominated_by;
  accepted = are_accepted_at RegroupConstants;
  makes = λ converts. absurd cc;
}

pub add_negative_facts : Soundness AddNegative
unfolding rule
add_negative_facts = record {
  keeps = negative_added;
  listed = only_listed AddNegative;
  near = λ lowers t n place o. (near_add_negative t n place o).each;
  alike = λ lowers t u n k f g o p looks. same_add_negative t u n k f g o p looks.heads looks.dominated_by;
  accepted = are_accepted_at AddNegative;
  makes = λ converts. absurd cc;
}
