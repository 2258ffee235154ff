-- The models of resolved items.
use Rattle.std.proofs.Common.{◌≡◌, ℕ, List, [], ◌∷◌, ◌++◌, map, sym, ap, ◌∙◌, Vec, Global}
use Rattle.std.proofs.lemmas.List.{map-append}
use Rattle.mlir_work_transforms.specs.greedy.PatternSet.{RuleOrPatternModel, rule_or_pattern_of}
use Rattle.mlir_work_transforms.specs.greedy.declared.pattern_set.RuleOrPattern.{RuleOrPattern}
use Rattle.mlir_work_transforms.specs.declared.rule_items.RuleItem.{RuleItem as Coded}
use Rattle.mlir_work_transforms.specs.declared.rule_list.RuleList.{RuleList}
use Rattle.mlir_work_transforms.specs.RuleLists.{Listed}
use Rattle.mlir_work_transforms.specs.Views.{IsRuleListOf, listed_view}

-- one more item was resolved
pub one_more : (old new : RuleList) (ls : List Listed) (item : Coded) (name : Vec ℕ Global) → IsRuleListOf old ls → new.candidates.items ≡ old.candidates.items ++ item.candidate ∷ [] → new.names.items ≡ old.names.items ++ name ∷ [] → name.items ≡ item.name.now
    → IsRuleListOf new (ls ++ listed_view item ∷ [])
one_more old new ls item name h candidates names is = record {
  rules_and_patterns =
      ap (λ (xs : List RuleOrPattern). map rule_or_pattern_of xs) candidates ∙ map-append rule_or_pattern_of old.candidates.items (item.candidate ∷ [])
      ∙ ap (λ (xs : List RuleOrPatternModel). xs ++ rule_or_pattern_of item.candidate ∷ []) h.rules_and_patterns ∙ sym (map-append Listed.rule_or_pattern ls (listed_view item ∷ []));
  names =
      ap (λ (xs : List (Vec ℕ Global)). map (λ n. n.items) xs) names ∙ map-append (λ n. n.items) old.names.items (name ∷ [])
      ∙ ap (λ (xs : List (List ℕ)). xs ++ name.items ∷ []) h.names ∙ ap (λ (n : List ℕ). map Listed.name ls ++ n ∷ []) is ∙ sym (map-append Listed.name ls (listed_view item ∷ []));
}
