use Rattle.std.proofs.Common.{◌≡◌, ◌∙◌, ◌++◌, ◌∷◌, [], ap, map, sym, refl, ℕ, List, Some, Vec, Global}
use Rattle.mlir_work_script_base.specs.RuleNames.{name_of}
use Rattle.mlir_work_registry.specs.Registry.{registry_model}
use Rattle.mlir_work_registry.specs.RuleLists.{names_left, names_of, opened}
use Rattle.mlir_work_transforms.specs.greedy.PatternSet.{patterns_of}
use Rattle.mlir_work_transforms.specs.RuleLists.{all_listed, each_listed, has_canon}
use Rattle.mlir_work_transforms.specs.Views.{listed_view}
use Rattle.mlir_work_transforms.proofs.Joined.{all_may, found_all, found_more, found_none, is_none_of, joined, none_joined}
use Rattle.mlir_work_transforms.proofs.rule_list.parse_rule_list.Goals as goal

pub names-init : goal.names-init
names-init c =
    let registry = registry_model c.args.registry.now in
    record {
      done = [];
      listed = record { rules_and_patterns = ap patterns_of c.new.ensures.items; names = ap (λ (ns : List (Vec ℕ Global)). map (λ n. n.items) ns) c.new-2.ensures.items };
      whole = none_joined registry (each_listed registry (names_left c.names_listed-names.result)) ∙ ap (each_listed registry) c.names_listed-names.ensures;
    }

pub names-preserved : goal.names-preserved
names-preserved c =
    let registry = registry_model c.args.registry.now in
    let h = c.names.invariant in
    let l = listed_view c.in-Some-listed_named.item in
    record {
      done = h.done ++ l ∷ [];
      listed = c.in-Ok.ensures h.done h.listed;
      whole = found_more registry _ (name_of c.in-Some.name) (names_left c.next_name.new.names) (names_left c.names.names) l h.done _ c.in-Some.ensures c.in-Some-listed_named.ensures h.whole refl;
    }

pub returns-then-not-are_listed-clause-rule_list : goal.returns-then-not-are_listed-clause-rule_list
returns-then-not-are_listed-clause-rule_list c =
    sym (is_none_of (registry_model c.args.registry.now) (all_listed (registry_model c.args.registry.now) (names_of c.args.list.now)) c.are_listed.result c.are_listed.ensures c.if-not-are_listed.true)

pub returns-in_default-listed_named-clause-rule_list : goal.returns-in_default-listed_named-clause-rule_list
returns-in_default-listed_named-clause-rule_list c =
    sym (found_none (registry_model c.args.registry.now) _ (name_of c.in-Some.name) (names_left c.next_name.new.names) (names_left c.names.names) c.names.invariant.done
    c.in-Some.ensures c.in_default-listed_named.ensures c.names.invariant.whole)

pub returns-in-Err-clause-want : goal.returns-in-Err-clause-want
returns-in-Err-clause-want c = (refl, sym c.are_listed.ensures ∙ c.if-not-are_listed.false)

pub returns-clause-rule_list : goal.returns-clause-rule_list
returns-clause-rule_list c =
    let registry = registry_model c.args.registry.now in
    let h = c.names.invariant in
    let all : all_listed registry (names_of c.args.list.now) ≡ Some h.done = sym (found_all registry _ h.done (ap (λ ns. joined registry h.done (each_listed registry ns)) (sym c.in_default.ensures) ∙ h.whole)) in
    (h.done, all, h.listed, all_may registry (opened (has_canon registry) (names_of c.args.list.now)) h.done all)
