use Rattle.std.proofs.Common.{◌≡◌, ◌∙◌, ap, List, ℕ, map, sym, subst}
use Rattle.std.specs.Option.{option_copied}
use Rattle.conversion.specs.Converting.{rules_of}
use Rattle.conversion.specs.Rule.{Rule}
use Rattle.mlir_work_script_base.specs.Items.{items_after}
use Rattle.mlir_work_transforms.proofs.Listed.{number_at, numbers_are}
use Rattle.mlir_work_transforms.proofs.Ruled.{joined, rules_done, rules_more, rules_none, rules_stop}
use Rattle.mlir_work_transforms.proofs.rules.rules_in.Goals as goal

pub items-init : goal.items-init
items-init c =
    let all = map number_at (items_after (option_copied c.args.list)) in
    subst (λ (done : List Rule). joined done (rules_of all) ≡ rules_of all) (sym c.new-rules.ensures.items) (rules_none all)

pub items-preserved : goal.items-preserved
items-preserved c =
    let done = c.items.rules.items in
    rules_more _ (number_at c.split_item.result.0.now) (map number_at (items_after (option_copied c.split_item.result.1))) c.in-Some-numbered_rule.rule done c.push.new.self.items
    (ap (λ (l : List (List ℕ)). joined done (rules_of (map number_at l))) (sym c.split_item.ensures.items) ∙ ap (λ o. joined done (rules_of (map number_at (items_after (option_copied o))))) (sym c.in-Some.is) ∙ c.items.invariant)
    (c.in-Some-numbered_rule.ensures) c.in-Ok.ensures.items

pub returns-in_default-numbered_rule-clause-rules : goal.returns-in_default-numbered_rule-clause-rules
returns-in_default-numbered_rule-clause-rules c =
    let done = c.items.rules.items in
    rules_stop _ (number_at c.split_item.result.0.now) (map number_at (items_after (option_copied c.split_item.result.1))) done
    (ap (λ (l : List (List ℕ)). joined done (rules_of (map number_at l))) (sym c.split_item.ensures.items) ∙ ap (λ o. joined done (rules_of (map number_at (items_after (option_copied o))))) (sym c.in-Some.is) ∙ c.items.invariant)
    c.in_default-numbered_rule.ensures ∙ ap rules_of (numbers_are (option_copied c.args.list))

pub returns-clause-rules : goal.returns-clause-rules
returns-clause-rules c =
    let done = c.items.rules.items in
    rules_done _ done (ap (λ o. joined done (rules_of (map number_at (items_after (option_copied o))))) (sym c.in_default.is) ∙ c.items.invariant) ∙ ap rules_of (numbers_are (option_copied c.args.list))
