use Rattle.std.proofs.Common.{◌≡◌, ◌∙◌, ap, sym, refl, subst, false, List}
use Rattle.conversion.specs.patterns.Rule.{Rule}
use Rattle.mlir_work_script_base.specs.RuleNames.{name_of}
use Rattle.mlir_work_registry.specs.RuleLists.{names_left, names_of, opened}
use Rattle.mlir_work_transforms.specs.Rewriting.{each_rule, rules_named}
use Rattle.mlir_work_transforms.proofs.Chosen.{found_all, found_more, found_none, is_none_of, named_are_tried}
use Rattle.mlir_work_transforms.proofs.Ruled.{joined, none_joined}
use Rattle.mlir_work_transforms.proofs.rewrite.rules_in.Goals as goal

pub names-init : goal.names-init
names-init c =
    let all = rules_named (names_of c.args.list.now) in
    subst (λ (done : List Rule). joined done (each_rule (names_left c.names_in-names.result)) ≡ all) (sym c.new-rules.ensures.items)
    (none_joined (each_rule (names_left c.names_in-names.result)) ∙ ap each_rule c.names_in-names.ensures)

pub names-preserved : goal.names-preserved
names-preserved c =
    found_more _ (name_of c.in-Some.name) (names_left c.next_name.new.names) (names_left c.names.names) c.in-Some-canonical_named.rule c.names.rules.items c.push.new.self.items
    c.in-Some.ensures c.in-Some-canonical_named.ensures c.names.invariant c.in-Ok.ensures.items

pub returns-then-not-are_named-clause-rules : goal.returns-then-not-are_named-clause-rules
returns-then-not-are_named-clause-rules c = is_none_of (rules_named (names_of c.args.list.now)) c.are_named.result c.are_named.ensures c.if-not-are_named.true

pub returns-in_default-canonical_named-clause-rules : goal.returns-in_default-canonical_named-clause-rules
returns-in_default-canonical_named-clause-rules c =
    found_none _ (name_of c.in-Some.name) (names_left c.next_name.new.names) (names_left c.names.names) c.names.rules.items c.in-Some.ensures c.in_default-canonical_named.ensures c.names.invariant

pub returns-in-Err-clause-want : goal.returns-in-Err-clause-want
returns-in-Err-clause-want c = (refl, sym c.are_named.ensures ∙ c.if-not-are_named.false)

pub returns-clause-rules : goal.returns-clause-rules
returns-clause-rules c = found_all _ c.names.rules.items (ap (λ ns. joined c.names.rules.items (each_rule ns)) (sym c.in_default.ensures) ∙ c.names.invariant)

pub returns-clause-canonical : goal.returns-clause-canonical
returns-clause-canonical c =
    named_are_tried (opened false (names_of c.args.list.now)) c.names.rules.items
    (found_all _ c.names.rules.items (ap (λ ns. joined c.names.rules.items (each_rule ns)) (sym c.in_default.ensures) ∙ c.names.invariant))
