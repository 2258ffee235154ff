use Rattle.std.proofs.Common.{◌∙◌, sym, inr}
use Rattle.mlir_work_transforms.specs.rewriter.Commands as command
use Rattle.mlir_work_transforms.specs.rewriter.Machine as call
use Rattle.mlir_work_script_base.specs.RuleNames.{name_of}
use Rattle.mlir_work_transforms.specs.Applying.{applying}
use Rattle.mlir_work_session.proofs.Obeying.{asks_ruled, obeys_plain, obeys_unruled}
use Rattle.mlir_work_session.proofs.Headroom.{no_rule_headroom, rule_headroom}
use Rattle.mlir_work_session.proofs.transforming.apply_named_rule.Goals as goal

pub returns-in_default-clause-obeys : goal.returns-in_default-clause-obeys
returns-in_default-clause-obeys g c session_options = obeys_unruled session_options (name_of c.args.name.now) c.args.op _ (sym c.rule_named.ensures ∙ c.in_default.is)

pub returns-in_default-clause-headroom : goal.returns-in_default-clause-headroom
returns-in_default-clause-headroom g c f e = no_rule_headroom _ _ _ _ _ (sym c.rule_named.ensures ∙ c.in_default.is) e

pub returns-clause-obeys : goal.returns-clause-obeys
returns-clause-obeys g c session_options =
    obeys_plain session_options _ _ (command.Apply (name_of c.args.name.now) c.args.op) (call.Change (applying c.in-Some.rule c.args.op)) _ _ c.reply_applied.ensures (asks_ruled session_options (name_of c.args.name.now) c.args.op c.in-Some.rule (sym c.rule_named.ensures ∙ c.in-Some.is)) c.apply_rule.ensures.does

pub returns-clause-headroom : goal.returns-clause-headroom
returns-clause-headroom g c f e =
    rule_headroom _ _ _ _ _ _ _ (λ more. inr more) (sym c.rule_named.ensures ∙ c.in-Some.is) e c.reply_applied.ensures c.apply_rule.ensures.headroom

pub returns-clause-kept : goal.returns-clause-kept
returns-clause-kept g c = c.led_benches_are_kept.ensures.kept _ _ c.apply_rule.ensures.led c.requires

pub returns-clause-mode : goal.returns-clause-mode
returns-clause-mode g c = c.apply_rule.ensures.grows.opaque
