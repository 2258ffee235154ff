use Rattle.std.proofs.Common.{◌≡◌, ◌∙◌, ap, refl, sym, map, ℕ, List, Vec, Global}
use Rattle.std.specs.Prelude.{is_some}
use Rattle.ir_event.specs.types.declared.refusal.Refusal.TheVariants.{Full, Memory}
use Rattle.mlir_work_transforms.specs.Unproved.{unproved_of}
use Rattle.mlir_work_transforms.specs.registry.Registry.{registry_model}
use Rattle.mlir_work_session.specs.ListCommandViews.{list_command_view}
use Rattle.mlir_work_session.proofs.AnswersRuleList.{list_command_headroom, list_command_unroomed, mixes_found, unless_forgot, unless_proved, unless_unnamed, unless_unproved}
use Rattle.mlir_work_session.proofs.Reading.{held_bytes}
use Rattle.mlir_work_session.proofs.rule_lists.rewrite_list_command.Goals as goal

pub returns-in-Ok-None-clause-mixes : goal.returns-in-Ok-None-clause-mixes
returns-in-Ok-None-clause-mixes g c =
    rw (c.reply_only.ensures.reply, c.reply_only.ensures.shows) (unless_unnamed c.args.session_options.now (registry_model c.args.registry.now) (list_command_view c.args.list_command.now) _ (rw c.in-Ok-None.field-0-is at c.in-Ok-None.ensures.rule_list))

pub returns-in-Err-clause-mixes : goal.returns-in-Err-clause-mixes
returns-in-Err-clause-mixes g c =
    rw (c.reply_only-in-Err.ensures.reply, c.reply_only-in-Err.ensures.shows) (unless_forgot c.args.session_options.now (registry_model c.args.registry.now) (list_command_view c.args.list_command.now) _ c.in-Err.refusal c.in-Err.ensures.want.0 c.in-Err.ensures.want.1)

pub returns-in_default-clause-mixes : goal.returns-in_default-clause-mixes
returns-in_default-clause-mixes g c =
    let m = rw c.in-Ok-Some.field-0-is at c.in-Ok-Some.ensures.rule_list in
    rw (c.reply_only-in_default.ensures.reply, c.reply_only-in_default.ensures.shows) (unless_forgot c.args.session_options.now (registry_model c.args.registry.now) (list_command_view c.args.list_command.now) _ Memory refl (ap is_some m.1))

pub returns-clause-mixes : goal.returns-clause-mixes
returns-clause-mixes g c =
    let options = c.args.session_options.now in
    let registry = registry_model c.args.registry.now in
    let x = list_command_view c.args.list_command.now in
    let m = rw c.in-Ok-Some.field-0-is at c.in-Ok-Some.ensures.rule_list in
    let these = held_bytes c.args.bench.now.transaction c.world.result.now c.world.ensures.ctx c.world.ensures.store (unproved_of registry x.names) c.in-Ok.text.items c.in-Ok.ensures in
    let new = c.new-lines.ensures in
    let labels = ap (λ (ns : List (Vec ℕ Global)). map (λ n. n.items) ns) (ap (λ (v : Vec (Vec ℕ Global) Global). v.items) new.names) ∙ m.2.names in
    unless_proved options registry x _ _ _ _ m.0 c.in-Ok.text.items _ m.1 these (rw c.deref.ensures.value at c.is_refused.ensures) c.if-is_refused.false
    (mixes_found options registry x _ _ _ _ _ m.0 _ _ _ _ m.1 (ap (λ (v : Vec ℕ Global). v.items) new.text ∙ these) new.form m.2.rules_and_patterns labels (new.limit ∙ c.limit_of-limit.ensures)
    (rw c.deref-2.ensures.value at c.rewrite_by.ensures.follows) (rw c.deref-2.ensures.value at c.rewrite_by.ensures.shows))

pub returns-then-is_refused-clause-mixes : goal.returns-then-is_refused-clause-mixes
returns-then-is_refused-clause-mixes g c =
    let m = rw c.in-Ok-Some.field-0-is at c.in-Ok-Some.ensures.rule_list in
    let these = held_bytes c.args.bench.now.transaction c.world.result.now c.world.ensures.ctx c.world.ensures.store (unproved_of (registry_model c.args.registry.now) (list_command_view c.args.list_command.now).names) c.in-Ok.text.items c.in-Ok.ensures in
    unless_unproved c.args.session_options.now (registry_model c.args.registry.now) (list_command_view c.args.list_command.now) _ m.0 c.in-Ok.text.items _ m.1 these (rw c.deref.ensures.value at c.is_refused.ensures) c.if-is_refused.true

pub returns-in-Ok-None-clause-headroom : goal.returns-in-Ok-None-clause-headroom
returns-in-Ok-None-clause-headroom g c =
    rw c.reply_only.ensures.reply (list_command_unroomed c.args.session_options.now (registry_model c.args.registry.now) (list_command_view c.args.list_command.now) _ _ _ (λ e. cc))

pub returns-in-Err-clause-headroom : goal.returns-in-Err-clause-headroom
returns-in-Err-clause-headroom g c =
    rw c.reply_only-in-Err.ensures.reply (list_command_unroomed c.args.session_options.now (registry_model c.args.registry.now) (list_command_view c.args.list_command.now) _ _ c.in-Err.refusal (λ e. let z : Memory ≡ Full = sym c.in-Err.ensures.want.0 ∙ e in cc))

pub returns-in_default-clause-headroom : goal.returns-in_default-clause-headroom
returns-in_default-clause-headroom g c =
    rw c.reply_only-in_default.ensures.reply (list_command_unroomed c.args.session_options.now (registry_model c.args.registry.now) (list_command_view c.args.list_command.now) _ _ _ (λ e. cc))

pub returns-then-is_refused-clause-headroom : goal.returns-then-is_refused-clause-headroom
returns-then-is_refused-clause-headroom g c = list_command_unroomed c.args.session_options.now (registry_model c.args.registry.now) (list_command_view c.args.list_command.now) _ _ _ (λ e. cc)

pub returns-clause-headroom : goal.returns-clause-headroom
returns-clause-headroom g c =
    let m = rw c.in-Ok-Some.field-0-is at c.in-Ok-Some.ensures.rule_list in
    list_command_headroom c.args.session_options.now (registry_model c.args.registry.now) (list_command_view c.args.list_command.now) _ _ _ m.0 _ _ m.1 m.2.rules_and_patterns (c.new-lines.ensures.limit ∙ c.limit_of-limit.ensures) (rw c.deref-2.ensures.value at c.rewrite_by.ensures.headroom)
