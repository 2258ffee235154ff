use Rattle.std.proofs.Common.{◌≡◌, ◌∙◌, ap, sym, refl, map, ℕ, List, Some, None, Vec, Global}
use Rattle.ir_event.specs.types.declared.refusal.Refusal.TheVariants.{Full, Memory}
use Rattle.mlir_work_transforms.specs.greedy.Changes.{canonicalizing, rewriting}
use Rattle.mlir_work_transforms.specs.greedy.PatternSet.{by_rules}
use Rattle.mlir_work_transforms.specs.registry.RuleLists.{names_of}
use Rattle.mlir_work_session.specs.Machine.{limit_or}
use Rattle.mlir_work_session.proofs.Headroom.{other_headroom}
use Rattle.mlir_work_session.proofs.Rewritten.{rewrites_rules, rewrites_unlisted, rewrites_unruled, rules_rewrite, same_headroom}
use Rattle.mlir_work_session.proofs.rewriting.rewrite.Goals as goal

pub returns-in_default-clause-rewrites : goal.returns-in_default-clause-rewrites
returns-in_default-clause-rewrites g c =
    let lines = c.of_rules-lines.ensures in
    let limit = lines.limit ∙ c.limit_of-limit.ensures in
    rw c.in_default.is (rewrites_rules c.args.session_options.now c.args.form None c.args.limit _ _ _ _ (canonicalizing c.of_rules-lines.result.limit) _ _ _ _ _
    (ap (λ n. Some (canonicalizing n)) (sym limit)) refl lines.form limit lines.text (ap (λ (ns : List (Vec ℕ Global)). map (λ n. n.items) ns) lines.names) c.rewrite_by.ensures.follows c.rewrite_by.ensures.shows)

pub returns-in_default-clause-headroom : goal.returns-in_default-clause-headroom
returns-in_default-clause-headroom g c f is =
    let limit = c.of_rules-lines.ensures.limit ∙ c.limit_of-limit.ensures in
    same_headroom _ (Some (canonicalizing (limit_or c.args.session_options.now.limit c.args.limit))) f (canonicalizing c.of_rules-lines.result.limit) _ (ap (λ n. Some (canonicalizing n)) (sym limit)) (rw c.in_default.is at is) c.rewrite_by.ensures.headroom

pub returns-in-Ok-None-clause-rewrites : goal.returns-in-Ok-None-clause-rewrites
returns-in-Ok-None-clause-rewrites g c =
    rw (c.in-Some.is, c.reply_only.ensures.reply, c.reply_only.ensures.shows) (rewrites_unruled c.args.session_options.now c.args.form (names_of c.in-Some.list.now) c.args.limit _ (rw c.in-Ok-None.field-0-is at c.in-Ok-None.ensures.rules))

pub returns-in-Ok-None-clause-headroom : goal.returns-in-Ok-None-clause-headroom
returns-in-Ok-None-clause-headroom g c f is = rw c.reply_only.ensures.reply (other_headroom _ _ f _ (λ e. cc))

pub returns-in-Err-clause-rewrites : goal.returns-in-Err-clause-rewrites
returns-in-Err-clause-rewrites g c =
    rw (c.in-Some.is, c.reply_only-in-Err.ensures.reply, c.reply_only-in-Err.ensures.shows) (rewrites_unlisted c.args.session_options.now c.args.form (names_of c.in-Some.list.now) c.args.limit _ c.in-Err.refusal c.in-Err.ensures.want.0 c.in-Err.ensures.want.1)

pub returns-in-Err-clause-headroom : goal.returns-in-Err-clause-headroom
returns-in-Err-clause-headroom g c f is = rw c.reply_only-in-Err.ensures.reply (other_headroom _ _ f c.in-Err.refusal (λ e. let z : Memory ≡ Full = sym c.in-Err.ensures.want.0 ∙ e in cc))

pub returns-clause-rewrites : goal.returns-clause-rewrites
returns-clause-rewrites g c =
    let names = names_of c.in-Some.list.now in
    let rs = c.in-Ok-Some.rules.items in
    let rules = rw c.in-Ok-Some.field-0-is at c.in-Ok-Some.ensures.rules in
    let lines = c.of_rules-lines-2.ensures in
    let limit = lines.limit ∙ c.limit_of-limit.ensures in
    rw c.in-Some.is (rewrites_rules c.args.session_options.now c.args.form (Some names) c.args.limit _ _ _ _ (rewriting (by_rules rs) c.of_rules-lines-2.result.limit) rs _ _ _ _
    (rules_rewrite names rs _ rules ∙ ap (λ k. Some (rewriting (by_rules rs) k)) (sym limit)) (sym rules) lines.form limit lines.text (ap (λ (ns : List (Vec ℕ Global)). map (λ n. n.items) ns) lines.names)
    (rw c.deref.ensures.value at c.rewrite_by-2.ensures.follows) (rw c.deref.ensures.value at c.rewrite_by-2.ensures.shows))

pub returns-clause-headroom : goal.returns-clause-headroom
returns-clause-headroom g c f is =
    let names = names_of c.in-Some.list.now in
    let rs = c.in-Ok-Some.rules.items in
    let rules = rw c.in-Ok-Some.field-0-is at c.in-Ok-Some.ensures.rules in
    let limit = c.of_rules-lines-2.ensures.limit ∙ c.limit_of-limit.ensures in
    same_headroom _ _ f (rewriting (by_rules rs) c.of_rules-lines-2.result.limit) _ (rules_rewrite names rs _ rules ∙ ap (λ k. Some (rewriting (by_rules rs) k)) (sym limit)) (rw c.in-Some.is at is) (rw c.deref.ensures.value at c.rewrite_by-2.ensures.headroom)
