use Rattle.std.proofs.Common.{rules, ◌≡◌, ◌∙◌, ap, filter, not}
use Rattle.std.proofs.lemmas.Fn.{filter_same}
use Rattle.user_patterns_registry.specs.Registry.{is_named, kept_view, kept_views}
use Rattle.user_patterns_registry.proofs.Forgetting.{filter_views}
use Rattle.user_patterns_registry.proofs.registry.forget.Goals as goal

pub returns : goal.returns
returns c =
    let left : c.retain.new.self.items ≡ filter (λ h. not (is_named c.args.name.now (kept_view h))) c.args.registry.now.held.items = filter_same _ _ _ (λ x b f k. search rules) _ _ c.retain.ensures.filtered in
    ap kept_views left ∙ filter_views c.args.name.now c.args.registry.now.held.items
