use Rattle.std.proofs.Common.{◌∙◌, ap, map, subst}
use Rattle.listeners.specs.About.{AreUsesOf}
use Rattle.listeners.specs.Keys.{key_cells, keys_of}
use Rattle.listeners.proofs.ByValue.{all_about}
use Rattle.listeners.proofs.Steps.{if_ok}
use Rattle.listeners.proofs.about.rows_about.Goals as goal

pub returns : goal.returns
returns c =
    let w = c.args.world.now in
    let found = c.in_ok-keys.ensures in
    let are = subst (λ vs. AreUsesOf vs w.store.module_of.tree found.0) (c.deref.ensures.value ∙ c.in_ok-values.ensures) found.1 in
    let same = c.deref-2.ensures.value ∙ found.2 ∙ ap keys_of (all_about w c.args.subject.now found.0 are) in
    if_ok _ _ c.rows_of_keys.result (λ rows e. e ∙ ap (map key_cells) same) c.rows_of_keys.ensures
