use Rattle.std.proofs.Common.{ap, map, sym, ◌∙◌, subst, arith}
use Rattle.std.specs.Prelude.{is_none}
use Rattle.ir_event.specs.Modules.{module_in}
use Rattle.patterns_base.specs.Looks.{is_verified}
use Rattle.user_patterns_data.specs.Shapes.{pattern_model}
use Rattle.user_patterns_apply.specs.Types.{AreTypesOf, written_of}
use Rattle.user_patterns_apply.proofs.Planned.{typed_shown, typed_tests_are, untyped_plan, whole_again, written_are}
use Rattle.user_patterns_apply.proofs.typing.bound_types.Goals as goal

pub bind_all_types-requires : goal.bind_all_types-requires
bind_all_types-requires c = record {
  of = subst (AreTypesOf c.args.world.now.ctx) (sym (c.deref_mut.ensures.value ∙ c.in_ok-types.ensures ∙ ap (map written_of) c.deref.ensures.value)) (written_are c.args.world.now.ctx c.args.pattern.now.value_types.items);
}

pub returns-in-Some-clause-types : goal.returns-in-Some-clause-types
returns-in-Some-clause-types c =
    let w = c.args.world.now in
    let m = module_in w in
    untyped_plan m.tree (is_verified m.tree) m.next (pattern_model c.args.pattern.now) c.args.values.now w.ctx c.deref_mut.result.now c.bind_all_types.new.types (c.deref_mut.ensures.value ∙ c.in_ok-types.ensures ∙ ap (map written_of) c.deref.ensures.value)
    (is_none c.bind_all_types.result) c.bind_all_types.ensures.stands (ap is_none c.in-Some.is)

pub returns-in-None-clause-types : goal.returns-in-None-clause-types
returns-in-None-clause-types c =
    let w = c.args.world.now in
    let m = module_in w in
    typed_shown m.tree (is_verified m.tree) m.next (pattern_model c.args.pattern.now) c.args.values.now w.ctx c.deref_mut.result.now c.bind_all_types.new.types (c.deref_mut.ensures.value ∙ c.in_ok-types.ensures ∙ ap (map written_of) c.deref.ensures.value)
    (is_none c.bind_all_types.result) c.bind_all_types.ensures.stands _ (whole_again c.in_ok-types.types.len c.bind_all_types.new.types c.in_ok-types.types.items (omega (arith, c.bind_all_types.auto.types, c.deref_mut.ensures.len))) (ap is_none c.in-None.is)

pub returns-in-Some-clause-tests : goal.returns-in-Some-clause-tests
returns-in-Some-clause-tests c =
    let w = c.args.world.now in
    let m = module_in w in
    sym c.in-Some.is ∙ c.bind_all_types.ensures.tests ∙ typed_tests_are m.tree (is_verified m.tree) m.next (pattern_model c.args.pattern.now) c.args.values.now w.ctx c.deref_mut.result.now c.bind_all_types.new.types (c.deref_mut.ensures.value ∙ c.in_ok-types.ensures ∙ ap (map written_of) c.deref.ensures.value)
    (is_none c.bind_all_types.result) c.bind_all_types.ensures.stands

pub returns-in-None-clause-tests : goal.returns-in-None-clause-tests
returns-in-None-clause-tests c =
    let w = c.args.world.now in
    let m = module_in w in
    sym c.in-None.is ∙ c.bind_all_types.ensures.tests ∙ typed_tests_are m.tree (is_verified m.tree) m.next (pattern_model c.args.pattern.now) c.args.values.now w.ctx c.deref_mut.result.now c.bind_all_types.new.types (c.deref_mut.ensures.value ∙ c.in_ok-types.ensures ∙ ap (map written_of) c.deref.ensures.value)
    (is_none c.bind_all_types.result) c.bind_all_types.ensures.stands
