use Rattle.std.proofs.Common.{ap, sym, ◌∙◌, ◌+◌, ◌≡◌, Some, map, arith}
use Rattle.std.specs.Prelude.{is_none, option_map}
use Rattle.ir_event.specs.Modules.{module_in}
use Rattle.dialects_int.specs.Folds.{known_of}
use Rattle.patterns_base.specs.Looks.{is_verified}
use Rattle.user_patterns_data.specs.Matching.{binding_at}
use Rattle.user_patterns_data.specs.Planning.{new_place}
use Rattle.user_patterns_data.specs.Shapes.{pattern_model}
use Rattle.user_patterns_apply.specs.Built.{made_in, operand_in, operands_in}
use Rattle.user_patterns_apply.specs.Types.{types_in}
use Rattle.user_patterns_apply.proofs.Additions.{value_standing}
use Rattle.user_patterns_apply.proofs.Planned.{is_given, made_none, made_some, not_extra, not_given, not_made, same_makes, whole_again}
use Rattle.user_patterns_apply.proofs.Tested.{extra_by, extra_stops, made_stops, planned_passes, result_stops}
use Rattle.user_patterns_apply.proofs.plan.build.Goals as goal

pub returns-in-Some-clause-plan : goal.returns-in-Some-clause-plan
returns-in-Some-clause-plan c =
    let w = c.args.world.now in
    let m = module_in w in
    let p = pattern_model c.args.pattern.now in
    let ts = types_in w.ctx c.args.types.now in
    let env = map known_of c.args.env.now in
    not_extra m.tree (is_verified m.tree) m.next p c.args.values.now ts env (is_none c.in_ok-mismatch.field-0) (extra_by m.tree (is_verified m.tree) m.next p c.args.values.now env _ c.in_ok-mismatch.ensures) (ap is_none c.in-Some.is)

pub returns-in-Some-clause-tests : goal.returns-in-Some-clause-tests
returns-in-Some-clause-tests c =
    let w = c.args.world.now in
    let m = module_in w in
    let p = pattern_model c.args.pattern.now in
    let ts = types_in w.ctx c.args.types.now in
    let env = map known_of c.args.env.now in
    extra_stops m.tree (is_verified m.tree) m.next p c.args.values.now ts env c.in-Some.mismatch (sym c.in-Some.is ∙ c.in_ok-mismatch.ensures)

pub returns-in_default-2-clause-plan : goal.returns-in_default-2-clause-plan
returns-in_default-2-clause-plan c =
    let w = c.args.world.now in
    let m = module_in w in
    let p = pattern_model c.args.pattern.now in
    let ts = types_in w.ctx c.args.types.now in
    let env = map known_of c.args.env.now in
    let place : c.old_begins.result + c.len.result ≡ new_place p = omega (arith, c.old_begins.ensures.place, c.len.ensures, c.args.pattern.now.old.ok.0) in
    let same = same_makes ts env c.next_id-next.result m.next (c.old_begins.result + c.len.result) (new_place p) c.deref.result.now p.new c.deref_mut.result.now c.args.values.now c.next_id-next.ensures place c.deref.ensures.value (c.deref_mut.ensures.value ∙ c.in_ok-operands.ensures) in
    not_made m.tree (is_verified m.tree) m.next p c.args.values.now ts env (is_none c.in_ok-mismatch.field-0) (extra_by m.tree (is_verified m.tree) m.next p c.args.values.now env _ c.in_ok-mismatch.ensures) (ap is_none c.in_default.is) _ same
    (made_none w.ctx c.next_id-next.result _ _ c.make_all.new.operands c.in_ok-made.ensures.made (ap (option_map (λ v. v.items)) c.in_default-2.is))

pub returns-in-Some-operand_at-clause-plan : goal.returns-in-Some-operand_at-clause-plan
returns-in-Some-operand_at-clause-plan c =
    let w = c.args.world.now in
    let m = module_in w in
    let p = pattern_model c.args.pattern.now in
    let ts = types_in w.ctx c.args.types.now in
    let env = map known_of c.args.env.now in
    let place : c.old_begins.result + c.len.result ≡ new_place p = omega (arith, c.old_begins.ensures.place, c.len.ensures, c.args.pattern.now.old.ok.0) in
    let same = same_makes ts env c.next_id-next.result m.next (c.old_begins.result + c.len.result) (new_place p) c.deref.result.now p.new c.deref_mut.result.now c.args.values.now c.next_id-next.ensures place c.deref.ensures.value (c.deref_mut.ensures.value ∙ c.in_ok-operands.ensures) in
    let os = c.make_all.new.operands in
    let shown : c.deref-2.result.now ≡ c.make_all.new.operands = c.deref-2.ensures.value ∙ whole_again c.in_ok-operands.operands.len c.make_all.new.operands c.in_ok-operands.operands.items (omega (arith, c.make_all.auto.operands, c.deref_mut.ensures.len)) in
    let all = made_some w.ctx c.next_id-next.result _ _ os c.in_ok-made.ensures.made c.in-Some-2.made.items (ap (option_map (λ v. v.items)) c.in-Some-2.is) ∙ ap (λ j. Some (map (made_in w.ctx j) c.in-Some-2.made.items, operands_in j os)) c.next_id-next.ensures in
    is_given m.tree (is_verified m.tree) m.next p c.args.values.now ts env (is_none c.in_ok-mismatch.field-0) (extra_by m.tree (is_verified m.tree) m.next p c.args.values.now env _ c.in_ok-mismatch.ensures) (ap is_none c.in_default.is) _ same w.ctx c.in-Some-2.made.items os all c.in-Some-operand_at.result
    (sym c.in-Some-operand_at.is ∙ c.operand_at.ensures ∙ ap (binding_at p.result) shown)

pub returns-clause-plan : goal.returns-clause-plan
returns-clause-plan c =
    let w = c.args.world.now in
    let m = module_in w in
    let p = pattern_model c.args.pattern.now in
    let ts = types_in w.ctx c.args.types.now in
    let env = map known_of c.args.env.now in
    let place : c.old_begins.result + c.len.result ≡ new_place p = omega (arith, c.old_begins.ensures.place, c.len.ensures, c.args.pattern.now.old.ok.0) in
    let same = same_makes ts env c.next_id-next.result m.next (c.old_begins.result + c.len.result) (new_place p) c.deref.result.now p.new c.deref_mut.result.now c.args.values.now c.next_id-next.ensures place c.deref.ensures.value (c.deref_mut.ensures.value ∙ c.in_ok-operands.ensures) in
    let os = c.make_all.new.operands in
    let shown : c.deref-2.result.now ≡ c.make_all.new.operands = c.deref-2.ensures.value ∙ whole_again c.in_ok-operands.operands.len c.make_all.new.operands c.in_ok-operands.operands.items (omega (arith, c.make_all.auto.operands, c.deref_mut.ensures.len)) in
    let all = made_some w.ctx c.next_id-next.result _ _ os c.in_ok-made.ensures.made c.in-Some-2.made.items (ap (option_map (λ v. v.items)) c.in-Some-2.is) ∙ ap (λ j. Some (map (made_in w.ctx j) c.in-Some-2.made.items, operands_in j os)) c.next_id-next.ensures in
    not_given m.tree (is_verified m.tree) m.next p c.args.values.now ts env (is_none c.in_ok-mismatch.field-0) (extra_by m.tree (is_verified m.tree) m.next p c.args.values.now env _ c.in_ok-mismatch.ensures) (ap is_none c.in_default.is) _ same w.ctx c.in-Some-2.made.items os all
    (sym c.in-None.is ∙ c.operand_at.ensures ∙ ap (binding_at p.result) shown)

pub returns-in_default-2-clause-tests : goal.returns-in_default-2-clause-tests
returns-in_default-2-clause-tests c =
    let w = c.args.world.now in
    let m = module_in w in
    let p = pattern_model c.args.pattern.now in
    let ts = types_in w.ctx c.args.types.now in
    let env = map known_of c.args.env.now in
    let place : c.old_begins.result + c.len.result ≡ new_place p = omega (arith, c.old_begins.ensures.place, c.len.ensures, c.args.pattern.now.old.ok.0) in
    let same = same_makes ts env c.next_id-next.result m.next (c.old_begins.result + c.len.result) (new_place p) c.deref.result.now p.new c.deref_mut.result.now c.args.values.now c.next_id-next.ensures place c.deref.ensures.value (c.deref_mut.ensures.value ∙ c.in_ok-operands.ensures) in
    made_stops m.tree (is_verified m.tree) m.next p c.args.values.now ts env (sym c.in_default.is ∙ c.in_ok-mismatch.ensures)
    (sym same ∙ made_none w.ctx c.next_id-next.result _ _ c.make_all.new.operands c.in_ok-made.ensures.made (ap (option_map (λ v. v.items)) c.in_default-2.is))

pub returns-in-Some-operand_at-clause-tests : goal.returns-in-Some-operand_at-clause-tests
returns-in-Some-operand_at-clause-tests c =
    let w = c.args.world.now in
    let m = module_in w in
    let p = pattern_model c.args.pattern.now in
    let ts = types_in w.ctx c.args.types.now in
    let env = map known_of c.args.env.now in
    let place : c.old_begins.result + c.len.result ≡ new_place p = omega (arith, c.old_begins.ensures.place, c.len.ensures, c.args.pattern.now.old.ok.0) in
    let same = same_makes ts env c.next_id-next.result m.next (c.old_begins.result + c.len.result) (new_place p) c.deref.result.now p.new c.deref_mut.result.now c.args.values.now c.next_id-next.ensures place c.deref.ensures.value (c.deref_mut.ensures.value ∙ c.in_ok-operands.ensures) in
    let os = c.make_all.new.operands in
    let shown : c.deref-2.result.now ≡ c.make_all.new.operands = c.deref-2.ensures.value ∙ whole_again c.in_ok-operands.operands.len c.make_all.new.operands c.in_ok-operands.operands.items (omega (arith, c.make_all.auto.operands, c.deref_mut.ensures.len)) in
    let all = made_some w.ctx c.next_id-next.result _ _ os c.in_ok-made.ensures.made c.in-Some-2.made.items (ap (option_map (λ v. v.items)) c.in-Some-2.is) ∙ ap (λ j. Some (map (made_in w.ctx j) c.in-Some-2.made.items, operands_in j os)) c.next_id-next.ensures in
    planned_passes m.tree (is_verified m.tree) m.next p c.args.values.now ts env (sym c.in_default.is ∙ c.in_ok-mismatch.ensures) _ _ (sym same ∙ all)
    (sym (ap (option_map (operand_in m.next)) (sym c.in-Some-operand_at.is ∙ c.operand_at.ensures ∙ ap (binding_at p.result) shown) ∙ value_standing m.next p.result os))

pub returns-clause-tests : goal.returns-clause-tests
returns-clause-tests c =
    let w = c.args.world.now in
    let m = module_in w in
    let p = pattern_model c.args.pattern.now in
    let ts = types_in w.ctx c.args.types.now in
    let env = map known_of c.args.env.now in
    let place : c.old_begins.result + c.len.result ≡ new_place p = omega (arith, c.old_begins.ensures.place, c.len.ensures, c.args.pattern.now.old.ok.0) in
    let same = same_makes ts env c.next_id-next.result m.next (c.old_begins.result + c.len.result) (new_place p) c.deref.result.now p.new c.deref_mut.result.now c.args.values.now c.next_id-next.ensures place c.deref.ensures.value (c.deref_mut.ensures.value ∙ c.in_ok-operands.ensures) in
    let os = c.make_all.new.operands in
    let shown : c.deref-2.result.now ≡ c.make_all.new.operands = c.deref-2.ensures.value ∙ whole_again c.in_ok-operands.operands.len c.make_all.new.operands c.in_ok-operands.operands.items (omega (arith, c.make_all.auto.operands, c.deref_mut.ensures.len)) in
    let all = made_some w.ctx c.next_id-next.result _ _ os c.in_ok-made.ensures.made c.in-Some-2.made.items (ap (option_map (λ v. v.items)) c.in-Some-2.is) ∙ ap (λ j. Some (map (made_in w.ctx j) c.in-Some-2.made.items, operands_in j os)) c.next_id-next.ensures in
    result_stops m.tree (is_verified m.tree) m.next p c.args.values.now ts env (sym c.in_default.is ∙ c.in_ok-mismatch.ensures) _ (sym same ∙ all)
    (sym (ap (option_map (operand_in m.next)) (sym c.in-None.is ∙ c.operand_at.ensures ∙ ap (binding_at p.result) shown) ∙ value_standing m.next p.result os))
