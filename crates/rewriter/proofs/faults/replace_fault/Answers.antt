use Rattle.std.proofs.Common.{◌≡◌, ◌∙◌, sym, refl, true, false, rules}
use Rattle.std.specs.Prelude.{◌==◌}
use Rattle.rewriter.proofs.Typed.{typed_reason}
use Rattle.rewriter.proofs.faults.replace_fault.Goals as goal

pub returns-then-ne : goal.returns-then-ne
returns-then-ne c =
    let e : (c.in-Some.one == c.in-Some-value_type.other) ≡ false = search rules in
    sym (typed_reason c.args.world.now c.sound.ensures c.args.old.now c.args.new.now c.in-Some.one c.in-Some-value_type.other (sym c.value_type.ensures ∙ c.in-Some.is) (sym c.value_type-2.ensures ∙ c.in-Some-value_type.is) false _ e refl)

pub returns-then-not-users_dominated_by : goal.returns-then-not-users_dominated_by
returns-then-not-users_dominated_by c =
    let e : (c.in-Some.one == c.in-Some-value_type.other) ≡ true = search rules in
    sym (typed_reason c.args.world.now c.sound.ensures c.args.old.now c.args.new.now c.in-Some.one c.in-Some-value_type.other (sym c.value_type.ensures ∙ c.in-Some.is) (sym c.value_type-2.ensures ∙ c.in-Some-value_type.is) true _ e (sym c.users_dominated_by.ensures ∙ c.if-not-users_dominated_by.true))

pub returns : goal.returns
returns c =
    let e : (c.in-Some.one == c.in-Some-value_type.other) ≡ true = search rules in
    sym (typed_reason c.args.world.now c.sound.ensures c.args.old.now c.args.new.now c.in-Some.one c.in-Some-value_type.other (sym c.value_type.ensures ∙ c.in-Some.is) (sym c.value_type-2.ensures ∙ c.in-Some-value_type.is) true _ e (sym c.users_dominated_by.ensures ∙ c.if-not-users_dominated_by.false))
