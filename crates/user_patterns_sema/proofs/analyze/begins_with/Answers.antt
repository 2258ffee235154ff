use Rattle.std.proofs.Common.{refl}
use Rattle.user_patterns_sema.proofs.analyze.begins_with.Goals as goal

pub returns : goal.returns
returns c =
    rw (
      c.new.ensures.items,
      c.new-2.ensures.items,
      c.new-3.ensures.items,
      c.new-4.ensures.items,
      c.new-5.ensures.items,
      c.new-6.ensures.items,
      c.new-7.ensures.items,
      c.new-8.ensures.items,
      c.new-9.ensures.items,
      c.new-10.ensures.items,
      c.new-11.ensures.items,
      c.in-Ok-variable_kinds.ensures,
      c.deref.ensures.value,
      c.in-Ok.ensures,
    )
    refl
