use Rattle.std.proofs.Common.{refl, sym, subst}
use Rattle.ir_event.specs.types.Terms.{IntegerOf, type_term}
use Rattle.ir_event.specs.types.WordNames.{word_bytes}
use Rattle.patterns.specs.Interned.{IsNameOf}
use Rattle.patterns_matchers.proofs.Names.{word_named, word_there}
use Rattle.user_patterns_apply.proofs.intern.integer.Goals as goal

pub returns-in-Ok-clause-ok : goal.returns-in-Ok-clause-ok
returns-in-Ok-clause-ok g c =
    let d = c.attr-made.new.bench.transaction.ctx in
    (word_bytes c.args.key, IntegerOf (type_term c.args.bench.now.transaction.ctx c.args.ty) c.args.value, subst (λ n. IsNameOf d n (word_bytes c.args.key)) (sym c.id.ensures) (word_there d c.args.key c.is_wellformed.ensures.context, word_named d c.args.key c.is_wellformed.ensures.context), c.in-Ok.ensures.ok, refl)
