use Rattle.std.proofs.Common.{sym, ◌∙◌, subst, codes, false}
use Rattle.ir_event.specs.types.Terms.{Overflow}
use Rattle.ir_event.specs.types.WordNames.{word_bytes}
use Rattle.ir_event.specs.types.declared.word.Word.TheVariants.{OverflowFlags}
use Rattle.patterns.specs.Interned.{IsNameOf}
use Rattle.patterns.proofs.Adding.{added_none}
use Rattle.patterns_matchers.proofs.Names.{word_named, word_there}
use Rattle.user_patterns_apply.proofs.intern.flags.Goals as goal
use Rattle.patterns.proofs.Leaves.{flags_set}

pub returns-then-not-is_flagged-clause-added : goal.returns-then-not-is_flagged-clause-added
returns-then-not-is_flagged-clause-added g c = added_none g.L.Analysis.meaning c.args.bench.now

pub returns-in-Ok-clause-ok : goal.returns-in-Ok-clause-ok
returns-in-Ok-clause-ok g c =
    let d = c.attr-made.new.bench.transaction.ctx in
    (codes "overflowFlags", Overflow false false, subst (λ n. IsNameOf d n (word_bytes OverflowFlags)) (sym c.id.ensures) (word_there d OverflowFlags c.is_wellformed.ensures.context, word_named d OverflowFlags c.is_wellformed.ensures.context), c.in-Ok.ensures.ok, flags_set (word_bytes c.args.word) (sym c.is_flagged.ensures ∙ c.if-not-is_flagged.false))
