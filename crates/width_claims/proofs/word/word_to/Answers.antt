use Rattle.std.proofs.Common.{arith}
use Rattle.width_claims.proofs.Walking.{letter_more, letters_all}
use Rattle.width_claims.proofs.word.word_to.Goals as goal

pub places-preserved : goal.places-preserved
places-preserved c =
    letter_more c.args.origins.now c.args.place c.args.letter c.places.at _ c.places.word.items _ c.requires.before c.places.invariant.0 (omega (arith, c.places-test.true)) c.places.invariant.1 c.in_ok-push-2.ensures.items

pub returns : goal.returns
returns c = letters_all c.args.origins.now c.args.place c.args.letter c.places.at c.places.word.items _ (omega (arith, c.places-test.false)) c.places.invariant.1 c.reverse.ensures.items
