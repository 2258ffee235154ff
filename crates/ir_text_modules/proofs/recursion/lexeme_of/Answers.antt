use Rattle.ir_text_aliases.specs.Lexemes.{lexeme_len}
use Rattle.ir_text_aliases.proofs.Parted.{scanned_is, lexeme_within}
use Rattle.ir_text_modules.proofs.recursion.lexeme_of.Goals as goal

pub returns : goal.returns
returns c =
    scanned_is c.args.byte (lexeme_len c.args.byte c.args.tail.now) c.args.all.now c.args.tail.now c.after_lexeme-rest.result.now c.requires.all (lexeme_within c.args.byte c.args.tail.now) c.after_lexeme-rest.ensures
