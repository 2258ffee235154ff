use Rattle.std.proofs.Common.{◌*◌, ◌+◌}
use Rattle.ir_text_types.proofs.types.+words.Given as goal

abbrev pub decreases-memref : goal.decreases-memref
decreases-memref l = 4 * l.depth

abbrev pub decreases-after_word : goal.decreases-after_word
decreases-after_word l = 4 * l.depth + 1

abbrev pub decreases-word_type : goal.decreases-word_type
decreases-word_type l = 4 * l.depth + 2

abbrev pub decreases-element : goal.decreases-element
decreases-element l = 4 * l.depth + 3
