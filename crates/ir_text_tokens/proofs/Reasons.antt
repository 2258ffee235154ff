-- The reasons why a text is refused are the first fourteen refusals.
use Rattle.std.proofs.Common.{◌≤◌, ℕ, arith}
use Rattle.ir_types.specs.Refusals.{number_of}
use Rattle.ir_text_tokens.specs.declared.refusal.TextRefusal.{TextRefusal}
use Rattle.ir_text_tokens.specs.declared.refusal.TextRefusal.TheVariants as text
use Rattle.ir_text_tokens.specs.Refusals.{refusal_of}

pub of_texts : (r : TextRefusal) → number_of (refusal_of r) ≤ 14
of_texts text.BadToken = omega arith
of_texts text.Unexpected = omega arith
of_texts text.UnknownValue = omega arith
of_texts text.Redefined = omega arith
of_texts text.TypeMismatch = omega arith
of_texts text.BadWidth = omega arith
of_texts text.BadValue = omega arith
of_texts text.MultipleBlocks = omega arith
of_texts text.Successors = omega arith
of_texts text.TooDeep = omega arith
of_texts text.TooMany = omega arith
of_texts text.DuplicateKey = omega arith
of_texts text.LeftOut = omega arith
of_texts text.NotUtf8 = omega arith
