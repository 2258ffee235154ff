-- The pattern that a whole text spells, and the outcome of reading it.
use Rattle.std.specs.Prelude.{◌≡◌, ◌-◌, length, ℕ, List, Option, Some, None, Result, Ok, Err}
use Rattle.ir_text_tokens.specs.Limits.{text_reason}
use Rattle.ir_text_tokens.specs.declared.refusal.TextRefusal.{TextRefusal}
use Rattle.ir_text_types.specs.Typed.{Text}
use Rattle.user_patterns_text.specs.Syntax as syntax
use Rattle.user_patterns_text.specs.Grammar as grammar
use Rattle.user_patterns_text.specs.declared.error.PatternError.{PatternError}
use Rattle.user_patterns_text.specs.declared.error.PatternError.TheVariants as errors
use Rattle.user_patterns_text.specs.declared.parts.Pattern.{Pattern as PatternCode}
use Rattle.user_patterns_text.specs.Parts.{Pattern, AreParts, pattern_view}
use Rattle.user_patterns_text.specs.Refusing.{Outcome, refused}
use Rattle.user_patterns_text.specs.Reading.{pattern_at}

abbrev pub whole_from : Text → Option (TextRefusal × ℕ) → Outcome Pattern
whole_from text (Some r) = refused r.0 (length text - r.1)
whole_from text None = pattern_at text

-- the outcome of reading a whole text, which must be UTF-8 and within the limit of bytes
unfoldable pub whole_at : Text → Outcome Pattern
whole_at text = whole_from text (text_reason text)

-- a whole text spells a pattern
abbrev pub Spells : Text → syntax.Pattern → Type 0
Spells text q = (text_reason text ≡ None) × grammar.Spells text q

-- the text spells the pattern that was read
abbrev pub IsRendered : Text → PatternCode → Type 0
IsRendered text p = (q : syntax.Pattern) × Spells text q × AreParts (pattern_view p) q

-- reading returned the parts of `q`, or memory ran out
abbrev pub IsReadAs : Result PatternCode PatternError → syntax.Pattern → Type 0
IsReadAs (Ok p) q = AreParts (pattern_view p) q
IsReadAs (Err errors.Memory) q = Unit {0}
IsReadAs (Err (errors.Refused f)) q = ⊥
