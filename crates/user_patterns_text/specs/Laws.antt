-- What is read is what is spelled.
use Rattle.std.specs.Prelude.{◌≡◌, Some, None}
use Rattle.ir_text_types.specs.Typed.{Text}
use Rattle.user_patterns_text.specs.Syntax.{Pattern}
use Rattle.user_patterns_text.specs.Grammar.{IsPattern, Spells}
use Rattle.user_patterns_text.specs.Recognizing.{read}

-- what is read is spelled
abbrev pub IsRendered : Type 0
IsRendered = (text rest : Text) (p : Pattern) → read text ≡ Some (p, rest) → IsPattern p text rest

-- what is spelled is read
abbrev pub IsRead : Type 0
IsRead = (text rest : Text) (p : Pattern) → IsPattern p text rest → read text ≡ Some (p, rest)

-- what isn't read is spelled by nothing
abbrev pub SpellsNothing : Type 0
SpellsNothing = (text : Text) → read text ≡ None → (p : Pattern) → Spells text p → ⊥

-- a text spells one pattern at most
abbrev pub SpellsOne : Type 0
SpellsOne = (text : Text) (p q : Pattern) → Spells text p → Spells text q → p ≡ q
