-- The text that is printed of the parts of a pattern, part by part.
use Rattle.std.specs.Prelude.{◌≡◌, ℕ, Bool, true, false, List, [], ◌∷◌, ◌++◌, codes}
use Rattle.ir_text_tokens.specs.Printing.{signed_text}
use Rattle.ir_text_types.specs.Typed.{Text}
use Rattle.user_patterns_text.specs.Syntax as syntax
use Rattle.user_patterns_text.specs.Grammar as grammar
use Rattle.user_patterns_text.specs.Printing.{show_requested, text_of}
use Rattle.user_patterns_text.specs.Parts.{AreParts, Part, Pattern, operation_part, value_part, literal_part, name_part, function_part, condition_part, type_part, end_part, unplaced}
use Rattle.user_patterns_text.specs.Rendered.{Spells}

-- an item of a list, after a comma if it isn't the first item
abbrev pub item : Bool → Text → Text
item true text = text
item false text = 44 ∷ 32 ∷ text

-- a type: a colon and the type after a term, or an item of a list
abbrev pub type_text : Bool → Bool → List ℕ → Text
type_text true first w = item first w
type_text false first w = 32 ∷ 58 ∷ 32 ∷ w

-- a part: `items` says whether types are items of a list, `first` whether the part is the first item of its list
abbrev pub part_text : Bool → Bool → Part → Text
part_text items first (operation_part name asks) = item first (name ++ show_requested asks (40 ∷ []))
part_text items first (value_part name) = item first (37 ∷ name)
part_text items first (literal_part negative n) = item first (signed_text negative n)
part_text items first (name_part w) = item first w
part_text items first (function_part w) = item first (w ++ 40 ∷ [])
part_text items first (condition_part w) = item first (w ++ 40 ∷ [])
part_text items first (type_part w) = type_text items first w
part_text items first end_part = 41 ∷ []

-- whether the next part is the first item of a list
abbrev pub opens : Part → Bool
opens (operation_part name asks) = true
opens (function_part w) = true
opens (condition_part w) = true
opens (value_part name) = false
opens (literal_part negative n) = false
opens (name_part w) = false
opens (type_part w) = false
opens end_part = false

unfoldable pub parts_text : Bool → Bool → List Part → Text
parts_text items first [] = []
parts_text items first (p ∷ ps) = part_text items first p ++ parts_text items (opens p) ps

-- `where` and the conditions, if there are conditions
abbrev pub where_text : List Part → Text
where_text [] = []
where_text (p ∷ ps) = codes " where " ++ parts_text true true (p ∷ ps)

-- a pattern
unfoldable pub pattern_text : Pattern → Text
pattern_text p =
    p.name ++ (32 ∷ (parts_text false true (unplaced p.old) ++ (codes " => "
    ++ (parts_text false true (unplaced p.new) ++ where_text (unplaced p.conditions)))))

-- ---- laws

-- the text of the parts of a pattern is the text of the pattern
abbrev pub IsTextOf : Type 0
IsTextOf = (p : Pattern) (q : syntax.Pattern) → AreParts p q → pattern_text p ≡ text_of q

-- the printed text of a pattern that a text spells also spells the pattern
abbrev pub SpellsAgain : Type 0
SpellsAgain = (text : Text) (p : Pattern) (q : syntax.Pattern) → Spells text q → AreParts p q → grammar.IsPattern q (pattern_text p) []
