-- Rule names and lists of rules.
use Rattle.std.specs.Prelude.{ℕ, List, [], ◌∷◌, ◌&&◌, nat_le, Bool, Option, Some, None, if◌then◌else◌, option_and_then}
use Rattle.std.specs.Prelude.{is_some, map}
use Rattle.std.specs.Char.{is_ascii_digit}
use Rattle.std.specs.List.{list_all}
use Rattle.rewriter_machine.specs.Commands.{RuleName as Said, Numbered, Worded}
use Rattle.mlir_work_script_base.specs.declared.rule_name.RuleName.{RuleName}
use Rattle.mlir_work_script_base.specs.declared.rule_name.RuleName.TheVariants as code
use Rattle.mlir_work_script_base.specs.Items.{items_of}
use Rattle.mlir_work_script_base.specs.Numbers.{number_of}

-- the model of a rule name, read from memory
abbrev pub name_of : RuleName → Said
name_of (code.Number n) = Numbered n
name_of (code.Word word) = Worded word.now

-- rules have the numbers 1 to 30
abbrev pub numbered : ℕ → Option Said
numbered n = if nat_le 1 n && nat_le n 30 then Some (Numbered n) else None

-- the rule name of a word; a word that begins with a digit is a number
abbrev pub rule_in : List ℕ → Option Said
rule_in [] = None
rule_in (b ∷ bs) = if is_ascii_digit b then option_and_then numbered (number_of (b ∷ bs)) else Some (Worded (b ∷ bs))

-- the rules for rewriting; the rules 25 to 30 are for conversion
abbrev pub rewriting : Said → Option Said
rewriting (Numbered n) = if nat_le n 24 then Some (Numbered n) else None
rewriting (Worded word) = Some (Worded word)

-- whether an item of a list may name a rewriting rule, and whether each item does
abbrev pub is_rewriting_rule : List ℕ → Bool
is_rewriting_rule item = is_some (option_and_then rewriting (rule_in item))

abbrev pub are_rewriting_rules : List ℕ → Bool
are_rewriting_rules text = list_all is_rewriting_rule (items_of text)

-- the rule name of an item; a malformed item becomes a word that no rule has
abbrev pub name_or_none : Option Said → Said
name_or_none None = Worded []
name_or_none (Some name) = name

-- the rule names of the items of a list
abbrev pub names_of : List ℕ → List Said
names_of text = map (λ item. name_or_none (rule_in item)) (items_of text)
