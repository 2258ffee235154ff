-- The grammar of the commands on the pattern registry.
use Rattle.std.specs.Prelude.{ℕ, List, [], ◌∷◌, ◌==◌, Bool, false, not, Option, Some, None, if◌then◌else◌, codes, length, option_and_then}
use Rattle.std.specs.Char.{is_ascii_digit}
use Rattle.std.specs.Str.{bytes_eq}
use Rattle.mlir_work_script_base.specs.Numbers.{number_of}
use Rattle.mlir_work_script_base.specs.Words.{word_of, after_word}
use Rattle.mlir_work_script.specs.declared.registry_command.RegistryCommand.{RegistryCommand as Coded}
use Rattle.mlir_work_script.specs.declared.registry_command.RegistryCommand.TheVariants as code

-- a command on the pattern registry
pub data RegistryCommand : Type 0 where
  -- defines the pattern of a text
  Define : List ℕ → RegistryCommand
  -- defines the pattern of a text, in place of the one of its name
  Redefine : List ℕ → RegistryCommand
  -- removes a pattern
  Forget : List ℕ → RegistryCommand
  -- lists all patterns
  Patterns : RegistryCommand
  -- checks a pattern up to a maximum width, or up to the default width
  Check : List ℕ → Option ℕ → RegistryCommand
  -- checks each pattern in order, or the pattern named `all` alone
  CheckAll : RegistryCommand
  -- tests a pattern at one width with edge values and random values
  Sample : List ℕ → ℕ → RegistryCommand

-- the model of a registry command, read from memory
abbrev pub registry_command_of : Coded → RegistryCommand
registry_command_of (code.Define text) = Define text.now
registry_command_of (code.Redefine text) = Redefine text.now
registry_command_of (code.Forget name) = Forget name.now
registry_command_of code.Patterns = Patterns
registry_command_of (code.Check name width) = Check name.now width
registry_command_of code.CheckAll = CheckAll
registry_command_of (code.Sample name width) = Sample name.now width

-- the command, if nothing is left
abbrev pub if_at_end : List ℕ → Option RegistryCommand → Option RegistryCommand
if_at_end rest session_command = if length rest == 0 then session_command else None

-- pattern TEXT; the text is the rest of the line
abbrev pub define_in : List ℕ → Option RegistryCommand
define_in rest = if length rest == 0 then None else Some (Define rest)

-- pattern! TEXT
abbrev pub redefine_in : List ℕ → Option RegistryCommand
redefine_in rest = if length rest == 0 then None else Some (Redefine rest)

-- patterns
abbrev pub patterns_in : List ℕ → Option RegistryCommand
patterns_in rest = if_at_end rest (Some Patterns)

-- a name is a word that isn't empty and doesn't begin with a digit
abbrev pub is_name : List ℕ → Bool
is_name [] = false
is_name (b ∷ bs) = not (is_ascii_digit b)

-- forget NAME
abbrev pub forget_in : List ℕ → Option RegistryCommand
forget_in rest = if is_name (word_of rest) then if_at_end (after_word rest) (Some (Forget (word_of rest))) else None

-- the text after a width: nothing, or `sampled`
abbrev pub checked_or_sampled_in : List ℕ → List ℕ → ℕ → Option RegistryCommand
checked_or_sampled_in name rest w =
    if length rest == 0 then Some (Check name (Some w))
    else if bytes_eq (word_of rest) (codes "sampled") then if_at_end (after_word rest) (Some (Sample name w))
    else None

-- width W [sampled]
abbrev pub width_in : List ℕ → List ℕ → Option RegistryCommand
width_in name text =
    if bytes_eq (word_of text) (codes "width")
    then option_and_then (checked_or_sampled_in name (after_word (after_word text))) (number_of (word_of (after_word text)))
    else None

-- check NAME; `check all` checks each pattern
abbrev pub unsized_check : List ℕ → RegistryCommand
unsized_check name = if bytes_eq name (codes "all") then CheckAll else Check name None

-- the text after a name: nothing, or a width
abbrev pub checked_in : List ℕ → List ℕ → Option RegistryCommand
checked_in name rest = if length rest == 0 then Some (unsized_check name) else width_in name rest

-- check NAME [width W [sampled]], and check all
abbrev pub check_in : List ℕ → Option RegistryCommand
check_in rest = if is_name (word_of rest) then checked_in (word_of rest) (after_word rest) else None

-- a registry command, from its name and the rest of the line
abbrev pub registry_command_named : List ℕ → List ℕ → Option RegistryCommand
registry_command_named name rest =
    if bytes_eq name (codes "pattern") then define_in rest
    else if bytes_eq name (codes "pattern!") then redefine_in rest
    else if bytes_eq name (codes "forget") then forget_in rest
    else if bytes_eq name (codes "patterns") then patterns_in rest
    else if bytes_eq name (codes "check") then check_in rest
    else None

-- a trimmed line as a registry command
abbrev pub registry_command_in : List ℕ → Option RegistryCommand
registry_command_in text = registry_command_named (word_of text) (after_word text)
