-- The grammar of script lines, without the refusal that a line may expect.
use Rattle.std.specs.Prelude.{ℕ, List, [], ◌∷◌, ◌==◌, ◌||◌, Bool, Option, Some, None, if◌then◌else◌, codes, length}
use Rattle.std.specs.Prelude.{nat_eq}
use Rattle.std.specs.List.{starts_with}
use Rattle.std.specs.Option.{option_map}
use Rattle.std.specs.Str.{bytes_eq, is_utf8}
use Rattle.ir_event.specs.trees.declared.value.Value.{Value}
use Rattle.rewriter_machine.specs.Commands as said
use Rattle.rewriter_machine.specs.Commands.{Command as Said, RuleName}
use Rattle.rewriter_machine.specs.Points.{Point}
use Rattle.mlir_work_script.specs.RegistryCommands.{RegistryCommand, registry_command_in, registry_command_of}
use Rattle.mlir_work_script_base.specs.Clauses.{Clauses, clauses_of, mode_of, no_clauses, target_of, with_clauses}
use Rattle.mlir_work_script.specs.declared.command.Command.{Command}
use Rattle.mlir_work_script.specs.declared.command.Command.TheVariants as code
use Rattle.mlir_work_script.specs.declared.command.Line.{Line}
use Rattle.mlir_work_script.specs.declared.command.Line.TheVariants as line
use Rattle.mlir_work_script.specs.Expecting.{command_after, expected_in}
use Rattle.mlir_work_script_base.specs.Keys.{key_bytes, key_in}
use Rattle.mlir_work_script_base.specs.Kinds.{kind_of}
use Rattle.mlir_work_script_base.specs.Numbers.{number_of}
use Rattle.mlir_work_script.specs.SessionCommands.{SessionCommand, session_command_in, session_command_of}
use Rattle.mlir_work_script_base.specs.RuleNames.{name_of, rule_in}
use Rattle.mlir_work_script_base.specs.InsertionPoints.{insertion_point_of, point_in}
use Rattle.mlir_work_script_base.specs.Values.{op_of, value_of}
use Rattle.mlir_work_script_base.specs.Words.{trim, word_of, after_word, words_of}

-- a parsed line: empty, not a command, a command on the rewriter, a session command, or a registry command
pub data Spoken : Type 0 where
  Nothing : Spoken
  Bad : Spoken
  Obey : (said : Said) → Spoken
  Ordered : (session_command : SessionCommand) → Spoken
  Registered : (session_command : RegistryCommand) → Spoken

-- the model of a command, read from memory
abbrev pub said_of : Command → Said
said_of (code.Report kind) = said.Report kind
said_of code.Print = said.Print
said_of (code.SetOperand op operand value) = said.SetOperand op operand value
said_of (code.Move op point) = said.Move op (insertion_point_of point)
said_of (code.SetAttr op key attribute) = said.SetAttr op (key_bytes key) attribute.now
said_of (code.DropAttr op key) = said.DropAttr op (key_bytes key)
said_of (code.Erase op) = said.Erase op
said_of (code.Insert point operation) = said.Insert (insertion_point_of point) operation.now
said_of (code.Replace old new) = said.Replace old new
said_of (code.Canon limit) = said.Canon limit
said_of (code.Convert full clauses) = said.Convert (target_of full (clauses_of clauses))
said_of code.Sweep = said.Sweep
said_of (code.Apply rule op) = said.Apply (name_of rule) op
said_of code.Begin = said.Begin
said_of code.Commit = said.Commit
said_of code.Rollback = said.Rollback
said_of (code.Detach kind) = said.Detach kind
said_of (code.Resync kind) = said.Resync kind

abbrev pub spoken_of : Line → Spoken
spoken_of line.Empty = Nothing
spoken_of line.BadCommand = Bad
spoken_of (line.Command command) = Obey (said_of command)
spoken_of (line.Session session_command) = Ordered (session_command_of session_command)
spoken_of (line.Registry session_command) = Registered (registry_command_of session_command)

-- the command, if nothing is left
abbrev pub alone : List ℕ → Option Said → Option Said
alone [] said = said
alone (b ∷ bs) said = None

-- report KIND, and the other commands whose only argument is a kind
abbrev pub with_kind : (ℕ → Said) → List ℕ → Option Said
with_kind make rest = alone (after_word rest) (option_map make (kind_of (word_of rest)))

abbrev pub set_operand_from : Option ℕ → Option ℕ → Option Value → Option Said
set_operand_from (Some op) (Some operand) (Some value) = Some (said.SetOperand op operand value)
set_operand_from (Some op) (Some operand) None = None
set_operand_from (Some op) None value = None
set_operand_from None operand value = None

-- set-operand #N K VALUE
abbrev pub set_operand_in : List ℕ → Option Said
set_operand_in rest =
    alone (after_word (after_word (after_word rest)))
    (set_operand_from (op_of (word_of rest)) (number_of (word_of (after_word rest)))
    (value_of (word_of (after_word (after_word rest)))))

abbrev pub move_from : Option ℕ → Option (Point × List ℕ) → Option Said
move_from (Some op) (Some p) = alone p.1 (Some (said.Move op p.0))
move_from (Some op) None = None
move_from None p = None

-- move #N PLACE
abbrev pub move_in : List ℕ → Option Said
move_in rest = move_from (op_of (word_of rest)) (point_in (after_word rest))

abbrev pub set_attr_from : Option ℕ → Option (List ℕ × List ℕ) → Option Said
set_attr_from (Some op) (Some p) = if length p.1 == 0 then None else Some (said.SetAttr op p.0 p.1)
set_attr_from (Some op) None = None
set_attr_from None p = None

-- set-attr #N KEY ATTRIBUTE; the attribute is the rest of the line
abbrev pub set_attr_in : List ℕ → Option Said
set_attr_in rest = set_attr_from (op_of (word_of rest)) (key_in (after_word rest))

abbrev pub drop_attr_from : Option ℕ → Option (List ℕ × List ℕ) → Option Said
drop_attr_from (Some op) (Some p) = alone p.1 (Some (said.DropAttr op p.0))
drop_attr_from (Some op) None = None
drop_attr_from None p = None

-- drop-attr #N KEY
abbrev pub drop_attr_in : List ℕ → Option Said
drop_attr_in rest = drop_attr_from (op_of (word_of rest)) (key_in (after_word rest))

-- erase #N
abbrev pub erase_in : List ℕ → Option Said
erase_in rest = alone (after_word rest) (option_map said.Erase (op_of (word_of rest)))

abbrev pub insert_from : Option (Point × List ℕ) → Option Said
insert_from (Some p) = if length p.1 == 0 then None else Some (said.Insert p.0 p.1)
insert_from None = None

-- insert PLACE OPERATION; the operation is the rest of the line
abbrev pub insert_in : List ℕ → Option Said
insert_in rest = insert_from (point_in rest)

abbrev pub replace_from : Option Value → Option Value → Option Said
replace_from (Some old) (Some new) = Some (said.Replace old new)
replace_from (Some old) None = None
replace_from None new = None

-- replace VALUE VALUE
abbrev pub replace_in : List ℕ → Option Said
replace_in rest =
    alone (after_word (after_word rest)) (replace_from (value_of (word_of rest)) (value_of (word_of (after_word rest))))

-- limit N
abbrev pub limit_in : List ℕ → Option Said
limit_in text =
    if bytes_eq (word_of text) (codes "limit")
    then alone (after_word (after_word text))
    (option_map (λ n. said.Canon (Some n)) (number_of (word_of (after_word text))))
    else None

-- canon [limit N]
abbrev pub canon_in : List ℕ → Option Said
canon_in rest = if length rest == 0 then Some (said.Canon None) else limit_in rest

abbrev pub convert_from : Option Bool → Option Clauses → Option Said
convert_from (Some full) (Some clauses) = Some (said.Convert (target_of full clauses))
convert_from (Some full) None = None
convert_from None clauses = None

-- convert (partial | full) CLAUSES
abbrev pub convert_in : List ℕ → Option Said
convert_in rest = convert_from (mode_of (word_of rest)) (with_clauses (words_of (after_word rest)) (Some no_clauses))

abbrev pub apply_from : Option RuleName → Option ℕ → Option Said
apply_from (Some rule) (Some op) = Some (said.Apply rule op)
apply_from (Some rule) None = None
apply_from None op = None

-- apply RULE #N
abbrev pub apply_in : List ℕ → Option Said
apply_in rest =
    alone (after_word (after_word rest)) (apply_from (rule_in (word_of rest)) (op_of (word_of (after_word rest))))

-- a command on marks, from its name and the rest of the line
abbrev pub mark_command : List ℕ → List ℕ → Option Said
mark_command name rest =
    if bytes_eq name (codes "begin") then alone rest (Some said.Begin)
    else if bytes_eq name (codes "commit") then alone rest (Some said.Commit)
    else if bytes_eq name (codes "rollback") then alone rest (Some said.Rollback)
    else None

-- a command that transforms the module, or is on marks
abbrev pub transforming_command : List ℕ → List ℕ → Option Said
transforming_command name rest =
    if bytes_eq name (codes "canon") then canon_in rest
    else if bytes_eq name (codes "convert") then convert_in rest
    else if bytes_eq name (codes "sweep") then alone rest (Some said.Sweep)
    else if bytes_eq name (codes "apply") then apply_in rest
    else mark_command name rest

-- a command that shows something, is on an analysis, transforms the module, or is on marks
abbrev pub panel_command : List ℕ → List ℕ → Option Said
panel_command name rest =
    if bytes_eq name (codes "report") then with_kind said.Report rest
    else if bytes_eq name (codes "print") then alone rest (Some said.Print)
    else if bytes_eq name (codes "detach") then with_kind said.Detach rest
    else if bytes_eq name (codes "resync") then with_kind said.Resync rest
    else transforming_command name rest

-- a command that edits attributes
abbrev pub entry_command : List ℕ → List ℕ → Option Said
entry_command name rest =
    if bytes_eq name (codes "set-attr") then set_attr_in rest
    else if bytes_eq name (codes "drop-attr") then drop_attr_in rest
    else panel_command name rest

-- a command, from its name and the rest of the line
abbrev pub named : List ℕ → List ℕ → Option Said
named name rest =
    if bytes_eq name (codes "set-operand") then set_operand_in rest
    else if bytes_eq name (codes "replace") then replace_in rest
    else if bytes_eq name (codes "erase") then erase_in rest
    else if bytes_eq name (codes "move") then move_in rest
    else if bytes_eq name (codes "insert") then insert_in rest
    else entry_command name rest

-- a trimmed line as a command
abbrev pub command_of : List ℕ → Option Said
command_of text = named (word_of text) (after_word text)

abbrev pub obey_from : Option Said → Spoken
obey_from None = Bad
obey_from (Some said) = Obey said

abbrev pub session_command_or : Option SessionCommand → Option Said → Spoken
session_command_or None said = obey_from said
session_command_or (Some session_command) said = Ordered session_command

abbrev pub registered_or : Option RegistryCommand → Spoken → Spoken
registered_or None said = said
registered_or (Some session_command) said = Registered session_command

-- the meaning of a text that isn't empty and isn't a comment, or of the command after an expected refusal
abbrev pub text_says : List ℕ → Spoken
text_says text = registered_or (registry_command_in text) (session_command_or (session_command_in text) (command_of text))

-- the meaning of a trimmed UTF-8 line; an empty line or a comment has no command
abbrev pub trimmed_says : List ℕ → Spoken
trimmed_says text =
    if (length text == 0) || starts_with nat_eq text (codes "//") then Nothing
    else text_says (command_after (expected_in text) text)

-- the meaning of a line; a line that isn't UTF-8 is `Bad`, even if it is a comment
abbrev pub line_says : List ℕ → Spoken
line_says text = if is_utf8 text then trimmed_says (trim text) else Bad
