-- The commands of a script, and the call of each.
use Rattle.std.specs.Prelude.{◌≡◌, ℕ, ◌≤◌, ◌+◌, List, length, Bool, ◌⊎◌, Option, Some, None, Ok, Err}
use Rattle.ir_event.specs.types.Terms.{AttrTerm}
use Rattle.ir_event.specs.types.Limits.{most_things}
use Rattle.ir_event.specs.types.Refusals.{number_of}
use Rattle.ir_event.specs.types.Words.{words}
use Rattle.ir_event.specs.types.declared.refusal.Refusal.{Refusal}
use Rattle.ir_event.specs.types.declared.refusal.Refusal.TheVariants.{TooMany, NoSuchKey, IdsExhausted, Memory}
use Rattle.ir_event.specs.trees.declared.value.Value.{Value}
use Rattle.ir_event.specs.trees.declared.place.Place.{Place}
use Rattle.ir_event.specs.trees.Meaning.{Operation}
use Rattle.ir_event.specs.Modules.{Module}
use Rattle.rewriter_machine.specs.Edits as edit
use Rattle.rewriter_machine.specs.Machine as call
use Rattle.rewriter_machine.specs.Machine.{State, Transformation, Call, Do, Reply, Shows, Nothing, Goes}
use Rattle.rewriter_machine.specs.Points.{Point, point_place}

-- the target of a conversion; operations are given by their names
pub record Target : Type 0 where
  -- whether each operation must be legal at the end, also one that isn't named in the target
  pub full : Bool
  -- the legal operations, the illegal ones, and those that are legal if none of their types is index
  pub legal : List (List ℕ)
  pub illegal : List (List ℕ)
  pub dynamic : List (List ℕ)
  -- the rules to try, in order, and the limit of nested rule applications
  pub rules : List ℕ
  pub depth : ℕ

-- a rule in a command: its number, or its name
pub data RuleName : Type 0 where
  Numbered : ℕ → RuleName
  Worded : List ℕ → RuleName

-- a command; the texts of operations and attributes are bytes
pub data Command : Type 0 where
  Erase : ℕ → Command
  Move : ℕ → Point → Command
  Insert : Point → List ℕ → Command
  SetOperand : ℕ → ℕ → Value → Command
  Replace : Value → Value → Command
  SetAttr : ℕ → List ℕ → List ℕ → Command
  DropAttr : ℕ → List ℕ → Command
  -- with a limit, or without one
  Canon : Option ℕ → Command
  Convert : Target → Command
  Sweep : Command
  Apply : RuleName → ℕ → Command
  Begin : Command
  Commit : Command
  Rollback : Command
  Detach : ℕ → Command
  Resync : ℕ → Command
  Report : ℕ → Command
  Print : Command

-- the meaning of a command in a module: a call, a refused place, or a refused text, with an offset or without
pub data Requested : Type 0 where
  Ask : Call → Requested
  Misplaced : Refusal → Requested
  Unparsed : Refusal → Option ℕ → Requested

-- the text of an attribute is refused with the offset of the fault, or without an offset because memory ran out
abbrev pub IsAttrRefusal : Refusal → Option ℕ → Type 0
IsAttrRefusal refusal (Some offset) = number_of refusal ≤ 14
IsAttrRefusal refusal None = refusal ≡ Memory

-- the text of an operation may also be refused because the ids are used up
abbrev pub IsOpRefusal : Refusal → Option ℕ → Type 0
IsOpRefusal refusal (Some offset) = number_of refusal ≤ 14
IsOpRefusal refusal None = (refusal ≡ IdsExhausted) ⊎ (refusal ≡ Memory)

-- an input of so many bytes can fill a context, which starts with the names of the table; each new name, type and
-- attribute takes at least one byte of the input
abbrev pub CanFill : ℕ → Type 0
CanFill bytes = most_things ≤ length words + bytes

-- a text of an input of so many bytes was refused: it has no meaning, the context is full, or memory ran out
abbrev pub TextRefused : {X : Type 0} → ℕ → (Refusal → Option ℕ → Type 0) → (X → Type 0) → Refusal → Option ℕ → Type 0
TextRefused bytes IsRefusal Rendered refusal offset =
    IsRefusal refusal offset
    × (((x : _) → Rendered x → ⊥) ⊎ (((refusal ≡ TooMany) × CanFill bytes) ⊎ (refusal ≡ Memory)))

-- the named rule is applied if it exists; otherwise the command is refused with `NoSuchKey`
abbrev pub AppliesRule : Option Transformation → Requested → Type 0
AppliesRule None requested = requested ≡ Misplaced NoSuchKey
AppliesRule (Some f) requested = requested ≡ Ask (call.Change f)

-- `bytes` is the length of the input; `SpellsOp` relates a module, a text in bytes and an operation, `SpellsAttr` a
-- text and an attribute; `canonicalization`, `conversion` and `sweeping` are the transformations; `application` applies
-- a rule at an operation, if the rule exists
module _ (bytes : ℕ) (SpellsOp : Module → List ℕ → Operation → Type 0) (SpellsAttr : List ℕ → AttrTerm → Type 0)
    (canonicalization : Option ℕ → Transformation) (conversion : Target → Transformation)
    (sweeping : Transformation) (application : RuleName → ℕ → Option Transformation) where
  -- an operation that was read is inserted at its insertion point
  abbrev pub Inserts : Point → Operation → Module → Requested → Type 0
  Inserts point o m (Ask c) = (place : Place) × (point_place None point m.tree ≡ Ok place) × (c ≡ Do (edit.Insert place o))
  Inserts point o m (Misplaced refusal) = point_place None point m.tree ≡ Err refusal
  Inserts point o m (Unparsed refusal offset) = ⊥

  -- an operation of the module is moved to its insertion point
  abbrev pub Moves : ℕ → Point → Module → Requested → Type 0
  Moves x point m (Ask c) = (place : Place) × (point_place (Some x) point m.tree ≡ Ok place) × (c ≡ Do (edit.Move x place))
  Moves x point m (Misplaced refusal) = point_place (Some x) point m.tree ≡ Err refusal
  Moves x point m (Unparsed refusal offset) = ⊥

  -- the text of an operation is read before the insertion point is resolved
  abbrev pub InsertsText : Point → List ℕ → Module → Requested → Type 0
  InsertsText point text m (Unparsed refusal offset) = TextRefused bytes IsOpRefusal (SpellsOp m text) refusal offset
  InsertsText point text m requested = (o : Operation) × SpellsOp m text o × Inserts point o m requested

  abbrev pub SetsText : ℕ → List ℕ → List ℕ → Requested → Type 0
  SetsText x key text (Ask c) = (a : AttrTerm) × SpellsAttr text a × (c ≡ Do (edit.SetAttr x key a))
  SetsText x key text (Misplaced refusal) = ⊥
  SetsText x key text (Unparsed refusal offset) = TextRefused bytes IsAttrRefusal (SpellsAttr text) refusal offset

  -- the meaning of a command in a module
  abbrev pub Asks : Command → Module → Requested → Type 0
  Asks (Erase x) m requested = requested ≡ Ask (Do (edit.Erase x))
  Asks (Move x point) m requested = Moves x point m requested
  Asks (Insert point text) m requested = InsertsText point text m requested
  Asks (SetOperand x k v) m requested = requested ≡ Ask (Do (edit.SetOperand x k v))
  Asks (Replace old new) m requested = requested ≡ Ask (Do (edit.Replace old new))
  Asks (SetAttr x key text) m requested = SetsText x key text requested
  Asks (DropAttr x key) m requested = requested ≡ Ask (Do (edit.DropAttr x key))
  Asks (Canon limit) m requested = requested ≡ Ask (call.Change (canonicalization limit))
  Asks (Convert target) m requested = requested ≡ Ask (call.Change (conversion target))
  Asks Sweep m requested = requested ≡ Ask (call.Change sweeping)
  Asks (Apply name x) m requested = AppliesRule (application name x) requested
  Asks Begin m requested = requested ≡ Ask call.Mark
  Asks Commit m requested = requested ≡ Ask call.Commit
  Asks Rollback m requested = requested ≡ Ask call.Rollback
  Asks (Detach kind) m requested = requested ≡ Ask (call.Detach kind)
  Asks (Resync kind) m requested = requested ≡ Ask (call.Resync kind)
  Asks (Report kind) m requested = requested ≡ Ask (call.Report kind)
  Asks Print m requested = requested ≡ Ask call.Print

-- the response to a line: the reply of a call, or a refused text with its offset
pub data Response : Type 0 where
  Replied : Reply → Response
  TextRefusedAt : Refusal → ℕ → Response

-- a refused text, with an offset or without
abbrev pub text_response : Refusal → Option ℕ → Response
text_response refusal None = Replied (call.Refused refusal)
text_response refusal (Some offset) = TextRefusedAt refusal offset

-- the machine may respond to a command with this meaning in this way, and get from s to t; a refused place or text
-- changes nothing
abbrev pub Follows : State → Requested → Response → Shows → State → Type 0
Follows s (Ask c) (Replied reply) shows t = Goes s c reply shows t
Follows s (Ask c) (TextRefusedAt refusal offset) shows t = ⊥
Follows s (Misplaced refusal) response shows t =
    (response ≡ Replied (call.Refused refusal)) × (shows ≡ Nothing) × (t ≡ s)
Follows s (Unparsed refusal offset) response shows t =
    (response ≡ text_response refusal offset) × (shows ≡ Nothing) × (t ≡ s)
