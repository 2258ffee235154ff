-- The effects of edits by interned numbers, and of interning.
use Rattle.std.specs.Prelude.{◌≡◌, ℕ, ◌⊎◌, List, Option, Some, None, Result}
use Rattle.ir_event.specs.types.Interning.{with_name}
use Rattle.ir_event.specs.types.Terms.{TypeOf, attr_term, type_term}
use Rattle.ir_event.specs.types.Things.{ContextModel, IsAttr, IsType}
use Rattle.ir_event.specs.types.declared.refusal.Refusal.{Refusal}
use Rattle.ir_event.specs.types.declared.refusal.Refusal.TheVariants.{BadCommand, Memory}
use Rattle.ir_event.specs.trees.Tree.{Op}
use Rattle.ir_text.specs.declared.error.ReadError.{ReadError}
use Rattle.ir_text.specs.declared.error.ReadError.TheVariants as error
use Rattle.rewriter.specs.Commands.{Replied}
use Rattle.rewriter.specs.Machine.{Reply}
use Rattle.rewriter.specs.Points.{Point}
use Rattle.rewriter.specs.Public.{IsNoAttr, IsTextRefusal, SpellsAttr}
use Rattle.mlir_work_analyses.specs.Listeners.{any_analysis}
use Rattle.mlir_work_c_read.specs.declared.header.NewEntry.{NewEntry}
use Rattle.mlir_work_c_read.specs.declared.numbers.ValueNumbers.{ValueNumbers}
use Rattle.mlir_work_c_read.specs.Edits.{DropsNumbered, InsertsNumbered, SetsNumbered}
use Rattle.mlir_work_c_read.specs.Headers.{header}
use Rattle.mlir_work_c_read.specs.Interned.{Grown}
use Rattle.mlir_work_c.specs.Answers.{counted, refused, replied_of, parse_error_answer}
use Rattle.mlir_work_c.specs.Calls.{Goes}
use Rattle.mlir_work_c.specs.Queries.{context_of}
use Rattle.mlir_work_c.specs.Stepped.{is_opaque}
use Rattle.mlir_work_c.specs.declared.answer.Answer.{Answer}
use Rattle.mlir_work_c.specs.declared.session.Session.{Session}

-- only the rewriter of the session may have changed, and its mode is the same
pub record KeepsRest (s t : Session) : Type 0 where
  pub registry : t.registry ≡ s.registry
  pub limit : t.limit ≡ s.limit
  pub counted : t.bytes ≡ s.bytes
  pub shows : t.shows ≡ s.shows
  pub mode : is_opaque t ≡ is_opaque s

-- an operation is inserted or refused, or memory for its numbers ran out and nothing changes
abbrev pub Inserts : Point → Result Op Refusal → Session → Answer → Session → Type 0
Inserts point header s a t =
    ((a ≡ refused Memory) × (t ≡ s))
    ⊎ ((reply : Reply) × InsertsNumbered any_analysis point header reply s.bench t.bench
    × (a ≡ replied_of (Replied reply) 0) × KeepsRest s t)

-- an unknown insertion point changes nothing
abbrev pub InsertsOr : Option Point → Result Op Refusal → Session → Answer → Session → Type 0
InsertsOr None header s a t = (a ≡ refused BadCommand) × (t ≡ s)
InsertsOr (Some point) header s a t = Inserts point header s a t

-- the entries of the operation are put into its dictionaries by the words of the session's context
abbrev pub InsertsNew : Option Point → ℕ → List ValueNumbers → List ℕ → List NewEntry → Session → Answer → Session → Type 0
InsertsNew point name operands results entries s a t =
    InsertsOr point (header (context_of s) name operands results entries) s a t

abbrev pub InsertGoes : Option Point → ℕ → List ValueNumbers → List ℕ → List NewEntry → Option Session → Answer → Option Session → Type 0
InsertGoes point name operands results entries old a new =
    Goes (λ s b t. InsertsNew point name operands results entries s b t) old a new

-- an entry is set
abbrev pub Sets : ℕ → ℕ → ℕ → Session → Answer → Session → Type 0
Sets x key attr s a t =
    (reply : Reply) × SetsNumbered any_analysis x key attr reply s.bench t.bench
    × (a ≡ replied_of (Replied reply) 0) × KeepsRest s t

abbrev pub SetGoes : ℕ → ℕ → ℕ → Option Session → Answer → Option Session → Type 0
SetGoes x key attr old a new = Goes (λ s b t. Sets x key attr s b t) old a new

-- an entry is removed
abbrev pub Drops : ℕ → ℕ → Session → Answer → Session → Type 0
Drops x key s a t =
    (reply : Reply) × DropsNumbered any_analysis x key reply s.bench t.bench
    × (a ≡ replied_of (Replied reply) 0) × KeepsRest s t

abbrev pub DropGoes : ℕ → ℕ → Option Session → Answer → Option Session → Type 0
DropGoes x key old a new = Goes (λ s b t. Drops x key s b t) old a new

-- the context may have grown; the module, the marks, the analyses and everything else are unchanged
pub record Interns (s t : Session) : Type 0 where
  pub grown : Grown any_analysis s.bench t.bench
  pub rest : KeepsRest s t

-- the answer has the number of the name with this text, or the name is refused and nothing changes
abbrev pub NameInterned : List ℕ → Session → Answer → Session → Type 0
NameInterned text s a t =
    Interns s t
    × (((n : ℕ) × ((n, context_of t) ≡ with_name text (context_of s)) × (a ≡ counted n))
    ⊎ ((refusal : Refusal) × (a ≡ refused refusal) × (t ≡ s)))

abbrev pub NameGoes : List ℕ → Option Session → Answer → Option Session → Type 0
NameGoes text old a new = Goes (λ s b t. NameInterned text s b t) old a new

-- the answer has the number of the type with this text, or the text is refused
abbrev pub TypeInterned : List ℕ → Session → Answer → Session → Type 0
TypeInterned text s a t =
    Interns s t
    × (((n : ℕ) × IsType (context_of t) n × SpellsAttr (is_opaque s) text (TypeOf (type_term (context_of t) n))
    × (a ≡ counted n))
    ⊎ ((e : ReadError) × IsTextRefusal text e × (a ≡ parse_error_answer e)))

abbrev pub TypeGoes : List ℕ → Option Session → Answer → Option Session → Type 0
TypeGoes text old a new = Goes (λ s b t. TypeInterned text s b t) old a new

-- a refused text denotes no attribute
abbrev pub IsParseError : (List ℕ → Type 0) → List ℕ → ReadError → Type 0
IsParseError IsNothing text error.Memory = Unit {0}
IsParseError IsNothing text (error.Full offset) = Unit {0}
IsParseError IsNothing text (error.Refused refusal offset) = IsNothing text

-- the answer has the number of the attribute with this text, or the text is refused
abbrev pub AttributeInterned : List ℕ → Session → Answer → Session → Type 0
AttributeInterned text s a t =
    Interns s t
    × (((n : ℕ) × IsAttr (context_of t) n × SpellsAttr (is_opaque s) text (attr_term (context_of t) n)
    × (a ≡ counted n))
    ⊎ ((e : ReadError) × IsTextRefusal text e × IsParseError (λ x. IsNoAttr (SpellsAttr (is_opaque s) x)) text e
    × (a ≡ parse_error_answer e)))

abbrev pub AttributeGoes : List ℕ → Option Session → Answer → Option Session → Type 0
AttributeGoes text old a new = Goes (λ s b t. AttributeInterned text s b t) old a new
