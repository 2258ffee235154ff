-- Lists of a command, and names that are interned.
use Rattle.std.specs.Prelude.{◌≡◌, ℕ, List, [], Option, Some, None, map}
use Rattle.std.specs.List.{All}
use Rattle.ir_event.specs.types.Things.{ContextModel, IsExtendedBy, IsName}
use Rattle.ir_event.specs.types.Terms.{name_term}
use Rattle.ir_event.specs.Listener.{Listener}
use Rattle.conversion.specs.rewriter.RewriterCalls.{Benched, state_of}
use Rattle.conversion.specs.rewriter.Moves.{Recorded}
use Rattle.mlir_work_script_base.specs.Items.{numbers_of}
use Rattle.conversion.specs.Benches.{LedOn}

-- the numbers of a list; an absent list has none
abbrev pub numbers_after : Option (List ℕ) → List ℕ
numbers_after None = []
numbers_after (Some text) = numbers_of text

-- the numbers are those of these names in a context
pub record AreNumbers (c : ContextModel) (numbers : List ℕ) (names : List (List ℕ)) : Type 0 where
  pub known : All (IsName c) numbers
  pub are : map (name_term c) numbers ≡ names

-- the context of a rewriter grew or didn't change, and its module, marks, journal and analyses didn't change
pub record Interned {B : Type 0} (meaning : B → Listener) (old new : Benched B) : Type 0 where
  pub grows : IsExtendedBy old.transaction.ctx new.transaction.ctx
  pub same : state_of meaning new ≡ state_of meaning old
  pub led : LedOn meaning old new
  pub left : Recorded [] old.transaction new.transaction
