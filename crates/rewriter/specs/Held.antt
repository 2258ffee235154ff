-- The state of a transaction.
use Rattle.std.specs.Prelude.{◌≡◌, ℕ, ◌≤◌, List, [], ◌∷◌, length, drop, map, reverse, Option, option_map}
use Rattle.ir_event.specs.types.Things.{ContextModel}
use Rattle.ir_event.specs.trees.Meaning.{meaning}
use Rattle.ir_event.specs.store.Nodes.{node_of}
use Rattle.ir_event.specs.store.Stored.{Stored, known}
use Rattle.ir_event.specs.declared.event.Event.{Event}
use Rattle.ir_event.specs.Modules.{Module, Node, module_meaning}
use Rattle.rewriter_machine.specs.Machine.{OpenMark}
use Rattle.rewriter_machine.specs.Journals.{IsJournal, TracksRemovedKeys, before}
use Rattle.rewriter.specs.declared.mark.JournalMark.{JournalMark}

-- a context, its module with the held operations, the events since the oldest open mark, oldest first, and the open
-- marks, newest last
pub record TransactionModel : Type 0 where
  pub ctx : ContextModel
  pub store : Stored
  pub journal : List Event
  pub marks : List JournalMark

-- the meaning of the module: names, types and attributes instead of ids
abbrev pub module_held : TransactionModel → Module
module_held h = module_meaning h.ctx h.store.module_of

-- operation x, as shown to the listeners
abbrev pub shown_of : TransactionModel → ℕ → Option Node
shown_of h x = option_map (λ o. node_of (meaning h.ctx o)) (known x h.store)

-- the module before the events of the journal from one index on
abbrev pub module_at : ℕ → TransactionModel → Module
module_at k h = before h.ctx (drop k h.journal) h.store

-- a mark, with the module at that length of the journal
abbrev pub open_mark : TransactionModel → JournalMark → OpenMark
open_mark h k = record { marked = before h.ctx (drop k.length h.journal) h.store; counted = k.counted }

-- the open marks, the newest first
abbrev pub open_marks : TransactionModel → List OpenMark
open_marks h = reverse (map (open_mark h) h.marks)

-- the lengths of the marks are nondecreasing, from a length on
abbrev pub Rising : ℕ → List JournalMark → Type 0
Rising low [] = Unit {0}
Rising low (k ∷ ks) = (low ≤ k.length) × Rising k.length ks

-- no mark is beyond a length of the journal
abbrev pub Within : ℕ → List JournalMark → Type 0
Within n [] = Unit {0}
Within n (k ∷ ks) = (k.length ≤ n) × Within n ks

-- each operation has a list of removed keys; the events can be undone one after another; the marks are within the
-- journal; without marks the journal is empty
pub record IsWellFormed (h : TransactionModel) : Type 0 where
  pub slotted : TracksRemovedKeys h.store
  pub leads : IsJournal h.ctx h.journal h.store
  pub rising : Rising 0 h.marks
  pub within : Within (length h.journal) h.marks
  pub none : h.marks ≡ [] → h.journal ≡ []
