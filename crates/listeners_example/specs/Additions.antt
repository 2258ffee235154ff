-- The number of additions of a tree, and the contract of the listener that counts them.
use Rattle.std.specs.Prelude.{◌≡◌, ℕ, List, [], ◌∷◌, length, Bool, false, None}
use Rattle.std.specs.Ordering.{nat_cmp}
use Rattle.std.specs.BTreeMap.{get}
use Rattle.std.specs.Str.{bytes_eq}
use Rattle.ir_event.specs.types.Terms.{TypeTerm, AttrTerm}
use Rattle.ir_event.specs.types.WordNames.{word_bytes}
use Rattle.ir_event.specs.types.declared.word.Word.TheVariants.{ArithAddi}
use Rattle.ir_event.specs.trees.Meaning.{Operation}
use Rattle.ir_event.specs.Listener.{Listener}
use Rattle.ir_event.specs.Rows.{RowTerm, Num}
use Rattle.listeners_support.specs.Surroundings.{SurroundingsOf}
use Rattle.listeners_support.specs.Facts.{Keeps, kept_facts, most_looks}
use Rattle.listeners_example.specs.declared.additions.IsAddition.{IsAddition}
use Rattle.listeners_example.specs.declared.additions.AdditionCount.{AdditionCount}

-- whether an operation is an addition, by its name
abbrev pub is_addition : SurroundingsOf (List ℕ) TypeTerm AttrTerm → IsAddition
is_addition s = record { yes = bytes_eq s.node.head.name (word_bytes ArithAddi) }

-- whether the operation is an addition
abbrev pub holds : IsAddition → Bool
holds f = f.yes

-- one row: how many operations of the tree are additions
abbrev pub additions_of : Operation → List RowTerm
additions_of t = (Num (length (kept_facts is_addition holds t)) ∷ []) ∷ []

-- the table keeps which operations of the module are additions
abbrev pub addition_count_listener : AdditionCount → Listener
addition_count_listener s = record {
  kind = 100;
  analysis = additions_of;
  agrees = λ c m. (s.kept.stale ≡ false) × Keeps is_addition holds m.tree (get nat_cmp s.kept.table);
  stale = s.kept.stale;
  notified = None;
  most = λ e m n. most_looks e n.tree;
  fresh = λ c m h. h.0;
  grows = λ c d m holds also g h. h;
}
