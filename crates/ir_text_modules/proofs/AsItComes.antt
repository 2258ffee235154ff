-- The reader of modules reads the printed text of a module: aliases and locations are removed from it first.
use Rattle.std.proofs.Common.{◌≡◌, ◌≤◌, ℕ, Bool, true, false, List, length, refl, sym, ap, subst}
use Rattle.ir_types.specs.Words.{is_isolated}
use Rattle.ir_tree.specs.Ids.{IsNumberedFrom}
use Rattle.ir_tree.specs.Meaning.{Operation}
use Rattle.ir_tree.specs.WellFormed.{IsValidTree}
use Rattle.ir_text_tokens.specs.Limits.{most_bytes}
use Rattle.ir_text_operations.specs.Spelling.{Spells, is_root}
use Rattle.ir_text.specs.Printing.{text_of}
use Rattle.ir_text_modules.specs.Expanded.{Expanded}
use Rattle.ir_text_modules.specs.Stays.{has_more}
use Rattle.ir_text_modules.proofs.Stays.{stays}
use Rattle.ir_text_modules.specs.Modules.{SpellsModule}
use Rattle.ir_text_modules.specs.WrittenTrees.{IsWritable}
use Rattle.ir_text_modules.proofs.Modules.{numbered_again}

-- a text that is its own expansion and denotes a tree is read as that tree
pub as_it_comes : (o : Bool) (text : List ℕ) (t : Operation) → (o ≡ true → has_more 0 text ≡ false) → Spells o text t → SpellsModule o text t
as_it_comes false text t alone h = record { whole = refl; spells = h }
as_it_comes true text t alone h =
    let same = stays text (alone refl) in
    record { whole = ap (λ (e : Expanded). e.fault) same; spells = subst (λ l. Spells true l t) (sym (ap (λ (e : Expanded). e.text) same)) h }

pub module_comes_back : (o : Bool) (t : Operation) → IsValidTree is_isolated t → IsNumberedFrom 0 t → is_root t ≡ true → IsWritable o t → length (text_of t) ≤ most_bytes → (o ≡ true → has_more 0 (text_of t) ≡ false) → SpellsModule o (text_of t) t
module_comes_back o t wellformed e root w few alone = as_it_comes o (text_of t) t alone (numbered_again o t wellformed e root w few)
