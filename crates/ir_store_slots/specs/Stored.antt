-- The state of a store: the module, the operations that were taken out of it and are held, and the removed keys whose
-- slots are kept.
use Rattle.std.specs.Prelude.{ℕ, Bool, false, ◌||◌, Option, Some, None, refl}
use Rattle.std.specs.Coded.{Coded, code_by, coded×, coded_ℕ}
use Rattle.std.specs.Ordering.{nat_cmp}
use Rattle.std.specs.FinMap as map
use Rattle.ir_store_arena.specs.trees.declared.place.Part.{Part}
use Rattle.ir_store_arena.specs.trees.Tree.{Op, head}
use Rattle.ir_store_arena.specs.trees.Code.{op_code}
use Rattle.ir_store_arena.specs.trees.Ids.{find, first_of}
use Rattle.ir_store_arena.specs.trees.Edits.{part_of}
use Rattle.ir_store_arena.specs.trees.WellFormed.{Module, module_code}
use Rattle.ir_store_arena.specs.Slots.{has_key, is_gone}
pub use Rattle.ir_store_arena.specs.Gone.{Gone, none_gone, gone_code, gone_in, change_gone}

-- the state of a store
pub record Stored : Type 0 where
  -- the module
  pub module_of : Module
  -- each held operation, by its id, unchanged since it was taken out
  pub held : map.FinMap nat_cmp Op
  -- the removed keys of each operation, of the module or held
  pub gone : map.FinMap nat_cmp Gone

abbrev pub stored_code : Coded Stored
stored_code =
    code_by (Module × (map.FinMap nat_cmp Op × map.FinMap nat_cmp Gone))
    (coded× module_code (coded× (map.code coded_ℕ op_code) (map.code coded_ℕ gone_code)))
    (λ s. (s.module_of, (s.held, s.gone))) (λ p. record { module_of = p.0; held = p.1.0; gone = p.1.1 }) (λ _. refl)

-- an operation of the module, or a held one
abbrev pub known : ℕ → Stored → Option Op
known x s = first_of (find x s.module_of.tree) (map.get s.held x)

-- the removed keys of operation x
abbrev pub gone_of : ℕ → Stored → Option Gone
gone_of x s = map.get s.gone x

-- whether there is an item, and it passes a test
abbrev pub is_some_with : {X : Type 0} → (X → Bool) → Option X → Bool
is_some_with p None = false
is_some_with p (Some a) = p a

-- whether one dictionary of operation x has key k
abbrev pub has_entry : ℕ → Part → ℕ → Stored → Bool
has_entry x part k s = is_some_with (λ o. has_key k (part_of part (head o))) (known x s)

-- whether key k was removed from a dictionary and its slot is kept
abbrev pub stands : Part → ℕ → Option Gone → Bool
stands part k None = false
stands part k (Some g) = is_gone k (gone_in part g)

-- whether there is a slot for key k: the dictionary has the key, or the slot of the removed key
abbrev pub has_slot : ℕ → Part → ℕ → Stored → Bool
has_slot x part k s = has_entry x part k s || stands part k (gone_of x s)
