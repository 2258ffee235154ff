-- Tests of the names, types and attributes of a tree.
use Rattle.std.specs.Prelude.{Bool, ◌&&◌}
use Rattle.std.specs.List.{list_all}
use Rattle.ir_tree.specs.Tree.{HeadOf, OpOf, op}
use Rattle.ir_tree.specs.Limits.{every, all_arguments_pass}

-- whether an entry of a dictionary passes the test n of its key and a of its attribute
abbrev pub entry_passes : {N A : Type 0} → (N → Bool) → (A → Bool) → N × A → Bool
entry_passes n a e = n e.0 && a e.1

-- whether the names, types and attributes of a head pass the tests n, q and a
abbrev pub head_passes : {N T A : Type 0} → (N → Bool) → (T → Bool) → (A → Bool) → HeadOf N T A → Bool
head_passes n q a h = n h.name && (list_all q h.results && (list_all (entry_passes n a) h.properties && list_all (entry_passes n a) h.attributes))

-- whether those of an operation pass, the types of its blocks' arguments included
abbrev pub op_passes : {N T A : Type 0} → (N → Bool) → (T → Bool) → (A → Bool) → OpOf N T A → Bool
op_passes n q a (op h rs) = head_passes n q a h && all_arguments_pass (list_all q) rs

-- whether those of a whole tree pass
abbrev pub all_pass : {N T A : Type 0} → (N → Bool) → (T → Bool) → (A → Bool) → OpOf N T A → Bool
all_pass n q a = every (op_passes n q a)
