-- The uses about an operation or a value.
use Rattle.std.specs.Prelude.{◌≡◌, ℕ, zero, suc, ◌+◌, ◌==◌, List, [], ◌∷◌, ◌++◌, length, map, filter, Bool, Option, Some, None}
use Rattle.std.specs.Prelude.{option_map}
use Rattle.ir_event.specs.store.Nodes.{NodeOf, node_of}
use Rattle.ir_event.specs.store.Using.{AreUses}
use Rattle.ir_event.specs.trees.declared.value.Value.{Value}
use Rattle.ir_event.specs.trees.declared.value.Value.TheVariants.{Result, Arg}
use Rattle.ir_event.specs.trees.Frames.{owner_of}
use Rattle.ir_event.specs.trees.Ids.{find}
use Rattle.ir_event.specs.trees.Tree.{Op}
use Rattle.ir_event.specs.trees.Uses.{same_value}
use Rattle.ir_event.specs.declared.subject.Subject.{Subject}
use Rattle.ir_event.specs.declared.subject.Subject.TheVariants as subject
use Rattle.listeners.specs.declared.key.Use.{Use}
use Rattle.listeners.specs.declared.key.UseKey.{UseKey}
use Rattle.listeners.specs.Keys.{key_of, keys_of}
use Rattle.listeners.specs.Uses.{in_order}

-- whether a use is about a subject: its value is the subject, or belongs to it
abbrev pub is_use_about : Subject → Use → Bool
is_use_about (subject.Op x) u = (owner_of u.value).0 == x
is_use_about (subject.Val v) u = same_value u.value v

-- the uses about a subject, in order
abbrev pub about : Subject → List Use → List Use
about s us = filter (is_use_about s) us

-- ---- the values about a subject

-- `count` results of operation x, from one on
abbrev pub results_from : ℕ → ℕ → ℕ → List Value
results_from x k zero = []
results_from x k (suc count) = Result x k ∷ results_from x (k + 1) count

-- `count` arguments of the block of region r of operation x, from one on
abbrev pub arguments_from : ℕ → ℕ → ℕ → ℕ → List Value
arguments_from x r k zero = []
arguments_from x r k (suc count) = Arg x r k ∷ arguments_from x r (k + 1) count

-- the number of arguments of a block, if there is one
abbrev pub argument_count : {T : Type 0} → Option (List T) → ℕ
argument_count None = 0
argument_count (Some types) = length types

-- the arguments of the blocks of operation x, from region r on
abbrev pub region_arguments : {T : Type 0} → ℕ → ℕ → List (Option (List T)) → List Value
region_arguments x r [] = []
region_arguments x r (a ∷ ls) = arguments_from x r 0 (argument_count a) ++ region_arguments x (r + 1) ls

-- the results and block arguments of operation x
abbrev pub values_of : {N T A : Type 0} → ℕ → NodeOf N T A → List Value
values_of x n = results_from x 0 (length n.head.results) ++ region_arguments x 0 n.arguments

abbrev pub values_found : {N T A : Type 0} → ℕ → Option (NodeOf N T A) → List Value
values_found x None = []
values_found x (Some n) = values_of x n

-- the values about a subject of a tree
abbrev pub values_about : Subject → Op → List Value
values_about (subject.Op x) t = values_found x (option_map node_of (find x t))
values_about (subject.Val v) t = v ∷ []

-- ---- uses that the module lists by value

-- the use of a value by an operand
abbrev pub use_with : Value → ℕ × ℕ → Use
use_with v p = record { value = v; user = p.0; operand = p.1 }

-- the uses of values, one value after the other, those of a value in any order
abbrev pub AreUsesOf : List Value → Op → List Use → Type 0
AreUsesOf [] t us = us ≡ []
AreUsesOf (v ∷ vs) t us =
    (ps : List (ℕ × ℕ)) × (rest : List Use) × AreUses v t ps × AreUsesOf vs t rest × (us ≡ map (use_with v) ps ++ rest)

-- the keys of the uses of a value, or of values, were appended
abbrev pub PushesUses : Value → Op → List UseKey → List UseKey → Type 0
PushesUses v t old new = (ps : List (ℕ × ℕ)) × AreUses v t ps × (new ≡ old ++ keys_of (map (use_with v) ps))

abbrev pub PushesAllUses : List Value → Op → List UseKey → List UseKey → Type 0
PushesAllUses vs t old new = (us : List Use) × AreUsesOf vs t us × (new ≡ old ++ keys_of us)

-- the sorted keys of the uses of values
abbrev pub AreSortedUses : List Value → Op → List UseKey → Type 0
AreSortedUses vs t keys = (us : List Use) × AreUsesOf vs t us × (keys ≡ keys_of (in_order us))
