-- Use counts: a table of counts, and its relation to a tree.
use Rattle.std.specs.Prelude.{◌≡◌, ℕ, ◌+◌, ◌-◌, List, [], ◌∷◌, eqb, Bool, Option, Some, None, option_map}
use Rattle.std.specs.Prelude.{if◌then◌else◌}
use Rattle.std.specs.Ordering.{nat_cmp}
use Rattle.listeners_support.specs.Map as idmap
use Rattle.ir_event.specs.types.Things.{ContextModel}
use Rattle.ir_event.specs.types.Terms.{name_term}
use Rattle.ir_event.specs.trees.declared.value.Value.{Value}
use Rattle.ir_event.specs.trees.Tree.{HeadOf, head}
use Rattle.ir_event.specs.trees.Ids.{find}
use Rattle.ir_event.specs.trees.Meaning.{Operation}
use Rattle.ir_event.specs.declared.event.Event.{Event}
use Rattle.ir_event.specs.declared.event.Event.TheVariants.{Put, Take, SetOperand, SetEntry, Shift}
use Rattle.ir_event.specs.Modules.{Node}
use Rattle.effects.specs.Points.{one_if}
pub use Rattle.effects.specs.Marks.{is_zero}
use Rattle.effects.specs.declared.use_counts.UseCounts.{UseCounts}
use Rattle.effects.specs.Dead.{is_result_of, stays}
use Rattle.ir_event.specs.Heads.{heads, all_operands}

-- a table of counts: that of an operation, if it has one
abbrev pub Counts : Type 0
Counts = ℕ → Option ℕ

-- the counts of a listener
abbrev pub counts_in : UseCounts → Counts
counts_in m = idmap.get m.counts

-- the number of these values that are results of x
abbrev pub results_among : ℕ → List Value → ℕ
results_among x [] = 0
results_among x (v ∷ vs) = one_if (is_result_of x v) + results_among x vs

-- a table counts a tree: each operation has one for each use of its results, and one more if it is never dead
abbrev pub Counted : Counts → Operation → Type 0
Counted a t = (x : ℕ) → a x
    ≡ option_map (λ o. results_among x (all_operands (heads t)) + one_if (stays (head o).name)) (find x t)

-- the table with count n for x
abbrev pub with_count : ℕ → Option ℕ → Counts → Counts
with_count x n a y = if eqb x y then n else a y

-- the second table counts one more use for each value
abbrev pub Raised : List Value → Counts → Counts → Type 0
Raised vs a b = (y : ℕ) → b y ≡ option_map (λ n. n + results_among y vs) (a y)

-- the second table counts one use less for each value
abbrev pub Lowered : List Value → Counts → Counts → Type 0
Lowered vs a b = (y : ℕ) → b y ≡ option_map (λ n. n - results_among y vs) (a y)

-- an operation without uses was inserted
abbrev pub Entered : ℕ → Bool → Counts → Counts → Type 0
Entered x kept a b = (y : ℕ) → b y ≡ with_count x (Some (one_if kept)) a y

-- operations without uses were inserted in order
abbrev pub AllEntered : (ℕ → Bool) → List (HeadOf ℕ ℕ ℕ) → Counts → Counts → Type 0
AllEntered kept [] a b = (y : ℕ) → b y ≡ a y
AllEntered kept (h ∷ hs) a b = (m : Counts) × Entered h.id (kept h.name) a m × AllEntered kept hs m b

-- whether operations with that name number are never dead
abbrev pub kept_by : ContextModel → ℕ → Bool
kept_by c n = stays (name_term c n)

-- an operation with these operands was inserted
abbrev pub EnteredWith : ℕ → Bool → List Value → Counts → Counts → Type 0
EnteredWith x kept vs a b = Raised vs (with_count x (Some (one_if kept)) a) b

-- an operation with these operands was removed
abbrev pub LeftWith : ℕ → List Value → Counts → Counts → Type 0
LeftWith x vs a b = Lowered vs (with_count x None a) b

-- one use of the old value became a use of the new value
abbrev pub Exchanged : Value → Value → Counts → Counts → Type 0
Exchanged old new a b = (y : ℕ)
    → b y ≡ option_map (λ n. (n + one_if (is_result_of y new)) - one_if (is_result_of y old)) (a y)

-- the table was updated after an event, given the operations that the view shows
abbrev pub CountsFollowed : (ℕ → Option Node) → Event → Counts → Counts → Type 0
CountsFollowed shown (Put x place fresh) a b = (n : Node) → shown x ≡ Some n
    → EnteredWith x (stays n.head.name) n.head.operands a b
CountsFollowed shown (Take x place fresh) a b = (n : Node) → shown x ≡ Some n → LeftWith x n.head.operands a b
CountsFollowed shown (SetOperand x k old new) a b = Exchanged old new a b
CountsFollowed shown (SetEntry x part key old new) a b = (y : ℕ) → b y ≡ a y
CountsFollowed shown (Shift x old new) a b = (y : ℕ) → b y ≡ a y
