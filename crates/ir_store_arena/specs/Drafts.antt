-- The fields of a draft.
use Rattle.std.specs.Prelude.{ℕ, true, false}
use Rattle.ir_store_arena.specs.declared.op_data.OpData.{OpData}
use Rattle.ir_store_arena.specs.Made.{made_contents}
use Rattle.ir_store_arena.specs.Rows.{Row, row_like}

abbrev pub draft_row : ℕ → ℕ → ℕ → ℕ → OpData → Row
draft_row id name uses values made = row_like true false id name uses values (made_contents made)
