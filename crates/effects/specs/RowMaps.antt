-- The entries of a table whose counts are in a map of their own.
use Rattle.std.specs.Prelude.{ℕ, List, map, Option, Some, None}
use Rattle.listeners_support.specs.Map.{IdMap}
use Rattle.listeners_support.specs.Map as idmap
use Rattle.effects.specs.declared.row.Counts.{Counts}
use Rattle.effects.specs.declared.row.Row.{Row}
use Rattle.effects.specs.declared.row.RowHead.{RowHead}

-- all counts are 0
abbrev pub zero_counts : Counts
zero_counts = record { unknown = 0; allocate = 0; free = 0; read = 0; write = 0 }

-- the counts of an operation, 0 if the map has none
abbrev pub counts_or : Option Counts → Counts
counts_or None = zero_counts
counts_or (Some c) = c

abbrev pub counts_at : IdMap Counts → ℕ → Counts
counts_at sums x = counts_or (idmap.get sums x)

-- an entry without the counts, and with them
abbrev pub head_of : Row → RowHead
head_of r = record { parent = r.parent; recursive = r.recursive; has = r.has }

abbrev pub row_of_head : Counts → RowHead → Row
row_of_head c h = record { parent = h.parent; recursive = h.recursive; has = h.has; counts = c }

-- the entries with their counts
abbrev pub whole_rows : IdMap Counts → List (ℕ × RowHead) → List (ℕ × Row)
whole_rows sums es = map (λ (e : ℕ × RowHead). (e.0, row_of_head (counts_at sums e.0) e.1)) es

abbrev pub whole : IdMap Counts → IdMap RowHead → IdMap Row
whole sums heads = record { entries = whole_rows sums heads.entries }
