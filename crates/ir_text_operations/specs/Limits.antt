-- The limits of parsing operations, derived from those of a module.
use Rattle.std.specs.Prelude.{ℕ, ◌+◌, ◌*◌}
use Rattle.ir_types.specs.Limits.{most_entries}
use Rattle.ir_tree.specs.Limits.{most_around}

-- the maximum depth of an operation: the limit of enclosing operations plus the operation itself
abbrev pub most_levels : ℕ
most_levels = most_around + 1

-- the maximum number of entries between two braces: those of both dictionaries of an operation plus one, so that the
-- first entry over a limit is refused at its key
abbrev pub most_written : ℕ
most_written = 2 * most_entries + 1
