-- Entries in fewer bytes.
use Rattle.std.specs.Prelude.{ℕ, Bool, true, false, Some, None, if◌then◌else◌}
use Rattle.effects.specs.declared.packed.FlagPair.{FlagPair}
use Rattle.effects.specs.declared.packed.FlagPair.TheVariants.{Neither, First, Second, Both}
use Rattle.effects.specs.declared.row.RowHead.{RowHead}

-- whether the first, or the second, of two things holds
abbrev pub has_first : FlagPair → Bool
has_first Neither = false
has_first First = true
has_first Second = false
has_first Both = true

abbrev pub has_second : FlagPair → Bool
has_second Neither = false
has_second First = false
has_second Second = true
has_second Both = true

-- the entry: the number of the parent, whether there is a parent and the effects are those of the children, and the effects
abbrev pub unpacked : ℕ → FlagPair → FlagPair → FlagPair → Bool → RowHead
unpacked parent position unknown_allocate free_read write =
    record {
      parent = if has_first position then Some parent else None;
      recursive = has_second position;
      has = record {
        unknown = has_first unknown_allocate;
        allocate = has_second unknown_allocate;
        free = has_first free_read;
        read = has_second free_read;
        write = write;
      };
    }
