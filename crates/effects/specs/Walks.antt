-- The arithmetic of entries, counts and sets of effects.
use Rattle.std.specs.Prelude.{ℕ, ◌+◌, ◌-◌, List, [], ◌∷◌, nat_lt, ◌&&◌, not, if◌then◌else◌, Option}
use Rattle.std.specs.Ordering.{nat_cmp}
use Rattle.listeners_support.specs.Map.{IdMap}
use Rattle.listeners_support.specs.Map as idmap
use Rattle.effects.specs.declared.effect_kinds.EffectKinds.{EffectKinds}
use Rattle.op_registry.specs.declared.own.Own.{Own}
use Rattle.effects.specs.declared.row.Counts.{Counts}
use Rattle.effects.specs.declared.row.Row.{Row}
use Rattle.effects.specs.declared.effect_rows.EffectRows.{EffectRows}
use Rattle.effects.specs.Effects.{union, own_kinds, is_recursive}
use Rattle.effects.specs.Points.{one_if, Rows}

-- the difference of two sets
abbrev pub minus : EffectKinds → EffectKinds → EffectKinds
minus a b =
    record {
      unknown = a.unknown && not b.unknown;
      allocate = a.allocate && not b.allocate;
      free = a.free && not b.free;
      read = a.read && not b.read;
      write = a.write && not b.write;
    }

-- the intersection of two sets
abbrev pub both : EffectKinds → EffectKinds → EffectKinds
both a b =
    record {
      unknown = a.unknown && b.unknown;
      allocate = a.allocate && b.allocate;
      free = a.free && b.free;
      read = a.read && b.read;
      write = a.write && b.write;
    }

-- the effects whose count isn't 0
abbrev pub present : Counts → EffectKinds
present c =
    record {
      unknown = nat_lt 0 c.unknown;
      allocate = nat_lt 0 c.allocate;
      free = nat_lt 0 c.free;
      read = nat_lt 0 c.read;
      write = nat_lt 0 c.write;
    }

-- the counts, one less or one more for each effect of a set
abbrev pub lowered : Counts → EffectKinds → Counts
lowered c s =
    record {
      unknown = c.unknown - one_if s.unknown;
      allocate = c.allocate - one_if s.allocate;
      free = c.free - one_if s.free;
      read = c.read - one_if s.read;
      write = c.write - one_if s.write;
    }

abbrev pub raised : Counts → EffectKinds → Counts
raised c s =
    record {
      unknown = c.unknown + one_if s.unknown;
      allocate = c.allocate + one_if s.allocate;
      free = c.free + one_if s.free;
      read = c.read + one_if s.read;
      write = c.write + one_if s.write;
    }

-- all counts are 0
abbrev pub no_counts : Counts
no_counts = record { unknown = 0; allocate = 0; free = 0; read = 0; write = 0 }

-- the entry of an operation without children, with parent p if there is one
abbrev pub new_row : Option ℕ → Own → Row
new_row p own = record { parent = p; recursive = is_recursive own; has = own_kinds own; counts = no_counts }

-- the entry after a child lost, or gained, these effects
abbrev pub lost_row : Row → EffectKinds → Row
lost_row r s =
    record {
      parent = r.parent;
      recursive = r.recursive;
      has = if r.recursive then both r.has (present (lowered r.counts s)) else r.has;
      counts = lowered r.counts s;
    }

abbrev pub gained_row : Row → EffectKinds → Row
gained_row r s =
    record {
      parent = r.parent;
      recursive = r.recursive;
      has = if r.recursive then union r.has s else r.has;
      counts = raised r.counts s;
    }

-- the entry of an operation in a map
abbrev pub rows_at : IdMap Row → Rows
rows_at m = idmap.get m

-- the entry of an operation in a table
abbrev pub row_at : EffectRows → Rows
row_at t = rows_at t.rows

-- the number of effects in a set
abbrev pub size : EffectKinds → ℕ
size a = one_if a.unknown + (one_if a.allocate + (one_if a.free + (one_if a.read + one_if a.write)))

-- the number of effects that a set lacks
abbrev pub headroom : EffectKinds → ℕ
headroom a =
    one_if (not a.unknown) + (one_if (not a.allocate)
    + (one_if (not a.free) + (one_if (not a.read) + one_if (not a.write))))

-- the sum of f over the effects of all entries
abbrev pub total : (EffectKinds → ℕ) → List (ℕ × Row) → ℕ
total f [] = 0
total f (e ∷ es) = f e.1.has + total f es
