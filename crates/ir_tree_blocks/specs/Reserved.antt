-- The keys of attributes that say where blocks are.
use Rattle.std.specs.Prelude.{ℕ, List, codes, Bool, ◌||◌}
use Rattle.std.specs.Str.{bytes_eq}

-- whether a key is one of them
abbrev pub is_reserved : List ℕ → Bool
is_reserved k = bytes_eq k (codes "order") || (bytes_eq k (codes "unreachable") || bytes_eq k (codes "cf.successors"))
