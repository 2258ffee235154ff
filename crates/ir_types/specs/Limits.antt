-- The limits of a context.
use Rattle.std.specs.Prelude.{ℕ}

-- the limit of names, of types and of attributes
abbrev pub most_things : ℕ
most_things = 16777216

-- the limit of entries of a dictionary
abbrev pub most_entries : ℕ
most_entries = 256

-- the depth limit of types and attributes
abbrev pub most_depth : ℕ
most_depth = 32

-- the greatest width of an integer type
abbrev pub most_width : ℕ
most_width = 128

-- the width of index, in bits
abbrev pub index_width : ℕ
index_width = 64

-- the greatest dimension of a memref, 2^63 - 1
abbrev pub most_dimension : ℕ
most_dimension = 9223372036854775807
