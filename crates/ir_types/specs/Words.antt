-- The predefined words of every context, at fixed ids, and the table of registered operations.
use Rattle.std.specs.Prelude.{ℕ, List, [], ◌∷◌, ◌++◌, codes, map, Bool, ◌||◌, ◌&&◌, ◌==◌, nat_lt, slice_index_or}
use Rattle.std.specs.List.{list_any}
use Rattle.std.specs.Str.{bytes_eq}

-- the registered operations, each with the keys of its properties
unfoldable pub operations : List (List ℕ × List (List ℕ))
operations =
    (codes "builtin.module", codes "sym_name" ∷ codes "sym_visibility" ∷ [])
    ∷ (codes "builtin.unrealized_conversion_cast", [])
    ∷ (codes "func.func", codes "function_type" ∷ codes "sym_name" ∷ codes "sym_visibility" ∷ codes "arg_attrs" ∷ codes "res_attrs" ∷ [])
    ∷ (codes "func.call", codes "callee" ∷ codes "arg_attrs" ∷ codes "res_attrs" ∷ [])
    ∷ (codes "func.return", [])
    ∷ (codes "arith.constant", codes "value" ∷ [])
    ∷ (codes "arith.addi", codes "overflowFlags" ∷ [])
    ∷ (codes "arith.subi", codes "overflowFlags" ∷ [])
    ∷ (codes "arith.muli", codes "overflowFlags" ∷ [])
    ∷ (codes "arith.shli", codes "overflowFlags" ∷ [])
    ∷ (codes "arith.divsi", [])
    ∷ (codes "arith.divui", [])
    ∷ (codes "arith.remsi", [])
    ∷ (codes "arith.remui", [])
    ∷ (codes "arith.andi", [])
    ∷ (codes "arith.ori", [])
    ∷ (codes "arith.xori", [])
    ∷ (codes "arith.shrsi", [])
    ∷ (codes "arith.shrui", [])
    ∷ (codes "arith.maxsi", [])
    ∷ (codes "arith.maxui", [])
    ∷ (codes "arith.minsi", [])
    ∷ (codes "arith.minui", [])
    ∷ (codes "arith.cmpi", codes "predicate" ∷ [])
    ∷ (codes "arith.select", [])
    ∷ (codes "arith.extsi", [])
    ∷ (codes "arith.extui", [])
    ∷ (codes "arith.trunci", codes "overflowFlags" ∷ [])
    ∷ (codes "arith.index_cast", [])
    ∷ (codes "arith.index_castui", [])
    ∷ (codes "scf.for", [])
    ∷ (codes "scf.if", [])
    ∷ (codes "scf.while", [])
    ∷ (codes "scf.yield", [])
    ∷ (codes "scf.condition", [])
    ∷ (codes "memref.alloc", codes "operandSegmentSizes" ∷ codes "alignment" ∷ [])
    ∷ (codes "memref.dealloc", [])
    ∷ (codes "memref.load", codes "nontemporal" ∷ codes "alignment" ∷ [])
    ∷ (codes "memref.store", codes "nontemporal" ∷ codes "alignment" ∷ [])
    ∷ []

-- the keys of their properties, each once
unfoldable pub keys : List (List ℕ)
keys =
    codes "sym_name"
    ∷ codes "sym_visibility"
    ∷ codes "function_type"
    ∷ codes "arg_attrs"
    ∷ codes "res_attrs"
    ∷ codes "callee"
    ∷ codes "value"
    ∷ codes "overflowFlags"
    ∷ codes "predicate"
    ∷ codes "operandSegmentSizes"
    ∷ codes "alignment"
    ∷ codes "nontemporal"
    ∷ []

-- the visibilities of symbols
unfoldable pub visibilities : List (List ℕ)
visibilities = codes "public" ∷ codes "private" ∷ codes "nested" ∷ []

-- the words: the operations, then the keys, then the visibilities
unfoldable pub words : List (List ℕ)
words = map (λ (row : List ℕ × List (List ℕ)). row.0) operations ++ keys ++ visibilities

-- whether the bytes are the name of a registered operation
unfoldable pub is_listed : List ℕ → Bool
is_listed op = list_any (λ (row : List ℕ × List (List ℕ)). bytes_eq op row.0) operations

-- whether they are the name of a symbol table
unfoldable pub is_table : List ℕ → Bool
is_table op = bytes_eq op (codes "builtin.module")

-- whether they are the name of an operation that is isolated from above
unfoldable pub is_isolated : List ℕ → Bool
is_isolated op = bytes_eq op (codes "builtin.module") || bytes_eq op (codes "func.func")

-- whether a key is one of a registered operation's properties
unfoldable pub is_inherent : List ℕ → List ℕ → Bool
is_inherent op key = list_any (λ (row : List ℕ × List (List ℕ)). bytes_eq op row.0 && list_any (bytes_eq key) row.1) operations

-- the keys of each registered operation's properties, by their ids
unfoldable pub row_keys : List (List ℕ)
row_keys =
    (39 ∷ 40 ∷ [])
    ∷ []
    ∷ (41 ∷ 39 ∷ 40 ∷ 42 ∷ 43 ∷ [])
    ∷ (44 ∷ 42 ∷ 43 ∷ [])
    ∷ []
    ∷ (45 ∷ [])
    ∷ (46 ∷ [])
    ∷ (46 ∷ [])
    ∷ (46 ∷ [])
    ∷ (46 ∷ [])
    ∷ []
    ∷ []
    ∷ []
    ∷ []
    ∷ []
    ∷ []
    ∷ []
    ∷ []
    ∷ []
    ∷ []
    ∷ []
    ∷ []
    ∷ []
    ∷ (47 ∷ [])
    ∷ []
    ∷ []
    ∷ []
    ∷ (46 ∷ [])
    ∷ []
    ∷ []
    ∷ []
    ∷ []
    ∷ []
    ∷ []
    ∷ []
    ∷ (48 ∷ 49 ∷ [])
    ∷ []
    ∷ (50 ∷ 49 ∷ [])
    ∷ (50 ∷ 49 ∷ [])
    ∷ []

-- the same three tests by the id of an operation's name, and of a key
abbrev pub is_listed_number : ℕ → Bool
is_listed_number op = nat_lt op 39

abbrev pub is_table_number : ℕ → Bool
is_table_number op = op == 0

abbrev pub is_isolated_number : ℕ → Bool
is_isolated_number op = (op == 0) || (op == 2)

unfoldable pub is_inherent_number : ℕ → ℕ → Bool
is_inherent_number op key = list_any (λ k. k == key) (slice_index_or row_keys op [])
