-- Marks under which rewrites are recorded.
use Rattle.std.specs.Prelude.{[], ◌∷◌, ◌++◌, false, length}
use Rattle.patterns.specs.rewriter.Held.{TransactionModel}

-- the transaction with one more mark, not counted, at the end of the journal
abbrev pub marked : TransactionModel → TransactionModel
marked h = record h { marks = h.marks ++ record { length = length h.journal; counted = false } ∷ [] }
