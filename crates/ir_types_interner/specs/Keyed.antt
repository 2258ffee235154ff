-- The result of a keyed hasher.
use Rattle.std.specs.Prelude.{ℕ, ◌==◌, List, length, take, drop, if◌then◌else◌}
use Rattle.std.specs.Hash.FoldHasher as folding
use Rattle.std.specs.declared.hash.FoldHasher.{FoldHasher}

-- the state after some bytes: sixteen bytes are written as twice eight, so that the input alone determines no factor of
-- a product
abbrev pub write : FoldHasher → List ℕ → FoldHasher
write h bs = if length bs == 16 then folding.write (folding.write h (take 8 bs)) (drop 8 bs) else folding.write h bs
