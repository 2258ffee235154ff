-- The depth of a pattern: the root, the defining operations of its operands, and those of their operands.
use Rattle.std.specs.Prelude.{ℕ, ◌+◌, List, [], ◌∷◌, length, Bool, true, false, ◌&&◌, ◌||◌, eqb, nat_lt}
use Rattle.std.specs.List.{list_all, list_any}
use Rattle.user_patterns_data.specs.declared.pattern.PatternOp.{PatternOp}
use Rattle.user_patterns_data.specs.declared.pattern.ExtraConstant.{ExtraConstant}
use Rattle.user_patterns_data.specs.Names.{operands_of}
use Rattle.user_patterns_data.specs.Planning.{extra_place, new_place, old_place}
use Rattle.user_patterns_data.specs.Shapes.{PatternModel}

-- whether place k is an operand of the pattern op
abbrev pub takes : ℕ → PatternOp → Bool
takes k p = list_any (λ j. eqb j k) (operands_of p.form)

-- whether place k is an operand of a pattern op that is an operand of the root
abbrev pub is_inner : PatternOp → ℕ → ℕ → List PatternOp → Bool
is_inner root k at [] = false
is_inner root k at (p ∷ ps) = (takes at root && takes k p) || is_inner root k (at + 1) ps

-- whether place k is the root, an operand of the root, or an operand of the pattern op of such an operand; `ps` have
-- the places from `at` on
abbrev pub is_near : ℕ → PatternOp → ℕ → ℕ → List PatternOp → Bool
is_near place root k at ps = eqb place k || (takes k root || is_inner root k at ps)

-- whether the last pattern op is the root and each other one is near the pattern ops after it
abbrev pub are_near : ℕ → PatternOp → ℕ → List PatternOp → Bool
are_near place root at [] = false
are_near place root at (p ∷ []) = eqb place at
are_near place root at (p ∷ q ∷ ps) = is_near place root at (at + 1) (q ∷ ps) && are_near place root (at + 1) (q ∷ ps)

-- the places from k on, one for each extra constant, are near
abbrev pub all_near_from : (ℕ → Bool) → ℕ → List ExtraConstant → Bool
all_near_from near k [] = true
all_near_from near k (f ∷ fs) = near k && all_near_from near (k + 1) fs

-- whether all operands of the pattern op have places below k
abbrev pub takes_below : ℕ → PatternOp → Bool
takes_below k p = list_all (λ j. nat_lt j k) (operands_of p.form)

-- a pattern with this root is shallow
abbrev pub is_shallow_from : PatternOp → PatternModel → Bool
is_shallow_from root p =
    are_near p.root root (old_place p) p.old
    && (list_all (λ k. is_near p.root root k (old_place p) p.old) p.constants
    && (all_near_from (λ k. is_near p.root root k (old_place p) p.old) (extra_place p) p.extra
    && list_all (takes_below (new_place p)) p.old))

-- a pattern is shallow, given its last pattern ops
abbrev pub is_shallow_by : List PatternOp → PatternModel → Bool
is_shallow_by [] p = false
is_shallow_by (q ∷ []) p = is_shallow_from q p
is_shallow_by (q ∷ r ∷ ps) p = is_shallow_by (r ∷ ps) p

-- whether the pattern is shallow
unfoldable pub is_shallow : PatternModel → Bool
is_shallow p = is_shallow_by p.old p
