-- The origin of a byte of an expansion.
use Rattle.std.specs.Prelude.{ℕ, ◌-◌, Bool, false, not, ◌&&◌, ◌||◌, nat_lt, if◌then◌else◌, List, [], ◌∷◌}
use Rattle.ir_text_aliases.specs.declared.mark.Mark.{Mark}

-- the offset in a text of `len` bytes: a byte of the expansion is as far before the next mark as its origin is before
-- the mark's origin; a byte of a replacement is mapped to its alias; a byte after all marks is mapped to `end`
unfoldable pub carried : (len : ℕ) → List Mark → (end at : ℕ) → ℕ
carried len [] end at = end
carried len (m ∷ ms) end at =
    if nat_lt at m.scanned then (len - m.left) - (m.scanned - at)
    else if nat_lt at m.past then len - m.left
    else carried len ms end at

-- whether a byte of the expansion is in a replacement
unfoldable pub is_rendered : List Mark → (at : ℕ) → Bool
is_rendered [] at = false
is_rendered (m ∷ ms) at = (not (nat_lt at m.scanned) && nat_lt at m.past) || is_rendered ms at
