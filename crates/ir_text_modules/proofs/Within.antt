-- The offset in a text of a byte of its expansion is within the text.
use Rattle.std.proofs.Common.{◌≤◌, ℕ, ◌-◌, Bool, true, false, List, [], ◌∷◌, Option, Some, None, arith}
use Rattle.std.specs.Prelude.{if◌then◌else◌, nat_lt}
use Rattle.ir_text_tokens.specs.declared.fault.Fault.{Fault}
use Rattle.ir_text_aliases.specs.declared.mark.Mark.{Mark}
use Rattle.ir_text_modules.specs.Expanded.{Expanded, end_of, place_in}
use Rattle.ir_text_modules.specs.Marks.{carried}

either : (b : Bool) (x y n : ℕ) → x ≤ n → y ≤ n → (if b then x else y) ≤ n
either true x y n l m = l
either false x y n l m = m

carried_within : (len : ℕ) (ms : List Mark) (end at : ℕ) → end ≤ len → carried len ms end at ≤ len
unfolding carried
carried_within len [] end at l = l
carried_within len (m ∷ ms) end at l =
    either (nat_lt at m.scanned) ((len - m.left) - (m.scanned - at)) _ len (omega arith)
    (either (nat_lt at m.past) (len - m.left) (carried len ms end at) len (omega arith) (carried_within len ms end at l))

end_within : (len : ℕ) (f : Option Fault) → end_of len f ≤ len
end_within len None = omega arith
end_within len (Some f) = omega arith

pub place_within : (len : ℕ) (e : Expanded) (at : ℕ) → place_in len e at ≤ len
place_within len e at = carried_within len e.marks (end_of len e.fault) at (end_within len e.fault)
