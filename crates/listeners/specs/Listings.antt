-- Uses listed by user.
use Rattle.std.specs.Prelude.{ℕ, ◌+◌, List, [], ◌∷◌, ◌++◌, take, drop, eqb, false, if◌then◌else◌}
use Rattle.ir_event.specs.trees.declared.value.Value.{Value}
use Rattle.listeners.specs.declared.key.Use.{Use}
use Rattle.listeners.specs.declared.user.User.{User}
use Rattle.listeners.specs.Uses.{operand_uses}

-- the number of operands of all users
abbrev pub operand_count : List User → ℕ
operand_count [] = 0
operand_count (u ∷ us) = u.count + operand_count us

-- the uses of a user with these operands; none if it isn't live
abbrev pub user_uses : User → List Value → List Use
user_uses u vs = if u.live then operand_uses u.id 0 vs else []

-- the uses of all users, whose operands are in one list in order
abbrev pub listed_uses : List User → List Value → List Use
listed_uses [] vs = []
listed_uses (u ∷ us) vs = user_uses u (take u.count vs) ++ listed_uses us (drop u.count vs)

-- the user, not live if it is x
abbrev pub forgotten : ℕ → User → User
forgotten x u = if eqb u.id x then record u { live = false } else u
