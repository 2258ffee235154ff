-- The values that reports read from the tables.
use Rattle.std.specs.Prelude.{ℕ, List, [], ◌∷◌, map, Bool, ◌&&◌}
use Rattle.ir_event.specs.declared.subject.Subject.{Subject}
use Rattle.ir_event.specs.declared.subject.Subject.TheVariants as subject
use Rattle.effects.specs.declared.effect_kinds.EffectKinds.{EffectKinds}
use Rattle.effects.specs.declared.row.Row.{Row}
use Rattle.effects.specs.Dead.{may_go}
use Rattle.effects.specs.Counts.{Counts, is_zero}
use Rattle.effects.specs.Picked.{idle_row, said_row}
use Rattle.effects.specs.Points.{Rows}

-- the effects in the entries of a table
abbrev pub said : List (ℕ × Row) → List (ℕ × EffectKinds)
said es = map (λ (e : ℕ × Row). (e.0, e.1.has)) es

-- whether each operation is dead, given its entry and its count
abbrev pub checked : Counts → List (ℕ × Row) → List (ℕ × Bool)
checked counts es = map (λ (e : ℕ × Row). (e.0, is_zero (counts e.0) && may_go e.1.has)) es

-- the effects of the operation that a report is about, if it is about one and the operation has effects
abbrev pub said_about : Subject → Rows → List (ℕ × EffectKinds)
said_about (subject.Op x) rows = said_row x (rows x)
said_about (subject.Val v) rows = []

-- whether the operation that a report is about is dead, if it is about one
abbrev pub checked_about : Subject → Counts → Rows → List (ℕ × Bool)
checked_about (subject.Op x) counts rows = (x, is_zero (counts x) && idle_row (rows x)) ∷ []
checked_about (subject.Val v) counts rows = []
