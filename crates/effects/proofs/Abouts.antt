-- The rows about one operation are those of its entry, and no row is about a value.
use Rattle.std.proofs.Common.{◌≡◌, ◌∙◌, refl, sym, ap, ℕ, Bool, true, false, ◌&&◌, cond, List, [], ◌∷◌, ◌++◌, map, Option, Some, None}
use Rattle.std.specs.Prelude.{option_map}
use Rattle.std.proofs.lemmas.Bool.{eq-eqb, ne_eqb}
use Rattle.ir_event.specs.trees.declared.value.Value.{Value}
use Rattle.ir_event.specs.declared.subject.Subject.TheVariants as subject
use Rattle.ir_event.specs.Rows.{RowTerm, Op, Tag}
use Rattle.ir_event.specs.Subjects.{rows_about}
use Rattle.ir_event.proofs.Abouts.{all_rows, rows_at, about_none, about_entry}
use Rattle.ir_event.proofs.ById.{look, Rising}
use Rattle.effects.specs.declared.effect_kinds.EffectKinds.{EffectKinds}
use Rattle.effects.specs.declared.row.Row.{Row}
use Rattle.effects.specs.Dead.{may_go}
use Rattle.effects.specs.Effects.{is_none}
use Rattle.effects.specs.Picked.{idle_row, said_row}
use Rattle.effects.specs.Reports.{having, those, cells_of, cell_of}

-- ---- effects

abbrev effect_rows : ℕ × EffectKinds → List RowTerm
effect_rows p = map (cells_of Op Tag) (having (p ∷ []))

effects_gathered : (ps : List (ℕ × EffectKinds)) → map (cells_of Op Tag) (having ps) ≡ all_rows effect_rows ps
effects_gathered [] = refl
effects_gathered (p ∷ ps) = elim (is_none p.1) as (λ b. map (cells_of Op Tag) (cond b (having ps) (p ∷ having ps)) ≡ map (cells_of Op Tag) (cond b [] (p ∷ [])) ++ all_rows effect_rows ps) [
  | true ↦ effects_gathered ps
  | false ↦ ap (λ l. cells_of Op Tag p ∷ l) (effects_gathered ps)
]

other_effects : (x : ℕ) (p : ℕ × EffectKinds) → (x ≡ p.0 → ⊥) → rows_about (subject.Op x) (effect_rows p) ≡ []
other_effects x p ne = elim (is_none p.1) as (λ b. rows_about (subject.Op x) (map (cells_of Op Tag) (cond b [] (p ∷ []))) ≡ []) [
  | true ↦ refl
  | false ↦ ap (λ b. cond b (cells_of Op Tag p ∷ []) []) (ne_eqb p.0 x (λ e. ne (sym e)))
]

own_effects : (x : ℕ) (s : EffectKinds) → rows_about (subject.Op x) (effect_rows (x, s)) ≡ effect_rows (x, s)
own_effects x s = elim (is_none s) as (λ b. rows_about (subject.Op x) (map (cells_of Op Tag) (cond b [] ((x, s) ∷ []))) ≡ map (cells_of Op Tag) (cond b [] ((x, s) ∷ []))) [
  | true ↦ refl
  | false ↦ ap (λ b. cond b (cells_of Op Tag (x, s) ∷ []) []) (eq-eqb x x refl)
]

effects_at : (x : ℕ) (r : Option Row) → rows_at (subject.Op x) effect_rows x (option_map (λ (r : Row). r.has) r) ≡ map (cells_of Op Tag) (said_row x r)
effects_at x None = refl
effects_at x (Some r) = own_effects x r.has

pub about_effects : (x : ℕ) (ps : List (ℕ × EffectKinds)) (r : Option Row) → Rising ps → look x ps ≡ option_map (λ (r : Row). r.has) r → rows_about (subject.Op x) (map (cells_of Op Tag) (having ps)) ≡ map (cells_of Op Tag) (said_row x r)
about_effects x ps r rising found =
    ap (rows_about (subject.Op x)) (effects_gathered ps) ∙ about_entry (subject.Op x) effect_rows x (other_effects x) ps rising
    ∙ ap (rows_at (subject.Op x) effect_rows x) found ∙ effects_at x r

no_effect : (v : Value) (p : ℕ × EffectKinds) → rows_about (subject.Val v) (effect_rows p) ≡ []
no_effect v p = elim (is_none p.1) as (λ b. rows_about (subject.Val v) (map (cells_of Op Tag) (cond b [] (p ∷ []))) ≡ []) [ true ↦ refl | false ↦ refl ]

pub no_effects : (v : Value) (ps : List (ℕ × EffectKinds)) → rows_about (subject.Val v) (map (cells_of Op Tag) (having ps)) ≡ []
no_effects v ps = ap (rows_about (subject.Val v)) (effects_gathered ps) ∙ about_none (subject.Val v) effect_rows (no_effect v) ps

-- ---- dead operations

abbrev dead_row : ℕ × Bool → List RowTerm
dead_row p = map (cell_of Op) (those (p ∷ []))

dead_gathered : (ps : List (ℕ × Bool)) → map (cell_of Op) (those ps) ≡ all_rows dead_row ps
dead_gathered [] = refl
dead_gathered (p ∷ ps) = elim p.1 as (λ b. map (cell_of Op) (cond b (p.0 ∷ those ps) (those ps)) ≡ map (cell_of Op) (cond b (p.0 ∷ []) []) ++ all_rows dead_row ps) [
  | true ↦ ap (λ l. cell_of Op p.0 ∷ l) (dead_gathered ps)
  | false ↦ dead_gathered ps
]

other_dead : (x : ℕ) (p : ℕ × Bool) → (x ≡ p.0 → ⊥) → rows_about (subject.Op x) (dead_row p) ≡ []
other_dead x p ne = elim p.1 as (λ b. rows_about (subject.Op x) (map (cell_of Op) (cond b (p.0 ∷ []) [])) ≡ []) [
  | true ↦ ap (λ b. cond b (cell_of Op p.0 ∷ []) []) (ne_eqb p.0 x (λ e. ne (sym e)))
  | false ↦ refl
]

own_dead : (x : ℕ) (dead : Bool) → rows_about (subject.Op x) (dead_row (x, dead)) ≡ dead_row (x, dead)
own_dead x true = ap (λ b. cond b (cell_of Op x ∷ []) []) (eq-eqb x x refl)
own_dead x false = refl

dead_at : (x : ℕ) (unused : Bool) (r : Option Row) → rows_at (subject.Op x) dead_row x (option_map (λ (r : Row). unused && may_go r.has) r) ≡ map (cell_of Op) (those ((x, unused && idle_row r) ∷ []))
dead_at x true None = refl
dead_at x false None = refl
dead_at x unused (Some r) = own_dead x (unused && may_go r.has)

pub about_dead : (x : ℕ) (ps : List (ℕ × Bool)) (unused : Bool) (r : Option Row) → Rising ps → look x ps ≡ option_map (λ (r : Row). unused && may_go r.has) r → rows_about (subject.Op x) (map (cell_of Op) (those ps)) ≡ map (cell_of Op) (those ((x, unused && idle_row r) ∷ []))
about_dead x ps unused r rising found =
    ap (rows_about (subject.Op x)) (dead_gathered ps) ∙ about_entry (subject.Op x) dead_row x (other_dead x) ps rising
    ∙ ap (rows_at (subject.Op x) dead_row x) found ∙ dead_at x unused r

no_dead_row : (v : Value) (p : ℕ × Bool) → rows_about (subject.Val v) (dead_row p) ≡ []
no_dead_row v p = elim p.1 as (λ b. rows_about (subject.Val v) (map (cell_of Op) (cond b (p.0 ∷ []) [])) ≡ []) [ true ↦ refl | false ↦ refl ]

pub no_dead : (v : Value) (ps : List (ℕ × Bool)) → rows_about (subject.Val v) (map (cell_of Op) (those ps)) ≡ []
no_dead v ps = ap (rows_about (subject.Val v)) (dead_gathered ps) ∙ about_none (subject.Val v) dead_row (no_dead_row v) ps
