-- The reports: a property of each operation of a tree, ordered by id.
use Rattle.std.specs.Prelude.{ℕ, List, [], ◌∷◌, ◌++◌, map, Bool, if◌then◌else◌}
use Rattle.ir_event.specs.trees.Tree.{OpOf}
use Rattle.ir_event.specs.trees.Meaning.{Operation}
use Rattle.ir_event.specs.tree_laws.Stands.{op_with_path_id, stands}
use Rattle.ir_event.specs.Rows.{RowTerm, Op, Tag, by_id}
use Rattle.ir_event.specs.Tags.{tag_number}
use Rattle.ir_event.specs.declared.tag.Tag.TheVariants as word
use Rattle.op_registry.specs.Registry.{own_of}
use Rattle.effects.specs.declared.effect_kinds.EffectKinds.{EffectKinds}
use Rattle.effects.specs.Effects.{effects, is_none}
use Rattle.effects.specs.Dead.{is_dead}

-- each operation of a tree, by its id, with the value of a function
abbrev pub of_each : {N T A V : Type 0} → (OpOf N T A → V) → OpOf N T A → List (ℕ × V)
of_each f t = map (λ s. (op_with_path_id s, f s.here)) (stands [] t)

-- the operations that have an effect
abbrev pub having : List (ℕ × EffectKinds) → List (ℕ × EffectKinds)
having [] = []
having (p ∷ ps) = if is_none p.1 then having ps else p ∷ having ps

-- the operations of a tree that have effects, with their effects, ordered by id
abbrev pub effects_of : Operation → List (ℕ × EffectKinds)
effects_of t = having (by_id (of_each (effects own_of) t))

-- the operations with the value `true`
abbrev pub those : List (ℕ × Bool) → List ℕ
those [] = []
those (p ∷ ps) = if p.1 then p.0 ∷ those ps else those ps

-- the dead operations of a tree, ordered by id
abbrev pub dead_of : Operation → List ℕ
dead_of t = those (by_id (of_each (is_dead t) t))

-- a word, if b
abbrev pub tag_if : {C : Type 0} → (ℕ → C) → Bool → ℕ → List C
tag_if tag b n = if b then tag n ∷ [] else []

-- the row of an operation with effects: the operation, and the words unknown, allocate, free, read, write
abbrev pub cells_of : {C : Type 0} → (ℕ → C) → (ℕ → C) → ℕ × EffectKinds → List C
cells_of op tag p =
    ((((op p.0 ∷ [] ++ tag_if tag p.1.unknown (tag_number word.Unknown))
    ++ tag_if tag p.1.allocate (tag_number word.Allocate)) ++ tag_if tag p.1.free (tag_number word.Free))
    ++ tag_if tag p.1.read (tag_number word.Read))
    ++ tag_if tag p.1.write (tag_number word.Write)

-- the row of a dead operation
abbrev pub cell_of : {C : Type 0} → (ℕ → C) → ℕ → List C
cell_of op x = op x ∷ []

-- the rows of a tree
abbrev pub effects_rows : Operation → List RowTerm
effects_rows t = map (cells_of Op Tag) (effects_of t)

abbrev pub dead_rows : Operation → List RowTerm
dead_rows t = map (cell_of Op) (dead_of t)
