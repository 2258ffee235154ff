-- The operations to list after events, and what holds of the unlisted ones.
use Rattle.std.specs.Prelude.{◌≡◌, ◌⊎◌, ◌↔◌, ℕ, List, [], ◌∷◌, ◌++◌, true, false, Some, None, eqb, if◌then◌else◌}
use Rattle.ir_event.specs.trees.declared.value.Value.{Value}
use Rattle.ir_event.specs.trees.Ids.{has_id, ids}
use Rattle.ir_event.specs.trees.Meaning.{Operation}
use Rattle.ir_event.specs.tree_laws.Members.{In}
use Rattle.ir_event.specs.tree_laws.Reads.{precedes}
use Rattle.ir_event.specs.declared.event.Event.{Event}
use Rattle.ir_event.specs.Modules.{Module}
use Rattle.op_registry.specs.Registry.{own_of}
use Rattle.effects.specs.Dead.{is_unused}
use Rattle.patterns_base.specs.declared.rule.Rule.{Rule}
use Rattle.patterns_base.specs.RuleNames.{is_canonical}
use Rattle.patterns_base.specs.Rewrites.{edits_of}
use Rattle.user_patterns_data.specs.Shapes.{PatternModel}
use Rattle.user_patterns_data.specs.Depth.{is_shallow}
use Rattle.user_patterns_apply.specs.Own.{user_pattern_edits}
use Rattle.greedy.specs.Reached.{any_reaches}
use Rattle.greedy.specs.LocalContext.{defining_op, is_listed, ListsSeers, ListsAround}
use Rattle.greedy.specs.Climbs.{Climbs}
use Rattle.greedy.specs.Near.{gained_values, lost_values, outer_ids}

-- an unlisted operation of the current module was in the old module, and each rule of canonicalization and each
-- shallow user pattern applies at it exactly if it applied then
pub record Stayed (before held : Module) (x : ℕ) : Type 0 where
  pub was : has_id x before.tree ≡ true
  pub applies : (r : Rule) → is_canonical r ≡ true → (edits_of r held x ≡ None) ↔ (edits_of r before x ≡ None)
  pub own : (p : PatternModel) → is_shallow p ≡ true → (user_pattern_edits p held x ≡ None) ↔ (user_pattern_edits p before x ≡ None)

abbrev pub Touched : Module → Module → List ℕ → Type 0
Touched before held listed = (x : ℕ) → has_id x held.tree ≡ true → is_listed x listed ≡ false → Stayed before held x

-- the same for the operations that don't come after an operation `passed` in pre-order
abbrev pub TouchedUpTo : ℕ → Module → Module → List ℕ → Type 0
TouchedUpTo passed before held listed = (x : ℕ) → has_id x held.tree ≡ true → is_listed x listed ≡ false
    → precedes passed x held.tree ≡ false → Stayed before held x

-- the list holds, by the tree after the events: every operation that an event reaches, its users, and their users; the
-- parent of each of the first two that ends a block; the defining operations of values that gain a use, and of those
-- that lose their last use; and the operations around the places of an event, as far as each has recursive memory
-- effects
pub record Lists (shown : ℕ → List Value) (es : List Event) (listed : List ℕ) (t : Operation) : Type 0 where
  pub seers : ListsSeers (λ y. any_reaches es y t) listed t
  pub around : ListsAround (λ y. any_reaches es y t) listed t
  pub found_gained : (e : Event) → In e es → (v : Value) → In v (gained_values shown e) → (y : ℕ) → defining_op v ≡ Some y
      → is_listed y listed ≡ true
  pub found_lost : (e : Event) → In e es → (v : Value) → In v (lost_values shown e) → (y : ℕ) → defining_op v ≡ Some y
      → (is_listed y listed ≡ true) ⊎ (is_unused y t ≡ false)
  pub climbs : (e : Event) → In e es → (w : ℕ) → In w (outer_ids e) → (k y : ℕ) → Climbs own_of k y w t
      → is_listed y listed ≡ true

-- the entries after the first a in a list
abbrev pub entries_after : ℕ → List ℕ → List ℕ
entries_after a [] = []
entries_after a (x ∷ xs) = if eqb x a then xs else entries_after a xs

-- the list has all that `Lists` requires, except operations after `passed` in pre-order
abbrev pub ListsUpTo : ℕ → (ℕ → List Value) → List Event → List ℕ → Operation → Type 0
ListsUpTo passed shown es listed t = Lists shown es (listed ++ entries_after passed (ids t)) t
