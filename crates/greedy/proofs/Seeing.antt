-- Rules read the same at operations that aren't listed.
use Rattle.std.proofs.Common.{◌≡◌, refl, ap, sym, ◌∙◌, ℕ, true, false, true≢false, List, map, Option, Some, None}
use Rattle.std.specs.Prelude.{option_and_then}
use Rattle.ir_event.specs.types.Things.{ContextModel}
use Rattle.ir_event.specs.trees.declared.value.Value.{Value}
use Rattle.ir_event.specs.tree_laws.Members.{In}
use Rattle.ir_event.specs.declared.event.Event.{Event}
use Rattle.ir_event.specs.Modules.{Module}
use Rattle.ir_event.specs.Step.{Steps}
use Rattle.listeners_support.specs.Surroundings.{SurroundingsOf, surroundings}
use Rattle.listeners_support.proofs.Operands.{same_map}
use Rattle.greedy.specs.Reached.{any_reaches, ends, ends_of}
use Rattle.greedy.specs.LocalContext.{defining_op, is_listed, operands_of, given_by, source_by, dominance_by, local_context, end_dominance, ListsSeers, ListsAround}
use Rattle.greedy.proofs.Reaching.{all_far}
use Rattle.std.proofs.lemmas.Bool.{false_from_ne_true}

module _ {N T A : Type 0} (look see : ℕ → Option (SurroundingsOf N T A)) where
  -- the defining operation of a value reads the same
  alike_given : (v : Value) → ((y : ℕ) → defining_op v ≡ Some y → look y ≡ see y) → given_by look v ≡ given_by see v
  alike_given v f = go (defining_op v) refl
    where
      go : (g : Option ℕ) → defining_op v ≡ g → option_and_then look g ≡ option_and_then see g
      go None e = refl
      go (Some y) e = f y e

  alike_source : (v : Value) → ((y : ℕ) → defining_op v ≡ Some y → look y ≡ see y) → ((y : ℕ) → defining_op v ≡ Some y → (w : Value) → In w (operands_of (look y)) → (z : ℕ) → defining_op w ≡ Some z → look z ≡ see z) → source_by look v ≡ source_by see v
  alike_source v f g =
      let same = alike_given v f in
      let inner = same_map (given_by look) (given_by see) (operands_of (given_by look v)) (λ w h. alike_given w (λ z e. reach w h z e)) in
      λ i. (same i, (inner ∙ ap (λ s. map (given_by see) (operands_of s)) same) i)
    where
      go : (o : Option ℕ) → defining_op v ≡ o → (w : Value) → In w (operands_of (option_and_then look o)) → (z : ℕ) → defining_op w ≡ Some z → look z ≡ see z
      go None e w h z k = absurd h
      go (Some y) e w h z k = g y e w h z k

      reach : (w : Value) → In w (operands_of (given_by look v)) → (z : ℕ) → defining_op w ≡ Some z → look z ≡ see z
      reach w h z e = go (defining_op v) refl w h z e

  pub alike_dominance : (x : ℕ) → look x ≡ see x → ((v : Value) → In v (operands_of (look x)) → (y : ℕ) → defining_op v ≡ Some y → look y ≡ see y)
      → ((v : Value) → In v (operands_of (look x)) → (y : ℕ) → defining_op v ≡ Some y → (w : Value) → In w (operands_of (look y)) → (z : ℕ) → defining_op w ≡ Some z → look z ≡ see z)
      → dominance_by look x ≡ dominance_by see x
  alike_dominance x own one two =
      let inner = same_map (source_by look) (source_by see) (operands_of (look x)) (λ v h. alike_source v (one v h) (two v h)) in
      λ i. (own i, (inner ∙ ap (λ s. map (source_by see) (operands_of s)) own) i)

pub dominated_by_the_same : (c : ContextModel) (es : List Event) (m n : Module) (listed : List ℕ) → Steps c es m n → ListsSeers (λ y. any_reaches es y n.tree) listed n.tree → (x : ℕ) → is_listed x listed ≡ false → local_context x n.tree ≡ local_context x m.tree
dominated_by_the_same c es m n listed s l x h =
    alike_dominance (λ y. surroundings y n.tree) (λ y. surroundings y m.tree) x
    (far x (λ e. true≢false (sym (l.itself x e) ∙ h)))
    (λ v i y g. far y (λ e. true≢false (sym (l.users y x e (v, i, g)) ∙ h)))
    (λ v i y g w j z k. far z (λ e. true≢false (sym (l.users_of_users z y x e (w, j, k) (v, i, g)) ∙ h)))
  where
    far : (y : ℕ) → (any_reaches es y n.tree ≡ true → ⊥) → surroundings y n.tree ≡ surroundings y m.tree
    far y f = all_far c es m n s y (false_from_ne_true (any_reaches es y n.tree) f)

-- an operation that ends a block of an unlisted operation ended a block of it before, and rules read the same at it
pub ends_as_before : (c : ContextModel) (es : List Event) (m n : Module) (listed : List ℕ) → Steps c es m n → ListsAround (λ y. any_reaches es y n.tree) listed n.tree → (x : ℕ) → is_listed x listed ≡ false → (l : ℕ) → ends x l n.tree ≡ true
    → (ends x l m.tree ≡ true) × (end_dominance l n.tree ≡ end_dominance l m.tree)
ends_as_before c es m n listed s a x h l e =
    let own = far l (λ r. true≢false (sym (a.around l x r e) ∙ h)) in
    let inner = same_map (given_by (λ y. surroundings y n.tree)) (given_by (λ y. surroundings y m.tree)) (operands_of (surroundings l n.tree))
    (λ v i. alike_given (λ y. surroundings y n.tree) (λ y. surroundings y m.tree) v (λ z g. far z (λ r. true≢false (sym (a.around_users z l x r (v, i, g) e) ∙ h)))) in
    (sym (ap (ends_of x) own) ∙ e, λ j. (own j, (inner ∙ ap (λ o. map (given_by (λ y. surroundings y m.tree)) (operands_of o)) own) j))
  where
    far : (y : ℕ) → (any_reaches es y n.tree ≡ true → ⊥) → surroundings y n.tree ≡ surroundings y m.tree
    far y f = all_far c es m n s y (false_from_ne_true (any_reaches es y n.tree) f)
