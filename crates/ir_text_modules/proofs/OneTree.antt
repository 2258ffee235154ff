-- A text denotes at most one tree, because each tree that it denotes is parsed, and the parser has one result.
use Rattle.std.proofs.Common.{◌≡◌, ◌≤◌, ◌⊎◌, ℕ, Bool, List, [], ◌∷◌, length, Option, Some, None, refl, sym, ap, subst, ◌∙◌, arith, inl, inr}
use Rattle.std.specs.Prelude.{option_and_then, option_map}
use Rattle.ir_types.specs.Sound.{IsSound}
use Rattle.ir_types.specs.Things.{ContextModel, IsExtendedBy}
use Rattle.ir_types.specs.Words.{words}
use Rattle.ir_types.proofs.Beginning.{begun_with}
use Rattle.ir_types.proofs.Building.{nothing_at}
use Rattle.ir_types.proofs.WordNumbers.{all_words, word_count, words_apart}
use Rattle.ir_tree.specs.declared.value.Value.{Value}
use Rattle.ir_tree.specs.Meaning.{Operation}
use Rattle.ir_tree.specs.Tree.{Op}
use Rattle.ir_text_tokens.specs.declared.token.Mark.TheVariants.{End}
use Rattle.ir_text_types.specs.Laws.{Each}
use Rattle.ir_text_types.specs.Outcomes.{Outcome, Read, Full}
use Rattle.ir_text_names.specs.declared.bound.TypedValue.{TypedValue}
use Rattle.ir_text_names.specs.States.{State, fresh}
use Rattle.ir_text_operations.specs.Filling.{new_things}
use Rattle.ir_text_operations.specs.Free.{value_named, free_bound, no_types, no_names}
use Rattle.ir_text_operations.specs.OpGrammar.{IsOp, IsOps}
use Rattle.ir_text_operations.specs.OpReading.{op_at, ops_at}
use Rattle.ir_text_operations.specs.ParseState.{ParseState, initial_state}
use Rattle.ir_text_operations.specs.Spelling.{IsExplicit, IsImplicit, Spells, module_of}
use Rattle.ir_text_operations.specs.Denotation.{Both, BoundDenotes, FreeDenotes, OpDenotes, StateDenotes}
use Rattle.ir_text_operations.proofs.Modules.{no_free, read_parts}
use Rattle.ir_text_operations.proofs.OpLaws.{op_rendered, ops_rendered}
use Rattle.ir_text.specs.Headroom.{HasHeadroom}
use Rattle.ir_text.proofs.Sources.{within_limit}
use Rattle.ir_text.proofs.WholeHeadroom.{op_headroom, ops_headroom}

-- ---- a new context

new_sound : (o : Bool) → IsSound (new_things o)
new_sound o = record {
  holds = (begun_with o words [] [] 54 refl (sym all_words) refl refl).holds;
  names_apart = words_apart;
  types_apart = λ i j x a b. absurd (nothing_at i x a);
  attrs_apart = λ i j x a b. absurd (nothing_at i x a);
}

abbrev typed : Value → ℕ → TypedValue
typed x ty = record { value = x; ty = ty }

none_free : (name : List ℕ) → no_free name ≡ None
unfolding free_bound
none_free name = by (value_named name)
  where
    by : (v : Option Value) → option_and_then (λ x. option_map (typed x) (no_types x)) v ≡ None
    by None = refl
    by (Some x) = refl

unseen : (z : ContextModel) → FreeDenotes z no_free no_names
unseen z name = subst (λ x. Both BoundDenotes z x None) (sym (none_free name)) tt

-- ---- a parse denotes one operation, or one list of operations

-- a parse, and what its result denotes
abbrev ReadAs : {A B : Type 0} → ContextModel → Outcome (A × State) → (ContextModel → A → B → Type 0) → B → ParseState → Type 0
ReadAs {A = A} c r R y t = (x : A) × (s : State) × (r ≡ Read (x, s)) × IsExtendedBy c s.things × IsSound s.things × R s.things x y × StateDenotes s.things s t

same_read : {A B : Type 0} (R : ContextModel → A → B → Type 0) → ((z : ContextModel) (x : A) (u v : B) → R z x u → R z x v → u ≡ v) → (c : ContextModel) (r : Outcome (A × State)) (u v : B) (s t : ParseState) → (r ≡ Full → ⊥) → (r ≡ Full) ⊎ ReadAs c r R u s → (r ≡ Full) ⊎ ReadAs c r R v t → u ≡ v
same_read R one c r u v s t headroom (inl e) k = absurd (headroom e)
same_read R one c r u v s t headroom (inr h) (inl e) = absurd (headroom e)
same_read R one c r u v s t headroom (inr h) (inr k) =
    let q = read_parts h.0 k.0 h.1 k.1 (sym h.2 ∙ k.2) in
    one k.1.things k.0 u v (subst (λ (z : State). R z.things k.0 u) q.1 (subst (λ x. R h.1.things x u) q.0 h.5)) k.5

one_meaning : (z : ContextModel) (x : Op) (u v : Operation) → OpDenotes z x u → OpDenotes z x v → u ≡ v
one_meaning z x u v h k = sym h.1 ∙ k.1

one_list : (z : ContextModel) (xs : List Op) (us vs : List Operation) → Each OpDenotes z xs us → Each OpDenotes z xs vs → us ≡ vs
one_list z [] [] [] h k = refl
one_list z [] [] (v ∷ vs) h k = absurd k
one_list z [] (u ∷ us) vs h k = absurd h
one_list z (x ∷ xs) [] vs h k = absurd h
one_list z (x ∷ xs) (u ∷ us) [] h k = absurd k
one_list z (x ∷ xs) (u ∷ us) (v ∷ vs) h k = λ i. one_meaning z x u v h.0 k.0 i ∷ one_list z xs us vs h.1 k.1 i

-- ---- texts

module _ (o : Bool) (bytes : List ℕ) (few : length bytes ≤ 16777216) where
  headroom : HasHeadroom bytes (new_things o)
  headroom = record { names = omega (arith, word_count, few); types = omega (arith, few); attrs = omega (arith, few) }

  one_root : (y z : Operation) (t u : ParseState) → IsOp o no_names 1048576 129 y (initial_state 0 bytes) t → IsOp o no_names 1048576 129 z (initial_state 0 bytes) u → y ≡ z
  one_root y z t u h k =
      let c = new_things o in
      same_read OpDenotes one_meaning c (op_at no_free 1048576 129 (fresh 0 bytes c)) y z t u (op_headroom no_free 1048576 129 0 c bytes headroom)
      (op_rendered no_free no_names 1048576 129 0 c bytes y t (new_sound o) (λ x g w. unseen x) h)
      (op_rendered no_free no_names 1048576 129 0 c bytes z u (new_sound o) (λ x g w. unseen x) k)

  one_body : (ys zs : List Operation) (t u : ParseState) → IsOps End (IsOp o no_names 1048576 128) 1048576 [] ys (initial_state 1 bytes) t → IsOps End (IsOp o no_names 1048576 128) 1048576 [] zs (initial_state 1 bytes) u → ys ≡ zs
  one_body ys zs t u h k =
      let c = new_things o in
      same_read (Each OpDenotes) one_list c (ops_at End (op_at no_free 1048576 128) 1048576 [] (fresh 1 bytes c)) ys zs t u (ops_headroom no_free End 1048576 128 1 c bytes headroom)
      (ops_rendered no_free no_names 1048576 128 1 c bytes ys t (new_sound o) (λ x g w. unseen x) h)
      (ops_rendered no_free no_names 1048576 128 1 c bytes zs u (new_sound o) (λ x g w. unseen x) k)

  one_source : (y z : Operation) → IsExplicit o bytes y ⊎ IsImplicit o bytes y → IsExplicit o bytes z ⊎ IsImplicit o bytes z → y ≡ z
  unfolding IsExplicit IsImplicit
  one_source y z (inl h) (inl k) = one_root y z h.1.0 k.1.0 h.1.2 k.1.2
  one_source y z (inl h) (inr k) = absurd (k.0 y h)
  one_source y z (inr h) (inl k) = absurd (h.0 z k)
  one_source y z (inr h) (inr k) = h.1.3 ∙ ap module_of (one_body h.1.0 k.1.0 h.1.1 k.1.1 h.1.2 k.1.2) ∙ sym k.1.3

pub one_tree : (o : Bool) (bytes : List ℕ) (y z : Operation) → Spells o bytes y → Spells o bytes z → y ≡ z
one_tree o bytes y z h k = one_source o bytes (within_limit bytes (sym h.text)) y z h.rendered k.rendered
