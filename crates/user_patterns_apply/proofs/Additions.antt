-- Operations that are made one after another.
use Rattle.std.proofs.Common.{append_assoc, ◌≡◌, ℕ, ◌+◌, ◌-◌, ◌≤◌, take, drop, take_all, length, slice_index_or, subst, arith, Bool, true, false, refl, ap, sym, ◌∙◌, List, [], ◌∷◌, ◌++◌, map, Option, Some, None, slice_get}
use Rattle.std.specs.Prelude.{option_map}
use Rattle.std.specs.List.{list_all}
use Rattle.std.proofs.lemmas.List.{map-append, length_push}
use Rattle.std.proofs.lemmas.Option.{slice_get-map}
use Rattle.ir_event.proofs.of_tree_laws.Listed.{both}
use Rattle.ir_event.specs.types.Things.{ContextModel}
use Rattle.ir_event.specs.types.declared.word.Word.{Word}
use Rattle.ir_event.specs.types.WordNames.{word_bytes}
use Rattle.dialects_int.specs.Folds.{Known}
use Rattle.patterns_base.specs.Made.{constant, flags, made}
use Rattle.ir_event.specs.types.Terms.{TypeTerm}
use Rattle.ir_event.specs.trees.declared.value.Value.{Value}
use Rattle.ir_event.specs.trees.declared.value.Value.TheVariants.{Result}
use Rattle.ir_event.specs.trees.Uses.{same_value}
use Rattle.ir_event.specs.trees.Meaning.{Operation}
use Rattle.user_patterns_check.specs.Outcomes.{Outcome, given}
use Rattle.user_patterns_data.specs.declared.pattern.NewValue.{NewValue}
use Rattle.user_patterns_data.specs.declared.pattern.NewValue.TheVariants as new
use Rattle.user_patterns_data.specs.declared.pattern.PatternOp.{PatternOp}
use Rattle.user_patterns_data.specs.declared.pattern.Expression.{Expression}
use Rattle.user_patterns_data.specs.declared.pattern.Expression.TheVariants as form
use Rattle.user_patterns_data.specs.Names.{name_of, operands_of, predicate_of}
use Rattle.user_patterns_data.specs.Matching.{BoundValues, bound, binding_at}
use Rattle.user_patterns_data.specs.Planning.{all_made, and_more, entries_by, made_as, values_at}
use Rattle.user_patterns_apply.specs.Built.{IsMadeNext, as_operands, trailing, made_after, entries_in, made_in, operand_in, operands_at, operands_in, property_for, with_more}
use Rattle.user_patterns_build.specs.CanBuild.{is_named}
use Rattle.user_patterns_apply.specs.Stands.{Stands}
use Rattle.user_patterns_apply.specs.Types.{type_in, types_in}
use Rattle.user_patterns_apply.proofs.Binding.{stands_yes}
use Rattle.user_patterns_apply.specs.declared.rewrite_plan.NewOp.{NewOp}
use Rattle.user_patterns_apply.specs.declared.rewrite_plan.Operand.{Operand}
use Rattle.user_patterns_apply.specs.declared.types.BoundType.{BoundType}

module _ (ts : BoundValues TypeTerm) (env : List Outcome) (os : List Operation) (n k : ℕ) (w : NewValue) (ws : List NewValue) (b : BoundValues Value) where
  pub none_made : made_as b ts env w ≡ None → trailing os (all_made ts env n k (w ∷ ws) b) ≡ None
  none_made e = ap (λ r. trailing os (given r (λ o. given (bound same_value k (Result n 0) b) (λ c. option_map (λ (r : List Operation × BoundValues Value). (o ∷ r.0, r.1)) (all_made ts env (n + 1) (k + 1) ws c))))) e

  module _ (o : Operation) (is : made_as b ts env w ≡ Some o) where
    first : trailing os (all_made ts env n k (w ∷ ws) b) ≡ trailing os (given (bound same_value k (Result n 0) b) (λ c. option_map (λ (r : List Operation × BoundValues Value). (o ∷ r.0, r.1)) (all_made ts env (n + 1) (k + 1) ws c)))
    first = ap (λ r. trailing os (given r (λ o. given (bound same_value k (Result n 0) b) (λ c. option_map (λ (r : List Operation × BoundValues Value). (o ∷ r.0, r.1)) (all_made ts env (n + 1) (k + 1) ws c))))) is

    pub unbound_made : bound same_value k (Result n 0) b ≡ None → trailing os (all_made ts env n k (w ∷ ws) b) ≡ None
    unbound_made e = first ∙ ap (λ r. trailing os (given r (λ c. option_map (λ (r : List Operation × BoundValues Value). (o ∷ r.0, r.1)) (all_made ts env (n + 1) (k + 1) ws c)))) e

    pub more_made : (c : BoundValues Value) → bound same_value k (Result n 0) b ≡ Some c → trailing (os ++ o ∷ []) (all_made ts env (n + 1) (k + 1) ws c) ≡ trailing os (all_made ts env n k (w ∷ ws) b)
    more_made c e =
        go (all_made ts env (n + 1) (k + 1) ws c)
        ∙ sym (first ∙ ap (λ r. trailing os (given r (λ c. option_map (λ (r : List Operation × BoundValues Value). (o ∷ r.0, r.1)) (all_made ts env (n + 1) (k + 1) ws c)))) e)
      where
        go : (r : Option (List Operation × BoundValues Value)) → trailing (os ++ o ∷ []) r ≡ trailing os (option_map (λ (r : List Operation × BoundValues Value). (o ∷ r.0, r.1)) r)
        go None = refl
        go (Some r) = ap (λ z. Some (z, r.1)) (append_assoc os (o ∷ []) r.0)

pub nothing_after : (r : Option (List Operation × BoundValues Value)) → trailing [] r ≡ r
nothing_after None = refl
nothing_after (Some r) = refl

-- operands at places, one after another
module _ (vs : List Operand) (k : ℕ) (ks : List ℕ) (os : List (Option Operand)) where
  pub no_operand : binding_at k os ≡ None → with_more vs (operands_at (k ∷ ks) os) ≡ None
  no_operand e = ap (λ s. with_more vs (given s (λ v. and_more v (operands_at ks os)))) e

  pub more_operands : (v : Operand) → binding_at k os ≡ Some v → with_more (vs ++ v ∷ []) (operands_at ks os) ≡ with_more vs (operands_at (k ∷ ks) os)
  more_operands v e = go (operands_at ks os) ∙ sym (ap (λ s. with_more vs (given s (λ v. and_more v (operands_at ks os)))) e)
    where
      go : (r : Option (List Operand)) → with_more (vs ++ v ∷ []) r ≡ with_more vs (and_more v r)
      go None = refl
      go (Some ws) = ap Some (append_assoc vs (v ∷ []) ws)

pub nothing_more : {X : Type 0} (r : Option (List X)) → with_more [] r ≡ r
nothing_more None = refl
nothing_more (Some vs) = refl

-- ---- their values, with the next free id n

module _ (n : ℕ) where
  pub as_values : (vs : BoundValues Value) → operands_in n (as_operands vs) ≡ vs
  as_values [] = refl
  as_values (None ∷ vs) = ap (λ z. None ∷ z) (as_values vs)
  as_values (Some v ∷ vs) = ap (λ z. Some v ∷ z) (as_values vs)

  pub value_standing : (k : ℕ) (os : List (Option Operand)) → option_map (operand_in n) (binding_at k os) ≡ binding_at k (operands_in n os)
  value_standing k os = go (slice_get os k) ∙ sym (ap (λ s. given s (λ x. x)) (slice_get-map (option_map (operand_in n)) os k))
    where
      go : (s : Option (Option Operand)) → option_map (operand_in n) (given s (λ x. x)) ≡ given (option_map (option_map (operand_in n)) s) (λ x. x)
      go None = refl
      go (Some o) = refl

  pub values_standing : (ks : List ℕ) (os : List (Option Operand)) → option_map (map (operand_in n)) (operands_at ks os) ≡ values_at ks (operands_in n os)
  values_standing [] os = refl
  values_standing (k ∷ ks) os = one (binding_at k os) (operands_at ks os) ∙ (λ i. given (value_standing k os i) (λ v. and_more v (values_standing ks os i)))
    where
      both : (o : Operand) (r : Option (List Operand)) → option_map (map (operand_in n)) (and_more o r) ≡ and_more (operand_in n o) (option_map (map (operand_in n)) r)
      both o None = refl
      both o (Some os) = refl

      one : (s : Option Operand) (r : Option (List Operand)) → option_map (map (operand_in n)) (given s (λ o. and_more o r)) ≡ given (option_map (operand_in n) s) (λ v. and_more v (option_map (map (operand_in n)) r))
      one None r = refl
      one (Some o) r = both o r

-- ---- a new operation

module _ (c : ContextModel) (n : ℕ) (ts : List (Option BoundType)) (env : List Outcome) (os : List (Option Operand)) where
  abbrev b : BoundValues Value
  b = operands_in n os

  pub made_not : (p : PatternOp) → None ≡ operands_at (operands_of p.form) os → None ≡ made_as (operands_in n os) (types_in c ts) env (new.Operation p)
  made_not p e = sym (ap (λ r. given r (λ vs. given (binding_at p.ty (types_in c ts)) (λ term. Some (made (name_of p.form) vs term (entries_by (predicate_of p.form) (name_of p.form)))))) (sym (values_standing n (operands_of p.form) os) ∙ ap (option_map (map (operand_in n))) (sym e)))

  pub made_untyped : (p : PatternOp) (vs : List Operand) → Some vs ≡ operands_at (operands_of p.form) os → None ≡ binding_at p.ty (types_in c ts) → None ≡ made_as (operands_in n os) (types_in c ts) env (new.Operation p)
  made_untyped p vs e f =
      sym (ap (λ r. given r (λ vs. given (binding_at p.ty (types_in c ts)) (λ term. Some (made (name_of p.form) vs term (entries_by (predicate_of p.form) (name_of p.form)))))) (sym (values_standing n (operands_of p.form) os) ∙ ap (option_map (map (operand_in n))) (sym e))
      ∙ ap (λ r. given r (λ term. Some (made (name_of p.form) (map (operand_in n) vs) term (entries_by (predicate_of p.form) (name_of p.form))))) (sym f))

  -- the properties of an operation of a form
  entries_are : (form : Expression) (word : Word) → word_bytes word ≡ name_of form → (m : NewOp) → m.word ≡ word → entries_in c m (property_for form) ≡ entries_by (predicate_of form) (name_of form)
  entries_are (form.Binary o i j) word e m is = ap (λ w. flags (word_bytes w)) is ∙ ap flags e
  entries_are (form.Compare p i j) word e m is = refl
  entries_are (form.Select x i j) word e m is = ap (λ w. flags (word_bytes w)) is ∙ ap flags e
  entries_are (form.IntegerCast x i) word e m is = ap (λ w. flags (word_bytes w)) is ∙ ap flags e
  entries_are (form.IndexCast x i) word e m is = ap (λ w. flags (word_bytes w)) is ∙ ap flags e

  pub made_is : (p : PatternOp) (m : NewOp) → Some m.operands.items ≡ operands_at (operands_of p.form) os → Some (type_in c m.ty) ≡ binding_at p.ty (types_in c ts) → word_bytes m.word ≡ name_of p.form → m.property ≡ property_for p.form
      → Some (made_in c n m) ≡ made_as (operands_in n os) (types_in c ts) env (new.Operation p)
  made_is p m e f name property =
      (λ i. Some (made (name i) (map (operand_in n) m.operands.items) (type_in c m.ty) ((ap (entries_in c m) property ∙ entries_are p.form m.word name m refl) i)))
      ∙ sym (ap (λ r. given r (λ vs. given (binding_at p.ty (types_in c ts)) (λ term. Some (made (name_of p.form) vs term (entries_by (predicate_of p.form) (name_of p.form)))))) (sym (values_standing n (operands_of p.form) os) ∙ ap (option_map (map (operand_in n))) (sym e))
      ∙ ap (λ r. given r (λ term. Some (made (name_of p.form) (map (operand_in n) m.operands.items) term (entries_by (predicate_of p.form) (name_of p.form))))) (sym f))

  pub constant_untyped : (k t : ℕ) → None ≡ binding_at t (types_in c ts) → None ≡ made_as (operands_in n os) (types_in c ts) env (new.Constant k t)
  constant_untyped k t e = go (given (slice_get env k) (λ x. x)) ∙ ap (λ r. given (given (slice_get env k) (λ x. x)) (λ (x : Known). given r (λ term. Some (constant term x.1)))) e
    where
      go : (r : Option Known) → None ≡ given r (λ (x : Known). given None (λ term. Some (constant term x.1)))
      go None = refl
      go (Some x) = refl

-- ---- in sequence

pub from_item : {X : Type 0} (xs : List X) (x d : X) → 1 ≤ length xs → x ≡ slice_index_or xs 0 d → xs ≡ x ∷ take (length xs - 1) (drop 1 xs)
from_item [] x d l e = absurd (omega (arith, l))
from_item (y ∷ ys) x d l e = λ i. sym e i ∷ sym (take_all (length (y ∷ ys) - 1) ys (omega arith)) i

pub names_left : (ws : List NewValue) → 1 ≤ length ws → list_all is_named ws ≡ true → list_all is_named (take (length ws - 1) (drop 1 ws)) ≡ true
names_left [] l e = absurd (omega (arith, l))
names_left (w ∷ ws) l e = ap (list_all is_named) (take_all (length (w ∷ ws) - 1) ws (omega arith)) ∙ (both (is_named w) (list_all is_named ws) e).1

module _ (c : ContextModel) (n : ℕ) (ts : BoundValues TypeTerm) (env : List Outcome) (k : ℕ) where
  pushed : (ws : List NewValue) (made : List NewOp) (one : NewOp) (os : List (Option Operand)) → made_after c n ts env k ws (made ++ one ∷ []) os ≡ trailing (map (made_in c n) made ++ made_in c n one ∷ []) (all_made ts env (n + length made + 1) k ws (operands_in n os))
  pushed ws made one os =
      let e : n + length (made ++ one ∷ []) ≡ n + length made + 1 = omega (arith, length_push made one) in
      λ i. trailing (map-append (made_in c n) made (one ∷ []) i) (all_made ts env (e i) k ws (operands_in n os))

module _ (c : ContextModel) (n : ℕ) (ts : BoundValues TypeTerm) (env : List Outcome) (k : ℕ) where
  pub made_next : (w : NewValue) (ws : List NewValue) (made after : List NewOp) (os bs : List (Option Operand)) (one : NewOp) → made_as (operands_in n os) ts env w ≡ Some (made_in c n one) → after ≡ made ++ one ∷ []
      → (len : ℕ) → len ≡ length made → (b : Bool) → Stands (bound same_value k (Result (n + len) 0) (operands_in n os)) (operands_in n bs) b → b ≡ true
      → made_after c n ts env (k + 1) ws after bs ≡ made_after c n ts env k (w ∷ ws) made os
  made_next w ws made after os bs one is push len count b stands done =
      let at : bound same_value k (Result (n + length made) 0) (operands_in n os) ≡ Some (operands_in n bs) =
      ap (λ j. bound same_value k (Result (n + j) 0) (operands_in n os)) (sym count) ∙ stands_yes (bound same_value k (Result (n + len) 0) (operands_in n os)) (operands_in n bs) b stands done in
      ap (λ z. made_after c n ts env (k + 1) ws z bs) push ∙ pushed c n ts env (k + 1) ws made one bs
      ∙ more_made ts env (map (made_in c n) made) (n + length made) k w ws (operands_in n os) (made_in c n one) is (operands_in n bs) at

  module _ (ws : List NewValue) (w d : NewValue) (made after : List NewOp) (os bs : List (Option Operand)) (some : 1 ≤ length ws) (first : w ≡ slice_index_or ws 0 d) (done : Bool)
      (step : (rest : List NewValue) → IsMadeNext done (made_after c n ts env k (w ∷ rest) made os) (made_after c n ts env (k + 1) rest after bs)) where
    abbrev rest : List NewValue
    rest = take (length ws - 1) (drop 1 ws)

    split : made_after c n ts env k ws made os ≡ made_after c n ts env k (w ∷ take (length ws - 1) (drop 1 ws)) made os
    split = ap (λ z. made_after c n ts env k z made os) (from_item ws w d some first)

    pub stops : done ≡ false → made_after c n ts env k ws made os ≡ None
    stops e = split ∙ subst (λ z. IsMadeNext z (made_after c n ts env k (w ∷ rest) made os) (made_after c n ts env (k + 1) rest after bs)) e (step rest)

    pub goes_on : done ≡ true → made_after c n ts env (k + 1) (take (length ws - 1) (drop 1 ws)) after bs ≡ made_after c n ts env k ws made os
    goes_on e = subst (λ z. IsMadeNext z (made_after c n ts env k (w ∷ rest) made os) (made_after c n ts env (k + 1) rest after bs)) e (step rest) ∙ sym split
