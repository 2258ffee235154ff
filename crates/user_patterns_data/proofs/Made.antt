-- The new operations are made for any ids.
use Rattle.std.proofs.Common.{◌≡◌, ℕ, ◌+◌, ◌<◌, refl, ap, sym, ◌∙◌, subst, List, [], ◌∷◌, Bool, true, false, true≢false, Option, Some, None, slice_get, slice_set, inl, inr, arith}
use Rattle.std.specs.Prelude.{is_some, option_map}
use Rattle.std.proofs.lemmas.Bool.{cases_eq}
use Rattle.std.proofs.lemmas.Option.{none-some, same_Some}
use Rattle.ir_types.specs.Terms.{TypeTerm}
use Rattle.ir_tree.specs.declared.value.Value.{Value}
use Rattle.ir_tree.specs.declared.value.Value.TheVariants.{Result}
use Rattle.ir_tree.specs.Uses.{same_value}
use Rattle.ir_tree.specs.Meaning.{Operation}
use Rattle.patterns_laws.specs.Made.{constant, made}
use Rattle.user_patterns_check.specs.Outcomes.{Outcome, given}
use Rattle.user_patterns_data.specs.declared.pattern.NewValue.{NewValue}
use Rattle.user_patterns_data.specs.declared.pattern.NewValue.TheVariants as new
use Rattle.user_patterns_data.specs.Matching.{BoundValues, bound, bound_over, binding_at, when}
use Rattle.user_patterns_data.specs.Names.{name_of, operands_of, predicate_of}
use Rattle.user_patterns_data.specs.Planning.{all_made, and_more, entries_by, made_as, values_at}
use Rattle.user_patterns_data.proofs.ShallowStanding.{Stands, one_stands, other_set, same_set, standing_stands, stands_standing}

-- both options have a value, or neither does
abbrev pub Both : {X Y : Type 0} → Option X → Option Y → Type 0
Both a b = is_some a ≡ is_some b

pub given_both : {X Y Z W : Type 0} (a : Option X) (b : Option Y) (f : X → Option Z) (g : Y → Option W) → Both a b → ((x : X) (y : Y) → a ≡ Some x → b ≡ Some y → Both (f x) (g y)) → Both (given a f) (given b g)
given_both None None f g e h = refl
given_both None (Some y) f g e h = absurd (true≢false (sym e))
given_both (Some x) None f g e h = absurd (true≢false e)
given_both (Some x) (Some y) f g e h = h x y refl refl

pub when_both : {X Y : Type 0} (a b : Bool) (r : Option X) (s : Option Y) → a ≡ b → Both r s → Both (when a r) (when b s)
when_both a b r s e h = ap (λ z. is_some (when z r)) e ∙ by b
  where
    by : (d : Bool) → is_some (when d r) ≡ is_some (when d s)
    by true = h
    by false = refl

-- the same places are bound
pub record Alike (b c : BoundValues Value) : Type 0 where
  pub places : (k : ℕ) → option_map is_some (slice_get b k) ≡ option_map is_some (slice_get c k)

standing_alike : (b c : BoundValues Value) → Alike b c → (k : ℕ) → Both (binding_at k b) (binding_at k c)
standing_alike b c a k = go (slice_get b k) (slice_get c k) (a.places k)
  where
    go : (p q : Option (Option Value)) → option_map is_some p ≡ option_map is_some q → Both (given p (λ x. x)) (given q (λ x. x))
    go None None e = refl
    go None (Some q) e = absurd (none-some (is_some q) e)
    go (Some p) None e = absurd (none-some (is_some p) (sym e))
    go (Some p) (Some q) e = same_Some _ _ e

values_alike : (ks : List ℕ) (b c : BoundValues Value) → Alike b c → Both (values_at ks b) (values_at ks c)
values_alike [] b c a = refl
values_alike (k ∷ ks) b c a =
    given_both (binding_at k b) (binding_at k c) (λ v. and_more v (values_at ks b)) (λ v. and_more v (values_at ks c)) (standing_alike b c a k)
    (λ v w e f. more v w (values_at ks b) (values_at ks c) (values_alike ks b c a))
  where
    more : (v w : Value) (r s : Option (List Value)) → Both r s → Both (and_more v r) (and_more w s)
    more v w None None e = refl
    more v w None (Some s) e = absurd (true≢false (sym e))
    more v w (Some r) None e = absurd (true≢false e)
    more v w (Some r) (Some s) e = refl

made_alike : (b c : BoundValues Value) (ts : BoundValues TypeTerm) (env : List Outcome) → Alike b c → (w : NewValue) → Both (made_as b ts env w) (made_as c ts env w)
made_alike b c ts env a (new.Operation p) =
    given_both (values_at (operands_of p.form) b) (values_at (operands_of p.form) c) _ _ (values_alike (operands_of p.form) b c a) (λ vs us e f. typed (binding_at p.ty ts) vs us)
  where
    typed : (o : Option TypeTerm) (vs us : List Value) → Both (given o (λ term. Some (made (name_of p.form) vs term (entries_by (predicate_of p.form) (name_of p.form))))) (given o (λ term. Some (made (name_of p.form) us term (entries_by (predicate_of p.form) (name_of p.form)))))
    typed None vs us = refl
    typed (Some term) vs us = refl
made_alike b c ts env a (new.Constant k t) = refl

-- a place that is unbound in both is bound in both
set_alike : (b c : BoundValues Value) (k : ℕ) (v w : Value) → slice_get b k ≡ Some None → slice_get c k ≡ Some None → Alike b c → Alike (slice_set b k (Some v)) (slice_set c k (Some w))
set_alike b c k v w e f a = record {
  places = λ j. elim (cases_eq j k) [
    | inl h ↦
        ap (λ i. option_map is_some (slice_get (slice_set b k (Some v)) i)) h ∙ ap (option_map is_some) (same_set b k (Some v) None e)
        ∙ sym (ap (option_map is_some) (same_set c k (Some w) None f)) ∙ sym (ap (λ i. option_map is_some (slice_get (slice_set c k (Some w)) i)) h)
    | inr n ↦ ap (option_map is_some) (other_set b k j (Some v) n) ∙ a.places j ∙ sym (ap (option_map is_some) (other_set c k j (Some w) n))
  ];
}

-- no place from k on is bound
abbrev pub Free : ℕ → BoundValues Value → Type 0
Free k b = (j : ℕ) (v : Value) → Stands j v b → j < k

set_free : (b : BoundValues Value) (k : ℕ) (v : Value) → slice_get b k ≡ Some None → Free k b → Free (k + 1) (slice_set b k (Some v))
set_free b k v e f j w s = elim (cases_eq j k) [
  | inl h ↦ omega (arith, h)
  | inr n ↦ (let l = f j w (sym (other_set b k j (Some v) n) ∙ s) in omega (arith, l))
]

-- both make all operations and bind the same places, or both fail
abbrev pub MadeAlike : Option (List Operation × BoundValues Value) → Option (List Operation × BoundValues Value) → Type 0
MadeAlike None None = Unit {0}
MadeAlike None (Some s) = ⊥
MadeAlike (Some r) None = ⊥
MadeAlike (Some r) (Some s) = Alike r.1 s.1

-- the next operation is made, for all bindings of the same places
abbrev More : BoundValues TypeTerm → List Outcome → List NewValue → ℕ → ℕ → ℕ → Type 0
More ts env ws n m k = (d e : BoundValues Value) → Alike d e → Free (k + 1) d → Free (k + 1) e → MadeAlike (all_made ts env (n + 1) (k + 1) ws d) (all_made ts env (m + 1) (k + 1) ws e)

pub all_alike : (ts : BoundValues TypeTerm) (env : List Outcome) (ws : List NewValue) (n m k : ℕ) (b c : BoundValues Value) → Alike b c → Free k b → Free k c → MadeAlike (all_made ts env n k ws b) (all_made ts env m k ws c)
all_alike ts env [] n m k b c a f g = a
all_alike ts env (w ∷ ws) n m k b c a f g = go (λ d e. all_alike ts env ws (n + 1) (m + 1) (k + 1) d e) (made_as b ts env w) (made_as c ts env w) (made_alike b c ts env a w)
  where
    more : (o q : Operation) (r s : Option (List Operation × BoundValues Value)) → MadeAlike r s
        → MadeAlike (option_map (λ (r : List Operation × BoundValues Value). (o ∷ r.0, r.1)) r) (option_map (λ (r : List Operation × BoundValues Value). (q ∷ r.0, r.1)) s)
    more o q None None e = tt
    more o q None (Some s) e = absurd e
    more o q (Some r) None e = absurd e
    more o q (Some r) (Some s) e = e

    binds : More ts env ws n m k → (o q : Operation) (i j : Option (Option Value)) → slice_get b k ≡ i → slice_get c k ≡ j → option_map is_some i ≡ option_map is_some j
        → MadeAlike (given (bound_over same_value i k (Result n 0) b) (λ c. option_map (λ (r : List Operation × BoundValues Value). (o ∷ r.0, r.1)) (all_made ts env (n + 1) (k + 1) ws c)))
        (given (bound_over same_value j k (Result m 0) c) (λ c. option_map (λ (r : List Operation × BoundValues Value). (q ∷ r.0, r.1)) (all_made ts env (m + 1) (k + 1) ws c)))
    binds ih o q None None e h l = tt
    binds ih o q None (Some j) e h l = absurd (none-some (is_some j) l)
    binds ih o q (Some i) None e h l = absurd (none-some (is_some i) (sym l))
    binds ih o q (Some None) (Some None) e h l =
        more o q _ _ (ih (slice_set b k (Some (Result n 0))) (slice_set c k (Some (Result m 0))) (set_alike b c k (Result n 0) (Result m 0) e h a) (set_free b k (Result n 0) e f) (set_free c k (Result m 0) h g))
    binds ih o q (Some None) (Some (Some v)) e h l = absurd (true≢false (sym (same_Some _ _ l)))
    binds ih o q (Some (Some v)) j e h l = absurd (let i = f k v e in omega (arith, i))

    go : More ts env ws n m k → (o q : Option Operation) → Both o q
        → MadeAlike (given o (λ o. given (bound same_value k (Result n 0) b) (λ c. option_map (λ (r : List Operation × BoundValues Value). (o ∷ r.0, r.1)) (all_made ts env (n + 1) (k + 1) ws c))))
        (given q (λ o. given (bound same_value k (Result m 0) c) (λ c. option_map (λ (r : List Operation × BoundValues Value). (o ∷ r.0, r.1)) (all_made ts env (m + 1) (k + 1) ws c))))
    go ih None None e = tt
    go ih None (Some q) e = absurd (true≢false (sym e))
    go ih (Some o) None e = absurd (true≢false e)
    go ih (Some o) (Some q) e = binds ih o q (slice_get b k) (slice_get c k) refl refl (a.places k)

abbrev Plan : Type 0
Plan = List Operation × Value

abbrev whole : List Operation → Value → Option Plan
whole os v = Some (os, v)

pub result_alike : (k : ℕ) (r s : Option (List Operation × BoundValues Value)) → MadeAlike r s
    → Both {X = Plan} {Y = Plan} (given r (λ (r : List Operation × BoundValues Value). given (binding_at k r.1) (whole r.0))) (given s (λ (r : List Operation × BoundValues Value). given (binding_at k r.1) (whole r.0)))
result_alike k None None e = refl
result_alike k None (Some s) e = absurd e
result_alike k (Some r) None e = absurd e
result_alike k (Some r) (Some s) e = given_both (binding_at k r.1) (binding_at k s.1) (whole r.0) (whole s.0) (standing_alike r.1 s.1 e k) (λ v w i j. refl)
