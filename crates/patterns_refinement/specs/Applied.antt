-- If a pattern refines at the widths of the types at hand, its new operations are defined and its result refines the
-- root's result.
use Rattle.std.specs.Prelude.{◌≡◌, ◌<◌, ℕ, length, List, [], ◌∷◌, ◌++◌, map, Bool, true, ◌&&◌, Option, Some, is_some}
use Rattle.std.specs.List.{list_all}
use Rattle.ir_types.specs.Terms.{TypeTerm}
use Rattle.ir_types.specs.declared.bits.BitsKind.{BitsKind}
use Rattle.ir_tree.specs.declared.value.Value.{Value}
use Rattle.ir_tree.specs.declared.value.Value.TheVariants.{Result}
use Rattle.ir_tree.specs.Uses.{same_value}
use Rattle.ir_tree.specs.Meaning.{Operation}
use Rattle.ir_types.specs.declared.bits.BitsKind.TheVariants as kind
use Rattle.dialects_int.specs.Folds.{kind_of, same_kind}
use Rattle.user_patterns_check.specs.declared.verdict.Verdict.TheVariants as verdict
use Rattle.user_patterns_check.specs.Checks.{AlwaysKeeps, refines}
use Rattle.user_patterns_check.specs.Families.{AreWidths, IsVerdict}
use Rattle.user_patterns_check.specs.Outcomes.{given}
use Rattle.user_patterns_data.specs.declared.pattern.Expression.{Expression}
use Rattle.user_patterns_data.specs.declared.pattern.Expression.TheVariants as form
use Rattle.user_patterns_data.specs.declared.pattern.PatternOp.{PatternOp}
use Rattle.user_patterns_data.specs.declared.pattern.ExtraConstant.{ExtraConstant}
use Rattle.user_patterns_data.specs.declared.pattern.ExtraConstant.TheVariants as extra
use Rattle.user_patterns_data.specs.declared.pattern.ConstantExpression.{ConstantExpression}
use Rattle.user_patterns_data.specs.declared.pattern.ConstantExpression.TheVariants as number
use Rattle.user_patterns_data.specs.declared.pattern.NewValue.{NewValue}
use Rattle.user_patterns_data.specs.declared.pattern.NewValue.TheVariants as new
use Rattle.user_patterns_data.specs.Fitting.{content_at, content_with, kind_at}
use Rattle.user_patterns_data.specs.Matching.{Header, BoundValues, bound, defining_op_head, nothing, ops_match, placed, binding_at}
use Rattle.user_patterns_data.specs.Planning.{bound_type, old_place, places, planned, typed}
use Rattle.user_patterns_data.specs.Shapes.{PatternModel}
use Rattle.user_patterns_data.specs.WellFormed.{is_well_formed}
use Rattle.user_patterns_build.specs.CanBuild.{has_name, can_build, new_type}
use Rattle.patterns_refinement.specs.Meaning.{Assignment, AreOfTypes, Each, FitsAll, FitsEach, TypedEach, has_flags, owner}

-- the values that a match at operation x binds
abbrev pub matched : Operation → (Header → Bool) → PatternModel → ℕ → Option (BoundValues Value)
matched t verified p x =
    given (bound same_value p.root (Result x 0) (nothing (places p))) (λ b. ops_match t verified (placed (old_place p) p.old) b)

-- each matched operation has a name: no index cast truncates
abbrev pub all_named : PatternModel → Bool
all_named p = list_all (λ (o : PatternOp). has_name o.form) p.old

-- the kinds of the extra constants and of the computed numbers, by the kinds of the places before them
abbrev pub extra_kind : List BitsKind → List BitsKind → ExtraConstant → BitsKind
extra_kind ks es (extra.Literal l) = kind_at ks l.ty
extra_kind ks es (extra.SameAs i) = kind_at es i

abbrev pub number_kind : List BitsKind → List BitsKind → ConstantExpression → BitsKind
number_kind ks es (number.Literal l) = kind_at ks l.ty
number_kind ks es (number.Width t) = kind_at ks t
number_kind ks es (number.Binary o i j) = kind_at es i
number_kind ks es (number.Compare q i j) = kind.Int 1
number_kind ks es (number.Log2 i) = kind_at es i
number_kind ks es (number.Require i) = kind_at es i

abbrev pub kinds_after : {X : Type 0} → (List BitsKind → X → BitsKind) → List X → List BitsKind → List BitsKind
kinds_after f [] es = es
kinds_after f (x ∷ xs) es = kinds_after f xs (es ++ (f es x ∷ []))

abbrev pub kinds_given : List BitsKind → PatternModel → List BitsKind
kinds_given ks p = kinds_after (number_kind ks) p.given (kinds_after (extra_kind ks) p.extra (map (kind_at ks) p.values))

-- the kinds of the matched operations, and of the new values
abbrev pub pattern_op_kind : List BitsKind → List BitsKind → PatternOp → BitsKind
pattern_op_kind ks es o = kind_at ks o.ty

abbrev pub kinds_matched : List BitsKind → PatternModel → List BitsKind
kinds_matched ks p = kinds_after (pattern_op_kind ks) p.old (kinds_given ks p)

-- the operation's result has the kind of its type: operands of arithmetic and of `select` have it, and a comparison
-- gives i1
abbrev pub form_fits : List BitsKind → BitsKind → Expression → Bool
form_fits es k (form.Binary o i j) = same_kind (kind_at es i) k
form_fits es k (form.Compare q i j) = same_kind (kind.Int 1) k
form_fits es k (form.Select c i j) = same_kind (kind_at es i) k && same_kind (kind_at es j) k
form_fits es k (form.IntegerCast c i) = true
form_fits es k (form.IndexCast c i) = true

-- the number of a constant has the kind of the constant's type
abbrev pub new_fits : List BitsKind → List BitsKind → NewValue → Bool
new_fits ks es (new.Operation o) = form_fits es (kind_at ks o.ty) o.form
new_fits ks es (new.Constant i t) = same_kind (kind_at es i) (kind_at ks t)

abbrev pub news_fit : List BitsKind → List BitsKind → List NewValue → Bool
news_fit ks es [] = true
news_fit ks es (w ∷ ws) = new_fits ks es w && news_fit ks (es ++ (kind_at ks (new_type w) ∷ [])) ws

-- all new values have their types, if the types have these kinds
abbrev pub is_typed : List BitsKind → PatternModel → Bool
is_typed ks p = news_fit ks (kinds_matched ks p) p.new

-- each bound type has a kind
abbrev pub AreOfKinds : BoundValues TypeTerm → Type 0
AreOfKinds ts = (i : ℕ) (ty : TypeTerm) → binding_at i ts ≡ Some ty → is_some (kind_of ty) ≡ true

-- The outcomes of the pattern's variables are known. A check tests known values only, and a pattern that it accepts
-- may be wrong for poison. An example adds b - b to the result of a `select` that didn't select b: if b is poison,
-- the sum is poison, and the `select` wasn't.
abbrev pub VariablesKnown : PatternModel → BoundValues Value → Assignment → Type 0
VariablesKnown p b a = (i : ℕ) (v : Value) → i < length p.values → binding_at i b ≡ Some v → is_some (a v) ≡ true

-- the verified operations that define bound values are executed
abbrev pub AreDone : Operation → (Header → Bool) → (ℕ → Bool) → BoundValues Value → Type 0
AreDone t verified done b = (i : ℕ) (v : Value) (h : Header) → binding_at i b ≡ Some v → defining_op_head t verified v ≡ Some h → done (owner v) ≡ true

-- those of them that have flags don't break their flags: their results aren't poison
abbrev pub AreUnbroken : Operation → (Header → Bool) → Assignment → BoundValues Value → Type 0
AreUnbroken t verified a b =
    (i : ℕ) (v : Value) (h : Header) → binding_at i b ≡ Some v → defining_op_head t verified v ≡ Some h → has_flags h ≡ true → is_some (a v) ≡ true

-- the ids of a tree's operations are below n
abbrev pub IsBelow : ℕ → Operation → Type 0
IsBelow n t = Each (λ h. h.id < n) t

-- two assignments agree at the values of operations with ids below n
abbrev pub Agree : ℕ → Assignment → Assignment → Type 0
Agree n a c = (v : Value) → owner v < n → c v ≡ a v

module _ (t : Operation) (verified : Header → Bool) (n : ℕ) (p : PatternModel) (x : ℕ) (a : Assignment) (done : ℕ → Bool) where
  -- the pattern matches at operation x among executed operations, its variables are known, no flags are broken, and
  -- all types have kinds
  pub record IsFound : Type 0 where
    pub here : BoundValues Value
    pub is_matched : matched t verified p x ≡ Some here
    pub types : BoundValues TypeTerm
    pub are_types : typed t verified n p here ≡ Some types
    pub of_kinds : AreOfKinds types
    pub are_done : AreDone t verified done here
    pub are_unbroken : AreUnbroken t verified a here
    pub variables : VariablesKnown p here a

  -- the kinds of the types of the match
  abbrev pub kinds_found : IsFound → List BitsKind
  kinds_found f = map bound_type f.types

  -- there are outcomes for the new operations that agree with those of the tree: each new operation is defined and of
  -- its type, and the value that replaces the result of x refines it
  pub record Goes (made : List Operation) (v : Value) : Type 0 where
    pub after : Assignment
    pub agrees : Agree n a after
    pub fits : FitsEach after n made
    pub typed : TypedEach after n made
    pub refined : refines (a (Result x 0)) (after v) ≡ true

-- the premises on patterns: well-formed, can be built, and each matched operation has a name
pub record IsProper (p : PatternModel) : Type 0 where
  pub wellformed : is_well_formed p ≡ true
  pub buildable : can_build p ≡ true
  pub named : all_named p ≡ true

-- outcomes of the right types that fit a tree whose ids are below n
pub record Computes (a : Assignment) (done : ℕ → Bool) (n : ℕ) (t : Operation) : Type 0 where
  pub below : IsBelow n t
  pub fits : FitsAll a done t
  pub typed : AreOfTypes a t

-- if a pattern matches and refines at the kinds of the match for all values, there are such outcomes for its new
-- operations
abbrev pub PlansGo : Type 0
PlansGo =
    (t : Operation) (verified : Header → Bool) (n : ℕ) (p : PatternModel) (x : ℕ) (a : Assignment) (done : ℕ → Bool)
    → IsProper p → Computes a done n t → (found : IsFound t verified n p x a done)
    → is_typed (kinds_found t verified n p x a done found) p ≡ true
    → AlwaysKeeps (content_with (kinds_found t verified n p x a done found) p)
    → (made : List Operation) (v : Value) → planned t verified n p x ≡ Some (made, v) → Goes t verified n p x a done made v

-- the same if a check found that the pattern holds up to a width, and the pattern's instance at the kinds of the
-- match is one at tested widths; types that the pattern doesn't use need no tested width, since a type variable may
-- have several numbers and use only one of them
abbrev pub CheckedPlansGo : Type 0
CheckedPlansGo =
    (t : Operation) (verified : Header → Bool) (n : ℕ) (p : PatternModel) (x : ℕ) (a : Assignment) (done : ℕ → Bool)
    → IsProper p → Computes a done n t → (found : IsFound t verified n p x a done)
    → is_typed (kinds_found t verified n p x a done found) p ≡ true
    → (most : ℕ) → IsVerdict (content_at p) p.types most verdict.Holds
    → (ws : List ℕ) → AreWidths p.types most ws → content_with (kinds_found t verified n p x a done found) p ≡ content_at p ws
    → (made : List Operation) (v : Value) → planned t verified n p x ≡ Some (made, v) → Goes t verified n p x a done made v
