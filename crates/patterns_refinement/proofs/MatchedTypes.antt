-- The types that a match binds.
use Rattle.std.proofs.Common.{◌≡◌, ℕ, suc, ◌<◌, ap, sym, ◌∙◌, List, [], ◌∷◌, length, map, true, true≢false, eqb, eqb-true, Some, slice_get, inl, inr}
use Rattle.std.specs.Prelude.{option_map}
use Rattle.std.specs.List.{list_any}
use Rattle.std.proofs.lemmas.Bool.{or_cases}
use Rattle.std.proofs.lemmas.Option.{get_or_from_slice_get, slice_get-get_or, slice_get-map}
use Rattle.ir_types.specs.declared.bits.BitsKind.{BitsKind}
use Rattle.ir_types.specs.declared.bits.BitsKind.TheVariants as kind
use Rattle.ir_types.specs.Bits.{type_of}
use Rattle.ir_types.proofs.SameTerms.{type_is}
use Rattle.ir_tree.specs.declared.value.Value.{Value}
use Rattle.ir_tree.specs.Meaning.{Operation}
use Rattle.ir_event.specs.Modules.{Module}
use Rattle.patterns_laws.proofs.KnownFolds.{given_some, kind_back}
use Rattle.patterns_base.specs.Looks.{is_verified}
use Rattle.user_patterns_data.specs.declared.pattern.PatternType.{PatternType}
use Rattle.user_patterns_data.specs.declared.pattern.PatternType.TheVariants as sort
use Rattle.user_patterns_data.specs.declared.pattern.PatternOp.{PatternOp}
use Rattle.user_patterns_data.specs.Fitting.{kind_at}
use Rattle.user_patterns_data.specs.Matching.{types_at, written}
use Rattle.user_patterns_data.specs.Planning.{bound_type, old_place, planned}
use Rattle.user_patterns_data.specs.Shapes.{PatternModel}
use Rattle.user_patterns_build.specs.Unified as united
use Rattle.user_patterns_apply.proofs.FoundBuilt.{types_keep}
use Rattle.patterns_refinement.specs.Applied.{IsProper}
use Rattle.patterns_refinement.specs.Keeping.{IsReady}
use Rattle.patterns_refinement.proofs.Forms.{kind_is}
use Rattle.patterns_refinement.proofs.BoundValues.{Stands}
use Rattle.patterns_refinement.proofs.PassingMatched.{Here}

pub any_at : (t : ℕ) (xs : List ℕ) → list_any (eqb t) xs ≡ true → (i : ℕ) × (slice_get xs i ≡ Some t)
any_at t [] e = absurd (true≢false (sym e))
any_at t (x ∷ xs) e = elim (or_cases (eqb t x) (list_any (eqb t) xs) e) [
  | inl i ↦ (0, ap (λ z. Some z) (sym (eqb-true t x i)))
  | inr i ↦ let r = any_at t xs i in (suc r.0, r.1)
]

pub mapped_at : (f : PatternType → BitsKind) (ks : List PatternType) (t : ℕ) → t < length ks → kind_at (map f ks) t ≡ f (united.kind_in ks t)
mapped_at f ks t l =
    let at = slice_get-get_or ks t (sort.Concrete kind.Index) l in
    get_or_from_slice_get (map f ks) t (f (united.kind_in ks t)) (kind.Int 0) (slice_get-map f ks t ∙ ap (option_map f) at)

module _ (p : PatternModel) (m : Module) (x : ℕ) (proper : IsProper p) (ready : IsReady m) (os : List Operation) (value : Value) (plan : planned m.tree (is_verified m.tree) m.next p x ≡ Some (os, value))
    (q : Here m p x proper ready os value plan) where
  abbrev ks : List BitsKind
  ks = map bound_type q.types

  -- concrete types are bound
  written_stands : (t : ℕ) (k : BitsKind) → t < length p.value_types → united.kind_in p.value_types t ≡ sort.Concrete k → Stands t (type_of k) q.types
  written_stands t k l e =
      let g = given_some (types_at m.tree (is_verified m.tree) 0 p.values q.here (map written p.value_types)) (types_at m.tree (is_verified m.tree) (old_place p) (map PatternOp.ty p.old) q.here) q.types q.are_types in
      let at : slice_get p.value_types t ≡ Some (sort.Concrete k) = slice_get-get_or p.value_types t (sort.Concrete kind.Index) l ∙ ap (λ z. Some z) e in
      types_keep type_is m.tree (is_verified m.tree) (old_place p) (map PatternOp.ty p.old) q.here g.0 q.types g.2 t (type_of k)
      (types_keep type_is m.tree (is_verified m.tree) 0 p.values q.here (map written p.value_types) g.0 g.1 t (type_of k) (slice_get-map written p.value_types t ∙ ap (option_map written) at))

  pub written_is : (t : ℕ) (k : BitsKind) → t < length p.value_types → united.kind_in p.value_types t ≡ sort.Concrete k → kind_at (map bound_type q.types) t ≡ k
  written_is t k l e = kind_is q.types t (type_of k) k (written_stands t k l e) (kind_back k)
