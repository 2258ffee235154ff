-- The source of an operation's operand: its defining operation, and the outcome of that operation.
use Rattle.std.proofs.Common.{◌≡◌, ℕ, zero, suc, refl, ap, sym, ◌∙◌, subst, [], ◌∷◌, map, Bool, true, false, true≢false, Option, Some, None, ◌⊎◌, inl, inr, slice_get}
use Rattle.std.specs.Prelude.{is_some, option_and_then, if◌then◌else◌}
use Rattle.std.specs.List.{list_all}
use Rattle.std.proofs.lemmas.Bool.{and_parts}
use Rattle.std.proofs.lemmas.Option.{none-some, same_Some}
use Rattle.std.proofs.NetLemmas.Options.{map_some}
use Rattle.ir_types.specs.declared.bits.BitsKind.{BitsKind}
use Rattle.ir_types.specs.Bits.{width_of}
use Rattle.ir_types.specs.Reasons.{is_width}
use Rattle.ir_types.specs.Terms.{TypeTerm}
use Rattle.ir_tree.specs.declared.value.Value.{Value}
use Rattle.ir_tree.specs.declared.value.Value.TheVariants.{Result, Arg}
use Rattle.ir_tree.specs.Tree.{head}
use Rattle.ir_tree.specs.Ids.{find}
use Rattle.ir_tree.specs.Meaning.{Operation}
use Rattle.ir_tree_laws.specs.Values.{has_value}
use Rattle.ir_event.specs.Modules.{Module}
use Rattle.dialects_int.specs.declared.operations.Cast.{Cast}
use Rattle.dialects_int.specs.declared.operations.Rule.{Rule as How}
use Rattle.dialects_int.specs.Arithmetic.{cast_of}
use Rattle.dialects_int.specs.Folds.{Known, kind_of, rule_of}
use Rattle.patterns_laws.proofs.KnownFolds.{given_some}
use Rattle.user_patterns_check.specs.Outcomes.{Outcome, given, resize_any, resize_outcome}
use Rattle.user_patterns_check.proofs.Keeping.{same_kinds}
use Rattle.patterns_base.specs.Looks.{defining_op, when}
use Rattle.patterns_base.proofs.Facts.{when_some}
use Rattle.user_patterns_data.specs.Matching.{Header}
use Rattle.patterns_refinement.specs.Meaning.{Assignment, makes_by, result_kind}
use Rattle.patterns_refinement.specs.Better.{is_kind, kind_in}
use Rattle.patterns_refinement.proofs.Forms.{makes_is}
use Rattle.patterns_refinement.proofs.Ruled.{OfRule, Site}
use Rattle.patterns_refinement.proofs.Trees.{found_fit}

-- ---- the defining operation of a value
record Inner (m : Module) (v : Value) (h : Header) : Type 0 where
  pub id : ℕ
  pub index : ℕ
  pub here : Operation
  pub value : v ≡ Result id index
  pub found : find id m.tree ≡ Some here
  pub heads : head here ≡ h

inner_of : (m : Module) (v : Value) (h : Header) → defining_op m.tree v ≡ Some h → Inner m v h
inner_of m (Arg y r k) h e = absurd (none-some h e)
inner_of m (Result y k) h e =
    let p : (o : Operation) × (find y m.tree ≡ Some o) × (head o ≡ h) = map_some head (find y m.tree) h e (λ p is same. (p, is, same)) in
    record { id = y; index = k; here = p.0; value = refl; found = p.1; heads = p.2 }

tested : (test : Header → Bool) (o : Option Header) (h : Header) → given o (λ h. when (test h) (Some h)) ≡ Some h → (o ≡ Some h) × (test h ≡ true)
tested test o h e =
    let f = given_some o (λ h. when (test h) (Some h)) h e in
    let w = when_some (test f.0) (Some f.0) h f.2 in
    let same = same_Some _ _ w.1 in
    (f.1 ∙ ap (λ h. Some h) same, ap test (sym same) ∙ w.0)

-- the value is the operation's only result
pub record Sole (m : Module) (test : Header → Bool) (v : Value) (h : Header) : Type 0 where
  pub id : ℕ
  pub here : Operation
  pub value : v ≡ Result id 0
  pub found : find id m.tree ≡ Some here
  pub heads : head here ≡ h
  pub kind : kind_in m.tree v ≡ result_kind (head here)
  pub passed : test h ≡ true

pub sole_of : (m : Module) (test : Header → Bool) (v : Value) (h : Header) → given (defining_op m.tree v) (λ h. when (test h) (Some h)) ≡ Some h → has_value v m.tree ≡ true → (ty : TypeTerm) → h.results ≡ ty ∷ [] → Sole m test v h
sole_of m test v h e there ty results =
    let t = tested test (defining_op m.tree v) h e in
    let i = inner_of m v h t.0 in
    let first : v ≡ Result i.id 0 = i.value ∙ ap (Result i.id) (zero_index i there) in
    record {
      id = i.id;
      here = i.here;
      value = first;
      found = i.found;
      heads = i.heads;
      kind =
          ap (kind_in m.tree) first
          ∙ ap (λ o. given (option_and_then (λ (o : Operation). slice_get (head o).results 0) o) kind_of) i.found;
      passed = t.1;
    }
  where
    only : (k : ℕ) → is_some (slice_get (ty ∷ []) k) ≡ true → k ≡ 0
    only zero s = refl
    only (suc k) s = absurd (true≢false (sym s))

    zero_index : (i : Inner m v h) → has_value v m.tree ≡ true → i.index ≡ 0
    zero_index i s =
        only i.index
        (subst (λ tys. is_some (slice_get tys i.index) ≡ true) (ap (λ (h : Header). h.results) i.heads ∙ results)
        (sym (ap (λ o. is_some (option_and_then (λ (o : Operation). slice_get (head o).results i.index) o)) i.found) ∙ sym (ap (λ v. has_value v m.tree) i.value) ∙ s))

-- ---- its outcome
module _ (m : Module) (a : Assignment) (done : ℕ → Bool) (x : ℕ) (o : Operation) (s : Site m a done x o) where
  pub made_or_poison : (r : How) → rule_of (head o).name ≡ Some r → (k : OfRule m.tree (head o) r) → done x ≡ true → (makes_by r (head o) k.kind (map a (head o).operands) ≡ Some (a (Result x 0))) ⊎ (a (Result x 0) ≡ None)
  made_or_poison r e k d = elim (found_fit a done m.tree s.computing.fits x o s.found d k.arithmetic) [
    | inl i ↦ inl (sym (makes_is (head o) (map a (head o).operands) r k.kind e k.is) ∙ i.0)
    | inr b ↦ inr b.2
  ]

  pub operand_there : (P : Value → Bool) (v : Value) → (head o).operands ≡ v ∷ [] → list_all P (head o).operands ≡ true → P v ≡ true
  operand_there P v e l = (and_parts (P v) true (subst (λ vs. list_all P vs ≡ true) e l)).0

pub kind_test : (k : BitsKind) (j : Option BitsKind) → is_kind k j ≡ true → j ≡ Some k
kind_test k None e = absurd (true≢false (sym e))
kind_test k (Some j) e = ap (λ z. Some z) (same_kinds j k e)

-- ---- casts
pub record Resized (c : Cast) (k : BitsKind) (o z : Outcome) : Type 0 where
  pub known : Known
  pub bits : ℕ
  pub is : o ≡ Some known
  pub cast : cast_of c (width_of known.0) (width_of k) known.1 ≡ Some bits
  pub gives : z ≡ Some (k, bits)

pub resized : (c : Cast) (k : BitsKind) (o z : Outcome) → resize_outcome c k o ≡ Some z → (z ≡ None) ⊎ Resized c k o z
resized c k o z e = go (is_width (width_of k)) e
  where
    any : (o : Outcome) → resize_any c k o ≡ Some z → (z ≡ None) ⊎ Resized c k o z
    any None e = inl (sym (same_Some _ _ e))
    any (Some x) e =
        let g = given_some (cast_of c (width_of x.0) (width_of k) x.1) (λ b. Some (Some (k, b))) z e in
        inr (record { known = x; bits = g.0; is = refl; cast = g.1; gives = sym (same_Some _ _ g.2) })

    go : (b : Bool) → (if b then resize_any c k o else None) ≡ Some z → (z ≡ None) ⊎ Resized c k o z
    go true e = any o e
    go false e = absurd (none-some z e)
