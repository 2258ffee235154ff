-- A list of expressions that grows by one.
use Rattle.std.proofs.Common.{◌≡◌, ◌∙◌, ℕ, ◌+◌, ◌<◌, List, [], ◌∷◌, ◌++◌, length, length-append, map, refl, sym, ap, subst, arith}
use Rattle.std.proofs.lemmas.List.{append_assoc, append-nil, length-map, map-append}
use Rattle.width_claims.proofs.Emitting.{last, longer, old}
use Rattle.width_claims.specs.declared.form.Form.{Form}
use Rattle.width_claims.specs.declared.form.Expr.{Expr}
use Rattle.width_claims.specs.PatternOpValues.{at, pattern_op_value, pattern_op_values}
use Rattle.width_claims.specs.Right.{AreRight, Has, IsBelow, IsRight}
use Rattle.user_patterns_instructions.specs.Expressions.{Made, push_expr}

abbrev pub pattern_op_types : List Expr → List ℕ
pattern_op_types ps = map Expr.ty ps

module _ (W : ℕ) (vs ws : List ℕ) where
  right_more : (ps : List Expr) (q : Expr) (ts : List ℕ) → AreRight W ws ps ts → IsBelow W (at ws q.ty) → IsRight W ws (ts ++ pattern_op_types ps) (at ws q.ty) q.form
      → AreRight W ws (ps ++ q ∷ []) ts
  right_more [] q ts r b i = (b, subst (λ (us : List ℕ). IsRight W ws us (at ws q.ty) q.form) (append-nil ts) i, tt)
  right_more (p ∷ ps) q ts r b i =
      (r.0, r.1, right_more ps q (ts ++ p.ty ∷ []) r.2 b (subst (λ (us : List ℕ). IsRight W ws us (at ws q.ty) q.form) (sym (append_assoc ts (p.ty ∷ []) (pattern_op_types ps))) i))

  abbrev pub values : List Expr → List ℕ
  values ps = pattern_op_values ws vs ps []

  values_more : (ps : List Expr) (q : Expr) (env : List ℕ) → pattern_op_values ws vs (ps ++ q ∷ []) env ≡ pattern_op_values ws vs ps env ++ pattern_op_value ws vs (at ws q.ty) q.form (pattern_op_values ws vs ps env) ∷ []
  values_more [] q env = refl
  values_more (p ∷ ps) q env = values_more ps q (env ++ pattern_op_value ws vs (at ws p.ty) p.form env ∷ [])

  values_many : (ps : List Expr) (env : List ℕ) → length (pattern_op_values ws vs ps env) ≡ length env + length ps
  values_many [] env = omega arith
  values_many (p ∷ ps) env =
      let v = pattern_op_value ws vs (at ws p.ty) p.form env in
      let h = values_many ps (env ++ v ∷ []) in
      let l = length-append env (v ∷ []) in
      omega (arith, h, l)

  pub many : (ps : List Expr) → length (values ps) ≡ length ps
  many ps = let h = values_many ps [] in omega (arith, h)

  -- the expression at a place has a type and a value
  pub record Is (ps : List Expr) (i t v : ℕ) : Type 0 where
    pub below : i < length ps
    pub type : at (pattern_op_types ps) i ≡ t
    pub value : at (values ps) i ≡ v
    pub low : IsBelow W (at ws t)

  pub has : (ps : List Expr) (i t v : ℕ) → Is ps i t v → Has ws (pattern_op_types ps) (at ws t) i
  has ps i t v is =
      let l = is.below in
      let n = length-map ps Expr.ty in
      (omega (arith, l, n), ap (at ws) is.type)

  pub inside : (ps : List Expr) (i t v : ℕ) → Is ps i t v → i < length (pattern_op_types ps)
  inside ps i t v is = (has ps i t v is).0

  -- the expressions are right, and the earlier ones are unchanged
  pub record Grown (ps qs : List Expr) : Type 0 where
    pub right : AreRight W ws qs []
    pub kept : (i t v : ℕ) → Is ps i t v → Is qs i t v

  pub same : (ps : List Expr) → AreRight W ws ps [] → Grown ps ps
  same ps r = record { right = r; kept = λ i t v is. is }

  pub grown_next : (ps qs rs : List Expr) → Grown ps qs → Grown qs rs → Grown ps rs
  grown_next ps qs rs g h = record { right = h.right; kept = λ i t v is. h.kept i t v (g.kept i t v is) }

  -- the appended expression has a value
  pub record Makes (ps : List Expr) (m : Made) (t v : ℕ) : Type 0 where
    pub grown : Grown ps m.0
    pub is : Is m.0 m.1 t v

  pub made : (ps : List Expr) (t : ℕ) (f : Form) (v : ℕ) → AreRight W ws ps [] → IsBelow W (at ws t) → IsRight W ws (pattern_op_types ps) (at ws t) f → pattern_op_value ws vs (at ws t) f (values ps) ≡ v
      → Makes ps (push_expr ps t f) t v
  made ps t f v r b i e =
      let q : Expr = record { form = f; ty = t } in
      let x = pattern_op_value ws vs (at ws t) f (values ps) in
      let more = values_more ps q [] in
      let types : pattern_op_types (ps ++ q ∷ []) ≡ pattern_op_types ps ++ t ∷ [] = map-append Expr.ty ps (q ∷ []) in
      let long = longer ps q (length ps) refl in
      let n = length-map ps Expr.ty in
      record {
        grown = record {
          right = right_more ps q [] r b i;
          kept = λ j u a is. (let l = is.below in record {
            below = omega (arith, l, long);
            type = ap (λ us. at us j) types ∙ old (pattern_op_types ps) t j (omega (arith, l, n)) ∙ is.type;
            value = ap (λ us. at us j) more ∙ old (values ps) x j (let k = many ps in omega (arith, l, k)) ∙ is.value;
            low = is.low;
          });
        };
        is = record {
          below = omega (arith, long);
          type = ap (λ us. at us (length ps)) types ∙ last (pattern_op_types ps) t (length ps) n;
          value = ap (λ us. at us (length ps)) more ∙ last (values ps) x (length ps) (many ps) ∙ e;
          low = b;
        };
      }

  -- expressions 0 and 1 are the numbers 0 and 1
  pub record Base (ps : List Expr) : Type 0 where
    pub right : AreRight W ws ps []
    pub zero_is : Is ps 0 0 0
    pub one_is : Is ps 1 0 1

  pub base_on : (ps qs : List Expr) → Base ps → Grown ps qs → Base qs
  base_on ps qs b g = record { right = g.right; zero_is = g.kept 0 0 0 b.zero_is; one_is = g.kept 1 0 1 b.one_is }

  pub makes_next : (ps : List Expr) (m n : Made) (t u v w : ℕ) → Makes ps m t v → Makes m.0 n u w → Makes ps n u w
  makes_next ps m n t u v w a b = record { grown = grown_next ps m.0 n.0 a.grown b.grown; is = b.is }

  pub makes_same : (ps : List Expr) (m : Made) (t v w : ℕ) → v ≡ w → Makes ps m t v → Makes ps m t w
  makes_same ps m t v w e a = subst (λ (u : ℕ). Makes ps m t u) e a
