-- Items appended to lists.
use Rattle.std.proofs.Common.{◌≡◌, ◌∙◌, ℕ, zero, suc, ◌+◌, arith, List, [], ◌∷◌, ◌++◌, length, refl, ap}
use Rattle.std.specs.List.{range_with_len}
use Rattle.std.proofs.lemmas.List.{length-map}
use Rattle.user_patterns_sema_base.specs.declared.names.Variable.{Variable as VariableCode}
use Rattle.user_patterns_sema_base.specs.declared.types.NamedType.{NamedType as NamedCode}
use Rattle.user_patterns_sema_base.specs.Views.{Variable, named_view, named_views, variable_view, variable_views}

pub variables_and : (vs : List VariableCode) (v : VariableCode) → variable_views (vs ++ v ∷ []) ≡ variable_views vs ++ variable_view v ∷ []
variables_and [] v = refl
variables_and (w ∷ vs) v = ap (λ (rest : List Variable). variable_view w ∷ rest) (variables_and vs v)

pub named_and : (ns : List NamedCode) (n : NamedCode) → named_views (ns ++ n ∷ []) ≡ named_views ns ++ named_view n ∷ []
named_and [] n = refl
named_and (m ∷ ns) n = ap (λ (rest : List (List ℕ × ℕ)). named_view m ∷ rest) (named_and ns n)

range_more : (a n : ℕ) → range_with_len a (suc n) ≡ range_with_len a n ++ (a + n) ∷ []
range_more a zero = ap (λ (k : ℕ). k ∷ []) (omega arith)
range_more a (suc n) = ap (λ (rest : List ℕ). a ∷ rest) (range_more (a + 1) n ∙ ap (λ (k : ℕ). range_with_len (a + 1) n ++ k ∷ []) (omega arith))

pub range_again : (n : ℕ) → range_with_len 0 (n + 1) ≡ range_with_len 0 n ++ n ∷ []
range_again n =
    let one : n + 1 ≡ suc n = omega arith in
    let same : 0 + n ≡ n = omega arith in
    ap (range_with_len 0) one ∙ range_more 0 n ∙ ap (λ (k : ℕ). range_with_len 0 n ++ k ∷ []) same

pub variables_length : (vs : List VariableCode) → length (variable_views vs) ≡ length vs
variables_length vs = length-map vs variable_view
