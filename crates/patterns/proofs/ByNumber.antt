-- The rules of a list for each operation name, by the number of the name.
use Rattle.std.proofs.Common.{◌≡◌, refl, ap, sym, ◌∙◌, subst, inl, inr, ℕ, zero, suc, ◌+◌, ◌<◌, ◌≤◌, List, [], ◌∷◌, ◌++◌, length, map, slice_index_or, arith}
use Rattle.std.specs.Prelude.{Vec}
use Rattle.std.specs.List.{filter, list_any}
use Rattle.std.proofs.lemmas.Bool.{cases_lt, cases_order}
use Rattle.std.specs.declared.alloc.Global.{Global}
use Rattle.ir_event.specs.types.Things.{ContextModel}
use Rattle.ir_event.specs.types.Terms.{name_term}
use Rattle.ir_event.specs.types.Sound.{IsSound}
use Rattle.patterns_soundness.specs.base.RuleNames.{same_rule}
use Rattle.patterns_soundness.specs.base.Rules.{rules_for, table}
use Rattle.patterns_soundness.specs.base.declared.rule.Rule.{Rule}
use Rattle.patterns_soundness.proofs.of_base.TableNumbers.{past, rules_are}
use Rattle.patterns.specs.Rows.{AreRowsOf, row_at, those_for}

abbrev Row : Type 0
Row = Vec Rule Global

newest : (rows : List Row) (row : Row) → row_at (rows ++ row ∷ []) (length rows) ≡ row.items
newest [] row = refl
newest (r ∷ rows) row = newest rows row

earlier : (rows : List Row) (row : Row) (n : ℕ) → n < length rows → row_at (rows ++ row ∷ []) n ≡ row_at rows n
earlier [] row n l = absurd (omega (arith, l))
earlier (r ∷ rows) row zero l = refl
earlier (r ∷ rows) row (suc n) l = earlier rows row n (omega (arith, l))

trailing : (rows : List Row) (n : ℕ) → length rows ≤ n → row_at rows n ≡ []
trailing [] n l = refl
trailing (r ∷ rows) zero l = absurd (omega (arith, l))
trailing (r ∷ rows) (suc n) l = trailing rows n (omega (arith, l))

longer : (rows : List Row) (row : Row) → length (rows ++ row ∷ []) ≡ length rows + 1
longer [] row = refl
longer (r ∷ rows) row = (let e = longer rows row in omega (arith, e))

-- a name past the table has no rules
none_after : (c : ContextModel) → IsSound c → (n : ℕ) → 39 ≤ n → rules_for (name_term c n) ≡ []
unfolding table
none_after c sound n l = rules_are c n sound ∙ past (λ (row : List ℕ × List Rule). row.1) table n [] l

module _ (rs : List Rule) where
  abbrev among : List Rule → List Rule
  among listed = filter (λ r. list_any (same_rule r) listed) rs

  -- entries for the names below a number
  abbrev pub AreUpTo : ℕ → List Row → Type 0
  AreUpTo k rows = (length rows ≡ k) × ((c : ContextModel) → IsSound c → (n : ℕ) → n < k → row_at rows n ≡ those_for rs (name_term c n))

  pub none_yet : AreUpTo 0 []
  none_yet = (refl, λ c sound n l. absurd (omega (arith, l)))

  pub one_more : (k : ℕ) (rows : List Row) (row : Row) (listed : List Rule) → AreUpTo k rows → row.items ≡ among listed → ((c : ContextModel) → IsSound c → listed ≡ rules_for (name_term c k)) → AreUpTo (k + 1) (rows ++ row ∷ [])
  one_more k rows row listed is made of = (
    longer rows row ∙ ap (λ n. n + 1) is.0,
    λ c sound n l. elim (cases_order n k) [
      | inl e ↦ (ap (row_at (rows ++ row ∷ [])) (e ∙ sym is.0) ∙ newest rows row ∙ made ∙ ap among (of c sound) ∙ ap (λ (i : ℕ). those_for rs (name_term c i)) (sym e))
      | inr o ↦ elim o [
        | inl h ↦ (earlier rows row n (subst (λ (i : ℕ). n < i) (sym is.0) h) ∙ is.1 c sound n h)
        | inr h ↦ absurd (omega (arith, l, h))
      ]
    ],
  )

  none_among : (xs : List Rule) → filter (λ r. list_any (same_rule r) []) xs ≡ []
  none_among [] = refl
  none_among (x ∷ xs) = none_among xs

  pub all_rows : (rows : List Row) → AreUpTo 39 rows → AreRowsOf rs rows
  all_rows rows is c sound n = elim (cases_lt n 39) [
    | inr l ↦ (trailing rows n (subst (λ (i : ℕ). i ≤ n) (sym is.0) l) ∙ sym (none_among rs) ∙ ap among (sym (none_after c sound n l)))
    | inl l ↦ is.1 c sound n l
  ]
