-- Operations that a report may skip: those without references, and those that aren't private definitions.
use Rattle.std.proofs.Common.{◌≡◌, refl, ap, sym, ◌∙◌, subst, ◌⊎◌, inl, inr, ℕ, Bool, true, false, cond, true≢false, ◌&&◌, ◌||◌, eqb, eq-eqb, eqb-true, List, [], ◌∷◌, ◌++◌, map, Option, Some, None}
use Rattle.std.specs.Prelude.{is_some, is_none, option_map}
use Rattle.std.specs.List.{list_any}
use Rattle.std.specs.Ordering.{nat_cmp, is_eq}
use Rattle.std.specs.BTreeMap.{is_at}
use Rattle.listeners_support.specs.Map as idmap
use Rattle.std.specs.BTreeSet.{contains}
use Rattle.std.specs.BTreeSet as set
use Rattle.ir_event.specs.tree_laws.Members.{In}
use Rattle.ir_event.proofs.of_tree_laws.Listed.{bool_cases, in_left, in_parts, in_right}
use Rattle.ir_event.proofs.of_types.Sorting.{flips_eq}
use Rattle.ir_event.proofs.of_types.Truths.{same_test}
use Rattle.listeners_symbols.specs.declared.role.Role.{Role as Numbers}
use Rattle.listeners_symbols.specs.declared.roles.Roles.{Roles}
use Rattle.listeners_symbols.specs.declared.role.Reference.{Reference}
use Rattle.listeners_symbols.specs.Roles.{RoleOf}
use Rattle.listeners_symbols.specs.Symbols.{DefinitionOf, RoleAt}
use Rattle.listeners_symbols.specs.Table.{reference_of, role_numbers}
use Rattle.listeners_symbols.specs.Lines.{numbered, numbers_at}
use Rattle.listeners_symbols.specs.Listeners.{kept_at}
use Rattle.listeners_symbols.specs.Telling.{has_some, hides, said_at, concerns_symbols, contributions}
use Rattle.listeners_symbols.proofs.Telling.{all_notified, listed, reported_of_set}
use Rattle.listeners.specs.Unreached.{line_of, lines_with, private_name, reached_from, says_definition, targets}
use Rattle.listeners.specs.Lines.{is_out, line_by}
use Rattle.listeners.specs.Marking.{Considered, IsDone, IsPending, Left, Marks, Waits}
use Rattle.listeners.specs.Marks.{IsDefinition, IsMarked, ReachedBy, Reaches, IsUnder, added, added_at, those_added}

-- ---- operations that are skipped
module _ (P : ℕ → Type 0) (U R : ℕ → ℕ → Type 0) where
  -- an operation is in the list, or reaches nothing
  abbrev pub IsIn : List ℕ → ℕ → Type 0
  IsIn ys y = In y ys ⊎ ((x : ℕ) → R y x → ⊥)

  pub considered_others : (ks ys : List ℕ) (q r : List (List ℕ)) (left after : Left) → ((y : ℕ) → IsIn ys y) → Considered P U R ys q left r after → Considered P U R ks q left r after
  considered_others ks ys q r left after known c = record {
    shrinks = c.shrinks;
    keeps = λ todo marks. c.keeps todo (record { sound = marks.sound; only = marks.only; placed = λ y. one todo y (known y) (marks.placed y) });
  }
    where
      one : (todo : List ℕ) (y : ℕ) → IsIn ys y → In y (ks ++ todo) ⊎ (IsPending P U R q y ⊎ (Waits P U R left y ⊎ IsDone P U R left y)) → In y (ys ++ todo) ⊎ (IsPending P U R q y ⊎ (Waits P U R left y ⊎ IsDone P U R left y))
      one todo y (inl i) p = inl (in_left y ys todo i)
      one todo y (inr quiet) p = inr (inr (inr (λ x reaches. absurd (quiet x reaches))))

-- an operation without references reaches nothing
quiet : (roles : RoleAt ℕ ℕ ℕ) (ds : List (DefinitionOf ℕ)) (r : Numbers) → concerns_symbols r ≡ false → reached_from eqb roles ds (Some (role_numbers r)) ≡ []
quiet roles ds r lacks = go r.references.items (none (is_some r.home && is_some r.symbol) (has_some r.references.items) (is_some r.call) lacks)
  where
    none : (a b c : Bool) → (a || (b || c)) ≡ false → b ≡ false
    none true b c e = absurd (true≢false e)
    none false true c e = absurd (true≢false e)
    none false false c e = refl

    go : (ps : List Reference) → has_some ps ≡ false → targets eqb roles ds r.table (map reference_of ps) ≡ []
    go [] e = refl
    go (p ∷ ps) e = absurd (true≢false e)

pub reported_or_quiet : (m : Roles) (ds : List (DefinitionOf ℕ)) → (y : ℕ) → IsIn (IsDefinition (numbers_at m)) (IsUnder (numbers_at m)) (Reaches (numbers_at m) ds) m.symbol_ops.keys y
reported_or_quiet m ds y = go (kept_at m y) refl
  where
    go : (o : Option Numbers) → kept_at m y ≡ o → IsIn (IsDefinition (numbers_at m)) (IsUnder (numbers_at m)) (Reaches (numbers_at m) ds) m.symbol_ops.keys y
    go None e = inr (λ x r. subst (λ (k : Option Numbers). In x (reached_from eqb (numbers_at m) ds (option_map role_numbers k))) e r)
    go (Some r) e = elim (bool_cases (concerns_symbols r)) [
      | inl so ↦ inl (listed y m.symbol_ops.keys (m.tell y (ap (said_at concerns_symbols) e ∙ so)))
      | inr lacks ↦ inr (λ x i. subst (λ (l : List ℕ). In x l) (quiet (numbers_at m) ds r lacks) (subst (λ (k : Option Numbers). In x (reached_from eqb (numbers_at m) ds (option_map role_numbers k))) e i))
    ]

-- ---- private definitions
hidden_says : (m : Roles) (z : ℕ) → said_at hides (kept_at m z) ≡ says_definition (numbers_at m z)
hidden_says m z = go (kept_at m z)
  where
    go : (o : Option Numbers) → said_at hides o ≡ says_definition (option_map role_numbers o)
    go None = refl
    go (Some r) = refl

module _ (roles : RoleAt ℕ ℕ ℕ) (z : ℕ) where
  own : (o : Option (RoleOf ℕ ℕ ℕ)) (k : Option (List ℕ)) → added_at z o z k ≡ cond (says_definition o) (Some []) k
  own None k = refl
  own (Some r) k = go (private_name r)
    where
      go : (name : Option ℕ) → added z name z k ≡ cond (is_some name) (Some []) k
      go None = refl
      go (Some n) = ap (λ b. cond b (Some []) k) (eq-eqb z z refl)

  other : (x : ℕ) (o : Option (RoleOf ℕ ℕ ℕ)) (k : Option (List ℕ)) → eqb x z ≡ false → added_at x o z k ≡ k
  other x None k e = refl
  other x (Some r) k e = go (private_name r)
    where
      go : (name : Option ℕ) → added x name z k ≡ k
      go None = refl
      go (Some n) = ap (λ b. cond b (Some []) k) e

  settled : (b d : Bool) (k : Option (List ℕ)) → cond (b && d) (Some []) (cond d (Some []) k) ≡ cond d (Some []) k
  settled true true k = refl
  settled true false k = refl
  settled false d k = refl

  pub added_those : (xs : List ℕ) (k : Option (List ℕ)) → those_added roles z xs k ≡ cond (list_any (is_at (nat_cmp z)) xs && says_definition (roles z)) (Some []) k
  added_those [] k = refl
  added_those (x ∷ xs) k = added_those xs (added_at x (roles x) z k) ∙ go (bool_cases (eqb x z))
    where
      found : Bool
      found = list_any (is_at (nat_cmp z)) xs

      at : is_eq (nat_cmp z x) ≡ eqb x z
      at = same_test z x ∙ flips_eq z x

      go : (eqb x z ≡ true) ⊎ (eqb x z ≡ false) → cond (found && says_definition (roles z)) (Some []) (added_at x (roles x) z k) ≡ cond ((is_eq (nat_cmp z x) || found) && says_definition (roles z)) (Some []) k
      go (inl e) =
          ap (cond (found && says_definition (roles z)) (Some [])) (ap (λ y. added_at y (roles y) z k) (eqb-true x z e) ∙ own (roles z) k)
          ∙ settled found (says_definition (roles z)) k
          ∙ sym (ap (λ b. cond ((b || found) && says_definition (roles z)) (Some []) k) (at ∙ e))
      go (inr e) =
          ap (cond (found && says_definition (roles z)) (Some [])) (other x (roles x) k e)
          ∙ sym (ap (λ b. cond ((b || found) && says_definition (roles z)) (Some []) k) (at ∙ e))

abbrev hidden_if : Bool → Option (List ℕ)
hidden_if b = cond b (Some []) None

pub all_hidden : (m : Roles) → (z : ℕ) → those_added (numbers_at m) z m.hidden.keys None ≡ cond (says_definition (numbers_at m z)) (Some []) None
all_hidden m z = added_those (numbers_at m) z m.hidden.keys None ∙ go (bool_cases (says_definition (numbers_at m z)))
  where
    none : (b : Bool) → hidden_if (b && false) ≡ hidden_if false
    none true = refl
    none false = refl

    go : (says_definition (numbers_at m z) ≡ true) ⊎ (says_definition (numbers_at m z) ≡ false) → hidden_if (contains nat_cmp m.hidden z && says_definition (numbers_at m z)) ≡ hidden_if (says_definition (numbers_at m z))
    go (inl e) = ap (λ b. hidden_if (b && says_definition (numbers_at m z))) (m.hide z (hidden_says m z ∙ e))
    go (inr e) = ap (λ d. hidden_if (contains nat_cmp m.hidden z && d)) e ∙ none (contains nat_cmp m.hidden z) ∙ sym (ap hidden_if e)

-- ---- rows
unsaid : (left : Left) (x : ℕ) (r : Numbers) → hides r ≡ false → line_by left x r ≡ []
unsaid left x r lacks = go (is_out left x) (private_name (role_numbers r)) lacks
  where
    go : (b : Bool) (name : Option ℕ) → is_some name ≡ false → line_of b x name ≡ []
    go true name e = refl
    go false None e = refl
    go false (Some n) e = absurd (true≢false e)

each_line : (left : Left) (es : List (ℕ × Numbers)) → all_notified (line_by left) es ≡ lines_with (is_out left) (numbered es)
each_line left [] = refl
each_line left (e ∷ es) = ap (λ l. line_by left e.0 e.1 ++ l) (each_line left es)

pub lines_reported : (m : Roles) (left : Left) → idmap.IsOrdered m.all → set.IsOrdered nat_cmp m.hidden → contributions (line_by left) (kept_at m) m.hidden.keys ≡ lines_with (is_out left) (numbered m.all.entries)
lines_reported m left ordered rises = reported_of_set (line_by left) hides (unsaid left) m.hidden.keys m.all m.hidden refl ordered rises m.hide ∙ each_line left m.all.entries

-- without private definitions, none is unmarked
no_definition : (m : Roles) → m.hidden.keys ≡ [] → (x : ℕ) → says_definition (numbers_at m x) ≡ true → ⊥
no_definition m none x e = true≢false (sym (m.hide x (hidden_says m x ∙ e)) ∙ ap (λ l. list_any (is_at (nat_cmp x)) l) none)

pub none_marked : (m : Roles) (ds : List (DefinitionOf ℕ)) → m.hidden.keys ≡ [] → IsMarked (numbers_at m) ds (λ x. None)
none_marked m ds none = record {
  sound = λ x p e. absurd (no_definition m none x p);
  complete = λ x r. refl;
  only = λ x ws e. absurd cc;
}

pub no_lines : (m : Roles) → idmap.IsOrdered m.all → set.IsOrdered nat_cmp m.hidden → m.hidden.keys ≡ [] → [] ≡ lines_with (is_out (λ x. None)) (numbered m.all.entries)
no_lines m ordered rises none = sym (ap (contributions (line_by (λ x. None)) (kept_at m)) none) ∙ lines_reported m (λ x. None) ordered rises
