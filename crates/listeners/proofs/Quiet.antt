-- A report of unreached symbols has no rows about an operation that is no private definition, nor about a value.
use Rattle.std.proofs.Common.{◌≡◌, ◌∙◌, refl, sym, ap, subst, ℕ, Bool, true, false, true≢false, ◌&&◌, cond, eqb, eqb-true, List, [], ◌∷◌, ◌++◌, map, Option, Some, None, inl, inr}
use Rattle.std.specs.Prelude.{option_map, is_some}
use Rattle.listeners_support.specs.Map as idmap
use Rattle.ir_event.specs.types.Things.{ContextModel}
use Rattle.ir_event.specs.types.Terms.{TypeTerm, AttrTerm, name_term}
use Rattle.ir_event.specs.trees.Meaning.{Operation}
use Rattle.ir_event.specs.trees.declared.value.Value.{Value}
use Rattle.ir_event.specs.declared.subject.Subject.{Subject}
use Rattle.ir_event.specs.declared.subject.Subject.TheVariants as subject
use Rattle.ir_event.specs.Rows.{Op, Name}
use Rattle.ir_event.specs.Subjects.{rows_about}
use Rattle.ir_event.proofs.of_tree_laws.Listed.{bool_cases}
use Rattle.listeners_symbols.specs.declared.role.Role.{Role as Numbers}
use Rattle.listeners_symbols.specs.declared.roles.Roles.{Roles}
use Rattle.listeners_symbols.specs.Symbols.{RolesOf, roles_by_id}
use Rattle.listeners_symbols.specs.Table.{role_meaning, Keeps}
use Rattle.listeners_symbols.specs.Listeners.{kept_at}
use Rattle.listeners_symbols.specs.Telling.{hides, said_about, said_at}
use Rattle.listeners_symbols.proofs.Entries.{each_entry}
use Rattle.listeners_symbols.proofs.Reported.{Each, meant}
use Rattle.listeners.specs.Reached.{among}
use Rattle.listeners.specs.Unreached.{line_cells, line_of, lines_with, private_name, reached_in, unreached_lines, unreached_rows}
use Rattle.listeners.proofs.Reported.{lines_all}

-- ---- rows about other operations
no_value : (v : Value) (ls : List (ℕ × List ℕ)) → rows_about (subject.Val v) (map (line_cells Op Name) ls) ≡ []
no_value v [] = refl
no_value v (l ∷ ls) = no_value v ls

-- all rows are about other operations
abbrev Others : ℕ → List (ℕ × List ℕ) → Type 0
Others x [] = Unit {0}
Others x (l ∷ ls) = (eqb l.0 x ≡ false) × Others x ls

no_rows : (x : ℕ) (ls : List (ℕ × List ℕ)) → Others x ls → rows_about (subject.Op x) (map (line_cells Op Name) ls) ≡ []
no_rows x [] o = refl
no_rows x (l ∷ ls) o =
    let rows = map (line_cells Op Name) ls in
    ap (λ b. cond b (line_cells Op Name l ∷ rows_about (subject.Op x) rows) (rows_about (subject.Op x) rows)) o.0 ∙ no_rows x ls o.1

joined : (x : ℕ) (a b : List (ℕ × List ℕ)) → Others x a → Others x b → Others x (a ++ b)
joined x [] b o p = p
joined x (l ∷ a) b o p = (o.0, joined x a b o.1 p)

-- x is no private definition
abbrev Quiet : ℕ → RolesOf (List ℕ) TypeTerm AttrTerm → Type 0
Quiet x [] = Unit {0}
Quiet x (e ∷ es) = (eqb e.0 x ≡ true → is_some (private_name e.1) ≡ false) × Quiet x es

one_other : (x : ℕ) (reached : Bool) (y : ℕ) (name : Option (List ℕ)) → (eqb y x ≡ true → is_some name ≡ false) → Others x (line_of reached y name)
one_other x true y name q = tt
one_other x false y None q = tt
one_other x false y (Some n) q = (elim (bool_cases (eqb y x)) [ inl e ↦ absurd (true≢false (q e)) | inr e ↦ e ], tt)

all_others : (x : ℕ) (reached : ℕ → Bool) (es : RolesOf (List ℕ) TypeTerm AttrTerm) → Quiet x es → Others x (lines_with reached es)
all_others x reached [] q = tt
all_others x reached (e ∷ es) q = joined x (line_of (reached e.0) e.0 (private_name e.1)) (lines_with reached es) (one_other x (reached e.0) e.0 (private_name e.1) q.0) (all_others x reached es q.1)

-- ---- an operation whose entry isn't a private definition
module _ (b : ContextModel) where
  no_name : (home : Option ℕ) (hidden : Bool) (symbol : Option ℕ) → is_some (cond (is_some home && hidden) symbol None) ≡ false → is_some (cond (is_some home && hidden) (option_map (name_term b) symbol) None) ≡ false
  no_name None hidden symbol e = refl
  no_name (Some t) false symbol e = refl
  no_name (Some t) true None e = refl
  no_name (Some t) true (Some n) e = e

  quiet_entries : (x : ℕ) (es : List (ℕ × Numbers)) → Each (λ (e : ℕ × Numbers). eqb e.0 x ≡ true → hides e.1 ≡ false) es → Quiet x (meant b es)
  quiet_entries x [] k = tt
  quiet_entries x (e ∷ es) k = ((λ i. no_name e.1.home e.1.is_private e.1.symbol (k.0 i)), quiet_entries x es k.1)

-- ---- rows

pub no_unreached : (s : Subject) (b : ContextModel) (t : Operation) (m : Roles) → idmap.IsOrdered m.all → Keeps b t (kept_at m) → said_about hides s (kept_at m) ≡ false → rows_about s (unreached_rows t) ≡ []
no_unreached (subject.Val v) b t m ordered keeps e = no_value v (unreached_lines t)
no_unreached (subject.Op x) b t m ordered keeps e =
    let own : (q : ℕ) (r : Numbers) → kept_at m q ≡ Some r → eqb q x ≡ true → hides r ≡ false = λ q r i k. sym (ap (said_at hides) i) ∙ ap (λ z. said_at hides (kept_at m z)) (eqb-true q x k) ∙ e in
    let quiet = quiet_entries b x m.all.entries (each_entry (λ q r. eqb q x ≡ true → hides r ≡ false) m.all.entries ordered own) in
    let reached : ℕ → Bool = λ y. among y (reached_in t) in
    ap (λ (ls : List (ℕ × List ℕ)). rows_about (subject.Op x) (map (line_cells Op Name) ls)) (sym (lines_all b t m ordered keeps))
    ∙ no_rows x (lines_with reached (meant b m.all.entries)) (all_others x reached (meant b m.all.entries) quiet)
