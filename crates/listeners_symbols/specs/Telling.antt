-- The operations that a report must visit.
use Rattle.std.specs.Prelude.{◌≡◌, ℕ, List, [], ◌∷◌, ◌++◌, Bool, true, false, ◌&&◌, ◌||◌, not, if◌then◌else◌, Option, Some, None, is_some}
use Rattle.std.specs.Coded.{Coded-set, coded_bool, Π_prop}
use Rattle.std.specs.Ordering.{nat_cmp}
use Rattle.listeners_support.specs.Map.{IdMap}
use Rattle.listeners_support.specs.Map as idmap
use Rattle.std.specs.BTreeSet.{BTreeSet, contains}
use Rattle.ir_event.specs.declared.subject.Subject.{Subject}
use Rattle.ir_event.specs.declared.subject.Subject.TheVariants as subject
use Rattle.listeners_symbols.specs.declared.role.Role.{Role as Numbers}

abbrev pub has_some : {X : Type 0} → List X → Bool
has_some [] = false
has_some (x ∷ xs) = true

-- whether an operation defines, references or calls a symbol, by its entry
abbrev pub concerns_symbols : Numbers → Bool
concerns_symbols r = (is_some r.home && is_some r.symbol) || (has_some r.references.items || is_some r.call)

-- whether it defines a symbol with private visibility
abbrev pub hides : Numbers → Bool
hides r = is_some (if is_some r.home && r.is_private then r.symbol else None)

-- whether it has a name and defines no symbol
abbrev pub names : Numbers → Bool
names r = not (is_some r.home && is_some r.symbol) && is_some r.name

abbrev pub said_at : (Numbers → Bool) → Option Numbers → Bool
said_at test None = false
said_at test (Some r) = test r

-- whether a subject is an operation whose entry passes the test
abbrev pub said_about : (Numbers → Bool) → Subject → (ℕ → Option Numbers) → Bool
said_about test (subject.Op x) kept = said_at test (kept x)
said_about test (subject.Val v) kept = false

-- the set has each operation that passes the test, and maybe others
abbrev pub HasThose : (Numbers → Bool) → IdMap Numbers → BTreeSet ℕ → Type 0
HasThose test m s = (x : ℕ) → said_at test (idmap.get m x) ≡ true → contains nat_cmp s x ≡ true

pub HasThose-prop : (test : Numbers → Bool) (m : IdMap Numbers) (s : BTreeSet ℕ) → IsProp (HasThose test m s)
HasThose-prop test m s = Π_prop (λ x. Π_prop (λ h. Coded-set coded_bool (contains nat_cmp s x) true))

-- the contribution of an operation, by its entry
abbrev pub contribution_at : {X : Type 0} → (ℕ → Numbers → List X) → ℕ → Option Numbers → List X
contribution_at f x None = []
contribution_at f x (Some r) = f x r

-- the contributions of a list of operations, in order
abbrev pub contributions : {X : Type 0} → (ℕ → Numbers → List X) → (ℕ → Option Numbers) → List ℕ → List X
contributions f kept [] = []
contributions f kept (x ∷ xs) = contribution_at f x (kept x) ++ contributions f kept xs
