-- The visible names, and the names that become visible again at the end of each region. MLIR Language Reference,
-- "Regions" and "Identifiers and keywords".
use Rattle.std.specs.Prelude.{ℕ, Bool, if◌then◌else◌, List, [], ◌∷◌, ◌++◌, Option, Some, None, refl}
use Rattle.std.specs.Str.{bytes_eq}
use Rattle.std.specs.Coded.{Coded, code_by, coded_ℕ, coded×, coded_list}

-- a name and its value
pub record Binding (T : Type 0) : Type 0 where
  pub name : List ℕ
  pub value : T

-- the visible names in the order of their binding, and the names that were visible at the start of each enclosing
-- region, the innermost first
pub record Scopes (T : Type 0) : Type 0 where
  pub here : List (Binding T)
  pub outer : List (List (Binding T))

abbrev pub or_else : {A : Type 0} → Option A → Option A → Option A
or_else (Some x) other = Some x
or_else None other = other

-- the value of the last binding of the name
unfoldable pub find : {T : Type 0} → List ℕ → List (Binding T) → Option T
find name [] = None
find name (b ∷ bs) = or_else (find name bs) (if bytes_eq b.name name then Some b.value else None)

-- the name is bound to the value
abbrev pub bound : {T : Type 0} → List ℕ → T → Scopes T → Scopes T
bound name value s = record { here = s.here ++ (record { name = name; value = value }) ∷ []; outer = s.outer }

-- a region begins; in the region of an isolated operation no outer name is visible
abbrev pub entered : {T : Type 0} → Bool → Scopes T → Scopes T
entered isolated s = record { here = if isolated then [] else s.here; outer = s.here ∷ s.outer }

abbrev pub left_to : {T : Type 0} → Scopes T → List (List (Binding T)) → Scopes T
left_to s [] = s
left_to s (here ∷ outer) = record { here = here; outer = outer }

-- a region ends; exactly the names that were visible at its start are visible
abbrev pub left : {T : Type 0} → Scopes T → Scopes T
left s = left_to s s.outer

-- ---- encoding by nested pairs, which shows that scopes differ

abbrev pub binding_code : {T : Type 0} → Coded T → Coded (Binding T)
binding_code {T} code = code_by (List ℕ × T) (coded× (coded_list coded_ℕ) code) (λ b. (b.name, b.value)) (λ p. record { name = p.0; value = p.1 }) (λ _. refl)

abbrev pub scopes_code : {T : Type 0} → Coded T → Coded (Scopes T)
scopes_code {T} code =
    code_by (List (Binding T) × List (List (Binding T))) (coded× (coded_list (binding_code code)) (coded_list (coded_list (binding_code code))))
    (λ s. (s.here, s.outer)) (λ p. record { here = p.0; outer = p.1 }) (λ _. refl)
