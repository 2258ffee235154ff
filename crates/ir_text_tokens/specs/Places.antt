-- The representation of the names: a list of bindings, and a map from each name to the index of its last binding.
use Rattle.std.specs.Prelude.{◌≡◌, ℕ, Bool, false, not, suc, nat_lt, if◌then◌else◌, List, [], ◌∷◌, take, map, Option, Some, None, option_map, slice_get}
use Rattle.std.specs.Str.{bytes_eq}
use Rattle.std.specs.Borrow.{Bor}
use Rattle.std.specs.HashMap.{HashMap, get}
use Rattle.ir_text_tokens.specs.Scopes.{Binding, or_else}
use Rattle.ir_text_tokens.specs.declared.names.Entry.{Entry}

-- when two keys of the map are equal
abbrev pub key_eq : Bor (List ℕ) → Bor (List ℕ) → Bool
key_eq x y = bytes_eq x.now y.now

abbrev pub joined : {A : Type 0} → Option (Option A) → Option A
joined None = None
joined (Some x) = x

abbrev pub binding_view : {T : Type 0} → Entry T → Binding T
binding_view e = record { name = e.name.now; value = e.value }

abbrev pub views : {T : Type 0} → List (Entry T) → List (Binding T)
views es = map binding_view es

-- the index of the last binding of the name
unfoldable pub top : {T : Type 0} → List ℕ → List (Binding T) → Option ℕ
top name [] = None
top name (b ∷ bs) = or_else (option_map suc (top name bs)) (if bytes_eq b.name name then Some 0 else None)

-- the value bound at an index, if it is visible
abbrev pub pick : {T : Type 0} → List (Binding T) → ℕ → Option ℕ → Option T
pick bs floor None = None
pick bs floor (Some i) = if nat_lt i floor then None else option_map (λ b. b.value) (slice_get bs i)

-- whether there is an index, and it isn't before `first`
abbrev pub is_from : ℕ → Option ℕ → Bool
is_from first None = false
is_from first (Some i) = not (nat_lt i first)

-- each entry has the index of the entry that it shadows
abbrev pub Linked : {T : Type 0} → List (Entry T) → Type 0
Linked {T} es = (i : ℕ) (e : Entry T) → slice_get es i ≡ Some e → e.hidden ≡ top e.name.now (take i (views es))

pub record Agrees {T S : Type 0} (latest : HashMap (Bor (List ℕ)) (Option ℕ) S) (es : List (Entry T)) : Type 0 where
  pub found : (q : Bor (List ℕ)) → joined (get key_eq latest q) ≡ top q.now (views es)
  pub linked : Linked es
