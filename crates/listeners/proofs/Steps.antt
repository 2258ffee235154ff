-- The effect of one step of the code on lists and on the marking.
use Rattle.std.proofs.Common.{◌≡◌, refl, ap, sym, ◌∙◌, subst, ℕ, ◌-◌, ◌≤◌, Bool, true, false, true≢false, cond, eqb, List, [], ◌∷◌, ◌++◌, append_assoc, length, take, drop, filter, Option, Some, None, inl, inr, ◌⊎◌, Result, Ok, Err, slice_index_or, arith}
use Rattle.std.proofs.lemmas.List.{take_all}
use Rattle.std.specs.Prelude.{OnOk, IfOk, option_map, option_to_list, is_some}
use Rattle.std.specs.Map.{keys_of}
use Rattle.ir_event.specs.tree_laws.Members.{In}
use Rattle.listeners_symbols.specs.declared.role.Role.{Role as Numbers}
use Rattle.listeners_symbols.specs.declared.roles.Roles.{Roles}
use Rattle.listeners_symbols.specs.Roles.{ReferenceOf}
use Rattle.listeners_symbols.specs.Symbols.{RoleAt, DefinitionOf, look_in}
use Rattle.listeners_symbols.specs.Table.{role_numbers}
use Rattle.listeners_symbols.specs.Lines.{numbers_at}
use Rattle.listeners_symbols.specs.Listeners.{kept_at}
use Rattle.ir_event.proofs.of_tree_laws.Listed.{in_left}
use Rattle.listeners.specs.Reached.{IsReached}
use Rattle.listeners.specs.Unreached.{says_definition, prefixes, targets, reached_from}
use Rattle.listeners.specs.Marking.{Left, Marks, Removed, IsDone}
use Rattle.listeners.specs.Marks.{parent_at, IsUnder, itself, around, IsDefinition, Reaches, TakesOut, TakesFound, StartsIn}
use Rattle.listeners.proofs.Taken.{removed_none, removed_absent, removed_one}
use Rattle.listeners_symbols.proofs.Entries.{found_key}
use Rattle.ir_event.proofs.of_tree_laws.Contents.{some_map}
use Rattle.ir_event.proofs.of_tree_laws.Reasoned.{some_there}

pub on_ok : {A E : Type 0} (P Q : Type 0) (r : Result A E) → (P → Q) → OnOk r P → OnOk r Q
on_ok P Q (Ok a) f h = f h
on_ok P Q (Err e) f h = tt

pub if_ok : {A E : Type 0} (P Q : A → Type 0) (r : Result A E) → ((a : A) → P a → Q a) → IfOk r P → IfOk r Q
if_ok P Q (Ok a) f h = f a h
if_ok P Q (Err e) f h = tt

pub le_trans : (a b c : ℕ) → b ≤ a → c ≤ b → c ≤ a
le_trans a b c h k = omega (arith, h, k)

-- ---- lists
-- the first item of a list, and the rest
pub from_item : {X : Type 0} (xs : List X) (x d : X) (n : ℕ) → 1 ≤ length xs → x ≡ slice_index_or xs 0 d → n ≡ length xs → x ∷ take (n - 1) (drop 1 xs) ≡ xs
from_item [] x d n l e m = absurd (omega (arith, l))
from_item (y ∷ ys) x d n l e m = let s : length ys ≤ n - 1 = omega (arith, m) in λ i. e i ∷ take_all (n - 1) ys s i

pub keeps_if : (f : ℕ → Bool) (x : ℕ) (out xs : List ℕ) → (out ++ cond (f x) (x ∷ []) []) ++ filter f xs ≡ out ++ filter f (x ∷ xs)
keeps_if f x out xs = append_assoc out (cond (f x) (x ∷ []) []) (filter f xs) ∙ ap (λ l. out ++ l) (elim (f x) as (λ b. cond b (x ∷ []) [] ++ filter f xs ≡ cond b (x ∷ filter f xs) (filter f xs)) [ true ↦ refl | false ↦ refl ])

pub none_false : {X : Type 0} (o : Option X) → is_some o ≡ false → o ≡ None
none_false None e = refl
none_false (Some x) e = absurd (true≢false e)

-- ---- ancestors
pub up_one : (roles : RoleAt ℕ ℕ ℕ) (left : Left) (y next p : ℕ) → parent_at (roles y) ≡ Some next → left y ≡ None → IsUnder roles y p → IsUnder roles next p ⊎ (left p ≡ None)
up_one roles left y next p e none (itself z) = inr none
up_one roles left y next p e none (around z q r i u) = (let two : Some q ≡ Some next = sym i ∙ e in
    let one : q ≡ next = cc in
    inl (subst (λ w. IsUnder roles w r) one u))

pub up_end : (roles : RoleAt ℕ ℕ ℕ) (left : Left) (y p : ℕ) → parent_at (roles y) ≡ None → left y ≡ None → IsUnder roles y p → left p ≡ None
up_end roles left y p e none (itself z) = none
up_end roles left y p e none (around z q r i u) = (let bad : Some q ≡ None = sym i ∙ e in absurd cc)

-- ---- references
module _ (roles : RoleAt ℕ ℕ ℕ) (ds : List (DefinitionOf ℕ)) where
  pub prefix_step : (table found next : Option ℕ) (part : ℕ) (more rest parts done : List ℕ) → next ≡ look_in eqb roles ds found part → part ∷ more ≡ rest → done ++ prefixes eqb roles ds found rest ≡ prefixes eqb roles ds table parts
      → (done ++ option_to_list next) ++ prefixes eqb roles ds next more ≡ prefixes eqb roles ds table parts
  prefix_step table found next part more rest parts done e w i =
      append_assoc done (option_to_list next) (prefixes eqb roles ds next more)
      ∙ ap (λ z. done ++ (option_to_list z ++ prefixes eqb roles ds z more)) e
      ∙ ap (λ l. done ++ prefixes eqb roles ds found l) w
      ∙ i

  pub target_step : (table : Option ℕ) (all : List ℕ) (p : ReferenceOf ℕ ℕ) (more rest : List (ReferenceOf ℕ ℕ)) (done : List ℕ) → p ∷ more ≡ rest → done ++ targets eqb roles ds table rest ≡ all
      → (done ++ prefixes eqb roles ds table p.1) ++ targets eqb roles ds table more ≡ all
  target_step table all p more rest done w i =
      append_assoc done (prefixes eqb roles ds table p.1) (targets eqb roles ds table more) ∙ ap (λ l. done ++ targets eqb roles ds table l) w ∙ i

-- ---- marking
module _ (P : ℕ → Type 0) (U R : ℕ → ℕ → Type 0) where
  pub same_removed : (xs : List ℕ) (q r s : List (List ℕ)) (a b c : Left) → Removed P U R xs q a r b → s ≡ r → ((z : ℕ) → c z ≡ b z) → Removed P U R xs q a s c
  same_removed xs q r s a b c h e f = subst (λ (z : List (List ℕ)). Removed P U R xs q a z c) (sym e) (subst (λ (l : Left). Removed P U R xs q a r l) (λ i z. sym (f z) i) h)

  taken_out : (x : ℕ) (q r : List (List ℕ)) (left after : Left) → TakesOut x q left r after → Removed P U R (x ∷ []) q left r after
  taken_out x q r left after (inl h) = same_removed (x ∷ []) q q r left left after (removed_absent P U R x q left h.0) h.1 h.2
  taken_out x q r left after (inr h) = same_removed (x ∷ []) q (q ++ h.0 ∷ []) r left after after (removed_one P U R x h.0 q left after h.1 h.3) h.2 (λ z. refl)

  pub taken_found : (found : Option ℕ) (q r : List (List ℕ)) (left after : Left) → TakesFound found q left r after → Removed P U R (option_to_list found) q left r after
  taken_found None q r left after h = same_removed [] q q r left left after (removed_none P U R q left) h.0 h.1
  taken_found (Some x) q r left after h = taken_out x q r left after h

-- ---- the start
module _ (m : Roles) (ds : List (DefinitionOf ℕ)) (left : Left) (starts : StartsIn (numbers_at m) left) where
  started_sound : (x : ℕ) → IsDefinition (numbers_at m) x → left x ≡ None → IsReached (IsDefinition (numbers_at m)) (IsUnder (numbers_at m)) (Reaches (numbers_at m) ds) x
  started_sound x p e = (let bad : None ≡ Some [] = sym e ∙ starts x ∙ ap (λ b. cond b (Some []) None) p in absurd cc)

  started_only : (x : ℕ) (ws : List ℕ) → left x ≡ Some ws → IsDefinition (numbers_at m) x
  started_only x ws e = go (says_definition (numbers_at m x)) refl
    where
      go : (b : Bool) → says_definition (numbers_at m x) ≡ b → says_definition (numbers_at m x) ≡ true
      go true i = i
      go false i = (let bad : Some ws ≡ None = sym e ∙ starts x ∙ ap (λ b. cond b (Some []) None) i in absurd cc)

  placed : (y : ℕ) → In y (keys_of m.all.entries) ⊎ IsDone (IsDefinition (numbers_at m)) (IsUnder (numbers_at m)) (Reaches (numbers_at m) ds) left y
  placed y = go (kept_at m y) refl
    where
      go : (k : Option Numbers) → kept_at m y ≡ k → In y (keys_of m.all.entries) ⊎ IsDone (IsDefinition (numbers_at m)) (IsUnder (numbers_at m)) (Reaches (numbers_at m) ds) left y
      go None e = inr (λ x r. absurd (subst (λ (k : Option Numbers). In x (reached_from eqb (numbers_at m) ds (option_map role_numbers k))) e r))
      go (Some r) e = inl (found_key y r m.all.entries e)

  pub started : (q : List (List ℕ)) → Marks (IsDefinition (numbers_at m)) (IsUnder (numbers_at m)) (Reaches (numbers_at m) ds) (keys_of m.all.entries ++ []) q left
  started q = record {
    sound = started_sound;
    only = started_only;
    placed = λ y. elim (placed y) [
      | inl h ↦ inl (in_left y (keys_of m.all.entries) [] h)
      | inr d ↦ inr (inr (inr d))
    ];
  }
