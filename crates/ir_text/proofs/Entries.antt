-- Lookup and insertion, seen through a context.
use Rattle.std.proofs.Common.{ℕ, ◌≤◌, length, arith, ◌≡◌, ◌∙◌, Bool, true, false, cond, List, [], ◌∷◌, Option, Some, refl, ap, sym}
use Rattle.std.specs.Map.{lookup}
use Rattle.std.specs.Option.{option_map}
use Rattle.std.proofs.lemmas.Map.Made.{lookup-map_values}
use Rattle.indexmap.specs.IndexMap.{insert_entry}
use Rattle.std.proofs.lemmas.List.{get_or_past}
use Rattle.ir_types.specs.Things.{ContextModel}
use Rattle.ir_types.specs.Terms.{type_term, type_terms, Index}
use Rattle.ir_types.proofs.Terms.{length-type_terms}
use Rattle.ir_text.specs.declared.naming.Source.{Source}
use Rattle.ir_text.specs.declared.naming.NamedValue.{NamedValue}
use Rattle.ir_text.specs.declared.naming.Source.TheVariants.{Result, Argument}
use Rattle.ir_text.specs.contracts.naming.SourcePartialEq.TheImpl as source_eq
use Rattle.ir_tree.specs.declared.value.Value.{Value}
use Rattle.ir_text.specs.Naming.{same_source, source_of, naming_of}
use Rattle.ir_text.specs.View.{naming_in, named_in}

pub naming_found : (c : ContextModel) (test : Source → Bool) (es : List (Source × NamedValue)) → option_map (naming_in c) (lookup test es) ≡ lookup test (named_in c es)
naming_found c test es = sym (lookup-map_values (naming_in c) test es)

-- an inserted entry, seen through a context
pub insert_seen : (c : ContextModel) (same : Source → Source → Bool) (es : List (Source × NamedValue)) (k : Source) (n : NamedValue) → named_in c (insert_entry same es k n) ≡ insert_entry same (named_in c es) k (naming_in c n)
insert_seen c same [] k n = refl
insert_seen c same (e ∷ es) k n =
    elim (same k e.0) as (λ b. named_in c (cond b ((e.0, n) ∷ es) (e ∷ insert_entry same es k n)) ≡ cond b ((e.0, naming_in c n) ∷ named_in c es) ((e.0, naming_in c e.1) ∷ insert_entry same (named_in c es) k (naming_in c n)))
    [ true ↦ refl | false ↦ ap (λ rest. (e.0, naming_in c e.1) ∷ rest) (insert_seen c same es k n) ]

derived_source : (x y : Source) → (source_eq.ghosts).eq x y ≡ same_source x y
derived_source (Result x j) (Result y k) = refl
derived_source (Result x j) (Argument y s k) = refl
derived_source (Argument x r j) (Result y k) = refl
derived_source (Argument x r j) (Argument y s k) = refl

-- the naming of a value that is found by its source
pub likely_found : (c : ContextModel) (es : List (Source × NamedValue)) (k : Source) (n : NamedValue) (v : Value) → lookup ((source_eq.ghosts).eq k) es ≡ Some n → k ≡ source_of v → Some (naming_in c n) ≡ naming_of (named_in c es) v
likely_found c es k n v at same =
    ap (option_map (naming_in c)) (sym at)
    ∙ naming_found c ((source_eq.ghosts).eq k) es
    ∙ (λ i. lookup (λ y. derived_source k y i) (named_in c es))
    ∙ ap (λ (x : Source). lookup (same_source x) (named_in c es)) same

pub put_in : (c : ContextModel) (es : List (Source × NamedValue)) (k : Source) (n : NamedValue) → named_in c (insert_entry (source_eq.ghosts).eq es k n) ≡ insert_entry same_source (named_in c es) k (naming_in c n)
put_in c es k n = insert_seen c (source_eq.ghosts).eq es k n ∙ ap (λ same. insert_entry same (named_in c es) k (naming_in c n)) (λ i x y. derived_source x y i)

-- an id that no type has denotes `index`
pub no_type_is_index : (c : ContextModel) (n : ℕ) → length c.types ≤ n → type_term c n ≡ Index
no_type_is_index c n h = get_or_past (type_terms c) n Index (omega (arith, length-type_terms c))
