-- Accepted calls keep a context sound, and a known item is refused only if memory runs out.
use Rattle.std.specs.Prelude.{ℕ, List, IsPermutation, nat_le, if◌then◌else◌}
use Rattle.std.specs.List.{AllByRecursion, list_any, position_or_len}
use Rattle.std.specs.Cmp.Lexicographic.{slice_cmp}
use Rattle.std.specs.Ordering.{is_lt, nat_cmp}
use Rattle.std.specs.declared.cmp.Ordering.{Ordering}
use Rattle.std.specs.declared.cmp.Ordering.TheVariants.{Less, Equal, Greater}
use Rattle.std.specs.Str.{bytes_eq}
use Rattle.std.proofs.Common.{◌≡◌, suc, ◌<◌, ◌≤◌, Bool, true, false, true≢false, [], ◌∷◌, ◌++◌, map, length, get_or, slice_get, Option, Some, None, sym, ap, subst, refl, ◌∙◌, ⊎_elim, leb-true, le-leb, arith}
use Rattle.std.proofs.lemmas.List.Elements.{recursion_from_All}
use Rattle.std.proofs.lemmas.Bool.{leb-false, cases_Bool}
use Rattle.std.proofs.lemmas.Option.{slice_get_within}
use Rattle.ir_types_interner.specs.Interned.{with_last, AreApart}
use Rattle.ir_types.specs.declared.node.TypeNode.{TypeNode}
use Rattle.ir_types.specs.declared.node.AttrNode.{AttrNode}
use Rattle.ir_types.specs.declared.node.AttrNode.TheVariants as attr
use Rattle.ir_types.specs.declared.refusal.Refusal.{Refusal}
use Rattle.ir_types.specs.declared.refusal.Refusal.TheVariants.{TooMany, DuplicateKey}
use Rattle.ir_types.specs.Things.{ContextModel, TypeIsOf, AttrIsOf}
use Rattle.ir_types.specs.Terms.{type_node_term, attr_node_term}
use Rattle.ir_types.specs.Same.{same_type, same_attr}
use Rattle.ir_types.specs.Dictionaries.{key_bytes, comes_before, has_duplicate, sorted, kept}
use Rattle.ir_types.specs.Interning.{with_name, with_type, with_attr}
use Rattle.ir_types.specs.Reasons.{first_reason, full_reason, name_reason, type_fault, type_reason, attr_fault, count_reason, key_reason, attr_reason}
use Rattle.ir_types.specs.Sound.{Holds, IsSound, IsRising, IsKept}
use Rattle.ir_types.proofs.SameNodes.{same_type_is, same_type_refl, same_attr_is, same_attr_refl}
use Rattle.ir_types.proofs.Placing.{with_last-cases, length-with_last, known_found}
use Rattle.ir_types.proofs.Growth.{name_is, name_refl, name_names, type_types, attr_attrs}
use Rattle.ir_types.proofs.Terms.{type_term_is, attr_term_is}
use Rattle.ir_types.proofs.Sorting.{Rise, distinct_keys, no_duplicates, rise_distinct, apart_from, sorted_rises, sorted_moved, rising_pairs}
use Rattle.ir_types.proofs.KeptOrder.{length-sorted, kept_known}
use Rattle.ir_types.proofs.Holding.{sound_name, sound_type, sound_attr}
use Rattle.ir_types.specs.Limits.{most_things, most_entries}

-- two reasons, neither of which applies
pub neither : (a b : Option Refusal) → first_reason a b ≡ None → (a ≡ None) × (b ≡ None)
neither None b e = (refl, e)
neither (Some r) b e = absurd cc

pub neither_back : (a b : Option Refusal) → a ≡ None → b ≡ None → first_reason a b ≡ None
neither_back a b e f = rw e f

-- a list that isn't full can take one more item
pub headroom : {A : Type 0} (is : A → Bool) (x : A) (xs : List A) → length xs ≤ most_things → full_reason is xs ≡ None → length (with_last is x xs) ≤ most_things
headroom is x xs few e = ⊎_elim
    (λ (h : (list_any is xs ≡ true) × (with_last is x xs ≡ xs)). let l = ap length h.1 in omega arith)
    (λ (h : (list_any is xs ≡ false) × (with_last is x xs ≡ xs ++ x ∷ [])).
    let l = length-with_last is x xs in
    ⊎_elim
    (λ (k : nat_le most_things (length xs) ≡ true). absurd (let z : Some TooMany ≡ None = rw (h.0, k) at e in cc))
    (λ (k : nat_le most_things (length xs) ≡ false). let less = leb-false most_things (length xs) k in omega (arith, l.1))
    (cases_Bool (nat_le most_things (length xs))))
    (with_last-cases is x xs)

-- a known item needs no capacity
found_headroom : {A : Type 0} (is : A → Bool) (xs : List A) → list_any is xs ≡ true → full_reason is xs ≡ None
found_headroom is xs h = rw h refl

-- a dictionary of known names without duplicate keys is stored sorted
few_entries : (n : ℕ) → (if nat_le n most_entries then None else Some TooMany) ≡ None → n ≤ most_entries
few_entries n e = ⊎_elim
    (λ (k : nat_le n most_entries ≡ true). leb-true n most_entries k)
    (λ (k : nat_le n most_entries ≡ false). absurd (let z : Some TooMany ≡ None = rw k at e in cc))
    (cases_Bool (nat_le n most_entries))

each_once : (b : Bool) → (if b then Some DuplicateKey else None) ≡ None → b ≡ false
each_once true e = absurd cc
each_once false e = refl

pub kept_in_order : (c : ContextModel) (node : AttrNode) → AreApart c.names → AttrIsOf c node → count_reason node ≡ None → key_reason node ≡ None → IsKept c.names (kept c.names node)
unfolding kept
kept_in_order c (attr.Dict es) apart of_c few once =
    let known = recursion_from_All (λ (e : ℕ × ℕ). e.0 < length c.names) es of_c.0 in
    let differ = apart_from c.names apart es known (distinct_keys (map (λ (e : ℕ × ℕ). e.0) es) (each_once (has_duplicate (map (λ (e : ℕ × ℕ). e.0) es)) once)) in
    let count = length-sorted c.names es in
    let within = few_entries (length es) few in
    (omega arith, rising_pairs c.names (sorted c.names es) (sorted_rises c.names es differ))
kept_in_order c (attr.Int ty value) apart of_c few once = tt
kept_in_order c (attr.Str name) apart of_c few once = tt
kept_in_order c (attr.Ty ty) apart of_c few once = tt
kept_in_order c attr.Unit apart of_c few once = tt
kept_in_order c (attr.Array items) apart of_c few once = tt
kept_in_order c (attr.Sym parts) apart of_c few once = tt
kept_in_order c (attr.Dense elem values) apart of_c few once = tt
kept_in_order c (attr.Overflow nsw nuw) apart of_c few once = tt
kept_in_order c (attr.Opaque text ty) apart of_c few once = tt

-- an accepted call keeps a context sound
pub accepted_name : (bytes : List ℕ) (c : ContextModel) → IsSound c → name_reason bytes c ≡ None → IsSound (with_name bytes c).1
accepted_name bytes c s fine =
    let few = headroom (bytes_eq bytes) bytes c.names s.holds.few_names fine in
    sound_name bytes c s (subst (λ l. length l ≤ most_things) (sym (name_names bytes c)) few)

pub accepted_type : (node : TypeNode) (c : ContextModel) → IsSound c → TypeIsOf c node → type_reason node c ≡ None → IsSound (with_type node c).1
accepted_type node c s of_c fine =
    let r = neither (type_fault (type_node_term c node)) (full_reason (same_type node) c.types) fine in
    let few = headroom (same_type node) node c.types s.holds.few_types r.1 in
    sound_type node c s of_c r.0 (subst (λ l. length l ≤ most_things) (sym (type_types node c)) few)

pub accepted_attr : (node : AttrNode) (c : ContextModel) → IsSound c → AttrIsOf c node → attr_reason node c ≡ None → IsSound (with_attr node c).1
accepted_attr node c s of_c fine =
    let k = kept c.names node in
    let full = full_reason (same_attr k) c.attrs in
    let r = neither (attr_fault (attr_node_term c node)) (first_reason (count_reason node) (first_reason full (key_reason node))) fine in
    let q = neither (count_reason node) (first_reason full (key_reason node)) r.1 in
    let p = neither full (key_reason node) q.1 in
    let few = headroom (same_attr k) k c.attrs s.holds.few_attrs p.0 in
    sound_attr node c s of_c r.0 (kept_in_order c node s.names_apart of_c q.0 p.1) (subst (λ l. length l ≤ most_things) (sym (attr_attrs node c)) few)

-- entries with increasing keys have no duplicate key
pub less_from : (o : Ordering) → is_lt o ≡ true → o ≡ Less
less_from Less h = refl
less_from Equal h = absurd (true≢false (sym h))
less_from Greater h = absurd (true≢false (sym h))

pub pairs_rise : (names : List (List ℕ)) (es : List (ℕ × ℕ)) → IsRising names es → Rise names es
pairs_rise names [] h = tt
pairs_rise names (e ∷ es) h = (after es (λ i d k. h 0 (suc i) d (omega arith) (omega arith)), pairs_rise names es (λ i j d k l. h (suc i) (suc j) d (omega arith) (omega arith)))
  where
    after : (fs : List (ℕ × ℕ)) → ((i : ℕ) (d : ℕ × ℕ) → i < length fs → comes_before names e (get_or fs i d) ≡ true) → AllByRecursion (λ (f : ℕ × ℕ). slice_cmp nat_cmp (key_bytes names e) (key_bytes names f) ≡ Less) fs
    after [] h = tt
    after (f ∷ fs) h = (less_from (slice_cmp nat_cmp (key_bytes names e) (key_bytes names f)) (h 0 e (omega arith)), after fs (λ i d k. h (suc i) d (omega arith)))

kept_count : (names : List (List ℕ)) (node : AttrNode) → IsKept names node → count_reason node ≡ None
kept_count names (attr.Dict es) h = rw (le-leb (length es) most_entries h.0) refl
kept_count names _ h = refl

kept_once : (names : List (List ℕ)) (node : AttrNode) → AreApart names → IsKept names node → key_reason node ≡ None
kept_once names (attr.Dict es) apart h = rw (no_duplicates (map (λ (e : ℕ × ℕ). e.0) es) (rise_distinct names apart es (pairs_rise names es h.1))) refl
kept_once names _ apart h = refl

-- a known item is refused only if memory runs out
pub known_name_reason : (c : ContextModel) (n : ℕ) (bytes : List ℕ) → slice_get c.names n ≡ Some bytes → name_reason bytes c ≡ None
known_name_reason c n bytes at = found_headroom (bytes_eq bytes) c.names (known_found bytes_eq name_is name_refl bytes c.names n at)

pub known_type_reason : (c : ContextModel) (n : ℕ) (node : TypeNode) → Holds c → slice_get c.types n ≡ Some node → type_reason node c ≡ None
known_type_reason c n node h at =
    let fault : type_fault (type_node_term c node) ≡ None = ap type_fault (sym (type_term_is c n node h at)) ∙ h.types_fine n (slice_get_within c.types n node at) in
    neither_back (type_fault (type_node_term c node)) (full_reason (same_type node) c.types) fault (found_headroom (same_type node) c.types (known_found same_type same_type_is same_type_refl node c.types n at))

pub known_attr_reason : (c : ContextModel) (n : ℕ) (node : AttrNode) → IsSound c → slice_get c.attrs n ≡ Some node → attr_reason node c ≡ None
known_attr_reason c n node s at =
    let h = s.holds in
    let fault : attr_fault (attr_node_term c node) ≡ None = ap attr_fault (sym (attr_term_is c n node h at)) ∙ h.attrs_fine n (slice_get_within c.attrs n node at) in
    let in_order = h.attrs_kept n node at in
    let there = ap (λ k. full_reason (same_attr k) c.attrs) (kept_known c n node h at) ∙ found_headroom (same_attr node) c.attrs (known_found same_attr same_attr_is same_attr_refl node c.attrs n at) in
    let full = full_reason (same_attr (kept c.names node)) c.attrs in
    neither_back (attr_fault (attr_node_term c node)) (first_reason (count_reason node) (first_reason full (key_reason node))) fault
    (neither_back (count_reason node) (first_reason full (key_reason node)) (kept_count c.names node in_order)
    (neither_back full (key_reason node) there (kept_once c.names node s.names_apart in_order)))

-- the order in which a dictionary's entries are given doesn't matter
pub moved_entries : (c : ContextModel) (xs ys : List (ℕ × ℕ)) → IsSound c → AttrIsOf c (attr.Dict xs) → key_reason (attr.Dict xs) ≡ None → IsPermutation xs ys → with_attr (attr.Dict xs) c ≡ with_attr (attr.Dict ys) c
unfolding with_attr kept
moved_entries c xs ys s of_c once moved =
    ap (λ es. (position_or_len (same_attr (attr.Dict es)) c.attrs, record c { attrs = with_last (same_attr (attr.Dict es)) (attr.Dict es) c.attrs }))
    (sorted_moved c.names s.names_apart xs ys of_c.0 moved (each_once (has_duplicate (map (λ (e : ℕ × ℕ). e.0) xs)) once))
