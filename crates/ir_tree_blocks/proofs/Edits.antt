-- Edits of heads that keep the form.
use Rattle.std.proofs.Common.{◌≡◌, refl, ap, sym, ◌∙◌, ℕ, zero, suc, Bool, true, false, true≢false, cond, not, ◌&&◌, ◌||◌, eqb, List, [], ◌∷◌, ◌++◌, map, Option, Some, None, inl, inr}
use Rattle.std.specs.Prelude.{codes, slice_set, option_and_then}
use Rattle.std.specs.Str.{bytes_eq}
use Rattle.std.specs.List.{list_all}
use Rattle.ir_tree.specs.declared.value.Value.{Value}
use Rattle.ir_tree.specs.declared.place.Part.{Part}
use Rattle.ir_tree.specs.declared.place.Part.TheVariants.{Props, Attrs}
use Rattle.ir_tree.specs.types.Terms.{AttrTerm}
use Rattle.ir_tree.specs.Tree.{op, no_regions, region, empty, block, no_ops, next, head, regions}
use Rattle.ir_tree.specs.Limits.{every, regions_every, region_every, ops_every}
use Rattle.ir_tree.specs.Meaning.{Operation, key_before}
use Rattle.ir_tree.specs.Edits.{each_head, regions_each_head, region_each_head, ops_each_head, at, put_operand, with_operand, put_value, put_values, with_value_replaced, same_key, put_entry, drop_entry, change_entry, entry_at, change_part, with_entry}
use Rattle.ir_types.proofs.Growth.{name_refl}
use Rattle.ir_tree_laws.proofs.Keys.{keys_ordered}
use Rattle.ir_tree_laws.proofs.Listed.{bool_cases, both, neither, not_false}
use Rattle.ir_tree_blocks.specs.Flat.{Head}
use Rattle.ir_tree_blocks.specs.Scopes.{is_some, number_in, numbers_in, is_scope, order_of, label_of, or_zero, or_none, is_unreachable, successors_in, successors_of}
use Rattle.ir_tree_blocks.specs.Reserved.{is_reserved}
use Rattle.ir_tree_blocks.specs.Nesting.{Regions, Region, Ops, all_differ}
use Rattle.ir_tree_blocks.specs.Form.{is_nil, PlacedBlock, named_in, placed_under, placed_in, placed_in_regions, placed_in_region, all_regions, each_region, has_one_block, has_label, is_shaped, labels_differ, only_scopes, ends_in_scopes, only_last_names, all_lists, each_block, names_in_sight, is_lexical, IsInForm}

-- heads that say the same of blocks
pub record SameScope (a b : Head) : Type 0 where
  pub scope : is_scope a ≡ is_scope b
  pub order : order_of a ≡ order_of b
  pub mark : is_unreachable a ≡ is_unreachable b
  pub successors : successors_of a ≡ successors_of b
  pub operands : is_nil a.operands ≡ is_nil b.operands
  pub results : is_nil a.results ≡ is_nil b.results

module _ (g : Head → Head) (same : (h : Head) → SameScope (g h) h) where
  head_same : (o : Operation) → SameScope (head (each_head g o)) (head o)
  head_same (op h rs) = same h

  named_same : (os : Ops) → named_in (ops_each_head g os) ≡ named_in os
  named_same no_ops = refl
  named_same (next o os) = λ i. cond ((head_same o).scope i) [] ((head_same o).successors i) ++ named_same os i

  mutual
    under_same : (ls : List ℕ) (u : Bool) (os : Ops) → placed_under ls u (ops_each_head g os) ≡ placed_under ls u os
    under_same ls u no_ops = refl
    under_same ls u (next o os) = λ i. cond ((head_same o).scope i) (in_same ls u o i) [] ++ under_same ls u os i

    in_same : (ls : List ℕ) (u : Bool) (o : Operation) → placed_in ls u (each_head g o) ≡ placed_in ls u o
    in_same ls u (op h rs) =
        (λ i. placed_in_regions (or_zero ((same h).order i)) ls (u || (same h).mark i) (regions_each_head g rs)) ∙ regions_same (label_of h) ls (u || is_unreachable h) rs

    regions_same : (l : ℕ) (ls : List ℕ) (u : Bool) (rs : Regions) → placed_in_regions l ls u (regions_each_head g rs) ≡ placed_in_regions l ls u rs
    regions_same l ls u no_regions = refl
    regions_same l ls u (region q rs) = region_same l ls u q

    region_same : (l : ℕ) (ls : List ℕ) (u : Bool) (q : Region) → placed_in_region l ls u (region_each_head g q) ≡ placed_in_region l ls u q
    region_same l ls u empty = refl
    region_same l ls u (block args os) = λ i. (let here : PlacedBlock = record { label = l; around = ls; unreachable = u; names = named_same os i } in here) ∷ under_same (l ∷ ls) u os i

  all_same : (p : Region → Bool) → ((q : Region) → p (region_each_head g q) ≡ p q) → (rs : Regions) → all_regions p (regions_each_head g rs) ≡ all_regions p rs
  all_same p f no_regions = refl
  all_same p f (region q rs) = λ i. f q i && all_same p f rs i

  lists_same : (p : Ops → Bool) → ((os : Ops) → p (ops_each_head g os) ≡ p os) → (rs : Regions) → all_lists p (regions_each_head g rs) ≡ all_lists p rs
  lists_same p f no_regions = refl
  lists_same p f (region empty rs) = lists_same p f rs
  lists_same p f (region (block args os) rs) = λ i. f os i && lists_same p f rs i

  module _ (p : Operation → Bool) (f : (o : Operation) → p (each_head g o) ≡ p o) where
    mutual
      every_same : (t : Operation) → every p (each_head g t) ≡ every p t
      every_same (op h rs) = λ i. f (op h rs) i && regions_every_same rs i

      regions_every_same : (rs : Regions) → regions_every p (regions_each_head g rs) ≡ regions_every p rs
      regions_every_same no_regions = refl
      regions_every_same (region q rs) = λ i. region_every_same q i && regions_every_same rs i

      region_every_same : (q : Region) → region_every p (region_each_head g q) ≡ region_every p q
      region_every_same empty = refl
      region_every_same (block args os) = ops_every_same os

      ops_every_same : (os : Ops) → ops_every p (ops_each_head g os) ≡ ops_every p os
      ops_every_same no_ops = refl
      ops_every_same (next o os) = λ i. every_same o i && ops_every_same os i

  one_same : (rs : Regions) → has_one_block (regions_each_head g rs) ≡ has_one_block rs
  one_same no_regions = refl
  one_same (region empty rs) = refl
  one_same (region (block args os) no_regions) = refl
  one_same (region (block args os) (region q rs)) = refl

  shaped_same : (o : Operation) → is_shaped (each_head g o) ≡ is_shaped o
  shaped_same (op h rs) = λ i. not ((same h).scope i) || ((same h).operands i && ((same h).results i && (has_label ((same h).order i) && one_same rs i)))

  tested_same : (p : Region → Bool) → ((q : Region) → p (region_each_head g q) ≡ p q) → (t : Operation) → each_region p (each_head g t) ≡ each_region p t
  tested_same p f t = every_same (λ o. is_scope (head o) || all_regions p (regions o)) by t
    where
      by : (o : Operation) → (is_scope (head (each_head g o)) || all_regions p (regions (each_head g o))) ≡ (is_scope (head o) || all_regions p (regions o))
      by (op h rs) = λ i. (same h).scope i || all_same p f rs i

  block_same : (p : Ops → Bool) → ((os : Ops) → p (ops_each_head g os) ≡ p os) → (t : Operation) → each_block p (each_head g t) ≡ each_block p t
  block_same p f t = every_same (λ o. all_lists p (regions o)) by t
    where
      by : (o : Operation) → all_lists p (regions (each_head g o)) ≡ all_lists p (regions o)
      by (op h rs) = lists_same p f rs

  only_same : (os : Ops) → only_scopes (ops_each_head g os) ≡ only_scopes os
  only_same no_ops = refl
  only_same (next o os) = λ i. (head_same o).scope i && only_same os i

  ends_same : (os : Ops) → ends_in_scopes (ops_each_head g os) ≡ ends_in_scopes os
  ends_same no_ops = refl
  ends_same (next o os) = λ i. cond ((head_same o).scope i) (only_same os i) (ends_same os i)

  last_same : (os : Ops) → only_last_names (ops_each_head g os) ≡ only_last_names os
  last_same no_ops = refl
  last_same (next o os) = λ i. ((head_same o).scope i || (is_nil ((head_same o).successors i) || only_same os i)) && last_same os i

  differ_same : (q : Region) → labels_differ (region_each_head g q) ≡ labels_differ q
  differ_same q = ap (λ ps. all_differ (map (λ (b : PlacedBlock). b.label) ps)) (region_same 0 [] false q)

  lexical_same : (q : Region) → is_lexical (region_each_head g q) ≡ is_lexical q
  lexical_same q = ap (λ ps. list_all (names_in_sight ps) ps) (region_same 0 [] false q)

  pub each_in_form : (t : Operation) → IsInForm t → IsInForm (each_head g t)
  each_in_form t f = record {
    scopes = record {
      root = (head_same t).scope ∙ f.scopes.root;
      shaped = every_same is_shaped shaped_same t ∙ f.scopes.shaped;
      labels = tested_same labels_differ differ_same t ∙ f.scopes.labels;
    };
    scopes_last = block_same ends_in_scopes ends_same t ∙ f.scopes_last;
    terminators = block_same only_last_names last_same t ∙ f.terminators;
    lexical = tested_same is_lexical lexical_same t ∙ f.lexical;
  }

-- edits of operands
operands_same : (h : Head) (vs : List Value) → is_nil vs ≡ is_nil h.operands → SameScope (record h { operands = vs }) h
unfolding is_scope order_of is_unreachable successors_in
operands_same h vs e = record { scope = refl; order = refl; mark = refl; successors = refl; operands = e; results = refl }

unchanged : (h : Head) → SameScope h h
unchanged h = record { scope = refl; order = refl; mark = refl; successors = refl; operands = refl; results = refl }

set_nil : (vs : List Value) (k : ℕ) (v : Value) → is_nil (slice_set vs k v) ≡ is_nil vs
set_nil [] zero v = refl
set_nil [] (suc k) v = refl
set_nil (w ∷ vs) zero v = refl
set_nil (w ∷ vs) (suc k) v = refl

map_nil : (f : Value → Value) (vs : List Value) → is_nil (map f vs) ≡ is_nil vs
map_nil f [] = refl
map_nil f (v ∷ vs) = refl

at_same : (x k : ℕ) (v : Value) (h : Head) → SameScope (at x (put_operand k v) h) h
at_same x k v h = elim (eqb h.id x) as (λ c. SameScope (cond c (put_operand k v h) h) h) [ true ↦ operands_same h (slice_set h.operands k v) (set_nil h.operands k v) | false ↦ unchanged h ]

pub operand_in_form : (x k : ℕ) (v : Value) (t : Operation) → IsInForm t → IsInForm (with_operand x k v t)
operand_in_form x k v t f = each_in_form (at x (put_operand k v)) (at_same x k v) t f

pub replaced_in_form : (v w : Value) (t : Operation) → IsInForm t → IsInForm (with_value_replaced v w t)
replaced_in_form v w t f = each_in_form (put_values v w) (λ h. operands_same h (map (put_value v w) h.operands) (map_nil (put_value v w) h.operands)) t f

-- edits of an entry
same_is : (q k : List ℕ) → same_key key_before q k ≡ true → q ≡ k
same_is q k e =
    let b = both (not (key_before q k)) (not (key_before k q)) e in
    keys_ordered.exact q k (not_false (key_before q k) b.0) (not_false (key_before k q) b.1)

differs : (q k : List ℕ) → (q ≡ k → ⊥) → same_key key_before q k ≡ false
differs q k ne = elim (bool_cases (same_key key_before q k)) [ inl e ↦ absurd (ne (same_is q k e)) | inr e ↦ e ]

module _ (q k : List ℕ) (ne : q ≡ k → ⊥) where
  put_step : (a : AttrTerm) (e : List ℕ × AttrTerm) (es : List (List ℕ × AttrTerm)) → entry_at key_before q (put_entry key_before k a es) ≡ entry_at key_before q es → (s t : Bool) → key_before k e.0 ≡ s → key_before e.0 k ≡ t
      → entry_at key_before q (cond s ((k, a) ∷ e ∷ es) (cond t (e ∷ put_entry key_before k a es) ((k, a) ∷ es))) ≡ entry_at key_before q (e ∷ es)
  put_step a e es rest true t x y = ap (λ c. cond c (Some a) (entry_at key_before q (e ∷ es))) (differs q k ne)
  put_step a e es rest false true x y = ap (λ o. cond (same_key key_before q e.0) (Some e.1) o) rest
  put_step a e es rest false false x y =
      let same : k ≡ e.0 = keys_ordered.exact k e.0 x y in
      ap (λ c. cond c (Some a) (entry_at key_before q es)) (differs q k ne)
      ∙ sym (ap (λ c. cond c (Some e.1) (entry_at key_before q es)) (differs q e.0 (λ z. ne (z ∙ sym same))))

  put_other : (a : AttrTerm) (es : List (List ℕ × AttrTerm)) → entry_at key_before q (put_entry key_before k a es) ≡ entry_at key_before q es
  put_other a [] = ap (λ c. cond c (Some a) None) (differs q k ne)
  put_other a (e ∷ es) = put_step a e es (put_other a es) (key_before k e.0) (key_before e.0 k) refl refl

  drop_step : (e : List ℕ × AttrTerm) (es : List (List ℕ × AttrTerm)) → entry_at key_before q (drop_entry key_before k es) ≡ entry_at key_before q es → (s : Bool) → same_key key_before k e.0 ≡ s
      → entry_at key_before q (cond s es (e ∷ drop_entry key_before k es)) ≡ entry_at key_before q (e ∷ es)
  drop_step e es rest true x = sym (ap (λ c. cond c (Some e.1) (entry_at key_before q es)) (differs q e.0 (λ z. ne (z ∙ sym (same_is k e.0 x)))))
  drop_step e es rest false x = ap (λ o. cond (same_key key_before q e.0) (Some e.1) o) rest

  drop_other : (es : List (List ℕ × AttrTerm)) → entry_at key_before q (drop_entry key_before k es) ≡ entry_at key_before q es
  drop_other [] = refl
  drop_other (e ∷ es) = drop_step e es (drop_other es) (same_key key_before k e.0) refl

  changed_other : (a : Option AttrTerm) (es : List (List ℕ × AttrTerm)) → entry_at key_before q (change_entry key_before k a es) ≡ entry_at key_before q es
  changed_other None es = drop_other es
  changed_other (Some a) es = put_other a es

-- a key that isn't one of those for blocks
free_of : (q k : List ℕ) → bytes_eq k q ≡ false → q ≡ k → ⊥
free_of q k e z = true≢false (sym (ap (bytes_eq k) z ∙ name_refl k) ∙ e)

record Entries (es fs : List (List ℕ × AttrTerm)) : Type 0 where
  order : entry_at key_before (codes "order") es ≡ entry_at key_before (codes "order") fs
  mark : entry_at key_before (codes "unreachable") es ≡ entry_at key_before (codes "unreachable") fs
  successors : entry_at key_before (codes "cf.successors") es ≡ entry_at key_before (codes "cf.successors") fs

changed_entries : (k : List ℕ) → is_reserved k ≡ false → (a : Option AttrTerm) (es : List (List ℕ × AttrTerm)) → Entries (change_entry key_before k a es) es
changed_entries k e a es =
    let b = neither (bytes_eq k (codes "order")) (bytes_eq k (codes "unreachable") || bytes_eq k (codes "cf.successors")) e in
    let c = neither (bytes_eq k (codes "unreachable")) (bytes_eq k (codes "cf.successors")) b.1 in
    record {
      order = changed_other (codes "order") k (free_of (codes "order") k b.0) a es;
      mark = changed_other (codes "unreachable") k (free_of (codes "unreachable") k c.0) a es;
      successors = changed_other (codes "cf.successors") k (free_of (codes "cf.successors") k c.1) a es;
    }

attributes_same : (h : Head) (es : List (List ℕ × AttrTerm)) → Entries es h.attributes → SameScope (record h { attributes = es }) h
unfolding is_scope order_of is_unreachable successors_in
attributes_same h es e = record {
  scope = refl;
  order = ap (λ o. option_and_then number_in o) e.order;
  mark = ap is_some e.mark;
  successors = ap (λ o. or_none (option_and_then numbers_in o)) e.successors;
  operands = refl;
  results = refl;
}

properties_same : (h : Head) (es : List (List ℕ × AttrTerm)) → SameScope (record h { properties = es }) h
unfolding is_scope order_of is_unreachable successors_in
properties_same h es = record { scope = refl; order = refl; mark = refl; successors = refl; operands = refl; results = refl }

part_same : (part : Part) (k : List ℕ) → is_reserved k ≡ false → (a : Option AttrTerm) (h : Head) → SameScope (change_part part (change_entry key_before k a) h) h
part_same Props k e a h = properties_same h (change_entry key_before k a h.properties)
part_same Attrs k e a h = attributes_same h (change_entry key_before k a h.attributes) (changed_entries k e a h.attributes)

entry_same : (x : ℕ) (part : Part) (k : List ℕ) → is_reserved k ≡ false → (a : Option AttrTerm) (h : Head) → SameScope (at x (change_part part (change_entry key_before k a)) h) h
entry_same x part k e a h = elim (eqb h.id x) as (λ c. SameScope (cond c (change_part part (change_entry key_before k a) h) h) h) [ true ↦ part_same part k e a h | false ↦ unchanged h ]

pub entry_in_form : (x : ℕ) (part : Part) (k : List ℕ) (a : Option AttrTerm) (t : Operation) → is_reserved k ≡ false → IsInForm t → IsInForm (with_entry key_before x part k a t)
entry_in_form x part k a t e f = each_in_form (at x (change_part part (change_entry key_before k a))) (entry_same x part k e a) t f
