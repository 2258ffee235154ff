-- The tests of the form, taken together, are the five conditions.
use Rattle.std.proofs.Common.{◌≡◌, ◌∙◌, refl, sym, Bool, true, false, true≢false, not, ◌&&◌, ◌||◌}
use Rattle.std.specs.Prelude.{IsTrue, ◌↔◌}
use Rattle.ir_tree.specs.types.Things.{ContextModel}
use Rattle.ir_tree.specs.types.Terms.{name_term, type_term, attr_term}
use Rattle.ir_tree.specs.Tree.{Op, no_regions, region, empty, block, head, regions}
use Rattle.ir_tree.specs.Limits.{every}
use Rattle.ir_tree.specs.Meaning.{Operation, meaning}
use Rattle.ir_tree.proofs.Mapped.{map_every}
use Rattle.ir_tree.proofs.Meanings.{every_follows}
use Rattle.ir_tree_laws.proofs.Listed.{both, both_hold, not_false}
use Rattle.ir_tree_blocks.specs.Scopes.{is_scope}
use Rattle.ir_tree_blocks.specs.Nesting.{Ops, Region, Regions}
use Rattle.ir_tree_blocks.specs.Form.{all_lists, all_regions, ends_in_scopes, is_lexical, is_shaped, labels_differ, only_last_names}
use Rattle.ir_tree_blocks.specs.Whole.{IsNested, has_good_labels, has_good_regions, is_each_formed, is_formed, is_nested, is_ordered, keeps_single_blocks}

pub every_meaning : (c : ContextModel) (p : Operation → Bool) (t : Op) → every (λ o. p (meaning c o)) t ≡ every p (meaning c t)
every_meaning c p t = sym (map_every (name_term c) (type_term c) (attr_term c) (λ o. p (meaning c o)) p (λ o. refl) t)

follows : (p q : Operation → Bool) → ((o : Operation) → p o ≡ true → q o ≡ true) → (t : Operation) → every p t ≡ true → every q t ≡ true
follows p q f t h = every_follows p p q (λ o k l. f o k) t h h

regions_split : (p q : Region → Bool) (rs : Regions) → all_regions (λ g. p g && q g) rs ≡ true → (all_regions p rs ≡ true) × (all_regions q rs ≡ true)
regions_split p q no_regions h = (refl, refl)
regions_split p q (region g rs) h =
    let a = both (p g && q g) (all_regions (λ g. p g && q g) rs) h in
    let b = both (p g) (q g) a.0 in
    let r = regions_split p q rs a.1 in
    (both_hold (p g) (all_regions p rs) b.0 r.0, both_hold (q g) (all_regions q rs) b.1 r.1)

regions_join : (p q : Region → Bool) (rs : Regions) → all_regions p rs ≡ true → all_regions q rs ≡ true → all_regions (λ g. p g && q g) rs ≡ true
regions_join p q no_regions h k = refl
regions_join p q (region g rs) h k =
    let a = both (p g) (all_regions p rs) h in
    let b = both (q g) (all_regions q rs) k in
    both_hold (p g && q g) (all_regions (λ g. p g && q g) rs) (both_hold (p g) (q g) a.0 b.0) (regions_join p q rs a.1 b.1)

lists_split : (p q : Ops → Bool) (rs : Regions) → all_lists (λ os. p os && q os) rs ≡ true → (all_lists p rs ≡ true) × (all_lists q rs ≡ true)
lists_split p q no_regions h = (refl, refl)
lists_split p q (region empty rs) h = lists_split p q rs h
lists_split p q (region (block args os) rs) h =
    let a = both (p os && q os) (all_lists (λ os. p os && q os) rs) h in
    let b = both (p os) (q os) a.0 in
    let r = lists_split p q rs a.1 in
    (both_hold (p os) (all_lists p rs) b.0 r.0, both_hold (q os) (all_lists q rs) b.1 r.1)

lists_join : (p q : Ops → Bool) (rs : Regions) → all_lists p rs ≡ true → all_lists q rs ≡ true → all_lists (λ os. p os && q os) rs ≡ true
lists_join p q no_regions h k = refl
lists_join p q (region empty rs) h k = lists_join p q rs h k
lists_join p q (region (block args os) rs) h k =
    let a = both (p os) (all_lists p rs) h in
    let b = both (q os) (all_lists q rs) k in
    both_hold (p os && q os) (all_lists (λ os. p os && q os) rs) (both_hold (p os) (q os) a.0 b.0) (lists_join p q rs a.1 b.1)

or_split : (s a b c : Bool) → (a ≡ true → (b ≡ true) × (c ≡ true)) → (s || a) ≡ true → ((s || b) ≡ true) × ((s || c) ≡ true)
or_split true a b c f h = (refl, refl)
or_split false a b c f h = f h

or_join : (s a b c : Bool) → (b ≡ true → c ≡ true → a ≡ true) → (s || b) ≡ true → (s || c) ≡ true → (s || a) ≡ true
or_join true a b c f h k = refl
or_join false a b c f h k = f h k

labelled : (o : Operation) → has_good_regions o ≡ true → ((is_scope (head o) || all_regions labels_differ (regions o)) ≡ true) × ((is_scope (head o) || all_regions is_lexical (regions o)) ≡ true)
labelled o h = or_split (is_scope (head o)) (all_regions has_good_labels (regions o)) (all_regions labels_differ (regions o)) (all_regions is_lexical (regions o)) (regions_split labels_differ is_lexical (regions o)) h

pub form_from : (t : Operation) → is_nested t ≡ true → IsNested t
form_from t h =
    let a = both (is_each_formed t) (every has_good_regions t) h in
    let b = both (not (is_scope (head t))) (every is_formed t) a.0 in
    let own = λ (o : Operation) (k : is_formed o ≡ true). both (is_shaped o) (all_lists is_ordered (regions o) && keeps_single_blocks o) k in
    let lists = λ (o : Operation) (k : is_formed o ≡ true). both (all_lists is_ordered (regions o)) (keeps_single_blocks o) (own o k).1 in
    let order = λ (o : Operation) (k : is_formed o ≡ true). lists_split ends_in_scopes only_last_names (regions o) (lists o k).0 in
    record {
      form = record {
        scopes = record {
          root = not_false (is_scope (head t)) b.0;
          shaped = follows is_formed is_shaped (λ o k. (own o k).0) t b.1;
          labels = follows has_good_regions (λ o. is_scope (head o) || all_regions labels_differ (regions o)) (λ o k. (labelled o k).0) t a.1;
        };
        scopes_last = follows is_formed (λ o. all_lists ends_in_scopes (regions o)) (λ o k. (order o k).0) t b.1;
        terminators = follows is_formed (λ o. all_lists only_last_names (regions o)) (λ o k. (order o k).1) t b.1;
        lexical = follows has_good_regions (λ o. is_scope (head o) || all_regions is_lexical (regions o)) (λ o k. (labelled o k).1) t a.1;
      };
      single_blocks = follows is_formed keeps_single_blocks (λ o k. (lists o k).1) t b.1;
    }

not_true : (b : Bool) → b ≡ false → not b ≡ true
not_true true h = absurd (true≢false h)
not_true false h = refl

pub form_to : (t : Operation) → IsNested t → is_nested t ≡ true
form_to t n =
    let ordered : every (λ o. all_lists is_ordered (regions o)) t ≡ true =
    every_follows (λ o. all_lists ends_in_scopes (regions o)) (λ o. all_lists only_last_names (regions o)) (λ o. all_lists is_ordered (regions o))
    (λ o. lists_join ends_in_scopes only_last_names (regions o)) t n.form.scopes_last n.form.terminators in
    let later : every (λ o. all_lists is_ordered (regions o) && keeps_single_blocks o) t ≡ true =
    every_follows (λ o. all_lists is_ordered (regions o)) keeps_single_blocks (λ o. all_lists is_ordered (regions o) && keeps_single_blocks o)
    (λ o. both_hold (all_lists is_ordered (regions o)) (keeps_single_blocks o)) t ordered n.single_blocks in
    let each : every is_formed t ≡ true =
    every_follows is_shaped (λ o. all_lists is_ordered (regions o) && keeps_single_blocks o) is_formed
    (λ o. both_hold (is_shaped o) (all_lists is_ordered (regions o) && keeps_single_blocks o)) t n.form.scopes.shaped later in
    let good : every has_good_regions t ≡ true =
    every_follows (λ o. is_scope (head o) || all_regions labels_differ (regions o)) (λ o. is_scope (head o) || all_regions is_lexical (regions o)) has_good_regions
    (λ o. or_join (is_scope (head o)) (all_regions has_good_labels (regions o)) (all_regions labels_differ (regions o)) (all_regions is_lexical (regions o)) (regions_join labels_differ is_lexical (regions o)))
    t n.form.scopes.labels n.form.lexical in
    both_hold (is_each_formed t) (every has_good_regions t) (both_hold (not (is_scope (head t))) (every is_formed t) (not_true (is_scope (head t)) n.form.scopes.root) each) good

pub nested_is : (b : Bool) (t : Operation) → b ≡ is_nested t → IsTrue b ↔ IsNested t
nested_is b t e = (λ h. form_from t (sym e ∙ h), λ n. e ∙ form_to t n)
