-- An operation that is built from ids denotes the operation that is built from what they denote.
use Rattle.std.specs.Prelude.{not, if◌then◌else◌}
use Rattle.std.specs.List.{list_all}
use Rattle.std.proofs.Common.{◌≡◌, ℕ, Bool, true, false, true≢false, List, [], ◌∷◌, ◌++◌, length, map, Some, refl, sym, ap}
use Rattle.std.proofs.lemmas.Bool.{lt-ltb, and_from}
use Rattle.ir_types.specs.Things.{ContextModel}
use Rattle.ir_types.specs.Terms.{TypeTerm, name_term, type_term, attr_term}
use Rattle.ir_tree.specs.declared.value.Value.{Value}
use Rattle.ir_tree.specs.Tree as tree
use Rattle.ir_tree.specs.Tree.{Op, Region, regions_of}
use Rattle.ir_tree.specs.Limits.{regions_every, all_arguments_pass, arguments_pass, region_every}
use Rattle.ir_tree.specs.Maps.{map_entry, map_regions}
use Rattle.ir_tree.specs.Passing.{entry_passes, op_passes}
use Rattle.ir_tree.specs.Meaning.{is_name, is_type, is_attr, key_before, key_before_in}
use Rattle.ir_text_types.specs.Denotation.{NameDenotes, TypeDenotes}
use Rattle.ir_text_types.specs.Laws.{Each}
use Rattle.ir_text_names.specs.declared.bound.TypedValue.{TypedValue}
use Rattle.ir_text_operations.specs.Entries.{moved, staying, properties_of, attributes_of}
use Rattle.ir_text_attributes.specs.Keyed.{insert_sorted, in_order}
use Rattle.ir_text_attributes.specs.AttrReading.{Entries}
use Rattle.ir_text_operations.specs.EntryReading.{is_property_in}
use Rattle.ir_text_operations.specs.Made.{made}
use Rattle.ir_text_operations.specs.OpReading.{values_of, op_of}
use Rattle.ir_text_operations.specs.ParseState.{BoundTerm}
use Rattle.ir_text_attributes.specs.AttrGrammar.{EntryTerm}
use Rattle.ir_text_operations.specs.OpGrammar.{RegionTerm, is_property}
use Rattle.ir_text_operations.specs.Denotation.{BoundDenotes, EntryDenotes, RegionDenotes, OpDenotes}
use Rattle.ir_text_operations.proofs.EntryLaws.{each_filter, property_agrees}
use Rattle.ir_text_operations.proofs.BlockLaws.{types_known, types_are}

-- ---- sorted entries

module _ {A B : Type 0} (R : ContextModel → A → B → Type 0) (z : ContextModel) where
  each_append : (xs : List A) (ys : List B) (us : List A) (vs : List B) → Each R z xs ys → Each R z us vs → Each R z (xs ++ us) (ys ++ vs)
  each_append [] [] us vs h k = k
  each_append [] (y ∷ ys) us vs h k = absurd h
  each_append (x ∷ xs) [] us vs h k = absurd h
  each_append (x ∷ xs) (y ∷ ys) us vs h k = (h.0, each_append xs ys us vs h.1 k)

module _ {K L A B : Type 0} (R : ContextModel → K × A → L × B → Type 0) (z : ContextModel) (before : K → K → Bool) (earlier : L → L → Bool)
    (same : (x u : K × A) (y v : L × B) → R z x y → R z u v → before x.0 u.0 ≡ earlier y.0 v.0) where
  each_among : (e : K × A) (f : L × B) (xs : List (K × A)) (ys : List (L × B)) → R z e f → Each R z xs ys → Each R z (insert_sorted before e xs) (insert_sorted earlier f ys)
  each_among e f [] [] r h = (r, tt)
  each_among e f [] (y ∷ ys) r h = absurd h
  each_among e f (x ∷ xs) [] r h = absurd h
  each_among e f (x ∷ xs) (y ∷ ys) r h = by_test (each_among e f xs ys r h.1) (before e.0 x.0) (earlier f.0 y.0) (same e x f y r h.0)
    where
      by_test : Each R z (insert_sorted before e xs) (insert_sorted earlier f ys) → (b c : Bool) → b ≡ c → Each R z (if b then e ∷ x ∷ xs else x ∷ insert_sorted before e xs) (if c then f ∷ y ∷ ys else y ∷ insert_sorted earlier f ys)
      by_test rest true true agree = (r, h)
      by_test rest true false agree = absurd (true≢false agree)
      by_test rest false true agree = absurd (true≢false (sym agree))
      by_test rest false false agree = (h.0, rest)

  each_order : (xs : List (K × A)) (ys : List (L × B)) → Each R z xs ys → Each R z (in_order before xs) (in_order earlier ys)
  each_order [] [] h = h
  each_order [] (y ∷ ys) h = absurd h
  each_order (x ∷ xs) [] h = absurd h
  each_order (x ∷ xs) (y ∷ ys) h = each_among x y (in_order before xs) (in_order earlier ys) h.0 (each_order xs ys h.1)

  module _ (test : K → Bool) (passes : L → Bool) (agrees : (x : K × A) (y : L × B) → R z x y → test x.0 ≡ passes y.0) where
    pub each_properties : (ps : List (K × A)) (qs : List (L × B)) (es : List (K × A)) (fs : List (L × B)) → Each R z ps qs → Each R z es fs → Each R z (properties_of test before ps es) (properties_of passes earlier qs fs)
    each_properties ps qs es fs h k =
        each_order (ps ++ moved test es) (qs ++ moved passes fs) (each_append R z ps qs (moved test es) (moved passes fs) h (each_filter R z (λ x. test x.0) (λ y. passes y.0) agrees es fs k))

    pub each_attributes : (es : List (K × A)) (fs : List (L × B)) → Each R z es fs → Each R z (attributes_of test before es) (attributes_of passes earlier fs)
    each_attributes es fs k = each_order (staying test es) (staying passes fs) (each_filter R z (λ x. not (test x.0)) (λ y. not (passes y.0)) (λ x y r. ap not (agrees x y r)) es fs k)

-- in two contexts at once
module _ {A B : Type 0} (R : ContextModel → A → B → Type 0) (c : ContextModel) where
  abbrev Twice : ContextModel → A → B → Type 0
  Twice z x y = R c x y × R z x y

  each_twice : (z : ContextModel) (xs : List A) (ys : List B) → Each R c xs ys → Each R z xs ys → Each Twice z xs ys
  each_twice z [] [] h k = tt
  each_twice z [] (y ∷ ys) h k = absurd h
  each_twice z (x ∷ xs) [] h k = absurd h
  each_twice z (x ∷ xs) (y ∷ ys) h k = ((h.0, k.0), each_twice z xs ys h.1 k.1)

  each_once : (z : ContextModel) (xs : List A) (ys : List B) → Each Twice z xs ys → Each R z xs ys
  each_once z [] [] h = tt
  each_once z [] (y ∷ ys) h = absurd h
  each_once z (x ∷ xs) [] h = absurd h
  each_once z (x ∷ xs) (y ∷ ys) h = (h.0.1, each_once z xs ys h.1)

-- ---- the meanings of the parts of an operation

entries_known : (z : ContextModel) (es : Entries) (fs : List EntryTerm) → Each EntryDenotes z es fs → list_all (entry_passes (is_name z) (is_attr z)) es ≡ true
entries_known z [] [] h = refl
entries_known z [] (y ∷ ys) h = absurd h
entries_known z (x ∷ xs) [] h = absurd h
entries_known z (x ∷ xs) (y ∷ ys) h =
    and_from (entry_passes (is_name z) (is_attr z) x) (list_all (entry_passes (is_name z) (is_attr z)) xs) (and_from (is_name z x.0) (is_attr z x.1) (lt-ltb x.0 (length z.names) h.0.0.0) (lt-ltb x.1 (length z.attrs) h.0.1.0)) (entries_known z xs ys h.1)

entries_are : (z : ContextModel) (es : Entries) (fs : List EntryTerm) → Each EntryDenotes z es fs → map (map_entry (name_term z) (attr_term z)) es ≡ fs
entries_are z [] [] h = refl
entries_are z [] (y ∷ ys) h = absurd h
entries_are z (x ∷ xs) [] h = absurd h
entries_are z (x ∷ xs) (y ∷ ys) h = λ i. (h.0.0.1 i, h.0.1.1 i) ∷ entries_are z xs ys h.1 i

values_are : (z : ContextModel) (os : List TypedValue) (us : List BoundTerm) → Each BoundDenotes z os us → values_of os ≡ map (λ b. b.value) us
values_are z [] [] h = refl
values_are z [] (y ∷ ys) h = absurd h
values_are z (x ∷ xs) [] h = absurd h
values_are z (x ∷ xs) (y ∷ ys) h = λ i. h.0.0 i ∷ values_are z xs ys h.1 i

module _ (z : ContextModel) where
  arguments_known : (gs : List Region) (ys : List RegionTerm) → Each RegionDenotes z gs ys → all_arguments_pass (list_all (is_type z)) (regions_of gs) ≡ true
  arguments_known [] [] h = refl
  arguments_known [] (y ∷ ys) h = absurd h
  arguments_known (x ∷ xs) [] h = absurd h
  arguments_known (x ∷ xs) (y ∷ ys) h = and_from (arguments_pass (list_all (is_type z)) x) (all_arguments_pass (list_all (is_type z)) (regions_of xs)) h.0.0 (arguments_known xs ys h.1)

  regions_known : (gs : List Region) (ys : List RegionTerm) → Each RegionDenotes z gs ys → regions_every (op_passes (is_name z) (is_type z) (is_attr z)) (regions_of gs) ≡ true
  regions_known [] [] h = refl
  regions_known [] (y ∷ ys) h = absurd h
  regions_known (x ∷ xs) [] h = absurd h
  regions_known (x ∷ xs) (y ∷ ys) h =
      and_from (region_every (op_passes (is_name z) (is_type z) (is_attr z)) x) (regions_every (op_passes (is_name z) (is_type z) (is_attr z)) (regions_of xs)) h.0.1 (regions_known xs ys h.1)

  regions_are : (gs : List Region) (ys : List RegionTerm) → Each RegionDenotes z gs ys → map_regions (name_term z) (type_term z) (attr_term z) (regions_of gs) ≡ regions_of ys
  regions_are [] [] h = refl
  regions_are [] (y ∷ ys) h = absurd h
  regions_are (x ∷ xs) [] h = absurd h
  regions_are (x ∷ xs) (y ∷ ys) h = λ i. tree.region (h.0.2 i) (regions_are xs ys h.1 i)

-- ---- the operation

module _ (c z : ContextModel) (id name : ℕ) (word : List ℕ) (operands : List TypedValue) (uses : List BoundTerm) (ps : Entries) (qs : List EntryTerm) (es : Entries) (fs : List EntryTerm)
    (outputs : List ℕ) (types : List TypeTerm) (gs : List Region) (ys : List RegionTerm)
    (first : NameDenotes c name word) (now : NameDenotes z name word) (used : Each BoundDenotes z operands uses) (ps_first : Each EntryDenotes c ps qs) (ps_now : Each EntryDenotes z ps qs) (es_first : Each EntryDenotes c es fs) (es_now : Each EntryDenotes z es fs)
    (typed : Each TypeDenotes z outputs types) (regions : Each RegionDenotes z gs ys) where
  abbrev Entry : ContextModel → ℕ × ℕ → EntryTerm → Type 0
  Entry = Twice EntryDenotes c

  order_agrees : (x u : ℕ × ℕ) (y v : EntryTerm) → Entry z x y → Entry z u v → key_before_in c x.0 u.0 ≡ key_before y.0 v.0
  order_agrees x u y v h k = λ i. key_before (h.0.0.1 i) (k.0.0.1 i)

  tests_agree : (x : ℕ × ℕ) (y : EntryTerm) → Entry z x y → is_property_in c (Some name) x.0 ≡ is_property (Some word) y.0
  tests_agree x y h = property_agrees c (Some name) (Some word) x.0 y.0 first h.0.0.1

  abbrev kept : Entries
  kept = properties_of (is_property_in c (Some name)) (key_before_in c) ps es

  abbrev kept_terms : List EntryTerm
  kept_terms = properties_of (is_property (Some word)) key_before qs fs

  abbrev others : Entries
  others = attributes_of (is_property_in c (Some name)) (key_before_in c) es

  abbrev other_terms : List EntryTerm
  other_terms = attributes_of (is_property (Some word)) key_before fs

  kept_stand : Each EntryDenotes z kept kept_terms
  kept_stand =
      each_once EntryDenotes c z kept kept_terms (each_properties Entry z (key_before_in c) key_before order_agrees (is_property_in c (Some name)) (is_property (Some word)) tests_agree ps qs es fs (each_twice EntryDenotes c z ps qs ps_first ps_now) (each_twice EntryDenotes c z es fs es_first es_now))

  others_stand : Each EntryDenotes z others other_terms
  others_stand =
      each_once EntryDenotes c z others other_terms (each_attributes Entry z (key_before_in c) key_before order_agrees (is_property_in c (Some name)) (is_property (Some word)) tests_agree es fs (each_twice EntryDenotes c z es fs es_first es_now))

  abbrev head_of : {N T A : Type 0} → N → List Value → List T → List (N × A) → List (N × A) → tree.HeadOf N T A
  head_of n vs ts props attrs = record { id = id; name = n; operands = vs; results = ts; properties = props; attributes = attrs }

  pub op_stands : OpDenotes z (op_of c id name operands ps es outputs gs) (made (is_property (Some word)) key_before id word (map (λ b. b.value) uses) qs fs types ys)
  op_stands = (
    and_from _ _
        (and_from _ _
        (and_from (is_name z name) _ (lt-ltb name (length z.names) now.0)
        (and_from (list_all (is_type z) outputs) _ (types_known z outputs types typed)
        (and_from (list_all (entry_passes (is_name z) (is_attr z)) kept) _ (entries_known z kept kept_terms kept_stand) (entries_known z others other_terms others_stand))))
        (arguments_known z gs ys regions))
        (regions_known z gs ys regions),
    λ i. tree.op (head_of (now.1 i) (values_are z operands uses used i) (types_are z outputs types typed i) (entries_are z kept kept_terms kept_stand i) (entries_are z others other_terms others_stand i)) (regions_are z gs ys regions i),
  )
