-- The parser and the grammar of dictionaries agree.
use Rattle.std.specs.Prelude.{if◌then◌else◌, nat_eq, nat_le, not, ◌||◌}
use Rattle.std.specs.List.{list_any, filter}
use Rattle.std.specs.Str.{bytes_eq}
use Rattle.std.proofs.Common.{◌≡◌, ◌+◌, ℕ, suc, Bool, true, false, true≢false, cond, List, [], ◌∷◌, length, Option, Some, None, refl, sym, ap, subst, ◌∙◌}
use Rattle.ir_text_tokens.specs.declared.token.Mark.TheVariants.{OpenCurly, CloseCurly, Less, Greater}
use Rattle.ir_types.specs.Things.{ContextModel, IsExtendedBy}
use Rattle.ir_types.specs.Terms.{name_term}
use Rattle.ir_types.specs.Words.{is_inherent}
use Rattle.ir_types.specs.Sound.{IsSound}
use Rattle.ir_types.proofs.Growth.{grows_trans}
use Rattle.ir_text_types.specs.Outcomes.{Outcome, Read, Wrong, ◌>>=◌}
use Rattle.ir_text_types.specs.Grammars.{When, Then, Done, After, IsMark}
use Rattle.ir_text_types.specs.Typed.{Typed, after_typed}
use Rattle.ir_text_attributes.specs.AttrReading.{Entries, key_at, value_at, attr_at}
use Rattle.ir_text_attributes.specs.AttrGrammar.{EntryTerm, IsKey, IsAttr}
use Rattle.ir_text_types.specs.Worlds.{From}
use Rattle.ir_text_types.specs.Denotation.{NameDenotes, AttrDenotes}
use Rattle.ir_text_types.specs.Laws.{Each}
use Rattle.ir_text_types.proofs.Worlds.{Exact, exact_where, exact_rendered, nothing_exact, then_exact, done_exact, after_exact, either_exact}
use Rattle.ir_text_types.proofs.TextLaws.{things, Same, typed_marks}
use Rattle.ir_text_attributes.proofs.PartLaws.{keys_agree, key_exact, value_exact}
use Rattle.ir_text_attributes.proofs.AttrLaws.{attr_exact}
use Rattle.ir_text_operations.specs.Entries.{moved, staying, is_refused}
use Rattle.ir_text_operations.specs.EntryReading.{is_property_in, refused_in, value_here, entry_at, entries_at, some_properties, properties_from, properties_at, attributes_from, attributes_at}
use Rattle.ir_text_operations.specs.OpGrammar.{is_property, IsEntryValue, IsOpEntry, IsEntries, IsProperties, IsAttributes}
use Rattle.ir_text_operations.specs.Denotation.{Both, EntryDenotes}
use Rattle.ir_text_operations.proofs.PrecedingLaws.{items_exact}

-- ---- lists whose items denote each other

module _ {A B : Type 0} (R : ContextModel → A → B → Type 0) (z : ContextModel) where
  pub each_length : (xs : List A) (ys : List B) → Each R z xs ys → length xs ≡ length ys
  each_length [] [] h = refl
  each_length [] (y ∷ ys) h = absurd h
  each_length (x ∷ xs) [] h = absurd h
  each_length (x ∷ xs) (y ∷ ys) h = ap suc (each_length xs ys h.1)

  module _ (f : A → Bool) (g : B → Bool) (same : (x : A) (y : B) → R z x y → f x ≡ g y) where
    any_same : (xs : List A) (ys : List B) → Each R z xs ys → list_any f xs ≡ list_any g ys
    any_same [] [] h = refl
    any_same [] (y ∷ ys) h = absurd h
    any_same (x ∷ xs) [] h = absurd h
    any_same (x ∷ xs) (y ∷ ys) h = λ i. same x y h.0 i || any_same xs ys h.1 i

    pub each_filter : (xs : List A) (ys : List B) → Each R z xs ys → Each R z (filter f xs) (filter g ys)
    each_filter [] [] h = h
    each_filter [] (y ∷ ys) h = absurd h
    each_filter (x ∷ xs) [] h = absurd h
    each_filter (x ∷ xs) (y ∷ ys) h = by_test (each_filter xs ys h.1) (f x) (g y) (same x y h.0)
      where
        by_test : Each R z (filter f xs) (filter g ys) → (b c : Bool) → b ≡ c → Each R z (cond b (x ∷ filter f xs) (filter f xs)) (cond c (y ∷ filter g ys) (filter g ys))
        by_test rest true true e = (h.0, rest)
        by_test rest true false e = absurd (true≢false e)
        by_test rest false true e = absurd (true≢false (sym e))
        by_test rest false false e = rest

-- ---- keys

pub property_agrees : (z : ContextModel) (op : Option ℕ) (name : Option (List ℕ)) (k : ℕ) (y : List ℕ) → Both NameDenotes z op name → name_term z k ≡ y → is_property_in z op k ≡ is_property name y
property_agrees z None None k y h e = refl
property_agrees z None (Some n) k y h e = absurd h
property_agrees z (Some o) None k y h e = absurd h
property_agrees z (Some o) (Some n) k y h e = λ i. is_inherent (h.1 i) (e i)

refused_same : (z : ContextModel) (op : Option ℕ) (name : Option (List ℕ)) (ps : Entries) (qs : List EntryTerm) (k : ℕ) (y : List ℕ) (es : Entries) (fs : List EntryTerm)
    → IsSound z → Both NameDenotes z op name → Each EntryDenotes z ps qs → NameDenotes z k y → Each EntryDenotes z es fs → refused_in z op ps k es ≡ is_refused bytes_eq (is_property name) qs y fs
refused_same z op name ps qs k y es fs sound o p h e =
    let key : (x : ℕ × ℕ) (v : EntryTerm) → EntryDenotes z x v → nat_eq x.0 k ≡ bytes_eq v.0 y = λ x v r. keys_agree z sound x.0 k v.0 y r.0 h in
    let property : (x : ℕ × ℕ) (v : EntryTerm) → EntryDenotes z x v → is_property_in z op x.0 ≡ is_property name v.0 = λ x v r. property_agrees z op name x.0 v.0 o r.0.1 in
    let before = any_same EntryDenotes z (λ x. nat_eq x.0 k) (λ v. bytes_eq v.0 y) key ps qs p in
    let here = any_same EntryDenotes z (λ x. nat_eq x.0 k) (λ v. bytes_eq v.0 y) key es fs e in
    let test = property_agrees z op name k y o h.1 in
    let all = each_length EntryDenotes z ps qs p in
    let some = each_length EntryDenotes z (moved (is_property_in z op) es) (moved (is_property name) fs) (each_filter EntryDenotes z (λ x. is_property_in z op x.0) (λ v. is_property name v.0) property es fs e) in
    let others = each_length EntryDenotes z (staying (is_property_in z op) es) (staying (is_property name) fs) (each_filter EntryDenotes z (λ x. not (is_property_in z op x.0)) (λ v. not (is_property name v.0)) (λ x v r. ap not (property x v r)) es fs e) in
    λ i. (before i || here i) || (if test i then nat_le 256 (all i + some i) else nat_le 256 (others i))

-- ---- entries

value_read : (o : Bool) (c : ContextModel) → c.opaque ≡ o → Exact things Same c AttrDenotes (value_here 32) (IsEntryValue o)
value_read o c mode =
    exact_where things Same c AttrDenotes (value_here 32) (value_at o 32) (IsEntryValue o) (λ s g sound. ap (λ b. value_at b 32 s) (g.opaque ∙ mode))
    (value_exact 32 (attr_at o 32) (IsAttr o 32) (attr_exact o 32) c)

abbrev with_value : ℕ → Outcome (ℕ × Typed) → Outcome ((ℕ × ℕ) × Typed)
with_value k o = o >>= λ a. Read ((k, a.0), a.1)

module _ (o : Bool) (d : ContextModel) (mode : d.opaque ≡ o) (k : ℕ) (y : List ℕ) (stands : From (λ z. NameDenotes z k y) d) where
  allowed_exact : (b : Bool) → Exact things Same d EntryDenotes (λ s. with_value k (if b then Wrong else value_here 32 s)) (When (b ≡ false) (Then (IsEntryValue o) (λ a. Done (y, a))))
  allowed_exact true =
      exact_rendered things Same d EntryDenotes (λ s. Wrong) (λ v old new. ⊥) (When (true ≡ false) (Then (IsEntryValue o) (λ a. Done (y, a)))) (λ v t t' e. absurd e) (λ v t t' e. absurd (true≢false e.0))
      (nothing_exact things Same d EntryDenotes)
  allowed_exact false =
      exact_rendered things Same d EntryDenotes (λ s. with_value k (value_here 32 s)) (Then (IsEntryValue o) (λ a. Done (y, a))) (When (false ≡ false) (Then (IsEntryValue o) (λ a. Done (y, a)))) (λ v t t' e. (refl, e)) (λ v t t' e. e.1)
      (then_exact things Same d AttrDenotes EntryDenotes (value_here 32) (IsEntryValue o) (λ a s. Read ((k, a), s)) (λ a. Done (y, a)) (value_read o d mode) (λ e a v g r.
      done_exact things Same e EntryDenotes (k, a) (y, v) (λ z j w. (stands z (grows_trans d e z g j) w, r z j w))))

module _ (base : ContextModel) (op : Option ℕ) (name : Option (List ℕ)) (ps : Entries) (qs : List EntryTerm) (names : From (λ z. Both NameDenotes z op name) base) (before : From (λ z. Each EntryDenotes z ps qs) base) where
  entry_exact : (c : ContextModel) (es : Entries) (fs : List EntryTerm) → IsExtendedBy base c → From (λ z. Each EntryDenotes z es fs) c → Exact things Same c EntryDenotes (entry_at op ps es) (IsOpEntry base.opaque name qs fs)
  unfolding entry_at
  entry_exact c es fs b preceding =
      then_exact things Same c NameDenotes EntryDenotes key_at IsKey (λ k s. with_value k (if refused_in s.1 op ps k es then Wrong else value_here 32 s)) (λ y. When (is_refused bytes_eq (is_property name) qs y fs ≡ false) (Then (IsEntryValue base.opaque) (λ a. Done (y, a))))
      (key_exact c) (λ d k y g r.
      exact_where things Same d EntryDenotes (λ s. with_value k (if refused_in s.1 op ps k es then Wrong else value_here 32 s)) (λ s. with_value k (if is_refused bytes_eq (is_property name) qs y fs then Wrong else value_here 32 s)) (When (is_refused bytes_eq (is_property name) qs y fs ≡ false) (Then (IsEntryValue base.opaque) (λ a. Done (y, a))))
      (λ s h sound.
      let up = grows_trans c d s.1 g h in
      let all = grows_trans base c s.1 b up in
      ap (λ t. with_value k (if t then Wrong else value_here 32 s)) (refused_same s.1 op name ps qs k y es fs sound (names s.1 all sound) (before s.1 all sound) (r s.1 h sound) (preceding s.1 up sound)))
      (allowed_exact base.opaque d (g.opaque ∙ b.opaque) k y r (is_refused bytes_eq (is_property name) qs y fs)))

  entries_exact : Exact things Same base (Each EntryDenotes) (entries_at op ps) (IsEntries base.opaque name qs)
  unfolding entries_at
  entries_exact = items_exact things Same base after_typed IsMark typed_marks EntryDenotes CloseCurly (entry_at op ps) (IsOpEntry base.opaque name qs) entry_exact 513

-- ---- both dictionaries

no_entries_exact : (c : ContextModel) → Exact things Same c (Each EntryDenotes) (λ s. Read ([], s)) (Done [])
no_entries_exact c = done_exact things Same c (Each EntryDenotes) [] [] (λ z g w. tt)

some_properties_exact : (c : ContextModel) → Exact things Same c (Each EntryDenotes) some_properties (After IsMark OpenCurly (Then (IsEntries c.opaque None []) (λ es. After IsMark Greater (Done es))))
unfolding some_properties
some_properties_exact c =
    after_exact things Same after_typed IsMark typed_marks c (Each EntryDenotes) OpenCurly _ _
    (then_exact things Same c (Each EntryDenotes) (Each EntryDenotes) _ _ _ _ (entries_exact c None None [] [] (λ z g w. tt) (λ z g w. tt)) (λ d es fs g r.
    after_exact things Same after_typed IsMark typed_marks d (Each EntryDenotes) Greater (λ s. Read (es, s)) (Done fs) (done_exact things Same d (Each EntryDenotes) es fs r)))

pub properties_exact : (c : ContextModel) → Exact things Same c (Each EntryDenotes) properties_at (IsProperties c.opaque)
unfolding properties_at
properties_exact c =
    either_exact things Same after_typed IsMark typed_marks c (Each EntryDenotes) Less properties_from some_properties (λ s. Read ([], s)) _ _ (λ s mid. refl) (λ s. refl) (some_properties_exact c) (no_entries_exact c)

pub attributes_exact : (c : ContextModel) (op : ℕ) (name : List ℕ) (ps : Entries) (qs : List EntryTerm) → From (λ z. NameDenotes z op name) c → From (λ z. Each EntryDenotes z ps qs) c → Exact things Same c (Each EntryDenotes) (attributes_at op ps) (IsAttributes c.opaque name qs)
unfolding attributes_at
attributes_exact c op name ps qs o p =
    either_exact things Same after_typed IsMark typed_marks c (Each EntryDenotes) OpenCurly (attributes_from op ps) (entries_at (Some op) ps) (λ s. Read ([], s)) (IsEntries c.opaque (Some name) qs) (Done []) (λ s mid. refl) (λ s. refl)
    (entries_exact c (Some op) (Some name) ps qs o p) (no_entries_exact c)
