-- The parser and the grammar of arrays and dictionaries agree.
use Rattle.std.specs.Prelude.{if◌then◌else◌, nat_eq, ◌||◌, ◌==◌}
use Rattle.std.specs.List.{AllByRecursion, list_any}
use Rattle.std.specs.Str.{bytes_eq}
use Rattle.std.proofs.Common.{◌≡◌, ◌<◌, ◌≤◌, ◌-◌, ℕ, zero, suc, Bool, true, false, true≢false, List, [], ◌∷◌, ◌++◌, length, map, Option, Some, None, refl, sym, ap, subst, ◌∙◌, inl, inr, le-leb, arith}
use Rattle.std.proofs.lemmas.Bool.{eqb-true, eq-eqb, or_parts}
use Rattle.std.proofs.lemmas.List.{length-append}
use Rattle.std.proofs.lemmas.List.Elements.{All-from_recursion}
use Rattle.ir_text_tokens.specs.declared.token.Mark.TheVariants.{CloseCurly, CloseSquare, Equal, Comma}
use Rattle.ir_text_tokens.specs.Strings.{string_bytes}
use Rattle.ir_text_tokens.specs.Tokens.{Lexeme, bare, string}
use Rattle.ir_types.specs.declared.node.AttrNode.TheVariants as attr
use Rattle.ir_types.specs.declared.refusal.Refusal.TheVariants.{TooMany, DuplicateKey}
use Rattle.ir_types.specs.Things.{ContextModel, AttrIsOf}
use Rattle.ir_types.specs.Terms.{AttrTerm, AttrTerms, Flag, Array, Dictionary, next_attr, next_entry, attr_terms, attrs_at, name_term}
use Rattle.ir_types.specs.Terms as terms
use Rattle.ir_types.specs.Dictionaries.{comes_before, placed_among, sorted, kept, has_duplicate}
use Rattle.ir_types.specs.Sound.{IsSound}
use Rattle.ir_types.proofs.Growth.{grows_refl, grows_trans, name_is, name_refl}
use Rattle.ir_types.proofs.Terms.{name_term_one}
use Rattle.ir_text_types.specs.Outcomes.{Outcome, Read, Wrong, ◌>>=◌, Parse}
use Rattle.ir_text_types.specs.Lists.{more_at, more_from, list_at, list_from}
use Rattle.ir_text_types.specs.Typed.{Text, Typed, after_typed}
use Rattle.ir_text_types.specs.TypeReading.{many}
use Rattle.ir_text_types.specs.Grammars.{When, Grammar, Then, Done, IsList, IsMark, Token}
use Rattle.ir_text_types.specs.Worlds.{From}
use Rattle.ir_text_types.specs.Denotation.{NameDenotes, AttrDenotes}
use Rattle.ir_text_types.specs.Laws.{Each}
use Rattle.ir_text_types.proofs.Worlds.{bind_read, option_read, Exact, exact_where, exact_rendered, nothing_exact, then_exact, done_exact, either_exact, list_exact}
use Rattle.ir_text_types.proofs.TextLaws.{things, Same, typed_marks}
use Rattle.ir_text_types.proofs.TokenLaws.{trailing_exact, token_exact}
use Rattle.ir_text_attributes.specs.AttrReading.{Entries, name_done, attr_done, key_from, key_at, unit_value_at, value_from, value_by, entry_by, entries_by, dictionary_by, attrs_by, array_by}
use Rattle.ir_text_attributes.specs.AttrGrammar.{EntryTerm, IsFine, IsKey, IsUnitValue, IsValue, IsEntry, IsArray, IsDictionary, attrs_of, entries_of}
use Rattle.ir_tree.specs.Meaning.{key_before}
use Rattle.ir_text_attributes.specs.Keyed.{has_key, insert_sorted, in_order}
use Rattle.ir_text_attributes.proofs.NodeLaws.{IsNodeOf, IsAllowed, name_done_exact, attr_done_exact, zero_exact, exact_given, exact_read}
use Rattle.ir_text_attributes.proofs.LeafLaws.{unit_node}
use Rattle.ir_types.proofs.Truths.{same_bool}

-- a key and an attribute
abbrev pub EntryDenotes : ContextModel → ℕ × ℕ → EntryTerm → Type 0
EntryDenotes z x y = NameDenotes z x.0 y.0 × AttrDenotes z x.1 y.1

-- ---- keys

abbrev KeyFrom : Lexeme → Text → Grammar Text (List ℕ)
KeyFrom (bare w) rest y old new = Done w y rest new
KeyFrom (string raw) rest y old new = Done (string_bytes raw) y rest new
KeyFrom _ rest y old new = ⊥

key_from_exact : (c : ContextModel) (l : Lexeme) (rest : Text) → Exact things Same c NameDenotes (λ s. key_from s.1 l rest) (KeyFrom l rest)
key_from_exact c (bare w) rest = trailing_exact c NameDenotes rest (name_done w) (Done w) (name_done_exact c w)
key_from_exact c (string raw) rest = trailing_exact c NameDenotes rest (name_done (string_bytes raw)) (Done (string_bytes raw)) (name_done_exact c (string_bytes raw))
key_from_exact c _ rest = nothing_exact things Same c NameDenotes

key_into : (y : List ℕ) (t t' : Text) → (l : Lexeme) × (rest : Text) × Token l t rest × KeyFrom l rest y t t' → IsKey y t t'
key_into y t t' k = by_token k.0 k.1 k.2 k.3
  where
    by_token : (l : Lexeme) (rest : Text) → Token l t rest → KeyFrom l rest y t t' → IsKey y t t'
    by_token (bare w) rest token k = rw (k.0, k.1) (inl token)
    by_token (string raw) rest token k = inr (raw, subst (λ r. Token (string raw) t r) (sym k.1) token, k.0)
    by_token _ rest token k = absurd k

key_back : (y : List ℕ) (t t' : Text) → IsKey y t t' → (l : Lexeme) × (rest : Text) × Token l t rest × KeyFrom l rest y t t'
key_back y t t' (inl k) = (bare y, t', k, (refl, refl))
key_back y t t' (inr k) = (string k.0, t', k.1, (k.2, refl))

pub key_exact : (c : ContextModel) → Exact things Same c NameDenotes key_at IsKey
unfolding key_at
key_exact c =
    exact_rendered things Same c NameDenotes key_at (λ y old new. (l : Lexeme) × (rest : Text) × Token l old rest × KeyFrom l rest y old new) IsKey key_into key_back
    (token_exact c NameDenotes (λ s l rest. key_from s.1 l rest) KeyFrom (key_from_exact c))

-- two names of a sound context are equal if and only if their bytes are
pub keys_agree : (z : ContextModel) → IsSound z → (k l : ℕ) (x y : List ℕ) → NameDenotes z k x → NameDenotes z l y → nat_eq k l ≡ bytes_eq x y
keys_agree z sound k l x y h j =
    same_bool (nat_eq k l) (bytes_eq x y)
    (λ e. subst (λ w. bytes_eq x w ≡ true) (sym h.1 ∙ ap (name_term z) (eqb-true k l e) ∙ j.1) (name_refl x))
    (λ e. eq-eqb k l (name_term_one z k l sound h.0 j.0 (h.1 ∙ name_is x y e ∙ sym j.1)))

known_same : (z : ContextModel) → IsSound z → (k : ℕ) (y : List ℕ) (es : Entries) (fs : List EntryTerm) → NameDenotes z k y → Each EntryDenotes z es fs → has_key nat_eq k es ≡ has_key bytes_eq y fs
known_same z sound k y [] [] h all = refl
known_same z sound k y [] (f ∷ fs) h all = absurd all
known_same z sound k y (e ∷ es) [] h all = absurd all
known_same z sound k y (e ∷ es) (f ∷ fs) h all = λ i. keys_agree z sound e.0 k f.0 y all.0.0 h i || known_same z sound k y es fs h all.1 i

-- ---- the order of entries

same_order : (z : ContextModel) (a b : ℕ × ℕ) (x y : EntryTerm) → EntryDenotes z a x → EntryDenotes z b y → comes_before z.names a b ≡ key_before x.0 y.0
same_order z a b x y h j = λ i. key_before (h.0.1 i) (j.0.1 i)

placed_stands : (z : ContextModel) (e : ℕ × ℕ) (x : EntryTerm) (fs : Entries) (ys : List EntryTerm) → EntryDenotes z e x → Each EntryDenotes z fs ys → Each EntryDenotes z (placed_among z.names e fs) (insert_sorted key_before x ys)
placed_stands z e x [] [] h all = (h, tt)
placed_stands z e x [] (y ∷ ys) h all = absurd all
placed_stands z e x (f ∷ fs) [] h all = absurd all
placed_stands z e x (f ∷ fs) (y ∷ ys) h all = by_test (placed_stands z e x fs ys h all.1) (comes_before z.names e f) (key_before x.0 y.0) (same_order z e f x y h all.0)
  where
    by_test : Each EntryDenotes z (placed_among z.names e fs) (insert_sorted key_before x ys) → (b c : Bool) → b ≡ c → Each EntryDenotes z (if b then e ∷ f ∷ fs else f ∷ placed_among z.names e fs) (if c then x ∷ y ∷ ys else y ∷ insert_sorted key_before x ys)
    by_test rest true true same = (h, all)
    by_test rest true false same = absurd (true≢false same)
    by_test rest false true same = absurd (true≢false (sym same))
    by_test rest false false same = (all.0, rest)

sorted_stands : (z : ContextModel) (es : Entries) (ys : List EntryTerm) → Each EntryDenotes z es ys → Each EntryDenotes z (sorted z.names es) (in_order key_before ys)
sorted_stands z [] [] all = tt
sorted_stands z [] (y ∷ ys) all = absurd all
sorted_stands z (e ∷ es) [] all = absurd all
sorted_stands z (e ∷ es) (y ∷ ys) all = placed_stands z e y (sorted z.names es) (in_order key_before ys) all.0 (sorted_stands z es ys all.1)

-- ---- nodes

entries_term : (z : ContextModel) (es : Entries) (ys : List EntryTerm) → Each EntryDenotes z es ys → terms.entries_at z.names (attr_terms z) es ≡ entries_of ys
entries_term z [] [] all = refl
entries_term z [] (y ∷ ys) all = absurd all
entries_term z (e ∷ es) [] all = absurd all
entries_term z (e ∷ es) (y ∷ ys) all = λ i. next_entry (all.0.0.1 i) (all.0.1.1 i) (entries_term z es ys all.1 i)

keys_below : (z : ContextModel) (es : Entries) (ys : List EntryTerm) → Each EntryDenotes z es ys → AllByRecursion (λ (e : ℕ × ℕ). e.0 < length z.names) es
keys_below z [] [] all = tt
keys_below z [] (y ∷ ys) all = absurd all
keys_below z (e ∷ es) [] all = absurd all
keys_below z (e ∷ es) (y ∷ ys) all = (all.0.0.0, keys_below z es ys all.1)

values_below : (z : ContextModel) (es : Entries) (ys : List EntryTerm) → Each EntryDenotes z es ys → AllByRecursion (λ (e : ℕ × ℕ). e.1 < length z.attrs) es
values_below z [] [] all = tt
values_below z [] (y ∷ ys) all = absurd all
values_below z (e ∷ es) [] all = absurd all
values_below z (e ∷ es) (y ∷ ys) all = (all.0.1.0, values_below z es ys all.1)

dictionary_node : (z : ContextModel) (es : Entries) (ys : List EntryTerm) → Each EntryDenotes z es ys → IsNodeOf (attr.Dict es) (Dictionary (entries_of (in_order key_before ys))) z
unfolding kept
dictionary_node z es ys all = (
  (All-from_recursion (λ (e : ℕ × ℕ). e.0 < length z.names) es (keys_below z es ys all), All-from_recursion (λ (e : ℕ × ℕ). e.1 < length z.attrs) es (values_below z es ys all)),
  ap Dictionary (entries_term z (sorted z.names es) (in_order key_before ys) (sorted_stands z es ys all)),
)

attrs_below : (z : ContextModel) (xs : List ℕ) (ys : List AttrTerm) → Each AttrDenotes z xs ys → AllByRecursion (λ a. a < length z.attrs) xs
attrs_below z [] [] all = tt
attrs_below z [] (y ∷ ys) all = absurd all
attrs_below z (x ∷ xs) [] all = absurd all
attrs_below z (x ∷ xs) (y ∷ ys) all = (all.0.0, attrs_below z xs ys all.1)

attrs_term : (z : ContextModel) (xs : List ℕ) (ys : List AttrTerm) → Each AttrDenotes z xs ys → attrs_at (attr_terms z) xs ≡ attrs_of ys
attrs_term z [] [] all = refl
attrs_term z [] (y ∷ ys) all = absurd all
attrs_term z (x ∷ xs) [] all = absurd all
attrs_term z (x ∷ xs) (y ∷ ys) all = λ i. next_attr (all.0.1 i) (attrs_term z xs ys all.1 i)

array_node : (z : ContextModel) (xs : List ℕ) (ys : List AttrTerm) → Each AttrDenotes z xs ys → IsNodeOf (attr.Array xs) (Array (attrs_of ys)) z
unfolding kept
array_node z xs ys all = (All-from_recursion (λ a. a < length z.attrs) xs (attrs_below z xs ys all), ap Array (attrs_term z xs ys all))

-- ---- no key is repeated

abbrev keys : Entries → List ℕ
keys es = map (λ (e : ℕ × ℕ). e.0) es

any_push : (k : ℕ) (es : Entries) (e : ℕ × ℕ) → list_any (λ l. k == l) (keys es) ≡ false → (k == e.0) ≡ false → list_any (λ l. k == l) (keys (es ++ e ∷ [])) ≡ false
any_push k [] e h j = rw j refl
any_push k (f ∷ fs) e h j =
    let b = or_parts (k == f.0) (list_any (λ l. k == l) (keys fs)) h in
    rw b.0 (any_push k fs e b.1 j)

duplicate_push : (es : Entries) (e : ℕ × ℕ) → has_duplicate (keys es) ≡ false → has_key nat_eq e.0 es ≡ false → has_duplicate (keys (es ++ e ∷ [])) ≡ false
duplicate_push [] e once new = refl
duplicate_push (f ∷ fs) e once new =
    let b = or_parts (list_any (λ l. f.0 == l) (keys fs)) (has_duplicate (keys fs)) once in
    let n = or_parts (nat_eq f.0 e.0) (has_key nat_eq e.0 fs) new in
    rw (any_push f.0 fs e b.0 n.0) (duplicate_push fs e b.1 n.1)

abbrev with_value : ℕ → Outcome (ℕ × Typed) → Outcome ((ℕ × ℕ) × Typed)
with_value k o = o >>= λ a. Read ((k, a.0), a.1)

module _ (depth : ℕ) (p : Parse Typed ℕ) where
  -- the value of an entry whose key is new
  abbrev valued : Entries → ℕ × Typed → Outcome ((ℕ × ℕ) × Typed)
  valued before k = with_value k.0 (if has_key nat_eq k.0 before then Wrong else value_by depth p k.1)

  entry_new : (before : Entries) (s : Typed) (x : ℕ × ℕ) (s' : Typed) → entry_by depth p before s ≡ Read (x, s') → has_key nat_eq x.0 before ≡ false
  unfolding entry_by
  entry_new before s x s' e =
      let k = bind_read (key_at s) (valued before) (x, s') e in
      by_test k.0.0 k.0.1 (has_key nat_eq k.0.0 before) refl k.2
    where
      by_test : (k : ℕ) (mid : Typed) (b : Bool) → has_key nat_eq k before ≡ b → with_value k (if b then Wrong else value_by depth p mid) ≡ Read (x, s') → has_key nat_eq x.0 before ≡ false
      by_test k mid true h e = absurd cc
      by_test k mid false h e =
          let v = bind_read (value_by depth p mid) (λ a. entry_read k a) (x, s') e in
          let same : ((k, v.0.0), v.0.1) ≡ (x, s') = cc (v.2) in
          subst (λ l. has_key nat_eq l before ≡ false) (ap (λ (q : (ℕ × ℕ) × Typed). q.0.0) same) h
        where
          entry_read : ℕ → ℕ × Typed → Outcome ((ℕ × ℕ) × Typed)
          entry_read k a = Read ((k, a.0), a.1)

  -- after an item: the end, or a comma and more items
  abbrev ends : ℕ → Entries → Typed → Option Typed → Outcome (Entries × Typed)
  ends headroom items mid o = more_from after_typed CloseCurly (entry_by depth p) (more_at after_typed CloseCurly (entry_by depth p) headroom) items mid o

  abbrev Few : ℕ → Entries → Type 0
  Few n es = (has_duplicate (keys es) ≡ false) × (length es ≤ n)

  ends_few : (headroom n : ℕ) (items : Entries) (mid : Typed) (all : Entries) (s' : Typed) → ((items : Entries) (s : Typed) → Few (n - headroom) items → more_at after_typed CloseCurly (entry_by depth p) headroom items s ≡ Read (all, s') → Few n all)
      → headroom ≤ n → Few (n - headroom) items → (o : Option Typed) → ends headroom items mid o ≡ Read (all, s') → Few n all
  ends_few headroom n items mid all s' more le few (Some end) e =
      let same : (items, end) ≡ (all, s') = cc (e) in
      subst (Few n) (ap (λ (q : Entries × Typed). q.0) same) (few.0, omega (arith, few.1))
  ends_few headroom n items mid all s' more le few None e =
      let b = option_read (after_typed Comma mid) (more_at after_typed CloseCurly (entry_by depth p) headroom items) (all, s') e in
      more items b.0 few b.2

  more_few : (n headroom : ℕ) → headroom ≤ n → (items : Entries) (s : Typed) (all : Entries) (s' : Typed) → Few (n - headroom) items → more_at after_typed CloseCurly (entry_by depth p) headroom items s ≡ Read (all, s') → Few n all
  unfolding more_at
  more_few n zero le items s all s' few e = absurd cc
  more_few n (suc headroom) le items s all s' few e =
      let a = bind_read (entry_by depth p items s) (λ x. ends headroom (items ++ x.0 ∷ []) x.1 (after_typed CloseCurly x.1)) (all, s') e in
      let longer : Few (n - headroom) (items ++ a.0.0 ∷ []) = (duplicate_push items a.0.0 few.0 (entry_new items s a.0.0 a.0.1 a.1), omega (arith, few.1, le, length-append items (a.0.0 ∷ []))) in
      ends_few headroom n (items ++ a.0.0 ∷ []) a.0.1 all s' (λ is t k f. more_few n headroom (omega (arith, le)) is t all s' k f) (omega (arith, le)) longer (after_typed CloseCurly a.0.1) a.2

  allowed_from : (es : Entries) → Few 256 es → IsAllowed (attr.Dict es)
  allowed_from es k = (ap (λ b. if b then None else Some TooMany) (le-leb (length es) 256 k.1), ap (λ b. if b then Some DuplicateKey else None) k.0)

  entries_allowed : (s : Typed) (es : Entries) (s' : Typed) → entries_by depth p s ≡ Read (es, s') → IsAllowed (attr.Dict es)
  unfolding entries_by list_at
  entries_allowed s es s' e = by_mark (after_typed CloseCurly s) e
    where
      by_mark : (o : Option Typed) → list_from after_typed CloseCurly (entry_by depth p) 256 s o ≡ Read (es, s') → IsAllowed (attr.Dict es)
      by_mark (Some end) e =
          let none : List (ℕ × ℕ) = [] in
          let same : (none, end) ≡ (es, s') = cc (e) in
          subst (λ l. IsAllowed (attr.Dict l)) (ap (λ (q : Entries × Typed). q.0) same) (refl, refl)
      by_mark None e = allowed_from es (more_few 256 256 (omega arith) [] s es s' (refl, omega arith) e)

-- ---- values and entries

unit_value_exact : (depth : ℕ) (c : ContextModel) → Exact things Same c AttrDenotes (unit_value_at depth) (IsUnitValue depth)
unfolding unit_value_at
unit_value_exact zero c = zero_exact c
unit_value_exact (suc depth) c = attr_done_exact c attr.Unit Flag (refl, refl) (λ z k w. unit_node z)

module _ (depth : ℕ) (p : Parse Typed ℕ) (P : Grammar Text AttrTerm) (item : (c : ContextModel) → Exact things Same c AttrDenotes p P) where
  pub value_exact : (c : ContextModel) → Exact things Same c AttrDenotes (value_by depth p) (IsValue depth P)
  unfolding value_by
  value_exact c =
      either_exact things Same after_typed IsMark typed_marks c AttrDenotes Equal (value_from depth p) p (unit_value_at depth) P (IsUnitValue depth) (λ s mid. refl) (λ s. refl) (item c) (unit_value_exact depth c)

  module _ (d : ContextModel) (k : ℕ) (y : List ℕ) (stands : From (λ z. NameDenotes z k y) d) where
    free_exact : (b : Bool) → Exact things Same d EntryDenotes (λ s. with_value k (if b then Wrong else value_by depth p s)) (When (b ≡ false) (Then (IsValue depth P) (λ a. Done (y, a))))
    free_exact true =
        exact_rendered things Same d EntryDenotes (λ s. Wrong) (λ v old new. ⊥) (When (true ≡ false) (Then (IsValue depth P) (λ a. Done (y, a)))) (λ v t t' e. absurd e) (λ v t t' e. absurd (true≢false e.0))
        (nothing_exact things Same d EntryDenotes)
    free_exact false =
        exact_rendered things Same d EntryDenotes (λ s. with_value k (value_by depth p s)) (Then (IsValue depth P) (λ a. Done (y, a))) (When (false ≡ false) (Then (IsValue depth P) (λ a. Done (y, a)))) (λ v t t' e. (refl, e)) (λ v t t' e. e.1)
        (then_exact things Same d AttrDenotes EntryDenotes (value_by depth p) (IsValue depth P) (λ a s. Read ((k, a), s)) (λ a. Done (y, a)) (value_exact d) (λ e a v g r.
        done_exact things Same e EntryDenotes (k, a) (y, v) (λ z j w. (stands z (grows_trans d e z g j) w, r z j w))))

  entry_exact : (c : ContextModel) (es : Entries) (fs : List EntryTerm) → From (λ z. Each EntryDenotes z es fs) c → Exact things Same c EntryDenotes (entry_by depth p es) (IsEntry depth P fs)
  unfolding entry_by
  entry_exact c es fs preceding =
      then_exact things Same c NameDenotes EntryDenotes key_at IsKey (λ k s. with_value k (if has_key nat_eq k es then Wrong else value_by depth p s)) (λ y. When (has_key bytes_eq y fs ≡ false) (Then (IsValue depth P) (λ a. Done (y, a))))
      (key_exact c) (λ d k y g r.
      exact_where things Same d EntryDenotes (λ s. with_value k (if has_key nat_eq k es then Wrong else value_by depth p s)) (λ s. with_value k (if has_key bytes_eq y fs then Wrong else value_by depth p s)) (When (has_key bytes_eq y fs ≡ false) (Then (IsValue depth P) (λ a. Done (y, a))))
      (λ s h sound. ap (λ t. with_value k (if t then Wrong else value_by depth p s)) (known_same s.1 sound k y es fs (r s.1 h sound) (preceding s.1 (grows_trans c d s.1 g h) sound)))
      (free_exact d k y r (has_key bytes_eq y fs)))

  entries_exact : (c : ContextModel) → Exact things Same c (Each EntryDenotes) (entries_by depth p) (IsList IsMark CloseCurly (IsEntry depth P) 256)
  unfolding entries_by
  entries_exact c = list_exact things Same after_typed IsMark typed_marks EntryDenotes CloseCurly (entry_by depth p) (IsEntry depth P) entry_exact 256 c

  pub dictionary_exact : (c : ContextModel) → Exact things Same c AttrDenotes (dictionary_by depth p) (IsDictionary depth P)
  unfolding dictionary_by IsDictionary
  dictionary_exact c =
      then_exact things Same c (λ z x y. Each EntryDenotes z x y × IsAllowed (attr.Dict x)) AttrDenotes (entries_by depth p) (IsList IsMark CloseCurly (IsEntry depth P) 256) (λ es. attr_done (attr.Dict es)) (λ ys. IsFine (Dictionary (entries_of (in_order key_before ys))))
      (exact_read c (Each EntryDenotes) (entries_by depth p) (IsList IsMark CloseCurly (IsEntry depth P) 256) (λ es. IsAllowed (attr.Dict es)) (entries_allowed depth p) (entries_exact c)) (λ d es ys g r.
      exact_given d AttrDenotes (attr_done (attr.Dict es)) (IsFine (Dictionary (entries_of (in_order key_before ys)))) (λ z k sound.
      attr_done_exact z (attr.Dict es) (Dictionary (entries_of (in_order key_before ys))) (r z k sound).1 (λ z' k' w. dictionary_node z' es ys (r z' (grows_trans d z z' k k') w).0)))

  attrs_exact : (c : ContextModel) → Exact things Same c (Each AttrDenotes) (attrs_by depth p) (IsList IsMark CloseSquare (λ before. P) many)
  unfolding attrs_by
  attrs_exact c = list_exact things Same after_typed IsMark typed_marks AttrDenotes CloseSquare (λ before. p) (λ before. P) (λ d xs ys r. item d) many c

  pub array_exact : (c : ContextModel) → Exact things Same c AttrDenotes (array_by depth p) (IsArray depth P)
  unfolding array_by IsArray
  array_exact c =
      then_exact things Same c (Each AttrDenotes) AttrDenotes (attrs_by depth p) (IsList IsMark CloseSquare (λ before. P) many) (λ xs. attr_done (attr.Array xs)) (λ ys. IsFine (Array (attrs_of ys))) (attrs_exact c) (λ d xs ys g r.
      attr_done_exact d (attr.Array xs) (Array (attrs_of ys)) (refl, refl) (λ z k w. array_node z xs ys (r z k w)))

  -- the entries that are parsed are entries of the grown context
  pub entries_known : (bytes rest : List ℕ) (c d : ContextModel) (es : Entries) → IsSound c → entries_by depth p (bytes, c) ≡ Read (es, (rest, d)) → AttrIsOf d (attr.Dict es)
  entries_known bytes rest c d es sound e =
      let f = (entries_exact c).found (bytes, c) bytes es (rest, d) (grows_refl c) sound (λ z g w. refl) e in
      (dictionary_node d es f.0 (f.3.stands d (grows_refl d) f.3.sound)).0

  pub attrs_known : (bytes rest : List ℕ) (c d : ContextModel) (xs : List ℕ) → IsSound c → attrs_by depth p (bytes, c) ≡ Read (xs, (rest, d)) → AttrIsOf d (attr.Array xs)
  attrs_known bytes rest c d xs sound e =
      let f = (attrs_exact c).found (bytes, c) bytes xs (rest, d) (grows_refl c) sound (λ z g w. refl) e in
      (array_node d xs f.0 (f.3.stands d (grows_refl d) f.3.sound)).0
