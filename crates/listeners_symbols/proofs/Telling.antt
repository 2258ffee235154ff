-- If other operations contribute nothing, the contributions of the operations in a set are those of all operations.
use Rattle.std.proofs.Common.{◌≡◌, refl, ap, sym, ◌∙◌, subst, ◌⊎◌, inl, inr, ℕ, ◌<◌, is_some, Bool, true, false, cond, true≢false, ◌&&◌, ◌||◌, not, eqb, eq-eqb, eqb-true, List, [], ◌∷◌, ◌++◌, map, append_assoc, append-nil, Option, Some, None, arith}
use Rattle.std.proofs.lemmas.Bool.{ne_eqb}
use Rattle.std.specs.Option.{option_map}
use Rattle.std.specs.Cmp.{nat_cmp_is, nat_cmp_total, ranks}
use Rattle.std.specs.List.{AllByRecursion, list_any}
use Rattle.std.specs.List.Sorted.{IsStrictlySortedBy}
use Rattle.std.specs.Ordering.{MatchOrdering, nat_cmp, is_eq}
use Rattle.std.specs.declared.cmp.Ordering.{Ordering}
use Rattle.std.specs.declared.cmp.Ordering.TheVariants.{Less, Equal, Greater}
use Rattle.std.specs.Map.{lookup, keys_of}
use Rattle.std.specs.BTreeMap.{is_at}
use Rattle.listeners_support.specs.Map.{IdMap}
use Rattle.listeners_support.specs.Map as idmap
use Rattle.std.specs.BTreeSet.{BTreeSet, contains}
use Rattle.std.specs.BTreeSet as set
use Rattle.ir_event.specs.tree_laws.Members.{In}
use Rattle.ir_event.proofs.of_tree_laws.Listed.{bool_cases}
use Rattle.ir_event.proofs.of_types.Truths.{less_than, same_test}
use Rattle.listeners_symbols.specs.declared.role.Role.{Role as Numbers}
use Rattle.listeners_symbols.specs.declared.role.Call.{Call}
use Rattle.listeners_symbols.specs.declared.role.Reference.{Reference}
use Rattle.listeners_symbols.specs.declared.roles.Roles.{Roles}
use Rattle.listeners_symbols.specs.Symbols.{DefinitionOf, RoleAt, all_reference_lines, call_line, defined, definitions, mismatch_lines, reference_lines, name_unless, undefined_names}
use Rattle.listeners_symbols.specs.Table.{call_numbers, reference_of}
use Rattle.listeners_symbols.specs.Listeners.{kept_at}
use Rattle.listeners_symbols.specs.Lines.{call_by, defined_by, numbered, references_by, undefined_by}
use Rattle.listeners_symbols.specs.Telling.{HasThose, has_some, names, said_at, concerns_symbols, contributions, contribution_at}
use Rattle.std.proofs.lemmas.List.{map-append}
use Rattle.listeners_symbols.proofs.Reported.{Each, look_above}

abbrev look : List (ℕ × Numbers) → ℕ → Option Numbers
look es x = lookup (is_at (nat_cmp x)) es

abbrev Above : ℕ → List ℕ → Type 0
Above x ys = AllByRecursion (λ y. nat_cmp x y ≡ Less) ys

extra : (x y : ℕ) (ks : List ℕ) → nat_cmp x y ≡ Less → Above y ks → Above x ks
extra x y [] l a = tt
extra x y (k ∷ ks) l a = (nat_cmp_total.trans x y k l a.0, extra x y ks l a.1)

not_above : (x : ℕ) (ys : List ℕ) → Above x ys → In x ys → ⊥
not_above x [] a i = i
not_above x (y ∷ ys) a (inl same) = let l = less_than x y a.0 in omega (arith, l, same)
not_above x (y ∷ ys) a (inr i) = not_above x ys a.1 i

turned : (x y : ℕ) → nat_cmp x y ≡ Greater → nat_cmp y x ≡ Less
turned x y e = sym (nat_cmp_is y x Less (subst (λ r. MatchOrdering r (x < y) (x ≡ y) (y < x)) e (ranks x y)))

same : (x y : ℕ) → nat_cmp x y ≡ Equal → x ≡ y
same x y e = subst (λ r. MatchOrdering r (x < y) (x ≡ y) (y < x)) e (ranks x y)

-- a number below another isn't equal to it
apart : (y x : ℕ) → nat_cmp y x ≡ Less → is_eq (nat_cmp x y) ≡ false
apart y x l = same_test x y ∙ ne_eqb x y (λ e. (let m = less_than y x l in omega (arith, m, e)))

module _ {X : Type 0} (f : ℕ → Numbers → List X) where
  -- the contributions of all entries
  abbrev pub all_notified : List (ℕ × Numbers) → List X
  all_notified [] = []
  all_notified (e ∷ es) = f e.0 e.1 ++ all_notified es

  -- an entry contributes nothing, or its operation is in the list
  abbrev pub IsContributed : List ℕ → ℕ × Numbers → Type 0
  IsContributed xs e = (f e.0 e.1 ≡ []) ⊎ In e.0 xs

  none_kept : (xs : List ℕ) → contributions f (look []) xs ≡ []
  none_kept [] = refl
  none_kept (x ∷ xs) = none_kept xs

  -- the first entry is skipped if all ids of the list are above it
  skipped : (e : ℕ × Numbers) (es : List (ℕ × Numbers)) (xs : List ℕ) → Above e.0 xs → contributions f (look (e ∷ es)) xs ≡ contributions f (look es) xs
  skipped e es [] a = refl
  skipped e es (x ∷ xs) a = λ i. contribution_at f x (cond (apart e.0 x a.0 i) (Some e.1) (look es x)) ++ skipped e es xs a.1 i

  reports_nothing : (es : List (ℕ × Numbers)) → Each (IsContributed []) es → all_notified es ≡ []
  reports_nothing [] h = refl
  reports_nothing (e ∷ es) h = elim h.0 [ inl none ↦ ap (λ l. l ++ all_notified es) none ∙ reports_nothing es h.1 | inr i ↦ absurd i ]

  -- an id below all entries isn't needed
  without : (x : ℕ) (xs : List ℕ) (es : List (ℕ × Numbers)) → Above x (keys_of es) → Each (IsContributed (x ∷ xs)) es → Each (IsContributed xs) es
  without x xs [] a h = tt
  without x xs (e ∷ es) a h = (
    elim h.0 [
      | inl none ↦ inl none
      | inr i ↦ elim i [ inl is ↦ absurd (let l = less_than x e.0 a.0 in omega (arith, l, is)) | inr later ↦ inr later ]
    ],
    without x xs es a.1 h.1,
  )

  -- the entries, given the claim for those after the first, by comparing the first entry with the first id
  by : (e : ℕ × Numbers) (es : List (ℕ × Numbers)) → ((ys : List ℕ) → IsStrictlySortedBy nat_cmp ys → Each (IsContributed ys) es → contributions f (look es) ys ≡ all_notified es)
      → IsStrictlySortedBy nat_cmp (keys_of (e ∷ es)) → (x : ℕ) (xs : List ℕ) → IsStrictlySortedBy nat_cmp (x ∷ xs) → Each (IsContributed (x ∷ xs)) (e ∷ es)
      → (IsStrictlySortedBy nat_cmp xs → Each (IsContributed xs) (e ∷ es) → contributions f (look (e ∷ es)) xs ≡ all_notified (e ∷ es)) → (r : Ordering) → nat_cmp x e.0 ≡ r → contributions f (look (e ∷ es)) (x ∷ xs) ≡ all_notified (e ∷ es)
  unfolding IsStrictlySortedBy
  by e es rest s x xs t h more Less l =
      let below : Above x (keys_of (e ∷ es)) = (l, extra x e.0 (keys_of es) l s.0) in
      ap (λ o. contribution_at f x o ++ contributions f (look (e ∷ es)) xs) (look_above x (e ∷ es) below) ∙ more t.1 (without x xs (e ∷ es) below h)
  by e es rest s x xs t h more Equal l =
      let is = same x e.0 l in
      let above : Above e.0 xs = subst (λ y. Above y xs) is t.0 in
      let left : Each (IsContributed xs) es = without e.0 xs es s.0 (subst (λ y. Each (IsContributed (y ∷ xs)) es) is h.1) in
      ap (λ o. contribution_at f x o ++ contributions f (look (e ∷ es)) xs) (ap (λ r. cond (is_eq r) (Some e.1) (look es x)) l)
      ∙ ap (λ y. f y e.1 ++ contributions f (look (e ∷ es)) xs) is
      ∙ ap (λ z. f e.0 e.1 ++ z) (skipped e es xs above ∙ rest xs t.1 left)
  by e es rest s x xs t h more Greater l =
      let first = turned x e.0 l in
      let above : Above e.0 (x ∷ xs) = (first, extra e.0 x xs first t.0) in
      skipped e es (x ∷ xs) above ∙ rest (x ∷ xs) t h.1 ∙ nothing h.0 above
    where
      nothing : IsContributed (x ∷ xs) e → Above e.0 (x ∷ xs) → all_notified es ≡ all_notified (e ∷ es)
      nothing (inl none) above = sym (ap (λ z. z ++ all_notified es) none)
      nothing (inr i) above = absurd (not_above e.0 (x ∷ xs) above i)

  step : (e : ℕ × Numbers) (es : List (ℕ × Numbers)) → ((ys : List ℕ) → IsStrictlySortedBy nat_cmp ys → Each (IsContributed ys) es → contributions f (look es) ys ≡ all_notified es)
      → IsStrictlySortedBy nat_cmp (keys_of (e ∷ es)) → (xs : List ℕ) → IsStrictlySortedBy nat_cmp xs → Each (IsContributed xs) (e ∷ es) → contributions f (look (e ∷ es)) xs ≡ all_notified (e ∷ es)
  step e es rest s [] t h = sym (reports_nothing (e ∷ es) h)
  step e es rest s (x ∷ xs) t h = by e es rest s x xs t h (step e es rest s xs) (nat_cmp x e.0) refl

  pub reported_all : (es : List (ℕ × Numbers)) (xs : List ℕ) → IsStrictlySortedBy nat_cmp (keys_of es) → IsStrictlySortedBy nat_cmp xs → Each (IsContributed xs) es → contributions f (look es) xs ≡ all_notified es
  unfolding IsStrictlySortedBy
  reported_all [] xs s t h = none_kept xs
  reported_all (e ∷ es) xs s t h = step e es (λ ys u k. reported_all es ys s.1 u k) s xs t h

-- ---- a set that has each operation with a contribution

-- a number of the set is one of its keys
pub listed : (x : ℕ) (ks : List ℕ) → list_any (is_at (nat_cmp x)) ks ≡ true → In x ks
listed x [] e = absurd (true≢false (sym e))
listed x (k ∷ ks) e = go (listed x ks) (bool_cases (is_eq (nat_cmp x k)))
  where
    go : (list_any (is_at (nat_cmp x)) ks ≡ true → In x ks) → (is_eq (nat_cmp x k) ≡ true) ⊎ (is_eq (nat_cmp x k) ≡ false) → In x (k ∷ ks)
    go rest (inl q) = inl (eqb-true x k (sym (same_test x k) ∙ q))
    go rest (inr q) = inr (rest (sym (ap (λ b. b || list_any (is_at (nat_cmp x)) ks) q) ∙ e))

module _ {X : Type 0} (f : ℕ → Numbers → List X) (test : Numbers → Bool) (others : (x : ℕ) (r : Numbers) → test r ≡ false → f x r ≡ [])
    (ks : List ℕ) where
  each_reported : (es : List (ℕ × Numbers)) → IsStrictlySortedBy nat_cmp (keys_of es) → ((x : ℕ) → said_at test (look es x) ≡ true → list_any (is_at (nat_cmp x)) ks ≡ true) → Each (IsContributed f ks) es
  unfolding IsStrictlySortedBy
  each_reported [] s h = tt
  each_reported (e ∷ es) s h = (first (bool_cases (test e.1)), each_reported es s.1 later)
    where
      itself : look (e ∷ es) e.0 ≡ Some e.1
      itself = ap (λ z. cond z (Some e.1) (look es e.0)) (same_test e.0 e.0 ∙ eq-eqb e.0 e.0 refl)

      first : (test e.1 ≡ true) ⊎ (test e.1 ≡ false) → IsContributed f ks e
      first (inl so) = inr (listed e.0 ks (h e.0 (ap (said_at test) itself ∙ so)))
      first (inr lacks) = inl (others e.0 e.1 lacks)

      later : (x : ℕ) → said_at test (look es x) ≡ true → list_any (is_at (nat_cmp x)) ks ≡ true
      later x is = go (bool_cases (is_eq (nat_cmp x e.0)))
        where
          go : (is_eq (nat_cmp x e.0) ≡ true) ⊎ (is_eq (nat_cmp x e.0) ≡ false) → list_any (is_at (nat_cmp x)) ks ≡ true
          go (inr lacks) = h x (ap (λ z. said_at test (cond z (Some e.1) (look es x))) lacks ∙ is)
          go (inl so) =
              let at = eqb-true x e.0 (sym (same_test x e.0) ∙ so) in
              absurd (true≢false (sym is ∙ ap (said_at test) (ap (look es) at ∙ look_above e.0 es s.0)))

  pub reported_of_set : (m : IdMap Numbers) (s : BTreeSet ℕ) → s.keys ≡ ks → idmap.IsOrdered m → set.IsOrdered nat_cmp s → HasThose test m s → contributions f (idmap.get m) ks ≡ all_notified f m.entries
  reported_of_set m s same ordered rises has =
      reported_all f m.entries ks ordered (subst (IsStrictlySortedBy nat_cmp) same rises)
      (each_reported m.entries ordered (λ x is. subst (λ l. list_any (is_at (nat_cmp x)) l ≡ true) same (has x is)))

-- ---- definitions, references and calls
pub says_none : (r : Numbers) → concerns_symbols r ≡ false → ((is_some r.home && is_some r.symbol) ≡ false) × ((has_some r.references.items ≡ false) × (is_some r.call ≡ false))
says_none r lacks = go (is_some r.home && is_some r.symbol) (has_some r.references.items) (is_some r.call) lacks
  where
    go : (a b c : Bool) → (a || (b || c)) ≡ false → (a ≡ false) × ((b ≡ false) × (c ≡ false))
    go true b c e = absurd (true≢false e)
    go false true c e = absurd (true≢false e)
    go false false true e = absurd (true≢false e)
    go false false false e = (refl, (refl, refl))

none_defined : (x : ℕ) (r : Numbers) → concerns_symbols r ≡ false → defined_by x r ≡ []
none_defined x r lacks = go r.home r.symbol (says_none r lacks).0
  where
    go : (home symbol : Option ℕ) → (is_some home && is_some symbol) ≡ false → defined home symbol x ≡ []
    go None None e = refl
    go None (Some n) e = refl
    go (Some t) None e = refl
    go (Some t) (Some n) e = absurd (true≢false e)

none_undefined : (x : ℕ) (r : Numbers) → names r ≡ false → undefined_by x r ≡ []
none_undefined x r lacks = go (is_some r.home && is_some r.symbol) r.name lacks
  where
    go : (defines : Bool) (name : Option ℕ) → (not defines && is_some name) ≡ false → name_unless defines name ≡ []
    go defines None e = refl
    go true (Some n) e = refl
    go false (Some n) e = absurd (true≢false e)

module _ (roles : RoleAt ℕ ℕ ℕ) (ds : List (DefinitionOf ℕ)) where
  unreferring : (possible : ℕ → Bool) (resolved : Bool) (x : ℕ) (r : Numbers) → concerns_symbols r ≡ false → references_by roles ds possible resolved x r ≡ []
  unreferring possible resolved x r lacks = go r.references.items (says_none r lacks).1.0
    where
      go : (ps : List Reference) → has_some ps ≡ false → reference_lines eqb roles ds possible resolved x r.table (map reference_of ps) ≡ []
      go [] e = refl
      go (p ∷ ps) e = absurd (true≢false e)

  uncalling : (x : ℕ) (r : Numbers) → concerns_symbols r ≡ false → call_by roles ds x r ≡ []
  uncalling x r lacks = go r.call (says_none r lacks).1.1
    where
      go : (k : Option Call) → is_some k ≡ false → call_line eqb eqb roles ds x r.table (option_map call_numbers k) ≡ []
      go None e = refl
      go (Some k) e = absurd (true≢false e)

  each_referring : (possible : ℕ → Bool) (resolved : Bool) (es : List (ℕ × Numbers)) → all_notified (references_by roles ds possible resolved) es ≡ all_reference_lines eqb roles ds possible resolved (numbered es)
  each_referring possible resolved [] = refl
  each_referring possible resolved (e ∷ es) = ap (λ l. references_by roles ds possible resolved e.0 e.1 ++ l) (each_referring possible resolved es)

  each_calling : (es : List (ℕ × Numbers)) → all_notified (call_by roles ds) es ≡ mismatch_lines eqb eqb roles ds (numbered es)
  each_calling [] = refl
  each_calling (e ∷ es) = ap (λ l. call_by roles ds e.0 e.1 ++ l) (each_calling es)

each_undefined : (es : List (ℕ × Numbers)) → all_notified undefined_by es ≡ undefined_names (numbered es)
each_undefined [] = refl
each_undefined (e ∷ es) = ap (λ l. undefined_by e.0 e.1 ++ l) (each_undefined es)

each_defined : (es : List (ℕ × Numbers)) → all_notified defined_by es ≡ definitions (numbered es)
each_defined [] = refl
each_defined (e ∷ es) = ap (λ l. defined_by e.0 e.1 ++ l) (each_defined es)

module _ (m : Roles) (ordered : idmap.IsOrdered m.all) (rises : set.IsOrdered nat_cmp m.symbol_ops) where
  pub definitions_reported : contributions defined_by (kept_at m) m.symbol_ops.keys ≡ definitions (numbered m.all.entries)
  definitions_reported = reported_of_set defined_by concerns_symbols none_defined m.symbol_ops.keys m.all m.symbol_ops refl ordered rises m.tell ∙ each_defined m.all.entries

  pub references_reported : (roles : RoleAt ℕ ℕ ℕ) (ds : List (DefinitionOf ℕ)) (possible : ℕ → Bool) (resolved : Bool)
      → contributions (references_by roles ds possible resolved) (kept_at m) m.symbol_ops.keys ≡ all_reference_lines eqb roles ds possible resolved (numbered m.all.entries)
  references_reported roles ds possible resolved =
      reported_of_set (references_by roles ds possible resolved) concerns_symbols (unreferring roles ds possible resolved) m.symbol_ops.keys m.all m.symbol_ops refl ordered rises m.tell ∙ each_referring roles ds possible resolved m.all.entries

  pub calls_reported : (roles : RoleAt ℕ ℕ ℕ) (ds : List (DefinitionOf ℕ)) → contributions (call_by roles ds) (kept_at m) m.symbol_ops.keys ≡ mismatch_lines eqb eqb roles ds (numbered m.all.entries)
  calls_reported roles ds = reported_of_set (call_by roles ds) concerns_symbols (uncalling roles ds) m.symbol_ops.keys m.all m.symbol_ops refl ordered rises m.tell ∙ each_calling roles ds m.all.entries

pub names_reported : (m : Roles) → idmap.IsOrdered m.all → set.IsOrdered nat_cmp m.naming → contributions undefined_by (kept_at m) m.naming.keys ≡ undefined_names (numbered m.all.entries)
names_reported m ordered rises = reported_of_set undefined_by names none_undefined m.naming.keys m.all m.naming refl ordered rises m.name ∙ each_undefined m.all.entries

-- the contribution of one more operation
module _ {X : Type 0} (f : ℕ → Numbers → List X) (kept : ℕ → Option Numbers) where
  pub one_reported : {Y : Type 0} (cells : X → Y) (x : ℕ) (xs all : List ℕ) (before after whole : List Y) → x ∷ xs ≡ all → after ≡ before ++ map cells (contribution_at f x (kept x)) → before ++ map cells (contributions f kept all) ≡ whole → after ++ map cells (contributions f kept xs) ≡ whole
  one_reported cells x xs all before after whole next one so_far =
      ap (λ l. l ++ map cells (contributions f kept xs)) one
      ∙ append_assoc before (map cells (contribution_at f x (kept x))) (map cells (contributions f kept xs))
      ∙ ap (λ l. before ++ l) (sym (map-append cells (contribution_at f x (kept x)) (contributions f kept xs)))
      ∙ ap (λ l. before ++ map cells (contributions f kept l)) next
      ∙ so_far

  pub one_listed : (x : ℕ) (xs all : List ℕ) (before after whole : List X) → x ∷ xs ≡ all → after ≡ before ++ contribution_at f x (kept x) → before ++ contributions f kept all ≡ whole → after ++ contributions f kept xs ≡ whole
  one_listed x xs all before after whole next one so_far =
      ap (λ l. l ++ contributions f kept xs) one ∙ append_assoc before (contribution_at f x (kept x)) (contributions f kept xs) ∙ ap (λ l. before ++ contributions f kept l) next ∙ so_far

  pub none_reported : {Y : Type 0} (cells : X → Y) (left : List ℕ) (before whole : List Y) → left ≡ [] → before ++ map cells (contributions f kept left) ≡ whole → before ≡ whole
  none_reported cells left before whole none so_far = sym (append-nil before) ∙ ap (λ l. before ++ map cells (contributions f kept l)) (sym none) ∙ so_far

  pub none_listed : (left : List ℕ) (before whole : List X) → left ≡ [] → before ++ contributions f kept left ≡ whole → before ≡ whole
  none_listed left before whole none so_far = sym (append-nil before) ∙ ap (λ l. before ++ contributions f kept l) (sym none) ∙ so_far
