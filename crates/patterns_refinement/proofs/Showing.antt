-- A tree after an edit shows what the tree showed.
use Rattle.std.proofs.Common.{◌≡◌, ℕ, ◌+◌, ◌<◌, ◌≤◌, refl, ap, sym, ◌∙◌, subst, Bool, true, false, true≢false, eqb, eqb-true, Some, List, [], ◌∷◌, ◌++◌, map, ◌⊎◌, inl, inr, arith}
use Rattle.std.specs.Prelude.{if◌then◌else◌}
use Rattle.std.proofs.lemmas.Option.{same_Some}
use Rattle.ir_types.specs.Terms.{TypeTerm, AttrTerm}
use Rattle.ir_types.specs.Words.{is_isolated}
use Rattle.ir_tree.specs.declared.value.Value.{Value}
use Rattle.ir_tree.specs.declared.value.Value.TheVariants.{Result}
use Rattle.ir_tree.specs.declared.place.Place.{Place}
use Rattle.ir_tree.specs.Tree.{RegionsOf, RegionOf, OpsOf, op, no_regions, region, empty, block, no_ops, next, head, regions}
use Rattle.ir_tree.specs.Edits.{at, each_head, put_values, regions_each_head, with_value_replaced}
use Rattle.ir_tree.specs.Ids.{HasDistinctIds, find}
use Rattle.ir_tree.specs.Places.{drop_op, put, regions_each_list, without}
use Rattle.ir_tree.specs.WellFormed.{IsWellFormed}
use Rattle.ir_event.specs.Modules.{Module}
use Rattle.ir_tree.specs.Meaning.{Operation}
use Rattle.ir_tree_laws.specs.Members.{In}
use Rattle.ir_tree_laws.specs.Reasons.{with_id}
use Rattle.ir_tree_laws.specs.Stands.{OpWithPathOf, StepOf, ops_stands, region_stands, regions_stands, stands}
use Rattle.ir_tree_laws.proofs.Listed.{bool_cases, in_left, in_right}
use Rattle.ir_tree_laws.proofs.Members.{stand_found}
use Rattle.user_patterns_check.specs.Checks.{refines}
use Rattle.user_patterns_check.specs.Outcomes.{Outcome}
use Rattle.user_patterns_data.specs.Matching.{Header}
use Rattle.patterns_refinement.specs.Meaning.{Assignment, Each, EachAmong, EachInRegions, is_arithmetic, owner}
use Rattle.patterns_refinement.specs.After.{rewritten, with_made}
use Rattle.patterns_refinement.specs.Better.{AllBetter, is_arithmetic_there}
use Rattle.patterns_refinement.specs.Choices.{AreOrigins, Chooses, Origins}
use Rattle.patterns_refinement.specs.Observing.{RegionsFollow, ShownWereThere, Shows, Stays, is_computed, is_unmissed, shown_regions}
use Rattle.patterns_refinement.proofs.Edited.{each_both, each_changed}
use Rattle.patterns_refinement.proofs.Follows.{EachWhole, IsUnmissedAt, WholeAmong, WholeInRegion, WholeInRegions, follows_changed, follows_itself, follows_replaced, follows_through, follows_without, unmissed_among_shown, were_there}
use Rattle.patterns_refinement.proofs.Origins.{Alike, IsKept, all_still_through, kept_chooses, kept_itself, kept_stays, origins_are, origins_grown, origins_later, rewritten_origins}
use Rattle.patterns_refinement.proofs.Wellformed.{is_below}
use Rattle.patterns_refinement.proofs.Monotone.{through}
use Rattle.patterns_refinement.proofs.Rewritten.{AllBare, AllPut}
use Rattle.patterns_refinement.proofs.Settling.{each_by_found}
use Rattle.patterns_refinement.proofs.Shown.{IsNumberAt, each_shown, shown_at, shown_changed, shown_lacks, shown_put, shown_without}

abbrev Regions : Type 0
Regions = RegionsOf (List ℕ) TypeTerm AttrTerm

abbrev Region : Type 0
Region = RegionOf (List ℕ) TypeTerm AttrTerm

abbrev Ops : Type 0
Ops = OpsOf (List ℕ) TypeTerm AttrTerm

abbrev OpWithPath : Type 0
OpWithPath = OpWithPathOf (List ℕ) TypeTerm AttrTerm

abbrev Step : Type 0
Step = StepOf (List ℕ) TypeTerm AttrTerm

-- ---- a property of all operations of the tree is a property of each operation with its subtree
module _ (P : Operation → Type 0) where
  abbrev OfAll : List OpWithPath → Type 0
  OfAll ss = (s : OpWithPath) → In s ss → P s.here

  mutual
    whole_stands : (path : List Step) (t : Operation) → OfAll (stands path t) → EachWhole P t
    whole_stands path (op h rs) f = (f (record { here = op h rs; path = path }) (inl refl), regions_stand (op h rs) path 0 rs (λ s i. f s (inr i)))

    regions_stand : (p : Operation) (path : List Step) (r : ℕ) (rs : Regions) → OfAll (regions_stands p path r rs) → WholeInRegions P rs
    regions_stand p path r no_regions f = tt
    regions_stand p path r (region g rs) f = (
      region_stand p path r g (λ s i. f s (in_left s (region_stands p path r g) (regions_stands p path (r + 1) rs) i)),
      regions_stand p path (r + 1) rs (λ s i. f s (in_right s (region_stands p path r g) (regions_stands p path (r + 1) rs) i)),
    )

    region_stand : (p : Operation) (path : List Step) (r : ℕ) (g : Region) → OfAll (region_stands p path r g) → WholeInRegion P g
    region_stand p path r empty f = tt
    region_stand p path r (block args os) f = ops_stand p path r args [] os f

    ops_stand : (p : Operation) (path : List Step) (r : ℕ) (args : List TypeTerm) (preceding : List Operation) (os : Ops) → OfAll (ops_stands p path r args preceding os) → WholeAmong P os
    ops_stand p path r args preceding no_ops f = tt
    ops_stand p path r args preceding (next o os) f =
        let here = stands (record { parent = p; region = r; args = args; preceding = preceding; rest = os } ∷ path) o in
        let more = ops_stands p path r args (preceding ++ (o ∷ [])) os in (
          whole_stands (record { parent = p; region = r; args = args; preceding = preceding; rest = os } ∷ path) o (λ s i. f s (in_left s here more i)),
          ops_stand p path r args (preceding ++ (o ∷ [])) os (λ s i. f s (in_right s here more i)),
        )

-- ---- small parts
pub at_root : (P : Header → Type 0) (t : Operation) → Each P t → P (head t)
at_root P (op h rs) s = s.0

pub inside : (P : Header → Type 0) (t : Operation) → Each P t → EachInRegions P (regions t)
inside P (op h rs) s = s.1

whole_inside : (P : Operation → Type 0) (t : Operation) → EachWhole P t → WholeInRegions P (regions t)
whole_inside P (op h rs) s = s.1

-- an arithmetic operation of a tree
pub number_at : (x : ℕ) (t : Operation) → HasDistinctIds t → is_computed t (Result x 0) ≡ true → Each (IsNumberAt x) t
number_at x t d e = each_by_found (IsNumberAt x) t d (λ o i j. sym (ap is_arithmetic_there (sym (ap (λ y. find y t) (eqb-true (head o).id x j)) ∙ i)) ∙ e)

-- operands with refined outcomes
pub all_better : (a now : Assignment) → ((v : Value) → refines (a v) (now v) ≡ true) → (vs : List Value) → AllBetter (map a vs) (map now vs)
all_better a now f [] = tt
all_better a now f (v ∷ vs) = (f v, all_better a now f vs)

pub all_through : (xs ys zs : List Outcome) → AllBetter xs ys → AllBetter ys zs → AllBetter xs zs
all_through [] [] [] p q = tt
all_through [] [] (z ∷ zs) p q = absurd q
all_through [] (y ∷ ys) zs p q = absurd p
all_through (x ∷ xs) [] zs p q = absurd p
all_through (x ∷ xs) (y ∷ ys) [] p q = absurd q
all_through (x ∷ xs) (y ∷ ys) (z ∷ zs) p q = (through x y z p.0 q.0, all_through xs ys zs p.1 q.1)

-- ---- a tree that is unchanged, except for operations that aren't observable
module _ (n : ℕ) (t u : Operation) (a now : Assignment) (later : ℕ → Bool) (f : (v : Value) → refines (a v) (now v) ≡ true) where
  pub kept_so : (h : Header) → Alike t u h → IsKept n t u a now later h h
  kept_so h alike = kept_itself n t u a now later (all_better a now f) h alike

  pub stays_so : (h : Header) → Alike t u h → Stays n t u a now later h h
  stays_so h alike = kept_stays h h (kept_so h alike)

  each_stays : Each (Alike t u) t → Each (λ h. Stays n t u a now later h h) t
  each_stays alike = each_both (Alike t u) (Alike t u) (λ h. Stays n t u a now later h h) (λ h p q. stays_so h p) t alike alike

  pub follows_so : Each (Alike t u) t → RegionsFollow (Stays n t u a now later) (shown_regions (regions t)) (shown_regions (regions t))
  follows_so alike =
      follows_itself (Stays n t u a now later) (shown_regions (regions t))
      (each_shown (λ h. Stays n t u a now later h h) (regions t) (inside (λ h. Stays n t u a now later h h) t (each_stays alike)))

mutual
  pub units : (t : Operation) → Each (λ h. Unit {0}) t
  units (op h rs) = (tt, units_in rs)

  units_in : (rs : Regions) → EachInRegions (λ h. Unit {0}) rs
  units_in no_regions = tt
  units_in (region empty rs) = (tt, units_in rs)
  units_in (region (block args os) rs) = (units_among os, units_in rs)

  units_among : (os : Ops) → EachAmong (λ h. Unit {0}) os
  units_among no_ops = tt
  units_among (next o os) = (units o, units_among os)

-- an operation that may be erased
unmissed_at : (t : Operation) (x : ℕ) (here : Operation) → HasDistinctIds t → find x t ≡ Some here → is_unmissed here ≡ true → WholeInRegions (IsUnmissedAt x) (shown_regions (regions t))
unmissed_at t x here d found unmissed =
    unmissed_among_shown x (regions t) (whole_inside (IsUnmissedAt x) t (whole_stands (IsUnmissedAt x) [] t (λ s i e.
    subst (λ o. is_unmissed o ≡ true) (same_Some _ _ (sym found ∙ ap (λ y. find y t) (sym (eqb-true (head s.here).id x e)) ∙ stand_found t d s i)) unmissed)))

-- ---- an operation's result replaced by an existing or a new value
-- the operation is arithmetic, or may be erased
abbrev pub IsReplaceable : ℕ → Operation → Type 0
IsReplaceable x t = (is_computed t (Result x 0) ≡ true) ⊎ ((here : Operation) × (find x t ≡ Some here) × (is_unmissed here ≡ true))

module _ (x : ℕ) (v : Value) (t : Operation) where
  abbrev f : Header → Header
  f = put_values (Result x 0) v

  regions_changed : (t : Operation) → regions (each_head (put_values (Result x 0) v) t) ≡ regions_each_head (put_values (Result x 0) v) (regions t)
  regions_changed (op h rs) = refl

  shown_made : (insertion : Place) (n : ℕ) (made : List Operation) (t : Operation) → AllPut (λ h. is_arithmetic h ≡ true) n made → shown_regions (regions (with_made insertion n made t)) ≡ shown_regions (regions t)
  shown_made insertion n [] t s = refl
  shown_made insertion n (o ∷ os) t s = shown_made insertion (n + 1) os (put insertion (with_id n o) t) s.1 ∙ one t
    where
      number : (o : Operation) → is_arithmetic (record (head o) { id = n }) ≡ true → is_arithmetic (head (with_id n o)) ≡ true
      number (op h rs) e = e

      one : (t : Operation) → shown_regions (regions (put insertion (with_id n o) t)) ≡ shown_regions (regions t)
      one (op h rs) = shown_put insertion (with_id n o) (number o s.0) h.id 0 rs

  without_shown : (x : ℕ) (u : Operation) → shown_regions (regions (without x u)) ≡ regions_each_list (λ p r os. drop_op x os) (head u).id 0 (shown_regions (regions u))
  without_shown x (op h rs) = shown_without x h.id 0 rs

  changed_shown : (u : Operation) → shown_regions (regions (each_head (put_values (Result x 0) v) u)) ≡ regions_each_head (put_values (Result x 0) v) (shown_regions (regions u))
  changed_shown (op h rs) = shown_changed (put_values (Result x 0) v) (λ h. refl) rs

  -- without the operation
  dropped_shown : (insertion : Place) (n : ℕ) (made : List Operation) → AllPut (λ h. is_arithmetic h ≡ true) n made
      → shown_regions (regions (rewritten insertion n made x v t)) ≡ regions_each_list (λ p r os. drop_op x os) (head (with_value_replaced (Result x 0) v (with_made insertion n made t))).id 0 (shown_regions (regions (each_head (put_values (Result x 0) v) t)))
  dropped_shown insertion n made s =
      let u = with_made insertion n made t in
      let w = with_value_replaced (Result x 0) v u in
      let same : shown_regions (regions w) ≡ shown_regions (regions (each_head f t)) = changed_shown u ∙ ap (regions_each_head f) (shown_made insertion n made t s) ∙ sym (changed_shown t) in
      without_shown x w ∙ ap (regions_each_list (λ p r os. drop_op x os) (head w).id 0) same

  rewritten_shown : Each (IsNumberAt x) t → (insertion : Place) (n : ℕ) (made : List Operation) → AllPut (λ h. is_arithmetic h ≡ true) n made
      → shown_regions (regions (rewritten insertion n made x v t)) ≡ regions_each_head (put_values (Result x 0) v) (shown_regions (regions t))
  rewritten_shown numbers insertion n made s =
      dropped_shown insertion n made s
      ∙ shown_lacks x (head (with_value_replaced (Result x 0) v (with_made insertion n made t))).id 0 (regions (each_head f t)) (inside (IsNumberAt x) (each_head f t) (each_changed (IsNumberAt x) (IsNumberAt x) f (λ h p. p) t numbers))
      ∙ changed_shown t

  head_made : (insertion : Place) (n : ℕ) (made : List Operation) (t : Operation) → head (with_made insertion n made t) ≡ head t
  head_made insertion n [] t = refl
  head_made insertion n (o ∷ os) t = head_made insertion (n + 1) os (put insertion (with_id n o) t) ∙ one t
    where
      one : (t : Operation) → head (put insertion (with_id n o) t) ≡ head t
      one (op h rs) = refl

  pub rewritten_head : (insertion : Place) (n : ℕ) (made : List Operation) → head (rewritten insertion n made x v t) ≡ put_values (Result x 0) v (head t)
  rewritten_head insertion n made = one (with_made insertion n made t) ∙ ap f (head_made insertion n made t)
    where
      one : (u : Operation) → head (without x (with_value_replaced (Result x 0) v u)) ≡ put_values (Result x 0) v (head u)
      one (op h rs) = refl

  -- the operation is arithmetic
  computed_follows : (R : Header → Header → Type 0) (insertion : Place) (n : ℕ) (made : List Operation) → AllPut (λ h. is_arithmetic h ≡ true) n made → Each (λ h. R h (put_values (Result x 0) v h)) t
      → Each (IsNumberAt x) t → RegionsFollow R (shown_regions (regions t)) (shown_regions (regions (rewritten insertion n made x v t)))
  computed_follows R insertion n made s e numbers =
      subst (RegionsFollow R (shown_regions (regions t))) (sym (rewritten_shown numbers insertion n made s))
      (follows_changed R f (shown_regions (regions t)) (each_shown (λ h. R h (put_values (Result x 0) v h)) (regions t) (inside (λ h. R h (put_values (Result x 0) v h)) t e)))

  -- the operation is observable and may be erased
  dead_follows : (R : Header → Header → Type 0) (insertion : Place) (n : ℕ) (made : List Operation) → AllPut (λ h. is_arithmetic h ≡ true) n made → Each (λ h. R h (put_values (Result x 0) v h)) t
      → WholeInRegions (IsUnmissedAt x) (shown_regions (regions t)) → RegionsFollow R (shown_regions (regions t)) (shown_regions (regions (rewritten insertion n made x v t)))
  dead_follows R insertion n made s e unmissed =
      let y = (head (with_value_replaced (Result x 0) v (with_made insertion n made t))).id in
      subst (RegionsFollow R (shown_regions (regions t))) (sym (dropped_shown insertion n made s ∙ ap (regions_each_list (λ p r os. drop_op x os) y 0) (changed_shown t)))
      (follows_replaced R x v y 0 (shown_regions (regions t)) (each_shown (λ h. R h (put_values (Result x 0) v h)) (regions t) (inside (λ h. R h (put_values (Result x 0) v h)) t e)) unmissed)

  pub rewritten_follows : (R : Header → Header → Type 0) (insertion : Place) (n : ℕ) (made : List Operation) → AllPut (λ h. is_arithmetic h ≡ true) n made → Each (λ h. R h (put_values (Result x 0) v h)) t
      → HasDistinctIds t → IsReplaceable x t → RegionsFollow R (shown_regions (regions t)) (shown_regions (regions (rewritten insertion n made x v t)))
  rewritten_follows R insertion n made s e d (inl root) = computed_follows R insertion n made s e (number_at x t d root)
  rewritten_follows R insertion n made s e d (inr dead) = dead_follows R insertion n made s e (unmissed_at t x dead.0 d dead.1 dead.2)

-- the tree shows what the module showed, if each operation is kept
pub replaced_shows : (m : Module) (x : ℕ) (v : Value) (insertion : Place) (made : List Operation) (a now : Assignment) (later : ℕ → Bool) → HasDistinctIds m.tree → IsReplaceable x m.tree → AllBare made → AllPut (λ h. is_arithmetic h ≡ true) m.next made
    → Each (λ h. IsKept m.next m.tree (rewritten insertion m.next made x v m.tree) a now later h (put_values (Result x 0) v h)) m.tree
    → ((w : Value) → owner w < m.next → is_computed m.tree w ≡ false → is_computed (rewritten insertion m.next made x v m.tree) w ≡ false)
    → Shows a now m later (rewritten insertion m.next made x v m.tree)
replaced_shows m x v insertion made a now later distinct replaceable bare numbers kept simple =
    let u = rewritten insertion m.next made x v m.tree in
    let stays : Each (λ h. Stays m.next m.tree u a now later h (put_values (Result x 0) v h)) m.tree =
    each_both (λ h. IsKept m.next m.tree u a now later h (put_values (Result x 0) v h)) (λ h. Unit {0}) (λ h. Stays m.next m.tree u a now later h (put_values (Result x 0) v h)) (λ h s q. kept_stays h (put_values (Result x 0) v h) s) m.tree kept (units m.tree) in
    record {
      root = λ i. subst (Stays m.next m.tree u a now later (head m.tree)) (sym (rewritten_head x v m.tree insertion m.next made)) (at_root (λ h. Stays m.next m.tree u a now later h (put_values (Result x 0) v h)) m.tree stays);
      follows = rewritten_follows x v m.tree (Stays m.next m.tree u a now later) insertion m.next made numbers stays distinct replaceable;
      simple = simple;
      origins = rewritten_origins m.next x v m.tree insertion made a now later bare numbers kept simple;
    }

-- ---- an operation erased
pub erased_follows : (R : Header → Header → Type 0) (t : Operation) (x : ℕ) (here : Operation) → HasDistinctIds t → find x t ≡ Some here → is_unmissed here ≡ true → Each (λ h. R h h) t
    → RegionsFollow R (shown_regions (regions t)) (shown_regions (regions (without x t)))
erased_follows R t x here d found unmissed each =
    subst (RegionsFollow R (shown_regions (regions t))) (sym (one t))
    (follows_without R x (head t).id 0 (shown_regions (regions t)) (each_shown (λ h. R h h) (regions t) (inside (λ h. R h h) t each)) (unmissed_at t x here d found unmissed))
  where
    one : (t : Operation) → shown_regions (regions (without x t)) ≡ regions_each_list (λ p r os. drop_op x os) (head t).id 0 (shown_regions (regions t))
    one (op h rs) = shown_without x h.id 0 rs

-- ---- composed in sequence
module _ (a b c : Assignment) (m p w : Operation) (n r : ℕ) (before later : ℕ → Bool) (grows : n ≤ r) (same : (y : ℕ) → y < n → later y ≡ before y) (origins : (o : Origins) → AreOrigins n a o before m → AreOrigins n b o before p) where
  back : (o : Origins) → AreOrigins n a o later m → AreOrigins n a o before m
  back o are = origins_later n a o later before m (λ y l. sym (same y l)) are

  pub origins_between : (o : Origins) → AreOrigins n a o later m → AreOrigins r b o later p
  origins_between o are = origins_grown n r b o later p grows (origins_later n b o before later p same (origins o (back o are)))

  pub stays_through : (h k l : Header) → h.id < n → Stays n m p a b before h k → Stays r p w b c later k l → Stays n m w a c later h l
  stays_through h k l old s q =
      let own : h.id ≡ k.id = ap (λ (h : Header). h.id) s.same in
      let last : k.id ≡ l.id = ap (λ (h : Header). h.id) q.same in
      record {
        same = s.same ∙ q.same;
        choice = λ e. q.choice (s.choice e);
        still = λ e o are. all_still_through o h.operands k.operands l.operands (s.still e o (back o are)) (q.still (s.choice e) o (origins_between o are));
        better = λ e i.
            all_through (map a h.operands) (map b k.operands) (map c l.operands)
            (s.better e (ap before (sym own) ∙ sym (same h.id old) ∙ ap later (own ∙ last) ∙ i)) (q.better (s.choice e) i);
      }

-- a module shows what the first module showed, if each shows what the one before showed
pub shows_through : (a b c : Assignment) (m p : Module) (t : Operation) (before later : ℕ → Bool) → IsWellFormed is_isolated m → m.next ≤ p.next → ((y : ℕ) → y < p.next → later y ≡ before y)
    → Shows a b m before p.tree → Shows b c p later t → Shows a c m later t
shows_through a b c m p t before later wellformed grows same s r =
    let old = is_below m.next m.tree wellformed.below in
    let less : (y : ℕ) → y < m.next → later y ≡ before y = (λ y l. same y (omega (arith, l, grows))) in
    let through = stays_through a b c m.tree p.tree t m.next p.next before later grows less s.origins in
    record {
      root = λ e. let first = s.root e in through (head m.tree) (head p.tree) (head t) (at_root (λ h. h.id < m.next) m.tree old) first (r.root (ap is_arithmetic (sym first.same) ∙ e));
      follows =
          follows_through (λ h. h.id < m.next) (Stays m.next m.tree p.tree a b before) (Stays p.next p.tree t b c later) (Stays m.next m.tree t a c later) (λ h k s. ap (λ (h : Header). h.name) s.same) through
          (shown_regions (regions m.tree)) (shown_regions (regions p.tree)) (shown_regions (regions t)) (each_shown (λ h. h.id < m.next) (regions m.tree) (inside (λ h. h.id < m.next) m.tree old)) s.follows r.follows;
      simple = λ v l e. r.simple v (omega (arith, l, grows)) (s.simple v l e);
      origins = λ o are. let last = r.origins o (origins_between a b c m.tree p.tree t m.next p.next before later grows less s.origins o are) in record { chosen = last.chosen; computed = last.computed; unused = are.unused };
    }

-- operations that don't change choose what they chose
pub same_origins : (n : ℕ) (t u : Operation) (a now : Assignment) (later : ℕ → Bool) → Each (λ h. IsKept n t u a now later h h) t → ((P : Header → Type 0) → Each P t → Each P u)
    → ((v : Value) → owner v < n → is_computed t v ≡ false → is_computed u v ≡ false) → (o : Origins) → AreOrigins n a o later t → AreOrigins n now o later u
same_origins n t u a now later kept carry simple o are =
    origins_are n a now o later t u are simple
    (carry (Chooses now o later u)
    (each_both (λ h. IsKept n t u a now later h h) (Chooses a o later t) (Chooses now o later u) (λ h s c. kept_chooses h h s o are c) t kept are.chosen))

-- a module shows what it shows, with refined outcomes
pub shows_itself : (a now : Assignment) (m : Module) (later : ℕ → Bool) → ((v : Value) → refines (a v) (now v) ≡ true) → Shows a now m later m.tree
shows_itself a now m later f = record {
  root = λ e. stays_so m.next m.tree m.tree a now later f (head m.tree) (λ e. e);
  follows = follows_so m.next m.tree m.tree a now later f (each_alike (Alike m.tree m.tree) (λ h e. e));
  simple = λ v l e. e;
  origins = same_origins m.next m.tree m.tree a now later (each_alike (λ h. IsKept m.next m.tree m.tree a now later h h) (λ h. kept_so m.next m.tree m.tree a now later f h (λ e. e))) (λ P s. s) (λ v l e. e);
}
  where
    each_alike : (P : Header → Type 0) → ((h : Header) → P h) → Each P m.tree
    each_alike P p = each_both (λ h. Unit {0}) (λ h. Unit {0}) P (λ h s q. p h) m.tree (units m.tree) (units m.tree)

-- ---- changes of an arithmetic operation in place, which aren't observable
pub record IsUnseen (x : ℕ) (t u : Operation) : Type 0 where
  pub shown : shown_regions (regions u) ≡ shown_regions (regions t)
  pub numbers : Each (IsNumberAt x) u
  pub root : is_arithmetic (head t) ≡ false → head u ≡ head t

pub at_unseen : (x : ℕ) (f : Header → Header) → ((h : Header) → is_arithmetic (f h) ≡ is_arithmetic h) → (t : Operation) → Each (IsNumberAt x) t → IsUnseen x t (each_head (at x f) t)
at_unseen x f same (op h rs) s = record {
  shown = shown_at x f same rs s.1;
  numbers = each_changed (IsNumberAt x) (IsNumberAt x) (at x f) still (op h rs) s;
  root = λ e. go (bool_cases (eqb h.id x)) e;
}
  where
    still : (j : Header) → IsNumberAt x j → IsNumberAt x (at x f j)
    still j p = by (eqb j.id x) refl
      where
        by : (b : Bool) → eqb j.id x ≡ b → IsNumberAt x (if b then f j else j)
        by true i e = same j ∙ p i
        by false i e = p e

    go : (eqb h.id x ≡ true) ⊎ (eqb h.id x ≡ false) → is_arithmetic h ≡ false → at x f h ≡ h
    go (inl i) e = absurd (true≢false (sym (s.0 i) ∙ e))
    go (inr i) e = ap (λ b. if b then f h else h) i

pub unseen_through : (x : ℕ) (t u w : Operation) → IsUnseen x t u → IsUnseen x u w → IsUnseen x t w
unseen_through x t u w p q = record {
  shown = q.shown ∙ p.shown;
  numbers = q.numbers;
  root = λ e. q.root (ap is_arithmetic (p.root e) ∙ e) ∙ p.root e;
}

pub unseen_shows : (a now : Assignment) (m : Module) (later : ℕ → Bool) (x : ℕ) (u : Operation) → IsUnseen x m.tree u → ((v : Value) → refines (a v) (now v) ≡ true) → Each (Alike m.tree u) m.tree
    → ((v : Value) → owner v < m.next → is_computed m.tree v ≡ false → is_computed u v ≡ false) → ((o : Origins) → AreOrigins m.next a o later m.tree → AreOrigins m.next now o later u) → Shows a now m later u
unseen_shows a now m later x u s f alike simple origins = record {
  root = λ e. subst (Stays m.next m.tree u a now later (head m.tree)) (sym (s.root e)) (stays_so m.next m.tree u a now later f (head m.tree) (at_root (Alike m.tree u) m.tree alike));
  follows = subst (RegionsFollow (Stays m.next m.tree u a now later) (shown_regions (regions m.tree))) (sym s.shown) (follows_so m.next m.tree u a now later f alike);
  simple = simple;
  origins = origins;
}

-- observable operations were there before
pub shown_were_there : ShownWereThere
shown_were_there a now m later t s = were_there (Stays m.next m.tree t a now later) (shown_regions (regions m.tree)) (shown_regions (regions t)) s.follows
