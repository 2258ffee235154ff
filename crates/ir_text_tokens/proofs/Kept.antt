-- Adding and removing bindings keeps the invariant.
use Rattle.std.proofs.Common.{◌≡◌, refl, sym, ap, ◌∙◌, subst, ℕ, zero, suc, ◌-◌, ◌<◌, ◌≤◌, Bool, true, false, cond, List, [], ◌∷◌, ◌++◌, length, get_or, take, drop, Option, Some, None, ◌⊎◌, inl, inr, ⊎_elim, arith}
use Prim.Native.Nat.compare
use Rattle.std.specs.Prelude.{nat_le, nat_lt, not, is_some, option_map, slice_get}
use Rattle.std.specs.Str.{bytes_eq}
use Rattle.std.specs.Borrow.{Bor}
use Rattle.std.proofs.lemmas.List.{map-append, length-append, length-map, take-append-le, drop-append-le, take-map, take-take, nil_from_length}
use Rattle.std.proofs.lemmas.Slice.Eq.{bytes_eq-Decides}
use Rattle.std.specs.HashMap.{HashMap, get}
use Rattle.ir_text_tokens.specs.Scopes.{Binding, Scopes, or_else, find, bound, entered, left}
use Rattle.ir_text_tokens.specs.Places.{key_eq, joined, binding_view, views, top, pick, is_from, Linked, Agrees}
use Rattle.ir_text_tokens.specs.Inside.{visible_at, visible_onto, Standing}
use Rattle.ir_text_tokens.specs.declared.names.Entry.{Entry}
use Rattle.ir_text_tokens.specs.declared.names.ScopeStart.{ScopeStart}
use Rattle.ir_types.proofs.Truths.{drop_all, zero_le}
use Rattle.std.proofs.lemmas.Option.{slice_get_within, slice_get_read, slice_get-map, same_Some}
use Rattle.ir_types.proofs.Building.{place_stays, last_place, push_cases}

take_all : {A : Type 0} (xs : List A) → take (length xs) xs ≡ xs
take_all [] = refl
take_all (x ∷ xs) = ap (λ l. x ∷ l) (take_all xs)

joined_cond : {A : Type 0} (t : Bool) (x : Option A) (o : Option (Option A)) → joined (cond t (Some x) o) ≡ cond t x (joined o)
joined_cond true x o = refl
joined_cond false x o = refl

-- ---- enclosing regions

pub standing_more : (ms : List ScopeStart) (a b : ℕ) → a ≤ b → Standing ms a → Standing ms b
standing_more ms a b le h = record { marked = λ i m at. ((h.marked i m at).0, omega (arith, (h.marked i m at).1)); rising = h.rising }

pub standing_push : (ms : List ScopeStart) (m : ScopeStart) → Standing ms m.count → m.first ≤ m.count → Standing (ms ++ m ∷ []) m.count
standing_push ms m h le = record {
  marked = λ i k at. ⊎_elim (λ p. h.marked i k p) (λ (p : (i ≡ length ms) × (m ≡ k)). rw (← p.1) (le, omega arith)) (push_cases ms m k i at);
  rising = λ i j k l lt at to. ⊎_elim
      (λ q. h.rising i j k l lt (below ms m i k at (omega (arith, slice_get_within ms j l q, lt))) q)
      (λ (q : (j ≡ length ms) × (m ≡ l)). rw (← q.1) (h.marked i k (below ms m i k at (omega (arith, q.0, lt)))).1)
      (push_cases ms m l j to);
}
  where
    below : (ms : List ScopeStart) (m : ScopeStart) (i : ℕ) (k : ScopeStart) → slice_get (ms ++ m ∷ []) i ≡ Some k → i < length ms → slice_get ms i ≡ Some k
    below ms m i k at lt = ⊎_elim (λ p. p) (λ (p : (i ≡ length ms) × (m ≡ k)). absurd (omega (arith, p.0, lt))) (push_cases ms m k i at)

pub standing_pop : (ms : List ScopeStart) (m : ScopeStart) (count : ℕ) → Standing (ms ++ m ∷ []) count → Standing ms m.count
standing_pop ms m count h = record {
  marked = λ i k at. ((h.marked i k (place_stays ms (m ∷ []) i k at)).0, h.rising i (length ms) k m (slice_get_within ms i k at) (place_stays ms (m ∷ []) i k at) (last_place ms m));
  rising = λ i j k l lt at to. h.rising i j k l lt (place_stays ms (m ∷ []) i k at) (place_stays ms (m ∷ []) j l to);
}

pub standing_last : (ms : List ScopeStart) (m : ScopeStart) (count : ℕ) → Standing (ms ++ m ∷ []) count → (m.first ≤ m.count) × (m.count ≤ count)
standing_last ms m count h = h.marked (length ms) m (last_place ms m)

pub no_marks : (count : ℕ) → Standing [] count
no_marks count = record { marked = λ i m at. absurd (none i m at); rising = λ i j m k lt at to. absurd (none i m at) }
  where
    none : (i : ℕ) (m : ScopeStart) → slice_get [] i ≡ Some m → ⊥
    none zero m e = cc
    none (suc i) m e = cc

pub shorter : {A : Type 0} (count : ℕ) (xs ys : List A) (x : A) → ys ≡ xs ++ x ∷ [] → count < length ys → take count ys ≡ take count xs
shorter count xs ys x e lt = rw e (take-append-le count xs (x ∷ []) (omega (arith, lt, ap length e, length-append xs (x ∷ []))))

abbrev some_place : ℕ → Option ℕ
some_place i = Some i

module _ {T : Type 0} where
  -- ---- the last binding of a name

  pub top_push : (name : List ℕ) (bs : List (Binding T)) (b : Binding T) → top name (bs ++ b ∷ []) ≡ cond (bytes_eq b.name name) (Some (length bs)) (top name bs)
  unfolding top
  top_push name [] b = refl
  top_push name (c ∷ bs) b =
      ap (λ o. or_else (option_map suc o) (cond (bytes_eq c.name name) (Some 0) None)) (top_push name bs b)
      ∙ elim (bytes_eq b.name name) as (λ t. or_else (option_map suc (cond t (Some (length bs)) (top name bs))) (cond (bytes_eq c.name name) (Some 0) None) ≡ cond t (Some (suc (length bs))) (or_else (option_map suc (top name bs)) (cond (bytes_eq c.name name) (Some 0) None))) [ true ↦ refl | false ↦ refl ]

  -- the last of all bindings is the last of its name
  pub top_at_end : (name : List ℕ) (bs : List (Binding T)) (i : ℕ) (b : Binding T) → suc i ≡ length bs → slice_get bs i ≡ Some b → bytes_eq b.name name ≡ true → top name bs ≡ Some i
  unfolding top
  top_at_end name [] i b e at same = absurd (omega (arith, e))
  top_at_end name (c ∷ []) zero b e at same = rw (ap (λ (x : Binding T). bytes_eq x.name name) (same_Some c b at) ∙ same) refl
  top_at_end name (c ∷ []) (suc i) b e at same = absurd (omega (arith, e))
  top_at_end name (c ∷ d ∷ ds) zero b e at same = absurd (omega (arith, e))
  top_at_end name (c ∷ d ∷ ds) (suc i) b e at same = rw (top_at_end name (d ∷ ds) i b (omega (arith, e)) at same) refl

  -- either the name has no binding, or its last binding is at the index
  abbrev Tops : List ℕ → List (Binding T) → Type 0
  Tops name bs = ((top name bs ≡ None) × (find name bs ≡ None)) ⊎ ((i : ℕ) × (b : Binding T) × (top name bs ≡ Some i) × (slice_get bs i ≡ Some b) × (find name bs ≡ Some b.value))

  tops : (name : List ℕ) (bs : List (Binding T)) → Tops name bs
  unfolding top find
  tops name [] = inl (refl, refl)
  tops name (c ∷ bs) = ⊎_elim
      (λ (p : (top name bs ≡ None) × (find name bs ≡ None)). rw (p.0, p.1) (elim (bytes_eq c.name name) as (λ t. ((cond t (some_place 0) None ≡ None) × (cond t (Some c.value) None ≡ None)) ⊎ ((i : ℕ) × (b : Binding T) × (cond t (some_place 0) None ≡ Some i) × (slice_get (c ∷ bs) i ≡ Some b) × (cond t (Some c.value) None ≡ Some b.value))) [ true ↦ inr (0, c, refl, refl, refl) | false ↦ inl (refl, refl) ]))
      (λ (p : (i : ℕ) × (b : Binding T) × (top name bs ≡ Some i) × (slice_get bs i ≡ Some b) × (find name bs ≡ Some b.value)). rw (p.2, p.4) (inr (suc p.0, p.1, refl, p.3, refl)))
      (tops name bs)

  pub find_top : (name : List ℕ) (floor : ℕ) (bs : List (Binding T)) → pick bs floor (top name bs) ≡ find name (drop floor bs)
  unfolding top find
  find_top name zero bs = ⊎_elim
      (λ (p : (top name bs ≡ None) × (find name bs ≡ None)). rw (p.0, p.1) refl)
      (λ (p : (i : ℕ) × (b : Binding T) × (top name bs ≡ Some i) × (slice_get bs i ≡ Some b) × (find name bs ≡ Some b.value)). rw (p.2, p.4, compare.suc-zero) (ap (option_map (λ (x : Binding T). x.value)) p.3))
      (tops name bs)
  find_top name (suc floor) [] = refl
  find_top name (suc floor) (c ∷ bs) =
      elim (top name bs) as (λ o. pick (c ∷ bs) (suc floor) (or_else (option_map suc o) (cond (bytes_eq c.name name) (Some 0) None)) ≡ pick bs floor o) [ None ↦ elim (bytes_eq c.name name) as (λ t. pick (c ∷ bs) (suc floor) (cond t (Some 0) None) ≡ None) [ true ↦ rw (compare.suc-suc, zero_le floor) refl | false ↦ refl ] | Some i ↦ rw compare.suc-suc refl ]
      ∙ find_top name floor bs

  -- whether the name is visible, by the index of its last binding
  pub is_seen : (name : List ℕ) (floor : ℕ) (bs : List (Binding T)) → is_some (find name (drop floor bs)) ≡ is_from floor (top name bs)
  is_seen name floor bs = ap is_some (sym (find_top name floor bs)) ∙ ⊎_elim
      (λ (p : (top name bs ≡ None) × (find name bs ≡ None)). rw p.0 refl)
      (λ (p : (i : ℕ) × (b : Binding T) × (top name bs ≡ Some i) × (slice_get bs i ≡ Some b) × (find name bs ≡ Some b.value)).
      rw (p.2, p.3) (elim (nat_lt p.0 floor) as (λ t. is_some (cond t None (Some p.1.value)) ≡ not t) [ true ↦ refl | false ↦ refl ]))
      (tops name bs)

  -- ---- the entries and the map

  views_push : (es : List (Entry T)) (e : Entry T) → views (es ++ e ∷ []) ≡ views es ++ binding_view e ∷ []
  views_push es e = map-append _ es (e ∷ [])

  take_views : (i : ℕ) (es : List (Entry T)) (e : Entry T) → i ≤ length es → take i (views (es ++ e ∷ [])) ≡ take i (views es)
  take_views i es e le = rw (views_push es e) (take-append-le i (views es) (binding_view e ∷ []) (omega (arith, length-map es binding_view)))

  -- the last of all entries is the last of its name
  pub last_named : (name : List ℕ) (es : List (Entry T)) (e : Entry T) → 1 ≤ length es → e ≡ get_or es (length es - 1) e → bytes_eq e.name.now name ≡ true → Some (length es - 1) ≡ top name (views es)
  last_named name es e le at same =
      let within : slice_get es (length es - 1) ≡ Some e = slice_get_read es (length es) (length es - 1) e refl (omega (arith, le)) at in
      let viewed : slice_get (views es) (length es - 1) ≡ Some (binding_view e) = slice_get-map binding_view es (length es - 1) ∙ ap (option_map binding_view) within in
      sym (top_at_end name (views es) (length es - 1) (binding_view e) (omega (arith, le, length-map es binding_view)) viewed same)

  linked_push : (es : List (Entry T)) (e : Entry T) → Linked es → e.hidden ≡ top e.name.now (views es) → Linked (es ++ e ∷ [])
  linked_push es e h same i f at = ⊎_elim
      (λ p. h i f p ∙ ap (top f.name.now) (sym (take_views i es e (omega (arith, slice_get_within es i f p)))))
      (λ (p : (i ≡ length es) × (e ≡ f)). rw (← p.1, p.0) (same ∙ ap (top e.name.now) (sym (take_views (length es) es e (omega arith) ∙ ap (λ n. take n (views es)) (sym (length-map es _)) ∙ take_all (views es)))))
      (push_cases es e f i at)

  linked_pop : (es : List (Entry T)) (e : Entry T) → Linked (es ++ e ∷ []) → Linked es
  linked_pop es e h i f at = h i f (place_stays es (e ∷ []) i f at) ∙ ap (top f.name.now) (take_views i es e (omega (arith, slice_get_within es i f at)))

  linked_last : (es : List (Entry T)) (e : Entry T) → Linked (es ++ e ∷ []) → e.hidden ≡ top e.name.now (views es)
  linked_last es e h = h (length es) e (last_place es e) ∙ ap (top e.name.now) (take_views (length es) es e (omega arith) ∙ ap (λ n. take n (views es)) (sym (length-map es _)) ∙ take_all (views es))

  -- ---- marks

  pub seen_push : (bs : List (Binding T)) (done : List (List (Binding T))) (ms : List ScopeStart) (m : ScopeStart) → visible_onto bs done (ms ++ m ∷ []) ≡ visible_at bs m ∷ visible_onto bs done ms
  unfolding visible_onto
  seen_push bs done [] m = refl
  seen_push bs done (k ∷ ms) m = seen_push bs (visible_at bs k ∷ done) ms m

  seen_same : (bs cs : List (Binding T)) (done : List (List (Binding T))) (ms : List ScopeStart) → ((i : ℕ) (k : ScopeStart) → slice_get ms i ≡ Some k → take k.count cs ≡ take k.count bs) → visible_onto cs done ms ≡ visible_onto bs done ms
  unfolding visible_onto
  seen_same bs cs done [] h = refl
  seen_same bs cs done (k ∷ ms) h = ap (λ l. visible_onto cs (drop k.first l ∷ done) ms) (h 0 k refl) ∙ seen_same bs cs (visible_at bs k ∷ done) ms (λ i j at. h (suc i) j at)

  pub seen_more : (bs : List (Binding T)) (b : Binding T) (ms : List ScopeStart) → Standing ms (length bs) → visible_onto (bs ++ b ∷ []) [] ms ≡ visible_onto bs [] ms
  seen_more bs b ms h = seen_same bs (bs ++ b ∷ []) [] ms (λ i k at. take-append-le k.count bs (b ∷ []) (h.marked i k at).1)

  pub seen_cut : (bs : List (Binding T)) (ms : List ScopeStart) (m : ScopeStart) (count : ℕ) → Standing (ms ++ m ∷ []) count → visible_onto (take m.count bs) [] ms ≡ visible_onto bs [] ms
  seen_cut bs ms m count h = seen_same bs (take m.count bs) [] ms (λ i k at. take-take k.count m.count bs (h.rising i (length ms) k m (slice_get_within ms i k at) (place_stays ms (m ∷ []) i k at) (last_place ms m)))

  module _ {S : Type 0} (m n : HashMap (Bor (List ℕ)) (Option ℕ) S) (es : List (Entry T)) (e : Entry T) where
    pub agrees_push : Agrees m es → ((q : Bor (List ℕ)) → get key_eq n q ≡ cond (bytes_eq e.name.now q.now) (Some (Some (length es))) (get key_eq m q)) → e.hidden ≡ joined (get key_eq m e.name) → Agrees n (es ++ e ∷ [])
    agrees_push h put same = record {
      found = λ q. ap joined (put q) ∙ joined_cond (bytes_eq e.name.now q.now) (Some (length es)) (get key_eq m q)
          ∙ (λ i. cond (bytes_eq e.name.now q.now) (Some (sym (length-map es binding_view) i)) (h.found q i))
          ∙ sym (top_push q.now (views es) (binding_view e)) ∙ ap (top q.now) (sym (views_push es e));
      linked = linked_push es e h.linked (same ∙ h.found e.name);
    }

    pub agrees_pop : Agrees m (es ++ e ∷ []) → ((q : Bor (List ℕ)) → get key_eq n q ≡ cond (bytes_eq e.name.now q.now) (Some e.hidden) (get key_eq m q)) → Agrees n es
    agrees_pop h put = record {
      found = λ q. ap joined (put q) ∙ joined_cond (bytes_eq e.name.now q.now) e.hidden (get key_eq m q)
          ∙ (λ i. cond (bytes_eq e.name.now q.now) e.hidden ((h.found q ∙ ap (top q.now) (views_push es e) ∙ top_push q.now (views es) (binding_view e)) i))
          ∙ before q;
      linked = linked_pop es e h.linked;
    }
      where
        before : (q : Bor (List ℕ)) → cond (bytes_eq e.name.now q.now) e.hidden (cond (bytes_eq e.name.now q.now) (Some (length (views es))) (top q.now (views es))) ≡ top q.now (views es)
        before q = (elim (bytes_eq e.name.now q.now) as (λ t. bytes_eq e.name.now q.now ≡ t → cond t e.hidden (cond t (Some (length (views es))) (top q.now (views es))) ≡ top q.now (views es)) [ true ↦ λ f. linked_last es e h.linked ∙ ap (λ n. top n (views es)) ((bytes_eq-Decides e.name.now q.now).0 f) | false ↦ λ f. refl ]) refl

    pub is_there : Agrees m (es ++ e ∷ []) → get key_eq m e.name ≡ None → ⊥
    is_there h none =
        let k : None ≡ top e.name.now (views (es ++ e ∷ [])) = ap joined (sym none) ∙ h.found e.name in
        let l : top e.name.now (views (es ++ e ∷ [])) ≡ Some (length (views es)) = ap (top e.name.now) (views_push es e) ∙ top_push e.name.now (views es) (binding_view e) ∙ rw ((bytes_eq-Decides e.name.now e.name.now).1 refl) refl in
        absurd cc

  pub no_entries : {S : Type 0} (m : HashMap (Bor (List ℕ)) (Option ℕ) S) → m.entries ≡ [] → Agrees {T = T} m []
  unfolding top
  no_entries m e = record { found = λ q. rw e refl; linked = λ i x at. absurd (none i x at) }
    where
      none : (i : ℕ) (x : Entry T) → slice_get [] i ≡ Some x → ⊥
      none zero x e = cc
      none (suc i) x e = cc

  pub take_count : (es : List (Entry T)) (n : ℕ) → n ≡ length es → take n (views es) ≡ views es
  take_count es n e = ap (λ k. take k (views es)) (e ∙ sym (length-map es _)) ∙ take_all (views es)

  pub drop_count : (es : List (Entry T)) (n : ℕ) → n ≡ length es → drop n (views es) ≡ []
  drop_count es n e = ap (λ k. drop k (views es)) (e ∙ sym (length-map es _)) ∙ drop_all (views es)

  abbrev at_marks : List (Binding T) → List ScopeStart → ℕ → Scopes T
  at_marks bs ms floor = record { here = drop floor bs; outer = visible_onto bs [] ms }

  abbrev with_outer : List (Binding T) → List (List (Binding T)) → Scopes T
  with_outer here outer = record { here = here; outer = outer }

  -- the scopes at the start of a region
  pub enters : (es : List (Entry T)) (ms new : List ScopeStart) (floor n : ℕ) → n ≡ length es → new ≡ ms ++ (record { count = n; first = floor }) ∷ []
      → (isolated : Bool) (next : ℕ) → next ≡ cond isolated n floor → at_marks (views es) new next ≡ entered isolated (at_marks (views es) ms floor)
  enters es ms new floor n e f isolated next g =
      rw (f, seen_push (views es) [] ms (record { count = n; first = floor }), take_count es n e, g)
      (elim isolated as (λ b. with_outer (drop (cond b n floor) (views es)) (drop floor (views es) ∷ visible_onto (views es) [] ms) ≡ entered b (at_marks (views es) ms floor)) [ true ↦ rw (drop_count es n e) refl | false ↦ refl ])

  -- the scopes at the end of a region
  pub leaves : (es cut : List (Entry T)) (ms old : List ScopeStart) (m : ScopeStart) (floor count : ℕ) → old ≡ ms ++ m ∷ [] → cut ≡ take m.count es → Standing old count → at_marks (views cut) ms m.first ≡ left (at_marks (views es) old floor)
  leaves es cut ms old m floor count e f h =
      let k : views cut ≡ take m.count (views es) = rw f (sym (take-map _ m.count es)) in
      rw (k, e, seen_push (views es) [] ms m, seen_cut (views es) ms m count (subst (λ o. Standing o count) e h)) refl

  pub leaves_none : (es : List (Entry T)) (new old : List ScopeStart) (floor : ℕ) → length old ≡ 0 → length new ≡ 0 → at_marks (views es) new floor ≡ left (at_marks (views es) old floor)
  unfolding visible_onto
  leaves_none es new old floor e f = rw (nil_from_length old e, nil_from_length new f) refl

  -- the scopes with one more name
  pub adds : (es new : List (Entry T)) (ms : List ScopeStart) (b : Binding T) (floor : ℕ) → views new ≡ views es ++ b ∷ [] → floor ≤ length es → Standing ms (length es) → at_marks (views new) ms floor ≡ bound b.name b.value (at_marks (views es) ms floor)
  adds es new ms b floor e le h =
      let k : length (views es) ≡ length es = length-map es _ in
      rw (e, seen_more (views es) b ms (standing_more ms (length es) (length (views es)) (omega (arith, k)) h), drop-append-le floor (views es) (b ∷ []) (omega (arith, k))) refl

  -- an entry that was appended and removed again
  module _ (es new cut : List (Entry T)) (b : Binding T) (n : ℕ) where
    pub cut_back : n ≡ length es → views new ≡ views es ++ b ∷ [] → cut ≡ take n new → views cut ≡ views es
    cut_back e f g =
        let within : n ≤ length (views es) = omega (arith, e, length-map es binding_view) in
        rw g (sym (take-map _ n new) ∙ ap (take n) f ∙ take-append-le n (views es) (b ∷ []) within ∙ take_count es n e)

    pub as_many : n ≡ length es → views new ≡ views es ++ b ∷ [] → cut ≡ take n new → length es ≡ length cut
    as_many e f g = sym (length-map es binding_view) ∙ ap length (sym (cut_back e f g)) ∙ length-map cut binding_view

    pub stays : (ms : List ScopeStart) (floor : ℕ) → n ≡ length es → views new ≡ views es ++ b ∷ [] → cut ≡ take n new → at_marks (views cut) ms floor ≡ at_marks (views es) ms floor
    stays ms floor e f g = rw (cut_back e f g) refl
