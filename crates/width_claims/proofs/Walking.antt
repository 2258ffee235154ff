-- What stays true while states are walked.
use Rattle.std.proofs.Common.{◌≡◌, ◌∙◌, ◌<◌, ◌≤◌, ◌++◌, ◌+◌, ◌⊎◌, inl, inr, ⊎_elim, ℕ, zero, suc, List, [], ◌∷◌, Bool, true, false, true≢false, ◌||◌, ◌==◌, not, if◌then◌else◌, Option, Some, None, refl, sym, ap, subst, arith, length, length-append, reverse, slice_get, get_or}
use Rattle.std.specs.List.{list_any}
use Rattle.std.proofs.lemmas.List.{get_or_append_left, reverse-append}
use Rattle.std.proofs.Math.Seq.{get_or-append_seam}
use Rattle.std.proofs.lemmas.Bool.{cases_lt}
use Rattle.std.proofs.lemmas.Bool.{eqb-true}
use Rattle.std.proofs.lemmas.Option.{slice_get_past, slice_get_within, slice_get-get_or, same_Some, none-some}
use Rattle.width_claims.specs.declared.origin.Origin.{Origin}
use Rattle.width_claims.specs.declared.transition.Transition.{Transition}
use Rattle.width_claims.specs.declared.visit.Visit.{Visit}
use Rattle.width_claims.specs.declared.visit.Visit.TheVariants as visit
use Rattle.width_claims.specs.Runs.{reached, AreLetters, AreTransitions, AcceptsAll, AreTransitionsIf, IsShortest}
use Rattle.width_claims.specs.Walks.{LeadsTo, AreBefore, ComesFrom, AreOrigins, IsVisited, AreVisited, AllVisited, AreDepths, AreFrom, AreLayers, TargetsAreFound, depth, Goes, GoesThrough, Visited, Walked, WalkedBy, Found, WentThrough}

pub still_there : {X : Type 0} → (xs ys : List X) (i : ℕ) (x : X) → slice_get xs i ≡ Some x → slice_get (xs ++ ys) i ≡ Some x
still_there [] ys i x e = absurd (none-some x (sym (slice_get_past [] i (omega arith)) ∙ e))
still_there (x ∷ xs) ys zero y e = e
still_there (x ∷ xs) ys (suc i) y e = still_there xs ys i y e

pub last_there : {X : Type 0} → (xs : List X) (x : X) → slice_get (xs ++ x ∷ []) (length xs) ≡ Some x
last_there [] x = refl
last_there (y ∷ xs) x = last_there xs x

-- an item of a longer list is in the shorter one, or is the last
pub there_or_last : {X : Type 0} → (xs : List X) (x : X) (i : ℕ) (y : X) → slice_get (xs ++ x ∷ []) i ≡ Some y → (slice_get xs i ≡ Some y) ⊎ ((i ≡ length xs) × (x ≡ y))
there_or_last [] x zero y e = inr (refl, same_Some x y e)
there_or_last [] x (suc i) y e = absurd (none-some y (sym (slice_get_past [] i (omega arith)) ∙ e))
there_or_last (z ∷ xs) x zero y e = inl e
there_or_last (z ∷ xs) x (suc i) y e = elim (there_or_last xs x i y e) [ inl h ↦ inl h | inr h ↦ inr (ap suc h.0, h.1) ]

module _ (after : ℕ → ℕ → ℕ) (accepts : ℕ → Bool) (n : ℕ) where
  -- origins stay the same if a state is appended
  still_from : (states : List ℕ) (t i : ℕ) (o : Origin) → ComesFrom after n states i o → ComesFrom after n (states ++ t ∷ []) i o
  still_from states t i o c = (c.0, c.1, c.2, still_there states (t ∷ []) o.from c.2 c.3, still_there states (t ∷ []) i (after c.2 o.letter) c.4)

  more_origins : (states : List ℕ) (os : List Origin) (t : ℕ) (o : Origin) → length os ≡ length states → AreOrigins after n states os
      → ComesFrom after n (states ++ t ∷ []) (length states) o → AreOrigins after n (states ++ t ∷ []) (os ++ o ∷ [])
  more_origins states os t o long are last i p l e =
      elim (there_or_last os o i p e) [
        | inl h ↦ still_from states t i p (are i p l h)
        | inr h ↦ subst (λ (q : Origin). ComesFrom after n (states ++ t ∷ []) i q) h.1 (subst (λ (k : ℕ). ComesFrom after n (states ++ t ∷ []) k o) (sym (h.0 ∙ long)) last)
      ]

  still_visited : (states more ds es : List ℕ) (s d x : ℕ) → ((i : ℕ) (t : ℕ) → slice_get states i ≡ Some t → (slice_get more i ≡ Some t) × (depth es i ≡ depth ds i)) → IsVisited after accepts states ds s d x → IsVisited after accepts more es s d x
  still_visited states more ds es s d x keep m =
      let k = keep m.1.0 (after s x) m.1.1 in
      let same = k.1 in
      let l = m.1.2 in
      (m.0, (m.1.0, k.0, omega (arith, same, l)))

  -- what is longer by one
  module _ (states : List ℕ) (os : List Origin) (ds : List ℕ) (long : length os ≡ length states) (deep : AreDepths ds os) (t d : ℕ) where
    kept : (i u : ℕ) → slice_get states i ≡ Some u → (slice_get (states ++ t ∷ []) i ≡ Some u) × (depth (ds ++ d ∷ []) i ≡ depth ds i)
    kept i u e =
        let l = slice_get_within states i u e in
        let m = deep.0 in
        (still_there states (t ∷ []) i u e, get_or_append_left ds (d ∷ []) 0 i (omega (arith, long, l, m)))

    more_visited : (most : ℕ) → most < length states → AllVisited after accepts n states ds most → AllVisited after accepts n (states ++ t ∷ []) (ds ++ d ∷ []) most
    more_visited most l visited i s k e x lx =
        elim (there_or_last states t i s e) [
          | inl h ↦ (
              let r = still_visited states (states ++ t ∷ []) ds (ds ++ d ∷ []) s (depth ds i) x kept (visited i s k h x lx) in
              subst (λ (c : ℕ). IsVisited after accepts (states ++ t ∷ []) (ds ++ d ∷ []) s c x) (sym (kept i s h).1) r)
          | inr h ↦ (let same = h.0 in absurd (omega (arith, same, l, k)))
        ]

    old_depth : (i : ℕ) → i < length ds → depth (ds ++ d ∷ []) i ≡ depth ds i
    old_depth i l = get_or_append_left ds (d ∷ []) 0 i l

    new_depth : depth (ds ++ d ∷ []) (length ds) ≡ d
    new_depth = get_or-append_seam ds d [] 0

    longer : length (ds ++ d ∷ []) ≡ length ds + 1
    longer = length-append ds (d ∷ [])

    more_deep : (o : Origin) → ((i : ℕ) (p : Origin) → 0 < i → slice_get os i ≡ Some p → p.from < i) → o.from < length ds → d ≡ suc (depth ds o.from) → 0 < length ds → AreDepths (ds ++ d ∷ []) (os ++ o ∷ [])
    more_deep o before_there l e some = (
      longer ∙ ap (λ k. k + 1) deep.0 ∙ sym (length-append os (o ∷ [])),
      old_depth 0 some ∙ deep.1,
      λ i p k is. elim (there_or_last os o i p is) [
        | inl h ↦ (
            let within = slice_get_within os i p h in
            let same = deep.0 in
            let earlier = before_there i p k h in
            let down : p.from < length ds = omega (arith, earlier, within, same) in
            old_depth i (omega (arith, within, same)) ∙ deep.2 i p k h ∙ ap suc (sym (old_depth p.from down)))
        | inr h ↦ (
            let same : i ≡ length ds = h.0 ∙ sym deep.0 in
            ap (depth (ds ++ d ∷ [])) same ∙ new_depth ∙ e ∙ ap suc (sym (old_depth o.from l)) ∙ ap (λ (q : Origin). suc (depth (ds ++ d ∷ []) q.from)) h.1)
      ],
    )

    -- the new one is as deep as one letter more than the place that is gone through
    more_layers : (most : ℕ) → most < length ds → d ≡ suc (depth ds most) → AreLayers ds most → AreLayers (ds ++ d ∷ []) most
    more_layers most l e lay = (
      λ i j k m. elim (last_or j (subst (λ (q : ℕ). j < q) longer m)) [
        | inl h ↦ (
            let a = old_depth i (omega (arith, h, k)) in
            let b = old_depth j h in
            let r = lay.0 i j k h in
            omega (arith, a, b, r))
        | inr h ↦ (
            let b = ap (depth (ds ++ d ∷ [])) h ∙ new_depth in
            elim (last_or i (omega (arith, h, k))) [
              | inl g ↦ (
                  let a = old_depth i g in
                  let r = lay.1 most i (omega arith) l g in
                  omega (arith, a, b, r, e))
              | inr g ↦ (
                  let a = ap (depth (ds ++ d ∷ [])) g ∙ new_depth in
                  omega (arith, a, b))
            ])
      ],
      λ i j k m p. elim (last_or i (subst (λ (q : ℕ). i < q) longer m)) [
        | inl h ↦ (
            let a = old_depth i h in
            elim (last_or j (subst (λ (q : ℕ). j < q) longer p)) [
              | inl g ↦ (
                  let b = old_depth j g in
                  let r = lay.1 i j k h g in
                  omega (arith, a, b, r))
              | inr g ↦ (
                  let b = ap (depth (ds ++ d ∷ [])) g ∙ new_depth in
                  let r = lay.0 most i k h in
                  omega (arith, a, b, r, e))
            ])
        | inr h ↦ (
            let a = ap (depth (ds ++ d ∷ [])) h ∙ new_depth in
            elim (last_or j (subst (λ (q : ℕ). j < q) longer p)) [
              | inl g ↦ (
                  let b = old_depth j g in
                  let r = lay.1 most j (omega arith) l g in
                  omega (arith, a, b, r, e))
              | inr g ↦ (
                  let b = ap (depth (ds ++ d ∷ [])) g ∙ new_depth in
                  omega (arith, a, b))
            ])
      ],
    )
      where
        last_or : (i : ℕ) → i < length ds + 1 → (i < length ds) ⊎ (i ≡ length ds)
        last_or i k = grind arith

  lower : (v k : ℕ) → v < suc k → (v ≡ k) ⊎ (v < k)
  lower v k l = grind arith

  one_more : (ks es : List ℕ) (s d : ℕ) (ts : List Transition) (k : ℕ) (t : Transition) → slice_get ts k ≡ Some t → accepts (after s t.letter) ≡ true → TargetsAreFound after accepts ks es s d ts k
      → ((i : ℕ) × (slice_get ks i ≡ Some (after s t.letter)) × (depth es i ≤ suc d)) → TargetsAreFound after accepts ks es s d ts (suc k)
  one_more ks es s d ts k t here accepted m is i u li there =
      elim (lower i k li) [
        | inl e ↦ (
            let same : t ≡ u = same_Some t u (sym here ∙ ap (λ j. slice_get ts j) (sym e) ∙ there) in
            subst (λ (v : Transition). IsVisited after accepts ks es s d v.letter) same (accepted, is))
        | inr e ↦ m i u e there
      ]

  first_still : (ks : List ℕ) (t : ℕ) (k : ℕ) → k < length ks → slice_get (ks ++ t ∷ []) 0 ≡ slice_get ks 0
  first_still [] t k l = absurd (omega (arith, l))
  first_still (y ∷ ks) t k l = refl

  -- one transition more is tried: its target is there
  found_there : (start : Option ℕ) (states : List ℕ) (os : List Origin) (ds : List ℕ) (place s i : ℕ) (ts : List Transition) (k : ℕ) (p : Transition) → WalkedBy after accepts n start states os ds place
      → slice_get states place ≡ Some s → TargetsAreFound after accepts states ds s (depth ds place) ts k → slice_get ts k ≡ Some p → accepts (after s p.letter) ≡ true → slice_get states i ≡ Some (after s p.letter)
      → Goes after accepts n start states os place s ts (suc k)
  found_there start states os ds place s i ts k p w there attempted here accepted is =
      let l = slice_get_within states place s there in
      let m = slice_get_within states i (after s p.letter) is in
      let long = w.long in
      let deep = w.deep.0 in
      (ds, w, there, one_more states ds s (depth ds place) ts k p here accepted attempted (i, is, w.layers.1 place i (omega arith) (omega (arith, l, long, deep)) (omega (arith, m, long, deep))))

  -- or it is put there
  found_new : (start : Option ℕ) (states : List ℕ) (os : List Origin) (ds : List ℕ) (place s : ℕ) (ts : List Transition) (k : ℕ) (p : Transition) (o : Origin) → WalkedBy after accepts n start states os ds place
      → slice_get states place ≡ Some s → TargetsAreFound after accepts states ds s (depth ds place) ts k → slice_get ts k ≡ Some p → accepts (after s p.letter) ≡ true → p.letter < n → o.from ≡ place → o.letter ≡ p.letter
      → Goes after accepts n start (states ++ after s p.letter ∷ []) (os ++ o ∷ []) place s ts (suc k)
  found_new start states os ds place s ts k p o w there attempted here accepted lx from letter =
      let t = after s p.letter in
      let d = suc (depth ds place) in
      let within = slice_get_within states place s there in
      let long = w.long in
      let deep = w.deep.0 in
      let inside : place < length ds = omega (arith, within, long, deep) in
      let there_still = still_there states (t ∷ []) place s there in
      let same = old_depth states os ds w.long w.deep t d place inside in
      let last_length : length ds ≡ length states = deep ∙ long in
      let last : ComesFrom after n (states ++ t ∷ []) (length states) o = (omega (arith, from, within), omega (arith, letter, lx), s, ap (λ j. slice_get (states ++ t ∷ []) j) from ∙ there_still, last_there states t ∙ ap (λ j. Some (after s j)) (sym letter)) in
      let first_applicable_rewrite : TargetsAreFound after accepts (states ++ t ∷ []) (ds ++ d ∷ []) s (depth ds place) ts k =
      λ i u li is. still_visited states (states ++ t ∷ []) ds (ds ++ d ∷ []) s (depth ds place) u.letter (kept states os ds w.long w.deep t d) (attempted i u li is) in
      let newest : depth (ds ++ d ∷ []) (length states) ≡ d = ap (depth (ds ++ d ∷ [])) (sym last_length) ∙ new_depth states os ds w.long w.deep t d in
      let all = one_more (states ++ t ∷ []) (ds ++ d ∷ []) s (depth ds place) ts k p here accepted first_applicable_rewrite (length states, last_there states t, omega (arith, newest)) in (
        ds ++ d ∷ [],
        record {
          first = first_still states t place within ∙ w.first;
          long = length-append os (o ∷ []) ∙ ap (λ j. j + 1) w.long ∙ sym (length-append states (t ∷ []));
          origins = more_origins states os t o w.long w.origins last;
          deep = more_deep states os ds w.long w.deep t d o (λ i q j e. (w.origins i q j e).0) (omega (arith, from, inside)) (ap (λ j. suc (depth ds j)) (sym from)) (omega (arith, inside));
          layers = more_layers states os ds w.long w.deep t d place inside refl w.layers;
          visited = more_visited states os ds w.long w.deep t d place within w.visited;
        },
        there_still,
        subst (λ (c : ℕ). TargetsAreFound after accepts (states ++ t ∷ []) (ds ++ d ∷ []) s c ts (suc k)) (sym same) all,
      )

  found_more : (start : Option ℕ) (states : List ℕ) (os : List Origin) (place s : ℕ) (ts : List Transition) (k : ℕ) (p : Transition) (o : Origin) (more : List ℕ) (all : List Origin)
      → Goes after accepts n start states os place s ts k → slice_get ts k ≡ Some p → p.letter < n → accepts (after s p.letter) ≡ true
      → o.from ≡ place → o.letter ≡ p.letter → Found (after s p.letter) o states os more all
      → Goes after accepts n start more all place s ts (suc k)
  found_more start states os place s ts k p o more all goes here lx accepted from letter f =
      elim f [
        | inl h ↦ (
            subst (λ (ks : List ℕ). Goes after accepts n start ks all place s ts (suc k)) (sym h.1)
            (subst (λ (ps : List Origin). Goes after accepts n start states ps place s ts (suc k)) (sym h.2)
            (found_there start states os goes.0 place s h.0.0 ts k p goes.1 goes.2 goes.3 here accepted h.0.1)))
        | inr h ↦ (
            subst (λ (ks : List ℕ). Goes after accepts n start ks all place s ts (suc k)) (sym h.0)
            (subst (λ (ps : List Origin). Goes after accepts n start (states ++ after s p.letter ∷ []) ps place s ts (suc k)) (sym h.1)
            (found_new start states os goes.0 place s ts k p o goes.1 goes.2 goes.3 here accepted lx from letter)))
      ]

  -- before the first transition
  pub goes_first : (start : Option ℕ) (states : List ℕ) (os : List Origin) (place : ℕ) (ts : List Transition) → Walked after accepts n start states os place → AreFrom after n states place ts
      → GoesThrough after accepts n start states os place ts 0
  goes_first start states os place ts w from = (from.0, from.2, (w.0, w.1, from.1, λ i t l. absurd (omega (arith, l))))

  -- one more
  pub goes_on : (start : Option ℕ) (states : List ℕ) (os : List Origin) (place : ℕ) (ts : List Transition) (k : ℕ) (d : Transition) (accepted : Bool) (o : Origin) (more : List ℕ) (all : List Origin)
      → GoesThrough after accepts n start states os place ts k → k < length ts → accepted ≡ accepts (get_or ts k d).target → accepted ≡ true
      → o.from ≡ place → o.letter ≡ (get_or ts k d).letter → Found (get_or ts k d).target o states os more all
      → GoesThrough after accepts n start more all place ts (k + 1)
  goes_on start states os place ts k d accepted o more all goes within e good from letter f =
      let s = goes.0 in
      let p : Transition = get_or ts k d in
      let here : slice_get ts k ≡ Some p = slice_get-get_or ts k d within in
      let is = goes.1.0 k p here in
      let up : suc k ≡ k + 1 = omega arith in
      let r = found_more start states os place s ts k p o more all goes.2 here is.0 (ap accepts (sym is.1) ∙ sym e ∙ good) from letter (subst (λ (t : ℕ). Found t o states os more all) is.1 f) in
      subst (λ (j : ℕ). GoesThrough after accepts n start more all place ts j) up (s, goes.1, r)

  -- or the last, if its target isn't accepted
  pub goes_wrong : (start : Option ℕ) (states : List ℕ) (os : List Origin) (place : ℕ) (ts : List Transition) (k : ℕ) (d : Transition) (accepted : Bool)
      → GoesThrough after accepts n start states os place ts k → k < length ts → accepted ≡ accepts (get_or ts k d).target → accepted ≡ false
      → WentThrough after accepts n start states os place (Some (get_or ts k d).letter)
  goes_wrong start states os place ts k d accepted goes within e bad =
      let is = goes.1.0 k (get_or ts k d) (slice_get-get_or ts k d within) in
      ((goes.2.0, goes.2.1), (goes.0, goes.2.2, is.0, ap accepts (sym is.1) ∙ sym e ∙ bad))

  -- all transitions from a state were tried
  pub went_through : (start : Option ℕ) (states : List ℕ) (os : List Origin) (place : ℕ) (ts : List Transition) (k : ℕ)
      → GoesThrough after accepts n start states os place ts k → length ts ≤ k → WentThrough after accepts n start states os place None
  went_through start states os place ts k through l =
      let s = through.0 in
      let goes = through.2 in
      let ds = goes.0 in
      let w = goes.1 in
      let all : AreVisited after accepts states ds s (depth ds place) n =
      λ y ly.
      let r = through.1.1 y ly in
      let within = slice_get_within ts r.0 r.1 r.2 in
      let same : after s r.1.letter ≡ after s y = sym (through.1.0 r.0 r.1 r.2).1 ∙ r.3 in
      let v = goes.3 r.0 r.1 (omega (arith, within, l)) r.2 in
      (ap accepts (sym same) ∙ v.0, (v.1.0, v.1.1 ∙ ap Some same, v.1.2)) in (
        ds,
        record {
          first = w.first;
          long = w.long;
          origins = w.origins;
          deep = w.deep;
          layers = (w.layers.0, λ i j m. w.layers.1 i j (omega (arith, m)));
          visited = λ i t li e y ly. elim (lower i place li) [
            | inl h ↦ (
                let same : s ≡ t = same_Some s t (sym goes.2 ∙ ap (λ j. slice_get states j) (sym h) ∙ e) in
                subst (λ (u : ℕ). IsVisited after accepts states ds u (depth ds i) y) same (subst (λ (j : ℕ). IsVisited after accepts states ds s (depth ds j) y) (sym h) (all y ly)))
            | inr h ↦ w.visited i t h e y ly
          ];
        },
      )

  above : (start : Option ℕ) (states : List ℕ) (os : List Origin) (ds : List ℕ) (place : ℕ) → WalkedBy after accepts n start states os ds place → place < length ds
      → (i s : ℕ) → slice_get states i ≡ Some s → depth ds i + 1 ≤ depth ds place → i < place
  above start states os ds place w within i s e l =
      let k = slice_get_within states i s e in
      let long = w.long in
      let deep = w.deep.0 in
      ⊎_elim (λ h. h) (λ (h : place ≤ i). let r = w.layers.0 place i h (omega (arith, k, long, deep)) in absurd (omega (arith, r, l))) (cases_lt i place)

  -- all states after fewer letters than lead to a place are accepted
  shallow : (start : Option ℕ) (states : List ℕ) (os : List Origin) (ds : List ℕ) (place : ℕ) → WalkedBy after accepts n start states os ds place → place < length ds
      → (i s : ℕ) → slice_get states i ≡ Some s → (x : ℕ) (xs : List ℕ) → AreLetters n (x ∷ xs) → depth ds i + length (x ∷ xs) ≤ depth ds place → accepts (reached after s (x ∷ xs)) ≡ true
  shallow start states os ds place w within i s e x [] a l =
      (w.visited i s (above start states os ds place w within i s e l) e x a.0).0
  shallow start states os ds place w within i s e x (y ∷ ys) a l =
      let m = w.visited i s (above start states os ds place w within i s e (omega (arith, l))) e x a.0 in
      let d = m.1.2 in
      shallow start states os ds place w within m.1.0 (after s x) m.1.1 y ys a.1 (omega (arith, d, l))

  -- a complete list
  pub from_complete : (states : List ℕ) (place s : ℕ) (ts us : List Transition) (complete : Bool) → slice_get states place ≡ Some s → AreTransitionsIf complete (after s) n ts → complete ≡ true → us ≡ ts → AreFrom after n states place us
  from_complete states place s ts us complete there are whole e =
      (s, there, subst (λ (vs : List Transition). AreTransitions (after s) n vs) (sym e) (subst (λ (b : Bool). AreTransitionsIf b (after s) n ts) whole are))

  -- what is known where a letter fails
  pub failed : (start : ℕ) (first : Option ℕ) (states : List ℕ) (os : List Origin) (place x : ℕ) (v : Visit) (word : List ℕ) → first ≡ Some start → v ≡ visit.Fails x
      → Visited after accepts n first states os place v → LeadsTo os place x word → AreLetters n word × (accepts (reached after start word) ≡ false) × IsShortest after accepts n start word
  failed start first states os place x v word first_digit is went leads =
      let g = subst (λ (r : Visit). Visited after accepts n first states os place r) is went in
      let s = g.1.0 in
      let ds = g.0.0 in
      let w = g.0.1 in
      let r = leads after n states start s w.origins (w.first ∙ first_digit) g.1.1 g.1.2 in
      let many = r.2 ds w.deep in
      let within = slice_get_within states place s g.1.1 in
      let long = w.long in
      let deep = w.deep.0 in
      let none = w.deep.1 in
      (r.0, ap accepts r.1 ∙ g.1.3, λ y ys a l. shallow first states os ds place w (omega (arith, within, long, deep)) 0 start (w.first ∙ first_digit) y ys a (omega (arith, l, many, none)))

  pub known_origins : (first : Option ℕ) (states : List ℕ) (os : List Origin) (place x : ℕ) (v : Visit) → v ≡ visit.Fails x
      → Visited after accepts n first states os place v → AreBefore os × (place < length os)
  known_origins first states os place x v is went =
      let w = subst (λ (r : Visit). Visited after accepts n first states os place r) is went in
      let l = slice_get_within states place w.1.0 w.1.1 in
      let long = w.0.1.long in
      ((λ i o p e. (w.0.1.origins i o p e).0), omega (arith, l, long))

  pub passed : (start : ℕ) (first : Option ℕ) (states : List ℕ) (os : List Origin) (place left : ℕ) (v : Visit) → first ≡ Some start → v ≡ visit.Passes left
      → Visited after accepts n first states os place v → Walked after accepts n (Some start) states os (place + 1)
  passed start first states os place left v first_digit is went =
      let w = subst (λ (r : Visit). Visited after accepts n first states os place r) is went in
      let e : suc place ≡ place + 1 = omega arith in
      subst (λ (k : ℕ). Walked after accepts n (Some start) states os k) e (subst (λ (f : Option ℕ). Walked after accepts n f states os (suc place)) first_digit w)

  -- with no state left, whatever letters lead to is accepted
  pub all_accepted : (states ds : List ℕ) (most : ℕ) → AllVisited after accepts n states ds most → length states ≤ most
      → (i s : ℕ) → slice_get states i ≡ Some s → (x : ℕ) (xs : List ℕ) → AreLetters n (x ∷ xs) → accepts (reached after s (x ∷ xs)) ≡ true
  all_accepted states ds most visited l i s e x [] a = (visited i s (let h = slice_get_within states i s e in omega (arith, h, l)) e x a.0).0
  all_accepted states ds most visited l i s e x (y ∷ ys) a =
      let m = visited i s (let h = slice_get_within states i s e in omega (arith, h, l)) e x a.0 in
      all_accepted states ds most visited l m.1.0 (after s x) m.1.1 y ys a.1

  -- the same after a visit to no state
  pub all_visited : (start : ℕ) (first : Option ℕ) (states : List ℕ) (os : List Origin) (place : ℕ) (v : Visit) → first ≡ Some start → v ≡ visit.Missing
      → Visited after accepts n first states os place v → AcceptsAll after accepts n start
  all_visited start first states os place v first_digit is went x xs a =
      let g = subst (λ (r : Visit). Visited after accepts n first states os place r) is went in
      all_accepted states g.0.0 place g.0.1.visited g.1 0 start (g.0.1.first ∙ first_digit) x xs a

  pub before : (states : List ℕ) (os : List Origin) → AreOrigins after n states os → AreBefore os
  before states os are i o l e = (are i o l e).0

  -- what is found first
  pub begun : (start : ℕ) (o : Origin) (states more : List ℕ) (os all : List Origin) → length states ≡ 0 → length os ≡ 0 → Found start o states os more all → Walked after accepts n (Some start) more all 0
  begun start o states more os all none nothing f =
      elim f [
        | inl h ↦ (let p = slice_get_within states h.0.0 start h.0.1 in absurd (omega (arith, p, none)))
        | inr h ↦ (
            subst (λ (ks : List ℕ). Walked after accepts n (Some start) ks all 0) (sym (h.0 ∙ ap (λ ks. ks ++ start ∷ []) (empty states none)))
            (subst (λ (ps : List Origin). Walked after accepts n (Some start) (start ∷ []) ps 0) (sym (h.1 ∙ ap (λ ps. ps ++ o ∷ []) (empty os nothing))) (0 ∷ [], one)))
      ]
    where
      empty : {X : Type 0} (xs : List X) → length xs ≡ 0 → xs ≡ []
      empty [] e = refl
      empty (x ∷ xs) e = absurd (omega (arith, e))

      past : (i : ℕ) (p : Origin) → 0 < i → slice_get (o ∷ []) i ≡ Some p → ⊥
      past i p l e = none-some p (sym (slice_get_past (o ∷ []) i (omega (arith, l))) ∙ e)

      zeros : (i j : ℕ) → j < 1 → depth (0 ∷ []) i ≤ depth (0 ∷ []) j
      zeros zero j m = omega arith
      zeros (suc i) j m = omega arith

      few : (i j : ℕ) → i < 1 → j < 1 → depth (0 ∷ []) j ≤ suc (depth (0 ∷ []) i)
      few i zero m k = omega arith
      few i (suc j) m k = absurd (omega (arith, k))

      one : WalkedBy after accepts n (Some start) (start ∷ []) (o ∷ []) (0 ∷ []) 0
      one =
          record {
            first = refl;
            long = refl;
            origins = λ i p l e. absurd (past i p l e);
            deep = (refl, refl, λ i p l e. absurd (past i p l e));
            layers = (λ i j l m. zeros i j m, λ i j l m k. few i j m k);
            visited = λ i t l e x lx. absurd (omega (arith, l));
          }

-- what is among others has a place there
there_is : (k : ℕ) (js : List ℕ) → list_any (λ j. k == j) js ≡ true → (i : ℕ) × (slice_get js i ≡ Some k)
there_is k [] e = absurd (true≢false (sym e))
there_is k (j ∷ js) e = go (there_is k js) (k == j) refl e
  where
    go : (list_any (λ j. k == j) js ≡ true → (i : ℕ) × (slice_get js i ≡ Some k)) → (b : Bool) → (k == j) ≡ b → (b || list_any (λ j. k == j) js) ≡ true → (i : ℕ) × (slice_get (j ∷ js) i ≡ Some k)
    go ih true s t = (0, ap Some (sym (eqb-true k j s)))
    go ih false s t = let r = ih t in (suc r.0, r.1)

-- what isn't added is there
pub known : (ks new : List ℕ) (k : ℕ) (added : Bool) → added ≡ not (list_any (λ j. k == j) ks) → added ≡ false → new ≡ (if list_any (λ j. k == j) ks then ks else ks ++ k ∷ [])
    → ((i : ℕ) × (slice_get ks i ≡ Some k)) × (new ≡ ks)
known ks new k added is absent e =
    let yes : list_any (λ j. k == j) ks ≡ true = both (list_any (λ j. k == j) ks) (sym is ∙ absent) in
    (there_is k ks yes, e ∙ ap (λ b. if b then ks else ks ++ k ∷ []) yes)
  where
    both : (b : Bool) → not b ≡ false → b ≡ true
    both true e = refl
    both false e = absurd (true≢false e)

-- a letter more, before the others
pub letter_more : (os : List Origin) (place x at : ℕ) (d : Origin) (word more : List ℕ) → AreBefore os → at < length os → 0 < at
    → ((after : ℕ → ℕ → ℕ) (n : ℕ) (states : List ℕ) (s : ℕ) → AreOrigins after n states os → slice_get states place ≡ Some s → x < n
    → (t : ℕ) × (slice_get states at ≡ Some t) × AreLetters n (reverse word) × (reached after t (reverse word) ≡ after s x) × ((ds : List ℕ) → AreDepths ds os → length (reverse word) + depth ds at ≡ suc (depth ds place)))
    → more ≡ word ++ (get_or os at d).letter ∷ []
    → ((get_or os at d).from < length os)
    × ((after : ℕ → ℕ → ℕ) (n : ℕ) (states : List ℕ) (s : ℕ) → AreOrigins after n states os → slice_get states place ≡ Some s → x < n
    → (t : ℕ) × (slice_get states (get_or os at d).from ≡ Some t) × AreLetters n (reverse more) × (reached after t (reverse more) ≡ after s x) × ((ds : List ℕ) → AreDepths ds os → length (reverse more) + depth ds (get_or os at d).from ≡ suc (depth ds place)))
letter_more os place x at d word more earlier l p inv e =
    let o : Origin = get_or os at d in
    let there : slice_get os at ≡ Some o = slice_get-get_or os at d l in
    let down = earlier at o p there in (
      omega (arith, down, l),
      λ after n states s are is lx.
          let r = inv after n states s are is lx in
          let c = are at o p there in
          let turned : reverse more ≡ o.letter ∷ reverse word = ap reverse e ∙ reverse-append word (o.letter ∷ []) in
          let same : after c.2 o.letter ≡ r.0 = same_Some _ _ (sym c.4 ∙ r.1) in (
            c.2,
            c.3,
            subst (λ (w : List ℕ). AreLetters n w) (sym turned) (c.1, r.2),
            ap (λ w. reached after c.2 w) turned ∙ ap (λ t. reached after t (reverse word)) same ∙ r.3,
            λ ds deep. let h = r.4 ds deep in let k = deep.2 at o p there in let m = ap length turned in omega (arith, h, k, m),
          ),
    )

-- the first state's letters are the word
pub letters_all : (os : List Origin) (place x at : ℕ) (word new : List ℕ) → at ≤ 0
    → ((after : ℕ → ℕ → ℕ) (n : ℕ) (states : List ℕ) (s : ℕ) → AreOrigins after n states os → slice_get states place ≡ Some s → x < n
    → (t : ℕ) × (slice_get states at ≡ Some t) × AreLetters n (reverse word) × (reached after t (reverse word) ≡ after s x) × ((ds : List ℕ) → AreDepths ds os → length (reverse word) + depth ds at ≡ suc (depth ds place)))
    → new ≡ reverse word → LeadsTo os place x new
letters_all os place x zero word new l inv e after n states start s are first is lx =
    let r = inv after n states s are is lx in
    let same : r.0 ≡ start = same_Some _ _ (sym r.1 ∙ first) in (
      subst (λ (w : List ℕ). AreLetters n w) (sym e) r.2,
      ap (λ w. reached after start w) e ∙ ap (λ t. reached after t (reverse word)) (sym same) ∙ r.3,
      λ ds deep. let h = r.4 ds deep in let z = deep.1 in let m = ap length e in omega (arith, h, z, m),
    )
letters_all os place x (suc at) word new l inv e after n states start s are first is lx = absurd (omega (arith, l))

pub none_after : {X : Type 0} → (xs : List X) (i : ℕ) → slice_get xs i ≡ None → length xs ≤ i
none_after [] i e = omega arith
none_after (x ∷ xs) zero e = absurd (none-some x (sym e))
none_after (x ∷ xs) (suc i) e = let h = none_after xs i e in omega (arith, h)
