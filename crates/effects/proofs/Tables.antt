-- Tables of lists of operations, as the lists change.
use Rattle.std.proofs.Common.{◌≡◌, ℕ, ◌+◌, List, [], ◌∷◌, Bool, true, false, Option, Some, None, ◌⊎◌, inl, inr, refl, sym, ap, ◌∙◌, subst, arith, cond, eqb, ◌&&◌}
use Rattle.std.proofs.lemmas.Bool.{eq-eqb, ne_eqb, cases_eq}
use Rattle.effects.specs.declared.effect_kinds.EffectKinds.{EffectKinds}
use Rattle.effects.specs.declared.row.Row.{Row}
use Rattle.effects.specs.Effects.{Effect, unknown, allocate, free, read, write, has, none, is_recursive}
use Rattle.ir_event.specs.tree_laws.Members.{In}
use Rattle.effects.specs.Points.{Point, one_if, is_in, weight, Lacks, Childless, Apart, given, count_of, Rows, row_has, row_count, has_at, count_at, with_row, Keeps, Holds}
use Rattle.effects.proofs.Events.{lacks_then}

-- ---- tables

pub at_here : (x : ℕ) (r : Option Row) (rows : Rows) → with_row x r rows x ≡ r
at_here x r rows = ap (λ b. cond b r (rows x)) (eq-eqb x x refl)

pub at_other : (x : ℕ) (r : Option Row) (rows : Rows) (y : ℕ) → (y ≡ x → ⊥) → with_row x r rows y ≡ rows y
at_other x r rows y ne = ap (λ b. cond b r (rows y)) (ne_eqb x y (λ e. ne (sym e)))

-- ---- lists

pub has_none : (e : Effect) → has e none ≡ false
has_none unknown = refl
has_none allocate = refl
has_none free = refl
has_none read = refl
has_none write = refl

pub and_none : (b c : Bool) → c ≡ false → one_if (b && c) ≡ 0
and_none true c h = ap one_if h
and_none false c h = refl

-- the operation with an id, if it is there
pub point_of : (x : ℕ) (ns : List Point) → Lacks x ns ⊎ ((n : Point) × In n ns × (n.id ≡ x))
point_of x [] = inl tt
point_of x (n ∷ ns) = elim (cases_eq n.id x) [
  | inl e ↦ inr (n, inl refl, e)
  | inr ne ↦ elim (point_of x ns) [ inl l ↦ inl (ne, l) | inr s ↦ inr (s.0, inr s.1, s.2) ]
]

pub weight_same : (f g : ℕ → Bool) (x : ℕ) (ns : List Point) → ((n : Point) → In n ns → g n.id ≡ f n.id) → weight g x ns ≡ weight f x ns
weight_same f g x [] h = refl
weight_same f g x (n ∷ ns) h = λ i. one_if (is_in x n.parent && h n (inl refl) i) + weight_same f g x ns (λ m a. h m (inr a)) i

pub weight_childless : (f : ℕ → Bool) (x : ℕ) (ns : List Point) → Childless x ns → weight f x ns ≡ 0
weight_childless f x [] c = refl
weight_childless f x (n ∷ ns) c = (λ i. one_if (c.0 i && f n.id) + weight_childless f x ns c.1 i)

-- if the effect of one operation changes, the count of its parent is one off
pub weight_change : (f g : ℕ → Bool) (y : ℕ) (ns : List Point) (n : Point) → Apart ns → In n ns → ((x : ℕ) → (x ≡ n.id → ⊥) → g x ≡ f x) →
    weight g y ns + one_if (is_in y n.parent && f n.id) ≡ weight f y ns + one_if (is_in y n.parent && g n.id)
weight_change f g y [] n d a same = absurd a
weight_change f g y (m ∷ ms) n d a same = elim a [
  | inl e ↦ let lacks : Lacks n.id ms = subst (λ (s : Point). Lacks s.id ms) (sym e) d.0 in
      let rest = weight_same f g y ms (λ k b. same k.id (lacks_then n.id ms k lacks b)) in
      let was : one_if (is_in y m.parent && f m.id) ≡ one_if (is_in y n.parent && f n.id) = λ i. one_if (is_in y (sym e i).parent && f (sym e i).id) in
      let is : one_if (is_in y m.parent && g m.id) ≡ one_if (is_in y n.parent && g n.id) = λ i. one_if (is_in y (sym e i).parent && g (sym e i).id) in
      omega (arith, rest, was, is)
  | inr b ↦ let ne : m.id ≡ n.id → ⊥ = λ e. lacks_then m.id ms n d.0 b (sym e) in
      let here : one_if (is_in y m.parent && g m.id) ≡ one_if (is_in y m.parent && f m.id) = ap (λ c. one_if (is_in y m.parent && c)) (same m.id ne) in
      let rest = weight_change f g y ms n d.1 b same in
      omega (arith, here, rest)
]

-- ---- the end of a walk

pub settle : (rows : Rows) (ns : List Point) (p : Option ℕ) (more less : EffectKinds) → ((e : Effect) → has e more ≡ false) → ((e : Effect) → has e less ≡ false) → Holds rows ns p more less → Holds rows ns None none none
settle rows ns p more less m l h = record {
  known = h.known;
  only = h.only;
  counts = λ e n a. let c = h.counts e n a in let x = and_none (is_in n.id p) (has e more) (m e) in let y = and_none (is_in n.id p) (has e less) (l e) in omega (arith, c, x, y);
  each = h.each;
}

pub rooted : (rows : Rows) (ns : List Point) (more less : EffectKinds) → Holds rows ns None more less → Holds rows ns None none none
rooted rows ns more less h = record { known = h.known; only = h.only; counts = h.counts; each = h.each }

pub missing : (rows : Rows) (ns : List Point) (p : ℕ) (more less : EffectKinds) → rows p ≡ None → Holds rows ns (Some p) more less → Holds rows ns None none none
missing rows ns p more less gone h = record {
  known = h.known;
  only = h.only;
  counts = λ e n a.
      let k = h.known n a in
      let ne : eqb p n.id ≡ false = ne_eqb p n.id (λ q. let bad : None ≡ Some k.row = sym gone ∙ ap rows q ∙ k.is in absurd cc) in
      let c = h.counts e n a in
      let x : one_if (eqb p n.id && has e more) ≡ 0 = ap (λ b. one_if (b && has e more)) ne in
      let y : one_if (eqb p n.id && has e less) ≡ 0 = ap (λ b. one_if (b && has e less)) ne in
      omega (arith, c, x, y);
  each = h.each;
}

-- ---- one step up

masked : (b h i m l : Bool) → one_if i + one_if l ≡ one_if h + one_if m → one_if (b && i) + one_if (b && l) ≡ one_if (b && h) + one_if (b && m)
masked true h i m l e = e
masked false h i m l e = refl

module _ (rows : Rows) (ns : List Point) (p : ℕ) (more less next lost : EffectKinds) (r s : Row) (apart : Apart ns) (h : Holds rows ns (Some p) more less) (here : rows p ≡ Some r)
    (parent : s.parent ≡ r.parent) (recursive : s.recursive ≡ r.recursive)
    (counts : (e : Effect) → count_of e s.counts + one_if (has e less) ≡ count_of e r.counts + one_if (has e more))
    (shown : (n : Point) → r.recursive ≡ is_recursive n.own → ((e : Effect) → has e r.has ≡ given e n.own (count_of e r.counts)) → (e : Effect) → has e s.has ≡ given e n.own (count_of e s.counts))
    (changed : (e : Effect) → one_if (has e s.has) + one_if (has e lost) ≡ one_if (has e r.has) + one_if (has e next)) where
  abbrev after : Rows
  after = with_row p (Some s) rows

  now : after p ≡ Some s
  now = at_here p (Some s) rows

  same_row : (n : Point) (k : Row) → rows n.id ≡ Some k → n.id ≡ p → k ≡ r
  same_row n k is e = let both : Some k ≡ Some r = sym is ∙ ap rows e ∙ here in cc

  -- the counts now agree with the effects before
  count_now : (e : Effect) (n : Point) → In n ns → count_at e after n.id ≡ weight (has_at e rows) n.id ns
  count_now e n a =
      let c = h.counts e n a in
      elim (cases_eq n.id p) [
        | inl q ↦ let i : count_at e after n.id ≡ count_of e s.counts = ap (λ x. row_count e (after x)) q ∙ ap (row_count e) now in
            let w : count_at e rows n.id ≡ count_of e r.counts = ap (λ x. row_count e (rows x)) q ∙ ap (row_count e) here in
            let t : eqb p n.id ≡ true = eq-eqb p n.id (sym q) in
            let x : one_if (eqb p n.id && has e more) ≡ one_if (has e more) = ap (λ b. one_if (b && has e more)) t in
            let y : one_if (eqb p n.id && has e less) ≡ one_if (has e less) = ap (λ b. one_if (b && has e less)) t in
            omega (arith, c, i, w, x, y, counts e)
        | inr q ↦ let i : count_at e after n.id ≡ count_at e rows n.id = ap (row_count e) (at_other p (Some s) rows n.id q) in
            let t : eqb p n.id ≡ false = ne_eqb p n.id (λ z. q (sym z)) in
            let x : one_if (eqb p n.id && has e more) ≡ 0 = ap (λ b. one_if (b && has e more)) t in
            let y : one_if (eqb p n.id && has e less) ≡ 0 = ap (λ b. one_if (b && has e less)) t in
            omega (arith, c, i, x, y)
      ]

  the_counts : (m : Point) → In m ns → m.id ≡ p → (e : Effect) (n : Point) → In n ns →
      count_at e after n.id + one_if (is_in n.id r.parent && has e next) ≡ weight (has_at e after) n.id ns + one_if (is_in n.id r.parent && has e lost)
  the_counts m b is e n a =
      let k = h.known m b in
      let up : m.parent ≡ r.parent = sym k.parent ∙ ap (λ (x : Row). x.parent) (same_row m k.row k.is is) in
      let w = weight_change (has_at e rows) (has_at e after) n.id ns m apart b (λ x ne. ap (row_has e) (at_other p (Some s) rows x (λ q. ne (q ∙ sym is)))) in
      let old : has_at e rows m.id ≡ has e r.has = ap (has_at e rows) is ∙ ap (row_has e) here in
      let new : has_at e after m.id ≡ has e s.has = ap (has_at e after) is ∙ ap (row_has e) now in
      let v : one_if (is_in n.id m.parent && has_at e rows m.id) ≡ one_if (is_in n.id r.parent && has e r.has) = λ i. one_if (is_in n.id (up i) && old i) in
      let u : one_if (is_in n.id m.parent && has_at e after m.id) ≡ one_if (is_in n.id r.parent && has e s.has) = λ i. one_if (is_in n.id (up i) && new i) in
      let c = count_now e n a in
      let d = masked (is_in n.id r.parent) (has e r.has) (has e s.has) (has e next) (has e lost) (changed e) in
      omega (arith, w, v, u, c, d)

  pub climbed : Holds (with_row p (Some s) rows) ns r.parent next lost
  climbed = record {
    known = λ n a. let k = h.known n a in elim (cases_eq n.id p) [
      | inl q ↦ let same = same_row n k.row k.is q in record {
        row = s;
        is = ap after q ∙ now;
        parent = parent ∙ ap (λ (x : Row). x.parent) (sym same) ∙ k.parent;
        recursive = recursive ∙ ap (λ (x : Row). x.recursive) (sym same) ∙ k.recursive;
      }
      | inr q ↦ record { row = k.row; is = at_other p (Some s) rows n.id q ∙ k.is; parent = k.parent; recursive = k.recursive }
    ];
    only = λ x l. elim (cases_eq x p) [
      | inl q ↦ let bad : None ≡ Some r = sym (h.only x l) ∙ ap rows q ∙ here in absurd cc
      | inr q ↦ at_other p (Some s) rows x q ∙ h.only x l
    ];
    counts = λ e n a. elim (point_of p ns) [
      | inl l ↦ let bad : None ≡ Some r = sym (h.only p l) ∙ here in absurd cc
      | inr m ↦ the_counts m.0 m.1 m.2 e n a
    ];
    each = λ e n a. elim (cases_eq n.id p) [
      | inl q ↦ let k = h.known n a in
          let same = same_row n k.row k.is q in
          let was : (e : Effect) → has e r.has ≡ given e n.own (count_of e r.counts) =
          λ e. sym (ap (row_has e) (ap rows q ∙ here)) ∙ h.each e n a ∙ ap (λ x. given e n.own (row_count e x)) (ap rows q ∙ here) in
          ap (row_has e) (ap after q ∙ now) ∙ shown n (ap (λ (x : Row). x.recursive) (sym same) ∙ k.recursive) was e ∙ sym (ap (λ x. given e n.own (row_count e x)) (ap after q ∙ now))
      | inr q ↦ let o = at_other p (Some s) rows n.id q in ap (row_has e) o ∙ h.each e n a ∙ sym (ap (λ x. given e n.own (row_count e x)) o)
    ];
  }

-- ---- an operation removed, inserted, moved

-- an entry is removed: the count of the parent has one too many for each of its effects
pub taken : (rows : Rows) (n : Point) (ns : List Point) (r : Row) → Apart (n ∷ ns) → rows n.id ≡ Some r → Holds rows (n ∷ ns) None none none → Holds (with_row n.id None rows) ns r.parent none r.has
taken rows n ns r apart here h =
    let k = h.known n (inl refl) in
    let both : Some k.row ≡ Some r = sym k.is ∙ here in
    let same : k.row ≡ r = cc in
    let up : n.parent ≡ r.parent = sym k.parent ∙ ap (λ (x : Row). x.parent) same in
    let other : (m : Point) → In m ns → with_row n.id None rows m.id ≡ rows m.id = λ m a. at_other n.id None rows m.id (lacks_then n.id ns m apart.0 a) in
    record {
      known = λ m a. let j = h.known m (inr a) in record { row = j.row; is = other m a ∙ j.is; parent = j.parent; recursive = j.recursive };
      only = λ x l. elim (cases_eq x n.id) [
        | inl q ↦ ap (with_row n.id None rows) q ∙ at_here n.id None rows
        | inr q ↦ at_other n.id None rows x q ∙ h.only x ((λ e. q (sym e)), l)
      ];
      counts = λ e m a.
          let c = h.counts e m (inr a) in
          let i : count_at e (with_row n.id None rows) m.id ≡ count_at e rows m.id = ap (row_count e) (other m a) in
          let w = weight_same (has_at e rows) (has_at e (with_row n.id None rows)) m.id ns (λ k b. ap (row_has e) (other k b)) in
          let v : one_if (is_in m.id n.parent && has_at e rows n.id) ≡ one_if (is_in m.id r.parent && has e r.has) = λ i. one_if (is_in m.id (up i) && row_has e (here i)) in
          let z = and_none (is_in m.id r.parent) (has e none) (has_none e) in
          omega (arith, c, i, w, v, z);
      each = λ e m a. ap (row_has e) (other m a) ∙ h.each e m (inr a) ∙ sym (ap (λ x. given e m.own (row_count e x)) (other m a));
    }

-- an entry is inserted: the count of the parent lacks one for each of its effects
pub put_in : (rows : Rows) (n : Point) (ns : List Point) (r : Row) → Lacks n.id ns → Childless n.id ns → r.parent ≡ n.parent → r.recursive ≡ is_recursive n.own → ((e : Effect) → count_of e r.counts ≡ 0) → ((e : Effect) → has e r.has ≡ given e n.own 0)
    → Holds rows ns None none none → Holds (with_row n.id (Some r) rows) (n ∷ ns) r.parent r.has none
put_in rows n ns r lacks childless parent recursive empty own h =
    let after : Rows = with_row n.id (Some r) rows in
    let now : after n.id ≡ Some r = at_here n.id (Some r) rows in
    let other : (m : Point) → In m ns → after m.id ≡ rows m.id = λ m a. at_other n.id (Some r) rows m.id (lacks_then n.id ns m lacks a) in
    record {
      known = λ m a. elim a [
        | inl q ↦ record { row = r; is = ap (λ (s : Point). after s.id) q ∙ now; parent = parent ∙ ap (λ (s : Point). s.parent) (sym q); recursive = recursive ∙ ap (λ (s : Point). is_recursive s.own) (sym q) }
        | inr b ↦ let j = h.known m b in record { row = j.row; is = other m b ∙ j.is; parent = j.parent; recursive = j.recursive }
      ];
      only = λ x l. at_other n.id (Some r) rows x (λ q. l.0 (sym q)) ∙ h.only x l.1;
      counts = λ e m a.
          let w = weight_same (has_at e rows) (has_at e after) m.id ns (λ k b. ap (row_has e) (other k b)) in
          let v : one_if (is_in m.id n.parent && has_at e after n.id) ≡ one_if (is_in m.id r.parent && has e r.has) = λ i. one_if (is_in m.id (sym parent i) && row_has e (now i)) in
          let z = and_none (is_in m.id r.parent) (has e none) (has_none e) in
          elim a [
            | inl q ↦ let i : count_at e after m.id ≡ 0 = ap (λ (s : Point). row_count e (after s.id)) q ∙ ap (row_count e) now ∙ empty e in
                let c : weight (has_at e rows) m.id ns ≡ 0 = ap (λ (s : Point). weight (has_at e rows) s.id ns) q ∙ weight_childless (has_at e rows) n.id ns childless in
                omega (arith, w, v, z, i, c)
            | inr b ↦ let i : count_at e after m.id ≡ count_at e rows m.id = ap (row_count e) (other m b) in
                let c = h.counts e m b in
                omega (arith, w, v, z, i, c)
          ];
      each = λ e m a. elim a [
        | inl q ↦ ap (λ (s : Point). row_has e (after s.id)) q ∙ ap (row_has e) now ∙ own e ∙ sym (ap (given e n.own) (ap (row_count e) now ∙ empty e)) ∙ sym (λ i. given e (q i).own (row_count e (after (q i).id)))
        | inr b ↦ ap (row_has e) (other m b) ∙ h.each e m b ∙ sym (ap (λ x. given e m.own (row_count e x)) (other m b))
      ];
    }

-- an operation gets another parent: the counts of both parents may be off
module _ (rows : Rows) (n m : Point) (ns : List Point) (r s : Row) (id : m.id ≡ n.id) (own : m.own ≡ n.own) (apart : Lacks n.id ns) (here : rows n.id ≡ Some r)
    (parent : s.parent ≡ m.parent) (recursive : s.recursive ≡ r.recursive) (counts : s.counts ≡ r.counts) (effects : s.has ≡ r.has)
    (h : Holds rows (n ∷ ns) None none none) where
  abbrev later : Rows
  later = with_row n.id (Some s) rows

  now_later : later n.id ≡ Some s
  now_later = at_here n.id (Some s) rows

  was : Keeps rows n
  was = h.known n (inl refl)

  same_kept : was.row ≡ r
  same_kept = let both : Some was.row ≡ Some r = sym was.is ∙ here in cc

  elsewhere : (k : Point) → In k ns → later k.id ≡ rows k.id
  elsewhere k a = at_other n.id (Some s) rows k.id (lacks_then n.id ns k apart a)

  has_later : (e : Effect) (x : ℕ) → has_at e later x ≡ has_at e rows x
  has_later e x = elim (cases_eq x n.id) [
    | inl q ↦ ap (has_at e later) q ∙ ap (row_has e) now_later ∙ ap (has e) effects ∙ sym (ap (has_at e rows) q ∙ ap (row_has e) here)
    | inr q ↦ ap (row_has e) (at_other n.id (Some s) rows x q)
  ]

  count_later : (e : Effect) (x : ℕ) → count_at e later x ≡ count_at e rows x
  count_later e x = elim (cases_eq x n.id) [
    | inl q ↦ ap (count_at e later) q ∙ ap (row_count e) now_later ∙ ap (count_of e) counts ∙ sym (ap (count_at e rows) q ∙ ap (row_count e) here)
    | inr q ↦ ap (row_count e) (at_other n.id (Some s) rows x q)
  ]

  -- each operation of the list after the move was in the list before, except for its parent
  before : (k : Point) → In k (m ∷ ns) → (j : Point) × In j (n ∷ ns) × (j.id ≡ k.id) × (j.own ≡ k.own)
  before k a = elim a [
    | inl q ↦ (n, inl refl, sym id ∙ ap (λ (x : Point). x.id) (sym q), sym own ∙ ap (λ (x : Point). x.own) (sym q))
    | inr b ↦ (k, inr b, refl, refl)
  ]

  pub moved : (p : Option ℕ) (more less : EffectKinds)
      → ((e : Effect) (x : ℕ) → one_if (is_in x n.parent && has e r.has) + one_if (is_in x p && has e more) ≡ one_if (is_in x m.parent && has e r.has) + one_if (is_in x p && has e less))
      → Holds (with_row n.id (Some s) rows) (m ∷ ns) p more less
  moved p more less due = record {
    known = λ k a. elim a [
      | inl q ↦ record {
        row = s;
        is = ap (λ (x : Point). later x.id) q ∙ ap later id ∙ now_later;
        parent = parent ∙ ap (λ (x : Point). x.parent) (sym q);
        recursive = recursive ∙ ap (λ (x : Row). x.recursive) (sym same_kept) ∙ was.recursive ∙ ap is_recursive (sym own ∙ ap (λ (x : Point). x.own) (sym q));
      }
      | inr b ↦ let j = h.known k (inr b) in record { row = j.row; is = elsewhere k b ∙ j.is; parent = j.parent; recursive = j.recursive }
    ];
    only = λ x l. at_other n.id (Some s) rows x (λ q. l.0 (id ∙ sym q)) ∙ h.only x ((λ q. l.0 (id ∙ q)), l.1);
    counts = λ e k a.
        let j = before k a in
        let c = h.counts e j.0 j.1 in
        let c1 : count_at e rows k.id ≡ count_at e rows j.0.id = ap (count_at e rows) (sym j.2) in
        let c2 = count_later e k.id in
        let w1 : weight (has_at e rows) k.id (n ∷ ns) ≡ weight (has_at e rows) j.0.id (n ∷ ns) = ap (λ x. weight (has_at e rows) x (n ∷ ns)) (sym j.2) in
        let w2 = weight_same (has_at e rows) (has_at e later) k.id ns (λ i b. has_later e i.id) in
        let v : one_if (is_in k.id n.parent && has_at e rows n.id) ≡ one_if (is_in k.id n.parent && has e r.has) = ap (λ x. one_if (is_in k.id n.parent && row_has e x)) here in
        let u : one_if (is_in k.id m.parent && has_at e later m.id) ≡ one_if (is_in k.id m.parent && has e r.has) = ap (λ b. one_if (is_in k.id m.parent && b)) (ap (has_at e later) id ∙ ap (row_has e) now_later ∙ ap (has e) effects) in
        omega (arith, c, c1, c2, w1, w2, v, u, due e k.id);
    each = λ e k a.
        let j = before k a in
        has_later e k.id ∙ ap (has_at e rows) (sym j.2) ∙ h.each e j.0 j.1 ∙ (λ i. given e (j.3 i) (count_at e rows (j.2 i))) ∙ ap (given e k.own) (sym (count_later e k.id));
  }
