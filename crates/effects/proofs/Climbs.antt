-- One step of a walk up the parents.
use Rattle.std.proofs.Common.{◌≡◌, ℕ, ◌+◌, ◌-◌, ◌≤◌, ◌<◌, List, [], ◌∷◌, Bool, true, false, true≢false, Option, Some, None, inl, inr, refl, sym, ap, ◌∙◌, subst, arith, cond, eqb, ◌&&◌, ◌||◌, not}
use Rattle.std.specs.Prelude.{nat_lt}
use Rattle.std.specs.Map.{lookup, set_value}
use Rattle.std.proofs.lemmas.Bool.{eq-eqb, cases_eq, or_parts, not-true}
use Rattle.effects.specs.declared.effect_kinds.EffectKinds.{EffectKinds}
use Rattle.op_registry.specs.declared.own.Own.{Own}
use Rattle.effects.specs.declared.row.Counts.{Counts}
use Rattle.effects.specs.declared.row.Row.{Row}
use Rattle.effects.specs.Effects.{Effect, unknown, allocate, free, read, write, has, none, own_kinds, is_recursive, is_none, union}
use Rattle.effects.specs.Points.{Point, one_if, Apart, given, count_of, Rows, count_at, row_count, with_row, Holds}
use Rattle.effects.specs.Walks.{minus, both, present, lowered, raised, lost_row, gained_row, size, headroom, total}
use Rattle.effects.proofs.Tables.{has_none, point_of, climbed}
use Rattle.effects.proofs.Laws.{has_union, some_of_sum, one_counts}

-- ---- a map's entries

pub set_total : (f : EffectKinds → ℕ) (test : ℕ → Bool) (es : List (ℕ × Row)) (w r : Row) → lookup test es ≡ Some r → total f (set_value test es w) + f r.has ≡ total f es + f w.has
set_total f test [] w r h = absurd cc
set_total f test (e ∷ es) w r h = go (set_total f test es w r) (test e.0) refl
  where
    go : (lookup test es ≡ Some r → total f (set_value test es w) + f r.has ≡ total f es + f w.has) → (b : Bool) → test e.0 ≡ b → total f (set_value test (e ∷ es) w) + f r.has ≡ total f (e ∷ es) + f w.has
    go later true is =
        let both : Some e.1 ≡ Some r = sym (ap (λ b. cond b (Some e.1) (lookup test es)) is) ∙ h in
        let one : e.1 ≡ r = cc in
        let new : total f (set_value test (e ∷ es) w) ≡ f w.has + total f es = ap (λ b. total f (cond b ((e.0, w) ∷ es) (e ∷ set_value test es w))) is in
        let same : f e.1.has ≡ f r.has = ap (λ (x : Row). f x.has) one in
        omega (arith, new, same)
    go later false is =
        let rest = later (sym (ap (λ b. cond b (Some e.1) (lookup test es)) is) ∙ h) in
        let new : total f (set_value test (e ∷ es) w) ≡ f e.1.has + total f (set_value test es w) = ap (λ b. total f (cond b ((e.0, w) ∷ es) (e ∷ set_value test es w))) is in
        omega (arith, rest, new)

-- ---- sets, one effect at a time

pub has_minus : (e : Effect) (a b : EffectKinds) → has e (minus a b) ≡ (has e a && not (has e b))
has_minus unknown a b = refl
has_minus allocate a b = refl
has_minus free a b = refl
has_minus read a b = refl
has_minus write a b = refl

has_both : (e : Effect) (a b : EffectKinds) → has e (both a b) ≡ (has e a && has e b)
has_both unknown a b = refl
has_both allocate a b = refl
has_both free a b = refl
has_both read a b = refl
has_both write a b = refl

has_present : (e : Effect) (c : Counts) → has e (present c) ≡ nat_lt 0 (count_of e c)
has_present unknown c = refl
has_present allocate c = refl
has_present free c = refl
has_present read c = refl
has_present write c = refl

count_lowered : (e : Effect) (c : Counts) (s : EffectKinds) → count_of e (lowered c s) ≡ count_of e c - one_if (has e s)
count_lowered unknown c s = refl
count_lowered allocate c s = refl
count_lowered free c s = refl
count_lowered read c s = refl
count_lowered write c s = refl

count_raised : (e : Effect) (c : Counts) (s : EffectKinds) → count_of e (raised c s) ≡ count_of e c + one_if (has e s)
count_raised unknown c s = refl
count_raised allocate c s = refl
count_raised free c s = refl
count_raised read c s = refl
count_raised write c s = refl

pub none_has : (a : EffectKinds) → is_none a ≡ true → (e : Effect) → has e a ≡ false
none_has a h e = pick e
  where
    p1 : (a.unknown ≡ false) × ((a.allocate || (a.free || (a.read || a.write))) ≡ false)
    p1 = or_parts _ _ (not-true _ h)

    p2 : (a.allocate ≡ false) × ((a.free || (a.read || a.write)) ≡ false)
    p2 = or_parts _ _ p1.1

    p3 : (a.free ≡ false) × ((a.read || a.write) ≡ false)
    p3 = or_parts _ _ p2.1

    p4 : (a.read ≡ false) × (a.write ≡ false)
    p4 = or_parts _ _ p3.1

    pick : (e : Effect) → has e a ≡ false
    pick unknown = p1.0
    pick allocate = p2.0
    pick free = p3.0
    pick read = p4.0
    pick write = p4.1

some_size : (a b c d e : Bool) → not (a || (b || (c || (d || e)))) ≡ false → 1 ≤ one_if a + (one_if b + (one_if c + (one_if d + one_if e)))
some_size true b c d e h = omega arith
some_size false true c d e h = omega arith
some_size false false true d e h = omega arith
some_size false false false true e h = omega arith
some_size false false false false true h = omega arith
some_size false false false false false h = absurd (true≢false h)

-- ---- what an operation loses

less_of : (a x : Bool) → one_if (a && x) + one_if (a && not (a && x)) ≡ one_if a
less_of true true = refl
less_of true false = refl
less_of false x = refl

within : (r : Row) (less : EffectKinds) (b : Bool) → r.recursive ≡ b → (e : Effect) → (x : Bool) × (has e (lost_row r less).has ≡ (has e r.has && x))
within r less true is e = (has e (present (lowered r.counts less)), ap (λ b. has e (cond b (both r.has (present (lowered r.counts less))) r.has)) is ∙ has_both e r.has (present (lowered r.counts less)))
within r less false is e = (true, ap (λ b. has e (cond b (both r.has (present (lowered r.counts less))) r.has)) is ∙ and_true (has e r.has))
  where
    and_true : (b : Bool) → b ≡ (b && true)
    and_true true = refl
    and_true false = refl

pub lost_changed : (r : Row) (less : EffectKinds) (e : Effect) → one_if (has e (lost_row r less).has) + one_if (has e (minus r.has (lost_row r less).has)) ≡ one_if (has e r.has)
lost_changed r less e =
    let w = within r less r.recursive refl e in
    (λ i. one_if (w.1 i) + one_if ((has_minus e r.has (lost_row r less).has ∙ ap (λ b. has e r.has && not b) w.1) i)) ∙ less_of (has e r.has) w.0

and_fewer : (m n : ℕ) → n ≤ m → (nat_lt 0 m && nat_lt 0 n) ≡ nat_lt 0 n
and_fewer m n h = elim (cases_eq m 0) [
  | inl q ↦ let z : n ≡ 0 = omega (arith, h, q) in ap (λ b. b && nat_lt 0 n) (ap (nat_lt 0) q) ∙ sym (ap (nat_lt 0) z)
  | inr q ↦ let t : nat_lt 0 m ≡ true = grind (arith, q) in ap (λ b. b && nat_lt 0 n) t
]

lost_shown : (r : Row) (less : EffectKinds) (o : Own) → r.recursive ≡ is_recursive o → ((e : Effect) → has e r.has ≡ given e o (count_of e r.counts)) → (e : Effect) → has e (lost_row r less).has ≡ given e o (count_of e (lowered r.counts less))
lost_shown r less o is was e = go (is_recursive o) refl is
  where
    go : (b : Bool) → is_recursive o ≡ b → r.recursive ≡ is_recursive o → has e (lost_row r less).has ≡ given e o (count_of e (lowered r.counts less))
    go true rec same =
        let c = count_lowered e r.counts less in
        ap (λ b. has e (cond b (both r.has (present (lowered r.counts less))) r.has)) (same ∙ rec)
        ∙ has_both e r.has (present (lowered r.counts less))
        ∙ (λ i. (was e ∙ ap (λ b. cond b (nat_lt 0 (count_of e r.counts)) (has e (own_kinds o))) rec) i && has_present e (lowered r.counts less) i)
        ∙ and_fewer (count_of e r.counts) (count_of e (lowered r.counts less)) (omega (arith, c))
        ∙ sym (ap (λ b. cond b (nat_lt 0 (count_of e (lowered r.counts less))) (has e (own_kinds o))) rec)
    go false rec same =
        ap (λ b. has e (cond b (both r.has (present (lowered r.counts less))) r.has)) (same ∙ rec)
        ∙ was e
        ∙ ap (λ b. cond b (nat_lt 0 (count_of e r.counts)) (has e (own_kinds o))) rec
        ∙ sym (ap (λ b. cond b (nat_lt 0 (count_of e (lowered r.counts less))) (has e (own_kinds o))) rec)

pub lose_step : (rows after : Rows) (p : ℕ) (less : EffectKinds) (r : Row) → rows p ≡ Some r → ((x : ℕ) → after x ≡ with_row p (Some (lost_row r less)) rows x) → (ns : List Point) → Apart ns → Holds rows ns (Some p) none less
    → Holds after ns r.parent none (minus r.has (lost_row r less).has)
lose_step rows after p less r here is ns apart h =
    let enough : (e : Effect) → one_if (has e less) ≤ count_of e r.counts = λ e. elim (point_of p ns) [
      | inl l ↦ let bad : None ≡ Some r = sym (h.only p l) ∙ here in absurd cc
      | inr m ↦ let c = h.counts e m.0 m.1 in
          let t : eqb p m.0.id ≡ true = eq-eqb p m.0.id (sym m.2) in
          let x : one_if (eqb p m.0.id && has e less) ≡ one_if (has e less) = ap (λ b. one_if (b && has e less)) t in
          let y : one_if (eqb p m.0.id && has e none) ≡ 0 = (λ i. one_if (t i && has_none e i)) in
          let w : count_at e rows m.0.id ≡ count_of e r.counts = ap (count_at e rows) m.2 ∙ ap (row_count e) here in
          omega (arith, c, x, y, w)
    ] in
    subst (λ (z : Rows). Holds z ns r.parent none (minus r.has (lost_row r less).has)) (sym (λ i x. is x i))
    (climbed rows ns p none less none (minus r.has (lost_row r less).has) r (lost_row r less) apart h here refl refl
    (λ e. let c = count_lowered e r.counts less in let z : one_if (has e none) ≡ 0 = ap one_if (has_none e) in omega (arith, c, z, enough e))
    (λ n rec was. lost_shown r less n.own rec was)
    (λ e. let c = lost_changed r less e in let z : one_if (has e none) ≡ 0 = ap one_if (has_none e) in omega (arith, c, z)))

pub lost_size : (r : Row) (less : EffectKinds) → is_none (minus r.has (lost_row r less).has) ≡ false → size (lost_row r less).has < size r.has
lost_size r less h =
    let s = minus r.has (lost_row r less).has in
    let one = some_size s.unknown s.allocate s.free s.read s.write h in
    omega (arith, one, lost_changed r less unknown, lost_changed r less allocate, lost_changed r less free, lost_changed r less read, lost_changed r less write)

-- ---- what an operation gains

more_of : (a x : Bool) → one_if (a || x) ≡ one_if a + one_if ((a || x) && not a)
more_of true x = refl
more_of false true = refl
more_of false false = refl

beyond : (r : Row) (more : EffectKinds) (b : Bool) → r.recursive ≡ b → (e : Effect) → (x : Bool) × (has e (gained_row r more).has ≡ (has e r.has || x))
beyond r more true is e = (has e more, ap (λ b. has e (cond b (union r.has more) r.has)) is ∙ has_union e r.has more)
beyond r more false is e = (false, ap (λ b. has e (cond b (union r.has more) r.has)) is ∙ or_false (has e r.has))
  where
    or_false : (b : Bool) → b ≡ (b || false)
    or_false true = refl
    or_false false = refl

pub gained_changed : (r : Row) (more : EffectKinds) (e : Effect) → one_if (has e (gained_row r more).has) ≡ one_if (has e r.has) + one_if (has e (minus (gained_row r more).has r.has))
gained_changed r more e =
    let w = beyond r more r.recursive refl e in
    ap one_if w.1 ∙ more_of (has e r.has) w.0 ∙ ap (λ b. one_if (has e r.has) + one_if b) (sym (has_minus e (gained_row r more).has r.has ∙ ap (λ b. b && not (has e r.has)) w.1))

gained_shown : (r : Row) (more : EffectKinds) (o : Own) → r.recursive ≡ is_recursive o → ((e : Effect) → has e r.has ≡ given e o (count_of e r.counts)) → (e : Effect) → has e (gained_row r more).has ≡ given e o (count_of e (raised r.counts more))
gained_shown r more o is was e = go (is_recursive o) refl is
  where
    go : (b : Bool) → is_recursive o ≡ b → r.recursive ≡ is_recursive o → has e (gained_row r more).has ≡ given e o (count_of e (raised r.counts more))
    go true rec same =
        ap (λ b. has e (cond b (union r.has more) r.has)) (same ∙ rec)
        ∙ has_union e r.has more
        ∙ (λ i. (was e ∙ ap (λ b. cond b (nat_lt 0 (count_of e r.counts)) (has e (own_kinds o))) rec) i || sym (one_counts (has e more)) i)
        ∙ sym (some_of_sum (count_of e r.counts) (one_if (has e more)))
        ∙ ap (nat_lt 0) (sym (count_raised e r.counts more))
        ∙ sym (ap (λ b. cond b (nat_lt 0 (count_of e (raised r.counts more))) (has e (own_kinds o))) rec)
    go false rec same =
        ap (λ b. has e (cond b (union r.has more) r.has)) (same ∙ rec)
        ∙ was e
        ∙ ap (λ b. cond b (nat_lt 0 (count_of e r.counts)) (has e (own_kinds o))) rec
        ∙ sym (ap (λ b. cond b (nat_lt 0 (count_of e (raised r.counts more))) (has e (own_kinds o))) rec)

pub gain_step : (rows after : Rows) (p : ℕ) (more : EffectKinds) (r : Row) → rows p ≡ Some r → ((x : ℕ) → after x ≡ with_row p (Some (gained_row r more)) rows x) → (ns : List Point) → Apart ns → Holds rows ns (Some p) more none
    → Holds after ns r.parent (minus (gained_row r more).has r.has) none
gain_step rows after p more r here is ns apart h =
    subst (λ (z : Rows). Holds z ns r.parent (minus (gained_row r more).has r.has) none) (sym (λ i x. is x i))
    (climbed rows ns p more none (minus (gained_row r more).has r.has) none r (gained_row r more) apart h here refl refl
    (λ e. let c = count_raised e r.counts more in let z : one_if (has e none) ≡ 0 = ap one_if (has_none e) in omega (arith, c, z))
    (λ n rec was. gained_shown r more n.own rec was)
    (λ e. let c = gained_changed r more e in let z : one_if (has e none) ≡ 0 = ap one_if (has_none e) in omega (arith, c, z)))

one_not : (b : Bool) → one_if b + one_if (not b) ≡ 1
one_not true = refl
one_not false = refl

pub gained_headroom : (r : Row) (more : EffectKinds) → is_none (minus (gained_row r more).has r.has) ≡ false → headroom (gained_row r more).has < headroom r.has
gained_headroom r more h =
    let g = (gained_row r more).has in
    let s = minus g r.has in
    let one = some_size s.unknown s.allocate s.free s.read s.write h in
    omega (
      arith,
      one,
      gained_changed r more unknown,
      gained_changed r more allocate,
      gained_changed r more free,
      gained_changed r more read,
      gained_changed r more write,
      one_not g.unknown,
      one_not g.allocate,
      one_not g.free,
      one_not g.read,
      one_not g.write,
      one_not r.has.unknown,
      one_not r.has.allocate,
      one_not r.has.free,
      one_not r.has.read,
      one_not r.has.write,
    )

-- ---- in the form of the loops

pub lose_on : (rows after : Rows) (at : Option ℕ) (p : ℕ) (less s : EffectKinds) (r next : Row) → at ≡ Some p → rows p ≡ Some r → next ≡ lost_row r less → s ≡ minus r.has next.has
    → ((k : Row) → rows p ≡ Some k → (x : ℕ) → after x ≡ with_row p (Some next) rows x) → (ns : List Point) → Apart ns → Holds rows ns at none less → Holds after ns r.parent none s
lose_on rows after at p less s r next here is made gone written ns apart h =
    let step = lose_step rows after p less r is (λ x. written r is x ∙ ap (λ k. with_row p (Some k) rows x) made) ns apart (subst (λ q. Holds rows ns q none less) here h) in
    subst (λ z. Holds after ns r.parent none z) (sym (gone ∙ ap (λ (k : Row). minus r.has k.has) made)) step

pub lose_smaller : (new old : ℕ) (less s : EffectKinds) (r next : Row) → next ≡ lost_row r less → s ≡ minus r.has next.has → is_none s ≡ false → new + size r.has ≡ old + size next.has → new < old
lose_smaller new old less s r next made gone some sum =
    let fewer = lost_size r less (ap is_none (sym (gone ∙ ap (λ (k : Row). minus r.has k.has) made)) ∙ some) in
    let same : size next.has ≡ size (lost_row r less).has = ap (λ (k : Row). size k.has) made in
    omega (arith, fewer, same, sum)

pub gain_on : (rows after : Rows) (at : Option ℕ) (p : ℕ) (more s : EffectKinds) (r next : Row) → at ≡ Some p → rows p ≡ Some r → next ≡ gained_row r more → s ≡ minus next.has r.has
    → ((k : Row) → rows p ≡ Some k → (x : ℕ) → after x ≡ with_row p (Some next) rows x) → (ns : List Point) → Apart ns → Holds rows ns at more none → Holds after ns r.parent s none
gain_on rows after at p more s r next here is made gone written ns apart h =
    let step = gain_step rows after p more r is (λ x. written r is x ∙ ap (λ k. with_row p (Some k) rows x) made) ns apart (subst (λ q. Holds rows ns q more none) here h) in
    subst (λ z. Holds after ns r.parent z none) (sym (gone ∙ ap (λ (k : Row). minus k.has r.has) made)) step

pub gain_smaller : (new old : ℕ) (more s : EffectKinds) (r next : Row) → next ≡ gained_row r more → s ≡ minus next.has r.has → is_none s ≡ false → new + headroom r.has ≡ old + headroom next.has → new < old
gain_smaller new old more s r next made gone some sum =
    let fewer = gained_headroom r more (ap is_none (sym (gone ∙ ap (λ (k : Row). minus k.has r.has) made)) ∙ some) in
    let same : headroom next.has ≡ headroom (gained_row r more).has = ap (λ (k : Row). headroom k.has) made in
    omega (arith, fewer, same, sum)
