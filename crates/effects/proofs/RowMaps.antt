-- Entries whose counts are in a map of their own.
use Rattle.std.proofs.Common.{◌≡◌, refl, ap, sym, ◌∙◌, ℕ, zero, suc, ◌+◌, ◌-◌, Bool, true, false, true≢false, cond, eqb-true, List, [], ◌∷◌, ◌||◌, not, Option, Some, None, arith}
use Rattle.std.specs.Prelude.{option_map, is_some, nat_lt}
use Rattle.std.proofs.lemmas.Bool.{lt-ltb}
use Rattle.std.specs.Bool.{OnTrue}
use Rattle.std.specs.Map.{lookup, set_value, keys_of}
use Rattle.std.specs.BTreeMap.{is_at}
use Rattle.std.specs.Ordering.{nat_cmp}
use Rattle.listeners_support.specs.Map.{IdMap}
use Rattle.listeners_support.specs.Map as idmap
use Rattle.ir_event.proofs.of_types.Truths.{same_test}
use Rattle.effects.specs.declared.effect_kinds.EffectKinds.{EffectKinds}
use Rattle.effects.specs.declared.row.Counts.{Counts}
use Rattle.effects.specs.declared.row.Row.{Row}
use Rattle.effects.specs.declared.row.RowHead.{RowHead}
use Rattle.effects.specs.Effects.{is_none}
use Rattle.effects.specs.Points.{one_if}
use Rattle.effects.specs.Walks.{present, lowered, total}
use Rattle.effects.specs.RowMaps.{zero_counts, counts_or, counts_at, head_of, row_of_head, whole_rows, whole}

-- ---- lookups
look_entries : (sums : IdMap Counts) (x : ℕ) (es : List (ℕ × RowHead)) → lookup (is_at (nat_cmp x)) (whole_rows sums es) ≡ option_map (row_of_head (counts_at sums x)) (lookup (is_at (nat_cmp x)) es)
look_entries sums x [] = refl
look_entries sums x (e ∷ es) = go (is_at (nat_cmp x) e.0) refl (look_entries sums x es)
  where
    go : (b : Bool) → is_at (nat_cmp x) e.0 ≡ b → lookup (is_at (nat_cmp x)) (whole_rows sums es) ≡ option_map (row_of_head (counts_at sums x)) (lookup (is_at (nat_cmp x)) es)
        → cond b (Some (row_of_head (counts_at sums e.0) e.1)) (lookup (is_at (nat_cmp x)) (whole_rows sums es)) ≡ option_map (row_of_head (counts_at sums x)) (cond b (Some e.1) (lookup (is_at (nat_cmp x)) es))
    go true i rest = ap (λ z. Some (row_of_head (counts_at sums z) e.1)) (sym (eqb-true x e.0 (sym (same_test x e.0) ∙ i)))
    go false i rest = rest

pub look_whole : (sums : IdMap Counts) (heads : IdMap RowHead) (x : ℕ) → idmap.get (whole sums heads) x ≡ option_map (row_of_head (counts_at sums x)) (idmap.get heads x)
look_whole sums heads x = look_entries sums x heads.entries

pub look_with : (sums : IdMap Counts) (heads : IdMap RowHead) (x : ℕ) (o : Option RowHead) → idmap.get heads x ≡ o → option_map (row_of_head (counts_at sums x)) o ≡ idmap.get (whole sums heads) x
look_with sums heads x o e = sym (look_whole sums heads x ∙ ap (option_map (row_of_head (counts_at sums x))) e)

pub has_head : (sums : IdMap Counts) (heads : IdMap RowHead) (x : ℕ) → is_some (idmap.get (whole sums heads) x) ≡ is_some (idmap.get heads x)
has_head sums heads x = ap is_some (look_whole sums heads x) ∙ go (idmap.get heads x)
  where
    go : (o : Option RowHead) → is_some (option_map (row_of_head (counts_at sums x)) o) ≡ is_some o
    go None = refl
    go (Some h) = refl

pub keys_whole : (sums : IdMap Counts) (es : List (ℕ × RowHead)) → keys_of (whole_rows sums es) ≡ keys_of es
keys_whole sums [] = refl
keys_whole sums (e ∷ es) = ap (λ l. e.0 ∷ l) (keys_whole sums es)

-- ---- counts
lacks : (n : ℕ) → nat_lt 0 n ≡ false → n ≡ 0
lacks zero e = refl
lacks (suc n) e = absurd (true≢false (sym (lt-ltb 0 (suc n) (omega arith)) ∙ e))

none_true : (a b c d e : Bool) → not (a || (b || (c || (d || e)))) ≡ true → (a ≡ false) × (b ≡ false) × (c ≡ false) × (d ≡ false) × (e ≡ false)
none_true true b c d e h = absurd (true≢false (sym h))
none_true false true c d e h = absurd (true≢false (sym h))
none_true false false true d e h = absurd (true≢false (sym h))
none_true false false false true e h = absurd (true≢false (sym h))
none_true false false false false true h = absurd (true≢false (sym h))
none_true false false false false false h = (refl, refl, refl, refl, refl)

pub zero_of : (c : Counts) → is_none (present c) ≡ true → c ≡ zero_counts
zero_of c e =
    let n = none_true (nat_lt 0 c.unknown) (nat_lt 0 c.allocate) (nat_lt 0 c.free) (nat_lt 0 c.read) (nat_lt 0 c.write) e in
    λ i. record { unknown = lacks c.unknown n.0 i; allocate = lacks c.allocate n.1 i; free = lacks c.free n.2 i; read = lacks c.read n.3 i; write = lacks c.write n.4 i }

pub not_zero : (c : Counts) → is_none (present c) ≡ false → c ≡ zero_counts → ⊥
not_zero c e z = true≢false (sym (ap (λ (d : Counts). is_none (present d)) z) ∙ e)

pub lowered_zero : (c : Counts) (s : EffectKinds) → c ≡ zero_counts → lowered c s ≡ zero_counts
lowered_zero c s e = ap (λ z. lowered z s) e ∙ (λ i. record { unknown = none s.unknown i; allocate = none s.allocate i; free = none s.free i; read = none s.read i; write = none s.write i })
  where
    none : (b : Bool) → 0 - one_if b ≡ 0
    none true = refl
    none false = refl

pub counts_set : (a b : IdMap Counts) (x : ℕ) (c : Counts) → idmap.Updates a b x (Some c) → (y : ℕ) → counts_at b y ≡ cond (is_at (nat_cmp x) y) c (counts_at a y)
counts_set a b x c u y = ap counts_or (u y) ∙ go (is_at (nat_cmp x) y)
  where
    go : (t : Bool) → counts_or (cond t (Some c) (idmap.get a y)) ≡ cond t c (counts_at a y)
    go true = refl
    go false = refl

pub counts_gone : (a b : IdMap Counts) (x : ℕ) → idmap.Updates a b x None → (y : ℕ) → counts_at b y ≡ cond (is_at (nat_cmp x) y) zero_counts (counts_at a y)
counts_gone a b x u y = ap counts_or (u y) ∙ go (is_at (nat_cmp x) y)
  where
    go : (t : Bool) → counts_or (cond t None (idmap.get a y)) ≡ cond t zero_counts (counts_at a y)
    go true = refl
    go false = refl

pub counts_same : (a b : IdMap Counts) → idmap.IsUnchanged a b → (y : ℕ) → counts_at b y ≡ counts_at a y
counts_same a b same y = ap (λ es. counts_or (lookup (is_at (nat_cmp y)) es)) same

pub counts_stay : (a b : IdMap Counts) (x : ℕ) (c : Counts) → idmap.IsUnchanged a b → idmap.get a x ≡ None → c ≡ zero_counts → (y : ℕ) → counts_at b y ≡ cond (is_at (nat_cmp x) y) c (counts_at a y)
counts_stay a b x c same none z y = counts_same a b same y ∙ go (is_at (nat_cmp x) y) refl
  where
    go : (t : Bool) → is_at (nat_cmp x) y ≡ t → counts_at a y ≡ cond t c (counts_at a y)
    go true i = ap (counts_at a) (sym (eqb-true x y (sym (same_test x y) ∙ i))) ∙ ap counts_or none ∙ sym z
    go false i = refl

pub counts_after : (a b c : IdMap Counts) (x : ℕ) (k : Counts) → idmap.IsUnchanged a b → idmap.Updates b c x (Some k) → (y : ℕ) → counts_at c y ≡ cond (is_at (nat_cmp x) y) k (counts_at a y)
counts_after a b c x k same u y = counts_set b c x k u y ∙ ap (cond (is_at (nat_cmp x) y) k) (counts_same a b same y)

pub none_of : {X : Type 0} (o : Option X) → is_some o ≡ false → o ≡ None
none_of None e = refl
none_of (Some x) e = absurd (true≢false e)

-- the counts after those of x were set to 0, if the map had some
pub counts_cleared : (a b : IdMap Counts) (x : ℕ) (r : Bool) → r ≡ is_some (idmap.get a x) → OnTrue r (idmap.Updates a b x (Some zero_counts)) → (r ≡ false → idmap.IsUnchanged a b) → (y : ℕ) → counts_at b y ≡ cond (is_at (nat_cmp x) y) zero_counts (counts_at a y)
counts_cleared a b x true had u same = counts_set a b x zero_counts u
counts_cleared a b x false had u same = counts_stay a b x zero_counts (same refl) (none_of (idmap.get a x) (sym had)) refl

-- counts that are 0 were added
pub counts_added : (a b : IdMap Counts) (x : ℕ) → idmap.get a x ≡ None → idmap.Updates a b x (Some zero_counts) → (y : ℕ) → counts_at b y ≡ counts_at a y
counts_added a b x none u y = counts_set a b x zero_counts u y ∙ sym (counts_stay a a x zero_counts refl none refl y)

same_entries : (a b : IdMap Counts) → ((y : ℕ) → counts_at b y ≡ counts_at a y) → (es : List (ℕ × RowHead)) → whole_rows b es ≡ whole_rows a es
same_entries a b same [] = refl
same_entries a b same (e ∷ es) = λ i. (e.0, row_of_head (same e.0 i) e.1) ∷ same_entries a b same es i

-- ---- updates
pub written : (a b : IdMap Counts) (m n : IdMap RowHead) (x : ℕ) (row : Row) → idmap.Updates m n x (Some (head_of row)) → ((y : ℕ) → counts_at b y ≡ cond (is_at (nat_cmp x) y) row.counts (counts_at a y)) → idmap.Updates (whole a m) (whole b n) x (Some row)
written a b m n x row u v y = look_whole b n y ∙ (λ i. option_map (row_of_head (v y i)) (u y i)) ∙ go (is_at (nat_cmp x) y)
  where
    go : (t : Bool) → option_map (row_of_head (cond t row.counts (counts_at a y))) (cond t (Some (head_of row)) (idmap.get m y)) ≡ cond t (Some row) (idmap.get (whole a m) y)
    go true = refl
    go false = sym (look_whole a m y)

pub removed : (a b : IdMap Counts) (m n : IdMap RowHead) (x : ℕ) → idmap.Updates m n x None → idmap.Updates a b x None → idmap.Updates (whole a m) (whole b n) x None
removed a b m n x u v y = look_whole b n y ∙ (λ i. option_map (row_of_head (counts_gone a b x v y i)) (u y i)) ∙ go (is_at (nat_cmp x) y)
  where
    go : (t : Bool) → option_map (row_of_head (cond t zero_counts (counts_at a y))) (cond t None (idmap.get m y)) ≡ cond t None (idmap.get (whole a m) y)
    go true = refl
    go false = sym (look_whole a m y)

pub unchanged_by : (a b : IdMap Counts) (m n : IdMap RowHead) → ((y : ℕ) → counts_at b y ≡ counts_at a y) → idmap.IsUnchanged m n → idmap.IsUnchanged (whole a m) (whole b n)
unchanged_by a b m n p q = ap (whole_rows b) q ∙ same_entries a b p m.entries

pub unchanged : (a b : IdMap Counts) (m n : IdMap RowHead) → idmap.IsUnchanged a b → idmap.IsUnchanged m n → idmap.IsUnchanged (whole a m) (whole b n)
unchanged a b m n p q = λ i. whole_rows (record { entries = p i }) (q i)

-- ---- sums over the entries
abbrev total_heads : (EffectKinds → ℕ) → List (ℕ × RowHead) → ℕ
total_heads f [] = 0
total_heads f (e ∷ es) = f e.1.has + total_heads f es

total_whole : (f : EffectKinds → ℕ) (sums : IdMap Counts) (es : List (ℕ × RowHead)) → total f (whole_rows sums es) ≡ total_heads f es
total_whole f sums [] = refl
total_whole f sums (e ∷ es) = ap (λ n. f e.1.has + n) (total_whole f sums es)

set_heads : (f : EffectKinds → ℕ) (test : ℕ → Bool) (es : List (ℕ × RowHead)) (w h : RowHead) → lookup test es ≡ Some h → total_heads f (set_value test es w) + f h.has ≡ total_heads f es + f w.has
set_heads f test [] w h e = absurd cc
set_heads f test (e ∷ es) w h k = go (set_heads f test es w h) (test e.0) refl
  where
    go : (lookup test es ≡ Some h → total_heads f (set_value test es w) + f h.has ≡ total_heads f es + f w.has) → (b : Bool) → test e.0 ≡ b → total_heads f (set_value test (e ∷ es) w) + f h.has ≡ total_heads f (e ∷ es) + f w.has
    go later true is =
        let both : Some e.1 ≡ Some h = sym (ap (λ b. cond b (Some e.1) (lookup test es)) is) ∙ k in
        let one : e.1 ≡ h = cc in
        let new : total_heads f (set_value test (e ∷ es) w) ≡ f w.has + total_heads f es = ap (λ b. total_heads f (cond b ((e.0, w) ∷ es) (e ∷ set_value test es w))) is in
        let same : f e.1.has ≡ f h.has = ap (λ (x : RowHead). f x.has) one in
        omega (arith, new, same)
    go later false is =
        let rest = later (sym (ap (λ b. cond b (Some e.1) (lookup test es)) is) ∙ k) in
        let new : total_heads f (set_value test (e ∷ es) w) ≡ f e.1.has + total_heads f (set_value test es w) = ap (λ b. total_heads f (cond b ((e.0, w) ∷ es) (e ∷ set_value test es w))) is in
        omega (arith, rest, new)

pub total_written : (f : EffectKinds → ℕ) (a b : IdMap Counts) (m n : IdMap RowHead) (x : ℕ) (row r : Row) → n.entries ≡ set_value (is_at (nat_cmp x)) m.entries (head_of row) → idmap.get (whole a m) x ≡ Some r
    → total f (whole b n).entries + f r.has ≡ total f (whole a m).entries + f row.has
total_written f a b m n x row r set is = go (idmap.get m x) refl
  where
    go : (o : Option RowHead) → idmap.get m x ≡ o → total f (whole b n).entries + f r.has ≡ total f (whole a m).entries + f row.has
    go None e = (let no : None ≡ Some r = look_with a m x None e ∙ is in absurd cc)
    go (Some h) e =
        let two : Some (row_of_head (counts_at a x) h) ≡ Some r = look_with a m x (Some h) e ∙ is in
        let one : row_of_head (counts_at a x) h ≡ r = cc in
        let same : f h.has ≡ f r.has = ap (λ (z : Row). f z.has) one in
        let left : total f (whole b n).entries ≡ total_heads f (set_value (is_at (nat_cmp x)) m.entries (head_of row)) = total_whole f b n.entries ∙ ap (total_heads f) set in
        let right : total f (whole a m).entries ≡ total_heads f m.entries = total_whole f a m.entries in
        let rest : total_heads f (set_value (is_at (nat_cmp x)) m.entries (head_of row)) + f h.has ≡ total_heads f m.entries + f row.has = set_heads f (is_at (nat_cmp x)) m.entries (head_of row) h e in
        omega (arith, same, left, right, rest)

-- an entry with counts that stay 0 can be written
pub kept_counts : (a : IdMap Counts) (m : IdMap RowHead) (x : ℕ) (row r : Row) → idmap.get (whole a m) x ≡ Some r → (r.counts ≡ zero_counts → row.counts ≡ zero_counts) → counts_at a x ≡ zero_counts → row.counts ≡ zero_counts
kept_counts a m x row r is stays z = go (idmap.get m x) refl
  where
    go : (o : Option RowHead) → idmap.get m x ≡ o → row.counts ≡ zero_counts
    go None e = (let no : None ≡ Some r = look_with a m x None e ∙ is in absurd cc)
    go (Some h) e =
        let two : Some (row_of_head (counts_at a x) h) ≡ Some r = look_with a m x (Some h) e ∙ is in
        let one : row_of_head (counts_at a x) h ≡ r = cc in
        stays (sym (ap (λ (s : Row). s.counts) one) ∙ z)

pub true_on : (b : Bool) (P : Type 0) → P → OnTrue b P
true_on true P p = p
true_on false P p = tt
