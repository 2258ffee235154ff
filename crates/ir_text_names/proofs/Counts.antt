-- The total number of results of names.
use Rattle.std.specs.Prelude.{nat_le, if◌then◌else◌}
use Rattle.std.proofs.Common.{◌≡◌, ◌≤◌, ◌+◌, ℕ, Bool, true, false, List, [], ◌∷◌, ◌++◌, refl, ap, arith}
use Rattle.std.proofs.lemmas.Bool.{leb-true}
use Rattle.ir_text_tokens.specs.declared.token.Mark.TheVariants.{Colon}
use Rattle.ir_text_types.specs.Marks.{after}
use Rattle.ir_text_types.specs.Outcomes.{Outcome, Read, Wrong, Full, ◌>>=◌}
use Rattle.ir_text_types.proofs.Worlds.{bind_read}
use Rattle.ir_text_names.specs.Packs.{Counted, counts}
use Rattle.ir_text_types.specs.Typed.{Text}
use Rattle.ir_text_names.specs.NameReading.{value_name_at, some_count, count_within, count_at, result_at}

-- with one more name
pub counts_push : (ns : List Counted) (n : Counted) → counts (ns ++ n ∷ []) ≡ counts ns + n.1
counts_push [] n = omega arith
counts_push (m ∷ ns) n = omega (arith, counts_push ns n)

pub if_read : {A : Type 0} (b : Bool) (x y : A) → (if b then Read x else Wrong) ≡ Read y → (b ≡ true) × (x ≡ y)
if_read true x y e = (refl, cc)
if_read false x y e = absurd cc

abbrev count_read : Outcome (Counted × Text) → ℕ
count_read (Read x) = x.0.1
count_read Wrong = 0
count_read Full = 0

-- the count of a name and the counts before it are within the limit
pub result_fits : (before : ℕ) (s : Text) (n : Counted) (s' : Text) → result_at before s ≡ Read (n, s') → before + n.1 ≤ 256
unfolding result_at count_at
result_fits before s n s' e =
    let a = bind_read (value_name_at s) (λ m. count_at before m.1 >>= λ k. Read ((m.0, k.0), k.1)) (n, s') e in
    let b = bind_read (count_at before a.0.1) (λ k. Read ((a.0.0, k.0), k.1)) (n, s') a.2 in
    let w = bind_read (some_count a.0.1 (after Colon a.0.1)) (count_within before) b.0 b.1 in
    let r = if_read (nat_le (before + w.0.0) 256) w.0 b.0 w.2 in
    let low : before + w.0.0 ≤ 256 = leb-true (before + w.0.0) 256 r.0 in
    let first : w.0.0 ≡ b.0.0 = ap (λ (q : ℕ × Text). q.0) r.1 in
    let last : b.0.0 ≡ n.1 = ap count_read b.2 in
    omega (arith, low, first, last)
