-- Runs of nodes and of heads.
use Rattle.std.proofs.Common.{◌≡◌, ℕ, suc, ◌+◌, ◌<◌, List, [], ◌∷◌, set, refl, sym, ap, ◌∙◌, subst, length, true, false, ◌&&◌, arith, Option, slice_get}
use Rattle.std.specs.Prelude.{is_some, nat_lt}
use Rattle.std.proofs.lemmas.Bool.{false≢true}
use Rattle.std.proofs.lemmas.Bool.Decides.{nat_tests}
use Rattle.std.proofs.lemmas.List.{get_or-set_other, length-set}
use Rattle.ir_store_lists.specs.Lists.{list_at, home_at, free, IsHead, IsItem}
use Rattle.ir_store_slots.specs.Plans.{is_nil}
use Rattle.ir_store_slots.specs.Index.{AreHeads, CanFree, all_idle, freed}

pub is_below : (a b : ℕ) → a < b → nat_lt a b ≡ true
is_below a b e = grind (arith, nat_tests)

pub none_nil : (ks : List ℕ) (o : Option ℕ) → o ≡ slice_get ks 0 → is_some o ≡ false → is_nil ks ≡ true
none_nil [] o e f = refl
none_nil (k ∷ ks) o e f = absurd (false≢true (sym f ∙ ap is_some e))

pub some_not_nil : (ks : List ℕ) (o : Option ℕ) → o ≡ slice_get ks 0 → is_some o ≡ true → is_nil ks ≡ false
some_not_nil [] o e f = absurd (false≢true (sym (ap is_some e) ∙ f))
some_not_nil (k ∷ ks) o e f = refl

pub idle_step : (lists : List (List ℕ)) (at m n : ℕ) → n ≡ suc m → is_nil (list_at lists at) ≡ true → all_idle lists (at + 1) m ≡ all_idle lists at n
idle_step lists at m n e t = sym (ap (all_idle lists at) e ∙ ap (λ b. b && all_idle lists (at + 1) m) t)

pub not_idle : (lists : List (List ℕ)) (at m n : ℕ) → n ≡ suc m → is_nil (list_at lists at) ≡ false → all_idle lists at n ≡ false
not_idle lists at m n e t = ap (all_idle lists at) e ∙ ap (λ b. b && all_idle lists (at + 1) m) t

pub heads_step : (at m n : ℕ) (homes : List ℕ) → n ≡ suc m → AreHeads at n homes → AreHeads (at + 1) m homes
heads_step at m n homes e h = record { few = h.few; heads = λ i l. subst (IsHead homes) (omega arith) (h.heads (suc i) (omega (arith, l, e))) }

pub head_here : (at n : ℕ) (homes : List ℕ) → 0 < n → AreHeads at n homes → IsHead homes at
head_here at n homes l h = subst (IsHead homes) (omega arith) (h.heads 0 l)

pub item_here : (at n : ℕ) (homes : List ℕ) → 0 < n → CanFree at n homes → IsItem homes at
item_here at n homes l h = subst (IsItem homes) (omega arith) (h.items 0 l)

pub free_step : (at m n : ℕ) (homes homes' : List ℕ) → n ≡ suc m → homes' ≡ set homes at free → CanFree at n homes → CanFree (at + 1) m homes'
free_step at m n homes homes' e eh h =
    let long : length homes' ≡ length homes = ap length eh ∙ length-set homes at free in
    record {
      few = omega (arith, h.few, long);
      items = λ i l.
          let old : IsItem homes (at + 1 + i) = subst (IsItem homes) (omega arith) (h.items (suc i) (omega (arith, l, e))) in
          let same : home_at homes' (at + 1 + i) ≡ home_at homes (at + 1 + i) = ap (λ z. home_at z (at + 1 + i)) eh ∙ get_or-set_other homes at (at + 1 + i) free free (λ q. omega (arith, q)) in
          record { inside = omega (arith, old.inside, long); linked = λ g. old.linked (sym same ∙ g); other = λ g. old.other (sym same ∙ g) };
    }

pub freed_step : (at m n : ℕ) (homes homes' : List ℕ) → n ≡ suc m → homes' ≡ set homes at free → freed (at + 1) m homes' ≡ freed at n homes
freed_step at m n homes homes' e eh = ap (freed (at + 1) m) eh ∙ sym (ap (λ z. freed at z homes) e)
