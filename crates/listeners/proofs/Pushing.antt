-- The lists that the code builds step by step.
use Rattle.std.proofs.Common.{◌≡◌, refl, ap, sym, ◌∙◌, subst, ℕ, zero, suc, ◌+◌, ◌-◌, ◌<◌, ◌≤◌, List, [], ◌∷◌, ◌++◌, append_assoc, append-nil, length, map, drop, take, Option, Some, None, arith}
use Rattle.std.specs.Prelude.{option_and_then, slice_get}
use Rattle.std.proofs.lemmas.List.{drop_all}
use Rattle.ir_event.specs.store.Using.{AreUses}
use Rattle.ir_event.specs.trees.Tree.{Op}
use Rattle.ir_event.specs.trees.declared.value.Value.{Value}
use Rattle.ir_event.specs.trees.declared.value.Value.TheVariants.{Result, Arg}
use Rattle.listeners.specs.declared.key.Use.{Use}
use Rattle.listeners.specs.declared.key.UseKey.{UseKey}
use Rattle.listeners.specs.About.{AreUsesOf, PushesAllUses, PushesUses, argument_count, arguments_from, region_arguments, results_from, use_with}
use Rattle.listeners.specs.Keys.{keys_of}
use Rattle.listeners.proofs.Listed.{keys_joined}

-- a list with one more item, and the rest
one_more : {X : Type 0} (out new : List X) (x : X) (rest whole : List X) → new ≡ out ++ x ∷ [] → out ++ x ∷ rest ≡ whole → new ++ rest ≡ whole
one_more out new x rest whole is e = ap (λ l. l ++ rest) is ∙ append_assoc out (x ∷ []) rest ∙ e

some_more : {X : Type 0} (out new xs rest whole : List X) → new ≡ out ++ xs → out ++ (xs ++ rest) ≡ whole → new ++ rest ≡ whole
some_more out new xs rest whole is e = ap (λ l. l ++ rest) is ∙ append_assoc out xs rest ∙ e

-- a count that isn't reached
left_over : (k n : ℕ) → k < n → n - k ≡ suc (n - (k + 1))
left_over k n l = omega (arith, l)

none_over : (k n : ℕ) → n ≤ k → n - k ≡ 0
none_over k n l = omega (arith, l)

all_over : (n : ℕ) → n - 0 ≡ n
all_over n = omega arith

-- results
module _ (x : ℕ) (n : ℕ) (out : List Value) where
  pub results_begin : out ++ results_from x 0 (n - 0) ≡ out ++ results_from x 0 n
  results_begin = ap (λ m. out ++ results_from x 0 m) (all_over n)

  pub results_more : (k : ℕ) (now new : List Value) → k < n → new ≡ now ++ Result x k ∷ [] → now ++ results_from x k (n - k) ≡ out ++ results_from x 0 n → new ++ results_from x (k + 1) (n - (k + 1)) ≡ out ++ results_from x 0 n
  results_more k now new l is e = one_more now new (Result x k) (results_from x (k + 1) (n - (k + 1))) _ is (ap (λ m. now ++ results_from x k m) (sym (left_over k n l)) ∙ e)

  pub results_end : (k : ℕ) (now : List Value) → n ≤ k → now ++ results_from x k (n - k) ≡ out ++ results_from x 0 n → now ≡ out ++ results_from x 0 n
  results_end k now l e = sym (append-nil now) ∙ ap (λ m. now ++ results_from x k m) (sym (none_over k n l)) ∙ e

-- arguments
module _ (x r : ℕ) (n : ℕ) (out : List Value) where
  pub arguments_begin : out ++ arguments_from x r 0 (n - 0) ≡ out ++ arguments_from x r 0 n
  arguments_begin = ap (λ m. out ++ arguments_from x r 0 m) (all_over n)

  pub arguments_more : (k : ℕ) (now new : List Value) → k < n → new ≡ now ++ Arg x r k ∷ [] → now ++ arguments_from x r k (n - k) ≡ out ++ arguments_from x r 0 n → new ++ arguments_from x r (k + 1) (n - (k + 1)) ≡ out ++ arguments_from x r 0 n
  arguments_more k now new l is e = one_more now new (Arg x r k) (arguments_from x r (k + 1) (n - (k + 1))) _ is (ap (λ m. now ++ arguments_from x r k m) (sym (left_over k n l)) ∙ e)

  pub arguments_end : (k : ℕ) (now : List Value) → n ≤ k → now ++ arguments_from x r k (n - k) ≡ out ++ arguments_from x r 0 n → now ≡ out ++ arguments_from x r 0 n
  arguments_end k now l e = sym (append-nil now) ∙ ap (λ m. now ++ arguments_from x r k m) (sym (none_over k n l)) ∙ e

-- regions
pub region_next : (x s r : ℕ) (ls : List (Option (List ℕ))) → r < length ls → region_arguments x s (drop r ls) ≡ arguments_from x s 0 (argument_count (option_and_then (λ a. a) (slice_get ls r))) ++ region_arguments x (s + 1) (drop (r + 1) ls)
region_next x s r [] l = absurd (omega (arith, l))
region_next x s zero (None ∷ ls) l = refl
region_next x s zero (Some ts ∷ ls) l = refl
region_next x s (suc r) (a ∷ ls) l =
    let at : suc (r + 1) ≡ suc r + 1 = omega arith in
    region_next x s r ls (omega (arith, l)) ∙ ap (λ k. arguments_from x s 0 (argument_count (option_and_then (λ a. a) (slice_get ls r))) ++ region_arguments x (s + 1) (drop k (a ∷ ls))) at

module _ (x : ℕ) (ls : List (Option (List ℕ))) (out : List Value) where
  pub regions_more : (r : ℕ) (now new : List Value) → r < length ls → new ≡ now ++ arguments_from x r 0 (argument_count (option_and_then (λ a. a) (slice_get ls r)))
      → now ++ region_arguments x r (drop r ls) ≡ out ++ region_arguments x 0 ls → new ++ region_arguments x (r + 1) (drop (r + 1) ls) ≡ out ++ region_arguments x 0 ls
  regions_more r now new l is e = some_more now new _ (region_arguments x (r + 1) (drop (r + 1) ls)) _ is (ap (λ m. now ++ m) (sym (region_next x r r ls l)) ∙ e)

  pub regions_end : (r : ℕ) (now : List Value) → length ls ≤ r → now ++ region_arguments x r (drop r ls) ≡ out ++ region_arguments x 0 ls → now ≡ out ++ region_arguments x 0 ls
  regions_end r now l e = sym (append-nil now) ∙ ap (λ m. now ++ region_arguments x r m) (sym (drop_all r ls l)) ∙ e

-- ---- uses
-- whatever the uses of the values that are left are, they end the uses of all values
abbrev pub Ends : Op → List Value → List Value → List UseKey → List UseKey → Type 0
Ends t all left keys old = (rest : List Use) → AreUsesOf left t rest → (us : List Use) × AreUsesOf all t us × (keys ++ keys_of rest ≡ old ++ keys_of us)

pub ends_begin : (t : Op) (all : List Value) (old : List UseKey) → Ends t all all old old
ends_begin t all old rest are = (rest, are, refl)

pub ends_more : (t : Op) (all : List Value) (v : Value) (more left : List Value) (keys new old : List UseKey) → v ∷ more ≡ left → PushesUses v t keys new → Ends t all left keys old → Ends t all more new old
ends_more t all v more left keys new old is pushed h rest are =
    let mine = map (use_with v) pushed.0 in
    let here : AreUsesOf (v ∷ more) t (mine ++ rest) = (pushed.0, rest, pushed.1, are, refl) in
    let got = h (mine ++ rest) (subst (λ vs. AreUsesOf vs t (mine ++ rest)) is here) in
    (got.0, got.1, some_more keys new (keys_of mine) (keys_of rest) _ pushed.2 (ap (λ l. keys ++ l) (sym (keys_joined mine rest)) ∙ got.2))

pub ends_end : (t : Op) (all left : List Value) (keys old : List UseKey) → length left < 1 → Ends t all left keys old → PushesAllUses all t old keys
ends_end t all left keys old l h = let got = h [] (nothing left l) in (got.0, got.1, sym (append-nil keys) ∙ got.2)
  where
    nothing : (left : List Value) → length left < 1 → AreUsesOf left t []
    nothing [] k = refl
    nothing (v ∷ vs) k = absurd (omega (arith, k))
