-- Named values keep their names, and which names they have.
use Rattle.std.proofs.Common.{◌≡◌, ℕ, zero, suc, ◌+◌, ◌<◌, ◌≤◌, Bool, true, false, List, [], ◌∷◌, ◌++◌, length, Option, Some, refl, ap, subst, ◌∙◌, arith, inl, inr}
use Rattle.std.specs.Prelude.{◌==◌, ◌&&◌, cond, slice_get}
use Rattle.std.specs.List.{AllByRecursion}
use Rattle.std.specs.Map.{lookup}
use Rattle.std.proofs.lemmas.Bool.{eqb-true, and_parts, cases_Bool}
use Rattle.std.proofs.lemmas.Bool.Decides.{nat_tests}
use Rattle.indexmap.specs.IndexMap.{insert_entry}
use Rattle.ir_types.specs.Terms.{TypeTerm}
use Rattle.ir_tree.specs.Tree.{op, no_regions, region, empty, block, no_ops, next}
use Rattle.ir_tree.specs.Ids.{ids, regions_ids, region_ids, ops_ids}
use Rattle.ir_tree.specs.Meaning.{Operation}
use Rattle.ir_text.specs.declared.naming.Source.{Source}
use Rattle.ir_text.specs.declared.naming.Source.TheVariants.{Result, Argument}
use Rattle.ir_text.specs.Naming.{Named, Naming, same_source, result_name, name_result, name_results}
use Rattle.ir_text_tokens.proofs.Decimals.{eqb_self}
use Rattle.ir_text_modules.proofs.Texts.{Names, Regions, Region, Ops, results_names, argument_names, arguments_names, op_names, regions_names, region_names, ops_names}

-- ---- sources

source_refl : (s : Source) → same_source s s ≡ true
source_refl (Result x k) = rw (eqb_self x, eqb_self k) refl
source_refl (Argument x r k) = rw (eqb_self x, eqb_self r, eqb_self k) refl

source_is : (s t : Source) → same_source s t ≡ true → s ≡ t
source_is (Result x j) (Result y k) e =
    let p = and_parts (x == y) (j == k) e in
    ap (λ a. Result a j) (eqb-true x y p.0) ∙ ap (Result y) (eqb-true j k p.1)
source_is (Result x j) (Argument y s k) e = absurd cc
source_is (Argument x r j) (Result y k) e = absurd cc
source_is (Argument x r j) (Argument y s k) e =
    let p = and_parts (x == y) ((r == s) && (j == k)) e in
    let q = and_parts (r == s) (j == k) p.1 in
    ap (λ a. Argument a r j) (eqb-true x y p.0) ∙ ap (λ a. Argument y a j) (eqb-true r s q.0) ∙ ap (Argument y s) (eqb-true j k q.1)

-- the name of a source
abbrev pub found : Named → Source → Option Naming
found named s = lookup (same_source s) named

pub found_new : (named : Named) (s : Source) (n : Naming) → found (insert_entry same_source named s n) s ≡ Some n
found_new [] s n = rw (source_refl s) refl
found_new (e ∷ es) s n = elim (cases_Bool (same_source s e.0)) [
  | inl t ↦ rw (t, t) refl
  | inr f ↦ rw (f, f) (found_new es s n)
]

pub found_old : (named : Named) (s k : Source) (n : Naming) → same_source s k ≡ false → found (insert_entry same_source named k n) s ≡ found named s
found_old [] s k n e = rw e refl
found_old (c ∷ es) s k n e = elim (cases_Bool (same_source k c.0)) [
  | inl t ↦ let f : same_source s c.0 ≡ false = subst (λ u. same_source s u ≡ false) (source_is k c.0 t) e in rw (t, f) refl
  | inr f ↦ rw f (ap (λ o. cond (same_source s c.0) (Some c.1) o) (found_old es s k n e))
]

-- ---- results

-- the source is no later result of the operation
pub results_keep : (s : Source) (x : ℕ) (only : Bool) (n k : ℕ) (ts : List TypeTerm) (named : Named) → ((i : ℕ) → k ≤ i → same_source s (Result x i) ≡ false) → found (name_results x only n k ts named) s ≡ found named s
results_keep s x only n k [] named h = refl
results_keep s x only n k (t ∷ ts) named h =
    results_keep s x only n (k + 1) ts (name_result x only n k t named) (λ i le. h i (omega (arith, le)))
    ∙ found_old named s (Result x k) (record { name = result_name only n k; type = t }) (h k (omega arith))

later_apart : (x j i : ℕ) → j < i → same_source (Result x j) (Result x i) ≡ false
later_apart x j i lt = let e : (j == i) ≡ false = grind (arith, nat_tests) in rw (eqb_self x, e) refl

pub results_found : (x : ℕ) (only : Bool) (n k : ℕ) (ts : List TypeTerm) (named : Named) (i : ℕ) (t : TypeTerm) → slice_get ts i ≡ Some t → found (name_results x only n k ts named) (Result x (k + i)) ≡ Some (record { name = result_name only n (k + i); type = t })
results_found x only n k [] named i t e = absurd cc
results_found x only n k (u ∷ us) named zero t e =
    let same : u ≡ t = cc in
    let place : k + 0 ≡ k = omega arith in
    rw place (
    results_keep (Result x k) x only n (k + 1) us (name_result x only n k u named) (λ i le. later_apart x k i (omega (arith, le)))
    ∙ found_new named (Result x k) (record { name = result_name only n k; type = u })
    ∙ ap (λ y. Some (record { name = result_name only n k; type = y })) same)
results_found x only n k (u ∷ us) named (suc i) t e =
    let place : k + suc i ≡ k + 1 + i = omega arith in
    rw place (results_found x only n (k + 1) us (name_result x only n k u named) i t e)

-- ---- values of other operations

abbrev pub source_id : Source → ℕ
source_id (Result x k) = x
source_id (Argument x r k) = x

-- the value belongs to none of the operations
abbrev pub Away : Source → List ℕ → Type 0
Away s xs = AllByRecursion (λ y. (source_id s == y) ≡ false) xs

module _ {X : Type 0} (P : X → Type 0) where
  pub all_preceding : (xs ys : List X) → AllByRecursion P (xs ++ ys) → AllByRecursion P xs
  all_preceding [] ys h = tt
  all_preceding (x ∷ xs) ys h = (h.0, all_preceding xs ys h.1)

  pub all_back : (xs ys : List X) → AllByRecursion P (xs ++ ys) → AllByRecursion P ys
  all_back [] ys h = h
  all_back (x ∷ xs) ys h = all_back xs ys h.1

result_away : (s : Source) (x k : ℕ) → (source_id s == x) ≡ false → same_source s (Result x k) ≡ false
result_away (Result y j) x k e = rw e refl
result_away (Argument y r j) x k e = refl

pub argument_away : (s : Source) (x r k : ℕ) → (source_id s == x) ≡ false → same_source s (Argument x r k) ≡ false
argument_away (Result y j) x r k e = refl
argument_away (Argument y q j) x r k e = rw e refl

-- the value is no argument of the operation
abbrev pub NoArgument : Source → ℕ → Type 0
NoArgument s x = (r k : ℕ) → same_source s (Argument x r k) ≡ false

pub results_names_keep : (s : Source) (x : ℕ) (ts : List TypeTerm) (n : Names) → (source_id s == x) ≡ false → found (results_names x ts n).named s ≡ found n.named s
results_names_keep s x [] n e = refl
results_names_keep s x (t ∷ ts) n e = results_keep s x (length (t ∷ ts) == 1) n.results 0 (t ∷ ts) n.named (λ i le. result_away s x i e)

pub arguments_names_keep : (s : Source) (x r k : ℕ) (ts : List TypeTerm) (n : Names) → NoArgument s x → found (arguments_names x r k ts n).named s ≡ found n.named s
arguments_names_keep s x r k [] n h = refl
arguments_names_keep s x r k (t ∷ ts) n h = arguments_names_keep s x r (k + 1) ts (argument_names x r k t n) h ∙ found_old n.named s (Argument x r k) _ (h r k)

mutual
  pub op_keeps : (s : Source) (t : Operation) (n : Names) → Away s (ids t) → found (op_names t n).named s ≡ found n.named s
  op_keeps s (op h rs) n away = regions_keep s h.id 0 rs (results_names h.id h.results n) (λ r k. argument_away s h.id r k away.0) away.1 ∙ results_names_keep s h.id h.results n away.0

  pub regions_keep : (s : Source) (x r : ℕ) (rs : Regions) (n : Names) → NoArgument s x → Away s (regions_ids rs) → found (regions_names x r rs n).named s ≡ found n.named s
  regions_keep s x r no_regions n none away = refl
  regions_keep s x r (region g rs) n none away =
      regions_keep s x (r + 1) rs (region_names x r g n) none (all_back _ (region_ids g) (regions_ids rs) away)
      ∙ region_keeps s x r g n none (all_preceding _ (region_ids g) (regions_ids rs) away)

  pub region_keeps : (s : Source) (x r : ℕ) (g : Region) (n : Names) → NoArgument s x → Away s (region_ids g) → found (region_names x r g n).named s ≡ found n.named s
  region_keeps s x r empty n none away = refl
  region_keeps s x r (block args os) n none away = ops_keep s os (arguments_names x r 0 args n) away ∙ arguments_names_keep s x r 0 args n none

  pub ops_keep : (s : Source) (os : Ops) (n : Names) → Away s (ops_ids os) → found (ops_names os n).named s ≡ found n.named s
  ops_keep s no_ops n away = refl
  ops_keep s (next t ts) n away = ops_keep s ts (op_names t n) (all_back _ (ids t) (ops_ids ts) away) ∙ op_keeps s t n (all_preceding _ (ids t) (ops_ids ts) away)

-- the results of an operation after its regions
pub own_results : (h_id r : ℕ) (rs : Regions) (ts : List TypeTerm) (n : Names) (i : ℕ) (t : TypeTerm) → AllByRecursion (λ y. (h_id == y) ≡ false) (regions_ids rs) → slice_get ts i ≡ Some t
    → found (regions_names h_id r rs (results_names h_id ts n)).named (Result h_id i) ≡ Some (record { name = result_name (length ts == 1) n.results i; type = t })
own_results x r rs [] n i t away e = absurd cc
own_results x r rs (u ∷ us) n i t away e =
    let zero_on : 0 + i ≡ i = omega arith in
    let here = subst (λ (j : ℕ). found (results_names x (u ∷ us) n).named (Result x j) ≡ Some (record { name = result_name (length (u ∷ us) == 1) n.results j; type = t })) zero_on (results_found x (length (u ∷ us) == 1) n.results 0 (u ∷ us) n.named i t e) in
    regions_keep (Result x i) x r rs (results_names x (u ∷ us) n) (λ q k. refl) away ∙ here
