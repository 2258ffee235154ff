-- The number of new names.
use Rattle.std.proofs.Common.{ℕ, ◌+◌, ◌*◌, ◌≤◌, Bool, List, [], ◌∷◌, length, arith}
use Rattle.std.proofs.lemmas.List.{length-append}
use Rattle.ir_types.specs.Terms.{TypeTerm}
use Rattle.ir_tree.specs.Tree.{op, no_regions, region, region_count, empty, block, no_ops, next}
use Rattle.ir_tree.specs.Ids.{ids, regions_ids, region_ids, ops_ids}
use Rattle.ir_tree.specs.Meaning.{Operation}
use Rattle.ir_text_modules.proofs.Fitting.{FitsOp, FitsRegions, FitsRegion, FitsOps}
use Rattle.ir_text_modules.proofs.Texts.{Names, Regions, Region, Ops, results_names, argument_names, arguments_names, op_names, regions_names, region_names, ops_names}

-- from n to m there are at most this many new names
pub record Grown (n m : Names) (most_results most_arguments : ℕ) : Type 0 where
  pub results : n.results ≤ m.results
  pub arguments : n.arguments ≤ m.arguments
  pub few_results : m.results ≤ n.results + most_results
  pub few_arguments : m.arguments ≤ n.arguments + most_arguments

pub grown_none : (n : Names) → Grown n n 0 0
grown_none n = record { results = omega arith; arguments = omega arith; few_results = omega arith; few_arguments = omega arith }

pub grown_then : (n m p : Names) (a b c d e g : ℕ) → Grown n m a b → Grown m p c d → a + c ≤ e → b + d ≤ g → Grown n p e g
grown_then n m p a b c d e g h k few_results few_arguments = record {
  results = omega (arith, h.results, k.results);
  arguments = omega (arith, h.arguments, k.arguments);
  few_results = omega (arith, h.few_results, k.few_results, few_results);
  few_arguments = omega (arith, h.few_arguments, k.few_arguments, few_arguments);
}

pub grown_results : (x : ℕ) (ts : List TypeTerm) (n : Names) → Grown n (results_names x ts n) 1 0
grown_results x [] n = record { results = omega arith; arguments = omega arith; few_results = omega arith; few_arguments = omega arith }
grown_results x (t ∷ ts) n = record { results = omega arith; arguments = omega arith; few_results = omega arith; few_arguments = omega arith }

grown_argument : (x r k : ℕ) (t : TypeTerm) (n : Names) → Grown n (argument_names x r k t n) 0 1
grown_argument x r k t n = record { results = omega arith; arguments = omega arith; few_results = omega arith; few_arguments = omega arith }

pub grown_arguments : (x r k : ℕ) (ts : List TypeTerm) (n : Names) → Grown n (arguments_names x r k ts n) 0 (length ts)
grown_arguments x r k [] n = grown_none n
grown_arguments x r k (t ∷ ts) n = grown_then n (argument_names x r k t n) (arguments_names x r (k + 1) ts (argument_names x r k t n)) 0 1 0 (length ts) 0 (length (t ∷ ts)) (grown_argument x r k t n) (grown_arguments x r (k + 1) ts (argument_names x r k t n)) (omega arith) (omega arith)

mutual
  pub grown_op : (o : Bool) (t : Operation) (n : Names) → FitsOp o t → Grown n (op_names t n) (length (ids t)) (4096 * length (ids t))
  grown_op o (op h rs) n fits_in =
      let m = results_names h.id h.results n in
      grown_then n m (regions_names h.id 0 rs m) 1 0 (length (regions_ids rs)) (256 * region_count rs + 4096 * length (regions_ids rs)) (length (ids (op h rs))) (4096 * length (ids (op h rs))) (grown_results h.id h.results n) (grown_regions o h.id 0 rs m fits_in.2) (omega arith) (omega (arith, fits_in.1))

  pub grown_regions : (o : Bool) (x r : ℕ) (rs : Regions) (n : Names) → FitsRegions o rs → Grown n (regions_names x r rs n) (length (regions_ids rs)) (256 * region_count rs + 4096 * length (regions_ids rs))
  grown_regions o x r no_regions n fits_in = grown_then n n n 0 0 0 0 0 (256 * 0 + 4096 * 0) (grown_none n) (grown_none n) (omega arith) (omega arith)
  grown_regions o x r (region g rs) n fits_in =
      let m = region_names x r g n in
      let count = length-append (region_ids g) (regions_ids rs) in
      grown_then n m (regions_names x (r + 1) rs m) (length (region_ids g)) (256 + 4096 * length (region_ids g)) (length (regions_ids rs)) (256 * region_count rs + 4096 * length (regions_ids rs)) (length (regions_ids (region g rs))) (256 * region_count (region g rs) + 4096 * length (regions_ids (region g rs))) (grown_region o x r g n fits_in.0) (grown_regions o x (r + 1) rs m fits_in.1) (omega (arith, count)) (omega (arith, count))

  pub grown_region : (o : Bool) (x r : ℕ) (g : Region) (n : Names) → FitsRegion o g → Grown n (region_names x r g n) (length (region_ids g)) (256 + 4096 * length (region_ids g))
  grown_region o x r empty n fits_in = grown_then n n n 0 0 0 0 0 (256 + 4096 * 0) (grown_none n) (grown_none n) (omega arith) (omega arith)
  grown_region o x r (block args os) n fits_in =
      let m = arguments_names x r 0 args n in
      grown_then n m (ops_names os m) 0 (length args) (length (ops_ids os)) (4096 * length (ops_ids os)) (length (ops_ids os)) (256 + 4096 * length (ops_ids os)) (grown_arguments x r 0 args n) (grown_ops o os m fits_in.2) (omega arith) (omega (arith, fits_in.0))

  pub grown_ops : (o : Bool) (os : Ops) (n : Names) → FitsOps o os → Grown n (ops_names os n) (length (ops_ids os)) (4096 * length (ops_ids os))
  grown_ops o no_ops n fits_in = grown_then n n n 0 0 0 0 0 (4096 * 0) (grown_none n) (grown_none n) (omega arith) (omega arith)
  grown_ops o (next t ts) n fits_in =
      let m = op_names t n in
      let count = length-append (ids t) (ops_ids ts) in
      grown_then n m (ops_names ts m) (length (ids t)) (4096 * length (ids t)) (length (ops_ids ts)) (4096 * length (ops_ids ts)) (length (ops_ids (next t ts))) (4096 * length (ops_ids (next t ts))) (grown_op o t n fits_in.0) (grown_ops o ts m fits_in.1) (omega (arith, count)) (omega (arith, count))
