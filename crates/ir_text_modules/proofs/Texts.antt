-- The printed text before an arbitrary rest, and the new names.
use Rattle.std.proofs.Common.{◌≡◌, ℕ, ◌+◌, List, [], ◌∷◌, ◌++◌, map, length, refl, sym, ap, ◌∙◌, append_assoc}
use Rattle.std.specs.Prelude.{◌==◌, codes}
use Rattle.ir_types.specs.Terms.{TypeTerm, AttrTerm, Function}
use Rattle.ir_tree.specs.Tree.{HeadOf, op, RegionsOf, no_regions, region, RegionOf, empty, block, OpsOf, no_ops, next}
use Rattle.ir_tree.specs.Meaning.{Operation}
use Rattle.ir_text_tokens.specs.Printing.{string_text}
use Rattle.ir_text.specs.TypeText.{in_round, type_text}
use Rattle.ir_text.specs.Naming.{Named, value_text, value_type, name_results, name_argument}
use Rattle.ir_text_types.specs.TypeGrammar.{types_of}
use Rattle.ir_text.specs.Printing.{Printed, append_text, deeper, results_text, print_results, properties_text, attributes_text, print_name, print_head, print_tail, comma_at, argument_text, print_argument, print_arguments, print_label, opening, closing_text, printed_op, print_regions, print_region, print_ops}
use Rattle.ir_text_modules.specs.Denotation.{unwritten}
use Rattle.ir_types.proofs.Truths.{append_none}

abbrev pub Head : Type 0
Head = HeadOf (List ℕ) TypeTerm AttrTerm

abbrev pub Regions : Type 0
Regions = RegionsOf (List ℕ) TypeTerm AttrTerm

abbrev pub Region : Type 0
Region = RegionOf (List ℕ) TypeTerm AttrTerm

abbrev pub Ops : Type 0
Ops = OpsOf (List ℕ) TypeTerm AttrTerm

-- ---- names

-- the named values, and the next numbers
pub record Names : Type 0 where
  pub named : Named
  pub results : ℕ
  pub arguments : ℕ

abbrev pub names_of : Printed → Names
names_of o = record { named = o.named; results = o.results; arguments = o.arguments }

abbrev pub results_names : ℕ → List TypeTerm → Names → Names
results_names x [] n = n
results_names x (t ∷ ts) n = record { named = name_results x (length (t ∷ ts) == 1) n.results 0 (t ∷ ts) n.named; results = n.results + 1; arguments = n.arguments }

abbrev pub argument_names : ℕ → ℕ → ℕ → TypeTerm → Names → Names
argument_names x r k t n = record { named = name_argument x r k n.arguments t n.named; results = n.results; arguments = n.arguments + 1 }

abbrev pub arguments_names : ℕ → ℕ → ℕ → List TypeTerm → Names → Names
arguments_names x r k [] n = n
arguments_names x r k (t ∷ ts) n = arguments_names x r (k + 1) ts (argument_names x r k t n)

abbrev mutual
  pub op_names : Operation → Names → Names
  op_names (op h rs) n = regions_names h.id 0 rs (results_names h.id h.results n)

  pub regions_names : ℕ → ℕ → Regions → Names → Names
  regions_names x r no_regions n = n
  regions_names x r (region g rs) n = regions_names x (r + 1) rs (region_names x r g n)

  pub region_names : ℕ → ℕ → Region → Names → Names
  region_names x r empty n = n
  region_names x r (block args os) n = ops_names os (arguments_names x r 0 args n)

  pub ops_names : Ops → Names → Names
  ops_names no_ops n = n
  ops_names (next t ts) n = ops_names ts (op_names t n)

-- ---- texts before a rest

abbrev pub results_then : ℕ → List TypeTerm → List ℕ → List ℕ
results_then m [] rest = rest
results_then m (t ∷ ts) rest = results_text m (length (t ∷ ts)) ++ rest

abbrev pub name_then : Head → Named → List ℕ → List ℕ
name_then h named rest = string_text h.name ++ (in_round (map (value_text named) h.operands) ++ (properties_text h.properties ++ rest))

-- an operation up to its regions
abbrev pub head_then : Head → Names → List ℕ → List ℕ
head_then h n rest = results_then n.results h.results (name_then h (results_names h.id h.results n).named rest)

-- an operation after its regions
abbrev pub tail_then : Head → Named → List ℕ → List ℕ
tail_then h named rest = attributes_text h.attributes ++ (codes " : " ++ (type_text (Function (types_of (map (value_type named) h.operands)) (types_of h.results)) ++ (codes "\n" ++ rest)))

abbrev pub arguments_then : ℕ → List TypeTerm → ℕ → List ℕ → List ℕ
arguments_then k [] m rest = rest
arguments_then k (t ∷ ts) m rest = comma_at k ++ (argument_text m t ++ arguments_then (k + 1) ts (m + 1) rest)

abbrev pub bare_label_then : List ℕ → Ops → List ℕ → List ℕ
bare_label_then margin no_ops rest = margin ++ (codes "^bb0:\n" ++ rest)
bare_label_then margin (next t ts) rest = rest

abbrev pub label_then : List ℕ → List TypeTerm → Ops → Names → List ℕ → List ℕ
label_then margin [] os n rest = bare_label_then margin os rest
label_then margin (t ∷ ts) os n rest = margin ++ (codes "^bb0(" ++ arguments_then 0 (t ∷ ts) n.arguments (codes "):\n" ++ rest))

abbrev mutual
  -- an operation without the margin before it
  pub op_then : List ℕ → Operation → Names → List ℕ → List ℕ
  op_then margin (op h rs) n rest =
      head_then h n (opening rs ++ regions_then margin h.id 0 rs (results_names h.id h.results n) (closing_text rs ++ tail_then h (op_names (op h rs) n).named rest))

  pub regions_then : List ℕ → ℕ → ℕ → Regions → Names → List ℕ → List ℕ
  regions_then margin x r no_regions n rest = rest
  regions_then margin x r (region g rs) n rest = comma_at r ++ region_then margin x r g n (regions_then margin x (r + 1) rs (region_names x r g n) rest)

  pub region_then : List ℕ → ℕ → ℕ → Region → Names → List ℕ → List ℕ
  region_then margin x r empty n rest = codes "{}" ++ rest
  region_then margin x r (block args os) n rest = codes "{\n" ++ label_then margin args os n (ops_then (deeper margin) os (arguments_names x r 0 args n) (margin ++ (codes "}" ++ rest)))

  pub ops_then : List ℕ → Ops → Names → List ℕ → List ℕ
  ops_then margin no_ops n rest = rest
  ops_then margin (next t ts) n rest = margin ++ op_then margin t n (ops_then margin ts (op_names t n) rest)

-- ---- these are the printed texts

-- a step of the printer adds these names and appends this text
pub record Puts (p : Printed → Printed) (f : Names → Names) (a : Names → List ℕ → List ℕ) : Type 0 where
  pub names : (o : Printed) → names_of (p o) ≡ f (names_of o)
  pub text : (o : Printed) (rest : List ℕ) → (p o).text ++ rest ≡ o.text ++ a (names_of o) rest

pub puts_then : (p q : Printed → Printed) (f g : Names → Names) (a b : Names → List ℕ → List ℕ) → Puts p f a → Puts q g b → Puts (λ o. q (p o)) (λ n. g (f n)) (λ n rest. a n (b (f n) rest))
puts_then p q f g a b first second = record {
  names = λ o. second.names (p o) ∙ ap g (first.names o);
  text = λ o rest. second.text (p o) rest ∙ ap (λ n. (p o).text ++ b n rest) (first.names o) ∙ first.text o (b (f (names_of o)) rest);
}

-- a text that depends on the names
puts_by : (t : Names → List ℕ) → Puts (λ o. append_text (t (names_of o)) o) (λ n. n) (λ n rest. t n ++ rest)
puts_by t = record { names = λ o. refl; text = λ o rest. append_assoc o.text (t (names_of o)) rest }

puts_text : (t : List ℕ) → Puts (append_text t) (λ n. n) (λ n rest. t ++ rest)
puts_text t = puts_by (λ n. t)

puts_nothing : Puts (λ o. o) (λ n. n) (λ n rest. rest)
puts_nothing = record { names = λ o. refl; text = λ o rest. refl }

puts_results : (x : ℕ) (ts : List TypeTerm) → Puts (print_results x ts) (results_names x ts) (λ n rest. results_then n.results ts rest)
puts_results x [] = puts_nothing
puts_results x (t ∷ ts) = record { names = λ o. refl; text = λ o rest. append_assoc o.text (results_text o.results (length (t ∷ ts))) rest }

puts_name : (h : Head) → Puts (print_name h) (λ n. n) (λ n rest. name_then h n.named rest)
puts_name h = record {
  names = λ o. refl;
  text = λ o rest.
      let operands = in_round (map (value_text o.named) h.operands) in
      append_assoc ((o.text ++ string_text h.name) ++ operands) (properties_text h.properties) rest
      ∙ append_assoc (o.text ++ string_text h.name) operands (properties_text h.properties ++ rest)
      ∙ append_assoc o.text (string_text h.name) (operands ++ (properties_text h.properties ++ rest));
}

puts_head : (h : Head) → Puts (λ o. print_name h (print_results h.id h.results o)) (results_names h.id h.results) (head_then h)
puts_head h = puts_then (print_results h.id h.results) (print_name h) (results_names h.id h.results) (λ n. n) (λ n rest. results_then n.results h.results rest) (λ n rest. name_then h n.named rest) (puts_results h.id h.results) (puts_name h)

puts_tail : (h : Head) → Puts (print_tail h) (λ n. n) (λ n rest. tail_then h n.named rest)
puts_tail h = record {
  names = λ o. refl;
  text = λ o rest.
      let type = type_text (Function (types_of (map (value_type o.named) h.operands)) (types_of h.results)) in
      append_assoc (((o.text ++ attributes_text h.attributes) ++ codes " : ") ++ type) (codes "\n") rest
      ∙ append_assoc ((o.text ++ attributes_text h.attributes) ++ codes " : ") type (codes "\n" ++ rest)
      ∙ append_assoc (o.text ++ attributes_text h.attributes) (codes " : ") (type ++ (codes "\n" ++ rest))
      ∙ append_assoc o.text (attributes_text h.attributes) (codes " : " ++ (type ++ (codes "\n" ++ rest)));
}

puts_argument : (x r k : ℕ) (t : TypeTerm) → Puts (print_argument x r k t) (argument_names x r k t) (λ n rest. argument_text n.arguments t ++ rest)
puts_argument x r k t = record { names = λ o. refl; text = λ o rest. append_assoc o.text (argument_text o.arguments t) rest }

puts_arguments : (x r k : ℕ) (ts : List TypeTerm) → Puts (print_arguments x r k ts) (arguments_names x r k ts) (λ n rest. arguments_then k ts n.arguments rest)
puts_arguments x r k [] = puts_nothing
puts_arguments x r k (t ∷ ts) =
    let comma = puts_text (comma_at k) in
    let one = puts_then (append_text (comma_at k)) (print_argument x r k t) (λ n. n) (argument_names x r k t) (λ n rest. comma_at k ++ rest) (λ n rest. argument_text n.arguments t ++ rest) comma (puts_argument x r k t) in
    puts_then (λ o. print_argument x r k t (append_text (comma_at k) o)) (print_arguments x r (k + 1) ts) (argument_names x r k t) (arguments_names x r (k + 1) ts) (λ n rest. comma_at k ++ (argument_text n.arguments t ++ rest)) (λ n rest. arguments_then (k + 1) ts n.arguments rest) one (puts_arguments x r (k + 1) ts)

-- two texts, one after the other
puts_two : (s t : List ℕ) → Puts (λ o. append_text t (append_text s o)) (λ n. n) (λ n rest. s ++ (t ++ rest))
puts_two s t = puts_then (append_text s) (append_text t) (λ n. n) (λ n. n) (λ n rest. s ++ rest) (λ n rest. t ++ rest) (puts_text s) (puts_text t)

puts_label : (margin : List ℕ) (x r : ℕ) (args : List TypeTerm) (os : Ops) → Puts (print_label margin x r args os) (arguments_names x r 0 args) (label_then margin args os)
puts_label margin x r [] no_ops = puts_two margin (codes "^bb0:\n")
puts_label margin x r [] (next t ts) = puts_nothing
puts_label margin x r (t ∷ ts) os =
    let args = puts_then (λ o. append_text (codes "^bb0(") (append_text margin o)) (print_arguments x r 0 (t ∷ ts)) (λ n. n) (arguments_names x r 0 (t ∷ ts)) (λ n rest. margin ++ (codes "^bb0(" ++ rest)) (λ n rest. arguments_then 0 (t ∷ ts) n.arguments rest) (puts_two margin (codes "^bb0(")) (puts_arguments x r 0 (t ∷ ts)) in
    puts_then (λ o. print_arguments x r 0 (t ∷ ts) (append_text (codes "^bb0(") (append_text margin o))) (append_text (codes "):\n")) (arguments_names x r 0 (t ∷ ts)) (λ n. n) (λ n rest. margin ++ (codes "^bb0(" ++ arguments_then 0 (t ∷ ts) n.arguments rest)) (λ n rest. codes "):\n" ++ rest) args (puts_text (codes "):\n"))

mutual
  pub puts_op : (margin : List ℕ) (t : Operation) → Puts (printed_op margin t) (op_names t) (λ n rest. margin ++ op_then margin t n rest)
  puts_op margin (op h rs) =
      let named = results_names h.id h.results in
      let inner = regions_names h.id 0 rs in
      let begun = puts_then (append_text margin) (λ o. print_name h (print_results h.id h.results o)) (λ n. n) named (λ n rest. margin ++ rest) (head_then h) (puts_text margin) (puts_head h) in
      let opened = puts_then (print_head margin h) (append_text (opening rs)) named (λ n. n) (λ n rest. margin ++ head_then h n rest) (λ n rest. opening rs ++ rest) begun (puts_text (opening rs)) in
      let regions = puts_then (λ o. append_text (opening rs) (print_head margin h o)) (print_regions margin h.id 0 rs) named inner (λ n rest. margin ++ head_then h n (opening rs ++ rest)) (regions_then margin h.id 0 rs) opened (puts_regions margin h.id 0 rs) in
      let closed = puts_then (λ o. print_regions margin h.id 0 rs (append_text (opening rs) (print_head margin h o))) (append_text (closing_text rs)) (λ n. inner (named n)) (λ n. n) (λ n rest. margin ++ head_then h n (opening rs ++ regions_then margin h.id 0 rs (named n) rest)) (λ n rest. closing_text rs ++ rest) regions (puts_text (closing_text rs)) in
      puts_then (λ o. append_text (closing_text rs) (print_regions margin h.id 0 rs (append_text (opening rs) (print_head margin h o)))) (print_tail h) (λ n. inner (named n)) (λ n. n) (λ n rest. margin ++ head_then h n (opening rs ++ regions_then margin h.id 0 rs (named n) (closing_text rs ++ rest))) (λ n rest. tail_then h n.named rest) closed (puts_tail h)

  puts_regions : (margin : List ℕ) (x r : ℕ) (rs : Regions) → Puts (print_regions margin x r rs) (regions_names x r rs) (regions_then margin x r rs)
  puts_regions margin x r no_regions = puts_nothing
  puts_regions margin x r (region g rs) =
      let one = puts_then (append_text (comma_at r)) (print_region margin x r g) (λ n. n) (region_names x r g) (λ n rest. comma_at r ++ rest) (region_then margin x r g) (puts_text (comma_at r)) (puts_region margin x r g) in
      puts_then (λ o. print_region margin x r g (append_text (comma_at r) o)) (print_regions margin x (r + 1) rs) (region_names x r g) (regions_names x (r + 1) rs) (λ n rest. comma_at r ++ region_then margin x r g n rest) (regions_then margin x (r + 1) rs) one (puts_regions margin x (r + 1) rs)

  puts_region : (margin : List ℕ) (x r : ℕ) (g : Region) → Puts (print_region margin x r g) (region_names x r g) (region_then margin x r g)
  puts_region margin x r empty = puts_text (codes "{}")
  puts_region margin x r (block args os) =
      let named = arguments_names x r 0 args in
      let label = puts_then (append_text (codes "{\n")) (print_label margin x r args os) (λ n. n) named (λ n rest. codes "{\n" ++ rest) (label_then margin args os) (puts_text (codes "{\n")) (puts_label margin x r args os) in
      let inner = puts_then (λ o. print_label margin x r args os (append_text (codes "{\n") o)) (print_ops (deeper margin) os) named (ops_names os) (λ n rest. codes "{\n" ++ label_then margin args os n rest) (ops_then (deeper margin) os) label (puts_ops (deeper margin) os) in
      puts_then (λ o. print_ops (deeper margin) os (print_label margin x r args os (append_text (codes "{\n") o))) (λ o. append_text (codes "}") (append_text margin o)) (λ n. ops_names os (named n)) (λ n. n) (λ n rest. codes "{\n" ++ label_then margin args os n (ops_then (deeper margin) os (named n) rest)) (λ n rest. margin ++ (codes "}" ++ rest)) inner (puts_two margin (codes "}"))

  puts_ops : (margin : List ℕ) (os : Ops) → Puts (print_ops margin os) (ops_names os) (ops_then margin os)
  puts_ops margin no_ops = puts_nothing
  puts_ops margin (next t ts) = puts_then (printed_op margin t) (print_ops margin ts) (op_names t) (ops_names ts) (λ n rest. margin ++ op_then margin t n rest) (ops_then margin ts) (puts_op margin t) (puts_ops margin ts)

-- ---- after the text that is already printed

pub op_appended : (margin : List ℕ) (t : Operation) (o : Printed) → (printed_op margin t o).text ≡ o.text ++ (printed_op margin t (unwritten o)).text
op_appended margin t o =
    let p = puts_op margin t in
    let here = sym (append_none (printed_op margin t o).text) ∙ p.text o [] in
    let alone = sym (append_none (printed_op margin t (unwritten o)).text) ∙ p.text (unwritten o) [] in
    here ∙ ap (λ (l : List ℕ). o.text ++ l) (sym alone)
