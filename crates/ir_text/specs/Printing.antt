-- The printed form of a module, in pre-order.
use Rattle.std.specs.Prelude.{ℕ, ◌+◌, ◌==◌, if◌then◌else◌, List, [], ◌∷◌, ◌++◌, length, map, codes}
use Rattle.std.specs.Fmt.{decimal}
use Rattle.ir_types.specs.Terms.{TypeTerm, Function, AttrTerm}
use Rattle.ir_tree.specs.declared.value.Value.{Value}
use Rattle.ir_tree.specs.Tree.{HeadOf, op, RegionsOf, no_regions, region, RegionOf, empty, block, OpsOf, no_ops, next}
use Rattle.ir_text_tokens.specs.Printing.{string_text}
use Rattle.ir_text_types.specs.TypeGrammar.{types_of}
use Rattle.ir_text_operations.specs.attributes.AttrGrammar.{entries_of}
use Rattle.ir_text.specs.TypeText.{in_round, type_text}
use Rattle.ir_text.specs.AttrText.{in_curly, entry_texts}
use Rattle.ir_tree.specs.Meaning.{Operation}
use Rattle.ir_text.specs.Naming.{Named, value_text, value_type, name_results, name_argument}

-- the text so far, the named values, and the numbers of the next operation with results and of the next argument
pub record Printed : Type 0 where
  pub text : List ℕ
  pub named : Named
  pub results : ℕ
  pub arguments : ℕ

-- appends a text
abbrev pub append_text : List ℕ → Printed → Printed
append_text t o = record { text = o.text ++ t; named = o.named; results = o.results; arguments = o.arguments }

-- the margin inside an operation has two more blanks
abbrev pub deeper : List ℕ → List ℕ
deeper margin = margin ++ codes "  "

-- the text before an operation with `count` results, where `count` isn't 0; n is the operation's number
abbrev pub results_text : ℕ → ℕ → List ℕ
results_text n count = codes "%" ++ (decimal n ++ (if count == 1 then codes " = " else codes ":" ++ (decimal count ++ codes " = ")))

-- names the results of operation x by one number
abbrev pub count_results : ℕ → List TypeTerm → Printed → Printed
count_results x ts o =
    record { text = o.text; named = name_results x (length ts == 1) o.results 0 ts o.named; results = o.results + 1; arguments = o.arguments }

-- prints and names the results, if the operation has any
abbrev pub print_results : ℕ → List TypeTerm → Printed → Printed
print_results x [] o = o
print_results x (t ∷ ts) o = count_results x (t ∷ ts) (append_text (results_text o.results (length (t ∷ ts))) o)

-- prints the operands by their names
abbrev pub print_operands : List Value → Printed → Printed
print_operands vs o = append_text (in_round (map (value_text o.named) vs)) o

-- a dictionary in braces
abbrev pub dictionary_text : List (List ℕ × AttrTerm) → List ℕ
dictionary_text es = in_curly (entry_texts (entries_of es))

-- properties and attributes; an empty dictionary isn't printed
abbrev pub properties_text : List (List ℕ × AttrTerm) → List ℕ
properties_text [] = []
properties_text (e ∷ es) = codes " <" ++ (dictionary_text (e ∷ es) ++ codes ">")

abbrev pub attributes_text : List (List ℕ × AttrTerm) → List ℕ
attributes_text [] = []
attributes_text (e ∷ es) = codes " " ++ dictionary_text (e ∷ es)

-- prints the name, the operands and the properties of an operation
abbrev pub print_name : HeadOf (List ℕ) TypeTerm AttrTerm → Printed → Printed
print_name h o = append_text (properties_text h.properties) (print_operands h.operands (append_text (string_text h.name) o))

-- prints an operation up to its regions
abbrev pub print_head : List ℕ → HeadOf (List ℕ) TypeTerm AttrTerm → Printed → Printed
print_head margin h o = print_name h (print_results h.id h.results (append_text margin o))

-- prints the function type of the operands and results
abbrev pub print_type_of : List Value → List TypeTerm → Printed → Printed
print_type_of vs ts o = append_text (type_text (Function (types_of (map (value_type o.named) vs)) (types_of ts))) o

-- prints an operation after its regions
abbrev pub print_tail : HeadOf (List ℕ) TypeTerm AttrTerm → Printed → Printed
print_tail h o = append_text (codes "\n") (print_type_of h.operands h.results (append_text (codes " : ") (append_text (attributes_text h.attributes) o)))

-- the comma before the item at index k, unless the index is 0
abbrev pub comma_at : ℕ → List ℕ
comma_at k = if k == 0 then [] else codes ", "

-- names an argument by the next number
abbrev pub count_argument : ℕ → ℕ → ℕ → TypeTerm → Printed → Printed
count_argument x r k t o = record { text = o.text; named = name_argument x r k o.arguments t o.named; results = o.results; arguments = o.arguments + 1 }

-- an argument with its type
abbrev pub argument_text : ℕ → TypeTerm → List ℕ
argument_text n t = codes "%arg" ++ (decimal n ++ (codes ": " ++ type_text t))

-- prints an argument, and names it
abbrev pub print_argument : ℕ → ℕ → ℕ → TypeTerm → Printed → Printed
print_argument x r k t o = count_argument x r k t (append_text (argument_text o.arguments t) o)

-- prints the arguments of a block from index k on
abbrev pub print_arguments : ℕ → ℕ → ℕ → List TypeTerm → Printed → Printed
print_arguments x r k [] o = o
print_arguments x r k (t ∷ ts) o = print_arguments x r (k + 1) ts (print_argument x r k t (append_text (comma_at k) o))

-- prints the label of a block without arguments, if the block has no operations
abbrev pub print_bare_label : {N T A : Type 0} → List ℕ → OpsOf N T A → Printed → Printed
print_bare_label margin no_ops o = append_text (codes "^bb0:\n") (append_text margin o)
print_bare_label margin (next t ts) o = o

-- prints the label of a block, if the block has arguments or no operations
abbrev pub print_label : {N T A : Type 0} → List ℕ → ℕ → ℕ → List TypeTerm → OpsOf N T A → Printed → Printed
print_label margin x r [] os o = print_bare_label margin os o
print_label margin x r (t ∷ ts) os o = append_text (codes "):\n") (print_arguments x r 0 (t ∷ ts) (append_text (codes "^bb0(") (append_text margin o)))

-- the opening parenthesis of the regions of an operation, if it has any
abbrev pub opening : {N T A : Type 0} → RegionsOf N T A → List ℕ
opening no_regions = []
opening (region g rs) = codes " ("

abbrev pub closing_text : {N T A : Type 0} → RegionsOf N T A → List ℕ
closing_text no_regions = []
closing_text (region g rs) = codes ")"

-- prints an operation with its regions; `margin` is the blanks before it
abbrev mutual
  pub printed_op : List ℕ → Operation → Printed → Printed
  printed_op margin (op h rs) o = print_tail h (append_text (closing_text rs) (print_regions margin h.id 0 rs (append_text (opening rs) (print_head margin h o))))

  -- prints the regions from region r on
  pub print_regions : List ℕ → ℕ → ℕ → RegionsOf (List ℕ) TypeTerm AttrTerm → Printed → Printed
  print_regions margin x r no_regions o = o
  print_regions margin x r (region g rs) o = print_regions margin x (r + 1) rs (print_region margin x r g (append_text (comma_at r) o))

  -- prints region r
  pub print_region : List ℕ → ℕ → ℕ → RegionOf (List ℕ) TypeTerm AttrTerm → Printed → Printed
  print_region margin x r empty o = append_text (codes "{}") o
  print_region margin x r (block args os) o = append_text (codes "}") (append_text margin (print_ops (deeper margin) os (print_label margin x r args os (append_text (codes "{\n") o))))

  -- prints the operations of a block
  pub print_ops : List ℕ → OpsOf (List ℕ) TypeTerm AttrTerm → Printed → Printed
  print_ops margin no_ops o = o
  print_ops margin (next t ts) o = print_ops margin ts (printed_op margin t o)

-- the state of the printer before anything is printed
abbrev pub blank : Printed
blank = record { text = []; named = []; results = 0; arguments = 0 }

-- the text of a module, or of any operation
abbrev pub text_of : Operation → List ℕ
text_of t = (printed_op [] t blank).text
