-- The state of a printer as the model of what it printed and named.
use Rattle.std.specs.Prelude.{ℕ, List, map}
use Rattle.ir_types.specs.Things.{ContextModel}
use Rattle.ir_types.specs.Terms.{TypeTerm, AttrTerm, name_term, type_term, attr_term}
use Rattle.ir_text.specs.declared.naming.NamedValue.{NamedValue}
use Rattle.ir_text.specs.declared.naming.Printer.{Printer}
use Rattle.ir_text.specs.declared.naming.Source.{Source}
use Rattle.ir_tree.specs.declared.tree.TreeRegion.{TreeRegion}
use Rattle.ir_tree.specs.Tree.{HeadOf, Head, Op, Region, RegionOf, RegionsOf, regions_of, OpsOf, ops_of}
use Rattle.ir_tree.specs.View.{region_view}
use Rattle.ir_tree.specs.Maps.{map_entry, map_head, map_region, map_regions, map_ops}
use Rattle.ir_text.specs.Naming.{Naming, Named}
use Rattle.ir_text.specs.Printing.{Printed}

-- the name of a value, and the type that its id denotes
abbrev pub naming_in : ContextModel → NamedValue → Naming
naming_in c n = record { name = n.name; type = type_term c n.ty }

abbrev pub named_in : ContextModel → List (Source × NamedValue) → Named
named_in c es = map (λ e. (e.0, naming_in c e.1)) es

abbrev pub printed_in : ContextModel → Printer → Printed
printed_in c p = record { text = p.text.items; named = named_in c p.named.entries; results = p.results; arguments = p.arguments }

-- the heads, regions and operations that trees of ids denote
abbrev pub head_in : ContextModel → Head → HeadOf (List ℕ) TypeTerm AttrTerm
head_in c = map_head (name_term c) (type_term c) (attr_term c)

abbrev pub region_in : ContextModel → Region → RegionOf (List ℕ) TypeTerm AttrTerm
region_in c = map_region (name_term c) (type_term c) (attr_term c)

abbrev pub regions_in : ContextModel → List TreeRegion → RegionsOf (List ℕ) TypeTerm AttrTerm
regions_in c rs = map_regions (name_term c) (type_term c) (attr_term c) (regions_of (map region_view rs))

abbrev pub ops_in : ContextModel → List Op → OpsOf (List ℕ) TypeTerm AttrTerm
ops_in c os = map_ops (name_term c) (type_term c) (attr_term c) (ops_of os)

abbrev pub types_in : ContextModel → List ℕ → List TypeTerm
types_in c = map (type_term c)

abbrev pub entries_in : ContextModel → List (ℕ × ℕ) → List (List ℕ × AttrTerm)
entries_in c = map (map_entry (name_term c) (attr_term c))
