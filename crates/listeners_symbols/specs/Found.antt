-- The symbol references found so far in an operation's dictionaries.
use Rattle.std.specs.Prelude.{◌≡◌, ℕ, map, eqb}
use Rattle.std.specs.List.{All, list_any}
use Rattle.std.specs.Ordering.{nat_cmp}
use Rattle.std.specs.BTreeSet.{contains}
use Rattle.ir_event.specs.types.Things.{ContextModel}
use Rattle.ir_event.specs.types.Terms.{attr_term, name_term, Symbol}
use Rattle.listeners_symbols.specs.declared.role.Reference.{Reference}
use Rattle.listeners_symbols.specs.declared.references.FoundReferences.{FoundReferences}
use Rattle.listeners_symbols.specs.Roles.{References}
use Rattle.listeners_symbols.specs.Table.{reference_meaning, ReferenceIsOf}

-- those references in contents
abbrev pub found_meaning : ContextModel → FoundReferences → References
found_meaning c f = map (reference_meaning c) f.list.items

-- a reference has the parts of its attribute
abbrev pub HasItsParts : ContextModel → Reference → Type 0
HasItsParts c p = attr_term c p.path ≡ Symbol (map (name_term c) p.parts.items)

-- the numbers are in the context, and exactly the attributes of the list were seen
pub record IsFound (c : ContextModel) (f : FoundReferences) : Type 0 where
  pub known : All (ReferenceIsOf c) f.list.items
  pub parts : All (HasItsParts c) f.list.items
  pub seen : (a : ℕ) → contains nat_cmp f.seen a ≡ list_any (λ p. eqb p.path a) f.list.items
