-- The keys that were removed from an operation's dictionaries, and whose slots are kept.
use Rattle.std.specs.Prelude.{ℕ, List, [], refl}
use Rattle.std.specs.Coded.{Coded, code_by, coded×, coded_list, coded_ℕ}
use Rattle.ir_store_arena.specs.trees.declared.place.Part.{Part}
use Rattle.ir_store_arena.specs.trees.declared.place.Part.TheVariants.{Props, Attrs}

-- in the order in which they were removed
pub record Gone : Type 0 where
  pub properties : List ℕ
  pub attributes : List ℕ

-- no removed keys
abbrev pub none_gone : Gone
none_gone = record { properties = []; attributes = [] }

abbrev pub gone_code : Coded Gone
gone_code = code_by (List ℕ × List ℕ) (coded× (coded_list coded_ℕ) (coded_list coded_ℕ)) (λ g. (g.properties, g.attributes)) (λ p. record { properties = p.0; attributes = p.1 }) (λ _. refl)

-- the removed keys of one dictionary
abbrev pub gone_in : Part → Gone → List ℕ
gone_in Props g = g.properties
gone_in Attrs g = g.attributes

-- the removed keys, with those of one dictionary changed
abbrev pub change_gone : Part → (List ℕ → List ℕ) → Gone → Gone
change_gone Props f g = record g { properties = f g.properties }
change_gone Attrs f g = record g { attributes = f g.attributes }
