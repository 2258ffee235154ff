-- A pattern as the list of its parts, in the order of its text, each with how many bytes of the text are left where
-- it begins. The operands of an operation, a function or a condition follow its part, up to an end. The type of a
-- term follows the term.
use Rattle.std.specs.Prelude.{◌≡◌, ℕ, Bool, List, [], ◌∷◌, ◌++◌, codes, map, Option, Some, None, option_map}
use Rattle.std.specs.Borrow.{Bor}
use Rattle.user_patterns_text.specs.Syntax.{Number, Numbers, literal, named, called, no_numbers, next_number, numbers_of, Term, Terms, operation, value_of, constant_of, no_terms, next_term, Constraint, narrower, asking}
use Rattle.user_patterns_text.specs.Syntax as syntax
use Rattle.user_patterns_text.specs.declared.parts.PartKind.{PartKind}
use Rattle.user_patterns_text.specs.declared.parts.PartKind.TheVariants as kind
use Rattle.user_patterns_text.specs.declared.parts.Part.{Part as PartCode}
use Rattle.user_patterns_text.specs.declared.parts.Pattern.{Pattern as PatternCode}

pub data Part : Type 0 where
  operation_part : List ℕ → Option (List ℕ) → Part
  value_part : List ℕ → Part
  literal_part : Bool → ℕ → Part
  name_part : List ℕ → Part
  function_part : List ℕ → Part
  condition_part : List ℕ → Part
  type_part : List ℕ → Part
  end_part : Part

-- a part, and how many bytes of the text are left at it
abbrev pub Placed : Type 0
Placed = ℕ × Part

-- a parsed pattern: the name, and the parts of both sides and of the conditions
pub record Pattern : Type 0 where
  pub name : List ℕ
  pub old : List Placed
  pub new : List Placed
  pub conditions : List Placed

-- ---- the views of the code's parts

abbrev pub bytes_of : Bor (List ℕ) → List ℕ
bytes_of b = b.now

abbrev pub kind_view : PartKind → Part
kind_view (kind.Operation name asks) = operation_part name.now (option_map bytes_of asks)
kind_view (kind.Value name) = value_part name.now
kind_view (kind.Literal negative magnitude) = literal_part negative magnitude
kind_view (kind.Name name) = name_part name.now
kind_view (kind.Function name) = function_part name.now
kind_view (kind.Constraint name) = condition_part name.now
kind_view (kind.Type name) = type_part name.now
kind_view kind.End = end_part

abbrev pub part_view : PartCode → Placed
part_view p = (p.left, kind_view p.kind)

abbrev pub views : List PartCode → List Placed
views ps = map part_view ps

abbrev pub pattern_view : PatternCode → Pattern
pattern_view p = record { name = p.name.now; old = views p.old.items; new = views p.new.items; conditions = views p.conditions.items }

-- ---- the parts of a syntax tree

abbrev pub type_parts : Option (List ℕ) → List Part
type_parts None = []
type_parts (Some w) = type_part w ∷ []

abbrev pub closed : List Part → List Part
closed ps = ps ++ end_part ∷ []

unfoldable mutual
  pub number_parts : Number → List Part
  number_parts (literal negative n) = literal_part negative n ∷ []
  number_parts (named w) = name_part w ∷ []
  number_parts (called w ns) = function_part w ∷ closed (numbers_parts ns)

  pub numbers_parts : Numbers → List Part
  numbers_parts no_numbers = []
  numbers_parts (next_number n ns) = number_parts n ++ numbers_parts ns

unfoldable mutual
  pub term_parts : Term → List Part
  term_parts (operation name asks ts ty) = operation_part name asks ∷ (closed (terms_parts ts) ++ type_parts ty)
  term_parts (value_of name ty) = value_part name ∷ type_parts ty
  term_parts (constant_of n ty) = number_parts n ++ type_parts ty

  pub terms_parts : Terms → List Part
  terms_parts no_terms = []
  terms_parts (next_term t ts) = term_parts t ++ terms_parts ts

unfoldable pub condition_parts : Constraint → List Part
condition_parts (narrower tys) = condition_part (codes "narrower") ∷ closed (map type_part tys)
condition_parts (asking w ns) = condition_part w ∷ closed (numbers_parts (numbers_of ns))

unfoldable pub conditions_parts : List Constraint → List Part
conditions_parts [] = []
conditions_parts (c ∷ cs) = condition_parts c ++ conditions_parts cs

abbrev pub unplaced : List Placed → List Part
unplaced ps = map (λ p. p.1) ps

-- `p` holds the parts of the syntax tree `q`
pub record AreParts (p : Pattern) (q : syntax.Pattern) : Type 0 where
  pub name : p.name ≡ q.name
  pub old : unplaced p.old ≡ term_parts q.old
  pub new : unplaced p.new ≡ term_parts q.new
  pub conditions : unplaced p.conditions ≡ conditions_parts q.conditions
