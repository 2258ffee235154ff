-- Rules on casts of casts. The names in brackets are MLIR's.
use Rattle.std.specs.Prelude.{ℕ, List, ◌∷◌, codes, ◌||◌, nat_le, if◌then◌else◌, Option, Some}
use Rattle.ir_types.specs.Readings.{type_width}
use Rattle.ir_tree.specs.declared.place.Place.{Place}
use Rattle.ir_tree.specs.Tree.{head}
use Rattle.ir_tree.specs.Meaning.{Operation}
use Rattle.rewriter_machine.specs.Contents.{Edit}
use Rattle.patterns_laws.specs.Made.{cast}
use Rattle.patterns_laws.specs.Keeps.{given}
use Rattle.patterns_laws.specs.Words.{named, among, extensions, index_casts}
use Rattle.patterns_base.specs.Looks.{Header, One, when, source, source_among, is_of_type, one}
use Rattle.patterns_base.specs.Makes.{give, give_new}

-- casts between integers whose result a truncation may read
unfoldable pub resizing : List (List ℕ)
resizing = codes "arith.trunci" ∷ extensions

module _ (t : Operation) (n : ℕ) (point : Place) (o : Operation) where
  abbrev h : Header
  h = head o

  abbrev x : ℕ
  x = h.id

  -- edits of x, if x has one operand and one result
  abbrev pub on_one : (One → Option (List Edit)) → Option (List Edit)
  on_one f = given (one h) f

  -- one new cast, of the kind of q, replaces cast p of cast q
  abbrev pub recast : One → One → List Edit
  recast p q = give_new point n x (cast q.name p.ty q.first)

  -- `extend-extension`: an extension of an extension of the same kind, or of a zero extension, becomes one extension
  -- of the inner kind (`ExtSIOp::fold`, `ExtUIOp::fold`, `ExtSIOfExtUI`)
  abbrev pub extend_extension : Option (List Edit)
  extend_extension =
      on_one (λ p. when (among extensions p.name) (given (source_among t extensions p.first) (λ y. given (one y) (λ q.
      when (named p.name q.name || named (codes "arith.extsi") p.name) (Some (recast p q))))))

  -- `cut-cast`: a truncation of a truncation becomes one; a truncation of an extension back to the source type becomes
  -- the source (`TruncIOp::fold`)
  abbrev pub cut_cast : Option (List Edit)
  cut_cast = on_one (λ p. when (named (codes "arith.trunci") p.name)
      (given (source_among t resizing p.first) (λ y. given (one y) (λ q.
      if named (codes "arith.trunci") q.name then Some (recast p q)
      else when (is_of_type t p.ty q.first) (Some (give x q.first))))))

  -- cast p of cast q, back to the source type of q, becomes the source
  abbrev pub back_from : One → One → Option (List Edit)
  back_from p q = when (is_of_type t p.ty q.first) (Some (give x q.first))

  -- an unrealized cast to its operand's type becomes the operand; such a cast of a cast, back to the source type,
  -- becomes the source (`UnrealizedConversionCastOp::fold`)
  abbrev pub unrealized : One → Option (List Edit)
  unrealized p =
      if is_of_type t p.ty p.first then Some (give x p.first)
      else given (source t p.name p.first) (λ y. given (one y) (back_from p))

  -- a cast between an integer and index, and back, if the type in the middle has at least as many bits
  -- (`IndexCastOfIndexCast`, `IndexCastUIOfIndexCastUI`)
  abbrev pub through_index : One → Option (List Edit)
  through_index p = given (source t p.name p.first)
      (λ y. given (one y) (λ q. when (nat_le (type_width p.ty) (type_width q.ty)) (back_from p q)))

  -- `cast-back` for unrealized casts only
  abbrev pub cast_back_unrealized : Option (List Edit)
  cast_back_unrealized = on_one (λ p. when (named (codes "builtin.unrealized_conversion_cast") p.name) (unrealized p))

  -- `cast-back`: a cast back to the original type
  abbrev pub cast_back : Option (List Edit)
  cast_back = on_one (λ p.
      if named (codes "builtin.unrealized_conversion_cast") p.name then unrealized p
      else when (among index_casts p.name) (through_index p))
