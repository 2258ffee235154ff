-- Insertion points: PLACE is `before #N`, `after #N`, `start #N R` or `end #N R`.
use Rattle.std.specs.Prelude.{ℕ, List, Option, Some, None, if◌then◌else◌, codes}
use Rattle.std.specs.Option.{option_map}
use Rattle.std.specs.Str.{bytes_eq}
use Rattle.rewriter_machine.specs.Points as points
use Rattle.mlir_work_script_base.specs.declared.insertion_points.InsertionPoint.{InsertionPoint}
use Rattle.mlir_work_script_base.specs.declared.insertion_points.InsertionPoint.TheVariants as code
use Rattle.mlir_work_script_base.specs.Numbers.{number_of}
use Rattle.mlir_work_script_base.specs.Values.{op_of}
use Rattle.mlir_work_script_base.specs.Words.{word_of, after_word}

abbrev pub insertion_point_of : InsertionPoint → points.Point
insertion_point_of (code.Before op) = points.Before op
insertion_point_of (code.After op) = points.After op
insertion_point_of (code.Start op region) = points.Start op region
insertion_point_of (code.End op region) = points.End op region

-- an insertion point next to an operation, and the rest of the text
abbrev pub next_to_in : (ℕ → points.Point) → List ℕ → Option (points.Point × List ℕ)
next_to_in make text = option_map (λ op. (make op, after_word text)) (op_of (word_of text))

abbrev pub inside_from : (ℕ → ℕ → points.Point) → Option ℕ → Option ℕ → List ℕ → Option (points.Point × List ℕ)
inside_from make (Some op) (Some region) rest = Some (make op region, rest)
inside_from make (Some op) None rest = None
inside_from make None region rest = None

-- an insertion point in a block of an operation, and the rest of the text
abbrev pub inside_in : (ℕ → ℕ → points.Point) → List ℕ → Option (points.Point × List ℕ)
inside_in make text =
    inside_from make (op_of (word_of text)) (number_of (word_of (after_word text))) (after_word (after_word text))

-- the insertion point with this first word
abbrev pub point_named : List ℕ → List ℕ → Option (points.Point × List ℕ)
point_named name rest =
    if bytes_eq name (codes "before") then next_to_in points.Before rest
    else if bytes_eq name (codes "after") then next_to_in points.After rest
    else if bytes_eq name (codes "start") then inside_in points.Start rest
    else if bytes_eq name (codes "end") then inside_in points.End rest
    else None

-- the insertion point at the start of a text, and the rest of the text
abbrev pub point_in : List ℕ → Option (points.Point × List ℕ)
point_in text = point_named (word_of text) (after_word text)
