-- The words of the kinds of analyses.
use Rattle.std.specs.Prelude.{ℕ, List, [], ◌∷◌, ◌++◌, ◌==◌, ◌&&◌, not, Option, Some, None, if◌then◌else◌, codes, drop, nat_lt}
use Rattle.std.specs.Prelude.{nat_eq}
use Rattle.std.specs.Fmt.{decimal}
use Rattle.std.specs.List.{starts_with}
use Rattle.std.specs.Option.{is_some}
use Rattle.std.specs.Str.{bytes_eq}
use Rattle.mlir_work_script_base.specs.Numbers.{number_of}

-- the kinds of the program's analyses in order
abbrev pub all_kinds : List ℕ
all_kinds = 1 ∷ 2 ∷ 3 ∷ 4 ∷ 5 ∷ 6 ∷ 7 ∷ []

-- the name of a kind, if it has one
abbrev pub kind_name : ℕ → Option (List ℕ)
kind_name n =
    if n == 1 then Some (codes "uses")
    else if n == 2 then Some (codes "symbols")
    else if n == 3 then Some (codes "diagnostics")
    else if n == 4 then Some (codes "effects")
    else if n == 5 then Some (codes "dead")
    else if n == 6 then Some (codes "constants")
    else if n == 7 then Some (codes "unreached")
    else None

abbrev pub named_or_numbered : Option (List ℕ) → ℕ → List ℕ
named_or_numbered (Some name) n = name
named_or_numbered None n = codes "kind" ++ decimal n

-- the word of a kind: its name, or `kind` with its number
abbrev pub kind_word : ℕ → List ℕ
kind_word n = named_or_numbered (kind_name n) n

-- the kind with this number, if it has no name and the digits are the printed form of the number
abbrev pub numbered_from : Option ℕ → List ℕ → Option ℕ
numbered_from None digits = None
numbered_from (Some n) digits =
    if nat_lt n 256 && (not (is_some (kind_name n)) && bytes_eq digits (decimal n)) then Some n else None

-- the kind whose word is `kind` with its number
abbrev pub numbered_kind : List ℕ → Option ℕ
numbered_kind word =
    if starts_with nat_eq word (codes "kind") then numbered_from (number_of (drop 4 word)) (drop 4 word) else None

-- the kind, from 0 to 255, with this word
abbrev pub kind_of : List ℕ → Option ℕ
kind_of word =
    if bytes_eq word (codes "uses") then Some 1
    else if bytes_eq word (codes "symbols") then Some 2
    else if bytes_eq word (codes "diagnostics") then Some 3
    else if bytes_eq word (codes "effects") then Some 4
    else if bytes_eq word (codes "dead") then Some 5
    else if bytes_eq word (codes "constants") then Some 6
    else if bytes_eq word (codes "unreached") then Some 7
    else numbered_kind word
