-- Proofs about the listed analyses.
use Rattle.std.proofs.Common.{◌≡◌, ◌≤◌, ℕ, ◌-◌, List, [], ◌∷◌, ◌++◌, Bool, true, false, Option, Some, None, refl, ap, sym, subst, ◌∙◌, map, if◌then◌else◌, get_or, take, drop, length, append_assoc, arith}
use Rattle.std.specs.Prelude.{filter, is_some}
use Rattle.std.specs.List.{list_all}
use Rattle.std.proofs.lemmas.Bool.{and_parts}
use Rattle.std.proofs.lemmas.List.{map-append, take_all}
use Rattle.mlir_work_script_base.specs.Kinds.{all_kinds}
use Rattle.rewriter_machine.specs.Panels.{Shown}
use Rattle.mlir_work_analyses.specs.Listeners.{is_listed, seven_supply, shown_if}

-- each of these kinds has an analysis
abbrev pub are_supplied : Bool → List ℕ → Bool
are_supplied opaque rest = list_all (λ k. is_some (seven_supply opaque k)) rest

-- the analyses so far, followed by the listed ones of the remaining kinds, are the listed ones of all
abbrev pub AreSoFar : Bool → List ℕ → List ℕ → List Shown → Type 0
AreSoFar opaque listed rest all =
    (map Some all ++ map (seven_supply opaque) (filter (is_listed listed) rest) ≡ map (seven_supply opaque) (filter (is_listed listed) all_kinds))
    × (are_supplied opaque rest ≡ true)

one : (t : Bool) (k : ℕ) (f : ℕ → Option Shown) (rest : List ℕ) (found : Option Shown) → f k ≡ found → is_some found ≡ true
    → map Some (shown_if t found) ++ map f rest ≡ map f (if t then k ∷ rest else rest)
one true k f rest (Some new) e some = ap (λ x. x ∷ map f rest) (sym e)
one true k f rest None e some = absurd cc
one false k f rest (Some new) e some = refl
one false k f rest None e some = refl

one_more : (opaque : Bool) (listed : List ℕ) (k : ℕ) (rest : List ℕ) (old new : List Shown) (whole : List (Option Shown))
    → is_some (seven_supply opaque k) ≡ true → new ≡ old ++ shown_if (is_listed listed k) (seven_supply opaque k)
    → map Some old ++ map (seven_supply opaque) (filter (is_listed listed) (k ∷ rest)) ≡ whole
    → map Some new ++ map (seven_supply opaque) (filter (is_listed listed) rest) ≡ whole
one_more opaque listed k rest old new whole some added so_far =
    let supply = seven_supply opaque in
    let left = filter (is_listed listed) rest in
    let more = shown_if (is_listed listed k) (supply k) in
    ap (λ xs. map Some xs ++ map supply left) added
    ∙ ap (λ xs. xs ++ map supply left) (map-append Some old more)
    ∙ append_assoc (map Some old) (map Some more) (map supply left)
    ∙ ap (λ xs. map Some old ++ xs) (one (is_listed listed k) k supply left (supply k) refl some)
    ∙ so_far

-- the analysis of the next kind was added, if the kind is listed
pub next_kind : (opaque : Bool) (listed rest : List ℕ) (k : ℕ) (old new : List Shown) → 1 ≤ length rest → k ≡ get_or rest 0 k
    → AreSoFar opaque listed rest old → new ≡ old ++ shown_if (is_listed listed k) (seven_supply opaque k)
    → AreSoFar opaque listed (take (length rest - 1) (drop 1 rest)) new
next_kind opaque listed [] k old new l is so_far added = absurd (omega (arith, l))
next_kind opaque listed (x ∷ xs) k old new l is so_far added =
    let all : take (length (x ∷ xs) - 1) xs ≡ xs = take_all (length (x ∷ xs) - 1) xs (omega arith) in
    let both = and_parts (is_some (seven_supply opaque x)) (are_supplied opaque xs) so_far.1 in
    let here : new ≡ old ++ shown_if (is_listed listed x) (seven_supply opaque x) =
    subst (λ (n : ℕ). new ≡ old ++ shown_if (is_listed listed n) (seven_supply opaque n)) is added in
    subst (λ (ys : List ℕ). AreSoFar opaque listed ys new) (sym all) (one_more opaque listed x xs old new _ both.0 here so_far.0, both.1)
