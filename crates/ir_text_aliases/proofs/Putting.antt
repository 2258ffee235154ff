-- The result of a step.
use Rattle.std.proofs.Common.{◌≡◌, ℕ, ◌+◌, ◌-◌, List, [], ◌∷◌, ◌++◌, length, take, drop, Some, None, refl, sym, ap, ◌∙◌}
use Rattle.std.specs.Prelude.{option_map, Ok}
use Rattle.std.specs.Result.{result_err}
use Rattle.std.proofs.lemmas.List.{append-nil, length-append}
use Rattle.ir_text_tokens.specs.declared.refusal.TextRefusal.{TextRefusal}
use Rattle.ir_text_tokens.specs.declared.fault.Fault.{Fault}
use Rattle.ir_text_tokens.specs.Tokens.{suffix_len}
use Rattle.ir_text_tokens.proofs.KeptBodies.{name_within}
use Rattle.ir_text_aliases.specs.declared.scan_state.Bracket.{Bracket}
use Rattle.ir_text_aliases.specs.declared.scan_state.ScanState.{ScanState}
use Rattle.ir_text_aliases.specs.declared.mark.Mark.{Mark}
use Rattle.ir_text_aliases.specs.declared.part.TextPart.{TextPart}
use Rattle.ir_text_aliases.specs.Scanned.{trailing_alias, after_place, next_scanned, outer_after}
use Rattle.ir_text_aliases.specs.Lexemes.{name_of, lexeme_len}
use Rattle.ir_text_aliases.specs.Places.{trailing_loc, located, place_len}
use Rattle.ir_text_aliases.specs.Uses.{Aliases, spelling, use_fault, value_of}
use Rattle.ir_text_aliases.specs.Walk.{alias_move, fault_at, lexeme_move, place_move}
use Rattle.ir_text_aliases.specs.Steps.{Moved}
use Rattle.ir_text_aliases.proofs.Parted.{scanned_is, lexeme_within}
use Rattle.ir_text_aliases.proofs.Tails.{is_drop, place_tail}

name_is : (c : ℕ) (all tail rest : List ℕ) → all ≡ c ∷ tail → rest ≡ drop (suffix_len tail) tail → take (length all - length rest) all ≡ name_of c tail
name_is c all tail rest a r = scanned_is c (suffix_len tail) all tail rest a (name_within tail) r

-- ---- a location

pub place_moved : (f scanned : ScanState) (outer : List Bracket) (c : ℕ) (all tail rest trailing out : List ℕ) (marks more : List Mark) (len : ℕ) → all ≡ c ∷ tail → Ok rest ≡ located trailing → trailing ≡ trailing_loc tail
    → more ≡ marks ++ record { scanned = len; past = len; left = length all } ∷ [] → len ≡ length out → scanned ≡ after_place f
    → Moved (place_move f outer (length out) c tail) scanned outer tail rest out out marks more
place_moved f scanned outer c all tail rest trailing out marks more len a e b m is_len g =
    let k : located (trailing_loc tail) ≡ Ok rest = ap located (sym b) ∙ sym e in (
      ap result_err k,
      g,
      refl,
      is_drop tail rest (place_tail tail rest k) ∙ ap (λ x. drop (place_len x tail) tail) (sym k),
      sym (append-nil out),
      m ∙ (λ i. marks ++ record { scanned = is_len i; past = is_len i; left = ap length a i } ∷ []),
    )

-- ---- an alias

pub alias_stuck : (p : TextPart) (values : List ℕ) (env : Aliases) (f : ScanState) (c : ℕ) (all tail rest out : List ℕ) (before : ℕ) (x : TextRefusal) (fault : Fault) → all ≡ c ∷ tail → rest ≡ drop (suffix_len tail) tail
    → use_fault f (value_of values env f (take (length all - length rest) all)) (p.before + before) ≡ Some x → before ≡ length out → fault.refusal ≡ x → fault.left ≡ length all
    → option_map (fault_at (c ∷ tail)) (use_fault f (value_of values env f (name_of c tail)) (p.before + length out)) ≡ Some fault
alias_stuck p values env f c all tail rest out before x fault a r k is_len h l =
    (λ i. option_map (fault_at (c ∷ tail)) (use_fault f (value_of values env f (sym (name_is c all tail rest a r) i)) (p.before + sym is_len i)))
    ∙ ap (option_map (fault_at (c ∷ tail))) k
    ∙ (λ i. Some (record { refusal = sym h i; left = (ap length (sym a) ∙ sym l) i }))

pub alias_moved : (p : TextPart) (values : List ℕ) (env : Aliases) (f scanned : ScanState) (outer : List Bracket) (c : ℕ) (all tail rest out new v : List ℕ) (marks more : List Mark) (before past : ℕ) → all ≡ c ∷ tail → rest ≡ drop (suffix_len tail) tail
    → value_of values env f (take (length all - length rest) all) ≡ Some v → use_fault f (Some v) (p.before + before) ≡ None → new ≡ out ++ spelling f (Some v)
    → more ≡ marks ++ record { scanned = before; past = past; left = length all } ∷ [] → before ≡ length out → past ≡ length new → scanned ≡ trailing_alias f
    → Moved (alias_move p (value_of values env f (name_of c tail)) f outer (length out) c tail) scanned outer tail rest out new marks more
alias_moved p values env f scanned outer c all tail rest out new v marks more before past a r e n w m is_before is_past g =
    let value : value_of values env f (name_of c tail) ≡ Some v = ap (value_of values env f) (sym (name_is c all tail rest a r)) ∙ e in
    let len : past ≡ length out + length (spelling f (Some v)) = is_past ∙ ap length w ∙ length-append out (spelling f (Some v)) in (
      (λ i. option_map (fault_at (c ∷ tail)) (use_fault f (value i) (p.before + sym is_before i))) ∙ ap (option_map (fault_at (c ∷ tail))) n,
      g,
      refl,
      r,
      w ∙ ap (λ x. out ++ spelling f x) (sym value),
      m ∙ (λ i. marks ++ record { scanned = is_before i; past = len i; left = ap length a i } ∷ []) ∙ ap (λ x. marks ++ record { scanned = length out; past = length out + length (spelling f x); left = length (c ∷ tail) } ∷ []) (sym value),
    )

-- ---- any other lexeme

pub lexeme_moved : (f scanned : ScanState) (outer after : List Bracket) (c : ℕ) (all tail rest out new : List ℕ) (marks : List Mark) → all ≡ c ∷ tail → rest ≡ drop (lexeme_len c tail) tail → new ≡ out ++ take (length all - length rest) all
    → scanned ≡ next_scanned f outer c tail → after ≡ outer_after f outer c
    → Moved (lexeme_move f outer c tail) scanned after tail rest out new marks marks
lexeme_moved f scanned outer after c all tail rest out new marks a r w g o =
    (refl, g, o, r, w ∙ ap (λ l. out ++ l) (scanned_is c (lexeme_len c tail) all tail rest a (lexeme_within c tail) r), sym (append-nil marks))
