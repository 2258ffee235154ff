-- Which move is made, and the result of a walk after the move.
use Rattle.std.proofs.Common.{◌≡◌, ℕ, zero, suc, ◌<◌, ◌≤◌, Bool, true, false, cond, List, [], ◌∷◌, ◌++◌, length, drop, Option, Some, None, refl, sym, ap, ◌∙◌, arith}
use Rattle.std.specs.Prelude.{◌&&◌, option_map, Result, Ok, Err}
use Rattle.std.specs.Borrow.{Bor}
use Rattle.std.proofs.lemmas.List.{length-drop}
use Rattle.ir_text_tokens.specs.declared.fault.Fault.{Fault}
use Rattle.ir_text_tokens.specs.Tokens.{suffix_len}
use Rattle.ir_text_tokens.specs.Bodies.{is_alias}
use Rattle.ir_text_tokens.proofs.KeptBodies.{name_within}
use Rattle.ir_text_aliases.specs.declared.scan_state.Bracket.{Bracket}
use Rattle.ir_text_aliases.specs.declared.scan_state.ScanState.{ScanState}
use Rattle.ir_text_aliases.specs.declared.mark.Mark.{Mark}
use Rattle.ir_text_aliases.specs.declared.part.TextPart.{TextPart}
use Rattle.ir_text_aliases.specs.Lexemes.{name_of}
use Rattle.ir_text_aliases.specs.Places.{trailing_loc, goes, located, place_len}
use Rattle.ir_text_aliases.specs.Uses.{Aliases, value_of}
use Rattle.ir_text_aliases.specs.Walk.{Move, alias_move, move, lexeme_move, place_move, stops, unless, walk, walked}
use Rattle.ir_text_aliases.specs.Steps.{Moved, Stuck}
use Rattle.ir_text_aliases.proofs.Parted.{lexeme_within}

-- ---- which move

none_is : (t : Bool) (l : List ℕ) (o : Option (Bor (List ℕ))) → option_map (λ r. r.now) o ≡ cond t (Some l) None → o ≡ None → t ≡ false
none_is false l o e n = refl
none_is true l None e n = absurd cc
none_is true l (Some r) e n = absurd cc

some_is : (t : Bool) (l : List ℕ) (o : Option (Bor (List ℕ))) (r : Bor (List ℕ)) → option_map (λ r. r.now) o ≡ cond t (Some l) None → o ≡ Some r → t ≡ true
some_is true l o r e n = refl
some_is false l None r e n = absurd cc
some_is false l (Some x) r e n = absurd cc

module _ (p : TextPart) (values : List ℕ) (env : Aliases) where
  pub as_lexeme : (f : ScanState) (outer : List Bracket) (len c : ℕ) (cs : List ℕ) (o : Option (Bor (List ℕ))) → goes f c cs ≡ false → option_map (λ r. r.now) o ≡ cond (p.reads && is_alias c cs) (Some (drop (suffix_len cs) cs)) None → o ≡ None
      → move p values env f outer len c cs ≡ lexeme_move f outer c cs
  as_lexeme f outer len c cs o g e n = rw (g, none_is (p.reads && is_alias c cs) (drop (suffix_len cs) cs) o e n) refl

  pub as_alias : (f : ScanState) (outer : List Bracket) (len c : ℕ) (cs : List ℕ) (o : Option (Bor (List ℕ))) (r : Bor (List ℕ)) → goes f c cs ≡ false → option_map (λ r. r.now) o ≡ cond (p.reads && is_alias c cs) (Some (drop (suffix_len cs) cs)) None → o ≡ Some r
      → move p values env f outer len c cs ≡ alias_move p (value_of values env f (name_of c cs)) f outer len c cs
  as_alias f outer len c cs o r g e n = rw (g, some_is (p.reads && is_alias c cs) (drop (suffix_len cs) cs) o r e n) refl

  -- ---- one step of a walk

  aborted : (f : ScanState) (outer : List Bracket) (c : ℕ) (cs out : List ℕ) (marks : List Mark) → stops p f c cs ≡ true → walk p values env f outer 0 (c ∷ cs) out marks ≡ walked out marks (c ∷ cs) None
  unfolding walk
  aborted f outer c cs out marks e = rw e refl

  extra : (f : ScanState) (outer : List Bracket) (c : ℕ) (cs out : List ℕ) (marks : List Mark) (m : Move) → stops p f c cs ≡ false → move p values env f outer (length out) c cs ≡ m
      → walk p values env f outer 0 (c ∷ cs) out marks ≡ unless m.fault (c ∷ cs) out marks (walk p values env m.scanned m.outer m.len cs (out ++ m.put) (marks ++ m.marks))
  unfolding walk
  extra f outer c cs out marks m e k = rw e (ap (λ m. unless m.fault (c ∷ cs) out marks (walk p values env m.scanned m.outer m.len cs (out ++ m.put) (marks ++ m.marks))) k)

  passed : (f : ScanState) (outer : List Bracket) (n : ℕ) (cs out : List ℕ) (marks : List Mark) → n ≤ length cs → walk p values env f outer n cs out marks ≡ walk p values env f outer 0 (drop n cs) out marks
  unfolding walk
  passed f outer zero cs out marks le = refl
  passed f outer (suc n) [] out marks le = absurd (omega (arith, le))
  passed f outer (suc n) (c ∷ cs) out marks le = passed f outer n cs out marks (omega (arith, le))

  place_within : (x : Result (List ℕ) Fault) (cs : List ℕ) → place_len x cs ≤ length cs
  place_within (Ok rest) cs = omega arith
  place_within (Err fault) cs = omega arith

  move_within : (f : ScanState) (outer : List Bracket) (len c : ℕ) (cs : List ℕ) → (move p values env f outer len c cs).len ≤ length cs
  move_within f outer len c cs = from (goes f c cs) (p.reads && is_alias c cs)
    where
      from : (t u : Bool) → (cond t (place_move f outer len c cs) (cond u (alias_move p (value_of values env f (name_of c cs)) f outer len c cs) (lexeme_move f outer c cs))).len ≤ length cs
      from true u = place_within (located (trailing_loc cs)) cs
      from false true = name_within cs
      from false false = lexeme_within c cs

  pub stops_here : (f : ScanState) (outer : List Bracket) (c : ℕ) (all tail out : List ℕ) (marks : List Mark) → all ≡ c ∷ tail → stops p f c tail ≡ true → walk p values env f outer 0 all out marks ≡ walked out marks all None
  stops_here f outer c all tail out marks a e = ap (λ l. walk p values env f outer 0 l out marks) a ∙ aborted f outer c tail out marks e ∙ ap (λ l. walked out marks l None) (sym a)

  pub goes_on : (f scanned : ScanState) (outer after : List Bracket) (c : ℕ) (all tail rest out new : List ℕ) (marks more : List Mark) → all ≡ c ∷ tail → stops p f c tail ≡ false
      → Moved (move p values env f outer (length out) c tail) scanned after tail rest out new marks more → walk p values env f outer 0 all out marks ≡ walk p values env scanned after 0 rest new more
  goes_on f scanned outer after c all tail rest out new marks more a e h =
      let m = move p values env f outer (length out) c tail in
      ap (λ l. walk p values env f outer 0 l out marks) a ∙ extra f outer c tail out marks m e refl
      ∙ ap (λ x. unless x (c ∷ tail) out marks (walk p values env m.scanned m.outer m.len tail (out ++ m.put) (marks ++ m.marks))) h.0
      ∙ passed m.scanned m.outer m.len tail (out ++ m.put) (marks ++ m.marks) (move_within f outer (length out) c tail)
      ∙ (λ i. walk p values env (sym h.1 i) (sym h.2 i) 0 (sym h.3 i) (sym h.4 i) (sym h.5 i))

  pub stuck_here : (f : ScanState) (outer : List Bracket) (c : ℕ) (all tail out new : List ℕ) (marks more : List Mark) (fault : Fault) → all ≡ c ∷ tail → stops p f c tail ≡ false
      → Stuck (move p values env f outer (length out) c tail) fault out new marks more → walk p values env f outer 0 all out marks ≡ walked new more all (Some fault)
  stuck_here f outer c all tail out new marks more fault a e h =
      let m = move p values env f outer (length out) c tail in
      ap (λ l. walk p values env f outer 0 l out marks) a ∙ extra f outer c tail out marks m e refl
      ∙ ap (λ x. unless x (c ∷ tail) out marks (walk p values env m.scanned m.outer m.len tail (out ++ m.put) (marks ++ m.marks))) h.0
      ∙ (λ i. walked (sym h.1 i) (sym h.2 i) (sym a i) (Some fault))

  pub all_read : (f : ScanState) (outer : List Bracket) (rest out : List ℕ) (marks : List Mark) → length rest < 1 → walk p values env f outer 0 rest out marks ≡ walked out marks rest None
  unfolding walk
  all_read f outer [] out marks lt = refl
  all_read f outer (c ∷ cs) out marks lt = absurd (omega (arith, lt))

  pub moved_shorter : (f scanned : ScanState) (outer after : List Bracket) (len c : ℕ) (tail rest out new : List ℕ) (marks more : List Mark)
      → Moved (move p values env f outer len c tail) scanned after tail rest out new marks more → length rest ≤ length tail
  moved_shorter f scanned outer after len c tail rest out new marks more h = omega (arith, ap length h.3, length-drop (move p values env f outer len c tail).len tail)
