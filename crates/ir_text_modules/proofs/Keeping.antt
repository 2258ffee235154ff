-- A byte of an expansion outside all replacements equals the byte of the text at its origin.
use Rattle.std.proofs.Common.{◌≡◌, ℕ, zero, suc, ◌+◌, ◌-◌, ◌<◌, ◌≤◌, Bool, true, false, cond, List, [], ◌∷◌, ◌++◌, length, get_or, take, drop, Option, Some, None, refl, sym, ap, ◌∙◌, subst, append_assoc, arith}
use Rattle.std.specs.Prelude.{◌&&◌, not, nat_lt, ⊤, Ok, Err}
use Rattle.std.specs.Result.{result_err}
use Rattle.std.proofs.Math.ListN.{get_or-append}
use Rattle.std.proofs.Math.Seq.{drop-nil}
use Rattle.std.proofs.lemmas.Bool.{le-ltb, lt-ltb, ltb-false, ltb-true, or_parts}
use Rattle.std.proofs.lemmas.List.{append-nil, get_or-append-add, get_or-append_right, get_or-take, length-append, length-drop, length-take-le}
use Rattle.ir_text_tokens.specs.declared.fault.Fault.{Fault}
use Rattle.ir_text_tokens.specs.Bodies.{is_alias}
use Rattle.ir_text_aliases.specs.declared.scan_state.Bracket.{Bracket}
use Rattle.ir_text_aliases.specs.declared.scan_state.ScanState.{ScanState}
use Rattle.ir_text_aliases.specs.declared.scan_state.BracketContents.TheVariants.{Operations}
use Rattle.ir_text_aliases.specs.declared.mark.Mark.{Mark}
use Rattle.ir_text_aliases.specs.declared.part.TextPart.{TextPart}
use Rattle.ir_text_aliases.specs.Scanned.{at_first}
use Rattle.ir_text_aliases.specs.Lexemes.{is_gap, name_of, lexeme_len}
use Rattle.ir_text_aliases.specs.Places.{goes}
use Rattle.ir_text_aliases.specs.Uses.{Aliases, spelling, value_of}
use Rattle.ir_text_aliases.specs.Values.{definition_at, is_defined}
use Rattle.ir_text_aliases.specs.Walk.{Move, Walked, alias_move, move, lexeme_move, place_move, stops, unless, walk, walk_text, walked}
use Rattle.ir_text_aliases.proofs.Parted.{lexeme_within}
use Rattle.ir_text_aliases.proofs.Tails.{IsTail, dropped, longer, same, within}
use Rattle.ir_text_modules.specs.Definitions.{Defined, Value, defined, definitions, more_aliases, more_values, rest_of, value_here, value_in, value_of_name}
use Rattle.ir_text_modules.specs.Definitions as definitions
use Rattle.ir_text_modules.specs.Expanded.{trailing, end_of, expanded, operations_part, place_in}
use Rattle.ir_text_modules.specs.Marks.{carried, is_rendered}
use Rattle.ir_text_modules.proofs.Parts.{definition_tail, named_tail}

-- ---- marks

-- the marks end before the byte
abbrev AllIn : List Mark → ℕ → Type 0
AllIn [] n = ⊤
AllIn (m ∷ ms) n = (m.scanned ≤ n) × (m.past ≤ n) × AllIn ms n

grown : (ms : List Mark) (n k : ℕ) → n ≤ k → AllIn ms n → AllIn ms k
grown [] n k le h = h
grown (m ∷ ms) n k le h = (omega (arith, h.0, le), omega (arith, h.1, le), grown ms n k le h.2)

one_more : (ms : List Mark) (m : Mark) (n : ℕ) → AllIn ms n → m.scanned ≤ n → m.past ≤ n → AllIn (ms ++ m ∷ []) n
one_more [] m n h f p = (f, p, h)
one_more (x ∷ ms) m n h f p = (h.0, h.1, one_more ms m n h.2 f p)

unspelled : (ms : List Mark) (m : Mark) (at : ℕ) → is_rendered (ms ++ m ∷ []) at ≡ false → (is_rendered ms at ≡ false) × ((not (nat_lt at m.scanned) && nat_lt at m.past) ≡ false)
unfolding is_rendered
unspelled [] m at e = (refl, (or_parts (not (nat_lt at m.scanned) && nat_lt at m.past) false e).0)
unspelled (x ∷ ms) m at e =
    let h = or_parts (not (nat_lt at x.scanned) && nat_lt at x.past) (is_rendered (ms ++ m ∷ []) at) e in
    let k = unspelled ms m at h.1 in
    (rw h.0 k.0, k.1)

-- the origin of a byte before a mark depends only on the mark's origin
same_mark : (len : ℕ) (ms : List Mark) (m k : Mark) (more : List Mark) (e at : ℕ) → at < m.scanned → at < k.scanned → (len - m.left) - (m.scanned - at) ≡ (len - k.left) - (k.scanned - at)
    → carried len (ms ++ m ∷ more) e at ≡ carried len (ms ++ k ∷ []) e at
unfolding carried
same_mark len [] m k more e at f g h = rw (lt-ltb at m.scanned f, lt-ltb at k.scanned g) h
same_mark len (x ∷ ms) m k more e at f g h =
    ap (λ r. cond (nat_lt at x.scanned) ((len - x.left) - (x.scanned - at)) (cond (nat_lt at x.past) (len - x.left) r)) (same_mark len ms m k more e at f g h)

-- the origin of a byte between the last mark and the marks before it
last_mark : (len : ℕ) (ms : List Mark) (m : Mark) (e at : ℕ) → AllIn ms at → at < m.scanned → carried len (ms ++ m ∷ []) e at ≡ (len - m.left) - (m.scanned - at)
unfolding carried
last_mark len [] m e at h f = rw (lt-ltb at m.scanned f) refl
last_mark len (x ∷ ms) m e at h f = rw (le-ltb at x.scanned h.0, le-ltb at x.past h.1) (last_mark len ms m e at h.2 f)

shifted : (len left f n at : ℕ) → at < f → n ≤ left → left ≤ len → (len - (left - n)) - ((f + n) - at) ≡ (len - left) - (f - at)
shifted len left f n at lt le ll = omega (arith, lt, le, ll)

-- ---- the output

abbrev end_mark : List ℕ → List ℕ → Mark
end_mark out rest = record { scanned = length out; past = length out; left = length rest }

module _ (bytes : List ℕ) where
  abbrev Comes : List ℕ → List Mark → List ℕ → Type 0
  Comes out marks rest =
      (e at : ℕ) → at < length out → is_rendered marks at ≡ false → get_or out at 0 ≡ get_or bytes (carried (length bytes) (marks ++ end_mark out rest ∷ []) e at) 0

  abbrev Kept : List ℕ → List Mark → List ℕ → Type 0
  Kept out marks rest = IsTail bytes rest × AllIn marks (length out) × Comes out marks rest

  place_kept : (out rest trailing : List ℕ) (marks : List Mark) → IsTail rest trailing → Kept out marks rest → Kept out (marks ++ end_mark out rest ∷ []) trailing
  place_kept out rest trailing marks t h =
      let le : length out ≤ length out = omega arith in
      (within bytes rest trailing h.0 t, one_more marks (end_mark out rest) (length out) h.1 le le, comes)
    where
      comes : Comes out (marks ++ end_mark out rest ∷ []) trailing
      comes e at lt s =
          h.2 e at lt (unspelled marks (end_mark out rest) at s).0
          ∙ ap (λ n. get_or bytes n 0) (sym (ap (λ l. carried (length bytes) l e at) (append_assoc marks (end_mark out rest ∷ []) (end_mark out trailing ∷ [])) ∙ same_mark (length bytes) marks (end_mark out rest) (end_mark out rest) (end_mark out trailing ∷ []) e at lt lt refl))

  alias_kept : (out put rest trailing : List ℕ) (marks : List Mark) → IsTail rest trailing → Kept out marks rest
      → Kept (out ++ put) (marks ++ record { scanned = length out; past = length out + length put; left = length rest } ∷ []) trailing
  alias_kept out put rest trailing marks t h =
      let le : length out ≤ length (out ++ put) = omega (arith, length-append out put) in
      let past : length out + length put ≤ length (out ++ put) = omega (arith, length-append out put) in
      (within bytes rest trailing h.0 t, one_more marks m (length (out ++ put)) (grown marks (length out) (length (out ++ put)) le h.1) le past, comes)
    where
      m : Mark
      m = record { scanned = length out; past = length out + length put; left = length rest }

      scanned : (e at : ℕ) → at < length out → is_rendered marks at ≡ false → get_or (out ++ put) at 0 ≡ get_or bytes (carried (length bytes) ((marks ++ m ∷ []) ++ end_mark (out ++ put) trailing ∷ []) e at) 0
      scanned e at lt s =
          get_or-append out put 0 at lt ∙ h.2 e at lt s
          ∙ ap (λ n. get_or bytes n 0) (sym (ap (λ l. carried (length bytes) l e at) (append_assoc marks (m ∷ []) (end_mark (out ++ put) trailing ∷ [])) ∙ same_mark (length bytes) marks m (end_mark out rest) (end_mark (out ++ put) trailing ∷ []) e at lt lt refl))

      comes : Comes (out ++ put) (marks ++ m ∷ []) trailing
      comes e at lt s = from (nat_lt at (length out)) refl (unspelled marks m at s)
        where
          from : (b : Bool) → nat_lt at (length out) ≡ b → (is_rendered marks at ≡ false) × ((not (nat_lt at (length out)) && nat_lt at (length out + length put)) ≡ false)
              → get_or (out ++ put) at 0 ≡ get_or bytes (carried (length bytes) ((marks ++ m ∷ []) ++ end_mark (out ++ put) trailing ∷ []) e at) 0
          from true b s = scanned e at (ltb-true at (length out) b) s.0
          from false b s =
              let inside : nat_lt at (length out + length put) ≡ true = lt-ltb at (length out + length put) (omega (arith, lt, length-append out put)) in
              let no : true ≡ false = sym (rw (b, inside) refl) ∙ s.1 in
              absurd (cc)

  -- the position of the walk: the text read so far, and the rest
  at_rest : (w rest : List ℕ) → bytes ≡ w ++ rest → length bytes ≡ length w + length rest
  at_rest w rest e = ap length e ∙ length-append w rest

  lexeme_kept : (out rest : List ℕ) (n : ℕ) (marks : List Mark) → n ≤ length rest → Kept out marks rest → Kept (out ++ take n rest) marks (drop n rest)
  lexeme_kept out rest n marks le h =
      (within bytes rest (drop n rest) h.0 (dropped n rest), grown marks (length out) (length (out ++ take n rest)) (omega (arith, length-append out (take n rest))) h.1, comes)
    where
      w : List ℕ
      w = h.0.0

      new : Mark
      new = end_mark (out ++ take n rest) (drop n rest)

      total : length bytes ≡ length w + length rest
      total = at_rest w rest h.0.1

      size : length (out ++ take n rest) ≡ length out + n
      size = omega (arith, length-append out (take n rest), length-take-le n rest le)

      scanned : (e at : ℕ) → at < length out → is_rendered marks at ≡ false → get_or (out ++ take n rest) at 0 ≡ get_or bytes (carried (length bytes) (marks ++ new ∷ []) e at) 0
      scanned e at lt s =
          let wide : at < length (out ++ take n rest) = omega (arith, lt, size) in
          let place : (length bytes - length (drop n rest)) - (length (out ++ take n rest) - at) ≡ (length bytes - length rest) - (length out - at) = omega (arith, lt, size, total, le, length-drop n rest) in
          get_or-append out (take n rest) 0 at lt ∙ h.2 e at lt s
          ∙ ap (λ n. get_or bytes n 0) (sym (same_mark (length bytes) marks new (end_mark out rest) [] e at wide lt place))

      back : (e at : ℕ) → at < length (out ++ take n rest) → length out ≤ at → get_or (out ++ take n rest) at 0 ≡ get_or bytes (carried (length bytes) (marks ++ new ∷ []) e at) 0
      back e at lt ge =
          let j = at - length out in
          let few : j < n = omega (arith, lt, ge, size) in
          let place : carried (length bytes) (marks ++ new ∷ []) e at ≡ length w + j =
          last_mark (length bytes) marks new e at (grown marks (length out) at ge h.1) lt ∙ omega (arith, lt, ge, size, total, le, length-drop n rest) in
          get_or-append_right out (take n rest) (length out) at 0 refl ge ∙ get_or-take n rest j 0 few
          ∙ sym (ap (λ l. get_or l (length w + j) 0) h.0.1 ∙ get_or-append-add w rest j 0)
          ∙ ap (λ n. get_or bytes n 0) (sym place)

      comes : Comes (out ++ take n rest) marks (drop n rest)
      comes e at lt s = from (nat_lt at (length out)) refl
        where
          from : (b : Bool) → nat_lt at (length out) ≡ b → get_or (out ++ take n rest) at 0 ≡ get_or bytes (carried (length bytes) (marks ++ new ∷ []) e at) 0
          from true b = scanned e at (ltb-true at (length out) b) s
          from false b = back e at lt (ltb-false at (length out) b)

  -- ---- a move

  module _ (p : TextPart) (values : List ℕ) (env : Aliases) where
    moved_kept : (f : ScanState) (outer : List Bracket) (c : ℕ) (cs out : List ℕ) (marks : List Mark) → Kept out marks (c ∷ cs)
        → Kept (out ++ (move p values env f outer (length out) c cs).put) (marks ++ (move p values env f outer (length out) c cs).marks) (drop (move p values env f outer (length out) c cs).len cs)
    moved_kept f outer c cs out marks h = from (goes f c cs) (p.reads && is_alias c cs)
      where
        Fits : Move → Type 0
        Fits m = Kept (out ++ m.put) (marks ++ m.marks) (drop m.len cs)

        trailing' : (n : ℕ) → IsTail (c ∷ cs) (drop n cs)
        trailing' n = longer c cs (drop n cs) (dropped n cs)

        place : Fits (place_move f outer (length out) c cs)
        place = subst (λ o. Kept o (marks ++ end_mark out (c ∷ cs) ∷ []) (drop (place_move f outer (length out) c cs).len cs)) (sym (append-nil out)) (place_kept out (c ∷ cs) (drop (place_move f outer (length out) c cs).len cs) marks (trailing' (place_move f outer (length out) c cs).len) h)

        alias : (v : Option (List ℕ)) → Fits (alias_move p v f outer (length out) c cs)
        alias v = alias_kept out (spelling f v) (c ∷ cs) (drop (alias_move p v f outer (length out) c cs).len cs) marks (trailing' (alias_move p v f outer (length out) c cs).len) h

        other : Fits (lexeme_move f outer c cs)
        other = subst (λ l. Kept (out ++ take (suc (lexeme_len c cs)) (c ∷ cs)) l (drop (suc (lexeme_len c cs)) (c ∷ cs))) (sym (append-nil marks)) (lexeme_kept out (c ∷ cs) (suc (lexeme_len c cs)) marks (omega (arith, lexeme_within c cs)) h)

        from : (t u : Bool) → Fits (cond t (place_move f outer (length out) c cs) (cond u (alias_move p (value_of values env f (name_of c cs)) f outer (length out) c cs) (lexeme_move f outer c cs)))
        from true u = place
        from false true = alias (value_of values env f (name_of c cs))
        from false false = other

    -- ---- all moves

    abbrev KeptBy : Walked → Type 0
    KeptBy w = Kept w.text w.marks w.rest

    step_kept : (f : ScanState) (outer : List Bracket) (c : ℕ) (cs out : List ℕ) (marks : List Mark) (s : Bool) (x : Option Fault) (on : Walked) → Kept out marks (c ∷ cs) → KeptBy on → KeptBy (cond s (walked out marks (c ∷ cs) None) (unless x (c ∷ cs) out marks on))
    step_kept f outer c cs out marks true x on h k = h
    step_kept f outer c cs out marks false None on h k = k
    step_kept f outer c cs out marks false (Some fault) on h k = h

    walk_kept : (f : ScanState) (outer : List Bracket) (n : ℕ) (cs out : List ℕ) (marks : List Mark) → Kept out marks (drop n cs) → KeptBy (walk p values env f outer n cs out marks)
    unfolding walk
    walk_kept f outer n [] out marks h = subst (Kept out marks) (drop-nil n) h
    walk_kept f outer (suc n) (c ∷ cs) out marks h = walk_kept f outer n cs out marks h
    walk_kept f outer zero (c ∷ cs) out marks h =
        let m = move p values env f outer (length out) c cs in
        step_kept f outer c cs out marks (stops p f c cs) m.fault (walk p values env m.scanned m.outer m.len cs (out ++ m.put) (marks ++ m.marks)) h
        (walk_kept m.scanned m.outer m.len cs (out ++ m.put) (marks ++ m.marks) (moved_kept f outer c cs out marks h))

-- ---- definitions

module _ (bytes : List ℕ) where
  rest_within : (values : List ℕ) (env : Aliases) (c : ℕ) (cs value : List ℕ) → definition_at c cs ≡ Some value → (v : Value) → value_of_name values env (name_of c cs) (c ∷ cs) value ≡ v → (on : Defined)
      → IsTail bytes (c ∷ cs) → (IsTail bytes (rest_of v) → IsTail bytes on.rest) → IsTail bytes (definitions.unless (result_err v) values env (c ∷ cs) on).rest
  rest_within values env c cs value d (Ok x) e on t k = k (within bytes (c ∷ cs) x.1 t (longer c cs x.1 (within cs value x.1 (definition_tail c cs value d) (named_tail values env value (name_of c cs) (c ∷ cs) x.0 x.1 e))))
  rest_within values env c cs value d (Err fault) e on t k = t

  definitions_tail : (values : List ℕ) (env : Aliases) (trailing : List ℕ) (n : ℕ) (cs : List ℕ) → IsTail bytes trailing → IsTail bytes cs → IsTail bytes (definitions values env trailing n cs).rest
  unfolding definitions
  definitions_tail values env trailing n [] b t = b
  definitions_tail values env trailing (suc n) (c ∷ cs) b t = definitions_tail values env trailing n cs b (within bytes (c ∷ cs) cs t (longer c cs cs (same cs)))
  definitions_tail values env trailing zero (c ∷ cs) b t =
      from (is_gap c cs) (definition_at c cs) refl
      (definitions_tail values env trailing (lexeme_len c cs) cs b next)
      (λ v r. definitions_tail (more_values values v) (more_aliases values env c cs v) (rest_of v) (length cs - length (rest_of v)) cs r next)
    where
      next : IsTail bytes cs
      next = within bytes (c ∷ cs) cs t (longer c cs cs (same cs))

      more : Value → Defined
      more v = definitions (more_values values v) (more_aliases values env c cs v) (rest_of v) (length cs - length (rest_of v)) cs

      here : Option (List ℕ) → Value
      here o = value_of_name values env (name_of c cs) (c ∷ cs) (value_in o)

      from : (g : Bool) (o : Option (List ℕ)) → definition_at c cs ≡ o → IsTail bytes (definitions values env trailing (lexeme_len c cs) cs).rest → ((v : Value) → IsTail bytes (rest_of v) → IsTail bytes (more v).rest)
          → IsTail bytes (cond g (definitions values env trailing (lexeme_len c cs) cs) (cond (is_defined o) (definitions.unless (result_err (here o)) values env (c ∷ cs) (more (here o))) (defined values env trailing None))).rest
      from true o d k m = k
      from false None d k m = b
      from false (Some value) d k m = rest_within values env c cs value d (here (Some value)) refl (more (here (Some value))) t (m (here (Some value)))

-- ---- the expansion

pub comes_from_there : (bytes : List ℕ) (at : ℕ) → at < length (expanded bytes).text → is_rendered (expanded bytes).marks at ≡ false → get_or (expanded bytes).text at 0 ≡ get_or bytes (place_in (length bytes) (expanded bytes) at) 0
comes_from_there bytes at = from (definitions [] [] bytes 0 bytes) (definitions_tail bytes [] [] bytes 0 bytes (same bytes) (same bytes))
  where
    from : (d : Defined) → IsTail bytes d.rest → at < length (trailing d.fault d).text → is_rendered (trailing d.fault d).marks at ≡ false → get_or (trailing d.fault d).text at 0 ≡ get_or bytes (place_in (length bytes) (trailing d.fault d) at) 0
    from d t = by_fault d.fault
      where
        w : Walked
        w = walk_text (operations_part d.values) d.values d.aliases Operations d.rest [] []

        nothing_yet : Kept bytes [] [] d.rest
        nothing_yet = (t, tt, λ e at lt s. absurd (omega (arith, lt)))

        kept : KeptBy bytes (operations_part d.values) d.values d.aliases w
        kept = walk_kept bytes (operations_part d.values) d.values d.aliases (at_first Operations) [] 0 d.rest [] [] nothing_yet

        by_fault : (x : Option Fault) → at < length (trailing x d).text → is_rendered (trailing x d).marks at ≡ false → get_or (trailing x d).text at 0 ≡ get_or bytes (place_in (length bytes) (trailing x d) at) 0
        by_fault (Some fault) lt s = absurd (omega (arith, lt))
        by_fault None lt s = kept.2 (end_of (length bytes) (trailing None d).fault) at lt (unspelled w.marks (end_mark w.text w.rest) at s).0
