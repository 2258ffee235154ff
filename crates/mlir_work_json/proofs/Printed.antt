-- Proofs about a writer that converts lines to JSON.
use Rattle.std.proofs.Common.{◌≡◌, ℕ, suc, ◌+◌, ◌-◌, ◌<◌, List, [], ◌∷◌, ◌++◌, Bool, true, false, true≢false, not, if◌then◌else◌, Option, Some, None, Result, Ok, Err, length, map, take, drop, get_or, refl, ap, sym, subst, ◌∙◌, ◌⊎◌, inl, inr, append_assoc, append-nil, length-append, arith}
use Rattle.std.specs.Prelude.{◌==◌, ◌&&◌, ◌||◌, is_err}
use Rattle.std.specs.Io.KnownBytes.{Appends, Keeps}
use lib.Seq.{take-append_seam}
use Rattle.std.proofs.lemmas.Bool.{and_parts, and_from}
use Rattle.std.proofs.lemmas.List.{map-append, take-append-drop}
use Rattle.std.proofs.lemmas.Slice.Eq.{bytes_eq-Decides}
use Rattle.mlir_work_json.specs.Cuts.{parts}
use Rattle.mlir_work_json.specs.Lines.{json_line, json_lines, json_text}
use Rattle.mlir_work_json.specs.Printing.{Prints, PrintsAll, are_same, flag_number, has_line, has_more, is_memory, is_printed, json_of, known_mark, mark, text_of}
use Rattle.mlir_work_json.specs.declared.printing.PrintFault.{PrintFault}
use Rattle.mlir_work_json.specs.declared.printing.PrintFault.TheVariants.{Memory, Write}
use Rattle.mlir_work_script_base.specs.Cuts.{before}
use Rattle.mlir_work_script_base.specs.Lines.{is_newline, onto_first}
use Rattle.mlir_work_script_base.specs.Writes.{AppendsPreceding, Fails, Grows, GrowsPreceding, Stays, Stream}
use Rattle.mlir_work_script_base.proofs.Joins.{appends_join, appends_none, grows_fails, grows_join, grows_stays}

-- ---- the JSON of complete lines

onto_some : (b : ℕ) (ls : List (List ℕ)) → onto_first b ls ≡ [] → ⊥
onto_some b [] e = let bad : (b ∷ []) ∷ [] ≡ [] = e in absurd cc
onto_some b (l ∷ ls) e = let bad : (b ∷ l) ∷ ls ≡ [] = e in absurd cc

onto_more : (b : ℕ) (ls rest : List (List ℕ)) → (ls ≡ [] → ⊥) → onto_first b (ls ++ rest) ≡ onto_first b ls ++ rest
onto_more b [] rest some = absurd (some refl)
onto_more b (l ∷ ls) rest some = refl

if_some : (t : Bool) (b : ℕ) (ls : List (List ℕ)) → (if t then [] ∷ ls else onto_first b ls) ≡ [] → ⊥
if_some true b ls e = let bad : [] ∷ ls ≡ [] = e in absurd cc
if_some false b ls e = onto_some b ls e

-- a line with its line feed is a part
some_part : (line : List ℕ) → parts is_newline (line ++ 10 ∷ []) ≡ [] → ⊥
some_part [] e = let bad : [] ∷ [] ≡ [] = e in absurd cc
some_part (b ∷ bs) e = if_some (is_newline b) b (parts is_newline (bs ++ 10 ∷ [])) e

parts_from : (t : Bool) (b : ℕ) (ls rest : List (List ℕ)) → (ls ≡ [] → ⊥) → (if t then [] ∷ (ls ++ rest) else onto_first b (ls ++ rest)) ≡ (if t then [] ∷ ls else onto_first b ls) ++ rest
parts_from true b ls rest some = refl
parts_from false b ls rest some = onto_more b ls rest some

-- the parts after a line feed don't depend on what precedes it
parts_after : (line rest : List ℕ) → parts is_newline ((line ++ 10 ∷ []) ++ rest) ≡ parts is_newline (line ++ 10 ∷ []) ++ parts is_newline rest
parts_after [] rest = refl
parts_after (b ∷ bs) rest =
    let ih = parts_after bs rest in
    ap (λ ls. if is_newline b then [] ∷ ls else onto_first b ls) ih
    ∙ parts_from (is_newline b) b (parts is_newline (bs ++ 10 ∷ [])) (parts is_newline rest) (some_part bs)

lines_more : (ls rest : List (List ℕ)) → json_lines (ls ++ rest) ≡ json_lines ls ++ json_lines rest
lines_more [] rest = refl
lines_more (l ∷ ls) rest = ap (λ xs. (json_line l ++ 10 ∷ []) ++ xs) (lines_more ls rest) ∙ sym (append_assoc (json_line l ++ 10 ∷ []) (json_lines ls) (json_lines rest))

json_after : (line rest : List ℕ) → json_text ((line ++ 10 ∷ []) ++ rest) ≡ json_text (line ++ 10 ∷ []) ++ json_text rest
json_after line rest = ap json_lines (parts_after line rest) ∙ lines_more (parts is_newline (line ++ 10 ∷ [])) (parts is_newline rest)

-- the JSON of a text whose first lines are complete
pub json_whole : (ls : List (List ℕ)) (rest : List ℕ) → json_text (text_of ls ++ rest) ≡ json_of ls ++ json_text rest
json_whole [] rest = refl
json_whole (l ∷ ls) rest =
    ap json_text (append_assoc (l ++ 10 ∷ []) (text_of ls) rest) ∙ json_after l (text_of ls ++ rest)
    ∙ ap (λ xs. json_text (l ++ 10 ∷ []) ++ xs) (json_whole ls rest)
    ∙ sym (append_assoc (json_text (l ++ 10 ∷ [])) (json_of ls) (json_text rest))

json_more : (ls : List (List ℕ)) (l : List ℕ) → json_of (ls ++ l ∷ []) ≡ json_of ls ++ json_text (l ++ 10 ∷ [])
json_more [] l = append-nil (json_text (l ++ 10 ∷ []))
json_more (k ∷ ks) l = ap (λ xs. json_text (k ++ 10 ∷ []) ++ xs) (json_more ks l) ∙ sym (append_assoc (json_text (k ++ 10 ∷ [])) (json_of ks) (json_text (l ++ 10 ∷ [])))

pub text_more : (ls : List (List ℕ)) (l : List ℕ) → text_of (ls ++ l ∷ []) ≡ text_of ls ++ (l ++ 10 ∷ [])
text_more [] l = append-nil (l ++ 10 ∷ [])
text_more (k ∷ ks) l = ap (λ xs. (k ++ 10 ∷ []) ++ xs) (text_more ks l) ∙ sym (append_assoc (k ++ 10 ∷ []) (text_of ks) (l ++ 10 ∷ []))

-- the byte after the first line is a line feed, if there is one
feed_from : (t : Bool) (b : ℕ) (bs : List ℕ) → is_newline b ≡ t
    → (length (before is_newline bs) < length bs → take (length (before is_newline bs) + 1) bs ≡ before is_newline bs ++ 10 ∷ [])
    → length (if t then [] else b ∷ before is_newline bs) < suc (length bs)
    → take (length (if t then [] else b ∷ before is_newline bs) + 1) (b ∷ bs) ≡ (if t then [] else b ∷ before is_newline bs) ++ 10 ∷ []
feed_from true b bs e ih h = let is : b ≡ 10 = grind (arith, e) in ap (λ x. x ∷ []) is
feed_from false b bs e ih h =
    let n = length (before is_newline bs) in
    let more : suc n + 1 ≡ suc (n + 1) = omega arith in
    ap (λ k. take k (b ∷ bs)) more ∙ ap (λ xs. b ∷ xs) (ih (omega (arith, h)))

pub feed_after : (bytes : List ℕ) → length (before is_newline bytes) < length bytes → take (length (before is_newline bytes) + 1) bytes ≡ before is_newline bytes ++ 10 ∷ []
feed_after [] h = absurd (omega (arith, h))
feed_after (b ∷ bs) h = feed_from (is_newline b) b bs refl (feed_after bs) h

-- a line feed ends the line that is kept
pub text_step : {V : Type 0} (f : V → List ℕ) (m : List ℕ) (ls more : List V) (v : V) (kept empty line bytes : List ℕ) → more ≡ ls ++ v ∷ [] → f v ≡ kept ++ line → empty ≡ [] → bytes ≡ line ++ 10 ∷ []
    → m ++ (text_of (map f more) ++ empty) ≡ (m ++ (text_of (map f ls) ++ kept)) ++ bytes
text_step f m ls more v kept empty line bytes ls_are v_is none are =
    let front = text_of (map f ls) in
    let whole : text_of (map f more) ≡ front ++ (kept ++ (line ++ 10 ∷ [])) =
    ap (λ xs. text_of (map f xs)) ls_are ∙ ap text_of (map-append f ls (v ∷ [])) ∙ text_more (map f ls) (f v)
    ∙ ap (λ xs. front ++ (xs ++ 10 ∷ [])) v_is ∙ ap (λ xs. front ++ xs) (append_assoc kept line (10 ∷ [])) in
    ap (λ xs. m ++ (text_of (map f more) ++ xs)) none ∙ ap (λ xs. m ++ xs) (append-nil (text_of (map f more))) ∙ ap (λ xs. m ++ xs) whole
    ∙ ap (λ xs. m ++ xs) (sym (append_assoc front kept (line ++ 10 ∷ []))) ∙ sym (append_assoc m (front ++ kept) (line ++ 10 ∷ []))
    ∙ ap (λ xs. (m ++ (front ++ kept)) ++ xs) (sym are)

-- bytes without a line feed follow the line that is kept
pub text_kept : (m text kept more bytes : List ℕ) → more ≡ kept ++ bytes → m ++ (text ++ more) ≡ (m ++ (text ++ kept)) ++ bytes
text_kept m text kept more bytes e =
    ap (λ xs. m ++ (text ++ xs)) e ∙ ap (λ xs. m ++ xs) (sym (append_assoc text kept bytes)) ∙ sym (append_assoc m (text ++ kept) bytes)

-- ---- the bytes of the writer of the objects

-- without `broken`, the bytes were written
more_written : (a b : Option (List ℕ)) (json : List ℕ) → has_more a b json false ≡ true → Appends a b json
more_written None b json e = tt
more_written (Some old) None json e = absurd (true≢false (sym e))
more_written (Some old) (Some new) json e = (bytes_eq-Decides new (old ++ json)).0 e

written_more : (a b : Option (List ℕ)) (json : List ℕ) → Appends a b json → has_more a b json false ≡ true
written_more None b json h = refl
written_more (Some old) None json h = absurd h
written_more (Some old) (Some new) json h = (bytes_eq-Decides new (old ++ json)).1 h

-- with `broken`, a prefix was written
more_preceding : (a b : Option (List ℕ)) (json : List ℕ) → has_more a b json true ≡ true → AppendsPreceding a b json
more_preceding None b json e = ([], json, refl, tt)
more_preceding (Some old) None json e = absurd (true≢false (sym e))
more_preceding (Some old) (Some new) json e =
    let n = length new - length old in
    (take n json, drop n json, sym (take-append-drop n json), (bytes_eq-Decides new (old ++ take n json)).0 e)

took : (old preceding back : List ℕ) → take (length (old ++ preceding) - length old) (preceding ++ back) ≡ preceding
took old preceding back =
    let n : length (old ++ preceding) - length old ≡ length preceding = omega (arith, length-append old preceding) in
    ap (λ k. take k (preceding ++ back)) n ∙ take-append_seam preceding back

preceding_more : (a b : Option (List ℕ)) (json : List ℕ) → AppendsPreceding a b json → has_more a b json true ≡ true
preceding_more None b json h = refl
preceding_more (Some old) None json (preceding, back, is, h) = absurd h
preceding_more (Some old) (Some new) json (preceding, back, is, h) =
    let cut : new ≡ old ++ take (length new - length old) json =
    subst (λ (xs : List ℕ). xs ≡ old ++ take (length xs - length old) json) (sym h)
    (ap (λ xs. old ++ xs) (sym (ap (take (length (old ++ preceding) - length old)) is ∙ took old preceding back))) in
    (bytes_eq-Decides new (old ++ take (length new - length old) json)).1 cut

-- ---- the flags

same_flags : (a b : Bool) → are_same a b ≡ true → b ≡ a
same_flags true b e = e
same_flags false true e = absurd (true≢false (sym e))
same_flags false false e = refl

flags_same : (a b : Bool) → b ≡ a → are_same a b ≡ true
flags_same true b e = e
flags_same false true e = absurd (true≢false e)
flags_same false false e = refl

not_failed : (f : Bool) → not f ≡ true → f ≡ false
not_failed true e = absurd (true≢false (sym e))
not_failed false e = refl

or_true : (a b : Bool) → b ≡ true → (a || b) ≡ true
or_true true b e = refl
or_true false b e = e

or_first : (a b : Bool) → a ≡ true → (a || b) ≡ true
or_first true b e = refl
or_first false b e = absurd (true≢false (sym e))

or_left : (a b : Bool) → (a || b) ≡ true → b ≡ false → a ≡ true
or_left true b e f = refl
or_left false b e f = absurd (true≢false (sym e ∙ f))

has_last : (ls : List (List ℕ)) (l : List ℕ) → has_line (ls ++ l ∷ []) ≡ true
has_last [] l = refl
has_last (k ∷ ks) l = refl

-- the record of a writer that printed all lines so far
pub record Whole (start now : Stream) (ls : List (List ℕ)) (failed : Bool) : Type 0 where
  pub wrote : Grows start now (json_of ls)
  pub right : failed ≡ false

pub whole_of : (s n : Stream) (ls : List (List ℕ)) (r f : Bool) → is_printed s n ls false r f ≡ true → Whole s n ls f
whole_of s n ls r f e =
    let both = and_parts (has_more s.contents n.contents (json_of ls) false) (are_same s.failed n.failed && not f) e in
    let flags = and_parts (are_same s.failed n.failed) (not f) both.1 in
    record { wrote = (more_written s.contents n.contents (json_of ls) both.0, same_flags s.failed n.failed flags.0); right = not_failed f flags.1 }

of_whole : (s n : Stream) (ls : List (List ℕ)) (r f : Bool) → Grows s n (json_of ls) → f ≡ false → is_printed s n ls false r f ≡ true
of_whole s n ls r f h e =
    and_from (has_more s.contents n.contents (json_of ls) false) (are_same s.failed n.failed && not f) (written_more s.contents n.contents (json_of ls) h.0)
    (and_from (are_same s.failed n.failed) (not f) (flags_same s.failed n.failed h.1) (ap not e))

-- the record of a writer that printed a prefix
pub record Part (start now : Stream) (ls : List (List ℕ)) (refused failed : Bool) : Type 0 where
  pub wrote : AppendsPreceding start.contents now.contents (json_of ls)
  pub since : (now.failed || refused) ≡ true
  pub reason : (has_line ls || failed) ≡ true

pub part_of : (s n : Stream) (ls : List (List ℕ)) (r f : Bool) → is_printed s n ls true r f ≡ true → Part s n ls r f
part_of s n ls r f e =
    let both = and_parts (has_more s.contents n.contents (json_of ls) true) ((n.failed || r) && (has_line ls || f)) e in
    let flags = and_parts (n.failed || r) (has_line ls || f) both.1 in
    record { wrote = more_preceding s.contents n.contents (json_of ls) both.0; since = flags.0; reason = flags.1 }

of_part : (s n : Stream) (ls : List (List ℕ)) (r f : Bool) → AppendsPreceding s.contents n.contents (json_of ls) → (n.failed || r) ≡ true → (has_line ls || f) ≡ true → is_printed s n ls true r f ≡ true
of_part s n ls r f h p q =
    and_from (has_more s.contents n.contents (json_of ls) true) ((n.failed || r) && (has_line ls || f)) (preceding_more s.contents n.contents (json_of ls) h)
    (and_from (n.failed || r) (has_line ls || f) p q)

keeps_same : (a : Option (List ℕ)) → Keeps a a
keeps_same None = tt
keeps_same (Some xs) = refl

keeps_of : (a b : Option (List ℕ)) → Appends a b [] → Keeps a b
keeps_of None b h = tt
keeps_of (Some xs) None h = h
keeps_of (Some xs) (Some ys) h = h ∙ append-nil xs

-- all was written, so a prefix was
all_preceding : (a b : Option (List ℕ)) (json : List ℕ) → Appends a b json → AppendsPreceding a b json
all_preceding a b json h = (json, [], sym (append-nil json), h)

-- ---- writes of one text

pub stays_same : (s : Stream) → Stays s s
stays_same s = (keeps_same s.contents, refl)

-- an empty text is written at once
pub empty_printed : (s : Stream) (text : List ℕ) → (length text == 0) ≡ true → Grows s s (json_text text)
empty_printed s [] e = (appends_none s.contents s.contents (keeps_same s.contents), refl)
empty_printed s (b ∷ bs) e = absurd (grind (arith, e))

pub never_empty : {A : Type 0} (text : List ℕ) → (length text == 0) ≡ false → text ≡ [] → A
never_empty [] e is = absurd (true≢false e)
never_empty (b ∷ bs) e is = absurd cc

-- a flush after a text
pub flushed_all : (a b c : Stream) (xs : List ℕ) → Grows a b xs → Stays b c → Grows a c xs
flushed_all a b c xs h k = grows_stays a b c xs h k

pub flushed_none : (a b c : Stream) (xs : List ℕ) → Grows a b xs → Fails b c → GrowsPreceding a c xs
flushed_none a b c xs h k = grows_fails a b c xs xs [] (sym (append-nil xs)) h k

-- ---- steps of the writer

-- at the start
pub printed_none : (s : Stream) → is_printed s s [] false false false ≡ true
printed_none s = of_whole s s [] false false (appends_none s.contents s.contents (keeps_same s.contents), refl) refl

-- memory ran out for a byte
pub printed_refused : (s n : Stream) (ls : List (List ℕ)) (r f : Bool) → is_printed s n ls false r f ≡ true → is_printed s n ls true true true ≡ true
printed_refused s n ls r f e =
    of_part s n ls true true (all_preceding s.contents n.contents (json_of ls) (whole_of s n ls r f e).wrote.0) (or_true n.failed true refl) (or_true (has_line ls) true refl)

-- a fault is reported
pub printed_reported : (s n : Stream) (ls : List (List ℕ)) (r f : Bool) → is_printed s n ls true r f ≡ true → is_printed s n ls true r true ≡ true
printed_reported s n ls r f e =
    let part = part_of s n ls r f e in
    of_part s n ls r true part.wrote part.since (or_true (has_line ls) true refl)

keeps_after : (a b c : Option (List ℕ)) (xs : List ℕ) → Appends a b xs → Keeps b c → Appends a c xs
keeps_after a b c xs h k = subst (Appends a c) (append-nil xs) (appends_join a b c xs [] h (appends_none b c k))

-- a flush
pub printed_flushed : (s n m : Stream) (ls : List (List ℕ)) (r f : Bool) → is_printed s n ls false r f ≡ true → Stays n m → is_printed s m ls false r f ≡ true
printed_flushed s n m ls r f e h =
    let whole = whole_of s n ls r f e in
    of_whole s m ls r f (keeps_after s.contents n.contents m.contents (json_of ls) whole.wrote.0 h.0, h.1 ∙ whole.wrote.1) whole.right

-- a failed flush
pub printed_unflushed : (s n m : Stream) (ls : List (List ℕ)) (r f : Bool) → is_printed s n ls false r f ≡ true → Fails n m → is_printed s m ls true false true ≡ true
printed_unflushed s n m ls r f e h =
    let whole = whole_of s n ls r f e in
    of_part s m ls false true (all_preceding s.contents m.contents (json_of ls) (keeps_after s.contents n.contents m.contents (json_of ls) whole.wrote.0 h.0))
    (or_first m.failed false h.1) (or_true (has_line ls) true refl)

preceding_join : (a b c : Option (List ℕ)) (xs ys : List ℕ) → Appends a b xs → AppendsPreceding b c ys → AppendsPreceding a c (xs ++ ys)
preceding_join a b c xs ys h (preceding, back, is, k) = (xs ++ preceding, back, ap (λ zs. xs ++ zs) is ∙ sym (append_assoc xs preceding back), appends_join a b c xs preceding h k)

-- a line
pub printed_line : {T : Type 0} (s n m : Stream) (ls : List (List ℕ)) (l : List ℕ) (r f : Bool) (result : Result T PrintFault) → is_printed s n ls false r f ≡ true
    → Prints n m (json_text (l ++ 10 ∷ [])) result → is_printed s m (ls ++ l ∷ []) (is_err result) (is_memory result) f ≡ true
printed_line s n m ls l r f (Ok done) e h =
    let whole = whole_of s n ls r f e in
    of_whole s m (ls ++ l ∷ []) false f (subst (Grows s m) (sym (json_more ls l)) (grows_join s n m (json_of ls) (json_text (l ++ 10 ∷ [])) whole.wrote h)) whole.right
printed_line s n m ls l r f (Err Memory) e h =
    let whole = whole_of s n ls r f e in
    let wrote = keeps_after s.contents n.contents m.contents (json_of ls) whole.wrote.0 h.0 in
    of_part s m (ls ++ l ∷ []) true f (json_of ls, json_text (l ++ 10 ∷ []), json_more ls l, wrote)
    (or_true m.failed true refl) (or_first (has_line (ls ++ l ∷ [])) f (has_last ls l))
printed_line s n m ls l r f (Err Write) e h =
    let whole = whole_of s n ls r f e in
    of_part s m (ls ++ l ∷ []) false f (subst (AppendsPreceding s.contents m.contents) (sym (json_more ls l)) (preceding_join s.contents n.contents m.contents (json_of ls) (json_text (l ++ 10 ∷ [])) whole.wrote.0 h.0))
    (or_first m.failed false h.1) (or_first (has_line (ls ++ l ∷ [])) f (has_last ls l))

-- ---- the end

-- the last line follows the complete ones
pub printed_last : {T : Type 0} (s n m : Stream) (ls : List (List ℕ)) (l : List ℕ) (r f : Bool) (result : Result T PrintFault) → is_printed s n ls false r f ≡ true
    → Prints n m (json_text l) result → PrintsAll s m (json_text (text_of ls ++ l)) result
printed_last s n m ls l r f (Ok done) e h = subst (Grows s m) (sym (json_whole ls l)) (grows_join s n m (json_of ls) (json_text l) (whole_of s n ls r f e).wrote h)
printed_last s n m ls l r f (Err Memory) e h =
    let whole = whole_of s n ls r f e in
    ((json_of ls, json_text l, json_whole ls l, keeps_after s.contents n.contents m.contents (json_of ls) whole.wrote.0 h.0), h.1 ∙ whole.wrote.1)
printed_last s n m ls l r f (Err Write) e h =
    (subst (AppendsPreceding s.contents m.contents) (sym (json_whole ls l)) (preceding_join s.contents n.contents m.contents (json_of ls) (json_text l) (whole_of s n ls r f e).wrote.0 h.0), h.1)

preceding_wider : (a b : Option (List ℕ)) (xs ys : List ℕ) → AppendsPreceding a b xs → AppendsPreceding a b (xs ++ ys)
preceding_wider a b xs ys (preceding, back, is, h) = (preceding, back ++ ys, ap (λ zs. zs ++ ys) is ∙ append_assoc preceding back ys, h)

-- what was written is a prefix of the JSON of each text that begins with the complete lines
pub cut_off : (s n : Stream) (ls : List (List ℕ)) (b r f : Bool) (rest : List ℕ) → is_printed s n ls b r f ≡ true → AppendsPreceding s.contents n.contents (json_text (text_of ls ++ rest))
cut_off s n ls true r f rest e =
    subst (AppendsPreceding s.contents n.contents) (sym (json_whole ls rest)) (preceding_wider s.contents n.contents (json_of ls) (json_text rest) (part_of s n ls r f e).wrote)
cut_off s n ls false r f rest e = (json_of ls, json_text rest, json_whole ls rest, (whole_of s n ls r f e).wrote.0)

-- nothing was printed, unless there is a line or a fault
pub unprinted : (s n : Stream) (b r : Bool) → is_printed s n [] b r false ≡ true → Stays s n × (b ≡ false)
unprinted s n true r e = absurd (true≢false (sym (part_of s n [] r false e).reason))
unprinted s n false r e = let wrote = (whole_of s n [] r false e).wrote in ((keeps_of s.contents n.contents wrote.0, wrote.1), refl)

-- ---- the same, for flags that are known by equations

known : (s n : Stream) (ls : List (List ℕ)) (b c r f : Bool) → is_printed s n ls b r f ≡ true → b ≡ c → is_printed s n ls c r f ≡ true
known s n ls b c r f e is = subst (λ (x : Bool). is_printed s n ls x r f ≡ true) is e

pub refused_so : (s n : Stream) (ls : List (List ℕ)) (b r f : Bool) → is_printed s n ls b r f ≡ true → b ≡ false → is_printed s n ls true true true ≡ true
refused_so s n ls b r f e is = printed_refused s n ls r f (known s n ls b false r f e is)

pub reported_so : (s n : Stream) (ls : List (List ℕ)) (b r f : Bool) → is_printed s n ls b r f ≡ true → b ≡ true → is_printed s n ls b r true ≡ true
reported_so s n ls b r f e is = known s n ls true b r true (printed_reported s n ls r f (known s n ls b true r f e is)) (sym is)

pub flushed_so : (s n m : Stream) (ls : List (List ℕ)) (b r f : Bool) → is_printed s n ls b r f ≡ true → b ≡ false → Stays n m → is_printed s m ls b r f ≡ true
flushed_so s n m ls b r f e is h = known s m ls false b r f (printed_flushed s n m ls r f (known s n ls b false r f e is) h) (sym is)

pub unflushed_so : (s n m : Stream) (ls : List (List ℕ)) (b r f : Bool) → is_printed s n ls b r f ≡ true → b ≡ false → Fails n m → is_printed s m ls true false true ≡ true
unflushed_so s n m ls b r f e is h = printed_unflushed s n m ls r f (known s n ls b false r f e is) h

pub line_so : {T V : Type 0} (g : V → List ℕ) (s n m : Stream) (ls more : List V) (v : V) (b r f broken refused : Bool) (result : Result T PrintFault)
    → is_printed s n (map g ls) b r f ≡ true → b ≡ false → more ≡ ls ++ v ∷ [] → Prints n m (json_text (g v ++ 10 ∷ [])) result
    → broken ≡ is_err result → refused ≡ is_memory result → is_printed s m (map g more) broken refused f ≡ true
line_so g s n m ls more v b r f broken refused result e is are h broken_is refused_is =
    let lines : map g more ≡ map g ls ++ g v ∷ [] = ap (map g) are ∙ map-append g ls (v ∷ []) in
    let printed = printed_line s n m (map g ls) (g v) r f result (known s n (map g ls) b false r f e is) h in
    rw (lines, broken_is, refused_is) printed

pub last_so : {T : Type 0} (s n m : Stream) (ls : List (List ℕ)) (l : List ℕ) (b r f : Bool) (result : Result T PrintFault) → is_printed s n ls b r f ≡ true → b ≡ false
    → Prints n m (json_text l) result → PrintsAll s m (json_text (text_of ls ++ l)) result
last_so s n m ls l b r f result e is h = printed_last s n m ls l r f result (known s n ls b false r f e is) h

-- ---- what the flags say

-- a write failed, unless memory ran out
pub write_failed : (s n : Stream) (ls : List (List ℕ)) (b r f : Bool) → is_printed s n ls b r f ≡ true → (s.failed || (f || b)) ≡ true → (b && r) ≡ false → n.failed ≡ true
write_failed s n ls true r f e some none = or_left n.failed r (part_of s n ls r f e).since none
write_failed s n ls false r f e some none =
    let whole = whole_of s n ls r f e in
    whole.wrote.1 ∙ or_left s.failed (f || false) some (ap (λ x. x || false) whole.right)

true_or_false : (b : Bool) → (b ≡ true) ⊎ (b ≡ false)
true_or_false true = inl refl
true_or_false false = inr refl

pub unreported_so : (s n : Stream) (ls : List (List ℕ)) (b r f : Bool) → is_printed s n ls b r f ≡ true → b ≡ false → f ≡ false
unreported_so s n ls b r f e is = (whole_of s n ls r f (known s n ls b false r f e is)).right

-- what is reported is broken
pub broken_so : (s n : Stream) (ls : List (List ℕ)) (b r f : Bool) → is_printed s n ls b r f ≡ true → f ≡ true → b ≡ true
broken_so s n ls b r f e failed = elim (true_or_false b) [
  | inl is ↦ is
  | inr is ↦ absurd (true≢false (sym failed ∙ (whole_of s n ls r f (known s n ls b false r f e is)).right))
]

-- an empty text has no lines
no_lines : (ls : List (List ℕ)) (line : List ℕ) → text_of ls ++ line ≡ [] → ls ≡ []
no_lines [] line e = refl
no_lines ([] ∷ ls) line e = let bad : 10 ∷ (text_of ls ++ line) ≡ [] = e in absurd cc
no_lines ((b ∷ bs) ∷ ls) line e = let bad : b ∷ (((bs ++ 10 ∷ []) ++ text_of ls) ++ line) ≡ [] = e in absurd cc

-- nothing was printed of an empty text, unless a fault was reported
pub none_so : (s n : Stream) (ls : List (List ℕ)) (line : List ℕ) (b r f : Bool) → is_printed s n ls b r f ≡ true → text_of ls ++ line ≡ [] → f ≡ false → Stays s n × (b ≡ false)
none_so s n ls line b r f e none unreported = let lines = no_lines ls line none in unprinted s n b r (subst (λ (x : Bool). is_printed s n [] b r x ≡ true) unreported (subst (λ (xs : List (List ℕ)). is_printed s n xs b r f ≡ true) lines e))

-- ---- the record of the text

same_text : (xs ys s t : List ℕ) → length xs ≡ length ys → xs ++ s ≡ ys ++ t → (xs ≡ ys) × (s ≡ t)
same_text [] [] s t n e = (refl, e)
same_text [] (y ∷ ys) s t n e = absurd (omega (arith, n))
same_text (x ∷ xs) [] s t n e = absurd (omega (arith, n))
same_text (x ∷ xs) (y ∷ ys) s t n e =
    let heads : x ≡ y = ap (λ (l : List ℕ). get_or l 0 0) e in
    let tails : xs ++ s ≡ ys ++ t = ap (drop 1) e in
    let shorter : length xs ≡ length ys = omega (arith, n) in
    let ih = same_text xs ys s t shorter tails in
    (rw (heads, ih.0) refl, ih.1)

known_marks : (a b : Option (List ℕ)) (s t : List ℕ) → known_mark a ++ s ≡ known_mark b ++ t → (a ≡ b) × (s ≡ t)
known_marks None None s t e = (refl, ap (drop 1) e)
known_marks None (Some ys) s t e = let heads : 0 ≡ suc (length ys) = ap (λ (l : List ℕ). get_or l 0 0) e in absurd (omega (arith, heads))
known_marks (Some xs) None s t e = let heads : suc (length xs) ≡ 0 = ap (λ (l : List ℕ). get_or l 0 0) e in absurd (omega (arith, heads))
known_marks (Some xs) (Some ys) s t e =
    let heads : suc (length xs) ≡ suc (length ys) = ap (λ (l : List ℕ). get_or l 0 0) e in
    let tails : xs ++ s ≡ ys ++ t = ap (drop 1) e in
    let same = same_text xs ys s t (omega (arith, heads)) tails in
    (ap Some same.0, same.1)

flag_numbers : (a b : Bool) → flag_number a ≡ flag_number b → a ≡ b
flag_numbers true true e = refl
flag_numbers false false e = refl
flag_numbers true false e = absurd (omega (arith, e))
flag_numbers false true e = absurd (omega (arith, e))

-- two records of texts begin with one mark
pub same_start : (s t : Stream) (xs ys : List ℕ) → mark s ++ xs ≡ mark t ++ ys → (s.contents ≡ t.contents) × (s.failed ≡ t.failed) × (xs ≡ ys)
same_start s t xs ys e =
    let heads : flag_number s.failed ≡ flag_number t.failed = ap (λ (l : List ℕ). get_or l 0 0) e in
    let tails : known_mark s.contents ++ xs ≡ known_mark t.contents ++ ys = ap (drop 1) e in
    let same = known_marks s.contents t.contents xs ys tails in
    (same.0, flag_numbers s.failed t.failed heads, same.1)
