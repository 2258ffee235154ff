-- Proofs about the end of a run with JSON output. A run writes its text to a writer of JSON lines: `s` is the record of
-- the writer of the objects before the run, `t` is what the writer of lines has as that record, and `n` is the record
-- after the run.
use Rattle.std.proofs.Common.{◌≡◌, ◌∙◌, ◌⊎◌, inl, inr, ℕ, Bool, true, false, true≢false, not, List, [], ◌∷◌, ◌++◌, append_assoc, append-nil, Option, Some, None, Result, Ok, Err, map, refl, sym, ap, subst, arith}
use Rattle.std.specs.Prelude.{◌&&◌, ◌||◌, IfOk, IfSome, OnErr, is_ok}
use Rattle.std.specs.Io.KnownBytes.{Appends, Keeps}
use Rattle.std.specs.declared.alloc.AllocError.{AllocError}
use Rattle.std.proofs.lemmas.Bool.{or_from, or_parts}
use Rattle.std.proofs.lemmas.Result.{IfOk-weaker}
use Rattle.mlir_work_run.specs.session.Reads.{Intake, IsReadWhole}
use Rattle.mlir_work_run.specs.session.Writes.{AppendsPreceding, Grows, GrowsPreceding, Stays, Stream}
use Rattle.mlir_work_json.specs.Lines.{json_text}
use Rattle.mlir_work_json.specs.Printing.{PrintsAll, mark, text_of, text_stream}
use Rattle.mlir_work_json.specs.declared.printing.PrintFault.{PrintFault}
use Rattle.mlir_work_json.specs.declared.printing.PrintFault.TheVariants.{Memory, Write}
use Rattle.mlir_work_json.proofs.Printed.{same_start}
use Rattle.mlir_work_run.specs.Ends.{HasStatus, IsFinal, LeavesAt}
use Rattle.mlir_work_run.specs.Live.{Anywhere, AreFirst, BeforeTooLong, HasFailedLive, IsCutOff, IsUpTo, LiveEndedAt, MayStop}
use Rattle.mlir_work_run.specs.declared.live.Unanswered.{Unanswered}
use Rattle.mlir_work_run.specs.declared.live.Unanswered.TheVariants.{Memory as LineMemory, TooLong as LineTooLong}
use Rattle.mlir_work_cli.specs.Json.{Ends, EndsLive, IsBroken, IsJsonOf, JsonEndedAt, JsonRan}

-- the JSON of an output
abbrev pub Json : (ℕ → List ℕ → Type 0) → ℕ → List ℕ → Type 0
Json Q status json = (out : List ℕ) × Q status out × (json ≡ json_text out)

-- what was written is a prefix of the JSON of each text that begins with these lines
abbrev pub Cuts : Stream → Stream → List (List ℕ) → Type 0
Cuts t n ls = (rest : List ℕ) → AppendsPreceding t.contents n.contents (json_text (text_of ls ++ rest))

-- two records are equal
abbrev pub Same : Stream → Stream → Type 0
Same s t = (t.contents ≡ s.contents) × (t.failed ≡ s.failed)

-- ---- the text that a run wrote

not_final : (status : ℕ) → status ≡ 4 → IsFinal status → ⊥
not_final status e (inl h) = omega (arith, e, h)
not_final status e (inr (inl h)) = omega (arith, e, h)
not_final status e (inr (inr h)) = omega (arith, e, h)

grown : (s t : Stream) (xs ys out : List ℕ) → xs ≡ [] → Appends (Some (mark s ++ xs)) (Some (mark t ++ ys)) out → Same s t × (ys ≡ out)
grown s t xs ys out none e =
    let joined : mark t ++ ys ≡ mark s ++ out = e ∙ append_assoc (mark s) xs out ∙ ap (λ (zs : List ℕ). mark s ++ (zs ++ out)) none in
    let same = same_start t s ys out joined in
    ((same.0, same.1), same.2)

kept : (s t : Stream) (xs ys : List ℕ) → xs ≡ [] → Keeps (Some (mark s ++ xs)) (Some (mark t ++ ys)) → Same s t × (ys ≡ [])
kept s t xs ys none e = let same = same_start t s ys xs e in ((same.0, same.1), same.2 ∙ none)

grows_from : (s t n : Stream) (json : List ℕ) → Same s t → Grows t n json → Grows s n json
grows_from s t n json same h = (subst (λ (o : Option (List ℕ)). Appends o n.contents json) same.0 h.0, h.1 ∙ same.1)

preceding_from : (s t n : Stream) (json : List ℕ) → Same s t → AppendsPreceding t.contents n.contents json → AppendsPreceding s.contents n.contents json
preceding_from s t n json same h = subst (λ (o : Option (List ℕ)). AppendsPreceding o n.contents json) same.0 h

stays_from : (s t n : Stream) → Same s t → Stays t n → Stays s n
stays_from s t n same h = (subst (λ (o : Option (List ℕ)). Keeps o n.contents) same.0 h.0, h.1 ∙ same.1)

no_front : (front back : List ℕ) → [] ≡ front ++ back → front ≡ []
no_front [] back e = refl
no_front (x ∷ xs) back e = absurd cc

keeps_of : (a b : Option (List ℕ)) → Appends a b [] → Keeps a b
keeps_of None b h = tt
keeps_of (Some xs) None h = h
keeps_of (Some xs) (Some ys) h = h ∙ append-nil xs

keeps_none : (a b : Option (List ℕ)) → AppendsPreceding a b [] → Keeps a b
keeps_none a b (front, back, is, h) = keeps_of a b (subst (Appends a b) (no_front front back is) h)

-- the text is a prefix of an output, so what was written is a prefix of the output's JSON
cut_of : (s t n : Stream) (ls : List (List ℕ)) (line xs out : List ℕ) → xs ≡ [] → Cuts t n ls
    → AppendsPreceding (Some (mark s ++ xs)) (Some (mark t ++ (text_of ls ++ line))) out → AppendsPreceding s.contents n.contents (json_text out)
cut_of s t n ls line xs out none cuts (front, back, is, h) =
    let same = grown s t xs (text_of ls ++ line) front none h in
    let whole : text_of ls ++ (line ++ back) ≡ out = sym (append_assoc (text_of ls) line back) ∙ ap (λ (zs : List ℕ). zs ++ back) same.1 ∙ sym is in
    preceding_from s t n (json_text out) same.0 (subst (λ (zs : List ℕ). AppendsPreceding t.contents n.contents (json_text zs)) whole (cuts (line ++ back)))

-- a writer of lines without lines has no text
pub no_text : {V : Type 0} (f : V → List ℕ) (ls : List V) (line : List ℕ) → ls ≡ [] → line ≡ [] → text_of (map f ls) ++ line ≡ []
no_text f ls line none empty = ap (λ xs. text_of (map f xs) ++ line) none ∙ empty

-- ---- whole runs

-- a run that ends with status 4
pub cut_part : (Q : ℕ → List ℕ → Type 0) (s t n : Stream) (ls : List (List ℕ)) (line xs : List ℕ) (status : ℕ) → xs ≡ [] → status ≡ 4 → Cuts t n ls
    → HasStatus Q (Some (mark s ++ xs)) (Some (mark t ++ (text_of ls ++ line))) status
    → Keeps s.contents n.contents ⊎ ((other : ℕ) × (json : List ℕ) × Json Q other json × AppendsPreceding s.contents n.contents json)
cut_part Q s t n ls line xs status none four cuts (inl h) = absurd (not_final status four h.0)
cut_part Q s t n ls line xs status none four cuts (inr (e, inl keeps)) =
    let same = kept s t xs (text_of ls ++ line) none keeps in
    let nothing : AppendsPreceding t.contents n.contents [] = subst (λ (zs : List ℕ). AppendsPreceding t.contents n.contents (json_text zs)) same.1 (cuts line) in
    inl (keeps_none s.contents n.contents (preceding_from s t n [] same.0 nothing))
cut_part Q s t n ls line xs status none four cuts (inr (e, inr (other, out, q, h))) =
    inr (other, json_text out, (out, q, refl), cut_of s t n ls line xs out none cuts h)

pub if_cut : (o : Option (List ℕ)) (P : List ℕ → ℕ → List ℕ → Type 0) (s t n : Stream) (ls : List (List ℕ)) (line xs : List ℕ) (status : ℕ) → xs ≡ [] → status ≡ 4 → Cuts t n ls
    → IfSome o (λ input. HasStatus (P input) (Some (mark s ++ xs)) (Some (mark t ++ (text_of ls ++ line))) status)
    → IfSome o (λ input. HasStatus (Json (P input)) s.contents n.contents 4)
if_cut None P s t n ls line xs status none four cuts h = tt
if_cut (Some input) P s t n ls line xs status none four cuts h = inr (refl, cut_part (P input) s t n ls line xs status none four cuts h)

pub if_refused : (o : Option (List ℕ)) (P : List ℕ → ℕ → List ℕ → Type 0) (s t n : Stream) (ls : List (List ℕ)) (line xs : List ℕ) (status : ℕ) (e : AllocError) → xs ≡ [] → status ≡ 4 → Cuts t n ls
    → IfSome o (λ input. HasStatus (P input) (Some (mark s ++ xs)) (Some (mark t ++ (text_of ls ++ line))) status)
    → IfSome o (λ input. JsonRan (Json (P input)) s.contents n.contents (Err e))
if_refused None P s t n ls line xs status e none four cuts h = tt
if_refused (Some input) P s t n ls line xs status e none four cuts h = cut_part (P input) s t n ls line xs status none four cuts h

-- the last line was printed or not
printed_part : {T : Type 0} (Q : ℕ → List ℕ → Type 0) (s t n : Stream) (out : List ℕ) (status : ℕ) (printed : Result T PrintFault) (result : Result ℕ AllocError)
    → IsFinal status → Q status out → Same s t → PrintsAll t n (json_text out) printed → Ends printed status result → JsonRan (Json Q) s.contents n.contents result
printed_part Q s t n out status (Ok done) result final q same h e =
    subst (λ (r : Result ℕ AllocError). JsonRan (Json Q) s.contents n.contents r) (sym e) (inl (final, (json_text out, (out, q, refl), (grows_from s t n (json_text out) same h).0)))
printed_part Q s t n out status (Err Write) result final q same h e =
    subst (λ (r : Result ℕ AllocError). JsonRan (Json Q) s.contents n.contents r) (sym e) (inr (refl, inr (status, json_text out, (out, q, refl), preceding_from s t n (json_text out) same h.0)))
printed_part Q s t n out status (Err Memory) (Ok other) final q same h e = absurd (true≢false (sym e))
printed_part Q s t n out status (Err Memory) (Err x) final q same h e = inr (status, json_text out, (out, q, refl), preceding_from s t n (json_text out) same h.0)

final_part : {T : Type 0} (Q : ℕ → List ℕ → Type 0) (s t n : Stream) (xs ys : List ℕ) (status : ℕ) (printed : Result T PrintFault) (result : Result ℕ AllocError) → xs ≡ [] → (status ≡ 4 → ⊥)
    → PrintsAll t n (json_text ys) printed → Ends printed status result
    → HasStatus Q (Some (mark s ++ xs)) (Some (mark t ++ ys)) status → JsonRan (Json Q) s.contents n.contents result
final_part Q s t n xs ys status printed result none other h e (inl (final, (out, q, wrote))) =
    let same = grown s t xs ys out none wrote in
    printed_part Q s t n ys status printed result final (subst (λ (zs : List ℕ). Q status zs) (sym same.1) q) same.0 h e
final_part Q s t n xs ys status printed result none other h e (inr (four, k)) = absurd (other four)

pub if_final : {T : Type 0} (o : Option (List ℕ)) (P : List ℕ → ℕ → List ℕ → Type 0) (s t n : Stream) (xs ys : List ℕ) (status : ℕ) (printed : Result T PrintFault) (result : Result ℕ AllocError) → xs ≡ [] → (status ≡ 4 → ⊥)
    → PrintsAll t n (json_text ys) printed → Ends printed status result
    → IfSome o (λ input. HasStatus (P input) (Some (mark s ++ xs)) (Some (mark t ++ ys)) status)
    → IfSome o (λ input. JsonRan (Json (P input)) s.contents n.contents result)
if_final None P s t n xs ys status printed result none other h e k = tt
if_final (Some input) P s t n xs ys status printed result none other h e k = final_part (P input) s t n xs ys status printed result none other h e k

-- ---- the reader and the writer

or_true : (a b : Bool) → b ≡ true → (a || b) ≡ true
or_true true b e = refl
or_true false b e = e

or_first : (a b : Bool) → a ≡ true → (a || b) ≡ true
or_first true b e = refl
or_first false b e = absurd (true≢false (sym e))

or_left : (a b : Bool) → (a || b) ≡ true → b ≡ false → a ≡ true
or_left true b e f = refl
or_left false b e f = absurd (true≢false (sym e ∙ f))

-- `a || (b || c)` from `a || b`
or_wider : (a b c : Bool) → (a || b) ≡ true → (a || (b || c)) ≡ true
or_wider true b c e = refl
or_wider false true c e = refl
or_wider false false c e = absurd (true≢false (sym e))

and_first : (a b : Bool) → (a && b) ≡ true → a ≡ true
and_first true b e = refl
and_first false b e = absurd (true≢false (sym e))

and_second : (a b : Bool) → (a && b) ≡ true → b ≡ true
and_second true b e = e
and_second false b e = absurd (true≢false (sym e))

not_true : (b : Bool) → not b ≡ true → b ≡ false
not_true true e = absurd (true≢false (sym e))
not_true false e = refl

-- all objects were written to the sink
on_sound : (on broken : Bool) → (on && not broken) ≡ true → (on ≡ true) × (broken ≡ false)
on_sound on broken e = (and_first on (not broken) e, not_true broken (and_second on (not broken) e))

pub final_sound : (taken left : Intake) (a b : Stream) (on broken : Bool) (status : ℕ) → (status ≡ 4 → ⊥) → LeavesAt taken left a b (on && not broken) status → broken ≡ false
final_sound taken left a b on broken status other (inl h) = (on_sound on broken h.3).1
final_sound taken left a b on broken status other (inr h) = absurd (other h.0)

pub final_whole : (taken left : Intake) (a b : Stream) (on : Bool) (status : ℕ) → (status ≡ 4 → ⊥) → LeavesAt taken left a b on status → IsReadWhole taken left
final_whole taken left a b on status other (inl h) = h.1
final_whole taken left a b on status other (inr h) = absurd (other h.0)

-- the flags of a watched writer before the run
quiet : (s : Stream) (f : Bool) → s.failed ≡ false → f ≡ false → (s.failed || f) ≡ false
quiet s f watched e = or_from s.failed f watched e

-- a run that doesn't end with status 4, with a last line
abbrev pub LeavesSo : Intake → Intake → Stream → Stream → Bool → Result ℕ AllocError → Type 0
LeavesSo taken left s n handed result = IfOk result (λ st. LeavesAt taken left s n handed st)

last_leaves : {T : Type 0} (taken left : Intake) (s t n : Stream) (out : List ℕ) (handed : Bool) (status : ℕ) (printed : Result T PrintFault) (result : Result ℕ AllocError)
    → IsFinal status → IsReadWhole taken left → t.failed ≡ s.failed → PrintsAll t n (json_text out) printed → IfOk printed (λ _. handed ≡ true) → Ends printed status result → LeavesSo taken left s n handed result
last_leaves taken left s t n out handed status (Ok done) result final whole same wrote all_on e =
    subst (LeavesSo taken left s n handed) (sym e) (inl (final, whole, wrote.1 ∙ same, all_on))
last_leaves taken left s t n out handed status (Err Write) result final whole same wrote all_on e =
    subst (LeavesSo taken left s n handed) (sym e) (inr (refl, inr (whole, wrote.1)))
last_leaves taken left s t n out handed status (Err Memory) (Ok x) final whole same wrote all_on e = absurd (true≢false (sym e))
last_leaves taken left s t n out handed status (Err Memory) (Err x) final whole same wrote all_on e = tt

handed_all : {T : Type 0} (on handed : Bool) (printed : Result T PrintFault) → on ≡ true → IfOk printed (λ _. on ≡ true → handed ≡ true) → IfOk printed (λ _. handed ≡ true)
handed_all on handed (Ok done) is goes = goes is
handed_all on handed (Err x) is goes = tt

pub final_leaves : {T : Type 0} (taken left : Intake) (s t n : Stream) (xs ys : List ℕ) (f g on broken handed : Bool) (status : ℕ) (printed : Result T PrintFault) (result : Result ℕ AllocError)
    → f ≡ false → s.failed ≡ false → (status ≡ 4 → ⊥) → PrintsAll t n (json_text ys) printed → IfOk printed (λ _. on ≡ true → handed ≡ true) → Ends printed status result
    → LeavesAt taken left (text_stream s xs f) (text_stream t ys g) (on && not broken) status → LeavesSo taken left s n handed result
final_leaves taken left s t n xs ys f g on broken handed status printed result start watched other wrote goes e (inr h) = absurd (other h.0)
final_leaves taken left s t n xs ys f g on broken handed status printed result start watched other wrote goes e (inl h) =
    let flag : (t.failed || g) ≡ false = h.2 ∙ quiet s f watched start in
    let same : t.failed ≡ s.failed = (or_parts t.failed g flag).0 ∙ sym watched in
    last_leaves taken left s t n ys handed status printed result h.0 h.1 same wrote (handed_all on handed printed (on_sound on broken h.3).0 goes) e

-- what the writer of lines says when it is given up
abbrev pub Unprinted : Stream → Stream → List ℕ → Bool → Bool → Type 0
Unprinted t n text g broken = text ≡ [] → g ≡ false → Stays t n × (broken ≡ false)

abbrev pub Reports : Stream → Stream → Bool → Bool → Bool → Type 0
Reports t n g broken refused = (t.failed || (g || broken)) ≡ true → (broken && refused) ≡ false → n.failed ≡ true

-- a run that ends with status 4, and not since memory ran out
pub cut_leaves : (taken left : Intake) (s t n : Stream) (xs ys : List ℕ) (f g on broken refused handed : Bool) (status : ℕ) → xs ≡ [] → f ≡ false → s.failed ≡ false → status ≡ 4
    → Unprinted t n ys g broken → Reports t n g broken refused → (broken && refused) ≡ false
    → LeavesAt taken left (text_stream s xs f) (text_stream t ys g) on status → LeavesAt taken left s n handed 4
cut_leaves taken left s t n xs ys f g on broken refused handed status none start watched four unprinted reports enough (inl h) = absurd (not_final status four h.0)
cut_leaves taken left s t n xs ys f g on broken refused handed status none start watched four unprinted reports enough (inr (e, inl (read, stays))) =
    let same = kept s t xs ys none stays.0 in
    let flag : (t.failed || g) ≡ false = stays.1 ∙ quiet s f watched start in
    inr (refl, inl (read, stays_from s t n same.0 (unprinted same.1 (or_parts t.failed g flag).1).0))
cut_leaves taken left s t n xs ys f g on broken refused handed status none start watched four unprinted reports enough (inr (e, inr (whole, failed))) =
    inr (refl, inr (whole, reports (or_wider t.failed g broken failed) enough))

-- if memory ran out for an object, the input was read
pub refused_whole : (taken left : Intake) (s t n : Stream) (xs ys : List ℕ) (f g on broken refused : Bool) (status : ℕ) → xs ≡ [] → f ≡ false → s.failed ≡ false → status ≡ 4
    → Unprinted t n ys g broken → (broken && refused) ≡ true
    → LeavesAt taken left (text_stream s xs f) (text_stream t ys g) on status → IsReadWhole taken left
refused_whole taken left s t n xs ys f g on broken refused status none start watched four unprinted memory (inl h) = absurd (not_final status four h.0)
refused_whole taken left s t n xs ys f g on broken refused status none start watched four unprinted memory (inr (e, inl (read, stays))) =
    let same = kept s t xs ys none stays.0 in
    let flag : (t.failed || g) ≡ false = stays.1 ∙ quiet s f watched start in
    absurd (true≢false (sym (and_first broken refused memory) ∙ (unprinted same.1 (or_parts t.failed g flag).1).1))
refused_whole taken left s t n xs ys f g on broken refused status none start watched four unprinted memory (inr (e, inr (whole, failed))) = whole

pub or_whole : (taken left : Intake) (result : Result ℕ AllocError) → IsReadWhole taken left → OnErr result (IsReadWhole taken left)
or_whole taken left (Ok status) whole = tt
or_whole taken left (Err e) whole = whole

-- ---- live runs

-- an object wasn't written, and memory didn't run out
pub broken_reports : (t n : Stream) (g broken refused : Bool) → broken ≡ true → (broken && refused) ≡ false → Reports t n g broken refused → n.failed ≡ true
broken_reports t n g broken refused is enough reports = reports (or_true t.failed (g || broken) (or_true g broken is)) enough

abbrev pub Answers : Type 1
Answers = List (List ℕ) → ℕ → List ℕ → Type 0

-- an object wasn't written
pub broken_cut : (P : Answers) (before : ℕ) (all : List (List ℕ)) (left : Intake) (s t n : Stream) (ls : List (List ℕ)) (line xs : List ℕ) (f g on broken : Bool) (ran : Result ℕ Unanswered)
    → xs ≡ [] → Cuts t n ls → broken ≡ true → LiveEndedAt before P all left (text_stream s xs f) (text_stream t (text_of ls ++ line) g) (on && not broken) ran → IsBroken (IsJsonOf P) all s n
broken_cut P before all left s t n ls line xs f g on broken (Ok status) none cuts is (inl (final, (out, p, wrote, handed))) = absurd (true≢false (sym is ∙ (on_sound on broken handed).1))
broken_cut P before all left s t n ls line xs f g on broken (Ok status) none cuts is (inr (four, inl (read, handed, rest))) = absurd (true≢false (sym is ∙ (on_sound on broken handed).1))
broken_cut P before all left s t n ls line xs f g on broken (Ok status) none cuts is (inr (four, inr (lines, st, out, first, p, wrote))) =
    (lines, st, json_text out, first, (out, p, refl), cut_of s t n ls line xs out none cuts wrote.0)
broken_cut P before all left s t n ls line xs f g on broken (Err LineMemory) none cuts is h = absurd (true≢false (sym is ∙ (on_sound on broken h.0).1))
broken_cut P before all left s t n ls line xs f g on broken (Err LineTooLong) none cuts is h = absurd (true≢false (sym is ∙ (on_sound on broken h.0).1))

cut_off : (P : Answers) (all : List (List ℕ)) (s n : Stream) → n.failed ≡ true → IsBroken P all s n → IsCutOff P all s n
cut_off P all s n failed (lines, st, out, first, p, wrote) = (lines, st, out, first, p, (wrote, failed))

pub if_broken : (o : Option (List ℕ)) (P : List ℕ → Answers) (before : List ℕ → ℕ) (all : List ℕ → List (List ℕ)) (left : Intake) (s t n : Stream) (ls : List (List ℕ)) (line xs : List ℕ) (f g on broken handed : Bool) (ran : Result ℕ Unanswered)
    → xs ≡ [] → Cuts t n ls → broken ≡ true → n.failed ≡ true
    → IfSome o (λ input. LiveEndedAt (before input) (P input) (all input) left (text_stream s xs f) (text_stream t (text_of ls ++ line) g) (on && not broken) ran)
    → IfSome o (λ input. JsonEndedAt (before input) (IsJsonOf (P input)) (all input) left s n handed (Ok 4))
if_broken None P before all left s t n ls line xs f g on broken handed ran none cuts is failed h = tt
if_broken (Some input) P before all left s t n ls line xs f g on broken handed ran none cuts is failed h =
    inr (refl, inr (cut_off (IsJsonOf (P input)) (all input) s n failed (broken_cut (P input) (before input) (all input) left s t n ls line xs f g on broken ran none cuts is h)))

pub if_out_of_memory : (o : Option (List ℕ)) (P : List ℕ → Answers) (before : List ℕ → ℕ) (all : List ℕ → List (List ℕ)) (left : Intake) (s t n : Stream) (ls : List (List ℕ)) (line xs : List ℕ) (f g on broken handed : Bool) (ran : Result ℕ Unanswered)
    → xs ≡ [] → Cuts t n ls → broken ≡ true
    → IfSome o (λ input. LiveEndedAt (before input) (P input) (all input) left (text_stream s xs f) (text_stream t (text_of ls ++ line) g) (on && not broken) ran)
    → IfSome o (λ input. JsonEndedAt (before input) (IsJsonOf (P input)) (all input) left s n handed (Err LineMemory))
if_out_of_memory None P before all left s t n ls line xs f g on broken handed ran none cuts is h = tt
if_out_of_memory (Some input) P before all left s t n ls line xs f g on broken handed ran none cuts is h =
    inr (broken_cut (P input) (before input) (all input) left s t n ls line xs f g on broken ran none cuts is h)

-- a run whose objects were all written: the answered lines, or nothing was written
record Reached (P : Answers) (all : List (List ℕ)) (s t : Stream) (ys : List ℕ) : Type 0 where
  same : Same s t
  answers : (ys ≡ []) ⊎ ((lines : List (List ℕ)) × (status : ℕ) × AreFirst all lines × P lines status ys)

answered : (P : Answers) (all lines : List (List ℕ)) (s t : Stream) (xs ys out : List ℕ) (status : ℕ) → xs ≡ [] → AreFirst all lines → P lines status out → Appends (Some (mark s ++ xs)) (Some (mark t ++ ys)) out → Reached P all s t ys
answered P all lines s t xs ys out status none first p wrote =
    let same = grown s t xs ys out none wrote in
    record { same = same.0; answers = inr (lines, status, first, subst (P lines status) (sym same.1) p) }

-- no write of text failed
no_cut : (s t : Stream) (xs ys out : List ℕ) (f g : Bool) → xs ≡ [] → s.failed ≡ false → g ≡ false → GrowsPreceding (text_stream s xs f) (text_stream t ys g) out → ⊥
no_cut s t xs ys out f g none watched end ((front, back, is, wrote), failed) =
    let same = grown s t xs ys front none wrote in
    true≢false (sym failed ∙ or_from t.failed g (same.0.1 ∙ watched) end)

reached : (P : Answers) (before : ℕ) (all : List (List ℕ)) (left : Intake) (s t : Stream) (xs ys : List ℕ) (f g on : Bool) (ran : Result ℕ Unanswered)
    → xs ≡ [] → s.failed ≡ false → g ≡ false → LiveEndedAt before P all left (text_stream s xs f) (text_stream t ys g) on ran → Reached P all s t ys
reached P before all left s t xs ys f g on (Ok status) none watched end (inl (final, (out, p, wrote, handed))) = answered P all all s t xs ys out status none ([], sym (append-nil all)) p wrote.0
reached P before all left s t xs ys f g on (Ok status) none watched end (inr (four, inl (read, handed, inl stays))) =
    let same = kept s t xs ys none stays.0 in
    record { same = same.0; answers = inl same.1 }
reached P before all left s t xs ys f g on (Ok status) none watched end (inr (four, inl (read, handed, inr (lines, st, out, first, may, p, wrote)))) = answered P all lines s t xs ys out st none first p wrote.0
reached P before all left s t xs ys f g on (Ok status) none watched end (inr (four, inr (lines, st, out, first, p, wrote))) = absurd (no_cut s t xs ys out f g none watched end wrote)
reached P before all left s t xs ys f g on (Err LineMemory) none watched end (handed, (lines, st, out, first, may, p, wrote)) = answered P all lines s t xs ys out st none first p wrote.0
reached P before all left s t xs ys f g on (Err LineTooLong) none watched end (handed, (lines, st, out, first, may, p, wrote)) = answered P all lines s t xs ys out st none first p wrote.0

-- the JSON of what was answered
json_up_to : (May : MayStop) (P : Answers) (all : List (List ℕ)) (s t n : Stream) (xs ys : List ℕ) (f g : Bool) → xs ≡ [] → Grows t n (json_text ys)
    → IsUpTo May P all (text_stream s xs f) (text_stream t ys g) → IsUpTo May (IsJsonOf P) all s n
json_up_to May P all s t n xs ys f g none printed (lines, st, out, first, may, p, wrote) =
    let same = grown s t xs ys out none wrote.0 in
    (lines, st, json_text out, first, may, (out, p, refl), grows_from s t n (json_text out) same.0 (subst (λ (zs : List ℕ). Grows t n (json_text zs)) same.1 printed))

all_printed : (P : Answers) (before : ℕ) (all : List (List ℕ)) (left : Intake) (s t n : Stream) (xs ys : List ℕ) (f g on handed : Bool) (ran : Result ℕ Unanswered)
    → xs ≡ [] → s.failed ≡ false → g ≡ false → Grows t n (json_text ys) → (on ≡ true → handed ≡ true)
    → LiveEndedAt before P all left (text_stream s xs f) (text_stream t ys g) on ran → JsonEndedAt before (IsJsonOf P) all left s n handed ran
all_printed P before all left s t n xs ys f g on handed (Ok status) none watched end printed goes (inl (final, (out, p, wrote, all_on))) =
    let same = grown s t xs ys out none wrote.0 in
    inl (final, (json_text out, (out, p, refl), grows_from s t n (json_text out) same.0 (subst (λ (zs : List ℕ). Grows t n (json_text zs)) same.1 printed), goes all_on))
all_printed P before all left s t n xs ys f g on handed (Ok status) none watched end printed goes (inr (four, inl (read, all_on, inl stays))) =
    let same = kept s t xs ys none stays.0 in
    let nothing : Grows t n [] = subst (λ (zs : List ℕ). Grows t n (json_text zs)) same.1 printed in
    inr (four, inl (read, goes all_on, inl (stays_from s t n same.0 (keeps_of t.contents n.contents nothing.0, nothing.1))))
all_printed P before all left s t n xs ys f g on handed (Ok status) none watched end printed goes (inr (four, inl (read, all_on, inr up))) =
    inr (four, inl (read, goes all_on, inr (json_up_to Anywhere P all s t n xs ys f g none printed up)))
all_printed P before all left s t n xs ys f g on handed (Ok status) none watched end printed goes (inr (four, inr (lines, st, out, first, p, wrote))) = absurd (no_cut s t xs ys out f g none watched end wrote)
all_printed P before all left s t n xs ys f g on handed (Err LineMemory) none watched end printed goes (all_on, up) = inl (goes all_on, json_up_to Anywhere P all s t n xs ys f g none printed up)
all_printed P before all left s t n xs ys f g on handed (Err LineTooLong) none watched end printed goes (all_on, up) = (goes all_on, json_up_to (BeforeTooLong before all) P all s t n xs ys f g none printed up)

no_back : (xs ys : List ℕ) → xs ++ ys ≡ [] → ys ≡ []
no_back [] ys e = e
no_back (x ∷ xs) ys e = absurd cc

-- the last line wasn't written, so there is one
part_printed : (P : Answers) (all : List (List ℕ)) (s t n : Stream) (front line : List ℕ) → (line ≡ [] → ⊥) → Reached P all s t (front ++ line) → AppendsPreceding t.contents n.contents (json_text (front ++ line)) → IsBroken (IsJsonOf P) all s n
part_printed P all s t n front line some h wrote = elim h.answers [
  | inl none ↦ absurd (some (no_back front line none))
  | inr answers ↦ (answers.0, answers.1, json_text (front ++ line), answers.2, (front ++ line, answers.3, refl), preceding_from s t n (json_text (front ++ line)) h.same wrote)
]

last_printed : {T : Type 0} (P : Answers) (before : ℕ) (all : List (List ℕ)) (left : Intake) (s t n : Stream) (xs front line : List ℕ) (f g on handed : Bool) (ran result : Result ℕ Unanswered) (printed : Result T PrintFault)
    → xs ≡ [] → s.failed ≡ false → g ≡ false → PrintsAll t n (json_text (front ++ line)) printed → IfOk printed (λ _. on ≡ true → handed ≡ true) → (line ≡ [] → is_ok printed ≡ true) → EndsLive printed ran result
    → LiveEndedAt before P all left (text_stream s xs f) (text_stream t (front ++ line) g) on ran → JsonEndedAt before (IsJsonOf P) all left s n handed result
last_printed P before all left s t n xs front line f g on handed ran result (Ok done) none watched end wrote goes empty e h =
    subst (λ (r : Result ℕ Unanswered). JsonEndedAt before (IsJsonOf P) all left s n handed r) (sym e) (all_printed P before all left s t n xs (front ++ line) f g on handed ran none watched end wrote goes h)
last_printed P before all left s t n xs front line f g on handed ran result (Err Write) none watched end wrote goes empty e h =
    let there = reached P before all left s t xs (front ++ line) f g on ran none watched end h in
    subst (λ (r : Result ℕ Unanswered). JsonEndedAt before (IsJsonOf P) all left s n handed r) (sym e)
    (inr (refl, inr (cut_off (IsJsonOf P) all s n wrote.1 (part_printed P all s t n front line (λ is. true≢false (sym (empty is))) there wrote.0))))
last_printed P before all left s t n xs front line f g on handed ran result (Err Memory) none watched end wrote goes empty e h =
    let there = reached P before all left s t xs (front ++ line) f g on ran none watched end h in
    subst (λ (r : Result ℕ Unanswered). JsonEndedAt before (IsJsonOf P) all left s n handed r) (sym e) (inr (part_printed P all s t n front line (λ is. true≢false (sym (empty is))) there wrote.0))

handed_further : {T : Type 0} (on broken handed : Bool) (printed : Result T PrintFault) → IfOk printed (λ _. on ≡ true → handed ≡ true) → IfOk printed (λ _. (on && not broken) ≡ true → handed ≡ true)
handed_further on broken handed (Ok done) goes = λ e. goes (and_first on (not broken) e)
handed_further on broken handed (Err x) goes = tt

pub if_printed : {T : Type 0} (o : Option (List ℕ)) (P : List ℕ → Answers) (before : List ℕ → ℕ) (all : List ℕ → List (List ℕ)) (left : Intake) (s t n : Stream) (xs front line : List ℕ) (f g on broken handed : Bool) (ran result : Result ℕ Unanswered) (printed : Result T PrintFault)
    → xs ≡ [] → s.failed ≡ false → g ≡ false → PrintsAll t n (json_text (front ++ line)) printed → IfOk printed (λ _. on ≡ true → handed ≡ true) → (line ≡ [] → is_ok printed ≡ true) → EndsLive printed ran result
    → IfSome o (λ input. LiveEndedAt (before input) (P input) (all input) left (text_stream s xs f) (text_stream t (front ++ line) g) (on && not broken) ran)
    → IfSome o (λ input. JsonEndedAt (before input) (IsJsonOf (P input)) (all input) left s n handed result)
if_printed None P before all left s t n xs front line f g on broken handed ran result printed none watched end wrote goes empty e h = tt
if_printed (Some input) P before all left s t n xs front line f g on broken handed ran result printed none watched end wrote goes empty e h =
    last_printed (P input) (before input) (all input) left s t n xs front line f g (on && not broken) handed ran result printed none watched end wrote (handed_further on broken handed printed goes) empty e h

same_fault : (left : Intake) (t n : Stream) (ys : List ℕ) (g : Bool) → n.failed ≡ t.failed → g ≡ false → HasFailedLive left (text_stream t ys g) → HasFailedLive left n
same_fault left t n ys g same end (inl read) = inl read
same_fault left t n ys g same end (inr failed) = inr (same ∙ or_left t.failed g failed end)

-- status 4 is that of a failed read or write
pub printed_fault : {T : Type 0} (left : Intake) (s t n : Stream) (xs ys : List ℕ) (g : Bool) (ran result : Result ℕ Unanswered) (printed : Result T PrintFault) → g ≡ false
    → PrintsAll t n (json_text ys) printed → EndsLive printed ran result
    → IfOk ran (λ status. status ≡ 4 → HasFailedLive left (text_stream t ys g)) → IfOk result (λ status. status ≡ 4 → HasFailedLive left n)
printed_fault left s t n xs ys g ran result (Ok done) end wrote e h =
    subst (λ (r : Result ℕ Unanswered). IfOk r (λ st. st ≡ 4 → HasFailedLive left n)) (sym e)
    (IfOk-weaker ran (λ st. st ≡ 4 → HasFailedLive left (text_stream t ys g)) (λ st. st ≡ 4 → HasFailedLive left n) (λ st fault four. same_fault left t n ys g wrote.1 end (fault four)) h)
printed_fault left s t n xs ys g ran result (Err Write) end wrote e h = subst (λ (r : Result ℕ Unanswered). IfOk r (λ st. st ≡ 4 → HasFailedLive left n)) (sym e) (λ four. inr wrote.1)
printed_fault left s t n xs ys g ran result (Err Memory) end wrote e h = subst (λ (r : Result ℕ Unanswered). IfOk r (λ st. st ≡ 4 → HasFailedLive left n)) (sym e) tt
