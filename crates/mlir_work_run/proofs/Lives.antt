-- Proofs about live runs, line by line.
use Rattle.std.proofs.Common.{◌≡◌, ◌∙◌, sym, ap, refl, subst, ℕ, ◌+◌, ◌<◌, ◌≤◌, List, [], ◌∷◌, ◌++◌, ◌^◌, length, length-append, append-nil, append_assoc, arith, Bool, true, false, ◌⊎◌, inl, inr, Option, Some, None, Result, Ok, Err, IfOk}
use Rattle.std.specs.Prelude.{IfSome, ⊤}
use Rattle.std.specs.Io.KnownBytes.{IsAtEnd}
use Rattle.ir_event.specs.types.declared.refusal.Refusal.TheVariants.{Memory}
use Rattle.std.proofs.lemmas.List.{append_cancel_right}
use Rattle.ir_event.specs.Modules.{Module}
use Rattle.mlir_work_run.specs.Feeding.{IfBroken, IsMore, StartsLong, TakesLine, TakesModule, waiting}
use Rattle.mlir_work_run.proofs.Feeds.{keeps_join}
use Rattle.mlir_work_run.specs.declared.feed.LineError.{LineError}
use Rattle.mlir_work_run.specs.declared.feed.LineError.TheVariants.{Broken, Memory as OutOfMemory, TooMany}
use Rattle.mlir_work_session.specs.Commands.{line_says}
use Rattle.mlir_work_session.specs.Expecting.{line_expects}
use Rattle.mlir_work_session.specs.Lines.{is_newline, line_of, after_line, onto_first}
use Rattle.mlir_work_session.specs.Limits.{most_script_bytes}
use Rattle.mlir_work_session.specs.Machine.{State}
use Rattle.mlir_work_session.specs.Output.{Begun, IsAnswered, Sitting, accepted_after, number_after, opening, worse}
use Rattle.mlir_work_session.specs.Panels.{Shown}
use Rattle.mlir_work_session.specs.Parts.{module_text, script_text}
use Rattle.mlir_work_session.specs.Reads.{Intake}
use Rattle.mlir_work_session.specs.Replies.{module_refused_line}
use Rattle.mlir_work_session.specs.Registry.{RegistryModel}
use Rattle.mlir_work_session.specs.WriteFault.{WriteFault}
use Rattle.mlir_work_session.specs.Writes.{Fails, Grows, GrowsPreceding, Stays, Stream, joined}
use Rattle.mlir_work_session.proofs.Joins.{preceding_join, preceding_more, grows_fails, grows_join, grows_none, grows_stays}
use Rattle.mlir_work_session.proofs.Runs.{line_answered, status_before, worse_after}
use Rattle.mlir_work_run.specs.Ends.{HandedOut, IsFinal}
use Rattle.mlir_work_run.specs.Live.{Anywhere, AreFirst, BeforeTooLong, HasFailedLive, IsLive, IsLiveOf, IsTooLong, IsUpTo, Live, LiveEnded, LiveEndedAt, LiveLeaves, Lives, MayStop, divider_bytes, exit_of, halt_of, halted_of, whole_lines}
use Rattle.mlir_work_run.specs.Whole.{Setting, session_setting_at}
use Rattle.mlir_work_run.specs.declared.live.Unanswered.{Unanswered}
use Rattle.mlir_work_run.specs.declared.live.Unanswered.TheVariants.{Memory as LineMemory, TooLong as LineTooLong}
use Rattle.mlir_work_run.specs.declared.live.Halt.{Halt}
use Rattle.mlir_work_run.specs.declared.live.Halt.TheVariants.{Read as ReadFailed, Write as WriteFailed, Memory as NoMemory, TooLong}

-- ---- lines

-- a line that ends with its line feed, or is the last one
abbrev pub IsWhole : List ℕ → List ℕ → Type 0
IsWhole line rest = ((xs : List ℕ) → whole_lines (line ++ xs) ≡ line ∷ whole_lines xs) ⊎ ((rest ≡ []) × (whole_lines line ≡ line ∷ []))

-- the first line of a text, with its line feed, and the other lines
abbrev pub FirstOf : List ℕ → Type 0
FirstOf bs = (line : List ℕ) × (bs ≡ line ++ after_line bs) × (whole_lines bs ≡ line ∷ whole_lines (after_line bs)) × IsWhole line (after_line bs)

first_at : (b : ℕ) (bs : List ℕ) (t : Bool) → is_newline b ≡ t → (bs ≡ []) ⊎ FirstOf bs → FirstOf (b ∷ bs)
first_at b bs true e h = (b ∷ [], rw e refl, rw e refl, inl (λ xs. rw e refl))
first_at b bs false e (inl none) = (b ∷ [], rw (e, none) refl, rw (e, none) refl, inr (rw (e, none) refl, rw e refl))
first_at b bs false e (inr (line, is, lines, inl closed)) = (b ∷ line, rw e (ap (λ (xs : List ℕ). b ∷ xs) is), rw e (ap (onto_first b) lines), inl (λ xs. rw e (ap (onto_first b) (closed xs))))
first_at b bs false e (inr (line, is, lines, inr (none, one))) = (b ∷ line, rw e (ap (λ (xs : List ℕ). b ∷ xs) is), rw e (ap (onto_first b) lines), inr (rw e none, rw e (ap (onto_first b) one)))

pub first_of : (bs : List ℕ) → (bs ≡ []) ⊎ FirstOf bs
first_of [] = inl refl
first_of (b ∷ bs) = inr (first_at b bs (is_newline b) refl (first_of bs))

-- a taken line is the first line of the pending input
abbrev IsNext : Option (List ℕ) → Option (List ℕ) → List ℕ → Type 0
IsNext None new line = ⊤
IsNext (Some all) None line = ⊥
IsNext (Some all) (Some rest) line = whole_lines all ≡ line ∷ whole_lines rest

next_of : (all rest line : List ℕ) → all ≡ line ++ rest → rest ≡ after_line all → 0 < length line → (all ≡ []) ⊎ FirstOf all → whole_lines all ≡ line ∷ whole_lines rest
next_of all rest line is trailing lt (inl none) = absurd (omega (arith, lt, sym (ap length is) ∙ ap length none, length-append line rest))
next_of all rest line is trailing lt (inr (first, cut, lines, whole)) =
    let same : line ≡ first = append_cancel_right line first (after_line all) (sym (ap (λ (xs : List ℕ). line ++ xs) trailing) ∙ sym is ∙ cut) in
    lines ∙ ap (λ (xs : List ℕ). xs ∷ whole_lines (after_line all)) (sym same) ∙ ap (λ (xs : List ℕ). line ∷ whole_lines xs) (sym trailing)

next_line : (a b : Option (List ℕ)) (line : List ℕ) → TakesLine a b line → 0 < length line → IsNext a b line
next_line None b line h lt = tt
next_line (Some all) None line h lt = absurd h
next_line (Some all) (Some rest) line h lt = next_of all rest line h.0 h.2 lt (first_of all)

-- the first line of the pending input is longer than so many bytes
abbrev IsNextLong : ℕ → List ℕ → Type 0
IsNextLong most all = (line : List ℕ) × (whole_lines all ≡ line ∷ whole_lines (after_line all)) × (most < length line)

next_long_of : (most : ℕ) (all : List ℕ) → StartsLong most (Some all) → (all ≡ []) ⊎ FirstOf all → IsNextLong most all
next_long_of most all long (inl none) = absurd (let l = rw none at long in omega (arith, l))
next_long_of most all long (inr (line, is, lines, whole)) = (line, lines, omega (arith, long, ap length is, length-append line (after_line all)))

next_long : (most : ℕ) (all : List ℕ) → StartsLong most (Some all) → IsNextLong most all
next_long most all long = next_long_of most all long (first_of all)

pub joined_both : (xs ys : List (List ℕ)) → joined (xs ++ ys) ≡ joined xs ++ joined ys
joined_both [] ys = refl
joined_both (x ∷ xs) ys = ap (λ (zs : List ℕ). x ++ zs) (joined_both xs ys) ∙ sym (append_assoc x (joined xs) (joined ys))

joined_one : (lines : List (List ℕ)) (line : List ℕ) → joined (lines ++ line ∷ []) ≡ joined lines ++ line
joined_one lines line = joined_both lines (line ∷ []) ∙ ap (λ (xs : List ℕ). joined lines ++ xs) (append-nil line)

-- the first lines, and one more
with_next : (all others : List (List ℕ)) (lines : List (List ℕ)) (line : List ℕ) → all ≡ lines ++ line ∷ others → AreFirst all (lines ++ line ∷ [])
with_next all others lines line cut = (others, cut ∙ sym (append_assoc lines (line ∷ []) others))

-- ---- answered lines

module _ (setting : Setting) (before : ℕ) (begun : Sitting) where
  -- these lines were answered so, and the answers to further lines may follow
  pub record Goes (lines : List (List ℕ)) (read n : ℕ) (s : Sitting) (accepted : Bool) (out : List ℕ) : Type 0 where
    pub goes : (more : List (List ℕ)) (later : ℕ) (rest : List ℕ) → Lives setting read n s more later rest → Lives setting before 1 begun (lines ++ more) (worse accepted later) (out ++ rest)

  goes_none : Goes [] before 1 begun true []
  goes_none = record { goes = λ more later rest h. h }

  -- these lines are all lines so far
  goes_so_far : (lines : List (List ℕ)) (read n : ℕ) (s : Sitting) (accepted : Bool) (out : List ℕ) → Goes lines read n s accepted out → Lives setting before 1 begun lines (worse accepted 0) out
  goes_so_far lines read n s accepted out h = rw (append-nil, append-nil) at (h.goes [] 0 [] (refl, refl))

  -- one more line is answered
  goes_step : (lines : List (List ℕ)) (read n : ℕ) (s t : Sitting) (accepted : Bool) (out line reported_out : List ℕ) (reported : Option Bool) → Goes lines read n s accepted out → length line ≤ most_script_bytes → IsAnswered (session_setting_at setting (read + length line)) n s (line_expects (line_of line)) (line_says (line_of line)) t reported reported_out →
      Goes (lines ++ line ∷ []) (read + length line) (number_after n reported) t (accepted_after accepted reported) (out ++ reported_out)
  goes_step lines read n s t accepted out line reported_out reported h short answered = record {
    goes = λ more later rest k.
        let step = line_answered (λ m x st o. Lives setting (read + length line) m x more st o) (session_setting_at setting (read + length line)) n s (line_expects (line_of line)) (line_says (line_of line)) t reported reported_out answered later rest k in
        let all = h.goes (line ∷ more) (status_before reported later) (reported_out ++ rest) (short, step) in
        rw (append_assoc, append_assoc, ← worse_after) all;
  }

  -- the state after some lines of the pending input
  abbrev pub Lived : Option (List ℕ) → Option (List ℕ) → ℕ → ℕ → Sitting → Bool → Stream → Stream → Type 0
  Lived None new read n s accepted a b = ⊤
  Lived (Some all) None read n s accepted a b = ⊥
  Lived (Some all) (Some left) read n s accepted a b =
      (lines : List (List ℕ)) × (out : List ℕ) × (whole_lines all ≡ lines ++ whole_lines left) × Grows a b out × Goes lines read n s accepted out
      × (read ≡ before + length (joined lines))

  pub lived_none : (o : Option (List ℕ)) (a : Stream) → Lived o o before 1 begun true a a
  lived_none None a = tt
  lived_none (Some all) a = ([], [], refl, grows_none a, goes_none, omega arith)

  pub lived_step : (o mid new : Option (List ℕ)) (read more n : ℕ) (s t : Sitting) (accepted : Bool) (a b c : Stream) (line reported_out : List ℕ) (reported : Option Bool) → Lived o mid read n s accepted a b → TakesLine mid new line → 0 < length line → length line ≤ most_script_bytes → more ≡ read + length line →
      IsAnswered (session_setting_at setting more) n s (line_expects (line_of line)) (line_says (line_of line)) t reported reported_out → Grows b c reported_out → Lived o new more (number_after n reported) t (accepted_after accepted reported) a c
  lived_step None mid new read more n s t accepted a b c line reported_out reported h takes some short is answered wrote = tt
  lived_step (Some all) None new read more n s t accepted a b c line reported_out reported h takes some short is answered wrote = absurd h
  lived_step (Some all) (Some left) None read more n s t accepted a b c line reported_out reported h takes some short is answered wrote = absurd takes
  lived_step (Some all) (Some left) (Some rest) read more n s t accepted a b c line reported_out reported (lines, out, cut, grows, goes, bytes) takes some short is answered wrote =
      let next = next_line (Some left) (Some rest) line takes some in (
        lines ++ line ∷ [],
        out ++ reported_out,
        cut ∙ ap (λ (xs : List (List ℕ)). lines ++ xs) next ∙ sym (append_assoc lines (line ∷ []) (whole_lines rest)),
        grows_join a b c out reported_out grows wrote,
        rw is (goes_step lines read n s t accepted out line reported_out reported goes short (rw is at answered)),
        omega (arith, is, bytes, ap length (joined_one lines line), length-append (joined lines) line),
      )

  -- no input is pending any more
  pub lived_end : (o left : Option (List ℕ)) (read n : ℕ) (s : Sitting) (accepted handed : Bool) (status : ℕ) (a b : Stream) → Lived o left read n s accepted a b → IsAtEnd left → handed ≡ true → status ≡ worse accepted 0 → IfSome o (λ script. LiveEnded before (Lives setting before 1 begun) (whole_lines script) a b handed (Ok status))
  lived_end None left read n s accepted handed status a b h end on is = tt
  lived_end (Some all) None read n s accepted handed status a b h end on is = absurd h
  lived_end (Some all) (Some left) read n s accepted handed status a b (lines, out, cut, grows, goes, bytes) end on is =
      let none : left ≡ [] = end in
      let all_lines : whole_lines all ≡ lines = cut ∙ ap (λ (xs : List ℕ). lines ++ whole_lines xs) none ∙ append-nil lines in
      (out, rw (all_lines, is) (goes_so_far lines read n s accepted out goes), grows, on)

  so_far : (all left : List ℕ) (read n : ℕ) (s : Sitting) (accepted : Bool) (a b : Stream) → Lived (Some all) (Some left) read n s accepted a b → IsUpTo Anywhere (Lives setting before 1 begun) (whole_lines all) a b
  so_far all left read n s accepted a b (lines, out, cut, grows, goes, bytes) = (lines, worse accepted 0, out, (whole_lines left, cut), tt, goes_so_far lines read n s accepted out goes, grows)

  -- the next line is too long
  up_to_long : (all left : List ℕ) (read n : ℕ) (s : Sitting) (accepted : Bool) (a b : Stream) (line : List ℕ) (others : List (List ℕ)) → Lived (Some all) (Some left) read n s accepted a b → whole_lines left ≡ line ∷ others → (most_script_bytes < length line) ⊎ (2 ^ 64 ≤ read + length line) →
      IsUpTo (BeforeTooLong before (whole_lines all)) (Lives setting before 1 begun) (whole_lines all) a b
  up_to_long all left read n s accepted a b line others (lines, out, cut, grows, goes, bytes) next why =
      let more : whole_lines all ≡ lines ++ line ∷ others = cut ∙ ap (λ (xs : List (List ℕ)). lines ++ xs) next in
      let long : IsTooLong before lines line = elim why [ inl many ↦ inl many | inr huge ↦ inr (rw bytes at huge) ] in
      (lines, worse accepted 0, out, (whole_lines left, cut), (line, with_next (whole_lines all) others lines line more, long), goes_so_far lines read n s accepted out goes, grows)

  -- the next line can't be taken
  halted_so : (halt : LineError) (all left : List ℕ) (read n : ℕ) (s : Sitting) (accepted : Bool) (a b : Stream) (handed : Bool) → handed ≡ true → (halt ≡ TooMany → StartsLong most_script_bytes (Some left)) → Lived (Some all) (Some left) read n s accepted a b → LiveEnded before (Lives setting before 1 begun) (whole_lines all) a b handed (Err (halt_of halt))
  halted_so Broken all left read n s accepted a b handed on long h = (on, inr (so_far all left read n s accepted a b h))
  halted_so OutOfMemory all left read n s accepted a b handed on long h = (on, so_far all left read n s accepted a b h)
  halted_so TooMany all left read n s accepted a b handed on long h =
      let next = next_long most_script_bytes left (long refl) in
      (on, up_to_long all left read n s accepted a b next.0 (whole_lines (after_line left)) h next.1 (inl next.2))

  pub lived_halts : (o left : Option (List ℕ)) (read n : ℕ) (s : Sitting) (accepted handed : Bool) (a b : Stream) (stop : LineError) (halt : Halt) → Lived o left read n s accepted a b → handed ≡ true → halt ≡ halt_of stop → (stop ≡ TooMany → StartsLong most_script_bytes left) → IfSome o (λ script. LiveEnded before (Lives setting before 1 begun) (whole_lines script) a b handed (Err halt))
  lived_halts None left read n s accepted handed a b stop halt h on is long = tt
  lived_halts (Some all) None read n s accepted handed a b stop halt h on is long = absurd h
  lived_halts (Some all) (Some left) read n s accepted handed a b stop halt h on is long = rw is (halted_so stop all left read n s accepted a b handed on long h)

  -- the number of bytes doesn't fit into 64 bits
  pub lived_huge : (o mid new : Option (List ℕ)) (read n : ℕ) (s : Sitting) (accepted handed : Bool) (a b : Stream) (line : List ℕ) → Lived o mid read n s accepted a b → TakesLine mid new line → 0 < length line → 2 ^ 64 ≤ read + length line → handed ≡ true → IfSome o (λ script. LiveEnded before (Lives setting before 1 begun) (whole_lines script) a b handed (Err TooLong))
  lived_huge None mid new read n s accepted handed a b line h takes some huge on = tt
  lived_huge (Some all) None new read n s accepted handed a b line h takes some huge on = absurd h
  lived_huge (Some all) (Some left) None read n s accepted handed a b line h takes some huge on = absurd takes
  lived_huge (Some all) (Some left) (Some rest) read n s accepted handed a b line h takes some huge on =
      (on, up_to_long all left read n s accepted a b line (whole_lines rest) h (next_line (Some left) (Some rest) line takes some) (inr huge))

  -- a write of the line's answer failed
  pub lived_cut : (o mid new : Option (List ℕ)) (read more n : ℕ) (s t : Sitting) (accepted handed : Bool) (a b c : Stream) (line reported_out : List ℕ) (reported : Option Bool) → Lived o mid read n s accepted a b → TakesLine mid new line → 0 < length line → length line ≤ most_script_bytes → more ≡ read + length line →
      IsAnswered (session_setting_at setting more) n s (line_expects (line_of line)) (line_says (line_of line)) t reported reported_out → GrowsPreceding b c reported_out → IfSome o (λ script. LiveEnded before (Lives setting before 1 begun) (whole_lines script) a c handed (Err WriteFailed))
  lived_cut None mid new read more n s t accepted handed a b c line reported_out reported h takes some short is answered wrote = tt
  lived_cut (Some all) None new read more n s t accepted handed a b c line reported_out reported h takes some short is answered wrote = absurd h
  lived_cut (Some all) (Some left) None read more n s t accepted handed a b c line reported_out reported h takes some short is answered wrote = absurd takes
  lived_cut (Some all) (Some left) (Some rest) read more n s t accepted handed a b c line reported_out reported (lines, out, cut, grows, goes, bytes) takes some short is answered wrote =
      let next = next_line (Some left) (Some rest) line takes some in
      let step = goes_step lines read n s t accepted out line reported_out reported goes short (rw is at answered) in (
        lines ++ line ∷ [],
        worse (accepted_after accepted reported) 0,
        out ++ reported_out,
        (whole_lines rest, cut ∙ ap (λ (xs : List (List ℕ)). lines ++ xs) next ∙ sym (append_assoc lines (line ∷ []) (whole_lines rest))),
        goes_so_far (lines ++ line ∷ []) (read + length line) (number_after n reported) t (accepted_after accepted reported) (out ++ reported_out) step,
        preceding_join a b c out reported_out grows wrote,
      )

-- ---- a module and the lines after it

module _ (setting : Setting) (boxes : List Shown) (m : Module) (before : ℕ) where
  live_of : (s : State) (accepted : Bool) (preceding : List ℕ) → Begun setting.options.ends boxes m s accepted preceding → (lines : List (List ℕ)) (later : ℕ) (rest : List ℕ) → Lives setting before 1 (opening setting.start s) lines later rest → Live setting boxes m before lines (worse accepted later) (preceding ++ rest)
  live_of s accepted preceding h lines later rest k = record { begun = s; accepted = accepted; preceding = preceding; later = later; rest = rest; begins = h; lives = k; status_is = refl; out_is = refl }

  abbrev After : State → List ℕ → Bool → Stream → Stream → Type 0
  After s preceding accepted a b = Begun setting.options.ends boxes m s accepted preceding × Grows a b preceding

  up_to_after : (May : MayStop) (s : State) (accepted : Bool) (preceding : List ℕ) (all : List (List ℕ)) (a b c : Stream) → After s preceding accepted a b → IsUpTo May (Lives setting before 1 (opening setting.start s)) all b c → IsUpTo May (Live setting boxes m before) all a c
  up_to_after May s accepted preceding all a b c (h, wrote) (lines, later, rest, first, may, lives, more) = (lines, worse accepted later, preceding ++ rest, first, may, live_of s accepted preceding h lines later rest lives, grows_join a b c preceding rest wrote more)

  -- nothing was written after the answer to the module
  none_after : (s : State) (accepted : Bool) (preceding : List ℕ) (all : List (List ℕ)) (a b c : Stream) → After s preceding accepted a b → Stays b c → IsUpTo Anywhere (Live setting boxes m before) all a c
  none_after s accepted preceding all a b c (h, wrote) stays = ([], worse accepted 0, preceding ++ [], (all, refl), tt, live_of s accepted preceding h [] 0 [] (refl, refl), rw append-nil (grows_stays a b c preceding wrote stays))

  -- the status of the lines, and of the whole run
  abbrev pub worse_of : Bool → Result ℕ Halt → Result ℕ Halt
  worse_of accepted (Ok status) = Ok (worse accepted status)
  worse_of accepted (Err halt) = Err halt

  trailing : (s : State) (accepted : Bool) (preceding : List ℕ) (all : List (List ℕ)) (a b c : Stream) (handed : Bool) (r q : Result ℕ Halt) → q ≡ worse_of accepted r → After s preceding accepted a b → LiveEnded before (Lives setting before 1 (opening setting.start s)) all b c handed r → LiveEnded before (Live setting boxes m before) all a c handed q
  trailing s accepted preceding all a b c handed (Ok later) q is (h, wrote) (rest, lives, more, on) = rw is (preceding ++ rest, live_of s accepted preceding h all later rest lives, grows_join a b c preceding rest wrote more, on)
  trailing s accepted preceding all a b c handed (Err ReadFailed) q is had (on, inl stays) = rw is (on, inr (none_after s accepted preceding all a b c had stays))
  trailing s accepted preceding all a b c handed (Err ReadFailed) q is had (on, inr h) = rw is (on, inr (up_to_after Anywhere s accepted preceding all a b c had h))
  trailing s accepted preceding all a b c handed (Err NoMemory) q is had (on, h) = rw is (on, up_to_after Anywhere s accepted preceding all a b c had h)
  trailing s accepted preceding all a b c handed (Err TooLong) q is had (on, h) = rw is (on, up_to_after (BeforeTooLong before all) s accepted preceding all a b c had h)
  trailing s accepted preceding all a b c handed (Err WriteFailed) q is (h, wrote) (lines, later, rest, first, lives, more) = rw is (lines, worse accepted later, preceding ++ rest, first, live_of s accepted preceding h lines later rest lives, preceding_join a b c preceding rest wrote more)

  after_if : (o : Option (List ℕ)) (s : State) (accepted : Bool) (preceding : List ℕ) (a b c : Stream) (handed : Bool) (r q : Result ℕ Halt) → q ≡ worse_of accepted r → Begun setting.options.ends boxes m s accepted preceding → Grows a b preceding →
      IfSome o (λ script. LiveEnded before (Lives setting before 1 (opening setting.start s)) (whole_lines script) b c handed r) → IfSome o (λ script. LiveEnded before (Live setting boxes m before) (whole_lines script) a c handed q)
  after_if None s accepted preceding a b c handed r q is h wrote more = tt
  after_if (Some script) s accepted preceding a b c handed r q is h wrote more = trailing s accepted preceding (whole_lines script) a b c handed r q is (h, wrote) more

  -- the registry was empty at the first line
  pub after_registry : (o : Option (List ℕ)) (s : State) (registry : RegistryModel) (accepted : Bool) (preceding : List ℕ) (a b c : Stream) (handed : Bool) (r q : Result ℕ Halt) → registry ≡ setting.start → q ≡ worse_of accepted r → Begun setting.options.ends boxes m s accepted preceding → Grows a b preceding →
      IfSome o (λ script. LiveEnded before (Lives setting before 1 (record { state = s; registry = registry })) (whole_lines script) b c handed r) → IfSome o (λ script. LiveEnded before (Live setting boxes m before) (whole_lines script) a c handed q)
  after_registry o s registry accepted preceding a b c handed r q none is h wrote more =
      after_if o s accepted preceding a b c handed r q is h wrote (subst (λ (k : RegistryModel). IfSome o (λ script. LiveEnded before (Lives setting before 1 (record { state = s; registry = k })) (whole_lines script) b c handed r)) none more)

  -- a write of the answer to the module failed
  pub begun_cut : (o : Option (List ℕ)) (s : State) (accepted : Bool) (preceding : List ℕ) (a b : Stream) (handed : Bool) → Begun setting.options.ends boxes m s accepted preceding → GrowsPreceding a b preceding → IfSome o (λ script. LiveEnded before (Live setting boxes m before) (whole_lines script) a b handed (Err WriteFailed))
  begun_cut None s accepted preceding a b handed h wrote = tt
  begun_cut (Some script) s accepted preceding a b handed h wrote = ([], worse accepted 0, preceding ++ [], (whole_lines script, refl), live_of s accepted preceding h [] 0 [] (refl, refl), preceding_more a b preceding [] wrote)

-- ---- weakening the end of a run

module _ (P Q : List (List ℕ) → ℕ → List ℕ → Type 0) (so : (lines : List (List ℕ)) (st : ℕ) (o : List ℕ) → P lines st o → Q lines st o) where
  pub up_to_so : (May : MayStop) (all : List (List ℕ)) (a b : Stream) → IsUpTo May P all a b → IsUpTo May Q all a b
  up_to_so May all a b (lines, st, o, first, may, p, h) = (lines, st, o, first, may, so lines st o p, h)

  pub ended_so : (before : ℕ) (all : List (List ℕ)) (a b : Stream) (handed : Bool) (r : Result ℕ Halt) → LiveEnded before P all a b handed r → LiveEnded before Q all a b handed r
  ended_so before all a b handed (Ok st) (o, p, h, on) = (o, so all st o p, h, on)
  ended_so before all a b handed (Err ReadFailed) (on, inl h) = (on, inl h)
  ended_so before all a b handed (Err ReadFailed) (on, inr h) = (on, inr (up_to_so Anywhere all a b h))
  ended_so before all a b handed (Err NoMemory) (on, h) = (on, up_to_so Anywhere all a b h)
  ended_so before all a b handed (Err TooLong) (on, h) = (on, up_to_so (BeforeTooLong before all) all a b h)
  ended_so before all a b handed (Err WriteFailed) (lines, st, o, first, p, h) = (lines, st, o, first, so lines st o p, h)

  pub if_ended_so : (before : ℕ) (o : Option (List ℕ)) (a b : Stream) (handed : Bool) (r : Result ℕ Halt) → IfSome o (λ script. LiveEnded before P (whole_lines script) a b handed r) → IfSome o (λ script. LiveEnded before Q (whole_lines script) a b handed r)
  if_ended_so before None a b handed r h = tt
  if_ended_so before (Some script) a b handed r h = ended_so before (whole_lines script) a b handed r h

-- the module is refused
pub refused_so : (P : List (List ℕ) → ℕ → List ℕ → Type 0) (R : ℕ → List ℕ → Type 0) (before : ℕ) (all : List (List ℕ)) (a b : Stream) (handed : Bool) (r : Result ℕ WriteFault) (q : Result ℕ Halt) → q ≡ halted_of r → ((lines : List (List ℕ)) (st : ℕ) (o : List ℕ) → R st o → P lines st o) → HandedOut R a b handed r → LiveEnded before P all a b handed q
refused_so P R before all a b handed (Ok st) q is so (o, p, h, on) = rw is (o, so all st o p, h, on)
refused_so P R before all a b handed (Err e) q is so (st, o, p, h) = rw is ([], st, o, (all, refl), so [] st o p, h)

pub refused_if : (P : List (List ℕ) → ℕ → List ℕ → Type 0) (R : ℕ → List ℕ → Type 0) (before : ℕ) (o : Option (List ℕ)) (a b : Stream) (handed : Bool) (r : Result ℕ WriteFault) (q : Result ℕ Halt) → q ≡ halted_of r → ((lines : List (List ℕ)) (st : ℕ) (out : List ℕ) → R st out → P lines st out) → HandedOut R a b handed r → IfSome o (λ script. LiveEnded before P (whole_lines script) a b handed q)
refused_if P R before None a b handed r q is so h = tt
refused_if P R before (Some script) a b handed r q is so h = refused_so P R before (whole_lines script) a b handed r q is so h

-- nothing was written before
module _ (P : List (List ℕ) → ℕ → List ℕ → Type 0) (all : List (List ℕ)) (a b c : Stream) (stays : Stays a b) where
  then_grows : (o : List ℕ) → Grows b c o → Grows a c o
  then_grows o h = grows_join a b c [] o (grows_stays a a b [] (grows_none a) stays) h

  then_up_to : (May : MayStop) → IsUpTo May P all b c → IsUpTo May P all a c
  then_up_to May (lines, st, o, first, may, p, h) = (lines, st, o, first, may, p, then_grows o h)

  then_stays : Stays b c → Stays a c
  then_stays h = (keeps_join a.contents b.contents c.contents stays.0 h.0, h.1 ∙ stays.1)

  pub then_ended : (before : ℕ) (handed : Bool) (r : Result ℕ Halt) → LiveEnded before P all b c handed r → LiveEnded before P all a c handed r
  then_ended before handed (Ok st) (o, p, h, on) = (o, p, then_grows o h, on)
  then_ended before handed (Err ReadFailed) (on, inl h) = (on, inl (then_stays h))
  then_ended before handed (Err ReadFailed) (on, inr h) = (on, inr (then_up_to Anywhere h))
  then_ended before handed (Err NoMemory) (on, h) = (on, then_up_to Anywhere h)
  then_ended before handed (Err TooLong) (on, h) = (on, then_up_to (BeforeTooLong before all) h)
  then_ended before handed (Err WriteFailed) (lines, st, o, first, p, h) = (lines, st, o, first, p, preceding_join a b c [] o (grows_stays a a b [] (grows_none a) stays) h)

-- ---- whole inputs

-- the bytes of an input before its first line
abbrev pub before_lines : List ℕ → ℕ
before_lines input = length (module_text input) + divider_bytes

module _ (setting : Setting) (boxes : List Shown) where
  -- how a live run on an input ends
  abbrev pub Ends : Option (List ℕ) → Stream → Stream → Bool → Result ℕ Halt → Type 0
  Ends o a b handed r = IfSome o (λ input. LiveEnded (before_lines input) (IsLiveOf setting boxes input) (whole_lines (script_text input)) a b handed r)

  -- the module was taken, and then the module and the lines after it were answered
  pub live_ran : (o left : Option (List ℕ)) (text : List ℕ) (a b c : Stream) (handed : Bool) (r : Result ℕ Halt) → TakesModule (waiting [] o) left text → Stays a b → IfSome left (λ script. LiveEnded (length text + divider_bytes) (IsLive setting boxes text) (whole_lines script) b c handed r) →
      Ends o a c handed r
  live_ran None left text a b c handed r takes stays h = tt
  live_ran (Some input) None text a b c handed r takes stays h = absurd takes
  live_ran (Some input) (Some script) text a b c handed r (is, more) stays h =
      let reported = then_ended (IsLive setting boxes text) (whole_lines script) a b c stays (length text + divider_bytes) handed r h in
      ended_so (IsLive setting boxes (module_text input)) (IsLiveOf setting boxes input) (λ lines st out k. inr k) (before_lines input) (whole_lines (script_text input)) a c handed r (rw (is, more) at reported)

  -- a read failed while the module was read
  pub live_unparsed : (o : Option (List ℕ)) (a b : Stream) (handed : Bool) → handed ≡ true → Stays a b → Ends o a b handed (Err ReadFailed)
  live_unparsed None a b handed on stays = tt
  live_unparsed (Some input) a b handed on stays = (on, inl stays)

  -- memory ran out for the module, or the module is too long
  pub live_refused : (o : Option (List ℕ)) (R : ℕ → List ℕ → Type 0) (Why : List ℕ → Type 0) (a b c : Stream) (handed : Bool) (r : Result ℕ WriteFault) (q : Result ℕ Halt) → q ≡ halted_of r → IfSome o Why → ((input : List ℕ) → Why input → (lines : List (List ℕ)) (st : ℕ) (out : List ℕ) → R st out → IsLiveOf setting boxes input lines st out) → Stays a b → HandedOut R b c handed r →
      Ends o a c handed q
  live_refused None R Why a b c handed r q is why so stays h = tt
  live_refused (Some input) R Why a b c handed r q is why so stays h = then_ended (IsLiveOf setting boxes input) (whole_lines (script_text input)) a b c stays (before_lines input) handed q (refused_so (IsLiveOf setting boxes input) R (before_lines input) (whole_lines (script_text input)) b c handed r q is (so input why) h)

  -- the first flush failed
  pub live_failed : (o : Option (List ℕ)) (a b : Stream) (handed : Bool) → Fails a b → Ends o a b handed (Err WriteFailed)
  live_failed None a b handed fails = tt
  live_failed (Some input) a b handed fails =
      let line = module_refused_line Memory None in
      ([], 3, line, (whole_lines (script_text input), refl), inr (inl (Memory, None, refl, (refl, refl))), grows_fails a a b line [] line refl (grows_none a) fails)

  -- ---- statuses

  at_status : (input : List ℕ) (all : List (List ℕ)) (taken left : Intake) (a b : Stream) (handed : Bool) (r : Result ℕ Halt) → LiveLeaves taken left a b handed r → LiveEnded (before_lines input) (IsLiveOf setting boxes input) all a b handed r → LiveEndedAt (before_lines input) (IsLiveOf setting boxes input) all left a b handed (exit_of r)
  at_status input all taken left a b handed (Ok st) leaves (o, p, h, on) = inl (leaves.0, (o, p, h, on))
  at_status input all taken left a b handed (Err ReadFailed) leaves (on, h) = inr (refl, inl (leaves.0, on, h))
  at_status input all taken left a b handed (Err NoMemory) leaves (on, h) = (on, h)
  at_status input all taken left a b handed (Err TooLong) leaves (on, h) = (on, h)
  at_status input all taken left a b handed (Err WriteFailed) leaves h = inr (refl, inr h)

  pub live_at : (o : Option (List ℕ)) (taken left : Intake) (a b : Stream) (handed : Bool) (r : Result ℕ Halt) (q : Result ℕ Unanswered) → q ≡ exit_of r → LiveLeaves taken left a b handed r → Ends o a b handed r →
      IfSome o (λ input. LiveEndedAt (before_lines input) (IsLiveOf setting boxes input) (whole_lines (script_text input)) left a b handed q)
  live_at None taken left a b handed r q is leaves h = tt
  live_at (Some input) taken left a b handed r q is leaves h = rw is (at_status input (whole_lines (script_text input)) taken left a b handed r leaves h)

-- ---- reads and writes

-- what a run leaves after a part that left the reader and the writer without a fault
pub leaves_after : (taken mid left : Intake) (a b c : Stream) (handed : Bool) (r : Result ℕ Halt) → mid.failed ≡ taken.failed → b.failed ≡ a.failed → LiveLeaves mid left b c handed r → LiveLeaves taken left a c handed r
leaves_after taken mid left a b c handed (Ok st) read wrote h = (h.0, h.1 ∙ read, h.2 ∙ wrote, h.3)
leaves_after taken mid left a b c handed (Err ReadFailed) read wrote h = (h.0, h.1 ∙ wrote, h.2)
leaves_after taken mid left a b c handed (Err WriteFailed) read wrote h = (h.0 ∙ read, h.1)
leaves_after taken mid left a b c handed (Err NoMemory) read wrote h = (h.0 ∙ read, h.1 ∙ wrote, h.2)
leaves_after taken mid left a b c handed (Err TooLong) read wrote h = (h.0 ∙ read, h.1 ∙ wrote, h.2)

-- what a run leaves that refuses the module
pub leaves_halted : (P : ℕ → List ℕ → Type 0) (taken left : Intake) (a b : Stream) (handed : Bool) (r : Result ℕ WriteFault) (q : Result ℕ Halt) → q ≡ halted_of r → ((st : ℕ) (o : List ℕ) → P st o → IsFinal st) → left.failed ≡ taken.failed → HandedOut P a b handed r → LiveLeaves taken left a b handed q
leaves_halted P taken left a b handed (Ok st) q is final same (o, p, h, on) = rw is (final st o p, same, h.1, on)
leaves_halted P taken left a b handed (Err e) q is final same (st, o, p, h) = rw is (same, h.1)

-- the next line can't be taken
pub leaves_halts : (taken left : Intake) (a b : Stream) (handed : Bool) (stop : LineError) (halt : Halt) → halt ≡ halt_of stop → IfBroken stop (left.failed ≡ true) (left.failed ≡ taken.failed) → b.failed ≡ a.failed → handed ≡ true → LiveLeaves taken left a b handed (Err halt)
leaves_halts taken left a b handed Broken halt is read wrote on = rw is (read, wrote, on)
leaves_halts taken left a b handed OutOfMemory halt is read wrote on = rw is (read, wrote, on)
leaves_halts taken left a b handed TooMany halt is read wrote on = rw is (read, wrote, on)

final_worse : (accepted : Bool) (status : ℕ) → IsFinal status → IsFinal (worse accepted status)
final_worse true status h = h
final_worse false status h = inr (inl refl)

-- the whole run leaves what its lines leave
pub leaves_worse : (taken left : Intake) (a b : Stream) (handed : Bool) (accepted : Bool) (status worst : ℕ) → worst ≡ worse accepted status → LiveLeaves taken left a b handed (Ok status) → LiveLeaves taken left a b handed (Ok worst)
leaves_worse taken left a b handed accepted status worst is h = rw is (final_worse accepted status h.0, h.1, h.2, h.3)

-- all lines were answered
pub leaves_end : (taken left : Intake) (a b : Stream) (handed : Bool) (accepted : Bool) (status : ℕ) → status ≡ worse accepted 0 → left.failed ≡ taken.failed → b.failed ≡ a.failed → handed ≡ true → LiveLeaves taken left a b handed (Ok status)
leaves_end taken left a b handed accepted status is read wrote on = (rw is (final_worse accepted 0 (inl refl)), read, wrote, on)

not_final : (status : ℕ) → status ≡ 4 → IsFinal status → ⊥
not_final status e (inl h) = omega arith
not_final status e (inr (inl h)) = omega arith
not_final status e (inr (inr h)) = omega arith

-- the status is 4 only if a read or a write failed
pub fault_live : (taken left : Intake) (a b : Stream) (handed : Bool) (r : Result ℕ Halt) (q : Result ℕ Unanswered) → q ≡ exit_of r → LiveLeaves taken left a b handed r → IfOk q (λ status. status ≡ 4 → HasFailedLive left b)
fault_live taken left a b handed (Ok st) q is h = rw is (λ e. absurd (not_final st e h.0))
fault_live taken left a b handed (Err ReadFailed) q is h = rw is (λ e. inl h.0)
fault_live taken left a b handed (Err WriteFailed) q is h = rw is (λ e. inr h.1)
fault_live taken left a b handed (Err NoMemory) q is h = rw is tt
fault_live taken left a b handed (Err TooLong) q is h = rw is tt

-- the pending input before the first read
pub true_of : (o : Option (List ℕ)) → IfSome o (λ input. input ≡ input)
true_of None = tt
true_of (Some input) = refl

pub more_of : (most : ℕ) (o : Option (List ℕ)) → IsMore most (waiting [] o) → IfSome o (λ input. most < length input)
more_of most None h = tt
more_of most (Some input) h = h
