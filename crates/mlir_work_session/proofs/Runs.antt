-- Proofs about runs of scripts, step by step.
use Rattle.std.proofs.Common.{◌≡◌, ℕ, ◌+◌, ◌&&◌, List, [], ◌∷◌, ◌++◌, Bool, true, false, not, refl, sym, subst, ◌∙◌, length, ◌≤◌, ◌<◌, ◌==◌, arith, Option, Some, None, inl, Result, Ok, Err}
use Rattle.std.proofs.lemmas.Bool.Decides.{nat_tests}
use Rattle.ir_event.specs.types.declared.refusal.Refusal.{Refusal}
use Rattle.ir_event.specs.types.declared.refusal.Refusal.TheVariants.{BadCommand, Memory}
use Rattle.mlir_work_transforms.specs.rewriter.Commands.{Replied as Says}
use Rattle.mlir_work_transforms.specs.rewriter.Machine.{Refused}
use Rattle.mlir_work_script.specs.Commands.{Spoken, Nothing, Bad, Obey, Ordered, Registered, line_says}
use Rattle.mlir_work_script.specs.Expecting.{line_expects}
use Rattle.mlir_work_script_base.specs.Lines.{lines_of}
use Rattle.mlir_work_script_base.specs.Writes.{Stream}
use Rattle.mlir_work_transforms.specs.registry.Notices.{IsWithin, Notice, Simple, is_right_under}
use Rattle.ir_event.specs.Modules.{Module}
use Rattle.mlir_work_session.specs.Explained.{IsAbout, about_notice}
use Rattle.mlir_work_session.specs.Output.{IsAnswered, IsEnded, IsLineAnswered, Line, SessionSetting, Replied, Replies, IsReplied, Runs, accepted_after, end_of, number_after, worse, says_nothing, asks, response_lines}
use Rattle.mlir_work_session.specs.Sittings.{Sitting, registered_pattern_of}
use Rattle.mlir_work_session.specs.Ran.{RanOut}
use Rattle.mlir_work_session.proofs.Listings.{some_listing_if}
use Rattle.mlir_work_session.specs.WhyPatterns.{asked_pattern}
use Rattle.mlir_work_session.proofs.WhyPatterns.{named_bounded, some_named as some_ordered}
use Rattle.mlir_work_transforms.proofs.of_registry.Bounds.{within_of}
use Rattle.mlir_work_session.proofs.Owning.{some_next_to}

pub worse_both : (a b : Bool) (later : ℕ) → worse a (worse b later) ≡ worse (a && b) later
worse_both true b later = refl
worse_both false b later = refl

-- an empty line has no effect
pub line_skipped : (Rest : ℕ → Sitting → ℕ → List ℕ → Type 0) (setting : SessionSetting) (n : ℕ) (s : Sitting) (expected : Option Refusal) (spoken : Spoken) (status : ℕ) (out : List ℕ) → says_nothing spoken ≡ true → Rest n s status out → Line Rest setting n s expected spoken status out
line_skipped Rest setting n s expected Nothing status out e h = h
line_skipped Rest setting n s expected Bad status out e h = absurd (let f : false ≡ true = e in cc)
line_skipped Rest setting n s expected (Obey command) status out e h = absurd (let f : false ≡ true = e in cc)
line_skipped Rest setting n s expected (Ordered session_command) status out e h = absurd (let f : false ≡ true = e in cc)
line_skipped Rest setting n s expected (Registered session_command) status out e h = absurd (let f : false ≡ true = e in cc)

pub run_skipped : (setting : SessionSetting) (n : ℕ) (s : Sitting) (text line more : List ℕ) (later : ℕ) (rest : List ℕ) → lines_of text ≡ line ∷ lines_of more → says_nothing (line_says line) ≡ true → Runs setting n s (lines_of more) later rest → Runs setting n s (lines_of text) later rest
run_skipped setting n s text line more later rest e nothing h = rw e (line_skipped (λ m t st o. Runs setting m t (lines_of more) st o) setting n s (line_expects line) (line_says line) later rest nothing h)

pub line_replied : (Rest : ℕ → Sitting → ℕ → List ℕ → Type 0) (setting : SessionSetting) (n : ℕ) (s : Sitting) (expected : Option Refusal) (spoken : Spoken) (status : ℕ) (out : List ℕ) → says_nothing spoken ≡ false → Replied Rest setting n s expected spoken status out → Line Rest setting n s expected spoken status out
line_replied Rest setting n s expected Nothing status out e h = absurd (let f : true ≡ false = e in cc)
line_replied Rest setting n s expected Bad status out e h = h
line_replied Rest setting n s expected (Obey command) status out e h = h
line_replied Rest setting n s expected (Ordered session_command) status out e h = h
line_replied Rest setting n s expected (Registered session_command) status out e h = h

pub runs_replied : (setting : SessionSetting) (n : ℕ) (s : Sitting) (text : List ℕ) (line : List ℕ) (more : List ℕ) (status : ℕ) (out : List ℕ) → lines_of text ≡ line ∷ lines_of more → says_nothing (line_says line) ≡ false → Replied (λ m t st o. Runs setting m t (lines_of more) st o) setting n s (line_expects line) (line_says line) status out → Runs setting n s (lines_of text) status out
runs_replied setting n s text line more status out e f h = rw e (line_replied (λ m t st o. Runs setting m t (lines_of more) st o) setting n s (line_expects line) (line_says line) status out f h)

-- a reply to the first line, followed by a run of the rest, is a run
pub run_step : (setting : SessionSetting) (n : ℕ) (s : Sitting) (text line more : List ℕ) (expected : Option Refusal) (spoken : Spoken) (reply : Notice) (shows : List ℕ) (t : Sitting) (reported : List ℕ) →
    lines_of text ≡ line ∷ lines_of more → expected ≡ line_expects line → spoken ≡ line_says line → false ≡ says_nothing spoken → Replies setting s spoken reply shows t → IsEnded setting.session_options.ends (IsReplied setting.session_options.explain spoken (not setting.session_options.brief && not (asks spoken)) t.state n expected reply shows) reported → IsWithin setting.session_options.bytes reply →
    (later : ℕ) (rest : List ℕ) → Runs setting (n + 1) t (lines_of more) later rest → Runs setting n s (lines_of text) (worse (is_right_under setting.session_options.strict expected reply shows) later) (reported ++ rest)
run_step setting n s text line more expected spoken reply shows t reported e same is f r reported_is full later rest h =
    rw e (line_replied (λ m t st o. Runs setting m t (lines_of more) st o) setting n s (line_expects line) (line_says line) _ _ (rw (← is) (sym f)) (record {
      notice = reply;
      shows = shows;
      after = t;
      text = reported;
      later = later;
      rest = rest;
      replies = rw (← is) r;
      replied = rw (← same, ← is) reported_is;
      full = full;
      goes_on = h;
      status_is = rw (← same) refl;
      out_is = refl;
    }))

-- ---- the lines after an answer

-- the status of a run, from the outcome of the first line and the status of the rest
abbrev pub status_before : Option Bool → ℕ → ℕ
status_before None later = later
status_before (Some accepted) later = worse accepted later

pub worse_after : (accepted : Bool) (reported : Option Bool) (later : ℕ) → worse accepted (status_before reported later) ≡ worse (accepted_after accepted reported) later
worse_after accepted None later = refl
worse_after accepted (Some more) later = worse_both accepted more later

-- a line uses at most one number
pub one_number : (n : ℕ) (reported : Option Bool) → number_after n reported ≤ n + 1
one_number n None = omega arith
one_number n (Some accepted) = omega arith

-- an answer to the first line, followed by a run of the rest, is a run
pub line_answered : (Rest : ℕ → Sitting → ℕ → List ℕ → Type 0) (setting : SessionSetting) (n : ℕ) (s : Sitting) (expected : Option Refusal) (spoken : Spoken) (t : Sitting) (reported : Option Bool) (out : List ℕ) → IsAnswered setting n s expected spoken t reported out →
    (later : ℕ) (rest : List ℕ) → Rest (number_after n reported) t later rest → Line Rest setting n s expected spoken (status_before reported later) (out ++ rest)
line_answered Rest setting n s expected spoken t None out (nothing, same, none) later rest h = rw none (line_skipped Rest setting n s expected spoken later rest nothing (subst (λ (x : Sitting). Rest n x later rest) same h))
line_answered Rest setting n s expected spoken t (Some accepted) out reported later rest h =
    line_replied Rest setting n s expected spoken (worse accepted later) (out ++ rest) reported.something (record {
      notice = reported.notice;
      shows = reported.shows;
      after = t;
      text = out;
      later = later;
      rest = rest;
      replies = reported.replies;
      replied = reported.replied;
      full = reported.full;
      goes_on = h;
      status_is = rw reported.right_is refl;
      out_is = refl;
    })

pub run_answered : (setting : SessionSetting) (n : ℕ) (s : Sitting) (text line more : List ℕ) (t : Sitting) (reported : Option Bool) (out : List ℕ) → lines_of text ≡ line ∷ lines_of more → IsAnswered setting n s (line_expects line) (line_says line) t reported out →
    (later : ℕ) (rest : List ℕ) → Runs setting (number_after n reported) t (lines_of more) later rest → Runs setting n s (lines_of text) (status_before reported later) (out ++ rest)
run_answered setting n s text line more t reported out e answered later rest h = rw e (line_answered (λ m x st o. Runs setting m x (lines_of more) st o) setting n s (line_expects line) (line_says line) t reported out answered later rest h)

-- an answer consists of a reply, the bytes that it shows, a listing and the empty line
pub reported_of : (setting : SessionSetting) (n : ℕ) (s : Sitting) (expected : Option Refusal) (spoken line_spoken : Spoken) (reply : Notice) (shows : List ℕ) (t : Sitting) (text : List ℕ) (accepted : Bool) →
    spoken ≡ line_spoken → false ≡ says_nothing spoken → Replies setting s spoken reply shows t → IsReplied setting.session_options.explain spoken (not setting.session_options.brief && not (asks spoken)) t.state n expected reply shows text → IsWithin setting.session_options.bytes reply → accepted ≡ is_right_under setting.session_options.strict expected reply shows →
    IsLineAnswered setting n s expected line_spoken t accepted (text ++ end_of setting.session_options.ends)
reported_of setting n s expected spoken line_spoken reply shows t text accepted is f r reported full well =
    rw (← is) (record {
      notice = reply;
      shows = shows;
      something = sym f;
      replies = r;
      replied = (text, reported, refl);
      full = full;
      right_is = well;
    })

-- ---- each script has an output

some_about : (explain : Bool) (notice : Notice) (spoken : Spoken) (m : Module) → (about : List ℕ) × IsAbout explain notice spoken m about
some_about false notice spoken m = ([], refl)
some_about true notice spoken m = (about_notice notice spoken m, inl refl)

some_replied : (Rest : ℕ → Sitting → ℕ → List ℕ → Type 0) (setting : SessionSetting) (n : ℕ) (s : Sitting) (expected : Option Refusal) (spoken : Spoken) (reply : Notice) (shows : List ℕ) (t : Sitting) → Replies setting s spoken reply shows t → IsWithin setting.session_options.bytes reply → ((m : ℕ) (t : Sitting) → (st : ℕ) × (o : List ℕ) × Rest m t st o) → (st : ℕ) × (o : List ℕ) × Replied Rest setting n s expected spoken st o
some_replied Rest setting n s expected spoken reply shows t r full some =
    let about = some_about setting.session_options.explain reply spoken t.state.held in
    let more = some_listing_if (not setting.session_options.brief && not (asks spoken)) t.state in
    let rest = some (n + 1) t in
    let reported = (response_lines n expected reply about.0 ++ (shows ++ more.0)) ++ end_of setting.session_options.ends in (
      worse (is_right_under setting.session_options.strict expected reply shows) rest.0,
      reported ++ rest.1,
      record {
        notice = reply;
        shows = shows;
        after = t;
        text = reported;
        later = rest.0;
        rest = rest.1;
        replies = r;
        replied = (response_lines n expected reply about.0 ++ (shows ++ more.0), (about.0, more.0, about.1, more.1, refl), refl);
        full = full;
        goes_on = rest.2;
        status_is = refl;
        out_is = refl;
      },
    )

some_line : (Rest : ℕ → Sitting → ℕ → List ℕ → Type 0) (setting : SessionSetting) (n : ℕ) (s : Sitting) (expected : Option Refusal) (spoken : Spoken) → ((m : ℕ) (t : Sitting) → (st : ℕ) × (o : List ℕ) × Rest m t st o) → (st : ℕ) × (o : List ℕ) × Line Rest setting n s expected spoken st o
some_line Rest setting n s expected Nothing some = some n s
some_line Rest setting n s expected Bad some = some_replied Rest setting n s expected Bad (Simple (Says (Refused BadCommand))) [] s (refl, refl, refl) (λ why offset e. absurd cc) some
some_line Rest setting n s expected (Obey command) some =
    let a = some_next_to setting.session_options (registered_pattern_of command s.registry) s.state command in
    some_replied Rest setting n s expected (Obey command) (Simple a.0) a.1 (record { state = a.2; registry = s.registry }) (a.0, refl, a.3, refl) (within_of setting.session_options.bytes a.0 (λ why offset e. absurd (a.4 why offset e))) some
some_line Rest setting n s expected (Ordered session_command) some =
    let a = some_ordered setting s.registry (asked_pattern session_command s.registry) s.state session_command in
    some_replied Rest setting n s expected (Ordered session_command) (Simple a.0) a.1 (record { state = a.2; registry = s.registry }) (a.0, refl, a.3, refl) (within_of setting.session_options.bytes a.0 (named_bounded setting s.registry setting.session_options.bytes (asked_pattern session_command s.registry) s.state session_command a.0 a.1 a.2 a.3)) some
some_line Rest setting n s expected (Registered session_command) some = some_replied Rest setting n s expected (Registered session_command) (Simple (Says (Refused Memory))) [] s (inl (refl, refl, refl), refl) (λ why offset e. absurd cc) some

-- each script has an output from each state, since each command has an answer
pub some_runs : (setting : SessionSetting) (lines : List (List ℕ)) (n : ℕ) (s : Sitting) → (st : ℕ) × (o : List ℕ) × Runs setting n s lines st o
some_runs setting [] n s = (0, [], (refl, refl))
some_runs setting (line ∷ lines) n s = some_line (λ m t st o. Runs setting m t lines st o) setting n s (line_expects line) (line_says line) (λ m t. some_runs setting lines m t)

pub runs_end : (setting : SessionSetting) (n : ℕ) (s : Sitting) (text : List ℕ) → length text ≤ 0 → Runs setting n s (lines_of text) 0 []
runs_end setting n s [] h = (refl, refl)
runs_end setting n s (b ∷ bs) h = absurd (omega arith)

pub filled : (text : List ℕ) (r : Bool) → r ≡ (length text == 0) → r ≡ false → 0 < length text
filled [] r e f = absurd (let h : true ≡ false = sym e ∙ f in cc)
filled (b ∷ bs) r e f = omega arith

pub emptied : (text : List ℕ) (r : Bool) → r ≡ (length text == 0) → r ≡ true → length text ≤ 0
emptied text r e f = grind (arith, nat_tests)

pub ran_weaker : {E : Type 0} (P Q : ℕ → List ℕ → Type 0) (a b : Stream) (r : Result ℕ E) → ((st : ℕ) (o : List ℕ) → P st o → Q st o) → RanOut P a b r → RanOut Q a b r
ran_weaker P Q a b (Ok st) f (o, p, h) = (o, f st o p, h)
ran_weaker P Q a b (Err e) f (st, o, p, h) = (st, o, f st o p, h)
