-- Proofs about scripts that only print.
use Rattle.std.proofs.Common.{◌≡◌, ◌∙◌, ap, sym, subst, refl, ℕ, ◌+◌, ◌==◌, ◌≤◌, List, [], ◌∷◌, ◌++◌, length, arith, Bool, true, false, true≢false, not, ◌&&◌, ◌||◌, cond, nat_lt, inl, inr, append-nil, append_assoc, map, Option, Some, None, is_some, is_none, Result}
use Rattle.std.specs.List.{list_any, list_all}
use Rattle.std.proofs.lemmas.Bool.{eq-eqb, eqb-true, lt-ltb, ltb-false, ltb-true, and_parts, not-true}
use Rattle.std.proofs.lemmas.List.Recursion.{is_position_or_len}
use Rattle.ir_event.specs.types.declared.refusal.Refusal.{Refusal}
use Rattle.ir_event.specs.types.declared.refusal.Refusal.TheVariants.{Memory}
use Rattle.ir_event.specs.trees.Meaning.{Operation}
use Rattle.ir_event.specs.Modules.{Module}
use Rattle.ir_event.specs.Listener.{Listener}
use Rattle.ir_text.specs.Printing.{text_of}
use Rattle.mlir_work_transforms.specs.rewriter.Commands as said
use Rattle.mlir_work_transforms.specs.rewriter.Commands.{Command, Ask, Replied, TextRefusedAt}
use Rattle.mlir_work_transforms.specs.rewriter.Machine as call
use Rattle.mlir_work_transforms.specs.rewriter.Machine.{State, Done, Refused, Tree, Nothing as NoRows}
use Rattle.mlir_work_transforms.specs.rewriter.Panels.{Shown, all_shown, has_kind, is_kind}
use Rattle.mlir_work_script.specs.Commands.{Spoken, Nothing, Bad, Obey, Ordered, Registered, line_says}
use Rattle.mlir_work_script_base.specs.Lines.{lines_of}
use Rattle.mlir_work_script_base.specs.Writes.{Stream}
use Rattle.mlir_work_script_base.specs.Limits.{most_script_bytes}
use Rattle.mlir_work_session.specs.Machine.{RunsCommand, response_of}
use Rattle.mlir_work_transforms.specs.registry.Notices.{IsWithin, Simple, is_right_under}
use Rattle.mlir_work_transforms.specs.registry.Replies.{is_accepted}
use Rattle.mlir_work_transforms.specs.registry.Registry.{RegistryModel}
use Rattle.mlir_work_transforms.specs.registry.ReplyLines.{reply_line}
use Rattle.mlir_work_session.specs.Explained.{IsAbout}
use Rattle.mlir_work_session.specs.Output.{Attaches, IsEnded, IsReplied, IsSession, SessionOptions, Replies, Runs, Sitting, SessionSetting, asks, end_of, opening, says_nothing, shows_alone, worse}
use Rattle.mlir_work_session.specs.PrintsAlone.{IsPrinted, all_print, is_print, kinds_apart, line_prints, prints_alone}
use Rattle.mlir_work_session.specs.Ran.{RanOut}
use Rattle.mlir_work_transforms.specs.registry.declared.reply.Reply.{Reply}
use Rattle.mlir_work_session.proofs.Panels.{kind_shown}
use Rattle.mlir_work_session.proofs.Runs.{run_step}
use Rattle.mlir_work_session.proofs.Sessions.{ran_weaker}

-- ---- kinds

some_if : {X : Type 0} (b : Bool) (x : X) → is_some (cond b (Some x) None) ≡ b
some_if true x = refl
some_if false x = refl

one_more : (m n k : ℕ) → k ≡ 1 + n → nat_lt (1 + m) k ≡ nat_lt m n
one_more m n k is = same (nat_lt (1 + m) k) (nat_lt m n) refl refl
  where
    same : (s t : Bool) → nat_lt (1 + m) k ≡ s → nat_lt m n ≡ t → s ≡ t
    same true true e f = refl
    same true false e f = absurd (let a = ltb-true (1 + m) k e in let b = ltb-false m n f in omega (arith, a, b, is))
    same false true e f = absurd (let a = ltb-false (1 + m) k e in let b = ltb-true m n f in omega (arith, a, b, is))
    same false false e f = refl

-- the index of the first element that satisfies `p`, or the length of the list if none does
abbrev first_place : {X : Type 0} → (X → Bool) → List X → ℕ
first_place p [] = 0
first_place p (x ∷ xs) = cond (p x) 0 (1 + first_place p xs)

-- the index is below the length iff some element satisfies `p`
place_any : {X : Type 0} (p : X → Bool) (xs : List X) → nat_lt (first_place p xs) (length xs) ≡ list_any p xs
place_any p [] = refl
place_any p (x ∷ xs) = go (place_any p xs) (p x)
  where
    go : nat_lt (first_place p xs) (length xs) ≡ list_any p xs → (t : Bool) → nat_lt (cond t 0 (1 + first_place p xs)) (length (x ∷ xs)) ≡ (t || list_any p xs)
    go ih true = lt-ltb 0 (length (x ∷ xs)) (omega arith)
    go ih false = one_more (first_place p xs) (length xs) (length (x ∷ xs)) (omega arith) ∙ ih

pub kind_any : (k : ℕ) (bs : List Shown) → has_kind k bs ≡ list_any (is_kind k) bs
kind_any k bs = some_if _ _ ∙ ap (λ n. nat_lt n (length bs)) (sym (is_position_or_len (first_place (is_kind k)) (is_kind k) refl (λ x xs. refl) bs)) ∙ place_any (is_kind k) bs

any_last : (k : ℕ) (bs : List Shown) (b : Shown) → list_any (is_kind k) (bs ++ b ∷ []) ≡ (list_any (is_kind k) bs || (b.kind == k))
any_last k [] b = elim (b.kind == k) as (λ t. (t || false) ≡ t) [ true ↦ refl | false ↦ refl ]
any_last k (x ∷ bs) b = rw (any_last k bs b) (or_assoc (x.kind == k) (list_any (is_kind k) bs) (b.kind == k))
  where
    or_assoc : (a b c : Bool) → (a || (b || c)) ≡ ((a || b) || c)
    or_assoc true b c = refl
    or_assoc false b c = refl

-- whether all analyses have different kinds
abbrev are_apart : List Shown → Bool
are_apart [] = true
are_apart (b ∷ bs) = not (has_kind b.kind bs) && are_apart bs

apart_shown : {B : Type 0} (meaning : B → Listener) (bs : List B) → are_apart (all_shown meaning bs) ≡ kinds_apart meaning bs
apart_shown meaning [] = refl
apart_shown meaning (b ∷ bs) = rw (kind_shown meaning (meaning b).kind bs, apart_shown meaning bs) refl

-- an analysis that has begun
abbrev begun : Shown → Shown
begun b = record b { stale = false }

-- whether no analysis of `bs` has the kind of one in `old`
abbrev are_new : List Shown → List Shown → Bool
are_new old bs = list_all (λ b. not (list_any (is_kind b.kind) old)) bs

swapped : (m n : ℕ) → (m == n) ≡ false → (n == m) ≡ false
swapped m n e = not_same (n == m) refl
  where
    not_same : (t : Bool) → (n == m) ≡ t → t ≡ false
    not_same true f = absurd (true≢false (sym (eq-eqb m n (sym (eqb-true n m f))) ∙ e))
    not_same false f = refl

-- analyses of other kinds than those of `old` and than `b` have other kinds than those of `old` and `b` together
still_new : (old : List Shown) (b : Shown) (bs : List Shown) → are_new old bs ≡ true → list_any (is_kind b.kind) bs ≡ false → are_new (old ++ begun b ∷ []) bs ≡ true
still_new old b [] n f = refl
still_new old b (x ∷ bs) n f =
    let h = and_parts _ _ n in
    let other = neither (x.kind == b.kind) (list_any (is_kind b.kind) bs) f in
    rw (any_last x.kind old (begun b), not-true (list_any (is_kind x.kind) old) h.0, swapped x.kind b.kind other.0) (still_new old b bs h.1 other.1)
  where
    neither : (a b : Bool) → (a || b) ≡ false → (a ≡ false) × (b ≡ false)
    neither true b e = absurd (true≢false e)
    neither false b e = (refl, e)

-- analyses of different kinds can all be attached, unless memory runs out
pub apart_attach : (bs old : List Shown) → are_new old bs ≡ true → are_apart bs ≡ true → Attaches bs old (old ++ map begun bs) true []
apart_attach [] old n h = (append-nil old, refl, refl)
apart_attach (b ∷ bs) old n h =
    let new = and_parts _ _ n in
    let apart = and_parts _ _ h in
    let free : has_kind b.kind old ≡ false = kind_any b.kind old ∙ not-true _ new.0 in
    let others : list_any (is_kind b.kind) bs ≡ false = sym (kind_any b.kind bs) ∙ not-true _ apart.0 in
    let rest = apart_attach bs (old ++ begun b ∷ []) (still_new old b bs new.1 others) apart.1 in
    (old ++ begun b ∷ [], None, true, [], (free, record { begun = begun b; same = record { kind = refl; analysis = λ t. refl }; stale = refl; last = refl }), rw (append_assoc old (begun b ∷ []) (map begun bs)) at rest, refl, refl)

all_new : (bs : List Shown) → are_new [] bs ≡ true
all_new [] = refl
all_new (b ∷ bs) = all_new bs

-- ---- lines

-- the only command that prints the module is `print`
the_print : (command : Command) → is_print command ≡ true → command ≡ said.Print
the_print (said.Erase x) e = absurd (true≢false (sym e))
the_print (said.Move x point) e = absurd (true≢false (sym e))
the_print (said.Insert point text) e = absurd (true≢false (sym e))
the_print (said.SetOperand x k v) e = absurd (true≢false (sym e))
the_print (said.Replace old new) e = absurd (true≢false (sym e))
the_print (said.SetAttr x key text) e = absurd (true≢false (sym e))
the_print (said.DropAttr x key) e = absurd (true≢false (sym e))
the_print (said.Canon limit) e = absurd (true≢false (sym e))
the_print (said.Convert target) e = absurd (true≢false (sym e))
the_print said.Sweep e = absurd (true≢false (sym e))
the_print (said.Apply name x) e = absurd (true≢false (sym e))
the_print said.Begin e = absurd (true≢false (sym e))
the_print said.Commit e = absurd (true≢false (sym e))
the_print said.Rollback e = absurd (true≢false (sym e))
the_print (said.Detach kind) e = absurd (true≢false (sym e))
the_print (said.Resync kind) e = absurd (true≢false (sym e))
the_print (said.Report kind) e = absurd (true≢false (sym e))
the_print said.Print e = refl

-- `print` shows the module, or is refused since memory ran out
shown_text : (session_options : SessionOptions) (s : State) → RunsCommand session_options s said.Print (Replied Done) (text_of s.held.tree) s
shown_text session_options s = record { requested = Ask call.Print; shows = Tree s.held.tree; asks = refl; follows = record { answer = inl refl; panel = refl }; text = refl }

shown_none : (session_options : SessionOptions) (s : State) → RunsCommand session_options s said.Print (Replied (Refused Memory)) [] s
shown_none session_options s = record { requested = Ask call.Print; shows = NoRows; asks = refl; follows = record { answer = inr (refl, refl); panel = refl }; text = refl }

answered : (session_options : SessionOptions) (s : State) (reply : Reply) (shows : List ℕ) → IsPrinted s.held.tree reply shows → RunsCommand session_options s said.Print (response_of reply) shows s
answered session_options s reply shows (inl p) = subst (λ (r : Reply). RunsCommand session_options s said.Print (response_of r) shows s) (sym p.0) (subst (λ (o : List ℕ). RunsCommand session_options s said.Print (Replied Done) o s) (sym p.1) (shown_text session_options s))
answered session_options s reply shows (inr p) = subst (λ (r : Reply). RunsCommand session_options s said.Print (response_of r) shows s) (sym p.0) (subst (λ (o : List ℕ). RunsCommand session_options s said.Print (Replied (Refused Memory)) o s) (sym p.1) (shown_none session_options s))

-- a line that prints the module is answered with its text, or with `Memory`
printed : (setting : SessionSetting) (s : Sitting) (spoken : Spoken) (reply : Reply) (shows : List ℕ) → prints_alone spoken ≡ true → says_nothing spoken ≡ false → IsPrinted s.state.held.tree reply shows → Replies setting s spoken (Simple (response_of reply)) shows s
printed setting s Nothing reply shows e f p = absurd (true≢false f)
printed setting s (Ordered session_command) reply shows e f p = absurd (true≢false (sym e))
printed setting s (Registered session_command) reply shows e f p = absurd (true≢false (sym e))
printed setting s Bad reply shows e f p = absurd (true≢false (sym e))
printed setting s (Obey command) reply shows e f p = subst (λ (k : Command). Replies setting s (Obey k) (Simple (response_of reply)) shows s) (sym (the_print command e)) (response_of reply, refl, answered setting.session_options s.state reply shows p, refl)

-- the refusal has no note
untold : (explain : Bool) (m : Module) (t : Operation) (reply : Reply) (shows : List ℕ) → IsPrinted t reply shows → IsAbout explain (Simple (response_of reply)) (Obey said.Print) m []
untold false m t reply shows p = refl
untold true m t reply shows (inl p) = subst (λ (r : Reply). IsAbout true (Simple (response_of r)) (Obey said.Print) m []) (sym p.0) (inl refl)
untold true m t reply shows (inr p) = subst (λ (r : Reply). IsAbout true (Simple (response_of r)) (Obey said.Print) m []) (sym p.0) (inl refl)

-- the answer has no listing
bare : (explain brief : Bool) (s : State) (n : ℕ) (reply : Reply) (shows : List ℕ) → IsPrinted s.held.tree reply shows → IsReplied explain (Obey said.Print) (not brief && false) s n None (Simple (response_of reply)) shows (reply_line n (response_of reply) ++ shows)
bare explain true s n reply shows p = ([], [], untold explain s.held s.held.tree reply shows p, refl, λ i. sym (append-nil (reply_line n (response_of reply))) i ++ sym (append-nil shows) i)
bare explain false s n reply shows p = ([], [], untold explain s.held s.held.tree reply shows p, refl, λ i. sym (append-nil (reply_line n (response_of reply))) i ++ sym (append-nil shows) i)

unlisted : (explain brief : Bool) (s : State) (n : ℕ) (spoken : Spoken) (reply : Reply) (shows : List ℕ) → prints_alone spoken ≡ true → says_nothing spoken ≡ false → IsPrinted s.held.tree reply shows → IsReplied explain spoken (not brief && not (asks spoken)) s n None (Simple (response_of reply)) shows (reply_line n (response_of reply) ++ shows)
unlisted explain brief s n Nothing reply shows e f p = absurd (true≢false f)
unlisted explain brief s n (Ordered session_command) reply shows e f p = absurd (true≢false (sym e))
unlisted explain brief s n (Registered session_command) reply shows e f p = absurd (true≢false (sym e))
unlisted explain brief s n Bad reply shows e f p = absurd (true≢false (sym e))
unlisted explain brief s n (Obey command) reply shows e f p = subst (λ (k : Command). IsReplied explain (Obey k) (not brief && not (shows_alone k)) s n None (Simple (response_of reply)) shows (reply_line n (response_of reply) ++ shows)) (sym (the_print command e)) (bare explain brief s n reply shows p)

-- the answer has no empty line at the end
unended : (ends : Bool) (P : List ℕ → Type 0) (out : List ℕ) → ends ≡ false → P out → IsEnded ends P out
unended ends P out e p = (out, p, sym (ap (λ (b : Bool). out ++ end_of b) e ∙ append-nil out))

-- the lines of a script that only prints, split into the first line and the rest
pub first_prints : (text line more : List ℕ) → lines_of text ≡ line ∷ lines_of more → all_print (lines_of text) ≡ (line_prints line && all_print (lines_of more))
first_prints text line more e = ap all_print e

pub more_print : (text line more : List ℕ) → lines_of text ≡ line ∷ lines_of more → all_print (lines_of text) ≡ true → (line_prints line ≡ true) × (all_print (lines_of more) ≡ true)
more_print text line more e h = and_parts _ _ (sym (first_prints text line more e) ∙ h)

-- the reply has no byte offset
printed_bounded : (bytes : ℕ) (t : Operation) (reply : Reply) (shows : List ℕ) → IsPrinted t reply shows → IsWithin bytes (Simple (response_of reply))
printed_bounded bytes t reply shows (inl h) = subst (λ (r : Reply). IsWithin bytes (Simple (response_of r))) (sym h.0) (λ why offset e. absurd (let f : Simple (Replied Done) ≡ Simple (TextRefusedAt why offset) = e in cc))
printed_bounded bytes t reply shows (inr h) = subst (λ (r : Reply). IsWithin bytes (Simple (response_of r))) (sym h.0) (λ why offset e. absurd (let f : Simple (Replied (Refused Memory)) ≡ Simple (TextRefusedAt why offset) = e in cc))

-- an accepted reply is right, in a strict run too
printed_right : (strict : Bool) (t : Operation) (reply : Reply) (shows : List ℕ) → IsPrinted t reply shows → is_right_under strict None (Simple (response_of reply)) shows ≡ is_accepted (response_of reply)
printed_right false t reply shows p = refl
printed_right true t reply shows (inl p) = subst (λ (r : Reply). is_right_under true None (Simple (response_of r)) shows ≡ is_accepted (response_of r)) (sym p.0) refl
printed_right true t reply shows (inr p) = subst (λ (r : Reply). is_right_under true None (Simple (response_of r)) shows ≡ is_accepted (response_of r)) (sym p.0) refl

none_is : (o : Option Refusal) → is_none o ≡ true → None ≡ o
none_is None e = refl
none_is (Some x) e = absurd (true≢false (sym e))

pub print_step : (setting : SessionSetting) → setting.session_options.ends ≡ false → (n : ℕ) (s : Sitting) (text line more : List ℕ) (reply : Reply) (shows : List ℕ) → lines_of text ≡ line ∷ lines_of more → line_prints line ≡ true → false ≡ says_nothing (line_says line) → IsPrinted s.state.held.tree reply shows →
    (later : ℕ) (rest : List ℕ) → Runs setting (n + 1) s (lines_of more) later rest → Runs setting n s (lines_of text) (worse (is_accepted (response_of reply)) later) ((reply_line n (response_of reply) ++ shows) ++ rest)
print_step setting unend n s text line more reply shows e prints f p later rest h =
    let is = (and_parts _ _ prints).1 in
    subst (λ (b : Bool). Runs setting n s (lines_of text) (worse b later) ((reply_line n (response_of reply) ++ shows) ++ rest)) (printed_right setting.session_options.strict s.state.held.tree reply shows p)
    (run_step setting n s text line more None (line_says line) (Simple (response_of reply)) shows s (reply_line n (response_of reply) ++ shows) e (none_is _ (and_parts _ _ prints).0) refl f (printed setting s (line_says line) reply shows is (sym f) p) (unended setting.session_options.ends (IsReplied setting.session_options.explain (line_says line) (not setting.session_options.brief && not (asks (line_says line))) s.state n None (Simple (response_of reply)) shows) (reply_line n (response_of reply) ++ shows) unend (unlisted setting.session_options.explain setting.session_options.brief s.state n (line_says line) reply shows is (sym f) p)) (printed_bounded setting.session_options.bytes s.state.held.tree reply shows p) later rest h)

-- ---- sessions

-- an output of the printed lines is an output of a session with listeners of different kinds
print_ran : {E : Type 0} (setting : SessionSetting) (start : RegistryModel) → setting.session_options.ends ≡ false → (boxes : List Shown) (m : Module) (script : List ℕ) (a b : Stream) (r : Result ℕ E) → length script ≤ most_script_bytes → are_apart boxes ≡ true →
    RanOut (Runs setting 1 (opening start (record { held = m; marks = []; panel = map begun boxes })) (lines_of script)) a b r → RanOut (IsSession setting start boxes m script) a b r
print_ran setting start unend boxes m script a b r short apart ran =
    ran_weaker (Runs setting 1 (opening start (record { held = m; marks = []; panel = map begun boxes })) (lines_of script)) (IsSession setting start boxes m script) a b r
    (λ st o h. inr (
      short,
      record {
        panel = map begun boxes;
        accepted = true;
        preceding = [];
        later = st;
        rest = o;
        attached = apart_attach boxes [] (all_new boxes) apart;
        runs = h;
        status_is = refl;
        out_is = ap (λ (ends : Bool). end_of ends ++ o) (sym unend);
      },
    )) ran

pub prints_ran : {B E : Type 0} (meaning : B → Listener) (setting : SessionSetting) (start : RegistryModel) → setting.session_options.ends ≡ false → (bs : List B) (m : Module) (script : List ℕ) (a b : Stream) (r : Result ℕ E) → length script ≤ most_script_bytes → kinds_apart meaning bs ≡ true →
    ((panel : List Shown) → RanOut (Runs setting 1 (opening start (record { held = m; marks = []; panel = panel })) (lines_of script)) a b r) → RanOut (IsSession setting start (all_shown meaning bs) m script) a b r
prints_ran meaning setting start unend bs m script a b r short apart ran = print_ran setting start unend (all_shown meaning bs) m script a b r short (apart_shown meaning bs ∙ apart) (ran _)
