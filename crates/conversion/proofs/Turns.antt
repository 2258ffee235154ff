-- Operations in turn, and the parts of a conversion.
use Rattle.std.proofs.Common.{◌≡◌, refl, ap, sym, ◌∙◌, subst, inl, inr, ◌⊎◌, ℕ, ◌-◌, ◌<◌, ◌≤◌, Bool, true, false, true≢false, List, [], ◌∷◌, ◌++◌, append-nil, append_assoc, length, take, drop, get_or, if◌then◌else◌, Result, Ok, Err, Some, None, arith}
use Rattle.std.specs.Prelude.{OnOk, is_ok}
use Rattle.ir_event.specs.types.Things.{ContextModel}
use Rattle.ir_event.specs.types.declared.refusal.Refusal.{Refusal}
use Rattle.ir_event.specs.types.Words.{is_isolated}
use Rattle.ir_event.specs.trees.Ids.{ids}
use Rattle.ir_event.specs.trees.Meaning.{Operation}
use Rattle.ir_event.specs.trees.WellFormed.{IsWellFormed}
use Rattle.ir_event.specs.Modules.{Module}
use Rattle.conversion.specs.declared.fault.Fault.{Fault}
use Rattle.conversion.specs.declared.legalization.Legalization.{Legalization}
use Rattle.conversion_base.specs.Rewrites.{Rewrite, none, refused, becomes}
use Rattle.conversion_base.specs.Targets.{Aim}
use Rattle.conversion_base.specs.declared.applied_rule.AppliedRule.{AppliedRule}
use Rattle.conversion_base.specs.Legalization.{Outcome, legalised, failed, aborted}
use Rattle.conversion_base.specs.Listing.{casts_among}
use Rattle.conversion_base.specs.Reconciling.{is_cast, go_on, next_collapse, collapsed, all_collapsed}
use Rattle.conversion_base.specs.Conversion.{Ended, converted, given_up, ended_after, next_part, in_turn, ended, ended_at, failing, cast_ended, casts_left, checked, has_no_cast, later_parts}
use Rattle.conversion.specs.States.{State, Applied, Refuses, AnswersAfter, IsOutOfCapacity, Comes, FaultIsOutOfCapacity, Faults, Stands, Ends, EndsWith, EndsAfter, none_of, Converts, Closed, marked}
use Rattle.conversion.specs.Converting.{applied_rules}
use Rattle.conversion_base.proofs.Gone.{no_cast_is_left}
use Rattle.conversion.proofs.Trying.{noted}
use Rattle.ir_event.proofs.of_types.Truths.{rest_at, times_more}

-- ---- one end after another

pub wanted : (e : Ended) (f : Fault) (c : ContextModel) → FaultIsOutOfCapacity c f → Faults e f c
wanted (converted m ks) f c w = w
wanted (given_up r x) f c w = inr w

pub after_both : (js ks : List AppliedRule) (e : Ended) → ended_after (js ++ ks) e ≡ ended_after js (ended_after ks e)
after_both js ks (converted m ns) = ap (converted m) (append_assoc js ks ns)
after_both js ks (given_up r x) = refl

pub after_none : (e : Ended) → ended_after [] e ≡ e
after_none (converted m ns) = refl
after_none (given_up r x) = refl

faults_after : (ks : List AppliedRule) (e : Ended) (f : Fault) (c : ContextModel) → Faults e f c → Faults (ended_after ks e) f c
faults_after ks (converted m ns) f c h = h
faults_after ks (given_up r x) f c h = h

pub part_stops : (g : Module → Ended) (e : Ended) (f : Fault) (c : ContextModel) → Faults e f c → Faults (next_part g e) f c
part_stops g (converted m ks) f c h = wanted (ended_after ks (g m)) f c h
part_stops g (given_up r x) f c h = h

pub part_goes : (g : Module → Ended) (e : Ended) (ks : List AppliedRule) (n : Module) → Stands e ks n → ended_after ks (g n) ≡ next_part g e
part_goes g (converted m js) ks n h = λ i. ended_after (h.0 i) (g (h.1 i))
part_goes g (given_up r x) ks n h = absurd h

stands_after : (js : List AppliedRule) (e : Ended) (ks : List AppliedRule) (n : Module) → Stands e ks n → Stands (ended_after js e) (js ++ ks) n
stands_after js (converted m is) ks n h = (ap (λ ns. js ++ ns) h.0, h.1)
stands_after js (given_up r x) ks n h = absurd h

-- ---- operations in turn

module _ (f : Module → ℕ → Ended) (all : List ℕ) (start : State) where
  -- the remaining operations, after the applied rules, give the same end as all operations
  abbrev pub Turning : List ℕ → List AppliedRule → State → Type 0
  Turning rest ks here = ended_after ks (in_turn f rest here.held) ≡ in_turn f all start.held

  turn_is : (xs : List ℕ) (x : ℕ) (ks : List AppliedRule) (here : State) → 1 ≤ length xs → x ≡ get_or xs 0 x → Turning xs ks here
      → ended_after ks (next_part (in_turn f (take (length xs - 1) (drop 1 xs))) (f here.held x)) ≡ in_turn f all start.held
  turn_is xs x ks here l z h = sym (ap (λ ys. ended_after ks (in_turn f ys here.held)) (rest_at xs x x l z)) ∙ h

  pub turning_stops : (xs : List ℕ) (x : ℕ) (ks : List AppliedRule) (here next : State) (e : Fault) → 1 ≤ length xs → x ≡ get_or xs 0 x → Turning xs ks here → Ends (f here.held x) (Err e) next → Ends (in_turn f all start.held) (Err e) next
  turning_stops xs x ks here next e l z h c =
      subst (λ (d : Ended). Faults d e next.things) (turn_is xs x ks here l z h) (faults_after ks _ e next.things (part_stops _ (f here.held x) e next.things c))

  pub turning_more : (xs : List ℕ) (x : ℕ) (ks js more : List AppliedRule) (here next : State) → 1 ≤ length xs → x ≡ get_or xs 0 x → Turning xs ks here → Ends (f here.held x) (Ok js) next → more ≡ ks ++ js
      → Turning (take (length xs - 1) (drop 1 xs)) more next
  turning_more xs x ks js more here next l z h c e =
      ap (λ ns. ended_after ns (in_turn f (take (length xs - 1) (drop 1 xs)) next.held)) e
      ∙ after_both ks js (in_turn f (take (length xs - 1) (drop 1 xs)) next.held)
      ∙ ap (ended_after ks) (part_goes (in_turn f (take (length xs - 1) (drop 1 xs))) (f here.held x) js next.held c) ∙ turn_is xs x ks here l z h

  pub turning_done : (xs : List ℕ) (ks : List AppliedRule) (here : State) → length xs < 1 → Turning xs ks here → Ends (in_turn f all start.held) (Ok ks) here
  turning_done [] ks here l h = subst (λ (d : Ended). Stands d ks here.held) h (sym (append-nil ks), refl)
  turning_done (x ∷ xs) ks here l h = absurd (omega (arith, l))

pub turning_none : (f : Module → ℕ → Ended) (all : List ℕ) (start : State) → Turning f all start all [] start
turning_none f all start = after_none (in_turn f all start.held)

-- ---- collapsing

-- the remaining steps give the same result as all steps
abbrev pub Collapsing : ℕ → State → ℕ → State → Type 0
Collapsing most start times here = collapsed times here.held ≡ collapsed most start.held

module _ (most : ℕ) (start : State) where
  goes : (a b : Rewrite) (m : Module) (f : Module → Rewrite) (n : Module) → Applied a true m n → f n ≡ go_on f m a
  goes none b m f n c = absurd (true≢false c.0)
  goes (refused e) b m f n c = absurd c
  goes (becomes p) b m f n c = ap f c.1

  pub collapsing_more : (times : ℕ) (here next : State) (b : Bool) → 0 < times → Collapsing most start times here → AnswersAfter (next_collapse here.held) (Ok b) here next → b ≡ true → Collapsing most start (times - 1) next
  collapsing_more times here next b l h a t =
      goes (next_collapse here.held) none here.held (collapsed (times - 1)) next.held (subst (λ c. Applied (next_collapse here.held) c here.held next.held) t a)
      ∙ sym (ap (λ k. collapsed k here.held) (times_more times l)) ∙ h

  ends : (a : Rewrite) (m n p : Module) (f : Module → Rewrite) → Applied a false m n → Stands (ended (go_on f m a) p) [] n
  ends none m n p f c = (refl, c.1)
  ends (refused e) m n p f c = absurd c
  ends (becomes q) m n p f c = absurd (true≢false (sym c.0))

  pub collapsing_ends : (times : ℕ) (here next : State) (b : Bool) → 0 < times → Collapsing most start times here → AnswersAfter (next_collapse here.held) (Ok b) here next → b ≡ false → Ends (ended (collapsed most start.held) start.held) (Ok []) next
  collapsing_ends times here next b l h a t =
      subst (λ (d : Rewrite). Stands (ended d start.held) [] next.held) (sym (ap (λ k. collapsed k here.held) (times_more times l)) ∙ h)
      (ends (next_collapse here.held) here.held next.held start.held (collapsed (times - 1)) (subst (λ c. Applied (next_collapse here.held) c here.held next.held) t a))

  given : (a : Rewrite) (m p : Module) (f : Module → Rewrite) (g : Fault) (c : ContextModel) (e : Refusal) → Refuses a c e → g.refusal ≡ e → g.id ≡ None → Faults (ended (go_on f m a) p) g c
  given none m p f g c e r i n = (n, subst (IsOutOfCapacity c) (sym i) r)
  given (becomes q) m p f g c e r i n = wanted (ended (f q) p) g c (n, subst (IsOutOfCapacity c) (sym i) r)
  given (refused d) m p f g c e (inl is) i n = inl (i ∙ is, n)
  given (refused d) m p f g c e (inr w) i n = inr (n, subst (IsOutOfCapacity c) (sym i) w)

  pub collapsing_stops : (times : ℕ) (here next : State) (e : Refusal) (f : Fault) → 0 < times → Collapsing most start times here → AnswersAfter (next_collapse here.held) (Err e) here next → f.refusal ≡ e → f.id ≡ None
      → Ends (ended (collapsed most start.held) start.held) (Err f) next
  collapsing_stops times here next e f l h a i n =
      subst (λ (d : Rewrite). Faults (ended d start.held) f next.things) (sym (ap (λ k. collapsed k here.held) (times_more times l)) ∙ h)
      (given (next_collapse here.held) here.held start.held (collapsed (times - 1)) f next.things e a i n)

  pub collapsing_done : (times : ℕ) (here : State) → times ≤ 0 → Collapsing most start times here → Ends (ended (collapsed most start.held) start.held) (Ok []) here
  collapsing_done times here l h =
      let e : times ≡ 0 = omega arith in
      subst (λ (d : Rewrite). Stands (ended d start.held) [] here.held) (sym (ap (λ k. collapsed k here.held) e) ∙ h) (refl, refl)

-- ---- casts

pub cast_faults : (x : ℕ) (a : Rewrite) (c : ContextModel) (e : Refusal) (f : Fault) → Refuses a c e → f.refusal ≡ e → f.id ≡ None → Faults (cast_ended x a) f c
cast_faults x none c e f r i n = inr (n, subst (IsOutOfCapacity c) (sym i) r)
cast_faults x (becomes q) c e f r i n = (n, subst (IsOutOfCapacity c) (sym i) r)
cast_faults x (refused d) c e f (inl is) i n = inl (i ∙ is, n)
cast_faults x (refused d) c e f (inr w) i n = inr (n, subst (IsOutOfCapacity c) (sym i) w)

-- a part that applies no rule
pub part_none : (a : Module → Ended) (e : Ended) (ks : List AppliedRule) (n m : Module) → Stands e ks n → Stands (a n) [] m → Stands (next_part a e) ks m
part_none a e ks n m h r =
    subst (λ (d : Ended). Stands d ks m) (part_goes a e ks n h) (subst (λ js. Stands (ended_after ks (a n)) js m) (append-nil ks) (stands_after ks (a n) [] m r))

pub part_faults : (a : Module → Ended) (e : Ended) (ks : List AppliedRule) (n : Module) (f : Fault) (c : ContextModel) → Stands e ks n → Faults (a n) f c → Faults (next_part a e) f c
part_faults a e ks n f c h r = subst (λ (d : Ended). Faults d f c) (part_goes a e ks n h) (faults_after ks (a n) f c r)

-- ---- legalizing an operation

pub legalised_ends : (x : ℕ) (o : Outcome) (t : Legalization) (a b : State) → Comes o (Ok t) a b → t.legal ≡ true → Ends (ended_at x o) (Ok t.applied.items) b
legalised_ends x (legalised p ks deep) t a b c is = (c.1.0, c.1.1.1)
legalised_ends x (failed deep) t a b c is = absurd (true≢false (sym is ∙ c.0))
legalised_ends x (aborted e) t a b c is = absurd c

pub failed_ends : (x : ℕ) (o : Outcome) (t : Legalization) (a b : State) (f : Fault) → Comes o (Ok t) a b → t.legal ≡ false → f.refusal ≡ failing t.limit_reached → f.id ≡ Some x → Ends (ended_at x o) (Err f) b
failed_ends x (legalised p ks deep) t a b f c is r i = absurd (true≢false (sym c.0 ∙ is))
failed_ends x (failed deep) t a b f c is r i = inl (r ∙ ap failing c.1.0, i)
failed_ends x (aborted e) t a b f c is r i = absurd c

pub stopped_ends : (x : ℕ) (o : Outcome) (e : Refusal) (a b : State) (f : Fault) → Comes o (Err e) a b → f.refusal ≡ e → f.id ≡ None → Ends (ended_at x o) (Err f) b
stopped_ends x (legalised p ks deep) e a b f c r i = (i, subst (IsOutOfCapacity b.things) (sym r) c.0)
stopped_ends x (failed deep) e a b f c r i = inr (i, subst (IsOutOfCapacity b.things) (sym r) c.0)
stopped_ends x (aborted d) e a b f c r i = stop c.0
  where
    stop : (e ≡ d) ⊎ IsOutOfCapacity b.things e → ((f.refusal ≡ d) × (f.id ≡ None)) ⊎ FaultIsOutOfCapacity b.things f
    stop (inl is) = inl (r ∙ is, i)
    stop (inr w) = inr (i, subst (IsOutOfCapacity b.things) (sym r) w)

-- ---- a conversion under a mark

module _ (start here end : State) (closing : (well : Bool) → Closed well here end → end ≡ record { things = here.things; held = if well then here.held else start.held; marks = start.marks }) where
  whole : (e : Ended) (r : Result ℕ Fault) → EndsAfter e r here → Closed (is_ok r) here end → Converts e r start end
  whole e (Ok n) c is = subst (λ (m : Module). EndsWith e n m) (sym (ap (λ (s : State). s.held) (closing true is))) c
  whole e (Err f) c is = (subst (λ (d : ContextModel). Faults e f d) (sym (ap (λ (s : State). s.things) (closing false is))) c, ap (λ (s : State). s.held) (closing false is))

pub converted_whole : (f : ContextModel → Module → Ended) (r : Result ℕ Fault) (start stepped here end : State) → stepped ≡ marked start → here.marks ≡ stepped.marks → EndsAfter (f stepped.things stepped.held) r here
    → (well : Bool) → well ≡ is_ok r → Closed well here end → Converts (f start.things start.held) r start end
converted_whole f r start stepped here end e m c well w is =
    whole start here end (λ b k. k (record { marked = start.held; counted = false }) start.marks (noted start stepped here e m)) (f start.things start.held) r (subst (λ (s : State). EndsAfter (f s.things s.held) r here) e c)
    (subst (λ b. Closed b here end) w is)

-- ---- the parts

part_after : (f : Module → Ended) (ks : List AppliedRule) (e : Ended) → next_part f (ended_after ks e) ≡ ended_after ks (next_part f e)
part_after f ks (converted m js) = after_both ks js (f m)
part_after f ks (given_up r x) = refl

later_after : (g : Aim) (ks : List AppliedRule) (e : Ended) → later_parts g (ended_after ks e) ≡ ended_after ks (later_parts g e)
later_after g ks e =
    let f = λ (n : Module). ended (all_collapsed n) n in
    ap (λ d. next_part (checked g) (next_part casts_left d)) (part_after f ks e)
    ∙ ap (next_part (checked g)) (part_after casts_left ks (next_part f e)) ∙ part_after (checked g) ks (next_part casts_left (next_part f e))

later_goes : (g : Aim) (e : Ended) (ks : List AppliedRule) (n : Module) → Stands e ks n → ended_after ks (later_parts g (converted n [])) ≡ later_parts g e
later_goes g (converted m js) ks n h =
    sym (later_after g ks (converted n [])) ∙ (λ i. later_parts g (converted (h.1 i) ((append-nil ks ∙ h.0) i)))
later_goes g (given_up r x) ks n h = absurd h

-- legalization was refused
pub parts_stop : (g : Aim) (e : Ended) (f : Fault) (c : ContextModel) → Faults e f c → Faults (later_parts g e) f c
parts_stop g e f c h = part_stops (checked g) _ f c (part_stops casts_left _ f c (part_stops (λ n. ended (all_collapsed n) n) e f c h))

-- legalization succeeded, and the later parts succeed or are refused
pub parts_go : (g : Aim) (e : Ended) (ks : List AppliedRule) (n : Module) (t : State) → Stands e ks n → Ends (later_parts g (converted n [])) (Ok []) t → Ends (later_parts g e) (Ok ks) t
parts_go g e ks n t h c =
    subst (λ (d : Ended). Stands d ks t.held) (later_goes g e ks n h)
    (subst (λ js. Stands (ended_after ks (later_parts g (converted n []))) js t.held) (append-nil ks) (stands_after ks (later_parts g (converted n [])) [] t.held c))

pub parts_fail : (g : Aim) (e : Ended) (ks : List AppliedRule) (n : Module) (f : Fault) (c : ContextModel) → Stands e ks n → Faults (later_parts g (converted n [])) f c → Faults (later_parts g e) f c
parts_fail g e ks n f c h r = subst (λ (d : Ended). Faults d f c) (later_goes g e ks n h) (faults_after ks (later_parts g (converted n [])) f c r)

-- erasing casts is refused
pub collapse_fails : (g : Aim) (m : Module) (f : Fault) (c : ContextModel) → Faults (ended (all_collapsed m) m) f c → Faults (later_parts g (converted m [])) f c
collapse_fails g m f c h = part_stops (checked g) _ f c (part_stops casts_left _ f c (part_faults (λ n. ended (all_collapsed n) n) (converted m []) [] m f c (refl, refl) h))

-- or replacing casts is refused
pub casts_fail : (g : Aim) (m n : Module) (f : Fault) (c : ContextModel) → Stands (ended (all_collapsed m) m) [] n → Faults (casts_left n) f c → Faults (later_parts g (converted m [])) f c
casts_fail g m n f c h r =
    let first = part_none (λ n. ended (all_collapsed n) n) (converted m []) [] m n (refl, refl) h in
    part_stops (checked g) _ f c (part_faults casts_left _ [] n f c first r)

-- the check ends the conversion
pub check_ends : {A : Type 0} (g : Aim) (m n p : Module) (r : Result A Fault) (t : State) → Stands (ended (all_collapsed m) m) [] n → Stands (casts_left n) [] p → Ends (checked g p) (none_of r) t → Ends (later_parts g (converted m [])) (none_of r) t
check_ends g m n p (Ok u) t h k c =
    let first = part_none (λ n. ended (all_collapsed n) n) (converted m []) [] m n (refl, refl) h in
    part_none (checked g) _ [] p t.held (part_none casts_left _ [] n p first k) c
check_ends g m n p (Err f) t h k c =
    let first = part_none (λ n. ended (all_collapsed n) n) (converted m []) [] m n (refl, refl) h in
    part_faults (checked g) _ [] p f t.things (part_none casts_left _ [] n p first k) c

-- ---- casts that are listed

-- the casts among the operations of a list, one after another
pub add_none : (x : ℕ) (t : Operation) (out : List ℕ) (b : Bool) → b ≡ is_cast x t → b ≡ false → out ≡ out ++ casts_among (x ∷ []) t
add_none x t out b e f = sym (append-nil out) ∙ ap (λ c. out ++ (if c then x ∷ [] else [])) (sym f ∙ e)

pub add_one : (x : ℕ) (t : Operation) (out : List ℕ) (b : Bool) → b ≡ is_cast x t → b ≡ true → out ++ x ∷ [] ≡ out ++ casts_among (x ∷ []) t
add_one x t out b e f = ap (λ c. out ++ (if c then x ∷ [] else [])) (sym f ∙ e)

among_cons : (x : ℕ) (xs : List ℕ) (t : Operation) → casts_among (x ∷ []) t ++ casts_among xs t ≡ casts_among (x ∷ xs) t
among_cons x xs t = go (is_cast x t)
  where
    go : (b : Bool) → (if b then x ∷ [] else []) ++ casts_among xs t ≡ (if b then x ∷ casts_among xs t else casts_among xs t)
    go true = refl
    go false = refl

pub among_more : (t : Operation) (all xs out more : List ℕ) (x : ℕ) → 1 ≤ length xs → x ≡ get_or xs 0 x → out ++ casts_among xs t ≡ casts_among all t → more ≡ out ++ casts_among (x ∷ []) t
    → more ++ casts_among (take (length xs - 1) (drop 1 xs)) t ≡ casts_among all t
among_more t all xs out more x l z h e =
    let rest = take (length xs - 1) (drop 1 xs) in
    ap (λ l. l ++ casts_among rest t) e ∙ append_assoc out (casts_among (x ∷ []) t) (casts_among rest t)
    ∙ ap (λ l. out ++ l) (among_cons x rest t ∙ sym (ap (λ ys. casts_among ys t) (rest_at xs x x l z))) ∙ h

pub among_done : (t : Operation) (all xs out : List ℕ) → length xs < 1 → out ++ casts_among xs t ≡ casts_among all t → out ≡ casts_among all t
among_done t all [] out l h = sym (append-nil out) ∙ h
among_done t all (x ∷ xs) out l h = absurd (omega (arith, l))

pub up_to_all : {A : Type 0} (m : Module) (most : ℕ) (xs : List ℕ) (r : Result A Fault) (s : State) → most ≡ length xs → xs ≡ ids m.tree → Ends (ended (collapsed most m) m) (none_of r) s → Ends (ended (all_collapsed m) m) (none_of r) s
up_to_all m most xs r s e is c = subst (λ k. Ends (ended (collapsed k m) m) (none_of r) s) (e ∙ ap length is) c

-- ---- the remaining casts

is_end : (e : Ended) (ks : List AppliedRule) (n : Module) → Stands e ks n → e ≡ converted n ks
is_end (converted m js) ks n h = λ i. converted (sym h.1 i) (sym h.0 i)
is_end (given_up r x) ks n h = absurd h

pub none_left : {A : Type 0} (m : Module) (r : Result A Fault) (s : State) → IsWellFormed is_isolated m → Ends (casts_left m) (none_of r) s → OnOk r (has_no_cast s.held.tree ≡ true)
none_left m (Ok u) s w e = no_cast_is_left m s.held [] w (is_end (casts_left m) [] s.held e)
none_left m (Err f) s w e = tt

-- the end with the number of applied rules is the end with the list of them
pub counted_end : (e : Ended) (ks : List AppliedRule) (n : ℕ) (s : State) → Ends e (Ok ks) s → n ≡ length ks → EndsAfter e (Ok n) s
counted_end (converted m js) ks n s h is = (is ∙ ap length h.0, h.1)
counted_end (given_up r x) ks n s h is = absurd h

pub located_end : (e : Ended) (ks : List AppliedRule) (s : State) → Ends e (Ok ks) s → applied_rules e ≡ ks
located_end (converted m js) ks s h = sym h.0
located_end (given_up r x) ks s h = absurd h

-- a property of the current module is kept when the mark is closed
pub kept_whole : (P : Module → Type 0) (r : Result ℕ Fault) (start stepped here end : State) → stepped ≡ marked start → here.marks ≡ stepped.marks → OnOk r (P here.held) → (well : Bool) → well ≡ is_ok r → Closed well here end → OnOk r (P end.held)
kept_whole P (Err f) start stepped here end e m h well w c = tt
kept_whole P (Ok n) start stepped here end e m h well w c =
    let closed : Closed true here end = subst (λ b. Closed b here end) w c in
    let is = closed (record { marked = start.held; counted = false }) start.marks (noted start stepped here e m) in
    subst P (sym (ap (λ (s : State). s.held) is)) h
