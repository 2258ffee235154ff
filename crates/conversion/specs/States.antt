-- The state of a rewriter in a conversion, and how the parts of a conversion change it.
use Rattle.std.specs.Prelude.{◌≡◌, ℕ, ◌≤◌, List, [], ◌∷◌, ◌++◌, Bool, true, false, ◌⊎◌, length, if◌then◌else◌, Option}
use Rattle.std.specs.Prelude.{Result, Ok, Err, Some, None, Vec}
use Rattle.std.specs.declared.alloc.Global.{Global}
use Rattle.ir_event.specs.types.Things.{ContextModel, IsExtendedBy}
use Rattle.ir_event.specs.types.declared.refusal.Refusal.{Refusal}
use Rattle.ir_event.specs.types.declared.refusal.Refusal.TheVariants.{Memory, Full}
use Rattle.ir_event.specs.trees.Ids.{has_id}
use Rattle.ir_event.specs.Modules.{Module}
use Rattle.patterns.specs.rewriter.Held.{TransactionModel}
use Rattle.patterns.specs.runs.Runs.{Noted}
use Rattle.conversion_base.specs.Machine.{OpenMark}
use Rattle.conversion_base.specs.Rewrites.{Rewrite, none, refused, becomes}
use Rattle.conversion.specs.declared.legalization.Legalization.{Legalization}
use Rattle.conversion.specs.declared.fault.Fault.{Fault}
use Rattle.conversion.specs.declared.match_failure.MatchFailure.{MatchFailure}
use Rattle.conversion.specs.declared.conversion_error.ConversionError.{ConversionError}
use Rattle.conversion_base.specs.Rule.{Rule}
use Rattle.conversion_base.specs.declared.applied_rule.AppliedRule.{AppliedRule}
use Rattle.conversion_base.specs.Conversion.{Ended, converted, given_up, failing}
use Rattle.conversion_base.specs.Legalization.{Outcome, legalised, failed, aborted}
use Rattle.conversion.specs.MatchFailures.{reported_failure}
use Rattle.conversion.specs.Waiting.{Freed}

-- the context, the module with terms, and the open marks, newest first
pub record State : Type 0 where
  pub things : ContextModel
  pub held : Module
  pub marks : List OpenMark

-- the transaction with one more mark, not counted, at the end of the journal
abbrev pub marked_transaction : TransactionModel → TransactionModel
marked_transaction h = record h { marks = h.marks ++ record { length = length h.journal; counted = false } ∷ [] }

-- the context stays or grows, the marks stay, the journal of an open mark gains events at its end, and the listeners
-- are notified
pub record Leads {S : Type 0} (state : S → State) (transaction : S → TransactionModel) (led : S → S → Type 0) (old new : S) : Type 0 where
  pub grows : IsExtendedBy (state old).things (state new).things
  pub marks : (state new).marks ≡ (state old).marks
  pub noted : Noted (transaction old) (transaction new)
  pub reported : led old new

-- the state with one more mark, not counted, of the current module
abbrev pub marked : State → State
marked s = record { things = s.things; held = s.held; marks = record { marked = s.held; counted = false } ∷ s.marks }

-- the newest mark was closed and the module kept
abbrev pub Committed : State → State → Type 0
Committed old new = (k : OpenMark) (ks : List OpenMark) → old.marks ≡ k ∷ ks
    → new ≡ record { things = old.things; held = old.held; marks = ks }

-- or the module of the mark was restored
abbrev pub RolledBack : State → State → Type 0
RolledBack old new = (k : OpenMark) (ks : List OpenMark) → old.marks ≡ k ∷ ks
    → new ≡ record { things = old.things; held = k.marked; marks = ks }

-- the context is full
abbrev pub IsFull : ContextModel → Type 0
IsFull c = (16777216 ≤ length c.names) ⊎ ((16777216 ≤ length c.types) ⊎ (16777216 ≤ length c.attrs))

-- a refusal because memory runs out or because the context is full
abbrev pub IsOutOfCapacity : ContextModel → Refusal → Type 0
IsOutOfCapacity c e = (e ≡ Memory) ⊎ ((e ≡ Full) × IsFull c)

-- ---- rules

-- a rewrite, and the result of applying a rule: whether it applied, or a refusal. A refusal is that of the rewrite, or
-- memory or the context is exhausted; the module is unchanged
abbrev pub Applied : Rewrite → Bool → Module → Module → Type 0
Applied none done m n = (done ≡ false) × (n ≡ m)
Applied (becomes p) done m n = (done ≡ true) × (n ≡ p)
Applied (refused e) done m n = ⊥

abbrev pub Refuses : Rewrite → ContextModel → Refusal → Type 0
Refuses none c e = IsOutOfCapacity c e
Refuses (becomes p) c e = IsOutOfCapacity c e
Refuses (refused f) c e = (e ≡ f) ⊎ IsOutOfCapacity c e

abbrev pub Answers : Rewrite → Result Bool Refusal → State → State → Type 0
Answers a (Ok done) s t = Applied a done s.held t.held
Answers a (Err e) s t = Refuses a t.things e × (t.held ≡ s.held)

-- the same, but a refusal leaves the module unspecified
abbrev pub AnswersAfter : Rewrite → Result Bool Refusal → State → State → Type 0
AnswersAfter a (Ok done) s t = Applied a done s.held t.held
AnswersAfter a (Err e) s t = Refuses a t.things e

-- the same, but if the call did nothing, it doesn't say whether there is a rewrite
abbrev pub Looked : Rewrite → Result Bool Refusal → State → State → Type 0
Looked a (Ok true) s t = Applied a true s.held t.held
Looked a (Ok false) s t = t.held ≡ s.held
Looked a (Err e) s t = Refuses a t.things e

-- if an operation was erased, the defining operations of its operands wait again; otherwise nothing changes
abbrev pub FreedIf : Bool → Option (List ℕ) → (ℕ → Option ℕ) → ℕ → List ℕ → ℕ → List ℕ → Type 0
FreedIf true gs f passed again passed2 again2 = Freed gs f passed again passed2 again2
FreedIf false gs f passed again passed2 again2 = (passed2 ≡ passed) × (again2 ≡ again)

-- ---- legalizing

-- the record of a rule that made a module at an operation, where `from` was the next id before
abbrev pub applied_since : Rule → ℕ → ℕ → Module → AppliedRule
applied_since r x from n = record { rule = r; op = x; from = from; until = n.next; stays = has_id x n.tree }

-- an outcome, and the result of an attempt to get there. If the attempt fails or is refused, the module is unchanged.
-- A refusal is that of the outcome, or memory or the context is exhausted
abbrev pub IsLegalization : Outcome → Legalization → Module → Module → Type 0
IsLegalization (legalised p ks deep) t m n = (t.legal ≡ true) × ((t.applied.items ≡ ks) × ((t.limit_reached ≡ deep) × (n ≡ p)))
IsLegalization (failed deep) t m n = (t.legal ≡ false) × ((t.limit_reached ≡ deep) × (n ≡ m))
IsLegalization (aborted e) t m n = ⊥

abbrev pub Stops : Outcome → ContextModel → Refusal → Type 0
Stops (legalised p ks deep) c e = IsOutOfCapacity c e
Stops (failed deep) c e = IsOutOfCapacity c e
Stops (aborted f) c e = (e ≡ f) ⊎ IsOutOfCapacity c e

abbrev pub Comes : Outcome → Result Legalization Refusal → State → State → Type 0
Comes o (Ok t) a b = IsLegalization o t a.held b.held
Comes o (Err e) a b = Stops o b.things e × (b.held ≡ a.held)

-- the same under a mark: if the attempt fails or is refused, the module is unspecified
abbrev pub ReportsAfter : Outcome → Legalization → Module → Type 0
ReportsAfter (legalised p ks deep) t n = (t.legal ≡ true) × ((t.applied.items ≡ ks) × ((t.limit_reached ≡ deep) × (n ≡ p)))
ReportsAfter (failed deep) t n = (t.legal ≡ false) × (t.limit_reached ≡ deep)
ReportsAfter (aborted e) t n = ⊥

abbrev pub ComesAfter : Outcome → Result Legalization Refusal → State → Type 0
ComesAfter o (Ok t) b = ReportsAfter o t b.held
ComesAfter o (Err e) b = Stops o b.things e

-- whether the attempt succeeded
abbrev pub went_well : Result Legalization Refusal → Bool
went_well (Ok t) = t.legal
went_well (Err e) = false

-- the newest mark was closed, and the module kept or restored
abbrev pub Closed : Bool → State → State → Type 0
Closed stays old new = (k : OpenMark) (ks : List OpenMark) → old.marks ≡ k ∷ ks
    → new ≡ record { things = old.things; held = if stays then old.held else k.marked; marks = ks }

-- ---- converting

-- an end, and the result of a call under a mark. If it is refused, the module is unspecified. A fault is that of the
-- end, or memory or the context is exhausted
abbrev pub FaultIsOutOfCapacity : ContextModel → Fault → Type 0
FaultIsOutOfCapacity c f = (f.id ≡ None) × IsOutOfCapacity c f.refusal

abbrev pub Faults : Ended → Fault → ContextModel → Type 0
Faults (converted m ks) f c = FaultIsOutOfCapacity c f
Faults (given_up e x) f c = ((f.refusal ≡ e) × (f.id ≡ x)) ⊎ FaultIsOutOfCapacity c f

-- the end with the applied rules
abbrev pub Stands : Ended → List AppliedRule → Module → Type 0
Stands (converted m ks) ns p = (ns ≡ ks) × (p ≡ m)
Stands (given_up e x) ns p = ⊥

abbrev pub Ends : Ended → Result (List AppliedRule) Fault → State → Type 0
Ends e (Ok ks) s = Stands e ks s.held
Ends e (Err f) s = Faults e f s.things

-- the result of a part that applies no rule
abbrev pub none_of : {A : Type 0} → Result A Fault → Result (List AppliedRule) Fault
none_of (Ok u) = Ok []
none_of (Err f) = Err f

-- the result of a part that applies rules
abbrev pub listed : Result (Vec AppliedRule Global) ConversionError → Result (List AppliedRule) Fault
listed (Ok v) = Ok v.items
listed (Err e) = Err e.fault

-- the match failure that is reported with a fault; a success reports none
abbrev pub Stays : {A : Type 0} → Option (ℕ × MatchFailure) → Result A ConversionError → Type 0
Stays s (Ok u) = s ≡ None
Stays s (Err e) = e.failure ≡ reported_failure e.fault.id s

-- the error at an operation that can't be legalized: that match failure, or memory runs out
abbrev pub StopsAt : Bool → ℕ → MatchFailure → ConversionError → Type 0
StopsAt limit_reached x s e =
    ((e.fault.refusal ≡ failing limit_reached) × ((e.fault.id ≡ Some x) × (e.failure ≡ Some s)))
    ⊎ ((e.fault.refusal ≡ Memory) × ((e.fault.id ≡ None) × (e.failure ≡ None)))

-- the maximum number of applied rules, since each needs an id
abbrev pub most_rules : ℕ
most_rules = 4294967295

-- the end with the number of applied rules
abbrev pub EndsWith : Ended → ℕ → Module → Type 0
EndsWith (converted m ks) n p = (n ≡ length ks) × (p ≡ m)
EndsWith (given_up e x) n p = ⊥

abbrev pub EndsAfter : Ended → Result ℕ Fault → State → Type 0
EndsAfter e (Ok n) s = EndsWith e n s.held
EndsAfter e (Err f) s = Faults e f s.things

-- without a mark: if the call is refused, the module is unchanged
abbrev pub Converts : Ended → Result ℕ Fault → State → State → Type 0
Converts e (Ok n) a b = EndsWith e n b.held
Converts e (Err f) a b = Faults e f b.things × (b.held ≡ a.held)
