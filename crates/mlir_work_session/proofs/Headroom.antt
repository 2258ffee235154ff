-- When a rewriting command is refused with 31: if the machine requires it, or if the context is full.
use Rattle.std.proofs.Common.{◌≡◌, ◌∙◌, sym, ap, refl, ◌⊎◌, inl, inr, subst, ℕ, List, [], Some, None, option_map}
use Rattle.ir_event.specs.types.declared.refusal.Refusal.{Refusal}
use Rattle.ir_event.specs.types.declared.refusal.Refusal.TheVariants.{Full}
use Rattle.mlir_work_transforms.specs.rewriter.Commands.{Command, Response, Replied, RuleName}
use Rattle.mlir_work_transforms.specs.rewriter.Machine.{IsFullSo, Refused, Reply, State, Transformation}
use Rattle.mlir_work_script.specs.SessionCommands.{SessionCommand}
use Rattle.mlir_work_transforms.specs.Applying.{application, applying, rule_named}
use Rattle.mlir_work_transforms.specs.Rule.{Rule}
use Rattle.mlir_work_session.specs.declared.options.SessionOptions.{SessionOptions}
use Rattle.mlir_work_session.specs.Machine.{AsksHeadroom, IsContextFull, RunsSessionCommand, RunsCommand, SessionCommandHeadroom, SessionSetting}

-- the room condition carries over from a reply to the response that carries it
pub replied : (full : Type 0) (s : State) (f : Transformation) (response : Response) (reply : Reply) → response ≡ Replied reply → IsFullSo full s f reply → IsContextFull full s f response
replied full s f response reply is so other e = subst (IsFullSo full s f) (same (sym is ∙ e)) so
  where
    same : Replied reply ≡ Replied other → reply ≡ other
    same i = cc

pub widened : {A added full : Type 0} → (added → full) → A ⊎ added → A ⊎ full
widened more (inl a) = inl a
widened more (inr b) = inr (more b)

-- a refusal with another number satisfies the room condition
pub other_headroom : (full : Type 0) (s : State) (f : Transformation) (refusal : Refusal) → (refusal ≡ Full → ⊥) → IsContextFull full s f (Replied (Refused refusal))
other_headroom full s f refusal other = replied full s f (Replied (Refused refusal)) (Refused refusal) refl (λ e. absurd (other (same e)))
  where
    same : Refused refusal ≡ Refused Full → refusal ≡ Full
    same e = cc

-- a name that isn't a rule's has no transformation
pub no_rule_headroom : {full : Type 0} (s : State) (response : Response) (name : RuleName) (x : ℕ) (f : Transformation) → rule_named name ≡ None → application name x ≡ Some f → IsContextFull full s f response
no_rule_headroom s response name x f none is = absurd (let z : None ≡ Some f = sym (ap (option_map (λ (r : Rule). applying r x)) none) ∙ is in cc)

-- the transformation of a rule's name is the rule's
pub rule_headroom : (s : State) (response : Response) (name : RuleName) (x : ℕ) (r : Rule) (added full : Type 0) → (added → full) → {f : Transformation} {reply : Reply} → rule_named name ≡ Some r → application name x ≡ Some f → response ≡ Replied reply → IsFullSo added s (applying r x) reply → IsContextFull full s f response
rule_headroom s response name x r added full more {f} {reply} some is replies so =
    subst (λ (g : Transformation). IsContextFull full s g response) (same (sym (ap (option_map (λ (r : Rule). applying r x)) some) ∙ is))
    (replied full s (applying r x) response reply replies (λ e. widened more (so e)))
  where
    same : Some (applying r x) ≡ Some f → applying r x ≡ f
    same i = cc

-- an answer to a command is an answer to an equal command
pub obeys_alike : (session_options : SessionOptions) (s t : State) (said spoken : Command) (r : Response) (bytes : List ℕ) → said ≡ spoken → RunsCommand session_options s spoken r bytes t → RunsCommand session_options s said r bytes t
obeys_alike session_options s t said spoken r bytes a h = rw a h

-- the same with an equal reply
pub obeys_plainly : (session_options : SessionOptions) (s t : State) (said spoken : Command) (r q : Response) (bytes : List ℕ) → said ≡ spoken → r ≡ q → bytes ≡ [] → RunsCommand session_options s spoken q [] t → RunsCommand session_options s said r bytes t
obeys_plainly session_options s t said spoken r q bytes a b c h = rw a (rw b (rw c h))

pub headroom_plainly : (full : Type 0) (session_options : SessionOptions) (s : State) (said spoken : Command) (r q : Response) → said ≡ spoken → r ≡ q → AsksHeadroom full session_options s spoken q → AsksHeadroom full session_options s said r
headroom_plainly full session_options s said spoken r q a b h = subst (λ (c : Command). AsksHeadroom full session_options s c r) (sym a) (subst (AsksHeadroom full session_options s spoken) (sym b) h)

-- the same for session commands
pub fulfils_plainly : (setting : SessionSetting) (s t : State) (said spoken : SessionCommand) (r q : Response) (bytes : List ℕ) → said ≡ spoken → r ≡ q → bytes ≡ [] → RunsSessionCommand setting s spoken q [] t → RunsSessionCommand setting s said r bytes t
fulfils_plainly setting s t said spoken r q bytes a b c h = rw a (rw b (rw c h))

pub fulfils_alike : (setting : SessionSetting) (s t : State) (said spoken : SessionCommand) (r : Response) (bytes : List ℕ) → said ≡ spoken → RunsSessionCommand setting s spoken r bytes t → RunsSessionCommand setting s said r bytes t
fulfils_alike setting s t said spoken r bytes a h = rw a h

pub orders_headroom_plainly : (full : Type 0) (setting : SessionSetting) (s : State) (said spoken : SessionCommand) (r q : Response) → said ≡ spoken → r ≡ q → SessionCommandHeadroom full setting s spoken q → SessionCommandHeadroom full setting s said r
orders_headroom_plainly full setting s said spoken r q a b h = subst (λ (o : SessionCommand). SessionCommandHeadroom full setting s o r) (sym a) (subst (SessionCommandHeadroom full setting s spoken) (sym b) h)
