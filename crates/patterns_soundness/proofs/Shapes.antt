-- What holds if a rule makes edits.
use Rattle.std.proofs.Common.{◌≡◌, refl, ℕ, Bool, true, false, ◌&&◌, List, [], ◌∷◌, Option, Some, None}
use Rattle.ir_event.specs.types.Terms.{TypeTerm}
use Rattle.ir_event.specs.trees.declared.value.Value.{Value}
use Rattle.ir_event.specs.trees.Meaning.{Operation}
use Rattle.rewriter_machine.specs.Contents.{Edit}
use Rattle.patterns_soundness.specs.base.Keeps.{given}
use Rattle.patterns_soundness.specs.base.Words.{named, among}
use Rattle.patterns_soundness.specs.base.Looks.{Header, One, Two, Three, defining_op, is_verified, one, one_from, source, source_among, three, three_from, two, two_from, when}
use Rattle.patterns_soundness.proofs.Points.{DefiningOp, defining_op_is}
use Rattle.patterns_laws.proofs.KnownFolds.{given_some}
use Rattle.std.proofs.lemmas.Option.{same_Some}
use Rattle.patterns_soundness.proofs.of_base.Facts.{when_some}

-- an operation with one, two or three operands, from which a rule makes edits
pub record IsOne (h : Header) (f : One → Option (List Edit)) (es : List Edit) : Type 0 where
  pub first : Value
  pub ty : TypeTerm
  pub operands : h.operands ≡ first ∷ []
  pub results : h.results ≡ ty ∷ []
  pub makes : f (record { name = h.name; first = first; ty = ty }) ≡ Some es

pub record IsTwo (h : Header) (f : Two → Option (List Edit)) (es : List Edit) : Type 0 where
  pub first : Value
  pub second : Value
  pub ty : TypeTerm
  pub operands : h.operands ≡ first ∷ second ∷ []
  pub results : h.results ≡ ty ∷ []
  pub makes : f (record { name = h.name; first = first; second = second; ty = ty }) ≡ Some es

pub record IsThree (h : Header) (f : Three → Option (List Edit)) (es : List Edit) : Type 0 where
  pub first : Value
  pub second : Value
  pub third : Value
  pub ty : TypeTerm
  pub operands : h.operands ≡ first ∷ second ∷ third ∷ []
  pub results : h.results ≡ ty ∷ []
  pub makes : f (record { name = h.name; first = first; second = second; third = third; ty = ty }) ≡ Some es

pub one_is : (h : Header) (f : One → Option (List Edit)) (es : List Edit) → given (one h) f ≡ Some es → IsOne h f es
one_is h f es e = go h.operands refl h.results refl e
  where
    go : (vs : List Value) → h.operands ≡ vs → (ts : List TypeTerm) → h.results ≡ ts → given (one_from h.name vs ts) f ≡ Some es → IsOne h f es
    go [] p ts q e = absurd cc
    go (a ∷ []) p [] q e = absurd cc
    go (a ∷ []) p (ty ∷ []) q e = record { first = a; ty = ty; operands = p; results = q; makes = e }
    go (a ∷ []) p (ty ∷ u ∷ ts) q e = absurd cc
    go (a ∷ b ∷ vs) p ts q e = absurd cc

pub two_is : (h : Header) (f : Two → Option (List Edit)) (es : List Edit) → given (two h) f ≡ Some es → IsTwo h f es
two_is h f es e = go h.operands refl h.results refl e
  where
    go : (vs : List Value) → h.operands ≡ vs → (ts : List TypeTerm) → h.results ≡ ts → given (two_from h.name vs ts) f ≡ Some es → IsTwo h f es
    go [] p ts q e = absurd cc
    go (a ∷ []) p ts q e = absurd cc
    go (a ∷ b ∷ []) p [] q e = absurd cc
    go (a ∷ b ∷ []) p (ty ∷ []) q e = record { first = a; second = b; ty = ty; operands = p; results = q; makes = e }
    go (a ∷ b ∷ []) p (ty ∷ u ∷ ts) q e = absurd cc
    go (a ∷ b ∷ c ∷ vs) p ts q e = absurd cc

pub three_is : (h : Header) (f : Three → Option (List Edit)) (es : List Edit) → given (three h) f ≡ Some es → IsThree h f es
three_is h f es e = go h.operands refl h.results refl e
  where
    go : (vs : List Value) → h.operands ≡ vs → (ts : List TypeTerm) → h.results ≡ ts → given (three_from h.name vs ts) f ≡ Some es → IsThree h f es
    go [] p ts q e = absurd cc
    go (a ∷ []) p ts q e = absurd cc
    go (a ∷ b ∷ []) p ts q e = absurd cc
    go (a ∷ b ∷ c ∷ []) p [] q e = absurd cc
    go (a ∷ b ∷ c ∷ []) p (ty ∷ []) q e = record { first = a; second = b; third = c; ty = ty; operands = p; results = q; makes = e }
    go (a ∷ b ∷ c ∷ []) p (ty ∷ u ∷ ts) q e = absurd cc
    go (a ∷ b ∷ c ∷ d ∷ vs) p ts q e = absurd cc

-- a verified operation of some name that defines a value
source_by : (o : Option Header) (test : Header → Bool) (h : Header) → given o (λ h. when (test h) (Some h)) ≡ Some h → o ≡ Some h
source_by None test h e = absurd cc
source_by (Some j) test h e = (let w = when_some (test j) (Some j) h e in w.1)

pub source_is : (t : Operation) (name : List ℕ) (v : Value) (h : Header) → source t name v ≡ Some h → DefiningOp t v h
source_is t name v h e = defining_op_is t v h (source_by (defining_op t v) (λ h. named name h.name && is_verified t h) h e)

pub source_among_is : (t : Operation) (names : List (List ℕ)) (v : Value) (h : Header) → source_among t names v ≡ Some h → DefiningOp t v h
source_among_is t names v h e = defining_op_is t v h (source_by (defining_op t v) (λ h. among names h.name && is_verified t h) h e)
