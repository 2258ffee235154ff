use Rattle.std.proofs.Common.{◌≡◌, ◌∙◌, ℕ, ◌+◌, List, [], ◌∷◌, ◌++◌, append_assoc, ◌-◌, length, get_or, take, drop, ap, subst, sym, Ok, Err, Some, None}
use Rattle.std.specs.Prelude.{Result, Option, IfOk, IfSome}
use Rattle.width_claims.specs.declared.emit.Counts.{Counts}
use Rattle.width_claims.specs.declared.step.Step.{Step}
use Rattle.width_claims.specs.declared.width.Width.{Width}
use Rattle.width_claims.specs.declared.width.Width.TheVariants as width
use Rattle.width_claims.specs.Blocks.{AreTypes}
use Rattle.width_claims.specs.Emission.{mask_places, type_numbers, type_steps, type_truths}
use Rattle.width_claims.proofs.Small.{uncons}
use Rattle.width_claims.proofs.emit.+emit_types.Goals as goal

abbrev Counted : Width → ℕ → ℕ → Counts → Type 0
Counted w n t a = (a.numbers ≡ type_numbers (w ∷ []) n) × (a.truths ≡ type_truths (w ∷ []) t)

one_type : (w : Width) (ks : List Width) (v n t : ℕ) (old mid new : List Step) (masks more : List ℕ) (a c : Counts) → mid ≡ old ++ type_steps v (w ∷ []) n → Counted w n t a
    → AreTypes (v + 1) ks a.numbers a.truths mid (masks ++ n ∷ []) new more c → AreTypes v (w ∷ ks) n t old masks new more c
one_type width.Free ks v n t old mid new masks more a c e k h = (
  h.0 ∙ ap (λ m. m ++ type_steps (v + 1) ks a.numbers) e ∙ append_assoc old (type_steps v (width.Free ∷ []) n) _ ∙ ap (λ i. old ++ (type_steps v (width.Free ∷ []) n ++ type_steps (v + 1) ks i)) k.0,
  h.1 ∙ ap (mask_places ks (masks ++ n ∷ [])) k.0,
  h.2 ∙ ap (type_numbers ks) k.0,
  h.3 ∙ ap (type_truths ks) k.1,
)
one_type (width.Fixed b) ks v n t old mid new masks more a c e k h = (
  h.0 ∙ ap (λ m. m ++ type_steps (v + 1) ks a.numbers) e ∙ append_assoc old (type_steps v (width.Fixed b ∷ []) n) _ ∙ ap (λ i. old ++ (type_steps v (width.Fixed b ∷ []) n ++ type_steps (v + 1) ks i)) k.0,
  h.1 ∙ ap (mask_places ks (masks ++ n ∷ [])) k.0,
  h.2 ∙ ap (type_numbers ks) k.0,
  h.3 ∙ ap (type_truths ks) k.1,
)

one_more : {E : Type 0} (r : Result (Option Counts) E) (ws : List Width) (w : Width) (ks : List Width) (v n t : ℕ) (old mid new : List Step) (masks longer more : List ℕ) (a : Counts) → ws ≡ w ∷ ks
    → longer ≡ masks ++ n ∷ [] → mid ≡ old ++ type_steps v (w ∷ []) n → Counted w n t a → IfOk r (λ c. IfSome c (AreTypes (v + 1) ks a.numbers a.truths mid longer new more))
    → IfOk r (λ c. IfSome c (AreTypes v ws n t old masks new more))
one_more (Ok (Some c)) ws w ks v n t old mid new masks longer more a u l e k h =
    subst (λ (xs : List Width). AreTypes v xs n t old masks new more c) (sym u) (one_type w ks v n t old mid new masks more a c e k (subst (λ (ms : List ℕ). AreTypes (v + 1) ks a.numbers a.truths mid ms new more c) l h))
one_more (Ok None) ws w ks v n t old mid new masks longer more a u l e k h = h
one_more (Err e) ws w ks v n t old mid new masks longer more a u l e2 k h = h

pub returns : goal.returns
returns t c =
    one_more c.emit_types.result c.args.types.now (get_or c.args.types.now 0 width.Free) (take (length c.args.types.now - 1) (drop 1 c.args.types.now)) c.args.v c.args.n c.args.t
    c.args.steps.now.items c.emit_type.new.steps.items c.emit_types.new.steps.items c.args.masks.now.items c.push.new.self.items c.emit_types.new.masks.items c.in_ok-typed.typed
    (uncons c.args.types.now width.Free c.in-len1-up.len_at_least) c.in_ok-push.ensures.items c.in_ok-typed.ensures.steps c.in_ok-typed.ensures.counts c.emit_types.ensures
