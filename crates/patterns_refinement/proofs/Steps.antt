-- Steps one after another.
use Rattle.std.proofs.Common.{◌≡◌, ℕ, ◌+◌, ◌<◌, ap, sym, ◌∙◌, subst, List, [], ◌∷◌, ◌++◌, length, Some, None, slice_get, get_or, arith}
use Rattle.std.proofs.lemmas.List.{length_push, get_or_append_left}
use Rattle.std.proofs.Math.Seq.{get_or-append_seam}
use Rattle.std.proofs.lemmas.Option.{slice_get_within, slice_get-get_or, slice_get_past, get_or_from_slice_get, same_Some}
use Rattle.user_patterns_check.specs.declared.step.Step.{Step}
use Rattle.user_patterns_check.specs.Outcomes.{Outcome, run, step_of}
use Rattle.patterns_laws.proofs.KnownFolds.{given_some}

-- ---- one more step at the end
module _ {X : Type 0} (xs : List X) (x : X) where
  pub push_other : (k : ℕ) (y : X) → slice_get xs k ≡ Some y → slice_get (xs ++ (x ∷ [])) k ≡ Some y
  push_other k y e =
      let l = slice_get_within xs k y e in
      slice_get-get_or (xs ++ (x ∷ [])) k y (omega (arith, l, length_push xs x)) ∙ ap (λ r. Some r) (get_or_append_left xs (x ∷ []) y k l ∙ get_or_from_slice_get xs k y y e)

  pub push_last : slice_get (xs ++ (x ∷ [])) (length xs) ≡ Some x
  push_last = slice_get-get_or (xs ++ (x ∷ [])) (length xs) x (omega (arith, length_push xs x)) ∙ ap (λ r. Some r) (get_or-append_seam xs x [] x)

  pub push_below : (k : ℕ) → k < length xs → slice_get (xs ++ (x ∷ [])) k ≡ slice_get xs k
  push_below k l = push_other k (get_or xs k x) (slice_get-get_or xs k x l) ∙ sym (slice_get-get_or xs k x l)

  pub push_past : (k : ℕ) → length xs < k → slice_get (xs ++ (x ∷ [])) k ≡ None
  push_past k l = slice_get_past (xs ++ (x ∷ [])) k (omega (arith, l, length_push xs x))

-- ---- earlier values don't change
pub record Grows (ss : List Step) (env new : List Outcome) : Type 0 where
  pub longer : length new ≡ length env + length ss
  pub stays : (k : ℕ) (o : Outcome) → slice_get env k ≡ Some o → slice_get new k ≡ Some o

pub run_grows : (ss : List Step) (env new : List Outcome) → run ss env ≡ Some new → Grows ss env new
run_grows [] env new e = record { longer = omega (arith, ap length (same_Some _ _ e)); stays = λ k o h. subst (λ d. slice_get d k ≡ Some o) (same_Some _ _ e) h }
run_grows (s ∷ ss) env new e =
    let g = given_some (step_of s env) (λ v. run ss (env ++ (v ∷ []))) new e in
    let r = run_grows ss (env ++ (g.0 ∷ [])) new g.2 in
    record {
      longer = omega (arith, r.longer, length_push env g.0);
      stays = λ k o h. r.stays k o (push_other env g.0 k o h);
    }
