-- Entries of C arrays, taken one after another.
use Rattle.std.proofs.Common.{◌≡◌, ◌∙◌, ap, sym, refl, ◌-◌, ◌≤◌, ◌<◌, List, [], ◌∷◌, ◌++◌, length, take, drop, get_or, Bool, true, false, arith}
use Rattle.std.proofs.lemmas.List.{append_assoc, append-nil}
use Rattle.ir_text_operations.specs.attributes.AttrReading.{Entries}
use Rattle.mlir_work_c_read.specs.declared.header.NewEntry.{NewEntry}
use Rattle.mlir_work_c_read.specs.Headers.{entries_of, is_property, same_truth}
use Rattle.mlir_work_c_read.proofs.Joining.{rest_at}

module _ (properties : Bool) where
  one_more : (e : NewEntry) (es : List NewEntry) → entries_of properties (e ∷ es) ≡ entries_of properties (e ∷ []) ++ entries_of properties es
  one_more e es = by_test (same_truth (is_property e) properties) refl
    where
      by_test : (b : Bool) → same_truth (is_property e) properties ≡ b → entries_of properties (e ∷ es) ≡ entries_of properties (e ∷ []) ++ entries_of properties es
      by_test true h = rw h refl
      by_test false h = rw h refl

  -- the first of the entries to come is taken
  pub given_on : (rest : List NewEntry) (x d : NewEntry) (out new whole : Entries) → 1 ≤ length rest → x ≡ get_or rest 0 d → new ≡ out ++ entries_of properties (x ∷ [])
      → out ++ entries_of properties rest ≡ whole → new ++ entries_of properties (take (length rest - 1) (drop 1 rest)) ≡ whole
  given_on rest x d out new whole l z is h =
      let tail = take (length rest - 1) (drop 1 rest) in
      ap (λ o. o ++ entries_of properties tail) is
      ∙ append_assoc out (entries_of properties (x ∷ [])) (entries_of properties tail)
      ∙ ap (λ o. out ++ o) (sym (one_more x tail) ∙ ap (entries_of properties) (sym (rest_at rest x d l z))) ∙ h

  none_given : (rest : List NewEntry) → length rest < 1 → entries_of properties rest ≡ []
  none_given [] l = refl
  none_given (x ∷ xs) l = absurd (omega (arith, l))

  -- no entry is to come
  pub given_all : (rest : List NewEntry) (out whole : Entries) → length rest < 1 → out ++ entries_of properties rest ≡ whole → out ≡ whole
  given_all rest out whole l h = sym (append-nil out) ∙ ap (λ o. out ++ o) (sym (none_given rest l)) ∙ h
