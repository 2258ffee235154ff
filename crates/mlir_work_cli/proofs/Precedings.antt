-- Proofs about reading a pattern file line by line.
use Rattle.std.proofs.Common.{◌≡◌, ℕ, suc, ◌+◌, List, [], ◌∷◌, ◌++◌, length, Ok, Err, refl, sym, ap, ◌∙◌, append_assoc, length-append, arith}
use Rattle.ir_text_tokens.specs.declared.fault.Fault.{Fault}
use Rattle.user_patterns_text.specs.Refusing.{Outcome, ◌>>=◌}
use Rattle.user_patterns_registry.specs.Registry.{RegistryModel}
use Rattle.mlir_work_cli.specs.Patterns.{IsFirstWrong, defined_by, line_defined}

-- the first `n` lines are read, `rest` are the remaining lines, and `new` is the registry after them
pub record HasRead (registry new : RegistryModel) (lines rest : List (List ℕ)) (n : ℕ) : Type 0 where
  pub preceding : List (List ℕ)
  pub are : lines ≡ preceding ++ rest
  pub counted : n ≡ length preceding
  pub makes : defined_by registry preceding ≡ Ok new

-- ---- lines after others

on_at : (first : Outcome RegistryModel) (preceding more : List (List ℕ)) (new : RegistryModel) → (first >>= λ m. defined_by m preceding) ≡ Ok new
    → ((m : RegistryModel) → defined_by m preceding ≡ Ok new → defined_by m (preceding ++ more) ≡ defined_by new more)
    → (first >>= λ m. defined_by m (preceding ++ more)) ≡ defined_by new more
on_at (Ok m) preceding more new e ih = ih m e
on_at (Err f) preceding more new e ih = absurd cc

same_registry : (registry new : RegistryModel) (more : List (List ℕ)) → defined_by registry [] ≡ Ok new → defined_by registry more ≡ defined_by new more
same_registry registry new more e = let same : registry ≡ new = cc in rw same refl

pub read_on : (registry new : RegistryModel) (preceding more : List (List ℕ)) → defined_by registry preceding ≡ Ok new → defined_by registry (preceding ++ more) ≡ defined_by new more
read_on registry new [] more e = same_registry registry new more e
read_on registry new (line ∷ lines) more e = on_at (line_defined registry line) lines more new e (λ m h. read_on m new lines more h)

-- ---- one more line

longer : (n : ℕ) (preceding : List (List ℕ)) (line : List ℕ) → n ≡ length preceding → n + 1 ≡ length (preceding ++ line ∷ [])
longer n preceding line e = omega (arith, e, length-append preceding (line ∷ []))

made_by_one : (now new : RegistryModel) (line : List ℕ) → line_defined now line ≡ Ok new → defined_by now (line ∷ []) ≡ Ok new
made_by_one now new line e = rw e refl

pub one_more : (registry now new : RegistryModel) (lines rest : List (List ℕ)) (line : List ℕ) (n : ℕ) → HasRead registry now lines (line ∷ rest) n
    → line_defined now line ≡ Ok new → HasRead registry new lines rest (n + 1)
one_more registry now new lines rest line n h e = record {
  preceding = h.preceding ++ line ∷ [];
  are = h.are ∙ sym (append_assoc h.preceding (line ∷ []) rest);
  counted = longer n h.preceding line h.counted;
  makes = read_on registry now h.preceding (line ∷ []) h.makes ∙ made_by_one now new line e;
}

-- ---- the first malformed line

wrong_here : (new : RegistryModel) (line : List ℕ) (trailing : List (List ℕ)) (fault : Fault) → line_defined new line ≡ Err fault
    → defined_by new (line ∷ trailing) ≡ Err fault
wrong_here new line trailing fault e = rw e refl

pub wrong_is_reported : (registry new : RegistryModel) (lines : List (List ℕ)) (n : ℕ) (line : List ℕ) (fault : Fault)
    → IsFirstWrong registry new lines n line fault → defined_by registry lines ≡ Err fault
wrong_is_reported registry new lines n line fault w =
    ap (defined_by registry) w.up_to.are ∙ read_on registry new w.up_to.preceding (line ∷ w.up_to.trailing) w.up_to.makes
    ∙ wrong_here new line w.up_to.trailing fault w.wrong

-- the lines have a first malformed line
abbrev HasWrong : RegistryModel → List (List ℕ) → Fault → Type 0
HasWrong registry lines fault = (new : RegistryModel) × (n : ℕ) × (line : List ℕ) × IsFirstWrong registry new lines n line fault

made_on : (registry m new : RegistryModel) (line : List ℕ) (preceding : List (List ℕ)) → line_defined registry line ≡ Ok m → defined_by m preceding ≡ Ok new
    → defined_by registry (line ∷ preceding) ≡ Ok new
made_on registry m new line preceding is e = rw is e

later : (registry m : RegistryModel) (line : List ℕ) (lines : List (List ℕ)) (fault : Fault) → line_defined registry line ≡ Ok m → HasWrong m lines fault
    → HasWrong registry (line ∷ lines) fault
later registry m line lines fault is h =
    let up = h.3.up_to in (
      h.0,
      suc h.1,
      h.2,
      record {
        up_to = record {
          preceding = line ∷ up.preceding;
          trailing = up.trailing;
          are = ap (λ (xs : List (List ℕ)). line ∷ xs) up.are;
          counted = ap suc up.counted;
          makes = made_on registry m h.0 line up.preceding is up.makes;
        };
        wrong = h.3.wrong;
      },
    )

wrong_at : (first : Outcome RegistryModel) (registry : RegistryModel) (line : List ℕ) (lines : List (List ℕ)) (fault : Fault) → line_defined registry line ≡ first
    → (first >>= λ m. defined_by m lines) ≡ Err fault → ((m : RegistryModel) → defined_by m lines ≡ Err fault → HasWrong m lines fault)
    → HasWrong registry (line ∷ lines) fault
wrong_at (Ok m) registry line lines fault is e ih = later registry m line lines fault is (ih m e)
wrong_at (Err f) registry line lines fault is e ih =
    (registry, 1, line, record { up_to = record { preceding = []; trailing = lines; are = refl; counted = refl; makes = refl }; wrong = is ∙ e })

pub has_wrong : (registry : RegistryModel) (lines : List (List ℕ)) (fault : Fault) → defined_by registry lines ≡ Err fault → HasWrong registry lines fault
has_wrong registry [] fault e = absurd cc
has_wrong registry (line ∷ lines) fault e =
    wrong_at (line_defined registry line) registry line lines fault refl e (λ m h. has_wrong m lines fault h)
