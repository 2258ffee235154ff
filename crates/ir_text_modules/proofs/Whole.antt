-- The whole printed text of an operation is parsed back.
use Rattle.std.proofs.Common.{◌≡◌, ℕ, ◌+◌, ◌≤◌, Bool, true, eqb, [], ◌∷◌, length, refl, sym, ap, ◌∙◌, arith}
use Rattle.std.specs.List.{IsDistinct, list_all}
use Rattle.ir_types.specs.Words.{is_isolated}
use Rattle.ir_tree.specs.Ids.{ids}
use Rattle.ir_tree.specs.Limits.{depth}
use Rattle.ir_tree.specs.Meaning.{Operation}
use Rattle.ir_tree.specs.Sites.{sites, dominated_by_operands}
use Rattle.ir_text_tokens.specs.declared.token.Mark.TheVariants.{End}
use Rattle.ir_text_tokens.proofs.Printed.{mark_token, blank_passed}
use Rattle.ir_text_tokens.specs.Tokens.{next as next_token}
use Rattle.ir_text_operations.specs.Free.{no_names}
use Rattle.ir_text_operations.specs.ParseState.{initial_state}
use Rattle.ir_text_operations.specs.Spelling.{IsSingleOp}
use Rattle.ir_text.specs.Printing.{text_of, blank}
use Rattle.ir_tree_laws.specs.Renumbered.{with_ids}
use Rattle.ir_text_modules.specs.Runs.{Runs}
use Rattle.ir_text_modules.proofs.Fitting.{FitsOp}
use Rattle.ir_text_modules.proofs.Texts.{names_of, op_then, puts_op}
use Rattle.ir_text_modules.proofs.Joined.{joined_nothing}
use Rattle.ir_text_modules.proofs.Fresh.{Fresh}
use Rattle.ir_text_modules.proofs.Ops.{op_again}
use Rattle.ir_text_modules.proofs.Visible.{dominated_by_op}
use Rattle.ir_types.proofs.Truths.{append_none}

pub whole_text : (t : Operation) → text_of t ≡ op_then [] t (names_of blank) []
whole_text t = sym (append_none (text_of t)) ∙ (puts_op [] t).text blank []

-- f assigns the ids 0, 1, .. in pre-order
pub single_again : (o : Bool) (f : ℕ → ℕ) (t : Operation) → FitsOp o t → list_all dominated_by_operands (sites is_isolated [] t) ≡ true → Runs f 0 (ids t) → IsDistinct eqb (ids t) → depth t ≤ 128 → length (ids t) ≤ 1048576 → IsSingleOp o no_names 1048576 0 (text_of t) (with_ids f t)
unfolding IsSingleOp
single_again o f t fits_in dominated_by runs distinct deep few =
    let n = names_of blank in
    let s = initial_state 0 (text_of t) in
    let fresh : Fresh f 1048576 [] n 0 0 (ids t) = record {
      runs = runs;
      distinct = distinct;
      away = λ v e. absurd cc;
      below = omega (arith, few);
      few_results = omega (arith, few);
      few_arguments = omega (arith, few);
    } in
    let read = op_again o f 1048576 (omega arith) 129 t [] [] n s [] tt fits_in (dominated_by_op [] t dominated_by) (omega (arith, deep)) fresh (joined_nothing o f n) (ap next_token (whole_text t)) in
    (record { bytes = 10 ∷ []; scopes = read.scopes; next = 0 + length (ids t) }, [], read.reads, blank_passed 10 [] refl ∙ mark_token End [] refl)
