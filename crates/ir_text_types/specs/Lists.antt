-- Comma-separated lists of items, over any state. The parser of an item may use the items before it.
use Rattle.std.specs.Prelude.{ℕ, zero, suc, List, [], ◌∷◌, ◌++◌, Option, Some, None}
use Rattle.ir_text_tokens.specs.declared.token.Mark.{Mark}
use Rattle.ir_text_tokens.specs.declared.token.Mark.TheVariants.{Comma}
use Rattle.ir_text_types.specs.Outcomes.{Outcome, Read, Wrong, ◌>>=◌, of_option, Parse}

module _ {S A : Type 0} (after : Mark → S → Option S) (close : Mark) (p : List A → Parse S A) where
  abbrev pub more_from : (List A → Parse S (List A)) → List A → S → Option S → Outcome (List A × S)
  more_from go items s (Some end) = Read (items, end)
  more_from go items s None = of_option (after Comma s) >>= go items

  -- the items so far and the items that are left up to the closing mark: at least one and at most `room` are left
  unfoldable pub more_at : ℕ → List A → Parse S (List A)
  more_at zero items s = Wrong
  more_at (suc headroom) items s = p items s >>= λ x. more_from (more_at headroom) (items ++ x.0 ∷ []) x.1 (after close x.1)

  abbrev pub list_from : ℕ → S → Option S → Outcome (List A × S)
  list_from headroom s (Some end) = Read ([], end)
  list_from headroom s None = more_at headroom [] s

  unfoldable pub list_at : ℕ → Parse S (List A)
  list_at headroom s = list_from headroom s (after close s)
