-- Lists that are parsed item by item, as in `list_at`.
use Rattle.std.specs.Prelude.{◌≡◌, ℕ, suc, List, Option, Some, None, Result, Ok, Err}
use Rattle.ir_text_tokens.specs.declared.token.Mark.{Mark}
use Rattle.ir_text_tokens.specs.declared.token.Mark.TheVariants.{Comma}
use Rattle.ir_text_types.specs.declared.error.ReadError.{ReadError}
use Rattle.ir_text_types.specs.Lists.{more_at}
use Rattle.ir_text_types.specs.Marks.{after}
use Rattle.ir_text_types.specs.Outcomes.{Read, of_option, Parse, Fails}
use Rattle.ir_text_names.specs.declared.lists.AfterItem.{AfterItem}
use Rattle.ir_text_names.specs.declared.lists.AfterItem.TheVariants.{End, More}

-- the list's closing mark follows the item, otherwise a comma
abbrev pub IsAfter : Mark → List ℕ → Result AfterItem ReadError → Type 0
IsAfter close bytes (Ok (End rest)) = after close bytes ≡ Some rest.now
IsAfter close bytes (Ok (More rest)) = (after close bytes ≡ None) × (after Comma bytes ≡ Some rest.now)
IsAfter close bytes (Err e) = (after close bytes ≡ None) × Fails e (of_option (after Comma bytes))

module _ {S A : Type 0} (after : Mark → S → Option S) (close : Mark) (p : List A → Parse S A) where
  -- a step parses one item after others and what follows it: the list continues, ends or is wrong
  abbrev pub Steps : List A → S → Result AfterItem ReadError → List A → (List ℕ → S) → Type 0
  Steps items s (Ok (More rest)) new at = (headroom : ℕ) → more_at after close p (suc headroom) items s ≡ more_at after close p headroom new (at rest.now)
  Steps items s (Ok (End rest)) new at = (headroom : ℕ) → more_at after close p (suc headroom) items s ≡ Read (new, at rest.now)
  Steps items s (Err e) new at = (headroom : ℕ) → Fails e (more_at after close p (suc headroom) items s)
