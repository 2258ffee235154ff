-- The result of reading a text is what the text denotes.
use Rattle.std.proofs.Common.{◌≡◌, ◌∙◌, sym, ap, subst, ℕ, List, Bool, true, false, Some, None}
use Rattle.ir_types.specs.Things.{ContextModel}
use Rattle.ir_tree.specs.Tree.{Op}
use Rattle.ir_text_tokens.specs.declared.fault.Fault.{Fault}
use Rattle.ir_text.specs.Public.{IsNone, IsOnly, Spells}
use Rattle.ir_text_modules.specs.Stays.{has_more}
use Rattle.ir_text_modules.proofs.Stays.{stays}
use Rattle.ir_text_modules.specs.Modules.{SpellsModule, read_fault, read_text}

module _ (opaque : Bool) (text : List ℕ) where
  pub only_module : (c : ContextModel) (t : Op) → read_fault opaque text ≡ None → IsOnly (Spells opaque (read_text opaque text)) c t → IsOnly (SpellsModule opaque text) c t
  only_module c t whole h = record {
    known = h.known;
    holds = record { whole = whole; spells = h.holds };
    only = λ y s. h.only y s.spells;
  }

  pub no_module : IsNone (Spells opaque (read_text opaque text)) → IsNone (SpellsModule opaque text)
  no_module h = λ y s. h y s.spells

  pub faulty : (f : Fault) → read_fault opaque text ≡ Some f → IsNone (SpellsModule opaque text)
  faulty f e = λ y s. (let no : None ≡ Some f = sym s.whole ∙ e in absurd cc)

-- a text that is its own expansion
module _ (text : List ℕ) (e : has_more 0 text ≡ false) where
  same : read_text true text ≡ text
  same = ap (λ x. x.text) (stays text e)

  pub only_unchanged : (c : ContextModel) (t : Op) → IsOnly (Spells true text) c t → IsOnly (SpellsModule true text) c t
  only_unchanged c t h = only_module true text c t (ap (λ x. x.fault) (stays text e)) (subst (λ l. IsOnly (Spells true l) c t) (sym same) h)

  pub none_unchanged : IsNone (Spells true text) → IsNone (SpellsModule true text)
  none_unchanged h = no_module true text (subst (λ l. IsNone (Spells true l)) (sym same) h)
