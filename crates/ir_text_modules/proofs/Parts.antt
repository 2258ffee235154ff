-- The rest of the text after a definition or its value is a suffix of the text.
use Rattle.std.proofs.Common.{◌≡◌, ℕ, Bool, true, false, cond, List, [], ◌∷◌, length, drop, Option, Some, None, refl, ap, ◌∙◌, subst}
use Rattle.std.specs.Prelude.{◌==◌, Ok, Err}
use Rattle.ir_text_tokens.specs.declared.refusal.TextRefusal.TheVariants.{Redefined}
use Rattle.ir_text_tokens.specs.declared.fault.Fault.{Fault}
use Rattle.ir_text_tokens.specs.Tokens.{skip, suffix_len}
use Rattle.ir_text_tokens.specs.Bodies.{begins, is_alias}
use Rattle.ir_text_aliases.specs.Uses.{Aliases}
use Rattle.ir_text_aliases.specs.Values.{Ends, after_equal, definition_at}
use Rattle.ir_text_aliases.specs.Terms.{value_end}
use Rattle.ir_text_aliases.specs.Walk.{fault_at}
use Rattle.ir_text_aliases.proofs.Tails.{IsTail, dropped, longer, skipped, within}
use Rattle.ir_text_aliases.proofs.Ending.{value_tail}
use Rattle.ir_text_modules.specs.Definitions.{Value, closed_fault, is_known, rest_of, rendered_or, value_at, value_of_name, value_up_to, value_walk}

-- ---- a definition

equal_tail : (bs v : List ℕ) → after_equal bs ≡ Some v → IsTail bs v
equal_tail [] v e = absurd cc
equal_tail (d ∷ ds) v e = from (d == 61) e
  where
    in' : Option (List ℕ) → List ℕ
    in' None = []
    in' (Some v) = v

    from : (t : Bool) → cond t (Some (skip ds)) None ≡ Some v → IsTail (d ∷ ds) v
    from true k = subst (IsTail (d ∷ ds)) (ap in' k) (longer d ds (skip ds) (skipped ds))
    from false k = absurd cc

pub definition_tail : (c : ℕ) (cs v : List ℕ) → definition_at c cs ≡ Some v → IsTail cs v
definition_tail c cs v e = from (is_alias c cs) e
  where
    from : (t : Bool) → cond t (after_equal (skip (drop (suffix_len cs) cs))) None ≡ Some v → IsTail cs v
    from true k =
        within cs (drop (suffix_len cs) cs) v (dropped (suffix_len cs) cs)
        (within (drop (suffix_len cs) cs) (skip (drop (suffix_len cs) cs)) v (skipped (drop (suffix_len cs) cs)) (equal_tail (skip (drop (suffix_len cs) cs)) v k))
    from false k = absurd cc

-- ---- its value

module _ (values : List ℕ) (env : Aliases) (bytes : List ℕ) where
  ends_at : (f : Option Fault) (text last : List ℕ) (v : Value) → rendered_or f text last ≡ v → (t r : List ℕ) → v ≡ Ok (t, r) → last ≡ r
  ends_at None text last v e t r k = ap rest_of (e ∙ k)
  ends_at (Some fault) text last v e t r k = absurd (let q : Err fault ≡ Ok (t, r) = e ∙ k in absurd cc)

  value_rest : (of_type : Bool) (t r : List ℕ) → value_at values env of_type bytes ≡ Ok (t, r) → IsTail bytes r
  value_rest of_type t r e = from (value_end of_type bytes) refl e
    where
      from : (x : Ends) → value_end of_type bytes ≡ x → value_up_to values env bytes x ≡ Ok (t, r) → IsTail bytes r
      from (Ok rest) k e =
          subst (IsTail bytes) (ends_at (closed_fault bytes (value_walk values env bytes (length rest))) (value_walk values env bytes (length rest)).text rest (Ok (t, r)) e t r refl) (value_tail of_type bytes rest k)
      from (Err fault) k e = absurd cc

  pub named_tail : (name all t r : List ℕ) → value_of_name values env name all bytes ≡ Ok (t, r) → IsTail bytes r
  named_tail name all t r e = from (is_known name env) e
    where
      from : (b : Bool) → cond b (Err (fault_at all Redefined)) (value_at values env (begins 33 all) bytes) ≡ Ok (t, r) → IsTail bytes r
      from true k = absurd cc
      from false k = value_rest (begins 33 all) t r k
