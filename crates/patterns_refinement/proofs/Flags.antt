-- Broken and unbroken flags.
use Rattle.ir_tree_laws.proofs.Listed.{neither}
use Rattle.std.proofs.Common.{◌≡◌, ℕ, refl, ap, sym, ◌∙◌, List, [], ◌∷◌, Bool, true, false, true≢false, not, Option, Some, None}
use Rattle.std.specs.Prelude.{codes, if◌then◌else◌}
use Rattle.ir_types.specs.declared.bits.BitsKind.{BitsKind}
use Rattle.ir_types.specs.Bits.{width_of}
use Rattle.ir_types.specs.Terms.{AttrTerm, Overflow}
use Rattle.ir_tree.specs.Tree.{head}
use Rattle.ir_tree.specs.Meaning.{Operation}
use Rattle.op_registry.specs.Registry.{next_to}
use Rattle.dialects_int.specs.declared.operations.Arithmetic.{Arithmetic}
use Rattle.dialects_int.specs.declared.operations.Cast.TheVariants as cuts
use Rattle.dialects_int.specs.declared.operations.Rule.{Rule as How}
use Rattle.dialects_int.specs.declared.operations.Rule.TheVariants as how
use Rattle.dialects_int.specs.Folds.{rule_of}
use Rattle.patterns_laws.specs.Made.{flags}
use Rattle.patterns_laws.specs.Words.{among, flagged}
use Rattle.user_patterns_check.specs.Outcomes.{Outcome}
use Rattle.user_patterns_data.specs.Matching.{Header}
use Rattle.user_patterns_data.specs.Names.{are_none}
use Rattle.user_patterns_data.specs.Planning.{entries_by}
use Rattle.patterns_refinement.specs.Meaning.{breaks_by, breaks_cut, breaks_flags, breaks_pair, flags_in, flags_of, has_flags, result_kind, Flags, has_flags_by, is_exact}

abbrev no_flags : Flags
no_flags = record { nsw = false; nuw = false; exact = false }

-- an operation without flags breaks none
none_in : (o : Option AttrTerm) → not (are_none o) ≡ false → flags_in o ≡ (false, false)
none_in None e = refl
none_in (Some (Overflow true nuw)) e = absurd (true≢false e)
none_in (Some (Overflow false true)) e = absurd (true≢false e)
none_in (Some (Overflow false false)) e = refl
none_in (Some o) e = refl

none_set : (h : Header) → has_flags h ≡ false → flags_of h ≡ record { nsw = false; nuw = false; exact = false }
none_set h e =
    let p = neither (not (are_none (next_to (codes "overflowFlags") h.properties))) (is_exact (next_to (codes "isExact") h.properties)) e in
    let q = none_in (next_to (codes "overflowFlags") h.properties) p.0 in
    λ i. record { nsw = (q i).0; nuw = (q i).1; exact = p.1 i }

none_broken_pair : (o : Arithmetic) (w : ℕ) (xs : List Outcome) → breaks_pair no_flags o w xs ≡ false
none_broken_pair o w [] = refl
none_broken_pair o w (x ∷ []) = none_of_one x
  where
    none_of_one : (x : Outcome) → breaks_pair no_flags o w (x ∷ []) ≡ false
    none_of_one None = refl
    none_of_one (Some x) = refl
none_broken_pair o w (None ∷ y ∷ xs) = refl
none_broken_pair o w (Some x ∷ None ∷ xs) = refl
none_broken_pair o w (Some x ∷ Some y ∷ []) = refl
none_broken_pair o w (Some x ∷ Some y ∷ z ∷ xs) = refl

none_broken_cut : (w : ℕ) (xs : List Outcome) → breaks_cut no_flags w xs ≡ false
none_broken_cut w [] = refl
none_broken_cut w (None ∷ xs) = refl
none_broken_cut w (Some x ∷ []) = refl
none_broken_cut w (Some x ∷ y ∷ xs) = refl

none_broken_by : (r : Option How) (k : Option BitsKind) (xs : List Outcome) → breaks_by r no_flags k xs ≡ false
none_broken_by None k xs = refl
none_broken_by (Some how.Constant) k xs = refl
none_broken_by (Some (how.Binary o)) None xs = refl
none_broken_by (Some (how.Binary o)) (Some k) xs = none_broken_pair o (width_of k) xs
none_broken_by (Some how.Compare) k xs = refl
none_broken_by (Some how.Select) k xs = refl
none_broken_by (Some (how.IntegerCast cuts.Truncate)) None xs = refl
none_broken_by (Some (how.IntegerCast cuts.Truncate)) (Some k) xs = none_broken_cut (width_of k) xs
none_broken_by (Some (how.IntegerCast cuts.ExtendSigned)) k xs = refl
none_broken_by (Some (how.IntegerCast cuts.ExtendUnsigned)) k xs = refl
none_broken_by (Some (how.IndexCast c)) k xs = refl

pub unflagged : (h : Header) (xs : List Outcome) → has_flags h ≡ false → breaks_flags h xs ≡ false
unflagged h xs e = ap (λ f. breaks_by (rule_of h.name) f (result_kind h) xs) (none_set h e) ∙ none_broken_by (rule_of h.name) (result_kind h) xs

pub broken_flagged : (h : Header) (xs : List Outcome) → breaks_flags h xs ≡ true → has_flags h ≡ true
broken_flagged h xs e = go (has_flags h) refl
  where
    go : (b : Bool) → has_flags h ≡ b → has_flags h ≡ true
    go true i = i
    go false i = absurd (true≢false (sym e ∙ unflagged h xs i))

-- a new operation of a rule or pattern has no flags
pub flags_unset : (name : List ℕ) → has_flags_by (flags name) ≡ false
flags_unset name = go (among flagged name)
  where
    go : (b : Bool) → has_flags_by (if b then (codes "overflowFlags", Overflow false false) ∷ [] else []) ≡ false
    go true = refl
    go false = refl

pub entries_unset : (p : Option ℕ) (name : List ℕ) → has_flags_by (entries_by p name) ≡ false
entries_unset None name = flags_unset name
entries_unset (Some n) name = refl

abbrev pub AreUnflagged : List Operation → Type 0
AreUnflagged [] = Unit {0}
AreUnflagged (o ∷ os) = (has_flags (head o) ≡ false) × AreUnflagged os
