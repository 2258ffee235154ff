-- Changes lead from the registry that was there to the one that a registry command leaves.
use Rattle.std.proofs.Common.{◌≡◌, ◌∙◌, ℕ, zero, suc, Bool, true, false, if◌then◌else◌, List, [], ◌∷◌, Option, Some, None, Ok, Err, refl, sym, subst, inl, inr}
use Rattle.std.specs.Prelude.{codes, position, slice_set}
use Rattle.user_patterns_text.specs.Parts as parts
use Rattle.user_patterns_text.specs.Refusing.{Outcome, ◌>>=◌}
use Rattle.user_patterns_text.specs.Rendered.{whole_at}
use Rattle.user_patterns_widths.specs.Passing.{is_passing}
use Rattle.user_patterns_registry.specs.Changes.{Changes, ChangesTo, IsFoundToHold}
use Rattle.user_patterns_registry.specs.CheckResult.{IsCheckResult}
use Rattle.user_patterns_registry.specs.Sampled.{IsSampled}
use Rattle.user_patterns_registry.specs.declared.check_result.CheckResult.{CheckResult}
use Rattle.user_patterns_registry.specs.declared.check_result.CheckResult.TheVariants as judgement
use Rattle.user_patterns_registry.specs.declared.check_result.CheckSummary.{CheckSummary}
use Rattle.user_patterns_registry.specs.declared.check_result.CheckSummary.TheVariants as said
use Rattle.user_patterns_registry.specs.Registry.{Kept, RegistryModel, defined, found, is_named, kept_of}
use Rattle.mlir_work_script.specs.RegistryCommands.{RegistryCommand, Define, Redefine, Forget, Patterns, Check, CheckAll, Sample}
use Rattle.mlir_work_registry.specs.Notices.{Notice}
use Rattle.mlir_work_registry.specs.Redefined.{namesake, redefined, redefined_at}
use Rattle.mlir_work_registry.specs.Registries.{Checks, ChecksAll, ChecksEach, Forgets, IsChecked, IsDefined, IsNoted, IsSampledAs, IsShelved, Samples, said_for}
use Rattle.mlir_work_registry.specs.Changing.{CommandsChange, CommandsReach, NewIsReached}

-- ---- summaries
-- a check up to a width has no summary without a width
by_passing : (b : Bool) (w : ℕ) → (if b then said.Holds w else said.Sampled w) ≡ said.AllWidths → ⊥
by_passing true w e = cc
by_passing false w e = cc

failed : (w : ℕ) → said.Fails w ≡ said.AllWidths → ⊥
failed w e = cc

vacuous : (w : ℕ) → said.Vacuous w ≡ said.AllWidths → ⊥
vacuous w e = cc

check_found : (k : Kept) (requested : Option ℕ) (j : CheckResult) → IsCheckResult k.rewrite_pattern requested j → said_for k j ≡ said.AllWidths → IsFoundToHold k
check_found k requested (judgement.Holds w) is e = absurd (by_passing (is_passing k.rewrite_pattern) w e)
check_found k requested judgement.AllWidths is e = subst (λ requested. IsCheckResult k.rewrite_pattern requested judgement.AllWidths) is.0 is
check_found k requested (judgement.Vacuous w) is e = absurd (vacuous w e)
check_found k requested (judgement.Fails c) is e = absurd (failed c.width e)
check_found k requested (judgement.Refuted w r) is e = absurd (failed w e)
check_found k requested (judgement.Sampled w) is e = absurd is

sample_never : (k : Kept) (w : ℕ) (j : CheckResult) → IsSampled k.rewrite_pattern w j → said_for k j ≡ said.AllWidths → ⊥
sample_never k w (judgement.Holds v) is e = is
sample_never k w judgement.AllWidths is e = is
sample_never k w (judgement.Vacuous v) is e = is
sample_never k w (judgement.Fails c) is e = failed c.width e
sample_never k w (judgement.Refuted v r) is e = is
sample_never k w (judgement.Sampled v) is e = cc

-- ---- commands
abbrev Leads : RegistryModel → RegistryModel → Type 0
Leads b c = (k : ℕ) × ChangesTo k b c

stays : (b c : RegistryModel) → c ≡ b → Leads b c
stays b c e = (zero, sym e)

changes : (b c : RegistryModel) → Changes b c → Leads b c
changes b c is = (suc zero, (c, is, refl))

and_then : (j : ℕ) (a b c : RegistryModel) → ChangesTo j a b → Leads b c → Leads a c
and_then zero a b c e more = subst (λ b. Leads b c) (sym e) more
and_then (suc j) a b c first more = let r = and_then j first.0 b c first.2 more in (suc r.0, (first.0, first.1, r.1))

defines : (text : List ℕ) (b c : RegistryModel) (notice : Notice) (bytes : List ℕ) (o : Outcome RegistryModel) → defined b text ≡ o → IsDefined o text b notice bytes c → Leads b c
defines text b c notice bytes (Ok new) e is = changes b c (inl (text, subst (λ r. defined b text ≡ Ok r) (sym is.2) e))
defines text b c notice bytes (Err fault) e is = stays b c is.2

-- a definition in place of another one, or of a new name
bound_ok : {A B : Type 0} (o : Outcome A) (f : A → Outcome B) (y : B) → (o >>= f) ≡ Ok y → (x : A) × (o ≡ Ok x) × (f x ≡ Ok y)
bound_ok (Ok x) f y h = (x, refl, h)
bound_ok (Err e) f y h = absurd cc

ok_same : {X : Type 0} (x y : X) (o : Outcome X) → o ≡ Ok x → o ≡ Ok y → x ≡ y
ok_same x y o e f = cc

replaces_at : (text : List ℕ) (b new : RegistryModel) (p : parts.Pattern) (o : Option ℕ) → whole_at text ≡ Ok p → position (is_named p.name) b ≡ o → redefined_at b text o ≡ Ok new → Changes b new
replaces_at text b new p None w at e = inl (text, e)
replaces_at text b new p (Some place) w at e =
    let k = bound_ok (whole_at text >>= kept_of) (λ k. Ok (slice_set b place k)) new e in
    let q = bound_ok (whole_at text) kept_of k.0 k.1 in
    let same : q.0 ≡ p = ok_same q.0 p (whole_at text) q.1 w in
    let set : new ≡ slice_set b place k.0 = ok_same new (slice_set b place k.0) (Ok new) refl (sym k.2) in
    inr (inr (inr (text, p, place, k.0, w, subst (λ (p : parts.Pattern). kept_of p ≡ Ok k.0) same q.2, at, set)))

redefines : (text : List ℕ) (b new : RegistryModel) → redefined b text ≡ Ok new → Changes b new
redefines text b new e =
    let place = bound_ok (namesake b text) (redefined_at b text) new e in
    let p = bound_ok (whole_at text) (λ p. Ok (position (is_named p.name) b)) place.0 place.1 in
    replaces_at text b new p.0 place.0 p.1 (ok_same (position (is_named p.0.name) b) place.0 (Ok (position (is_named p.0.name) b)) refl p.2) place.2

replaces : (text : List ℕ) (b c : RegistryModel) (notice : Notice) (bytes : List ℕ) (o : Outcome RegistryModel) → redefined b text ≡ o → IsDefined o text b notice bytes c → Leads b c
replaces text b c notice bytes (Ok new) e is = changes b c (subst (Changes b) (sym is.2) (redefines text b new e))
replaces text b c notice bytes (Err fault) e is = stays b c is.2

forgets : (o : Option Kept) (name : List ℕ) (b c : RegistryModel) (notice : Notice) (bytes : List ℕ) → Forgets o name b notice bytes c → Leads b c
forgets None name b c notice bytes is = stays b c is.2
forgets (Some k) name b c notice bytes is = changes b c (inr (inl (name, is.2)))

records : (is_said : CheckSummary → List ℕ → Type 0) (name : List ℕ) (b c : RegistryModel) (notice : Notice) (bytes : List ℕ) (k : Kept) → found name b ≡ Some k
    → ((reported : CheckSummary) → is_said reported bytes → reported ≡ said.AllWidths → IsFoundToHold k) → IsNoted is_said name b notice bytes c → Leads b c
records is_said name b c notice bytes k e right is = changes b c (inr (inr (inl (name, k, is.0, e, right is.0 is.1, is.3))))

checks : (o : Option Kept) (name : List ℕ) (requested : Option ℕ) (b c : RegistryModel) (notice : Notice) (bytes : List ℕ) → found name b ≡ o → Checks o name requested b notice bytes c → Leads b c
checks None name requested b c notice bytes e is = stays b c is.2
checks (Some k) name requested b c notice bytes e (inl is) =
    records (IsChecked k requested) name b c notice bytes k e (λ reported s f. check_found k requested s.0 s.1 (sym s.2 ∙ f)) is
checks (Some k) name requested b c notice bytes e (inr is) = stays b c is.1.2

-- checks of all patterns
each : (ks : List Kept) (b c : RegistryModel) (notice : Notice) (bytes : List ℕ) → ChecksEach ks b notice bytes c → Leads b c
each [] b c notice bytes is = stays b c is.2
each (k ∷ ks) b c notice bytes is =
    let first = checks (found k.name b) k.name None b is.mid is.one is.rows refl is.first in
    and_then first.0 b is.mid c first.1 (each ks is.mid c is.others is.more is.goes_on)

checks_all : (o : Option Kept) (b c : RegistryModel) (notice : Notice) (bytes : List ℕ) → found (codes "all") b ≡ o → ChecksAll o b notice bytes c → Leads b c
checks_all None b c notice bytes e is = each b b c notice bytes is
checks_all (Some k) b c notice bytes e is = checks (Some k) (codes "all") None b c notice bytes e is

samples : (o : Option Kept) (name : List ℕ) (w : ℕ) (b c : RegistryModel) (notice : Notice) (bytes : List ℕ) → found name b ≡ o → Samples o name w b notice bytes c → Leads b c
samples None name w b c notice bytes e is = stays b c is.2
samples (Some k) name w b c notice bytes e (inl is) =
    records (IsSampledAs k w) name b c notice bytes k e (λ reported s f. absurd (sample_never k w s.0 s.1 (sym s.2 ∙ f))) is
samples (Some k) name w b c notice bytes e (inr is) = stays b c is.1.2

shelved : (command : RegistryCommand) (b c : RegistryModel) (notice : Notice) (bytes : List ℕ) → IsShelved command b notice bytes c → Leads b c
shelved (Define text) b c notice bytes is = defines text b c notice bytes (defined b text) refl is
shelved (Redefine text) b c notice bytes is = replaces text b c notice bytes (redefined b text) refl is
shelved (Forget name) b c notice bytes is = forgets (found name b) name b c notice bytes is
shelved Patterns b c notice bytes is = stays b c is.2
shelved (Check name requested) b c notice bytes is = checks (found name b) name requested b c notice bytes refl is
shelved CheckAll b c notice bytes is = checks_all (found (codes "all") b) b c notice bytes refl is
shelved (Sample name w) b c notice bytes is = samples (found name b) name w b c notice bytes refl is

pub commands_change : CommandsChange
commands_change command b c notice bytes (inl is) = stays b c is.2
commands_change command b c notice bytes (inr is) = shelved command b c notice bytes is

-- ---- from the empty registry
pub commands_reach : CommandsReach
commands_reach command b c notice bytes reached is = and_then reached.0 [] b c reached.1 (commands_change command b c notice bytes is)

pub new_is_reached : NewIsReached
new_is_reached = (zero, refl)
