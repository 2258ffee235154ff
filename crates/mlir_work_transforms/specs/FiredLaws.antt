-- The tracer that counts the rules and patterns that fired: what it holds after some rewrites.
use Rattle.std.specs.Prelude.{◌≡◌, ℕ, List, [], ◌∷◌, ◌++◌, length, map, take}
use Rattle.std.proofs.Common.{refl, ap, sym, ◌∙◌, append-nil, append_assoc}
use Rattle.greedy.specs.declared.applied_rewrite.AppliedPattern.{AppliedPattern}
use Rattle.greedy.specs.declared.applied_rewrite.AppliedRewrite.{AppliedRewrite}
use Rattle.mlir_work_transforms.specs.FiredText.{applied_by, fired_of, fired_text}
use Rattle.mlir_work_transforms.specs.declared.rewrite_lines.RewriteLines.{RewriteLines}

abbrev pub names_of : RewriteLines → List (List ℕ)
names_of t = map (λ n. n.items) t.names.items

-- nothing was recorded, and all of the text is of others
pub record IsFresh (t : RewriteLines) : Type 0 where
  pub applied : t.applied.items ≡ []
  pub shown : t.shown ≡ length t.text.items

-- the text begins with lines of others; if as many rewrites as the limit allows were recorded, then the counts follow
pub record IsCurrent (lines : List ℕ) (t : RewriteLines) : Type 0 where
  pub shown : t.shown ≡ length lines
  pub begins : take t.shown t.text.items ≡ lines
  pub text : length t.applied.items ≡ t.limit → t.text.items ≡ lines ++ fired_text (names_of t) (fired_of t.applied.items)

-- these rewrites were recorded between two states
pub record FiredTaken (fs : List AppliedRewrite) (a b : RewriteLines) : Type 0 where
  pub applied : b.applied.items ≡ a.applied.items ++ applied_by fs
  pub names : names_of b ≡ names_of a
  pub limit : b.limit ≡ a.limit
  pub current : (lines : List ℕ) → IsCurrent lines a → IsCurrent lines b

pub untouched_fired : (t : RewriteLines) → FiredTaken [] t t
untouched_fired t = record { applied = sym (append-nil t.applied.items); names = refl; limit = refl; current = λ lines h. h }

pub applied_joined : (fs gs : List AppliedRewrite) → applied_by (fs ++ gs) ≡ applied_by fs ++ applied_by gs
applied_joined [] gs = refl
applied_joined (f ∷ fs) gs = ap (λ (bs : List AppliedPattern). f.by ∷ bs) (applied_joined fs gs)

pub joined_fired : (fs gs : List AppliedRewrite) (a b d : RewriteLines) → FiredTaken fs a b → FiredTaken gs b d → FiredTaken (fs ++ gs) a d
joined_fired fs gs a b d f g = record {
  applied = g.applied ∙ ap (λ (bs : List AppliedPattern). bs ++ applied_by gs) f.applied ∙ append_assoc a.applied.items (applied_by fs) (applied_by gs)
      ∙ ap (λ (bs : List AppliedPattern). a.applied.items ++ bs) (sym (applied_joined fs gs));
  names = g.names ∙ f.names;
  limit = g.limit ∙ f.limit;
  current = λ lines h. g.current lines (f.current lines h);
}
