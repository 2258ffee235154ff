-- Proofs about the patterns that a list names, one by one.
use Rattle.std.proofs.Common.{◌≡◌, ◌∙◌, refl, ap, sym, ℕ, List, [], ◌∷◌, ◌++◌, Bool, true, false, if◌then◌else◌, ◌||◌, append-nil, append_assoc}
use Rattle.std.specs.List.{list_any}
use Rattle.std.proofs.lemmas.List.{map-append}
use Rattle.ir_event.specs.trees.Meaning.{Operation}
use Rattle.mlir_work_registry.specs.Registry.{RegistryModel}
use Rattle.mlir_work_transforms.specs.RuleLists.{pattern_named}
use Rattle.mlir_work_transforms.specs.Unproved.{Noted, and_once, and_user_pattern, is_noted, noted_after, proves, unproved_line, unproved_text}
use Rattle.mlir_work_transforms.specs.Views.{noted_view, noted_views}
use Rattle.mlir_work_transforms.specs.declared.unproved.Noted.{Noted as Coded}
use Rattle.mlir_work_transforms.specs.rewriter.Commands.{RuleName}

-- ---- one more pattern

has_mapped : (name : List ℕ) (ns : List Coded) → list_any (λ n. is_noted name (noted_view n)) ns ≡ list_any (is_noted name) (noted_views ns)
has_mapped name [] = refl
has_mapped name (n ∷ ns) = ap (λ b. is_noted name (noted_view n) || b) (has_mapped name ns)

-- the list has a pattern of this name already, or it doesn't
pub there_once : (ns : List Coded) (n : Noted) (there : Bool) → there ≡ list_any (λ x. is_noted n.name (noted_view x)) ns → there ≡ true → noted_views ns ≡ and_once (noted_views ns) n
there_once ns n there is e = sym (ap (λ b. if b then noted_views ns else noted_views ns ++ n ∷ []) (sym (has_mapped n.name ns) ∙ sym is ∙ e))

pub added_once : (ns more : List Coded) (n : Noted) (one : Coded) (there : Bool) → there ≡ list_any (λ x. is_noted n.name (noted_view x)) ns → there ≡ false → noted_view one ≡ n → more ≡ ns ++ one ∷ [] → noted_views more ≡ and_once (noted_views ns) n
added_once ns more n one there is e same added =
    ap noted_views added ∙ map-append noted_view ns (one ∷ []) ∙ ap (λ x. noted_views ns ++ x ∷ []) same
    ∙ sym (ap (λ b. if b then noted_views ns else noted_views ns ++ n ∷ []) (sym (has_mapped n.name ns) ∙ sym is ∙ e))

-- ---- the items of a list

module _ (registry : RegistryModel) where
  pub item_noted : (all : List Noted) (name : RuleName) (left names : List RuleName) (before trailing : List Noted) → names ≡ name ∷ left → trailing ≡ and_user_pattern before (pattern_named name registry)
      → noted_after registry before names ≡ all → noted_after registry trailing left ≡ all
  item_noted all name left names before trailing e added h =
      ap (λ ns. noted_after registry ns left) added ∙ sym (ap (λ (xs : List RuleName). noted_after registry before xs) e) ∙ h

-- ---- the lines

module _ (t : Operation) where
  -- the line of one pattern, followed by the lines of the others
  pub one_line : (n : Noted) (ns : List Noted) → unproved_text t (n ∷ []) ++ unproved_text t ns ≡ unproved_text t (n ∷ ns)
  one_line n ns = ap (λ line. line ++ unproved_text t ns) (append-nil (if proves n.is_typed n.said t then [] else unproved_line n))

  pub proved_line : (n : Noted) (proved : Bool) (out : List ℕ) → proved ≡ proves n.is_typed n.said t → proved ≡ true → out ≡ out ++ unproved_text t (n ∷ [])
  proved_line n proved out is e = sym (append-nil out) ∙ ap (λ line. out ++ line) (sym (ap (λ b. (if b then [] else unproved_line n) ++ []) (sym is ∙ e)))

  pub unproved_lines : (n : Noted) (proved : Bool) (out more : List ℕ) → proved ≡ proves n.is_typed n.said t → proved ≡ false → more ≡ out ++ unproved_line n → more ≡ out ++ unproved_text t (n ∷ [])
  unproved_lines n proved out more is e put =
      put ∙ ap (λ line. out ++ line) (sym (append-nil (unproved_line n)) ∙ sym (ap (λ b. (if b then [] else unproved_line n) ++ []) (sym is ∙ e)))

  pub lines_step : (rest tail : List Coded) (one : Coded) (all out more : List ℕ) → rest ≡ one ∷ tail → more ≡ out ++ unproved_text t (noted_view one ∷ []) → out ++ unproved_text t (noted_views rest) ≡ all → more ++ unproved_text t (noted_views tail) ≡ all
  lines_step rest tail one all out more e put h =
      ap (λ xs. xs ++ unproved_text t (noted_views tail)) put
      ∙ append_assoc out (unproved_text t (noted_view one ∷ [])) (unproved_text t (noted_views tail))
      ∙ ap (λ xs. out ++ xs) (one_line (noted_view one) (noted_views tail) ∙ sym (ap (λ xs. unproved_text t (noted_views xs)) e))
      ∙ h
