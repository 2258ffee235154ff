-- Parts as they are appended, and the list of operations in sections.
use Rattle.std.proofs.Common.{◌≡◌, ℕ, Bool, List, [], ◌∷◌, ◌++◌, take, drop, refl, sym, ap, ◌∙◌}
use Rattle.std.specs.Prelude.{◌||◌}
use Rattle.std.specs.List.{list_any}
use Rattle.std.proofs.lemmas.List.{take-append-drop}
use Rattle.std.proofs.lemmas.List.Folds.{list_any-append}
use Rattle.user_patterns_text.specs.Heads.{folding, is_one_of}
use Rattle.user_patterns_text.specs.Parts.{Placed, part_view, views}
use Rattle.user_patterns_text.specs.declared.parts.Part.{Part}

pub views_and : (ps : List Part) (p : Part) → views (ps ++ p ∷ []) ≡ views ps ++ part_view p ∷ []
views_and [] p = refl
views_and (q ∷ ps) p = ap (λ (rest : List Placed). part_view q ∷ rest) (views_and ps p)

any_of_two : (n : ℕ) (words : List (List ℕ)) (w : List ℕ) → is_one_of words w ≡ (is_one_of (take n words) w || is_one_of (drop n words) w)
any_of_two n words w = ap (λ (ws : List (List ℕ)). is_one_of ws w) (sym (take-append-drop n words)) ∙ list_any-append _ (take n words) (drop n words)

pub any_of_three : (w : List ℕ) → is_one_of folding w ≡ (is_one_of (take 8 folding) w || (is_one_of (take 8 (drop 8 folding)) w || is_one_of (drop 8 (drop 8 folding)) w))
any_of_three w = any_of_two 8 folding w ∙ ap (λ (b : Bool). is_one_of (take 8 folding) w || b) (any_of_two 8 (drop 8 folding) w)
