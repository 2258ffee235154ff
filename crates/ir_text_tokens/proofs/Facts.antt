-- Lemmas about trees that many proofs use.
use Rattle.ir_text_tokens.specs.Tokens.{next, skip, string, string_at}
use Rattle.std.proofs.Common.{[], List, refl, ℕ, ◌+◌, ◌-◌, ◌∙◌, ◌∷◌, ◌≡◌, ◌≤◌}
use Rattle.std.specs.Prelude.{◌&&◌, ◌==◌}

pub string_token : (cs : List ℕ) → next (34 ∷ cs) ≡ string_at string cs
unfolding next skip
string_token [] = refl
string_token (d ∷ ds) = refl
