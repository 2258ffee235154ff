-- When the search for a comma continues.
use Rattle.std.specs.Prelude.{◌≡◌, ℕ, false, ◌==◌, ◌&&◌, List}
use Rattle.ir_text_tokens.specs.Bodies.{is_none}

-- the byte isn't a comma at nesting depth one
abbrev pub IsNoComma : ℕ → List ℕ → Type 0
IsNoComma c os = (c == 44 && is_none os) ≡ false
