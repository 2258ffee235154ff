-- The members of reply lines.
use Rattle.std.specs.Prelude.{ℕ, List, [], ◌∷◌, ◌==◌, ◌||◌, Bool, if◌then◌else◌, codes}
use Rattle.std.specs.Str.{bytes_eq}
use Rattle.mlir_work_json.specs.Cuts.{cell, cells, trailing, second, after_second}
use Rattle.mlir_work_json.specs.Items.{Member, Texts, text, numeral}

-- the note of a refusal: nothing, or `about #3 %v2.0`
abbrev pub about_members : List ℕ → List Member
about_members [] = []
about_members (b ∷ bs) = (codes "about", Texts (cells (trailing (b ∷ bs)))) ∷ []

-- `about #3`, or `at 17` with an optional note such as `about location`
abbrev pub worded_members : List ℕ → List Member
worded_members place =
    if bytes_eq (cell place) (codes "about") then about_members place
    else numeral (codes "offset") (second place) ∷ about_members (after_second place)

-- the text after a refusal: nothing, `#2`, `at 17`, or a note
abbrev pub place_members : List ℕ → List Member
place_members [] = []
place_members (b ∷ bs) =
    if b == 35 then text (codes "op") (cell (b ∷ bs)) ∷ about_members (trailing (b ∷ bs)) else worded_members (b ∷ bs)

-- `22 HasUses` and the text after it
abbrev pub refusal_members : List ℕ → List Member
refusal_members line =
    numeral (codes "refused") (cell line) ∷ text (codes "word") (second line) ∷ place_members (after_second line)

-- `22 HasUses`
abbrev pub expected_members : List ℕ → List Member
expected_members line = numeral (codes "expected") (cell line) ∷ text (codes "word") (trailing line) ∷ []

-- the check results, which a width may follow
abbrev pub says_width : List ℕ → Bool
says_width word =
    bytes_eq word (codes "holds") || (bytes_eq word (codes "empty")
    || (bytes_eq word (codes "fails") || bytes_eq word (codes "unrefuted")))

-- the key of the number after a word
abbrev pub number_key : List ℕ → List ℕ
number_key word = if says_width word then codes "width" else codes "count"

-- the text after an outcome's word: nothing, `#12`, or `3`
abbrev pub result_members : List ℕ → List ℕ → List Member
result_members word [] = []
result_members word (b ∷ bs) =
    if b == 35 then text (codes "op") (b ∷ bs) ∷ [] else numeral (number_key word) (b ∷ bs) ∷ []

-- `ok`, `ok #12`, `converged 3`, `holds 8`, `holds`
abbrev pub done_members : List ℕ → List Member
done_members line = text (codes "reply") (cell line) ∷ result_members (cell line) (trailing line)

-- the text after the number of a reply
abbrev pub answer_members : List ℕ → List Member
answer_members line =
    if bytes_eq (cell line) (codes "refused") then refusal_members (trailing line)
    else if bytes_eq (cell line) (codes "expected") then expected_members (trailing line)
    else done_members line

-- `1 ok`, `1 ok #12`, `1 converged 3`, `1 holds 8`, `1 holds`, `1 unrefuted 32`, `1 refused 22 HasUses`,
-- `1 refused 51 NotLegalised #2`, `1 refused 3 UnknownValue at 17`, `1 refused 22 HasUses about #3 #5`,
-- `1 expected 22 HasUses`
abbrev pub reply_members : List ℕ → List Member
reply_members line = numeral (codes "n") (cell line) ∷ answer_members (trailing line)

-- `module refused 7 BadValue at 16`
abbrev pub unparsed_members : List ℕ → List Member
unparsed_members line = refusal_members (after_second line)

-- `attach uses refused 36 Memory`
abbrev pub unattached_members : List ℕ → List Member
unattached_members line = text (codes "attach") (second line) ∷ refusal_members (trailing (after_second line))

-- the text after the kind of a heading: nothing, `stale` or `memory`
abbrev pub state_members : List ℕ → List Member
state_members [] = []
state_members (b ∷ bs) = text (codes "state") (b ∷ bs) ∷ []

-- `-- uses`, `-- uses stale`, `-- uses memory`
abbrev pub heading_members : List ℕ → List Member
heading_members line = text (codes "kind") (second line) ∷ state_members (after_second line)
