-- Proofs about reading an input line by line.
use Rattle.std.proofs.Common.{◌≡◌, ℕ, List, [], ◌∷◌, ◌++◌, Option, Some, None, inl, inr, ◌⊎◌, ◌≤◌, Bool, true, false, refl, sym, ap, ◌∙◌, append_assoc, append-nil, length-append, length, take, ◌+◌, ◌-◌, ◌<◌, arith}
use Rattle.std.specs.List.{position}
use Rattle.std.specs.Prelude.{codes, ⊤}
use Rattle.std.specs.Str.{bytes_eq}
use Rattle.std.proofs.lemmas.Grind.{common_steps}
use Rattle.std.specs.Io.KnownBytes.{Consumes, IsAtEnd, Keeps}
use Rattle.mlir_work_script_base.specs.Lines.{is_newline, line_of, after_line}
use Rattle.mlir_work_script_base.specs.Parts.{at_divider}
use Rattle.mlir_work_script_base.proofs.Spanning.{Passed, begins, begins_script, ends_module, preceding_is, passes}
use Rattle.mlir_work_run.specs.Feeding.{HasFeed, HasLine, IsLong, IsMore, StartsLong, TakesLine, TakesModule, waiting}

pub keeps_same : (a : Option (List ℕ)) → Keeps a a
keeps_same None = tt
keeps_same (Some xs) = refl

pub keeps_join : (a b c : Option (List ℕ)) → Keeps a b → Keeps b c → Keeps a c
keeps_join None b c h k = tt
keeps_join (Some xs) None c h k = absurd h
keeps_join (Some xs) (Some ys) None h k = absurd k
keeps_join (Some xs) (Some ys) (Some zs) h k = k ∙ h

-- appending the bytes of a read to the buffer doesn't change the pending input
pub kept_on : (kept bytes : List ℕ) (old new : Option (List ℕ)) → Consumes old new bytes → Keeps (waiting kept old) (waiting (kept ++ bytes) new)
kept_on kept bytes None new h = tt
kept_on kept bytes (Some xs) None h = absurd h
kept_on kept bytes (Some xs) (Some ys) h = append_assoc kept bytes ys ∙ ap (λ zs. kept ++ zs) (sym h)

-- an interrupted read changes nothing
pub kept_as : (kept : List ℕ) (old new : Option (List ℕ)) → Keeps old new → Keeps (waiting kept old) (waiting kept new)
kept_as kept None new h = tt
kept_as kept (Some xs) None h = absurd h
kept_as kept (Some xs) (Some ys) h = ap (λ zs. kept ++ zs) h

pub feed_found : (xs : List ℕ) (n : ℕ) → Some n ≡ position is_newline xs → HasFeed xs
feed_found xs n e = grind (arith, common_steps)

-- ---- a buffer without a line feed

later_feed : (b : ℕ) (bs : List ℕ) → is_newline b ≡ false → HasFeed (b ∷ bs) → HasFeed bs
later_feed b bs e h = let g = rw e at h in omega (arith, g)

pub none_found : (xs : List ℕ) → None ≡ position is_newline xs → HasFeed xs → ⊥
none_found xs e h = grind (arith, common_steps)

after_at : (b : ℕ) (bs more : List ℕ) (t : Bool) → is_newline b ≡ t → (HasFeed bs) → HasFeed (b ∷ bs)
after_at b bs more true e h = rw e (omega arith)
after_at b bs more false e h = rw e (omega (arith, h))

-- a line feed in the appended bytes is a line feed of the buffer
pub feed_after : (kept bytes : List ℕ) → HasFeed bytes → HasFeed (kept ++ bytes)
feed_after [] bytes h = h
feed_after (b ∷ bs) bytes h = after_at b (bs ++ bytes) [] (is_newline b) refl (feed_after bs bytes h)

split_at : (b : ℕ) (bs bytes : List ℕ) (t : Bool) → is_newline b ≡ t → HasFeed ((b ∷ bs) ++ bytes) → (HasFeed (bs ++ bytes) → HasFeed bs ⊎ HasFeed bytes) → HasFeed (b ∷ bs) ⊎ HasFeed bytes
split_at b bs bytes true e h ih = inl (rw e (omega arith))
split_at b bs bytes false e h ih = elim (ih (later_feed b (bs ++ bytes) e h)) [
  | inl here ↦ inl (after_at b bs [] false e here)
  | inr there ↦ inr there
]

-- a line feed of the buffer was there before, or is in the appended bytes
feed_split : (kept bytes : List ℕ) → HasFeed (kept ++ bytes) → HasFeed kept ⊎ HasFeed bytes
feed_split [] bytes h = inr h
feed_split (b ∷ bs) bytes h = split_at b bs bytes (is_newline b) refl h (feed_split bs bytes)

pub still_feedless : (kept bytes all : List ℕ) → all ≡ kept ++ bytes → (HasFeed kept → ⊥) → (HasFeed bytes → ⊥) → HasFeed all → ⊥
still_feedless kept bytes all e none new h = elim (feed_split kept bytes (rw e at h)) [ inl here ↦ none here | inr there ↦ new there ]

after_short_at : (b : ℕ) (bs : List ℕ) (t : Bool) → is_newline b ≡ t → length (after_line bs) ≤ length bs → length (after_line (b ∷ bs)) ≤ length (b ∷ bs)
after_short_at b bs true e h = rw e (omega arith)
after_short_at b bs false e h = rw e (omega (arith, h))

after_short : (bs : List ℕ) → length (after_line bs) ≤ length bs
after_short [] = omega arith
after_short (b ∷ bs) = after_short_at b bs (is_newline b) refl (after_short bs)

after_all_at : (b : ℕ) (bs more : List ℕ) (t : Bool) → is_newline b ≡ t → (HasFeed (b ∷ bs) → ⊥) → ((HasFeed bs → ⊥) → length (after_line (bs ++ more)) ≤ length more) → length (after_line ((b ∷ bs) ++ more)) ≤ length more
after_all_at b bs more true e none ih = absurd (none (rw e (omega arith)))
after_all_at b bs more false e none ih = rw e (ih (λ h. none (after_at b bs [] false e h)))

-- the first line has all bytes of a buffer without a line feed
after_all : (kept more : List ℕ) → (HasFeed kept → ⊥) → length (after_line (kept ++ more)) ≤ length more
after_all [] more none = after_short more
after_all (b ∷ bs) more none = after_all_at b bs more (is_newline b) refl none (after_all bs more)

-- how a text splits if its prefix has a whole line
abbrev IsCut : List ℕ → List ℕ → Type 0
IsCut kept more = (line_of (kept ++ more) ≡ line_of kept) × (after_line (kept ++ more) ≡ after_line kept ++ more)

preceding_at : (b : ℕ) (bs more : List ℕ) → HasFeed (b ∷ bs) → (t : Bool) → is_newline b ≡ t → (HasFeed bs → IsCut bs more) → IsCut (b ∷ bs) more
preceding_at b bs more h true e ih = (rw e refl, rw e refl)
preceding_at b bs more h false e ih =
    let shorter : HasFeed bs = let g = rw e at h in omega (arith, g) in
    let cut = ih shorter in (rw e (ap (λ (xs : List ℕ). b ∷ xs) cut.0), rw e cut.1)

-- if a prefix of a text has a whole line, that line is the first line of the text, and the rest of the prefix
-- precedes the remaining text
pub line_preceding : (kept more : List ℕ) → HasFeed kept → IsCut kept more
line_preceding [] more h = absurd (omega (arith, h))
line_preceding (b ∷ bs) more h = preceding_at b bs more h (is_newline b) refl (λ g. line_preceding bs more g)

-- a line with its line feed
abbrev Spans : List ℕ → Type 0
Spans bs = (line : List ℕ) × (bs ≡ line ++ after_line bs) × (line_of line ≡ line_of bs)

spans_at : (b : ℕ) (bs : List ℕ) (t : Bool) → is_newline b ≡ t → Spans bs → Spans (b ∷ bs)
spans_at b bs true e h = (b ∷ [], rw e refl, rw e refl)
spans_at b bs false e h = (b ∷ h.0, rw e (ap (λ (xs : List ℕ). b ∷ xs) h.1), rw e (ap (λ (xs : List ℕ). b ∷ xs) h.2))

spans : (bs : List ℕ) → Spans bs
spans [] = ([], refl, refl)
spans (b ∷ bs) = spans_at b bs (is_newline b) refl (spans bs)

-- the first line, and the bytes before the second line
first_is : (bs : List ℕ) → (bs ≡ take (length bs - length (after_line bs)) bs ++ after_line bs) × (line_of (take (length bs - length (after_line bs)) bs) ≡ line_of bs)
first_is bs =
    let h = spans bs in
    let f : take (length bs - length (after_line bs)) bs ≡ h.0 = preceding_is bs h.0 (after_line bs) (sym h.1) in
    (rw f h.1, rw f h.2)

-- the buffer has the first line of the pending input, and it was taken
pub taken : (a : Option (List ℕ)) (kept : List ℕ) (left : Option (List ℕ)) (line rest : List ℕ) → Keeps a (waiting kept left) → HasLine kept left → line ≡ take (length kept - length rest) kept → rest ≡ after_line kept → TakesLine a (waiting rest left) line
taken None kept left line rest keeps has is trailing = tt
taken (Some all) kept None line rest keeps has is trailing = absurd keeps
taken (Some all) kept (Some left) line rest keeps has is trailing =
    let first = first_is kept in
    let same : line ≡ take (length kept - length (after_line kept)) kept = is ∙ ap (λ (xs : List ℕ). take (length kept - length xs) kept) trailing in
    let cut : IsCut kept left = elim has [ inl feed ↦ line_preceding kept left feed | inr end ↦ rw (end, append-nil, append-nil) (refl, refl) ] in
    let whole : kept ≡ line ++ after_line kept = first.0 ∙ ap (λ (xs : List ℕ). xs ++ after_line kept) (sym same) in (
      sym keeps ∙ ap (λ (xs : List ℕ). xs ++ left) whole ∙ append_assoc line (after_line kept) left ∙ ap (λ (xs : List ℕ). line ++ (xs ++ left)) (sym trailing),
      ap line_of same ∙ first.1 ∙ sym cut.0 ∙ ap line_of keeps,
      ap (λ (xs : List ℕ). xs ++ left) trailing ∙ sym cut.1 ∙ ap after_line keeps,
    )

-- ---- long lines

-- the buffer has more bytes than a line may have, and no line feed
pub long_buffer : (most : ℕ) (a : Option (List ℕ)) (kept : List ℕ) (left : Option (List ℕ)) → Keeps a (waiting kept left) → (HasFeed kept → ⊥) → most < length kept → StartsLong most a
long_buffer most None kept left keeps none lt = tt
long_buffer most (Some all) kept None keeps none lt = absurd keeps
long_buffer most (Some all) kept (Some left) keeps none lt =
    let short = after_all kept left none in
    rw (sym keeps) (omega (arith, lt, short, length-append kept left))

-- the first line of the buffer has more bytes than a line may have
pub long_line : (most : ℕ) (a : Option (List ℕ)) (kept : List ℕ) (left : Option (List ℕ)) → Keeps a (waiting kept left) → HasLine kept left → most + length (after_line kept) < length kept → StartsLong most a
long_line most None kept left keeps has lt = tt
long_line most (Some all) kept None keeps has lt = absurd keeps
long_line most (Some all) kept (Some left) keeps has lt =
    let cut : IsCut kept left = elim has [ inl feed ↦ line_preceding kept left feed | inr end ↦ rw (end, append-nil, append-nil) (refl, refl) ] in
    rw (sym keeps, cut.1) (omega (arith, lt, length-append kept left, length-append (after_line kept) left))

-- more bytes are pending than a line may have
long_more : (most : ℕ) (a : Option (List ℕ)) → StartsLong most a → IsMore most a
long_more most None h = tt
long_more most (Some all) h = omega (arith, h)

-- ---- the module

-- no line taken so far is the divider
abbrev pub Before : Option (List ℕ) → Option (List ℕ) → List ℕ → Type 0
Before None new text = ⊤
Before (Some all) None text = ⊥
Before (Some all) (Some rest) text = Passed all rest × (text ++ rest ≡ all)

pub before_none : (a : Option (List ℕ)) → Before a a []
before_none None = tt
before_none (Some all) = (begins all, refl)

undivided : (line all : List ℕ) → line_of line ≡ line_of all → at_divider line ≡ at_divider all
undivided line all e = ap (λ (xs : List ℕ). bytes_eq xs (codes "// -----")) e

pub before_more : (a b c : Option (List ℕ)) (text line : List ℕ) → Before a b text → TakesLine b c line → at_divider line ≡ false → Before a c (text ++ line)
before_more None b c text line h k e = tt
before_more (Some all) None c text line h k e = absurd h
before_more (Some all) (Some rest) None text line h k e = absurd k
before_more (Some all) (Some rest) (Some new) text line h k e =
    let passed : Passed all (after_line rest) = passes all rest (sym (undivided line rest k.1) ∙ e) h.0 in
    (rw k.2 passed, append_assoc text line new ∙ ap (λ (xs : List ℕ). text ++ xs) (sym k.0) ∙ h.1)

pub before_divider : (a b c : Option (List ℕ)) (text line : List ℕ) → Before a b text → TakesLine b c line → at_divider line ≡ true → TakesModule a c text
before_divider None b c text line h k e = tt
before_divider (Some all) None c text line h k e = absurd h
before_divider (Some all) (Some rest) None text line h k e = absurd k
before_divider (Some all) (Some rest) (Some new) text line h k e =
    let here : at_divider rest ≡ true = sym (undivided line rest k.1) ∙ e in
    (sym (preceding_is all text rest h.1) ∙ ends_module all rest here h.0, k.2 ∙ begins_script all rest here h.0)

pub before_end : (a b c : Option (List ℕ)) (text : List ℕ) → Before a b text → IsAtEnd b → Keeps b c → TakesModule a c text
before_end None b c text h end k = tt
before_end (Some all) None c text h end k = absurd h
before_end (Some all) (Some rest) None text h end k = absurd k
before_end (Some all) (Some rest) (Some new) text h end k =
    let preceding : take (length all - length rest) all ≡ text = preceding_is all text rest h.1 in
    let none : rest ≡ [] = end in (
      rw (preceding, none, append-nil) at h.0.module_text,
      k ∙ none ∙ rw none at h.0.script_text,
    )

pub more_before : (most : ℕ) (a b : Option (List ℕ)) (text : List ℕ) (n : ℕ) → n + length text ≡ most → Before a b text → StartsLong n b → IsMore most a
more_before most None b text n is h m = tt
more_before most (Some all) None text n is h m = absurd h
more_before most (Some all) (Some rest) text n is h m = let more : IsMore n (Some rest) = long_more n (Some rest) m in omega (arith, is, more, ap length h.1, length-append text rest)

pub after_kept : (kept bytes all : List ℕ) → all ≡ kept ++ bytes → HasFeed bytes → HasFeed all
after_kept kept bytes all e h = rw e (feed_after kept bytes h)
