-- The grammar of operations, as terms. Language Reference, "Operations", "Regions", "Blocks"; Traits,
-- "IsolatedFromAbove".
use Rattle.std.specs.Prelude.{◌≡◌, ◌⊎◌, ℕ, zero, suc, ◌+◌, ◌<◌, ◌≤◌, ◌==◌, Bool, true, false, List, [], ◌∷◌, ◌++◌, length, map, take, drop, slice_get, Option, Some, None}
use Rattle.std.specs.List.{list_all}
use Rattle.std.specs.Char.{is_ascii_digit}
use Rattle.std.specs.Str.{bytes_eq}
use Rattle.ir_text_tokens.specs.declared.token.Mark.{Mark}
use Rattle.ir_text_tokens.specs.declared.token.Mark.TheVariants.{OpenRound, CloseRound, OpenCurly, CloseCurly, Less, Greater, Equal, Colon}
use Rattle.ir_text_tokens.specs.Tokens.{Lexeme, integer, value, string, label, hash}
use Rattle.ir_text_tokens.specs.Strings.{string_bytes}
use Rattle.ir_text_tokens.specs.Numbers.{integer_of, place_value}
use Rattle.ir_text_tokens.specs.Scopes.{Binding, Scopes}
use Rattle.ir_types.specs.Limits.{most_depth}
use Rattle.ir_types.specs.Terms.{TypeTerm, AttrTerm}
use Rattle.ir_types.specs.Words.{is_isolated, is_inherent}
use Rattle.ir_tree.specs.declared.value.Value.TheVariants as values
use Rattle.ir_tree.specs.Limits.{most_items, most_regions, most_ops}
use Rattle.ir_tree.specs.Tree.{RegionOf}
use Rattle.ir_tree.specs.Meaning.{Operation, key_before}
use Rattle.ir_text_types.specs.Grammars.{When, Grammar, Then, Done, After, Not, Either, IsMore, IsList, Token, IsMark}
use Rattle.ir_text_types.specs.Typed.{Text}
use Rattle.ir_text_types.specs.TypeGrammar.{IsType, IsFunctionType}
use Rattle.ir_text_attributes.specs.AttrGrammar.{EntryTerm, IsKey, IsValue, IsAttr}
use Rattle.ir_text_operations.specs.Limits.{most_written}
use Rattle.ir_text_operations.specs.Entries.{is_refused}
use Rattle.ir_text_operations.specs.Made.{region_of, made}
use Rattle.ir_text_operations.specs.Free.{pack_denoted_by}
use Rattle.ir_text_names.specs.Packs.{Counted, counts}
use Rattle.ir_text_operations.specs.ParseState.{BoundTerm, PackTerm, ParseState, state_with_rest, state_with_scopes, state_inside, state_outside, IsMarkToken, InText, IsBound}

-- ---- the header

-- a name after its sigil
abbrev pub IsName : Grammar Text (List ℕ)
IsName n old new = Token (value n) old new

-- a decimal or hexadecimal number that isn't 0
abbrev pub IsNumber : Grammar Text ℕ
IsNumber k old new = (digits : List ℕ) × Token (integer digits) old new × (k ≡ integer_of digits) × (1 ≤ k)

-- the count of results of a name after names of `before` results: 1 if no count is written; in total at most as many
-- as an operation may have
abbrev pub IsCount : ℕ → Grammar Text ℕ
IsCount before = Then (Either IsMark Colon IsNumber (Done 1)) (λ k. When (before + k ≤ most_items) (Done k))

abbrev pub IsResult : ℕ → Grammar Text Counted
IsResult before = Then IsName (λ n. Then (IsCount before) (λ k. Done (n, k)))

-- names up to an equal sign
abbrev pub IsNames : Grammar Text (List Counted)
IsNames = IsMore IsMark Equal (λ before. IsResult (counts before)) most_items []

abbrev pub IsResultsFrom : Lexeme → Grammar Text (Option (List Counted))
IsResultsFrom (value n) y old new = (ns : List Counted) × IsNames ns old new × (y ≡ Some ns)
IsResultsFrom _ y old new = (y ≡ None) × (new ≡ old)

-- the names of the results, if a name comes first
abbrev pub IsResults : Grammar Text (Option (List Counted))
IsResults y old new = (t : Lexeme) × (rest : Text) × Token t old rest × IsResultsFrom t y old new

-- the name of an operation, which isn't empty
abbrev pub IsOpName : Grammar Text (List ℕ)
IsOpName n old new = (raw : List ℕ) × Token (string raw) old new × ((length (string_bytes raw) == 0) ≡ false) × (n ≡ string_bytes raw)

-- an index into a pack: the decimal number after a hash sign, or 0 if there is no hash sign
abbrev pub IsPlace : Grammar Text ℕ
IsPlace k old new =
    ((digits : List ℕ) × Token (hash digits) old new × (list_all is_ascii_digit digits ≡ true) × (k ≡ place_value 10 digits))
    ⊎ (((word rest : List ℕ) → Token (hash word) old rest → ⊥) × (k ≡ 0) × (new ≡ old))

-- the values of free names
abbrev pub FreeTerms : Type 0
FreeTerms = List ℕ → Option BoundTerm

-- a name that is visible or free, and one of its values
abbrev pub IsUse : FreeTerms → List (Binding PackTerm) → Grammar Text BoundTerm
IsUse free here b old new =
    (n : List ℕ) × (mid : Text) × (pack : PackTerm) × (k : ℕ) × Token (value n) old mid × (pack_denoted_by free here n ≡ Some pack) × IsPlace k mid new × (slice_get pack k ≡ Some b)

pub record StartTerm : Type 0 where
  pub results : Option (List Counted)
  pub name : List ℕ
  pub operands : List BoundTerm

abbrev pub IsStart : FreeTerms → List (Binding PackTerm) → Grammar Text StartTerm
IsStart free here =
    Then IsResults (λ results. Then IsOpName (λ name. After IsMark OpenRound (Then (IsList IsMark CloseRound (λ before. IsUse free here) most_items) (λ operands.
    Done (record { results = results; name = name; operands = operands })))))

-- ---- dictionaries

-- whether a key is always a property of an operation; if no operation is given, no key is
abbrev pub is_property : Option (List ℕ) → List ℕ → Bool
is_property None k = false
is_property (Some op) k = is_inherent op k

-- whether opaque types and attributes are allowed
module _ (opaque : Bool) where
  -- the attribute of an entry
  abbrev pub IsEntryValue : Grammar Text AttrTerm
  IsEntryValue = IsValue most_depth (IsAttr opaque most_depth)

  -- an entry whose key is neither in `before` nor among the properties, in a dictionary that isn't full
  abbrev pub IsOpEntry : Option (List ℕ) → List EntryTerm → List EntryTerm → Grammar Text EntryTerm
  IsOpEntry op properties before =
      Then IsKey (λ k. When (is_refused bytes_eq (is_property op) properties k before ≡ false) (Then IsEntryValue (λ a. Done (k, a))))

  abbrev pub IsEntries : Option (List ℕ) → List EntryTerm → Grammar Text (List EntryTerm)
  IsEntries op properties = IsList IsMark CloseCurly (IsOpEntry op properties) most_written

  -- the properties, if they are written
  abbrev pub IsProperties : Grammar Text (List EntryTerm)
  IsProperties = Either IsMark Less (After IsMark OpenCurly (Then (IsEntries None []) (λ es. After IsMark Greater (Done es)))) (Done [])

  -- the attribute dictionary, if it is written
  abbrev pub IsAttributes : List ℕ → List EntryTerm → Grammar Text (List EntryTerm)
  IsAttributes op properties = Either IsMark OpenCurly (IsEntries (Some op) properties) (Done [])

  -- ---- blocks

  -- an argument, whose name is visible from then on
  abbrev pub IsArg : ℕ → ℕ → List TypeTerm → Grammar ParseState TypeTerm
  IsArg id r before = Then (InText IsName) (λ n. After IsMarkToken Colon (Then (InText (IsType opaque most_depth)) (λ t. binds n t)))
    where
      binds : List ℕ → TypeTerm → Grammar ParseState TypeTerm
      binds n t y old new = (scopes : Scopes PackTerm) × IsBound n ((record { value = values.Arg id r (length before); type = t }) ∷ []) old.scopes scopes × (y ≡ t) × (new ≡ state_with_scopes old scopes)

  -- optional arguments in parentheses, and a colon
  abbrev pub IsLabelArgs : ℕ → ℕ → Grammar ParseState (List TypeTerm)
  IsLabelArgs id r = Then (Either IsMarkToken OpenRound (IsList IsMarkToken CloseRound (IsArg id r) most_items) (Done [])) (λ args. After IsMarkToken Colon (Done args))

  abbrev pub IsHeadFrom : ℕ → ℕ → Lexeme → Text → Grammar ParseState (Option (List TypeTerm))
  IsHeadFrom id r (label l) rest y old new = (args : List TypeTerm) × IsLabelArgs id r args (state_with_rest old rest) new × (y ≡ Some args)
  IsHeadFrom id r _ rest y old new = (y ≡ None) × (new ≡ old)

  -- a label with the arguments of the block, if a label comes first
  abbrev pub IsHead : ℕ → ℕ → Grammar ParseState (Option (List TypeTerm))
  IsHead id r y old new = (t : Lexeme) × (rest : Text) × Token t old.bytes rest × IsHeadFrom id r t rest y old new

-- ---- operations up to a closing mark after those of `front`, at most `room`

module _ (close : Mark) (P : Grammar ParseState Operation) where
  unfoldable pub IsOps : ℕ → List Operation → Grammar ParseState (List Operation)
  IsOps zero preceding ys old new = ⊥
  IsOps (suc headroom) preceding ys old new =
      (IsMarkToken close old new × (ys ≡ preceding))
      ⊎ (Not IsMarkToken close old × (y : Operation) × (mid : ParseState) × P y old mid × IsOps headroom (preceding ++ y ∷ []) ys mid new)

abbrev pub RegionTerm : Type 0
RegionTerm = RegionOf (List ℕ) TypeTerm AttrTerm

module _ (opaque : Bool) where
  -- a region; its names go out of scope at its end, and no outer name is visible in a region of an isolated operation
  abbrev pub IsRegion : Grammar ParseState (List Operation) → ℕ → Bool → List RegionTerm → Grammar ParseState RegionTerm
  IsRegion P id isolated before = After IsMarkToken OpenCurly inner
    where
      leaves : RegionTerm → Grammar ParseState RegionTerm
      leaves g y old new = (y ≡ g) × (new ≡ state_outside old)

      inner : Grammar ParseState RegionTerm
      inner y old new = Then (IsHead opaque id (length before)) (λ h. Then P (λ os. leaves (region_of h os))) y (state_inside isolated old) new

  -- regions in parentheses, or none
  abbrev pub IsRegions : Grammar ParseState (List Operation) → ℕ → Bool → Grammar ParseState (List RegionTerm)
  IsRegions P id isolated = Either IsMarkToken OpenRound (IsMore IsMarkToken CloseRound (IsRegion P id isolated) most_regions []) (Done [])

-- ---- operations

-- the results from index k on, with their types
abbrev pub result_terms : ℕ → ℕ → List TypeTerm → PackTerm
result_terms id k [] = []
result_terms id k (y ∷ ys) = record { value = values.Result id k; type = y } ∷ result_terms id (k + 1) ys

-- each name is bound to as many results as its count, from index k on
abbrev pub IsBoundResults : ℕ → ℕ → List Counted → List TypeTerm → (old new : Scopes PackTerm) → Type 0
IsBoundResults id k [] ys old new = new ≡ old
IsBoundResults id k (n ∷ ns) ys old new = (mid : Scopes PackTerm) × IsBound n.0 (result_terms id k (take n.1 ys)) old mid × IsBoundResults id (k + n.1) ns (drop n.1 ys) mid new

-- if names are written, their counts sum up to the number of results
abbrev pub IsFinished : ℕ → Option (List Counted) → List TypeTerm → (old new : Scopes PackTerm) → Type 0
IsFinished id None outputs old new = new ≡ old
IsFinished id (Some names) outputs old new = (counts names ≡ length outputs) × IsBoundResults id 0 names outputs old new

module _ (opaque : Bool) where
  -- after the regions: the attributes, and the function type, whose inputs are the types of the operands
  abbrev pub IsTail : ℕ → StartTerm → List EntryTerm → List RegionTerm → Grammar ParseState Operation
  IsTail id h properties regions =
      Then (InText (IsAttributes opaque h.name properties)) (λ es. After IsMarkToken Colon (Then (InText (IsFunctionType opaque)) (λ t. When (map (λ b. b.type) h.operands ≡ t.0) (ends es t.1))))
    where
      ends : List EntryTerm → List TypeTerm → Grammar ParseState Operation
      ends es outputs y old new =
          (scopes : Scopes PackTerm) × IsFinished id h.results outputs old.scopes scopes × (new ≡ state_with_scopes old scopes)
          × (y ≡ made (is_property (Some h.name)) key_before id h.name (map (λ b. b.value) h.operands) properties es outputs regions)

  abbrev pub IsOpWith : FreeTerms → Grammar ParseState (List Operation) → Grammar ParseState Operation
  IsOpWith free P y old new =
      (h : StartTerm) × (mid : Text) × (properties : List EntryTerm) × (rest : Text)
      × IsStart free old.scopes.here h old.bytes mid × IsProperties opaque properties mid rest
      × Then (IsRegions opaque P old.next (is_isolated h.name)) (λ regions. IsTail old.next h properties regions) y (record { bytes = rest; scopes = old.scopes; next = old.next + 1 }) new

  -- an operation of at most this many levels, including its own; ids are assigned in pre-order, each less than `last`
  unfoldable pub IsOp : FreeTerms → ℕ → ℕ → Grammar ParseState Operation
  IsOp free last zero y old new = ⊥
  IsOp free last (suc depth) y old new = (old.next < last) × IsOpWith free (IsOps CloseCurly (IsOp free last depth) most_ops []) y old new
