-- The parser and the grammar of blocks and regions agree.
use Rattle.std.specs.Prelude.{option_map}
use Rattle.std.specs.List.{list_all}
use Rattle.std.proofs.Common.{◌≡◌, ℕ, zero, suc, Bool, true, List, [], ◌∷◌, ◌++◌, length, map, Option, Some, None, refl, sym, ap, subst, ◌∙◌, ◌⊎◌, inl, inr}
use Rattle.std.proofs.lemmas.Bool.{lt-ltb, and_from}
use Rattle.ir_text_tokens.specs.declared.token.Mark.{Mark}
use Rattle.ir_text_tokens.specs.declared.token.Mark.TheVariants.{OpenRound, CloseRound, OpenCurly, Colon}
use Rattle.ir_text_tokens.specs.Tokens.{Lexeme, label}
use Rattle.ir_text_tokens.specs.Scopes.{Scopes}
use Rattle.ir_types.specs.Things.{ContextModel, IsExtendedBy}
use Rattle.ir_types.specs.Terms.{TypeTerm, name_term, type_term, attr_term}
use Rattle.ir_types.proofs.Growth.{grows_trans}
use Rattle.ir_tree.specs.declared.value.Value.TheVariants as values
use Rattle.ir_tree.specs.Tree as tree
use Rattle.ir_tree.specs.Tree.{Op, Region, ops_of}
use Rattle.ir_tree.specs.Limits.{ops_every}
use Rattle.ir_tree.specs.Maps.{map_ops}
use Rattle.ir_tree.specs.Passing.{op_passes}
use Rattle.ir_tree.specs.Meaning.{Operation, is_name, is_type, is_attr}
use Rattle.ir_text_types.specs.Marks.{after}
use Rattle.ir_text_types.specs.Outcomes.{Outcome, Read, ◌>>=◌, of_option, Parse}
use Rattle.ir_text_types.specs.Grammars.{Grammar, Then, Done, After, Not, Either, IsMore, IsList}
use Rattle.ir_text_types.specs.Lists.{more_at}
use Rattle.ir_text_types.specs.TypeReading.{type_at}
use Rattle.ir_text_types.specs.TypeGrammar.{IsType}
use Rattle.ir_text_types.specs.Typed.{Text, Typed}
use Rattle.ir_text_types.specs.Worlds.{From}
use Rattle.ir_text_types.specs.Denotation.{TypeDenotes}
use Rattle.ir_text_types.specs.Laws.{Each}
use Rattle.ir_text_types.proofs.Worlds.{bind_assoc, later, Exact, exact_where, exact_rendered, then_exact, done_exact, after_exact, either_exact}
use Rattle.ir_text_types.proofs.TextLaws.{things, Same}
use Rattle.ir_text_types.proofs.TypeLaws.{type_exact}
use Rattle.ir_text_names.specs.States.{State, to_bytes, after_in, typed, with_typed, with_scopes, inside, outside}
use Rattle.ir_text_names.specs.NameReading.{value_name_at}
use Rattle.ir_text_operations.specs.Made.{region_of}
use Rattle.ir_text_names.specs.BlockReading.{bind, type_here, arg_after_name, arg_at, args_at, label_args_from, label_args_at, head_from, head_at}
use Rattle.ir_text_operations.specs.OpReading.{ops_from, ops_at, region_at, regions_from, regions_at}
use Rattle.ir_text_operations.specs.ParseState.{PackTerm, ParseState, state_with_scopes, state_inside, state_outside, IsMarkToken, InText, IsBound}
use Rattle.ir_text_operations.specs.OpGrammar.{IsName, IsArg, IsLabelArgs, IsHeadFrom, IsHead, IsOps, RegionTerm, IsRegion, IsRegions}
use Rattle.ir_text_operations.specs.Denotation.{Equals, Both, StateDenotes, OpDenotes, RegionDenotes}
use Rattle.ir_text_operations.proofs.PrecedingLaws.{name_exact, begin_exact, items_exact, some_items_exact}
use Rattle.ir_text_operations.proofs.EntryLaws.{each_length}
use Rattle.ir_text_operations.proofs.NameLaws.{held, state_marks, trailing_exact, state_token, in_typed, in_text, typed_exact, text_exact, inside_exact, outside_exact, each_more, bind_scoped, scoped_exact}

-- ---- arguments

type_read : (o : Bool) (c : ContextModel) → c.opaque ≡ o → Exact things Same c TypeDenotes (type_here 32) (IsType o 32)
type_read o c mode =
    exact_where things Same c TypeDenotes (type_here 32) (type_at o 32) (IsType o 32) (λ s g sound. ap (λ b. type_at b 32 s) (g.opaque ∙ mode))
    (type_exact o 32 c)

abbrev binding : ℕ → ℕ → ℕ → List ℕ → ℕ → State → Outcome (ℕ × State)
binding id r k n y s = bind n ((record { value = values.Arg id r k; ty = y }) ∷ []) s.scopes >>= λ u. Read (y, with_scopes s u)

abbrev arg_type : ℕ → ℕ → ℕ → List ℕ → State → Outcome (ℕ × State)
arg_type id r k n s = in_typed (type_here 32) s >>= λ y. binding id r k n y.0 y.1

abbrev arg_rest : ℕ → ℕ → ℕ → List ℕ → State → Outcome (ℕ × State)
arg_rest id r k n s = of_option (after_in Colon s) >>= arg_type id r k n

named_same : (id r k : ℕ) (n : List ℕ) (s : State) → arg_after_name id r k s n ≡ arg_rest id r k n s
named_same id r k n s = by_rest (after Colon s.bytes)
  where
    read_into : Text → ℕ × Typed → Outcome (ℕ × State)
    read_into rest x = Read (x.0, with_typed (to_bytes s rest) x.1)

    by_rest : (o : Option Text)
        → (of_option (option_map (to_bytes s) o) >>= λ c. type_here 32 (typed c) >>= λ y. bind n ((record { value = values.Arg id r k; ty = y.0 }) ∷ []) s.scopes >>= λ u. Read (y.0, with_scopes (with_typed s y.1) u))
        ≡ (of_option (option_map (to_bytes s) o) >>= arg_type id r k n)
    by_rest None = refl
    by_rest (Some rest) = sym (bind_assoc (type_here 32 (rest, s.things)) (λ x. Read (x.0, with_typed (to_bytes s rest) x.1)) (λ y. binding id r k n y.0 y.1))

abbrev arg_in : ℕ → ℕ → ℕ → State → Outcome (ℕ × State)
arg_in id r k s = in_text value_name_at s >>= λ n. arg_rest id r k n.0 n.1

arg_same : (id r : ℕ) (before : List ℕ) (s : State) → arg_at id r before s ≡ arg_in id r (length before) s
unfolding arg_at
arg_same id r before s =
    (λ i. value_name_at s.bytes >>= λ n. named_same id r (length before) n.0 (to_bytes s n.1) i)
    ∙ sym (bind_assoc (value_name_at s.bytes) (λ n. Read (n.0, to_bytes s n.1)) (λ n. arg_rest id r (length before) n.0 n.1))

abbrev Binds : ℕ → ℕ → ℕ → List ℕ → TypeTerm → Grammar ParseState TypeTerm
Binds id r k n t y old new = (scopes : Scopes PackTerm) × IsBound n ((record { value = values.Arg id r k; type = t }) ∷ []) old.scopes scopes × (y ≡ t) × (new ≡ state_with_scopes old scopes)

bound_exact : (id r k j : ℕ) (n m : List ℕ) (y : ℕ) (t : TypeTerm) (c : ContextModel) → k ≡ j → n ≡ m → From (λ z. TypeDenotes z y t) c → Exact held StateDenotes c TypeDenotes (binding id r k n y) (Binds id r j m t)
bound_exact id r k j n m y t c place same stands =
    subst (λ l. Exact held StateDenotes c TypeDenotes (binding id r k n y) (Binds id r j l t)) same
    (scoped_exact c TypeDenotes y t stands (bind n ((record { value = values.Arg id r k; ty = y }) ∷ [])) (IsBound n ((record { value = values.Arg id r j; type = t }) ∷ []))
    (bind_scoped c n ((record { value = values.Arg id r k; ty = y }) ∷ []) ((record { value = values.Arg id r j; type = t }) ∷ []) (λ z g w. ((ap (values.Arg id r) place, stands z g w), tt))))

arg_exact : (id r : ℕ) (c : ContextModel) (xs : List ℕ) (ys : List TypeTerm) → length xs ≡ length ys → Exact held StateDenotes c TypeDenotes (arg_at id r xs) (IsArg c.opaque id r ys)
arg_exact id r c xs ys len =
    exact_where held StateDenotes c TypeDenotes (arg_at id r xs) (arg_in id r (length xs)) (IsArg c.opaque id r ys) (λ s g sound. arg_same id r xs s)
    (then_exact held StateDenotes c Equals TypeDenotes (in_text value_name_at) (InText IsName) (λ n. arg_rest id r (length xs) n) (λ n. After IsMarkToken Colon (Then (InText (IsType c.opaque 32)) (λ t. Binds id r (length ys) n t)))
    (text_exact c Equals value_name_at IsName (λ d g. name_exact d)) (λ d n n' g same.
    after_exact held StateDenotes after_in IsMarkToken state_marks d TypeDenotes Colon (arg_type id r (length xs) n) (Then (InText (IsType c.opaque 32)) (λ t. Binds id r (length ys) n' t))
    (then_exact held StateDenotes d TypeDenotes TypeDenotes (in_typed (type_here 32)) (InText (IsType c.opaque 32)) (λ y. binding id r (length xs) n y) (λ t. Binds id r (length ys) n' t) (typed_exact d TypeDenotes (type_here 32) (IsType c.opaque 32) (type_read c.opaque d g.opaque)) (λ e y t h stands.
    begin_exact held StateDenotes e TypeDenotes (λ s. binding id r (length xs) n y) (λ u. Binds id r (length ys) n' t) (λ s u up sound now. bound_exact id r (length xs) (length ys) n n' y t s.things len (same s.things (grows_trans d e s.things h up) sound) (later (λ z. TypeDenotes z y t) e s.things up stands))))))

item_exact : (id r : ℕ) (base c : ContextModel) (xs : List ℕ) (ys : List TypeTerm) → IsExtendedBy base c → From (λ z. Each TypeDenotes z xs ys) c → Exact held StateDenotes c TypeDenotes (arg_at id r xs) (IsArg base.opaque id r ys)
item_exact id r base c xs ys b stand =
    begin_exact held StateDenotes c TypeDenotes (λ s. arg_at id r xs) (λ t. IsArg base.opaque id r ys) (λ s t g sound h.
    subst (λ o. Exact held StateDenotes s.things TypeDenotes (arg_at id r xs) (IsArg o id r ys)) (g.opaque ∙ b.opaque)
    (arg_exact id r s.things xs ys (each_length TypeDenotes s.things xs ys (stand s.things g sound))))

args_exact : (id r : ℕ) (c : ContextModel) → Exact held StateDenotes c (Each TypeDenotes) (args_at id r) (IsList IsMarkToken CloseRound (IsArg c.opaque id r) 256)
unfolding args_at
args_exact id r c = items_exact held StateDenotes c after_in IsMarkToken state_marks TypeDenotes CloseRound (arg_at id r) (IsArg c.opaque id r) (item_exact id r c) 256

-- ---- the label of a block

label_args_exact : (id r : ℕ) (c : ContextModel) → Exact held StateDenotes c (Each TypeDenotes) (label_args_at id r) (IsLabelArgs c.opaque id r)
unfolding label_args_at
label_args_exact id r c =
    then_exact held StateDenotes c (Each TypeDenotes) (Each TypeDenotes) (λ s. label_args_from id r s (after_in OpenRound s)) (Either IsMarkToken OpenRound (IsList IsMarkToken CloseRound (IsArg c.opaque id r) 256) (Done [])) (λ a s. of_option (after_in Colon s) >>= λ c. Read (a, c)) (λ args. After IsMarkToken Colon (Done args))
    (either_exact held StateDenotes after_in IsMarkToken state_marks c (Each TypeDenotes) OpenRound (label_args_from id r) (args_at id r) (λ s. Read ([], s)) (IsList IsMarkToken CloseRound (IsArg c.opaque id r) 256) (Done []) (λ s mid. refl) (λ s. refl) (args_exact id r c)
    (done_exact held StateDenotes c (Each TypeDenotes) [] [] (λ z g w. tt)))
    (λ d xs ys g stand. after_exact held StateDenotes after_in IsMarkToken state_marks d (Each TypeDenotes) Colon (λ s. Read (xs, s)) (Done ys) (done_exact held StateDenotes d (Each TypeDenotes) xs ys stand))

abbrev pub HeadDenotes : ContextModel → Option (List ℕ) → Option (List TypeTerm) → Type 0
HeadDenotes = Both (Each TypeDenotes)

labelled_exact : (id r : ℕ) (c : ContextModel) → Exact held StateDenotes c HeadDenotes (λ s. label_args_at id r s >>= λ a. Read (Some a.0, a.1)) (λ y old new. (args : List TypeTerm) × IsLabelArgs c.opaque id r args old new × (y ≡ Some args))
labelled_exact id r c =
    exact_rendered held StateDenotes c HeadDenotes (λ s. label_args_at id r s >>= λ a. Read (Some a.0, a.1)) (Then (IsLabelArgs c.opaque id r) (λ args. Done (Some args))) (λ y old new. (args : List TypeTerm) × IsLabelArgs c.opaque id r args old new × (y ≡ Some args))
    (λ y t t' k. (k.0, subst (λ u. IsLabelArgs c.opaque id r k.0 t u) (sym k.3.1) k.2, k.3.0)) (λ y t t' k. (k.0, t', k.1, (k.2, refl)))
    (then_exact held StateDenotes c (Each TypeDenotes) HeadDenotes (label_args_at id r) (IsLabelArgs c.opaque id r) (λ a s. Read (Some a, s)) (λ args. Done (Some args)) (label_args_exact id r c) (λ d xs ys g stand.
    done_exact held StateDenotes d HeadDenotes (Some xs) (Some ys) stand))

head_from_exact : (id r : ℕ) (c : ContextModel) (l : Lexeme) (rest : Text) → Exact held StateDenotes c HeadDenotes (λ s. head_from id r s l rest) (IsHeadFrom c.opaque id r l rest)
head_from_exact id r c (label l) rest = trailing_exact c HeadDenotes rest (λ s. label_args_at id r s >>= λ a. Read (Some a.0, a.1)) (λ y old new. (args : List TypeTerm) × IsLabelArgs c.opaque id r args old new × (y ≡ Some args)) (labelled_exact id r c)
head_from_exact id r c _ rest = done_exact held StateDenotes c HeadDenotes None None (λ z g w. tt)

head_exact : (id r : ℕ) (c : ContextModel) → Exact held StateDenotes c HeadDenotes (head_at id r) (IsHead c.opaque id r)
unfolding head_at
head_exact id r c = state_token c HeadDenotes (head_from id r) (IsHeadFrom c.opaque id r) (head_from_exact id r c)

-- ---- operations up to a closing mark

module _ (close : Mark) (p : Parse State Op) (P : Grammar ParseState Operation) (base : ContextModel) (item : (c : ContextModel) → IsExtendedBy base c → Exact held StateDenotes c OpDenotes p P) where
  abbrev Goes : ℕ → List Operation → Grammar ParseState (List Operation)
  Goes headroom preceding = Either IsMarkToken close (Done preceding) (Then P (λ y. IsOps close P headroom (preceding ++ y ∷ [])))

  abbrev Ends : ℕ → List Operation → Grammar ParseState (List Operation)
  Ends headroom preceding ys old new = (IsMarkToken close old new × (ys ≡ preceding)) ⊎ (Not IsMarkToken close old × (y : Operation) × (mid : ParseState) × P y old mid × IsOps close P headroom (preceding ++ y ∷ []) ys mid new)

  goes_into : (headroom : ℕ) (preceding ys : List Operation) (t t' : ParseState) → Goes headroom preceding ys t t' → Ends headroom preceding ys t t'
  goes_into headroom preceding ys t t' (inl k) = inl (subst (λ u. IsMarkToken close t u) (sym k.2.1) k.1, k.2.0)
  goes_into headroom preceding ys t t' (inr k) = inr (k.0, k.1.0, k.1.1, k.1.2, k.1.3)

  goes_back : (headroom : ℕ) (preceding ys : List Operation) (t t' : ParseState) → Ends headroom preceding ys t t' → Goes headroom preceding ys t t'
  goes_back headroom preceding ys t t' (inl k) = inl (t', k.0, (k.1, refl))
  goes_back headroom preceding ys t t' (inr k) = inr (k.0, (k.1, k.2, k.3, k.4))

  pub ops_exact : (headroom : ℕ) (c : ContextModel) → IsExtendedBy base c → (xs : List Op) (ys : List Operation) → From (λ z. Each OpDenotes z xs ys) c → Exact held StateDenotes c (Each OpDenotes) (ops_at close p headroom xs) (IsOps close P headroom ys)
  unfolding ops_at IsOps
  ops_exact zero c b xs ys r = record { found = λ s t x s' g sound h e. absurd cc; only = λ s t y t' g sound h k. absurd k }
  ops_exact (suc headroom) c b xs ys r =
      exact_rendered held StateDenotes c (Each OpDenotes) (λ s. ops_from close p (ops_at close p headroom) xs s (after_in close s)) (Goes headroom ys) (Ends headroom ys) (goes_into headroom ys) (goes_back headroom ys)
      (either_exact held StateDenotes after_in IsMarkToken state_marks c (Each OpDenotes) close (ops_from close p (ops_at close p headroom) xs) (λ s. Read (xs, s)) (λ s. p s >>= λ x. ops_at close p headroom (xs ++ x.0 ∷ []) x.1) (Done ys) (Then P (λ y. IsOps close P headroom (ys ++ y ∷ [])))
      (λ s mid. refl) (λ s. refl) (done_exact held StateDenotes c (Each OpDenotes) xs ys r)
      (then_exact held StateDenotes c OpDenotes (Each OpDenotes) p P (λ x. ops_at close p headroom (xs ++ x ∷ [])) (λ y. IsOps close P headroom (ys ++ y ∷ [])) (item c b) (λ d x y g stand.
      ops_exact headroom d (grows_trans base c d b g) (xs ++ x ∷ []) (ys ++ y ∷ []) (λ z k w. each_more OpDenotes z xs ys x y (r z (grows_trans c d z g k) w) (stand z k w)))))

-- ---- regions

pub types_known : (z : ContextModel) (xs : List ℕ) (ys : List TypeTerm) → Each TypeDenotes z xs ys → list_all (is_type z) xs ≡ true
types_known z [] [] h = refl
types_known z [] (y ∷ ys) h = absurd h
types_known z (x ∷ xs) [] h = absurd h
types_known z (x ∷ xs) (y ∷ ys) h = and_from (is_type z x) (list_all (is_type z) xs) (lt-ltb x (length z.types) h.0.0) (types_known z xs ys h.1)

pub types_are : (z : ContextModel) (xs : List ℕ) (ys : List TypeTerm) → Each TypeDenotes z xs ys → map (type_term z) xs ≡ ys
types_are z [] [] h = refl
types_are z [] (y ∷ ys) h = absurd h
types_are z (x ∷ xs) [] h = absurd h
types_are z (x ∷ xs) (y ∷ ys) h = λ i. h.0.1 i ∷ types_are z xs ys h.1 i

pub ops_known : (z : ContextModel) (xs : List Op) (ys : List Operation) → Each OpDenotes z xs ys → ops_every (op_passes (is_name z) (is_type z) (is_attr z)) (ops_of xs) ≡ true
ops_known z [] [] h = refl
ops_known z [] (y ∷ ys) h = absurd h
ops_known z (x ∷ xs) [] h = absurd h
ops_known z (x ∷ xs) (y ∷ ys) h = and_from _ _ h.0.0 (ops_known z xs ys h.1)

pub ops_are : (z : ContextModel) (xs : List Op) (ys : List Operation) → Each OpDenotes z xs ys → map_ops (name_term z) (type_term z) (attr_term z) (ops_of xs) ≡ ops_of ys
ops_are z [] [] h = refl
ops_are z [] (y ∷ ys) h = absurd h
ops_are z (x ∷ xs) [] h = absurd h
ops_are z (x ∷ xs) (y ∷ ys) h = λ i. tree.next (h.0.1 i) (ops_are z xs ys h.1 i)

region_stands : (z : ContextModel) (args : Option (List ℕ)) (types : Option (List TypeTerm)) (xs : List Op) (ys : List Operation) → HeadDenotes z args types → Each OpDenotes z xs ys → RegionDenotes z (region_of args xs) (region_of types ys)
region_stands z (Some us) (Some ts) xs ys h k = (types_known z us ts h, ops_known z xs ys k, λ i. tree.block (types_are z us ts h i) (ops_are z xs ys k i))
region_stands z (Some us) None xs ys h k = absurd h
region_stands z None (Some ts) xs ys h k = absurd h
region_stands z None None [] [] h k = (refl, refl, refl)
region_stands z None None [] (y ∷ ys) h k = absurd k
region_stands z None None (x ∷ xs) [] h k = absurd k
region_stands z None None (x ∷ xs) (y ∷ ys) h k = (refl, ops_known z (x ∷ xs) (y ∷ ys) k, λ i. tree.block [] (ops_are z (x ∷ xs) (y ∷ ys) k i))

module _ (p : Parse State (List Op)) (P : Grammar ParseState (List Operation)) (base : ContextModel) (body : (c : ContextModel) → IsExtendedBy base c → Exact held StateDenotes c (Each OpDenotes) p P) (id : ℕ) (isolated : Bool) where
  abbrev Leaves : RegionTerm → Grammar ParseState RegionTerm
  Leaves g y old new = (y ≡ g) × (new ≡ state_outside old)

  abbrev block_in : ℕ → State → Outcome (Region × State)
  block_in k s = head_at id k s >>= λ h. p h.1 >>= λ os. Read (region_of h.0 os.0, outside os.1)

  abbrev IsBlock : ℕ → Grammar ParseState RegionTerm
  IsBlock k = Then (IsHead base.opaque id k) (λ h. Then P (λ os. Leaves (region_of h os)))

  head_here : (k : ℕ) (c : ContextModel) → IsExtendedBy base c → Exact held StateDenotes c HeadDenotes (head_at id k) (IsHead base.opaque id k)
  head_here k c b = subst (λ o. Exact held StateDenotes c HeadDenotes (head_at id k) (IsHead o id k)) b.opaque (head_exact id k c)

  block_exact : (k : ℕ) (c : ContextModel) → IsExtendedBy base c → Exact held StateDenotes c RegionDenotes (block_in k) (IsBlock k)
  block_exact k c b =
      then_exact held StateDenotes c HeadDenotes RegionDenotes (head_at id k) (IsHead base.opaque id k) (λ h s. p s >>= λ os. Read (region_of h os.0, outside os.1)) (λ h. Then P (λ os. Leaves (region_of h os))) (head_here k c b) (λ d h h' g heads.
      then_exact held StateDenotes d (Each OpDenotes) RegionDenotes p P (λ os s. Read (region_of h os, outside s)) (λ os. Leaves (region_of h' os)) (body d (grows_trans base c d b g)) (λ e os os' up stand.
      outside_exact e RegionDenotes (region_of h os) (region_of h' os') (λ z j w. region_stands z h h' os os' (heads z (grows_trans d e z up j) w) (stand z j w))))

  region_exact : (c : ContextModel) → IsExtendedBy base c → (xs : List Region) (ys : List RegionTerm) → length xs ≡ length ys → Exact held StateDenotes c RegionDenotes (region_at p id isolated xs) (IsRegion base.opaque P id isolated ys)
  unfolding region_at
  region_exact c b xs ys len =
      after_exact held StateDenotes after_in IsMarkToken state_marks c RegionDenotes OpenCurly (λ s. block_in (length xs) (inside isolated s)) (λ y old new. IsBlock (length ys) y (state_inside isolated old) new)
      (inside_exact c RegionDenotes isolated (block_in (length xs)) (IsBlock (length ys)) (subst (λ k. Exact held StateDenotes c RegionDenotes (block_in (length xs)) (IsBlock k)) len (block_exact (length xs) c b)))

  one_region_exact : (c : ContextModel) → IsExtendedBy base c → (xs : List Region) (ys : List RegionTerm) → From (λ z. Each RegionDenotes z xs ys) c → Exact held StateDenotes c RegionDenotes (region_at p id isolated xs) (IsRegion base.opaque P id isolated ys)
  one_region_exact c b xs ys stand =
      begin_exact held StateDenotes c RegionDenotes (λ s. region_at p id isolated xs) (λ t. IsRegion base.opaque P id isolated ys) (λ s t g sound h. region_exact s.things (grows_trans base c s.things b g) xs ys (each_length RegionDenotes s.things xs ys (stand s.things g sound)))

  pub regions_exact : (c : ContextModel) → IsExtendedBy base c → Exact held StateDenotes c (Each RegionDenotes) (regions_at p id isolated) (IsRegions base.opaque P id isolated)
  unfolding regions_at
  regions_exact c b =
      either_exact held StateDenotes after_in IsMarkToken state_marks c (Each RegionDenotes) OpenRound (regions_from p id isolated) (more_at after_in CloseRound (region_at p id isolated) 16 []) (λ s. Read ([], s)) (IsMore IsMarkToken CloseRound (IsRegion base.opaque P id isolated) 16 []) (Done [])
      (λ s mid. refl) (λ s. refl) (some_items_exact held StateDenotes c after_in IsMarkToken state_marks RegionDenotes CloseRound (region_at p id isolated) (IsRegion base.opaque P id isolated) (λ d xs ys g stand. one_region_exact d (grows_trans base c d b g) xs ys stand) 16)
      (done_exact held StateDenotes c (Each RegionDenotes) [] [] (λ z g w. tt))
