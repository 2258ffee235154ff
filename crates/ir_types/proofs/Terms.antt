-- The meaning of an id is unchanged in an extended context, is the meaning of its node, and differs from that of every
-- other id.
use Rattle.std.specs.Prelude.{ℕ, List, Option, None}
use Rattle.std.specs.List.{AllByRecursion}
use Rattle.std.proofs.Common.{◌≡◌, ◌<◌, ◌≤◌, [], ◌∷◌, ◌++◌, map, Some, length, get_or, slice_get, sym, ap, subst, refl, ◌∙◌, arith}
use Rattle.std.proofs.lemmas.List.Elements.{recursion_from_All, All-weaker}
use Rattle.std.proofs.lemmas.Option.{slice_get-get_or}
use Rattle.ir_types_interner.specs.Built.{built}
use Rattle.ir_types_interner.specs.Interned.{AreApart}
use Rattle.ir_types.specs.declared.node.TypeNode.{TypeNode}
use Rattle.ir_types.specs.declared.node.TypeNode.TheVariants as type
use Rattle.ir_types.specs.declared.node.AttrNode.{AttrNode}
use Rattle.ir_types.specs.declared.node.AttrNode.TheVariants as attr
use Rattle.ir_types.specs.Things.{ContextModel, IsName, IsType, IsAttr, TypesBelow, IsBelow, PartsBelow, TypeIsOf, AttrIsOf, IsExtendedBy}
use Rattle.ir_types.specs.Terms.{TypeTerm, Index, Function, Memref, next_type, AttrTerm, IntegerOf, String, TypeOf, Flag, Array, Dictionary, Symbol, DenseArray, OpaqueOf, next_attr, next_entry, name_term, type_at, types_at, some_type_at, type_from, type_terms, type_term, type_node_term, attr_at, attrs_at, entries_at, attr_from, attr_terms, attr_term, attr_node_term}
use Rattle.ir_types.specs.Interning.{with_name, with_type}
use Rattle.ir_types.specs.Sound.{Holds, IsSound}
use Rattle.ir_types.proofs.Building.{Agree, AreTold, built-push, built_agree, built_same, built_is, built_reported, length-built}
use Rattle.ir_types.proofs.Growth.{preceding_agree, grows_name, grows_type, name_attrs, type_attrs}

-- a node has the same meaning in lists that agree on its components
types_agree : (n : ℕ) (ys zs : List TypeTerm) → Agree Index n ys zs → (ids : List ℕ) → AllByRecursion (λ t. t < n) ids → types_at ys ids ≡ types_at zs ids
types_agree n ys zs same [] all = refl
types_agree n ys zs same (t ∷ ts) all = λ i. next_type (same t all.0 i) (types_agree n ys zs same ts all.1 i)

pub type_from_agree : (n : ℕ) (ys zs : List TypeTerm) → Agree Index n ys zs → (node : TypeNode) → TypesBelow n node → type_from ys node ≡ type_from zs node
type_from_agree n ys zs same (type.Int sign width) below = refl
type_from_agree n ys zs same type.Index below = refl
type_from_agree n ys zs same (type.Func inputs outputs) below =
    λ i. Function (types_agree n ys zs same inputs (recursion_from_All (λ t. t < n) inputs below.0) i) (types_agree n ys zs same outputs (recursion_from_All (λ t. t < n) outputs below.1) i)
type_from_agree n ys zs same (type.Memref dims elem) below = ap (Memref dims) (same elem below)
type_from_agree n ys zs same (type.Opaque text) below = refl

some_agrees : (n : ℕ) (ys zs : List TypeTerm) → Agree Index n ys zs → (ty : Option ℕ) → IsBelow n ty → some_type_at ys ty ≡ some_type_at zs ty
some_agrees n ys zs same None below = refl
some_agrees n ys zs same (Some t) below = ap Some (same t below)

attrs_agree : (n : ℕ) (ys zs : List AttrTerm) → Agree Flag n ys zs → (ids : List ℕ) → AllByRecursion (λ a. a < n) ids → attrs_at ys ids ≡ attrs_at zs ids
attrs_agree n ys zs same [] all = refl
attrs_agree n ys zs same (a ∷ ids) all = λ i. next_attr (same a all.0 i) (attrs_agree n ys zs same ids all.1 i)

parts_agree : (l : ℕ) (vs ws : List (List ℕ)) → Agree [] l vs ws → (ids : List ℕ) → AllByRecursion (λ n. n < l) ids → map (λ n. get_or vs n []) ids ≡ map (λ n. get_or ws n []) ids
parts_agree l vs ws same [] all = refl
parts_agree l vs ws same (n ∷ ns) all = λ i. same n all.0 i ∷ parts_agree l vs ws same ns all.1 i

entries_agree : (l n : ℕ) (vs ws : List (List ℕ)) (ys zs : List AttrTerm) → Agree [] l vs ws → Agree Flag n ys zs → (es : List (ℕ × ℕ)) → AllByRecursion (λ (e : ℕ × ℕ). e.0 < l) es → AllByRecursion (λ (e : ℕ × ℕ). e.1 < n) es → entries_at vs ys es ≡ entries_at ws zs es
entries_agree l n vs ws ys zs names same [] some all = refl
entries_agree l n vs ws ys zs names same (e ∷ es) some all = λ i. next_entry (names e.0 some.0 i) (same e.1 all.0 i) (entries_agree l n vs ws ys zs names same es some.1 all.1 i)

pub attr_from_agree : (l m n : ℕ) (vs ws : List (List ℕ)) (ts us : List TypeTerm) (ys zs : List AttrTerm) → Agree [] l vs ws → Agree Index m ts us → Agree Flag n ys zs → (node : AttrNode) → PartsBelow l m n node → attr_from vs ts ys node ≡ attr_from ws us zs node
attr_from_agree l m n vs ws ts us ys zs names types same (attr.Int ty value) below = ap (λ t. IntegerOf t value) (types ty below)
attr_from_agree l m n vs ws ts us ys zs names types same (attr.Str name) below = ap String (names name below)
attr_from_agree l m n vs ws ts us ys zs names types same (attr.Ty ty) below = ap TypeOf (types ty below)
attr_from_agree l m n vs ws ts us ys zs names types same attr.Unit below = refl
attr_from_agree l m n vs ws ts us ys zs names types same (attr.Array items) below = ap Array (attrs_agree n ys zs same items (recursion_from_All (λ a. a < n) items below))
attr_from_agree l m n vs ws ts us ys zs names types same (attr.Dict entries) below =
    ap Dictionary (entries_agree l n vs ws ys zs names same entries (recursion_from_All (λ (e : ℕ × ℕ). e.0 < l) entries below.0) (recursion_from_All (λ (e : ℕ × ℕ). e.1 < n) entries below.1))
attr_from_agree l m n vs ws ts us ys zs names types same (attr.Sym parts) below = ap Symbol (parts_agree l vs ws names parts (recursion_from_All (λ n. n < l) parts below))
attr_from_agree l m n vs ws ts us ys zs names types same (attr.Dense elem values) below = ap (λ t. DenseArray t values) (types elem below)
attr_from_agree l m n vs ws ts us ys zs names types same (attr.Overflow nsw nuw) below = refl
attr_from_agree l m n vs ws ts us ys zs names types same (attr.Opaque text ty) below = ap (OpaqueOf text) (some_agrees m ts us types ty below)

-- ids below a bound are below a greater one
pub types_below_more : (m n : ℕ) (node : TypeNode) → m ≤ n → TypesBelow m node → TypesBelow n node
types_below_more m n (type.Int sign width) h below = tt
types_below_more m n type.Index h below = tt
types_below_more m n (type.Func inputs outputs) h below = (All-weaker (λ t. t < m) (λ t. t < n) (λ t k. omega arith) inputs below.0, All-weaker (λ t. t < m) (λ t. t < n) (λ t k. omega arith) outputs below.1)
types_below_more m n (type.Memref dims elem) h below = omega arith
types_below_more m n (type.Opaque text) h below = tt

below_more : (m n : ℕ) (ty : Option ℕ) → m ≤ n → IsBelow m ty → IsBelow n ty
below_more m n None h below = tt
below_more m n (Some t) h below = omega arith

pub parts_below_more : (l m n k o p : ℕ) (node : AttrNode) → l ≤ k → m ≤ o → n ≤ p → PartsBelow l m n node → PartsBelow k o p node
parts_below_more l m n k o p (attr.Int ty value) f g h below = omega arith
parts_below_more l m n k o p (attr.Str name) f g h below = omega arith
parts_below_more l m n k o p (attr.Ty ty) f g h below = omega arith
parts_below_more l m n k o p attr.Unit f g h below = tt
parts_below_more l m n k o p (attr.Array items) f g h below = All-weaker (λ a. a < n) (λ a. a < p) (λ a b. omega arith) items below
parts_below_more l m n k o p (attr.Dict entries) f g h below = (
  All-weaker (λ (e : ℕ × ℕ). e.0 < l) (λ (e : ℕ × ℕ). e.0 < k) (λ e b. omega arith) entries below.0,
  All-weaker (λ (e : ℕ × ℕ). e.1 < n) (λ (e : ℕ × ℕ). e.1 < p) (λ e b. omega arith) entries below.1,
)
parts_below_more l m n k o p (attr.Sym parts) f g h below = All-weaker (λ a. a < l) (λ a. a < k) (λ a b. omega arith) parts below
parts_below_more l m n k o p (attr.Dense elem values) f g h below = omega arith
parts_below_more l m n k o p (attr.Overflow nsw nuw) f g h below = tt
parts_below_more l m n k o p (attr.Opaque text ty) f g h below = below_more m o ty g below

-- one more item has the meaning of its node
pub type_terms_push : (c : ContextModel) (node : TypeNode) → type_terms (record c { types = c.types ++ node ∷ [] }) ≡ type_terms c ++ type_node_term c node ∷ []
type_terms_push c node = built-push type_from c.types node

pub attr_terms_push : (c : ContextModel) (node : AttrNode) → attr_terms (record c { attrs = c.attrs ++ node ∷ [] }) ≡ attr_terms c ++ attr_node_term c node ∷ []
attr_terms_push c node = built-push (attr_from c.names (type_terms c)) c.attrs node

pub length-type_terms : (c : ContextModel) → length (type_terms c) ≡ length c.types
length-type_terms c = length-built type_from c.types

pub length-attr_terms : (c : ContextModel) → length (attr_terms c) ≡ length c.attrs
length-attr_terms c = length-built (attr_from c.names (type_terms c)) c.attrs

-- an id has the same meaning in an extended context
pub name_stays : (c d : ContextModel) (n : ℕ) → IsExtendedBy c d → IsName c n → name_term d n ≡ name_term c n
name_stays c d n g h = preceding_agree [] c.names d.names g.names n h

pub type_terms_agree : (c d : ContextModel) → IsExtendedBy c d → Agree Index (length c.types) (type_terms d) (type_terms c)
type_terms_agree c d g i h = ap (λ l. get_or (built type_from l) i Index) g.types.1 ∙ built_agree type_from Index (length c.types) c.types g.types.0 (omega arith) i h

pub type_stays : (c d : ContextModel) (n : ℕ) → IsExtendedBy c d → IsType c n → type_term d n ≡ type_term c n
type_stays c d n g h = type_terms_agree c d g n h

pub type_node_stays : (c d : ContextModel) (node : TypeNode) → IsExtendedBy c d → TypeIsOf c node → type_node_term d node ≡ type_node_term c node
type_node_stays c d node g of_c = type_from_agree (length c.types) (type_terms d) (type_terms c) (type_terms_agree c d g) node of_c

-- attributes of the context have the same meaning in an extended one
alike : (c d : ContextModel) → Holds c → IsExtendedBy c d → (i : ℕ) (node : AttrNode) → slice_get c.attrs i ≡ Some node → (known : List AttrTerm) → attr_from d.names (type_terms d) known node ≡ attr_from c.names (type_terms c) known node
alike c d holds g i node at known =
    attr_from_agree (length c.names) (length c.types) i d.names c.names (type_terms d) (type_terms c) known known
    (preceding_agree [] c.names d.names g.names) (type_terms_agree c d g) (λ k h. refl) node (holds.attrs_refer i node at)

pub attr_terms_alike : (c d : ContextModel) → Holds c → IsExtendedBy c d → built (attr_from d.names (type_terms d)) c.attrs ≡ attr_terms c
attr_terms_alike c d holds g = built_same (attr_from d.names (type_terms d)) (attr_from c.names (type_terms c)) c.attrs (alike c d holds g)

pub attr_terms_agree : (c d : ContextModel) → Holds c → IsExtendedBy c d → Agree Flag (length c.attrs) (attr_terms d) (attr_terms c)
attr_terms_agree c d holds g i h =
    let make = attr_from d.names (type_terms d) in
    ap (λ l. get_or (built make l) i Flag) g.attrs.1 ∙ built_agree make Flag (length c.attrs) c.attrs g.attrs.0 (omega arith) i h ∙ ap (λ l. get_or l i Flag) (attr_terms_alike c d holds g)

pub attr_stays : (c d : ContextModel) (n : ℕ) → Holds c → IsExtendedBy c d → IsAttr c n → attr_term d n ≡ attr_term c n
attr_stays c d n holds g h = attr_terms_agree c d holds g n h

pub attr_node_stays : (c d : ContextModel) (node : AttrNode) → Holds c → IsExtendedBy c d → AttrIsOf c node → attr_node_term d node ≡ attr_node_term c node
attr_node_stays c d node holds g of_c =
    attr_from_agree (length c.names) (length c.types) (length c.attrs) d.names c.names (type_terms d) (type_terms c) (attr_terms d) (attr_terms c)
    (preceding_agree [] c.names d.names g.names) (type_terms_agree c d g) (attr_terms_agree c d holds g) node of_c

-- if no attribute is added, all keep their meanings
pub attr_terms_stay : (c d : ContextModel) → Holds c → IsExtendedBy c d → d.attrs ≡ c.attrs → attr_terms d ≡ attr_terms c
attr_terms_stay c d holds g e = ap (built (attr_from d.names (type_terms d))) e ∙ attr_terms_alike c d holds g

pub attr_terms_names : (bytes : List ℕ) (c : ContextModel) → Holds c → attr_terms (with_name bytes c).1 ≡ attr_terms c
attr_terms_names bytes c holds = attr_terms_stay c (with_name bytes c).1 holds (grows_name bytes c) (name_attrs bytes c)

pub attr_terms_types : (node : TypeNode) (c : ContextModel) → Holds c → attr_terms (with_type node c).1 ≡ attr_terms c
attr_terms_types node c holds = attr_terms_stay c (with_type node c).1 holds (grows_type node c) (type_attrs node c)

-- the meaning of an id is the meaning of its node
pub type_term_is : (c : ContextModel) (n : ℕ) (node : TypeNode) → Holds c → slice_get c.types n ≡ Some node → type_term c n ≡ type_node_term c node
type_term_is c n node holds at = built_is type_from Index TypesBelow type_from_agree c.types holds.types_refer n node at

attr_closely : (c : ContextModel) (n : ℕ) (ys zs : List AttrTerm) → Agree Flag n ys zs → (node : AttrNode) → PartsBelow (length c.names) (length c.types) n node → attr_from c.names (type_terms c) ys node ≡ attr_from c.names (type_terms c) zs node
attr_closely c n ys zs same node below =
    attr_from_agree (length c.names) (length c.types) n c.names c.names (type_terms c) (type_terms c) ys zs (λ k h. refl) (λ k h. refl) same node below

pub attr_term_is : (c : ContextModel) (n : ℕ) (node : AttrNode) → Holds c → slice_get c.attrs n ≡ Some node → attr_term c n ≡ attr_node_term c node
attr_term_is c n node holds at = built_is (attr_from c.names (type_terms c)) Flag (PartsBelow (length c.names) (length c.types)) (attr_closely c) c.attrs holds.attrs_refer n node at

-- the items of a list without duplicates are distinct
reported_apart : {A : Type 0} (d : A) (xs : List A) → AreApart xs → AreTold d xs
reported_apart d xs apart i j h k e = apart i j (get_or xs i d) (slice_get-get_or xs i d h) (slice_get-get_or xs j d k ∙ ap Some (sym e))

-- nodes with the same meaning are equal, if ids with the same meaning are
types_one : (done : List TypeTerm) → AreTold Index done → (xs ys : List ℕ) → AllByRecursion (λ t. t < length done) xs → AllByRecursion (λ t. t < length done) ys → types_at done xs ≡ types_at done ys → xs ≡ ys
types_one done reported [] [] h k e = refl
types_one done reported [] (y ∷ ys) h k e = cc
types_one done reported (x ∷ xs) [] h k e = cc
types_one done reported (x ∷ xs) (y ∷ ys) h k e =
    let head : type_at done x ≡ type_at done y = cc in
    let tail : types_at done xs ≡ types_at done ys = cc in
    λ i. reported x y h.0 k.0 head i ∷ types_one done reported xs ys h.1 k.1 tail i

type_from_one : (done : List TypeTerm) → AreTold Index done → (a b : TypeNode) → TypesBelow (length done) a → TypesBelow (length done) b → type_from done a ≡ type_from done b → a ≡ b
type_from_one done reported (type.Int s v) (type.Int t w) h k e =
    let p : s ≡ t = cc in
    let q : v ≡ w = cc in
    λ i. type.Int (p i) (q i)
type_from_one done reported type.Index type.Index h k e = refl
type_from_one done reported (type.Func is os) (type.Func js ps) h k e =
    let p : types_at done is ≡ types_at done js = cc in
    let q : types_at done os ≡ types_at done ps = cc in
    λ i. type.Func (types_one done reported is js (recursion_from_All (λ t. t < length done) is h.0) (recursion_from_All (λ t. t < length done) js k.0) p i)
    (types_one done reported os ps (recursion_from_All (λ t. t < length done) os h.1) (recursion_from_All (λ t. t < length done) ps k.1) q i)
type_from_one done reported (type.Memref ds x) (type.Memref es y) h k e =
    let p : ds ≡ es = cc in
    let q : type_at done x ≡ type_at done y = cc in
    λ i. type.Memref (p i) (reported x y h k q i)
type_from_one done reported (type.Opaque s) (type.Opaque t) h k e = let p : s ≡ t = cc in ap type.Opaque p
type_from_one done reported _ _ h k e = cc

some_one : (done : List TypeTerm) → AreTold Index done → (t u : Option ℕ) → IsBelow (length done) t → IsBelow (length done) u → some_type_at done t ≡ some_type_at done u → t ≡ u
some_one done reported None None h k e = refl
some_one done reported (Some t) (Some u) h k e = let p : type_at done t ≡ type_at done u = cc in ap Some (reported t u h k p)
some_one done reported _ _ h k e = cc

attrs_one : (done : List AttrTerm) → AreTold Flag done → (xs ys : List ℕ) → AllByRecursion (λ a. a < length done) xs → AllByRecursion (λ a. a < length done) ys → attrs_at done xs ≡ attrs_at done ys → xs ≡ ys
attrs_one done reported [] [] h k e = refl
attrs_one done reported [] (y ∷ ys) h k e = cc
attrs_one done reported (x ∷ xs) [] h k e = cc
attrs_one done reported (x ∷ xs) (y ∷ ys) h k e =
    let head : attr_at done x ≡ attr_at done y = cc in
    let tail : attrs_at done xs ≡ attrs_at done ys = cc in
    λ i. reported x y h.0 k.0 head i ∷ attrs_one done reported xs ys h.1 k.1 tail i

parts_one : (names : List (List ℕ)) → AreTold [] names → (xs ys : List ℕ) → AllByRecursion (λ n. n < length names) xs → AllByRecursion (λ n. n < length names) ys → map (λ n. get_or names n []) xs ≡ map (λ n. get_or names n []) ys → xs ≡ ys
parts_one names reported [] [] h k e = refl
parts_one names reported [] (y ∷ ys) h k e = cc
parts_one names reported (x ∷ xs) [] h k e = cc
parts_one names reported (x ∷ xs) (y ∷ ys) h k e =
    let head : get_or names x [] ≡ get_or names y [] = cc in
    let tail : map (λ n. get_or names n []) xs ≡ map (λ n. get_or names n []) ys = cc in
    λ i. reported x y h.0 k.0 head i ∷ parts_one names reported xs ys h.1 k.1 tail i

entries_one : (names : List (List ℕ)) (done : List AttrTerm) → AreTold [] names → AreTold Flag done → (es fs : List (ℕ × ℕ)) → AllByRecursion (λ (e : ℕ × ℕ). e.0 < length names) es → AllByRecursion (λ (e : ℕ × ℕ). e.0 < length names) fs → AllByRecursion (λ (e : ℕ × ℕ). e.1 < length done) es → AllByRecursion (λ (e : ℕ × ℕ). e.1 < length done) fs → entries_at names done es ≡ entries_at names done fs → es ≡ fs
entries_one names done apart reported [] [] h k l m e = refl
entries_one names done apart reported [] (y ∷ ys) h k l m e = cc
entries_one names done apart reported (x ∷ xs) [] h k l m e = cc
entries_one names done apart reported (x ∷ xs) (y ∷ ys) h k l m e =
    let key : get_or names x.0 [] ≡ get_or names y.0 [] = cc in
    let value : attr_at done x.1 ≡ attr_at done y.1 = cc in
    let tail : entries_at names done xs ≡ entries_at names done ys = cc in
    λ i. (apart x.0 y.0 h.0 k.0 key i, reported x.1 y.1 l.0 m.0 value i) ∷ entries_one names done apart reported xs ys h.1 k.1 l.1 m.1 tail i

attr_from_one : (names : List (List ℕ)) (types : List TypeTerm) → AreTold [] names → AreTold Index types → (done : List AttrTerm) → AreTold Flag done → (a b : AttrNode) → PartsBelow (length names) (length types) (length done) a → PartsBelow (length names) (length types) (length done) b → attr_from names types done a ≡ attr_from names types done b → a ≡ b
attr_from_one names types apart of_types done reported (attr.Int s v) (attr.Int t w) h k e =
    let p : type_at types s ≡ type_at types t = cc in
    let q : v ≡ w = cc in
    λ i. attr.Int (of_types s t h k p i) (q i)
attr_from_one names types apart of_types done reported (attr.Str m) (attr.Str n) h k e =
    let p : get_or names m [] ≡ get_or names n [] = cc in
    ap attr.Str (apart m n h k p)
attr_from_one names types apart of_types done reported (attr.Ty s) (attr.Ty t) h k e =
    let p : type_at types s ≡ type_at types t = cc in
    ap attr.Ty (of_types s t h k p)
attr_from_one names types apart of_types done reported attr.Unit attr.Unit h k e = refl
attr_from_one names types apart of_types done reported (attr.Array xs) (attr.Array ys) h k e =
    let p : attrs_at done xs ≡ attrs_at done ys = cc in
    ap attr.Array (attrs_one done reported xs ys (recursion_from_All (λ a. a < length done) xs h) (recursion_from_All (λ a. a < length done) ys k) p)
attr_from_one names types apart of_types done reported (attr.Dict es) (attr.Dict fs) h k e =
    let p : entries_at names done es ≡ entries_at names done fs = cc in
    ap attr.Dict (entries_one names done apart reported es fs
    (recursion_from_All (λ (e : ℕ × ℕ). e.0 < length names) es h.0) (recursion_from_All (λ (e : ℕ × ℕ). e.0 < length names) fs k.0)
    (recursion_from_All (λ (e : ℕ × ℕ). e.1 < length done) es h.1) (recursion_from_All (λ (e : ℕ × ℕ). e.1 < length done) fs k.1) p)
attr_from_one names types apart of_types done reported (attr.Sym xs) (attr.Sym ys) h k e =
    let p : map (λ n. get_or names n []) xs ≡ map (λ n. get_or names n []) ys = cc in
    ap attr.Sym (parts_one names apart xs ys (recursion_from_All (λ n. n < length names) xs h) (recursion_from_All (λ n. n < length names) ys k) p)
attr_from_one names types apart of_types done reported (attr.Dense s xs) (attr.Dense t ys) h k e =
    let p : type_at types s ≡ type_at types t = cc in
    let q : xs ≡ ys = cc in
    λ i. attr.Dense (of_types s t h k p i) (q i)
attr_from_one names types apart of_types done reported (attr.Overflow a b) (attr.Overflow c d) h k e =
    let p : a ≡ c = cc in
    let q : b ≡ d = cc in
    λ i. attr.Overflow (p i) (q i)
attr_from_one names types apart of_types done reported (attr.Opaque s t) (attr.Opaque r u) h k e =
    let p : s ≡ r = cc in
    let q : some_type_at types t ≡ some_type_at types u = cc in
    λ i. attr.Opaque (p i) (some_one types of_types t u h k q i)
attr_from_one names types apart of_types done reported _ _ h k e = cc

-- so different ids have different meanings
pub types_reported : (c : ContextModel) → IsSound c → AreTold Index (type_terms c)
types_reported c sound = built_reported type_from Index TypesBelow type_from_agree types_below_more type_from_one c.types sound.holds.types_refer sound.types_apart

pub attrs_reported : (c : ContextModel) → IsSound c → AreTold Flag (attr_terms c)
attrs_reported c sound =
    let len = length-type_terms c in
    built_reported (attr_from c.names (type_terms c)) Flag (PartsBelow (length c.names) (length c.types)) (attr_closely c)
    (λ m n node h below. parts_below_more (length c.names) (length c.types) m (length c.names) (length c.types) n node (omega arith) (omega arith) h below)
    (λ done reported a b h k e. attr_from_one c.names (type_terms c) (reported_apart [] c.names sound.names_apart) (types_reported c sound) done reported a b (subst (λ m. PartsBelow (length c.names) m (length done) a) (sym len) h) (subst (λ m. PartsBelow (length c.names) m (length done) b) (sym len) k) e)
    c.attrs sound.holds.attrs_refer sound.attrs_apart

pub name_term_one : (c : ContextModel) (m n : ℕ) → IsSound c → IsName c m → IsName c n → name_term c m ≡ name_term c n → m ≡ n
name_term_one c m n sound h k e = reported_apart [] c.names sound.names_apart m n h k e

pub type_term_one : (c : ContextModel) (m n : ℕ) → IsSound c → IsType c m → IsType c n → type_term c m ≡ type_term c n → m ≡ n
type_term_one c m n sound h k e = let len = length-type_terms c in types_reported c sound m n (omega arith) (omega arith) e

pub attr_term_one : (c : ContextModel) (m n : ℕ) → IsSound c → IsAttr c m → IsAttr c n → attr_term c m ≡ attr_term c n → m ≡ n
attr_term_one c m n sound h k e = let len = length-attr_terms c in attrs_reported c sound m n (omega arith) (omega arith) e
