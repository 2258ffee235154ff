-- The meaning of a target stays the same while the context grows.
use Rattle.std.proofs.Common.{◌≡◌, refl, ℕ, true, not, List, [], ◌∷◌, map, arith}
use Rattle.std.specs.List.{All, list_all, list_any}
use Rattle.std.proofs.lemmas.List.Elements.{All-nil, All-cons, All-head, All-tail}
use Rattle.ir_event.specs.types.Things.{ContextModel, IsExtendedBy, IsName}
use Rattle.ir_event.specs.types.Terms.{name_term}
use Rattle.ir_event.proofs.of_types.Growth.{preceding_agree, preceding_length}
use Rattle.ir_event.proofs.of_tree_laws.Listed.{both}
use Rattle.conversion_base.specs.Words.{named}
use Rattle.conversion_base.specs.RuleNames.{is_converting}
use Rattle.conversion_base.specs.Targets.{TargetOf, IsAimIn, IsNamedIn, target_model, cast_name, each_once, is_accepted, names_of}

same_map : {X : Type 0} (P : ℕ → Type 0) (f g : ℕ → X) → ((n : ℕ) → P n → f n ≡ g n) → (ns : List ℕ) → All P ns → map f ns ≡ map g ns
same_map P f g h [] a = refl
same_map P f g h (n ∷ ns) a = λ i. h n (All-head P n ns a) i ∷ same_map P f g h ns (All-tail P n ns a) i

still_all : (P Q : ℕ → Type 0) → ((n : ℕ) → P n → Q n) → (ns : List ℕ) → All P ns → All Q ns
still_all P Q h [] a = All-nil Q
still_all P Q h (n ∷ ns) a = All-cons Q n ns (h n (All-head P n ns a)) (still_all P Q h ns (All-tail P n ns a))

name_stays : (c d : ContextModel) → IsExtendedBy c d → (n : ℕ) → IsName c n → name_term d n ≡ name_term c n
name_stays c d g n h = preceding_agree [] c.names d.names g.names n h

name_known : (c d : ContextModel) → IsExtendedBy c d → (n : ℕ) → IsName c n → IsName d n
name_known c d g n h = let l = preceding_length c.names d.names g.names in omega (arith, l, h)

pub aim_stays : (c d : ContextModel) (g : TargetOf ℕ) → IsExtendedBy c d → IsAimIn c g → target_model d g ≡ target_model c g
aim_stays c d g grows is =
    let same = same_map (IsName c) (name_term d) (name_term c) (name_stays c d grows) in
    λ i. record { full = g.full; legal = same g.legal is.names.legal i; illegal = same g.illegal is.names.illegal i; dynamic = same g.dynamic is.names.dynamic i; rules = g.rules; depth = g.depth }

pub aim_known : (c d : ContextModel) (g : TargetOf ℕ) → IsExtendedBy c d → IsAimIn c g → IsAimIn d g
aim_known c d g grows is =
    let still = still_all (IsName c) (IsName d) (name_known c d grows) in
    record { names = record { legal = still g.legal is.names.legal; illegal = still g.illegal is.names.illegal; dynamic = still g.dynamic is.names.dynamic }; rules = is.rules }

-- an accepted target has only rules for conversion
pub accepted_aim : (c : ContextModel) (g : TargetOf ℕ) → IsNamedIn c g → is_accepted (target_model c g) ≡ true → IsAimIn c g
accepted_aim c g is a =
    let n = names_of (target_model c g) in
    let all = both (each_once n) _ a in
    let two = both (not (list_any (named cast_name) n)) _ all.1 in
    record { names = is; rules = (both (list_all is_converting g.rules) _ two.1).0 }
