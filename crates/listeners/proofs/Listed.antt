-- A listing of uses with one more user.
use Rattle.std.proofs.Common.{◌≡◌, ap, sym, ◌∙◌, ℕ, ◌+◌, ◌≤◌, List, [], ◌∷◌, ◌++◌, length, true, take, drop, append_assoc, append-nil, arith}
use Rattle.std.proofs.lemmas.List.{take-append-le, drop-append-le, take_all, length-append, length-drop, map-append}
use Rattle.ir_event.specs.trees.declared.value.Value.{Value}
use Rattle.listeners.specs.declared.key.Use.{Use}
use Rattle.listeners.specs.declared.user.User.{User}
use Rattle.listeners.specs.Uses.{operand_uses}
use Rattle.listeners.specs.Keys.{keys_of}
use Rattle.listeners.specs.Listings.{operand_count, listed_uses, user_uses}

-- an added user, with its number of operands
abbrev added : ℕ → ℕ → User
added x n = record { id = x; count = n; live = true }

-- one more user adds its number of operands
pub count_more : (us : List User) (x n : ℕ) → operand_count (us ++ added x n ∷ []) ≡ operand_count us + n
count_more [] x n = omega arith
count_more (u ∷ us) x n = let later = count_more us x n in omega (arith, later)

-- the uses of an added user follow those of the others
pub listed_more : (us : List User) (vs : List Value) (x : ℕ) (ws : List Value) → operand_count us ≡ length vs → listed_uses (us ++ added x (length ws) ∷ []) (vs ++ ws) ≡ listed_uses us vs ++ operand_uses x 0 ws
listed_more [] [] x ws h = ap (λ l. operand_uses x 0 l ++ []) (take_all (length ws) ws (omega arith)) ∙ append-nil (operand_uses x 0 ws)
listed_more [] (v ∷ vs) x ws h = absurd (omega (arith, h))
listed_more (u ∷ us) vs x ws h =
    let within : u.count ≤ length vs = omega (arith, h) in
    let long = length-drop u.count vs in
    let left : operand_count us ≡ length (drop u.count vs) = omega (arith, h, long) in
    (λ i. user_uses u (take-append-le u.count vs ws within i) ++ listed_uses (us ++ added x (length ws) ∷ []) (drop-append-le u.count vs ws within i))
    ∙ ap (λ l. user_uses u (take u.count vs) ++ l) (listed_more us (drop u.count vs) x ws left)
    ∙ sym (append_assoc (user_uses u (take u.count vs)) (listed_uses us (drop u.count vs)) (operand_uses x 0 ws))

-- the keys of concatenated uses
pub keys_joined : (us vs : List Use) → keys_of (us ++ vs) ≡ keys_of us ++ keys_of vs
keys_joined us vs = map-append _ us vs

-- an added user, with its operands
pub pushed_count : (us ps : List User) (vs qs ws : List Value) (x n : ℕ) → n ≡ length ws → ps ≡ us ++ added x n ∷ [] → qs ≡ vs ++ ws → operand_count us ≡ length vs → operand_count ps ≡ length qs
pushed_count us ps vs qs ws x n long p q h =
    let joined = length-append vs ws in
    let more = count_more us x n in
    let sum : operand_count (us ++ added x n ∷ []) ≡ length (vs ++ ws) = omega (arith, long, h, joined, more) in
    ap operand_count p ∙ sum ∙ ap length (sym q)

pub pushed_uses : (us ps : List User) (vs qs ws : List Value) (x n : ℕ) → n ≡ length ws → ps ≡ us ++ added x n ∷ [] → qs ≡ vs ++ ws → operand_count us ≡ length vs → listed_uses ps qs ≡ listed_uses us vs ++ operand_uses x 0 ws
pushed_uses us ps vs qs ws x n long p q h =
    (λ i. listed_uses (p i) (q i)) ∙ ap (λ k. listed_uses (us ++ added x k ∷ []) (vs ++ ws)) long ∙ listed_more us vs x ws h
