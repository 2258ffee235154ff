use Rattle.std.proofs.Common.{◌≡◌, ℕ, List, [], ◌++◌, Option, Some, None, Result, Ok, Err, refl, ap, sym, ◌∙◌, append_assoc, append-nil, length-append, ◌+◌, ◌-◌, ◌<◌, length, take, drop, map, get_or, arith, Bor, add-one}
use Rattle.std.proofs.Math.Seq.{drop-cons}
use Rattle.std.proofs.lemmas.Grind.{common_steps}
use Rattle.std.specs.Prelude.{IfSome}
use Rattle.std.specs.Io.KnownBytes.{Appends, Consumes, Keeps}
use Rattle.mlir_work_script_base.specs.Writes.{AppendsPreceding, Fails, Grows, GrowsPreceding, Writes, WritesSome, Stays, Stream, joined}

pub appends_none : (a b : Option (List ℕ)) → Keeps a b → Appends a b []
appends_none None b k = tt
appends_none (Some xs) None k = k
appends_none (Some xs) (Some ys) k = k ∙ sym (append-nil xs)

pub keeps_same : (a : Option (List ℕ)) → Keeps a a
keeps_same None = tt
keeps_same (Some xs) = refl

pub appends_join : (a b c : Option (List ℕ)) (xs ys : List ℕ) → Appends a b xs → Appends b c ys → Appends a c (xs ++ ys)
appends_join None b c xs ys h k = tt
appends_join (Some ws) None c xs ys h k = absurd h
appends_join (Some ws) (Some us) None xs ys h k = absurd k
appends_join (Some ws) (Some us) (Some vs) xs ys h k = k ∙ (ap (λ zs. zs ++ ys) h ∙ append_assoc ws xs ys)

appends_preceding_join : (a b c : Option (List ℕ)) (xs ys : List ℕ) → Appends a b xs → AppendsPreceding b c ys → AppendsPreceding a c (xs ++ ys)
appends_preceding_join a b c xs ys h (preceding, back, is, k) = (xs ++ preceding, back, ap (λ zs. xs ++ zs) is ∙ sym (append_assoc xs preceding back), appends_join a b c xs preceding h k)

-- nothing was written yet
pub grows_none : (a : Stream) → Grows a a []
grows_none a = (appends_none a.contents a.contents (keeps_same a.contents), refl)

pub grows_join : (a b c : Stream) (xs ys : List ℕ) → Grows a b xs → Grows b c ys → Grows a c (xs ++ ys)
grows_join a b c xs ys h k = (appends_join a.contents b.contents c.contents xs ys h.0 k.0, k.1 ∙ h.1)

-- a flush after the writes
pub grows_stays : (a b c : Stream) (xs : List ℕ) → Grows a b xs → Stays b c → Grows a c xs
grows_stays a b c xs h k = (rw append-nil at (appends_join a.contents b.contents c.contents xs [] h.0 (appends_none b.contents c.contents k.0)), k.1 ∙ h.1)

-- the bytes written before a failed write are a prefix of the whole
pub grows_fails : (a b c : Stream) (whole preceding rest : List ℕ) → whole ≡ preceding ++ rest → Grows a b preceding → Fails b c → GrowsPreceding a c whole
grows_fails a b c whole preceding rest e h k = ((preceding, rest, e, rw append-nil at (appends_join a.contents b.contents c.contents preceding [] h.0 (appends_none b.contents c.contents k.0))), k.1)

pub preceding_join : (a b c : Stream) (xs ys : List ℕ) → Grows a b xs → GrowsPreceding b c ys → GrowsPreceding a c (xs ++ ys)
preceding_join a b c xs ys h k = (appends_preceding_join a.contents b.contents c.contents xs ys h.0 k.0, k.1)

pub preceding_more : (a b : Stream) (xs ys : List ℕ) → GrowsPreceding a b xs → GrowsPreceding a b (xs ++ ys)
preceding_more a b xs ys ((preceding, back, is, k), failed) = ((preceding, back ++ ys, ap (λ zs. zs ++ ys) is ∙ append_assoc preceding back ys, k), failed)

pub puts_join : {T E : Type 0} (a b c : Stream) (xs ys : List ℕ) (r : Result T E) → Grows a b xs → Writes b c ys r → Writes a c (xs ++ ys) r
puts_join a b c xs ys (Ok v) h k = grows_join a b c xs ys h k
puts_join a b c xs ys (Err e) h k = preceding_join a b c xs ys h k

pub cut_is : (bytes preceding rest : List ℕ) (n : ℕ) → bytes ≡ preceding ++ rest → bytes ≡ (preceding ++ take n rest) ++ take (length rest - n) (drop n rest)
cut_is bytes preceding rest n e =
    let whole : take (length rest - n) (drop n rest) ≡ drop n rest = grind (arith, common_steps) in
    let both : take n rest ++ drop n rest ≡ rest = grind (arith, common_steps) in
    e ∙ sym (rw (whole, append_assoc, both) refl)

pub joined_step : (ps : List (Bor (List ℕ))) (i : ℕ) (d : Bor (List ℕ)) → i < length ps → joined (map (λ p. p.now) (drop i ps)) ≡ (get_or ps i d).now ++ joined (map (λ p. p.now) (drop (i + 1) ps))
joined_step ps i d h = rw (add-one, drop-cons ps i d) refl

-- the bytes written before, and then a prefix of the next piece, are a prefix of the whole
pub preceding_within : (a b c : Stream) (whole preceding chunk rest : List ℕ) → whole ≡ preceding ++ (chunk ++ rest) → Grows a b preceding → GrowsPreceding b c chunk → GrowsPreceding a c whole
preceding_within a b c whole preceding chunk rest e h k = rw e (preceding_join a b c preceding (chunk ++ rest) h (preceding_more b c chunk rest k))

-- bytes that satisfy `P`, followed by bytes that satisfy `Q`
pub then_put : {T E : Type 0} (P Q S : List ℕ → Type 0) (a b c : Stream) (r : Result T E) → ((xs ys : List ℕ) → P xs → Q ys → S (xs ++ ys)) → (xs : List ℕ) × P xs × Grows a b xs → WritesSome Q b c r → WritesSome S a c r
then_put P Q S a b c r join (xs, p, h) (ys, q, k) = (xs ++ ys, join xs ys p q, puts_join a b c xs ys r h k)

-- a prefix of bytes that satisfy `P`, followed by bytes that satisfy `Q`
pub then_none : (P Q S : List ℕ → Type 0) (a b : Stream) → ((xs ys : List ℕ) → P xs → Q ys → S (xs ++ ys)) → (xs : List ℕ) × P xs × GrowsPreceding a b xs → (ys : List ℕ) × Q ys → (zs : List ℕ) × S zs × GrowsPreceding a b zs
then_none P Q S a b join (xs, p, h) (ys, q) = (xs ++ ys, join xs ys p q, preceding_more a b xs ys h)

-- the bytes that two reads consumed one after the other
pub consumes_join : (a b c : Option (List ℕ)) (xs ys : List ℕ) → Consumes a b xs → Consumes b c ys → Consumes a c (xs ++ ys)
consumes_join None b c xs ys h k = tt
consumes_join (Some ws) None c xs ys h k = absurd h
consumes_join (Some ws) (Some us) None xs ys h k = absurd k
consumes_join (Some ws) (Some us) (Some vs) xs ys h k = h ∙ (ap (λ zs. xs ++ zs) k ∙ sym (append_assoc xs ys vs))

-- an interrupted read consumed nothing
pub consumes_kept : (a b c : Option (List ℕ)) (xs : List ℕ) → Consumes a b xs → Keeps b c → Consumes a c xs
consumes_kept None b c xs h k = tt
consumes_kept (Some ws) None c xs h k = absurd h
consumes_kept (Some ws) (Some us) None xs h k = absurd k
consumes_kept (Some ws) (Some us) (Some vs) xs h k = h ∙ ap (λ zs. xs ++ zs) (sym k)

-- two reads consume no more than the input has
pub too_long : (a b c : Option (List ℕ)) (xs ys : List ℕ) (most : ℕ) → Consumes a b xs → Consumes b c ys → most < length xs + length ys → IfSome a (λ zs. most < length zs)
too_long None b c xs ys most h k more = tt
too_long (Some ws) None c xs ys most h k more = absurd h
too_long (Some ws) (Some us) None xs ys most h k more = absurd k
too_long (Some ws) (Some us) (Some vs) xs ys most h k more = omega (arith, ap length h, ap length k, length-append xs us, length-append ys vs)

-- appending to the buffer, if it still exists
pub kept_more : {V : Type 0} (items : V → List ℕ) (a b : Option V) (preceding bytes : List ℕ) → (a ≡ None → b ≡ None) → IfSome b (λ all. IfSome a (λ before. items all ≡ items before ++ bytes)) → IfSome a (λ all. items all ≡ preceding) → IfSome b (λ all. items all ≡ preceding ++ bytes)
kept_more items a None preceding bytes lost more h = tt
kept_more items None (Some all) preceding bytes lost more h = absurd (let f : Some all ≡ None = lost refl in cc)
kept_more items (Some before) (Some all) preceding bytes lost more h = more ∙ ap (λ xs. xs ++ bytes) h
