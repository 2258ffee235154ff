-- A loop over the nodes of a list.
use Rattle.std.proofs.Common.{◌≡◌, ℕ, ◌<◌, List, [], ◌∷◌, ◌++◌, get_or, sym, ap, ◌∙◌, subst, length, arith, length-append, append_assoc}
use Rattle.std.proofs.lemmas.List.{append-nil, length-map}
use Rattle.ir_store_lists.specs.Lists.{Lists, free, list_at, home_at, IsHead}
use Rattle.ir_store_lists.specs.Ring.{Ring, Linked, at, nexts, prevs, homes}
use Rattle.ir_store_lists.specs.declared.link.Link.{Link}
use Rattle.ir_store_lists.proofs.Around.{home_inside}
use Rattle.ir_store_lists.proofs.Readings.{read_next}
use Rattle.ir_store_lists.proofs.Grown.{of_all}

-- the remaining nodes lead from here to the head; they are the rest of the list after the visited nodes
pub record Walk (links : List Link) (h node : ℕ) (sofar whole : List ℕ) : Type 0 where
  pub trailing : ℕ
  pub rest : List ℕ
  pub leads : at (nexts links) trailing ≡ node
  pub ring : Ring (at (nexts links)) (at (prevs links)) (home_at (homes links)) h trailing rest h
  pub split : sofar ++ rest ≡ whole

pub walk_start : (links : List Link) (x : Linked links) (h : ℕ) (l : Link) (sofar : List ℕ) (headroom : ℕ) (v : Lists) → IsHead v.homes h → of_all x.0 (homes links) headroom ≡ v → l ≡ get_or links h l → Walk links h l.next sofar (sofar ++ list_at v.lists h)
walk_start links x h l sofar headroom v head e el =
    let own : IsHead (homes links) h = subst (λ z. IsHead z h) (sym (ap {A = Lists} (λ z. z.homes) e)) head in
    record {
      trailing = h;
      rest = list_at x.0 h;
      leads = read_next links h l (omega (arith, own.inside, length-map links (λ z. z.home))) el;
      ring = x.1.rings h own;
      split = ap {A = Lists} (λ z. sofar ++ list_at z.lists h) e;
    }

pub record Stepped (links : List Link) (h node : ℕ) (l : Link) (sofar whole : List ℕ) : Type 0 where
  pub inside : node < length links
  pub shorter : length sofar < length whole
  pub next : l ≡ get_or links node l → Walk links h l.next (sofar ++ node ∷ []) whole

pub walk_step : (links : List Link) (h node : ℕ) (l : Link) (sofar whole : List ℕ) → (h ≡ free → ⊥) → (node ≡ h → ⊥) → Walk links h node sofar whole → Stepped links h node l sofar whole
walk_step links h node l sofar whole linked ne w = go w.rest w.ring w.split
  where
    go : (rest : List ℕ) → Ring (at (nexts links)) (at (prevs links)) (home_at (homes links)) h w.trailing rest h → sofar ++ rest ≡ whole → Stepped links h node l sofar whole
    go [] r s = absurd (ne (sym w.leads ∙ r.0))
    go (x ∷ xs) r s =
        let here : x ≡ node = sym r.0.0 ∙ w.leads in
        let in' : node < length links = subst (λ z. z < length links) here (let k = home_inside (homes links) x (λ f. linked (sym r.1.0.0 ∙ f)) in omega (arith, k, length-map links (λ z. z.home))) in
        record {
          inside = in';
          shorter = omega (arith, length-append sofar (x ∷ xs), ap length s);
          next = λ e. record {
            trailing = node;
            rest = xs;
            leads = read_next links node l in' e;
            ring = subst (λ z. Ring (at (nexts links)) (at (prevs links)) (home_at (homes links)) h z xs h) here r.1.1;
            split = append_assoc sofar (node ∷ []) xs ∙ ap (λ z. sofar ++ z ∷ xs) (sym here) ∙ s;
          };
        }

pub walk_end : (links : List Link) (h node : ℕ) (sofar whole : List ℕ) → node ≡ h → Walk links h node sofar whole → sofar ≡ whole
walk_end links h node sofar whole e w = go w.rest w.ring w.split
  where
    go : (rest : List ℕ) → Ring (at (nexts links)) (at (prevs links)) (home_at (homes links)) h w.trailing rest h → sofar ++ rest ≡ whole → sofar ≡ whole
    go [] r s = sym (append-nil sofar) ∙ s
    go (x ∷ xs) r s = absurd (r.1.0.1 (sym r.0.0 ∙ w.leads ∙ e))

pub head_not_free : (links : List Link) (x : Linked links) (h headroom : ℕ) (v : Lists) → IsHead v.homes h → of_all x.0 (homes links) headroom ≡ v → h ≡ free → ⊥
head_not_free links x h headroom v head e f =
    let own : IsHead (homes links) h = subst (λ z. IsHead z h) (sym (ap {A = Lists} (λ z. z.homes) e)) head in
    let a : h < length (homes links) = own.inside in
    let b : length (homes links) < free = x.1.few in
    omega arith
