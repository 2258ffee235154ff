-- The slots of a list of pages after one page is written or added.
use Rattle.std.proofs.Common.{◌≡◌, ◌⊎◌, inl, inr, ℕ, ◌+◌, ◌*◌, ◌/◌, ◌%◌, ◌<◌, ◌≤◌, List, [], ◌∷◌, ◌++◌, set, get_or, length, sym, ap, ◌∙◌, ⊎_elim, arith, Option, Some, None}
use Rattle.std.proofs.Math.Seq.{get_or-append_seam}
use Rattle.std.proofs.lemmas.Bool.{cases_eq, cases_lt, cond-true, cond-false, lt-ltb, le-ltb}
use Rattle.std.proofs.lemmas.List.{get_or_past, get_or-set_same, get_or-set_other, length-append, get_or_append_left}
use Rattle.ir_store_lists.specs.declared.pages.IdPage.{IdPage}
use Rattle.ir_store_lists.specs.Pages.{no_page, trailing, slot_at, StoresFirstOnly, Counted, Forgotten, Learnt}

-- the slot of an id by its page
pub reported : (page : IdPage) (x n : ℕ) → slot_at page x ≡ Some n → (x % 64 < page.count) × (x + trailing page (x % 64) ≡ n)
reported page x n h = ⊎_elim
    (λ l.
    let is : ◌≡◌ {A = Option ℕ} (Some (x + trailing page (x % 64))) (Some n) = sym (cond-true _ (Some (x + trailing page (x % 64))) None (lt-ltb (x % 64) page.count l)) ∙ h in
    (l, cc))
    (λ g.
    let bad : ◌≡◌ {A = Option ℕ} None (Some n) = sym (cond-false _ (Some (x + trailing page (x % 64))) None (le-ltb (x % 64) page.count g)) ∙ h in
    absurd cc)
    (cases_lt (x % 64) page.count)

pub tells : (page : IdPage) (x : ℕ) → x % 64 < page.count → slot_at page x ≡ Some (x + trailing page (x % 64))
tells page x l = cond-true _ (Some (x + trailing page (x % 64))) None (lt-ltb (x % 64) page.count l)

-- a page that has only a slot for its first id: this slot, whatever was written before
pub first_counted : (shift : ℕ) (before page : IdPage) → StoresFirstOnly shift page → Counted 0 shift before page
first_counted shift before page h p l = inr (h p l)

module _ (at place shift : ℕ) (few : place < 64) where
  -- the slot by one page for an id of the page
  of_page : (before after : IdPage) → Counted place shift before after → (x n : ℕ) → x / 64 ≡ at → slot_at after x ≡ Some n → (slot_at before x ≡ Some n) ⊎ ((x ≡ at * 64 + place) × (at * 64 + place + shift ≡ n))
  of_page before after h x n here it =
      let w = reported after x n it in
      ⊎_elim
      (λ a. inl (tells before x a.0 ∙ ap Some (ap (λ z. x + z) (sym a.1) ∙ w.1)))
      (λ b. let is : x ≡ at * 64 + place = omega (arith, here, b.0, few) in
      inr (is, omega (arith, is, b.1, w.1)))
      (h (x % 64) w.0)

  -- a page is written
  pub written : (pages : List IdPage) (page : IdPage) → at < length pages → Counted place shift (get_or pages at no_page) page → Learnt (at * 64 + place) (at * 64 + place + shift) pages (set pages at page)
  written pages page l h x n it = ⊎_elim
      (λ e.
      let after : get_or (set pages at page) (x / 64) no_page ≡ page = ap (λ z. get_or (set pages at page) z no_page) e ∙ get_or-set_same pages at page no_page l in
      let before : get_or pages at no_page ≡ get_or pages (x / 64) no_page = ap (λ z. get_or pages z no_page) (sym e) in
      ⊎_elim
      (λ a. inl (ap (λ z. slot_at z x) (sym before) ∙ a))
      (λ b. inr b)
      (of_page (get_or pages at no_page) page h x n e (ap (λ z. slot_at z x) (sym after) ∙ it)))
      (λ ne. inl (ap (λ z. slot_at z x) (sym (get_or-set_other pages at (x / 64) page no_page ne)) ∙ it))
      (cases_eq (x / 64) at)

-- a page is added
pub appended : (pages : List IdPage) (page : IdPage) (at shift : ℕ) → at ≡ length pages → StoresFirstOnly shift page → Learnt (at * 64) (at * 64 + shift) pages (pages ++ page ∷ [])
appended pages page at shift e h x n it = ⊎_elim
    (λ l. inl (ap (λ z. slot_at z x) (sym (get_or_append_left pages (page ∷ []) no_page (x / 64) l)) ∙ it))
    (λ g. ⊎_elim
    (λ same.
    let there : get_or (pages ++ page ∷ []) (x / 64) no_page ≡ page = ap (λ z. get_or (pages ++ page ∷ []) z no_page) same ∙ get_or-append_seam pages page [] no_page in
    let w = reported page x n (ap (λ z. slot_at z x) (sym there) ∙ it) in
    let b = h (x % 64) w.0 in
    let is : x ≡ at * 64 = omega (arith, same, e, b.0) in
    inr (is, omega (arith, is, b.1, w.1)))
    (λ ne.
    let beyond : length (pages ++ page ∷ []) ≤ x / 64 = ⊎_elim (λ m. absurd (ne (omega (arith, g, m)))) (λ m. omega (arith, m, length-append pages (page ∷ []))) (cases_lt (x / 64) (length pages + 1)) in
    let w = reported no_page x n (ap (λ z. slot_at z x) (sym (get_or_past (pages ++ page ∷ []) (x / 64) no_page beyond)) ∙ it) in
    absurd (omega (arith, w.0)))
    (cases_eq (x / 64) (length pages)))
    (cases_lt (x / 64) (length pages))

-- a page counts fewer ids
pub fewer : (pages : List IdPage) (at place : ℕ) (page : IdPage) → place < 64 → at < length pages → page.count ≤ place → page.count ≤ (get_or pages at no_page).count → ((p : ℕ) → trailing page p ≡ trailing (get_or pages at no_page) p) → Forgotten (at * 64 + place) pages (set pages at page)
fewer pages at place page few l most less' same x n it = ⊎_elim
    (λ e.
    let after : get_or (set pages at page) (x / 64) no_page ≡ page = ap (λ z. get_or (set pages at page) z no_page) e ∙ get_or-set_same pages at page no_page l in
    let w = reported page x n (ap (λ z. slot_at z x) (sym after) ∙ it) in
    let was = get_or pages at no_page in (
      ap (λ z. slot_at (get_or pages z no_page) x) e ∙ tells was x (omega (arith, w.0, less')) ∙ ap Some (ap (λ z. x + z) (sym (same (x % 64))) ∙ w.1),
      λ is. omega (arith, is, w.0, most, few, e),
    ))
    (λ ne. (ap (λ z. slot_at z x) (sym (get_or-set_other pages at (x / 64) page no_page ne)) ∙ it, λ is. ne (omega (arith, is, few))))
    (cases_eq (x / 64) at)

-- an id without a slot in the pages needs no removal
pub untold : (pages : List IdPage) (at place : ℕ) → place < 64 → (get_or pages at no_page).count ≤ place → Forgotten (at * 64 + place) pages pages
untold pages at place few none x n it = (
  it,
  λ is.
      let here : x / 64 ≡ at = omega (arith, is, few) in
      let w = reported (get_or pages at no_page) x n (ap (λ z. slot_at (get_or pages z no_page) x) (sym here) ∙ it) in
      omega (arith, w.0, none, is, few, here),
)
