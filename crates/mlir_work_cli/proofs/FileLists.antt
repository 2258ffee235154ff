-- Proofs about the texts of files, and the statuses of inputs, in order.
use Rattle.std.proofs.Common.{◌≡◌, ◌≤◌, ◌<◌, ◌-◌, ℕ, max, List, [], ◌∷◌, ◌++◌, Option, Some, length, map, take, drop, get_or, refl, sym, ap, ◌∙◌, append_assoc, append-nil, arith}
use Rattle.std.proofs.lemmas.List.{take_all}
use Rattle.mlir_work_cli.specs.Files.{AllHave, Reading, files_of}
use Rattle.mlir_work_cli.specs.Runs.{AreRun}

-- ---- a list by its first item and the rest

pub rest_at : {A : Type 0} (xs : List A) (x : A) → 1 ≤ length xs → x ≡ get_or xs 0 x → xs ≡ x ∷ take (length xs - 1) (drop 1 xs)
rest_at [] x l e = absurd (omega (arith, l))
rest_at (y ∷ ys) x l e =
    let n : length (y ∷ ys) - 1 ≡ length ys = omega arith in
    ap (λ z. z ∷ ys) (sym e) ∙ ap (λ zs. x ∷ zs) (sym (ap (λ k. take k ys) n ∙ take_all (length ys) ys (omega arith)))

pub none_at : {A : Type 0} (xs : List A) → length xs < 1 → xs ≡ []
none_at [] l = refl
none_at (x ∷ xs) l = absurd (omega (arith, l))

-- the items so far, followed by those of the rest, are all
pub next_names : {A : Type 0} (f : A → List ℕ) (rest : List A) (item : A) (old new all : List (List ℕ)) → 1 ≤ length rest → item ≡ get_or rest 0 item
    → old ++ map f rest ≡ all → new ≡ old ++ f item ∷ [] → new ++ map f (take (length rest - 1) (drop 1 rest)) ≡ all
next_names f rest item old new all l e h is =
    let later = take (length rest - 1) (drop 1 rest) in
    ap (λ xs. xs ++ map f later) is ∙ append_assoc old (f item ∷ []) (map f later) ∙ ap (λ ys. old ++ map f ys) (sym (rest_at rest item l e)) ∙ h

pub end_names : {A : Type 0} (f : A → List ℕ) (rest : List A) (old all : List (List ℕ)) → length rest < 1 → old ++ map f rest ≡ all → old ≡ all
end_names f [] old all l h = sym (append-nil old) ∙ h
end_names f (x ∷ xs) old all l h = absurd (omega (arith, l))

-- ---- texts of files

-- with the texts of the remaining files, the texts so far are those of all files
abbrev pub HaveWith : Reading → List (Option (List ℕ)) → List (Option (List ℕ)) → List (List ℕ) → Type 0
HaveWith Has all rest texts = (others : List (List ℕ)) → AllHave Has rest others → AllHave Has all (texts ++ others)

pub next_text : (Has : Reading) (all rest : List (Option (List ℕ))) (file : Option (List ℕ)) (texts new : List (List ℕ)) (text : List ℕ)
    → HaveWith Has all (file ∷ rest) texts → Has file text → new ≡ texts ++ text ∷ [] → HaveWith Has all rest new
next_text Has all rest file texts new text h has is = λ others more. rw (is, append_assoc texts (text ∷ []) others) (h (text ∷ others) (has, more))

pub all_texts : (Has : Reading) (all : List (Option (List ℕ))) (texts : List (List ℕ)) → HaveWith Has all [] texts → AllHave Has all texts
all_texts Has all texts h = rw append-nil at (h [] tt)

-- ---- pattern files

-- with the texts of later files, the texts so far are those of all files
abbrev pub FilesWith : Reading → List (List ℕ) → List (List ℕ) → Type 0
FilesWith Has names texts =
    (later others : List (List ℕ)) → AllHave Has (files_of later) others → AllHave Has (files_of (names ++ later)) (texts ++ others)

pub next_file : (Has : Reading) (names new texts more : List (List ℕ)) (name text : List ℕ)
    → FilesWith Has names texts → Has (Some name) text → new ≡ names ++ name ∷ [] → more ≡ texts ++ text ∷ [] → FilesWith Has new more
next_file Has names new texts more name text h has is are =
    λ later others rest. rw (is, are, append_assoc names (name ∷ []) later, append_assoc texts (text ∷ []) others) (h (name ∷ later) (text ∷ others) (has, rest))

pub all_files : (Has : Reading) (names texts : List (List ℕ)) → FilesWith Has names texts → AllHave Has (files_of names) texts
all_files Has names texts h = rw (append-nil names, append-nil texts) at (h [] [] tt)

-- ---- statuses

-- with the greatest status of the remaining inputs, the greatest so far is that of all inputs
abbrev pub RunWith : (List ℕ → ℕ → Type 0) → List (List ℕ) → List (List ℕ) → ℕ → Type 0
RunWith Ends all rest worst = (later : ℕ) → AreRun Ends rest later → AreRun Ends all (max worst later)

max_of_three : (a b c : ℕ) → max (max a b) c ≡ max a (max b c)
max_of_three a b c = omega arith

max_alone : (a : ℕ) → max a 0 ≡ a
max_alone a = omega arith

pub next_status : (Ends : List ℕ → ℕ → Type 0) (all rest : List (List ℕ)) (input : List ℕ) (worst status : ℕ)
    → RunWith Ends all (input ∷ rest) worst → Ends input status → RunWith Ends all rest (max worst status)
next_status Ends all rest input worst status h ends = λ later more. rw (max_of_three worst status later) (h (max status later) (status, later, ends, more, refl))

pub all_run : (Ends : List ℕ → ℕ → Type 0) (all : List (List ℕ)) (worst : ℕ) → RunWith Ends all [] worst → AreRun Ends all worst
all_run Ends all worst h = rw (max_alone worst) at (h 0 refl)
