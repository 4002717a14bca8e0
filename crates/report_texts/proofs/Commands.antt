-- Words are at most one command: they begin with at most one option, and so are at most one list of options.
use Rattle.std.proofs.Common.{◌≡◌, ℕ, Bool, false, List, [], ◌∷◌, ◌++◌, length, get_or, codes, refl, sym, ap, subst, arith, inl, inr}
use Rattle.std.proofs.lemmas.List.{length-append, append_cancel_left}
use Rattle.report_texts.specs.Words.{Limits, Command, check, run, RunOption, with_steps, with_log, HasValue, BeginsWith, AreOptions}
use Rattle.report_texts.specs.Words.{steps_in, logs_in, usual_steps, IsChosen, Sets, IsCommand}

-- ---- options at the front of words

-- a name is not the same name with more behind it
longer : (name value : List ℕ) → name ≡ name ++ codes "=" ++ value → ⊥
longer name value e =
    let n = ap length e in
    let m = length-append (name ++ codes "=") value in
    let k = length-append name (codes "=") in
    omega (arith, n, m, k)

-- words begin with at most one value of a name
pub value_once : (words : List (List ℕ)) (name v w : List ℕ) (a b : List (List ℕ)) → HasValue words name v a → HasValue words name w b → (v ≡ w) × (a ≡ b)
value_once words name v w a b (inl p) (inl q) = (cc, cc)
value_once words name v w a b (inl p) (inr q) = absurd (longer name w cc)
value_once words name v w a b (inr p) (inl q) = absurd (longer name v cc)
value_once words name v w a b (inr p) (inr q) = (append_cancel_left (name ++ codes "=") v w cc, cc)

-- the third letter of the first word
abbrev third : List (List ℕ) → ℕ
third words = get_or (get_or words 0 []) 2 0

steps_third : (words : List (List ℕ)) (value : List ℕ) (others : List (List ℕ)) → HasValue words (codes "--steps") value others → third words ≡ 115
steps_third words value others (inl p) = ap third p
steps_third words value others (inr p) = ap third p

pub not_both : (words : List (List ℕ)) (value : List ℕ) (a b : List (List ℕ)) → HasValue words (codes "--steps") value a → words ≡ codes "--log" ∷ b → ⊥
not_both words value a b p q =
    let s = steps_third words value a p in
    let l : third words ≡ 108 = ap third q in
    omega (arith, s, l)

-- words begin with at most one option
pub begins_once : (words : List (List ℕ)) (o p : RunOption) (a b : List (List ℕ)) → BeginsWith words o a → BeginsWith words p b → (o ≡ p) × (a ≡ b)
begins_once words (with_steps m) (with_steps n) a b h k =
    let same = value_once words (codes "--steps") h.0 k.0 a b h.1 k.1 in
    (ap with_steps (let m_is = h.2.value in let n_is = k.2.value in cc), same.1)
begins_once words (with_steps m) with_log a b h k = absurd (not_both words h.0 a b h.1 k)
begins_once words with_log (with_steps n) a b h k = absurd (not_both words k.0 b a k.1 h)
begins_once words with_log with_log a b h k = (refl, cc)

-- and then they are not empty
pub begins_some : (words : List (List ℕ)) (o : RunOption) (a : List (List ℕ)) → BeginsWith words o a → words ≡ [] → ⊥
begins_some words (with_steps n) a (value, inl p, number, least, most) none = cc
begins_some words (with_steps n) a (value, inr p, number, least, most) none = cc
begins_some words with_log a p none = cc

-- words are at most one list of options
pub options_once : (words : List (List ℕ)) (a b : List RunOption) → AreOptions words a → AreOptions words b → a ≡ b
options_once words [] [] h k = refl
options_once words [] (p ∷ b) h k = absurd (begins_some words p k.0 k.1 h)
options_once words (o ∷ a) [] h k = absurd (begins_some words o h.0 h.1 k)
options_once words (o ∷ a) (p ∷ b) h k =
    let same = begins_once words o p h.0 k.0 h.1 k.1 in
    let rest = options_once h.0 a b h.2 (subst (λ w. AreOptions w b) (sym same.1) k.2) in
    let first = same.0 in
    cc

-- ---- what options set

-- a value is chosen once
pub chosen_once : {A : Type 0} (given : List A) (usual a b : A) → IsChosen given usual a → IsChosen given usual b → a ≡ b
chosen_once [] usual a b p q = cc
chosen_once (x ∷ []) usual a b p q = cc
chosen_once (x ∷ y ∷ more) usual a b p q = absurd p

same_limits : (a b : Limits) → a.steps ≡ b.steps → a ≡ b
same_limits a b e = ap (λ n. record { steps = n }) e

-- words set limits and ask for the log in one way
sets_once : (words : List (List ℕ)) (a b : Limits) (c d : Bool) → Sets words a c → Sets words b d → (a ≡ b) × (c ≡ d)
sets_once words a b c d h k =
    let same = options_once words h.options k.options h.spelled k.spelled in (
      same_limits a b (chosen_once (steps_in h.options) usual_steps a.steps b.steps h.units (subst (λ o. IsChosen (steps_in o) usual_steps b.steps) (sym same) k.units)),
      chosen_once (logs_in h.options) false c d h.logged (subst (λ o. IsChosen (logs_in o) false d) (sym same) k.logged),
    )

same_run : (text other : List ℕ) (a b : Limits) (c d : Bool) → text ≡ other → a ≡ b → c ≡ d → run text a c ≡ run other b d
same_run text other a b c d e f g = cc

pub one_command : (words : List (List ℕ)) (a b : Command) → IsCommand words a → IsCommand words b → a ≡ b
one_command words check check p q = cc
one_command words check (run text limits log) p q = absurd (let e = q.1 in cc)
one_command words (run text limits log) check p q = absurd (let e = p.1 in cc)
one_command words (run text a c) (run other b d) p q =
    let e = p.1 in
    let f = q.1 in
    let same_text : text ≡ other = cc in
    let same_words : p.0 ≡ q.0 = cc in
    let same = sets_once p.0 a b c d p.2 (subst (λ w. Sets w b d) (sym same_words) q.2) in
    same_run text other a b c d same_text same.0 same.1
