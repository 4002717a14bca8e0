-- What options choose one after another is what they set together.
use Rattle.std.proofs.Common.{◌≡◌, ℕ, Bool, true, false, List, [], ◌∷◌, ◌++◌, length, map, ◌==◌, Option, Some, None, refl, sym, ap, ◌∙◌, subst, arith}
use Rattle.std.proofs.lemmas.Bool.{eqb-true}
use Rattle.std.specs.Option.{option_and_then, unwrap_or}
use Rattle.report_texts.specs.Words.{Limits, RunOption, with_steps, with_log, BeginsWith, AreOptions, steps_in, logs_in, usual_steps, IsChosen, Sets}
use Rattle.report_texts.proofs.Commands.{begins_once, begins_some}
use Rattle.report_texts.proofs.Searches.{Finds, no_options}
use Rattle.vdm_cli.specs.declared.chosen.Chosen.{Chosen}
use Rattle.vdm_cli.specs.Commands.{limits_of, with_option}

abbrev pub choice : Option ℕ → Bool → Chosen
choice steps log = record { steps = steps; log = log }

-- what is chosen with these options more, one after another
abbrev with_options : Chosen → List RunOption → Option Chosen
with_options chosen [] = Some chosen
with_options chosen (option ∷ options) = option_and_then (λ next. with_options next options) (with_option chosen option)

-- what words choose behind what was chosen before them
abbrev pub Chooses : List (List ℕ) → Chosen → Chosen → Type 0
Chooses words before after = (options : List RunOption) × AreOptions words options × (with_options before options ≡ Some after)

-- ---- what is chosen is what is set

-- what was chosen before, as if options had said it
abbrev given : Option ℕ → List ℕ
given None = []
given (Some n) = n ∷ []

abbrev asked : Bool → List Bool
asked false = []
asked true = true ∷ []

-- the value is the one of all that was said
abbrev BothChosen : List ℕ → List Bool → Option ℕ → Bool → Type 0
BothChosen steps logs n log = IsChosen steps usual_steps (unwrap_or n usual_steps) × IsChosen logs false log

nothing_more : (steps : Option ℕ) (log : Bool) → BothChosen (given steps ++ []) (asked log ++ []) steps log
nothing_more None false = (refl, refl)
nothing_more None true = (refl, refl)
nothing_more (Some n) false = (refl, refl)
nothing_more (Some n) true = (refl, refl)

gathered : (options : List RunOption) (steps : Option ℕ) (log : Bool) (c : Chosen) → with_options (choice steps log) options ≡ Some c → BothChosen (given steps ++ steps_in options) (asked log ++ logs_in options) c.steps c.log
gathered [] steps log c e =
    let same : choice steps log ≡ c = cc in
    subst (λ (d : Chosen). BothChosen (given steps ++ []) (asked log ++ []) d.steps d.log) same (nothing_more steps log)
gathered (with_steps n ∷ options) None log c e = gathered options (Some n) log c e
gathered (with_steps n ∷ options) (Some m) log c e = absurd (cc)
gathered (with_log ∷ options) steps false c e = gathered options steps true c e
gathered (with_log ∷ options) steps true c e = absurd (cc)

chooses : (options : List RunOption) (steps : Option ℕ) (log : Bool) (n : ℕ) (b : Bool) → IsChosen (given steps ++ steps_in options) usual_steps n → IsChosen (asked log ++ logs_in options) false b → (c : Chosen) × (with_options (choice steps log) options ≡ Some c)
chooses [] steps log n b p q = (choice steps log, refl)
chooses (with_steps m ∷ options) None log n b p q = chooses options (Some m) log n b p q
chooses (with_steps m ∷ options) (Some k) log n b p q = absurd p
chooses (with_log ∷ options) steps false n b p q = chooses options steps true n b p q
chooses (with_log ∷ options) steps true n b p q = absurd q

pub chosen_sets : (words : List (List ℕ)) (c : Chosen) → Chooses words (choice None false) c → Sets words (limits_of c) c.log
chosen_sets words c h =
    let both = gathered h.0 None false c h.2 in
    record { options = h.0; spelled = h.1; units = both.0; logged = both.1 }

-- words by which nothing is chosen set nothing
pub nothing_set : (words : List (List ℕ)) → ((c : Chosen) → Chooses words (choice None false) c → ⊥) → (sets : Limits × Bool) → Sets words sets.0 sets.1 → ⊥
nothing_set words none sets s =
    let c = chooses s.options None false sets.0.steps sets.1 s.units s.logged in
    none c.0 (s.options, s.spelled, c.1)

-- ---- one option after another

-- a search finds what words choose
abbrev pub FindsChoice : List (List ℕ) → Chosen → Option Chosen → Type 0
FindsChoice words before found = Finds (Chooses words before) found

pub all_chosen : (words : List (List ℕ)) (c : Chosen) → words ≡ [] → FindsChoice words c (Some c)
all_chosen words c e = ([], e, refl)

pub none_first : (words : List (List ℕ)) (c : Chosen) → (words ≡ [] → ⊥) → ((found : RunOption × List (List ℕ)) → BeginsWith words found.0 found.1 → ⊥) → FindsChoice words c None
none_first words c some none = λ d h. no_options words some none h.0 h.1

-- of other options nothing is chosen but by the first
first_is : (words others : List (List ℕ)) (o : RunOption) (c d : Chosen) (options : List RunOption) → BeginsWith words o others → AreOptions words options → with_options c options ≡ Some d → (more : List RunOption) × AreOptions others more × (option_and_then (λ next. with_options next more) (with_option c o) ≡ Some d)
first_is words others o c d [] b are e = absurd (begins_some words o others b are)
first_is words others o c d (p ∷ more) b are e =
    let same = begins_once words p o are.0 others are.1 b in (
      more,
      subst (λ w. AreOptions w more) same.1 are.2,
      subst (λ q. option_and_then (λ next. with_options next more) (with_option c q) ≡ Some d) same.0 e,
    )

pub none_with : (words others : List (List ℕ)) (o : RunOption) (c : Chosen) → BeginsWith words o others → with_option c o ≡ None → FindsChoice words c None
none_with words others o c b e = λ d h.
    let first = first_is words others o c d h.0 b h.1 h.2 in
    let fails : option_and_then (λ next. with_options next first.0) (with_option c o) ≡ None = ap (option_and_then (λ next. with_options next first.0)) e in
    let is = first.2 in
    cc

pub one_more : (words others : List (List ℕ)) (o : RunOption) (c next : Chosen) (found : Option Chosen) → BeginsWith words o others → with_option c o ≡ Some next → FindsChoice others next found → FindsChoice words c found
one_more words others o c next None b e h = λ d k.
    let first = first_is words others o c d k.0 b k.1 k.2 in
    let is : with_options next first.0 ≡ Some d = sym (ap (option_and_then (λ n. with_options n first.0)) e) ∙ first.2 in
    h d (first.0, first.1, is)
one_more words others o c next (Some d) b e h = (o ∷ h.0, (others, b, h.1), ap (option_and_then (λ n. with_options n h.0)) e ∙ h.2)

-- ---- words that there are

pub no_words_left : {A B : Type 0} (f : A → B) (xs : List A) (test : Bool) → test ≡ (length xs == 0) → test ≡ true → map f xs ≡ []
no_words_left f [] test e t = refl
no_words_left f (x ∷ xs) test e t = absurd (let zero_ = eqb-true (length (x ∷ xs)) 0 (sym e ∙ t) in omega (arith, zero_))

pub words_left : {A B : Type 0} (f : A → B) (xs : List A) (test : Bool) → test ≡ (length xs == 0) → test ≡ false → map f xs ≡ [] → ⊥
words_left f [] test e t none = cc
words_left f (x ∷ xs) test e t none = cc none
