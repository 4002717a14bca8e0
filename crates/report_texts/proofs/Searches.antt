-- Which command words are, as a search, so that words are a command or none; and what a search finds at each step.
use Rattle.std.proofs.Common.{◌≡◌, ℕ, zero, suc, ◌≤◌, ◌⊎◌, Bool, true, false, ◌&&◌, ◌==◌, nat_le, if◌then◌else◌, List, [], ◌∷◌, ◌++◌, length, codes}
use Rattle.std.proofs.Common.{Option, Some, None, refl, sym, ap, ◌∙◌, subst, arith, inl, inr}
use Rattle.std.specs.Option.{option_map, option_and_then}
use Rattle.std.specs.Str.{all_ascii_digits}
use Rattle.std.specs.Str.Parse.{digits_value}
use Rattle.std.proofs.lemmas.Bool.{leb-true, le-leb, eqb-true, eq-eqb}
use Rattle.std.proofs.lemmas.List.{append-nil, append_assoc, append_cancel_left}
use Rattle.std.proofs.lemmas.Str.Parse.{IsNumeralModel, numerals_by_value, tells_all_ascii_digits}
use Rattle.report_texts.specs.Words.{Limits, Command, check, run, RunOption, with_steps, with_log, most_steps, IsNumber, HasValue, BeginsWith, AreOptions}
use Rattle.report_texts.specs.Words.{steps_in, logs_in, usual_steps, IsChosen, Sets, IsCommand, IsNoCommand}
use Rattle.report_texts.proofs.Commands.{value_once, begins_once, begins_some, options_once, not_both}

-- ---- searches

-- a search finds what there is, and nothing only where there is nothing
abbrev pub Finds : {A : Type 0} → (A → Type 0) → Option A → Type 0
Finds {A} There None = (a : A) → There a → ⊥
Finds There (Some a) = There a

-- a test finds one thing or nothing
by_test : {A : Type 0} (There : A → Type 0) (test : Bool) (a : A) → (test ≡ true → There a) → (test ≡ false → (b : A) → There b → ⊥) → Finds There (if test then Some a else None)
by_test There true a holds fails = holds refl
by_test There false a holds fails = fails refl

both_hold : (a b : Bool) → (a && b) ≡ true → (a ≡ true) × (b ≡ true)
both_hold true b e = (refl, e)
both_hold false b e = absurd (cc)

not_both_hold : (a b : Bool) → (a && b) ≡ false → a ≡ true → b ≡ true → ⊥
not_both_hold a b e f g = cc

-- ---- numbers

digits_are : IsNumeralModel (λ word. all_ascii_digits word ≡ true) (digits_value 10)
digits_are = numerals_by_value (λ word. all_ascii_digits word ≡ true) tells_all_ascii_digits

abbrev is_number : List ℕ → Bool
is_number word = nat_le 1 (length word) && (nat_le (length word) 10 && all_ascii_digits word)

abbrev number_found : List ℕ → Option ℕ
number_found word = if is_number word then Some (digits_value 10 word) else None

pub number_is : (word : List ℕ) → Finds (IsNumber word) (number_found word)
number_is word =
    by_test (IsNumber word) (is_number word) (digits_value 10 word)
    (λ e.
    let one = both_hold (nat_le 1 (length word)) (nat_le (length word) 10 && all_ascii_digits word) e in
    let two = both_hold (nat_le (length word) 10) (all_ascii_digits word) one.1 in
    record { digits = digits_are.to word two.1; some = leb-true 1 (length word) one.0; few = leb-true (length word) 10 two.0; value = refl })
    (λ e n h.
    not_both_hold (nat_le 1 (length word)) (nat_le (length word) 10 && all_ascii_digits word) e (le-leb 1 (length word) h.some)
    (ap (λ b. b && all_ascii_digits word) (le-leb (length word) 10 h.few) ∙ digits_are.from word h.digits))

-- the units that a word gives
abbrev IsUnits : List ℕ → ℕ → Type 0
IsUnits word n = IsNumber word n × (1 ≤ n) × (n ≤ most_steps)

abbrev within : ℕ → Option ℕ
within n = if nat_le 1 n && nat_le n most_steps then Some n else None

units_within : (word : List ℕ) (found : Option ℕ) → Finds (IsNumber word) found → Finds (IsUnits word) (option_and_then within found)
units_within word None h = λ n u. h n u.0
units_within word (Some m) h =
    by_test (IsUnits word) (nat_le 1 m && nat_le m most_steps) m
    (λ e. let both = both_hold (nat_le 1 m) (nat_le m most_steps) e in (h, leb-true 1 m both.0, leb-true m most_steps both.1))
    (λ e n u.
    let same : n ≡ m = u.0.value ∙ sym h.value in
    not_both_hold (nat_le 1 m) (nat_le m most_steps) e (le-leb 1 m (omega (arith, u.1, same))) (le-leb m most_steps (omega (arith, u.2, same))))

units_are : (word : List ℕ) → Finds (IsUnits word) (option_and_then within (number_found word))
units_are word = units_within word (number_found word) (number_is word)

-- ---- words

-- what stands in a word behind a front
abbrev behind : List ℕ → List ℕ → Option (List ℕ)
behind [] word = Some word
behind (c ∷ front) [] = None
behind (c ∷ front) (d ∷ word) = if c == d then behind front word else None

behind_same : (c d : ℕ) (front word : List ℕ) (test : Bool) → (test ≡ true → c ≡ d) → (c ≡ d → test ≡ true) → Finds (λ rest. word ≡ front ++ rest) (behind front word) → Finds (λ rest. d ∷ word ≡ c ∷ front ++ rest) (if test then behind front word else None)
behind_same c d front word false to from h = λ rest e. let f = from cc in cc
behind_same c d front word true to from h = with_first c d front word (behind front word) (to refl) h
  where
    with_first : (c d : ℕ) (front word : List ℕ) (found : Option (List ℕ)) → c ≡ d → Finds (λ rest. word ≡ front ++ rest) found → Finds (λ rest. d ∷ word ≡ c ∷ front ++ rest) found
    with_first c d front word None same h = λ rest e. h rest cc
    with_first c d front word (Some rest) same h = cc

behind_is : (front word : List ℕ) → Finds (λ rest. word ≡ front ++ rest) (behind front word)
behind_is [] word = refl
behind_is (c ∷ front) [] = λ rest e. cc
behind_is (c ∷ front) (d ∷ word) = behind_same c d front word (c == d) (eqb-true c d) (eq-eqb c d) (behind_is front word)

-- the value behind a name, where something is known of the word behind the name
abbrev value_behind : List (List ℕ) → Option (List ℕ) → Option (List ℕ × List (List ℕ))
value_behind others None = None
value_behind [] (Some []) = None
value_behind (value ∷ others) (Some []) = Some (value, others)
value_behind others (Some (c ∷ value)) = if c == 61 then Some (value, others) else None

-- words begin with the name and the value
abbrev HasPair : List (List ℕ) → List ℕ → List ℕ × List (List ℕ) → Type 0
HasPair words name pair = HasValue words name pair.0 pair.1

-- what stands behind the name then
pub rest_of : (first : List ℕ) (others : List (List ℕ)) (name value : List ℕ) (more : List (List ℕ)) → HasValue (first ∷ others) name value more → ((first ≡ name ++ []) × (others ≡ value ∷ more)) ⊎ ((first ≡ name ++ (61 ∷ value)) × (others ≡ more))
rest_of first others name value more (inl e) = inl (let n = append-nil name in cc, cc)
rest_of first others name value more (inr e) = inr (let n = append_assoc name (codes "=") value in cc, cc)

pub one_rest : (first name r s : List ℕ) → first ≡ name ++ r → first ≡ name ++ s → r ≡ s
one_rest first name r s e f = append_cancel_left name r s (sym e ∙ f)

pub value_is : (name first : List ℕ) (others : List (List ℕ)) (rest : Option (List ℕ)) → Finds (λ r. first ≡ name ++ r) rest → Finds (HasPair (first ∷ others) name) (value_behind others rest)
value_is name first others None h = λ pair v. elim (rest_of first others name pair.0 pair.1 v) [ inl e ↦ h [] e.0 | inr e ↦ h (61 ∷ pair.0) e.0 ]
value_is name first [] (Some []) h = λ pair v. elim (rest_of first [] name pair.0 pair.1 v) [ inl e ↦ (let f = e.1 in cc) | inr e ↦ (let f = one_rest first name [] (61 ∷ pair.0) h e.0 in cc) ]
value_is name first (value ∷ others) (Some []) h = inl (let n = append-nil name in cc)
value_is name first others (Some (c ∷ value)) h =
    by_test (HasPair (first ∷ others) name) (c == 61) (value, others)
    (λ e. inr (let n = append_assoc name (codes "=") value in let f = eqb-true c 61 e in cc))
    (λ e pair v. elim (rest_of first others name pair.0 pair.1 v) [
      | inl n ↦ (let f = one_rest first name (c ∷ value) [] h n.0 in cc)
      | inr n ↦ (let f = one_rest first name (c ∷ value) (61 ∷ pair.0) h n.0 in let same : c ≡ 61 = cc in let g = eq-eqb c 61 same in cc)
    ])

-- the value of a name at the front of words
abbrev value_found : List ℕ → List (List ℕ) → Option (List ℕ × List (List ℕ))
value_found name [] = None
value_found name (first ∷ others) = value_behind others (behind name first)

value_found_is : (name : List ℕ) (words : List (List ℕ)) → Finds (HasPair words name) (value_found name words)
value_found_is name [] = λ pair v. elim v [ inl e ↦ cc | inr e ↦ cc ]
value_found_is name (first ∷ others) = value_is name first others (behind name first) (behind_is name first)

-- the words behind the option that asks for the log
abbrev log_behind : List (List ℕ) → Option (List ℕ) → Option (List (List ℕ))
log_behind others (Some []) = Some others
log_behind others _ = None

abbrev log_found : List (List ℕ) → Option (List (List ℕ))
log_found [] = None
log_found (first ∷ others) = log_behind others (behind (codes "--log") first)

log_is : (first : List ℕ) (others : List (List ℕ)) (rest : Option (List ℕ)) → Finds (λ r. first ≡ codes "--log" ++ r) rest → Finds (λ more. first ∷ others ≡ codes "--log" ∷ more) (log_behind others rest)
log_is first others None h = λ more e. h [] cc
log_is first others (Some []) h = cc
log_is first others (Some (c ∷ rest)) h = λ more e. (let f = one_rest first (codes "--log") (c ∷ rest) [] h cc in cc)

log_found_is : (words : List (List ℕ)) → Finds (λ more. words ≡ codes "--log" ∷ more) (log_found words)
log_found_is [] = λ more e. cc
log_found_is (first ∷ others) = log_is first others (behind (codes "--log") first) (behind_is (codes "--log") first)

-- ---- options

-- words begin with the option and the others
abbrev HasOption : List (List ℕ) → RunOption × List (List ℕ) → Type 0
HasOption words found = BeginsWith words found.0 found.1

abbrev steps_option : List (List ℕ) → Option ℕ → Option (RunOption × List (List ℕ))
steps_option others None = None
steps_option others (Some n) = Some (with_steps n, others)

abbrev value_option : Option (List ℕ × List (List ℕ)) → Option (RunOption × List (List ℕ))
value_option None = None
value_option (Some pair) = steps_option pair.1 (option_and_then within (number_found pair.0))

abbrev option_found : Option (List (List ℕ)) → Option (List ℕ × List (List ℕ)) → Option (RunOption × List (List ℕ))
option_found (Some others) value = Some (with_log, others)
option_found None value = value_option value

-- no option at the front of words
pub no_option : (words : List (List ℕ)) → ((n : ℕ) (more : List (List ℕ)) → BeginsWith words (with_steps n) more → ⊥) → ((more : List (List ℕ)) → words ≡ codes "--log" ∷ more → ⊥) → (found : RunOption × List (List ℕ)) → HasOption words found → ⊥
no_option words steps log (with_steps n, more) h = steps n more h
no_option words steps log (with_log, more) h = log more h

-- no units behind the name
steps_are : (words : List (List ℕ)) (value : List ℕ) (others : List (List ℕ)) (units : Option ℕ) → HasValue words (codes "--steps") value others → Finds (IsUnits value) units → Finds (HasOption words) (steps_option others units)
steps_are words value others None v h =
    no_option words
    (λ n more b.
    let same = value_once words (codes "--steps") value b.0 others more v b.1 in
    h n (subst (λ x. IsUnits x n) (sym same.0) (b.2, b.3, b.4)))
    (λ more e. not_both words value others more v e)
steps_are words value others (Some n) v h = (value, v, h.0, h.1, h.2)

option_is : (words : List (List ℕ)) (log : Option (List (List ℕ))) (value : Option (List ℕ × List (List ℕ))) → Finds (λ more. words ≡ codes "--log" ∷ more) log → Finds (HasPair words (codes "--steps")) value → Finds (HasOption words) (option_found log value)
option_is words (Some others) value l v = l
option_is words None None l v = no_option words (λ n more b. v (b.0, more) b.1) l
option_is words None (Some pair) l v = steps_are words pair.0 pair.1 (option_and_then within (number_found pair.0)) v (units_are pair.0)

-- the option at the front of words
abbrev front_found : List (List ℕ) → Option (RunOption × List (List ℕ))
front_found words = option_found (log_found words) (value_found (codes "--steps") words)

front_is : (words : List (List ℕ)) → Finds (HasOption words) (front_found words)
front_is words = option_is words (log_found words) (value_found (codes "--steps") words) (log_found_is words) (value_found_is (codes "--steps") words)

-- and the options of words, of which there are at most so many
abbrev options_behind : (List (List ℕ) → Option (List RunOption)) → Option (RunOption × List (List ℕ)) → Option (List RunOption)
options_behind find None = None
options_behind find (Some found) = option_map (λ options. found.0 ∷ options) (find found.1)

abbrev options_found : ℕ → List (List ℕ) → Option (List RunOption)
options_found n [] = Some []
options_found zero (first ∷ others) = None
options_found (suc n) (first ∷ others) = options_behind (options_found n) (front_found (first ∷ others))

-- words that begin with no option are no list of options
pub no_options : (words : List (List ℕ)) → (words ≡ [] → ⊥) → ((found : RunOption × List (List ℕ)) → HasOption words found → ⊥) → (options : List RunOption) → AreOptions words options → ⊥
no_options words some none [] h = some h
no_options words some none (o ∷ options) h = none (o, h.0) h.1

-- nor are words with none behind the first option
pub none_behind : (words others : List (List ℕ)) (o : RunOption) → BeginsWith words o others → ((options : List RunOption) → AreOptions others options → ⊥) → (options : List RunOption) → AreOptions words options → ⊥
none_behind words others o b none [] h = begins_some words o others b h
none_behind words others o b none (p ∷ options) h =
    none options (subst (λ w. AreOptions w options) (sym (begins_once words o p others h.0 b h.1).1) h.2)

options_with : (words others : List (List ℕ)) (o : RunOption) (found : Option (List RunOption)) → BeginsWith words o others → Finds (AreOptions others) found → Finds (AreOptions words) (option_map (λ options. o ∷ options) found)
options_with words others o None b h = none_behind words others o b h
options_with words others o (Some options) b h = (others, b, h)

shorter : (words others : List (List ℕ)) (o : RunOption) (n : ℕ) → BeginsWith words o others → length words ≤ suc n → length others ≤ n
shorter words others (with_steps m) n (value, inl e, number, least, most) h = let l = ap length e in omega (arith, l)
shorter words others (with_steps m) n (value, inr e, number, least, most) h = let l = ap length e in omega (arith, l)
shorter words others with_log n e h = let l = ap length e in omega (arith, l)

options_step : (words : List (List ℕ)) (n : ℕ) (find : List (List ℕ) → Option (List RunOption)) (found : Option (RunOption × List (List ℕ))) → (words ≡ [] → ⊥) → length words ≤ suc n → Finds (HasOption words) found → ((others : List (List ℕ)) → length others ≤ n → Finds (AreOptions others) (find others)) → Finds (AreOptions words) (options_behind find found)
options_step words n find None some l h more = no_options words some h
options_step words n find (Some found) some l h more = options_with words found.1 found.0 (find found.1) h (more found.1 (shorter words found.1 found.0 n h l))

not_empty : (first : List ℕ) (others : List (List ℕ)) → first ∷ others ≡ [] → ⊥
not_empty first others e = cc

options_are : (n : ℕ) (words : List (List ℕ)) → length words ≤ n → Finds (AreOptions words) (options_found n words)
options_are n [] l = refl
options_are zero (first ∷ others) l = absurd (omega arith)
options_are (suc n) (first ∷ others) l =
    options_step (first ∷ others) n (options_found n) (front_found (first ∷ others)) (not_empty first others) l (front_is (first ∷ others)) (options_are n)

-- ---- what options set

abbrev chosen_found : {A : Type 0} → List A → A → Option A
chosen_found [] usual = Some usual
chosen_found (a ∷ []) usual = Some a
chosen_found (a ∷ b ∷ more) usual = None

chosen_is : {A : Type 0} (given : List A) (usual : A) → Finds (IsChosen given usual) (chosen_found given usual)
chosen_is [] usual = refl
chosen_is (a ∷ []) usual = refl
chosen_is (a ∷ b ∷ more) usual = λ c h. h

abbrev both_found : Option ℕ → Option Bool → Option (Limits × Bool)
both_found (Some n) (Some log) = Some (record { steps = n }, log)
both_found _ _ = None

both_are : (words : List (List ℕ)) (options : List RunOption) (n : Option ℕ) (log : Option Bool) → AreOptions words options → Finds (IsChosen (steps_in options) usual_steps) n → Finds (IsChosen (logs_in options) false) log → Finds (λ (s : Limits × Bool). Sets words s.0 s.1) (both_found n log)
both_are words options None log a h k = λ s g. h s.0.steps (subst (λ o. IsChosen (steps_in o) usual_steps s.0.steps) (options_once words g.options options g.spelled a) g.units)
both_are words options (Some n) None a h k = λ s g. k s.1 (subst (λ o. IsChosen (logs_in o) false s.1) (options_once words g.options options g.spelled a) g.logged)
both_are words options (Some n) (Some log) a h k = record { options = options; spelled = a; units = h; logged = k }

abbrev sets_found : Option (List RunOption) → Option (Limits × Bool)
sets_found None = None
sets_found (Some options) = both_found (chosen_found (steps_in options) usual_steps) (chosen_found (logs_in options) false)

sets_are : (words : List (List ℕ)) (options : Option (List RunOption)) → Finds (AreOptions words) options → Finds (λ (s : Limits × Bool). Sets words s.0 s.1) (sets_found options)
sets_are words None h = λ s g. h g.options g.spelled
sets_are words (Some options) h =
    both_are words options (chosen_found (steps_in options) usual_steps) (chosen_found (logs_in options) false) h
    (chosen_is (steps_in options) usual_steps) (chosen_is (logs_in options) false)

-- ---- commands

abbrev check_found : Option (List ℕ) → Option Command
check_found (Some []) = Some check
check_found _ = None

abbrev run_found : List ℕ → Option (Limits × Bool) → Option (List ℕ) → Option Command
run_found text (Some sets) (Some []) = Some (run text sets.0 sets.1)
run_found text _ _ = None

abbrev pub command_found : List (List ℕ) → Option Command
command_found [] = None
command_found (first ∷ []) = check_found (behind (codes "check") first)
command_found (first ∷ text ∷ others) = run_found text (sets_found (options_found (length others) others)) (behind (codes "run") first)

-- one word is `check` or no command, and more are `run` or none
pub no_check : (first : List ℕ) → (first ≡ codes "check" → ⊥) → (command : Command) → IsCommand (first ∷ []) command → ⊥
no_check first none check e = none cc
no_check first none (run text limits log) c = let e = c.1 in cc

pub no_run : (first text : List ℕ) (others : List (List ℕ)) → ((limits : Limits) (log : Bool) → first ≡ codes "run" → Sets others limits log → ⊥) → (command : Command) → IsCommand (first ∷ text ∷ others) command → ⊥
no_run first text others none check e = cc
no_run first text others none (run other limits log) c =
    let e = c.1 in
    let same : c.0 ≡ others = cc in
    none limits log (cc) (subst (λ w. Sets w limits log) same c.2)

check_is : (first : List ℕ) (rest : Option (List ℕ)) → Finds (λ r. first ≡ codes "check" ++ r) rest → Finds (IsCommand (first ∷ [])) (check_found rest)
check_is first None h = no_check first (λ e. h [] e)
check_is first (Some (c ∷ rest)) h = no_check first (λ e. (let f = one_rest first (codes "check") (c ∷ rest) [] h e in cc))
check_is first (Some []) h = cc

run_is : (first text : List ℕ) (others : List (List ℕ)) (sets : Option (Limits × Bool)) (rest : Option (List ℕ)) → Finds (λ (s : Limits × Bool). Sets others s.0 s.1) sets → Finds (λ r. first ≡ codes "run" ++ r) rest → Finds (IsCommand (first ∷ text ∷ others)) (run_found text sets rest)
run_is first text others None rest s h = no_run first text others (λ limits log e k. s (limits, log) k)
run_is first text others (Some sets) None s h = no_run first text others (λ limits log e k. h [] e)
run_is first text others (Some sets) (Some (c ∷ rest)) s h = no_run first text others (λ limits log e k. (let f = one_rest first (codes "run") (c ∷ rest) [] h e in cc))
run_is first text others (Some sets) (Some []) s h = (others, (let f = h in cc), s)

pub no_words : (command : Command) → IsCommand [] command → ⊥
no_words check e = cc
no_words (run text limits log) c = let e = c.1 in cc

pub command_is : (words : List (List ℕ)) → Finds (IsCommand words) (command_found words)
command_is [] = no_words
command_is (first ∷ []) = check_is first (behind (codes "check") first) (behind_is (codes "check") first)
command_is (first ∷ text ∷ others) =
    run_is first text others (sets_found (options_found (length others) others)) (behind (codes "run") first)
    (sets_are others (options_found (length others) others) (options_are (length others) others (omega arith)))
    (behind_is (codes "run") first)

either : (words : List (List ℕ)) (found : Option Command) → Finds (IsCommand words) found → IsNoCommand words ⊎ ((command : Command) × IsCommand words command)
either words None h = inl h
either words (Some command) h = inr (command, h)

pub command_or_none : (words : List (List ℕ)) → IsNoCommand words ⊎ ((command : Command) × IsCommand words command)
command_or_none words = either words (command_found words) (command_is words)
