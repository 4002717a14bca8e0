-- The command that the words of a command line are.
use Rattle.std.specs.Prelude.{◌≡◌, ℕ, ◌≤◌, ◌⊎◌, Bool, true, false, List, [], ◌∷◌, ◌++◌, length, codes}
use Rattle.std.specs.Str.Parse.{AllDigits, digits_value}

-- what bounds a run: the units of each thread
pub record Limits : Type 0 where
  pub steps : ℕ

-- to read the specification alone; or to run the expression of a text behind it, within limits, and to ask for the log or not
pub data Command : Type 0 where
  check : Command
  run : List ℕ → Limits → Bool → Command

-- an option of `run`: so many units, or the log
pub data RunOption : Type 0 where
  with_steps : ℕ → RunOption
  with_log : RunOption

-- the units where no option says how many, and the most that one may say
abbrev pub usual_steps : ℕ
usual_steps = 1000000

abbrev pub most_steps : ℕ
most_steps = 100000000

-- a word is a number: one to ten decimal digits, and no sign
pub record IsNumber (word : List ℕ) (number : ℕ) : Type 0 where
  pub digits : AllDigits 10 word
  pub some : 1 ≤ length word
  pub few : length word ≤ 10
  pub value : number ≡ digits_value 10 word

-- words begin with the name of an option and its value, which is the next word or stands behind `=` in the same word
abbrev pub HasValue : List (List ℕ) → List ℕ → List ℕ → List (List ℕ) → Type 0
HasValue words name value others = (words ≡ name ∷ value ∷ others) ⊎ (words ≡ (name ++ codes "=" ++ value) ∷ others)

-- words begin with an option, and the others stand behind it
abbrev pub BeginsWith : List (List ℕ) → RunOption → List (List ℕ) → Type 0
BeginsWith words (with_steps n) others =
    (value : List ℕ) × HasValue words (codes "--steps") value others × IsNumber value n × (1 ≤ n) × (n ≤ most_steps)
BeginsWith words with_log others = words ≡ codes "--log" ∷ others

-- words are options, one behind another
abbrev pub AreOptions : List (List ℕ) → List RunOption → Type 0
AreOptions words [] = words ≡ []
AreOptions words (option ∷ options) =
    (others : List (List ℕ)) × BeginsWith words option others × AreOptions others options

-- the units that options give, and the log where they ask for it
abbrev pub steps_in : List RunOption → List ℕ
steps_in [] = []
steps_in (with_steps n ∷ options) = n ∷ steps_in options
steps_in (with_log ∷ options) = steps_in options

abbrev pub logs_in : List RunOption → List Bool
logs_in [] = []
logs_in (with_steps n ∷ options) = logs_in options
logs_in (with_log ∷ options) = true ∷ logs_in options

-- a value is the one that is given, or the usual one where none is given; none is given twice
abbrev pub IsChosen : {A : Type 0} → List A → A → A → Type 0
IsChosen [] usual a = a ≡ usual
IsChosen (given ∷ []) usual a = a ≡ given
IsChosen (given ∷ again ∷ more) usual a = ⊥

-- words are options, in any order and each at most once, that set these limits, and ask for the log or not
pub record Sets (words : List (List ℕ)) (limits : Limits) (log : Bool) : Type 0 where
  pub options : List RunOption
  pub spelled : AreOptions words options
  pub units : IsChosen (steps_in options) usual_steps limits.steps
  pub logged : IsChosen (logs_in options) false log

-- `check` alone; or `run`, the text of an expression, as it stands, and then options: no other list of words is a command
abbrev pub IsCommand : List (List ℕ) → Command → Type 0
IsCommand words check = words ≡ codes "check" ∷ []
IsCommand words (run text limits log) =
    (others : List (List ℕ)) × (words ≡ codes "run" ∷ text ∷ others) × Sets others limits log

abbrev pub IsNoCommand : List (List ℕ) → Type 0
IsNoCommand words = (command : Command) → IsCommand words command → ⊥

-- whether a command asks for the log
abbrev pub asks_log : Command → Bool
asks_log check = false
asks_log (run text limits log) = log
