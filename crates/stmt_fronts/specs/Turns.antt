-- What a word does where something is wanted.
use Rattle.std.specs.Prelude.{ℕ, List, [], ◌∷◌, ◌++◌, Option, Some, None, map}
use Rattle.grammar_fronts.specs.declared.wanted.Wanted.{Wanted}
use Rattle.grammar_fronts.specs.Turns.{Turn as InnerTurn, goes_on as inner_goes_on, begins as inner_begins, joins as inner_joins, adds as inner_adds}
use Rattle.stmt_fronts.specs.declared.expected.Expected.{Expected}
use Rattle.stmt_fronts.specs.declared.expected.Expected.TheVariants.{Within, Call}

-- What a word of a type, a pattern or an expression does, and one thing more: with a word that begins a primary a call begins round
-- it. It has no word of its own, and wants an application.
pub data Turn : Type 0 where
  goes_on : List Expected → Turn
  begins : ℕ → List Expected → List Expected → Turn
  joins : ℕ → ℕ → List Expected → List Expected → Turn
  adds : ℕ → List Expected → Turn
  calls : ℕ → List Expected → List Expected → Turn

-- what is wanted in place of what took the word
abbrev pub wanted_by : Turn → List Expected
wanted_by (goes_on parts) = parts
wanted_by (begins pull parts behind) = parts ++ behind
wanted_by (joins left right parts behind) = parts ++ behind
wanted_by (adds pull parts) = parts
wanted_by (calls pull parts behind) = parts ++ Call ∷ behind

-- ---- what is wanted in types, patterns and expressions

abbrev pub all_within : List Wanted → List Expected
all_within wanted = map (λ (w : Wanted). Within w) wanted

abbrev pub within : InnerTurn → Turn
within (inner_goes_on parts) = goes_on (all_within parts)
within (inner_begins pull parts behind) = begins pull (all_within parts) (all_within behind)
within (inner_joins left right parts behind) = joins left right (all_within parts) (all_within behind)
within (inner_adds pull parts) = adds pull (all_within parts)

-- ---- the ways in which a word is taken: mostly one, or none

abbrev pub no_way : List Turn
no_way = []

abbrev pub own : List Expected → List Turn
own parts = goes_on parts ∷ []

-- a statement begins
abbrev pub node : List Expected → List Turn
node parts = begins 0 parts [] ∷ []

abbrev pub inner : Option InnerTurn → List Turn
inner None = []
inner (Some turn) = within turn ∷ []

-- a call begins, where an expression does
abbrev pub call_of : Option InnerTurn → List Turn
call_of (Some (inner_begins pull parts _)) = calls pull (all_within parts) [] ∷ []
call_of _ = []

-- what begins, and behind it what is wanted besides
abbrev pub followed : List Expected → Turn → Turn
followed more (goes_on parts) = goes_on (parts ++ more)
followed more (begins pull parts behind) = begins pull parts (behind ++ more)
followed more (joins left right parts behind) = joins left right parts (behind ++ more)
followed more (adds pull parts) = adds pull (parts ++ more)
followed more (calls pull parts behind) = calls pull parts (behind ++ more)

abbrev pub then_wanted : List Turn → List Expected → List Turn
then_wanted turns more = map (followed more) turns
