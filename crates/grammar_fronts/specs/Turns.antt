-- What a word does where something is wanted.
use Rattle.std.specs.Prelude.{ℕ, List, [], ◌∷◌, ◌++◌, Option, Some, None}
use Rattle.grammar_fronts.specs.declared.wanted.Wanted.{Wanted}
use Rattle.grammar_fronts.specs.declared.wanted.Wanted.TheVariants.{BehindOperand}

-- A word goes on with the node that is open. Or a node begins with it: how strongly it pulls at what stands behind its last part,
-- what it still has, and what may stand behind it. Or a node begins round what was read: how strongly it pulls at that, and the same
-- again. Or it adds a part to the node of its kind round what was read, which begins where none is open.
pub data Turn : Type 0 where
  goes_on : List Wanted → Turn
  begins : ℕ → List Wanted → List Wanted → Turn
  joins : ℕ → ℕ → List Wanted → List Wanted → Turn
  adds : ℕ → List Wanted → Turn

-- what is wanted in place of what took the word
abbrev pub wanted_by : Turn → List Wanted
wanted_by (goes_on parts) = parts
wanted_by (begins pull parts behind) = parts ++ behind
wanted_by (joins left right parts behind) = parts ++ behind
wanted_by (adds pull parts) = parts

abbrev pub own : List Wanted → Option Turn
own parts = Some (goes_on parts)

-- an operand that has an end of its own, and one that goes on as far to the right as it can
abbrev pub operand : List Wanted → Option Turn
operand parts = Some (begins 0 parts (BehindOperand ∷ []))

abbrev pub far : List Wanted → Option Turn
far parts = Some (begins 0 parts [])

-- what begins, and behind it what is wanted besides
abbrev followed : List Wanted → Turn → Turn
followed more (goes_on parts) = goes_on (parts ++ more)
followed more (begins pull parts behind) = begins pull parts (behind ++ more)
followed more (joins left right parts behind) = joins left right parts (behind ++ more)
followed more (adds pull parts) = adds pull (parts ++ more)

abbrev pub then_wanted : Option Turn → List Wanted → Option Turn
then_wanted (Some turn) more = Some (followed more turn)
then_wanted None more = None
