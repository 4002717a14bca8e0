-- What an expression becomes where the frames end that pull more at it than what stands behind it.
use Rattle.std.specs.Prelude.{ℕ, Bool, true, false, if◌then◌else◌, nat_lt, List, [], ◌∷◌}
use Rattle.abstract_syntax.specs.Expressions.{ExprTree, PatternTree}
use Rattle.grammar_trees.specs.Frames.{Frame, State, Built, nothing, an_expr, a_pattern}
use Rattle.grammar_trees.specs.Machine.{pull, completed, end_in}

-- an expression, and what is open round it
pub record Closed : Type 0 where
  pub tree : ExprTree
  pub frames : List Frame

abbrev pub closed : ExprTree → List Frame → Closed
closed tree frames = record { tree = tree; frames = frames }

-- whether the innermost frame pulls more than what stands behind
abbrev pub pulls_more : ℕ → List Frame → Bool
pulls_more behind [] = false
pulls_more behind (f ∷ fs) = nat_lt behind (pull f)

abbrev pub settled : ℕ → ExprTree → List Frame → Closed
settled behind e [] = closed e []
settled behind e (f ∷ fs) = if nat_lt behind (pull f) then settled behind (completed f e) fs else closed e (f ∷ fs)

-- the expression, where nothing is open round it
abbrev pub alone : ExprTree → List Frame → Built
alone e [] = an_expr e
alone e (f ∷ fs) = nothing

abbrev pub alone_pattern : PatternTree → List Frame → Built
alone_pattern p [] = a_pattern p
alone_pattern p (f ∷ fs) = nothing

-- what was built, where the tokens end
abbrev pub ended : State → Built
ended s = end_in s.mode s.frames
