-- Applications of functions, behind the test of the arguments.
use Rattle.std.specs.Prelude.{List, []}
use Rattle.std.specs.List.{flat_map}
use Rattle.abstract_syntax.specs.Classes.{SpecTree}
use Rattle.abstract_syntax.specs.Values.{ValueTree}
use Rattle.pattern_meaning.specs.Brackets.{given_in}
use Rattle.node_meaning.specs.Envs.{Locals}
use Rattle.node_meaning.specs.Functions.{Applying, body_here, bound}
use Rattle.node_meaning.specs.Matching.{exprs_of}
use Rattle.node_meaning.specs.Strict.{collected}
use Rattle.node_meaning.specs.Tasks.{Code}

-- the parameters meet the arguments, among locals
abbrev pub binds_among : SpecTree → Applying → List ValueTree → Locals → Code
binds_among spec a vs locals =
    collected (body_here a) a.place (exprs_of (flat_map given_in a.function.patterns)) [] (bound spec a vs) locals
