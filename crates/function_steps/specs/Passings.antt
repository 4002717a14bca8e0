-- How far the tests of arguments came.
use Rattle.node_meaning.specs.Envs.{Locals}
use Rattle.node_meaning.specs.Needs.{Setting}
use Rattle.node_meaning.specs.Tasks.{Code}
use Rattle.eval_data.specs.Steps.{arguments_left, code_of}
use Rattle.function_steps.specs.declared.arguments.Passed.{Passed}
use Rattle.function_steps.specs.declared.arguments.Passed.TheVariants.{Fits, Stops}

abbrev pub passed_code : Setting → Locals → Passed → Code
passed_code setting locals (Fits passing) = arguments_left setting.spec passing locals
passed_code setting locals (Stops step) = code_of setting locals step
