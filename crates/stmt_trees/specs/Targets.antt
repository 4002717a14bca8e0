-- What an assignment writes to is written as the expression that reads it: a variable, and the steps into it as postfixes.
use Rattle.std.specs.Prelude.{List, [], ◌∷◌}
use Rattle.abstract_syntax.specs.Expressions.{ExprTree, named, qualified, select, apply, one_expr, no_exprs}
use Rattle.abstract_syntax.specs.Statements.{TargetStepTree, TargetTree, field_of, element_at, variable, variable_of_class}
use Rattle.grammar_words.specs.Pulls.{far_pull}
use Rattle.grammar_trees.specs.Binding.{Binds}

abbrev pub stepped : ExprTree → List TargetStepTree → ExprTree
stepped read [] = read
stepped read (field_of name name_place place ∷ steps) = stepped (select read name name_place place) steps
stepped read (element_at index place ∷ steps) = stepped (apply read (one_expr index no_exprs) place) steps

abbrev pub target_read : TargetTree → ExprTree
target_read (variable name steps place) = stepped (named name place) steps
target_read (variable_of_class class name name_place steps place) = stepped (qualified class name name_place place) steps

abbrev AreSteps : List TargetStepTree → Type 0
AreSteps [] = Unit {0}
AreSteps (field_of name name_place place ∷ steps) = AreSteps steps
AreSteps (element_at index place ∷ steps) = Binds index far_pull × AreSteps steps

abbrev pub IsTarget : TargetTree → Type 0
IsTarget (variable name steps place) = AreSteps steps
IsTarget (variable_of_class class name name_place steps place) = AreSteps steps
