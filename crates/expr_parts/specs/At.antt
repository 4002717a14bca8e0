-- What goes on at one word alone, and behind the last bind of a comprehension.
use Rattle.std.specs.Prelude.{List, ◌∷◌}
use Rattle.vdm_kinds.specs.declared.place.Place.{Place}
use Rattle.abstract_syntax.specs.Expressions.{left_out}
use Rattle.grammar_trees.specs.Frames.{Conditioned, Frame, State, wants, condition}
use Rattle.grammar_trees.specs.Machine.{Stop, comma, close_round, close_square, close_curly, maps_to, ampersand, then_stop, in_stop, else_stop, end_stop, at_comma, at_round, at_square, at_curly, at_maps_to, at_then, at_in, at_end, end_condition, in_mode, no_tree}

abbrev pub at_ampersand : Stop → State → State
at_ampersand ampersand s = s
at_ampersand _ s = no_tree

abbrev pub at_else : Stop → State → State
at_else else_stop s = s
at_else _ s = no_tree

-- the state, where the word that stands there is the one that is wanted
abbrev pub at : Stop → Stop → State → State
at comma stop s = at_comma stop s
at close_round stop s = at_round stop s
at close_square stop s = at_square stop s
at close_curly stop s = at_curly stop s
at maps_to stop s = at_maps_to stop s
at ampersand stop s = at_ampersand stop s
at then_stop stop s = at_then stop s
at in_stop stop s = at_in stop s
at else_stop stop s = at_else stop s
at end_stop stop s = at_end stop s
at _ stop s = no_tree

-- behind the last bind of a comprehension: a condition, or the end
abbrev pub behind_last : Conditioned → Place → Stop → List Frame → State
behind_last such place ampersand fs = in_mode wants (condition such place ∷ fs)
behind_last such place stop fs = end_condition such left_out place stop fs
