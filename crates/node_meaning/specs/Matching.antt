-- Patterns that meet values: the expressions in brackets in them are evaluated first, and what is bound stands behind the locals.
use Rattle.std.specs.Prelude.{Bool, if◌then◌else◌, List, [], ◌∷◌, ◌++◌, Option, Some, None}
use Rattle.std.specs.List.{list_all}
use Rattle.vdm_kinds.specs.declared.name.Name.{Name}
use Rattle.vdm_kinds.specs.declared.place.Place.{Place}
use Rattle.vdm_kinds.specs.declared.run_fault.RunFault.TheVariants.{SizeLimit, TypeFault}
use Rattle.abstract_syntax.specs.Classes.{SpecTree}
use Rattle.abstract_syntax.specs.Expressions.{ExprTree, ExprTrees, no_exprs, one_expr, PatternTree, PatternTrees, no_patterns, one_pattern}
use Rattle.abstract_syntax.specs.Values.{ValueTree, boolean}
use Rattle.pattern_meaning.specs.Bindings.{Binding}
use Rattle.pattern_meaning.specs.Brackets.{given_in}
use Rattle.pattern_meaning.specs.Lists.{binding_of_list}
use Rattle.pattern_meaning.specs.RecordTypes.{stands_for}
use Rattle.value_operators.specs.Outcomes.{is_within_limits}
use Rattle.member_meaning.specs.TypeRanks.{finder, type_rank}
use Rattle.node_meaning.specs.Envs.{Locals, Here, bound_locals, type_scope}
use Rattle.node_meaning.specs.Strict.{collected}
use Rattle.node_meaning.specs.Tasks.{Code, fault, evaluated}

-- ---- conditions

-- what is done with a truth value; any other value is a fault at the node that has the condition
abbrev pub on_truth : Place → (Bool → Locals → Code) → ValueTree → Locals → Code
on_truth place further (boolean b) locals = further b locals
on_truth place further v locals = fault TypeFault place

-- a condition, and what is done with it
abbrev pub decided : Here → Locals → ExprTree → Place → (Bool → Locals → Code) → Code
decided here locals condition place further = evaluated here locals condition place (on_truth place further)

-- ---- patterns

abbrev pub exprs_of : List ExprTree → ExprTrees
exprs_of [] = no_exprs
exprs_of (tree ∷ trees) = one_expr tree (exprs_of trees)

abbrev pub pattern_list : PatternTrees → List PatternTree
pattern_list no_patterns = []
pattern_list (one_pattern pattern patterns) = pattern ∷ pattern_list patterns

-- the first binding of patterns with values, where a name of a type means what it means in the class of the node
abbrev pub first_match : SpecTree → Option Name → List PatternTree → List ValueTree → List ValueTree → Option Binding
first_match spec scope patterns given vs = binding_of_list (stands_for (finder spec) (type_rank spec) (type_scope scope)) patterns given vs

abbrev pub are_within_limits : Binding → Bool
are_within_limits binding = list_all (λ (p : Name × ValueTree). is_within_limits p.1) binding

-- what is done where the patterns match, with the locals that they bind, and where they do not; a value past the limits of size is a
-- fault at the node
abbrev pub bound_or : Place → Option Binding → (Locals → Code) → (Locals → Code) → Locals → Code
bound_or place None matched missed locals = missed locals
bound_or place (Some binding) matched missed locals =
    if are_within_limits binding then matched (locals ++ bound_locals binding) else fault SizeLimit place

-- patterns with values, and the values of the expressions in brackets
abbrev pub met : SpecTree → Option Name → Place → List PatternTree → List ValueTree → (Locals → Code) → (Locals → Code) → List ValueTree → Locals → Code
met spec scope place patterns vs matched missed given locals = bound_or place (first_match spec scope patterns given vs) matched missed locals

-- one pattern and one value: the brackets, and then the match
abbrev pub meets : SpecTree → Here → Place → PatternTree → (Locals → Code) → (Locals → Code) → ValueTree → Locals → Code
meets spec here place pattern matched missed v locals =
    collected here place (exprs_of (given_in pattern)) [] (met spec here.scope place (pattern ∷ []) (v ∷ []) matched missed) locals
