-- Nodes that go through the choices of elements of sets: comprehensions, quantifiers, `iota`, `let be`.
use Rattle.std.specs.Prelude.{ℕ, Bool, true, false, nat_eq, List, [], ◌∷◌, ◌++◌, length, take, replicate}
use Rattle.std.specs.List.{flat_map}
use Rattle.vdm_kinds.specs.declared.place.Place.{Place}
use Rattle.vdm_kinds.specs.declared.run_fault.RunFault.TheVariants.{NoMatch, NotSet, NotUnique}
use Rattle.abstract_syntax.specs.Classes.{SpecTree}
use Rattle.abstract_syntax.specs.Expressions.{ExprTree, ExprTrees, MaybeExpr, left_out, given_expr, bind_in, BindTrees, no_binds, one_bind, PatternTree, expr_place}
use Rattle.abstract_syntax.specs.Values.{ValueTree, boolean, set_of, value_list}
use Rattle.bind_choices.specs.Choices.{choices_of}
use Rattle.plans.specs.Plans.{finish, part}
use Rattle.pattern_meaning.specs.Brackets.{given_in}
use Rattle.pattern_meaning.specs.Ways.{count_of_patterns}
use Rattle.node_meaning.specs.Envs.{Locals, Here, at}
use Rattle.node_meaning.specs.Matching.{bound_or, first_match, decided, exprs_of, pattern_list}
use Rattle.node_meaning.specs.Strict.{Strict, collected, make}
use Rattle.node_meaning.specs.Tasks.{expr_in, next, Code, fault, value, evaluated, cut_to}

-- ---- what is done with the choices

pub data Chooser : Type 0 where
  -- a comprehension: what is made of the values of these expressions for each choice that fulfils the condition
  collects : Strict → ExprTrees → MaybeExpr → Chooser
  -- `forall`, `exists`, `exists1`, `iota`, with the condition
  for_each : ExprTree → Chooser
  for_some : ExprTree → Chooser
  for_one : ExprTree → Chooser
  the_one : ExprTree → Chooser
  -- `let be`: the condition, and the expression for the first choice that fulfils it
  takes_first : MaybeExpr → ExprTree → Chooser
  -- `let be` of a statement: the condition; the names of the first choice that fulfils it stay bound
  finds : MaybeExpr → Chooser

-- a search among choices: where it stands, how many locals stand before those that a choice binds, the patterns with the values of the
-- expressions in brackets in them, and what is done
pub record Search : Type 0 where
  pub here : Here
  pub place : Place
  pub count : ℕ
  pub patterns : List PatternTree
  pub given : List ValueTree
  pub chooser : Chooser

-- the condition that a choice has to fulfil
abbrev pub condition_of : Chooser → MaybeExpr
condition_of (collects what trees condition) = condition
condition_of (for_each condition) = given_expr condition
condition_of (for_some condition) = given_expr condition
condition_of (for_one condition) = given_expr condition
condition_of (the_one condition) = given_expr condition
condition_of (takes_first condition body) = condition
condition_of (finds condition) = condition

-- ---- one choice

-- what is done with the further choices, without the locals of this one
abbrev pub next_choice : Search → (List ValueTree → Locals → Code) → List ValueTree → Locals → Code
next_choice search further done locals = further done (take search.count locals)

-- a choice that fulfils the condition: `done` has what was collected before
abbrev pub fulfilled : Search → Chooser → List ValueTree → List ValueTree → (List ValueTree → Locals → Code) → Locals → Code
fulfilled search (collects what trees condition) vs done further locals =
    collected search.here search.place trees done (next_choice search further) locals
fulfilled search (for_each condition) vs done further locals = next_choice search further done locals
fulfilled search (for_some condition) vs done further locals = value (boolean true) (take search.count locals)
fulfilled search (for_one condition) vs done further locals = next_choice search further (done ++ boolean true ∷ []) locals
fulfilled search (the_one condition) vs done further locals = next_choice search further (done ++ vs) locals
fulfilled search (takes_first condition body) vs done further locals = part (expr_in (at search.here locals) body) (cut_to search.count)
fulfilled search (finds condition) vs done further locals = finish (next locals)

-- one that does not
abbrev pub unfulfilled : Search → Chooser → List ValueTree → (List ValueTree → Locals → Code) → Locals → Code
unfulfilled search (for_each condition) done further locals = value (boolean false) (take search.count locals)
unfulfilled search _ done further locals = next_choice search further done locals

abbrev pub by_truth : Search → List ValueTree → List ValueTree → (List ValueTree → Locals → Code) → Bool → Locals → Code
by_truth search vs done further true locals = fulfilled search search.chooser vs done further locals
by_truth search vs done further false locals = unfulfilled search search.chooser done further locals

-- the condition, where there is one
abbrev pub tried : Search → MaybeExpr → List ValueTree → List ValueTree → (List ValueTree → Locals → Code) → Locals → Code
tried search left_out vs done further locals = by_truth search vs done further true locals
tried search (given_expr condition) vs done further locals = decided search.here locals condition search.place (by_truth search vs done further)

-- ---- all choices

-- exactly one was collected
abbrev pub the_only : Place → List ValueTree → Locals → Code
the_only place (v ∷ []) locals = value v locals
the_only place done locals = fault NotUnique place

-- no choice is left
abbrev pub exhausted : Chooser → Place → List ValueTree → Locals → Code
exhausted (collects what trees condition) place done locals = make what place done locals
exhausted (for_each condition) place done locals = value (boolean true) locals
exhausted (for_some condition) place done locals = value (boolean false) locals
exhausted (for_one condition) place done locals = value (boolean (nat_eq (length done) 1)) locals
exhausted (the_one condition) place done locals = the_only place done locals
exhausted (takes_first condition body) place done locals = fault NoMatch place
exhausted (finds condition) place done locals = fault NoMatch place

-- the choices in order; one that the patterns do not match is passed over
abbrev pub choose : SpecTree → Search → List (List ValueTree) → List ValueTree → Locals → Code
choose spec search [] done locals = exhausted search.chooser search.place done locals
choose spec search (vs ∷ choices) done locals =
    bound_or search.place (first_match spec search.here.scope search.patterns search.given vs)
    (tried search (condition_of search.chooser) vs done (choose spec search choices))
    (choose spec search choices done) locals

-- ---- binds

-- the patterns of all binds, in text order
abbrev pub bound_patterns : BindTrees → List PatternTree
bound_patterns no_binds = []
bound_patterns (one_bind (bind_in patterns set) binds) = pattern_list patterns ++ bound_patterns binds

-- the elements of a value that has to be a set, once for each pattern; what is no set is a fault at its expression
abbrev pub with_elements : ExprTree → ℕ → List (List ValueTree) → (List (List ValueTree) → Locals → Code) → ValueTree → Locals → Code
with_elements tree count lists further (set_of vs) locals = further (lists ++ replicate count (value_list vs)) locals
with_elements tree count lists further v locals = fault NotSet (expr_place tree)

-- where the elements come from: the expression of each bind, and how many patterns it has
abbrev pub bind_sources : BindTrees → List (ExprTree × ℕ)
bind_sources no_binds = []
bind_sources (one_bind (bind_in patterns set) binds) = (set, count_of_patterns patterns) ∷ bind_sources binds

-- the sets, from left to right, outside of all patterns
abbrev pub sets_of : Here → Place → List (ExprTree × ℕ) → List (List ValueTree) → (List (List ValueTree) → Locals → Code) → Locals → Code
sets_of here place [] lists further locals = further lists locals
sets_of here place (source ∷ sources) lists further locals =
    evaluated here locals source.0 place
    (with_elements source.0 source.1 lists (λ more after. sets_of here place sources more further after))

-- behind the sets the expressions in brackets, and then the choices
abbrev pub search_with : SpecTree → Here → Place → List PatternTree → Chooser → List (List ValueTree) → List ValueTree → Locals → Code
search_with spec here place patterns chooser lists given locals =
    choose spec (record { here = here; place = place; count = length locals; patterns = patterns; given = given; chooser = chooser })
    (choices_of lists) [] locals

abbrev pub behind_sets : SpecTree → Here → Place → List PatternTree → Chooser → List (List ValueTree) → Locals → Code
behind_sets spec here place patterns chooser lists locals =
    collected here place (exprs_of (flat_map given_in patterns)) [] (search_with spec here place patterns chooser lists) locals

-- a node that goes through the choices of its binds
abbrev pub choosing : SpecTree → Here → Place → BindTrees → Chooser → Locals → Code
choosing spec here place binds chooser locals =
    sets_of here place (bind_sources binds) [] (behind_sets spec here place (bound_patterns binds) chooser) locals
