-- What the evaluator keeps, in the words of the meaning.
use Rattle.std.specs.Prelude.{ℕ, List, [], map, drop, get_or, Option, option_map, Box}
use Rattle.std.specs.Borrow.{Bor}
use Rattle.std.specs.declared.alloc.Global.{Global}
use Rattle.vdm_kinds.specs.declared.place.Place.{Place}
use Rattle.abstract_syntax.specs.Types.{TypeTree, basic_type, named_type}
use Rattle.abstract_syntax.specs.Values.{ValueTree}
use Rattle.abstract_syntax.specs.Expressions.{ExprTree, ExprTrees, no_exprs, one_expr, PatternTree}
use Rattle.type_tree.specs.TypeView.{type_view}
use Rattle.type_tree.specs.declared.type_expr.TypeExpr.{TypeExpr}
use Rattle.expr_tree.specs.View.{boxed_view, maybe_view, expr_trees, views_of, maplet_view, maplet_trees, field_value_view, field_value_trees, pattern_view}
use Rattle.expr_tree.specs.declared.expr.Expr.{Expr}
use Rattle.expr_tree.specs.declared.pattern.Pattern.{Pattern}
use Rattle.vdm_tree.specs.ClassView.{function_view}
use Rattle.node_meaning.specs.Functions.{Applying as MeantApplying}
use Rattle.node_meaning.specs.Records.{field_exprs}
use Rattle.node_meaning.specs.Wanted.{Wanted as MeantWanted, a_value, no_value}
use Rattle.node_meaning.specs.ClassTests.{ClassTest as MeantClassTest, in_class, in_base_class, one_class, one_base_class}
use Rattle.node_meaning.specs.Choosing.{Chooser as MeantChooser, collects, for_each, for_some, for_one, the_one, takes_first, finds, Search as MeantSearch}
use Rattle.node_meaning.specs.Envs.{Locals, Nest as MeantNest, Held as MeantHeld, Here as MeantHere}
use Rattle.node_meaning.specs.Matching.{exprs_of}
use Rattle.node_meaning.specs.Strict.{Strict as MeantStrict, one_operand, two_operands, a_set, a_sequence, a_tuple, a_map, a_token, a_subsequence, a_component, maplet_exprs}
use Rattle.node_meaning.specs.Tasks.{Flow as MeantFlow, gave, next, returned, exited, Need as MeantNeed, reads, calls, creates, prints, tells_time}
use Rattle.eval_data.specs.declared.applying.Applying.{Applying}
use Rattle.eval_data.specs.declared.asked_type.AskedType.{AskedType}
use Rattle.eval_data.specs.declared.asked_type.AskedType.TheVariants.{Written, Named, Basic}
use Rattle.eval_data.specs.declared.chooser.Chooser.{Chooser}
use Rattle.eval_data.specs.declared.chooser.Chooser.TheVariants.{Collects, ForEach, ForSome, ForOne, TheOne, TakesFirst, Finds}
use Rattle.eval_data.specs.declared.chooser.Elements.{Elements}
use Rattle.eval_data.specs.declared.chooser.Elements.TheVariants.{One as OneElement, Two as TwoElements}
use Rattle.eval_data.specs.declared.class_test.ClassTest.{ClassTest}
use Rattle.eval_data.specs.declared.class_test.ClassTest.TheVariants.{InClass, InBaseClass, OneClass, OneBaseClass}
use Rattle.eval_data.specs.declared.flow.Flow.{Flow}
use Rattle.eval_data.specs.declared.flow.Flow.TheVariants.{Gave, Next, Returned, Exited}
use Rattle.eval_data.specs.declared.here.Held.{Held}
use Rattle.eval_data.specs.declared.here.Here.{Here}
use Rattle.eval_data.specs.declared.need.Need.{Need}
use Rattle.eval_data.specs.declared.need.Need.TheVariants.{Read, Call, New, Print, Time}
use Rattle.eval_data.specs.declared.nest.Nest.{Nest}
use Rattle.eval_data.specs.declared.parts.Parts.{Parts}
use Rattle.eval_data.specs.declared.parts.Parts.TheVariants.{None as NoParts, One, Two, Three, Items, Maplets, MapletValue, Changes, Brackets}
use Rattle.eval_data.specs.declared.search.Search.{Search}
use Rattle.eval_data.specs.declared.search.Source.{Source}
use Rattle.eval_data.specs.declared.strict.Strict.{Strict}
use Rattle.eval_data.specs.declared.strict.Strict.TheVariants.{OneOperand, TwoOperands, Set, Sequence, Tuple, Map, Token, Subsequence, Component}
use Rattle.eval_data.specs.declared.wanted.Wanted.{Wanted}
use Rattle.eval_data.specs.declared.wanted.Wanted.TheVariants.{Value, Nothing}

-- ---- where a node stands, and what comes of it

abbrev pub wanted_of : Wanted → MeantWanted
wanted_of Value = a_value
wanted_of Nothing = no_value

-- so far the counters of a predicate are not kept
abbrev pub held_of : Held → MeantHeld
held_of held = record { variables = held.variables.items; counters = [] }

abbrev pub nest_of : Nest → MeantNest
nest_of nest = record { depth = nest.depth; test = nest.test }

abbrev pub here_of : Here → MeantHere
here_of here = record {
  scope = here.scope;
  own = here.own;
  me = here.me;
  held = option_map (λ (h : Bor Held). held_of h.now) here.held;
  nest = nest_of here.nest;
}

abbrev pub flow_of : Flow → Locals → MeantFlow
flow_of (Gave slot) locals = gave slot locals
flow_of Next locals = next locals
flow_of (Returned slot) locals = returned slot locals
flow_of (Exited v from) locals = exited v from locals

abbrev pub need_of : Need → MeantNeed
need_of (Read object var) = reads object var
need_of (Call object class op args places) = calls object class op args places.items
need_of (New class args places) = creates class args places.items
need_of (Print text) = prints text
need_of Time = tells_time

-- ---- parts

abbrev pub strict_of : Strict → MeantStrict
strict_of (OneOperand operator) = one_operand operator
strict_of (TwoOperands operator) = two_operands operator
strict_of Set = a_set
strict_of Sequence = a_sequence
strict_of Tuple = a_tuple
strict_of Map = a_map
strict_of Token = a_token
strict_of Subsequence = a_subsequence
strict_of (Component number) = a_component number

abbrev pub class_test_of : ClassTest → MeantClassTest
class_test_of (InClass class) = in_class class
class_test_of (InBaseClass class) = in_base_class class
class_test_of OneClass = one_class
class_test_of OneBaseClass = one_base_class

-- the expressions that references lead to
abbrev pub boxed_list : List (Bor (Box Expr Global)) → List ExprTree
boxed_list = map (λ (e : Bor (Box Expr Global)). boxed_view e.now)

abbrev pub parts_of : Parts → ExprTrees
parts_of NoParts = no_exprs
parts_of (One a) = one_expr (boxed_view a.now) no_exprs
parts_of (Two a b) = one_expr (boxed_view a.now) (one_expr (boxed_view b.now) no_exprs)
parts_of (Three a b c) = one_expr (boxed_view a.now) (one_expr (boxed_view b.now) (one_expr (boxed_view c.now) no_exprs))
parts_of (Items items from) = expr_trees (drop from (views_of items.now.items))
parts_of (Maplets maplets) = maplet_exprs (maplet_trees (map maplet_view maplets.now))
parts_of (MapletValue held maplets) = one_expr (boxed_view held.now) (maplet_exprs (maplet_trees (map maplet_view maplets.now)))
parts_of (Changes changes) = field_exprs (field_value_trees (map field_value_view changes.now))
parts_of (Brackets found from) = exprs_of (drop from (boxed_list found.items))

-- ---- searches

abbrev pub elements_of : Elements → ExprTrees
elements_of (OneElement a) = one_expr (boxed_view a.now) no_exprs
elements_of (TwoElements a b) = one_expr (boxed_view a.now) (one_expr (boxed_view b.now) no_exprs)

abbrev pub chooser_of : Chooser → MeantChooser
chooser_of (Collects what elements condition) = collects (strict_of what) (elements_of elements) (maybe_view condition.now)
chooser_of (ForEach condition) = for_each (boxed_view condition.now)
chooser_of (ForSome condition) = for_some (boxed_view condition.now)
chooser_of (ForOne condition) = for_one (boxed_view condition.now)
chooser_of (TheOne condition) = the_one (boxed_view condition.now)
chooser_of (TakesFirst condition body) = takes_first (maybe_view condition.now) (boxed_view body.now)
chooser_of (Finds condition) = finds (maybe_view condition.now)

abbrev pub patterns_at : List (Bor Pattern) → List PatternTree
patterns_at = map (λ (p : Bor Pattern). pattern_view p.now)

abbrev pub search_of : Search → MeantSearch
search_of search = record {
  here = here_of search.here;
  place = search.place;
  count = search.count;
  patterns = patterns_at search.patterns.items;
  given = search.given;
  chooser = chooser_of search.chooser;
}

-- the first of the choices that are left
abbrev pub first_choice : Search → List ValueTree
first_choice search = get_or search.choices 0 []

-- where elements come from, from a number on
abbrev pub source_of : Source → ExprTree × ℕ
source_of source = (boxed_view source.set.now, source.count)

abbrev pub sources_from : List Source → ℕ → List (ExprTree × ℕ)
sources_from sources from = drop from (map source_of sources)

-- ---- functions and types

abbrev pub applying_of : Applying → MeantApplying
applying_of a = record {
  class = a.class;
  function = function_view a.function.now;
  place = a.place;
  nest = nest_of a.nest;
  outer = a.outer.items;
}

-- a type, where one is given
abbrev pub maybe_type : Option (Bor TypeExpr) → Option TypeTree
maybe_type = option_map (λ (t : Bor TypeExpr). type_view t.now)

-- a type for which a node at the place asks
abbrev pub asked_type : Place → AskedType → TypeTree
asked_type place (Written t) = type_view t.now
asked_type place (Named t) = named_type t place
asked_type place (Basic basic) = basic_type basic place
