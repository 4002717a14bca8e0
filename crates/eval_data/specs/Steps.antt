-- What frames and steps mean: the plan of each.
use Rattle.std.specs.Prelude.{ℕ, ◌+◌, List, [], ◌∷◌, map, drop, slice_get, Option, Some, None, Bool}
use Rattle.class_meaning.specs.Classes.{nowhere}
use Rattle.vdm_kinds.specs.declared.place.Place.{Place}
use Rattle.abstract_syntax.specs.Classes.{InvariantTree, SpecTree}
use Rattle.abstract_syntax.specs.Expressions.{ExprTree, ExprTrees, undefined, PatternTree, no_exprs, one_expr}
use Rattle.abstract_syntax.specs.Values.{ValueTree}
use Rattle.expr_tree.specs.View.{view_of, boxed_view, maybe_view, expr_trees, views_of, pattern_view, pattern_views, pattern_trees, branch_view, branch_trees, case_view, case_trees, defined_view, defined_trees, field_value_view, field_value_trees}
use Rattle.plans.specs.Plans.{finish, become, part, bind}
use Rattle.type_meaning.specs.Tests.{Fitting, Decision}
use Rattle.member_meaning.specs.TypeRanks.{finder, type_rank}
use Rattle.conform.specs.Fits.{says}
use Rattle.conform.specs.Testings.{met_behind, unmet_behind}
use Rattle.type_tree.specs.TypeView.{type_views}
use Rattle.expr_tree.specs.TypeDefView.{field_view, invariant_view}
use Rattle.vdm_tree.specs.ClassView.{function_view}
use Rattle.vdm_kinds.specs.declared.run_fault.RunFault.TheVariants.{NoMatch}
use Rattle.node_meaning.specs.Wanted.{Wanted, given}
use Rattle.node_meaning.specs.ClassTests.{class_told}
use Rattle.node_meaning.specs.Choosing.{by_truth, next_choice, choose, with_elements, sets_of, behind_sets, search_with}
use Rattle.node_meaning.specs.Envs.{Locals, Here as MeantHere, outside, at}
use Rattle.node_meaning.specs.Fitting.{descends, typed_maybe, fit_then, if_fits, as_answer, by_holding, arguments_typed}
use Rattle.node_meaning.specs.Functions.{applied, begun, bound, pre_decided, post_decided, post_of, result_given, value_given}
use Rattle.node_meaning.specs.Records.{field_names, fields_typed, record_changed, record_made, record_value}
use Rattle.node_meaning.specs.Expressions.{places_of, call_asked, called_through, called_of_class, creation_asked, looked_up_in, no_such_call, selected, selected_of_class, fit_value, right_truth, truth, branch, branches, within, no_match, defined, patterns_met, cases_met}
use Rattle.node_meaning.specs.Matching.{decided as condition, on_truth, met, meets}
use Rattle.node_meaning.specs.Needs.{Setting, asked}
use Rattle.node_meaning.specs.Strict.{one_operand, two_operands, with_others, make}
use Rattle.node_meaning.specs.Tasks.{expr_in, Flow as MeantFlow, Code, fault, placed, value, with_value, cut_to}
use Rattle.eval_data.specs.declared.asking.Asking.{Asking}
use Rattle.eval_data.specs.declared.asking.Verdict.{Verdict}
use Rattle.eval_data.specs.declared.asking.Verdict.TheVariants.{Passes, Answers}
use Rattle.eval_data.specs.declared.collecting.Collecting.{Collecting}
use Rattle.eval_data.specs.declared.collecting.Then.{Then}
use Rattle.eval_data.specs.declared.collecting.Then.TheVariants.{Make, Classes, Meets, Searches, NextChoice, Applies, Binds, Record, Changes, Calls, NoSuchCall, Creates, Invariant as MeetsInvariant}
use Rattle.eval_data.specs.declared.fitting.Filling.{Filling}
use Rattle.eval_data.specs.declared.fitting.Passing.{Passing}
use Rattle.eval_data.specs.declared.frame.After.{After as AfterNeed}
use Rattle.eval_data.specs.declared.frame.After.TheVariants.{Value as ValueOf, Given, LooksUp}
use Rattle.eval_data.specs.declared.frame.Frame.{Frame}
use Rattle.eval_data.specs.declared.frame.Frame.TheVariants.{With, After, Cut}
use Rattle.eval_data.specs.declared.frame.Level.{Level}
use Rattle.eval_data.specs.declared.frame.TruthUse.{TruthUse}
use Rattle.eval_data.specs.declared.frame.TruthUse.TheVariants.{Branch, Left, Right, Choice, Pre, Post, Invariant}
use Rattle.eval_data.specs.declared.frame.Use.{Use}
use Rattle.eval_data.specs.declared.frame.Use.TheVariants.{Operand, RightOperand, Operator, Collect, Truth, CallThrough, Select, Asked, Defined, Result, ClassValue, Subject, Elements, ArgumentFits, ResultFits, DefinitionFits, FieldFits}
use Rattle.eval_data.specs.declared.matching.Met.{Met}
use Rattle.eval_data.specs.declared.matching.Met.TheVariants.{Definition, Case}
use Rattle.eval_data.specs.declared.matching.MetCase.{MetCase}
use Rattle.eval_data.specs.declared.search.Search.{Search}
use Rattle.eval_data.specs.declared.search.Sets.{Sets}
use Rattle.eval_data.specs.declared.selected.Selected.{Selected}
use Rattle.eval_data.specs.declared.selected.Selected.TheVariants.{Member, OfClass}
use Rattle.eval_data.specs.declared.step.Step.{Step}
use Rattle.eval_data.specs.declared.step.Step.TheVariants.{Finish, Fail, Part, Become, Test, Need}
use Rattle.eval_data.specs.Parts.{wanted_of, nest_of, here_of, flow_of, need_of, strict_of, class_test_of, parts_of, chooser_of, patterns_at, search_of, first_choice, sources_from, applying_of, maybe_type, asked_type}

-- ---- patterns

-- the pattern that meets a value
abbrev pub met_pattern : Met → PatternTree
met_pattern (Definition here d) = pattern_view d.pattern.now.value
met_pattern (Case here c) = pattern_view c.pattern.now

abbrev pub met_here : Met → MeantHere
met_here (Definition here d) = here_of here
met_here (Case here c) = here_of here

-- what is done where it matches: further definitions, or the expression of the alternative
abbrev pub matched : SpecTree → Met → Place → Locals → Code
matched spec (Definition here d) place = defined spec (here_of here) place d.count (defined_trees (map defined_view d.more.now)) (boxed_view d.body.now)
matched spec (Case here c) place = within (here_of here) c.count (boxed_view c.body.now)

-- the alternatives behind a pattern's, with the value that none of their patterns has met
abbrev pub cases_behind : SpecTree → MeantHere → MetCase → Place → ValueTree → Locals → Code
cases_behind spec here c place v = cases_met spec here place (case_trees (map case_view c.more.now)) (maybe_view c.others.now) c.count v

-- what is done where it does not: the further patterns, or a fault
abbrev pub missed : SpecTree → Met → Place → ValueTree → Locals → Code
missed spec (Definition here d) place v = no_match place
missed spec (Case here c) place v =
    patterns_met spec (here_of here) place v (pattern_trees (pattern_views c.patterns.now)) c.count (boxed_view c.body.now)
    (cases_behind spec (here_of here) c place v)

-- behind the values of the expressions in brackets
abbrev pub met_with : SpecTree → Met → Place → ValueTree → List ValueTree → Locals → Code
met_with spec m place v =
    met spec (met_here m).scope place (met_pattern m ∷ []) (v ∷ []) (matched spec m place) (missed spec m place v)

-- ... and before them
abbrev pub meets_with : SpecTree → Met → Place → ValueTree → Locals → Code
meets_with spec m place v = meets spec (met_here m) place (met_pattern m) (matched spec m place) (missed spec m place v) v

-- ---- searches

-- the search among the choices that are left behind the first so many
abbrev pub choose_behind : SpecTree → Search → ℕ → List ValueTree → Locals → Code
choose_behind spec search n = choose spec (search_of search) (drop n search.choices)

-- the sets behind the one that is being evaluated, and then the search
abbrev pub sets_behind : SpecTree → Sets → List (List ValueTree) → Locals → Code
sets_behind spec sets lists locals =
    sets_of (here_of sets.here) sets.place (sources_from sets.sources.items (sets.at + 1)) lists
    (behind_sets spec (here_of sets.here) sets.place (patterns_at sets.patterns.items) (chooser_of sets.chooser)) locals

-- a source that is not there has no elements
abbrev pub source_in : Option (ExprTree × ℕ) → ExprTree × ℕ
source_in None = (undefined nowhere, 0)
source_in (Some source) = source

-- the source of the set that is being evaluated; there is one
abbrev pub source_at : Sets → ExprTree × ℕ
source_at sets = source_in (slice_get (sources_from sets.sources.items 0) sets.at)

-- ---- tests of values

-- what is done once it is decided how the value fits
abbrev pub verdict_of : Verdict → Place → Locals → Fitting → Code
verdict_of (Passes v) place outer = if_fits place v outer
verdict_of Answers place outer = as_answer outer

-- what is done where it is decided whether all that has to hold does, or goes on to be asked
abbrev pub judged : SpecTree → Asking → Decision Bool → Code
judged spec a decision = fit_then spec (nest_of a.nest) a.place (verdict_of a.verdict a.place a.outer.items) (says decision)

-- the test behind the invariant that is being evaluated, where that holds or does not
abbrev pub told : SpecTree → Asking → Bool → Locals → Code
told spec a =
    by_holding (judged spec a (met_behind (finder spec) (descends spec) (type_rank spec) a.testing.waiting.items))
    (judged spec a (unmet_behind (finder spec) (descends spec) (type_rank spec) a.testing.waiting.items))

-- an invariant whose pattern meets a value, behind the values of the expressions in brackets in it
abbrev pub invariant_met : SpecTree → Asking → InvariantTree → MeantHere → Place → ValueTree → List ValueTree → Locals → Code
invariant_met spec a invariant here place v =
    met spec here.scope place (invariant.pattern ∷ []) (v ∷ [])
    (λ inner. condition here inner invariant.condition place (told spec a)) (λ inner. fault NoMatch place)

-- the arguments that are left are tested, and then the function begins
abbrev pub arguments_left : SpecTree → Passing → Locals → Code
arguments_left spec p =
    arguments_typed spec (nest_of p.nest) (Some p.op.class) (type_views p.types.now) (expr_trees (drop p.tested (views_of p.arguments.now.items))) (drop p.tested p.values)
    (begun spec p.op.class (function_view p.function.now) p.place (nest_of p.nest) p.values)

-- the values of the fields that are left are tested, and then the record is made
abbrev pub fields_left : SpecTree → Filling → Place → Locals → Code
fields_left spec f place =
    fields_typed spec (nest_of f.nest) f.class place (map field_view f.fields.now) (drop f.tested f.values.items)
    (record_value f.class f.name place f.values.items)

-- ---- what is done with values

abbrev pub then_of : Setting → Then → MeantHere → Place → List ValueTree → Locals → Code
then_of setting (Make what) here place = make (strict_of what) place
then_of setting (Classes test) here place = class_told setting.spec (class_test_of test)
then_of setting (Meets v m) here place = met_with setting.spec m place v
then_of setting (Searches lists patterns chooser) here place =
    search_with setting.spec here place (patterns_at patterns.items) (chooser_of chooser) lists.items
then_of setting (NextChoice search) here place = next_choice (search_of search.value) (choose_behind setting.spec search.value 0)
then_of setting (Applies ref arguments) here place = applied setting.spec ref place here.nest (expr_trees (views_of arguments.now.items))
then_of setting (Binds a vs) here place = bound setting.spec (applying_of a.value) vs
then_of setting (Record t) here place = record_made setting.spec here.nest here.scope t place
then_of setting (Changes changes) here place =
    record_changed setting.spec here.nest (field_names (field_value_trees (map field_value_view changes.now))) place
then_of setting (Calls number own op arguments wanted) here place =
    call_asked setting number own op (places_of (expr_trees (views_of arguments.now.items))) place (wanted_of wanted)
then_of setting NoSuchCall here place = no_such_call place
then_of setting (Creates class arguments) here place = creation_asked setting class (places_of (expr_trees (views_of arguments.now.items))) place
then_of setting (MeetsInvariant a invariant v) here place = invariant_met setting.spec a.value (invariant_view invariant.now) here place v

-- a value behind those that came
abbrev pub collect : Setting → Collecting → ValueTree → Locals → Code
collect setting c = with_others (here_of c.here) c.place (parts_of c.rest) c.done.items (then_of setting c.then (here_of c.here) c.place)

-- ---- what is selected

abbrev pub called_selected : Setting → MeantHere → Selected → ExprTrees → Place → Place → Wanted → ValueTree → Locals → Code
called_selected setting here (Member name) arguments dot place wanted = called_through setting here name arguments dot place wanted
called_selected setting here (OfClass class name) arguments dot place wanted = called_of_class setting here class name arguments dot place wanted

abbrev pub read_selected : Setting → Place → Selected → ValueTree → Locals → Code
read_selected setting place (Member name) = selected setting place name
read_selected setting place (OfClass class name) = selected_of_class setting place class name

-- ---- what is done with a value

abbrev pub truth_use : SpecTree → TruthUse → Place → Bool → Locals → Code
truth_use spec (Branch here tree more otherwise) place =
    branch (here_of here) (boxed_view tree.now) (branches (here_of here) place (branch_trees (map branch_view more.now)) (boxed_view otherwise.now))
truth_use spec (Left here sign right) place = right_truth (here_of here) sign (boxed_view right.now) place
truth_use spec Right place = truth
truth_use spec (Choice search) place =
    by_truth (search_of search.value) (first_choice search.value) search.value.done.items (choose_behind spec search.value 1)
truth_use spec (Pre a) place = pre_decided spec (applying_of a.value)
truth_use spec (Post a v) place = post_decided (applying_of a.value) v
truth_use spec (Invariant a) place = told spec a.value

abbrev pub use_of : Setting → Use → Place → ValueTree → Locals → Code
use_of setting (Operand operator) place = with_others outside place no_exprs [] (make (one_operand operator) place)
use_of setting (RightOperand here right operator) place =
    with_others (here_of here) place (one_expr (boxed_view right.now) no_exprs) [] (make (two_operands operator) place)
use_of setting (Operator operator left) place = with_others outside place no_exprs (left ∷ []) (make (two_operands operator) place)
use_of setting (Collect c) place = collect setting c.value
use_of setting (Truth truth_for) place = on_truth place (truth_use setting.spec truth_for place)
use_of setting (CallThrough here what arguments dot wanted) place =
    called_selected setting (here_of here) what (expr_trees (views_of arguments.now.items)) dot place (wanted_of wanted)
use_of setting (Select what) place = read_selected setting place what
use_of setting (Asked nest scope t) place = fit_value setting.spec (nest_of nest) scope (asked_type place t) place
use_of setting (Defined here declared d) place =
    typed_maybe setting.spec (here_of here).nest (here_of here).scope (maybe_type declared) place (meets_with setting.spec (Definition here d) place)
use_of setting (Result a) place = result_given setting.spec (applying_of a.value)
use_of setting (ClassValue n) place = value_given setting.spec n.value.class (maybe_type n.value.declared) place (nest_of n.value.nest) n.value.outer.items
use_of setting (Subject here cases others count) place =
    cases_met setting.spec (here_of here) place (case_trees (map case_view cases.now)) (maybe_view others.now) count
use_of setting (Elements sets) place =
    with_elements (source_at sets.value).0 (source_at sets.value).1 sets.value.lists.items (sets_behind setting.spec sets.value)
use_of setting (ArgumentFits p) place = λ v. arguments_left setting.spec p.value
use_of setting (ResultFits a) place = post_of (applying_of a.value) (applying_of a.value).function.post
use_of setting (DefinitionFits here d) place = meets_with setting.spec (Definition here d) place
use_of setting (FieldFits f) place = λ v. fields_left setting.spec f.value place

-- ---- frames and steps

abbrev pub after_need : AfterNeed → Place → MeantFlow → Code
after_need ValueOf place = with_value place value
after_need (Given wanted) place = given (wanted_of wanted) place
after_need (LooksUp here arguments applied) place = with_value place (looked_up_in (here_of here) (expr_trees (views_of arguments.now.items)) applied)

abbrev pub frame_then : Setting → Frame → MeantFlow → Code
frame_then setting (With used place) = with_value place (use_of setting used place)
frame_then setting (After after place) = after_need after place
frame_then setting (Cut count) = cut_to count

-- ... with its faults where they stand
abbrev pub level_then : Setting → Level → MeantFlow → Code
level_then setting level flow = placed (nest_of level.nest) (frame_then setting level.frame flow)

abbrev pub code_of : Setting → Locals → Step → Code
code_of setting locals (Finish flow) = finish (flow_of flow locals)
code_of setting locals (Fail kind place) = fault kind place
code_of setting locals (Part here tree frame) = part (expr_in (at (here_of here) locals) (view_of tree.now)) (frame_then setting frame)
code_of setting locals (Test test) =
    bind (part (expr_in (at (here_of test.value.here) locals) (view_of test.value.tree.now)) (frame_then setting test.value.inner))
    (frame_then setting test.value.outer)
code_of setting locals (Become here tree) = become (expr_in (at (here_of here) locals) (view_of tree.now))
code_of setting locals (Need need place after) = asked setting (need_of need) place locals (after_need after place)

-- whether a step is done at once or has one part: it begins no test of a value and no node in another's stead, and needs nothing
abbrev pub IsLight : Step → Type 0
IsLight (Finish flow) = Unit {0}
IsLight (Fail kind place) = Unit {0}
IsLight (Part here tree frame) = Unit {0}
IsLight (Test test) = ⊥
IsLight (Become here tree) = ⊥
IsLight (Need need place after) = ⊥
