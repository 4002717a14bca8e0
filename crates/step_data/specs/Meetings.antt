-- What is done where patterns of statements meet values.
use Rattle.std.specs.Prelude.{List, [], ◌∷◌, map, drop, reverse}
use Rattle.vdm_kinds.specs.declared.place.Place.{Place}
use Rattle.abstract_syntax.specs.Classes.{SpecTree}
use Rattle.abstract_syntax.specs.Expressions.{PatternTree}
use Rattle.abstract_syntax.specs.Statements.{StmtCases}
use Rattle.abstract_syntax.specs.Values.{ValueTree}
use Rattle.expr_tree.specs.View.{pattern_view, pattern_views, pattern_trees, defined_view, defined_trees}
use Rattle.vdm_tree.specs.StmtView.{boxed_stmt, maybe_stmt, stmt_case_view, stmt_case_trees}
use Rattle.vdm_tree.specs.declared.stmt.StmtCase.{StmtCase}
use Rattle.node_meaning.specs.Envs.{Here as MeantHere, Locals}
use Rattle.node_meaning.specs.Expressions.{definitions, no_match}
use Rattle.node_meaning.specs.Fitting.{typed_maybe}
use Rattle.node_meaning.specs.Matching.{exprs_of, met, meets}
use Rattle.node_meaning.specs.Strict.{with_others}
use Rattle.node_meaning.specs.Tasks.{Flow as MeantFlow, Code, with_value}
use Rattle.stmt_meaning.specs.Blocks.{one_met, alternatives}
use Rattle.stmt_meaning.specs.Flows.{stmt_within, unless_ended_cut}
use Rattle.stmt_meaning.specs.Handlers.{exit_on, handling, handled_by}
use Rattle.stmt_meaning.specs.Loops.{element_round, each_element}
use Rattle.eval_data.specs.Parts.{boxed_list, here_of, maybe_type}
use Rattle.step_data.specs.declared.meeting.Defining.{Defining}
use Rattle.step_data.specs.declared.meeting.Elements.{Elements}
use Rattle.step_data.specs.declared.meeting.Follow.{Follow}
use Rattle.step_data.specs.declared.meeting.Follow.TheVariants.{Definition, Case, Element, Trap, Tixe}
use Rattle.step_data.specs.declared.meeting.Given.{Given}
use Rattle.step_data.specs.declared.meeting.Meeting.{Meeting}
use Rattle.step_data.specs.Parts.{handlers_of}

-- the alternatives that are left
abbrev pub cases_left : List StmtCase → StmtCases
cases_left cases = stmt_case_trees (map stmt_case_view cases)

-- what is done where the pattern matches
abbrev pub matched : SpecTree → MeantHere → Place → PatternTree → Follow → Locals → Code
matched spec here place pattern (Definition more body count) =
    definitions spec here place (defined_trees (map defined_view more.now)) (stmt_within here count (boxed_stmt body.now))
matched spec here place pattern (Case patterns body more others count) = stmt_within here count (boxed_stmt body.now)
matched spec here place pattern (Element body left count) =
    element_round here count (boxed_stmt body.now) (each_element spec here place pattern (boxed_stmt body.now) count (reverse left.items))
matched spec here place pattern (Trap handler from count) = stmt_within here count (boxed_stmt handler.now)
matched spec here place pattern (Tixe all others body from count) = handling here place (handlers_of all.now) count (boxed_stmt body.now)

-- ... and where it does not match the value
abbrev pub missed : SpecTree → MeantHere → Place → PatternTree → Follow → ValueTree → Locals → Code
missed spec here place pattern (Definition more body count) v = no_match place
missed spec here place pattern (Case patterns body more others count) v =
    one_met spec here place v (pattern_trees (pattern_views patterns.now)) (stmt_within here count (boxed_stmt body.now))
    (alternatives spec here place count (cases_left more.now) (maybe_stmt others.now) v)
missed spec here place pattern (Element body left count) v =
    each_element spec here place pattern (boxed_stmt body.now) count (reverse left.items)
missed spec here place pattern (Trap handler from count) v = exit_on v from
missed spec here place pattern (Tixe all others body from count) v =
    handled_by spec here place (handlers_of all.now) count (handlers_of others.now) v from

-- a pattern and its value
abbrev pub meets_value : SpecTree → Meeting → Locals → Code
meets_value spec m =
    meets spec (here_of m.here) m.place (pattern_view m.pattern.now) (matched spec (here_of m.here) m.place (pattern_view m.pattern.now) m.follow)
    (missed spec (here_of m.here) m.place (pattern_view m.pattern.now) m.follow m.value) m.value

-- ... with the values of the expressions in brackets
abbrev pub met_value : SpecTree → Meeting → List ValueTree → Locals → Code
met_value spec m given =
    met spec (here_of m.here).scope m.place (pattern_view m.pattern.now ∷ []) (m.value ∷ [])
    (matched spec (here_of m.here) m.place (pattern_view m.pattern.now) m.follow)
    (missed spec (here_of m.here) m.place (pattern_view m.pattern.now) m.follow m.value) given

-- the value of one of these came
abbrev pub given_then : SpecTree → Given → MeantFlow → Code
given_then spec g =
    with_value g.meeting.place
    (with_others (here_of g.meeting.here) g.meeting.place (exprs_of (drop g.next (boxed_list g.found.items))) g.given.items
    (met_value spec g.meeting))

-- behind the body for one element
abbrev pub element_then : SpecTree → Elements → MeantFlow → Code
element_then spec e =
    unless_ended_cut e.count
    (each_element spec (here_of e.here) e.place (pattern_view e.pattern.now) (boxed_stmt e.body.now) e.count (reverse e.values.items))

-- the value of a definition, which fits its type
abbrev pub defined_meets : SpecTree → Defining → ValueTree → Locals → Code
defined_meets spec d =
    meets spec (here_of d.here) d.place (pattern_view d.pattern.now.value)
    (definitions spec (here_of d.here) d.place (defined_trees (map defined_view d.more.now)) (stmt_within (here_of d.here) d.count (boxed_stmt d.body.now)))
    (no_match d.place)

-- ... and before it is tested
abbrev pub defined_tested : SpecTree → Defining → ValueTree → Locals → Code
defined_tested spec d =
    typed_maybe spec (here_of d.here).nest (here_of d.here).scope (maybe_type d.declared) d.place (defined_meets spec d)
