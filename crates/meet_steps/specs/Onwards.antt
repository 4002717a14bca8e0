-- What follows a pattern that was tried, and how many are left.
use Rattle.std.specs.Prelude.{ℕ, zero, suc, ◌+◌, length}
use Rattle.abstract_syntax.specs.Classes.{SpecTree}
use Rattle.abstract_syntax.specs.Expressions.{PatternTrees, no_patterns, one_pattern}
use Rattle.abstract_syntax.specs.Statements.{StmtCases, no_stmt_cases, one_stmt_case}
use Rattle.expr_tree.specs.View.{pattern_view, pattern_views, pattern_trees}
use Rattle.node_meaning.specs.Envs.{Locals}
use Rattle.node_meaning.specs.Tasks.{Code}
use Rattle.eval_data.specs.Parts.{here_of}
use Rattle.step_data.specs.declared.meeting.Follow.{Follow}
use Rattle.step_data.specs.declared.meeting.Follow.TheVariants.{Definition, Case, Element, Trap, Tixe}
use Rattle.step_data.specs.declared.meeting.Meeting.{Meeting}
use Rattle.step_data.specs.Actions.{action_code, height}
use Rattle.step_data.specs.Meetings.{cases_left, matched, missed, meets_value}
use Rattle.meet_steps.specs.declared.onward.Onward.{Onward}
use Rattle.meet_steps.specs.declared.onward.Onward.TheVariants.{Meets, Ends}

-- where the pattern matches its value, and where it does not
abbrev pub matched_there : SpecTree → Meeting → Locals → Code
matched_there spec m = matched spec (here_of m.here) m.place (pattern_view m.pattern.now) m.follow

abbrev pub missed_there : SpecTree → Meeting → Locals → Code
missed_there spec m = missed spec (here_of m.here) m.place (pattern_view m.pattern.now) m.follow m.value

-- ---- how many patterns are tried behind one

abbrev pub pattern_count : PatternTrees → ℕ
pattern_count no_patterns = zero
pattern_count (one_pattern pattern patterns) = suc (pattern_count patterns)

abbrev pub case_count : StmtCases → ℕ
case_count no_stmt_cases = zero
case_count (one_stmt_case patterns body more) = pattern_count patterns + case_count more

abbrev pub further_count : Follow → ℕ
further_count (Definition more body count) = zero
further_count (Case patterns body more others count) =
    pattern_count (pattern_trees (pattern_views patterns.now)) + case_count (cases_left more.now)
further_count (Element body left count) = length left.items
further_count (Trap handler from count) = zero
further_count (Tixe all others body from count) = length others.now

-- ---- what follows

abbrev pub onward_code : SpecTree → Locals → Onward → Code
onward_code spec locals (Meets m) = meets_value spec m locals
onward_code spec locals (Ends action) = action_code spec locals action

-- how many patterns are tried from there on
abbrev pub left_in : Onward → ℕ
left_in (Meets m) = suc (further_count m.follow)
left_in (Ends action) = zero

abbrev pub end_height : Onward → ℕ
end_height (Meets m) = zero
end_height (Ends action) = height action
