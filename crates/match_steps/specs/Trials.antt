-- What comes of a pattern that is tried with a value, and which patterns are left behind it.
use Rattle.std.specs.Prelude.{ℕ, zero, suc, ◌+◌, [], map, drop}
use Rattle.vdm_kinds.specs.declared.place.Place.{Place}
use Rattle.abstract_syntax.specs.Classes.{SpecTree}
use Rattle.abstract_syntax.specs.Expressions.{PatternTrees, no_patterns, one_pattern, CaseTrees, no_cases, one_case}
use Rattle.abstract_syntax.specs.Values.{ValueTree}
use Rattle.expr_tree.specs.View.{boxed_view, maybe_view, pattern_views, pattern_trees, case_view, case_trees}
use Rattle.node_meaning.specs.Envs.{Locals}
use Rattle.node_meaning.specs.Expressions.{no_match, others_of}
use Rattle.node_meaning.specs.Matching.{exprs_of}
use Rattle.node_meaning.specs.Strict.{with_others}
use Rattle.node_meaning.specs.Tasks.{Code, evaluated}
use Rattle.eval_data.specs.declared.matching.Met.{Met}
use Rattle.eval_data.specs.declared.matching.Met.TheVariants.{Definition, Case}
use Rattle.eval_data.specs.Parts.{here_of, boxed_list}
use Rattle.eval_data.specs.Steps.{matched, met_here, met_with}
use Rattle.match_steps.specs.declared.trial.Tried.{Tried}
use Rattle.match_steps.specs.declared.trial.Tried.TheVariants.{AtOnce, Waits}
use Rattle.match_steps.specs.declared.trial.Trial.{Trial}
use Rattle.bind_steps.specs.Attempts.{attempted}

-- ---- what is left behind a pattern

abbrev pub pattern_count : PatternTrees → ℕ
pattern_count no_patterns = zero
pattern_count (one_pattern pattern patterns) = suc (pattern_count patterns)

abbrev pub case_count : CaseTrees → ℕ
case_count no_cases = zero
case_count (one_case patterns body more) = pattern_count patterns + case_count more

-- how many patterns are tried where it does not match
abbrev pub further_count : Met → ℕ
further_count (Definition here d) = zero
further_count (Case here c) = pattern_count (pattern_trees (pattern_views c.patterns.now)) + case_count (case_trees (map case_view c.more.now))

-- what is done where no pattern is left
abbrev pub left_over : Met → Place → Locals → Code
left_over (Definition here d) place = no_match place
left_over (Case here c) place = others_of (here_of here) place (maybe_view c.others.now)

-- ---- trials

-- what is done behind a trial, where something else is done for a pattern that has missed
abbrev pub tried_as : SpecTree → Met → Place → ValueTree → (Locals → Code) → Tried → Locals → Code
tried_as spec m place v otherwise (AtOnce attempt) locals = attempted place attempt (matched spec m place) otherwise locals
tried_as spec m place v otherwise (Waits first found) locals =
    evaluated (met_here m) locals (boxed_view first.now) place
    (with_others (met_here m) place (exprs_of (drop 1 (boxed_list found.items))) [] (met_with spec m place v))

-- ... where that pattern was the last one
abbrev pub ended_as : SpecTree → Trial → Place → ValueTree → Locals → Code
ended_as spec trial place v = tried_as spec trial.met place v (left_over trial.met place) trial.tried
