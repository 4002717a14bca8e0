-- What binds give, and the sets from which elements are chosen.
use Rattle.std.specs.Prelude.{ℕ, List}
use Rattle.abstract_syntax.specs.Classes.{SpecTree}
use Rattle.abstract_syntax.specs.Expressions.{ExprTree, BindTree, bind_in, PatternTree}
use Rattle.pattern_meaning.specs.Ways.{count_of_patterns}
use Rattle.node_meaning.specs.Choosing.{sets_of, behind_sets}
use Rattle.node_meaning.specs.Envs.{Locals}
use Rattle.node_meaning.specs.Matching.{pattern_list}
use Rattle.node_meaning.specs.Tasks.{Code}
use Rattle.eval_data.specs.declared.search.Sets.{Sets}
use Rattle.eval_data.specs.Parts.{here_of, chooser_of, patterns_at, sources_from}

-- the patterns of one bind
abbrev pub bind_patterns : BindTree → List PatternTree
bind_patterns (bind_in patterns set) = pattern_list patterns

-- where its elements come from: its expression, and how many patterns it has
abbrev pub bind_source : BindTree → ExprTree × ℕ
bind_source (bind_in patterns set) = (set, count_of_patterns patterns)

-- the set that comes next and those behind it, and then the search
abbrev pub sets_from : SpecTree → Sets → Locals → Code
sets_from spec sets locals =
    sets_of (here_of sets.here) sets.place (sources_from sets.sources.items sets.at) sets.lists.items
    (behind_sets spec (here_of sets.here) sets.place (patterns_at sets.patterns.items) (chooser_of sets.chooser)) locals
