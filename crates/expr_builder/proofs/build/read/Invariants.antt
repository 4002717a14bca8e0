use Rattle.std.proofs.Common.{◌≡◌}
use Rattle.std.specs.Vec.Iter.{into_iter_items}
use Rattle.grammar_tokens.specs.View.{token_views}
use Rattle.grammar_trees.specs.Machine.{in_mode, run}
use Rattle.tree_frames.specs.Views.{mode_view, stack_view}
use Rattle.type_reading.specs.Reading.{type_of}
use Rattle.expr_builder.proofs.build.read.Given as goal

-- what the tokens that are left come to from here is what all come to
abbrev pub invariant-loop-token : goal.invariant-loop-token
invariant-loop-token l = run type_of (token_views l.fn.tokens.items) (in_mode (mode_view l.fn.first) (stack_view l.fn.frames.items)) ≡ run type_of (token_views (into_iter_items l.token-iterator)) (in_mode (mode_view l.mode) (stack_view l.frames.items))
