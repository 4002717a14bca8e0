use Rattle.std.proofs.Common.{◌≡◌, [], Some}
use Rattle.grammar_tokens.specs.View.{token_views}
use Rattle.expr_builder.proofs.Running.{pattern-by}
use Rattle.tree_frames.specs.Views.{state_view}
use Rattle.expr_builder.proofs.build.build_pattern.Goals as goal

pub returns-in-Some : goal.returns-in-Some
returns-in-Some c =
    let none : c.new-frames.result.items ≡ [] = cc in
    pattern-by _ (token_views c.args.tokens.items) c.new-frames.result.items (state_view (Some c.in-Some.mode) c.read.new.frames.items) none (rw c.in-Some.is at c.in_ok-mode.ensures) c.end_pattern.ensures
