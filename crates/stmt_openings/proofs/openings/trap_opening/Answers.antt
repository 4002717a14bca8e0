use Rattle.expr_tree.specs.View.{pattern_view}
use Rattle.stmt_openings.proofs.Regroup.{trap-in}
use Rattle.stmt_openings.proofs.openings.trap_opening.Goals as goal

pub returns : goal.returns
returns c = λ one. record {
  given = trap-in one c.args.place c.args.source.now c.boxed_pattern.new.self c.word.new.self (pattern_view c.in_ok-pattern.pattern.value) c.in_ok-word.field-0
      c.in_ok-pattern.ensures.given c.in_ok-word.ensures.given;
  refused = λ e. cc;
}
