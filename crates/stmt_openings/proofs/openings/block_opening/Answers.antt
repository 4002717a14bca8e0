use Rattle.std.proofs.Common.{◌+◌, ap}
use Rattle.stmt_parts.specs.Lists.{dcls_view}
use Rattle.stmt_openings.proofs.Regroup.{block-in}
use Rattle.stmt_openings.proofs.openings.block_opening.Goals as goal

pub returns : goal.returns
returns c = λ one. record {
  given = block-in one c.args.place c.args.source.now c.dcls.new.source (dcls_view c.in_ok-locals.locals) (c.len-turns.result + 1) (ap (λ n. n + 1) c.len-turns.ensures.length) c.in_ok-locals.ensures.given;
  refused = λ e. cc;
}
