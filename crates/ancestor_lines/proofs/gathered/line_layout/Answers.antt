use Rattle.ancestor_lines.specs.Parts.{lists_of, list_at}
use Rattle.ancestor_lines.proofs.Gathering.{gathered_more}
use Rattle.ancestor_lines.proofs.gathered.line_layout.Goals as goal

pub loop-passed-preserved : goal.loop-passed-preserved
loop-passed-preserved c =
    gathered_more (list_at (lists_of c.args.own.now)) c.args.line.now c.loop-passed.found.items c.extend_from_slice.new.self.items
    c.variables_at.result.now c.loop-passed.passed c.loop-passed-test.true c.loop-passed.invariant c.variables_at.ensures
    c.in_ok-extend_from_slice.ensures.items
