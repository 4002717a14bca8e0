use Rattle.std.proofs.Common.{subst}
use Rattle.leaf_reader.specs.Reads.{Reads}
use Rattle.stmt_reading.specs.Leaves.{turns_for}
use Rattle.stmt_reading.specs.Statements.{dcls_in}
use Rattle.stmt_parts.specs.Lists.{dcls_view}
use Rattle.stmt_parts.proofs.Lists.{whole}
use Rattle.stmt_parts.proofs.blocks.dcls.Goals as goal

pub returns : goal.returns
returns c =
    subst (λ read. Reads c.listed_dcls.result dcls_view read c.listed_dcls.new.source)
    (whole (dcls_in (turns_for c.args.source.now) c.args.source.now)) c.listed_dcls.ensures
