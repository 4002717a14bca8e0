use Rattle.std.proofs.Common.{◌≡◌, drop}
use Rattle.class_meaning.specs.Calls.{is_hosted}
use Rattle.spec_table.proofs.hosts.is_among.Given as goal

abbrev pub invariant-loop-row : goal.invariant-loop-row
invariant-loop-row l = is_hosted (drop l.row-index l.rows) l.op ≡ is_hosted l.rows l.op
