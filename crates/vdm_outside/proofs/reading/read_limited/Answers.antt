use Rattle.std.proofs.Common.{arith, ◌++◌, take, rules}
use Rattle.std.proofs.lemmas.Result.{err_from_is_err_and}
use Rattle.std.proofs.KnownBytes.{Consumes-trans}
use Rattle.std.proofs.lemmas.Grind.{common_steps}
use Rattle.vdm_outside.proofs.reading.read_limited.Goals as goal

pub returns-in_err-extend_from_slice : goal.returns-in_err-extend_from_slice
returns-in_err-extend_from_slice g c =
    let p = err_from_is_err_and c.from_residual-in_err-extend_from_slice.result c.from_residual-in_err-extend_from_slice.ensures.1 in
    rw (p.1, p.2) record {
      bytes = tt;
      most = tt;
      ended = tt;
      taken = record {
        bytes = c.loop-piece.bytes.items ++ take c.in_ok-count.count c.read.new.buf;
        few = grind (arith, common_steps);
        front = grind (arith, common_steps, Consumes-trans);
        turns = grind (arith, common_steps);
      };
      turns = tt;
      budget = grind (arith, common_steps);
      cause = search rules;
    }
