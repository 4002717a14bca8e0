use Rattle.vdm_cli.proofs.run.run.Goals as goal

pub returns-clause-run : goal.returns-clause-run
returns-clause-run c =
    rw (c.new.ensures.journal, c.new.ensures.end) (record {
      run = c.run-ran.ensures.run;
      order = c.run-ran.ensures.order;
      ends = c.end_after.ensures.ends c.run-ran.result.journal c.run-ran.ensures.finish;
      line = c.end_after.ensures.line;
    })
