use Rattle.stmt_exec.specs.Standing.{rest}
use Rattle.plain_judge.proofs.Steps.{decides-on, refused, stands-on}
use Rattle.plain_judge.proofs.run.are_legal.Goals as goal

pub loop-index-init : goal.loop-index-init
loop-index-init c = record {
  legal = (λ h. h, λ h. h);
  stands = c.requires;
}

pub loop-index-preserved : goal.loop-index-preserved
loop-index-preserved c =
    let next = c.in_ok-takes.ensures.next.0 c.if-not-branch.false in
    record {
      legal = decides-on c.made_where_fits.ensures _ _ _ _ _ _ _ c.loop-index-test.true c.index-entries-index.is (rest c.loop-index.machine) c.loop-index.invariant.stands c.loop-index.invariant.legal next;
      stands = stands-on c.made_where_fits.ensures _ _ _ _ _ _ _ c.loop-index-test.true c.index-entries-index.is (rest c.loop-index.machine) c.loop-index.invariant.stands next (rest c.takes.new.machine) (c.in_ok-takes.ensures.goes_on c.if-not-branch.false);
    }

pub returns-then-not-branch : goal.returns-then-not-branch
returns-then-not-branch c =
    (refused c.made_where_fits.ensures _ _ _ _ _ _ _ c.loop-index-test.true c.index-entries-index.is (rest c.loop-index.machine) c.loop-index.invariant.stands c.loop-index.invariant.legal (λ next.
    let yes_it_may = c.in_ok-takes.ensures.next.1 next in
    let no_it_may_not = c.if-not-branch.true in
    cc))
