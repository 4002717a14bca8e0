use Rattle.std.proofs.Common.{ap, ◌∙◌}
use Rattle.vdm_tree.specs.StmtView.{stmt_view}
use Rattle.spec_checks.specs.Statements.{check_stmt}
use Rattle.stmt_pending.specs.Below.check_scopes.specs.Told.{first_in}
use Rattle.stmt_pending.specs.Below.check_frames.specs.Meant.{spec_here}
use Rattle.stmt_pending.specs.Below.stmt_scopes.specs.Standing.{stands_here}
use Rattle.stmt_pending.specs.Steps.{next_onward}
use Rattle.stmt_bound.proofs.Views.{view-Block, view-Def, view-ForNumbers, view-ForSequence, view-ForSet, view-Let, view-LetBe, view-Trap}
use Rattle.stmt_bound.proofs.bound.bound_next.Goals as goal

pub returns-in-Block : goal.returns-in-Block
returns-in-Block c =
    next_onward c.args.stands.here.setting c.args.stands.returned.now c.block_next.result (first_in c.args.refusals.now) (first_in c.block_next.new.refusals) _ _
    (ap (check_stmt (spec_here c.args.stands.here) (stands_here c.args.stands)) (ap stmt_view c.in-Block.is ∙ view-Block _ _ _))
    (c.block_next.ensures _)

pub returns-in-Let : goal.returns-in-Let
returns-in-Let c =
    next_onward c.args.stands.here.setting c.args.stands.returned.now c.let_next.result (first_in c.args.refusals.now) (first_in c.let_next.new.refusals) _ _
    (ap (check_stmt (spec_here c.args.stands.here) (stands_here c.args.stands)) (ap stmt_view c.in-Let.is ∙ view-Let _ _ _))
    (c.let_next.ensures _)

pub returns-in-LetBe : goal.returns-in-LetBe
returns-in-LetBe c =
    next_onward c.args.stands.here.setting c.args.stands.returned.now c.let_be_next.result (first_in c.args.refusals.now) (first_in c.let_be_next.new.refusals) _ _
    (ap (check_stmt (spec_here c.args.stands.here) (stands_here c.args.stands)) (ap stmt_view c.in-LetBe.is ∙ view-LetBe _ _ _ _))
    (c.let_be_next.ensures _)

pub returns-in-Def : goal.returns-in-Def
returns-in-Def c =
    next_onward c.args.stands.here.setting c.args.stands.returned.now c.def_next.result (first_in c.args.refusals.now) (first_in c.def_next.new.refusals) _ _
    (ap (check_stmt (spec_here c.args.stands.here) (stands_here c.args.stands)) (ap stmt_view c.in-Def.is ∙ view-Def _ _ _ _))
    (c.def_next.ensures _)

pub returns-in-ForNumbers : goal.returns-in-ForNumbers
returns-in-ForNumbers c =
    next_onward c.args.stands.here.setting c.args.stands.returned.now c.numbers_next.result (first_in c.args.refusals.now) (first_in c.numbers_next.new.refusals) _ _
    (ap (check_stmt (spec_here c.args.stands.here) (stands_here c.args.stands)) (ap stmt_view c.in-ForNumbers.is ∙ view-ForNumbers _ _ _ _ _ _ _))
    (c.numbers_next.ensures _ _)

pub returns-in-ForSet : goal.returns-in-ForSet
returns-in-ForSet c =
    next_onward c.args.stands.here.setting c.args.stands.returned.now c.set_next.result (first_in c.args.refusals.now) (first_in c.set_next.new.refusals) _ _
    (ap (check_stmt (spec_here c.args.stands.here) (stands_here c.args.stands)) (ap stmt_view c.in-ForSet.is ∙ view-ForSet _ _ _ _))
    (c.set_next.ensures _)

pub returns-in-ForSequence : goal.returns-in-ForSequence
returns-in-ForSequence c =
    next_onward c.args.stands.here.setting c.args.stands.returned.now c.sequence_next.result (first_in c.args.refusals.now) (first_in c.sequence_next.new.refusals) _ _
    (ap (check_stmt (spec_here c.args.stands.here) (stands_here c.args.stands)) (ap stmt_view c.in-ForSequence.is ∙ view-ForSequence _ _ _ _))
    (c.sequence_next.ensures _)

pub returns-in-Trap : goal.returns-in-Trap
returns-in-Trap c =
    next_onward c.args.stands.here.setting c.args.stands.returned.now c.trap_next.result (first_in c.args.refusals.now) (first_in c.trap_next.new.refusals) _ _
    (ap (check_stmt (spec_here c.args.stands.here) (stands_here c.args.stands)) (ap stmt_view c.in-Trap.is ∙ view-Trap _ _ _ _))
    (c.trap_next.ensures _)
