use Rattle.std.proofs.Common.{ap, sym, ◌∙◌}
use Rattle.conform.specs.declared.goal.Next.TheVariants.{Holds, Fails}
use Rattle.conform.specs.Frames.{found_in, stands}
use Rattle.conform.proofs.Turns.{popped}
use Rattle.conform.proofs.shapes.collected.Goals as goal
use Rattle.conform.proofs.shapes.collected.Goals.{in-Tests+in_ok-next-in-Tests, in-Holds+in-Some+in_ok-next-in-Some, in-Fails+in-Some-pop+in_ok-next-in-Some-pop}

pub loop-step-preserved : goal.loop-step-preserved
loop-step-preserved g c = elim c.match-next.branch [
  | in-Tests+in_ok-next-in-Tests w ↦
      rw (w.collecting-is, w.next-is)
      (w.in_ok-next-in-Tests.ensures ∙ ap (stands (g.N.TypeNames.found c.args.names.now) (g.N.TypeNames.descends c.args.names.now) (g.N.TypeNames.rank c.args.names.now) c.loop-step.collecting.found.items c.loop-step.collecting.frames.items) (sym w.in-Tests.is)
      ∙ c.loop-step.invariant)
  | in-Holds+in-Some+in_ok-next-in-Some w ↦
      rw (w.collecting-is, w.next-is)
      (w.in_ok-next-in-Some.ensures
      ∙ popped (g.N.TypeNames.found c.args.names.now) (g.N.TypeNames.descends c.args.names.now) (g.N.TypeNames.rank c.args.names.now) c.loop-step.collecting.frames.items _ w.in-Some.frame (found_in (g.N.TypeNames.found c.args.names.now) (g.N.TypeNames.descends c.args.names.now) (g.N.TypeNames.rank c.args.names.now) c.loop-step.collecting.found.items) Holds w.in-Some.ensures.items
      ∙ ap (stands (g.N.TypeNames.found c.args.names.now) (g.N.TypeNames.descends c.args.names.now) (g.N.TypeNames.rank c.args.names.now) c.loop-step.collecting.found.items c.loop-step.collecting.frames.items) (sym w.in-Holds.is)
      ∙ c.loop-step.invariant)
  | in-Fails+in-Some-pop+in_ok-next-in-Some-pop w ↦
      rw (w.collecting-is, w.next-is)
      (w.in_ok-next-in-Some-pop.ensures
      ∙ popped (g.N.TypeNames.found c.args.names.now) (g.N.TypeNames.descends c.args.names.now) (g.N.TypeNames.rank c.args.names.now) c.loop-step.collecting.frames.items _ w.in-Some-pop.frame (found_in (g.N.TypeNames.found c.args.names.now) (g.N.TypeNames.descends c.args.names.now) (g.N.TypeNames.rank c.args.names.now) c.loop-step.collecting.found.items) Fails w.in-Some-pop.ensures.items
      ∙ ap (stands (g.N.TypeNames.found c.args.names.now) (g.N.TypeNames.descends c.args.names.now) (g.N.TypeNames.rank c.args.names.now) c.loop-step.collecting.found.items c.loop-step.collecting.frames.items) (sym w.in-Fails.is)
      ∙ c.loop-step.invariant)
]
