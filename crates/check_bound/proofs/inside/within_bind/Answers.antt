use Rattle.std.proofs.Common.{map, sym}
use Rattle.abstract_syntax.specs.Expressions.{no_binds}
use Rattle.check_frames.specs.Below.check_patterns.specs.Shown.{local_view, patterns_of}
use Rattle.check_frames.specs.Meant.{bind_check, boxed, scope_here}
use Rattle.check_frames.specs.Steps.{onward}
use Rattle.check_bound.proofs.inside.within_bind.Goals as goal

pub returns : goal.returns
returns c =
    onward c.args.here.setting c.set_next.result _ _
    (λ i. bind_check c.args.here.setting (scope_here c.args.here) (map local_view (sym c.new.ensures.items i)) (patterns_of c.args.patterns) (boxed c.args.set) no_binds (record { condition = c.args.condition; body = c.args.body }))
    c.set_next.ensures
