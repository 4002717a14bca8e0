use Rattle.std.proofs.Common.{ap, ◌∙◌}
use Rattle.spec_checks.specs.Definitions.{thread_faults}
use Rattle.class_checks.specs.Scopes.{ScopeTree}
use Rattle.vdm_tree.specs.ClassView.{thread_view}
use Rattle.part_checks.specs.Below.check_scopes.specs.Told.{first_in, scope_view}
use Rattle.part_checks.specs.Below.definition_scopes.specs.Standing.{spec_at}
use Rattle.sync_checks.specs.Threads.{thread_in}
use Rattle.sync_checks.proofs.Noted.{on_same}
use Rattle.sync_checks.proofs.OnScope.{thread_of_class}
use Rattle.sync_checks.proofs.threads.refuse_thread.Goals as goal

pub returns : goal.returns
returns c =
    let spec = spec_at c.args.site in
    let tree = thread_view c.args.thread.now in
    on_same c.refuse_thread_in.result (first_in c.args.refusals.now) (first_in c.refuse_thread_in.new.refusals)
    (thread_in spec (scope_view c.in_class-scope.result) tree) (thread_faults spec c.args.site.class tree)
    (ap (λ (s : ScopeTree). thread_in spec s tree) c.in_class-scope.ensures ∙ thread_of_class spec c.args.site.class tree)
    c.refuse_thread_in.ensures
