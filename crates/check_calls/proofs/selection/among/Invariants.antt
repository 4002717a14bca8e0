use Rattle.std.proofs.Common.{◌≡◌, drop}
use Rattle.class_checks.specs.Scopes.{Locals}
use Rattle.check_calls.specs.Selecting.{all_shown, among_shown, nothing_shown, use_view}
use Rattle.check_fields.specs.Below.check_scopes.specs.Told.{scope_at, spec_in}
use Rattle.type_forms.specs.Tree.{alt_trees}
use Rattle.check_calls.proofs.selection.among.Given as goal

-- those that are left, behind what the others have
abbrev pub invariant-loop-alternative : goal.invariant-loop-alternative
invariant-loop-alternative l =
    (names : Locals) → among_shown (spec_in l.setting) (scope_at l.setting names) (use_view l.way) l.named.name l.named.place (all_shown l.known)
    (alt_trees (drop l.alternative-index l.alternatives))
    ≡ among_shown (spec_in l.setting) (scope_at l.setting names) (use_view l.way) l.named.name l.named.place nothing_shown (alt_trees l.alternatives)
