-- What the name of a target stands for, as the definitions have it.
use Rattle.std.specs.Prelude.{◌∷◌, []}
use Rattle.abstract_syntax.specs.Classes.{SpecTree}
use Rattle.class_meaning.specs.Members.{of_variable}
use Rattle.class_checks.specs.Members.{read_member}
use Rattle.class_checks.specs.Results.{refusal}
use Rattle.class_checks.specs.Scopes.{Locals}
use Rattle.spec_checks.specs.Targets.{Owned as OwnedTree, nothing_owned, a_local, of_self, of_class_object, owner_of, StmtScope, Written, unwritten}
use Rattle.target_steps.specs.Below.spec_table.specs.Meanings.{Owns}
use Rattle.vdm_tree.specs.ClassView.{variable_view}
use Rattle.target_steps.specs.Below.check_scopes.specs.Told.{scope_at, spec_in}
use Rattle.target_steps.specs.Below.check_scopes.specs.declared.setting.Setting.{Setting}
use Rattle.stmt_targets.specs.declared.named.Named.{Named}
use Rattle.stmt_targets.specs.declared.named.Named.TheVariants.{Refused, Local, Variable}
use Rattle.stmt_targets.specs.declared.owned.Owned.{Owned}
use Rattle.stmt_targets.specs.declared.owned.Owned.TheVariants.{Nothing, Local as LocalOwned, Object, ClassObject}

abbrev pub owned_view : Owned → OwnedTree
owned_view Nothing = nothing_owned
owned_view LocalOwned = a_local
owned_view Object = of_self
owned_view (ClassObject number) = of_class_object number

-- a variable is written where it may be read
abbrev pub written_as : Setting → Locals → Named → Written
written_as setting names (Refused kind place) = unwritten (refusal kind place ∷ [])
written_as setting names (Local form) = record { form = form.now; owned = a_local; refusals = [] }
written_as setting names (Variable m) = record {
  form = (read_member (spec_in setting) (scope_at setting names) m.place m.own m.owner.number (of_variable (variable_view m.variable.now))).form;
  owned = owner_of m.owner.number m.variable.now.access;
  refusals = (read_member (spec_in setting) (scope_at setting names) m.place m.own m.owner.number (of_variable (variable_view m.variable.now))).refusals;
}

abbrev pub IsOwned : SpecTree → Named → Type 0
IsOwned spec (Variable m) = Owns spec m.owner
IsOwned spec _ = Unit {0}

-- where these names are bound in the scope of the setting
abbrev pub stands_with : Setting → Locals → StmtScope → StmtScope
stands_with setting names other = record { within = scope_at setting names; declared = other.declared; returned = other.returned }
