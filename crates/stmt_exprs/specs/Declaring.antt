-- A local that is declared, by its form.
use Rattle.std.specs.Prelude.{[], ◌∷◌}
use Rattle.vdm_kinds.specs.declared.name.Name.{Name}
use Rattle.form_meaning.specs.Forms.{FormTree}
use Rattle.class_checks.specs.Scopes.{inside}
use Rattle.spec_checks.specs.Targets.{StmtScope, declared_too}

abbrev pub with_local : StmtScope → Name → FormTree → StmtScope
with_local scope name form = record {
  within = inside scope.within (record { name = name; form = form } ∷ []);
  declared = declared_too name scope.declared;
  returned = scope.returned;
}
