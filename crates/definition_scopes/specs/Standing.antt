-- Where the definitions of a class stand.
use Rattle.abstract_syntax.specs.Classes.{SpecTree}
use Rattle.check_scopes.specs.Below.spec_table.specs.Tables.{table_spec}
use Rattle.class_checks.specs.Scopes.{Locals, ScopeTree}
use Rattle.check_scopes.specs.declared.scope.Scope.{Scope}
use Rattle.definition_scopes.specs.declared.site.Site.{Site}

-- the specification
abbrev pub spec_at : Site → SpecTree
spec_at site = table_spec site.table.now

-- a scope with other locals
abbrev pub with_locals : Scope → Locals → ScopeTree
with_locals scope locals = record {
  class = scope.class;
  locals = locals;
  result = scope.result;
  old = scope.old;
  object = scope.object;
  reach = scope.reach;
}
