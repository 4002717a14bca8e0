-- The trees of what stands in lists, by their parts.
use Rattle.std.specs.Prelude.{◌≡◌, option_map}
use Rattle.std.proofs.Common.{rules}
use Rattle.abstract_syntax.specs.Expressions.{bind_in}
use Rattle.type_tree.specs.TypeView.{type_view}
use Rattle.expr_tree.specs.View.{
  bind_view,
  branch_view,
  case_view,
  defined_view,
  field_value_view,
  maplet_view,
  pattern_trees,
  pattern_view,
  pattern_views,
  view_of,
}
use Rattle.expr_tree.specs.declared.parts.Branch.{Branch, the_lemmas as branch_lemmas}
use Rattle.expr_tree.specs.declared.parts.Case.{Case, the_lemmas as case_lemmas}
use Rattle.expr_tree.specs.declared.parts.Defined.{Defined, the_lemmas as defined_lemmas}
use Rattle.expr_tree.specs.declared.parts.FieldValue.{FieldValue, the_lemmas as field_value_lemmas}
use Rattle.expr_tree.specs.declared.parts.Maplet.{Maplet, the_lemmas as maplet_lemmas}
use Rattle.expr_tree.specs.declared.pattern.Bind.{Bind, the_lemmas as bind_lemmas}

pub bind_parts : (b : Bind) → bind_view b ≡ bind_in (pattern_trees (pattern_views b.patterns.items)) (view_of b.set.value)
bind_parts b = search (rules, bind_lemmas)

pub branch_parts : (b : Branch) → branch_view b ≡ record { condition = view_of b.condition.value; value = view_of b.value.value }
branch_parts b = search (rules, branch_lemmas)

pub case_parts : (c : Case) → case_view c ≡ record { patterns = pattern_views c.patterns.items; value = view_of c.value.value }
case_parts c = search (rules, case_lemmas)

pub defined_parts : (d : Defined)
    → defined_view d ≡ record { pattern = pattern_view d.pattern.value; declared = option_map type_view d.declared; value = view_of d.value.value }
defined_parts d = search (rules, defined_lemmas)

pub field_parts : (f : FieldValue) → field_value_view f ≡ record { name = f.name; name_place = f.name_place; value = view_of f.value.value }
field_parts f = search (rules, field_value_lemmas)

pub maplet_parts : (m : Maplet) → maplet_view m ≡ record { key = view_of m.key.value; value = view_of m.value.value }
maplet_parts m = search (rules, maplet_lemmas)
