-- What lists of ancestors stand for.
use Rattle.std.specs.Prelude.{◌≡◌, ℕ, ◌<◌, true, if◌then◌else◌, [], List, length, map, get_or, vec_len}
use Rattle.std.specs.List.{range_with_len}
use Rattle.abstract_syntax.specs.Classes.{SpecTree}
use Rattle.graph_cycles.specs.Graphs.{Graph, leads_to_no_cycle, is_in}
use Rattle.class_meaning.specs.Classes.{class_graph}
use Rattle.class_meaning.specs.Ancestors.{ancestors_in, ancestor_names}
use Rattle.class_meaning.specs.Objects.{layout, statics, operation_names}
use Rattle.ancestor_lines.specs.Parts.{lists_of}
use Rattle.ancestor_lines.specs.declared.layouts.Layouts.{Layouts}
use Rattle.ancestor_lines.specs.declared.nodes.Nodes.{Nodes}

-- the list of each node: its ancestors in order where it leads to no cycle, and else the same in any order
pub record AreLines (g : Graph) (lines : List (List ℕ)) : Type 0 where
  pub count : length lines ≡ length g
  pub same : (a : ℕ) → a < length g → leads_to_no_cycle g a ≡ true → get_or lines a [] ≡ ancestors_in g a
  pub members : (a b : ℕ) → a < length g → is_in (get_or lines a []) b ≡ is_in (ancestors_in g a) b

-- the list of each node that leads to no cycle, and none of the others
pub record AreSettled (g : Graph) (lines : List (List ℕ)) : Type 0 where
  pub count : length lines ≡ length g
  pub each : (a : ℕ) → a < length g → get_or lines a [] ≡ (if leads_to_no_cycle g a then ancestors_in g a else [])

-- no nodes, of so many as there are
abbrev pub IsClear : Nodes → ℕ → Type 0
IsClear nodes n = (vec_len nodes.flags ≡ n) × (nodes.nodes.items ≡ [])

-- layouts are those of the classes of a specification
pub record IsOf (layouts : Layouts) (spec : SpecTree) : Type 0 where
  pub ancestors : lists_of layouts.names.items ≡ map (ancestor_names spec) (range_with_len 0 (length (class_graph spec)))
  pub objects : lists_of layouts.layouts.items ≡ map (layout spec) (range_with_len 0 (length (class_graph spec)))
  pub class_objects : lists_of layouts.statics.items ≡ map (statics spec) (range_with_len 0 (length (class_graph spec)))
  pub operations : lists_of layouts.operations.items ≡ map (operation_names spec) (range_with_len 0 (length (class_graph spec)))
