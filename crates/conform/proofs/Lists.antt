-- The parts of values.
use Rattle.std.proofs.Common.{◌≡◌, ◌&&◌, Bool, true, List, Option, Some, None, if◌then◌else◌, ap, sym, ◌∙◌}
use Rattle.vdm_kinds.specs.declared.name.Name.{Name}
use Rattle.abstract_syntax.specs.Classes.{is_same_name}
use Rattle.abstract_syntax.specs.Values.{ValueTree, tuple, record_of, sequence, set_of, map_of, value_trees, value_list, pair_trees, pair_list, value_list-value_trees, pair_list-pair_trees}
use Rattle.conform.specs.Frames.{elements_in, items_in, entries_in, components_in, fields_in}

pub elements_in_set : (vs : List ValueTree) → elements_in (set_of (value_trees vs)) ≡ Some vs
elements_in_set vs = ap Some (value_list-value_trees vs)

pub items_in_sequence : (vs : List ValueTree) → items_in (sequence (value_trees vs)) ≡ Some vs
items_in_sequence vs = ap Some (value_list-value_trees vs)

pub components_in_tuple : (vs : List ValueTree) → components_in (tuple (value_trees vs)) ≡ Some vs
components_in_tuple vs = ap Some (value_list-value_trees vs)

pub entries_in_map : (ps : List (ValueTree × ValueTree)) → entries_in (map_of (pair_trees ps)) ≡ Some ps
entries_in_map ps = ap Some (pair_list-pair_trees ps)

pub ruleset parts = (elements_in_set, items_in_sequence, components_in_tuple, entries_in_map)

pub fields_found : (wanted_class wanted class name : Name) (vs ws : List ValueTree) (v : ValueTree)
    → v ≡ record_of class name (value_trees vs) → ws ≡ vs → is_same_name wanted_class class && is_same_name wanted name ≡ true
    → Some ws ≡ fields_in wanted_class wanted v
fields_found wanted_class wanted class name vs ws v e same h =
    ap Some (same ∙ sym (value_list-value_trees vs))
    ∙ ap (λ b. if b then Some (value_list (value_trees vs)) else None) (sym h) ∙ ap (fields_in wanted_class wanted) (sym e)
