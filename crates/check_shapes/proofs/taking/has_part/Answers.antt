use Rattle.std.proofs.Common.{◌≡◌, ◌∙◌, ap, sym, rules, to_z, of_z, length}
use Rattle.std.specs.Int.{w128}
use Rattle.std.proofs.lemmas.Int.{to_z-of_z}
use Rattle.class_checks.specs.Shapes.{has_part}
use Rattle.type_forms.specs.Tree.{alt_of}
use Rattle.check_shapes.specs.Numbered.{is_within, within_is}
use Rattle.check_shapes.proofs.taking.has_part.Goals as goal

pub returns-in-Tuple : goal.returns-in-Tuple
returns-in-Tuple c =
    let same : to_z w128 (of_z w128 c.args.number) ≡ c.args.number = search (rules, to_z-of_z) in
    let count : c.len.result ≡ length c.in-Tuple.parts.items = search rules in
    c.is_within.ensures
    ∙ (λ i. is_within (count i) (same i))
    ∙ within_is c.in-Tuple.parts.items c.args.number
    ∙ ap (has_part c.args.number) (sym (ap alt_of c.in-Tuple.is))
