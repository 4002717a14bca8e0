use Rattle.std.proofs.Common.{◌≡◌, ◌∙◌, ap, sym, rules, to_z, of_z}
use Rattle.std.specs.Int.{w128}
use Rattle.std.proofs.lemmas.Int.{to_z-of_z}
use Rattle.class_checks.specs.Shapes.{part_numbered}
use Rattle.type_forms.specs.Taking.{form_or_none}
use Rattle.type_forms.specs.Tree.{alt_of}
use Rattle.check_shapes.specs.Numbered.{numbered, numbered_is}
use Rattle.check_shapes.proofs.taking.part_numbered.Goals as goal

pub returns-in-Tuple : goal.returns-in-Tuple
returns-in-Tuple c =
    let same : to_z w128 (of_z w128 c.args.number) ≡ c.args.number = search (rules, to_z-of_z) in
    ap form_or_none (c.part_of.ensures ∙ (λ i. numbered (c.as_slice.ensures.value i) (same i)))
    ∙ numbered_is c.in-Tuple.parts.items c.args.number
    ∙ ap (part_numbered c.args.number) (sym (ap alt_of c.in-Tuple.is))
