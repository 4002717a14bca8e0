use Rattle.vdm_kinds.specs.declared.name_at.NameAt.{NameAt}
use Rattle.class_meaning.specs.Classes.{class_number}
use Rattle.class_index.specs.Lists.{spec_of}
use Rattle.class_index.proofs.Ranges.{all_numbered}
use Rattle.class_index.proofs.graph.superclass_numbers.Goals as goal

pub returns : goal.returns
returns c =
    all_numbered (λ (s : NameAt). class_number (spec_of c.args.list.now) s.name) c.loop-superclass.numbers.items c.deref-superclass-items.result.now
    c.args.class.now.superclasses.items c.loop-superclass.superclass-index c.loop-superclass-test.false c.loop-superclass.invariant
    c.deref-superclass-items.ensures.value
