use Rattle.target_steps.proofs.steps.part_behind.Goals as goal

pub returns-in-Field : goal.returns-in-Field
returns-in-Field c = rw c.in-Field.is (c.field_behind.ensures c.in-Field.field-1 c.in-Field.field-2)

pub returns-in-Element : goal.returns-in-Element
returns-in-Element c = rw c.in-Element.is (c.element_behind.ensures c.in-Element.field-1)
