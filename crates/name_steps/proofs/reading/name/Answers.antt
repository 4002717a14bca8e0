use Rattle.std.proofs.Common.{option_map, ap, sym, ◌∙◌}
use Rattle.std.specs.Borrow.{Bor}
use Rattle.vdm_values.specs.declared.slot.Slot.{Slot}
use Rattle.node_meaning.specs.Envs.{local_named}
use Rattle.node_meaning.specs.Expressions.{name_value}
use Rattle.eval_data.specs.Parts.{here_of}
use Rattle.name_steps.specs.Settings.{set}
use Rattle.name_steps.proofs.Plans.{if_ok}
use Rattle.name_steps.proofs.reading.name.Goals as goal

pub returns-in-Some : goal.returns-in-Some
returns-in-Some c = if_ok c.slot_value.result c.slot_value.ensures (λ s plan asker.
    plan (set c.args.table.now asker) c.args.locals.now.items ∙
    ap (λ o. name_value (set c.args.table.now asker) (here_of c.args.here) c.args.place c.args.name o c.args.locals.now.items)
    (ap (option_map (λ (b : Bor Slot). b.now)) (sym c.in-Some.is) ∙ c.local_slot.ensures ∙ ap (λ ls. local_named ls c.args.name) c.as_slice.ensures.value))

pub returns-in-None : goal.returns-in-None
returns-in-None c = if_ok c.value_named.result c.value_named.ensures (λ s plan asker.
    plan asker ∙
    ap (λ o. name_value (set c.args.table.now asker) (here_of c.args.here) c.args.place c.args.name o c.args.locals.now.items)
    (ap (option_map (λ (b : Bor Slot). b.now)) (sym c.in-None.is) ∙ c.local_slot.ensures ∙ ap (λ ls. local_named ls c.args.name) c.as_slice.ensures.value))
