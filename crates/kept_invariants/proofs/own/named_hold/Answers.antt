use Rattle.std.proofs.Common.{ℕ, Option, ap, sym, ◌∙◌}
use Rattle.std.specs.Option.{option_and_then}
use Rattle.abstract_syntax.specs.Classes.{ClassTree}
use Rattle.class_meaning.specs.Classes.{class_at}
use Rattle.class_meaning.specs.Objects.{listed}
use Rattle.vdm_tree.specs.ClassView.{class_view}
use Rattle.stmt_meaning.specs.Keeping.{class_conditions}
use Rattle.spec_table.specs.Tables.{table_spec}
use Rattle.kept_invariants.specs.Guarding.{all_hold_in, own_conditions}
use Rattle.kept_invariants.proofs.Verdicts.{same_verdict}
use Rattle.kept_invariants.proofs.own.named_hold.Goals as goal

pub returns-in-Some : goal.returns-in-Some
returns-in-Some c =
    let spec = table_spec c.args.table.now in
    same_verdict c.class_holds.result
    (all_hold_in spec c.args.env.now (class_conditions (class_view c.class.result.now))) (all_hold_in spec c.args.env.now (own_conditions spec c.args.class))
    (sym (ap (λ (k : Option ℕ). all_hold_in spec c.args.env.now (listed class_conditions (option_and_then (class_at spec) k))) (sym c.in-Some.ensures)
    ∙ ap (λ (o : Option ClassTree). all_hold_in spec c.args.env.now (listed class_conditions o)) (c.class.ensures c.in-Some.field-0 (sym c.in-Some.ensures))))
    c.class_holds.ensures
