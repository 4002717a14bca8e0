use Rattle.std.proofs.Common.{Option, ap, sym, ◌+◌, ◌∙◌}
use Rattle.vdm_kinds.specs.declared.spec_fault.SpecFault.{SpecFault}
use Rattle.table_faults.specs.Firsts.{or_behind}
use Rattle.table_faults.specs.Known.{known_names}
use Rattle.table_faults.specs.Tables.{spec_in}
use Rattle.table_faults.proofs.Telling.{class_told, classes_from}
use Rattle.table_faults.proofs.table.Table.classes_fault.Goals as goal

pub loop-k-preserved : goal.loop-k-preserved
loop-k-preserved c =
    let spec = spec_in c.args.self.now in
    let definitions = c.all-definitions.result.now in
    let k = c.loop-k.k in
    let class = c.index-definitions-k.result in
    ap (λ (f : Option SpecFault). or_behind f (classes_from spec definitions k class c.loop-k-test.true c.index-definitions-k.is (known_names c.class_fault.new.earlier) (k + 1)))
    (sym c.in_default.is)
    ∙ class_told spec definitions k class c.loop-k-test.true c.index-definitions-k.is (known_names c.loop-k.earlier) (known_names c.class_fault.new.earlier) _ _
    c.in_ok-fault.ensures.fault c.in_ok-fault.ensures.noted c.loop-k.invariant
