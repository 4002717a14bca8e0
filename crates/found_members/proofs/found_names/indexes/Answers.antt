use Rattle.std.proofs.Common.{◌<◌, length, subst, rules, arith}
use Rattle.vdm_tree.specs.declared.class_def.ClassDef.{ClassDef}
use Rattle.vdm_tree.specs.ClassView.{class_view}
use Rattle.class_index.specs.Answers.{Indexes}
use Rattle.found_members.proofs.Indexing.{indexed_so_far}
use Rattle.found_members.proofs.found_names.indexes.Goals as goal

pub loop-class-preserved : goal.loop-class-preserved
loop-class-preserved c =
    let i = c.loop-class.class-index in
    let within : i < length c.args.classes.now = omega arith in (
      search rules,
      indexed_so_far c.loop-class.own.items c.in_ok-of.field-0 c.args.classes.now i c.class-item.result c.push.new.self.items within
          (search rules) c.loop-class.invariant.1
          (subst (λ (x : ClassDef). Indexes c.in_ok-of.field-0 (class_view x)) c.class-item.is c.in_ok-of.ensures) c.in_ok-push.ensures.items,
    )
