use Rattle.std.proofs.Common.{◌≡◌, true, Option, Some, None, IsSome, is_some, option_map, ap, sym, refl, ◌∙◌}
use Rattle.vdm_tree.specs.ClassView.{class_view}
use Rattle.class_meaning.specs.Classes.{class_at, class_number}
use Rattle.spec_table.specs.Tables.{table_spec}
use Rattle.spec_table.proofs.Numbering.{class_of_number}
use Rattle.spec_table.proofs.table.ClassTable.class.Goals as goal

-- what gives something is something
there : {A B : Type 0} (f : A → B) (o : Option A) (m : Option B) → option_map f o ≡ m → is_some m ≡ true → IsSome o
there f None m e some = absurd (cc)
there f (Some a) m e some = refl

pub unwrap-requires : goal.unwrap-requires
unwrap-requires c =
    let spec = table_spec c.args.self.now in
    there _ c.class.result (class_at spec c.unwrap-number.result) c.class.ensures
    (class_of_number spec c.args.name c.unwrap-number.result (sym c.number.ensures ∙ c.unwrap-number.ensures))
