-- What is done with the value of an assignment.
use Rattle.std.specs.Prelude.{ℕ, List, Option, Some, None, Vec}
use Rattle.std.specs.Borrow.{Bor}
use Rattle.std.specs.declared.alloc.Global.{Global}
use Rattle.run_journal.specs.declared.write.Write.{Write}
use Rattle.vdm_tree.specs.declared.target.Assignment.{Assignment}
use Rattle.step_data.specs.declared.assigning.Kept.{Kept}
use Rattle.step_data.specs.declared.assigning.Kept.TheVariants.{Stored, Joined}

abbrev pub kept_as : Option (Option ℕ × Vec Write Global × Bor (List Assignment)) → Kept
kept_as None = Stored
kept_as (Some (object, pairs, left)) = Joined object pairs left
