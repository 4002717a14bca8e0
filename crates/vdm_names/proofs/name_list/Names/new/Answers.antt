use Rattle.std.proofs.Common.{map, sym, ap, subst}
use Rattle.std.specs.String.{string_bytes}
use Rattle.std.proofs.Common.{Global}
use Rattle.vdm_names.specs.Numbering.{IsNumbered}
use Rattle.vdm_names.proofs.Numbers.{IsNumbered-empty}
use Rattle.vdm_names.proofs.name_list.Names.new.Goals as goal

pub invariant_of-names : goal.invariant_of-names
invariant_of-names c =
    subst (λ items. IsNumbered c.new-2.result (map string_bytes items)) (sym c.new.ensures.items) (IsNumbered-empty c.new-2.result c.new-2.ensures.empty)
