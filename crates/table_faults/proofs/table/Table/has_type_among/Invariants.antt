use Rattle.std.proofs.Common.{◌≡◌, ℕ, drop, is_some}
use Rattle.std.specs.List.{list_any}
use Rattle.class_meaning.specs.declared.ask.Ask.TheVariants.{AsType}
use Rattle.class_meaning.specs.Found.{own_in}
use Rattle.table_faults.specs.Tables.{spec_in}
use Rattle.table_faults.proofs.table.Table.has_type_among.Given as goal

-- none so far has it, so that the others decide
abbrev pub invariant-loop-owner : goal.invariant-loop-owner
invariant-loop-owner l =
    list_any (λ (a : ℕ). is_some (own_in (spec_in l.self) (AsType l.name) a)) (drop l.owner-index l.owners)
    ≡ list_any (λ (a : ℕ). is_some (own_in (spec_in l.self) (AsType l.name) a)) l.owners
