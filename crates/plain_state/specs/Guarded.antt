-- Of which class an object is that has invariants to keep.
use Rattle.std.specs.Prelude.{if◌then◌else◌, List, Option, Some, None}
use Rattle.std.specs.Option.{option_and_then}
use Rattle.vdm_kinds.specs.declared.name.Name.{Name}
use Rattle.abstract_syntax.specs.Classes.{SpecTree}
use Rattle.kept_invariants.specs.Presence.{has_invariants}
use Rattle.run_journal.specs.declared.entry.Entry.{Entry}
use Rattle.vdm_legal.specs.State.{instance_class}

abbrev pub guarded : SpecTree → Name → Option Name
guarded spec class = if has_invariants spec class then Some class else None

abbrev pub guarded_class : SpecTree → List Entry → Option Name
guarded_class spec entries = option_and_then (guarded spec) (instance_class entries)
