-- Record types by their class and their name.
use Rattle.vdm_kinds.specs.declared.name.Name.{Name}
use Rattle.pattern_meaning.specs.RecordTypes.{RecordType}

-- the record type of this class and this name
abbrev pub record_type_of_names : Name × Name → RecordType
record_type_of_names names = record { class = names.0; name = names.1 }
