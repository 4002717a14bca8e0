-- What a clause reads of a source over a reader.
use Rattle.std.specs.Prelude.{ℕ}
use Rattle.vdm_outside.specs.declared.std_source.StdSource.{StdSource}

abbrev pub reader_of : {R : Type 0} → StdSource R → R
reader_of s = s.reader

abbrev pub faults_of : {R : Type 0} → StdSource R → ℕ
faults_of s = s.faults

abbrev pub reads_of : {R : Type 0} → StdSource R → ℕ
reads_of s = s.reads
