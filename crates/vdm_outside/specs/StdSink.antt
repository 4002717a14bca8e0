-- What a clause reads of a sink over a writer.
use Rattle.std.specs.Prelude.{ℕ}
use Rattle.vdm_outside.specs.declared.std_sink.StdSink.{StdSink}

abbrev pub writer_of : {W : Type 0} → StdSink W → W
writer_of s = s.writer

abbrev pub faults_of : {W : Type 0} → StdSink W → ℕ
faults_of s = s.faults
