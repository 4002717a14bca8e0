use Rattle.std.proofs.Common.{rules, inl}
use Rattle.vdm_outside.proofs.mem_sink.MemSink.refuses_next.Goals as goal

pub returns-then-contains : goal.returns-then-contains
returns-then-contains c = (λ _. inl (search rules), λ _. search rules)
