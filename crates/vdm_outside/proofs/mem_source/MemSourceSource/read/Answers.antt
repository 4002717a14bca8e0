use Rattle.std.proofs.Common.{rules}
use Rattle.std.proofs.lemmas.List.{take_rest}
use Rattle.vdm_outside.proofs.Moved.{moved_and_rest, end_of_none}
use Rattle.vdm_outside.proofs.mem_source.MemSourceSource.read.Goals as goal

pub returns-clause-bytes : goal.returns-clause-bytes
returns-clause-bytes c =
    let whole = take_rest c.self.inside.bytes.items c.self.inside.next in
    let front = rw (c.deref-2.ensures.value, whole) at c.copy_front-count.ensures.front in
    let count = rw (c.deref-2.ensures.value, whole) at c.copy_front-count.ensures.count in
    (search (rules, moved_and_rest), search (rules, end_of_none))
