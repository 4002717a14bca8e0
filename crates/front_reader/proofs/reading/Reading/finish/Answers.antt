use Rattle.front_reader.proofs.AtEnd.{never_taken}
use Rattle.front_reader.proofs.reading.Reading.finish.Goals as goal

pub returns-in-Takes : goal.returns-in-Takes
returns-in-Takes c = absurd (never_taken c.args.self.now.wanted _ c.meet.new.self c.in-Takes.ensures)
