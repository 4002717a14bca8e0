use Rattle.std.proofs.Common.{rules}
use Rattle.class_builder.proofs.blocks.read_block.Goals as goal

pub returns-in-Thread : goal.returns-in-Thread
returns-in-Thread c = let read = c.thread_block.ensures c.args.class in search rules
