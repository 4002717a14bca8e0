use Rattle.std.proofs.Common.{◌≡◌, ◌-◌}
use Rattle.grammar_words.specs.declared.word.Word.TheVariants.{Comma}
use Rattle.stmt_reading.specs.Leaves.{further, list_in, name_in}
use Rattle.definition_parts.specs.Parts.{put_all}
use Rattle.definition_parts.proofs.names.read_names.Given as goal

-- what was read, and what is read in the turns that are left, is what is read in all
abbrev pub invariant-loop-turn : goal.invariant-loop-turn
invariant-loop-turn l =
    list_in Comma name_in l.fn.source ≡ put_all l.names.items (further Comma name_in (l.turns - l._turn) l.source)
