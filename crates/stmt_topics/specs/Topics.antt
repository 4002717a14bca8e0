-- What kinds of statements there are to the checker.
use Rattle.abstract_syntax.specs.Statements.{
  StmtTree,
  block,
  let_then,
  let_be_then,
  def_then,
  if_then,
  cases_then,
  while_do,
  for_numbers,
  for_set,
  for_sequence,
  trap_exit,
  trap_exits,
  always_after,
  in_parallel,
}
use Rattle.stmt_topics.specs.declared.topic.Topic.{Topic}
use Rattle.stmt_topics.specs.declared.topic.Topic.TheVariants.{Simple, Bound, Chosen}

abbrev pub topic_of : StmtTree → Topic
topic_of (block locals all place) = Bound
topic_of (let_then definitions body place) = Bound
topic_of (let_be_then bind condition body place) = Bound
topic_of (def_then pattern value body place) = Bound
topic_of (for_numbers name name_place first last step body place) = Bound
topic_of (for_set pattern set body place) = Bound
topic_of (for_sequence pattern sequence body place) = Bound
topic_of (trap_exit pattern handler body place) = Bound
topic_of (if_then condition body elseifs otherwise place) = Chosen
topic_of (cases_then subject alternatives others place) = Chosen
topic_of (while_do condition body place) = Chosen
topic_of (trap_exits all body place) = Chosen
topic_of (always_after last body place) = Chosen
topic_of (in_parallel all place) = Chosen
topic_of _ = Simple
