-- No operator invents an object.
use Rattle.std.proofs.Common.{ℕ, IfOk}
use Rattle.vdm_kinds.specs.declared.name.Name.{Name}
use Rattle.vdm_kinds.specs.declared.operator.Operator.{Operator}
use Rattle.abstract_syntax.specs.Values.{ValueTree, sequence}
use Rattle.value_operators.specs.Operators.{Topic, sets, sequences, maps, left, topic_of, by_left_operand, one_by, two_by, applied_one, applied_two}
use Rattle.value_parts.specs.Objects.{EachObject}
use Rattle.value_parts.proofs.SetObjects.{sets_one_keeps, sets_two_keeps}
use Rattle.value_parts.proofs.SequenceObjects.{sequences_one_keeps, sequences_two_keeps}
use Rattle.value_parts.proofs.MapObjects.{maps_one_keeps, maps_two_keeps}

module _ (P : ℕ → Name → Type 0) where
  one_by_keeps : (topic : Topic) (operator : Operator) (a : ValueTree) → EachObject P a → IfOk (one_by topic operator a) (EachObject P)
  one_by_keeps sets = sets_one_keeps P
  one_by_keeps sequences = sequences_one_keeps P
  one_by_keeps maps = maps_one_keeps P
  one_by_keeps left = λ operator a h. tt

  by_left_keeps : (operator : Operator) (a b : ValueTree) → EachObject P a → EachObject P b → IfOk (by_left_operand operator a b) (EachObject P)
  by_left_keeps operator (sequence vs) b h j = sequences_two_keeps P operator (sequence vs) b h j
  by_left_keeps operator a b h j = maps_two_keeps P operator a b h j

  two_by_keeps : (topic : Topic) (operator : Operator) (a b : ValueTree) → EachObject P a → EachObject P b → IfOk (two_by topic operator a b) (EachObject P)
  two_by_keeps sets = sets_two_keeps P
  two_by_keeps sequences = sequences_two_keeps P
  two_by_keeps maps = maps_two_keeps P
  two_by_keeps left = by_left_keeps

  pub applied_one_keeps : (operator : Operator) (a : ValueTree) → EachObject P a → IfOk (applied_one operator a) (EachObject P)
  applied_one_keeps operator = one_by_keeps (topic_of operator) operator

  pub applied_two_keeps : (operator : Operator) (a b : ValueTree) → EachObject P a → EachObject P b → IfOk (applied_two operator a b) (EachObject P)
  applied_two_keeps operator = two_by_keeps (topic_of operator) operator
