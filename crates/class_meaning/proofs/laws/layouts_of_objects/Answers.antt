use Rattle.class_meaning.proofs.Layouts.{layout_has, layout_kept, layout_own_last, layout_single, layout_apart}
use Rattle.class_meaning.proofs.laws.layouts_of_objects.Goals as goal

pub returns-clause-has : goal.returns-clause-has
returns-clause-has c = λ spec k v. layout_has spec k v

pub returns-clause-single : goal.returns-clause-single
returns-clause-single c = λ spec k s t e. layout_single spec k s t e

pub returns-clause-apart : goal.returns-clause-apart
returns-clause-apart c = λ spec k fine. layout_apart spec fine k

pub returns-clause-kept : goal.returns-clause-kept
returns-clause-kept c = λ spec k s v t is in_it. layout_kept spec k s v t is in_it

pub returns-clause-own_last : goal.returns-clause-own_last
returns-clause-own_last c = λ spec k. layout_own_last spec k
