-- What is made of a specification of which nothing is refused.
use Rattle.std.proofs.Common.{◌≡◌, ℕ, true, None, List, sym, subst}
use Rattle.abstract_syntax.specs.Classes.{SpecTree}
use Rattle.graph_cycles.specs.Graphs.{Graph, InRange, leads_to_no_cycle}
use Rattle.ancestor_lines.specs.Lines.{AreLines}
use Rattle.class_meaning.specs.Classes.{class_graph}
use Rattle.class_meaning.specs.Faults.{table_fault}
use Rattle.class_meaning.proofs.Ranges.{class_graph_in_range}
use Rattle.class_meaning.proofs.Settled.{classes_settle}

pub in_range : (spec : SpecTree) (g : Graph) → g ≡ class_graph spec → InRange g
in_range spec g e = subst InRange (sym e) (class_graph_in_range spec)

pub lines_of : (spec : SpecTree) (g : Graph) (lines : List (List ℕ)) → g ≡ class_graph spec → AreLines g lines → AreLines (class_graph spec) lines
lines_of spec g lines e h = subst (λ (x : Graph). AreLines x lines) e h

pub settled : (spec : SpecTree) → table_fault spec ≡ None → (k : ℕ) → leads_to_no_cycle (class_graph spec) k ≡ true
settled spec fine k = classes_settle spec fine k
