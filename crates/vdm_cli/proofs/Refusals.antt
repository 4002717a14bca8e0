-- What is accepted has one answer, and no refusal.
use Rattle.std.specs.Prelude.{◌≡◌, ℕ, ◌≤◌, List, length, Option, Some, None, Result, Ok}
use Rattle.std.proofs.Common.{sym, ap, ◌∙◌, subst}
use Rattle.abstract_syntax.specs.Classes.{SpecTree}
use Rattle.abstract_syntax.specs.Expressions.{ExprTree}
use Rattle.run_journal.specs.declared.entry.Entry.{Entry}
use Rattle.vdm_kinds.specs.declared.spec_fault.SpecFault.{SpecFault}
use Rattle.report_texts.specs.Words.{Command, check, run, IsCommand}
use Rattle.text_phases.specs.Phases.{Read, read_spec, read_expr, refusal_in, refusal_behind, spec_refusal, first_refusal, IsChecked, IsAccepted, spec_limit}
use Rattle.vdm_cli.specs.Meant.{refusal_of, RunsBy, HasClasses, ChecksBy}
use Rattle.vdm_cli.specs.Headline.{Call, AcceptsTexts, ChecksSpec, RunsOf}
use Rattle.vdm_cli.proofs.AcceptedSpecs.{short}

-- ---- what is accepted is not refused

accepted_unrefused : (spec text : List ℕ) (names : List (List ℕ)) (tree : SpecTree) (expression : ExprTree) → IsAccepted spec text names tree expression → first_refusal spec text ≡ None
accepted_unrefused spec text names tree expression h =
    ap (λ (r : Read SpecTree). refusal_behind r text) h.specification ∙ ap refusal_in h.expression_tree

checked_unrefused : (spec : List ℕ) (tree : SpecTree) → IsChecked spec tree → spec_refusal spec ≡ None
checked_unrefused spec tree h = ap refusal_in h.specification

-- nothing is something
not_some : {A : Type 0} (o : Option A) (a : A) → o ≡ None → o ≡ Some a → ⊥
not_some o a none some = absurd (cc)

pub not_both : (spec text : List ℕ) (fault : SpecFault) (names : List (List ℕ)) (tree : SpecTree) (expression : ExprTree) → first_refusal spec text ≡ Some fault → IsAccepted spec text names tree expression → ⊥
not_both spec text fault names tree expression f h = not_some (first_refusal spec text) fault (accepted_unrefused spec text names tree expression h) f

pub not_checked : (spec : List ℕ) (fault : SpecFault) (tree : SpecTree) → spec_refusal spec ≡ Some fault → IsChecked spec tree → ⊥
not_checked spec fault tree f h = not_some (spec_refusal spec) fault (checked_unrefused spec tree h) f

-- ---- what is accepted has one answer

-- a pair that is read is one
one_pair : {A B E : Type 0} (read : Result (A × B) E) (a c : A) (b d : B) → read ≡ Ok (a, b) → read ≡ Ok (c, d) → (a ≡ c) × (b ≡ d)
one_pair {A = A} {B = B} read a c b d e f =
    let same : (a, b) ≡ (c, d) = cc in
    (ap (λ (pair : A × B). pair.0) same, ap (λ (pair : A × B). pair.1) same)

one_tree : (spec : List ℕ) (a b : SpecTree) → IsChecked spec a → IsChecked spec b → a ≡ b
one_tree spec a b h k = (one_pair (read_spec spec) h.names k.names a b h.specification k.specification).1

pub one_accepted : (spec text : List ℕ) (m n : List (List ℕ)) (a b : SpecTree) (e f : ExprTree) → IsAccepted spec text m a e → IsAccepted spec text n b f → (a ≡ b) × (e ≡ f) × (m ≡ n)
one_accepted spec text m n a b e f h k =
    let same = one_pair (read_spec spec) h.first k.first a b h.specification k.specification in
    let other : read_expr h.first a text ≡ Ok (n, f) =
    subst (λ (t : SpecTree). read_expr h.first t text ≡ Ok (n, f)) (sym same.1)
    (subst (λ (first : List (List ℕ)). read_expr first b text ≡ Ok (n, f)) (sym same.0) k.expression_tree) in
    let both = one_pair (read_expr h.first a text) m n e f h.expression_tree other in
    (same.1, both.1, both.0)

-- the classes of a specification are counted once
pub same_count : (spec : List ℕ) (tree : SpecTree) (classes : ℕ) → IsChecked spec tree → HasClasses spec classes → classes ≡ length tree.classes
same_count spec tree classes h c = c.count ∙ ap (λ (t : SpecTree). length t.classes) (one_tree spec c.tree tree c.accepted h)

-- ---- by the command

pub run_unrefused : (command : Command) (spec : List ℕ) (names : List (List ℕ)) (journal : List Entry) (fault : SpecFault) → RunsBy command spec names journal → refusal_of command spec ≡ Some fault → ⊥
run_unrefused check spec names journal fault r f = absurd r
run_unrefused (run text limits log) spec names journal fault r f = not_both spec text fault names r.tree r.expression f r.accepted

pub count_unrefused : (command : Command) (spec : List ℕ) (classes : ℕ) (fault : SpecFault) → ChecksBy command spec classes → refusal_of command spec ≡ Some fault → ⊥
count_unrefused check spec classes fault c f = not_checked spec fault c.tree f c.accepted
count_unrefused (run text limits log) spec classes fault c f = absurd c

pub run_short : (command : Command) (spec : List ℕ) (names : List (List ℕ)) (journal : List Entry) → RunsBy command spec names journal → length spec ≤ spec_limit
run_short check spec names journal r = absurd r
run_short (run text limits log) spec names journal r = short spec (r.accepted.first, r.tree) r.accepted.specification

pub count_short : (command : Command) (spec : List ℕ) (classes : ℕ) → ChecksBy command spec classes → length spec ≤ spec_limit
count_short check spec classes c = short spec (c.accepted.names, c.tree) c.accepted.specification
count_short (run text limits log) spec classes c = absurd c

pub accepts_by : (words : List (List ℕ)) (command : Command) (spec : List ℕ) (names : List (List ℕ)) (journal : List Entry) → IsCommand words command → RunsBy command spec names journal → AcceptsTexts words spec
accepts_by words check spec names journal c r = absurd r
accepts_by words (run text limits log) spec names journal c r = (text, limits, names, r.tree, r.expression, (log, c), r.accepted)

pub counts_by : (words : List (List ℕ)) (command : Command) (spec : List ℕ) (classes : ℕ) → IsCommand words command → ChecksBy command spec classes → ChecksSpec words spec classes
counts_by words check spec classes c h = (c, h)
counts_by words (run text limits log) spec classes c h = absurd h

pub runs_of : (call : Call) (spec : List ℕ) (names : List (List ℕ)) (command : Command) → IsCommand call.words command → RunsBy command spec names call.report.journal → RunsOf call spec
runs_of call spec names check c r = absurd r
runs_of call spec names (run text limits log) c r = record { text = text; limits = limits; names = names; command = (log, c); runs = r }
