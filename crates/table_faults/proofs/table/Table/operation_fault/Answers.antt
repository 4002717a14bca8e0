use Rattle.std.proofs.Common.{◌≡◌, ℕ, List, length, ap, sym, ◌∙◌, arith}
use Rattle.std.proofs.lemmas.List.{length-map}
use Rattle.vdm_kinds.specs.declared.name.Name.{Name}
use Rattle.expr_tree.specs.declared.pattern.Pattern.{Pattern}
use Rattle.expr_tree.specs.View.{pattern_view, pattern_views}
use Rattle.table_faults.specs.declared.seen.Shape.TheVariants.{Operation}
use Rattle.table_faults.specs.Firsts.{Clashing, with_member}
use Rattle.table_faults.specs.Known.{known_of}
use Rattle.table_faults.proofs.table.Table.operation_fault.Goals as goal

-- as many patterns as their trees
as_many : (old new : Clashing) (name : Name) (patterns : List Pattern) (count : ℕ) → count ≡ length patterns
    → new ≡ with_member old name (Operation count) → new ≡ with_member old name (Operation (length (pattern_views patterns)))
as_many old new name patterns count is noted =
    noted ∙ ap (λ (n : ℕ). with_member old name (Operation n)) (is ∙ sym (length-map patterns pattern_view))

pub returns-in-Some-clause-noted : goal.returns-in-Some-clause-noted
returns-in-Some-clause-noted c =
    let len = c.len-count.ensures in
    let whole = c.args.operation.now.patterns.ok.0 in
    let counted : c.len-count.result ≡ length c.args.operation.now.patterns.items = omega arith in
    as_many (known_of c.args.seen.now) (known_of c.note.new.self) c.args.operation.now.name c.args.operation.now.patterns.items c.len-count.result
    counted c.in_ok-clashes.ensures.noted

pub returns-clause-noted : goal.returns-clause-noted
returns-clause-noted c =
    let len = c.len-count.ensures in
    let whole = c.args.operation.now.patterns.ok.0 in
    let counted : c.len-count.result ≡ length c.args.operation.now.patterns.items = omega arith in
    as_many (known_of c.args.seen.now) (known_of c.note.new.self) c.args.operation.now.name c.args.operation.now.patterns.items c.len-count.result
    counted c.in_ok-clashes.ensures.noted
