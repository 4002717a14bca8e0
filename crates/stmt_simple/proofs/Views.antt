-- The pure tree of each kind of statement in which no other stands.
use Rattle.std.proofs.Common.{◌≡◌, ap, ◌∙◌, sym, map, option_map, rules}
use Rattle.abstract_syntax.specs.Statements.{assign, assign_together, call, errs, exits, returns, skips, start_thread, start_threads}
use Rattle.expr_tree.specs.View.{boxed_view}
use Rattle.vdm_tree.specs.StmtView.{assignment_view, stmt_view, target_view}
use Rattle.vdm_tree.specs.declared.stmt.Stmt as rust
use Rattle.vdm_tree.specs.declared.stmt.Stmt.{the_lemmas}
use Rattle.vdm_tree.specs.declared.stmt.Stmt.TheVariants.{rolls-Assign, rolls-AssignTogether, rolls-Call, rolls-Return, rolls-Exit, rolls-Start, rolls-StartList, rolls-Skip, rolls-Error}

pub view-Assign : (target : _) (value : _) (place : _) → stmt_view (rust.Assign target value place) ≡ assign (target_view target) (boxed_view value) place
view-Assign target value place = ap stmt_view (sym (rolls-Assign target value place)) ∙ search (rules, the_lemmas)

pub view-AssignTogether : (assignments : _) (place : _) → stmt_view (rust.AssignTogether assignments place) ≡ assign_together (map assignment_view assignments.items) place
view-AssignTogether assignments place = ap stmt_view (sym (rolls-AssignTogether assignments place)) ∙ search (rules, the_lemmas)

pub view-Call : (application : _) (place : _) → stmt_view (rust.Call application place) ≡ call (boxed_view application) place
view-Call application place = ap stmt_view (sym (rolls-Call application place)) ∙ search (rules, the_lemmas)

pub view-Return : (value : _) (place : _) → stmt_view (rust.Return value place) ≡ returns (option_map boxed_view value) place
view-Return value place = ap stmt_view (sym (rolls-Return value place)) ∙ search (rules, the_lemmas)

pub view-Exit : (value : _) (place : _) → stmt_view (rust.Exit value place) ≡ exits (option_map boxed_view value) place
view-Exit value place = ap stmt_view (sym (rolls-Exit value place)) ∙ search (rules, the_lemmas)

pub view-Start : (object : _) (place : _) → stmt_view (rust.Start object place) ≡ start_thread (boxed_view object) place
view-Start object place = ap stmt_view (sym (rolls-Start object place)) ∙ search (rules, the_lemmas)

pub view-StartList : (objects : _) (place : _) → stmt_view (rust.StartList objects place) ≡ start_threads (boxed_view objects) place
view-StartList objects place = ap stmt_view (sym (rolls-StartList objects place)) ∙ search (rules, the_lemmas)

pub view-Skip : (place : _) → stmt_view (rust.Skip place) ≡ skips place
view-Skip place = ap stmt_view (sym (rolls-Skip place)) ∙ search (rules, the_lemmas)

pub view-Error : (place : _) → stmt_view (rust.Error place) ≡ errs place
view-Error place = ap stmt_view (sym (rolls-Error place)) ∙ search (rules, the_lemmas)
