-- The pure tree of each kind of statement that chooses between others or stands round them.
use Rattle.std.proofs.Common.{◌≡◌, ap, ◌∙◌, sym, map, rules}
use Rattle.abstract_syntax.specs.Statements.{always_after, cases_then, if_then, in_parallel, trap_exits, while_do}
use Rattle.expr_tree.specs.View.{boxed_view}
use Rattle.vdm_tree.specs.StmtView.{boxed_stmt, handler_trees, handler_view, maybe_stmt, stmt_branch_trees, stmt_branch_view, stmt_case_trees, stmt_case_view, stmt_trees, stmt_view, stmt_views}
use Rattle.vdm_tree.specs.declared.stmt.Stmt as rust
use Rattle.vdm_tree.specs.declared.stmt.Stmt.{the_lemmas}
use Rattle.vdm_tree.specs.declared.stmt.Stmt.TheVariants.{rolls-If, rolls-Cases, rolls-While, rolls-Tixe, rolls-Always, rolls-Parallel}

pub view-If : (condition : _) (body : _) (elseifs : _) (otherwise : _) (place : _) → stmt_view (rust.If condition body elseifs otherwise place) ≡ if_then (boxed_view condition) (boxed_stmt body) (stmt_branch_trees (map stmt_branch_view elseifs.items)) (maybe_stmt otherwise) place
view-If condition body elseifs otherwise place = ap stmt_view (sym (rolls-If condition body elseifs otherwise place)) ∙ search (rules, the_lemmas)

pub view-Cases : (subject : _) (cases : _) (others : _) (place : _) → stmt_view (rust.Cases subject cases others place) ≡ cases_then (boxed_view subject) (stmt_case_trees (map stmt_case_view cases.items)) (maybe_stmt others) place
view-Cases subject cases others place = ap stmt_view (sym (rolls-Cases subject cases others place)) ∙ search (rules, the_lemmas)

pub view-While : (condition : _) (body : _) (place : _) → stmt_view (rust.While condition body place) ≡ while_do (boxed_view condition) (boxed_stmt body) place
view-While condition body place = ap stmt_view (sym (rolls-While condition body place)) ∙ search (rules, the_lemmas)

pub view-Tixe : (handlers : _) (body : _) (place : _) → stmt_view (rust.Tixe handlers body place) ≡ trap_exits (handler_trees (map handler_view handlers.items)) (boxed_stmt body) place
view-Tixe handlers body place = ap stmt_view (sym (rolls-Tixe handlers body place)) ∙ search (rules, the_lemmas)

pub view-Always : (last : _) (body : _) (place : _) → stmt_view (rust.Always last body place) ≡ always_after (boxed_stmt last) (boxed_stmt body) place
view-Always last body place = ap stmt_view (sym (rolls-Always last body place)) ∙ search (rules, the_lemmas)

pub view-Parallel : (stmts : _) (place : _) → stmt_view (rust.Parallel stmts place) ≡ in_parallel (stmt_trees (stmt_views stmts.items)) place
view-Parallel stmts place = ap stmt_view (sym (rolls-Parallel stmts place)) ∙ search (rules, the_lemmas)
