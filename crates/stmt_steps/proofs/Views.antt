-- The pure trees of statements with lists or choices in them.
use Rattle.std.proofs.Common.{◌≡◌, ap, ◌∙◌, sym, map, option_map, rules}
use Rattle.abstract_syntax.specs.Statements.{if_then, cases_then, trap_exits, let_be_then, def_then}
use Rattle.expr_tree.specs.View.{bind_view, boxed_view, pattern_view}
use Rattle.vdm_tree.specs.StmtView.{boxed_stmt, handler_trees, handler_view, maybe_stmt, stmt_branch_trees, stmt_branch_view, stmt_case_trees, stmt_case_view, stmt_view}
use Rattle.vdm_tree.specs.declared.stmt.Stmt as rust
use Rattle.vdm_tree.specs.declared.stmt.Stmt.{the_lemmas}
use Rattle.vdm_tree.specs.declared.stmt.Stmt.TheVariants.{rolls-If, rolls-Cases, rolls-Tixe, rolls-LetBe, rolls-Def}

pub view-If : (condition : _) (body : _) (elseifs : _) (otherwise : _) (place : _) → stmt_view (rust.If condition body elseifs otherwise place) ≡ if_then (boxed_view condition) (boxed_stmt body) (stmt_branch_trees (map stmt_branch_view elseifs.items)) (maybe_stmt otherwise) place
view-If condition body elseifs otherwise place = ap stmt_view (sym (rolls-If condition body elseifs otherwise place)) ∙ search (rules, the_lemmas)

pub view-Cases : (subject : _) (cases : _) (others : _) (place : _) → stmt_view (rust.Cases subject cases others place) ≡ cases_then (boxed_view subject) (stmt_case_trees (map stmt_case_view cases.items)) (maybe_stmt others) place
view-Cases subject cases others place = ap stmt_view (sym (rolls-Cases subject cases others place)) ∙ search (rules, the_lemmas)

pub view-Tixe : (handlers : _) (body : _) (place : _) → stmt_view (rust.Tixe handlers body place) ≡ trap_exits (handler_trees (map handler_view handlers.items)) (boxed_stmt body) place
view-Tixe handlers body place = ap stmt_view (sym (rolls-Tixe handlers body place)) ∙ search (rules, the_lemmas)

pub view-LetBe : (bind : _) (condition : _) (body : _) (place : _) → stmt_view (rust.LetBe bind condition body place) ≡ let_be_then (bind_view bind.value) (option_map boxed_view condition) (boxed_stmt body) place
view-LetBe bind condition body place = ap stmt_view (sym (rolls-LetBe bind condition body place)) ∙ search (rules, the_lemmas)

pub view-Def : (pattern : _) (tree : _) (body : _) (place : _) → stmt_view (rust.Def pattern tree body place) ≡ def_then (pattern_view pattern.value) (boxed_view tree) (boxed_stmt body) place
view-Def pattern tree body place = ap stmt_view (sym (rolls-Def pattern tree body place)) ∙ search (rules, the_lemmas)
