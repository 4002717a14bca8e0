-- The pure tree of each kind of statement that binds or declares names for others.
use Rattle.std.proofs.Common.{◌≡◌, ap, ◌∙◌, sym, map, option_map, rules}
use Rattle.abstract_syntax.specs.Statements.{block, def_then, for_numbers, for_sequence, for_set, let_be_then, let_then, trap_exit}
use Rattle.expr_tree.specs.View.{bind_view, boxed_view, defined_trees, defined_view, pattern_view}
use Rattle.vdm_tree.specs.StmtView.{boxed_stmt, dcl_view, stmt_trees, stmt_view, stmt_views}
use Rattle.vdm_tree.specs.declared.stmt.Stmt as rust
use Rattle.vdm_tree.specs.declared.stmt.Stmt.{the_lemmas}
use Rattle.vdm_tree.specs.declared.stmt.Stmt.TheVariants.{rolls-Block, rolls-Let, rolls-LetBe, rolls-Def, rolls-ForNumbers, rolls-ForSet, rolls-ForSequence, rolls-Trap}

pub view-Block : (locals : _) (stmts : _) (place : _) → stmt_view (rust.Block locals stmts place) ≡ block (map dcl_view locals.items) (stmt_trees (stmt_views stmts.items)) place
view-Block locals stmts place = ap stmt_view (sym (rolls-Block locals stmts place)) ∙ search (rules, the_lemmas)

pub view-Let : (definitions : _) (body : _) (place : _) → stmt_view (rust.Let definitions body place) ≡ let_then (defined_trees (map defined_view definitions.items)) (boxed_stmt body) place
view-Let definitions body place = ap stmt_view (sym (rolls-Let definitions body place)) ∙ search (rules, the_lemmas)

pub view-LetBe : (bind : _) (condition : _) (body : _) (place : _) → stmt_view (rust.LetBe bind condition body place) ≡ let_be_then (bind_view bind.value) (option_map boxed_view condition) (boxed_stmt body) place
view-LetBe bind condition body place = ap stmt_view (sym (rolls-LetBe bind condition body place)) ∙ search (rules, the_lemmas)

pub view-Def : (pattern : _) (value : _) (body : _) (place : _) → stmt_view (rust.Def pattern value body place) ≡ def_then (pattern_view pattern.value) (boxed_view value) (boxed_stmt body) place
view-Def pattern value body place = ap stmt_view (sym (rolls-Def pattern value body place)) ∙ search (rules, the_lemmas)

pub view-ForNumbers : (name : _) (name_place : _) (first : _) (last : _) (step : _) (body : _) (place : _) → stmt_view (rust.ForNumbers name name_place first last step body place) ≡ for_numbers name name_place (boxed_view first) (boxed_view last) (option_map boxed_view step) (boxed_stmt body) place
view-ForNumbers name name_place first last step body place = ap stmt_view (sym (rolls-ForNumbers name name_place first last step body place)) ∙ search (rules, the_lemmas)

pub view-ForSet : (pattern : _) (set : _) (body : _) (place : _) → stmt_view (rust.ForSet pattern set body place) ≡ for_set (pattern_view pattern.value) (boxed_view set) (boxed_stmt body) place
view-ForSet pattern set body place = ap stmt_view (sym (rolls-ForSet pattern set body place)) ∙ search (rules, the_lemmas)

pub view-ForSequence : (pattern : _) (sequence : _) (body : _) (place : _) → stmt_view (rust.ForSequence pattern sequence body place) ≡ for_sequence (pattern_view pattern.value) (boxed_view sequence) (boxed_stmt body) place
view-ForSequence pattern sequence body place = ap stmt_view (sym (rolls-ForSequence pattern sequence body place)) ∙ search (rules, the_lemmas)

pub view-Trap : (pattern : _) (handler : _) (body : _) (place : _) → stmt_view (rust.Trap pattern handler body place) ≡ trap_exit (pattern_view pattern.value) (boxed_stmt handler) (boxed_stmt body) place
view-Trap pattern handler body place = ap stmt_view (sym (rolls-Trap pattern handler body place)) ∙ search (rules, the_lemmas)
