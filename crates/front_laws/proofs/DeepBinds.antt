-- How deep binds are.
use Rattle.std.proofs.Common.{ℕ, ◌≤◌, max, List, [], ◌∷◌, ◌++◌, length, refl, arith}
use Rattle.vdm_kinds.specs.declared.sign.Sign.TheVariants.{InSet}
use Rattle.abstract_syntax.specs.Depth.{maybe_depth, bind_depth, binds_depth}
use Rattle.abstract_syntax.specs.Expressions.{ExprTree, MaybeExpr, BindTree, BindTrees, left_out, given_expr, bind_in, no_binds, one_bind, no_patterns, one_pattern}
use Rattle.grammar_words.specs.declared.word.Word.TheVariants as word_is
use Rattle.grammar_words.specs.Written.{Written, word}
use Rattle.grammar_trees.specs.Spelling.{spelling, bind_spelling, binds_spelling, further_binds, pattern_spelling, patterns_spelling, further_patterns, behind_word, such_that}
use Rattle.grammar_trees.specs.Binding.{IsGiven, IsBind, AreBinds, AreSomeBinds}
use Rattle.grammar_fronts.specs.declared.open_node.OpenNode.{OpenNode}
use Rattle.grammar_fronts.specs.declared.wanted.Wanted.{Wanted}
use Rattle.grammar_fronts.specs.declared.wanted.Wanted.TheVariants as want
use Rattle.front_laws.proofs.Fine.{Plain}
use Rattle.front_laws.proofs.Nests.{Own, At, regroup_own, weaken, next_word, word_behind}
use Rattle.front_laws.proofs.DeepClaims.{expr_part, pattern_part, weak, GivenDeep, BindDeep, BindsDeep}
use Rattle.front_laws.proofs.DeepParts.{more_bound}

pub plain_binds : (bs : BindTrees) (a : List Written) → Plain a → Plain (further_binds bs ++ a)
plain_binds no_binds a plain = plain
plain_binds (one_bind bind bs) a plain = (refl, refl)

pub bind_in-deep : (bind : BindTree) → BindDeep bind → IsBind bind → {below deep : ℕ} {nodes : List OpenNode} {behind : List Wanted} (a : List Written)
    → Own below deep nodes (bind_spelling bind ++ a) (want.Pattern ∷ want.BehindBound ∷ behind) → below ≤ length behind → Plain a
    → At below (max deep (bind_depth bind)) nodes want.BehindOperand behind a
bind_in-deep (bind_in no_patterns set) t b a o less plain = absurd b.0
bind_in-deep (bind_in (one_pattern p ps) set) t b a o less plain =
    weaken (omega arith) (expr_part t.1 b.2 (word_behind (more_bound ps t.0.1 b.1.1 (word (word_is.Operator InSet) ∷ (spelling set ++ a)) (pattern_part t.0.0 b.1.0 (regroup_own (pattern_spelling p) (further_patterns ps) (word (word_is.Operator InSet) ∷ (spelling set ++ a)) (regroup_own (patterns_spelling (one_pattern p ps)) (word (word_is.Operator InSet) ∷ spelling set) (a) (o))) (omega arith)) (omega arith)) refl (omega arith) (omega arith)) (omega arith) plain)

pub more_binds : (bs : BindTrees) → BindsDeep bs → AreBinds bs → {below deep : ℕ} {nodes : List OpenNode} {behind : List Wanted} (a : List Written)
    → At below deep nodes want.BehindOperand (want.MoreBinds ∷ behind) (further_binds bs ++ a) → below ≤ length behind → Plain a
    → At below (max deep (binds_depth bs)) nodes want.BehindOperand (want.MoreBinds ∷ behind) a
more_binds no_binds t b a p less plain = weaken (omega arith) (p)
more_binds (one_bind bind bs) t b a p less plain =
    weaken (omega arith) (more_binds bs t.1 b.1 a (bind_in-deep bind t.0 b.0 (further_binds bs ++ a) (regroup_own (bind_spelling bind) (further_binds bs) (a) (word_behind (p) refl (omega arith) (omega arith))) (omega arith) (plain_binds bs a plain)) less plain)

pub binds_in : (bs : BindTrees) → BindsDeep bs → AreBinds bs → AreSomeBinds bs → {below deep : ℕ} {nodes : List OpenNode} {behind : List Wanted} (a : List Written)
    → Own below deep nodes (binds_spelling bs ++ a) (want.Pattern ∷ want.BehindBound ∷ want.MoreBinds ∷ behind) → below ≤ length behind → Plain a
    → At below (max deep (binds_depth bs)) nodes want.BehindOperand (want.MoreBinds ∷ behind) a
binds_in no_binds t b some a o less plain = absurd some
binds_in (one_bind bind bs) t b some a o less plain =
    weaken (omega arith) (more_binds bs t.1 b.1 a (bind_in-deep bind t.0 b.0 (further_binds bs ++ a) (regroup_own (bind_spelling bind) (further_binds bs) (a) (o)) (omega arith) (plain_binds bs a plain)) less plain)

pub condition_in_curly : (c : MaybeExpr) → GivenDeep c → IsGiven c → {below deep : ℕ} {nodes : List OpenNode} {behind : List Wanted} (a : List Written)
    → At below deep nodes want.BehindOperand (want.MoreBinds ∷ want.Condition ∷ want.CloseCurly ∷ behind) ((behind_word word_is.Ampersand c ++ (word word_is.CloseCurly ∷ [])) ++ a) → below ≤ length behind
    → Own below (max deep (maybe_depth c)) nodes a behind
condition_in_curly left_out t b a p less = weak (word_behind (p) refl (omega arith) (omega arith)) (omega arith)
condition_in_curly (given_expr e) t b a p less =
    weak (word_behind (expr_part t b (regroup_own (spelling e) (word word_is.CloseCurly ∷ []) (a) (word_behind (p) refl (omega arith) (omega arith))) (omega arith) (refl, refl)) refl (omega arith) (omega arith)) (omega arith)

pub plain_condition_in_curly : (c : MaybeExpr) (a : List Written) → Plain ((behind_word word_is.Ampersand c ++ (word word_is.CloseCurly ∷ [])) ++ a)
plain_condition_in_curly left_out a = (refl, refl)
plain_condition_in_curly (given_expr e) a = (refl, refl)

pub condition_in_square : (c : MaybeExpr) → GivenDeep c → IsGiven c → {below deep : ℕ} {nodes : List OpenNode} {behind : List Wanted} (a : List Written)
    → At below deep nodes want.BehindOperand (want.Condition ∷ want.CloseSquare ∷ behind) ((behind_word word_is.Ampersand c ++ (word word_is.CloseSquare ∷ [])) ++ a) → below ≤ length behind
    → Own below (max deep (maybe_depth c)) nodes a behind
condition_in_square left_out t b a p less = weak (word_behind (p) refl (omega arith) (omega arith)) (omega arith)
condition_in_square (given_expr e) t b a p less =
    weak (word_behind (expr_part t b (regroup_own (spelling e) (word word_is.CloseSquare ∷ []) (a) (word_behind (p) refl (omega arith) (omega arith))) (omega arith) (refl, refl)) refl (omega arith) (omega arith)) (omega arith)

pub plain_condition_in_square : (c : MaybeExpr) (a : List Written) → Plain ((behind_word word_is.Ampersand c ++ (word word_is.CloseSquare ∷ [])) ++ a)
plain_condition_in_square left_out a = (refl, refl)
plain_condition_in_square (given_expr e) a = (refl, refl)

pub such_in : (c : MaybeExpr) (body : ExprTree) → GivenDeep c → IsGiven c → {below deep : ℕ} {nodes : List OpenNode} {behind : List Wanted} (a : List Written)
    → At below deep nodes want.BehindOperand (want.SuchThat ∷ want.In ∷ want.Expression ∷ behind) ((such_that c ++ (word word_is.In ∷ spelling body)) ++ a)
    → below ≤ length behind → Own below (max deep (maybe_depth c)) nodes (spelling body ++ a) (want.Expression ∷ behind)
such_in left_out body t b a p less = weak (word_behind (p) refl (omega arith) (omega arith)) (omega arith)
such_in (given_expr e) body t b a p less =
    weak (word_behind (expr_part t b (regroup_own (spelling e) (word word_is.In ∷ spelling body) (a) (next_word (word_behind (p) refl (omega arith) (omega arith)) refl (omega arith))) (omega arith) (refl, refl)) refl (omega arith) (omega arith)) (omega arith)

pub plain_such : (c : MaybeExpr) (body : ExprTree) (a : List Written) → Plain ((such_that c ++ (word word_is.In ∷ spelling body)) ++ a)
plain_such left_out body a = (refl, refl)
plain_such (given_expr e) body a = (refl, refl)
