-- The words of binds are read.
use Rattle.std.proofs.Common.{List, [], ◌∷◌, ◌++◌, refl}
use Rattle.vdm_kinds.specs.declared.sign.Sign.TheVariants.{InSet}
use Rattle.abstract_syntax.specs.Expressions.{ExprTree, MaybeExpr, BindTree, BindTrees, left_out, given_expr, bind_in, no_binds, one_bind, no_patterns, one_pattern}
use Rattle.grammar_words.specs.declared.word.Word.TheVariants as word_is
use Rattle.grammar_words.specs.Pulls.{far_pull}
use Rattle.grammar_words.specs.Written.{Written, word}
use Rattle.grammar_trees.specs.Spelling.{spelling, bind_spelling, binds_spelling, further_binds, pattern_spelling, patterns_spelling, further_patterns, behind_word, such_that}
use Rattle.grammar_trees.specs.Binding.{Binds, IsGiven, IsBind, AreBinds, AreSomeBinds}
use Rattle.grammar_fronts.specs.declared.wanted.Wanted.{Wanted}
use Rattle.grammar_fronts.specs.declared.wanted.Wanted.TheVariants as want
use Rattle.front_laws.proofs.Passing.{Reads, Follows, tok, follow, regroup}
use Rattle.front_laws.proofs.Claims.{ExprRead, within, pattern_within, GivenRead, BindRead, BindsRead}
use Rattle.front_laws.proofs.Parts.{more_bound}

-- one bind, of one pattern or more
pub bind_in-read : (bind : BindTree) → BindRead bind → IsBind bind → (behind : List Wanted) (a : List Written)
    → Follows a (want.BehindOperand ∷ behind) → Reads (bind_spelling bind ++ a) (want.Pattern ∷ want.BehindBound ∷ behind)
bind_in-read (bind_in no_patterns set) t b behind a f = absurd b.0
bind_in-read (bind_in (one_pattern p ps) set) t b behind a f =
    regroup (patterns_spelling (one_pattern p ps)) (word (word_is.Operator InSet) ∷ spelling set) a
    (regroup (pattern_spelling p) (further_patterns ps) (word (word_is.Operator InSet) ∷ (spelling set ++ a))
    (pattern_within t.0.0 b.1.0 (more_bound ps t.0.1 b.1.1 behind _ (tok (word (word_is.Operator InSet)) refl (within t.1 far_pull b.2 (f))))))

pub more_binds : (bs : BindTrees) → BindsRead bs → AreBinds bs → (behind : List Wanted) (a : List Written)
    → Follows a (want.BehindOperand ∷ want.MoreBinds ∷ behind) → Follows (further_binds bs ++ a) (want.BehindOperand ∷ want.MoreBinds ∷ behind)
more_binds no_binds t b behind a f = f
more_binds (one_bind bind bs) t b behind a f =
    follow (word word_is.Comma) refl refl refl (regroup (bind_spelling bind) (further_binds bs) a (bind_in-read bind t.0 b.0 (want.MoreBinds ∷ behind) _ (more_binds bs t.1 b.1 behind a f)))

pub binds_in : (bs : BindTrees) → BindsRead bs → AreBinds bs → AreSomeBinds bs → (behind : List Wanted) (a : List Written)
    → Follows a (want.BehindOperand ∷ want.MoreBinds ∷ behind)
    → Reads (binds_spelling bs ++ a) (want.Pattern ∷ want.BehindBound ∷ want.MoreBinds ∷ behind)
binds_in no_binds t b some behind a f = absurd some
binds_in (one_bind bind bs) t b some behind a f =
    regroup (bind_spelling bind) (further_binds bs) a (bind_in-read bind t.0 b.0 (want.MoreBinds ∷ behind) _ (more_binds bs t.1 b.1 behind a f))

-- the condition of a comprehension, and its bracket
pub condition_in_curly : (c : MaybeExpr) → GivenRead c → IsGiven c → (behind : List Wanted) (a : List Written) → Reads a behind
    → Follows ((behind_word word_is.Ampersand c ++ (word word_is.CloseCurly ∷ [])) ++ a)
    (want.BehindOperand ∷ want.MoreBinds ∷ want.Condition ∷ want.CloseCurly ∷ behind)
condition_in_curly left_out t b behind a r = follow (word word_is.CloseCurly) refl refl refl (r)
condition_in_curly (given_expr e) t b behind a r =
    follow (word word_is.Ampersand) refl refl refl (regroup (spelling e) _ a (within t far_pull b (follow (word word_is.CloseCurly) refl refl refl (r))))

pub condition_in_square : (c : MaybeExpr) → GivenRead c → IsGiven c → (behind : List Wanted) (a : List Written) → Reads a behind
    → Follows ((behind_word word_is.Ampersand c ++ (word word_is.CloseSquare ∷ [])) ++ a)
    (want.BehindOperand ∷ want.Condition ∷ want.CloseSquare ∷ behind)
condition_in_square left_out t b behind a r = follow (word word_is.CloseSquare) refl refl refl (r)
condition_in_square (given_expr e) t b behind a r =
    follow (word word_is.Ampersand) refl refl refl (regroup (spelling e) _ a (within t far_pull b (follow (word word_is.CloseSquare) refl refl refl (r))))

-- `be st` and a condition or not, `in` and a body
pub such_in : (c : MaybeExpr) (body : ExprTree) → GivenRead c → ExprRead body → IsGiven c → Binds body far_pull → (behind : List Wanted)
    (a : List Written) → Follows a (want.BehindOperand ∷ behind)
    → Follows ((such_that c ++ (word word_is.In ∷ spelling body)) ++ a)
    (want.BehindOperand ∷ want.SuchThat ∷ want.In ∷ want.Expression ∷ behind)
such_in left_out body t u b d behind a f = follow (word word_is.In) refl refl refl (within u far_pull d (f))
such_in (given_expr e) body t u b d behind a f =
    follow (word word_is.Be) refl refl refl (tok (word word_is.St) refl (regroup (spelling e) _ a (within t far_pull b (follow (word word_is.In) refl refl refl (within u far_pull d (f))))))
