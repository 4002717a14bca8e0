-- Binds, comprehensions and quantified expressions are read.
use Rattle.std.proofs.Common.{◌≡◌, ℕ, List, [], ◌∷◌, ◌++◌, refl, sym, subst, arith}
use Rattle.abstract_syntax.specs.Expressions.{ExprTree, MaybeExpr, BindTree, BindTrees, PatternTree, PatternTrees, set_comprehension, map_comprehension, sequence_comprehension, for_all, exists_some, exists_one, iota_of, left_out, given_expr, bind_in, no_binds, one_bind, no_patterns, one_pattern}
use Rattle.grammar_words.specs.Pulls.{far_pull, closed}
use Rattle.grammar_trees.specs.Spelling.{spelling, bind_spelling, binds_spelling, further_binds, pattern_spelling, patterns_spelling, further_patterns}
use Rattle.grammar_trees.specs.Binding.{HasOnePattern, AreSomeBinds, Binds, IsBind, AreBinds, IsPattern, ArePatterns}
use Rattle.grammar_trees.specs.Lists.{then_binds, then_patterns, and_bind, and_pattern, only_pattern}
use Rattle.grammar_trees.specs.Frames.{BindsFor, Body, Frame, State, set_each, map_each, all_of, some_of, one_of, the_one, set_such, map_such, all_body, some_body, one_body, the_body, body, condition, bind_set, bind_patterns, wants, has, wants_pattern}
use Rattle.grammar_trees.specs.Machine.{in_mode, with_body, further_bound, TypeReader, step}
use Rattle.grammar_words.specs.Tokens.{plain}
use Rattle.grammar_words.specs.Written.{Written, word}
use Rattle.vdm_kinds.specs.declared.place.Place.{Place}
use Rattle.grammar_words.specs.declared.word.Word.{Word}
use Rattle.grammar_words.specs.declared.word.Word.TheVariants as word_is
use Rattle.vdm_kinds.specs.declared.sign.Sign.TheVariants as sign_is
use Rattle.grammar_trees.proofs.Ends.{reach-positive, word_below}
use Rattle.grammar_trees.proofs.Leading.{nothing_more, at_token, regroup, below_one, small, part, last_operand, Leads, Taken}
use Rattle.grammar_trees.proofs.Assoc.{binds-assoc, patterns-assoc}
use Rattle.grammar_trees.proofs.PatternParts.{below_closed, in_set_below, pattern_part, PatternsTaken, PatternTaken}
use Rattle.grammar_trees.proofs.ListsTaken.{GivenTaken}

abbrev pub BindTaken : TypeReader → BindTree → Type 0
BindTaken types (bind_in ps set) = PatternsTaken types ps × Taken types set

abbrev pub BindsTaken : TypeReader → BindTrees → Type 0
BindsTaken types no_binds = Unit {0}
BindsTaken types (one_bind b bs) = BindTaken types b × BindsTaken types bs

-- a further pattern may stand in the bind
abbrev IsFurther : BindsFor → Type 0
IsFurther for = (bs : BindTrees) (ps : PatternTrees) (place : Place) (fs : List Frame) → further_bound for bs ps place fs ≡ in_mode wants_pattern (bind_patterns for bs ps place ∷ fs)

-- the patterns of a bind, up to its `in set`
pub bound-leads : (types : TypeReader) (n : ℕ) (ws : List Written) (for : BindsFor) (bs : BindTrees) (ps done : PatternTrees) (p : PatternTree) (place : Place) (fs : List Frame) (after : State) → PatternTaken types p → PatternsTaken types ps → IsPattern p → ArePatterns ps → IsFurther for → Leads types n ws (in_mode wants (bind_set for bs (then_patterns done (one_pattern p ps)) place ∷ fs)) after → Leads types n (patterns_spelling (one_pattern p ps) ++ word (word_is.Operator sign_is.InSet) ∷ ws) (in_mode wants_pattern (bind_patterns for bs done place ∷ fs)) after
bound-leads types n ws for bs no_patterns done p place fs after t ts g gs f r =
    regroup (pattern_spelling p) [] (word (word_is.Operator sign_is.InSet) ∷ ws) (pattern_part p (word_is.Operator sign_is.InSet) t g tt in_set_below refl (λ spot. refl) r)
bound-leads types n ws for bs (one_pattern next ps) done p place fs after t ts g gs f r =
    regroup (pattern_spelling p) (further_patterns (one_pattern next ps)) (word (word_is.Operator sign_is.InSet) ∷ ws) (pattern_part p word_is.Comma t g tt below_closed refl (λ spot. f bs (and_pattern done p) place fs)
    (bound-leads types n ws for bs ps (and_pattern done p) next place fs after ts.0 ts.1 gs.0 gs.1 f
    (subst (λ (all : PatternTrees). Leads types n ws (in_mode wants (bind_set for bs all place ∷ fs)) after) (sym (patterns-assoc done (one_pattern p no_patterns) (one_pattern next ps))) r)))

-- what a word does behind the set of a bind
abbrev pub IsBehind : TypeReader → BindsFor → Word → Place → List Frame → (BindTrees → BindTree → State) → Type 0
IsBehind types for w place fs next = (bs : BindTrees) (ps : PatternTrees) (set : ExprTree) (spot : Place) → step types (in_mode (has set) (bind_set for bs ps place ∷ fs)) (plain w spot) ≡ next bs (bind_in ps set)

-- a bind, and the word behind it
pub bind-leads : (types : TypeReader) (n : ℕ) (ws : List Written) (for : BindsFor) (bs : BindTrees) (b : BindTree) (w : Word) (place : Place) (fs : List Frame) (next : BindTrees → BindTree → State) (after : State) → BindTaken types b → IsBind b → IsFurther for → word_below w 1 → IsBehind types for w place fs next → Leads types n ws (next bs b) after → Leads types n (bind_spelling b ++ word w ∷ ws) (in_mode wants_pattern (bind_patterns for bs no_patterns place ∷ fs)) after
bind-leads types n ws for bs (bind_in no_patterns set) w place fs next after t g f c s r = absurd g.0
bind-leads types n ws for bs (bind_in (one_pattern p ps) set) w place fs next after t g f c s r =
    regroup (patterns_spelling (one_pattern p ps)) (word (word_is.Operator sign_is.InSet) ∷ spelling set) (word w ∷ ws)
    (bound-leads types n (spelling set ++ word w ∷ ws) for bs ps no_patterns p place fs after t.0.0 t.0.1 g.1.0 g.1.1 f
    (part set w t.1 g.2 c small (λ spot. s bs (one_pattern p ps) set spot) r))

-- binds, and the word behind them
further-leads : (types : TypeReader) (n : ℕ) (ws : List Written) (for : BindsFor) (bs done : BindTrees) (b : BindTree) (w : Word) (place : Place) (fs : List Frame) (final : BindTrees → State) (after : State) → BindTaken types b → BindsTaken types bs → IsBind b → AreBinds bs → IsFurther for → word_below w 1 → IsBehind types for word_is.Comma place fs (λ (ds : BindTrees) (d : BindTree). in_mode wants_pattern (bind_patterns for (and_bind ds d) no_patterns place ∷ fs)) → IsBehind types for w place fs (λ (ds : BindTrees) (d : BindTree). final (and_bind ds d)) → Leads types n ws (final (then_binds done (one_bind b bs))) after → Leads types n (binds_spelling (one_bind b bs) ++ word w ∷ ws) (in_mode wants_pattern (bind_patterns for done no_patterns place ∷ fs)) after
further-leads types n ws for no_binds done b w place fs final after t ts g gs f c q s r =
    regroup (bind_spelling b) [] (word w ∷ ws) (bind-leads types n ws for done b w place fs (λ (ds : BindTrees) (d : BindTree). final (and_bind ds d)) after t g f c s r)
further-leads types n ws for (one_bind next bs) done b w place fs final after t ts g gs f c q s r =
    regroup (bind_spelling b) (further_binds (one_bind next bs)) (word w ∷ ws)
    (bind-leads types n (binds_spelling (one_bind next bs) ++ word w ∷ ws) for done b word_is.Comma place fs (λ (ds : BindTrees) (d : BindTree). in_mode wants_pattern (bind_patterns for (and_bind ds d) no_patterns place ∷ fs)) after t g f below_one q
    (further-leads types n ws for bs (and_bind done b) next w place fs final after ts.0 ts.1 gs.0 gs.1 f c q s
    (subst (λ (all : BindTrees). Leads types n ws (final all) after) (sym (binds-assoc done (one_bind b no_binds) (one_bind next bs))) r)))

pub binds-leads : (types : TypeReader) (n : ℕ) (ws : List Written) (for : BindsFor) (bs : BindTrees) (w : Word) (place : Place) (fs : List Frame) (final : BindTrees → State) (after : State) → BindsTaken types bs → AreSomeBinds bs → AreBinds bs → IsFurther for → word_below w 1 → IsBehind types for word_is.Comma place fs (λ (ds : BindTrees) (d : BindTree). in_mode wants_pattern (bind_patterns for (and_bind ds d) no_patterns place ∷ fs)) → IsBehind types for w place fs (λ (ds : BindTrees) (d : BindTree). final (and_bind ds d)) → Leads types n ws (final bs) after → Leads types n (binds_spelling bs ++ word w ∷ ws) (in_mode wants_pattern (bind_patterns for no_binds no_patterns place ∷ fs)) after
binds-leads types n ws for no_binds w place fs final after t h g f c q s r = absurd h
binds-leads types n ws for (one_bind b bs) w place fs final after t h g f c q s r =
    further-leads types n ws for bs no_binds b w place fs final after t.0 t.1 g.0 g.1 f c q s r

-- ---- comprehensions

pub set_comprehension-taken : (types : TypeReader) (element : ExprTree) (binds : BindTrees) (such : MaybeExpr) (place : Place) → Taken types element → BindsTaken types binds → GivenTaken types such → Taken types (set_comprehension element binds such place)
set_comprehension-taken types element binds left_out place t u v =
    record {
      taken = λ m fs b p. at_token (plain word_is.OpenCurly place) refl (part element word_is.Bar t b.0 below_one small (λ spot. refl)
          (binds-leads types closed [] (set_each element) binds word_is.CloseCurly place fs (λ (bs : BindTrees). in_mode (has (set_comprehension element bs left_out place)) fs) _ u b.1 b.2 (λ bs ps spot gs. refl) below_one
          (λ bs ps set spot. refl) (λ bs ps set spot. refl) nothing_more));
    }
set_comprehension-taken types element binds (given_expr e) place t u v =
    record {
      taken = λ m fs b p. at_token (plain word_is.OpenCurly place) refl (part element word_is.Bar t b.0 below_one small (λ spot. refl)
          (binds-leads types closed (spelling e ++ word word_is.CloseCurly ∷ []) (set_each element) binds word_is.Ampersand place fs (λ (bs : BindTrees). in_mode wants (condition (set_such element bs) place ∷ fs)) _ u b.1 b.2 (λ bs ps spot gs. refl) below_one
          (λ bs ps set spot. refl) (λ bs ps set spot. refl) (part e word_is.CloseCurly v b.3 below_one small (λ spot. refl) nothing_more)));
    }

pub map_comprehension-taken : (types : TypeReader) (key value : ExprTree) (binds : BindTrees) (such : MaybeExpr) (place : Place) → Taken types key → Taken types value → BindsTaken types binds → GivenTaken types such → Taken types (map_comprehension key value binds such place)
map_comprehension-taken types key value binds left_out place t w u v =
    record {
      taken = λ m fs b p. at_token (plain word_is.OpenCurly place) refl (part key word_is.MapsTo t b.0 below_one small (λ spot. refl) (part value word_is.Bar w b.1 below_one small (λ spot. refl)
          (binds-leads types closed [] (map_each key value) binds word_is.CloseCurly place fs (λ (bs : BindTrees). in_mode (has (map_comprehension key value bs left_out place)) fs) _ u b.2 b.3 (λ bs ps spot gs. refl) below_one
          (λ bs ps set spot. refl) (λ bs ps set spot. refl) nothing_more)));
    }
map_comprehension-taken types key value binds (given_expr e) place t w u v =
    record {
      taken = λ m fs b p. at_token (plain word_is.OpenCurly place) refl (part key word_is.MapsTo t b.0 below_one small (λ spot. refl) (part value word_is.Bar w b.1 below_one small (λ spot. refl)
          (binds-leads types closed (spelling e ++ word word_is.CloseCurly ∷ []) (map_each key value) binds word_is.Ampersand place fs (λ (bs : BindTrees). in_mode wants (condition (map_such key value bs) place ∷ fs)) _ u b.2 b.3 (λ bs ps spot gs. refl) below_one
          (λ bs ps set spot. refl) (λ bs ps set spot. refl) (part e word_is.CloseCurly v b.4 below_one small (λ spot. refl) nothing_more))));
    }

pub sequence_comprehension-taken : (types : TypeReader) (item : ExprTree) (pattern : PatternTree) (set : ExprTree) (such : MaybeExpr) (place : Place) → Taken types item → PatternTaken types pattern → Taken types set → GivenTaken types such → Taken types (sequence_comprehension item pattern set such place)
sequence_comprehension-taken types item pattern set left_out place t q u v =
    record {
      taken = λ m fs b p. at_token (plain word_is.OpenSquare place) refl (part item word_is.Bar t b.0 below_one small (λ spot. refl)
          (pattern_part pattern (word_is.Operator sign_is.InSet) q b.1 tt in_set_below refl (λ spot. refl) (part set word_is.CloseSquare u b.2 below_one small (λ spot. refl) nothing_more)));
    }
sequence_comprehension-taken types item pattern set (given_expr e) place t q u v =
    record {
      taken = λ m fs b p. at_token (plain word_is.OpenSquare place) refl (part item word_is.Bar t b.0 below_one small (λ spot. refl)
          (pattern_part pattern (word_is.Operator sign_is.InSet) q b.1 tt in_set_below refl (λ spot. refl) (part set word_is.Ampersand u b.2 below_one small (λ spot. refl)
          (part e word_is.CloseSquare v b.3 below_one small (λ spot. refl) nothing_more))));
    }

-- ---- quantified expressions

pub body-leads : (types : TypeReader) (b : Body) (e : ExprTree) (place : Place) (fs : List Frame) → Taken types e → Binds e far_pull → Leads types far_pull (spelling e) (in_mode wants (body b place ∷ fs)) (in_mode (has (with_body b e place)) fs)
body-leads types b e place fs t g = last_operand e (body b place) t g (reach-positive e) (omega arith)

pub for_all-taken : (types : TypeReader) (binds : BindTrees) (e : ExprTree) (place : Place) → BindsTaken types binds → Taken types e → Taken types (for_all binds e place)
for_all-taken types binds e place u t =
    record {
      taken = λ m fs b p. at_token (plain word_is.Forall place) refl
          (binds-leads types far_pull (spelling e) all_of binds word_is.Ampersand place fs (λ (bs : BindTrees). in_mode wants (body (all_body bs) place ∷ fs)) _ u b.0 b.1 (λ bs ps spot gs. refl) below_one
          (λ bs ps set spot. refl) (λ bs ps set spot. refl) (body-leads types (all_body binds) e place fs t b.2));
    }

pub exists_some-taken : (types : TypeReader) (binds : BindTrees) (e : ExprTree) (place : Place) → BindsTaken types binds → Taken types e → Taken types (exists_some binds e place)
exists_some-taken types binds e place u t =
    record {
      taken = λ m fs b p. at_token (plain word_is.Exists place) refl
          (binds-leads types far_pull (spelling e) some_of binds word_is.Ampersand place fs (λ (bs : BindTrees). in_mode wants (body (some_body bs) place ∷ fs)) _ u b.0 b.1 (λ bs ps spot gs. refl) below_one
          (λ bs ps set spot. refl) (λ bs ps set spot. refl) (body-leads types (some_body binds) e place fs t b.2));
    }

pub exists_one-taken : (types : TypeReader) (bind : BindTree) (e : ExprTree) (place : Place) → BindTaken types bind → Taken types e → Taken types (exists_one bind e place)
exists_one-taken types bind e place u t =
    record {
      taken = λ m fs b p. at_token (plain word_is.ExistsOne place) refl
          (bind-leads types far_pull (spelling e) one_of no_binds bind word_is.Ampersand place fs (λ (bs : BindTrees) (d : BindTree). in_mode wants (body (one_body d) place ∷ fs)) _ u b.0 (λ bs ps spot gs. refl) below_one
          (λ bs ps set spot. refl) (body-leads types (one_body bind) e place fs t b.1));
    }

iota-leads : (types : TypeReader) (bind : BindTree) (e : ExprTree) (place : Place) (fs : List Frame) → BindTaken types bind → IsBind bind → HasOnePattern bind → Taken types e → Binds e far_pull → Leads types far_pull (bind_spelling bind ++ word word_is.Ampersand ∷ spelling e) (in_mode wants_pattern (bind_patterns the_one no_binds no_patterns place ∷ fs)) (in_mode (has (iota_of bind e place)) fs)
iota-leads types (bind_in no_patterns set) e place fs u g o t b = absurd o
iota-leads types (bind_in (one_pattern p no_patterns) set) e place fs u g o t b =
    regroup (patterns_spelling (only_pattern p)) (word (word_is.Operator sign_is.InSet) ∷ spelling set) (word word_is.Ampersand ∷ spelling e)
    (regroup (pattern_spelling p) [] (word (word_is.Operator sign_is.InSet) ∷ spelling set ++ word word_is.Ampersand ∷ spelling e)
    (pattern_part p (word_is.Operator sign_is.InSet) u.0.0 g.1.0 tt in_set_below refl (λ spot. refl)
    (part set word_is.Ampersand u.1 g.2 below_one small (λ spot. refl) (body-leads types (the_body (bind_in (only_pattern p) set)) e place fs t b))))
iota-leads types (bind_in (one_pattern p (one_pattern next ps)) set) e place fs u g o t b = absurd o

pub iota_of-taken : (types : TypeReader) (bind : BindTree) (e : ExprTree) (place : Place) → BindTaken types bind → Taken types e → Taken types (iota_of bind e place)
iota_of-taken types bind e place u t =
    record { taken = λ m fs b p. at_token (plain word_is.Iota place) refl (iota-leads types bind e place fs u b.0 b.1 t b.2) }
