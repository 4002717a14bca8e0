-- What tokens come to, one after the other.
use Rattle.std.proofs.Common.{◌≡◌, List, [], ◌∷◌, Option, Some, None, option_map, Result, Ok, Err, IfOk, refl, ap, sym, ◌∙◌}
use Rattle.vdm_kinds.specs.declared.halt.OutOfMemory.{OutOfMemory}
use Rattle.expr_tree.specs.declared.expr.Expr.{Expr}
use Rattle.expr_tree.specs.declared.pattern.Pattern.{Pattern}
use Rattle.expr_tree.specs.View.{view_of, pattern_view}
use Rattle.grammar_tokens.specs.declared.token.Token.{Token as Kept}
use Rattle.grammar_tokens.specs.View.{token_view, token_views}
use Rattle.grammar_trees.specs.Frames.{State, Built, nothing, wants, wants_pattern}
use Rattle.grammar_trees.specs.Machine.{TypeReader, in_mode, step, run, no_tree}
use Rattle.grammar_trees.specs.Reading.{built_expr, built_pattern, expr_of, pattern_of}
use Rattle.grammar_words.specs.Tokens.{Token}
use Rattle.tree_frames.specs.declared.frame.Frame.{Frame as KeptFrame}
use Rattle.tree_frames.specs.declared.mode.Mode.{Mode}
use Rattle.tree_frames.specs.Views.{stack_view, state_view}
use Rattle.type_reading.specs.Reading.{type_of}
use Rattle.expr_builder.specs.Settling.{ended}

-- tokens that are refused are no tree
run-refused : (types : TypeReader) (ts : List Token) → run types ts no_tree ≡ nothing
run-refused types [] = refl
run-refused types (t ∷ ts) = run-refused types ts

module _ (types : TypeReader) (built : Built) (s : State) (rest : List Kept) (was : built ≡ run types (token_views rest) s) where
  pub read-on : (left : List Kept) (t : Kept) (next : State) → rest ≡ t ∷ left → next ≡ step types s (token_view t) → built ≡ run types (token_views left) next
  read-on left t next is stepped = was ∙ ap (λ (ts : List Kept). run types (token_views ts) s) is ∙ ap (run types (token_views left)) (sym stepped)

  pub read-refused : (left : List Kept) (t : Kept) (next : Option Mode) (frames : List KeptFrame) → rest ≡ t ∷ left → ((mode : Mode) → next ≡ Some mode → ⊥) → state_view next frames ≡ step types s (token_view t) → built ≡ nothing
  read-refused left t (Some mode) frames is none stepped = absurd (none mode refl)
  read-refused left t None frames is none stepped = read-on left t no_tree is stepped ∙ run-refused types (token_views left)

  pub read-end : rest ≡ [] → built ≡ ended s
  read-end is = was ∙ ap (λ (ts : List Kept). run types (token_views ts) s) is

-- what was built of all tokens
pub built-by : (r : Result (Option Expr) OutOfMemory) (ts : List Token) (fs : List KeptFrame) (s : State) → fs ≡ [] → run type_of ts (in_mode wants (stack_view fs)) ≡ ended s
    → IfOk r (λ built. option_map view_of built ≡ built_expr (ended s)) → IfOk r (λ built. option_map view_of built ≡ expr_of ts)
built-by (Ok built) ts fs s none is h = h ∙ ap built_expr (sym is ∙ ap (λ (f : List KeptFrame). run type_of ts (in_mode wants (stack_view f))) none)
built-by (Err x) ts fs s none is h = tt

pub pattern-by : (r : Result (Option Pattern) OutOfMemory) (ts : List Token) (fs : List KeptFrame) (s : State) → fs ≡ [] → run type_of ts (in_mode wants_pattern (stack_view fs)) ≡ ended s
    → IfOk r (λ built. option_map pattern_view built ≡ built_pattern (ended s)) → IfOk r (λ built. option_map pattern_view built ≡ pattern_of ts)
pattern-by (Ok built) ts fs s none is h = h ∙ ap built_pattern (sym is ∙ ap (λ (f : List KeptFrame). run type_of ts (in_mode wants_pattern (stack_view f))) none)
pattern-by (Err x) ts fs s none is h = tt
