-- The frames that are open, innermost last as the program keeps them and innermost first as the definitions have them.
use Rattle.std.proofs.Common.{◌≡◌, ℕ, suc, ◌+◌, ◌-◌, ◌<◌, List, [], ◌∷◌, ◌++◌, length, get_or, slice_get, Option, Some, None, MatchOption, option_to_list, take, drop, append-nil, refl, ap, sym, ◌∙◌, arith}
use Rattle.vdm_kinds.specs.declared.place.Place.{Place}
use Rattle.abstract_syntax.specs.Types.{TypeTree, TypeTrees, product_type, union_type, no_types, one_type}
use Rattle.type_tree.specs.declared.type_expr.TypeExpr.{TypeExpr}
use Rattle.type_tree.specs.TypeView.{type_view, type_views, type_trees}
use Rattle.type_reading.specs.Reading as pure
use Rattle.std.proofs.lemmas.List.{drop_more}
use Rattle.grammar_tokens.specs.declared.token.Token.{Token}
use Rattle.grammar_tokens.specs.View.{token_view, token_views}
use Rattle.type_reading.proofs.Spelled.{refused-none}
use Rattle.type_grammar.specs.declared.mode.Mode.{Mode}
use Rattle.type_grammar.specs.declared.frame.Frame.{Frame}
use Rattle.type_grammar.specs.declared.frame.Top.{Top}
use Rattle.type_grammar.specs.declared.frame.Top.TheVariants as top
use Rattle.type_grammar.specs.Views.{state_view, frame_view, stack_onto, stack_view, frame_top, stack_top}

-- one frame more is innermost
pub onto-push : (below : List pure.Frame) (frames : List Frame) (frame : Frame) → stack_onto below (frames ++ frame ∷ []) ≡ frame_view frame ∷ stack_onto below frames
onto-push below [] frame = refl
onto-push below (first ∷ frames) frame = onto-push (frame_view first ∷ below) frames frame

pub stack-push : (frames : List Frame) (frame : Frame) → stack_view (frames ++ frame ∷ []) ≡ frame_view frame ∷ stack_view frames
stack-push frames frame = onto-push [] frames frame

-- types one behind another, and a last one
pub trees-behind : (trees : List TypeExpr) (last : TypeExpr) → type_trees (type_views (trees ++ last ∷ [])) ≡ pure.types_behind (type_views trees) (one_type (type_view last) no_types)
trees-behind [] last = refl
trees-behind (tree ∷ trees) last = ap (one_type (type_view tree)) (trees-behind trees last)

-- the innermost frame is the last
last-split : (frames : List Frame) (last : Frame) → Some last ≡ slice_get frames (length frames - 1) → (rest : List Frame) × (frames ≡ rest ++ last ∷ [])
last-split [] last e = absurd (cc)
last-split (frame ∷ []) last e = let same : last ≡ frame = cc in ([], ap (λ (f : Frame). f ∷ []) (sym same))
last-split (frame ∷ second ∷ frames) last e =
    let n : length (frame ∷ second ∷ frames) - 1 ≡ suc (length frames) = omega arith in
    let m : length frames ≡ length (second ∷ frames) - 1 = omega arith in
    let rest = last-split (second ∷ frames) last (e ∙ ap (slice_get (frame ∷ second ∷ frames)) n ∙ ap (slice_get (second ∷ frames)) m) in
    (frame ∷ rest.0, ap (λ (fs : List Frame). frame ∷ fs) rest.1)

pub top-last : (frames : List Frame) (last : Frame) (found : Top) → Some last ≡ slice_get frames (length frames - 1) → found ≡ frame_top (frame_view last) → found ≡ stack_top (stack_view frames)
top-last frames last found e is =
    let rest = last-split frames last e in
    is ∙ ap stack_top (sym (ap stack_view rest.1 ∙ stack-push rest.0 last))

-- a frame is taken off
pub popped-frame : (old new : List Frame) (found : Option Frame) (n m : ℕ) → old ≡ new ++ option_to_list found → new ≡ take (n - 1) old → MatchOption found ((n ≡ 0) × (m ≡ 0)) (λ _. m + 1 ≡ n) → MatchOption found (stack_view old ≡ []) (λ frame. stack_view old ≡ frame_view frame ∷ stack_view new)
popped-frame old new None n m e rest cases =
    let none : n - 1 ≡ 0 = omega (arith, cases.0) in
    ap stack_view (e ∙ append-nil new ∙ rest ∙ ap (λ (k : ℕ). take k old) none)
popped-frame old new (Some frame) n m e rest cases = ap stack_view e ∙ stack-push new frame

-- a product, and a union, of types and a last one
pub product-is : (trees more held : List TypeExpr) (last : TypeExpr) (place : Place) (found : TypeTree) → found ≡ product_type (type_trees (type_views more)) place → more ≡ trees ++ last ∷ [] → place ≡ pure.first_place (type_views held) (type_view last) → held ≡ trees → found ≡ pure.product_of (type_views trees) (type_view last)
product-is trees more held last place found is pushed at same =
    is
    ∙ ap (λ (ts : List TypeExpr). product_type (type_trees (type_views ts)) place) pushed
    ∙ ap (λ (ts : TypeTrees). product_type ts place) (trees-behind trees last)
    ∙ ap (λ (p : Place). product_type (pure.types_behind (type_views trees) (one_type (type_view last) no_types)) p) (at ∙ ap (λ (ts : List TypeExpr). pure.first_place (type_views ts) (type_view last)) same)

pub union-is : (trees more held : List TypeExpr) (last : TypeExpr) (place : Place) (found : TypeTree) → found ≡ union_type (type_trees (type_views more)) place → more ≡ trees ++ last ∷ [] → place ≡ pure.first_place (type_views held) (type_view last) → held ≡ trees → found ≡ pure.union_of (type_views trees) (type_view last)
union-is trees more held last place found is pushed at same =
    is
    ∙ ap (λ (ts : List TypeExpr). union_type (type_trees (type_views ts)) place) pushed
    ∙ ap (λ (ts : TypeTrees). union_type ts place) (trees-behind trees last)
    ∙ ap (λ (p : Place). union_type (pure.types_behind (type_views trees) (one_type (type_view last) no_types)) p) (at ∙ ap (λ (ts : List TypeExpr). pure.first_place (type_views ts) (type_view last)) same)

-- where nothing more ends, a single type stays
pub settled-stays : (tree : TypeTree) (frames : List pure.Frame) → (stack_top frames ≡ top.Part → ⊥) → pure.settled tree frames ≡ pure.closed tree frames
settled-stays tree [] n = refl
settled-stays tree (pure.element collection place ∷ frames) n = absurd (n refl)
settled-stays tree (pure.value_of mapping key place ∷ frames) n = absurd (n refl)
settled-stays tree (pure.key_of mapping place ∷ frames) n = refl
settled-stays tree (pure.enclosed bracket place ∷ frames) n = refl
settled-stays tree (pure.factors trees ∷ frames) n = refl
settled-stays tree (pure.alternatives trees ∷ frames) n = refl

-- tokens that are refused are no type
pub tokens-refused : (tokens : List Token) (i : ℕ) (d : Token) (next : Option Mode) (frames : List Frame) (s : pure.State) (all : Option TypeTree)
    → i < length tokens → d ≡ get_or tokens i d → ((mode : Mode) → next ≡ Some mode → ⊥) → state_view next frames ≡ pure.step s (token_view d)
    → all ≡ pure.outcome s (token_views (drop i tokens)) → None ≡ all
tokens-refused tokens i d (Some mode) frames s all short item none is was = absurd (none mode refl)
tokens-refused tokens i d None frames s all short item none is was =
    sym (was
    ∙ ap (λ (ts : List Token). pure.outcome s (token_views ts)) (drop_more tokens i d short)
    ∙ ap (λ (t : Token). pure.outcome (pure.step s (token_view t)) (token_views (drop (i + 1) tokens))) (sym item)
    ∙ ap (λ (t : pure.State). pure.outcome t (token_views (drop (i + 1) tokens))) (sym is)
    ∙ refused-none (token_views (drop (i + 1) tokens)))
