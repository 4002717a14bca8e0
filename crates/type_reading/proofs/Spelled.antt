-- What is read as a type are its tokens.
use Rattle.std.proofs.Common.{◌≡◌, List, [], ◌∷◌, ◌++◌, Option, Some, None, append_assoc, append-nil, refl, ap, sym, subst, ◌∙◌}
use Rattle.vdm_kinds.specs.declared.name.Name.{Name}
use Rattle.vdm_kinds.specs.declared.place.Place.{Place}
use Rattle.vdm_kinds.specs.declared.sign.Sign.TheVariants.{Times}
use Rattle.abstract_syntax.specs.Types.{TypeTree, basic_type, quote_type, bracketed_type, optional_type, product_type, union_type, no_types, one_type}
use Rattle.grammar_words.specs.declared.word.Word.{Word}
use Rattle.grammar_words.specs.declared.word.Word.TheVariants.{Backquote, Bar, Basic, CloseRound, CloseSquare, InMap, Map, Of, OpenRound, OpenSquare, Operator, Seq, Seq1, Set, To}
use Rattle.grammar_words.specs.Tokens.{Token, identifier, quote, plain}
use Rattle.grammar_words.specs.Written.{Written, IsToken, AreTokens, at, word, at_word}
use Rattle.type_reading.specs.TypeSpelling.{Width, union, product, single, IsType, AreTypes, AreTwoTypes, IsTypeOf, type_spelling, types_spelling, further_types}
use Rattle.type_reading.specs.Reading.{Collection, a_set, a_sequence, a_filled_sequence, collection_type, Mapping, any_map, injective_map, mapping_type, Bracket, round, square, name_alone, name_of_class, types_behind, Frame, element, key_of, value_of, enclosed, factors, alternatives, Mode, wants, has, wants_of, named, qualified, refused, State, state, refusal, Closed, closed, settled, has_settled, product_closed, union_closed, all_closed, wanted, next_factor, next_alternative, close_round, close_square, value_next, behind, of_wanted, behind_name, behind_backquote, step, whole, finished, outcome, type_of}

-- ---- what open frames were written with

abbrev collection_word : Collection → Word
collection_word a_set = Set
collection_word a_sequence = Seq
collection_word a_filled_sequence = Seq1

abbrev mapping_word : Mapping → Word
mapping_word any_map = Map
mapping_word injective_map = InMap

abbrev opener : Bracket → Word
opener round = OpenRound
opener square = OpenSquare

-- types with the word behind each
abbrev each_before : Word → List TypeTree → List Written
each_before between [] = []
each_before between (tree ∷ trees) = type_spelling tree ++ word between ∷ each_before between trees

abbrev spelled_by : Frame → List Written
spelled_by (element collection place) = at_word (collection_word collection) place ∷ word Of ∷ []
spelled_by (key_of mapping place) = at_word (mapping_word mapping) place ∷ []
spelled_by (value_of mapping key place) = at_word (mapping_word mapping) place ∷ (type_spelling key ++ word To ∷ [])
spelled_by (enclosed bracket place) = at_word (opener bracket) place ∷ []
spelled_by (factors trees) = each_before (Operator Times) trees
spelled_by (alternatives trees) = each_before Bar trees

abbrev spelled : List Frame → List Written
spelled [] = []
spelled (frame ∷ frames) = spelled frames ++ spelled_by frame

abbrev mode_spelled : Mode → List Written
mode_spelled wants = []
mode_spelled (has tree) = type_spelling tree
mode_spelled (wants_of collection place) = at_word (collection_word collection) place ∷ []
mode_spelled (named name place) = at (identifier name place) ∷ []
mode_spelled (qualified class place) = at (identifier class place) ∷ word Backquote ∷ []
mode_spelled refused = []

-- ---- which frames the grammar has

abbrev AreAll : Width → List TypeTree → Type 0
AreAll width [] = Unit {0}
AreAll width (tree ∷ trees) = IsType tree width × AreAll width trees

abbrev IsSome : List TypeTree → Type 0
IsSome [] = ⊥
IsSome (tree ∷ trees) = Unit {0}

abbrev IsFrame : Frame → Type 0
IsFrame (value_of mapping key place) = IsType key union
IsFrame (factors trees) = IsSome trees × AreAll single trees
IsFrame (alternatives trees) = IsSome trees × AreAll product trees
IsFrame _ = Unit {0}

abbrev AreFrames : List Frame → Type 0
AreFrames [] = Unit {0}
AreFrames (frame ∷ frames) = IsFrame frame × AreFrames frames

abbrev IsMode : Mode → Type 0
IsMode (has tree) = IsType tree single
IsMode _ = Unit {0}

-- a type that was read of all that is written, and what is open round it
record IsGood (width : Width) (all : List Written) (c : Closed) : Type 0 where
  written : spelled c.frames ++ type_spelling c.tree ≡ all
  type : IsType c.tree width
  frames : AreFrames c.frames

record IsGoodState (all : List Written) (s : State) : Type 0 where
  written : spelled s.frames ++ mode_spelled s.mode ≡ all
  mode : IsMode s.mode
  frames : AreFrames s.frames

-- ---- a type ends

single-product : (tree : TypeTree) → IsType tree single → IsType tree product
single-product (product_type types place) h = absurd h.0
single-product (union_type types place) h = absurd h.0
single-product tree h = h

product-union : (tree : TypeTree) → IsType tree product → IsType tree union
product-union (product_type types place) h = (tt, h.1, h.2, h.3)
product-union (union_type types place) h = absurd h.0
product-union tree h = h

settled-good : (tree : TypeTree) (frames : List Frame) (all : List Written) → IsGood single all (closed tree frames) → IsGood single all (settled tree frames)
settled-good tree [] all g = g
settled-good tree (element collection place ∷ frames) all g = settled-good (collection_type collection tree place) frames all (by collection g)
  where
    by : (collection : Collection) → IsGood single all (closed tree (element collection place ∷ frames)) → IsGood single all (closed (collection_type collection tree place) frames)
    by a_set g = record { written = sym (append_assoc (spelled frames) (at_word Set place ∷ word Of ∷ []) (type_spelling tree)) ∙ g.written; type = g.type; frames = g.frames.1 }
    by a_sequence g = record { written = sym (append_assoc (spelled frames) (at_word Seq place ∷ word Of ∷ []) (type_spelling tree)) ∙ g.written; type = g.type; frames = g.frames.1 }
    by a_filled_sequence g = record { written = sym (append_assoc (spelled frames) (at_word Seq1 place ∷ word Of ∷ []) (type_spelling tree)) ∙ g.written; type = g.type; frames = g.frames.1 }
settled-good tree (value_of mapping key place ∷ frames) all g = settled-good (mapping_type mapping key tree place) frames all (by mapping g)
  where
    parts : (w : Word) → spelled frames ++ at_word w place ∷ (type_spelling key ++ word To ∷ type_spelling tree) ≡ (spelled frames ++ at_word w place ∷ (type_spelling key ++ word To ∷ [])) ++ type_spelling tree
    parts w =
        ap (λ (ws : List Written). spelled frames ++ at_word w place ∷ ws) (sym (append_assoc (type_spelling key) (word To ∷ []) (type_spelling tree)))
        ∙ sym (append_assoc (spelled frames) (at_word w place ∷ (type_spelling key ++ word To ∷ [])) (type_spelling tree))

    by : (mapping : Mapping) → IsGood single all (closed tree (value_of mapping key place ∷ frames)) → IsGood single all (closed (mapping_type mapping key tree place) frames)
    by any_map g = record { written = parts Map ∙ g.written; type = (g.frames.0, g.type); frames = g.frames.1 }
    by injective_map g = record { written = parts InMap ∙ g.written; type = (g.frames.0, g.type); frames = g.frames.1 }
settled-good tree (key_of mapping place ∷ frames) all g = g
settled-good tree (enclosed bracket place ∷ frames) all g = g
settled-good tree (factors trees ∷ frames) all g = g
settled-good tree (alternatives trees ∷ frames) all g = g

-- types one behind another, and the last of them
further-listed : (between : Word) (trees : List TypeTree) (last : TypeTree) → further_types between (types_behind trees (one_type last no_types)) ≡ word between ∷ types_spelling between (types_behind trees (one_type last no_types))
further-listed between [] last = refl
further-listed between (tree ∷ trees) last = refl

listed : (between : Word) (trees : List TypeTree) (last : TypeTree) → types_spelling between (types_behind trees (one_type last no_types)) ≡ each_before between trees ++ type_spelling last
listed between [] last = append-nil (type_spelling last)
listed between (tree ∷ trees) last =
    ap (λ (ws : List Written). type_spelling tree ++ ws) (further-listed between trees last ∙ ap (λ (ws : List Written). word between ∷ ws) (listed between trees last))
    ∙ sym (append_assoc (type_spelling tree) (word between ∷ each_before between trees) (type_spelling last))

all-behind : (width : Width) (trees : List TypeTree) (last : TypeTree) → AreAll width trees → IsType last width → AreTypes (types_behind trees (one_type last no_types)) width
all-behind width [] last h k = (k, tt)
all-behind width (tree ∷ trees) last h k = (h.0, all-behind width trees last h.1 k)

two-behind : (tree : TypeTree) (trees : List TypeTree) (last : TypeTree) → AreTwoTypes (one_type tree (types_behind trees (one_type last no_types)))
two-behind tree [] last = tt
two-behind tree (second ∷ trees) last = tt

product-good : (tree : TypeTree) (frames : List Frame) (all : List Written) → IsGood single all (closed tree frames) → IsGood product all (product_closed tree frames)
product-good tree [] all g = record { written = g.written; type = single-product tree g.type; frames = g.frames }
product-good tree (factors [] ∷ frames) all g = absurd g.frames.0.0
product-good tree (factors (first ∷ trees) ∷ frames) all g = record {
  written =
      ap (λ (ws : List Written). spelled frames ++ ws) (listed (Operator Times) (first ∷ trees) tree)
      ∙ sym (append_assoc (spelled frames) (each_before (Operator Times) (first ∷ trees)) (type_spelling tree))
      ∙ g.written;
  type = (tt, two-behind first trees tree, refl, all-behind single (first ∷ trees) tree g.frames.0.1 g.type);
  frames = g.frames.1;
}
product-good tree (element collection place ∷ frames) all g = record { written = g.written; type = single-product tree g.type; frames = g.frames }
product-good tree (key_of mapping place ∷ frames) all g = record { written = g.written; type = single-product tree g.type; frames = g.frames }
product-good tree (value_of mapping key place ∷ frames) all g = record { written = g.written; type = single-product tree g.type; frames = g.frames }
product-good tree (enclosed bracket place ∷ frames) all g = record { written = g.written; type = single-product tree g.type; frames = g.frames }
product-good tree (alternatives trees ∷ frames) all g = record { written = g.written; type = single-product tree g.type; frames = g.frames }

union-good : (tree : TypeTree) (frames : List Frame) (all : List Written) → IsGood product all (closed tree frames) → IsGood union all (union_closed tree frames)
union-good tree [] all g = record { written = g.written; type = product-union tree g.type; frames = g.frames }
union-good tree (alternatives [] ∷ frames) all g = absurd g.frames.0.0
union-good tree (alternatives (first ∷ trees) ∷ frames) all g = record {
  written =
      ap (λ (ws : List Written). spelled frames ++ ws) (listed Bar (first ∷ trees) tree)
      ∙ sym (append_assoc (spelled frames) (each_before Bar (first ∷ trees)) (type_spelling tree))
      ∙ g.written;
  type = (tt, two-behind first trees tree, refl, all-behind product (first ∷ trees) tree g.frames.0.1 g.type);
  frames = g.frames.1;
}
union-good tree (element collection place ∷ frames) all g = record { written = g.written; type = product-union tree g.type; frames = g.frames }
union-good tree (key_of mapping place ∷ frames) all g = record { written = g.written; type = product-union tree g.type; frames = g.frames }
union-good tree (value_of mapping key place ∷ frames) all g = record { written = g.written; type = product-union tree g.type; frames = g.frames }
union-good tree (enclosed bracket place ∷ frames) all g = record { written = g.written; type = product-union tree g.type; frames = g.frames }
union-good tree (factors trees ∷ frames) all g = record { written = g.written; type = product-union tree g.type; frames = g.frames }

all-good : (tree : TypeTree) (frames : List Frame) (all : List Written) → IsGood single all (closed tree frames) → IsGood union all (all_closed tree frames)
all-good tree frames all g = union-good (product_closed tree frames).tree (product_closed tree frames).frames all (product-good tree frames all g)

-- ---- one token

-- a token is refused, or is one that is written behind all before it
data After (all : List Written) (token : Token) (s : State) : Type 0 where
  stops : s ≡ refusal → After all token s
  goes : (w : Written) → IsToken token w → IsGoodState (all ++ w ∷ []) s → After all token s

has-good : (all : List Written) (token : Token) (w : Written) (tree : TypeTree) (frames : List Frame) → IsToken token w → IsGood single (all ++ w ∷ []) (closed tree frames) → After all token (has_settled (settled tree frames))
has-good all token w tree frames is g =
    let s = settled-good tree frames _ g in
    goes w is (record { written = s.written; mode = s.type; frames = s.frames })

-- a frame is opened
opens : (all : List Written) (token : Token) (w : Written) (frame : Frame) (frames : List Frame) → IsToken token w → spelled frames ++ spelled_by frame ≡ all ++ w ∷ [] → IsFrame frame → AreFrames frames → After all token (state wants (frame ∷ frames))
opens all token w frame frames is e h k = goes w is (record { written = append-nil _ ∙ e; mode = tt; frames = (h, k) })

wanted-good : (all : List Written) (frames : List Frame) (token : Token) → spelled frames ≡ all → AreFrames frames → After all token (wanted frames token)
wanted-good all frames (plain (Basic basic) place) e h = has-good all _ (at_word (Basic basic) place) (basic_type basic place) frames refl (record { written = ap (λ (ws : List Written). ws ++ at_word (Basic basic) place ∷ []) e; type = tt; frames = h })
wanted-good all frames (quote name place) e h = has-good all _ (at (quote name place)) (quote_type name place) frames refl (record { written = ap (λ (ws : List Written). ws ++ at (quote name place) ∷ []) e; type = tt; frames = h })
wanted-good all frames (identifier name place) e h = goes (at (identifier name place)) refl (record { written = ap (λ (ws : List Written). ws ++ at (identifier name place) ∷ []) e; mode = tt; frames = h })
wanted-good all frames (plain Set place) e h = goes (at_word Set place) refl (record { written = ap (λ (ws : List Written). ws ++ at_word Set place ∷ []) e; mode = tt; frames = h })
wanted-good all frames (plain Seq place) e h = goes (at_word Seq place) refl (record { written = ap (λ (ws : List Written). ws ++ at_word Seq place ∷ []) e; mode = tt; frames = h })
wanted-good all frames (plain Seq1 place) e h = goes (at_word Seq1 place) refl (record { written = ap (λ (ws : List Written). ws ++ at_word Seq1 place ∷ []) e; mode = tt; frames = h })
wanted-good all frames (plain Map place) e h = opens all _ (at_word Map place) (key_of any_map place) frames refl (ap (λ (ws : List Written). ws ++ at_word Map place ∷ []) e) tt h
wanted-good all frames (plain InMap place) e h = opens all _ (at_word InMap place) (key_of injective_map place) frames refl (ap (λ (ws : List Written). ws ++ at_word InMap place ∷ []) e) tt h
wanted-good all frames (plain OpenRound place) e h = opens all _ (at_word OpenRound place) (enclosed round place) frames refl (ap (λ (ws : List Written). ws ++ at_word OpenRound place ∷ []) e) tt h
wanted-good all frames (plain OpenSquare place) e h = opens all _ (at_word OpenSquare place) (enclosed square place) frames refl (ap (λ (ws : List Written). ws ++ at_word OpenSquare place ∷ []) e) tt h
wanted-good all frames token e h = stops refl

each-more : (between : Word) (trees : List TypeTree) (last : TypeTree) → each_before between (trees ++ last ∷ []) ≡ each_before between trees ++ (type_spelling last ++ word between ∷ [])
each-more between [] last = refl
each-more between (tree ∷ trees) last =
    ap (λ (ws : List Written). type_spelling tree ++ word between ∷ ws) (each-more between trees last)
    ∙ sym (append_assoc (type_spelling tree) (word between ∷ each_before between trees) (type_spelling last ++ word between ∷ []))

all-more : (width : Width) (trees : List TypeTree) (last : TypeTree) → AreAll width trees → IsType last width → AreAll width (trees ++ last ∷ [])
all-more width [] last h k = (k, tt)
all-more width (tree ∷ trees) last h k = (h.0, all-more width trees last h.1 k)

some-more : (trees : List TypeTree) (last : TypeTree) → IsSome (trees ++ last ∷ [])
some-more [] last = tt
some-more (tree ∷ trees) last = tt

-- a first type, or a further one, before the word between
first-listed : (all : List Written) (between : Word) (tree : TypeTree) (frames : List Frame) → spelled frames ++ type_spelling tree ≡ all → spelled frames ++ (type_spelling tree ++ word between ∷ []) ≡ all ++ word between ∷ []
first-listed all between tree frames e = sym (append_assoc (spelled frames) (type_spelling tree) (word between ∷ [])) ∙ ap (λ (ws : List Written). ws ++ word between ∷ []) e

more-listed : (all : List Written) (between : Word) (trees : List TypeTree) (tree : TypeTree) (frames : List Frame) → (spelled frames ++ each_before between trees) ++ type_spelling tree ≡ all → spelled frames ++ each_before between (trees ++ tree ∷ []) ≡ all ++ word between ∷ []
more-listed all between trees tree frames e =
    ap (λ (ws : List Written). spelled frames ++ ws) (each-more between trees tree)
    ∙ sym (append_assoc (spelled frames) (each_before between trees) (type_spelling tree ++ word between ∷ []))
    ∙ sym (append_assoc (spelled frames ++ each_before between trees) (type_spelling tree) (word between ∷ []))
    ∙ ap (λ (ws : List Written). ws ++ word between ∷ []) e

factor-good : (all : List Written) (place : Place) (tree : TypeTree) (frames : List Frame) → IsGood single all (closed tree frames) → After all (plain (Operator Times) place) (next_factor tree frames)
factor-good all place tree (factors trees ∷ frames) g =
    opens all _ (word (Operator Times)) (factors (trees ++ tree ∷ [])) frames (place, refl) (more-listed all (Operator Times) trees tree frames g.written) (some-more trees tree, all-more single trees tree g.frames.0.1 g.type) g.frames.1
factor-good all place tree [] g = opens all _ (word (Operator Times)) (factors (tree ∷ [])) [] (place, refl) (first-listed all (Operator Times) tree [] g.written) (tt, (g.type, tt)) g.frames
factor-good all place tree (element collection p ∷ frames) g = opens all _ (word (Operator Times)) (factors (tree ∷ [])) (element collection p ∷ frames) (place, refl) (first-listed all (Operator Times) tree (element collection p ∷ frames) g.written) (tt, (g.type, tt)) g.frames
factor-good all place tree (key_of mapping p ∷ frames) g = opens all _ (word (Operator Times)) (factors (tree ∷ [])) (key_of mapping p ∷ frames) (place, refl) (first-listed all (Operator Times) tree (key_of mapping p ∷ frames) g.written) (tt, (g.type, tt)) g.frames
factor-good all place tree (value_of mapping key p ∷ frames) g = opens all _ (word (Operator Times)) (factors (tree ∷ [])) (value_of mapping key p ∷ frames) (place, refl) (first-listed all (Operator Times) tree (value_of mapping key p ∷ frames) g.written) (tt, (g.type, tt)) g.frames
factor-good all place tree (enclosed bracket p ∷ frames) g = opens all _ (word (Operator Times)) (factors (tree ∷ [])) (enclosed bracket p ∷ frames) (place, refl) (first-listed all (Operator Times) tree (enclosed bracket p ∷ frames) g.written) (tt, (g.type, tt)) g.frames
factor-good all place tree (alternatives trees ∷ frames) g = opens all _ (word (Operator Times)) (factors (tree ∷ [])) (alternatives trees ∷ frames) (place, refl) (first-listed all (Operator Times) tree (alternatives trees ∷ frames) g.written) (tt, (g.type, tt)) g.frames

alternative-good : (all : List Written) (place : Place) (tree : TypeTree) (frames : List Frame) → IsGood product all (closed tree frames) → After all (plain Bar place) (next_alternative tree frames)
alternative-good all place tree (alternatives trees ∷ frames) g =
    opens all _ (word Bar) (alternatives (trees ++ tree ∷ [])) frames (place, refl) (more-listed all Bar trees tree frames g.written) (some-more trees tree, all-more product trees tree g.frames.0.1 g.type) g.frames.1
alternative-good all place tree [] g = opens all _ (word Bar) (alternatives (tree ∷ [])) [] (place, refl) (first-listed all Bar tree [] g.written) (tt, (g.type, tt)) g.frames
alternative-good all place tree (element collection p ∷ frames) g = opens all _ (word Bar) (alternatives (tree ∷ [])) (element collection p ∷ frames) (place, refl) (first-listed all Bar tree (element collection p ∷ frames) g.written) (tt, (g.type, tt)) g.frames
alternative-good all place tree (key_of mapping p ∷ frames) g = opens all _ (word Bar) (alternatives (tree ∷ [])) (key_of mapping p ∷ frames) (place, refl) (first-listed all Bar tree (key_of mapping p ∷ frames) g.written) (tt, (g.type, tt)) g.frames
alternative-good all place tree (value_of mapping key p ∷ frames) g = opens all _ (word Bar) (alternatives (tree ∷ [])) (value_of mapping key p ∷ frames) (place, refl) (first-listed all Bar tree (value_of mapping key p ∷ frames) g.written) (tt, (g.type, tt)) g.frames
alternative-good all place tree (enclosed bracket p ∷ frames) g = opens all _ (word Bar) (alternatives (tree ∷ [])) (enclosed bracket p ∷ frames) (place, refl) (first-listed all Bar tree (enclosed bracket p ∷ frames) g.written) (tt, (g.type, tt)) g.frames
alternative-good all place tree (factors trees ∷ frames) g = opens all _ (word Bar) (alternatives (tree ∷ [])) (factors trees ∷ frames) (place, refl) (first-listed all Bar tree (factors trees ∷ frames) g.written) (tt, (g.type, tt)) g.frames

-- an opening bracket, a type and the closing one
enclosed-written : (all : List Written) (open_word close_word : Word) (place : Place) (tree : TypeTree) (frames : List Frame) → (spelled frames ++ at_word open_word place ∷ []) ++ type_spelling tree ≡ all → spelled frames ++ at_word open_word place ∷ (type_spelling tree ++ word close_word ∷ []) ≡ all ++ word close_word ∷ []
enclosed-written all open_word close_word place tree frames e =
    sym (append_assoc (spelled frames) (at_word open_word place ∷ []) (type_spelling tree ++ word close_word ∷ []))
    ∙ sym (append_assoc (spelled frames ++ at_word open_word place ∷ []) (type_spelling tree) (word close_word ∷ []))
    ∙ ap (λ (ws : List Written). ws ++ word close_word ∷ []) e

round-good : (all : List Written) (here : Place) (tree : TypeTree) (frames : List Frame) → IsGood union all (closed tree frames) → After all (plain CloseRound here) (close_round tree frames)
round-good all here tree (enclosed round place ∷ frames) g =
    has-good all _ (word CloseRound) (bracketed_type tree place) frames (here, refl) (record { written = enclosed-written all OpenRound CloseRound place tree frames g.written; type = g.type; frames = g.frames.1 })
round-good all here tree frames g = stops refl

square-good : (all : List Written) (here : Place) (tree : TypeTree) (frames : List Frame) → IsGood union all (closed tree frames) → After all (plain CloseSquare here) (close_square tree frames)
square-good all here tree (enclosed square place ∷ frames) g =
    has-good all _ (word CloseSquare) (optional_type tree place) frames (here, refl) (record { written = enclosed-written all OpenSquare CloseSquare place tree frames g.written; type = g.type; frames = g.frames.1 })
square-good all here tree frames g = stops refl

value-good : (all : List Written) (here : Place) (tree : TypeTree) (frames : List Frame) → IsGood union all (closed tree frames) → After all (plain To here) (value_next tree frames)
value-good all here tree (key_of mapping place ∷ frames) g =
    opens all _ (word To) (value_of mapping tree place) frames (here, refl) (enclosed-written all (mapping_word mapping) To place tree frames g.written) g.type g.frames.1
value-good all here tree frames g = stops refl

behind-good : (all : List Written) (tree : TypeTree) (frames : List Frame) (token : Token) → IsGood single all (closed tree frames) → After all token (behind tree frames token)
behind-good all tree frames (plain (Operator Times) place) g = factor-good all place tree frames g
behind-good all tree frames (plain Bar place) g = alternative-good all place _ _ (product-good tree frames all g)
behind-good all tree frames (plain CloseRound place) g = round-good all place _ _ (all-good tree frames all g)
behind-good all tree frames (plain CloseSquare place) g = square-good all place _ _ (all-good tree frames all g)
behind-good all tree frames (plain To place) g = value-good all place _ _ (all-good tree frames all g)
behind-good all tree frames token g = stops refl

of-good : (all : List Written) (collection : Collection) (place : Place) (frames : List Frame) (token : Token) → spelled frames ++ at_word (collection_word collection) place ∷ [] ≡ all → AreFrames frames → After all token (of_wanted collection place frames token)
of-good all collection place frames (plain Of here) e h =
    opens all _ (word Of) (element collection place) frames (here, refl) (sym (append_assoc (spelled frames) (at_word (collection_word collection) place ∷ []) (word Of ∷ [])) ∙ ap (λ (ws : List Written). ws ++ word Of ∷ []) e) tt h
of-good all collection place frames token e h = stops refl

alone-good : (all : List Written) (name : Name) (place : Place) (frames : List Frame) → spelled frames ++ at (identifier name place) ∷ [] ≡ all → AreFrames frames → IsGood single all (settled (name_alone name place) frames)
alone-good all name place frames e h = settled-good (name_alone name place) frames all (record { written = e; type = refl; frames = h })

name-good : (all : List Written) (name : Name) (place : Place) (frames : List Frame) (token : Token) → spelled frames ++ at (identifier name place) ∷ [] ≡ all → AreFrames frames → After all token (behind_name name place frames token)
name-good all name place frames (plain Backquote here) e h =
    goes (word Backquote) (here, refl) (record {
      written = sym (append_assoc (spelled frames) (at (identifier name place) ∷ []) (word Backquote ∷ [])) ∙ ap (λ (ws : List Written). ws ++ word Backquote ∷ []) e;
      mode = tt;
      frames = h;
    })
name-good all name place frames token e h = behind-good all (settled (name_alone name place) frames).tree (settled (name_alone name place) frames).frames token (alone-good all name place frames e h)

qualified-good : (all : List Written) (class : Name) (place : Place) (frames : List Frame) (token : Token) → spelled frames ++ at (identifier class place) ∷ word Backquote ∷ [] ≡ all → AreFrames frames → After all token (behind_backquote class place frames token)
qualified-good all class place frames (identifier name here) e h =
    has-good all _ (at (identifier name here)) (name_of_class class place name here) frames refl (record {
      written = sym (append_assoc (spelled frames) (at (identifier class place) ∷ word Backquote ∷ []) (at (identifier name here) ∷ [])) ∙ ap (λ (ws : List Written). ws ++ at (identifier name here) ∷ []) e;
      type = tt;
      frames = h;
    })
qualified-good all class place frames token e h = stops refl

step-good : (all : List Written) (mode : Mode) (frames : List Frame) (token : Token) → IsGoodState all (state mode frames) → After all token (step (state mode frames) token)
step-good all wants frames token g = wanted-good all frames token (sym (append-nil (spelled frames)) ∙ g.written) g.frames
step-good all (has tree) frames token g = behind-good all tree frames token (record { written = g.written; type = g.mode; frames = g.frames })
step-good all (wants_of collection place) frames token g = of-good all collection place frames token g.written g.frames
step-good all (named name place) frames token g = name-good all name place frames token g.written g.frames
step-good all (qualified class place) frames token g = qualified-good all class place frames token g.written g.frames
step-good all refused frames token g = stops refl

-- ---- all tokens

pub refused-none : (tokens : List Token) → outcome refusal tokens ≡ None
refused-none [] = refl
refused-none (token ∷ tokens) = refused-none tokens

record IsSpelled (all : List Written) (tokens : List Token) (tree : TypeTree) : Type 0 where
  rest : List Written
  are : AreTokens tokens rest
  written : type_spelling tree ≡ all ++ rest
  type : IsType tree union

whole-good : (all : List Written) (c : Closed) (tree : TypeTree) → IsGood union all c → whole c.tree c.frames ≡ Some tree → IsSpelled all [] tree
whole-good all c tree g e = by c.tree c.frames g.written g.type e
  where
    by : (found : TypeTree) (frames : List Frame) → spelled frames ++ type_spelling found ≡ all → IsType found union → whole found frames ≡ Some tree → IsSpelled all [] tree
    by found [] w t e =
        let same : found ≡ tree = cc in
        record { rest = []; are = tt; written = ap type_spelling (sym same) ∙ w ∙ sym (append-nil all); type = subst (λ (x : TypeTree). IsType x union) same t }
    by found (frame ∷ frames) w t e = absurd (cc)

finished-good : (all : List Written) (mode : Mode) (frames : List Frame) (tree : TypeTree) → IsGoodState all (state mode frames) → finished mode frames ≡ Some tree → IsSpelled all [] tree
finished-good all (has found) frames tree g e = whole-good all (all_closed found frames) tree (all-good found frames all (record { written = g.written; type = g.mode; frames = g.frames })) e
finished-good all (named name place) frames tree g e =
    whole-good all (all_closed (settled (name_alone name place) frames).tree (settled (name_alone name place) frames).frames) tree (all-good _ _ all (alone-good all name place frames g.written g.frames)) e
finished-good all wants frames tree g e = absurd (cc)
finished-good all (wants_of collection place) frames tree g e = absurd (cc)
finished-good all (qualified class place) frames tree g e = absurd (cc)
finished-good all refused frames tree g e = absurd (cc)

none-some : (tree : TypeTree) (o : Option TypeTree) → o ≡ None → o ≡ Some tree → ⊥
none-some tree o e h = absurd (cc)

after-good : (all : List Written) (s : State) (token : Token) (tokens : List Token) (tree : TypeTree) → After all token s → ((more : List Written) → IsGoodState more s → outcome s tokens ≡ Some tree → IsSpelled more tokens tree) → outcome s tokens ≡ Some tree → IsSpelled all (token ∷ tokens) tree
after-good all s token tokens tree (stops is) others e = absurd (none-some tree _ (ap (λ (t : State). outcome t tokens) is ∙ refused-none tokens) e)
after-good all s token tokens tree (goes w is g) others e =
    let r = others (all ++ w ∷ []) g e in
    record { rest = w ∷ r.rest; are = (is, r.are); written = r.written ∙ append_assoc all (w ∷ []) r.rest; type = r.type }

outcome-good : (all : List Written) (s : State) (tokens : List Token) (tree : TypeTree) → IsGoodState all s → outcome s tokens ≡ Some tree → IsSpelled all tokens tree
outcome-good all s [] tree g e = finished-good all s.mode s.frames tree g e
outcome-good all s (token ∷ tokens) tree g e =
    after-good all (step s token) token tokens tree (step-good all s.mode s.frames token g) (λ more h k. outcome-good more (step s token) tokens tree h k) e

-- what is read as a type are its tokens
pub read-type : (tokens : List Token) (tree : TypeTree) → type_of tokens ≡ Some tree → IsTypeOf tokens tree
read-type tokens tree e =
    let r = outcome-good [] (state wants []) tokens tree (record { written = refl; mode = tt; frames = tt }) e in
    record { spelled = subst (AreTokens tokens) (sym r.written) r.are; grammatical = r.type }
