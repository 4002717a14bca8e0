-- Lists of expressions, of pairs and of fields are read.
use Rattle.std.proofs.Common.{◌≡◌, ℕ, List, [], ◌∷◌, ◌++◌, refl, subst}
use Rattle.abstract_syntax.specs.Expressions.{ExprTree, ExprTrees, MaybeExpr, MapletTrees, FieldValueTrees, set_enumeration, map_enumeration, sequence_enumeration, make_tuple, make_record, modify_record, create, apply, no_exprs, one_expr, left_out, given_expr, no_maplets, one_maplet, no_field_values, one_field_value}
use Rattle.grammar_words.specs.Pulls.{far_pull, closed}
use Rattle.grammar_trees.specs.Spelling.{spelling, exprs_spelling, further_exprs, maplets_spelling, further_maplets, field_values_spelling, further_field_values}
use Rattle.grammar_trees.specs.Binding.{AreTwoExprs, AreSomeMaplets, AreSomeFields, Binds, AreExprs, AreMaplets, AreFieldValues}
use Rattle.grammar_trees.specs.Lists.{then_exprs, then_maplets, then_field_values, and_expr, and_maplet, and_field_value}
use Rattle.grammar_trees.specs.Frames.{Listed, Frame, set_of, sequence_of, tuple_of, record_of, new_of, applied_to, items, tuple_start, map_value, made, field_name, wants, has, awaits}
use Rattle.grammar_trees.specs.Machine.{in_mode, whole_list, TypeReader, step}
use Rattle.grammar_words.specs.Tokens.{identifier, make_named, plain}
use Rattle.grammar_words.specs.Written.{word}
use Rattle.vdm_kinds.specs.declared.name.Name.{Name}
use Rattle.vdm_kinds.specs.declared.place.Place.{Place}
use Rattle.vdm_kinds.specs.declared.name_at.TypeName.{TypeName}
use Rattle.grammar_words.specs.declared.word.Word.{Word}
use Rattle.grammar_words.specs.declared.word.Word.TheVariants as word_is
use Rattle.grammar_trees.proofs.Ends.{word_below}
use Rattle.grammar_trees.proofs.Leading.{nothing_more, at_token, at_any, regroup, below_one, small, part, before_word, Leads, Taken}
use Rattle.grammar_trees.proofs.Assoc.{exprs-assoc, maplets-assoc, field_values-assoc}
use Rattle.grammar_trees.proofs.Simple.{type_name-leads}

-- each of the expressions is read
abbrev pub ExprsTaken : TypeReader → ExprTrees → Type 0
ExprsTaken types no_exprs = Unit {0}
ExprsTaken types (one_expr e es) = Taken types e × ExprsTaken types es

abbrev pub MapletsTaken : TypeReader → MapletTrees → Type 0
MapletsTaken types no_maplets = Unit {0}
MapletsTaken types (one_maplet k v ms) = Taken types k × Taken types v × MapletsTaken types ms

abbrev pub FieldValuesTaken : TypeReader → FieldValueTrees → Type 0
FieldValuesTaken types no_field_values = Unit {0}
FieldValuesTaken types (one_field_value n p v fs) = Taken types v × FieldValuesTaken types fs

abbrev pub GivenTaken : TypeReader → MaybeExpr → Type 0
GivenTaken types left_out = Unit {0}
GivenTaken types (given_expr e) = Taken types e

-- ---- lists of expressions

-- the word that closes a list
abbrev pub closer : Listed → Word
closer set_of = word_is.CloseCurly
closer sequence_of = word_is.CloseSquare
closer tuple_of = word_is.CloseRound
closer (record_of type_name) = word_is.CloseRound
closer (new_of class class_place) = word_is.CloseRound
closer (applied_to head) = word_is.CloseRound

closer-below : (listed : Listed) → word_below (closer listed) 1
closer-below set_of = below_one
closer-below sequence_of = below_one
closer-below tuple_of = below_one
closer-below (record_of type_name) = below_one
closer-below (new_of class class_place) = below_one
closer-below (applied_to head) = below_one

closes-list : (types : TypeReader) (listed : Listed) (es : ExprTrees) (e : ExprTree) (place spot : Place) (fs : List Frame) → step types (in_mode (has e) (items listed es place ∷ fs)) (plain (closer listed) spot) ≡ in_mode (has (whole_list listed (and_expr es e) place)) fs
closes-list types set_of no_exprs e place spot fs = refl
closes-list types set_of (one_expr f es) e place spot fs = refl
closes-list types sequence_of no_exprs e place spot fs = refl
closes-list types sequence_of (one_expr f es) e place spot fs = refl
closes-list types tuple_of es e place spot fs = refl
closes-list types (record_of type_name) es e place spot fs = refl
closes-list types (new_of class class_place) es e place spot fs = refl
closes-list types (applied_to head) es e place spot fs = refl

exprs-leads : (types : TypeReader) (n : ℕ) (listed : Listed) (es done : ExprTrees) (e : ExprTree) (place : Place) (fs : List Frame) → Taken types e → ExprsTaken types es → Binds e far_pull → AreExprs es → Leads types n (exprs_spelling (one_expr e es) ++ word (closer listed) ∷ []) (in_mode wants (items listed done place ∷ fs)) (in_mode (has (whole_list listed (then_exprs done (one_expr e es)) place)) fs)
exprs-leads types n listed no_exprs done e place fs t ts b bs =
    regroup (spelling e) [] (word (closer listed) ∷ []) (part e (closer listed) t b (closer-below listed) small (λ spot. closes-list types listed done e place spot fs) nothing_more)
exprs-leads types n listed (one_expr next es) done e place fs t ts b bs =
    regroup (spelling e) (further_exprs (one_expr next es)) (word (closer listed) ∷ []) (part e word_is.Comma t b below_one small (λ spot. refl)
    (subst (λ (all : ExprTrees). Leads types n (exprs_spelling (one_expr next es) ++ word (closer listed) ∷ []) (in_mode wants (items listed (and_expr done e) place ∷ fs)) (in_mode (has (whole_list listed all place)) fs))
    (exprs-assoc done (one_expr e no_exprs) (one_expr next es))
    (exprs-leads types n listed es (and_expr done e) next place fs ts.0 ts.1 bs.0 bs.1)))

-- a list that may be empty, behind its opening bracket
pub list-leads : (types : TypeReader) (n : ℕ) (listed : Listed) (es : ExprTrees) (place : Place) (fs : List Frame) → ExprsTaken types es → AreExprs es → ((spot : Place) → step types (in_mode wants (items listed no_exprs place ∷ fs)) (plain (closer listed) spot) ≡ in_mode (has (whole_list listed no_exprs place)) fs) → Leads types n (exprs_spelling es ++ word (closer listed) ∷ []) (in_mode wants (items listed no_exprs place ∷ fs)) (in_mode (has (whole_list listed es place)) fs)
list-leads types n listed no_exprs place fs t b s = at_any (closer listed) s nothing_more
list-leads types n listed (one_expr e es) place fs t b s = exprs-leads types n listed es no_exprs e place fs t.0 t.1 b.0 b.1

pub set_enumeration-taken : (types : TypeReader) (elements : ExprTrees) (place : Place) → ExprsTaken types elements → Taken types (set_enumeration elements place)
set_enumeration-taken types elements place t =
    record { taken = λ m fs b p. at_token (plain word_is.OpenCurly place) refl (list-leads types closed set_of elements place fs t b (λ spot. refl)) }

pub sequence_enumeration-taken : (types : TypeReader) (elements : ExprTrees) (place : Place) → ExprsTaken types elements → Taken types (sequence_enumeration elements place)
sequence_enumeration-taken types elements place t =
    record { taken = λ m fs b p. at_token (plain word_is.OpenSquare place) refl (list-leads types closed sequence_of elements place fs t b (λ spot. refl)) }

pub make_record-taken : (types : TypeReader) (type_name : TypeName) (fields : ExprTrees) (place : Place) → ExprsTaken types fields → Taken types (make_record type_name fields place)
make_record-taken types type_name fields place t =
    record {
      taken = λ m fs b p. type_name-leads types closed make_named made type_name place fs _ _ _ (λ first. refl) b.0
          (list-leads types closed (record_of type_name) fields place fs t b.1 (λ spot. refl));
    }

pub create-taken : (types : TypeReader) (class : Name) (class_place : Place) (arguments : ExprTrees) (place : Place) → ExprsTaken types arguments → Taken types (create class class_place arguments place)
create-taken types class class_place arguments place t =
    record {
      taken = λ m fs b p. at_token (plain word_is.New place) refl (at_token (identifier class class_place) refl (at_any word_is.OpenRound (λ spot. refl)
          (list-leads types closed (new_of class class_place) arguments place fs t b (λ spot. refl))));
    }

pub apply-taken : (types : TypeReader) (head : ExprTree) (arguments : ExprTrees) (place : Place) → Taken types head → ExprsTaken types arguments → Taken types (apply head arguments place)
apply-taken types head arguments place t u =
    record {
      taken = λ m fs b p. before_word m head word_is.OpenRound place t b.0 p b.1 b.2 refl
          (list-leads types closed (applied_to head) arguments place fs u b.3 (λ spot. refl));
    }

tuple-leads : (types : TypeReader) (n : ℕ) (parts : ExprTrees) (place : Place) (fs : List Frame) → ExprsTaken types parts → AreTwoExprs parts → AreExprs parts → Leads types n (exprs_spelling parts ++ word word_is.CloseRound ∷ []) (in_mode wants (tuple_start place ∷ fs)) (in_mode (has (make_tuple parts place)) fs)
tuple-leads types n no_exprs place fs t h b = absurd h
tuple-leads types n (one_expr e no_exprs) place fs t h b = absurd h
tuple-leads types n (one_expr e (one_expr next es)) place fs t h b =
    regroup (spelling e) (further_exprs (one_expr next es)) (word word_is.CloseRound ∷ []) (part e word_is.Comma t.0 b.0 below_one small (λ spot. refl)
    (exprs-leads types n tuple_of es (one_expr e no_exprs) next place fs t.1.0 t.1.1 b.1.0 b.1.1))

pub make_tuple-taken : (types : TypeReader) (parts : ExprTrees) (place : Place) → ExprsTaken types parts → Taken types (make_tuple parts place)
make_tuple-taken types parts place t =
    record { taken = λ m fs b p. at_token (plain word_is.MakeTuple place) refl (at_any word_is.OpenRound (λ spot. refl) (tuple-leads types closed parts place fs t b.0 b.1)) }

-- ---- maps

-- behind a key
maplets-leads : (types : TypeReader) (n : ℕ) (ms done : MapletTrees) (k v : ExprTree) (place : Place) (fs : List Frame) → Taken types v → MapletsTaken types ms → Binds v far_pull → AreMaplets ms → Leads types n ((spelling v ++ further_maplets ms) ++ word word_is.CloseCurly ∷ []) (in_mode wants (map_value done k place ∷ fs)) (in_mode (has (map_enumeration (then_maplets done (one_maplet k v ms)) place)) fs)
maplets-leads types n no_maplets done k v place fs t ts b bs =
    regroup (spelling v) [] (word word_is.CloseCurly ∷ []) (part v word_is.CloseCurly t b below_one small (λ spot. refl) nothing_more)
maplets-leads types n (one_maplet key value ms) done k v place fs t ts b bs =
    regroup (spelling v) (further_maplets (one_maplet key value ms)) (word word_is.CloseCurly ∷ []) (part v word_is.Comma t b below_one small (λ spot. refl)
    (regroup (spelling key) (word word_is.MapsTo ∷ spelling value ++ further_maplets ms) (word word_is.CloseCurly ∷ [])
    (part key word_is.MapsTo ts.0 bs.0 below_one small (λ spot. refl)
    (subst (λ (all : MapletTrees). Leads types n ((spelling value ++ further_maplets ms) ++ word word_is.CloseCurly ∷ []) (in_mode wants (map_value (and_maplet done k v) key place ∷ fs)) (in_mode (has (map_enumeration all place)) fs))
    (maplets-assoc done (one_maplet k v no_maplets) (one_maplet key value ms))
    (maplets-leads types n ms (and_maplet done k v) key value place fs ts.1 ts.2 bs.1 bs.2)))))

map-leads : (types : TypeReader) (n : ℕ) (ms : MapletTrees) (place : Place) (fs : List Frame) → MapletsTaken types ms → AreSomeMaplets ms → AreMaplets ms → Leads types n (maplets_spelling ms ++ word word_is.CloseCurly ∷ []) (in_mode wants (items set_of no_exprs place ∷ fs)) (in_mode (has (map_enumeration ms place)) fs)
map-leads types n no_maplets place fs t h b = absurd h
map-leads types n (one_maplet key value ms) place fs t h b =
    regroup (spelling key) (word word_is.MapsTo ∷ spelling value ++ further_maplets ms) (word word_is.CloseCurly ∷ [])
    (part key word_is.MapsTo t.0 b.0 below_one small (λ spot. refl)
    (maplets-leads types n ms no_maplets key value place fs t.1 t.2 b.1 b.2))

pub map_enumeration-taken : (types : TypeReader) (pairs : MapletTrees) (place : Place) → MapletsTaken types pairs → Taken types (map_enumeration pairs place)
map_enumeration-taken types pairs place t =
    record { taken = λ m fs b p. at_token (plain word_is.OpenCurly place) refl (map-leads types closed pairs place fs t b.0 b.1) }

-- ---- fields

field_values-leads : (types : TypeReader) (n : ℕ) (target : ExprTree) (fields done : FieldValueTrees) (place : Place) (fs : List Frame) → FieldValuesTaken types fields → AreSomeFields fields → AreFieldValues fields → Leads types n (field_values_spelling fields ++ word word_is.CloseRound ∷ []) (in_mode (awaits (field_name target done place)) fs) (in_mode (has (modify_record target (then_field_values done fields) place)) fs)
field_values-leads types n target no_field_values done place fs t h b = absurd h
field_values-leads types n target (one_field_value name name_place value no_field_values) done place fs t h b =
    at_token (identifier name name_place) refl (at_any word_is.MapsTo (λ spot. refl)
    (regroup (spelling value) [] (word word_is.CloseRound ∷ []) (part value word_is.CloseRound t.0 b.0 below_one small (λ spot. refl) nothing_more)))
field_values-leads types n target (one_field_value name name_place value (one_field_value next next_place v fields)) done place fs t h b =
    at_token (identifier name name_place) refl (at_any word_is.MapsTo (λ spot. refl)
    (regroup (spelling value) (further_field_values (one_field_value next next_place v fields)) (word word_is.CloseRound ∷ [])
    (part value word_is.Comma t.0 b.0 below_one small (λ spot. refl)
    (subst (λ (all : FieldValueTrees). Leads types n (field_values_spelling (one_field_value next next_place v fields) ++ word word_is.CloseRound ∷ []) (in_mode (awaits (field_name target (and_field_value done name name_place value) place)) fs) (in_mode (has (modify_record target all place)) fs))
    (field_values-assoc done (one_field_value name name_place value no_field_values) (one_field_value next next_place v fields))
    (field_values-leads types n target (one_field_value next next_place v fields) (and_field_value done name name_place value) place fs t.1 tt b.1)))))

pub modify_record-taken : (types : TypeReader) (target : ExprTree) (fields : FieldValueTrees) (place : Place) → Taken types target → FieldValuesTaken types fields → Taken types (modify_record target fields place)
modify_record-taken types target fields place t u =
    record {
      taken = λ m fs b p. at_token (plain word_is.Modify place) refl (at_any word_is.OpenRound (λ spot. refl)
          (part target word_is.Comma t b.0 below_one small (λ spot. refl) (field_values-leads types closed target fields no_field_values place fs u b.1 b.2)));
    }
