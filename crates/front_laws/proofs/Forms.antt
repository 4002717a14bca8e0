-- The words of names, literals, operators and forms of a few parts are read.
use Rattle.std.proofs.Common.{◌≡◌, ℤ, true, false, Bool, if◌then◌else◌, List, [], ◌∷◌, ◌++◌, Option, Some, None, refl, ap}
use Rattle.vdm_kinds.specs.declared.basic_type.BasicType.{BasicType}
use Rattle.vdm_kinds.specs.declared.counter.Counter.{Counter}
use Rattle.vdm_kinds.specs.declared.name.Name.{Name}
use Rattle.vdm_kinds.specs.declared.name_at.NameAt.{NameAt}
use Rattle.vdm_kinds.specs.declared.name_at.TypeName.{TypeName}
use Rattle.vdm_kinds.specs.declared.place.Place.{Place}
use Rattle.vdm_kinds.specs.declared.sign.Sign.{Sign}
use Rattle.vdm_kinds.specs.declared.sign.Sign.TheVariants as sign_is
use Rattle.vdm_kinds.specs.declared.sign.Sign.TheVariants.{InSet, Equal, Concatenation}
use Rattle.abstract_syntax.specs.Literals.{LiteralTree, whole_literal, character_literal, text_literal, quote_literal, boolean_literal, nil_literal}
use Rattle.abstract_syntax.specs.Types.{TypeTree}
use Rattle.abstract_syntax.specs.Expressions.{ExprTree, ExprTrees, MapletTrees, FieldValueTrees, literal, named, qualified, old_value, self_object, current_time, undefined, result_value, bracketed, prefixed, joined, set_enumeration, set_range, empty_map, map_enumeration, sequence_enumeration, make_tuple, make_token, make_record, modify_record, is_of_type, is_of_named, is_of_basic, is_of_class, is_of_base_class, same_class, same_base_class, create, history, apply, subsequence, select, select_of_class, select_part}
use Rattle.grammar_words.specs.declared.word.Word.TheVariants as word_is
use Rattle.grammar_words.specs.Pulls.{far_pull, right_pull, left_pull, prefix_word, IsPrefix, IsInfix}
use Rattle.grammar_words.specs.Tokens.{identifier, make_named, is_named}
use Rattle.grammar_words.specs.Written.{Written, at, word, number, at_word}
use Rattle.type_reading.specs.TypeSpelling.{union, type_spelling, literal_token, class_and_name, type_name_spelling}
use Rattle.grammar_trees.specs.Spelling.{spelling}
use Rattle.grammar_fronts.specs.declared.wanted.Wanted.{Wanted}
use Rattle.grammar_fronts.specs.declared.wanted.Wanted.TheVariants as want
use Rattle.grammar_fronts.specs.Turns.{begins, joins}
use Rattle.grammar_fronts.specs.Operands.{expression}
use Rattle.grammar_fronts.specs.Viable.{after, either, left_by, meets}
use Rattle.front_laws.proofs.Passing.{written_word, Reads, tok, follow, regroup}
use Rattle.front_laws.proofs.Starts.{Starts, opens, at_in_curly, at_arguments}
use Rattle.front_laws.proofs.Types.{inside, type_reads}
use Rattle.front_laws.proofs.Claims.{ExprRead, within, ExprsRead, MapletsRead, FieldValuesRead}
use Rattle.front_laws.proofs.Parts.{set_in, arguments_in, sequence_in, parts_in, tuple_in, map_in, changes_in, names_in}

literal_begins : (value : LiteralTree) (place : Place) → expression (written_word (at (literal_token value place))) ≡ Some (begins 0 [] (want.BehindOperand ∷ []))
literal_begins (whole_literal n) place = refl
literal_begins (character_literal c) place = refl
literal_begins (text_literal characters) place = refl
literal_begins (quote_literal name) place = refl
literal_begins (boolean_literal true) place = refl
literal_begins (boolean_literal false) place = refl
literal_begins nil_literal place = refl

prefix_begins : (sign : Sign) → IsPrefix sign → expression (prefix_word sign) ≡ Some (begins (right_pull sign) (want.Expression ∷ []) [])
prefix_begins sign_is.Not h = refl
prefix_begins sign_is.Inverse h = refl
prefix_begins sign_is.Positive h = refl
prefix_begins sign_is.Negative h = refl
prefix_begins sign_is.Absolute h = refl
prefix_begins sign_is.Card h = refl
prefix_begins sign_is.PowerSet h = refl
prefix_begins sign_is.DistributedUnion h = refl
prefix_begins sign_is.DistributedInter h = refl
prefix_begins sign_is.Length h = refl
prefix_begins sign_is.Head h = refl
prefix_begins sign_is.Tail h = refl
prefix_begins sign_is.Indices h = refl
prefix_begins sign_is.Elements h = refl
prefix_begins sign_is.DistributedConcatenation h = refl
prefix_begins sign_is.Domain h = refl
prefix_begins sign_is.Range h = refl
prefix_begins sign_is.Merge h = refl
prefix_begins _ h = absurd (cc)

infix_takes : (sign : Sign) → IsInfix sign → (behind : List Wanted)
    → after (word_is.Operator sign) (want.BehindOperand ∷ behind) ≡ Some (want.Expression ∷ behind)
infix_takes sign h behind =
    ap (λ (b : Bool). left_by (either (if b then Some (joins (left_pull sign) (right_pull sign) (want.Expression ∷ []) []) else None) behind (meets (word_is.Operator sign) behind))) h

pub literal-read : (value : LiteralTree) (place : Place) → ExprRead (literal value place)
literal-read value place = record { reads = λ m b next more s behind a f. opens s (at (literal_token value place)) (literal_begins value place) f.plain }

pub named-read : (name : Name) (place : Place) → ExprRead (named name place)
named-read name place = record { reads = λ m b next more s behind a f. opens s (at (identifier name place)) refl f.name }

pub qualified-read : (class : Name) (name : Name) (name_place : Place) (place : Place) → ExprRead (qualified class name name_place place)
qualified-read class name name_place place = record { reads = λ m b next more s behind a f. opens s (at (identifier class place)) refl (tok (word word_is.Backquote) refl (tok (at (identifier name name_place)) refl (f.plain))) }

pub old_value-read : (name : Name) (place : Place) → ExprRead (old_value name place)
old_value-read name place = record { reads = λ m b next more s behind a f. opens s (at (identifier name place)) refl (tok (word word_is.Tilde) refl (f.plain)) }

pub self_object-read : (place : Place) → ExprRead (self_object place)
self_object-read place = record { reads = λ m b next more s behind a f. opens s (at_word word_is.SelfWord place) refl (f.plain) }

pub current_time-read : (place : Place) → ExprRead (current_time place)
current_time-read place = record { reads = λ m b next more s behind a f. opens s (at_word word_is.Time place) refl (f.plain) }

pub undefined-read : (place : Place) → ExprRead (undefined place)
undefined-read place = record { reads = λ m b next more s behind a f. opens s (at_word word_is.Undefined place) refl (f.plain) }

pub result_value-read : (place : Place) → ExprRead (result_value place)
result_value-read place = record { reads = λ m b next more s behind a f. opens s (at_word word_is.Result place) refl (f.plain) }

pub bracketed-read : (inner : ExprTree) (place : Place) → ExprRead inner → ExprRead (bracketed inner place)
bracketed-read inner place t = record { reads = λ m b next more s behind a f. opens s (at_word word_is.OpenRound place) refl (regroup (spelling inner) _ (a) (within t far_pull b (follow (word word_is.CloseRound) refl refl refl (f.plain)))) }

pub prefixed-read : (sign : Sign) (operand : ExprTree) (place : Place) → ExprRead operand → ExprRead (prefixed sign operand place)
prefixed-read sign operand place t = record { reads = λ m b next more s behind a f. opens s (at_word (prefix_word sign) place) (prefix_begins sign b.0) (within t (right_pull sign) b.1 f) }

pub joined-read : (left : ExprTree) (sign : Sign) (right : ExprTree) (place : Place) → ExprRead left → ExprRead right → ExprRead (joined left sign right place)
joined-read left sign right place l r = record { reads = λ m b next more s behind a f. regroup (spelling left) _ (a) (l.reads m b.1 next more s behind _ (follow (at_word (word_is.Operator sign) place) (infix_takes sign b.0 (more ++ behind)) refl refl (within r (right_pull sign) b.4 f))) }

pub set_enumeration-read : (es : ExprTrees) (place : Place) → ExprsRead es → ExprRead (set_enumeration es place)
set_enumeration-read es place t = record { reads = λ m b next more s behind a f. opens s (at_word word_is.OpenCurly place) refl (set_in es t b (want.BehindOperand ∷ (more ++ behind)) a f.plain) }

pub set_range-read : (first : ExprTree) (last : ExprTree) (place : Place) → ExprRead first → ExprRead last → ExprRead (set_range first last place)
set_range-read first last place t u = record { reads = λ m b next more s behind a f. opens s (at_word word_is.OpenCurly place) refl (regroup (spelling first) _ (a) (t.reads far_pull b.0 want.InCurly (want.BehindFirstInCurly ∷ []) at_in_curly (want.BehindOperand ∷ (more ++ behind)) _ (follow (word word_is.Comma) refl refl refl (tok (word word_is.Dots) refl (tok (word word_is.Comma) refl (regroup (spelling last) _ (a) (within u far_pull b.1 (follow (word word_is.CloseCurly) refl refl refl (f.plain))))))))) }

pub empty_map-read : (place : Place) → ExprRead (empty_map place)
empty_map-read place = record { reads = λ m b next more s behind a f. opens s (at_word word_is.OpenCurly place) refl (tok (word word_is.MapsTo) refl (tok (word word_is.CloseCurly) refl (f.plain))) }

pub map_enumeration-read : (ms : MapletTrees) (place : Place) → MapletsRead ms → ExprRead (map_enumeration ms place)
map_enumeration-read ms place t = record { reads = λ m b next more s behind a f. opens s (at_word word_is.OpenCurly place) refl (map_in ms t b.1 b.0 (want.BehindOperand ∷ (more ++ behind)) a f.plain) }

pub sequence_enumeration-read : (es : ExprTrees) (place : Place) → ExprsRead es → ExprRead (sequence_enumeration es place)
sequence_enumeration-read es place t = record { reads = λ m b next more s behind a f. opens s (at_word word_is.OpenSquare place) refl (sequence_in es t b (want.BehindOperand ∷ (more ++ behind)) a f.plain) }

pub make_tuple-read : (es : ExprTrees) (place : Place) → ExprsRead es → ExprRead (make_tuple es place)
make_tuple-read es place t = record { reads = λ m b next more s behind a f. opens s (at_word word_is.MakeTuple place) refl (tok (word word_is.OpenRound) refl (tuple_in es t b.1 b.0 (want.BehindOperand ∷ (more ++ behind)) a f.plain)) }

pub make_token-read : (inner : ExprTree) (place : Place) → ExprRead inner → ExprRead (make_token inner place)
make_token-read inner place t = record { reads = λ m b next more s behind a f. opens s (at_word word_is.MakeToken place) refl (tok (word word_is.OpenRound) refl (regroup (spelling inner) _ (a) (within t far_pull b (follow (word word_is.CloseRound) refl refl refl (f.plain))))) }

record_of_class : (class : Option Name) (name : Name) (name_place place : Place) (next : Wanted) (more : List Wanted) → Starts expression next more
    → (behind : List Wanted) (a : List Written) → Reads a (want.Parts ∷ want.BehindOperand ∷ (more ++ behind))
    → Reads (class_and_name make_named class name name_place place ++ (word word_is.OpenRound ∷ a)) (next ∷ behind)
record_of_class None name name_place place next more s behind a r = opens s (at (make_named name place)) refl (tok (word word_is.OpenRound) refl (r))
record_of_class (Some class) name name_place place next more s behind a r =
    opens s (at (make_named class place)) refl (tok (word word_is.Backquote) refl (tok (at (identifier name name_place)) refl (tok (word word_is.OpenRound) refl (r))))

test_of_class : (class : Option Name) (name : Name) (name_place place : Place) (next : Wanted) (more : List Wanted) → Starts expression next more
    → (behind : List Wanted) (a : List Written) → Reads a (want.Expression ∷ want.CloseRound ∷ want.BehindOperand ∷ (more ++ behind))
    → Reads (class_and_name is_named class name name_place place ++ (word word_is.OpenRound ∷ a)) (next ∷ behind)
test_of_class None name name_place place next more s behind a r = opens s (at (is_named name place)) refl (tok (word word_is.OpenRound) refl (r))
test_of_class (Some class) name name_place place next more s behind a r =
    opens s (at (is_named class place)) refl (tok (word word_is.Backquote) refl (tok (at (identifier name name_place)) refl (tok (word word_is.OpenRound) refl (r))))

pub make_record-read : (type_name : TypeName) (es : ExprTrees) (place : Place) → ExprsRead es → ExprRead (make_record type_name es place)
make_record-read type_name es place t = record { reads = λ m b next more s behind a f. regroup (type_name_spelling make_named type_name place) _ (a) (record_of_class type_name.class type_name.name type_name.name_place place next more s behind _ (parts_in es t b.1 (want.BehindOperand ∷ (more ++ behind)) a f.plain)) }

pub modify_record-read : (target : ExprTree) (fs : FieldValueTrees) (place : Place) → ExprRead target → FieldValuesRead fs → ExprRead (modify_record target fs place)
modify_record-read target fs place t u = record { reads = λ m b next more s behind a f. opens s (at_word word_is.Modify place) refl (tok (word word_is.OpenRound) refl (regroup (spelling target) _ (a) (within t far_pull b.0 (follow (word word_is.Comma) refl refl refl (changes_in fs u b.2 b.1 (want.BehindOperand ∷ (more ++ behind)) a f.plain))))) }

pub is_of_type-read : (tested : ExprTree) (declared : TypeTree) (place : Place) → ExprRead tested → ExprRead (is_of_type tested declared place)
is_of_type-read tested declared place t = record { reads = λ m b next more s behind a f. opens s (at_word word_is.IsType place) refl (tok (word word_is.OpenRound) refl (regroup (spelling tested) _ (a) (within t far_pull b.0 (follow (word word_is.Comma) refl refl refl (regroup (type_spelling declared) _ (a) (inside (type_reads declared) union b.1 (follow (word word_is.CloseRound) refl refl refl (f.plain)))))))) }

pub is_of_named-read : (type_name : TypeName) (tested : ExprTree) (place : Place) → ExprRead tested → ExprRead (is_of_named type_name tested place)
is_of_named-read type_name tested place t = record { reads = λ m b next more s behind a f. regroup (type_name_spelling is_named type_name place) _ (a) (test_of_class type_name.class type_name.name type_name.name_place place next more s behind _ (regroup (spelling tested) _ (a) (within t far_pull b.1 (follow (word word_is.CloseRound) refl refl refl (f.plain))))) }

pub is_of_basic-read : (basic : BasicType) (tested : ExprTree) (place : Place) → ExprRead tested → ExprRead (is_of_basic basic tested place)
is_of_basic-read basic tested place t = record { reads = λ m b next more s behind a f. opens s (at_word (word_is.IsBasic basic) place) refl (tok (word word_is.OpenRound) refl (regroup (spelling tested) _ (a) (within t far_pull b (follow (word word_is.CloseRound) refl refl refl (f.plain))))) }

pub is_of_class-read : (class : Name) (class_place : Place) (tested : ExprTree) (place : Place) → ExprRead tested → ExprRead (is_of_class class class_place tested place)
is_of_class-read class class_place tested place t = record { reads = λ m b next more s behind a f. opens s (at_word word_is.IsOfClass place) refl (tok (word word_is.OpenRound) refl (tok (at (identifier class class_place)) refl (tok (word word_is.Comma) refl (regroup (spelling tested) _ (a) (within t far_pull b (follow (word word_is.CloseRound) refl refl refl (f.plain))))))) }

pub is_of_base_class-read : (class : Name) (class_place : Place) (tested : ExprTree) (place : Place) → ExprRead tested → ExprRead (is_of_base_class class class_place tested place)
is_of_base_class-read class class_place tested place t = record { reads = λ m b next more s behind a f. opens s (at_word word_is.IsOfBaseClass place) refl (tok (word word_is.OpenRound) refl (tok (at (identifier class class_place)) refl (tok (word word_is.Comma) refl (regroup (spelling tested) _ (a) (within t far_pull b (follow (word word_is.CloseRound) refl refl refl (f.plain))))))) }

pub same_class-read : (left : ExprTree) (right : ExprTree) (place : Place) → ExprRead left → ExprRead right → ExprRead (same_class left right place)
same_class-read left right place l r = record { reads = λ m b next more s behind a f. opens s (at_word word_is.SameClass place) refl (tok (word word_is.OpenRound) refl (regroup (spelling left) _ (a) (within l far_pull b.0 (follow (word word_is.Comma) refl refl refl (regroup (spelling right) _ (a) (within r far_pull b.1 (follow (word word_is.CloseRound) refl refl refl (f.plain)))))))) }

pub same_base_class-read : (left : ExprTree) (right : ExprTree) (place : Place) → ExprRead left → ExprRead right → ExprRead (same_base_class left right place)
same_base_class-read left right place l r = record { reads = λ m b next more s behind a f. opens s (at_word word_is.SameBaseClass place) refl (tok (word word_is.OpenRound) refl (regroup (spelling left) _ (a) (within l far_pull b.0 (follow (word word_is.Comma) refl refl refl (regroup (spelling right) _ (a) (within r far_pull b.1 (follow (word word_is.CloseRound) refl refl refl (f.plain)))))))) }

pub create-read : (class : Name) (class_place : Place) (es : ExprTrees) (place : Place) → ExprsRead es → ExprRead (create class class_place es place)
create-read class class_place es place t = record { reads = λ m b next more s behind a f. opens s (at_word word_is.New place) refl (tok (at (identifier class class_place)) refl (tok (word word_is.OpenRound) refl (parts_in es t b (want.BehindOperand ∷ (more ++ behind)) a f.plain))) }

pub history-read : (counter : Counter) (names : List NameAt) (place : Place) → ExprRead (history counter names place)
history-read counter names place = record { reads = λ m b next more s behind a f. opens s (at_word (word_is.Counter counter) place) refl (tok (word word_is.OpenRound) refl (names_in names b (want.BehindOperand ∷ (more ++ behind)) a f.plain)) }

pub apply-read : (head : ExprTree) (es : ExprTrees) (place : Place) → ExprRead head → ExprsRead es → ExprRead (apply head es place)
apply-read head es place t u = record { reads = λ m b next more s behind a f. regroup (spelling head) _ (a) (t.reads m b.0 next more s behind _ (follow (at_word word_is.OpenRound place) refl refl refl (arguments_in es u b.3 (want.BehindOperand ∷ (more ++ behind)) a f.plain))) }

pub subsequence-read : (target : ExprTree) (first : ExprTree) (last : ExprTree) (place : Place) → ExprRead target → ExprRead first → ExprRead last → ExprRead (subsequence target first last place)
subsequence-read target first last place t u v = record { reads = λ m b next more s behind a f. regroup (spelling target) _ (a) (t.reads m b.0 next more s behind _ (follow (at_word word_is.OpenRound place) refl refl refl (regroup (spelling first) _ (a) (u.reads far_pull b.3 want.Arguments (want.BehindFirstArgument ∷ []) at_arguments (want.BehindOperand ∷ (more ++ behind)) _ (follow (word word_is.Comma) refl refl refl (tok (word word_is.Dots) refl (tok (word word_is.Comma) refl (regroup (spelling last) _ (a) (within v far_pull b.4 (follow (word word_is.CloseRound) refl refl refl (f.plain))))))))))) }

pub select-read : (target : ExprTree) (name : Name) (name_place : Place) (place : Place) → ExprRead target → ExprRead (select target name name_place place)
select-read target name name_place place t = record { reads = λ m b next more s behind a f. regroup (spelling target) _ (a) (t.reads m b.0 next more s behind _ (follow (at_word word_is.Dot place) refl refl refl (tok (at (identifier name name_place)) refl (f.class)))) }

pub select_of_class-read : (target : ExprTree) (class : Name) (class_place : Place) (name : Name) (name_place : Place) (place : Place) → ExprRead target → ExprRead (select_of_class target class class_place name name_place place)
select_of_class-read target class class_place name name_place place t = record { reads = λ m b next more s behind a f. regroup (spelling target) _ (a) (t.reads m b.0 next more s behind _ (follow (at_word word_is.Dot place) refl refl refl (tok (at (identifier class class_place)) refl (tok (word word_is.Backquote) refl (tok (at (identifier name name_place)) refl (f.plain)))))) }

pub select_part-read : (target : ExprTree) (part : ℤ) (place : Place) → ExprRead target → ExprRead (select_part target part place)
select_part-read target part place t = record { reads = λ m b next more s behind a f. regroup (spelling target) _ (a) (t.reads m b.0 next more s behind _ (follow (at_word word_is.DotNumber place) refl refl refl (tok (number part) refl f.plain))) }
