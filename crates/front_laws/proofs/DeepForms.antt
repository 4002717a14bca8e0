-- How deep names, literals, operators and forms of a few parts are.
use Rattle.std.proofs.Common.{◌≡◌, ℕ, ℤ, ◌+◌, ◌<◌, ◌≤◌, true, false, Bool, if◌then◌else◌, max, min, List, [], ◌∷◌, ◌++◌, length, Option, Some, None, refl, ap, subst, ◌∙◌, append_assoc, arith}
use Rattle.std.proofs.lemmas.List.{length-append}
use Rattle.vdm_kinds.specs.declared.basic_type.BasicType.{BasicType}
use Rattle.vdm_kinds.specs.declared.counter.Counter.{Counter}
use Rattle.vdm_kinds.specs.declared.name.Name.{Name}
use Rattle.vdm_kinds.specs.declared.name_at.NameAt.{NameAt}
use Rattle.vdm_kinds.specs.declared.name_at.TypeName.{TypeName}
use Rattle.vdm_kinds.specs.declared.place.Place.{Place}
use Rattle.vdm_kinds.specs.declared.sign.Sign.{Sign}
use Rattle.vdm_kinds.specs.declared.sign.Sign.TheVariants as sign_is
use Rattle.vdm_kinds.specs.declared.sign.Sign.TheVariants.{InSet, Equal, Concatenation}
use Rattle.abstract_syntax.specs.Literals.{LiteralTree, whole_literal, character_literal, text_literal, quote_literal, boolean_literal, nil_literal}
use Rattle.abstract_syntax.specs.Types.{TypeTree}
use Rattle.abstract_syntax.specs.Expressions.{ExprTree, ExprTrees, MapletTrees, FieldValueTrees, literal, named, qualified, old_value, self_object, current_time, undefined, result_value, bracketed, prefixed, joined, set_enumeration, set_range, empty_map, map_enumeration, sequence_enumeration, make_tuple, make_token, make_record, modify_record, is_of_type, is_of_named, is_of_basic, is_of_class, is_of_base_class, same_class, same_base_class, create, history, apply, subsequence, select, select_of_class, select_part}
use Rattle.grammar_words.specs.declared.word.Word.TheVariants as word_is
use Rattle.grammar_words.specs.Pulls.{closed, right_pull, left_pull, prefix_word, IsPrefix, IsInfix}
use Rattle.grammar_words.specs.Tokens.{make_named, is_named}
use Rattle.grammar_words.specs.Written.{Written, at, word}
use Rattle.type_reading.specs.TypeSpelling.{type_spelling, literal_token, class_and_name, type_name_spelling}
use Rattle.grammar_trees.specs.Spelling.{spelling}
use Rattle.grammar_trees.specs.Binding.{reach}
use Rattle.grammar_fronts.specs.declared.open_node.OpenNode.{OpenNode}
use Rattle.grammar_fronts.specs.declared.wanted.Wanted.{Wanted}
use Rattle.grammar_fronts.specs.declared.wanted.Wanted.TheVariants as want
use Rattle.grammar_fronts.specs.Depth.{nest, ended, end_over, with_turn}
use Rattle.grammar_fronts.specs.Turns.{begins, joins}
use Rattle.grammar_fronts.specs.Operands.{expression}
use Rattle.grammar_fronts.specs.Viable.{takes, either, meets}
use Rattle.front_laws.proofs.Passing.{written_word}
use Rattle.front_laws.proofs.Starts.{Starts, at_expression, at_in_curly, at_arguments}
use Rattle.front_laws.proofs.Fine.{node, Fine, took, goes, pulled, raise, Calm, calm_ends, Plain, behind_name, behind_class}
use Rattle.front_laws.proofs.Nests.{Own, EndsAt, inside, taken, Part, regroup_own, regroup_fine, begun, own_of, next_word, word_behind, closes, unraised, lower}
use Rattle.front_laws.proofs.TypesDeep.{type_part, type_deep}
use Rattle.front_laws.proofs.DeepClaims.{ExprDeep, first_part, expr_part, ExprsDeep, MapletsDeep, FieldValuesDeep}
use Rattle.front_laws.proofs.DeepParts.{set_in, arguments_in, sequence_in, parts_in, tuple_in, map_in, changes_in, names_in}

literal_begins : (value : LiteralTree) (place : Place) → expression (written_word (at (literal_token value place))) ≡ Some (begins 0 [] (want.BehindOperand ∷ []))
literal_begins (whole_literal n) place = refl
literal_begins (character_literal c) place = refl
literal_begins (text_literal characters) place = refl
literal_begins (quote_literal name) place = refl
literal_begins (boolean_literal true) place = refl
literal_begins (boolean_literal false) place = refl
literal_begins nil_literal place = refl

prefix_begins : (sign : Sign) → IsPrefix sign → expression (prefix_word sign) ≡ Some (begins (right_pull sign) (want.Expression ∷ []) [])
prefix_begins sign_is.Not h = refl
prefix_begins sign_is.Inverse h = refl
prefix_begins sign_is.Positive h = refl
prefix_begins sign_is.Negative h = refl
prefix_begins sign_is.Absolute h = refl
prefix_begins sign_is.Card h = refl
prefix_begins sign_is.PowerSet h = refl
prefix_begins sign_is.DistributedUnion h = refl
prefix_begins sign_is.DistributedInter h = refl
prefix_begins sign_is.Length h = refl
prefix_begins sign_is.Head h = refl
prefix_begins sign_is.Tail h = refl
prefix_begins sign_is.Indices h = refl
prefix_begins sign_is.Elements h = refl
prefix_begins sign_is.DistributedConcatenation h = refl
prefix_begins sign_is.Domain h = refl
prefix_begins sign_is.Range h = refl
prefix_begins sign_is.Merge h = refl
prefix_begins _ h = absurd (cc)

right_small : (sign : Sign) → right_pull sign ≤ 31
right_small sign_is.Equivalent = omega arith
right_small sign_is.Implies = omega arith
right_small sign_is.Or = omega arith
right_small sign_is.And = omega arith
right_small sign_is.Not = omega arith
right_small sign_is.Equal = omega arith
right_small sign_is.NotEqual = omega arith
right_small sign_is.Less = omega arith
right_small sign_is.LessEqual = omega arith
right_small sign_is.Greater = omega arith
right_small sign_is.GreaterEqual = omega arith
right_small sign_is.Subset = omega arith
right_small sign_is.ProperSubset = omega arith
right_small sign_is.InSet = omega arith
right_small sign_is.NotInSet = omega arith
right_small sign_is.Plus = omega arith
right_small sign_is.Minus = omega arith
right_small sign_is.Union = omega arith
right_small sign_is.Difference = omega arith
right_small sign_is.MapUnion = omega arith
right_small sign_is.Override = omega arith
right_small sign_is.Concatenation = omega arith
right_small sign_is.Times = omega arith
right_small sign_is.Div = omega arith
right_small sign_is.Rem = omega arith
right_small sign_is.Mod = omega arith
right_small sign_is.Inter = omega arith
right_small sign_is.Inverse = omega arith
right_small sign_is.DomainRestriction = omega arith
right_small sign_is.DomainRemoval = omega arith
right_small sign_is.RangeRestriction = omega arith
right_small sign_is.RangeRemoval = omega arith
right_small sign_is.Positive = omega arith
right_small sign_is.Negative = omega arith
right_small sign_is.Absolute = omega arith
right_small sign_is.Card = omega arith
right_small sign_is.PowerSet = omega arith
right_small sign_is.DistributedUnion = omega arith
right_small sign_is.DistributedInter = omega arith
right_small sign_is.Length = omega arith
right_small sign_is.Head = omega arith
right_small sign_is.Tail = omega arith
right_small sign_is.Indices = omega arith
right_small sign_is.Elements = omega arith
right_small sign_is.DistributedConcatenation = omega arith
right_small sign_is.Domain = omega arith
right_small sign_is.Range = omega arith
right_small sign_is.Merge = omega arith
right_small sign_is.Composition = omega arith
right_small sign_is.Exponent = omega arith

left_two : (sign : Sign) → IsInfix sign → 2 ≤ left_pull sign
left_two sign_is.Equivalent h = omega arith
left_two sign_is.Implies h = omega arith
left_two sign_is.Or h = omega arith
left_two sign_is.And h = omega arith
left_two sign_is.Not h = absurd (cc)
left_two sign_is.Equal h = omega arith
left_two sign_is.NotEqual h = omega arith
left_two sign_is.Less h = omega arith
left_two sign_is.LessEqual h = omega arith
left_two sign_is.Greater h = omega arith
left_two sign_is.GreaterEqual h = omega arith
left_two sign_is.Subset h = omega arith
left_two sign_is.ProperSubset h = omega arith
left_two sign_is.InSet h = omega arith
left_two sign_is.NotInSet h = omega arith
left_two sign_is.Plus h = omega arith
left_two sign_is.Minus h = omega arith
left_two sign_is.Union h = omega arith
left_two sign_is.Difference h = omega arith
left_two sign_is.MapUnion h = omega arith
left_two sign_is.Override h = omega arith
left_two sign_is.Concatenation h = omega arith
left_two sign_is.Times h = omega arith
left_two sign_is.Div h = omega arith
left_two sign_is.Rem h = omega arith
left_two sign_is.Mod h = omega arith
left_two sign_is.Inter h = omega arith
left_two sign_is.Inverse h = absurd (cc)
left_two sign_is.DomainRestriction h = omega arith
left_two sign_is.DomainRemoval h = omega arith
left_two sign_is.RangeRestriction h = omega arith
left_two sign_is.RangeRemoval h = omega arith
left_two sign_is.Positive h = absurd (cc)
left_two sign_is.Negative h = absurd (cc)
left_two sign_is.Absolute h = absurd (cc)
left_two sign_is.Card h = absurd (cc)
left_two sign_is.PowerSet h = absurd (cc)
left_two sign_is.DistributedUnion h = absurd (cc)
left_two sign_is.DistributedInter h = absurd (cc)
left_two sign_is.Length h = absurd (cc)
left_two sign_is.Head h = absurd (cc)
left_two sign_is.Tail h = absurd (cc)
left_two sign_is.Indices h = absurd (cc)
left_two sign_is.Elements h = absurd (cc)
left_two sign_is.DistributedConcatenation h = absurd (cc)
left_two sign_is.Domain h = absurd (cc)
left_two sign_is.Range h = absurd (cc)
left_two sign_is.Merge h = absurd (cc)
left_two sign_is.Composition h = omega arith
left_two sign_is.Exponent h = omega arith

nameless : {below deep : ℕ} {nodes : List OpenNode} {a : List Written} {wanted : List Wanted} → Own below deep nodes a (want.BehindName ∷ wanted) → Plain a
    → Own below deep nodes a wanted
nameless {a = a} {wanted = wanted} o plain = record { deepest = o.deepest; least = o.least; fine = behind_name a wanted _ plain o.fine }

classless : {below deep : ℕ} {nodes : List OpenNode} {a : List Written} {wanted : List Wanted} → Own below deep nodes a (want.BehindClass ∷ wanted) → Plain a
    → Own below deep nodes a wanted
classless {a = a} {wanted = wanted} o plain = record { deepest = o.deepest; least = o.least; fine = behind_class a wanted _ plain o.fine }

calm_behind : (more behind : List Wanted) (low : ℕ) (nodes : List OpenNode) → Calm (length behind + 1) low nodes → Calm (length (more ++ behind) + 1) low nodes
calm_behind more behind low [] calm = tt
calm_behind more behind low (n ∷ nodes) calm =
    let sum : length (more ++ behind) ≡ length more + length behind = length-append more behind in
    let c = calm.0 in
    (omega arith, calm.1)

-- ---- operators

operator_ends : (wanted by reach pull depth own : ℕ) (behind : List Wanted) (others nodes : List OpenNode)
    → ((wanted by : ℕ) → EndsAt reach (length behind) wanted by → end_over wanted by 0 nodes ≡ end_over wanted by depth (node pull own (length behind) ∷ others))
    → EndsAt (min pull reach) (length behind) wanted by → end_over wanted by 0 nodes ≡ end_over wanted by (max own depth + 1) others
operator_ends wanted by reach pull depth own behind others nodes ends (inside h) =
    ends wanted by (inside h) ∙ goes wanted by depth pull own (length behind) others h
operator_ends wanted by reach pull depth own behind others nodes ends (taken h two less) =
    ends wanted by (taken h two (omega arith)) ∙ pulled wanted by depth pull own (length behind) others (omega arith)

operator_end : {depth own reach pull : ℕ} {next : Wanted} {behind : List Wanted} {nodes : List OpenNode} {a : List Written}
    → Part depth reach next behind (node pull own (length behind) ∷ nodes) a → Part (max own depth + 1) (min pull reach) next behind nodes a
operator_end {own = own} {reach = reach} {pull = pull} {behind = behind} {nodes = nodes} p =
    let deep = p.deep in
    record {
      open_nodes = p.open_nodes;
      deepest = max own p.deepest + 1;
      deep = omega arith;
      ends = λ wanted by end. operator_ends wanted by reach pull p.deepest own behind nodes p.open_nodes p.ends end;
      fine = p.fine;
    }

-- an operator or a postfix takes what was read as its left operand
operated : {depth reach : ℕ} {behind : List Wanted} {nodes : List OpenNode} {w : Written} {a : List Written}
    → (p : Part depth reach want.BehindOperand behind nodes (w ∷ a)) → {left right : ℕ} {parts rest : List Wanted}
    → meets (written_word w) (want.BehindOperand ∷ behind) ≡ takes (joins left right parts rest) behind → (low : ℕ) → Calm (length behind + 1) low nodes
    → low ≤ left → 2 ≤ left → left < reach
    → Fine a ((parts ++ rest) ++ behind) (node right p.deepest (length (rest ++ behind)) ∷ raise p.deepest nodes)
operated {behind = behind} {nodes = nodes} {w = w} {a = a} p {left = left} {right = right} {parts = parts} {rest = rest} met low calm strong two less =
    let ends : ended (length behind + 1) left p.open_nodes ≡ nest (raise p.deepest nodes) p.deepest =
    p.ends (length behind + 1) left (taken (omega arith) two less) ∙ calm_ends (length behind + 1) left low p.deepest nodes calm strong in
    subst (λ n. Fine a ((parts ++ rest) ++ behind) (with_turn (joins left right parts rest) behind n)) ends
    (took w a (want.BehindOperand ∷ behind) p.open_nodes (joins left right parts rest) behind met p.fine)

postfixed : {depth reach : ℕ} {behind : List Wanted} {nodes : List OpenNode} {w : Written} {a : List Written}
    → (p : Part depth reach want.BehindOperand behind nodes (w ∷ a)) → {next : Wanted} {parts : List Wanted}
    → meets (written_word w) (want.BehindOperand ∷ behind) ≡ takes (joins 30 0 (next ∷ parts) (want.BehindOperand ∷ [])) behind → (low : ℕ)
    → Calm (length behind + 1) low nodes → low ≤ 30 → 30 < reach
    → Own (length (want.BehindOperand ∷ behind)) p.deepest (raise p.deepest nodes) a (next ∷ (parts ++ (want.BehindOperand ∷ behind)))
postfixed {behind = behind} {nodes = nodes} {a = a} p {next = next} {parts = parts} met low calm strong less =
    let f = operated p met low calm strong (omega arith) less in
    record {
      deepest = p.deepest;
      least = omega arith;
      fine = subst (λ all. Fine a (next ∷ all) (node 0 p.deepest (length (want.BehindOperand ∷ behind)) ∷ raise p.deepest nodes)) (append_assoc parts (want.BehindOperand ∷ []) behind) f;
    }

finish : (head : ℕ) {deep : ℕ} {behind : List Wanted} {nodes : List OpenNode} {a : List Written}
    → Own (length (want.BehindOperand ∷ behind)) deep (raise head nodes) a (want.BehindOperand ∷ behind) → head ≤ deep → {depth : ℕ} → depth ≤ deep + 1
    → Part depth closed want.BehindOperand behind nodes a
finish head {deep = deep} o h less = lower less (unraised {less = head} {depth = deep + 1} (omega arith) (closes o {depth = deep + 1} (omega arith)))

pub literal-deep : (value : LiteralTree) (place : Place) → ExprDeep (literal value place)
literal-deep value place = record { deep = λ m small b next more s behind nodes calm a plain f. closes (own_of (begun s calm small f (literal_begins value place))) (omega arith) }

pub named-deep : (name : Name) (place : Place) → ExprDeep (named name place)
named-deep name place = record { deep = λ m small b next more s behind nodes calm a plain f. closes (nameless (own_of (begun s calm small f refl)) plain) (omega arith) }

pub qualified-deep : (class : Name) (name : Name) (name_place : Place) (place : Place) → ExprDeep (qualified class name name_place place)
qualified-deep class name name_place place = record { deep = λ m small b next more s behind nodes calm a plain f. closes (next_word (next_word (own_of (begun s calm small f refl)) refl (omega arith)) refl (omega arith)) (omega arith) }

pub old_value-deep : (name : Name) (place : Place) → ExprDeep (old_value name place)
old_value-deep name place = record { deep = λ m small b next more s behind nodes calm a plain f. closes (next_word (own_of (begun s calm small f refl)) refl (omega arith)) (omega arith) }

pub self_object-deep : (place : Place) → ExprDeep (self_object place)
self_object-deep place = record { deep = λ m small b next more s behind nodes calm a plain f. closes (own_of (begun s calm small f refl)) (omega arith) }

pub current_time-deep : (place : Place) → ExprDeep (current_time place)
current_time-deep place = record { deep = λ m small b next more s behind nodes calm a plain f. closes (own_of (begun s calm small f refl)) (omega arith) }

pub undefined-deep : (place : Place) → ExprDeep (undefined place)
undefined-deep place = record { deep = λ m small b next more s behind nodes calm a plain f. closes (own_of (begun s calm small f refl)) (omega arith) }

pub result_value-deep : (place : Place) → ExprDeep (result_value place)
result_value-deep place = record { deep = λ m small b next more s behind nodes calm a plain f. closes (own_of (begun s calm small f refl)) (omega arith) }

pub bracketed-deep : (inner : ExprTree) (place : Place) → ExprDeep inner → ExprDeep (bracketed inner place)
bracketed-deep inner place t = record { deep = λ m small b next more s behind nodes calm a plain f. closes (word_behind (expr_part t b (regroup_own (spelling inner) (word word_is.CloseRound ∷ []) (a) (own_of (begun s calm small f refl))) (omega arith) (refl, refl)) refl (omega arith) (omega arith)) (omega arith) }

pub prefixed-deep : (sign : Sign) (operand : ExprTree) (place : Place) → ExprDeep operand → ExprDeep (prefixed sign operand place)
prefixed-deep sign operand place t = record { deep = λ m small b next more s behind nodes calm a plain f. lower (omega arith) (operator_end (t.deep (right_pull sign) (right_small sign) b.1 want.Expression [] at_expression (more ++ behind) (node (right_pull sign) 0 (length (more ++ behind)) ∷ nodes) ((omega arith), (omega arith)) a plain (begun s calm small f (prefix_begins sign b.0)))) }

pub joined-deep : (left : ExprTree) (sign : Sign) (right : ExprTree) (place : Place) → ExprDeep left → ExprDeep right → ExprDeep (joined left sign right place)
joined-deep left sign right place l r = record { deep = λ m small b next more s behind nodes calm a plain f. let p = l.deep m small b.1 next more s behind nodes calm _ (refl, refl) (regroup_fine (spelling left) _ a f) in let g = operated p (ap (λ (yes_ : Bool). either (if yes_ then Some (joins (left_pull sign) (right_pull sign) (want.Expression ∷ []) []) else None) (more ++ behind) (meets (word_is.Operator sign) (more ++ behind))) b.0) m (calm_behind more behind m nodes calm) b.2 (left_two sign b.0) b.3 in let q = operator_end (r.deep (right_pull sign) (right_small sign) b.4 want.Expression [] at_expression (more ++ behind) (node (right_pull sign) p.deepest (length (more ++ behind)) ∷ raise p.deepest nodes) ((omega arith), (omega arith)) a plain g) in let left_deep = p.deep in lower (omega arith) (unraised (omega arith) q) }

pub set_enumeration-deep : (es : ExprTrees) (place : Place) → ExprsDeep es → ExprDeep (set_enumeration es place)
set_enumeration-deep es place t = record { deep = λ m small b next more s behind nodes calm a plain f. closes (set_in es t b a (own_of (begun s calm small f refl)) (omega arith)) (omega arith) }

pub set_range-deep : (first : ExprTree) (last : ExprTree) (place : Place) → ExprDeep first → ExprDeep last → ExprDeep (set_range first last place)
set_range-deep first last place t u = record { deep = λ m small b next more s behind nodes calm a plain f. closes (word_behind (expr_part u b.1 (regroup_own (spelling last) (word word_is.CloseCurly ∷ []) (a) (next_word (next_word (word_behind (first_part t b.0 at_in_curly (regroup_own (spelling first) (_) (a) (own_of (begun s calm small f refl))) (omega arith) (refl, refl)) refl (omega arith) (omega arith)) refl (omega arith)) refl (omega arith))) (omega arith) (refl, refl)) refl (omega arith) (omega arith)) (omega arith) }

pub empty_map-deep : (place : Place) → ExprDeep (empty_map place)
empty_map-deep place = record { deep = λ m small b next more s behind nodes calm a plain f. closes (next_word (next_word (own_of (begun s calm small f refl)) refl (omega arith)) refl (omega arith)) (omega arith) }

pub map_enumeration-deep : (ms : MapletTrees) (place : Place) → MapletsDeep ms → ExprDeep (map_enumeration ms place)
map_enumeration-deep ms place t = record { deep = λ m small b next more s behind nodes calm a plain f. closes (map_in ms t b.1 b.0 a (own_of (begun s calm small f refl)) (omega arith)) (omega arith) }

pub sequence_enumeration-deep : (es : ExprTrees) (place : Place) → ExprsDeep es → ExprDeep (sequence_enumeration es place)
sequence_enumeration-deep es place t = record { deep = λ m small b next more s behind nodes calm a plain f. closes (sequence_in es t b a (own_of (begun s calm small f refl)) (omega arith)) (omega arith) }

pub make_tuple-deep : (es : ExprTrees) (place : Place) → ExprsDeep es → ExprDeep (make_tuple es place)
make_tuple-deep es place t = record { deep = λ m small b next more s behind nodes calm a plain f. closes (tuple_in es t b.1 b.0 a (next_word (own_of (begun s calm small f refl)) refl (omega arith)) (omega arith)) (omega arith) }

pub make_token-deep : (inner : ExprTree) (place : Place) → ExprDeep inner → ExprDeep (make_token inner place)
make_token-deep inner place t = record { deep = λ m small b next more s behind nodes calm a plain f. closes (word_behind (expr_part t b (regroup_own (spelling inner) (word word_is.CloseRound ∷ []) (a) (next_word (own_of (begun s calm small f refl)) refl (omega arith))) (omega arith) (refl, refl)) refl (omega arith) (omega arith)) (omega arith) }

record_of_class : (class : Option Name) (name : Name) (name_place place : Place) (next : Wanted) (more : List Wanted) → Starts expression next more → (m : ℕ) → m ≤ 31
    → (behind : List Wanted) (nodes : List OpenNode) → Calm (length behind + 1) m nodes → (a : List Written)
    → Fine (class_and_name make_named class name name_place place ++ (word word_is.OpenRound ∷ a)) (next ∷ behind) nodes
    → Own (length (want.BehindOperand ∷ (more ++ behind))) 0 nodes a (want.Parts ∷ want.BehindOperand ∷ (more ++ behind))
record_of_class None name name_place place next more s m small behind nodes calm a f = next_word (own_of (begun s calm small f refl)) refl (omega arith)
record_of_class (Some class) name name_place place next more s m small behind nodes calm a f = next_word (next_word (next_word (own_of (begun s calm small f refl)) refl (omega arith)) refl (omega arith)) refl (omega arith)

test_of_class : (class : Option Name) (name : Name) (name_place place : Place) (next : Wanted) (more : List Wanted) → Starts expression next more → (m : ℕ) → m ≤ 31
    → (behind : List Wanted) (nodes : List OpenNode) → Calm (length behind + 1) m nodes → (a : List Written)
    → Fine (class_and_name is_named class name name_place place ++ (word word_is.OpenRound ∷ a)) (next ∷ behind) nodes
    → Own (length (want.BehindOperand ∷ (more ++ behind))) 0 nodes a (want.Expression ∷ want.CloseRound ∷ want.BehindOperand ∷ (more ++ behind))
test_of_class None name name_place place next more s m small behind nodes calm a f = next_word (own_of (begun s calm small f refl)) refl (omega arith)
test_of_class (Some class) name name_place place next more s m small behind nodes calm a f = next_word (next_word (next_word (own_of (begun s calm small f refl)) refl (omega arith)) refl (omega arith)) refl (omega arith)

pub make_record-deep : (type_name : TypeName) (es : ExprTrees) (place : Place) → ExprsDeep es → ExprDeep (make_record type_name es place)
make_record-deep type_name es place t = record { deep = λ m small b next more s behind nodes calm a plain f. closes (parts_in es t b.1 a (record_of_class type_name.class type_name.name type_name.name_place place next more s m small behind nodes calm _ (regroup_fine (type_name_spelling make_named type_name place) _ a f)) (omega arith)) (omega arith) }

pub modify_record-deep : (target : ExprTree) (fs : FieldValueTrees) (place : Place) → ExprDeep target → FieldValuesDeep fs → ExprDeep (modify_record target fs place)
modify_record-deep target fs place t u = record { deep = λ m small b next more s behind nodes calm a plain f. closes (changes_in fs u b.2 b.1 a (word_behind (expr_part t b.0 (regroup_own (spelling target) (_) (a) (next_word (own_of (begun s calm small f refl)) refl (omega arith))) (omega arith) (refl, refl)) refl (omega arith) (omega arith)) (omega arith)) (omega arith) }

pub is_of_type-deep : (tested : ExprTree) (declared : TypeTree) (place : Place) → ExprDeep tested → ExprDeep (is_of_type tested declared place)
is_of_type-deep tested declared place t = record { deep = λ m small b next more s behind nodes calm a plain f. closes (word_behind (type_part (type_deep declared) b.1 (regroup_own (type_spelling declared) (word word_is.CloseRound ∷ []) (a) (word_behind (expr_part t b.0 (regroup_own (spelling tested) (_) (a) (next_word (own_of (begun s calm small f refl)) refl (omega arith))) (omega arith) (refl, refl)) refl (omega arith) (omega arith))) (omega arith) (refl, refl)) refl (omega arith) (omega arith)) (omega arith) }

pub is_of_named-deep : (type_name : TypeName) (tested : ExprTree) (place : Place) → ExprDeep tested → ExprDeep (is_of_named type_name tested place)
is_of_named-deep type_name tested place t = record { deep = λ m small b next more s behind nodes calm a plain f. closes (word_behind (expr_part t b.1 (regroup_own (spelling tested) (word word_is.CloseRound ∷ []) (a) (test_of_class type_name.class type_name.name type_name.name_place place next more s m small behind nodes calm _ (regroup_fine (type_name_spelling is_named type_name place) _ a f))) (omega arith) (refl, refl)) refl (omega arith) (omega arith)) (omega arith) }

pub is_of_basic-deep : (basic : BasicType) (tested : ExprTree) (place : Place) → ExprDeep tested → ExprDeep (is_of_basic basic tested place)
is_of_basic-deep basic tested place t = record { deep = λ m small b next more s behind nodes calm a plain f. closes (word_behind (expr_part t b (regroup_own (spelling tested) (word word_is.CloseRound ∷ []) (a) (next_word (own_of (begun s calm small f refl)) refl (omega arith))) (omega arith) (refl, refl)) refl (omega arith) (omega arith)) (omega arith) }

pub is_of_class-deep : (class : Name) (class_place : Place) (tested : ExprTree) (place : Place) → ExprDeep tested → ExprDeep (is_of_class class class_place tested place)
is_of_class-deep class class_place tested place t = record { deep = λ m small b next more s behind nodes calm a plain f. closes (word_behind (expr_part t b (regroup_own (spelling tested) (word word_is.CloseRound ∷ []) (a) (next_word (next_word (next_word (own_of (begun s calm small f refl)) refl (omega arith)) refl (omega arith)) refl (omega arith))) (omega arith) (refl, refl)) refl (omega arith) (omega arith)) (omega arith) }

pub is_of_base_class-deep : (class : Name) (class_place : Place) (tested : ExprTree) (place : Place) → ExprDeep tested → ExprDeep (is_of_base_class class class_place tested place)
is_of_base_class-deep class class_place tested place t = record { deep = λ m small b next more s behind nodes calm a plain f. closes (word_behind (expr_part t b (regroup_own (spelling tested) (word word_is.CloseRound ∷ []) (a) (next_word (next_word (next_word (own_of (begun s calm small f refl)) refl (omega arith)) refl (omega arith)) refl (omega arith))) (omega arith) (refl, refl)) refl (omega arith) (omega arith)) (omega arith) }

pub same_class-deep : (left : ExprTree) (right : ExprTree) (place : Place) → ExprDeep left → ExprDeep right → ExprDeep (same_class left right place)
same_class-deep left right place l r = record { deep = λ m small b next more s behind nodes calm a plain f. closes (word_behind (expr_part r b.1 (regroup_own (spelling right) (word word_is.CloseRound ∷ []) (a) (word_behind (expr_part l b.0 (regroup_own (spelling left) (_) (a) (next_word (own_of (begun s calm small f refl)) refl (omega arith))) (omega arith) (refl, refl)) refl (omega arith) (omega arith))) (omega arith) (refl, refl)) refl (omega arith) (omega arith)) (omega arith) }

pub same_base_class-deep : (left : ExprTree) (right : ExprTree) (place : Place) → ExprDeep left → ExprDeep right → ExprDeep (same_base_class left right place)
same_base_class-deep left right place l r = record { deep = λ m small b next more s behind nodes calm a plain f. closes (word_behind (expr_part r b.1 (regroup_own (spelling right) (word word_is.CloseRound ∷ []) (a) (word_behind (expr_part l b.0 (regroup_own (spelling left) (_) (a) (next_word (own_of (begun s calm small f refl)) refl (omega arith))) (omega arith) (refl, refl)) refl (omega arith) (omega arith))) (omega arith) (refl, refl)) refl (omega arith) (omega arith)) (omega arith) }

pub create-deep : (class : Name) (class_place : Place) (es : ExprTrees) (place : Place) → ExprsDeep es → ExprDeep (create class class_place es place)
create-deep class class_place es place t = record { deep = λ m small b next more s behind nodes calm a plain f. closes (parts_in es t b a (next_word (next_word (own_of (begun s calm small f refl)) refl (omega arith)) refl (omega arith)) (omega arith)) (omega arith) }

pub history-deep : (counter : Counter) (names : List NameAt) (place : Place) → ExprDeep (history counter names place)
history-deep counter names place = record { deep = λ m small b next more s behind nodes calm a plain f. closes (names_in names b a (next_word (own_of (begun s calm small f refl)) refl (omega arith)) (omega arith)) (omega arith) }

pub apply-deep : (head : ExprTree) (es : ExprTrees) (place : Place) → ExprDeep head → ExprsDeep es → ExprDeep (apply head es place)
apply-deep head es place t u = record { deep = λ m small b next more s behind nodes calm a plain f. let p = t.deep m small b.0 next more s behind nodes calm _ (refl, refl) (regroup_fine (spelling head) _ a f) in let o = postfixed p refl m (calm_behind more behind m nodes calm) b.1 b.2 in let d = p.deep in finish p.deepest (arguments_in es u b.3 a o (omega arith)) (omega arith) (omega arith) }

pub subsequence-deep : (target : ExprTree) (first : ExprTree) (last : ExprTree) (place : Place) → ExprDeep target → ExprDeep first → ExprDeep last → ExprDeep (subsequence target first last place)
subsequence-deep target first last place t u v = record { deep = λ m small b next more s behind nodes calm a plain f. let p = t.deep m small b.0 next more s behind nodes calm _ (refl, refl) (regroup_fine (spelling target) _ a f) in let o = postfixed p refl m (calm_behind more behind m nodes calm) b.1 b.2 in let d = p.deep in finish p.deepest (word_behind (expr_part v b.4 (regroup_own (spelling last) (word word_is.CloseRound ∷ []) (a) (next_word (next_word (word_behind (first_part u b.3 at_arguments (regroup_own (spelling first) (_) (a) (o)) (omega arith) (refl, refl)) refl (omega arith) (omega arith)) refl (omega arith)) refl (omega arith))) (omega arith) (refl, refl)) refl (omega arith) (omega arith)) (omega arith) (omega arith) }

pub select-deep : (target : ExprTree) (name : Name) (name_place : Place) (place : Place) → ExprDeep target → ExprDeep (select target name name_place place)
select-deep target name name_place place t = record { deep = λ m small b next more s behind nodes calm a plain f. let p = t.deep m small b.0 next more s behind nodes calm _ (refl, refl) (regroup_fine (spelling target) _ a f) in let o = postfixed p refl m (calm_behind more behind m nodes calm) b.1 b.2 in let d = p.deep in finish p.deepest (classless (next_word (o) refl (omega arith)) plain) (omega arith) (omega arith) }

pub select_of_class-deep : (target : ExprTree) (class : Name) (class_place : Place) (name : Name) (name_place : Place) (place : Place) → ExprDeep target → ExprDeep (select_of_class target class class_place name name_place place)
select_of_class-deep target class class_place name name_place place t = record { deep = λ m small b next more s behind nodes calm a plain f. let p = t.deep m small b.0 next more s behind nodes calm _ (refl, refl) (regroup_fine (spelling target) _ a f) in let o = postfixed p refl m (calm_behind more behind m nodes calm) b.1 b.2 in let d = p.deep in finish p.deepest (next_word (next_word (next_word (o) refl (omega arith)) refl (omega arith)) refl (omega arith)) (omega arith) (omega arith) }

pub select_part-deep : (target : ExprTree) (part : ℤ) (place : Place) → ExprDeep target → ExprDeep (select_part target part place)
select_part-deep target part place t = record { deep = λ m small b next more s behind nodes calm a plain f. let p = t.deep m small b.0 next more s behind nodes calm _ (refl, refl) (regroup_fine (spelling target) _ a f) in let o = postfixed p refl m (calm_behind more behind m nodes calm) b.1 b.2 in let d = p.deep in finish p.deepest (next_word (o) refl (omega arith)) (omega arith) (omega arith) }
