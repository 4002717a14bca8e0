-- Functions and operations are read.
use Rattle.std.proofs.Common.{◌≡◌, zero, suc, Bool, true, false, List, [], ◌∷◌, ◌++◌, Option, Some, None, refl, ap, sym, subst, ◌∙◌, append_assoc, arith}
use Rattle.std.specs.List.{Contains}
use Rattle.vdm_kinds.specs.declared.access.Access.{Access}
use Rattle.vdm_kinds.specs.declared.name.Name.{Name}
use Rattle.vdm_kinds.specs.declared.place.Place.{Place}
use Rattle.abstract_syntax.specs.Types.{TypeTree}
use Rattle.abstract_syntax.specs.Expressions.{ExprTree, PatternTree}
use Rattle.abstract_syntax.specs.Statements.{StmtTree}
use Rattle.abstract_syntax.specs.Classes.{Body, written, not_yet_specified, subclass_responsibility, FunctionTree, OperationTree}
use Rattle.grammar_words.specs.declared.word.Word.{Word}
use Rattle.grammar_words.specs.declared.word.Word.TheVariants as word_is
use Rattle.grammar_words.specs.Tokens.{Token, plain}
use Rattle.grammar_words.specs.Written.{Written, word}
use Rattle.type_reading.specs.TypeSpelling.{type_spelling}
use Rattle.grammar_trees.specs.Spelling.{spelling}
use Rattle.grammar_trees.specs.Binding.{Binds}
use Rattle.stmt_trees.specs.Pieces.{Piece, again, mark, whole, Spelled, Begin}
use Rattle.stmt_trees.specs.StmtSpelling.{behind_word, stmt_spelling}
use Rattle.stmt_trees.specs.StmtGrammar.{IsStmt}
use Rattle.stmt_trees.specs.ClassSpelling.{parameters_spelling, patterns_in_brackets, body_spelling, arrow, expr_pieces, function_spelling, result_spelling, operation_spelling}
use Rattle.stmt_trees.specs.ClassGrammar.{IsBody, IsFunction, IsOperation}
use Rattle.stmt_reading.specs.Leaves.{Read, onto, expr_in}
use Rattle.stmt_reading.specs.Definitions.{begins_head, body_of, function_in}
use Rattle.stmt_laws.specs.Ends.{first_word}
use Rattle.stmt_laws.proofs.Readers.{Reads, Begins, is_other, by_mark, by_nothing, at_mark, left_away, last_reads, then_reads}
use Rattle.stmt_laws.proofs.Leaves.{expr_reads, type_reads}
use Rattle.stmt_laws.proofs.Parts.{OneReads}
use Rattle.stmt_laws.proofs.MoreParts.{fewer_end, given_reads}
use Rattle.stmt_laws.proofs.Firsts.{apart, same_pieces, expr_first, tested}
use Rattle.stmt_laws.proofs.ReadBlocks.{begins_stmt}
use Rattle.class_laws.proofs.SoundDefinitions.{arrow_in}
use Rattle.class_laws.proofs.Behind.{item_ends, measure_ends, post_ends, pre_ends, op_post_ends, op_ends, arrow_ends, only_identifier, item_expr, item_measure, measure_post, post_pre, measure_expr, post_expr, pre_expr, item_op, op_post_op, op_post_expr, identifier_type, op_after}
use Rattle.class_laws.proofs.ReadHeads.{head-reads, head_first}
use Rattle.class_laws.proofs.ReadItems.{Item, any_word, any_begins, head_some}
use Rattle.grammar_words.specs.Pulls.{far_pull}
use Rattle.grammar_fronts.specs.Operands.{expression}
use Rattle.stmt_laws.proofs.ReadStmts.{stmt_first}
use Rattle.class_laws.proofs.InRoom.{operation_by}
use Rattle.class_laws.proofs.ReadDefinitions.{parameters-reads, result-reads, patterns_of-reads, body-reads}

-- ---- functions and operations

-- one of the arrows of functions
arrow_found : (tokens middle rest : List Token) (form : List Written) → Contains ((word word_is.Arrow ∷ []) ∷ (word word_is.TotalArrow ∷ []) ∷ []) form
    → Begin tokens form middle → middle ≡ rest → (place : Place) × (arrow_in tokens ≡ Some (place, rest))
arrow_found tokens middle rest form (zero, less, is) b e =
    let c : Begin tokens (word word_is.Arrow ∷ []) middle = subst (λ f. Begin tokens f middle) (sym is) b in
    (c.1.0, ap arrow_in (c.1.1 ∙ ap (λ ts. plain word_is.Arrow c.1.0 ∷ ts) (c.2 ∙ e)))
arrow_found tokens middle rest form (suc zero, less, is) b e =
    let c : Begin tokens (word word_is.TotalArrow ∷ []) middle = subst (λ f. Begin tokens f middle) (sym is) b in
    (c.1.0, ap arrow_in (c.1.1 ∙ ap (λ ts. plain word_is.TotalArrow c.1.0 ∷ ts) (c.2 ∙ e)))
arrow_found tokens middle rest form (suc (suc n), less, is) b e = absurd (omega arith)

at_arrow : {B : Type 0} {b : B} {vs : List Piece} {ends : Word → Bool} (q : Place → List Token → Read B)
    → ((place : Place) → Reads (q place) vs b ends) → Reads (λ (ts : List Token). onto (arrow_in ts) q) (arrow ∷ vs) b ends
at_arrow q more =
    record {
      reads = λ tokens rest h e.
          let a = arrow_found tokens h.1 h.1 h.0 h.2 h.3 refl in
          ap (λ o. onto o q) a.1 ∙ (more a.0).reads h.1 rest h.4 e;
    }

first_arrow : (tokens middle : List Token) (form : List Written) → Contains ((word word_is.Arrow ∷ []) ∷ (word word_is.TotalArrow ∷ []) ∷ []) form
    → Begin tokens form middle → arrow_ends (first_word tokens) ≡ true
first_arrow tokens middle form (zero, less, is) b =
    let c : Begin tokens (word word_is.Arrow ∷ []) middle = subst (λ f. Begin tokens f middle) (sym is) b in ap (λ ts. arrow_ends (first_word ts)) c.1.1
first_arrow tokens middle form (suc zero, less, is) b =
    let c : Begin tokens (word word_is.TotalArrow ∷ []) middle = subst (λ f. Begin tokens f middle) (sym is) b in ap (λ ts. arrow_ends (first_word ts)) c.1.1
first_arrow tokens middle form (suc (suc n), less, is) b = absurd (omega arith)

by_arrow : {ends : Word → Bool} {vs : List Piece} → Begins (arrow ∷ vs) ends arrow_ends
by_arrow = record { opens = λ tokens rest h e. first_arrow tokens h.1 h.0 h.2 h.3 }

again_begins : {ends : Word → Bool} {vs : List Piece} (name : Name) → Begins (again name ∷ vs) ends only_identifier
again_begins name = record { opens = λ tokens rest h e. ap (λ ts. only_identifier (first_word ts)) h.2 }

abbrev IsFar : ExprTree → Type 0
IsFar e = Binds e far_pull

abbrev not_is : Word → Bool
not_is word_is.Is = false
not_is _ = true

no_is : (w : Word) → not_is w ≡ false → expression w ≡ None
no_is word_is.Is e = refl
no_is _ e = absurd (cc)

expr_not_is : (e : ExprTree) → IsFar e → (tokens rest : List Token) → Spelled tokens (whole (spelling e)) rest → is_other word_is.Is (first_word tokens) ≡ true
expr_not_is e b tokens rest h =
    apart word_is.Is not_is refl (first_word tokens)
    (tested not_is (first_word tokens) (not_is (first_word tokens)) refl (λ q. expr_first e b tokens rest h (no_is (first_word tokens) q)))

stmt_not_is : (s : StmtTree) → IsStmt s → (tokens rest : List Token) → Spelled tokens (stmt_spelling s) rest → is_other word_is.Is (first_word tokens) ≡ true
stmt_not_is s g tokens rest h = apart word_is.Is begins_stmt refl (first_word tokens) ((stmt_first s g).first tokens rest h)

measure_begins : (e : Option ExprTree) → Begins (behind_word word_is.Measure e) item_ends measure_ends
measure_begins None = by_nothing item_measure
measure_begins (Some e) = by_mark word_is.Measure refl

post_begins : (p m : Option ExprTree) → Begins (behind_word word_is.Post p ++ behind_word word_is.Measure m) item_ends post_ends
post_begins None None = by_nothing (λ w e. measure_post w (item_measure w e))
post_begins None (Some e) = by_mark word_is.Measure refl
post_begins (Some e) m = by_mark word_is.Post refl

pre_begins : (p q m : Option ExprTree)
    → Begins (behind_word word_is.Pre p ++ (behind_word word_is.Post q ++ behind_word word_is.Measure m)) item_ends pre_ends
pre_begins None None None = by_nothing (λ w e. post_pre w (measure_post w (item_measure w e)))
pre_begins None None (Some e) = by_mark word_is.Measure refl
pre_begins None (Some e) m = by_mark word_is.Post refl
pre_begins (Some e) q m = by_mark word_is.Pre refl

abbrev function_made : Access → Name → Place → List TypeTree → TypeTree → List PatternTree → Body ExprTree → Option ExprTree → Option ExprTree
    → Option ExprTree → Place → FunctionTree
function_made access name name_place parameters result patterns body pre post measure place =
    record {
      access = access;
      name = name;
      name_place = name_place;
      parameters = parameters;
      result_type = result;
      patterns = patterns;
      body = body;
      pre = pre;
      post = post;
      measure = measure;
      place = place;
    }

-- behind the patterns
abbrev function_end : FunctionTree → List Piece
function_end f =
    body_spelling expr_pieces f.body ++ (behind_word word_is.Pre f.pre ++ (behind_word word_is.Post f.post ++ behind_word word_is.Measure f.measure))

abbrev function_behind : FunctionTree → List Piece
function_behind f =
    mark word_is.Colon ∷ (parameters_spelling f.parameters ++ (arrow ∷ (whole (type_spelling f.result_type)
    ++ (again f.name ∷ (patterns_in_brackets f.patterns ++ (mark word_is.DoubleEqual ∷ function_end f))))))

again-alike : (name : Name) (ps : List PatternTree) (more : List Piece)
    → (again name ∷ (patterns_in_brackets ps ++ (mark word_is.DoubleEqual ∷ []))) ++ more
    ≡ again name ∷ (patterns_in_brackets ps ++ (mark word_is.DoubleEqual ∷ more))
again-alike name ps more =
    ap (λ (x : List Piece). again name ∷ x) (append_assoc (patterns_in_brackets ps) (mark word_is.DoubleEqual ∷ []) more)

pub function-item : (f : FunctionTree) → IsFunction f → Item function_in function_spelling begins_head f
function-item f g =
    record {
      reads = then_reads _ (head-reads f.access f.name f.name_place f.place any_word) any_begins (at_mark word_is.Colon _ refl (λ colon.
          then_reads _ (parameters-reads f.parameters g.parameters) by_arrow (at_arrow _ (λ spot.
          then_reads _ (fewer_end identifier_type (type_reads f.result_type g.result_type)) (again_begins f.name)
          (same_pieces (again-alike f.name f.patterns (function_end f))
          (then_reads _ (patterns_of-reads f.name f.patterns any_word g.patterns) any_begins
          (then_reads _ (body-reads expr_in expr_pieces IsFar pre_ends (λ e b. fewer_end pre_expr (expr_reads e b)) expr_not_is f.body g.body)
          (pre_begins f.pre f.post f.measure)
          (then_reads _ (given_reads word_is.Pre f.pre post_ends refl g.pre post_expr (apart word_is.Pre post_ends refl)) (post_begins f.post f.measure)
          (then_reads _ (given_reads word_is.Post f.post measure_ends refl g.post measure_expr (apart word_is.Post measure_ends refl)) (measure_begins f.measure)
          (last_reads (λ m. function_made f.access f.name f.name_place f.parameters f.result_type f.patterns f.body f.pre f.post m f.place)
          (given_reads word_is.Measure f.measure item_ends refl g.measure item_expr (apart word_is.Measure item_ends refl))))))))))));
      first = head_first f.access f.name f.name_place f.place (function_behind f);
      some = head_some (function_behind f);
    }

op_post_begins : (e : Option ExprTree) → Begins (behind_word word_is.Post e) item_ends op_post_ends
op_post_begins None = by_nothing item_op
op_post_begins (Some e) = by_mark word_is.Post refl

op_begins : (p q : Option ExprTree) → Begins (behind_word word_is.Pre p ++ behind_word word_is.Post q) item_ends op_ends
op_begins None None = by_nothing (λ w e. op_post_op w (item_op w e))
op_begins None (Some e) = by_mark word_is.Post refl
op_begins (Some e) q = by_mark word_is.Pre refl

abbrev operation_made : Access → Name → Place → List TypeTree → Option TypeTree → List PatternTree → Body StmtTree → Option ExprTree → Option ExprTree
    → Place → OperationTree
operation_made access name name_place parameters result patterns body pre post place =
    record {
      access = access;
      name = name;
      name_place = name_place;
      parameters = parameters;
      result_type = result;
      patterns = patterns;
      body = body;
      pre = pre;
      post = post;
      place = place;
    }

abbrev operation_end : OperationTree → List Piece
operation_end o = body_spelling stmt_spelling o.body ++ (behind_word word_is.Pre o.pre ++ behind_word word_is.Post o.post)

abbrev operation_behind : OperationTree → List Piece
operation_behind o =
    mark word_is.Colon ∷ (parameters_spelling o.parameters ++ (mark word_is.DoubleArrow ∷ (result_spelling o.result_type
    ++ (again o.name ∷ (patterns_in_brackets o.patterns ++ (mark word_is.DoubleEqual ∷ operation_end o))))))

-- the statement of a body is read
abbrev pub BodyRead : (List Token → Read StmtTree) → Body StmtTree → Type 0
BodyRead one (written s) = OneReads one s
BodyRead one not_yet_specified = Unit {0}
BodyRead one subclass_responsibility = Unit {0}

-- no statement stands there
abbrev Nothing : StmtTree → Type 0
Nothing s = ⊥

operation_body : (one : List Token → Read StmtTree) (body : Body StmtTree) → IsBody IsStmt body → BodyRead one body
    → Reads (body_of one) (body_spelling stmt_spelling body) body op_ends
operation_body one (written s) g r =
    left_away word_is.Is _ _ (record { opens = λ tokens rest h e. stmt_not_is s g tokens rest h })
    (last_reads (λ found. written found) (fewer_end (op_after s) r))
operation_body one not_yet_specified g r =
    body-reads one stmt_spelling Nothing op_ends (λ s n. absurd n) (λ s n. absurd n) not_yet_specified tt
operation_body one subclass_responsibility g r =
    body-reads one stmt_spelling Nothing op_ends (λ s n. absurd n) (λ s n. absurd n) subclass_responsibility tt

pub operation-item : (one : List Token → Read StmtTree) (o : OperationTree) → IsOperation o → BodyRead one o.body
    → Item (operation_by one) operation_spelling begins_head o
operation-item one o g r =
    record {
      reads = then_reads _ (head-reads o.access o.name o.name_place o.place any_word) any_begins (at_mark word_is.Colon _ refl (λ colon.
          then_reads _ (parameters-reads o.parameters g.parameters) (by_mark word_is.DoubleArrow refl) (at_mark word_is.DoubleArrow _ refl (λ spot.
          then_reads _ (result-reads o.result_type g.result_type) (again_begins o.name)
          (same_pieces (again-alike o.name o.patterns (operation_end o))
          (then_reads _ (patterns_of-reads o.name o.patterns any_word g.patterns) any_begins
          (then_reads _ (operation_body one o.body g.body r) (op_begins o.pre o.post)
          (then_reads _ (given_reads word_is.Pre o.pre op_post_ends refl g.pre op_post_expr (apart word_is.Pre op_post_ends refl)) (op_post_begins o.post)
          (last_reads (λ p. operation_made o.access o.name o.name_place o.parameters o.result_type o.patterns o.body o.pre p o.place)
          (given_reads word_is.Post o.post item_ends refl g.post item_expr (apart word_is.Post item_ends refl)))))))))));
      first = head_first o.access o.name o.name_place o.place (operation_behind o);
      some = head_some (operation_behind o);
    }
