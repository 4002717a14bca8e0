-- Threads, synchronisation, blocks and classes are read.
use Rattle.std.proofs.Common.{◌≡◌, ℕ, zero, suc, ◌<◌, ◌≤◌, Bool, true, false, List, [], ◌∷◌, ◌++◌, length, Option, Some, None, refl, ap, sym, subst, ◌∙◌, append_assoc, arith}
use Rattle.vdm_kinds.specs.declared.name.Name.{Name}
use Rattle.vdm_kinds.specs.declared.name_at.NameAt.{NameAt}
use Rattle.vdm_kinds.specs.declared.place.Place.{Place}
use Rattle.vdm_kinds.specs.declared.sign.Sign.TheVariants as sign_is
use Rattle.abstract_syntax.specs.Statements.{StmtTree}
use Rattle.abstract_syntax.specs.Classes.{TypeDefTree, VariableItem, OperationTree, PhaseTree, ThreadTree, periodic, procedural, SyncTree, permission, mutex_all, mutex_of, BlockTree, types, values, variables, functions, operations, thread_of, synchronisation, ClassTree}
use Rattle.grammar_words.specs.declared.word.Word.{Word}
use Rattle.grammar_words.specs.declared.word.Word.TheVariants as word_is
use Rattle.grammar_words.specs.Tokens.{Token, identifier, plain}
use Rattle.grammar_words.specs.Written.{at}
use Rattle.grammar_trees.specs.Spelling.{names_spelling}
use Rattle.stmt_trees.specs.Pieces.{Piece, must, again, mark, key, may, whole, Spelled}
use Rattle.stmt_trees.specs.ClassSpelling.{items_spelling, all_spelling, type_def_spelling, value_def_spelling, variable_item_spelling, function_spelling, operation_spelling, phase_spelling, thread_spelling, sync_spelling, block_spelling, superclasses_spelling, class_spelling}
use Rattle.stmt_trees.specs.ClassGrammar.{AreAll, IsTypeDef, IsValueDef, IsVariableItem, IsFunction, IsOperation, IsPhase, IsThread, IsSync, IsBlock, IsClass}
use Rattle.stmt_reading.specs.Leaves.{name_again}
use Rattle.stmt_reading.specs.Leaves.{Read, onto, word_in, is_word, name_in, list_in, turns_for}
use Rattle.stmt_reading.specs.Definitions.{items_in, begins_head, type_def_in, value_def_in, variable_item_in, begins_variable, function_in, periodic_in, sync_in, begins_sync}
use Rattle.stmt_reading.specs.Classes.{items_of, superclasses_in}
use Rattle.stmt_laws.specs.Ends.{ends_expr, first_word}
use Rattle.stmt_laws.proofs.Readers.{Reads, Begins, is_other, by_mark, by_token, by_nothing, at_mark, at_name, done, may_come, left_away, last_reads, then_reads, word-is, Spelled-split}
use Rattle.stmt_laws.proofs.Leaves.{expr_reads}
use Rattle.stmt_laws.proofs.Lists.{marks, marks-append, counted, AllRead, list-reads}
use Rattle.stmt_laws.proofs.Parts.{OneReads}
use Rattle.stmt_laws.proofs.MoreParts.{fewer_end}
use Rattle.stmt_laws.proofs.Spellings.{name_pieces, names-alike}
use Rattle.stmt_laws.proofs.Firsts.{apart, MayCome, away, there, may_come_or_not, same_pieces, regrouped, keyed_reads}
use Rattle.stmt_laws.proofs.ReadBlocks.{begins_stmt, key_comes}
use Rattle.stmt_laws.proofs.ReadStmts.{stmt_first}
use Rattle.class_laws.proofs.SoundDefinitions.{phase_in}
use Rattle.class_laws.proofs.SoundClasses.{thread_ends}
use Rattle.class_laws.proofs.Behind.{block_ends, item_ends, phase_ends, block_no_head, block_no_variable, block_no_sync, item_expr, phase_expr, item_after}
use Rattle.class_laws.proofs.ReadItems.{Item, Starts, AllShort, items-reads, items-fit, items_short, semicolon_begins, any_word, any_begins, type_def-item, value_def-item, variable-item}
use Rattle.class_laws.proofs.ReadDefinitions.{at_again}
use Rattle.class_laws.proofs.ReadFunctions.{BodyRead, function-item, operation-item}
use Rattle.class_laws.proofs.InRoom.{operation_by, thread_by, block_by, blocks_by, class_by, classes_by}

-- ---- threads

phase-reads : (p : Option PhaseTree) → IsPhase p → Reads phase_in (phase_spelling p) p phase_ends
phase-reads None g = left_away word_is.Comma _ _ (by_nothing (apart word_is.Comma phase_ends refl)) (done None phase_ends)
phase-reads (Some p) g =
    may_come word_is.Comma _ _ refl (λ one. then_reads _ (expr_reads p.jitter g.0) (by_mark word_is.Comma refl) (at_mark word_is.Comma _ refl (λ two.
    then_reads _ (expr_reads p.delay g.1) (by_mark word_is.Comma refl) (at_mark word_is.Comma _ refl (λ three.
    last_reads (λ e. Some (record { jitter = p.jitter; delay = p.delay; offset = e })) (fewer_end phase_expr (expr_reads p.offset g.2)))))))

phase_begins : (p : Option PhaseTree) (vs : List Piece) (ends : Word → Bool) → Begins (phase_spelling p ++ (mark word_is.CloseRound ∷ vs)) ends ends_expr
phase_begins None vs ends = by_mark word_is.CloseRound refl
phase_begins (Some p) vs ends = by_mark word_is.Comma refl

abbrev pub ThreadRead : (List Token → Read StmtTree) → ThreadTree → Type 0
ThreadRead one (periodic period phase name name_place place) = Unit {0}
ThreadRead one (procedural s) = OneReads one s

thread-reads : (one : List Token → Read StmtTree) (t : ThreadTree) → IsThread t → ThreadRead one t
    → Reads (thread_by one) (thread_spelling t) t item_ends
thread-reads one (periodic period phase name name_place place) g r =
    key_comes word_is.Periodic place periodic_in _ refl (at_mark word_is.OpenRound _ refl (λ open_place.
    then_reads _ (expr_reads period g.0) (phase_begins phase _ item_ends)
    (then_reads _ (phase-reads phase g.1) (by_mark word_is.CloseRound refl) (at_mark word_is.CloseRound _ refl (λ close.
    at_mark word_is.OpenRound _ refl (λ other_open. at_name name name_place _ (at_mark word_is.CloseRound _ refl (λ other_close.
    done (periodic period phase name name_place place) item_ends))))))))
thread-reads one (procedural s) g r =
    left_away word_is.Periodic _ _
    (record { opens = λ tokens rest h e. apart word_is.Periodic begins_stmt refl (first_word tokens) ((stmt_first s g).first tokens rest h) })
    (last_reads (λ x. procedural x) (fewer_end (item_after s) r))

over_thread : (t : ThreadTree) (place : Place) (tokens rest : List Token) → MayCome word_is.Semicolon tokens [] rest → block_ends (first_word rest) ≡ true
    → thread_ends t place tokens ≡ Some (thread_of t place, rest)
over_thread t place tokens rest (away h) e =
    (left_away word_is.Semicolon (λ spot b. Some (thread_of t place, b)) (λ a. Some (thread_of t place, a))
    (by_nothing (apart word_is.Semicolon block_ends refl)) (done (thread_of t place) block_ends)).reads tokens rest h e
over_thread t place tokens rest (there h) e =
    (may_come word_is.Semicolon (λ spot b. Some (thread_of t place, b)) (λ a. Some (thread_of t place, a)) refl (λ spot.
    done (thread_of t place) block_ends)).reads tokens rest h e

thread_ends-reads : (t : ThreadTree) (place : Place) → Reads (thread_ends t place) (may word_is.Semicolon ∷ []) (thread_of t place) block_ends
thread_ends-reads t place =
    record { reads = λ tokens rest h e. over_thread t place tokens rest (may_come_or_not word_is.Semicolon tokens rest [] h) e }

-- ---- names

one_name : (n : NameAt) → Reads name_in (name_pieces n) n any_word
one_name n = record { reads = λ tokens rest h e. ap name_in h.1 ∙ ap (λ ts. Some (n, ts)) h.2 }

all_names : (ns : List NameAt) → AllRead name_in name_pieces (λ (n : NameAt). any_word) ns
all_names [] = tt
all_names (n ∷ ns) = (one_name n, all_names ns)

names-reads : (n : NameAt) (ns : List NameAt) (ends : Word → Bool) → ((w : Word) → ends w ≡ true → is_other word_is.Comma w ≡ true)
    → Reads (list_in word_is.Comma name_in) (whole (names_spelling (n ∷ ns))) (n ∷ ns) ends
names-reads n ns ends other =
    same_pieces (ap (λ x. must (at (identifier n.name n.place)) ∷ x) (names-alike ns))
    (list-reads word_is.Comma name_in name_pieces (λ x. any_word) ends
    (record { known = refl; next = λ x. refl; last = λ x w e. refl; other = other }) n ns (all_names (n ∷ ns)))

-- ---- synchronisation

-- a word at its place, and what is read behind it
at_key : {B : Type 0} {b : B} {vs : List Piece} {ends : Word → Bool} (w : Word) (place : Place) (q : Place → List Token → Read B) → is_word w w ≡ true
    → Reads (q place) vs b ends → Reads (λ (ts : List Token). onto (word_in w ts) q) (key w place ∷ vs) b ends
at_key w place q is more =
    record {
      reads = λ tokens rest h e.
          ap (λ ts. onto (word_in w ts) q) h.1 ∙ ap (λ o. onto o q) (word-is w place h.0 is) ∙ more.reads h.0 rest h.2 e;
    }

sync-reads : (s : SyncTree) → IsSync s → Reads sync_in (sync_spelling s) s item_ends
sync-reads (permission name name_place condition place) g =
    key_comes word_is.Per place _ _ refl (at_name name name_place _ (at_mark (word_is.Operator sign_is.Implies) _ refl (λ spot.
    last_reads (λ e. permission name name_place e place) (fewer_end item_expr (expr_reads condition g)))))
sync-reads (mutex_all place) g =
    left_away word_is.Per _ _ (by_token (plain word_is.Mutex place) refl) (at_key word_is.Mutex place _ refl (at_mark word_is.OpenRound _ refl (λ spot.
    may_come word_is.All _ _ refl (λ all. at_mark word_is.CloseRound _ refl (λ close. done (mutex_all place) item_ends)))))
sync-reads (mutex_of [] place) g = absurd g
sync-reads (mutex_of (n ∷ ns) place) g =
    left_away word_is.Per _ _ (by_token (plain word_is.Mutex place) refl) (at_key word_is.Mutex place _ refl (at_mark word_is.OpenRound _ refl (λ spot.
    left_away word_is.All _ _ (by_token (identifier n.name n.place) refl)
    (then_reads _ (names-reads n ns phase_ends (apart word_is.Comma phase_ends refl)) (by_mark word_is.CloseRound refl)
    (at_mark word_is.CloseRound _ refl (λ close. done (mutex_of (n ∷ ns) place) item_ends))))))

sync_first : (s : SyncTree) (tokens rest : List Token) → Spelled tokens (sync_spelling s) rest → begins_sync (first_word tokens) ≡ true
sync_first (permission name name_place condition place) tokens rest h = ap (λ ts. begins_sync (first_word ts)) h.1
sync_first (mutex_all place) tokens rest h = ap (λ ts. begins_sync (first_word ts)) h.1
sync_first (mutex_of names place) tokens rest h = ap (λ ts. begins_sync (first_word ts)) h.1

sync_some : (s : SyncTree) → 1 ≤ marks (sync_spelling s)
sync_some (permission name name_place condition place) = omega arith
sync_some (mutex_all place) = omega arith
sync_some (mutex_of names place) = omega arith

sync-item : (s : SyncTree) → IsSync s → Item sync_in sync_spelling begins_sync s
sync-item s g = record { reads = sync-reads s g; first = sync_first s; some = sync_some s }

-- ---- items of blocks

all_items : {A : Type 0} (one : List Token → Read A) (spell : A → List Piece) (starts : Word → Bool) (Good : A → Type 0)
    → ((a : A) → Good a → Item one spell starts a) → (xs : List A) → AreAll Good xs → AreAll (Item one spell starts) xs
all_items one spell starts Good item [] g = tt
all_items one spell starts Good item (x ∷ xs) g = (item x g.0, all_items one spell starts Good item xs g.1)

all_type_defs : (turns n : ℕ) (class : Name) → n < turns → (ds : List TypeDefTree) → AllShort type_def_spelling n ds → AreAll (IsTypeDef class) ds
    → AreAll (Item (type_def_in turns class) type_def_spelling begins_head) ds
all_type_defs turns n class less [] short g = tt
all_type_defs turns n class less (d ∷ ds) short g =
    let k : marks (type_def_spelling d) ≤ n = short.0 in
    let l : n < turns = less in
    (type_def-item turns class d (omega arith) g.0, all_type_defs turns n class less ds short.1 g.1)

all_operations : (one : List Token → Read StmtTree) (os : List OperationTree) → AreAll IsOperation os → AreAll (λ (o : OperationTree). BodyRead one o.body) os
    → AreAll (Item (operation_by one) operation_spelling begins_head) os
all_operations one [] g r = tt
all_operations one (o ∷ os) g r = (operation-item one o g.0 r.0, all_operations one os g.1 r.1)

items-block : {A : Type 0} (starts : Word → Bool) (one : List Token → Read A) (spell : A → List Piece) (made : List A → BlockTree) → Starts starts
    → (xs : List A) → AreAll (Item one spell starts) xs
    → Reads (λ (ts : List Token). items_of (items_in starts one (turns_for ts) ts) made) (items_spelling spell xs) (made xs) block_ends
items-block starts one spell made s xs g =
    counted (λ turns ts. items_of (items_in starts one turns ts) made) _ _ block_ends (length xs) (items-fit one spell starts xs g) (λ turns short.
    last_reads made (items-reads starts one spell s xs g turns short))

types-block : (class : Name) (ds : List TypeDefTree) (place : Place) → AreAll (IsTypeDef class) ds
    → Reads (λ (ts : List Token). items_of (items_in begins_head (type_def_in (turns_for ts) class) (turns_for ts) ts) (λ (found : List TypeDefTree). types found place))
    (items_spelling type_def_spelling ds) (types ds place) block_ends
types-block class ds place g =
    counted (λ turns ts. items_of (items_in begins_head (type_def_in turns class) turns ts) (λ found. types found place)) _ _ block_ends
    (marks (items_spelling type_def_spelling ds)) (omega arith) (λ turns short.
    let all = all_type_defs turns (marks (items_spelling type_def_spelling ds)) class short ds (items_short type_def_spelling ds) g in
    let fits : length ds ≤ marks (items_spelling type_def_spelling ds) = items-fit (type_def_in turns class) type_def_spelling begins_head ds all in
    let less : marks (items_spelling type_def_spelling ds) < turns = short in
    last_reads (λ found. types found place) (items-reads begins_head (type_def_in turns class) type_def_spelling (record { over = block_no_head }) ds all turns (omega arith)))

variables-block : (is : List VariableItem) (place : Place) → AreAll IsVariableItem is
    → Reads (λ (ts : List Token). onto (word_in word_is.Variables ts) (λ (spot : Place) (rest : List Token).
    items_of (items_in begins_variable variable_item_in (turns_for ts) rest) (λ (found : List VariableItem). variables found place)))
    (mark word_is.Variables ∷ items_spelling variable_item_spelling is) (variables is place) block_ends
variables-block is place g =
    let all = all_items variable_item_in variable_item_spelling begins_variable IsVariableItem variable-item is g in
    let fits : length is ≤ marks (items_spelling variable_item_spelling is) = items-fit variable_item_in variable_item_spelling begins_variable is all in
    counted (λ turns ts. onto (word_in word_is.Variables ts) (λ spot rest. items_of (items_in begins_variable variable_item_in turns rest) (λ found. variables found place)))
    _ _ block_ends (length is) (omega arith) (λ turns short.
    at_mark word_is.Variables _ refl (λ spot. last_reads (λ found. variables found place)
    (items-reads begins_variable variable_item_in variable_item_spelling (record { over = block_no_variable }) is all turns short)))

-- ---- blocks

abbrev pub BlockRead : (List Token → Read StmtTree) → BlockTree → Type 0
BlockRead one (operations os place) = AreAll (λ (o : OperationTree). BodyRead one o.body) os
BlockRead one (thread_of t place) = ThreadRead one t
BlockRead one _ = Unit {0}

block-reads : (one : List Token → Read StmtTree) (class : Name) (b : BlockTree) → IsBlock class b → BlockRead one b
    → Reads (block_by one class) (block_spelling b) b block_ends
block-reads one class (types ds place) g r = keyed_reads (plain word_is.Types place) (λ ts. refl) (types-block class ds place g)
block-reads one class (values ds place) g r =
    keyed_reads (plain word_is.Values place) (λ ts. refl)
    (items-block begins_head value_def_in value_def_spelling (λ found. values found place) (record { over = block_no_head }) ds
    (all_items value_def_in value_def_spelling begins_head IsValueDef value_def-item ds g))
block-reads one class (variables is place) g r = keyed_reads (plain word_is.Instance place) (λ ts. refl) (variables-block is place g)
block-reads one class (functions fs place) g r =
    keyed_reads (plain word_is.Functions place) (λ ts. refl)
    (items-block begins_head function_in function_spelling (λ found. functions found place) (record { over = block_no_head }) fs
    (all_items function_in function_spelling begins_head IsFunction function-item fs g))
block-reads one class (operations os place) g r =
    keyed_reads (plain word_is.Operations place) (λ ts. refl)
    (items-block begins_head (operation_by one) operation_spelling (λ found. operations found place) (record { over = block_no_head }) os
    (all_operations one os g r))
block-reads one class (thread_of t place) g r =
    keyed_reads (plain word_is.Thread place) (λ ts. refl)
    (then_reads (λ found rest. thread_ends found place rest) (thread-reads one t g r) semicolon_begins (thread_ends-reads t place))
block-reads one class (synchronisation ss place) g r =
    keyed_reads (plain word_is.Sync place) (λ ts. refl)
    (items-block begins_sync sync_in sync_spelling (λ found. synchronisation found place) (record { over = block_no_sync }) ss
    (all_items sync_in sync_spelling begins_sync IsSync sync-item ss g))

abbrev starts_block : Word → Bool
starts_block word_is.Types = true
starts_block word_is.Values = true
starts_block word_is.Instance = true
starts_block word_is.Functions = true
starts_block word_is.Operations = true
starts_block word_is.Thread = true
starts_block word_is.Sync = true
starts_block _ = false

block_first : (b : BlockTree) (tokens rest : List Token) → Spelled tokens (block_spelling b) rest → starts_block (first_word tokens) ≡ true
block_first (types ds place) tokens rest h = ap (λ ts. starts_block (first_word ts)) h.1
block_first (values ds place) tokens rest h = ap (λ ts. starts_block (first_word ts)) h.1
block_first (variables is place) tokens rest h = ap (λ ts. starts_block (first_word ts)) h.1
block_first (functions fs place) tokens rest h = ap (λ ts. starts_block (first_word ts)) h.1
block_first (operations os place) tokens rest h = ap (λ ts. starts_block (first_word ts)) h.1
block_first (thread_of t place) tokens rest h = ap (λ ts. starts_block (first_word ts)) h.1
block_first (synchronisation ss place) tokens rest h = ap (λ ts. starts_block (first_word ts)) h.1

started_block : (w : Word) → starts_block w ≡ true → block_ends w ≡ true
started_block word_is.Types e = refl
started_block word_is.Values e = refl
started_block word_is.Instance e = refl
started_block word_is.Functions e = refl
started_block word_is.Operations e = refl
started_block word_is.Thread e = refl
started_block word_is.Sync e = refl
started_block _ e = absurd (cc)

by_block : {ends : Word → Bool} (test : Word → Bool) (b : BlockTree) (vs : List Piece) → ((w : Word) → starts_block w ≡ true → test w ≡ true)
    → Begins (block_spelling b ++ vs) ends test
by_block test b vs more =
    record {
      opens = λ tokens rest h e.
          let k = Spelled-split tokens (block_spelling b) vs rest h in more (first_word tokens) (block_first b tokens k.0 k.1);
    }

same_begins : {a b : List Piece} {ends begins : Word → Bool} → a ≡ b → Begins a ends begins → Begins b ends begins
same_begins {ends = ends} {begins = begins} e f = subst (λ x. Begins x ends begins) e f

blocks_begin : (bs : List BlockTree) (vs : List Piece) (ends : Word → Bool) → Begins (all_spelling block_spelling bs ++ (mark word_is.End ∷ vs)) ends block_ends
blocks_begin [] vs ends = by_mark word_is.End refl
blocks_begin (b ∷ bs) vs ends =
    same_begins (sym (append_assoc (block_spelling b) (all_spelling block_spelling bs) (mark word_is.End ∷ vs)))
    (by_block block_ends b (all_spelling block_spelling bs ++ (mark word_is.End ∷ vs)) started_block)

blocks-reads : (one : List Token → Read StmtTree) (class : Name) (bs : List BlockTree) (turns : ℕ) (ends : Word → Bool) → length bs < turns
    → AreAll (IsBlock class) bs → AreAll (BlockRead one) bs
    → Reads (blocks_by one class turns) (all_spelling block_spelling bs ++ (mark word_is.End ∷ [])) bs ends
blocks-reads one class bs zero ends short g r = absurd (omega arith)
blocks-reads one class [] (suc turns) ends short g r = may_come word_is.End _ _ refl (λ place. done [] ends)
blocks-reads one class (b ∷ bs) (suc turns) ends short g r =
    regrouped (block_spelling b) (all_spelling block_spelling bs) (mark word_is.End ∷ [])
    (left_away word_is.End _ _ (by_block (is_other word_is.End) b (all_spelling block_spelling bs ++ (mark word_is.End ∷ [])) (apart word_is.End starts_block refl))
    (then_reads _ (block-reads one class b g.0 r.0) (blocks_begin bs [] ends)
    (last_reads (λ more. b ∷ more) (blocks-reads one class bs turns ends (omega arith) g.1 r.1))))

block_some : (b : BlockTree) → 1 ≤ marks (block_spelling b)
block_some (types ds place) = omega arith
block_some (values ds place) = omega arith
block_some (variables is place) = omega arith
block_some (functions fs place) = omega arith
block_some (operations os place) = omega arith
block_some (thread_of t place) = omega arith
block_some (synchronisation ss place) = omega arith

blocks-fit : (bs : List BlockTree) → length bs ≤ marks (all_spelling block_spelling bs)
blocks-fit [] = omega arith
blocks-fit (b ∷ bs) =
    let k : length bs ≤ marks (all_spelling block_spelling bs) = blocks-fit bs in
    let some : 1 ≤ marks (block_spelling b) = block_some b in
    let e = marks-append (block_spelling b) (all_spelling block_spelling bs) in omega arith

-- ---- classes

superclasses-reads : (names : List NameAt) → Reads superclasses_in (superclasses_spelling names) names block_ends
superclasses-reads [] = left_away word_is.Is _ _ (by_nothing (apart word_is.Is block_ends refl)) (done [] block_ends)
superclasses-reads (n ∷ ns) =
    may_come word_is.Is _ _ refl (λ place. at_mark word_is.Subclass _ refl (λ subclass. at_mark word_is.Of _ refl (λ spot.
    names-reads n ns block_ends (apart word_is.Comma block_ends refl))))

abbrev class_behind : ClassTree → List Piece
class_behind c =
    must (at (identifier c.name c.name_place)) ∷ (superclasses_spelling c.superclasses
    ++ (all_spelling block_spelling c.blocks ++ (mark word_is.End ∷ again c.name ∷ [])))

class-fits : (c : ClassTree) → length c.blocks ≤ marks (class_behind c)
class-fits c =
    let k : length c.blocks ≤ marks (all_spelling block_spelling c.blocks) = blocks-fit c.blocks in
    let e = marks-append (superclasses_spelling c.superclasses) (all_spelling block_spelling c.blocks ++ (mark word_is.End ∷ again c.name ∷ [])) in
    let f = marks-append (all_spelling block_spelling c.blocks) (mark word_is.End ∷ again c.name ∷ []) in omega arith

abbrev class_made : NameAt → Place → List NameAt → List BlockTree → ClassTree
class_made name place superclasses blocks =
    record { name = name.name; name_place = name.place; superclasses = superclasses; blocks = blocks; place = place }

class-reads : (one : List Token → Read StmtTree) (c : ClassTree) (ends : Word → Bool) → IsClass c → AreAll (BlockRead one) c.blocks
    → Reads (class_by one c.place) (class_behind c) c ends
class-reads one c ends g r =
    counted (λ turns ts. onto (name_in ts) (λ name a. onto (superclasses_in a) (λ superclasses b. onto (blocks_by one name.name turns b) (λ blocks d.
    onto (name_again name.name d) (λ second e. Some (class_made name c.place superclasses blocks, e))))))
    _ _ ends (length c.blocks) (class-fits c) (λ turns short.
    at_name c.name c.name_place _ (then_reads _ (superclasses-reads c.superclasses) (blocks_begin c.blocks (again c.name ∷ []) ends)
    (same_pieces (append_assoc (all_spelling block_spelling c.blocks) (mark word_is.End ∷ []) (again c.name ∷ []))
    (then_reads _ (blocks-reads one c.name c.blocks turns any_word short g r) any_begins (at_again c.name _ (λ place. done c ends))))))

abbrev pub ClassRead : (List Token → Read StmtTree) → ClassTree → Type 0
ClassRead one c = AreAll (BlockRead one) c.blocks

pub classes-read : (one : List Token → Read StmtTree) (cs : List ClassTree) (turns : ℕ) → length cs < turns → AreAll IsClass cs → AreAll (ClassRead one) cs
    → Reads (classes_by one turns) (all_spelling class_spelling cs) cs (is_other word_is.Class)
classes-read one cs zero short g r = absurd (omega arith)
classes-read one [] (suc turns) short g r = left_away word_is.Class _ _ (by_nothing (λ w e. e)) (done [] (is_other word_is.Class))
classes-read one (c ∷ cs) (suc turns) short g r =
    key_comes word_is.Class c.place _ _ refl (then_reads _ (class-reads one c any_word g.0 r.0) any_begins
    (last_reads (λ more. c ∷ more) (classes-read one cs turns (omega arith) g.1 r.1)))

pub classes-fit : (cs : List ClassTree) → length cs ≤ marks (all_spelling class_spelling cs)
classes-fit [] = omega arith
classes-fit (c ∷ cs) =
    let k : length cs ≤ marks (all_spelling class_spelling cs) = classes-fit cs in
    let e = marks-append (class_behind c) (all_spelling class_spelling cs) in omega arith
