-- Blocks, classes and specifications are taken.
use Rattle.std.proofs.Common.{◌≡◌, Bool, true, List, [], ◌∷◌, ◌++◌, Option, Some, None, refl}
use Rattle.vdm_kinds.specs.declared.name.Name.{Name}
use Rattle.vdm_kinds.specs.declared.name_at.NameAt.{NameAt}
use Rattle.vdm_kinds.specs.declared.sign.Sign.TheVariants.{Implies}
use Rattle.abstract_syntax.specs.Classes.{PhaseTree, ThreadTree, periodic, procedural, SyncTree, permission, mutex_all, mutex_of, BlockTree, types, values, variables, functions, operations, thread_of, synchronisation}
use Rattle.grammar_words.specs.declared.word.Word.{Word}
use Rattle.grammar_words.specs.declared.word.Word.TheVariants as word_is
use Rattle.grammar_words.specs.Tokens.{identifier, plain}
use Rattle.grammar_words.specs.Written.{at}
use Rattle.grammar_trees.specs.Spelling.{spelling, further_names}
use Rattle.grammar_fronts.specs.declared.wanted.Wanted.TheVariants as want
use Rattle.stmt_trees.specs.Pieces.{Piece, must, mark, may, whole}
use Rattle.stmt_trees.specs.StmtGrammar.{takes_else}
use Rattle.stmt_trees.specs.ClassSpelling.{type_def_spelling, value_def_spelling, variable_item_spelling, function_spelling, operation_spelling, phase_spelling, thread_spelling, sync_spelling, block_spelling}
use Rattle.stmt_trees.specs.ClassGrammar.{AreAll, IsTypeDef, IsValueDef, IsVariableItem, IsFunction, IsOperation, IsPhase, IsThread, IsSync, IsBlock}
use Rattle.stmt_fronts.specs.declared.expected.Expected.{Expected}
use Rattle.stmt_fronts.specs.declared.expected.Expected.TheVariants.{Within, Statement, TypeDefs, MoreTypeDefs, ValueDefs, MoreValueDefs, VariableItems, MoreVariableItems, FunctionDefs, MoreFunctionDefs, OperationDefs, MoreOperationDefs, ThreadBody, PhaseOrClose, LastSemicolon, SyncClauses, MoreSyncClauses, Blocks}
use Rattle.stmt_fronts.specs.Table.{turns}
use Rattle.stmt_fronts.specs.Viable.{Names}
use Rattle.stmt_laws.specs.Ends.{ends_expr, ends_after}
use Rattle.stmt_laws.proofs.Readers.{Begins, by_mark}
use Rattle.stmt_laws.proofs.Firsts.{behind_any, stmt_ends}
use Rattle.viable_laws.proofs.Takes.{Takes, fewer, nothing, both, token, marked, left_out, left_before, regroup}
use Rattle.viable_laws.proofs.Leaves.{expr_taken}
use Rattle.viable_laws.proofs.Instead.{Begun, none, begun, kept, nameless_statement, none_wanted, instead, may_taken, may_begin}
use Rattle.viable_laws.proofs.Viable.{stmt_taken}
use Rattle.viable_laws.proofs.Items.{ends_block, ends_item, block_item, item_stmt, begins_fewer, Passes, ItemTaken, AllItems, AreItems, items_taken}
use Rattle.viable_laws.proofs.Definitions.{type_def_taken, value_def_taken, variable_taken}
use Rattle.viable_laws.proofs.Routines.{function_taken, operation_taken}

no_typedefs : (w : Word) → ends_block w ≡ true → turns TypeDefs w ≡ []
no_typedefs word_is.Types e = refl
no_typedefs word_is.Values e = refl
no_typedefs word_is.Instance e = refl
no_typedefs word_is.Functions e = refl
no_typedefs word_is.Operations e = refl
no_typedefs word_is.Thread e = refl
no_typedefs word_is.Sync e = refl
no_typedefs word_is.End e = refl
no_typedefs _ e = absurd (cc)

no_moretypedefs : (w : Word) → ends_block w ≡ true → turns MoreTypeDefs w ≡ []
no_moretypedefs word_is.Types e = refl
no_moretypedefs word_is.Values e = refl
no_moretypedefs word_is.Instance e = refl
no_moretypedefs word_is.Functions e = refl
no_moretypedefs word_is.Operations e = refl
no_moretypedefs word_is.Thread e = refl
no_moretypedefs word_is.Sync e = refl
no_moretypedefs word_is.End e = refl
no_moretypedefs _ e = absurd (cc)

no_valuedefs : (w : Word) → ends_block w ≡ true → turns ValueDefs w ≡ []
no_valuedefs word_is.Types e = refl
no_valuedefs word_is.Values e = refl
no_valuedefs word_is.Instance e = refl
no_valuedefs word_is.Functions e = refl
no_valuedefs word_is.Operations e = refl
no_valuedefs word_is.Thread e = refl
no_valuedefs word_is.Sync e = refl
no_valuedefs word_is.End e = refl
no_valuedefs _ e = absurd (cc)

no_morevaluedefs : (w : Word) → ends_block w ≡ true → turns MoreValueDefs w ≡ []
no_morevaluedefs word_is.Types e = refl
no_morevaluedefs word_is.Values e = refl
no_morevaluedefs word_is.Instance e = refl
no_morevaluedefs word_is.Functions e = refl
no_morevaluedefs word_is.Operations e = refl
no_morevaluedefs word_is.Thread e = refl
no_morevaluedefs word_is.Sync e = refl
no_morevaluedefs word_is.End e = refl
no_morevaluedefs _ e = absurd (cc)

no_variableitems : (w : Word) → ends_block w ≡ true → turns VariableItems w ≡ []
no_variableitems word_is.Types e = refl
no_variableitems word_is.Values e = refl
no_variableitems word_is.Instance e = refl
no_variableitems word_is.Functions e = refl
no_variableitems word_is.Operations e = refl
no_variableitems word_is.Thread e = refl
no_variableitems word_is.Sync e = refl
no_variableitems word_is.End e = refl
no_variableitems _ e = absurd (cc)

no_morevariableitems : (w : Word) → ends_block w ≡ true → turns MoreVariableItems w ≡ []
no_morevariableitems word_is.Types e = refl
no_morevariableitems word_is.Values e = refl
no_morevariableitems word_is.Instance e = refl
no_morevariableitems word_is.Functions e = refl
no_morevariableitems word_is.Operations e = refl
no_morevariableitems word_is.Thread e = refl
no_morevariableitems word_is.Sync e = refl
no_morevariableitems word_is.End e = refl
no_morevariableitems _ e = absurd (cc)

no_functiondefs : (w : Word) → ends_block w ≡ true → turns FunctionDefs w ≡ []
no_functiondefs word_is.Types e = refl
no_functiondefs word_is.Values e = refl
no_functiondefs word_is.Instance e = refl
no_functiondefs word_is.Functions e = refl
no_functiondefs word_is.Operations e = refl
no_functiondefs word_is.Thread e = refl
no_functiondefs word_is.Sync e = refl
no_functiondefs word_is.End e = refl
no_functiondefs _ e = absurd (cc)

no_morefunctiondefs : (w : Word) → ends_block w ≡ true → turns MoreFunctionDefs w ≡ []
no_morefunctiondefs word_is.Types e = refl
no_morefunctiondefs word_is.Values e = refl
no_morefunctiondefs word_is.Instance e = refl
no_morefunctiondefs word_is.Functions e = refl
no_morefunctiondefs word_is.Operations e = refl
no_morefunctiondefs word_is.Thread e = refl
no_morefunctiondefs word_is.Sync e = refl
no_morefunctiondefs word_is.End e = refl
no_morefunctiondefs _ e = absurd (cc)

no_operationdefs : (w : Word) → ends_block w ≡ true → turns OperationDefs w ≡ []
no_operationdefs word_is.Types e = refl
no_operationdefs word_is.Values e = refl
no_operationdefs word_is.Instance e = refl
no_operationdefs word_is.Functions e = refl
no_operationdefs word_is.Operations e = refl
no_operationdefs word_is.Thread e = refl
no_operationdefs word_is.Sync e = refl
no_operationdefs word_is.End e = refl
no_operationdefs _ e = absurd (cc)

no_moreoperationdefs : (w : Word) → ends_block w ≡ true → turns MoreOperationDefs w ≡ []
no_moreoperationdefs word_is.Types e = refl
no_moreoperationdefs word_is.Values e = refl
no_moreoperationdefs word_is.Instance e = refl
no_moreoperationdefs word_is.Functions e = refl
no_moreoperationdefs word_is.Operations e = refl
no_moreoperationdefs word_is.Thread e = refl
no_moreoperationdefs word_is.Sync e = refl
no_moreoperationdefs word_is.End e = refl
no_moreoperationdefs _ e = absurd (cc)

no_syncclauses : (w : Word) → ends_block w ≡ true → turns SyncClauses w ≡ []
no_syncclauses word_is.Types e = refl
no_syncclauses word_is.Values e = refl
no_syncclauses word_is.Instance e = refl
no_syncclauses word_is.Functions e = refl
no_syncclauses word_is.Operations e = refl
no_syncclauses word_is.Thread e = refl
no_syncclauses word_is.Sync e = refl
no_syncclauses word_is.End e = refl
no_syncclauses _ e = absurd (cc)

no_moresyncclauses : (w : Word) → ends_block w ≡ true → turns MoreSyncClauses w ≡ []
no_moresyncclauses word_is.Types e = refl
no_moresyncclauses word_is.Values e = refl
no_moresyncclauses word_is.Instance e = refl
no_moresyncclauses word_is.Functions e = refl
no_moresyncclauses word_is.Operations e = refl
no_moresyncclauses word_is.Thread e = refl
no_moresyncclauses word_is.Sync e = refl
no_moresyncclauses word_is.End e = refl
no_moresyncclauses _ e = absurd (cc)

are_typedefs : AreItems TypeDefs MoreTypeDefs
are_typedefs = record { next = refl; fit = λ n. refl; may_come = refl; may_follow = refl; ends_first = no_typedefs; ends_next = no_moretypedefs }

are_valuedefs : AreItems ValueDefs MoreValueDefs
are_valuedefs = record { next = refl; fit = λ n. refl; may_come = refl; may_follow = refl; ends_first = no_valuedefs; ends_next = no_morevaluedefs }

are_variableitems : AreItems VariableItems MoreVariableItems
are_variableitems = record { next = refl; fit = λ n. refl; may_come = refl; may_follow = refl; ends_first = no_variableitems; ends_next = no_morevariableitems }

are_functiondefs : AreItems FunctionDefs MoreFunctionDefs
are_functiondefs = record { next = refl; fit = λ n. refl; may_come = refl; may_follow = refl; ends_first = no_functiondefs; ends_next = no_morefunctiondefs }

are_operationdefs : AreItems OperationDefs MoreOperationDefs
are_operationdefs = record { next = refl; fit = λ n. refl; may_come = refl; may_follow = refl; ends_first = no_operationdefs; ends_next = no_moreoperationdefs }

are_syncclauses : AreItems SyncClauses MoreSyncClauses
are_syncclauses = record { next = refl; fit = λ n. refl; may_come = refl; may_follow = refl; ends_first = no_syncclauses; ends_next = no_moresyncclauses }

all_items : {A : Type 0} (x more : Expected) (spell : A → List Piece) (P : A → Type 0) → ((a : A) → P a → ItemTaken x more spell a) → (items : List A) → AreAll P items
    → AllItems x more spell items
all_items x more spell P f [] g = tt
all_items x more spell P f (a ∷ others) g = (f a g.0, all_items x more spell P f others g.1)

-- ---- synchronisation and threads

pub names_taken : {n m : Names} {vs : List Piece} {y : List Expected} {ends : Word → Bool} (names : List NameAt) → Takes vs (Within want.MoreNames ∷ y) ends n m
    → Takes (whole (further_names names) ++ vs) (Within want.MoreNames ∷ y) ends n m
names_taken [] t = t
names_taken (a ∷ names) t = marked word_is.Comma [] _ _ refl refl (token (identifier a.name a.place) [] _ _ refl refl (names_taken names t))

item_expr : (w : Word) → ends_item w ≡ true → ends_expr w ≡ true
item_expr w e = stmt_ends w (item_stmt w e)

sync_taken : (s : SyncTree) → IsSync s → ItemTaken SyncClauses MoreSyncClauses sync_spelling s
sync_taken (permission name name_place condition place) g =
    record {
      after = λ n. n;
      keeps = λ n. refl;
      taken = λ n m vs y ends b t.
          token (plain word_is.Per place) [] _ _ refl refl (token (identifier name name_place) [] _ _ refl refl (marked (word_is.Operator Implies) [] _ _ refl refl
          (both (fewer item_expr (expr_taken condition g)) b t)));
    }
sync_taken (mutex_all place) g =
    record {
      after = λ n. n;
      keeps = λ n. refl;
      taken = λ n m vs y ends b t.
          token (plain word_is.Mutex place) [] _ _ refl refl (marked word_is.OpenRound [] _ _ refl refl (marked word_is.All [] _ _ refl refl (marked word_is.CloseRound [] _ _ refl refl t)));
    }
sync_taken (mutex_of [] place) g = absurd g
sync_taken (mutex_of (a ∷ names) place) g =
    record {
      after = λ n. n;
      keeps = λ n. refl;
      taken = λ n m vs y ends b t.
          token (plain word_is.Mutex place) [] _ _ refl refl (marked word_is.OpenRound [] _ _ refl refl (token (identifier a.name a.place) [] _ _ refl refl
          (regroup (whole (further_names names)) (mark word_is.CloseRound ∷ []) vs
          (names_taken names (left_before word_is.CloseRound refl refl (marked word_is.CloseRound [] _ _ refl refl t))))));
    }

phase_taken : {n : Names} {ends : Word → Bool} (p : Option PhaseTree) → IsPhase p → (name : Name) (name_place : _)
    → Takes (phase_spelling p ++ (mark word_is.CloseRound ∷ mark word_is.OpenRound ∷ must (at (identifier name name_place)) ∷ mark word_is.CloseRound ∷ []))
    (PhaseOrClose ∷ Within want.OpenRound ∷ Within want.Identifier ∷ Within want.CloseRound ∷ []) ends n n
phase_taken None g name name_place =
    marked word_is.CloseRound [] _ _ refl refl (marked word_is.OpenRound [] _ _ refl refl (token (identifier name name_place) [] _ _ refl refl (marked word_is.CloseRound [] _ _ refl refl nothing)))
phase_taken (Some p) g name name_place =
    marked word_is.Comma [] _ _ refl refl
    (regroup (whole (spelling p.jitter)) _ _ (both (expr_taken p.jitter g.0) (by_mark word_is.Comma refl) (marked word_is.Comma [] _ _ refl refl
    (regroup (whole (spelling p.delay)) _ _ (both (expr_taken p.delay g.1) (by_mark word_is.Comma refl) (marked word_is.Comma [] _ _ refl refl
    (both (expr_taken p.offset g.2) (by_mark word_is.CloseRound refl) (marked word_is.CloseRound [] _ _ refl refl (marked word_is.OpenRound [] _ _ refl refl
    (token (identifier name name_place) [] _ _ refl refl (marked word_is.CloseRound [] _ _ refl refl nothing)))))))))))

phase_begins : {ends : Word → Bool} (p : Option PhaseTree) (vs : List Piece) → Begins (phase_spelling p ++ (mark word_is.CloseRound ∷ vs)) ends ends_expr
phase_begins None vs = by_mark word_is.CloseRound refl
phase_begins (Some p) vs = by_mark word_is.Comma refl

thread_body-begun : (w : Word) → Begun ThreadBody Statement [] w
thread_body-begun word_is.Periodic = none refl
thread_body-begun w = begun [] (none_wanted (turns Statement w))

item_after : (s : _) (w : Word) → ends_item w ≡ true → ends_after s w ≡ true
item_after s word_is.Semicolon e = behind_any (takes_else s) word_is.Semicolon refl refl
item_after s word_is.Types e = behind_any (takes_else s) word_is.Types refl refl
item_after s word_is.Values e = behind_any (takes_else s) word_is.Values refl refl
item_after s word_is.Instance e = behind_any (takes_else s) word_is.Instance refl refl
item_after s word_is.Functions e = behind_any (takes_else s) word_is.Functions refl refl
item_after s word_is.Operations e = behind_any (takes_else s) word_is.Operations refl refl
item_after s word_is.Thread e = behind_any (takes_else s) word_is.Thread refl refl
item_after s word_is.Sync e = behind_any (takes_else s) word_is.Sync refl refl
item_after s word_is.End e = behind_any (takes_else s) word_is.End refl refl
item_after s _ e = absurd (cc)

thread_taken : {n : Names} (t : ThreadTree) → IsThread t → Takes (thread_spelling t) (ThreadBody ∷ []) ends_item n n
thread_taken (periodic period phase name name_place place) g =
    token (plain word_is.Periodic place) [] _ _ refl refl (marked word_is.OpenRound [] _ _ refl refl
    (both (expr_taken period g.0) (phase_begins phase _) (phase_taken phase g.1 name name_place)))
thread_taken {n = n} (procedural s) g =
    instead ThreadBody Statement [] [] refl (record { fits_any = λ n name. refl; keeps = kept ThreadBody (λ n name. refl) }) nameless_statement thread_body-begun
    (fewer (item_after s) ((stmt_taken s g).taken n))

-- ---- blocks

no_last : (w : Word) → ends_block w ≡ true → turns LastSemicolon w ≡ []
no_last word_is.Types e = refl
no_last word_is.Values e = refl
no_last word_is.Instance e = refl
no_last word_is.Functions e = refl
no_last word_is.Operations e = refl
no_last word_is.Thread e = refl
no_last word_is.Sync e = refl
no_last word_is.End e = refl
no_last _ e = absurd (cc)

pub block_taken : (class : Name) (b : BlockTree) → IsBlock class b → Passes (block_spelling b) Blocks (Blocks ∷ []) ends_block
block_taken class (types definitions place) g =
    let k = items_taken TypeDefs MoreTypeDefs are_typedefs type_def_spelling definitions (all_items TypeDefs MoreTypeDefs type_def_spelling (IsTypeDef class) (type_def_taken class) definitions g) in
    record { after = k.after; keeps = k.keeps; taken = λ n m vs y ends b t. token (plain word_is.Types place) [] _ _ refl refl (k.taken n m vs (Blocks ∷ y) ends b t) }
block_taken class (values definitions place) g =
    let k = items_taken ValueDefs MoreValueDefs are_valuedefs value_def_spelling definitions (all_items ValueDefs MoreValueDefs value_def_spelling IsValueDef value_def_taken definitions g) in
    record { after = k.after; keeps = k.keeps; taken = λ n m vs y ends b t. token (plain word_is.Values place) [] _ _ refl refl (k.taken n m vs (Blocks ∷ y) ends b t) }
block_taken class (functions definitions place) g =
    let k = items_taken FunctionDefs MoreFunctionDefs are_functiondefs function_spelling definitions (all_items FunctionDefs MoreFunctionDefs function_spelling IsFunction function_taken definitions g) in
    record { after = k.after; keeps = k.keeps; taken = λ n m vs y ends b t. token (plain word_is.Functions place) [] _ _ refl refl (k.taken n m vs (Blocks ∷ y) ends b t) }
block_taken class (operations definitions place) g =
    let k = items_taken OperationDefs MoreOperationDefs are_operationdefs operation_spelling definitions (all_items OperationDefs MoreOperationDefs operation_spelling IsOperation operation_taken definitions g) in
    record { after = k.after; keeps = k.keeps; taken = λ n m vs y ends b t. token (plain word_is.Operations place) [] _ _ refl refl (k.taken n m vs (Blocks ∷ y) ends b t) }
block_taken class (synchronisation definitions place) g =
    let k = items_taken SyncClauses MoreSyncClauses are_syncclauses sync_spelling definitions (all_items SyncClauses MoreSyncClauses sync_spelling IsSync sync_taken definitions g) in
    record { after = k.after; keeps = k.keeps; taken = λ n m vs y ends b t. token (plain word_is.Sync place) [] _ _ refl refl (k.taken n m vs (Blocks ∷ y) ends b t) }
block_taken class (variables items place) g =
    let k = items_taken VariableItems MoreVariableItems are_variableitems variable_item_spelling items (all_items VariableItems MoreVariableItems variable_item_spelling IsVariableItem variable_taken items g) in
    record {
      after = k.after;
      keeps = k.keeps;
      taken = λ n m vs y ends b t. token (plain word_is.Instance place) [] _ _ refl refl (marked word_is.Variables [] _ _ refl refl (k.taken n m vs (Blocks ∷ y) ends b t));
    }
block_taken class (thread_of u place) g =
    record {
      after = λ n. n;
      keeps = λ n. refl;
      taken = λ n m vs y ends b t.
          token (plain word_is.Thread place) [] _ _ refl refl
          (regroup (thread_spelling u) (may word_is.Semicolon ∷ []) vs
          (both (thread_taken u g) (may_begin word_is.Semicolon refl (begins_fewer block_item b))
          (may_taken word_is.Semicolon (marked word_is.Semicolon [] _ _ refl refl t) (left_out refl no_last b t))));
    }
