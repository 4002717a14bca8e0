-- What may stand behind parts of definitions.
use Rattle.std.proofs.Common.{◌≡◌, Bool, true, false, refl}
use Rattle.abstract_syntax.specs.Statements.{StmtTree}
use Rattle.grammar_words.specs.declared.word.Word.{Word}
use Rattle.grammar_words.specs.declared.word.Word.TheVariants as word_is
use Rattle.stmt_trees.specs.StmtGrammar.{takes_else}
use Rattle.stmt_reading.specs.Definitions.{begins_head, begins_variable, begins_sync}
use Rattle.stmt_laws.specs.Ends.{ends_expr, ends_type, ends_after}
use Rattle.stmt_laws.proofs.Firsts.{behind_any}

abbrev pub block_ends : Word → Bool
block_ends word_is.Types = true
block_ends word_is.Values = true
block_ends word_is.Instance = true
block_ends word_is.Functions = true
block_ends word_is.Operations = true
block_ends word_is.Thread = true
block_ends word_is.Sync = true
block_ends word_is.End = true
block_ends _ = false

abbrev pub item_ends : Word → Bool
item_ends word_is.Semicolon = true
item_ends word_is.Types = true
item_ends word_is.Values = true
item_ends word_is.Instance = true
item_ends word_is.Functions = true
item_ends word_is.Operations = true
item_ends word_is.Thread = true
item_ends word_is.Sync = true
item_ends word_is.End = true
item_ends _ = false

abbrev pub measure_ends : Word → Bool
measure_ends word_is.Measure = true
measure_ends word_is.Semicolon = true
measure_ends word_is.Types = true
measure_ends word_is.Values = true
measure_ends word_is.Instance = true
measure_ends word_is.Functions = true
measure_ends word_is.Operations = true
measure_ends word_is.Thread = true
measure_ends word_is.Sync = true
measure_ends word_is.End = true
measure_ends _ = false

abbrev pub post_ends : Word → Bool
post_ends word_is.Post = true
post_ends word_is.Measure = true
post_ends word_is.Semicolon = true
post_ends word_is.Types = true
post_ends word_is.Values = true
post_ends word_is.Instance = true
post_ends word_is.Functions = true
post_ends word_is.Operations = true
post_ends word_is.Thread = true
post_ends word_is.Sync = true
post_ends word_is.End = true
post_ends _ = false

abbrev pub pre_ends : Word → Bool
pre_ends word_is.Pre = true
pre_ends word_is.Post = true
pre_ends word_is.Measure = true
pre_ends word_is.Semicolon = true
pre_ends word_is.Types = true
pre_ends word_is.Values = true
pre_ends word_is.Instance = true
pre_ends word_is.Functions = true
pre_ends word_is.Operations = true
pre_ends word_is.Thread = true
pre_ends word_is.Sync = true
pre_ends word_is.End = true
pre_ends _ = false

abbrev pub op_post_ends : Word → Bool
op_post_ends word_is.Post = true
op_post_ends word_is.Semicolon = true
op_post_ends word_is.Types = true
op_post_ends word_is.Values = true
op_post_ends word_is.Instance = true
op_post_ends word_is.Functions = true
op_post_ends word_is.Operations = true
op_post_ends word_is.Thread = true
op_post_ends word_is.Sync = true
op_post_ends word_is.End = true
op_post_ends _ = false

abbrev pub op_ends : Word → Bool
op_ends word_is.Pre = true
op_ends word_is.Post = true
op_ends word_is.Semicolon = true
op_ends word_is.Types = true
op_ends word_is.Values = true
op_ends word_is.Instance = true
op_ends word_is.Functions = true
op_ends word_is.Operations = true
op_ends word_is.Thread = true
op_ends word_is.Sync = true
op_ends word_is.End = true
op_ends _ = false

abbrev pub type_ends : Word → Bool
type_ends word_is.Inv = true
type_ends word_is.Semicolon = true
type_ends word_is.Types = true
type_ends word_is.Values = true
type_ends word_is.Instance = true
type_ends word_is.Functions = true
type_ends word_is.Operations = true
type_ends word_is.Thread = true
type_ends word_is.Sync = true
type_ends word_is.End = true
type_ends _ = false

abbrev pub only_identifier : Word → Bool
only_identifier word_is.Identifier = true
only_identifier _ = false

abbrev pub arrow_ends : Word → Bool
arrow_ends word_is.Arrow = true
arrow_ends word_is.TotalArrow = true
arrow_ends word_is.DoubleArrow = true
arrow_ends _ = false

abbrev pub phase_ends : Word → Bool
phase_ends word_is.CloseRound = true
phase_ends _ = false

pub block_item : (w : Word) → block_ends w ≡ true → item_ends w ≡ true
block_item word_is.Types e = refl
block_item word_is.Values e = refl
block_item word_is.Instance e = refl
block_item word_is.Functions e = refl
block_item word_is.Operations e = refl
block_item word_is.Thread e = refl
block_item word_is.Sync e = refl
block_item word_is.End e = refl
block_item _ e = absurd (cc)

pub item_expr : (w : Word) → item_ends w ≡ true → ends_expr w ≡ true
item_expr word_is.Semicolon e = refl
item_expr word_is.Types e = refl
item_expr word_is.Values e = refl
item_expr word_is.Instance e = refl
item_expr word_is.Functions e = refl
item_expr word_is.Operations e = refl
item_expr word_is.Thread e = refl
item_expr word_is.Sync e = refl
item_expr word_is.End e = refl
item_expr _ e = absurd (cc)

pub item_type : (w : Word) → item_ends w ≡ true → ends_type w ≡ true
item_type word_is.Semicolon e = refl
item_type word_is.Types e = refl
item_type word_is.Values e = refl
item_type word_is.Instance e = refl
item_type word_is.Functions e = refl
item_type word_is.Operations e = refl
item_type word_is.Thread e = refl
item_type word_is.Sync e = refl
item_type word_is.End e = refl
item_type _ e = absurd (cc)

pub item_measure : (w : Word) → item_ends w ≡ true → measure_ends w ≡ true
item_measure word_is.Semicolon e = refl
item_measure word_is.Types e = refl
item_measure word_is.Values e = refl
item_measure word_is.Instance e = refl
item_measure word_is.Functions e = refl
item_measure word_is.Operations e = refl
item_measure word_is.Thread e = refl
item_measure word_is.Sync e = refl
item_measure word_is.End e = refl
item_measure _ e = absurd (cc)

pub measure_post : (w : Word) → measure_ends w ≡ true → post_ends w ≡ true
measure_post word_is.Measure e = refl
measure_post word_is.Semicolon e = refl
measure_post word_is.Types e = refl
measure_post word_is.Values e = refl
measure_post word_is.Instance e = refl
measure_post word_is.Functions e = refl
measure_post word_is.Operations e = refl
measure_post word_is.Thread e = refl
measure_post word_is.Sync e = refl
measure_post word_is.End e = refl
measure_post _ e = absurd (cc)

pub post_pre : (w : Word) → post_ends w ≡ true → pre_ends w ≡ true
post_pre word_is.Post e = refl
post_pre word_is.Measure e = refl
post_pre word_is.Semicolon e = refl
post_pre word_is.Types e = refl
post_pre word_is.Values e = refl
post_pre word_is.Instance e = refl
post_pre word_is.Functions e = refl
post_pre word_is.Operations e = refl
post_pre word_is.Thread e = refl
post_pre word_is.Sync e = refl
post_pre word_is.End e = refl
post_pre _ e = absurd (cc)

pub measure_expr : (w : Word) → measure_ends w ≡ true → ends_expr w ≡ true
measure_expr word_is.Measure e = refl
measure_expr word_is.Semicolon e = refl
measure_expr word_is.Types e = refl
measure_expr word_is.Values e = refl
measure_expr word_is.Instance e = refl
measure_expr word_is.Functions e = refl
measure_expr word_is.Operations e = refl
measure_expr word_is.Thread e = refl
measure_expr word_is.Sync e = refl
measure_expr word_is.End e = refl
measure_expr _ e = absurd (cc)

pub post_expr : (w : Word) → post_ends w ≡ true → ends_expr w ≡ true
post_expr word_is.Post e = refl
post_expr word_is.Measure e = refl
post_expr word_is.Semicolon e = refl
post_expr word_is.Types e = refl
post_expr word_is.Values e = refl
post_expr word_is.Instance e = refl
post_expr word_is.Functions e = refl
post_expr word_is.Operations e = refl
post_expr word_is.Thread e = refl
post_expr word_is.Sync e = refl
post_expr word_is.End e = refl
post_expr _ e = absurd (cc)

pub pre_expr : (w : Word) → pre_ends w ≡ true → ends_expr w ≡ true
pre_expr word_is.Pre e = refl
pre_expr word_is.Post e = refl
pre_expr word_is.Measure e = refl
pre_expr word_is.Semicolon e = refl
pre_expr word_is.Types e = refl
pre_expr word_is.Values e = refl
pre_expr word_is.Instance e = refl
pre_expr word_is.Functions e = refl
pre_expr word_is.Operations e = refl
pre_expr word_is.Thread e = refl
pre_expr word_is.Sync e = refl
pre_expr word_is.End e = refl
pre_expr _ e = absurd (cc)

pub item_op : (w : Word) → item_ends w ≡ true → op_post_ends w ≡ true
item_op word_is.Semicolon e = refl
item_op word_is.Types e = refl
item_op word_is.Values e = refl
item_op word_is.Instance e = refl
item_op word_is.Functions e = refl
item_op word_is.Operations e = refl
item_op word_is.Thread e = refl
item_op word_is.Sync e = refl
item_op word_is.End e = refl
item_op _ e = absurd (cc)

pub op_post_op : (w : Word) → op_post_ends w ≡ true → op_ends w ≡ true
op_post_op word_is.Post e = refl
op_post_op word_is.Semicolon e = refl
op_post_op word_is.Types e = refl
op_post_op word_is.Values e = refl
op_post_op word_is.Instance e = refl
op_post_op word_is.Functions e = refl
op_post_op word_is.Operations e = refl
op_post_op word_is.Thread e = refl
op_post_op word_is.Sync e = refl
op_post_op word_is.End e = refl
op_post_op _ e = absurd (cc)

pub op_post_expr : (w : Word) → op_post_ends w ≡ true → ends_expr w ≡ true
op_post_expr word_is.Post e = refl
op_post_expr word_is.Semicolon e = refl
op_post_expr word_is.Types e = refl
op_post_expr word_is.Values e = refl
op_post_expr word_is.Instance e = refl
op_post_expr word_is.Functions e = refl
op_post_expr word_is.Operations e = refl
op_post_expr word_is.Thread e = refl
op_post_expr word_is.Sync e = refl
op_post_expr word_is.End e = refl
op_post_expr _ e = absurd (cc)

pub item_inv : (w : Word) → item_ends w ≡ true → type_ends w ≡ true
item_inv word_is.Semicolon e = refl
item_inv word_is.Types e = refl
item_inv word_is.Values e = refl
item_inv word_is.Instance e = refl
item_inv word_is.Functions e = refl
item_inv word_is.Operations e = refl
item_inv word_is.Thread e = refl
item_inv word_is.Sync e = refl
item_inv word_is.End e = refl
item_inv _ e = absurd (cc)

pub type_type : (w : Word) → type_ends w ≡ true → ends_type w ≡ true
type_type word_is.Inv e = refl
type_type word_is.Semicolon e = refl
type_type word_is.Types e = refl
type_type word_is.Values e = refl
type_type word_is.Instance e = refl
type_type word_is.Functions e = refl
type_type word_is.Operations e = refl
type_type word_is.Thread e = refl
type_type word_is.Sync e = refl
type_type word_is.End e = refl
type_type _ e = absurd (cc)

pub identifier_type : (w : Word) → only_identifier w ≡ true → ends_type w ≡ true
identifier_type word_is.Identifier e = refl
identifier_type _ e = absurd (cc)

pub arrow_type : (w : Word) → arrow_ends w ≡ true → ends_type w ≡ true
arrow_type word_is.Arrow e = refl
arrow_type word_is.TotalArrow e = refl
arrow_type word_is.DoubleArrow e = refl
arrow_type _ e = absurd (cc)

pub block_no_head : (w : Word) → block_ends w ≡ true → begins_head w ≡ false
block_no_head word_is.Types e = refl
block_no_head word_is.Values e = refl
block_no_head word_is.Instance e = refl
block_no_head word_is.Functions e = refl
block_no_head word_is.Operations e = refl
block_no_head word_is.Thread e = refl
block_no_head word_is.Sync e = refl
block_no_head word_is.End e = refl
block_no_head _ e = absurd (cc)

pub block_no_variable : (w : Word) → block_ends w ≡ true → begins_variable w ≡ false
block_no_variable word_is.Types e = refl
block_no_variable word_is.Values e = refl
block_no_variable word_is.Instance e = refl
block_no_variable word_is.Functions e = refl
block_no_variable word_is.Operations e = refl
block_no_variable word_is.Thread e = refl
block_no_variable word_is.Sync e = refl
block_no_variable word_is.End e = refl
block_no_variable _ e = absurd (cc)

pub block_no_sync : (w : Word) → block_ends w ≡ true → begins_sync w ≡ false
block_no_sync word_is.Types e = refl
block_no_sync word_is.Values e = refl
block_no_sync word_is.Instance e = refl
block_no_sync word_is.Functions e = refl
block_no_sync word_is.Operations e = refl
block_no_sync word_is.Thread e = refl
block_no_sync word_is.Sync e = refl
block_no_sync word_is.End e = refl
block_no_sync _ e = absurd (cc)

pub op_after : (s : StmtTree) (w : Word) → op_ends w ≡ true → ends_after s w ≡ true
op_after s word_is.Pre e = behind_any (takes_else s) word_is.Pre refl refl
op_after s word_is.Post e = behind_any (takes_else s) word_is.Post refl refl
op_after s word_is.Semicolon e = behind_any (takes_else s) word_is.Semicolon refl refl
op_after s word_is.Types e = behind_any (takes_else s) word_is.Types refl refl
op_after s word_is.Values e = behind_any (takes_else s) word_is.Values refl refl
op_after s word_is.Instance e = behind_any (takes_else s) word_is.Instance refl refl
op_after s word_is.Functions e = behind_any (takes_else s) word_is.Functions refl refl
op_after s word_is.Operations e = behind_any (takes_else s) word_is.Operations refl refl
op_after s word_is.Thread e = behind_any (takes_else s) word_is.Thread refl refl
op_after s word_is.Sync e = behind_any (takes_else s) word_is.Sync refl refl
op_after s word_is.End e = behind_any (takes_else s) word_is.End refl refl
op_after s _ e = absurd (cc)

pub item_after : (s : StmtTree) (w : Word) → item_ends w ≡ true → ends_after s w ≡ true
item_after s word_is.Semicolon e = behind_any (takes_else s) word_is.Semicolon refl refl
item_after s word_is.Types e = behind_any (takes_else s) word_is.Types refl refl
item_after s word_is.Values e = behind_any (takes_else s) word_is.Values refl refl
item_after s word_is.Instance e = behind_any (takes_else s) word_is.Instance refl refl
item_after s word_is.Functions e = behind_any (takes_else s) word_is.Functions refl refl
item_after s word_is.Operations e = behind_any (takes_else s) word_is.Operations refl refl
item_after s word_is.Thread e = behind_any (takes_else s) word_is.Thread refl refl
item_after s word_is.Sync e = behind_any (takes_else s) word_is.Sync refl refl
item_after s word_is.End e = behind_any (takes_else s) word_is.End refl refl
item_after s _ e = absurd (cc)

pub phase_expr : (w : Word) → phase_ends w ≡ true → ends_expr w ≡ true
phase_expr word_is.CloseRound e = refl
phase_expr _ e = absurd (cc)
