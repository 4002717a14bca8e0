-- A call that stops where one in it did.
use Rattle.std.proofs.Common.{◌≡◌, List, Option, None, Result, Ok, Err, IsErrAnd, ap, sym, ◌∙◌}
use Rattle.vdm_kinds.specs.declared.halt.Halt.{Halt}
use Rattle.vdm_kinds.specs.declared.halt.Halt.TheVariants.{Of}
use Rattle.grammar_words.specs.Tokens.{Token}
use Rattle.leaf_reader.specs.declared.no_tree.NoTree.{NoTree}
use Rattle.leaf_reader.specs.Reads.{Reads}
use Rattle.stmt_reading.specs.Leaves.{Read}

pub stopped : {A B C : Type 0} (result : Result A (Halt NoTree)) (halt : Halt NoTree) (view : A → B) (read : Read B) (rest : List Token)
    → IsErrAnd result (λ h. h ≡ halt) → (◌≡◌ {A = Result C (Halt NoTree)} (Err halt) (Err (Of (record {}))) → read ≡ None) → Reads result view read rest
stopped (Ok a) halt view read rest is none = absurd is
stopped (Err h) halt view read rest is none =
    record { given = tt; refused = λ e. none (let same : h ≡ Of (record {}) = cc in ap Err (sym is ∙ same)) }
