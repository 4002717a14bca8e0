-- The tokens of the specifications that other laws are worked out with.
use Rattle.std.specs.Prelude.{List, [], ◌∷◌, codes}
use Rattle.vdm_kinds.specs.declared.basic_type.BasicType.TheVariants as basic
use Rattle.vdm_kinds.specs.declared.counter.Counter.TheVariants as counter
use Rattle.vdm_kinds.specs.declared.sign.Sign.TheVariants as sign
use Rattle.grammar_words.specs.declared.word.Word.TheVariants as word
use Rattle.stmt_fronts.specs.WorkedFronts.{Shown, w, n, num, quoted, made, characters}

abbrev pub counting : List Shown
counting =
    w word.Class ∷ n 1 ∷ w word.Instance ∷ w word.Variables ∷ n 2 ∷ w word.Colon ∷ w (word.Basic basic.Nat) ∷ w word.Becomes ∷
    num 0 ∷ w word.Semicolon ∷ w word.Operations ∷ w word.Public ∷ n 3 ∷ w word.Colon ∷ w word.OpenRound ∷ w word.CloseRound ∷
    w word.DoubleArrow ∷ w word.OpenRound ∷ w word.CloseRound ∷ n 3 ∷ w word.OpenRound ∷ w word.CloseRound ∷ w word.DoubleEqual ∷
    n 2 ∷ w word.Becomes ∷ n 2 ∷ w (word.Operator sign.Plus) ∷ num 1 ∷ w word.Semicolon ∷ w word.Public ∷ n 4 ∷ w word.Colon ∷
    w word.OpenRound ∷ w word.CloseRound ∷ w word.DoubleArrow ∷ w (word.Basic basic.Nat) ∷ n 4 ∷ w word.OpenRound ∷
    w word.CloseRound ∷ w word.DoubleEqual ∷ w word.OpenRound ∷ n 3 ∷ w word.OpenRound ∷ w word.CloseRound ∷ w word.Semicolon ∷
    n 3 ∷ w word.OpenRound ∷ w word.CloseRound ∷ w word.Semicolon ∷ n 3 ∷ w word.OpenRound ∷ w word.CloseRound ∷
    w word.Semicolon ∷ w word.Return ∷ n 2 ∷ w word.CloseRound ∷ w word.Semicolon ∷ w word.End ∷ n 1 ∷ []

abbrev pub buffer : List Shown
buffer =
    w word.Class ∷ n 1 ∷ w word.Instance ∷ w word.Variables ∷ n 2 ∷ w word.Colon ∷ w word.OpenSquare ∷ w (word.Basic basic.Nat) ∷
    w word.CloseSquare ∷ w word.Becomes ∷ w word.Nil ∷ w word.Semicolon ∷ w word.Operations ∷ w word.Public ∷ n 3 ∷
    w word.Colon ∷ w (word.Basic basic.Nat) ∷ w word.DoubleArrow ∷ w word.OpenRound ∷ w word.CloseRound ∷ n 3 ∷
    w word.OpenRound ∷ n 4 ∷ w word.CloseRound ∷ w word.DoubleEqual ∷ n 2 ∷ w word.Becomes ∷ n 4 ∷ w word.Semicolon ∷
    w word.Public ∷ n 5 ∷ w word.Colon ∷ w word.OpenRound ∷ w word.CloseRound ∷ w word.DoubleArrow ∷ w (word.Basic basic.Nat) ∷
    n 5 ∷ w word.OpenRound ∷ w word.CloseRound ∷ w word.DoubleEqual ∷ w word.OpenRound ∷ w word.Dcl ∷ n 6 ∷ w word.Colon ∷
    w word.OpenSquare ∷ w (word.Basic basic.Nat) ∷ w word.CloseSquare ∷ w word.Becomes ∷ n 2 ∷ w word.Semicolon ∷ n 2 ∷
    w word.Becomes ∷ w word.Nil ∷ w word.Semicolon ∷ w word.Return ∷ n 6 ∷ w word.CloseRound ∷ w word.Semicolon ∷ w word.Sync ∷
    w word.Per ∷ n 3 ∷ w (word.Operator sign.Implies) ∷ w (word.Counter counter.Finishes) ∷ w word.OpenRound ∷ n 3 ∷
    w word.CloseRound ∷ w (word.Operator sign.Equal) ∷ w (word.Counter counter.Finishes) ∷ w word.OpenRound ∷ n 5 ∷
    w word.CloseRound ∷ w word.Semicolon ∷ w word.Per ∷ n 5 ∷ w (word.Operator sign.Implies) ∷
    w (word.Counter counter.Finishes) ∷ w word.OpenRound ∷ n 5 ∷ w word.CloseRound ∷ w (word.Operator sign.Less) ∷
    w (word.Counter counter.Finishes) ∷ w word.OpenRound ∷ n 3 ∷ w word.CloseRound ∷ w word.Semicolon ∷ w word.End ∷ n 1 ∷
    w word.Class ∷ n 7 ∷ w word.Instance ∷ w word.Variables ∷ n 8 ∷ w word.Colon ∷ n 1 ∷ w word.Semicolon ∷ w word.Operations ∷
    w word.Public ∷ n 7 ∷ w word.Colon ∷ n 1 ∷ w word.DoubleArrow ∷ n 7 ∷ n 7 ∷ w word.OpenRound ∷ n 4 ∷ w word.CloseRound ∷
    w word.DoubleEqual ∷ w word.OpenRound ∷ n 8 ∷ w word.Becomes ∷ n 4 ∷ w word.Semicolon ∷ w word.Return ∷ w word.SelfWord ∷
    w word.CloseRound ∷ w word.Semicolon ∷ w word.Thread ∷ w word.For ∷ n 9 ∷ w (word.Operator sign.Equal) ∷ num 1 ∷ w word.To ∷
    num 4 ∷ w word.Do ∷ n 8 ∷ w word.Dot ∷ n 3 ∷ w word.OpenRound ∷ n 9 ∷ w word.CloseRound ∷ w word.End ∷ n 7 ∷ w word.Class ∷
    n 10 ∷ w word.Instance ∷ w word.Variables ∷ n 8 ∷ w word.Colon ∷ n 1 ∷ w word.Semicolon ∷ n 11 ∷ w word.Colon ∷ w word.Seq ∷
    w word.Of ∷ w (word.Basic basic.Nat) ∷ w word.Becomes ∷ w word.OpenSquare ∷ w word.CloseSquare ∷ w word.Semicolon ∷
    w word.Operations ∷ w word.Public ∷ n 10 ∷ w word.Colon ∷ n 1 ∷ w word.DoubleArrow ∷ n 10 ∷ n 10 ∷ w word.OpenRound ∷ n 4 ∷
    w word.CloseRound ∷ w word.DoubleEqual ∷ w word.OpenRound ∷ n 8 ∷ w word.Becomes ∷ n 4 ∷ w word.Semicolon ∷ w word.Return ∷
    w word.SelfWord ∷ w word.CloseRound ∷ w word.Semicolon ∷ n 12 ∷ w word.Colon ∷ w word.OpenRound ∷ w word.CloseRound ∷
    w word.DoubleArrow ∷ w word.OpenRound ∷ w word.CloseRound ∷ n 12 ∷ w word.OpenRound ∷ w word.CloseRound ∷
    w word.DoubleEqual ∷ n 11 ∷ w word.Becomes ∷ n 11 ∷ w (word.Operator sign.Concatenation) ∷ w word.OpenSquare ∷ n 8 ∷
    w word.Dot ∷ n 5 ∷ w word.OpenRound ∷ w word.CloseRound ∷ w word.CloseSquare ∷ w word.Semicolon ∷ w word.Public ∷ n 13 ∷
    w word.Colon ∷ w word.OpenRound ∷ w word.CloseRound ∷ w word.DoubleArrow ∷ w word.Seq ∷ w word.Of ∷
    w (word.Basic basic.Nat) ∷ n 13 ∷ w word.OpenRound ∷ w word.CloseRound ∷ w word.DoubleEqual ∷ w word.Return ∷ n 11 ∷
    w word.Semicolon ∷ w word.Thread ∷ w word.For ∷ n 9 ∷ w (word.Operator sign.Equal) ∷ num 1 ∷ w word.To ∷ num 4 ∷ w word.Do ∷
    n 12 ∷ w word.OpenRound ∷ w word.CloseRound ∷ w word.Sync ∷ w word.Per ∷ n 13 ∷ w (word.Operator sign.Implies) ∷
    w (word.Counter counter.Finishes) ∷ w word.OpenRound ∷ n 12 ∷ w word.CloseRound ∷ w (word.Operator sign.Equal) ∷ num 4 ∷
    w word.Semicolon ∷ w word.End ∷ n 10 ∷ w word.Class ∷ n 14 ∷ w word.Operations ∷ w word.Public ∷ w word.Static ∷ n 15 ∷
    w word.Colon ∷ w word.OpenRound ∷ w word.CloseRound ∷ w word.DoubleArrow ∷ w word.Seq ∷ w word.Of ∷
    w (word.Basic basic.Nat) ∷ n 15 ∷ w word.OpenRound ∷ w word.CloseRound ∷ w word.DoubleEqual ∷ w word.OpenRound ∷ w word.Dcl ∷
    n 8 ∷ w word.Colon ∷ n 1 ∷ w word.Becomes ∷ w word.New ∷ n 1 ∷ w word.OpenRound ∷ w word.CloseRound ∷ w word.Semicolon ∷
    w word.Dcl ∷ n 16 ∷ w word.Colon ∷ n 10 ∷ w word.Becomes ∷ w word.New ∷ n 10 ∷ w word.OpenRound ∷ n 8 ∷ w word.CloseRound ∷
    w word.Semicolon ∷ w word.Start ∷ w word.OpenRound ∷ w word.New ∷ n 7 ∷ w word.OpenRound ∷ n 8 ∷ w word.CloseRound ∷
    w word.CloseRound ∷ w word.Semicolon ∷ w word.Start ∷ w word.OpenRound ∷ n 16 ∷ w word.CloseRound ∷ w word.Semicolon ∷
    w word.Return ∷ n 16 ∷ w word.Dot ∷ n 13 ∷ w word.OpenRound ∷ w word.CloseRound ∷ w word.CloseRound ∷ w word.Semicolon ∷
    w word.End ∷ n 14 ∷ []

abbrev pub adders : List Shown
adders =
    w word.Class ∷ n 1 ∷ w word.Instance ∷ w word.Variables ∷ n 2 ∷ w word.Colon ∷ w (word.Basic basic.Nat) ∷ w word.Becomes ∷
    num 0 ∷ w word.Semicolon ∷ w word.Operations ∷ w word.Public ∷ n 3 ∷ w word.Colon ∷ w word.OpenRound ∷ w word.CloseRound ∷
    w word.DoubleArrow ∷ w word.OpenRound ∷ w word.CloseRound ∷ n 3 ∷ w word.OpenRound ∷ w word.CloseRound ∷ w word.DoubleEqual ∷
    n 2 ∷ w word.Becomes ∷ n 2 ∷ w (word.Operator sign.Plus) ∷ num 1 ∷ w word.Semicolon ∷ w word.Public ∷ n 4 ∷ w word.Colon ∷
    w word.OpenRound ∷ w word.CloseRound ∷ w word.DoubleArrow ∷ w (word.Basic basic.Nat) ∷ n 4 ∷ w word.OpenRound ∷
    w word.CloseRound ∷ w word.DoubleEqual ∷ w word.Return ∷ n 2 ∷ w word.Semicolon ∷ w word.Sync ∷ w word.Per ∷ n 4 ∷
    w (word.Operator sign.Implies) ∷ w (word.Counter counter.Finishes) ∷ w word.OpenRound ∷ n 3 ∷ w word.CloseRound ∷
    w (word.Operator sign.Equal) ∷ num 4 ∷ w word.Semicolon ∷ w word.End ∷ n 1 ∷ w word.Class ∷ n 5 ∷ w word.Instance ∷
    w word.Variables ∷ n 6 ∷ w word.Colon ∷ n 1 ∷ w word.Semicolon ∷ w word.Operations ∷ w word.Public ∷ n 5 ∷ w word.Colon ∷
    n 1 ∷ w word.DoubleArrow ∷ n 5 ∷ n 5 ∷ w word.OpenRound ∷ n 7 ∷ w word.CloseRound ∷ w word.DoubleEqual ∷ w word.OpenRound ∷
    n 6 ∷ w word.Becomes ∷ n 7 ∷ w word.Semicolon ∷ w word.Return ∷ w word.SelfWord ∷ w word.CloseRound ∷ w word.Semicolon ∷
    w word.Thread ∷ w word.For ∷ n 8 ∷ w (word.Operator sign.Equal) ∷ num 1 ∷ w word.To ∷ num 2 ∷ w word.Do ∷ n 6 ∷ w word.Dot ∷
    n 3 ∷ w word.OpenRound ∷ w word.CloseRound ∷ w word.End ∷ n 5 ∷ w word.Class ∷ n 9 ∷ w word.Operations ∷ w word.Public ∷
    w word.Static ∷ n 10 ∷ w word.Colon ∷ w word.OpenRound ∷ w word.CloseRound ∷ w word.DoubleArrow ∷ w (word.Basic basic.Nat) ∷
    n 10 ∷ w word.OpenRound ∷ w word.CloseRound ∷ w word.DoubleEqual ∷ w word.OpenRound ∷ w word.Dcl ∷ n 6 ∷ w word.Colon ∷ n 1 ∷
    w word.Becomes ∷ w word.New ∷ n 1 ∷ w word.OpenRound ∷ w word.CloseRound ∷ w word.Semicolon ∷ w word.Start ∷
    w word.OpenRound ∷ w word.New ∷ n 5 ∷ w word.OpenRound ∷ n 6 ∷ w word.CloseRound ∷ w word.CloseRound ∷ w word.Semicolon ∷
    w word.Start ∷ w word.OpenRound ∷ w word.New ∷ n 5 ∷ w word.OpenRound ∷ n 6 ∷ w word.CloseRound ∷ w word.CloseRound ∷
    w word.Semicolon ∷ w word.Return ∷ n 6 ∷ w word.Dot ∷ n 4 ∷ w word.OpenRound ∷ w word.CloseRound ∷ w word.CloseRound ∷
    w word.Semicolon ∷ w word.End ∷ n 9 ∷ []

abbrev pub endless_call : List Shown
endless_call =
    w word.Class ∷ n 1 ∷ w word.Operations ∷ w word.Public ∷ n 2 ∷ w word.Colon ∷ w word.OpenRound ∷ w word.CloseRound ∷
    w word.DoubleArrow ∷ w word.OpenRound ∷ w word.CloseRound ∷ n 2 ∷ w word.OpenRound ∷ w word.CloseRound ∷ w word.DoubleEqual ∷
    n 2 ∷ w word.OpenRound ∷ w word.CloseRound ∷ w word.Semicolon ∷ w word.Sync ∷ w word.Mutex ∷ w word.OpenRound ∷ w word.All ∷
    w word.CloseRound ∷ w word.Semicolon ∷ w word.End ∷ n 1 ∷ []

abbrev pub gate : List Shown
gate =
    w word.Class ∷ n 1 ∷ w word.Operations ∷ w word.Public ∷ n 2 ∷ w word.Colon ∷ w word.OpenRound ∷ w word.CloseRound ∷
    w word.DoubleArrow ∷ w word.OpenRound ∷ w word.CloseRound ∷ n 2 ∷ w word.OpenRound ∷ w word.CloseRound ∷ w word.DoubleEqual ∷
    n 3 ∷ w word.Backquote ∷ n 4 ∷ w word.OpenRound ∷ characters (codes "in") ∷ w word.CloseRound ∷ w word.Semicolon ∷
    w word.Sync ∷ w word.Per ∷ n 2 ∷ w (word.Operator sign.Implies) ∷ w (word.Counter counter.Waiting) ∷ w word.OpenRound ∷ n 2 ∷
    w word.CloseRound ∷ w (word.Operator sign.GreaterEqual) ∷ num 2 ∷ w word.Semicolon ∷ w word.End ∷ n 1 ∷ w word.Class ∷ n 5 ∷
    w word.Instance ∷ w word.Variables ∷ n 6 ∷ w word.Colon ∷ n 1 ∷ w word.Semicolon ∷ w word.Operations ∷ w word.Public ∷ n 5 ∷
    w word.Colon ∷ n 1 ∷ w word.DoubleArrow ∷ n 5 ∷ n 5 ∷ w word.OpenRound ∷ n 7 ∷ w word.CloseRound ∷ w word.DoubleEqual ∷
    w word.OpenRound ∷ n 6 ∷ w word.Becomes ∷ n 7 ∷ w word.Semicolon ∷ w word.Return ∷ w word.SelfWord ∷ w word.CloseRound ∷
    w word.Semicolon ∷ w word.Thread ∷ n 6 ∷ w word.Dot ∷ n 2 ∷ w word.OpenRound ∷ w word.CloseRound ∷ w word.End ∷ n 5 ∷
    w word.Class ∷ n 8 ∷ w word.Operations ∷ w word.Public ∷ w word.Static ∷ n 9 ∷ w word.Colon ∷ w word.OpenRound ∷
    w word.CloseRound ∷ w word.DoubleArrow ∷ w word.OpenRound ∷ w word.CloseRound ∷ n 9 ∷ w word.OpenRound ∷ w word.CloseRound ∷
    w word.DoubleEqual ∷ w word.OpenRound ∷ w word.Dcl ∷ n 6 ∷ w word.Colon ∷ n 1 ∷ w word.Becomes ∷ w word.New ∷ n 1 ∷
    w word.OpenRound ∷ w word.CloseRound ∷ w word.Semicolon ∷ w word.Start ∷ w word.OpenRound ∷ w word.New ∷ n 5 ∷
    w word.OpenRound ∷ n 6 ∷ w word.CloseRound ∷ w word.CloseRound ∷ w word.Semicolon ∷ n 6 ∷ w word.Dot ∷ n 2 ∷
    w word.OpenRound ∷ w word.CloseRound ∷ w word.CloseRound ∷ w word.Semicolon ∷ w word.End ∷ n 8 ∷ []

abbrev pub faulty_guard : List Shown
faulty_guard =
    w word.Class ∷ n 1 ∷ w word.Operations ∷ w word.Public ∷ n 2 ∷ w word.Colon ∷ w word.OpenRound ∷ w word.CloseRound ∷
    w word.DoubleArrow ∷ w word.OpenRound ∷ w word.CloseRound ∷ n 2 ∷ w word.OpenRound ∷ w word.CloseRound ∷ w word.DoubleEqual ∷
    w word.Skip ∷ w word.Semicolon ∷ w word.Sync ∷ w word.Per ∷ n 2 ∷ w (word.Operator sign.Implies) ∷
    w (word.Operator sign.Head) ∷ w word.OpenSquare ∷ w word.CloseSquare ∷ w (word.Operator sign.Equal) ∷ num 1 ∷
    w word.Semicolon ∷ w word.End ∷ n 1 ∷ []

abbrev pub threads : List Shown
threads =
    w word.Class ∷ n 1 ∷ w word.Thread ∷ w word.Skip ∷ w word.End ∷ n 1 ∷ w word.Class ∷ n 2 ∷ w word.End ∷ n 2 ∷ w word.Class ∷
    n 3 ∷ w word.Operations ∷ w word.Public ∷ w word.Static ∷ n 4 ∷ w word.Colon ∷ w word.OpenRound ∷ w word.CloseRound ∷
    w word.DoubleArrow ∷ w word.OpenRound ∷ w word.CloseRound ∷ n 4 ∷ w word.OpenRound ∷ w word.CloseRound ∷ w word.DoubleEqual ∷
    w word.OpenRound ∷ w word.Dcl ∷ n 5 ∷ w word.Colon ∷ n 1 ∷ w word.Becomes ∷ w word.New ∷ n 1 ∷ w word.OpenRound ∷
    w word.CloseRound ∷ w word.Semicolon ∷ w word.Start ∷ w word.OpenRound ∷ n 5 ∷ w word.CloseRound ∷ w word.Semicolon ∷
    w word.Start ∷ w word.OpenRound ∷ n 5 ∷ w word.CloseRound ∷ w word.CloseRound ∷ w word.Semicolon ∷ w word.Public ∷
    w word.Static ∷ n 6 ∷ w word.Colon ∷ w word.OpenRound ∷ w word.CloseRound ∷ w word.DoubleArrow ∷ w word.OpenRound ∷
    w word.CloseRound ∷ n 6 ∷ w word.OpenRound ∷ w word.CloseRound ∷ w word.DoubleEqual ∷ w word.Start ∷ w word.OpenRound ∷
    w word.New ∷ n 2 ∷ w word.OpenRound ∷ w word.CloseRound ∷ w word.CloseRound ∷ w word.Semicolon ∷ w word.End ∷ n 3 ∷ []

abbrev pub pair : List Shown
pair =
    w word.Class ∷ n 1 ∷ w word.Instance ∷ w word.Variables ∷ n 2 ∷ w word.Colon ∷ w (word.Basic basic.Int) ∷ w word.Becomes ∷
    num 1 ∷ w word.Semicolon ∷ n 3 ∷ w word.Colon ∷ w (word.Basic basic.Int) ∷ w word.Becomes ∷ num 2 ∷ w word.Semicolon ∷
    w word.Inv ∷ n 2 ∷ w (word.Operator sign.Less) ∷ n 3 ∷ w word.Semicolon ∷ w word.Operations ∷ w word.Public ∷ n 4 ∷
    w word.Colon ∷ w word.OpenRound ∷ w word.CloseRound ∷ w word.DoubleArrow ∷ w (word.Basic basic.Int) ∷ n 4 ∷
    w word.OpenRound ∷ w word.CloseRound ∷ w word.DoubleEqual ∷ w word.OpenRound ∷ n 2 ∷ w word.Becomes ∷ num 3 ∷
    w word.Semicolon ∷ n 3 ∷ w word.Becomes ∷ num 4 ∷ w word.Semicolon ∷ w word.Return ∷ n 2 ∷ w word.CloseRound ∷
    w word.Semicolon ∷ w word.Public ∷ n 5 ∷ w word.Colon ∷ w word.OpenRound ∷ w word.CloseRound ∷ w word.DoubleArrow ∷
    w (word.Basic basic.Int) ∷ n 5 ∷ w word.OpenRound ∷ w word.CloseRound ∷ w word.DoubleEqual ∷ w word.OpenRound ∷
    w word.Atomic ∷ w word.OpenRound ∷ n 2 ∷ w word.Becomes ∷ num 3 ∷ w word.Semicolon ∷ n 3 ∷ w word.Becomes ∷ num 4 ∷
    w word.CloseRound ∷ w word.Semicolon ∷ w word.Return ∷ n 2 ∷ w word.CloseRound ∷ w word.Semicolon ∷ w word.End ∷ n 1 ∷ []

abbrev pub handlers : List Shown
handlers =
    w word.Class ∷ n 1 ∷ w word.Operations ∷ w word.Public ∷ n 2 ∷ w word.Colon ∷ w word.OpenRound ∷ w word.CloseRound ∷
    w word.DoubleArrow ∷ w (word.Basic basic.Nat) ∷ n 2 ∷ w word.OpenRound ∷ w word.CloseRound ∷ w word.DoubleEqual ∷
    w word.Trap ∷ quoted 3 ∷ w word.With ∷ w word.Return ∷ num 1 ∷ w word.In ∷ w word.Exit ∷ quoted 3 ∷ w word.Semicolon ∷
    w word.Public ∷ n 4 ∷ w word.Colon ∷ w word.OpenRound ∷ w word.CloseRound ∷ w word.DoubleArrow ∷ w (word.Basic basic.Nat) ∷
    n 4 ∷ w word.OpenRound ∷ w word.CloseRound ∷ w word.DoubleEqual ∷ w word.Trap ∷ quoted 3 ∷ w word.With ∷ w word.Return ∷
    num 1 ∷ w word.In ∷ w word.Exit ∷ quoted 5 ∷ w word.Semicolon ∷ w word.Public ∷ n 6 ∷ w word.Colon ∷ w word.OpenRound ∷
    w word.CloseRound ∷ w word.DoubleArrow ∷ w (word.Basic basic.Nat) ∷ n 6 ∷ w word.OpenRound ∷ w word.CloseRound ∷
    w word.DoubleEqual ∷ w word.Tixe ∷ w word.OpenCurly ∷ quoted 3 ∷ w word.MapsTo ∷ w word.Exit ∷ quoted 5 ∷ w word.Comma ∷
    quoted 5 ∷ w word.MapsTo ∷ w word.Return ∷ num 2 ∷ w word.CloseCurly ∷ w word.In ∷ w word.Exit ∷ quoted 3 ∷
    w word.Semicolon ∷ w word.Public ∷ n 7 ∷ w word.Colon ∷ w word.OpenRound ∷ w word.CloseRound ∷ w word.DoubleArrow ∷
    w (word.Basic basic.Nat) ∷ n 7 ∷ w word.OpenRound ∷ w word.CloseRound ∷ w word.DoubleEqual ∷ w word.OpenRound ∷ w word.Dcl ∷
    n 8 ∷ w word.Colon ∷ w (word.Basic basic.Nat) ∷ w word.Becomes ∷ num 0 ∷ w word.Semicolon ∷ w word.Always ∷ n 8 ∷
    w word.Becomes ∷ num 5 ∷ w word.In ∷ w word.OpenRound ∷ n 8 ∷ w word.Becomes ∷ num 1 ∷ w word.Semicolon ∷ w word.Skip ∷
    w word.CloseRound ∷ w word.Semicolon ∷ w word.Return ∷ n 8 ∷ w word.CloseRound ∷ w word.Semicolon ∷ w word.Public ∷ n 9 ∷
    w word.Colon ∷ w word.OpenRound ∷ w word.CloseRound ∷ w word.DoubleArrow ∷ w word.OpenRound ∷ w word.CloseRound ∷ n 9 ∷
    w word.OpenRound ∷ w word.CloseRound ∷ w word.DoubleEqual ∷ w word.Always ∷ w word.Exit ∷ quoted 10 ∷ w word.In ∷
    w word.Exit ∷ quoted 5 ∷ w word.Semicolon ∷ w word.End ∷ n 1 ∷ []

abbrev pub clock : List Shown
clock =
    w word.Class ∷ n 1 ∷ w word.Operations ∷ n 2 ∷ w word.Colon ∷ w word.OpenRound ∷ w word.CloseRound ∷ w word.DoubleArrow ∷
    w word.OpenRound ∷ w word.CloseRound ∷ n 2 ∷ w word.OpenRound ∷ w word.CloseRound ∷ w word.DoubleEqual ∷ n 3 ∷
    w word.Backquote ∷ n 4 ∷ w word.OpenRound ∷ w word.Time ∷ w word.CloseRound ∷ w word.Semicolon ∷ w word.Public ∷ n 5 ∷
    w word.Colon ∷ w word.OpenRound ∷ w word.CloseRound ∷ w word.DoubleArrow ∷ w word.OpenRound ∷ w word.CloseRound ∷ n 5 ∷
    w word.OpenRound ∷ w word.CloseRound ∷ w word.DoubleEqual ∷ w word.Skip ∷ w word.Semicolon ∷ w word.Thread ∷
    w word.Periodic ∷ w word.OpenRound ∷ num 10 ∷ w word.CloseRound ∷ w word.OpenRound ∷ n 2 ∷ w word.CloseRound ∷ w word.Sync ∷
    w word.Per ∷ n 5 ∷ w (word.Operator sign.Implies) ∷ w word.False ∷ w word.Semicolon ∷ w word.End ∷ n 1 ∷ w word.Class ∷ n 6 ∷
    w word.Operations ∷ w word.Public ∷ w word.Static ∷ n 7 ∷ w word.Colon ∷ w word.OpenRound ∷ w word.CloseRound ∷
    w word.DoubleArrow ∷ w word.OpenRound ∷ w word.CloseRound ∷ n 7 ∷ w word.OpenRound ∷ w word.CloseRound ∷ w word.DoubleEqual ∷
    w word.OpenRound ∷ w word.Dcl ∷ n 8 ∷ w word.Colon ∷ n 1 ∷ w word.Becomes ∷ w word.New ∷ n 1 ∷ w word.OpenRound ∷
    w word.CloseRound ∷ w word.Semicolon ∷ w word.Start ∷ w word.OpenRound ∷ n 8 ∷ w word.CloseRound ∷ w word.Semicolon ∷ n 8 ∷
    w word.Dot ∷ n 5 ∷ w word.OpenRound ∷ w word.CloseRound ∷ w word.CloseRound ∷ w word.Semicolon ∷ w word.End ∷ n 6 ∷ []

abbrev pub diamond : List Shown
diamond =
    w word.Class ∷ n 1 ∷ w word.Operations ∷ w word.Public ∷ n 2 ∷ w word.Colon ∷ w word.OpenRound ∷ w word.CloseRound ∷
    w word.DoubleArrow ∷ w (word.Basic basic.Nat) ∷ n 2 ∷ w word.OpenRound ∷ w word.CloseRound ∷ w word.DoubleEqual ∷
    w word.Return ∷ num 1 ∷ w word.Semicolon ∷ w word.End ∷ n 1 ∷ w word.Class ∷ n 3 ∷ w word.Is ∷ w word.Subclass ∷ w word.Of ∷
    n 1 ∷ w word.Operations ∷ w word.Public ∷ n 2 ∷ w word.Colon ∷ w word.OpenRound ∷ w word.CloseRound ∷ w word.DoubleArrow ∷
    w (word.Basic basic.Nat) ∷ n 2 ∷ w word.OpenRound ∷ w word.CloseRound ∷ w word.DoubleEqual ∷ w word.Return ∷ num 2 ∷
    w word.Semicolon ∷ w word.End ∷ n 3 ∷ w word.Class ∷ n 4 ∷ w word.Is ∷ w word.Subclass ∷ w word.Of ∷ n 1 ∷
    w word.Operations ∷ w word.Public ∷ n 2 ∷ w word.Colon ∷ w word.OpenRound ∷ w word.CloseRound ∷ w word.DoubleArrow ∷
    w (word.Basic basic.Nat) ∷ n 2 ∷ w word.OpenRound ∷ w word.CloseRound ∷ w word.DoubleEqual ∷ w word.Return ∷ num 3 ∷
    w word.Semicolon ∷ w word.End ∷ n 4 ∷ w word.Class ∷ n 5 ∷ w word.Is ∷ w word.Subclass ∷ w word.Of ∷ n 3 ∷ w word.Comma ∷
    n 4 ∷ w word.Operations ∷ w word.Public ∷ n 6 ∷ w word.Colon ∷ w word.OpenRound ∷ w word.CloseRound ∷ w word.DoubleArrow ∷
    w (word.Basic basic.Nat) ∷ n 6 ∷ w word.OpenRound ∷ w word.CloseRound ∷ w word.DoubleEqual ∷ w word.Return ∷ n 2 ∷
    w word.OpenRound ∷ w word.CloseRound ∷ w word.Semicolon ∷ w word.End ∷ n 5 ∷ []

abbrev pub library : List Shown
library =
    w word.Class ∷ n 1 ∷ w word.Types ∷ w word.Public ∷ n 2 ∷ w word.DoubleColon ∷ n 3 ∷ w word.Colon ∷ w word.Seq ∷ w word.Of ∷
    w (word.Basic basic.Char) ∷ n 4 ∷ w word.Colon ∷ w (word.Basic basic.Nat) ∷ w word.Inv ∷ n 5 ∷ w word.DoubleEqual ∷ n 5 ∷
    w word.Dot ∷ n 3 ∷ w (word.Operator sign.NotEqual) ∷ w word.OpenSquare ∷ w word.CloseSquare ∷ w word.Semicolon ∷
    w word.Public ∷ n 6 ∷ w (word.Operator sign.Equal) ∷ w word.Map ∷ w (word.Basic basic.Nat) ∷ w word.To ∷ n 2 ∷
    w word.Semicolon ∷ w word.Instance ∷ w word.Variables ∷ w word.Protected ∷ n 7 ∷ w word.Colon ∷ n 6 ∷ w word.Becomes ∷
    w word.OpenCurly ∷ w word.MapsTo ∷ w word.CloseCurly ∷ w word.Semicolon ∷ w word.Inv ∷ w (word.Operator sign.Card) ∷
    w (word.Operator sign.Domain) ∷ n 7 ∷ w (word.Operator sign.LessEqual) ∷ num 100 ∷ w word.Semicolon ∷ w word.Operations ∷
    w word.Public ∷ n 8 ∷ w word.Colon ∷ w (word.Basic basic.Nat) ∷ w (word.Operator sign.Times) ∷ n 2 ∷ w word.DoubleArrow ∷
    w word.OpenRound ∷ w word.CloseRound ∷ n 8 ∷ w word.OpenRound ∷ n 9 ∷ w word.Comma ∷ n 5 ∷ w word.CloseRound ∷
    w word.DoubleEqual ∷ n 7 ∷ w word.Becomes ∷ n 7 ∷ w (word.Operator sign.MapUnion) ∷ w word.OpenCurly ∷ n 9 ∷ w word.MapsTo ∷
    n 5 ∷ w word.CloseCurly ∷ w word.Pre ∷ n 9 ∷ w (word.Operator sign.NotInSet) ∷ w (word.Operator sign.Domain) ∷ n 7 ∷
    w word.Post ∷ w (word.Operator sign.Card) ∷ w (word.Operator sign.Domain) ∷ n 7 ∷ w (word.Operator sign.Equal) ∷
    w (word.Operator sign.Card) ∷ w (word.Operator sign.Domain) ∷ n 7 ∷ w word.Tilde ∷ w (word.Operator sign.Plus) ∷ num 1 ∷
    w word.Semicolon ∷ w word.Public ∷ n 10 ∷ w word.Colon ∷ w word.OpenRound ∷ w word.CloseRound ∷ w word.DoubleArrow ∷
    w (word.Basic basic.Nat) ∷ n 10 ∷ w word.OpenRound ∷ w word.CloseRound ∷ w word.DoubleEqual ∷ w word.Return ∷ n 11 ∷
    w word.OpenRound ∷ w word.OpenSquare ∷ n 7 ∷ w word.OpenRound ∷ n 12 ∷ w word.CloseRound ∷ w word.Dot ∷ n 4 ∷ w word.Bar ∷
    n 12 ∷ w (word.Operator sign.InSet) ∷ w (word.Operator sign.Domain) ∷ n 7 ∷ w word.CloseSquare ∷ w word.CloseRound ∷
    w word.Semicolon ∷ w word.Functions ∷ w word.Public ∷ n 11 ∷ w word.Colon ∷ w word.Seq ∷ w word.Of ∷
    w (word.Basic basic.Nat) ∷ w word.Arrow ∷ w (word.Basic basic.Nat) ∷ n 11 ∷ w word.OpenRound ∷ n 13 ∷ w word.CloseRound ∷
    w word.DoubleEqual ∷ w word.If ∷ n 13 ∷ w (word.Operator sign.Equal) ∷ w word.OpenSquare ∷ w word.CloseSquare ∷ w word.Then ∷
    num 0 ∷ w word.Else ∷ w (word.Operator sign.Head) ∷ n 13 ∷ w (word.Operator sign.Plus) ∷ n 11 ∷ w word.OpenRound ∷
    w (word.Operator sign.Tail) ∷ n 13 ∷ w word.CloseRound ∷ w word.Measure ∷ w (word.Operator sign.Length) ∷ n 13 ∷
    w word.Semicolon ∷ w word.Sync ∷ w word.Mutex ∷ w word.OpenRound ∷ n 8 ∷ w word.CloseRound ∷ w word.Semicolon ∷ w word.Per ∷
    n 10 ∷ w (word.Operator sign.Implies) ∷ w (word.Counter counter.Active) ∷ w word.OpenRound ∷ n 8 ∷ w word.CloseRound ∷
    w (word.Operator sign.Equal) ∷ num 0 ∷ w word.Semicolon ∷ w word.Per ∷ n 8 ∷ w (word.Operator sign.Implies) ∷
    w (word.Counter counter.Active) ∷ w word.OpenRound ∷ n 10 ∷ w word.CloseRound ∷ w (word.Operator sign.Equal) ∷ num 0 ∷
    w word.Semicolon ∷ w word.End ∷ n 1 ∷ w word.Class ∷ n 14 ∷ w word.Is ∷ w word.Subclass ∷ w word.Of ∷ n 1 ∷ w word.Instance ∷
    w word.Variables ∷ n 15 ∷ w word.Colon ∷ w word.Map ∷ w (word.Basic basic.Nat) ∷ w word.To ∷ w word.Set ∷ w word.Of ∷
    w (word.Basic basic.Nat) ∷ w word.Becomes ∷ w word.OpenCurly ∷ w word.MapsTo ∷ w word.CloseCurly ∷ w word.Semicolon ∷
    w word.Operations ∷ w word.Public ∷ n 16 ∷ w word.Colon ∷ w (word.Basic basic.Nat) ∷ w (word.Operator sign.Times) ∷
    w (word.Basic basic.Nat) ∷ w word.DoubleArrow ∷ w (word.Basic basic.Bool) ∷ n 16 ∷ w word.OpenRound ∷ n 9 ∷ w word.Comma ∷
    n 17 ∷ w word.CloseRound ∷ w word.DoubleEqual ∷ w word.Let ∷ n 18 ∷ w (word.Operator sign.Equal) ∷ n 19 ∷ w word.OpenRound ∷
    n 15 ∷ w word.Comma ∷ n 9 ∷ w word.CloseRound ∷ w word.In ∷ w word.If ∷ w (word.Operator sign.Card) ∷ n 18 ∷
    w (word.Operator sign.Less) ∷ n 7 ∷ w word.OpenRound ∷ n 9 ∷ w word.CloseRound ∷ w word.Dot ∷ n 4 ∷ w word.Then ∷
    w word.OpenRound ∷ n 15 ∷ w word.Becomes ∷ n 15 ∷ w (word.Operator sign.Override) ∷ w word.OpenCurly ∷ n 9 ∷ w word.MapsTo ∷
    n 18 ∷ w (word.Operator sign.Union) ∷ w word.OpenCurly ∷ n 17 ∷ w word.CloseCurly ∷ w word.CloseCurly ∷ w word.Semicolon ∷
    w word.Return ∷ w word.True ∷ w word.CloseRound ∷ w word.Else ∷ w word.Return ∷ w word.False ∷ w word.Pre ∷ n 9 ∷
    w (word.Operator sign.InSet) ∷ w (word.Operator sign.Domain) ∷ n 7 ∷ w word.Semicolon ∷ w word.Public ∷ n 20 ∷ w word.Colon ∷
    w word.OpenRound ∷ w word.CloseRound ∷ w word.DoubleArrow ∷ w (word.Basic basic.Nat) ∷ n 20 ∷ w word.OpenRound ∷
    w word.CloseRound ∷ w word.DoubleEqual ∷ w word.Return ∷ w (word.Operator sign.Card) ∷
    w (word.Operator sign.DistributedUnion) ∷ w word.OpenCurly ∷ w word.OpenCurly ∷ w word.MakeTuple ∷ w word.OpenRound ∷ n 12 ∷
    w word.Comma ∷ n 21 ∷ w word.CloseRound ∷ w word.Bar ∷ n 21 ∷ w (word.Operator sign.InSet) ∷ n 15 ∷ w word.OpenRound ∷ n 12 ∷
    w word.CloseRound ∷ w word.CloseCurly ∷ w word.Bar ∷ n 12 ∷ w (word.Operator sign.InSet) ∷ w (word.Operator sign.Domain) ∷
    n 15 ∷ w word.CloseCurly ∷ w word.Semicolon ∷ w word.Functions ∷ n 19 ∷ w word.Colon ∷ w word.OpenRound ∷ w word.Map ∷
    w (word.Basic basic.Nat) ∷ w word.To ∷ w word.Set ∷ w word.Of ∷ w (word.Basic basic.Nat) ∷ w word.CloseRound ∷
    w (word.Operator sign.Times) ∷ w (word.Basic basic.Nat) ∷ w word.Arrow ∷ w word.Set ∷ w word.Of ∷ w (word.Basic basic.Nat) ∷
    n 19 ∷ w word.OpenRound ∷ n 22 ∷ w word.Comma ∷ n 12 ∷ w word.CloseRound ∷ w word.DoubleEqual ∷ w word.If ∷ n 12 ∷
    w (word.Operator sign.InSet) ∷ w (word.Operator sign.Domain) ∷ n 22 ∷ w word.Then ∷ n 22 ∷ w word.OpenRound ∷ n 12 ∷
    w word.CloseRound ∷ w word.Else ∷ w word.OpenCurly ∷ w word.CloseCurly ∷ w word.Semicolon ∷ w word.Sync ∷ w word.Mutex ∷
    w word.OpenRound ∷ n 16 ∷ w word.CloseRound ∷ w word.Semicolon ∷ w word.Per ∷ n 20 ∷ w (word.Operator sign.Implies) ∷
    w (word.Counter counter.Finishes) ∷ w word.OpenRound ∷ n 16 ∷ w word.CloseRound ∷ w (word.Operator sign.Equal) ∷ num 6 ∷
    w (word.Operator sign.And) ∷ w (word.Counter counter.Active) ∷ w word.OpenRound ∷ n 16 ∷ w word.CloseRound ∷
    w (word.Operator sign.Equal) ∷ num 0 ∷ w word.Semicolon ∷ w word.End ∷ n 14 ∷ w word.Class ∷ n 23 ∷ w word.Instance ∷
    w word.Variables ∷ n 24 ∷ w word.Colon ∷ n 14 ∷ w word.Semicolon ∷ n 9 ∷ w word.Colon ∷ w (word.Basic basic.Nat1) ∷
    w word.Semicolon ∷ w word.Operations ∷ w word.Public ∷ n 23 ∷ w word.Colon ∷ n 14 ∷ w (word.Operator sign.Times) ∷
    w (word.Basic basic.Nat1) ∷ w word.DoubleArrow ∷ n 23 ∷ n 23 ∷ w word.OpenRound ∷ n 25 ∷ w word.Comma ∷ n 26 ∷
    w word.CloseRound ∷ w word.DoubleEqual ∷ w word.OpenRound ∷ w word.Atomic ∷ w word.OpenRound ∷ n 24 ∷ w word.Becomes ∷ n 25 ∷
    w word.Semicolon ∷ n 9 ∷ w word.Becomes ∷ n 26 ∷ w word.CloseRound ∷ w word.Semicolon ∷ w word.Return ∷ w word.SelfWord ∷
    w word.CloseRound ∷ w word.Semicolon ∷ w word.Thread ∷ w word.For ∷ n 5 ∷ w word.In ∷ w word.OpenSquare ∷ num 1 ∷
    w word.Comma ∷ num 2 ∷ w word.CloseSquare ∷ w word.Do ∷ w word.If ∷ n 24 ∷ w word.Dot ∷ n 16 ∷ w word.OpenRound ∷ n 5 ∷
    w word.Comma ∷ n 9 ∷ w word.CloseRound ∷ w word.Then ∷ n 27 ∷ w word.Backquote ∷ n 28 ∷ w word.OpenRound ∷ w word.MakeTuple ∷
    w word.OpenRound ∷ n 9 ∷ w word.Comma ∷ n 5 ∷ w word.CloseRound ∷ w word.CloseRound ∷ w word.Else ∷ w word.Skip ∷
    w word.End ∷ n 23 ∷ w word.Class ∷ n 29 ∷ w word.Operations ∷ w word.Public ∷ w word.Static ∷ n 30 ∷ w word.Colon ∷
    w word.OpenRound ∷ w word.CloseRound ∷ w word.DoubleArrow ∷ w (word.Basic basic.Nat) ∷ w (word.Operator sign.Times) ∷
    w (word.Basic basic.Nat) ∷ n 30 ∷ w word.OpenRound ∷ w word.CloseRound ∷ w word.DoubleEqual ∷ w word.OpenRound ∷ w word.Dcl ∷
    n 24 ∷ w word.Colon ∷ n 14 ∷ w word.Becomes ∷ w word.New ∷ n 14 ∷ w word.OpenRound ∷ w word.CloseRound ∷ w word.Semicolon ∷
    n 24 ∷ w word.Dot ∷ n 8 ∷ w word.OpenRound ∷ num 1 ∷ w word.Comma ∷ made 1 ∷ w word.Backquote ∷ n 2 ∷ w word.OpenRound ∷
    characters (codes "VDM") ∷ w word.Comma ∷ num 2 ∷ w word.CloseRound ∷ w word.CloseRound ∷ w word.Semicolon ∷ n 24 ∷
    w word.Dot ∷ n 8 ∷ w word.OpenRound ∷ num 2 ∷ w word.Comma ∷ made 1 ∷ w word.Backquote ∷ n 2 ∷ w word.OpenRound ∷
    characters (codes "Sets") ∷ w word.Comma ∷ num 1 ∷ w word.CloseRound ∷ w word.CloseRound ∷ w word.Semicolon ∷ w word.For ∷
    w word.All ∷ n 26 ∷ w (word.Operator sign.InSet) ∷ w word.OpenCurly ∷ num 1 ∷ w word.Comma ∷ num 2 ∷ w word.Comma ∷ num 3 ∷
    w word.CloseCurly ∷ w word.Do ∷ w word.Start ∷ w word.OpenRound ∷ w word.New ∷ n 23 ∷ w word.OpenRound ∷ n 24 ∷
    w word.Comma ∷ n 26 ∷ w word.CloseRound ∷ w word.CloseRound ∷ w word.Semicolon ∷ w word.Return ∷ w word.MakeTuple ∷
    w word.OpenRound ∷ n 24 ∷ w word.Dot ∷ n 20 ∷ w word.OpenRound ∷ w word.CloseRound ∷ w word.Comma ∷ n 24 ∷ w word.Dot ∷
    n 10 ∷ w word.OpenRound ∷ w word.CloseRound ∷ w word.CloseRound ∷ w word.CloseRound ∷ w word.Semicolon ∷ w word.End ∷ n 29 ∷
    []

abbrev pub hosts : List Shown
hosts =
    w word.Class ∷ n 1 ∷ w word.Operations ∷ w word.Public ∷ w word.Static ∷ n 2 ∷ w word.Colon ∷ w (word.Basic basic.Char) ∷
    w word.DoubleArrow ∷ w (word.Basic basic.Nat) ∷ n 2 ∷ w word.OpenRound ∷ n 3 ∷ w word.CloseRound ∷ w word.DoubleEqual ∷
    w word.Is ∷ w (word.Operator sign.Not) ∷ w word.Yet ∷ w word.Specified ∷ w word.Semicolon ∷ w word.Public ∷ w word.Static ∷
    n 4 ∷ w word.Colon ∷ w (word.Basic basic.Nat) ∷ w word.DoubleArrow ∷ w (word.Basic basic.Char) ∷ n 4 ∷ w word.OpenRound ∷
    n 5 ∷ w word.CloseRound ∷ w word.DoubleEqual ∷ w word.Is ∷ w (word.Operator sign.Not) ∷ w word.Yet ∷ w word.Specified ∷
    w word.Semicolon ∷ w word.End ∷ n 1 ∷ []

abbrev pub contracts : List Shown
contracts =
    w word.Class ∷ n 1 ∷ w word.Types ∷ w word.Public ∷ n 2 ∷ w (word.Operator sign.Equal) ∷ w (word.Basic basic.Nat) ∷
    w word.Inv ∷ n 3 ∷ w word.DoubleEqual ∷ n 3 ∷ w (word.Operator sign.Mod) ∷ num 2 ∷ w (word.Operator sign.Equal) ∷ num 0 ∷
    w word.Semicolon ∷ w word.Functions ∷ w word.Public ∷ n 4 ∷ w word.Colon ∷ n 2 ∷ w word.Arrow ∷ w (word.Basic basic.Nat) ∷
    n 4 ∷ w word.OpenRound ∷ n 3 ∷ w word.CloseRound ∷ w word.DoubleEqual ∷ n 3 ∷ w (word.Operator sign.Div) ∷ num 2 ∷
    w word.Pre ∷ n 3 ∷ w (word.Operator sign.Greater) ∷ num 0 ∷ w word.Semicolon ∷ w word.Public ∷ n 5 ∷ w word.Colon ∷
    w (word.Basic basic.Nat) ∷ w word.Arrow ∷ w (word.Basic basic.Nat) ∷ n 5 ∷ w word.OpenRound ∷ n 3 ∷ w word.CloseRound ∷
    w word.DoubleEqual ∷ n 3 ∷ w (word.Operator sign.Plus) ∷ num 1 ∷ w word.Post ∷ w word.Result ∷ w (word.Operator sign.Equal) ∷
    n 3 ∷ w word.Semicolon ∷ w word.Operations ∷ w word.Public ∷ w word.Static ∷ n 6 ∷ w word.Colon ∷ w word.OpenRound ∷
    w word.CloseRound ∷ w word.DoubleArrow ∷ w (word.Basic basic.Nat) ∷ n 6 ∷ w word.OpenRound ∷ w word.CloseRound ∷
    w word.DoubleEqual ∷ w word.Skip ∷ w word.Semicolon ∷ w word.End ∷ n 1 ∷ []
