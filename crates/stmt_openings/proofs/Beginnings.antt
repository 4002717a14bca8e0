-- A word begins the statement of its kind.
use Rattle.std.proofs.Common.{◌≡◌, List, refl}
use Rattle.vdm_kinds.specs.declared.place.Place.{Place}
use Rattle.abstract_syntax.specs.Statements.{StmtTree}
use Rattle.grammar_words.specs.declared.word.Word.{Word}
use Rattle.grammar_words.specs.declared.word.Word.TheVariants as word_is
use Rattle.grammar_words.specs.Tokens.{Token, plain}
use Rattle.stmt_reading.specs.Leaves.{Read}
use Rattle.stmt_reading.specs.Statements.{stmt_begun}
use Rattle.stmt_openings.specs.Beginnings.{beginning_of, begun_as}

pub begun-as : (one : List Token → Read StmtTree) (word : Word) (place : Place) (tokens : List Token)
    → stmt_begun one (plain word place) tokens ≡ begun_as one (beginning_of word) word place tokens
begun-as one word_is.Identifier place tokens = refl
begun-as one word_is.Quote place tokens = refl
begun-as one word_is.Whole place tokens = refl
begun-as one word_is.Character place tokens = refl
begun-as one word_is.Text place tokens = refl
begun-as one word_is.MakeNamed place tokens = refl
begun-as one word_is.IsNamed place tokens = refl
begun-as one word_is.MakeTuple place tokens = refl
begun-as one word_is.MakeToken place tokens = refl
begun-as one word_is.IsType place tokens = refl
begun-as one (word_is.IsBasic x) place tokens = refl
begun-as one (word_is.Operator x) place tokens = refl
begun-as one word_is.OpenRound place tokens = refl
begun-as one word_is.CloseRound place tokens = refl
begun-as one word_is.OpenSquare place tokens = refl
begun-as one word_is.CloseSquare place tokens = refl
begun-as one word_is.OpenCurly place tokens = refl
begun-as one word_is.CloseCurly place tokens = refl
begun-as one word_is.Comma place tokens = refl
begun-as one word_is.Semicolon place tokens = refl
begun-as one word_is.Colon place tokens = refl
begun-as one word_is.DoubleColon place tokens = refl
begun-as one word_is.Becomes place tokens = refl
begun-as one word_is.DoubleEqual place tokens = refl
begun-as one word_is.DoubleArrow place tokens = refl
begun-as one word_is.Arrow place tokens = refl
begun-as one word_is.TotalArrow place tokens = refl
begun-as one word_is.Ampersand place tokens = refl
begun-as one word_is.Bar place tokens = refl
begun-as one word_is.DoubleBar place tokens = refl
begun-as one word_is.MapsTo place tokens = refl
begun-as one word_is.Dot place tokens = refl
begun-as one word_is.DotNumber place tokens = refl
begun-as one word_is.Dots place tokens = refl
begun-as one word_is.Tilde place tokens = refl
begun-as one word_is.Backquote place tokens = refl
begun-as one (word_is.Counter x) place tokens = refl
begun-as one word_is.True place tokens = refl
begun-as one word_is.False place tokens = refl
begun-as one word_is.Nil place tokens = refl
begun-as one word_is.SelfWord place tokens = refl
begun-as one word_is.Time place tokens = refl
begun-as one word_is.Undefined place tokens = refl
begun-as one word_is.Result place tokens = refl
begun-as one word_is.Let place tokens = refl
begun-as one word_is.Be place tokens = refl
begun-as one word_is.St place tokens = refl
begun-as one word_is.In place tokens = refl
begun-as one word_is.Def place tokens = refl
begun-as one word_is.If place tokens = refl
begun-as one word_is.Then place tokens = refl
begun-as one word_is.Elseif place tokens = refl
begun-as one word_is.Else place tokens = refl
begun-as one word_is.Cases place tokens = refl
begun-as one word_is.Others place tokens = refl
begun-as one word_is.End place tokens = refl
begun-as one word_is.Forall place tokens = refl
begun-as one word_is.Exists place tokens = refl
begun-as one word_is.ExistsOne place tokens = refl
begun-as one word_is.Iota place tokens = refl
begun-as one word_is.Modify place tokens = refl
begun-as one word_is.New place tokens = refl
begun-as one word_is.IsOfClass place tokens = refl
begun-as one word_is.IsOfBaseClass place tokens = refl
begun-as one word_is.SameClass place tokens = refl
begun-as one word_is.SameBaseClass place tokens = refl
begun-as one (word_is.Basic x) place tokens = refl
begun-as one word_is.Set place tokens = refl
begun-as one word_is.Of place tokens = refl
begun-as one word_is.Seq place tokens = refl
begun-as one word_is.Seq1 place tokens = refl
begun-as one word_is.Map place tokens = refl
begun-as one word_is.InMap place tokens = refl
begun-as one word_is.To place tokens = refl
begun-as one word_is.Dcl place tokens = refl
begun-as one word_is.Atomic place tokens = refl
begun-as one word_is.Return place tokens = refl
begun-as one word_is.Exit place tokens = refl
begun-as one word_is.While place tokens = refl
begun-as one word_is.Do place tokens = refl
begun-as one word_is.For place tokens = refl
begun-as one word_is.All place tokens = refl
begun-as one word_is.By place tokens = refl
begun-as one word_is.Trap place tokens = refl
begun-as one word_is.With place tokens = refl
begun-as one word_is.Tixe place tokens = refl
begun-as one word_is.Always place tokens = refl
begun-as one word_is.Skip place tokens = refl
begun-as one word_is.Error place tokens = refl
begun-as one word_is.Start place tokens = refl
begun-as one word_is.StartList place tokens = refl
begun-as one word_is.Class place tokens = refl
begun-as one word_is.Is place tokens = refl
begun-as one word_is.Subclass place tokens = refl
begun-as one word_is.Types place tokens = refl
begun-as one word_is.Values place tokens = refl
begun-as one word_is.Instance place tokens = refl
begun-as one word_is.Variables place tokens = refl
begun-as one word_is.Functions place tokens = refl
begun-as one word_is.Operations place tokens = refl
begun-as one word_is.Thread place tokens = refl
begun-as one word_is.Sync place tokens = refl
begun-as one word_is.Per place tokens = refl
begun-as one word_is.Mutex place tokens = refl
begun-as one word_is.Periodic place tokens = refl
begun-as one word_is.Inv place tokens = refl
begun-as one word_is.Pre place tokens = refl
begun-as one word_is.Post place tokens = refl
begun-as one word_is.Measure place tokens = refl
begun-as one word_is.Static place tokens = refl
begun-as one word_is.Private place tokens = refl
begun-as one word_is.Protected place tokens = refl
begun-as one word_is.Public place tokens = refl
begun-as one word_is.Yet place tokens = refl
begun-as one word_is.Specified place tokens = refl
begun-as one word_is.Responsibility place tokens = refl
begun-as one word_is.TextEnd place tokens = refl
