-- What a word does where one word alone is wanted.
use Rattle.std.specs.Prelude.{[], Option, None}
use Rattle.vdm_kinds.specs.declared.sign.Sign.TheVariants.{Equal}
use Rattle.grammar_words.specs.declared.word.Word.{Word}
use Rattle.grammar_words.specs.declared.word.Word.TheVariants as word
use Rattle.grammar_fronts.specs.declared.wanted.Wanted.{Wanted}
use Rattle.grammar_fronts.specs.declared.wanted.Wanted.TheVariants.{
  Identifier,
  Whole,
  OpenRound,
  CloseRound,
  CloseSquare,
  CloseCurly,
  Comma,
  Colon,
  MapsTo,
  Arrow,
  Ampersand,
  Of,
  To,
  Then,
  In,
  St,
  End,
  Equals,
  InOfDef,
}
use Rattle.grammar_fronts.specs.Turns.{Turn, own}

abbrev pub alone : Wanted → Word → Option Turn
alone Identifier word.Identifier = own []
alone Whole word.Whole = own []
alone OpenRound word.OpenRound = own []
alone CloseRound word.CloseRound = own []
alone CloseSquare word.CloseSquare = own []
alone CloseCurly word.CloseCurly = own []
alone Comma word.Comma = own []
alone Colon word.Colon = own []
alone MapsTo word.MapsTo = own []
alone Arrow word.Arrow = own []
alone Ampersand word.Ampersand = own []
alone Of word.Of = own []
alone To word.To = own []
alone Then word.Then = own []
alone In word.In = own []
alone St word.St = own []
alone End word.End = own []
alone Equals (word.Operator Equal) = own []
alone InOfDef word.In = own []
alone _ _ = None
