use Rattle.std.proofs.Common.{◌≡◌, ◌≤◌, ◌+◌, ◌++◌, drop, length}
use Rattle.grammar_tokens.specs.View.{token_views}
use Rattle.token_reader.specs.Read.{AreReadable, KeepsNames, tokens_from, names_behind}
use Rattle.token_reader.proofs.tokens.tokens_of.Given as goal

-- the tokens so far, before those of the rest, are those of all; and the names behind the rest are those behind all
abbrev pub invariant-loop-word : goal.invariant-loop-word
invariant-loop-word l = record {
  tokens : tokens_from l.fn.names l.text l.lexemes l.words ≡ token_views l.tokens.items ++ tokens_from l.names l.text l.rest (drop l.word-index l.words);
  names : names_behind l.fn.names l.text l.lexemes l.words ≡ names_behind l.names l.text l.rest (drop l.word-index l.words);
  kept : KeepsNames l.fn.names l.names;
  room : length l.names ≤ length l.fn.names + l.word-index;
  readable : AreReadable l.text l.rest;
}
