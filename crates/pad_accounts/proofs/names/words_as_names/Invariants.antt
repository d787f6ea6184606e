-- The loop of `words_as_names`: a name for each word so far.
use Rattle.std.proofs.Common.{◌≡◌, map, take}
use Rattle.pad_accounts.specs.Names.{of_word, seen}
use Rattle.pad_accounts.proofs.names.words_as_names.Given as goal

abbrev pub invariant-loop-word : goal.invariant-loop-word
invariant-loop-word l = map seen l.names.items ≡ map of_word (take l.word-index l.words)
