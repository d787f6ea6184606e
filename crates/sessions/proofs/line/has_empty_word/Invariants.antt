-- The loop of `has_empty_word`: the words that are left decide, and are fewer each time.
use Rattle.std.proofs.Common.{◌≡◌, length}
use Rattle.std.specs.List.{list_any}
use Rattle.sessions.specs.AccountsFile.{words, is_empty}
use Rattle.sessions.specs.Said.{words_behind}
use Rattle.sessions.proofs.line.has_empty_word.Given as goal

abbrev pub invariant-loop-rest : goal.invariant-loop-rest
invariant-loop-rest l = list_any is_empty (words l.line) ≡ list_any is_empty (words_behind l.rest)

abbrev pub decreases-loop-rest : goal.decreases-loop-rest
decreases-loop-rest l = length (words_behind l.rest)
