-- The loop of `with_authors`: the text so far, with those who are left.
use Rattle.std.proofs.Common.{◌≡◌, drop}
use Rattle.pad_accounts.specs.Lines.{with_authors, with_each}
use Rattle.pad_accounts.proofs.lines.with_authors.Given as goal

abbrev pub invariant-loop-author : goal.invariant-loop-author
invariant-loop-author l = with_each l.kind l.more.items (drop l.author-index l.new) ≡ with_authors l.kind l.text l.new
