-- The loop of `with_tokens`: an author for each name so far.
use Rattle.std.proofs.Common.{◌≡◌, take}
use Rattle.pad_accounts.specs.Added.{names_of_new, names_to_add}
use Rattle.pad_accounts.proofs.add.with_tokens.Given as goal

abbrev pub invariant-loop-named : goal.invariant-loop-named
invariant-loop-named l = names_of_new l.new.items ≡ names_to_add (take l.named-index l.names)
