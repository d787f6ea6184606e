-- The loop of `links_of`: the links so far, with those of the rest, who are left to log in.
use Rattle.std.proofs.Common.{◌≡◌, [], drop}
use Rattle.pad_accounts.specs.Added.{each_logs_in, with_links}
use Rattle.pad_accounts.proofs.add.links_of.Given as goal

abbrev pub invariant-loop-author : goal.invariant-loop-author
invariant-loop-author l = record {
  links : with_links l.links.items l.form (drop l.author-index l.new) ≡ with_links [] l.form l.new;
  log_in : each_logs_in l.accounts (drop l.author-index l.new) ≡ each_logs_in l.accounts l.new;
}
