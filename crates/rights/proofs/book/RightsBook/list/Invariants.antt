-- The loop of `list`: the rows so far and those of the grants that are left are all.
use Rattle.std.proofs.Common.{◌≡◌, ◌++◌, map}
use Rattle.rights.specs.Rights.{listed}
use Rattle.rights.specs.declared.book.Grant.{Grant}
use Rattle.rights.specs.declared.grantee.Grantee.TheVariants.{Author}
use Rattle.rights.proofs.book.RightsBook.list.Given as goal

-- the rows so far, and those of the grants that are left, are all
abbrev pub invariant-loop-name : goal.invariant-loop-name
invariant-loop-name l =
    l.rows ++ map (λ e. let it : Grant = record { grantee = Author e.0; right = e.1 } in it) l.name-iterator
    ≡ listed (record { owner = l.self.owner; everyone = l.self.everyone; grants = l.self.grants })
