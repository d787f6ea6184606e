-- The loop of `shown_authors`: the authors listed so far and those of the cells that are left are all.
use Rattle.std.proofs.Common.{◌≡◌, ◌++◌, drop, map, filter}
use Rattle.block_seq.specs.Plain.{author_at, is_shown}
use Rattle.block_seq.proofs.readers.shown_authors.Given as goal

-- the authors so far, and those of the cells that are left, are all
abbrev pub invariant-loop-cell : goal.invariant-loop-cell
invariant-loop-cell l =
    map (λ author. author.now) l.shown.items ++ map (λ c. author_at l.authors c.author)
    (filter (is_shown l.rev) (drop l.cell-index l.cells))
    ≡ map (λ c. author_at l.authors c.author) (filter (is_shown l.rev) l.cells)
