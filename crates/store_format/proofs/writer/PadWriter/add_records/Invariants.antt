-- The loop of `add_records`: the lines so far, and those of the records that are left behind them, are all.
use Rattle.std.proofs.Common.{◌≡◌, ◌++◌, drop, string_bytes}
use Rattle.store_format.specs.Laws.{last_sum}
use Rattle.store_format.specs.Lines.{bytes_of, lines_behind}
use Rattle.store_format.specs.Writing.{texts_of}
use Rattle.store_format.proofs.writer.PadWriter.add_records.Given as goal

-- the lines so far and those of the rest are all, and the sum is that of the last line so far
abbrev pub invariant-loop-kept : goal.invariant-loop-kept
invariant-loop-kept l =
    (string_bytes l.lines ++ bytes_of (lines_behind (string_bytes l.sum)
    (texts_of l.at l.follows (drop l.kept-index l.records)))
    ≡ bytes_of (lines_behind (string_bytes l.fn.self.sum) (texts_of l.at l.together l.records)))
    × (last_sum (string_bytes l.sum) (texts_of l.at l.follows (drop l.kept-index l.records))
    ≡ last_sum (string_bytes l.fn.self.sum) (texts_of l.at l.together l.records))
    × (l.self ≡ l.fn.self)
