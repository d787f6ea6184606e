use Rattle.std.proofs.Common.{◌≡◌, ap, ◌∙◌, ℕ, List, ◌++◌, arith}
use Rattle.wire_lines.proofs.Taken.{after_more, is_searched}
use Rattle.wire_lines.proofs.splitter.LineSplitter.receive.Goals as goal

pub invariant_of-self-2 : goal.invariant_of-self-2
invariant_of-self-2 c =
    let more = c.in_ok-self-inside.ensures in
    let is : c.append.new.held.waiting ≡ c.self.inside.bytes.waiting ++ c.args.bytes.now =
    ◌∙◌ {A = List ℕ} more.bytes (ap (λ l. l ++ c.args.bytes.now) c.reserve.ensures.waiting) in
    record {
      ends = after_more c.self.inside.bytes.waiting c.append.new.held.waiting c.args.bytes.now c.self.inside.end _ c.self.invariant.ends is more.end.0;
      end_in = more.end.1;
      line_in = omega arith;
    }

pub append-requires-clause-searched : goal.append-requires-clause-searched
append-requires-clause-searched c =
    rw c.reserve.ensures.waiting (is_searched c.self.inside.bytes.waiting c.self.inside.end c.self.invariant.ends
    c.self.invariant.end_in)
