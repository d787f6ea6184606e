-- The loop of `run`: the events so far were answered, and there is room for the other replies.
use Rattle.std.proofs.Common.{◌+◌, ◌≤◌, ◌-◌, take, length, vec_len, vec_capacity}
use Rattle.pad_core.specs.Ran.{Ran}
use Rattle.pad_core.proofs.pad.Pad.run.Given as goal

-- the events so far were answered, and there is room for the other replies
abbrev pub invariant-loop-event : goal.invariant-loop-event
invariant-loop-event g l = record {
  ran : Ran l.fn.self (take l.event-index l.events) l.replies.items l.self;
  room : vec_len l.replies + (length l.events - l.event-index) ≤ vec_capacity l.replies;
}
