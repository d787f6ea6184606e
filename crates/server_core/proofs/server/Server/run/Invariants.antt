-- The loop of `run`: the server went through the events so far, and there is room for the other answers.
use Rattle.std.proofs.Common.{◌+◌, ◌≤◌, length, vec_len, vec_capacity}
use Rattle.server_core.proofs.Served.{RanSome}
use Rattle.server_core.proofs.server.Server.run.Given as goal

-- the server went through the events so far, and there is room for what is told of the others
abbrev pub invariant-loop-event : goal.invariant-loop-event
invariant-loop-event g l = record {
  ran : RanSome l.fn.self l.fn.events.items l.event-iterator.rest.items l.answers.items l.self;
  room : vec_len l.answers + length l.event-iterator.rest.items ≤ vec_capacity l.answers;
}
