use Rattle.std.proofs.Common.{arith}
use Rattle.shared_pads.proofs.Calls.{no_fewer, room_for_call, room_for_operations, here, called, counts, stays_kept}
use Rattle.shared_pads.proofs.locked_pad.LockedPad.visit.Goals as goal

pub overflow_sub-more : goal.overflow_sub-more
overflow_sub-more g c = no_fewer _ _ _ _ _ _ _ c.args.seat.now _ _ _ _ _ _ _ _
    (record { view = c.self.view_is; known = c.requires.known; kept = c.self.invariant; visited = c.request_at-answer.ensures.visited; was = c.revision-before.ensures.value; is = c.revision.ensures.value })

pub with_call-tally-requires-clause-calls : goal.with_call-tally-requires-clause-calls
with_call-tally-requires-clause-calls g c = room_for_call _ _ _ _ _ _ _ c.args.seat.now _ _ _ _ _ _ _ _
    (record { view = c.self.view_is; known = c.requires.known; kept = c.self.invariant; visited = c.request_at-answer.ensures.visited; was = c.revision-before.ensures.value; is = c.revision.ensures.value })

pub with_call-tally-requires-clause-operations : goal.with_call-tally-requires-clause-operations
with_call-tally-requires-clause-operations g c =
    let room = room_for_operations _ _ _ _ _ _ _ c.args.seat.now _ _ _ _ _ _ _ _
    (record { view = c.self.view_is; known = c.requires.known; kept = c.self.invariant; visited = c.request_at-answer.ensures.visited; was = c.revision-before.ensures.value; is = c.revision.ensures.value }) in
    let fits = c.revision.type_inv in
    omega arith

pub index_mut-requires : goal.index_mut-requires
index_mut-requires g c =
    let low = here _ _ c.self.inside.tallies.items _ _ _ _ c.args.seat.now _ _ _ _ _ _ _ _
    (record { view = c.self.view_is; known = c.requires.known; kept = c.self.invariant; visited = c.request_at-answer.ensures.visited; was = c.revision-before.ensures.value; is = c.revision.ensures.value }) in
    omega arith

pub invariant_of-self : goal.invariant_of-self
invariant_of-self g c = stays_kept _ _ _ _ _ _ _ c.args.seat.now _ _ _ _ _ _ _ _
    (record { view = c.self.view_is; known = c.requires.known; kept = c.self.invariant; visited = c.request_at-answer.ensures.visited; was = c.revision-before.ensures.value; is = c.revision.ensures.value })
    c.edit_of.result c.with_call-tally.result c.edit_of.ensures c.with_call-tally.ensures

pub returns-clause-counts : goal.returns-clause-counts
returns-clause-counts g c = counts _ _ _ _ _ _ _ c.args.seat.now _ _ _ _ _ _ _ _
    (record { view = c.self.view_is; known = c.requires.known; kept = c.self.invariant; visited = c.request_at-answer.ensures.visited; was = c.revision-before.ensures.value; is = c.revision.ensures.value })
    c.edit_of.result c.with_call-tally.result c.edit_of.ensures c.with_call-tally.ensures

pub returns-clause-called : goal.returns-clause-called
returns-clause-called g c = called _ _ _ _ _ _ _ c.args.seat.now _ _ _ _ _ _ _ _
    (record { view = c.self.view_is; known = c.requires.known; kept = c.self.invariant; visited = c.request_at-answer.ensures.visited; was = c.revision-before.ensures.value; is = c.revision.ensures.value })
    c.edit_of.result c.with_call-tally.result c.edit_of.ensures c.with_call-tally.ensures
    c.revision-before.ensures.delivered c.revision-before.ensures.kept c.revision.ensures.delivered
    c.revision.ensures.kept
