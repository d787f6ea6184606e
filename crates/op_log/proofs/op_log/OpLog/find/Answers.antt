use Rattle.std.proofs.Common.{ap, ◌∙◌, sym, option_map, eqb, List}
use Rattle.std.specs.List.{find, position}
use Rattle.std.proofs.lemmas.List.Quantifiers.{position-Some}
use Rattle.op_log.specs.declared.track.Mark.{Mark}
use Rattle.op_log.specs.Index.{has_origin, kept}
use Rattle.op_log.specs.Log.{Log, has_name}
use Rattle.op_log.proofs.Kept.{marks_at, marks_nowhere, track_rises}
use Rattle.op_log.proofs.Places.{named_position}
use Rattle.op_log.proofs.op_log.OpLog.find.Goals as goal

pub place_of-requires : goal.place_of-requires
place_of-requires c rises =
    let tracks = c.self.inside.tracks.items in
    let track = c.index.result.now in
    let found = position-Some (λ t. has_origin c.args.name.origin (kept t)) tracks c.in-Some.at track
    (sym (rw c.deref.ensures.value at c.in-Some.ensures)) in
    track_rises tracks c.in-Some.at track c.self.inside.operations.operations found.0 c.index.ensures
    c.self.invariant.index rises

pub returns-in-Some : goal.returns-in-Some
returns-in-Some c =
    let ops = c.self.inside.operations.operations in
    c.place_of.ensures ∙ ap (λ (ms : List Mark). option_map (λ (m : Mark). m.place)
    (find (λ m. eqb m.number c.args.name.number) ms))
    (marks_at c.self.inside.tracks.items c.in-Some.at c.index.result.now c.args.name.origin ops c.index.ensures
    (sym (rw c.deref.ensures.value at c.in-Some.ensures)) c.self.invariant.index)
    ∙ named_position c.args.name ops ∙ ap (λ (l : Log). position (has_name c.args.name) l.operations) c.self.view_is

pub returns-in-None : goal.returns-in-None
returns-in-None c =
    let ops = c.self.inside.operations.operations in
    ap (λ (ms : List Mark). option_map (λ (m : Mark). m.place) (find (λ m. eqb m.number c.args.name.number) ms))
    (sym (marks_nowhere c.self.inside.tracks.items c.args.name.origin ops
    (sym (rw c.deref.ensures.value at c.in-None.ensures)) c.self.invariant.index))
    ∙ named_position c.args.name ops ∙ ap (λ (l : Log). position (has_name c.args.name) l.operations) c.self.view_is
