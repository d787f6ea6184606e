use Rattle.std.proofs.Common.{sym, ap, ◌∙◌, ◌≡◌, ◌++◌, ◌∷◌, [], List}
use Rattle.op_log.specs.declared.track.Mark.{Mark}
use Rattle.op_log.specs.Track.{mark_of, rises_from}
use Rattle.op_log.proofs.Kept.{entered_track, entered_first}
use Rattle.op_log.proofs.index.enter.Goals as goal

pub returns-in-Some-clause-index : goal.returns-in-Some-clause-index
returns-in-Some-clause-index c ops op named long index =
    entered_track c.args.tracks.now.items c.in-Some.at c.index_mut.result.now _ ops op c.args.name c.args.place
    c.index_mut.ensures.value (sym (rw c.deref.ensures.value at c.in-Some.ensures)) c.add_mark.ensures.origin
    c.add_mark.ensures.marks c.add_mark.ensures.told named long index

pub returns-in-None-clause-index : goal.returns-in-None-clause-index
returns-in-None-clause-index c ops op named long index =
    let taken : c.replace.result.items ≡ [] = ap (λ v. v.items) c.replace.ensures.value ∙ c.requires.empty in
    rw c.push_reserved.ensures.items
    (entered_first c.args.tracks.now.items _ ops op c.args.name c.args.place
    (sym (rw c.deref.ensures.value at c.in-None.ensures)) c.add_mark-in-None.ensures.origin
    (c.add_mark-in-None.ensures.marks ∙ ap (λ (ms : List Mark). ms ++ mark_of c.args.place c.args.name.number
    ∷ []) taken) (c.add_mark-in-None.ensures.told (ap (rises_from 0) (sym taken))) named long index)
