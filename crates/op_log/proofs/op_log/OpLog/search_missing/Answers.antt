use Rattle.std.proofs.Common.{refl, sym, ap, ◌∙◌, List, map}
use Rattle.std.proofs.lemmas.List.{take_all}
use Rattle.op_log.specs.declared.track.Track.{Track}
use Rattle.op_log.specs.Index.{IsIndex, kept, first_place}
use Rattle.op_log.proofs.Kept.{track_rises}
use Rattle.op_log.proofs.Next.{is_next, next_none, next_all, next_step}
use Rattle.op_log.proofs.op_log.OpLog.search_missing.Goals as goal

pub loop-track-init : goal.loop-track-init
loop-track-init c = sym (next_none c.args.seen.now c.args.from c.args.self.now.operations)

pub next_above-place-requires : goal.next_above-place-requires
next_above-place-requires c =
    let ops = c.self.inside.operations.operations in
    let index : IsIndex (map kept c.deref-track-items.result.now) ops =
    rw c.deref-track-items.ensures.value c.self.invariant.index in
    track_rises c.deref-track-items.result.now c.loop-track.track-index c.track-item.result ops c.loop-track-test.true
    c.track-item.is index

pub loop-track-preserved : goal.loop-track-preserved
loop-track-preserved c =
    let ops = c.args.self.now.operations in
    let index : IsIndex (map kept c.deref-track-items.result.now) ops =
    rw (c.deref-track-items.ensures.value, ← c.self.view_is) c.self.invariant.index in
    c.earlier-next.ensures
    ∙ next_step c.args.seen.now c.args.from ops c.deref-track-items.result.now c.loop-track.track-index
    c.track-item.result c.track-item.result.marks.items c.count.result c.loop-track.next c.next_above-place.result
    c.loop-track-test.true c.track-item.is index refl c.count.ensures c.loop-track.invariant
    c.next_above-place.ensures

pub returns : goal.returns
returns c =
    let ops = c.args.self.now.operations in
    let index : IsIndex (map kept c.deref-track-items.result.now) ops =
    rw (c.deref-track-items.ensures.value, ← c.self.view_is) c.self.invariant.index in
    c.loop-track.invariant
    ∙ ap (λ (ts : List Track). first_place (is_next c.args.seen.now c.args.from (map kept ts)) 0 ops)
    (take_all c.loop-track.track-index c.deref-track-items.result.now c.loop-track-test.false)
    ∙ next_all c.args.seen.now c.args.from ops (map kept c.deref-track-items.result.now) index.known
