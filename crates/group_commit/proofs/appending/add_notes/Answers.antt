-- The loop of `add_notes`: a note adds its lines behind those that were added.
use Rattle.std.proofs.Common.{◌++◌, List, subst, sym}
use Rattle.store_records.specs.declared.kept_record.Record.{Record}
use Rattle.store_format.specs.Writing.{Adds, texts_of}
use Rattle.store_format.proofs.Writings.{adds_go_on}
use Rattle.group_commit.proofs.Appends.{one_more}
use Rattle.group_commit.proofs.appending.add_notes.Goals as goal

pub loop-note-preserved : goal.loop-note-preserved
loop-note-preserved c =
    let i = c.loop-note.note-index in
    let note = c.note-item.result in
    let notes = c.args.notes.now in
    let was = c.loop-note.invariant in
    let more = texts_of note.at c.loop-note.follows note.records.items in (
      was.0 ++ more,
      adds_go_on was.0 more c.args.writer.now c.loop-note.writer c.note.new.self was.1
          (subst (λ (rs : List Record). Adds (texts_of note.at c.loop-note.follows rs) c.loop-note.writer c.note.new.self) c.as_slice.ensures.value c.in_ok-note.ensures.added),
      one_more notes note i c.loop-note.follows c.is_empty.result was.0 _ (search) (sym c.note-item.is) c.is_empty.ensures was.2,
    )
