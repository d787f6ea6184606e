use Rattle.std.proofs.Common.{◌<◌, ◌∙◌, sym, ap, ap₂, subst, length, map, flat_map}
use Rattle.std.specs.List.{AllByRecursion}
use Rattle.pad_model.specs.Cell.{cells_at}
use Rattle.pad_model.specs.Visible.{runs}
use Rattle.authorship.specs.StoredRuns.{author_in, IsOnce}
use Rattle.block_seq.specs.RowLists.{shown_by}
use Rattle.block_seq.proofs.RowAuthors.{authors_known, authors_now, once_of}
use Rattle.block_seq.proofs.RowLists.{authors-at}
use Rattle.block_seq.proofs.Views.{cells_seen}
use Rattle.block_seq.proofs.RowNow.{dated_blocks}
use Rattle.block_seq.proofs.RowSlides.{dated_later}
use Rattle.block_seq.proofs.rows.BlockSeqSequence.authors_at.Goals as goal

pub author_runs-requires-clause-known : goal.author_runs-requires-clause-known
author_runs-requires-clause-known c =
    subst (λ l. AllByRecursion (λ place. place < length l) c.self.inside.runs.places)
    (sym c.as_slice-authors.ensures.value)
    (subst (AllByRecursion (λ place. place < length c.self.inside.authors.items)) (sym c.self.invariant.runs)
    (authors_known (length c.self.inside.authors.items) (length c.self.inside.text.items) c.self.inside.tree.items
    c.self.invariant.row.within))

pub author_runs-requires-clause-once : goal.author_runs-requires-clause-once
author_runs-requires-clause-once c = subst IsOnce (sym c.as_slice-authors.ensures.value)
    (once_of c.self.inside.authors.items c.self.invariant.once)

pub returns-then-self-rev : goal.returns-then-self-rev
returns-then-self-rev c =
    let row = c.self.invariant.row in
    let authors = c.self.inside.authors.items in
    let text = c.self.inside.text.items in
    let bs = c.self.inside.tree.items in
    let dated = dated_later c.self.inside.latest c.args.rev bs c.if-self-rev.true
    (dated_blocks c.self.inside.latest authors text bs row.within row.kept.listed.sized row.dated) in
    c.from_vec.ensures ∙ c.in_ok-author_runs.ensures
    ∙ ap runs (ap₂ (λ l ps. map (author_in l) ps) c.as_slice-authors.ensures.value c.self.invariant.runs
    ∙ authors_now c.args.rev authors bs dated ∙ sym (authors-at c.args.rev authors text bs row.within)
    ∙ ap (λ l. map (λ x. x.author) (cells_at c.args.rev l)) (cells_seen c.self.view_is))

pub returns : goal.returns
returns c =
    c.from_vec-2.ensures ∙ c.in_ok-read_authors.ensures
    ∙ ap runs (ap (λ l. flat_map (shown_by c.args.rev l) c.self.inside.tree.items) c.as_slice-authors.ensures.value
    ∙ sym (authors-at c.args.rev c.self.inside.authors.items c.self.inside.text.items c.self.inside.tree.items
    c.self.invariant.row.within)
    ∙ ap (λ l. map (λ x. x.author) (cells_at c.args.rev l)) (cells_seen c.self.view_is))
