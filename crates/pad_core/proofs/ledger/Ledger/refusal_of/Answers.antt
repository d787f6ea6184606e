use Rattle.std.proofs.Common.{◌≡◌, ◌+◌, ◌<◌, true, false, length, count_by, sym, ap, ◌∙◌, arith}
use Rattle.std.proofs.lemmas.Bool.{false≢true}
use Rattle.pad_model.specs.Log.{is_comment}
use Rattle.pad_model.specs.Operation.{characters_in, inserted_by}
use Rattle.pad_model.specs.declared.limits.TheConstants.{MAX_COMMENTS}
use Rattle.pad_core.specs.Delivered.{delivery_refusal}
use Rattle.pad_core.proofs.Judged.{comments-ledger, length-ledger, not_refused, refused-comments, refused-full}
use Rattle.pad_core.proofs.Judged.{refused-invalid, refused-long, verdict-kept}
use Rattle.pad_core.proofs.ledger.Ledger.refusal_of.Goals.{else-is_comment-via-then-is_comment+else-len-ge-MAX_COMMENTS}
use Rattle.pad_core.proofs.ledger.Ledger.refusal_of.Goals.{else-is_comment-via-else-is_comment}
use Rattle.pad_core.proofs.ledger.Ledger.refusal_of.Goals as goal

pub returns-then-not-is_valid : goal.returns-then-not-is_valid
returns-then-not-is_valid g c =
    let log = c.self.inside.log.operations in
    let invalid = verdict-kept log c.args.op.now c.self.inside.seen (g.S.Sequence.cells c.self.inside.sequence)
    c.self.inside.comments c.is_valid.result false c.self.invariant c.requires c.is_valid.ensures
    c.if-not-is_valid.true in
    sym (refused-invalid log c.args.op.now invalid) ∙ ap (delivery_refusal c.args.op.now) c.self.view_is

pub overflow_add-cell_count : goal.overflow_add-cell_count
overflow_add-cell_count g c =
    let cells : c.cell_count.result ≡ length (characters_in c.self.inside.log.operations).inserted =
    c.cell_count.ensures.value ∙ length-ledger c.self.inside.log.operations c.self.inside.seen
    (g.S.Sequence.cells c.self.inside.sequence) c.self.inside.comments c.self.invariant in
    let room = c.self.invariant.delivered.room in
    let few = c.count_inserted.ensures.few in
    omega arith

pub returns-then-cell_count-count_inserted-gt-MAX_CHARACTERS :
    goal.returns-then-cell_count-count_inserted-gt-MAX_CHARACTERS
returns-then-cell_count-count_inserted-gt-MAX_CHARACTERS g c =
    let log = c.self.inside.log.operations in
    let valid = verdict-kept log c.args.op.now c.self.inside.seen (g.S.Sequence.cells c.self.inside.sequence)
    c.self.inside.comments c.is_valid.result true c.self.invariant c.requires c.is_valid.ensures
    c.if-not-is_valid.false in
    let cells : c.cell_count.result ≡ length (characters_in log).inserted = c.cell_count.ensures.value
    ∙ length-ledger log c.self.inside.seen (g.S.Sequence.cells c.self.inside.sequence) c.self.inside.comments
    c.self.invariant in
    let growth : c.count_inserted.result ≡ length (inserted_by c.args.op.now) = c.count_inserted.ensures.value in
    let above : 4000000 < c.cell_count.result + c.count_inserted.result =
    c.if-cell_count-count_inserted-gt-MAX_CHARACTERS.true in
    sym (refused-full log c.args.op.now valid (omega arith)) ∙ ap (delivery_refusal c.args.op.now) c.self.view_is

pub returns-then-len-ge-MAX_OPERATIONS : goal.returns-then-len-ge-MAX_OPERATIONS
returns-then-len-ge-MAX_OPERATIONS g c =
    let log = c.self.inside.log.operations in
    let valid = verdict-kept log c.args.op.now c.self.inside.seen (g.S.Sequence.cells c.self.inside.sequence)
    c.self.inside.comments c.is_valid.result true c.self.invariant c.requires c.is_valid.ensures
    c.if-not-is_valid.false in
    let cells : c.cell_count.result ≡ length (characters_in log).inserted = c.cell_count.ensures.value
    ∙ length-ledger log c.self.inside.seen (g.S.Sequence.cells c.self.inside.sequence) c.self.inside.comments
    c.self.invariant in
    let growth : c.count_inserted.result ≡ length (inserted_by c.args.op.now) = c.count_inserted.ensures.value in
    let room = c.if-cell_count-count_inserted-gt-MAX_CHARACTERS.false in
    let count : c.len.result ≡ length log = c.len.ensures in
    let long = c.if-len-ge-MAX_OPERATIONS.true in
    sym (refused-long log c.args.op.now valid (omega arith) (omega arith))
    ∙ ap (delivery_refusal c.args.op.now) c.self.view_is

pub returns-then-len-ge-MAX_COMMENTS : goal.returns-then-len-ge-MAX_COMMENTS
returns-then-len-ge-MAX_COMMENTS g c =
    let log = c.self.inside.log.operations in
    let valid = verdict-kept log c.args.op.now c.self.inside.seen (g.S.Sequence.cells c.self.inside.sequence)
    c.self.inside.comments c.is_valid.result true c.self.invariant c.requires c.is_valid.ensures
    c.if-not-is_valid.false in
    let cells : c.cell_count.result ≡ length (characters_in log).inserted = c.cell_count.ensures.value
    ∙ length-ledger log c.self.inside.seen (g.S.Sequence.cells c.self.inside.sequence) c.self.inside.comments
    c.self.invariant in
    let growth : c.count_inserted.result ≡ length (inserted_by c.args.op.now) = c.count_inserted.ensures.value in
    let room = c.if-cell_count-count_inserted-gt-MAX_CHARACTERS.false in
    let count : c.len.result ≡ length log = c.len.ensures in
    let short = c.if-len-ge-MAX_OPERATIONS.false in
    let comments : c.len-then-is_comment.result ≡ count_by is_comment log = c.len-then-is_comment.ensures.value
    ∙ comments-ledger log c.self.inside.seen (g.S.Sequence.cells c.self.inside.sequence) c.self.inside.comments
    c.self.invariant in
    let many = c.if-len-ge-MAX_COMMENTS.true in
    sym (refused-comments log c.args.op.now valid (omega arith) (omega arith)
    (sym c.is_comment.ensures ∙ c.if-is_comment.true) (omega arith))
    ∙ ap (delivery_refusal c.args.op.now) c.self.view_is

pub returns : goal.returns
returns g c =
    let log = c.self.inside.log.operations in
    let valid = verdict-kept log c.args.op.now c.self.inside.seen (g.S.Sequence.cells c.self.inside.sequence)
    c.self.inside.comments c.is_valid.result true c.self.invariant c.requires c.is_valid.ensures
    c.if-not-is_valid.false in
    let cells : c.cell_count.result ≡ length (characters_in log).inserted = c.cell_count.ensures.value
    ∙ length-ledger log c.self.inside.seen (g.S.Sequence.cells c.self.inside.sequence) c.self.inside.comments
    c.self.invariant in
    let growth : c.count_inserted.result ≡ length (inserted_by c.args.op.now) = c.count_inserted.ensures.value in
    let room = c.if-cell_count-count_inserted-gt-MAX_CHARACTERS.false in
    let count : c.len.result ≡ length log = c.len.ensures in
    let short = c.if-len-ge-MAX_OPERATIONS.false in
    let few : is_comment c.args.op.now ≡ true → count_by is_comment log < MAX_COMMENTS =
    elim c.else-is_comment.branch [
      | else-is_comment-via-then-is_comment+else-len-ge-MAX_COMMENTS w ↦ λ comments.
          (let held : w.len-then-is_comment.result ≡ count_by is_comment log = w.len-then-is_comment.ensures.value
          ∙ comments-ledger log c.self.inside.seen (g.S.Sequence.cells c.self.inside.sequence) c.self.inside.comments
          c.self.invariant in
          let less = w.if-len-ge-MAX_COMMENTS.false in
          omega arith)
      | else-is_comment-via-else-is_comment w ↦ λ comments. absurd
          (false≢true (sym w.if-is_comment.false ∙ c.is_comment.ensures ∙ comments))
    ] in
    sym (not_refused log c.args.op.now (record { valid = valid; room = omega arith; short = omega arith; few = few }))
    ∙ ap (delivery_refusal c.args.op.now) c.self.view_is
