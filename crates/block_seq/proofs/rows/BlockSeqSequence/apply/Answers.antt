use Rattle.std.proofs.Common.{◌≡◌, ◌+◌, ◌≤◌, Bool, true, false, List, inr, Ok, eqb-true, vec_len, length, map, count_by}
use Rattle.std.proofs.Common.{sum_by, sym, ap, ◌∙◌, refl, subst, arith}
use Rattle.std.proofs.lemmas.List.{length-map}
use Rattle.std.specs.List.{list_all}
use Rattle.pad_model.specs.Cell.{IsInOrder, character_of}
use Rattle.pad_model.specs.Parts.{AllJoin, part_fits, with_all}
use Rattle.pad_model.proofs.Exits.{answers_memory, is_answered}
use Rattle.block_seq.specs.KeptParts.{inserted_size}
use Rattle.block_seq.proofs.Applied.{spans_checked, length-inserts_in, apply-fault, apply-full, apply-ok}
use Rattle.block_seq.proofs.BlockCells.{length-cells}
use Rattle.block_seq.proofs.RowChange.{PartsMade, parts_made}
use Rattle.pad_model.specs.Answers.{Answers}
use Rattle.pad_model.specs.Cell.{is_hidden_by, without_spans}
use Rattle.pad_model.specs.Checked.{is_run}
use Rattle.pad_model.specs.declared.limits.TheConstants.{MAX_CHARACTERS}
use Rattle.pad_model.specs.declared.op.Span.{Span}
use Rattle.block_seq.proofs.RowChange.{lent_checked, lent_sizes, no_run}
use Rattle.pad_model.specs.Log.{run_may_join}
use Rattle.block_seq.proofs.RowRuns.{all_fit, join_before, runs_fit}
use Rattle.block_seq.proofs.Views.{cells_seen}
use Rattle.block_seq.proofs.rows.BlockSeqSequence.apply.Goals as goal
use Rattle.block_seq.proofs.rows.BlockSeqSequence.apply.Goals.{After-parts_fit, After-count_inserted-more, In_ok-runs}

-- whether the parts fit the cells
fit : (c : After-parts_fit) (b : Bool) → c.parts_fit.result ≡ b →
    list_all (part_fits character_of c.args.self.now.cells) c.args.parts.now ≡ b
fit c b e =
    ap (λ l. list_all (part_fits character_of l) c.args.parts.now) (sym (cells_seen c.self.view_is))
    ∙ sym (c.parts_fit.ensures c.self.inside.authors.items c.self.inside.text.items c.self.invariant.row.within) ∙ e

-- the cells fill the text
size : (c : After-parts_fit) → length c.args.self.now.cells ≡ length c.self.inside.text.items
size c = ap length (sym (cells_seen c.self.view_is)) ∙ length-cells c.self.inside.authors.items c.self.inside.text.items
    c.self.inside.tree.items c.self.invariant.row.within ∙ sym c.self.invariant.row.full

pub parts_fit-requires-clause-checked : goal.parts_fit-requires-clause-checked
parts_fit-requires-clause-checked c = spans_checked c.args.author.now.origin c.args.parts.now c.requires.checked

pub returns-then-not-parts_fit-clause-answers : goal.returns-then-not-parts_fit-clause-answers
returns-then-not-parts_fit-clause-answers c =
    inr (apply-fault c.args.rev c.args.parts.now c.args.author.now c.args.self.now.cells c.requires.checked
    (fit (goal.at.returns-then-not-parts_fit-clause-answers c).After-parts_fit false c.if-not-parts_fit.true))

pub returns-then-len-more-gt-MAX_CHARACTERS-clause-answers : goal.returns-then-len-more-gt-MAX_CHARACTERS-clause-answers
returns-then-len-more-gt-MAX_CHARACTERS-clause-answers c =
    let a = (goal.at.returns-then-len-more-gt-MAX_CHARACTERS-clause-answers c).After-parts_fit in
    let s = size a in
    let inserts = length-inserts_in c.args.author.now c.args.parts.now in
    inr (apply-full c.args.rev c.args.parts.now c.args.author.now c.args.self.now.cells c.requires.checked
    (fit a true c.if-not-parts_fit.false)
    (omega (arith, s, inserts, c.self.inside.text.ok.0, c.count_inserted-more.ensures.value)))

pub returns-in_err-spans-clause-answers : goal.returns-in_err-spans-clause-answers
returns-in_err-spans-clause-answers c =
    let a = (goal.at.returns-in_err-spans-clause-answers c).After-parts_fit in
    let s = size a in
    let inserts = length-inserts_in c.args.author.now c.args.parts.now in
    answers_memory c.from_residual.result c.from_residual.ensures.1 refl
    (is_answered (apply-ok c.args.rev c.args.parts.now c.args.author.now c.args.self.now.cells c.requires.checked
    (fit a true c.if-not-parts_fit.false)
    (omega (arith, s, inserts, c.self.inside.text.ok.0, c.count_inserted-more.ensures.value))))

pub returns-in_err-runs-clause-answers : goal.returns-in_err-runs-clause-answers
returns-in_err-runs-clause-answers c =
    let a = (goal.at.returns-in_err-runs-clause-answers c).After-parts_fit in
    let s = size a in
    let inserts = length-inserts_in c.args.author.now c.args.parts.now in
    answers_memory c.from_residual-in_err-runs.result c.from_residual-in_err-runs.ensures.1 refl
    (is_answered (apply-ok c.args.rev c.args.parts.now c.args.author.now c.args.self.now.cells c.requires.checked
    (fit a true c.if-not-parts_fit.false)
    (omega (arith, s, inserts, c.self.inside.text.ok.0, c.count_inserted-more.ensures.value))))

-- there is room for what the parts insert
room : (c : After-count_inserted-more) → length c.args.self.now.cells ≡ length c.self.inside.text.items →
    length c.self.inside.text.items + c.count_inserted-more.result ≤ MAX_CHARACTERS → length c.args.self.now.cells
    + sum_by inserted_size c.args.parts.now ≤ MAX_CHARACTERS
room c s fits = omega (arith, s, fits, c.count_inserted-more.ensures.value)

-- what the parts leave, by their spans and runs
facts : (c : In_ok-runs) (spans : List Span) → spans ≡ c.in_ok-spans.spans.items →
    list_all (part_fits character_of c.args.self.now.cells) c.args.parts.now ≡ true → length c.args.self.now.cells
    + sum_by inserted_size c.args.parts.now ≤ MAX_CHARACTERS
    → PartsMade c.args.rev c.args.author.now c.args.parts.now c.args.self.now.cells spans
    (map (λ run. run.now) c.in_ok-runs.runs.items)
facts c spans is fits small =
    parts_made c.args.rev c.args.author.now c.args.parts.now c.args.self.now.cells spans
    (map (λ run. run.now) c.in_ok-runs.runs.items)
    (subst IsInOrder (cells_seen c.self.view_is) c.self.invariant.row.order) c.requires.checked fits small
    (is ∙ c.in_ok-spans.ensures) c.in_ok-runs.ensures

pub erase-requires-clause-checked : goal.erase-requires-clause-checked
erase-requires-clause-checked c =
    let g = goal.at.erase-requires-clause-checked c in
    let small = room g.After-count_inserted-more (size g.After-parts_fit)
    (omega (arith, c.self.inside.text.ok.0, c.if-len-more-gt-MAX_CHARACTERS.false)) in
    let f = facts g.In_ok-runs c.as_slice.result.now c.as_slice.ensures.value
    (fit g.After-parts_fit true c.if-not-parts_fit.false) small in
    f.checked

pub erase-requires-clause-there : goal.erase-requires-clause-there
erase-requires-clause-there c =
    let g = goal.at.erase-requires-clause-there c in
    let small = room g.After-count_inserted-more (size g.After-parts_fit)
    (omega (arith, c.self.inside.text.ok.0, c.if-len-more-gt-MAX_CHARACTERS.false)) in
    let f = facts g.In_ok-runs c.as_slice.result.now c.as_slice.ensures.value
    (fit g.After-parts_fit true c.if-not-parts_fit.false) small in
    f.there

pub returns-then-is_empty-clause-answers : goal.returns-then-is_empty-clause-answers
returns-then-is_empty-clause-answers c =
    let g = goal.at.returns-then-is_empty-clause-answers c in
    let small = room g.After-count_inserted-more (size g.After-parts_fit)
    (omega (arith, c.self.inside.text.ok.0, c.if-len-more-gt-MAX_CHARACTERS.false)) in
    let f = facts g.In_ok-runs c.as_slice.result.now c.as_slice.ensures.value
    (fit g.After-parts_fit true c.if-not-parts_fit.false) small in
    let none = no_run (λ run. run.now) c.in_ok-runs.runs.items (sym c.in_ok-runs.runs.ok.0
    ∙ eqb-true (vec_len c.in_ok-runs.runs) 0 (sym c.is_empty.ensures ∙ c.if-is_empty.true)) in
    subst (λ x. Answers c.args.self.now.cells x c.erase.result c.erase.new.self.cells)
    (sym (f.made ∙ ap (λ l. (
      Ok (count_by (is_hidden_by c.as_slice.result.now) c.args.self.now.cells),
      with_all c.args.rev c.args.author.now (without_spans c.args.rev c.as_slice.result.now c.args.self.now.cells) l,
    ))
    none)) c.erase.ensures.answers

pub change-requires-clause-spans : goal.change-requires-clause-spans
change-requires-clause-spans c =
    let g = goal.at.change-requires-clause-spans c in
    let small = room g.After-count_inserted-more (size g.After-parts_fit)
    (omega (arith, c.self.inside.text.ok.0, c.if-len-more-gt-MAX_CHARACTERS.false)) in
    let f = facts g.In_ok-runs c.as_slice-2.result.now c.as_slice-2.ensures.value
    (fit g.After-parts_fit true c.if-not-parts_fit.false) small in
    f.checked

pub change-requires-clause-there : goal.change-requires-clause-there
change-requires-clause-there c =
    let g = goal.at.change-requires-clause-there c in
    let small = room g.After-count_inserted-more (size g.After-parts_fit)
    (omega (arith, c.self.inside.text.ok.0, c.if-len-more-gt-MAX_CHARACTERS.false)) in
    let f = facts g.In_ok-runs c.as_slice-2.result.now c.as_slice-2.ensures.value
    (fit g.After-parts_fit true c.if-not-parts_fit.false) small in
    f.there

pub change-requires-clause-runs : goal.change-requires-clause-runs
change-requires-clause-runs c =
    let g = goal.at.change-requires-clause-runs c in
    let small = room g.After-count_inserted-more (size g.After-parts_fit)
    (omega (arith, c.self.inside.text.ok.0, c.if-len-more-gt-MAX_CHARACTERS.false)) in
    let f = facts g.In_ok-runs c.as_slice-2.result.now c.as_slice-2.ensures.value
    (fit g.After-parts_fit true c.if-not-parts_fit.false) small in
    ap (list_all (λ run. is_run c.args.author.now.origin run.now)) c.as_slice-3.ensures.value
    ∙ lent_checked (λ run. run.now) c.args.author.now.origin c.in_ok-runs.runs.items ∙ f.sized

pub change-requires-clause-join : goal.change-requires-clause-join
change-requires-clause-join c =
    let g = goal.at.change-requires-clause-join c in
    let small = room g.After-count_inserted-more (size g.After-parts_fit)
    (omega (arith, c.self.inside.text.ok.0, c.if-len-more-gt-MAX_CHARACTERS.false)) in
    let f = facts g.In_ok-runs c.as_slice-2.result.now c.as_slice-2.ensures.value
    (fit g.After-parts_fit true c.if-not-parts_fit.false) small in
    join_before c.args.rev c.as_slice-2.result.now c.args.author.now c.args.self.now.cells
    (map (λ run. run.now) c.as_slice-3.result.now)
    (subst IsInOrder (cells_seen c.self.view_is) c.self.invariant.row.order) f.there
    (subst (λ l. AllJoin c.args.rev c.args.author.now
    (without_spans c.args.rev c.as_slice-2.result.now c.args.self.now.cells) (map (λ run. run.now) l))
    (sym c.as_slice-3.ensures.value) f.join)

pub change-requires-clause-fit : goal.change-requires-clause-fit
change-requires-clause-fit c =
    let g = goal.at.change-requires-clause-fit c in
    let listed = ap (map (λ run. run.now)) c.as_slice-3.ensures.value ∙ c.in_ok-runs.ensures in
    all_fit (λ run. run.now) c.args.self.now.cells c.as_slice-3.result.now
    (subst (λ l. list_all (λ run. run_may_join character_of c.args.self.now.cells run.first run.after) l ≡ true)
    (sym listed) (runs_fit c.args.self.now.cells c.args.parts.now
    (fit g.After-parts_fit true c.if-not-parts_fit.false)))

pub change-requires-clause-room : goal.change-requires-clause-room
change-requires-clause-room c =
    let g = goal.at.change-requires-clause-room c in
    let small = room g.After-count_inserted-more (size g.After-parts_fit)
    (omega (arith, c.self.inside.text.ok.0, c.if-len-more-gt-MAX_CHARACTERS.false)) in
    let f = facts g.In_ok-runs c.as_slice-2.result.now c.as_slice-2.ensures.value
    (fit g.After-parts_fit true c.if-not-parts_fit.false) small in
    let all = f.room in
    let sizes = ap (sum_by (λ run. length run.now.text)) c.as_slice-3.ensures.value
    ∙ lent_sizes (λ run. run.now) c.in_ok-runs.runs.items in
    omega (arith, all, sizes)

pub returns-clause-answers : goal.returns-clause-answers
returns-clause-answers c =
    let g = goal.at.returns-clause-answers c in
    let small = room g.After-count_inserted-more (size g.After-parts_fit)
    (omega (arith, c.self.inside.text.ok.0, c.if-len-more-gt-MAX_CHARACTERS.false)) in
    let f = facts g.In_ok-runs c.as_slice-2.result.now c.as_slice-2.ensures.value
    (fit g.After-parts_fit true c.if-not-parts_fit.false) small in
    subst (λ x. Answers c.args.self.now.cells x c.change.result c.change.new.self.cells)
    (sym (f.made ∙ ap (λ l. (
      Ok (count_by (is_hidden_by c.as_slice-2.result.now) c.args.self.now.cells),
      with_all c.args.rev c.args.author.now (without_spans c.args.rev c.as_slice-2.result.now c.args.self.now.cells)
          (map (λ run. run.now) l),
    )) (sym c.as_slice-3.ensures.value))) c.change.ensures.answers

pub returns-then-is_empty-clause-blocks : goal.returns-then-is_empty-clause-blocks
returns-then-is_empty-clause-blocks c =
    let spans = ap length c.as_slice.ensures.value ∙ ap length c.in_ok-spans.ensures in
    omega (arith, spans, c.erase.ensures.blocks)

pub returns-clause-blocks : goal.returns-clause-blocks
returns-clause-blocks c =
    let spans = ap length c.as_slice-2.ensures.value ∙ ap length c.in_ok-spans.ensures in
    let runs = ap length c.as_slice-3.ensures.value ∙ sym (length-map c.in_ok-runs.runs.items (λ run. run.now))
    ∙ ap length c.in_ok-runs.ensures in
    omega (arith, spans, runs, c.change.ensures.blocks)
