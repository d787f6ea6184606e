use Rattle.std.proofs.Common.{◌≡◌, ◌⊎◌, ◌++◌, List, ℕ, drop, Err, subst}
use Rattle.pad_core.proofs.Exits.{passed_on}
use Rattle.store_format.specs.Pieces.{Progress, bytes_from, rest_read}
use Rattle.store_format.specs.declared.reader.Damage.TheVariants.{Memory}
use Rattle.store_format.proofs.Pieces.{begun_fresh, leads_on, not_empty, some_lines, stays_damaged, within_piece}
use Rattle.store_format.proofs.loading.Loading.take.Goals as goal

pub read_piece-requires-clause-some : goal.read_piece-requires-clause-some
read_piece-requires-clause-some g c =
    some_lines _ c.whole_length-end.ensures.lines
    (not_empty c.args.bytes.now c.whole_length-end.result c.whole_length-end.ensures.within c.if-end-eq0.false)

pub returns-in_err-stage-clause-read : goal.returns-in_err-stage-clause-read
returns-in_err-stage-clause-read g c =
    rw (passed_on c.from_residual.result c.from_residual.ensures.1)
    (subst (λ (p : Progress). (c.in_err-stage.field-0.0 ≡ Memory)
    ⊎ ((later : List ℕ) → rest_read c.args.name.now p (c.args.bytes.now ++ later) ≡ Err c.in_err-stage.field-0.0))
    c.self.view_is
    (stays_damaged c.args.name.now c.self.inside.pad c.self.inside.stage c.args.bytes.now c.whole_length-end.result
    c.in_err-stage.field-0.0 c.whole_length-end.ensures.within c.if-end-eq0.false c.whole_length-end.ensures.lines
    c.in_err-stage.ensures.read))

pub invariant_of-result : goal.invariant_of-result
invariant_of-result g c = (
  begun_fresh c.read_piece.new.pad c.in_ok-stage.stage c.in_ok-stage.ensures.begun,
  within_piece c.self.inside.taken c.whole_length-end.result c.args.bytes.now c.self.inside.stage c.in_ok-stage.stage
      c.whole_length-end.ensures.within c.self.invariant.1 c.in_ok-stage.ensures.within,
)

pub returns-clause-read : goal.returns-clause-read
returns-clause-read g c =
    subst (λ (p : Progress). (later : List ℕ) → rest_read c.args.name.now p (c.args.bytes.now ++ later)
    ≡ bytes_from c.args.name.now c.read_piece.new.pad c.in_ok-stage.stage
    (drop c.whole_length-end.result c.args.bytes.now ++ later)) c.self.view_is
    (λ later. leads_on c.args.name.now c.self.inside.pad c.read_piece.new.pad c.self.inside.stage c.in_ok-stage.stage
    c.args.bytes.now later c.whole_length-end.result c.whole_length-end.ensures.within c.if-end-eq0.false
    c.whole_length-end.ensures.lines c.in_ok-stage.ensures.read c.in_ok-stage.ensures.begun)
