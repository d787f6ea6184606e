use Rattle.std.proofs.Common.{◌≡◌, ◌+◌, ◌++◌, ◌∷◌, List, drop, sum_by, sym, ap, ap₂, ◌∙◌, arith}
use Rattle.std.proofs.lemmas.List.{drop_more, drop_all}
use Rattle.std.proofs.lemmas.List.Sums.{sum_by-cons}
use Rattle.pad_model.specs.History.{clock_of_characters}
use Rattle.pad_model.specs.Operation.{characters_in}
use Rattle.pad_model.specs.declared.op.Part.{Part}
use Rattle.pad_core.specs.Counts.{characters_at}
use Rattle.pad_core.specs.Edits.{growth_of, parts_from, made_parts}
use Rattle.pad_core.proofs.Allowed.{allowed}
use Rattle.pad_core.proofs.Made.{parts_step, parts_done}
use Rattle.pad_core.proofs.make.make_parts.Goals as goal

pub loop-change-init : goal.loop-change-init
loop-change-init g c =
    let clock = (allowed c.args.rev c.args.changes.now c.args.ledger.now c.requires.allowed).grows.clock in
    let now : c.clock-counter.result ≡ clock_of_characters (characters_in c.args.ledger.now).inserted =
    c.clock-counter.ensures in
    record {
      made = ap₂ (λ (parts : List Part) n. parts ++ parts_from (n + 1) c.args.replica
          (characters_at c.args.rev c.args.ledger.now) c.args.changes.now) c.new-parts.ensures now;
      low = omega arith;
      clock = omega arith;
    }

left : (g : _) (c : goal.After-change-item g) → drop c.loop-change.change-index c.args.changes.now
    ≡ c.change-item.result ∷ drop (c.loop-change.change-index + 1) c.args.changes.now
left g c = drop_more c.args.changes.now c.loop-change.change-index c.change-item.result c.loop-change-test.true
    ∙ ap (λ change. change ∷ drop (c.loop-change.change-index + 1) c.args.changes.now) (sym c.change-item.is)

pub make_part-requires-clause-counter : goal.make_part-requires-clause-counter
make_part-requires-clause-counter g c = c.loop-change.invariant.low

pub make_part-requires-clause-clock : goal.make_part-requires-clause-clock
make_part-requires-clause-clock g c =
    let clock = c.loop-change.invariant.clock in
    let rest = ap (sum_by growth_of) (left g c) ∙ sum_by-cons growth_of c.change-item.result
    (drop (c.loop-change.change-index + 1) c.args.changes.now) in
    omega arith

pub loop-change-preserved : goal.loop-change-preserved
loop-change-preserved g c =
    let more = drop (c.loop-change.change-index + 1) c.args.changes.now in
    let set = characters_at c.args.rev c.args.ledger.now in
    let here = drop_more c.args.changes.now c.loop-change.change-index c.change-item.result c.loop-change-test.true
    ∙ ap (λ change. change ∷ more) (sym c.change-item.is) in
    let rest = ap (sum_by growth_of) here ∙ sum_by-cons growth_of c.change-item.result more in
    let clock = c.loop-change.invariant.clock in
    let low = c.loop-change.invariant.low in
    let grown : c.growth_of-counter.result ≡ growth_of c.change-item.result = c.growth_of-counter.ensures in
    record {
      made =
          parts_step c.args.replica c.loop-change.counter (c.loop-change.counter + c.growth_of-counter.result) set
          c.loop-change.parts c.push.new.self
          (made_parts c.args.replica c.args.rev c.args.changes.now c.args.ledger.now) c.in_ok-part.part
          (drop c.loop-change.change-index c.args.changes.now) more c.change-item.result c.loop-change.invariant.made
          here c.in_ok-push.ensures.ok c.in_ok-part.ensures (ap (λ n. c.loop-change.counter + n) grown);
      low = omega arith;
      clock = omega arith;
    }

pub returns : goal.returns
returns g c =
    parts_done c.args.replica c.loop-change.counter (characters_at c.args.rev c.args.ledger.now) c.loop-change.parts
    (made_parts c.args.replica c.args.rev c.args.changes.now c.args.ledger.now)
    (drop c.loop-change.change-index c.args.changes.now) c.loop-change.invariant.made
    (drop_all c.loop-change.change-index c.args.changes.now c.loop-change-test.false)
