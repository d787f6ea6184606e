use Rattle.std.proofs.Common.{◌≤◌, arith}
use Rattle.pad_model.specs.History.{clock_of_characters}
use Rattle.pad_model.specs.Operation.{characters_in}
use Rattle.pad_core.proofs.Allowed.{clock_low}
use Rattle.pad_core.proofs.demand.refuse_growth.Goals as goal

pub overflow_add-clock : goal.overflow_add-clock
overflow_add-clock g c =
    let low : clock_of_characters (characters_in c.args.ledger.now).inserted ≤ 281474976710656 =
    clock_low c.args.ledger.now c.len-now.ensures.sound.history in
    let few : c.args.growth ≤ 10000 = c.requires in
    omega (arith, c.clock.ensures)
