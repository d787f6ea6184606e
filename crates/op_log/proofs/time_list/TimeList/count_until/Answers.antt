use Rattle.std.proofs.Common.{arith}
use Rattle.op_log.proofs.TimeLists.{until_low}
use Rattle.op_log.proofs.time_list.TimeList.count_until.Goals as goal

pub loop-low-init : goal.loop-low-init
loop-low-init c =
    let most = until_low c.args.moment c.args.self.now.times in
    let all = c.len-high.ensures.len in (omega arith, omega (arith, most, all))
