use Rattle.std.proofs.Common.{◌≡◌, sym, ◌∙◌}
use Rattle.op_log.proofs.TimeLists.{until_there, none_until}
use Rattle.op_log.proofs.time_list.TimeList.is_until.Goals as goal

pub returns-in-Some : goal.returns-in-Some
returns-in-Some c =
    until_there 0 c.args.moment c.args.self.now.times c.args.place c.in-Some.time c.requires (sym c.get.ensures ∙ c.in-Some.is)

pub returns-in-None : goal.returns-in-None
returns-in-None c = none_until c.args.moment c.args.self.now.times c.args.place (sym c.get.ensures ∙ c.in-None.is)
