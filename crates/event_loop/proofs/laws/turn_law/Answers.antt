use Rattle.event_loop.proofs.BrowserClients.{socket_turn_law}
use Rattle.event_loop.proofs.LineClients.{lines_turn_law}
use Rattle.event_loop.proofs.laws.turn_law.Goals as goal

pub returns-clause-lines : goal.returns-clause-lines
returns-clause-lines c = lines_turn_law

pub returns-clause-sockets : goal.returns-clause-sockets
returns-clause-sockets c = socket_turn_law
