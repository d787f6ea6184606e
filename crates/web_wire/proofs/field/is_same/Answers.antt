use Rattle.http1.specs.Text.{eq_ignore_case as http_eq}
use Rattle.websocket.specs.Headers.{eq_ignore_case}
use Rattle.web_wire.proofs.field.is_same.Goals as goal

pub returns : goal.returns
unfolding http_eq eq_ignore_case
returns c = c.eq_ignore_case.ensures
