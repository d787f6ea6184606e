use Rattle.std.proofs.Common.{rules}
use Rattle.sessions.proofs.Lines.{hash_is_text}
use Rattle.sessions.proofs.line.hash_text.Goals as goal

pub returns : goal.returns
returns c = search (rules, hash_is_text)
