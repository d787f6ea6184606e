use Rattle.web_wire.proofs.reply.put_unchanged.Goals as goal

pub returns-clause-ok : goal.returns-clause-ok
returns-clause-ok c = rw (← c.fields.ensures) c.write_response.ensures.ok
