use Rattle.std.proofs.Common.{◌≡◌, ◌++◌, ap, ◌∙◌, length}
use Rattle.http1.specs.Head.{pairs}
use Rattle.http1.specs.Server.{planned_response}
use Rattle.http1.specs.declared.conn.BodySize.TheVariants.{Known}
use Rattle.web_wire.proofs.Responses.{head_alone, head_then_text}
use Rattle.web_wire.proofs.reply.put_refusal.Goals as goal
use Rattle.web_wire.proofs.reply.put_refusal.Goals.{In_ok-write_response}

-- the head that was written
head : (c : In_ok-write_response) → c.write_response.new.output.items ≡ c.args.output.now.items
    ++ planned_response c.args.server.now c.args.status c.reason.result.now (Known (length c.words-text.result.now))
    (pairs c.refusal_fields.result)
head c =
    c.in_ok-write_response.ensures.ok
    ∙ ap (λ size. c.args.output.now.items ++ planned_response c.args.server.now c.args.status c.reason.result.now size
    (pairs c.refusal_fields.result)) c.size_of-size.ensures

pub returns-in_ok-extend_from_slice-clause-ok : goal.returns-in_ok-extend_from_slice-clause-ok
returns-in_ok-extend_from_slice-clause-ok c = (
  c.reason.result.now,
  c.words-text.result.now,
  pairs c.refusal_fields.result,
  rw c.if-whole.true (head_then_text c.args.output.now.items c.write_response.new.output.items
      c.extend_from_slice.new.self.items _ c.words-text.result.now (head (goal.at.returns-in_ok-extend_from_slice-clause-ok c).In_ok-write_response)
      c.in_ok-extend_from_slice.ensures.items),
)

pub returns-else-whole-clause-ok : goal.returns-else-whole-clause-ok
returns-else-whole-clause-ok c = (
  c.reason.result.now,
  c.words-text.result.now,
  pairs c.refusal_fields.result,
  rw c.if-whole.false (head_alone c.args.output.now.items c.write_response.new.output.items _
      (head (goal.at.returns-else-whole-clause-ok c).In_ok-write_response)),
)
