use Rattle.std.proofs.Common.{◌≡◌, ◌++◌, ap, ap₂, ◌∙◌, length}
use Rattle.std.specs.Prelude.{codes}
use Rattle.http1.specs.Server.{planned_response}
use Rattle.http1.specs.declared.conn.BodySize.TheVariants.{Known}
use Rattle.web_wire.specs.PageRequests.{page_fields}
use Rattle.web_wire.proofs.Responses.{head_alone, head_then_text}
use Rattle.web_wire.proofs.reply.put_page.Goals as goal
use Rattle.web_wire.proofs.reply.put_page.Goals.{In_ok-write_response}

-- the head that was written
head : (c : In_ok-write_response) → c.write_response.new.output.items ≡ c.args.output.now.items
    ++ planned_response c.args.server.now 200 (codes "OK") (Known (length c.args.page.now.text.now)) (page_fields c.args.page.now)
head c =
    c.in_ok-write_response.ensures.ok
    ∙ ap₂ (λ size sent. c.args.output.now.items ++ planned_response c.args.server.now 200 (codes "OK") size sent)
    (c.size_of-size.ensures ∙ ap (λ text. Known (length text)) c.as_bytes-body.ensures.value) c.fields.ensures

pub returns-in_ok-extend_from_slice-clause-ok : goal.returns-in_ok-extend_from_slice-clause-ok
returns-in_ok-extend_from_slice-clause-ok c =
    rw c.if-whole.true (head_then_text c.args.output.now.items c.write_response.new.output.items
    c.extend_from_slice.new.self.items _ c.args.page.now.text.now (head (goal.at.returns-in_ok-extend_from_slice-clause-ok c).In_ok-write_response)
    (c.in_ok-extend_from_slice.ensures.items ∙ ap (λ text. c.write_response.new.output.items ++ text) c.as_bytes-body.ensures.value))

pub returns-else-whole-clause-ok : goal.returns-else-whole-clause-ok
returns-else-whole-clause-ok c =
    rw c.if-whole.false (head_alone c.args.output.now.items c.write_response.new.output.items _
    (head (goal.at.returns-else-whole-clause-ok c).In_ok-write_response))
