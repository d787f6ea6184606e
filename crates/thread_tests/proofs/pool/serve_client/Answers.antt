use Rattle.thread_tests.proofs.Crews.{was_served}
use Rattle.thread_tests.proofs.pool.serve_client.Goals as goal

pub returns : goal.returns
returns g c =
    was_served g.P.Pads.calls g.P.Pads.ends c.args.pads.now c.serve_connection.new.pads
    (g.R.Source.remaining c.args.reader.now) (g.W.Sink.contents c.args.writer.now)
    (g.W.Sink.contents c.serve_connection.new.writer)
    c.serve_connection.result c.serve_connection.ensures.all c.serve_connection.ensures.fault
