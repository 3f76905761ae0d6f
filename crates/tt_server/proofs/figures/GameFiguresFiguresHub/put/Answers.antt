use Rattle.tt_serving.proofs.Pages.{puts-then, loses-then, loses-more}
use Rattle.tt_server.proofs.figures.GameFiguresFiguresHub.put.Goals as goal

pub returns-in-Ok-put_connections-clause-puts : goal.returns-in-Ok-put_connections-clause-puts
returns-in-Ok-put_connections-clause-puts g c =
    let held = g.K.Sink.held in
    puts-then (held c.args.sink.now) (held c.put_head.new.sink) (held c.put_connections.new.sink) c.args.page.now c.put_head.new.page
    c.put_connections.new.page _ _ c.in-Ok.ensures.puts c.in-Ok-put_connections.ensures.puts

pub returns-in-Err-clause-loses : goal.returns-in-Err-clause-loses
returns-in-Err-clause-loses g c =
    let held = g.K.Sink.held in
    loses-more (held c.args.sink.now) (held c.put_head.new.sink) c.args.page.now _ _ c.in-Err.ensures.loses

pub returns-in-Err-put_connections-clause-loses : goal.returns-in-Err-put_connections-clause-loses
returns-in-Err-put_connections-clause-loses g c =
    let held = g.K.Sink.held in
    loses-then (held c.args.sink.now) (held c.put_head.new.sink) (held c.put_connections.new.sink) c.args.page.now c.put_head.new.page _ _
    c.in-Ok.ensures.puts c.in-Err-put_connections.ensures.loses
