use Rattle.std.proofs.Common.{sym, subst}
use Rattle.std.specs.Prelude.{IfOk}
use Rattle.write_client.specs.Machining as writes
use Rattle.step_text.specs.declared.commands.Command.{Command}
use Rattle.step_run.specs.Begins.{BeginsWrite}
use Rattle.step_run.proofs.Beginning.{appends_start, least_cost, leaves_start, on_ok, said_so, starts_fit}
use Rattle.step_run.proofs.begins.begin_write.Goals as goal

pub returns-in-Append-clause-begins : goal.returns-in-Append-clause-begins
returns-in-Append-clause-begins c =
    subst (λ (what : Command). IfOk c.says_begun.result (BeginsWrite c.args.writer.now what c.begin_append.new.self)) (sym c.in-Append.is)
    (said_so _ c.begin_append.result c.begin_append.ensures.begins c.says_begun.result c.says_begun.ensures.said)

pub returns-in-Append-clause-fits : goal.returns-in-Append-clause-fits
returns-in-Append-clause-fits c =
    on_ok c.says_begun.result (starts_fit writes.machine c.args.writer.now c.begin_append.new.self c.begin_append.result
    (appends_start c.args.writer.now c.begin_append.new.self c.in-Append.append.rows c.in-Append.append.lower c.in-Append.append.upper c.begin_append.result c.begin_append.ensures.begins) c.begin_append.ensures.sound
    c.begin_append.ensures.follows (least_cost writes.machine c.begin_append.new.self c.begin_append.result c.begin_append.ensures.cost))

pub returns-in-Close-clause-begins : goal.returns-in-Close-clause-begins
returns-in-Close-clause-begins c =
    subst (λ (what : Command). IfOk c.says_begun-in-Close.result (BeginsWrite c.args.writer.now what c.begin_close.new.self)) (sym c.in-Close.is)
    (said_so _ c.begin_close.result c.begin_close.ensures.begins c.says_begun-in-Close.result c.says_begun-in-Close.ensures.said)

pub returns-in-Close-clause-fits : goal.returns-in-Close-clause-fits
returns-in-Close-clause-fits c =
    on_ok c.says_begun-in-Close.result (starts_fit writes.machine c.args.writer.now c.begin_close.new.self c.begin_close.result
    (leaves_start c.args.writer.now c.begin_close.new.self c.begin_close.result c.begin_close.ensures.begins) c.begin_close.ensures.sound
    c.begin_close.ensures.follows (least_cost writes.machine c.begin_close.new.self c.begin_close.result c.begin_close.ensures.cost))
