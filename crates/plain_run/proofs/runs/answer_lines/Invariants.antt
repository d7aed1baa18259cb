use Rattle.std.proofs.Common.{◌≡◌, ◌+◌, ◌≤◌, length}
use Rattle.std.specs.List.{AllByRecursion}
use Rattle.feed_text.specs.Grammar.{IsCommand}
use Rattle.plain_run.specs.Answering.{Ready, number_of}
use Rattle.plain_run.proofs.RunLaws.{RunOver}
use Rattle.plain_run.proofs.runs.answer_lines.Given as goal

abbrev pub invariant-loop-line : goal.invariant-loop-line
invariant-loop-line g l = record {
  over : RunOver l.initial.session.place.shard (number_of l.initial.session.reader) (g.S.Store.history l.initial.port.store) (g.S.Store.history l.port.store) (g.Si.Sink.taken l.initial.out) (g.Si.Sink.taken l.out) l.initial.lines.items l.lines.items;
  ready : Ready (g.S.Store.history l.port.store) l.session;
  place : l.session.place ≡ l.initial.session.place;
  member : l.session.reader.member ≡ l.initial.session.reader.member;
  token : l.session.writer.token + length l.lines.items ≤ 2048;
  commands : AllByRecursion IsCommand l.lines.items;
  later : g.Si.Sink.faults l.initial.out ≤ g.Si.Sink.faults l.out;
  calls : g.S.Store.faults l.initial.port.store ≤ g.S.Store.faults l.port.store;
}

abbrev pub decreases-loop-line : goal.decreases-loop-line
decreases-loop-line g l = length l.lines.items
