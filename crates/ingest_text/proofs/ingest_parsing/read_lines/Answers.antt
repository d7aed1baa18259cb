use Rattle.std.proofs.Common.{List, ℕ, subst, arith}
use Rattle.feed_text.specs.Lines.{lines_of}
use Rattle.ingest_text.proofs.Leading.{Reads, reads_on}
use Rattle.ingest_text.proofs.ingest_parsing.read_lines.Goals as goal

pub loop-rest-preserved : goal.loop-rest-preserved
loop-rest-preserved c =
    let all = lines_of c.args.text.now in
    let cut = c.next_line.result in
    let here = c.loop-rest.so_far.said in
    let number = c.loop-rest.number in
    record {
      reads = reads_on all (lines_of cut.1.now) cut.0.now here c.in_ok-so_far.so_far.said number
          (subst (λ (left : List (List ℕ)). Reads all left here number) c.next_line.ensures.lines c.loop-rest.invariant.reads)
          c.in_ok-so_far.ensures.ok;
      few = omega (arith, c.next_line.ensures.shorter, c.loop-rest.invariant.few);
      counted = c.in_ok-so_far.ensures.counted;
    }
