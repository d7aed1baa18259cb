use Rattle.std.proofs.Common.{List, ℕ, subst, arith}
use Rattle.feed_text.specs.Lines.{lines_of}
use Rattle.reclock_text.proofs.Leading.{Reads, reads_on}
use Rattle.reclock_text.proofs.reclock_parsing.read_lines.Goals as goal

pub loop-rest-preserved : goal.loop-rest-preserved
loop-rest-preserved c =
    let all = lines_of c.args.text.now in
    let cut = c.next_line.result in
    let here = c.loop-rest.so_far.feed in
    let number = c.loop-rest.number in
    let operators = c.args.operators in
    record {
      reads = reads_on operators all (lines_of cut.1.now) cut.0.now here c.in_ok-so_far.so_far.feed number
          (subst (λ (left : List (List ℕ)). Reads operators all left here number) c.next_line.ensures.lines c.loop-rest.invariant.reads)
          c.in_ok-so_far.ensures.ok;
      few = omega (arith, c.next_line.ensures.shorter, c.loop-rest.invariant.few);
      light = c.in_ok-so_far.ensures.weighed.0;
      weighed = c.in_ok-so_far.ensures.weighed.1;
    }
