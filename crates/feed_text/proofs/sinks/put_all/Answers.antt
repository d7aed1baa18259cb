use Rattle.std.proofs.Common.{◌∙◌, sym, subst}
use Rattle.std.proofs.lemmas.List.{take_rest}
use Rattle.feed_text.proofs.Streams.{GainsBefore, gains_before_more}
use Rattle.feed_text.proofs.sinks.put_all.Goals as goal

pub loop-rest-preserved : goal.loop-rest-preserved
loop-rest-preserved g c =
    let taken = g.Si.Sink.taken in
    let more = gains_before_more (taken c.args.sink.now) _ (taken c.put.new.self) c.args.bytes.now c.loop-rest.rest.now c.in_ok-count.count c.loop-rest.invariant.gained c.in_ok-count.ensures.gained in
    record {
      gained = subst (λ r. GainsBefore (taken c.args.sink.now) (taken c.put.new.self) c.args.bytes.now r) (sym (take_rest c.loop-rest.rest.now c.in_ok-count.count)) more;
      sound = c.in_ok-count.ensures.sound ∙ c.loop-rest.invariant.sound;
    }
