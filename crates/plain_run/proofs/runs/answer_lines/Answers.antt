use Rattle.plain_run.specs.RunFaults.{fault_of}
use Rattle.std.proofs.Common.{rules, [], ◌≡◌, ◌++◌, ◌+◌, ◌≤◌, ℕ, Option, Ok, Err, List, length, refl, ap, subst, sym, ◌∙◌, arith}
use Rattle.std.specs.Prelude.{unwrap_or}
use Rattle.std.specs.List.{AllByRecursion}
use Rattle.std.proofs.lemmas.Result.{err_from_is_err_and}
use Rattle.feed_text.specs.declared.feed_lines.FeedLine.{FeedLine}
use Rattle.feed_text.specs.Grammar.{IsCommand}
use Rattle.feed_text.specs.Replies.{reply_text}
use Rattle.plain_run.specs.declared.run_faults.RunFault.{RunFault}
use Rattle.plain_run.specs.declared.run_faults.RunFault.TheVariants as runs
use Rattle.plain_run.specs.Answering.{AnswersLine, AnswersLines, number_of}
use Rattle.plain_run.specs.declared.places.Place.{Place}
use Rattle.driving.specs.Goings.{Goes}
use Rattle.plain_run.proofs.RunLaws.{run_over_ends, run_over_fails, run_over_goes_on, run_over_starts, run_over_stops}
use Rattle.plain_run.proofs.runs.answer_lines.Goals as goal

pub loop-line-init : goal.loop-line-init
loop-line-init g c =
    let all_is : c.from-lines.result.items ≡ c.args.lines = cc in
    let few : length c.from-lines.result.items ≤ 2048 = subst (λ (all : List FeedLine). length all ≤ 2048) (sym all_is) c.requires.feed.few in
    let none : c.args.session.now.writer.token ≡ 0 = c.requires.token in
    record {
      over = run_over_starts c.args.session.now.place.shard (number_of c.args.session.now.reader) (g.S.Store.history c.args.port.now.store) (g.Si.Sink.taken c.args.out.now) c.from-lines.result.items;
      ready = c.requires.ready;
      place = refl;
      member = refl;
      token = omega arith;
      commands = subst (AllByRecursion IsCommand) (sym all_is) c.requires.feed.each;
      later = omega arith;
      calls = omega arith;
    }

pub returns-in_err-reply-clause-told : goal.returns-in_err-reply-clause-told
returns-in_err-reply-clause-told g c =
    let history = g.S.Store.history in
    let taken = g.Si.Sink.taken in
    let a = history c.args.port.now.store in
    let b = history c.loop-line.port.store in
    let d = history c.answer.new.port.store in
    let n = number_of c.args.session.now.reader in
    let all_is : c.from-lines.result.items ≡ c.args.lines = cc in
    let number : number_of c.loop-line.session.reader ≡ n = ap (λ (m : Option ℕ). unwrap_or m 0) c.loop-line.invariant.member in
    let told = subst (λ (m : ℕ). Goes c.args.session.now.place.shard b d (AnswersLine c.args.session.now.place.shard m c.in-Some.line (Err c.in_err-reply.field-0.0))) number
    (subst (λ (q : Place). Goes q.shard b d (AnswersLine q.shard (number_of c.loop-line.session.reader) c.in-Some.line (Err c.in_err-reply.field-0.0)))
    c.loop-line.invariant.place c.in_err-reply.ensures.told) in
    let went = run_over_fails c.args.session.now.place.shard n a b d (taken c.args.out.now) (taken c.loop-line.out) (taken c.loop-line.out) c.from-lines.result.items c.loop-line.lines.items c.in-Some.line c.in_err-reply.field-0.0 c.loop-line.invariant.over told in
    let p = err_from_is_err_and c.from_residual.result c.from_residual.ensures.1 in
    rw p.1 (subst (λ (e : RunFault). Goes c.args.session.now.place.shard a d (AnswersLines c.args.session.now.place.shard n c.args.lines (taken c.args.out.now) (taken c.loop-line.out) (Err e))) (sym p.2)
    (subst (λ (all : List FeedLine). Goes c.args.session.now.place.shard a d (AnswersLines c.args.session.now.place.shard n all (taken c.args.out.now) (taken c.loop-line.out) (Err (fault_of c.in_err-reply.field-0.0)))) all_is went))

pub returns-in_err-print_reply-clause-told : goal.returns-in_err-print_reply-clause-told
returns-in_err-print_reply-clause-told g c =
    let history = g.S.Store.history in
    let taken = g.Si.Sink.taken in
    let a = history c.args.port.now.store in
    let b = history c.loop-line.port.store in
    let d = history c.answer.new.port.store in
    let n = number_of c.args.session.now.reader in
    let all_is : c.from-lines.result.items ≡ c.args.lines = cc in
    let went = run_over_stops c.args.session.now.place.shard n a b d (taken c.args.out.now) (taken c.loop-line.out) (taken c.loop-line.out) c.from-lines.result.items c.loop-line.lines.items (AnswersLine c.args.session.now.place.shard (number_of c.loop-line.session.reader) c.in-Some.line (Ok c.in_ok-reply.reply)) runs.Memory
    (λ list start es fs. tt) c.loop-line.invariant.over
    (subst (λ (q : Place). Goes q.shard b d (AnswersLine q.shard (number_of c.loop-line.session.reader) c.in-Some.line (Ok c.in_ok-reply.reply)))
    c.loop-line.invariant.place c.in_ok-reply.ensures.told) in
    let p = err_from_is_err_and c.from_residual-in_err-print_reply.result c.from_residual-in_err-print_reply.ensures.1 in
    rw p.1 (subst (λ (e : RunFault). Goes c.args.session.now.place.shard a d (AnswersLines c.args.session.now.place.shard n c.args.lines (taken c.args.out.now) (taken c.loop-line.out) (Err e))) (sym p.2)
    (subst (λ (all : List FeedLine). Goes c.args.session.now.place.shard a d (AnswersLines c.args.session.now.place.shard n all (taken c.args.out.now) (taken c.loop-line.out) (Err runs.Memory))) all_is went))

pub returns-in_err-put_all-clause-told : goal.returns-in_err-put_all-clause-told
returns-in_err-put_all-clause-told g c =
    let history = g.S.Store.history in
    let taken = g.Si.Sink.taken in
    let a = history c.args.port.now.store in
    let b = history c.loop-line.port.store in
    let d = history c.answer.new.port.store in
    let n = number_of c.args.session.now.reader in
    let all_is : c.from-lines.result.items ≡ c.args.lines = cc in
    let went = run_over_stops c.args.session.now.place.shard n a b d (taken c.args.out.now) (taken c.loop-line.out) (taken c.put_all.new.sink) c.from-lines.result.items c.loop-line.lines.items (AnswersLine c.args.session.now.place.shard (number_of c.loop-line.session.reader) c.in-Some.line (Ok c.in_ok-reply.reply)) runs.Sink
    (λ list start es fs. tt) c.loop-line.invariant.over
    (subst (λ (q : Place). Goes q.shard b d (AnswersLine q.shard (number_of c.loop-line.session.reader) c.in-Some.line (Ok c.in_ok-reply.reply)))
    c.loop-line.invariant.place c.in_ok-reply.ensures.told) in
    let p = err_from_is_err_and c.from_residual-in_err-put_all.result c.from_residual-in_err-put_all.ensures.1 in
    rw p.1 (subst (λ (e : RunFault). Goes c.args.session.now.place.shard a d (AnswersLines c.args.session.now.place.shard n c.args.lines (taken c.args.out.now) (taken c.put_all.new.sink) (Err e))) (sym p.2)
    (subst (λ (all : List FeedLine). Goes c.args.session.now.place.shard a d (AnswersLines c.args.session.now.place.shard n all (taken c.args.out.now) (taken c.put_all.new.sink) (Err runs.Sink))) all_is went))

pub returns-clause-told : goal.returns-clause-told
returns-clause-told g c =
    let history = g.S.Store.history in
    let taken = g.Si.Sink.taken in
    let a = history c.args.port.now.store in
    let b = history c.loop-line.port.store in
    let n = number_of c.args.session.now.reader in
    let all_is : c.from-lines.result.items ≡ c.args.lines = cc in
    let none : c.loop-line.lines.items ≡ [] = search rules in
    subst (λ (all : List FeedLine). Goes c.args.session.now.place.shard a b (AnswersLines c.args.session.now.place.shard n all (taken c.args.out.now) (taken c.loop-line.out) (Ok tt))) all_is
    (run_over_ends c.args.session.now.place.shard n a b (taken c.args.out.now) (taken c.loop-line.out) c.from-lines.result.items c.loop-line.lines.items none c.loop-line.invariant.over)

pub loop-line-preserved-in_ok-put_all : goal.loop-line-preserved-in_ok-put_all
loop-line-preserved-in_ok-put_all g c =
    let history = g.S.Store.history in
    let taken = g.Si.Sink.taken in
    let reply = c.in_ok-reply.reply in
    let a = history c.args.port.now.store in
    let b = history c.loop-line.port.store in
    let d = history c.answer.new.port.store in
    let n = number_of c.args.session.now.reader in
    let number : number_of c.loop-line.session.reader ≡ n = ap (λ (m : Option ℕ). unwrap_or m 0) c.loop-line.invariant.member in
    let told = subst (λ (m : ℕ). Goes c.args.session.now.place.shard b d (AnswersLine c.args.session.now.place.shard m c.in-Some.line (Ok reply))) number
    (subst (λ (q : Place). Goes q.shard b d (AnswersLine q.shard (number_of c.loop-line.session.reader) c.in-Some.line (Ok reply)))
    c.loop-line.invariant.place c.in_ok-reply.ensures.told) in
    let text_is : c.deref.result.now ≡ reply_text reply = c.deref.ensures.value ∙ c.in_ok-print_reply.ensures.ok ∙ ap (λ t. t ++ reply_text reply) c.clear.ensures.items in
    let split = c.in-Some.ensures.items in
    let lengths : length c.loop-line.lines.items ≡ length c.pop_front.new.self.items + 1 = ap (λ (ls : List FeedLine). length ls) split ∙ (omega arith) in
    let drawn : c.answer.new.session.writer.token ≤ c.loop-line.session.writer.token + 1 = c.in_ok-reply.ensures.token in
    let had : c.loop-line.session.writer.token + length c.loop-line.lines.items ≤ 2048 = c.loop-line.invariant.token in
    let commands = subst (AllByRecursion IsCommand) split c.loop-line.invariant.commands in
    record {
      over = run_over_goes_on c.args.session.now.place.shard n a b d (taken c.args.out.now) (taken c.loop-line.out) (taken c.put_all.new.sink) c.from-lines.result.items c.loop-line.lines.items c.pop_front.new.self.items c.in-Some.line reply c.deref.result.now split c.loop-line.invariant.over told text_is c.in_ok-put_all.ensures.ok;
      ready = c.in_ok-reply.ensures.ready;
      place = c.in_ok-reply.ensures.place ∙ c.loop-line.invariant.place;
      member = c.in_ok-reply.ensures.member ∙ c.loop-line.invariant.member;
      token = omega (arith, lengths, drawn, had);
      commands = commands.1;
      later = omega (arith, c.loop-line.invariant.later, c.put_all.ensures.later);
      calls = omega (arith, c.loop-line.invariant.calls, c.answer.ensures.later);
    }

pub loop-line-preserved-in_ok-put_all-2 : goal.loop-line-preserved-in_ok-put_all-2
loop-line-preserved-in_ok-put_all-2 g c =
    let history = g.S.Store.history in
    let taken = g.Si.Sink.taken in
    let reply = c.in_ok-reply.reply in
    let a = history c.args.port.now.store in
    let b = history c.loop-line.port.store in
    let d = history c.answer.new.port.store in
    let n = number_of c.args.session.now.reader in
    let number : number_of c.loop-line.session.reader ≡ n = ap (λ (m : Option ℕ). unwrap_or m 0) c.loop-line.invariant.member in
    let told = subst (λ (m : ℕ). Goes c.args.session.now.place.shard b d (AnswersLine c.args.session.now.place.shard m c.in-Some.line (Ok reply))) number
    (subst (λ (q : Place). Goes q.shard b d (AnswersLine q.shard (number_of c.loop-line.session.reader) c.in-Some.line (Ok reply)))
    c.loop-line.invariant.place c.in_ok-reply.ensures.told) in
    let text_is : c.deref.result.now ≡ reply_text reply = c.deref.ensures.value ∙ c.in_ok-print_reply.ensures.ok ∙ ap (λ t. t ++ reply_text reply) c.clear.ensures.items in
    let split = c.in-Some.ensures.items in
    let lengths : length c.loop-line.lines.items ≡ length c.pop_front.new.self.items + 1 = ap (λ (ls : List FeedLine). length ls) split ∙ (omega arith) in
    let drawn : c.answer.new.session.writer.token ≤ c.loop-line.session.writer.token + 1 = c.in_ok-reply.ensures.token in
    let had : c.loop-line.session.writer.token + length c.loop-line.lines.items ≤ 2048 = c.loop-line.invariant.token in
    let commands = subst (AllByRecursion IsCommand) split c.loop-line.invariant.commands in
    record {
      over = run_over_goes_on c.args.session.now.place.shard n a b d (taken c.args.out.now) (taken c.loop-line.out) (taken c.put_all.new.sink) c.from-lines.result.items c.loop-line.lines.items c.pop_front.new.self.items c.in-Some.line reply c.deref.result.now split c.loop-line.invariant.over told text_is c.in_ok-put_all.ensures.ok;
      ready = c.in_ok-reply.ensures.ready;
      place = c.in_ok-reply.ensures.place ∙ c.loop-line.invariant.place;
      member = c.in_ok-reply.ensures.member ∙ c.loop-line.invariant.member;
      token = omega (arith, lengths, drawn, had);
      commands = commands.1;
      later = omega (arith, c.loop-line.invariant.later, c.put_all.ensures.later);
      calls = omega (arith, c.loop-line.invariant.calls, c.answer.ensures.later);
    }

pub loop-line-preserved : goal.loop-line-preserved
loop-line-preserved g c =
    let history = g.S.Store.history in
    let taken = g.Si.Sink.taken in
    let reply = c.in_ok-reply.reply in
    let a = history c.args.port.now.store in
    let b = history c.loop-line.port.store in
    let d = history c.answer.new.port.store in
    let n = number_of c.args.session.now.reader in
    let number : number_of c.loop-line.session.reader ≡ n = ap (λ (m : Option ℕ). unwrap_or m 0) c.loop-line.invariant.member in
    let told = subst (λ (m : ℕ). Goes c.args.session.now.place.shard b d (AnswersLine c.args.session.now.place.shard m c.in-Some.line (Ok reply))) number
    (subst (λ (q : Place). Goes q.shard b d (AnswersLine q.shard (number_of c.loop-line.session.reader) c.in-Some.line (Ok reply)))
    c.loop-line.invariant.place c.in_ok-reply.ensures.told) in
    let text_is : c.deref.result.now ≡ reply_text reply = c.deref.ensures.value ∙ c.in_ok-print_reply.ensures.ok ∙ ap (λ t. t ++ reply_text reply) c.clear.ensures.items in
    let split = c.in-Some.ensures.items in
    let lengths : length c.loop-line.lines.items ≡ length c.pop_front.new.self.items + 1 = ap (λ (ls : List FeedLine). length ls) split ∙ (omega arith) in
    let drawn : c.answer.new.session.writer.token ≤ c.loop-line.session.writer.token + 1 = c.in_ok-reply.ensures.token in
    let had : c.loop-line.session.writer.token + length c.loop-line.lines.items ≤ 2048 = c.loop-line.invariant.token in
    let commands = subst (AllByRecursion IsCommand) split c.loop-line.invariant.commands in
    record {
      over = run_over_goes_on c.args.session.now.place.shard n a b d (taken c.args.out.now) (taken c.loop-line.out) (taken c.put_all.new.sink) c.from-lines.result.items c.loop-line.lines.items c.pop_front.new.self.items c.in-Some.line reply c.deref.result.now split c.loop-line.invariant.over told text_is c.in_ok-put_all.ensures.ok;
      ready = c.in_ok-reply.ensures.ready;
      place = c.in_ok-reply.ensures.place ∙ c.loop-line.invariant.place;
      member = c.in_ok-reply.ensures.member ∙ c.loop-line.invariant.member;
      token = omega (arith, lengths, drawn, had);
      commands = commands.1;
      later = omega (arith, c.loop-line.invariant.later, c.put_all.ensures.later);
      calls = omega (arith, c.loop-line.invariant.calls, c.answer.ensures.later);
    }
