use Rattle.std.proofs.Common.{◌≡◌, map, string_bytes, ap, subst, List, Option, Some, None, ℕ}
use Rattle.feed_text.specs.Streams.{Gains}
use Rattle.plain_run.specs.declared.endings.Ending.TheVariants as endings
use Rattle.plain_run.specs.Endings.{StaysLawful}
use Rattle.store_core.specs.declared.shards.ShardId.{ShardId}
use Rattle.persist_app.specs.Endings.{IsServed, NoCommand, Performs, input_failed_text, words_text}
use Rattle.persist_app.proofs.Performed.{completed, found_full, input_failed, line_refused, performed_as, spared}
use Rattle.persist_app.proofs.plain.persist_plain.Goals as goal

pub returns-clause-complete : goal.returns-clause-complete
returns-clause-complete g c = λ status.
    let finished = c.finish.ensures.complete status in
    let told = g.S.Store.history c.args.store in
    let told_now = g.S.Store.history c.perform-ending.new.port.store in
    let left = g.So.Source.left in
    let faults = g.So.Source.faults in
    let taken = g.Si.Sink.taken in
    let puts = g.Si.Sink.faults in
    let src = c.perform-ending.new.src in
    let out = c.perform-ending.new.out in
    let performed = subst (λ (ws : List (List ℕ)). Performs ws c.perform-ending.result told told_now (left c.args.src.now) (left src)
    (faults c.args.src.now) (faults src) (taken c.args.out.now) (taken out) (puts c.args.out.now) (puts out))
    (ap (map string_bytes) c.deref.ensures.value) c.perform-ending.ensures.ends in
    completed (map string_bytes c.args.words.now.items) c.perform-ending.result told told_now (left c.args.src.now) (left src)
    (faults c.args.src.now) (faults src) (taken c.args.out.now) (taken out) (puts c.args.out.now) (puts out) performed
    (taken c.finish.new.out) finished.0 finished.1

pub returns-clause-line : goal.returns-clause-line
returns-clause-line g c = λ status.
    let finished = c.finish.ensures.line status in
    let told = g.S.Store.history c.args.store in
    let told_now = g.S.Store.history c.perform-ending.new.port.store in
    let left = g.So.Source.left in
    let faults = g.So.Source.faults in
    let taken = g.Si.Sink.taken in
    let puts = g.Si.Sink.faults in
    let src = c.perform-ending.new.src in
    let out = c.perform-ending.new.out in
    let performed = subst (λ (ws : List (List ℕ)). Performs ws c.perform-ending.result told told_now (left c.args.src.now) (left src)
    (faults c.args.src.now) (faults src) (taken c.args.out.now) (taken out) (puts c.args.out.now) (puts out))
    (ap (map string_bytes) c.deref.ensures.value) c.perform-ending.ensures.ends in
    line_refused (map string_bytes c.args.words.now.items) c.perform-ending.result told told_now (left c.args.src.now) (left src)
    (faults c.args.src.now) (faults src) (taken c.args.out.now) (taken out) (puts c.args.out.now) (puts out) performed
    (taken c.finish.new.out) finished.0 finished.1 finished.2

pub returns-clause-input : goal.returns-clause-input
returns-clause-input g c = λ status.
    let finished = c.finish.ensures.input status in
    let told = g.S.Store.history c.args.store in
    let told_now = g.S.Store.history c.perform-ending.new.port.store in
    let left = g.So.Source.left in
    let faults = g.So.Source.faults in
    let taken = g.Si.Sink.taken in
    let puts = g.Si.Sink.faults in
    let src = c.perform-ending.new.src in
    let out = c.perform-ending.new.out in
    let performed = subst (λ (ws : List (List ℕ)). Performs ws c.perform-ending.result told told_now (left c.args.src.now) (left src)
    (faults c.args.src.now) (faults src) (taken c.args.out.now) (taken out) (puts c.args.out.now) (puts out))
    (ap (map string_bytes) c.deref.ensures.value) c.perform-ending.ensures.ends in
    input_failed (map string_bytes c.args.words.now.items) c.perform-ending.result told told_now (left c.args.src.now) (left src)
    (faults c.args.src.now) (faults src) (taken c.args.out.now) (taken out) (puts c.args.out.now) (puts out) performed
    (taken c.finish.new.out) input_failed_text finished.0 finished.1

pub returns-clause-store_failed : goal.returns-clause-store_failed
returns-clause-store_failed g c = λ status.
    let finished = c.finish.ensures.store status in
    let told = g.S.Store.history c.args.store in
    let told_now = g.S.Store.history c.perform-ending.new.port.store in
    let left = g.So.Source.left in
    let faults = g.So.Source.faults in
    let taken = g.Si.Sink.taken in
    let puts = g.Si.Sink.faults in
    let src = c.perform-ending.new.src in
    let out = c.perform-ending.new.out in
    let performed = subst (λ (ws : List (List ℕ)). Performs ws c.perform-ending.result told told_now (left c.args.src.now) (left src)
    (faults c.args.src.now) (faults src) (taken c.args.out.now) (taken out) (puts c.args.out.now) (puts out))
    (ap (map string_bytes) c.deref.ensures.value) c.perform-ending.ensures.ends in (
      performed_as (map string_bytes c.args.words.now.items) c.perform-ending.result told told_now (left c.args.src.now) (left src)
          (faults c.args.src.now) (faults src) (taken c.args.out.now) (taken out) (puts c.args.out.now) (puts out) performed
          (Some endings.StoreFailed) finished.0,
      c.perform-ending.ensures.failed finished.0,
    )

pub returns-clause-damaged : goal.returns-clause-damaged
returns-clause-damaged g c = λ status.
    let finished = c.finish.ensures.damaged status in
    let told = g.S.Store.history c.args.store in
    let told_now = g.S.Store.history c.perform-ending.new.port.store in
    let left = g.So.Source.left in
    let faults = g.So.Source.faults in
    let taken = g.Si.Sink.taken in
    let puts = g.Si.Sink.faults in
    let src = c.perform-ending.new.src in
    let out = c.perform-ending.new.out in
    let performed = subst (λ (ws : List (List ℕ)). Performs ws c.perform-ending.result told told_now (left c.args.src.now) (left src)
    (faults c.args.src.now) (faults src) (taken c.args.out.now) (taken out) (puts c.args.out.now) (puts out))
    (ap (map string_bytes) c.deref.ensures.value) c.perform-ending.ensures.ends in
    performed_as (map string_bytes c.args.words.now.items) c.perform-ending.result told told_now (left c.args.src.now) (left src)
    (faults c.args.src.now) (faults src) (taken c.args.out.now) (taken out) (puts c.args.out.now) (puts out) performed
    (Some endings.Damaged) finished.0

pub returns-clause-members_full : goal.returns-clause-members_full
returns-clause-members_full g c = λ status.
    let finished = c.finish.ensures.full status in
    let told = g.S.Store.history c.args.store in
    let told_now = g.S.Store.history c.perform-ending.new.port.store in
    let left = g.So.Source.left in
    let faults = g.So.Source.faults in
    let taken = g.Si.Sink.taken in
    let puts = g.Si.Sink.faults in
    let src = c.perform-ending.new.src in
    let out = c.perform-ending.new.out in
    let performed = subst (λ (ws : List (List ℕ)). Performs ws c.perform-ending.result told told_now (left c.args.src.now) (left src)
    (faults c.args.src.now) (faults src) (taken c.args.out.now) (taken out) (puts c.args.out.now) (puts out))
    (ap (map string_bytes) c.deref.ensures.value) c.perform-ending.ensures.ends in
    found_full (map string_bytes c.args.words.now.items) c.perform-ending.result told told_now (left c.args.src.now) (left src)
    (faults c.args.src.now) (faults src) (taken c.args.out.now) (taken out) (puts c.args.out.now) (puts out) performed
    finished.0

pub returns-clause-spent : goal.returns-clause-spent
returns-clause-spent g c = λ status.
    let finished = c.finish.ensures.spent status in
    let told = g.S.Store.history c.args.store in
    let told_now = g.S.Store.history c.perform-ending.new.port.store in
    let left = g.So.Source.left in
    let faults = g.So.Source.faults in
    let taken = g.Si.Sink.taken in
    let puts = g.Si.Sink.faults in
    let src = c.perform-ending.new.src in
    let out = c.perform-ending.new.out in
    let performed = subst (λ (ws : List (List ℕ)). Performs ws c.perform-ending.result told told_now (left c.args.src.now) (left src)
    (faults c.args.src.now) (faults src) (taken c.args.out.now) (taken out) (puts c.args.out.now) (puts out))
    (ap (map string_bytes) c.deref.ensures.value) c.perform-ending.ensures.ends in
    performed_as (map string_bytes c.args.words.now.items) c.perform-ending.result told told_now (left c.args.src.now) (left src)
    (faults c.args.src.now) (faults src) (taken c.args.out.now) (taken out) (puts c.args.out.now) (puts out) performed
    (Some endings.Spent) finished.0

pub returns-clause-no_command : goal.returns-clause-no_command
returns-clause-no_command g c = λ status.
    let finished = c.finish.ensures.no_command status in
    let told = g.S.Store.history c.args.store in
    let told_now = g.S.Store.history c.perform-ending.new.port.store in
    let left = g.So.Source.left in
    let faults = g.So.Source.faults in
    let taken = g.Si.Sink.taken in
    let puts = g.Si.Sink.faults in
    let src = c.perform-ending.new.src in
    let out = c.perform-ending.new.out in
    let performed = subst (λ (ws : List (List ℕ)). Performs ws c.perform-ending.result told told_now (left c.args.src.now) (left src)
    (faults c.args.src.now) (faults src) (taken c.args.out.now) (taken out) (puts c.args.out.now) (puts out))
    (ap (map string_bytes) c.deref.ensures.value) c.perform-ending.ensures.ends in
    let none = performed_as (map string_bytes c.args.words.now.items) c.perform-ending.result told told_now (left c.args.src.now) (left src)
    (faults c.args.src.now) (faults src) (taken c.args.out.now) (taken out) (puts c.args.out.now) (puts out) performed None finished.0 in
    (none.0, subst (λ (t : Option (List ℕ)). Gains t (taken c.finish.new.out) words_text) none.1 finished.1)

pub returns-clause-idle : goal.returns-clause-idle
returns-clause-idle g c =
    subst (λ (ws : List (List ℕ)). NoCommand ws → (c.perform-ending.new.port.store ≡ c.args.store) × (c.perform-ending.new.src ≡ c.args.src.now))
    (ap (map string_bytes) c.deref.ensures.value) c.perform-ending.ensures.idle

pub returns-clause-untouched : goal.returns-clause-untouched
returns-clause-untouched g c =
    let taken = g.Si.Sink.taken in
    let puts = g.Si.Sink.faults in
    let out = c.perform-ending.new.out in
    spared c.perform-ending.result c.finish.result (taken out) (taken c.finish.new.out) (puts out) (puts c.finish.new.out) c.args.store
    c.perform-ending.new.port.store c.finish.ensures c.perform-ending.ensures.spares

pub returns-clause-lawful : goal.returns-clause-lawful
returns-clause-lawful g c =
    subst (λ (ws : List (List ℕ)). (shard : ShardId) → IsServed ws shard →
    StaysLawful shard (g.S.Store.history c.args.store) (g.S.Store.history c.perform-ending.new.port.store))
    (ap (map string_bytes) c.deref.ensures.value) c.perform-ending.ensures.lawful
