use Rattle.std.proofs.Common.{Ok, Option, List, ℕ, ap, map, string_bytes, subst, ◌∙◌}
use Rattle.std.specs.Prelude.{IfSome}
use Rattle.persist_app.specs.declared.crew_words.CrewWords.{CrewWords}
use Rattle.persist_app.specs.TopEnds.{NamesCrew, NoCrew}
use Rattle.persist_app.proofs.TopEndings.{crew_top, memory_top, plain_top}
use Rattle.persist_app.proofs.top.persist_top.Goals as goal

pub returns-in-Ok-Some-clause-ends : goal.returns-in-Ok-Some-clause-ends
returns-in-Ok-Some-clause-ends g c =
    let words = map string_bytes c.args.words.now.items in
    let crew = c.in-Ok-Some.crew in
    let history = g.S.Store.history in
    let left = g.So.Source.left in
    let reads = g.So.Source.reads in
    let faults = g.So.Source.faults in
    let taken = g.Si.Sink.taken in
    let puts = g.Si.Sink.faults in
    let src = c.args.src.now in
    let src_now = c.ingested.new.src in
    let out = c.args.out.now in
    let out_now = c.ingested.new.out in
    let store = c.args.store in
    let store_now = c.ingested.result.store in
    let names = subst (λ (ws : List (List ℕ)). NamesCrew ws crew) (ap (map string_bytes) c.deref.ensures.value)
    (subst (λ (found : Option CrewWords). IfSome found (NamesCrew (map string_bytes c.deref.result.now))) c.in-Ok-Some.field-0-is
    c.in-Ok-Some.ensures.some) in
    crew_top words c.ingested.result.status (history store) (history store_now) (g.S.Store.faults store) (g.S.Store.faults store_now) (left src)
    (left src_now) (reads src) (reads src_now) (faults src) (faults src_now) (taken out) (taken out_now) (puts out) (puts out_now) crew names
    c.ingested.ensures.ends c.ingested.ensures.reading c.ingested.ensures.lawful (λ at. ap history (c.ingested.ensures.untouched at))

pub returns-in-Ok-Some-clause-idle : goal.returns-in-Ok-Some-clause-idle
returns-in-Ok-Some-clause-idle g c =
    let crew = c.in-Ok-Some.crew in
    let names = subst (λ (ws : List (List ℕ)). NamesCrew ws crew) (ap (map string_bytes) c.deref.ensures.value)
    (subst (λ (found : Option CrewWords). IfSome found (NamesCrew (map string_bytes c.deref.result.now))) c.in-Ok-Some.field-0-is
    c.in-Ok-Some.ensures.some) in
    λ none. absurd (none crew names)

pub returns-in-Ok-None-clause-ends : goal.returns-in-Ok-None-clause-ends
returns-in-Ok-None-clause-ends g c =
    let words = map string_bytes c.args.words.now.items in
    let history = g.S.Store.history in
    let left = g.So.Source.left in
    let reads = g.So.Source.reads in
    let faults = g.So.Source.faults in
    let taken = g.Si.Sink.taken in
    let puts = g.Si.Sink.faults in
    let src = c.args.src.now in
    let src_now = c.persist_plain.new.src in
    let out = c.args.out.now in
    let out_now = c.persist_plain.new.out in
    let store = c.args.store in
    let store_now = c.persist_plain.result.store in
    let ends = c.persist_plain.ensures in
    let none = subst NoCrew (ap (map string_bytes) c.deref.ensures.value)
    (c.crew_of.ensures.none (c.in-Ok-None.is ∙ ap Ok c.in-Ok-None.field-0-is)) in
    plain_top words c.persist_plain.result.status (history store) (history store_now) (g.S.Store.faults store) (g.S.Store.faults store_now)
    (left src) (left src_now) (reads src) (reads src_now) (faults src) (faults src_now) (taken out) (taken out_now) (puts out) (puts out_now)
    none (record {
      statuses = ends.statuses;
      complete = ends.complete;
      no_command = ends.no_command;
      line = ends.line;
      input = ends.input;
      output = ends.output;
      store_failed = ends.store_failed;
      damaged = ends.damaged;
      members_full = ends.members_full;
      spent = ends.spent;
      reading = ends.reading;
      store = ends.store;
      lawful = ends.lawful;
      idle = λ no. (ap history (ends.idle no).0, ap left (ends.idle no).1);
      untouched = λ at. ap history (ends.untouched at);
    })

pub returns-in-Err-clause-ends : goal.returns-in-Err-clause-ends
returns-in-Err-clause-ends g c =
    memory_top (map string_bytes c.args.words.now.items) c.end_with.result (g.S.Store.history c.args.store) (g.S.Store.faults c.args.store)
    (g.So.Source.left c.args.src.now) (g.So.Source.reads c.args.src.now) (g.So.Source.faults c.args.src.now)
    (g.Si.Sink.taken c.args.out.now) (g.Si.Sink.taken c.end_with.new.out) (g.Si.Sink.faults c.args.out.now)
    (g.Si.Sink.faults c.end_with.new.out) c.end_with.ensures.ends
