use Rattle.std.proofs.Common.{◌≡◌, ℕ, List, [], ◌+◌, ◌++◌, take, drop, refl, sym, subst, ◌∙◌}
use Rattle.feed_text.proofs.Streams.{piece_taken, none_left}
use Rattle.feed_text.proofs.mem_sources.MemSourceSource.read.Goals as goal

pub returns-clause-taken : goal.returns-clause-taken
returns-clause-taken c =
    let s = c.args.self.now in
    let count = c.copy_front-count.result in
    let into = c.copy_front-count.new.into in
    let IsTaken : List ℕ → Type 0 = λ bytes. drop s.place bytes ≡ take count into ++ drop (s.place + count) bytes in
    (drop (s.place + count) s.bytes.items, subst IsTaken c.deref.ensures.value (piece_taken c.deref.result.now into s.place count c.copy_front-count.ensures.copied), refl)

pub returns-clause-end : goal.returns-clause-end
returns-clause-end c =
    λ none. let IsEmpty : List ℕ → Type 0 = λ bytes. drop c.args.self.now.place bytes ≡ [] in
    subst IsEmpty c.deref.ensures.value (none_left c.deref.result.now c.args.into.now c.args.self.now.place (sym c.copy_front-count.ensures.all ∙ none) c.requires)
