-- What the code of a reading needs of its words.
use Rattle.std.proofs.Common.{◌≡◌, true, false, Option, Some, None, Result, Ok, Err, refl, sym, ap, subst, ◌∙◌}
use Rattle.std.specs.Prelude.{IsSome, IfOk}
use Rattle.std.specs.declared.alloc.AllocError.{AllocError}
use Rattle.store_core.specs.declared.part_keys.PartKey.{PartKey}
use Rattle.store_core.specs.declared.replies.Reply.{Reply}
use Rattle.store_core.specs.declared.replies.Reply.TheVariants as replies
use Rattle.state_core.specs.States.{ShardState}
use Rattle.load_core.specs.declared.damages.Damage.{Damage}
use Rattle.load_core.specs.declared.polls.Poll.{Poll}
use Rattle.load_core.specs.declared.sights.Seen.{Seen}
use Rattle.load_core.specs.declared.sights.Seen.TheVariants as seen
use Rattle.load_core.specs.Loading.{Shows}
use Rattle.load_core.proofs.Newest.{newest_or, or_before}
use Rattle.read_machine.specs.declared.courses.Course.{Course}
use Rattle.read_machine.specs.Courses.{Checks, ComesTo, Looks, ScansTo, holding, missing_poll}
use Rattle.read_machine.specs.Questions.{Questions}

-- where nothing newer came, the newest state is the one that was seen
nothing_newer : {A : Type 0} (old : Course) (does : ShardState → Course → Poll A →
    Type 0) (reply : Reply) (s : Seen) (new : Course)
    (poll : Poll A) → s ≡ seen.Nothing → Shows old.loader.shard reply s → ComesTo old does (Ok old.loader.cached) new poll →
    ScansTo old does reply new poll
nothing_newer old does reply s new poll is h comes = go reply (subst (Shows old.loader.shard reply) is h)
  where
    go : (r : Reply) → Shows old.loader.shard r seen.Nothing → ScansTo old does r new poll
    go replies.Failed k = absurd (let bad : seen.Nothing ≡ seen.Fault = k in cc)
    go (replies.Versions vs) k = subst (λ (x : Result (Option ShardState) Damage). ComesTo old does x new poll)
        (sym (newest_or old.loader.shard old.loader.cached vs ∙ ap (or_before old.loader.cached) k)) comes
    go (replies.Version v) k = absurd k
    go (replies.Committed n) k = absurd k
    go replies.Mismatch k = absurd k
    go replies.Spent k = absurd k
    go replies.Truncated k = absurd k
    go (replies.Bytes b) k = absurd k
    go replies.Stored k = absurd k
    go replies.Deleted k = absurd k

-- a course that knows a state holds it
held : (c : Course) (s : ShardState) → c.loader.cached ≡ Some s → c ≡ holding c s
held c s e = ap (λ (o : Option ShardState). let h : Course = record c { loader = record { shard = c.loader.shard; cached = o } }
    in h) e

module _ {Q A : Type 0} (W : Questions Q A) (old : Course) (q : Q) where
  -- after a Scan that tells why a part is missing
  checks_by : (key : PartKey) (cached : Option ShardState) → old.loader.cached ≡ cached → IsSome cached →
      ComesTo old (Checks W old q key) (Ok cached) old (missing_poll W old q key)
  checks_by key None e some = absurd (let bad : false ≡ true = some in cc)
  checks_by key (Some s) e some = let same = held old s e in (ap (λ (c : Course). missing_poll W c q key) same, same)

  pub nothing_checks : (key : PartKey) (reply : Reply) (s : Seen) (poll : Poll A) → s ≡ seen.Nothing → IsSome old.loader.cached →
      Shows old.loader.shard reply s → poll ≡ missing_poll W old q key → ScansTo old (Checks W old q key) reply old poll
  nothing_checks key reply s poll is some h told = subst (λ (p : Poll A). ScansTo old (Checks W old q key) reply old p) (sym told)
      (nothing_newer old (Checks W old q key) reply s old (missing_poll W old q key) is h
      (checks_by key old.loader.cached refl some))

  -- after one that shows what there is to be read, of each poll that it may come to
  pub nothing_scans : (reply : Reply) (s : Seen) (new : Course) (r : Result (Poll A) AllocError) → s ≡ seen.Nothing →
      Shows old.loader.shard reply s → IfOk r (λ poll. ComesTo old (Looks W old q) (Ok old.loader.cached) new poll) →
      IfOk r (λ poll. ScansTo old (Looks W old q) reply new poll)
  nothing_scans reply s new (Ok poll) is h also = nothing_newer old (Looks W old q) reply s new poll is h also
  nothing_scans reply s new (Err e) is h also = tt
