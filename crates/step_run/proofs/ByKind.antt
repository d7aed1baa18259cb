-- A client polled, said of its kind.
use Rattle.std.proofs.Common.{ℕ, Option, Result, Ok, Err, ◌≡◌, sym, subst}
use Rattle.store_core.specs.declared.shards.ShardId.{ShardId}
use Rattle.store_core.specs.Histories.{History}
use Rattle.driving.specs.Goings.{Goes}
use Rattle.write_client.specs.declared.writers.Writer.{Writer}
use Rattle.write_client.specs.Machining as write
use Rattle.read_client.specs.declared.readers.Reader.{Reader}
use Rattle.read_client.specs.Machining as read
use Rattle.merge_client.specs.declared.compactors.Compactor.{Compactor}
use Rattle.merge_client.specs.Machining as merge
use Rattle.maint_client.specs.declared.collectors.Collector.{Collector}
use Rattle.maint_client.specs.Collecting as collect
use Rattle.maint_client.specs.declared.expirers.Expirer.{Expirer}
use Rattle.maint_client.specs.Expiring as expire
use Rattle.step_run.specs.declared.clients.Client.{Client}
use Rattle.step_run.specs.declared.clients.Client.TheVariants as clients
use Rattle.step_run.specs.declared.sayings.Saying.{Saying}
use Rattle.step_run.specs.declared.step_faults.StepFault.{StepFault}
use Rattle.step_run.specs.declared.stepping.Stepped.{Stepped}
use Rattle.step_run.specs.Kinds.{ClientPollsTo}
use Rattle.step_run.specs.Polls.{PollsTo}
use Rattle.step_run.specs.Sayings.{collect_says, expire_says, merge_says, read_says, write_says}

module _ (shard : ShardId) (client polls : ℕ) (a b : Option History) where
  pub writes_polled : (c : Client) (m n : Writer) (r : Result (Stepped Saying) StepFault) → c ≡ clients.Writer m →
      Goes shard a b (PollsTo write.machine write_says shard client polls m n r) → Goes shard a b (ClientPollsTo shard client polls c (clients.Writer n) r)
  writes_polled c m n r is went =
      subst (λ (k : Client). Goes shard a b (ClientPollsTo shard client polls k (clients.Writer n) r)) (sym is) (by r went)
    where
      by : (q : Result (Stepped Saying) StepFault) → Goes shard a b (PollsTo write.machine write_says shard client polls m n q) →
          Goes shard a b (ClientPollsTo shard client polls (clients.Writer m) (clients.Writer n) q)
      by (Ok s) h = h
      by (Err fault) h = h

  pub reads_polled : (c : Client) (m n : Reader) (r : Result (Stepped Saying) StepFault) → c ≡ clients.Reader m →
      Goes shard a b (PollsTo read.machine read_says shard client polls m n r) → Goes shard a b (ClientPollsTo shard client polls c (clients.Reader n) r)
  reads_polled c m n r is went =
      subst (λ (k : Client). Goes shard a b (ClientPollsTo shard client polls k (clients.Reader n) r)) (sym is) (by r went)
    where
      by : (q : Result (Stepped Saying) StepFault) → Goes shard a b (PollsTo read.machine read_says shard client polls m n q) →
          Goes shard a b (ClientPollsTo shard client polls (clients.Reader m) (clients.Reader n) q)
      by (Ok s) h = h
      by (Err fault) h = h

  pub merges_polled : (c : Client) (m n : Compactor) (r : Result (Stepped Saying) StepFault) → c ≡ clients.Compactor m →
      Goes shard a b (PollsTo merge.machine merge_says shard client polls m n r) → Goes shard a b (ClientPollsTo shard client polls c (clients.Compactor n) r)
  merges_polled c m n r is went =
      subst (λ (k : Client). Goes shard a b (ClientPollsTo shard client polls k (clients.Compactor n) r)) (sym is) (by r went)
    where
      by : (q : Result (Stepped Saying) StepFault) → Goes shard a b (PollsTo merge.machine merge_says shard client polls m n q) →
          Goes shard a b (ClientPollsTo shard client polls (clients.Compactor m) (clients.Compactor n) q)
      by (Ok s) h = h
      by (Err fault) h = h

  pub collects_polled : (c : Client) (m n : Collector) (r : Result (Stepped Saying) StepFault) → c ≡ clients.Collector m →
      Goes shard a b (PollsTo collect.collecting collect_says shard client polls m n r) → Goes shard a b (ClientPollsTo shard client polls c (clients.Collector n) r)
  collects_polled c m n r is went =
      subst (λ (k : Client). Goes shard a b (ClientPollsTo shard client polls k (clients.Collector n) r)) (sym is) (by r went)
    where
      by : (q : Result (Stepped Saying) StepFault) → Goes shard a b (PollsTo collect.collecting collect_says shard client polls m n q) →
          Goes shard a b (ClientPollsTo shard client polls (clients.Collector m) (clients.Collector n) q)
      by (Ok s) h = h
      by (Err fault) h = h

  pub expires_polled : (c : Client) (m n : Expirer) (r : Result (Stepped Saying) StepFault) → c ≡ clients.Expirer m →
      Goes shard a b (PollsTo expire.machine expire_says shard client polls m.tryer n.tryer r) → Goes shard a b (ClientPollsTo shard client polls c (clients.Expirer n) r)
  expires_polled c m n r is went =
      subst (λ (k : Client). Goes shard a b (ClientPollsTo shard client polls k (clients.Expirer n) r)) (sym is) (by r went)
    where
      by : (q : Result (Stepped Saying) StepFault) → Goes shard a b (PollsTo expire.machine expire_says shard client polls m.tryer n.tryer q) →
          Goes shard a b (ClientPollsTo shard client polls (clients.Expirer m) (clients.Expirer n) q)
      by (Ok s) h = h
      by (Err fault) h = h
