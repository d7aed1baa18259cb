-- The clients of a schedule, while one of them works.
use Rattle.std.proofs.Common.{◌≡◌, ◌≢◌, ℕ, suc, zero, ◌+◌, ◌<◌, ◌≤◌, inl, inr, ◌⊎◌, Option, Some, None, List, [], ◌∷◌, ◌++◌, length, refl, sym, ap, subst, ◌∙◌, arith}
use Rattle.std.specs.Prelude.{slice_index_or, slice_set}
use Rattle.std.specs.List.{AllByRecursion}
use Rattle.update_core.specs.declared.updates.Update.{Update}
use Rattle.store_core.specs.declared.shards.ShardId.{ShardId}
use Rattle.store_core.specs.declared.entries.Entry.{Entry}
use Rattle.store_core.specs.Histories.{History}
use Rattle.store_core.specs.Stores.{Stored}
use Rattle.store_core.specs.Ports.{GrowsByOthers, OfOthers, with_entries}
use Rattle.machine_core.specs.Machines.{Keeps, Words, shard_of}
use Rattle.machine_core.proofs.Fronts.{both_where, past_others, there_too}
use Rattle.machine_core.proofs.Polls.{others_where}
use Rattle.driving.specs.Goings.{GrowsBy}
use Rattle.driving.proofs.GoingLaws.{grows_none}
use Rattle.write_client.specs.Machining as write
use Rattle.write_client.proofs.Machining as write_proofs
use Rattle.read_client.specs.Machining as read
use Rattle.read_client.proofs.Machining as read_proofs
use Rattle.merge_client.specs.Machining as merge
use Rattle.merge_client.proofs.Machining as merge_proofs
use Rattle.maint_client.specs.Collecting as collect
use Rattle.maint_client.proofs.CollectKeeping as collect_proofs
use Rattle.maint_client.specs.Expiring as expire
use Rattle.maint_client.proofs.Keeping as expire_proofs
use Rattle.step_run.specs.declared.clients.Client.{Client}
use Rattle.step_run.specs.declared.clients.Client.TheVariants as clients
use Rattle.step_run.proofs.PastOthers.{KeepsPast, collects_past, expires_past, merges_past, reads_past, writes_past}
use Rattle.step_run.specs.Clients.{AllFit, Becomes, ClientFits, Fits, IsSound}

-- ---- while another client works

others_alone : (client other : ℕ) → client ≢ other → (es : List Entry) → AllByRecursion (λ e. e.client ≡ other) es → OfOthers client es
others_alone client other apart [] h = tt
others_alone client other apart (e ∷ es) h = (λ is. apart (sym is ∙ h.0), others_alone client other apart es h.1)

grows_for : (client other : ℕ) → client ≢ other → (a b : Option History) → GrowsBy other a b → GrowsByOthers client a b
grows_for client other apart None b grows = grows
grows_for client other apart (Some h) b (k, k_is, more, start_is, trail_is, own) =
    let same : k ≡ with_entries h more = λ i. record { start = start_is i; trail = trail_is i } in
    (more, others_alone client other apart more own, k_is ∙ ap (λ (q : History). Some q) same)

waits : {M A : Type 0} → (W : Words M A) → Keeps W → KeepsPast W → (shard : ShardId) (client other p q : ℕ) → client ≢ other → p ≤ q → (m : M)
    (a b : Option History) → GrowsBy other a b → Fits W shard client p a m → Fits W shard client q b m
waits {M = M} {A = A} W keeps past shard client other p q apart few m a b grows f = record {
  shard_is = f.shard_is;
  sound = f.sound;
  follows = others_where M A W keeps client a b m f.follows (grows_for client other apart a b grows);
  few = λ is. let below = f.few is in omega (arith, below, few);
  cost = λ is.
      let P : Stored → List Entry → List Update → Type 0 = λ start es list. W.Follows client m start es in
      let Q : Stored → List Entry → List Update → Type 0 = W.CostAt W.least client m in
      let both = past_others (shard_of W m) client a b (λ start es list. P start es list × Q start es list)
      (λ start others es list of h. (keeps.others_follow client m start others es of h.0, past client m start others es list of is f.sound h.0 h.1))
      (both_where (shard_of W m) a P Q f.follows (f.cost is)) (grows_for client other apart a b grows) in
      there_too (shard_of W m) b (λ start es list. P start es list × Q start es list) Q (λ start es list h. h.1) both;
}

pub client_waits : (shard : ShardId) (client other p q : ℕ) → client ≢ other → p ≤ q → (c : Client) (a b : Option History) → GrowsBy other a b →
    ClientFits shard client p a c → ClientFits shard client q b c
client_waits shard client other p q apart few (clients.Writer w) a b grows f =
    waits write.machine write_proofs.keeps writes_past shard client other p q apart few w a b grows f
client_waits shard client other p q apart few (clients.Reader r) a b grows f =
    waits read.machine read_proofs.keeps reads_past shard client other p q apart few r a b grows f
client_waits shard client other p q apart few (clients.Compactor c) a b grows f =
    waits merge.machine merge_proofs.keeps merges_past shard client other p q apart few c a b grows f
client_waits shard client other p q apart few (clients.Collector c) a b grows f =
    waits collect.collecting collect_proofs.keeps collects_past shard client other p q apart few c a b grows f
client_waits shard client other p q apart few (clients.Expirer x) a b grows f =
    waits expire.machine expire_proofs.keeps expires_past shard client other p q apart few x.tryer a b grows f

-- none of these has the other's number
pub all_wait : (shard : ShardId) (n other p q : ℕ) (cs : List Client) (a b : Option History) → (other < n) ⊎ (n + length cs ≤ other) → p ≤ q →
    GrowsBy other a b → AllFit shard p a n cs → AllFit shard q b n cs
all_wait shard n other p q [] a b apart few grows f = tt
all_wait shard n other p q (c ∷ cs) a b apart few grows f = (
  client_waits shard n other p q (first apart) few c a b grows f.0,
  all_wait shard (n + 1) other p q cs a b (rest apart) few grows f.1,
)
  where
    first : (other < n) ⊎ (n + length (c ∷ cs) ≤ other) → n ≢ other
    first (inl low) is = absurd (omega (arith, low, is))
    first (inr high) is = absurd (omega (arith, high, is))

    rest : (other < n) ⊎ (n + length (c ∷ cs) ≤ other) → (other < n + 1) ⊎ (n + 1 + length cs ≤ other)
    rest (inl low) = inl (omega (arith, low))
    rest (inr high) = inr (omega (arith, high))

-- more polls were asked for
pub all_more : (shard : ShardId) (p q : ℕ) (cs : List Client) (a : Option History) → p ≤ q → AllFit shard p a 0 cs → AllFit shard q a 0 cs
all_more shard p q cs a few f =
    let high : 0 + length cs ≤ length cs = omega arith in
    all_wait shard 0 (length cs) p q cs a a (inr high) few (grows_none (length cs) a) f

-- ---- one of them

pub fits_at : (shard : ShardId) (n p k : ℕ) (x : Client) (cs : List Client) (a : Option History) → k < length cs → AllFit shard p a n cs →
    ClientFits shard (n + k) p a (slice_index_or cs k x)
fits_at shard n p k x [] a less f = absurd (omega (arith, less))
fits_at shard n p zero x (c ∷ cs) a less f = subst (λ (m : ℕ). ClientFits shard m p a c) (let e : n ≡ n + 0 = omega arith in e) f.0
fits_at shard n p (suc k) x (c ∷ cs) a less f =
    subst (λ (m : ℕ). ClientFits shard m p a (slice_index_or cs k x)) (let e : n + 1 + k ≡ n + suc k = omega arith in e)
    (fits_at shard (n + 1) p k x cs a (omega (arith, less)) f.1)

-- one has worked, and the others have waited
pub worked : (shard : ShardId) (n p q k : ℕ) (d : Client) (cs : List Client) (a b : Option History) → k < length cs → p ≤ q → GrowsBy (n + k) a b →
    ClientFits shard (n + k) q b d → AllFit shard p a n cs → AllFit shard q b n (slice_set cs k d)
worked shard n p q k d [] a b less few grows fit f = absurd (omega (arith, less))
worked shard n p q zero d (c ∷ cs) a b less few grows fit f =
    let e : n + 0 ≡ n = omega arith in (
      subst (λ (m : ℕ). ClientFits shard m q b d) e fit,
      all_wait shard (n + 1) n p q cs a b (inl (omega arith)) few (subst (λ (m : ℕ). GrowsBy m a b) e grows) f.1,
    )
worked shard n p q (suc k) d (c ∷ cs) a b less few grows fit f =
    let e : n + suc k ≡ n + 1 + k = omega arith in (
      client_waits shard n (n + suc k) p q (λ is. absurd (omega (arith, is))) few c a b grows f.0,
      worked shard (n + 1) p q k d cs a b (omega (arith, less)) few (subst (λ (m : ℕ). GrowsBy m a b) e grows)
          (subst (λ (m : ℕ). ClientFits shard m q b d) e fit) f.1,
    )

-- one has begun, without a call
pub begun : (shard : ShardId) (n p k : ℕ) (x d : Client) (cs : List Client) (a : Option History) →
    (ClientFits shard (n + k) p a (slice_index_or cs k x) → ClientFits shard (n + k) p a d) → AllFit shard p a n cs →
    AllFit shard p a n (slice_set cs k d)
begun shard n p k x d [] a goes f = tt
begun shard n p zero x d (c ∷ cs) a goes f =
    let e : n + 0 ≡ n = omega arith in
    (subst (λ (m : ℕ). ClientFits shard m p a d) e (goes (subst (λ (m : ℕ). ClientFits shard m p a c) (sym e) f.0)), f.1)
begun shard n p (suc k) x d (c ∷ cs) a goes f =
    let e : n + suc k ≡ n + 1 + k = omega arith in (
      f.0,
      begun shard (n + 1) p k x d cs a
          (λ h. subst (λ (m : ℕ). ClientFits shard m p a d) e (goes (subst (λ (m : ℕ). ClientFits shard m p a (slice_index_or cs k x)) (sym e) h))) f.1,
    )

-- one more
pub one_more : (shard : ShardId) (n p : ℕ) (d : Client) (cs : List Client) (a : Option History) → ClientFits shard (n + length cs) p a d →
    AllFit shard p a n cs → AllFit shard p a n (cs ++ d ∷ [])
one_more shard n p d [] a fit f = (subst (λ (m : ℕ). ClientFits shard m p a d) (let e : n + 0 ≡ n = omega arith in e) fit, tt)
one_more shard n p d (c ∷ cs) a fit f = (
  f.0,
  one_more shard (n + 1) p d cs a
      (subst (λ (m : ℕ). ClientFits shard m p a d) (let e : n + length (c ∷ cs) ≡ n + 1 + length cs = omega arith in e) fit) f.1,
)

-- ---- besides any history

client_sound : (shard : ShardId) (n p : ℕ) (a : Option History) (c : Client) → ClientFits shard n p a c → IsSound c
client_sound shard n p a (clients.Writer w) f = f.sound
client_sound shard n p a (clients.Reader r) f = f.sound
client_sound shard n p a (clients.Compactor c) f = f.sound
client_sound shard n p a (clients.Collector c) f = f.sound
client_sound shard n p a (clients.Expirer x) f = f.sound

pub all_sound : (shard : ShardId) (n p : ℕ) (cs : List Client) (a : Option History) → AllFit shard p a n cs → AllByRecursion IsSound cs
all_sound shard n p [] a f = tt
all_sound shard n p (c ∷ cs) a f = (client_sound shard n p a c f.0, all_sound shard (n + 1) p cs a f.1)

pub sound_at : (k : ℕ) (x : Client) (cs : List Client) → k < length cs → AllByRecursion IsSound cs → IsSound (slice_index_or cs k x)
sound_at k x [] less h = absurd (omega (arith, less))
sound_at zero x (c ∷ cs) less h = h.0
sound_at (suc k) x (c ∷ cs) less h = sound_at k x cs (omega (arith, less)) h.1

-- ---- what one becomes

pub becomes_at : (how : Client → Client → Type 0) (none : Type 0) (k : ℕ) (x d : Client) (cs : List Client) → k < length cs →
    how (slice_index_or cs k x) d → Becomes how none k cs (slice_set cs k d)
becomes_at how none k x d [] less h = absurd (omega (arith, less))
becomes_at how none zero x d (c ∷ cs) less h = (d, h, refl)
becomes_at how none (suc k) x d (c ∷ cs) less h = (slice_set cs k d, becomes_at how none k x d cs (omega (arith, less)) h, refl)

pub becomes_none : (how : Client → Client → Type 0) (none : Type 0) (k : ℕ) (cs : List Client) → length cs ≤ k → none → Becomes how none k cs cs
becomes_none how none k [] less h = (h, refl)
becomes_none how none zero (c ∷ cs) less h = absurd (omega (arith, less))
becomes_none how none (suc k) (c ∷ cs) less h = (cs, becomes_none how none k cs (omega (arith, less)) h, refl)

-- ---- numbered from 0

pub first_fits : (shard : ShardId) (p k : ℕ) (x : Client) (cs : List Client) (a : Option History) → k < length cs → AllFit shard p a 0 cs →
    ClientFits shard k p a (slice_index_or cs k x)
first_fits shard p k x cs a less f =
    let e : 0 + k ≡ k = omega arith in
    subst (λ (m : ℕ). ClientFits shard m p a (slice_index_or cs k x)) e (fits_at shard 0 p k x cs a less f)

pub first_worked : (shard : ShardId) (p q k : ℕ) (d : Client) (cs : List Client) (a b : Option History) → k < length cs → p ≤ q → GrowsBy k a b →
    ClientFits shard k q b d → AllFit shard p a 0 cs → AllFit shard q b 0 (slice_set cs k d)
first_worked shard p q k d cs a b less few grows fit f =
    let e : k ≡ 0 + k = omega arith in
    worked shard 0 p q k d cs a b less few (subst (λ (m : ℕ). GrowsBy m a b) e grows) (subst (λ (m : ℕ). ClientFits shard m q b d) e fit) f

pub first_begun : (shard : ShardId) (p k : ℕ) (x d : Client) (cs : List Client) (a : Option History) →
    (ClientFits shard k p a (slice_index_or cs k x) → ClientFits shard k p a d) → AllFit shard p a 0 cs → AllFit shard p a 0 (slice_set cs k d)
first_begun shard p k x d cs a goes f =
    let e : 0 + k ≡ k = omega arith in
    begun shard 0 p k x d cs a (λ h. subst (λ (m : ℕ). ClientFits shard m p a d) (sym e)
    (goes (subst (λ (m : ℕ). ClientFits shard m p a (slice_index_or cs k x)) e h))) f
