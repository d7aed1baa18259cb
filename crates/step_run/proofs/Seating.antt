-- What a line does to the list of clients, over a store that nobody else calls.
use Rattle.std.proofs.Common.{◌≡◌, ℕ, ◌+◌, ◌<◌, ◌≤◌, inr, Option, Some, None, Ok, List, [], ◌∷◌, ◌++◌, length, refl, sym, ap, subst, arith}
use Rattle.std.specs.Prelude.{⊤, slice_index_or, slice_set}
use Rattle.update_core.specs.declared.updates.Update.{Update}
use Rattle.store_core.specs.declared.shards.ShardId.{ShardId}
use Rattle.store_core.specs.declared.versions.Version.{Version}
use Rattle.store_core.specs.declared.calls.Call.TheVariants as calls
use Rattle.store_core.specs.declared.replies.Reply.{Reply}
use Rattle.store_core.specs.declared.replies.Reply.TheVariants as replies
use Rattle.store_core.specs.declared.entries.Entry.{Entry}
use Rattle.store_core.specs.Stores.{Stored}
use Rattle.store_core.specs.Histories.{Adds, History}
use Rattle.store_core.specs.Newest.{mine_back}
use Rattle.history_core.specs.Discipline.{Allows}
use Rattle.load_core.specs.Fronts.{Backwards, WhereLawful}
use Rattle.driving.specs.Goings.{Goes, GrowsBy}
use Rattle.driving.proofs.GoingLaws.{adds_go, going_so, no_going}
use Rattle.step_text.specs.declared.makes.Made.{Made}
use Rattle.step_run.specs.declared.clients.Client.{Client}
use Rattle.step_run.specs.declared.entered.Entered.{Entered}
use Rattle.step_run.specs.declared.heard.Heard.{Heard}
use Rattle.step_run.specs.declared.heard.Heard.TheVariants as hears
use Rattle.step_run.specs.declared.sayings.Saying.{Saying}
use Rattle.step_run.specs.declared.step_faults.StepFault.{StepFault}
use Rattle.step_run.specs.declared.stepping.Stepped.{Stepped}
use Rattle.step_run.specs.Clients.{AllFit, ClientFits}
use Rattle.step_run.specs.Faults.{FailedBy}
use Rattle.step_run.specs.Lines.{Heads, MakesAt, OrFails, StepsAt, StepsOne}
use Rattle.step_run.specs.Makes.{Makes, MakesTo}
use Rattle.step_run.specs.Kinds.{ClientPollsTo}
use Rattle.step_run.proofs.Fitting.{all_wait, becomes_at, becomes_none, one_more}

module _ (shard : ShardId) where
  -- nothing is promised
  pub goes_any : (a b : Option History) (how : List Update → Stored → List Entry → List Entry → Type 0) → Goes shard a b how →
      Goes shard a b (λ list start es now. ⊤)
  goes_any a b how went = going_so shard a b how (λ list start es now. ⊤) went (λ list start es now bt h. tt)

  pub rests_any : (a b : Option History) → b ≡ a → Goes shard a b (λ list start es now. ⊤)
  rests_any a b same = subst (λ (f : Option History). Goes shard a f (λ list start es now. ⊤)) (sym same)
      (no_going shard a (λ list start es now. ⊤) (λ list start es. tt))

  -- a fault under another name
  pub fault_as : (a d : Option History) (fault e : StepFault) → e ≡ fault → Goes shard a d (λ list start es now. FailedBy shard fault start es now) →
      Goes shard a d (λ list start es now. FailedBy shard e start es now)
  fault_as a d fault e is went = subst (λ (f : StepFault). Goes shard a d (λ list start es now. FailedBy shard f start es now)) (sym is) went

  -- ---- a client is made

  pub next_made : (moment : ℕ) (made : Made) (client : ℕ) (entered : Entered) (cs ds : List Client) (a b : Option History) → client ≡ length cs →
      ds ≡ cs ++ entered.client ∷ [] → Goes shard a b (MakesTo shard (Makes shard moment made client) (Ok entered)) →
      Goes shard a b (OrFails shard (MakesAt shard moment made cs ds) (Ok (hears.Client client 0 entered.said)))
  next_made moment made client entered cs ds a b number next went =
      going_so shard a b (MakesTo shard (Makes shard moment made client) (Ok entered))
      (OrFails shard (MakesAt shard moment made cs ds) (Ok (hears.Client client 0 entered.said))) went (λ list start es now bt x. record {
        entered = entered;
        makes = subst (λ (n : ℕ). Makes shard moment made n entered list start es now) number x;
        next = next;
        heard_is = ap (λ (n : ℕ). hears.Client n 0 entered.said) number;
      })

  pub next_fits : (n : ℕ) (d : Client) (cs : List Client) (a b : Option History) → n ≡ length cs → GrowsBy n a b →
      ((polls : ℕ) → ClientFits shard n polls b d) → (polls : ℕ) → AllFit shard polls a 0 cs → AllFit shard polls b 0 (cs ++ d ∷ [])
  next_fits n d cs a b number grows fit polls f =
      let high : 0 + length cs ≤ n = omega (arith, number) in
      let place : n ≡ 0 + length cs = omega (arith, number) in
      one_more shard 0 polls d cs b (subst (λ (m : ℕ). ClientFits shard m polls b d) place (fit polls))
      (all_wait shard 0 n polls polls cs a b (inr high) (omega arith) grows f)

  -- ---- a client is polled

  pub steps_one : (number polls : ℕ) (x d : Client) (cs : List Client) (a b : Option History) (stepped : Stepped Saying) → number < length cs →
      Goes shard a b (ClientPollsTo shard number polls (slice_index_or cs number x) d (Ok stepped)) →
      Goes shard a b (OrFails shard (StepsAt number polls cs (slice_set cs number d)) (Ok (hears.Client number stepped.faults stepped.answer)))
  steps_one number polls x d cs a b stepped less went =
      let heard : Heard = hears.Client number stepped.faults stepped.answer in
      going_so shard a b (ClientPollsTo shard number polls (slice_index_or cs number x) d (Ok stepped))
      (OrFails shard (StepsAt number polls cs (slice_set cs number d)) (Ok heard)) went (λ list start es now bt h.
      becomes_at (StepsOne number polls heard list start es now) ((heard ≡ hears.Nothing) × (now ≡ es)) number x d cs less
      (record { stepped = stepped; steps = h; heard_is = refl }))

  pub steps_none : (number polls : ℕ) (cs : List Client) (a : Option History) → length cs ≤ number →
      Goes shard a a (OrFails shard (StepsAt number polls cs cs) (Ok hears.Nothing))
  steps_none number polls cs a high = no_going shard a (OrFails shard (StepsAt number polls cs cs) (Ok hears.Nothing)) (λ list start es.
      becomes_none (StepsOne number polls hears.Nothing list start es es) ((hears.Nothing ≡ hears.Nothing) × (es ≡ es)) number cs high (refl, refl))

  -- ---- a Head

  head_allowed : (client : ℕ) (a : Option History) → WhereLawful shard a (Backwards (λ start es list. Allows (mine_back start es client) (calls.Head shard)))
  head_allowed client None = tt
  head_allowed client (Some h) = λ list st l. tt

  pub head_comes : (client : ℕ) (a b : Option History) (last : Option Version) → Adds a b client (calls.Head shard) (replies.Version last) →
      Goes shard a b (OrFails shard (λ heard list start es now. Heads shard client heard start es now) (Ok (hears.Head last)))
  head_comes client a b last adds =
      adds_go shard client a b (calls.Head shard) (replies.Version last)
      (OrFails shard (λ heard list start es now. Heads shard client heard start es now) (Ok (hears.Head last))) adds (head_allowed client a)
      (λ list start es e own call_is reply_is. record {
        entry = e;
        split = refl;
        own = own;
        call = call_is;
        last = last;
        answer = sym reply_is;
        heard_is = refl;
      })

  pub head_fails : (client : ℕ) (a b : Option History) (r : Reply) → Adds a b client (calls.Head shard) r → Goes shard a b (λ list start es now. ⊤)
  head_fails client a b r adds = adds_go shard client a b (calls.Head shard) r (λ list start es now. ⊤) adds (head_allowed client a)
      (λ list start es e own call_is reply_is. tt)
