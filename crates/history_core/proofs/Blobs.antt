-- Where the bytes under keys come from, and how long they stay.
use Rattle.std.proofs.Common.{◌≡◌, ℕ, ◌+◌, ◌<◌, ◌≤◌, Bool, cond, List, [], ◌∷◌, ◌⊎◌, inl, inr, refl, arith, subst, sym, ap, ◌∙◌, Some, None, Option}
use Rattle.state_core.specs.Lists.{Among}
use Rattle.state_core.proofs.ListLemmas.{each_among}
use Rattle.store_core.specs.declared.shards.ShardId.{ShardId}
use Rattle.store_core.specs.declared.part_keys.PartKey.{PartKey}
use Rattle.store_core.specs.declared.calls.Call.{Call}
use Rattle.store_core.specs.declared.calls.Call.TheVariants as calls
use Rattle.store_core.specs.declared.replies.Reply.{Reply}
use Rattle.store_core.specs.declared.replies.Reply.TheVariants as replies
use Rattle.store_core.specs.declared.outcomes.Outcome.{Outcome}
use Rattle.store_core.specs.declared.outcomes.Outcome.TheVariants.{Took, FailedTook, FailedLost}
use Rattle.store_core.specs.declared.entries.Entry.{Entry}
use Rattle.store_core.specs.Stores.{Log, Stored, committed}
use Rattle.store_core.specs.Histories.{after_outcome, reply_by}
use Rattle.store_core.specs.Ports.{Answered}
use Rattle.store_core.specs.Newest.{replay_back, mine_back}
use Rattle.state_core.specs.declared.transitions.Transition.{Transition}
use Rattle.state_core.specs.States.{ShardState, Names}
use Rattle.state_core.specs.Steps.{Spends}
use Rattle.version_codec.specs.Reading.{version_in}
use Rattle.history_core.specs.Histories.{ever}
use Rattle.history_core.specs.Discipline.{IsJoin, Owns, OwnsSome, IsCasUnder, SetsSame, IsStored, IsGot, StoredAs, GotAs, SetAllowed, Allows, LawfulBack}
use Rattle.history_core.specs.Stands.{StateIn, TakenIn}
use Rattle.state_core.proofs.Keys.{added_of, named_after}
use Rattle.history_core.proofs.Entries.{key_same, BlobStep, same, set, gone, blob_step, among_mine, mine_older, mine_newest, lawful_newest, lawful_older}
use Rattle.history_core.proofs.StateFacts.{state_after, state_first}
use Rattle.history_core.proofs.Standing.{Standing, standing, Owners, owners}
use Rattle.history_core.proofs.Turns.{Turn, still, shorter, begins, grows, turn, taken_ever_on, delete_shown}

-- where a history begins: what its versions name and its blobs hold is of members below a bound
pub record Begins (start : Stored) (shard : ShardId) (start_member : ℕ) : Type 0 where
  pub first : (start.logs shard).versions ≡ [] → (start.logs shard).first ≡ 0
  pub stands : Standing shard (start.logs shard) start_member
  pub named : (n : ℕ) (s : ShardState) (k : PartKey) → StateIn shard (start.logs shard) n s → Names s k → k.member < start_member
  pub known : (k : PartKey) (b : List ℕ) → k.shard ≡ shard → start.blobs k ≡ Some b → k.member < start_member

-- the entry sets the key to these bytes
abbrev pub IsSet : PartKey → List ℕ → Answered → Type 0
IsSet k b o = o.entry.call ≡ calls.Set k b

got-of : (k q : PartKey) (b : List ℕ) (o : Option (List ℕ)) → IsGot k b (calls.Get q) (replies.Bytes o) → (q ≡ k) × (o ≡ Some b)
got-of k q b None h = absurd h
got-of k q b (Some v) h = (h.0, ap Some h.1)

-- a Get that is answered with bytes found them there, and leaves them
pub got_now : (k : PartKey) (b : List ℕ) (store : Stored) (call : Call) (outcome : Outcome) →
    IsGot k b call (reply_by store call outcome) → (store.blobs k ≡ Some b) ×
    ((after_outcome store call outcome).blobs k ≡ store.blobs k)
got_now k b store (calls.Get q) Took h = let (e, there) = got-of k q b (store.blobs q) h in (subst (λ (a : PartKey). store.blobs a ≡ Some b) e there, refl)
got_now k b store (calls.Get q) FailedTook h = absurd h
got_now k b store (calls.Get q) FailedLost h = absurd h
got_now k b store (calls.Head q) Took h = absurd h
got_now k b store (calls.Scan q x) Took h = absurd h
got_now k b store (calls.Cas q x y) Took h = absurd h
got_now k b store (calls.Truncate q x) Took h = absurd h
got_now k b store (calls.Set q x) Took h = absurd h
got_now k b store (calls.Delete q) Took h = absurd h
got_now k b store (calls.Head q) FailedTook h = absurd h
got_now k b store (calls.Scan q x) FailedTook h = absurd h
got_now k b store (calls.Cas q x y) FailedTook h = absurd h
got_now k b store (calls.Truncate q x) FailedTook h = absurd h
got_now k b store (calls.Set q x) FailedTook h = absurd h
got_now k b store (calls.Delete q) FailedTook h = absurd h
got_now k b store (calls.Head q) FailedLost h = absurd h
got_now k b store (calls.Scan q x) FailedLost h = absurd h
got_now k b store (calls.Cas q x y) FailedLost h = absurd h
got_now k b store (calls.Truncate q x) FailedLost h = absurd h
got_now k b store (calls.Set q x) FailedLost h = absurd h
got_now k b store (calls.Delete q) FailedLost h = absurd h

stored-set : (k : PartKey) (b : List ℕ) (call : Call) (r : Reply) → IsStored k b call r → call ≡ calls.Set k b
stored-set k b (calls.Set q x) replies.Stored h = let e = h.0 in let f = h.1 in cc
stored-set k b (calls.Set q x) (replies.Version v) h = absurd h
stored-set k b (calls.Set q x) (replies.Versions v) h = absurd h
stored-set k b (calls.Set q x) (replies.Committed v) h = absurd h
stored-set k b (calls.Set q x) replies.Mismatch h = absurd h
stored-set k b (calls.Set q x) replies.Spent h = absurd h
stored-set k b (calls.Set q x) replies.Truncated h = absurd h
stored-set k b (calls.Set q x) (replies.Bytes v) h = absurd h
stored-set k b (calls.Set q x) replies.Deleted h = absurd h
stored-set k b (calls.Set q x) replies.Failed h = absurd h
stored-set k b (calls.Head q) r h = absurd h
stored-set k b (calls.Scan q x) r h = absurd h
stored-set k b (calls.Cas q x y) r h = absurd h
stored-set k b (calls.Truncate q x) r h = absurd h
stored-set k b (calls.Get q) r h = absurd h
stored-set k b (calls.Delete q) r h = absurd h

stored-took : (k : PartKey) (b : List ℕ) (store : Stored) (outcome : Outcome) →
    IsStored k b (calls.Set k b) (reply_by store (calls.Set k b) outcome) →
    (after_outcome store (calls.Set k b) outcome).blobs k ≡ Some b
stored-took k b store Took h = ap (λ (t : Bool). cond t (Some b) (store.blobs k)) (key_same k)
stored-took k b store FailedTook h = absurd h
stored-took k b store FailedLost h = absurd h

-- a Set that is answered Stored leaves the bytes
stored_now : (k : PartKey) (b : List ℕ) (store : Stored) (call : Call) (outcome : Outcome) →
    IsStored k b call (reply_by store call outcome) → (call ≡ calls.Set k b) ×
    ((after_outcome store call outcome).blobs k ≡ Some b)
stored_now k b store call outcome h =
    let e = stored-set k b call (reply_by store call outcome) h in
    (e, subst (λ (c : Call). (after_outcome store c outcome).blobs k ≡ Some b) (sym e) (stored-took k b store outcome (subst (λ (c : Call). IsStored k b c (reply_by store c outcome)) e h)))

module _ (start : Stored) (shard : ShardId) (start_member : ℕ) (begin : Begins start shard start_member) where
  abbrev pub Owned : List Entry → ℕ → PartKey → Type 0
  Owned es c k = Owns (mine_back start es c) shard k.member

  abbrev pub AddedBy : List Entry → PartKey → Type 0
  AddedBy es k = (c : ℕ) × Among (λ o. IsCasUnder shard k.member k.token o.entry.call) (mine_back start es c) × Owned es c k

  -- where the bytes of a key came from: the start, or a Set by the owner of its member
  abbrev pub Origin : List Entry → PartKey → List ℕ → Type 0
  Origin es k b = (k.member < start_member) ⊎ ((c : ℕ) × Among (IsSet k b) (mine_back start es c) × Owned es c k)

  pub stands_at : (es : List Entry) → LawfulBack start es → Standing shard (ever start shard es) start_member
  stands_at es l = standing start shard begin.first start_member es l begin.stands

  pub owners_at : (es : List Entry) → LawfulBack start es → Owners start shard begin.first start_member es
  owners_at es l = owners start shard begin.first start_member es l begin.stands

  pub owned_older : (e : Entry) (es : List Entry) (c : ℕ) (k : PartKey) → Owned es c k → Owned (e ∷ es) c k
  owned_older e es c k o = mine_older (λ (w : Answered). IsJoin shard k.member w.entry.call w.reply) start e es c o

  pub added_older : (e : Entry) (es : List Entry) (k : PartKey) → AddedBy es k → AddedBy (e ∷ es) k
  added_older e es k a = (a.0, mine_older (λ (w : Answered). IsCasUnder shard k.member k.token w.entry.call) start e es a.0 a.1, owned_older e es a.0 k a.2)

  pub origin_older : (e : Entry) (es : List Entry) (k : PartKey) (b : List ℕ) → Origin es k b → Origin (e ∷ es) k b
  origin_older e es k b (inl h) = inl h
  origin_older e es k b (inr a) = inr (a.0, mine_older (IsSet k b) start e es a.0 a.1, owned_older e es a.0 k a.2)

  -- the keys that versions name come from the start, or from a Cas of their member's owner
  abbrev pub Adders : List Entry → Type 0
  Adders es = (n : ℕ) (s : ShardState) (k : PartKey) → StateIn shard (ever start shard es) n s → Names s k → (k.member < start_member) ⊎ AddedBy es k

  adders_up : (e : Entry) (es : List Entry) (k : PartKey) → (k.member < start_member) ⊎ AddedBy es k →
      (k.member < start_member) ⊎ AddedBy (e ∷ es) k
  adders_up e es k (inl g) = inl g
  adders_up e es k (inr g) = inr (added_older e es k g)

  under : (call : Call) (n : ℕ) (bytes : List ℕ) (to : ShardState) (step : Transition) (m t : ℕ) →
      call ≡ calls.Cas shard (Some n) bytes → version_in shard (n + 1) bytes ≡ Some (to, step) → Spends step m t →
      IsCasUnder shard m t call
  under call n bytes to step m t c w sp = subst (λ (q : Call). IsCasUnder shard m t q) (sym c) (refl, rw w sp)

  adders_step : (e : Entry) (es : List Entry) → LawfulBack start (e ∷ es) → Adders es → Adders (e ∷ es)
  adders_step e es l older n s k h named = go (turn start shard begin.first e es l)
    where
      go : Turn start shard e es → (k.member < start_member) ⊎ AddedBy (e ∷ es) k
      go (still q r) = adders_up e es k (older n s k (subst (λ (g : Log). StateIn shard g n s) q h) named)
      go (shorter below c q r) = adders_up e es k (older n s k (subst (λ (g : Log). StateIn shard g n s) q h) named)
      go (begins expected bytes c f q r) =
          let h2 = subst (λ (g : Log). StateIn shard g n s) (q ∙ ap (λ (g : Log). committed g bytes) f.empty) h in
          absurd (subst (λ (t : ShardState). Names t k) (sym (state_first shard bytes f.first n s h2)) named)
      go (grows expected bytes c t k2 b q r) =
          let h2 = subst (λ (g : Log). StateIn shard g n s) q h in
          let m = b.commit in
          elim (state_after shard (ever start shard es) bytes m n s h2) [
            | inl g ↦ adders_up e es k (older n s k g named)
            | inr g ↦ elim (named_after m.from m.to m.step k m.applies (subst (λ (t2 : ShardState). Names t2 k) g.1 named)) [
              | inl before ↦ adders_up e es k (older m.n m.from k m.from_is before)
              | inr added ↦
                  let (member, token, of, spends, acts) = added_of m.from m.to m.step k m.applies added in
                  let spends2 = subst (λ (j : ℕ). Spends m.step j token) (sym of.member_is) spends in
                  let spends3 = subst (λ (j : ℕ). Spends m.step k.member j) (sym of.token_is) spends2 in
                  let owned = subst (λ (o : Option ℕ). OwnsSome (mine_back start es e.client) shard o) acts b.owned in
                  let owned2 = subst (λ (j : ℕ). Owns (mine_back start es e.client) shard j) (sym of.member_is) owned in
                  let call_is = subst (λ (o : Option ℕ). e.call ≡ calls.Cas shard o bytes) b.number c in
                  inr (e.client, mine_newest (λ (w : Answered). IsCasUnder shard k.member k.token w.entry.call) start e es (under e.call m.n bytes m.to m.step k.member k.token call_is m.written spends3), owned_older e es e.client k owned2)
            ]
          ]

  pub adders : (es : List Entry) → LawfulBack start es → Adders es
  adders [] l n s k h named = inl (begin.named n s k h named)
  adders (e ∷ es) l n s k h named = adders_step e es l (adders es (lawful_older start e es l)) n s k h named

  pub set_owned : (es : List Entry) (c : ℕ) (k : PartKey) (bytes : List ℕ) → k.shard ≡ shard →
      SetAllowed (mine_back start es c) k bytes → Owned es c k
  set_owned es c k bytes e a = subst (λ (q : ShardId). Owns (mine_back start es c) q k.member) e a.owned

  -- an allowed Set has the bytes that its key came with
  pub origin_same : (es : List Entry) → LawfulBack start es → (c : ℕ) (k : PartKey) (b bytes : List ℕ) → k.shard ≡ shard →
      Origin es k b → SetAllowed (mine_back start es c) k bytes → b ≡ bytes
  origin_same es l c k b bytes e (inl lt) a = let low : start_member ≤ k.member = (owners_at es l).new c k.member (set_owned es c k bytes e a) in absurd (omega arith)
  origin_same es l c k b bytes e (inr o) a =
      let me : o.0 ≡ c = (owners_at es l).one o.0 c k.member o.2 (set_owned es c k bytes e a) in
      let sets = subst (λ (j : ℕ). Among (IsSet k b) (mine_back start es j)) me o.1 in
      let (w, sames, is) = each_among (λ (w : Answered). SetsSame k bytes w.entry.call) (IsSet k b) (mine_back start es c) a.same sets in
      let sames2 = subst (λ (q : Call). SetsSame k bytes q) is sames in
      sames2 refl

  -- an allowed Set is of a key that no version names
  pub set_unnamed : (es : List Entry) → LawfulBack start es → (c : ℕ) (k : PartKey) (bytes : List ℕ) → k.shard ≡ shard →
      SetAllowed (mine_back start es c) k bytes → (n : ℕ) (s : ShardState) → StateIn shard (ever start shard es) n s →
      ¬ Names s k
  set_unnamed es l c k bytes e a n s h named = elim (adders es l n s k h named) [
    | inl lt ↦ let low : start_member ≤ k.member = (owners_at es l).new c k.member (set_owned es c k bytes e a) in omega arith
    | inr o ↦
        let me : o.0 ≡ c = (owners_at es l).one o.0 c k.member o.2 (set_owned es c k bytes e a) in
        let under2 = subst (λ (j : ℕ). Among (λ (w : Answered). IsCasUnder shard k.member k.token w.entry.call) (mine_back start es j)) me o.1 in
        a.fresh (subst (λ (q : ShardId). Among (λ (w : Answered). IsCasUnder q k.member k.token w.entry.call) (mine_back start es c)) (sym e) under2)
  ]

  pub allowed_set : (e : Entry) (es : List Entry) (k : PartKey) (bytes : List ℕ) → LawfulBack start (e ∷ es) →
      e.call ≡ calls.Set k bytes → SetAllowed (mine_back start es e.client) k bytes
  allowed_set e es k bytes l c = subst (Allows (mine_back start es e.client)) c (lawful_newest start e es l)

  -- all bytes under the shard's keys have an origin
  abbrev pub Origins : List Entry → Type 0
  Origins es = (k : PartKey) (b : List ℕ) → k.shard ≡ shard → (replay_back start es).blobs k ≡ Some b → Origin es k b

  origins_step : (e : Entry) (es : List Entry) → LawfulBack start (e ∷ es) → Origins es → Origins (e ∷ es)
  origins_step e es l older k b here there = go (blob_step k (replay_back start es) e.call e.outcome)
    where
      go : BlobStep k (replay_back start es) e.call e.outcome → Origin (e ∷ es) k b
      go (same q) = origin_older e es k b (older k b here (sym q ∙ there))
      go (set bytes c q) =
          let eq : bytes ≡ b = cc in
          let a = allowed_set e es k bytes l c in
          inr (e.client, mine_newest (IsSet k b) start e es (c ∙ ap (calls.Set k) eq), owned_older e es e.client k (set_owned es e.client k bytes here a))
      go (gone c q) = cc

  pub origins : (es : List Entry) → LawfulBack start es → Origins es
  origins [] l k b here there = inl (begin.known k b here there)
  origins (e ∷ es) l k b here there = origins_step e es l (origins es (lawful_older start e es l)) k b here there

  -- what a Get was answered with is what the key holds, if it holds anything
  abbrev pub Gets : List Entry → Type 0
  Gets es = (c : ℕ) (k : PartKey) (b : List ℕ) → k.shard ≡ shard → GotAs (mine_back start es c) k b → Origin es k b × (((replay_back start es).blobs k ≡ None) ⊎ ((replay_back start es).blobs k ≡ Some b))

  gets_step : (e : Entry) (es : List Entry) → LawfulBack start (e ∷ es) → Gets es → Gets (e ∷ es)
  gets_step e es l older c k b here got = elim (among_mine (λ (w : Answered). IsGot k b w.entry.call w.reply) start e es c got) [
    | inl p ↦
        let (there, keeps) = got_now k b (replay_back start es) e.call e.outcome p.1 in
        (origin_older e es k b (origins es before k b here there), inr (keeps ∙ there))
    | inr p ↦ let (o, holds) = older c k b here p in (origin_older e es k b o, go o holds (blob_step k (replay_back start es) e.call e.outcome))
  ]
    where
      before : LawfulBack start es
      before = lawful_older start e es l

      go : Origin es k b → (((replay_back start es).blobs k ≡ None) ⊎ ((replay_back start es).blobs k ≡ Some b)) →
          BlobStep k (replay_back start es) e.call e.outcome → ((replay_back start (e ∷ es)).blobs k ≡ None) ⊎
          ((replay_back start (e ∷ es)).blobs k ≡ Some b)
      go o holds (same q) = elim holds [ inl n ↦ inl (q ∙ n) | inr n ↦ inr (q ∙ n) ]
      go o holds (set bytes c2 q) = inr (q ∙ ap Some (sym (origin_same es before e.client k b bytes here o (allowed_set e es k bytes l c2))))
      go o holds (gone c2 q) = inl q

  pub gets : (es : List Entry) → LawfulBack start es → Gets es
  gets [] l c k b here got = absurd got
  gets (e ∷ es) l c k b here got = gets_step e es l (gets es (lawful_older start e es l)) c k b here got

  -- what a Set was answered Stored for is what the key holds, unless a version took the key
  abbrev pub Stores : List Entry → Type 0
  Stores es = (c : ℕ) (k : PartKey) (b : List ℕ) → k.shard ≡ shard → StoredAs (mine_back start es c) k b →
      Among (IsSet k b) (mine_back start es c) × Owned es c k × (((replay_back start es).blobs k ≡ Some b) ⊎ ((n : ℕ) × TakenIn shard (ever start shard es) n k))

  pub taken_on : (e : Entry) (es : List Entry) (n : ℕ) (k : PartKey) → TakenIn shard (ever start shard es) n k →
      TakenIn shard (ever start shard (e ∷ es)) n k
  taken_on e es n k t = taken_ever_on start shard e es n k t

  stores_step : (e : Entry) (es : List Entry) → LawfulBack start (e ∷ es) → Stores es → Stores (e ∷ es)
  stores_step e es l older c k b here st = elim (among_mine (λ (w : Answered). IsStored k b w.entry.call w.reply) start e es c st) [
    | inl p ↦
        let (is, holds) = stored_now k b (replay_back start es) e.call e.outcome p.1 in
        let a = allowed_set e es k b l is in (
          subst (λ (j : ℕ). Among (IsSet k b) (mine_back start (e ∷ es) j)) p.0 (mine_newest (IsSet k b) start e es is),
          subst (λ (j : ℕ). Owned (e ∷ es) j k) p.0 (owned_older e es e.client k (set_owned es e.client k b here a)),
          inl holds,
        )
    | inr p ↦
        let (sets, owned, holds) = older c k b here p in
        (mine_older (IsSet k b) start e es c sets, owned_older e es c k owned, go sets owned holds (blob_step k (replay_back start es) e.call e.outcome))
  ]
    where
      before : LawfulBack start es
      before = lawful_older start e es l

      go : Among (IsSet k b) (mine_back start es c) → Owned es c k →
          (((replay_back start es).blobs k ≡ Some b) ⊎ ((n : ℕ) × TakenIn shard (ever start shard es) n k)) →
          BlobStep k (replay_back start es) e.call e.outcome →
          ((replay_back start (e ∷ es)).blobs k ≡ Some b) ⊎ ((n : ℕ) × TakenIn shard (ever start shard (e ∷ es)) n k)
      go sets owned (inr t) step = inr (t.0, taken_on e es t.0 k t.1)
      go sets owned (inl h) (same q) = inl (q ∙ h)
      go sets owned (inl h) (set bytes c2 q) = inl (q ∙ ap Some (sym (origin_same es before e.client k b bytes here (inr (c, sets, owned)) (allowed_set e es k bytes l c2))))
      go sets owned (inl h) (gone c2 q) =
          let w = delete_shown start shard begin.first es e.client k here (subst (Allows (mine_back start es e.client)) c2 (lawful_newest start e es l)) in
          inr (w.n, taken_on e es w.n k w.taken)

  pub stores : (es : List Entry) → LawfulBack start es → Stores es
  stores [] l c k b here st = absurd st
  stores (e ∷ es) l c k b here st = stores_step e es l (stores es (lawful_older start e es l)) c k b here st
