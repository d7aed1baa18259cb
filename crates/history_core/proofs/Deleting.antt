-- What a client's Delete was answered for is absent from then on.
use Rattle.std.proofs.Common.{◌≡◌, ℕ, ◌<◌, ◌≤◌, ◌⊎◌, Bool, cond, List, [], ◌∷◌, inl, inr, sym, ap, subst, ◌∙◌, arith, None}
use Rattle.std.specs.Prelude.{reverse}
use Rattle.update_core.specs.declared.updates.Update.{Update}
use Rattle.store_core.specs.declared.shards.ShardId.{ShardId}
use Rattle.store_core.specs.declared.part_keys.PartKey.{PartKey}
use Rattle.store_core.specs.declared.calls.Call.{Call}
use Rattle.store_core.specs.declared.calls.Call.TheVariants as calls
use Rattle.store_core.specs.declared.replies.Reply.{Reply}
use Rattle.store_core.specs.declared.replies.Reply.TheVariants as replies
use Rattle.store_core.specs.declared.outcomes.Outcome.{Outcome}
use Rattle.store_core.specs.declared.outcomes.Outcome.TheVariants.{Took}
use Rattle.store_core.specs.declared.entries.Entry.{Entry}
use Rattle.store_core.specs.Stores.{Log, Stored, committed}
use Rattle.store_core.specs.Histories.{after_outcome, reply_by}
use Rattle.store_core.specs.Ports.{Answered}
use Rattle.store_core.specs.Newest.{replay_back, mine_back}
use Rattle.store_core.proofs.NewestLaws.{replay-newest, mine-newest}
use Rattle.state_core.specs.declared.transitions.Transition.{Transition}
use Rattle.state_core.specs.Lists.{Among}
use Rattle.state_core.specs.Steps.{Takes}
use Rattle.state_core.proofs.Keys.{taken_named}
use Rattle.history_core.specs.Histories.{ever}
use Rattle.history_core.specs.Discipline.{IsCasUnder, IsDeleted, DeletedBy, SetAllowed, Allows, LawfulBack}
use Rattle.history_core.specs.Stands.{TakenIn, VersionIs}
use Rattle.history_core.specs.Lasting.{DeletedStays}
use Rattle.history_core.proofs.Entries.{key_same, BlobStep, same, set, gone, blob_step, among_mine, lawful_newest, lawful_older}
use Rattle.history_core.proofs.Chains.{after_commit}
use Rattle.history_core.proofs.KeyChains.{only_first}
use Rattle.history_core.proofs.Standing.{Standing}
use Rattle.history_core.proofs.Turns.{Turn, still, shorter, begins, grows, turn, delete_shown}
use Rattle.history_core.proofs.Blobs.{AddedBy, Owned, added_older, adders, allowed_set, owners_at, set_owned, taken_on}
use Rattle.history_core.proofs.Bases.{Base, base_of, none_there}
use Rattle.history_core.proofs.Prefixes.{lawful_back}

deleted-call : (k : PartKey) (call : Call) (r : Reply) → IsDeleted k call r → call ≡ calls.Delete k
deleted-call k (calls.Delete q) replies.Deleted h = ap calls.Delete h
deleted-call k _ _ h = absurd h

deleted-took : (k : PartKey) (store : Stored) (outcome : Outcome) → IsDeleted k (calls.Delete k) (reply_by store (calls.Delete k) outcome) →
    (after_outcome store (calls.Delete k) outcome).blobs k ≡ None
deleted-took k store Took h = ap (λ (t : Bool). cond t None (store.blobs k)) (key_same k)
deleted-took k store _ h = absurd h

-- a Delete that was answered leaves nothing
pub deleted_now : (k : PartKey) (store : Stored) (call : Call) (outcome : Outcome) → IsDeleted k call (reply_by store call outcome) →
    (call ≡ calls.Delete k) × ((after_outcome store call outcome).blobs k ≡ None)
deleted_now k store call outcome h =
    let is = deleted-call k call (reply_by store call outcome) h in (
      is,
      subst (λ (c : Call). (after_outcome store c outcome).blobs k ≡ None) (sym is)
          (deleted-took k store outcome (subst (λ (c : Call). IsDeleted k c (reply_by store c outcome)) is h)),
    )

module _ (start : Stored) (shard : ShardId) (list : List Update) (base : Base start shard list) where
  -- a key comes from the start, or from a Cas of its member's owner
  Came : List Entry → PartKey → Type 0
  Came es k = (k.member < base.start_member) ⊎ AddedBy start shard base.start_member base.begin es k

  came_on : (e : Entry) (es : List Entry) (k : PartKey) → Came es k → Came (e ∷ es) k
  unfolding Came
  came_on e es k (inl lt) = inl lt
  came_on e es k (inr by) = inr (added_older start shard base.start_member base.begin e es k by)

  start_taken : (n : ℕ) (k : PartKey) → TakenIn shard (start.logs shard) n k → k.member < base.start_member
  start_taken n k t = go base.begin.stands
    where
      go : Standing shard (start.logs shard) base.start_member → k.member < base.start_member
      go (inl none) = absurd (none_there shard (start.logs shard) n t.0 none.0 (t.1, t.2))
      go (inr kept) =
          let fits = kept.keys.taken n k t in
          let below : k.member < kept.last.next_member = fits.below in
          let bound : kept.last.next_member ≤ base.start_member = base.known kept.number kept.last kept.newest kept.state in
          omega arith

  -- so does each key that a version took
  Taken : List Entry → Type 0
  unfolding Came
  Taken es = (n : ℕ) (k : PartKey) → TakenIn shard (ever start shard es) n k → Came es k

  taken_step : (e : Entry) (es : List Entry) → LawfulBack start (e ∷ es) → Taken es → Taken (e ∷ es)
  unfolding Came Taken
  taken_step e es l before n k t = go (turn start shard base.begin.first e es l)
    where
      older : ever start shard (e ∷ es) ≡ ever start shard es → Came (e ∷ es) k
      older q = came_on e es k (before n k (subst (λ (g : Log). TakenIn shard g n k) q t))

      go : Turn start shard e es → Came (e ∷ es) k
      go (still q r) = older q
      go (shorter below c q r) = older q
      go (begins expected bytes c f q r) =
          let first = subst (λ (g : Log). VersionIs shard g n t.0 t.1) (q ∙ ap (λ (g : Log). committed g bytes) f.empty) t.2 in
          absurd (subst (λ (y : Transition). Takes y k) (sym (only_first shard bytes f.first n t.0 t.1 first).1) t.3)
      go (grows expected bytes c took k2 b q r) =
          let m = b.commit in
          elim (after_commit shard (ever start shard es) bytes m n t.0 t.1 (subst (λ (g : Log). VersionIs shard g n t.0 t.1) q t.2)) [
            | inl g ↦ came_on e es k (before n k (t.0, t.1, g, t.3))
            | inr g ↦
                let named = taken_named m.from m.to m.step k m.applies (subst (λ (y : Transition). Takes y k) g.2 t.3) in
                came_on e es k (adders start shard base.start_member base.begin es (lawful_older start e es l) m.n m.from k m.from_is named)
          ]

  taken_came : (es : List Entry) → LawfulBack start es → Taken es
  unfolding Came Taken
  taken_came [] l = λ n k t. inl (start_taken n k t)
  taken_came (e ∷ es) l = taken_step e es l (taken_came es (lawful_older start e es l))

  -- an allowed Set is of a key that no version took
  set_untaken : (es : List Entry) → LawfulBack start es → (c : ℕ) (k : PartKey) (bytes : List ℕ) → k.shard ≡ shard →
      SetAllowed (mine_back start es c) k bytes → (n : ℕ) → ¬ TakenIn shard (ever start shard es) n k
  unfolding Came Taken
  set_untaken es l c k bytes e a n t = go (taken_came es l n k t)
    where
      owned : Owned start shard base.start_member base.begin es c k
      owned = set_owned start shard base.start_member base.begin es c k bytes e a

      go : Came es k → ⊥
      go (inl lt) =
          let low : base.start_member ≤ k.member = (owners_at start shard base.start_member base.begin es l).new c k.member owned in
          omega arith
      go (inr o) =
          let me : o.0 ≡ c = (owners_at start shard base.start_member base.begin es l).one o.0 c k.member o.2 owned in
          let under = subst (λ (j : ℕ). Among (λ (w : Answered). IsCasUnder shard k.member k.token w.entry.call) (mine_back start es j)) me o.1 in
          a.fresh (subst (λ (q : ShardId). Among (λ (w : Answered). IsCasUnder q k.member k.token w.entry.call) (mine_back start es c)) (sym e) under)

  -- a key that a version took, and that is absent
  Gone : List Entry → PartKey → Type 0
  Gone es k = ((replay_back start es).blobs k ≡ None) × ((n : ℕ) × TakenIn shard (ever start shard es) n k)

  gone_on : (e : Entry) (es : List Entry) (k : PartKey) → LawfulBack start (e ∷ es) → k.shard ≡ shard → Gone es k → Gone (e ∷ es) k
  unfolding Gone
  gone_on e es k l here (none, (n, t)) =
      (go (blob_step k (replay_back start es) e.call e.outcome), (n, taken_on start shard base.start_member base.begin e es n k t))
    where
      go : BlobStep k (replay_back start es) e.call e.outcome → (replay_back start (e ∷ es)).blobs k ≡ None
      go (same q) = q ∙ none
      go (set bytes c q) = absurd (set_untaken es (lawful_older start e es l) e.client k bytes here
          (allowed_set start shard base.start_member base.begin e es k bytes l c) n t)
      go (gone c q) = q

  deleted : (es : List Entry) → LawfulBack start es → (c : ℕ) (k : PartKey) → k.shard ≡ shard → DeletedBy (mine_back start es c) k → Gone es k
  unfolding Gone
  deleted [] l c k here d = absurd d
  deleted (e ∷ es) l c k here d =
      elim (among_mine (λ (w : Answered). IsDeleted k w.entry.call w.reply) start e es c d) [
        | inl now ↦
            let (is, none) = deleted_now k (replay_back start es) e.call e.outcome now.1 in
            let shown = delete_shown start shard base.begin.first es e.client k here (subst (Allows (mine_back start es e.client)) is (lawful_newest start e es l)) in
            (none, (shown.n, taken_on start shard base.start_member base.begin e es shown.n k shown.taken))
        | inr before ↦ gone_on e es k l here (deleted es (lawful_older start e es l) c k here before)
      ]

  -- what a client deleted is absent
  pub deleted_absent : (es : List Entry) → LawfulBack start es → (c : ℕ) (k : PartKey) → k.shard ≡ shard →
      DeletedBy (mine_back start es c) k → (replay_back start es).blobs k ≡ None
  unfolding Gone
  deleted_absent es l c k here d = (deleted es l c k here d).0

pub deleted_law : DeletedStays
deleted_law shard list h st l c k here d =
    let none = deleted_absent h.start shard list (base_of h.start shard list st) (reverse h.trail) (lawful_back h l) c k here
    (subst (λ (own : List Answered). DeletedBy own k) (mine-newest h c) d) in
    subst (λ (s : Stored). s.blobs k ≡ None) (sym (replay-newest h.start h.trail)) none
