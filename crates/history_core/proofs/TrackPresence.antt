-- One entry of a lawful history: the versions from the floor on stay live, and the parts that they name are there.
use Rattle.std.proofs.Common.{◌≡◌, ℕ, ◌+◌, ◌<◌, ◌≤◌, List, [], ◌∷◌, ◌⊎◌, inl, inr, arith, subst, sym, ap, ◌∙◌, Some}
use Rattle.state_core.specs.Lists.{Among}
use Rattle.update_core.specs.declared.updates.Update.{Update}
use Rattle.store_core.specs.declared.shards.ShardId.{ShardId}
use Rattle.store_core.specs.declared.part_keys.PartKey.{PartKey}
use Rattle.store_core.specs.Stores.{Stored}
use Rattle.store_core.specs.Ports.{Answered}
use Rattle.state_core.specs.declared.transitions.Transition.{Transition}
use Rattle.state_core.specs.declared.transitions.Transition.TheVariants.{Init, Join, Leave, Renew, Advance, Expire, Append, Merge}
use Rattle.state_core.specs.States.{ShardState, KeyFits, Names, floor}
use Rattle.state_core.specs.Steps.{Adds}
use Rattle.state_core.proofs.Floors.{floor_top, floor_rises}
use Rattle.state_core.proofs.Keys.{added_of, added_fresh, named_after}
use Rattle.history_core.specs.Readings.{rows_in}
use Rattle.history_core.specs.Discipline.{StoredAs, Hold, Holds}
use Rattle.history_core.specs.Stands.{KeysKept, IsPresent}
use Rattle.history_core.proofs.Tracks.{Track, HasState, TakesAt, EndsAt, Sound, Grown, Reached, Move, still, cuts, begins, grows, KeyMove, same, unnamed, taken, Moved}

pub below_or : (m n : ℕ) → (m ≤ n) ⊎ (n < m)
below_or m n = grind arith

-- each of the keys has bytes that are a part
hold_at : (P : PartKey → List ℕ → Type 0) (ks : List PartKey) (rows : List Update) (k : PartKey) → Hold P ks rows →
    Among (λ q. q ≡ k) ks → (b : List ℕ) × (part : List Update) × P k b × (rows_in b ≡ Some part)
hold_at P [] rows k h among = absurd among
hold_at P (q ∷ ks) rows k h (inl e) = (h.0, h.1, subst (λ (a : PartKey). P a h.0) e h.3, h.4)
hold_at P (q ∷ ks) rows k h (inr among) = hold_at P ks h.2 k h.6 among

-- what a transition adds was stored, and is a part
added_stored : (own : List Answered) (x : Transition) (k : PartKey) → Holds own x → Adds x k →
    (b : List ℕ) × (part : List Update) × StoredAs own k b × (rows_in b ≡ Some part)
added_stored own (Append member token expected new parts rows weight) k h a = hold_at (StoredAs own) parts h.updates k h.hold a
added_stored own (Merge member token left right merged) k h a = hold_at (StoredAs own) merged.parts h.outputs k h.hold a
added_stored own Init k h a = absurd a
added_stored own (Join kind now lease) k h a = absurd a
added_stored own (Leave member) k h a = absurd a
added_stored own (Renew member now) k h a = absurd a
added_stored own (Advance member to) k h a = absurd a
added_stored own (Expire now) k h a = absurd a

present_by : (s t : Stored) (k : PartKey) → t.blobs k ≡ s.blobs k → IsPresent s k → IsPresent t k
present_by s t k e h = (h.0, h.1, e ∙ h.2, h.3)

-- from the floor on the versions are live, and their keys are there
pub record PresentAt (t : Track) (live : ℕ → Type 0) (store : Stored) (number : ℕ) (last : ShardState) : Type 0 where
  pub live_on : (n : ℕ) → floor last ≤ n → n ≤ number → live n
  pub present : (n : ℕ) (s : ShardState) (k : PartKey) → floor last ≤ n → HasState t n s → Names s k → IsPresent store k

-- where there is a last version
abbrev pub PresentOn : Track → (ℕ → Type 0) → Stored → Type 0
PresentOn t live store = (number : ℕ) (last : ShardState) → EndsAt t number → HasState t number last → PresentAt t live store number last

-- the last version of a longer track is the new one
pub last_grown : (shard : ShardId) (old new : Track) → Sound shard old → (g : Grown old new) (number : ℕ) (last : ShardState) →
    EndsAt new number → HasState new number last → (number ≡ g.n + 1) × (last ≡ g.to)
last_grown shard old new sound g number last a h =
    elim (g.after number last h) [
      | inl old_one ↦
          let high = sound.below number last old_one in
          let a2 : number + 1 ≡ old.next + 1 = a ∙ g.ends in
          absurd (omega arith)
      | inr is ↦ is
    ]

module _ (shard : ShardId) (old new : Track) (store store2 : Stored) (own : List Answered) (was is : ℕ → Type 0) (rows : List Update) (sound : Sound shard old) (moved : Moved shard old new store store2 own was is rows) where
  -- a number that was a floor isn't above the last floor
  floor_past : (number : ℕ) (last : ShardState) → EndsAt old number → HasState old number last → (below : ℕ) →
      Reached old below → below ≤ floor last
  floor_past number last a h below r =
      let high = sound.below r.m r.s r.state in
      let end : number + 1 ≡ old.next = a in
      let up : floor r.s ≤ floor last = sound.rises floor (λ s s2 x ap2. floor_rises s s2 x ap2) r.m number (omega arith) r.s last r.state h in
      let low = r.low in
      omega arith

  -- an entry leaves the bytes of the keys that versions from the floor on name
  pub named_stay : (number : ℕ) (last : ShardState) → EndsAt old number → HasState old number last →
      (n : ℕ) (s : ShardState) (k : PartKey) → floor last ≤ n → HasState old n s → Names s k → store2.blobs k ≡ store.blobs k
  named_stay number last a h n s k le at named = go (moved.bytes k (keys.named n s k at named).of_shard)
    where
      keys : KeysKept shard (HasState old) (TakesAt old) last
      keys = sound.keys number last a h

      go : KeyMove old store store2 k → store2.blobs k ≡ store.blobs k
      go (same q) = q
      go (unnamed none) = absurd (none n s at named)
      go (taken m takes reached) =
          let up = floor_past number last a h m reached in
          absurd (keys.gone m n s k takes (omega arith) at named)

  -- what a transition adds that applied is there, as a part
  pub added_there : (g : Grown old new) (k : PartKey) (b : List ℕ) → Adds g.step k → StoredAs own k b → store.blobs k ≡ Some b
  added_there g k b added stored =
      let from_shard = sound.of_shard g.n g.from g.from_is in
      let (member, token, of, spends, acts) = added_of g.from g.to g.step k g.applies added in
      elim (moved.stored k b (of.shard_is ∙ from_shard) stored) [
        | inl there ↦ there
        | inr (n, takes) ↦
            let fits = (sound.keys g.n g.from g.last g.from_is).taken n k takes in
            absurd (added_fresh g.from g.to g.step k g.applies added (subst (λ (q : ShardId). KeyFits q g.from.next_member g.from.members k) (sym from_shard) fits))
      ]

  pub present_step : PresentOn old was store → PresentOn new is store2
  present_step older number last a h = go moved.move
    where
      -- nothing is added to the track
      kept : new ≡ old → ((old_live : (n : ℕ) → floor last ≤ n → n ≤ number → was n) → EndsAt old number →
          HasState old number last → (n : ℕ) → floor last ≤ n → n ≤ number → is n) → PresentAt new is store2 number last
      kept q lives =
          let a2 = subst (λ (t : Track). EndsAt t number) q a in
          let h2 = subst (λ (t : Track). HasState t number last) q h in
          let before = older number last a2 h2 in
          record {
            live_on = lives before.live_on a2 h2;
            present = λ n s k le at named.
                let at2 = subst (λ (t : Track). HasState t n s) q at in
                present_by store store2 k (named_stay number last a2 h2 n s k le at2 named) (before.present n s k le at2 named);
          }

      go : Move shard old new store store2 own was is rows → PresentAt new is store2 number last
      go (still q lives none) = kept q (λ old_live a2 h2 n le up. lives n (old_live n le up))
      go (cuts q below reached lives none) = kept q (λ old_live a2 h2 n le up. let past = floor_past number last a2 h2 below reached in lives n (omega arith) (old_live n le up))
      go (begins first live none) =
          let e : number + 1 ≡ 1 = a ∙ first.ends in
          record {
            live_on = λ n le up. let zero_is : 0 ≡ n = omega arith in subst is zero_is live;
            present = λ n s k le at named. absurd (subst (λ (t : ShardState). Names t k) (sym (first.first n s at)) named);
          }
      go (grows g holds bytes lives live appended) =
          let (number_is, last_is) = last_grown shard old new sound g number last a h in
          let before = older g.n g.from g.last g.from_is in
          let up : floor g.from ≤ floor g.to = floor_rises g.from g.to g.step g.applies in
          let up2 : floor last ≡ floor g.to = ap floor last_is in
          let number_from : g.from.number ≡ g.n = sound.number g.n g.from g.from_is in
          let top : floor g.from ≤ g.from.number = floor_top g.from.number g.from.members in
          record {
            live_on = λ n le up3. elim (below_or n g.n) [
              | inl small ↦ lives n (before.live_on n (omega arith) small)
              | inr big ↦ let e : g.n + 1 ≡ n = omega arith in subst is e live
            ];
            present = λ n s k le at named.
                present_by store store2 k (bytes k)
                (elim (g.after n s at) [
                  | inl old_one ↦ before.present n s k (omega arith) old_one named
                  | inr new_one ↦
                      elim (named_after g.from g.to g.step k g.applies (subst (λ (t : ShardState). Names t k) new_one.1 named)) [
                        | inl was_named ↦ before.present g.n g.from k (omega arith) g.from_is was_named
                        | inr added ↦
                            let (b, part, stored, reads) = added_stored own g.step k holds added in
                            (b, part, added_there g k b added stored, reads)
                      ]
                ]);
          }
