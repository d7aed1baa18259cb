-- A lawful history leads from a store that stands for a list to one that stands for the accepted list.
use Rattle.std.proofs.Common.{◌≡◌, ℕ, ◌+◌, ◌<◌, ◌≤◌, List, [], ◌⊎◌, inl, inr, refl, arith, subst, sym, ap, ◌∙◌, Some, None, Option}
use Rattle.update_core.specs.declared.updates.Update.{Update}
use Rattle.store_core.specs.declared.shards.ShardId.{ShardId}
use Rattle.store_core.specs.declared.part_keys.PartKey.{PartKey}
use Rattle.store_core.specs.declared.calls.Call.TheVariants as calls
use Rattle.store_core.specs.declared.entries.Entry.{Entry}
use Rattle.store_core.specs.Stores.{Stored, no_log, last_number}
use Rattle.store_core.specs.Newest.{replay_back, mine_back}
use Rattle.state_core.specs.Lists.{Among}
use Rattle.state_core.specs.declared.transitions.Transition.{Transition}
use Rattle.state_core.specs.States.{ShardState, floor}
use Rattle.version_codec.specs.Reading.{version_in}
use Rattle.history_core.proofs.StateFacts.{state_number}
use Rattle.state_core.proofs.Floors.{floor_top}
use Rattle.history_core.specs.Histories.{version_at, ever}
use Rattle.history_core.specs.Discipline.{LawfulBack, Owns}
use Rattle.history_core.specs.Stands.{VersionIs, StateIn, end_of, StandsFor, Empty, Collection, accepted}
use Rattle.history_core.proofs.Logs.{last_none_empty}
use Rattle.history_core.proofs.Versions.{Agree, logs_agree, live}
use Rattle.history_core.proofs.Chains.{version_is, bytes_of}
use Rattle.history_core.proofs.Owners.{owned_version, log_is}
use Rattle.history_core.proofs.Standing.{Kept, standing, owns_below}
use Rattle.history_core.proofs.Blobs.{origins}
use Rattle.history_core.proofs.Presence.{presence}
use Rattle.history_core.proofs.Content.{contained, empty_list}
use Rattle.history_core.proofs.Bases.{Base, none_there}

module _ (start : Stored) (shard : ShardId) (list : List Update) (base : Base start shard list) (es : List Entry) (l : LawfulBack start es) where
  pub agree_at : Agree (live start shard es) (ever start shard es)
  agree_at = logs_agree start shard base.begin.first es

  -- a live version is one that ever was
  pub live_ever : (n : ℕ) (s : ShardState) (x : Transition) → VersionIs shard (live start shard es) n s x → VersionIs shard (ever start shard es) n s x
  live_ever n s x h =
      let (b, there, reads) = bytes_of shard (live start shard es) n s x h in
      version_is shard (ever start shard es) n b s x (agree_at.old n b there) reads

  -- the state of a live version is the one that ever was
  pub ever_live : (n : ℕ) (s : ShardState) (b : List ℕ) → StateIn shard (ever start shard es) n s → version_at (live start shard es) n ≡ Some b → StateIn shard (live start shard es) n s
  ever_live n s b h there =
      let (b2, there2, reads) = bytes_of shard (ever start shard es) n s h.0 h.1 in
      let there3 = agree_at.old n b there in
      let e : b2 ≡ b = cc in
      (h.0, version_is shard (live start shard es) n b s h.0 there (subst (λ (q : List ℕ). version_in shard n q ≡ Some (s, h.0)) e reads))

  stands_empty : (ever start shard es ≡ no_log) × (base.start_member ≡ 0) → Empty (replay_back start es) shard (accepted shard list start es)
  stands_empty p = record {
    no_version = log_is (live start shard es) none (let e : end_of (live start shard es) ≡ 0 = agree_at.next ∙ ap end_of p.0 in omega arith);
    no_update = empty_list start shard base.start_member base.begin list base.present base.unstarted es l p.0;
    no_key = λ k here. go k here ((replay_back start es).blobs k) refl;
  }
    where
      none : (live start shard es).versions ≡ []
      none = last_none_empty (live start shard es) (agree_at.last ∙ ap last_number p.0)

      go : (k : PartKey) → k.shard ≡ shard → (o : Option (List ℕ)) → (replay_back start es).blobs k ≡ o → o ≡ None
      go k here None e = refl
      go k here (Some b) e = elim (origins start shard base.start_member base.begin es l k b here e) [
        | inl lt ↦ absurd (let z2 : base.start_member ≡ 0 = p.1 in omega arith)
        | inr w ↦
            let (n, s, x, is, number) = owned_version start shard base.begin.first es w.0 k.member w.2 in
            absurd (none_there shard (ever start shard es) n s p.0 (x, is))
      ]

  stands_kept : Kept shard (ever start shard es) base.start_member → Collection (replay_back start es) shard (accepted shard list start es)
  stands_kept k =
      let here = presence start shard base.start_member base.begin base.present es l k.number k.last k.newest k.state in
      let held = contained start shard base.start_member base.begin list base.present base.unstarted base.content es l k.number k.last k.newest k.state in
      let number_is : k.last.number ≡ k.number = state_number shard (ever start shard es) k.number k.last k.state in
      let top : floor k.last ≤ k.last.number = floor_top k.last.number k.last.members in
      let (b, there) = here.live_on k.number (omega arith) (omega arith) in
      record {
        number = k.number;
        last = k.last;
        newest = k.newest ∙ sym agree_at.next;
        state = ever_live k.number k.last b k.state there;
        chain = record {
          each = λ n v h. k.chain.each n v (agree_at.old n v h);
          first = λ s x h. k.chain.first s x (live_ever 0 s x h);
          step = λ n s s2 x x2 h h2. k.chain.step n s s2 x x2 (live_ever n s x h) (live_ever (n + 1) s2 x2 h2);
        };
        live = here.live_on;
        known = λ q v at_shard there3. known_by k q v (origins start shard base.start_member base.begin es l q v at_shard there3);
        keys = record {
          named = λ n s q h named. k.keys.named n s q (h.0, live_ever n s h.0 h.1) named;
          taken = λ n q t. k.keys.taken n q (t.0, t.1, live_ever n t.0 t.1 t.2, t.3);
          gone = λ m n s q t le h named. k.keys.gone m n s q (t.0, t.1, live_ever m t.0 t.1 t.2, t.3) le (h.0, live_ever n s h.0 h.1) named;
        };
        present = λ n s q le h named. here.present n s q le (h.0, live_ever n s h.0 h.1) named;
        content = λ n s le h. held.content n s le (h.0, live_ever n s h.0 h.1);
        before_upper = held.before_upper;
        light = held.light;
        unweighed = held.unweighed;
      }
    where
      known_by : (k : Kept shard (ever start shard es) base.start_member) (q : PartKey) (v : List ℕ) → ((q.member < base.start_member) ⊎ ((c : ℕ) × Among (λ o. o.entry.call ≡ calls.Set q v) (mine_back start es c) × Owns (mine_back start es c) shard q.member)) → q.member < k.last.next_member
      known_by k q v (inl lt) = let bound = k.bound in omega arith
      known_by k q v (inr w) = owns_below start shard base.begin.first base.start_member es k w.0 q.member w.2

  pub stands_after : StandsFor (replay_back start es) shard (accepted shard list start es)
  stands_after = elim (standing start shard base.begin.first base.start_member es l base.begin.stands) [ inl p ↦ inl (stands_empty p) | inr k ↦ inr (stands_kept k) ]
