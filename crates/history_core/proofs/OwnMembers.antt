-- A member that a client joined has the kind of its Join, and stands if it is a writer that didn't leave.
use Rattle.std.proofs.Common.{◌≡◌, ℕ, ◌+◌, ◌<◌, true, List, [], ◌∷◌, ◌⊎◌, inl, inr, refl, arith, subst, sym, ap, ◌∙◌, Some, None, Option}
use Rattle.std.specs.Prelude.{reverse}
use Rattle.update_core.specs.declared.updates.Update.{Update}
use Rattle.store_core.specs.declared.shards.ShardId.{ShardId}
use Rattle.store_core.specs.declared.calls.Call.{Call}
use Rattle.store_core.specs.declared.calls.Call.TheVariants as calls
use Rattle.store_core.specs.declared.outcomes.Outcome.{Outcome}
use Rattle.store_core.specs.declared.outcomes.Outcome.TheVariants.{Took, FailedTook, FailedLost}
use Rattle.store_core.specs.declared.entries.Entry.{Entry}
use Rattle.store_core.specs.Changes.{commits}
use Rattle.store_core.specs.Stores.{Log, Stored, same_number, last_number, is_last_number, next_number, committed, reply_of}
use Rattle.store_core.specs.Histories.{reply_by}
use Rattle.store_core.specs.Ports.{Answered}
use Rattle.store_core.specs.Newest.{replay_back, mine_back}
use Rattle.store_core.proofs.NewestLaws.{replay-newest, mine-newest}
use Rattle.state_core.specs.Lists.{Among}
use Rattle.state_core.specs.declared.kinds.Kind.{Kind}
use Rattle.state_core.specs.declared.kinds.Kind.TheVariants.{Writer}
use Rattle.state_core.specs.declared.transitions.Transition.{Transition}
use Rattle.state_core.specs.States.{ShardState}
use Rattle.version_codec.specs.Reading.{version_in}
use Rattle.state_core.proofs.ListLemmas.{bool_cases, among_map}
use Rattle.history_core.specs.Histories.{took_effect, ever, grown}
use Rattle.history_core.specs.Discipline.{IsJoin, Owns, OwnsSome, Allows, LawfulBack}
use Rattle.history_core.specs.Stands.{StandsFor, StateIn, IsLast, end_of}
use Rattle.history_core.specs.Laws.{LastIs}
use Rattle.history_core.specs.Members.{KindJoins, IsKindJoin, LeavesIn, IsLeave, JoinedAs, OwnMemberStands, OwnKindStays, OwnStateThere}
use Rattle.history_core.proofs.Prefixes.{lawful_back}
use Rattle.history_core.proofs.Entries.{shard_same, among_mine, mine_older, mine_newest, lawful_newest, lawful_older}
use Rattle.history_core.proofs.StateFacts.{state_rules, state_none, state_below, last_commit, last_one}
use Rattle.history_core.proofs.Owners.{CommitBy, CommitsFirst, commit_of, owned_version}
use Rattle.history_core.proofs.Standing.{owns_below}
use Rattle.history_core.proofs.Turns.{Turn, still, shorter, begins, grows, turn}
use Rattle.history_core.proofs.Blobs.{Begins, owners_at}
use Rattle.history_core.proofs.Presence.{kept_at}
use Rattle.history_core.proofs.Bases.{base_of}
use Rattle.history_core.proofs.StandsAfter.{agree_at, live_ever, stands_after}
use Rattle.history_core.proofs.MemberStands.{HasKind, Writes, kind_on, writes_on, leaver_acts, NewMember, new_member, is_join}

-- a Join with a kind that is answered Committed commits
record KindJoined (kind : Kind) (shard : ShardId) (store : Stored) (call : Call) (outcome : Outcome) (member : ℕ) : Type 0 where
  pub expected : Option ℕ
  pub bytes : List ℕ
  pub call_is : call ≡ calls.Cas shard expected bytes
  pub took : took_effect outcome ≡ true
  pub commit : commits (store.logs shard) expected ≡ true
  pub joins : KindJoins (version_in shard (next_number expected) bytes) kind member

joined-cas : (kind : Kind) (shard s : ShardId) (store : Stored) (expected : Option ℕ) (bytes : List ℕ) (member : ℕ) →
    IsKindJoin kind shard member (calls.Cas s expected bytes) (reply_of store (calls.Cas s expected bytes)) →
    KindJoined kind shard store (calls.Cas s expected bytes) Took member
joined-cas kind shard s store expected bytes member t =
    elim (bool_cases (same_number expected (last_number (store.logs s)))) [
      | inl e ↦ elim (bool_cases (is_last_number expected)) [
        | inl f ↦ absurd (rw (e, f) at t)
        | inr f ↦
            let t2 : (s ≡ shard) × KindJoins (version_in shard (next_number expected) bytes) kind member = rw (e, f) at t in
            let k : commits (store.logs s) expected ≡ true = rw (e, f) refl in
            record {
              expected = expected;
              bytes = bytes;
              call_is = ap (λ (q : ShardId). calls.Cas q expected bytes) t2.0;
              took = refl;
              commit = subst (λ (q : ShardId). commits (store.logs q) expected ≡ true) t2.0 k;
              joins = t2.1;
            }
      ]
      | inr e ↦ absurd (rw e at t)
    ]

kind_joined : (kind : Kind) (shard : ShardId) (store : Stored) (call : Call) (outcome : Outcome) (member : ℕ) →
    IsKindJoin kind shard member call (reply_by store call outcome) → KindJoined kind shard store call outcome member
kind_joined kind shard store (calls.Cas s expected bytes) Took member t = joined-cas kind shard s store expected bytes member t
kind_joined kind shard store (calls.Cas s expected bytes) FailedTook member t = absurd t
kind_joined kind shard store (calls.Cas s expected bytes) FailedLost member t = absurd t
kind_joined kind shard store (calls.Head s) outcome member t = absurd t
kind_joined kind shard store (calls.Scan s from) outcome member t = absurd t
kind_joined kind shard store (calls.Truncate s below) outcome member t = absurd t
kind_joined kind shard store (calls.Get k) outcome member t = absurd t
kind_joined kind shard store (calls.Set k b) outcome member t = absurd t
kind_joined kind shard store (calls.Delete k) outcome member t = absurd t

-- a Cas that commits adds its bytes
grown_is : (shard : ShardId) (now all : Log) (call : Call) (outcome : Outcome) (expected : Option ℕ) (bytes : List ℕ) →
    call ≡ calls.Cas shard expected bytes → took_effect outcome ≡ true → commits now expected ≡ true →
    grown shard now call outcome all ≡ committed all bytes
grown_is shard now all call outcome expected bytes c t k =
    subst (λ (q : Call). grown shard now q outcome all ≡ committed all bytes) (sym c) (rw (t, shard_same shard, k) refl)

module _ (start : Stored) (shard : ShardId) (start_member : ℕ) (begin : Begins start shard start_member)
    (kind : Kind) (member c : ℕ) where
  abbrev Joined : List Entry → Type 0
  Joined es = JoinedAs kind (mine_back start es c) shard member

  abbrev Left : List Entry → Type 0
  Left es = Among (λ (o : Answered). IsLeave shard member o.entry.call) (mine_back start es c)

  -- in the last state the member has its kind, and a writer that didn't leave stands
  abbrev pub Held : List Entry → Type 0
  Held es = (number : ℕ) (last : ShardState) → IsLast (ever start shard es) number →
      StateIn shard (ever start shard es) number last → HasKind kind member last ×
      (kind ≡ Writer → ¬ Left es → Writes member last)

  joined_owns : (es : List Entry) → Joined es → Owns (mine_back start es c) shard member
  joined_owns es j =
      among_map (λ (o : Answered). IsKindJoin kind shard member o.entry.call o.reply)
      (λ (o : Answered). IsJoin shard member o.entry.call o.reply)
      (mine_back start es c) (λ o h. is_join kind shard member o.entry.call o.reply h) j

  joined_now : (e : Entry) (es : List Entry) → LawfulBack start (e ∷ es) →
      IsKindJoin kind shard member e.call (reply_by (replay_back start es) e.call e.outcome) → Held (e ∷ es)
  joined_now e es l h =
      let j = kind_joined kind shard (replay_back start es) e.call e.outcome member h in
      let q : ever start shard (e ∷ es) ≡ committed (ever start shard es) j.bytes =
      grown_is shard ((replay_back start es).logs shard) (ever start shard es) e.call e.outcome j.expected j.bytes j.call_is
      j.took j.commit in
      let allowed = subst (Allows (mine_back start es e.client)) j.call_is (lawful_newest start e es l) in
      go j.expected j.bytes j.joins q
      (commit_of start shard begin.first es e.client j.expected j.bytes j.commit allowed)
    where
      reads_at : (expected expected2 : Option ℕ) (bytes : List ℕ) → expected ≡ expected2 →
          KindJoins (version_in shard (next_number expected) bytes) kind member →
          KindJoins (version_in shard (next_number expected2) bytes) kind member
      reads_at expected expected2 bytes is h = subst (λ (o : Option ℕ). KindJoins (version_in shard (next_number o) bytes) kind member) is h

      go : (expected : Option ℕ) (bytes : List ℕ) → KindJoins (version_in shard (next_number expected) bytes) kind member →
          ever start shard (e ∷ es) ≡ committed (ever start shard es) bytes →
          CommitsFirst shard (ever start shard es) expected bytes ⊎
          CommitBy (mine_back start es e.client) shard (ever start shard es) expected bytes → Held (e ∷ es)
      go expected bytes joins q (inl f) =
          let at : KindJoins (version_in shard 0 bytes) kind member = reads_at expected None bytes f.none joins in
          absurd (subst (λ (o : Option (ShardState × Transition)). KindJoins o kind member) f.first at)
      go expected bytes joins q (inr b) = λ number last newest st.
          let m = b.commit in
          let at : KindJoins (version_in shard (m.n + 1) bytes) kind member = reads_at expected (Some m.n) bytes b.number joins in
          let new : NewMember kind member m.to =
          new_member kind member m.from m.to m.step (state_rules shard (ever start shard es) m.n m.from m.from_is) m.applies
          (subst (λ (o : Option (ShardState × Transition)). KindJoins o kind member) m.written at) in
          let is : last ≡ m.to =
          (last_commit shard (ever start shard es) bytes m number last (subst (λ (w : Log). IsLast w number) q newest)
          (subst (λ (w : Log). StateIn shard w number last) q st)).1 in
          (subst (HasKind kind member) (sym is) new.kinds, λ w unleft. subst (Writes member) (sym is) (new.writes w))

  held_step : (e : Entry) (es : List Entry) → LawfulBack start (e ∷ es) → Joined (e ∷ es) → (Joined es → Held es) → Held (e ∷ es)
  held_step e es l joined older =
      elim (among_mine (λ (o : Answered). IsKindJoin kind shard member o.entry.call o.reply) start e es c joined) [
        | inl p ↦ joined_now e es l p.1
        | inr p ↦ go p (turn start shard begin.first e es l)
      ]
    where
      before : LawfulBack start es
      before = lawful_older start e es l

      left_on : Left es → Left (e ∷ es)
      left_on h = mine_older (λ (o : Answered). IsLeave shard member o.entry.call) start e es c h

      idle : Joined es → ever start shard (e ∷ es) ≡ ever start shard es → Held (e ∷ es)
      idle j q number last newest st =
          let newest2 = subst (λ (w : Log). IsLast w number) q newest in
          let (kinds, writes) = older j number last newest2 (subst (λ (w : Log). StateIn shard w number last) q st) in
          (kinds, λ w unleft. writes w (λ h. unleft (left_on h)))

      leaves : Joined es → (expected : Option ℕ) (bytes : List ℕ) → e.call ≡ calls.Cas shard expected bytes →
          (b : CommitBy (mine_back start es e.client) shard (ever start shard es) expected bytes) →
          LeavesIn (Some (b.commit.to, b.commit.step)) member → Left (e ∷ es)
      leaves j expected bytes k b h =
          let theirs = subst (OwnsSome (mine_back start es e.client) shard) (leaver_acts b.commit.to b.commit.step member h) b.owned in
          let who : e.client ≡ c = (owners_at start shard start_member begin es before).one e.client c member theirs (joined_owns es j) in
          let call_is : e.call ≡ calls.Cas shard (Some b.commit.n) bytes =
          subst (λ (o : Option ℕ). e.call ≡ calls.Cas shard o bytes) b.number k in
          let at : LeavesIn (version_in shard (b.commit.n + 1) bytes) member =
          subst (λ (o : Option (ShardState × Transition)). LeavesIn o member) (sym b.commit.written) h in
          let leave : IsLeave shard member e.call = subst (IsLeave shard member) (sym call_is) (refl, at) in
          subst (λ (d : ℕ). Among (λ (o : Answered). IsLeave shard member o.entry.call) (mine_back start (e ∷ es) d)) who
          (mine_newest (λ (o : Answered). IsLeave shard member o.entry.call) start e es leave)

      go : Joined es → Turn start shard e es → Held (e ∷ es)
      go j (still q r) = idle j q
      go j (shorter below k q r) = idle j q
      go j (begins expected bytes k f q r) =
          let (n, s, x, is, number) = owned_version start shard begin.first es c member (joined_owns es j) in
          absurd (state_none shard (ever start shard es) n s f.empty (x, is))
      go j (grows expected bytes k t commit b q r) = λ number last newest st.
          let m = b.commit in
          let kept = kept_at start shard start_member begin es before m.n m.from m.from_is in
          let (same_number, same) = last_one shard (ever start shard es) kept.number m.n kept.last m.from kept.newest kept.state m.last m.from_is in
          let below : member < kept.last.next_member = owns_below start shard begin.first start_member es kept c member (joined_owns es j) in
          let lt : member < m.from.next_member = subst (λ (s : ShardState). member < s.next_member) same below in
          let is : last ≡ m.to =
          (last_commit shard (ever start shard es) bytes m number last (subst (λ (w : Log). IsLast w number) q newest)
          (subst (λ (w : Log). StateIn shard w number last) q st)).1 in
          let (kinds, writes) = older j m.n m.from m.last m.from_is in (
            subst (HasKind kind member) (sym is) (kind_on kind member m.from m.to m.step m.applies lt kinds),
            λ w unleft. subst (Writes member) (sym is)
                (writes_on member m.from m.to m.step m.applies (λ h. unleft (leaves j expected bytes k b h)) (writes w (λ h. unleft (left_on h)))),
          )

  pub held : (es : List Entry) → LawfulBack start es → Joined es → Held es
  held [] l j = absurd j
  held (e ∷ es) l j = held_step e es l j (λ p. held es (lawful_older start e es l) p)

held_back : (start : Stored) (shard : ShardId) (list : List Update) (es : List Entry) → StandsFor start shard list → LawfulBack start es →
    (kind : Kind) (member c : ℕ) → JoinedAs kind (mine_back start es c) shard member →
    (number : ℕ) (last : ShardState) → LastIs (replay_back start es) shard number last →
    HasKind kind member last ×
    (kind ≡ Writer → ¬ Among (λ (o : Answered). IsLeave shard member o.entry.call) (mine_back start es c) → Writes member last)
held_back start shard list es st l kind member c j number last is =
    let base = base_of start shard list st in
    let agree = agree_at start shard list base es l in
    held start shard base.start_member base.begin kind member c es l j number last (is.0 ∙ agree.next)
    (is.1.0, live_ever start shard list base es l number last is.1.0 is.1.1)

pub stands_law : OwnMemberStands
stands_law shard list h st l c member owns number last is =
    (held_back h.start shard list (reverse h.trail) st (lawful_back h l) Writer member c
    (subst (λ (own : List Answered). JoinedAs Writer own shard member) (mine-newest h c) owns.joined) number last
    (subst (λ (s : Stored). LastIs s shard number last) (replay-newest h.start h.trail) is)).1 refl
    (subst (λ (own : List Answered). ¬ Among (λ (o : Answered). IsLeave shard member o.entry.call) own) (mine-newest h c) owns.unleft)

pub kind_law : OwnKindStays
kind_law shard list h st l kind c member joined number last is =
    (held_back h.start shard list (reverse h.trail) st (lawful_back h l) kind member c
    (subst (λ (own : List Answered). JoinedAs kind own shard member) (mine-newest h c) joined) number last
    (subst (λ (s : Stored). LastIs s shard number last) (replay-newest h.start h.trail) is)).0

-- where a client joined a member there is a version
there_back : (start : Stored) (shard : ShardId) (list : List Update) (es : List Entry) → StandsFor start shard list →
    LawfulBack start es → (kind : Kind) (member c : ℕ) → JoinedAs kind (mine_back start es c) shard member →
    (number : ℕ) × (last : ShardState) × LastIs (replay_back start es) shard number last
there_back start shard list es st l kind member c j =
    let base = base_of start shard list st in
    let agree = agree_at start shard list base es l in
    let (n, s, x, is, number) =
    owned_version start shard base.begin.first es c member (joined_owns start shard base.start_member base.begin kind member c es j) in
    let (low, high) = state_below shard (ever start shard es) n s (x, is) in
    let next : end_of ((replay_back start es).logs shard) ≡ end_of (ever start shard es) = agree.next in
    elim (stands_after start shard list base es l) [
      | inl e ↦
          let none : end_of ((replay_back start es).logs shard) ≡ 0 = ap end_of e.no_version in
          absurd (omega arith)
      | inr k ↦ (k.number, k.last, (k.newest, k.state))
    ]

pub there_law : OwnStateThere
there_law shard list h st l kind c member joined =
    let (number, last, is) =
    there_back h.start shard list (reverse h.trail) st (lawful_back h l) kind member c
    (subst (λ (own : List Answered). JoinedAs kind own shard member) (mine-newest h c) joined) in
    (number, last, subst (λ (s : Stored). LastIs s shard number last) (sym (replay-newest h.start h.trail)) is)
