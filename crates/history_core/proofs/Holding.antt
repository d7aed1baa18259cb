-- While a member's owner makes no Cas, its hold doesn't rise above a number, and what it holds is there.
use Rattle.std.proofs.Common.{◌≡◌, ℕ, ◌+◌, ◌<◌, ◌≤◌, true, false, List, [], ◌∷◌, ◌++◌, inl, inr, refl, arith, subst, sym, ap, ◌∙◌, Some, None, append_assoc}
use Rattle.std.specs.Prelude.{reverse}
use Rattle.std.specs.List.{AllByRecursion}
use Rattle.std.proofs.lemmas.List.{reverse-append}
use Rattle.update_core.specs.declared.updates.Update.{Update}
use Rattle.store_core.specs.declared.shards.ShardId.{ShardId}
use Rattle.store_core.specs.declared.part_keys.PartKey.{PartKey}
use Rattle.store_core.specs.declared.calls.Call.{Call}
use Rattle.store_core.specs.declared.entries.Entry.{Entry}
use Rattle.store_core.specs.Stores.{Log, Stored}
use Rattle.store_core.specs.Ports.{Answered}
use Rattle.store_core.specs.Newest.{replay_back, mine_back}
use Rattle.store_core.proofs.NewestLaws.{replay-newest, mine-newest}
use Rattle.state_core.specs.Lists.{Among}
use Rattle.state_core.specs.declared.members.Member.{Member}
use Rattle.state_core.specs.declared.transitions.Transition.{Transition}
use Rattle.state_core.specs.declared.transitions.Transition.TheVariants.{Init, Join, Leave, Renew, Advance, Expire, Append, Merge}
use Rattle.state_core.specs.States.{ShardState, is_writer, least_hold, floor, Names}
use Rattle.state_core.specs.Steps.{Applies, acts_for}
use Rattle.state_core.proofs.ListLemmas.{bool_cases, each_append, each_map}
use Rattle.state_core.proofs.Keys.{each_without, each_unexpired, each_changed}
use Rattle.history_core.specs.Histories.{ever}
use Rattle.history_core.specs.Discipline.{IsJoin, Owns, OwnsSome, LawfulBack}
use Rattle.history_core.specs.Stands.{StandsFor, StateIn, IsLast, end_of}
use Rattle.history_core.specs.Accepting.{is_cas}
use Rattle.history_core.specs.Laws.{LastIs, IsHeld}
use Rattle.history_core.specs.StretchLaws.{NoCasOf, HoldStays, MissingIsGone}
use Rattle.history_core.proofs.Entries.{mine_older, lawful_older}
use Rattle.history_core.proofs.StateFacts.{state_rules, state_number, state_none, last_commit, last_one}
use Rattle.history_core.proofs.Chains.{version_below, floors_rise}
use Rattle.history_core.proofs.Owners.{owned_version}
use Rattle.history_core.proofs.Standing.{owns_below}
use Rattle.history_core.proofs.Turns.{Turn, still, shorter, begins, grows, turn}
use Rattle.history_core.proofs.Blobs.{Begins, owners_at}
use Rattle.history_core.proofs.Presence.{presence, kept_at}
use Rattle.history_core.proofs.Bases.{base_of}
use Rattle.history_core.proofs.Lasts.{last_ever}
use Rattle.history_core.proofs.Walking.{all_back}
use Rattle.history_core.proofs.LawfulLaws.{ever_behind, lawful_of_older, lawful_both, store_both}

-- if it is this member, its hold isn't above n
abbrev pub HoldsBy : ℕ → ℕ → Member → Type 0
HoldsBy n member m = m.number ≡ member → m.hold ≤ n

-- the member's hold isn't above n, where it stands
abbrev pub HoldUpTo : ℕ → ℕ → ShardState → Type 0
HoldUpTo n member s = AllByRecursion (HoldsBy n member) s.members

-- a transition that doesn't act for a member that was there leaves its hold
hold_on : (n member : ℕ) (s s2 : ShardState) (x : Transition) → Applies s x s2 → member < s.next_member →
    ¬ (acts_for x ≡ Some member) → HoldUpTo n member s → HoldUpTo n member s2
hold_on n member s s2 Init a lt other h = absurd a.makes
hold_on n member s s2 (Join k now lease) a lt other h =
    subst (HoldUpTo n member) (sym a.makes.effect) (each_append (HoldsBy n member) s.members _ h ((λ e. absurd (omega arith)), tt))
hold_on n member s s2 (Leave m) a lt other h =
    subst (HoldUpTo n member) (sym a.makes.effect) (each_without (HoldsBy n member) m s.members h)
hold_on n member s s2 (Renew m now) a lt other h =
    subst (HoldUpTo n member) (sym a.makes.effect)
    (each_changed (HoldsBy n member) m _ s.members (λ w e p q. absurd (other (ap Some (sym e ∙ q)))) h)
hold_on n member s s2 (Advance m to) a lt other h =
    subst (HoldUpTo n member) (sym a.makes.effect) (each_changed (HoldsBy n member) m _ s.members (λ w e p. p) h)
hold_on n member s s2 (Expire now) a lt other h =
    subst (HoldUpTo n member) (sym a.makes.effect) (each_unexpired (HoldsBy n member) now s.members h)
hold_on n member s s2 (Append m t expected new parts rows weight) a lt other h =
    subst (HoldUpTo n member) (sym a.makes.effect) (each_changed (HoldsBy n member) m _ s.members (λ w e p. p) h)
hold_on n member s s2 (Merge m t left right merged) a lt other h =
    subst (HoldUpTo n member) (sym a.makes.effect)
    (each_changed (HoldsBy n member) m _ s.members (λ w e p q. absurd (other (ap Some (sym e ∙ q)))) h)

-- what is owned stays owned
pub owns_on : (start : Stored) (shard : ShardId) (c member : ℕ) (fs es : List Entry) → Owns (mine_back start es c) shard member →
    Owns (mine_back start (fs ++ es) c) shard member
owns_on start shard c member [] es h = h
owns_on start shard c member (f ∷ fs) es h =
    mine_older (λ (o : Answered). IsJoin shard member o.entry.call o.reply) start f (fs ++ es) c (owns_on start shard c member fs es h)

module _ (start : Stored) (shard : ShardId) (start_member : ℕ) (begin : Begins start shard start_member)
    (es : List Entry) (c member : ℕ) (own : Owns (mine_back start es c) shard member) (n : ℕ) where
  -- in the last state the member's hold isn't above n
  abbrev pub Below : List Entry → Type 0
  Below fs = (number : ℕ) (last : ShardState) → IsLast (ever start shard (fs ++ es)) number →
      StateIn shard (ever start shard (fs ++ es)) number last → HoldUpTo n member last

  -- at the last number itself it isn't
  below_start : IsLast (ever start shard es) n → Below []
  below_start at number last newest st =
      let rules = state_rules shard (ever start shard es) number last st in
      let is : last.number ≡ number = state_number shard (ever start shard es) number last st in
      let a : n + 1 ≡ end_of (ever start shard es) = at in
      let b : number + 1 ≡ end_of (ever start shard es) = newest in
      each_map (λ (m : Member). m.hold ≤ last.number) (HoldsBy n member) last.members (λ m le e. omega arith) rules.holds

  below_step : (e : Entry) (fs : List Entry) → LawfulBack start (e ∷ (fs ++ es)) → (e.client ≡ c → is_cas e.call ≡ false) →
      Below fs → Below (e ∷ fs)
  below_step e fs l quiet older = go (turn start shard begin.first e (fs ++ es) l)
    where
      before : LawfulBack start (fs ++ es)
      before = lawful_older start e (fs ++ es) l

      owned : Owns (mine_back start (fs ++ es) c) shard member
      owned = owns_on start shard c member fs es own

      idle : ever start shard (e ∷ (fs ++ es)) ≡ ever start shard (fs ++ es) → Below (e ∷ fs)
      idle q number last newest st =
          older number last (subst (λ (w : Log). IsLast w number) q newest) (subst (λ (w : Log). StateIn shard w number last) q st)

      go : Turn start shard e (fs ++ es) → Below (e ∷ fs)
      go (still q r) = idle q
      go (shorter below k q r) = idle q
      go (begins expected bytes k f q r) =
          let (m, s, x, is, number) = owned_version start shard begin.first (fs ++ es) c member owned in
          absurd (state_none shard (ever start shard (fs ++ es)) m s f.empty (x, is))
      go (grows expected bytes k t commit b q r) = λ number last newest st.
          let m = b.commit in
          let log = ever start shard (fs ++ es) in
          let kept = kept_at start shard start_member begin (fs ++ es) before m.n m.from m.from_is in
          let (same_number, same) = last_one shard log kept.number m.n kept.last m.from kept.newest kept.state m.last m.from_is in
          let below : member < kept.last.next_member = owns_below start shard begin.first start_member (fs ++ es) kept c member owned in
          let lt : member < m.from.next_member = subst (λ (s : ShardState). member < s.next_member) same below in
          let is : last ≡ m.to =
          (last_commit shard log bytes m number last (subst (λ (w : Log). IsLast w number) q newest)
          (subst (λ (w : Log). StateIn shard w number last) q st)).1 in
          subst (HoldUpTo n member) (sym is)
          (hold_on n member m.from m.to m.step m.applies lt
          (λ acts.
          let theirs = subst (OwnsSome (mine_back start (fs ++ es) e.client) shard) acts b.owned in
          let who : e.client ≡ c = (owners_at start shard start_member begin (fs ++ es) before).one e.client c member theirs owned in
          let cas : is_cas e.call ≡ true = subst (λ (q : Call). is_cas q ≡ true) (sym k) refl in
          let none : is_cas e.call ≡ false = quiet who in cc)
          (older m.n m.from m.last m.from_is))

  -- while the owner makes no Cas it stays so
  pub below : (fs : List Entry) → LawfulBack start (fs ++ es) → NoCasOf c fs → IsLast (ever start shard es) n → Below fs
  below [] l quiet at = below_start at
  below (e ∷ fs) l quiet at = below_step e fs l quiet.0 (below fs (lawful_older start e (fs ++ es) l) quiet.1 at)

-- the same of what is live
pub hold_back : (start : Stored) (shard : ShardId) (list : List Update) (fs es : List Entry) → StandsFor start shard list →
    LawfulBack start (fs ++ es) → (n : ℕ) (s : ShardState) → LastIs (replay_back start es) shard n s →
    (c member : ℕ) → Owns (mine_back start es c) shard member → NoCasOf c fs →
    (number : ℕ) (last : ShardState) → LastIs (replay_back start (fs ++ es)) shard number last → HoldUpTo n member last
hold_back start shard list fs es st l n s is c member own quiet number last now =
    let base = base_of start shard list st in
    let (at, there) = last_ever start shard list st es (lawful_of_older start fs es l) n s is in
    let (newest, state) = last_ever start shard list st (fs ++ es) l number last now in
    below start shard base.start_member base.begin es c member own n fs l quiet at number last newest state

pub hold_law : HoldStays
hold_law shard list h later st l n s is c member owns quiet number last now =
    hold_back h.start shard list (reverse later) (reverse h.trail) st (lawful_both h later l) n s
    (subst (λ (q : Stored). LastIs q shard n s) (replay-newest h.start h.trail) is) c member
    (subst (λ (own : List Answered). Owns own shard member) (mine-newest h c) owns)
    (all_back (λ e. e.client ≡ c → is_cas e.call ≡ false) later quiet) number last
    (subst (λ (q : Stored). LastIs q shard number last) (store_both h later) now)

-- ---- what a member holds is there

-- a member that stands, with a hold not above n
held_by : (n member : ℕ) (ms : List Member) → AllByRecursion (HoldsBy n member) ms →
    Among (λ m. (m.number ≡ member) × (is_writer m.kind ≡ false)) ms → Among (λ m. (is_writer m.kind ≡ false) × (m.hold ≤ n)) ms
held_by n member [] h stands = absurd stands
held_by n member (m ∷ ms) h (inl p) = inl (p.1, h.0 p.0)
held_by n member (m ∷ ms) h (inr p) = inr (held_by n member ms h.1 p)

-- the floor isn't above such a hold
floor_by : (top n : ℕ) (ms : List Member) → Among (λ m. (is_writer m.kind ≡ false) × (m.hold ≤ n)) ms → least_hold top ms ≤ n
floor_by top n [] h = absurd h
floor_by top n (m ∷ ms) (inl p) = let le : m.hold ≤ n = p.1 in rw p.0 (omega arith)
floor_by top n (m ∷ ms) (inr p) =
    let le = floor_by top n ms p in
    elim (bool_cases (is_writer m.kind)) [ inl e ↦ rw e le | inr e ↦ rw e (omega arith) ]

-- a key of a version that is held later isn't absent before
missing_back : (start : Stored) (shard : ShardId) (list : List Update) (gs es : List Entry) → StandsFor start shard list →
    LawfulBack start (gs ++ es) → (n : ℕ) (s : ShardState) → StateIn shard (ever start shard es) n s → (k : PartKey) → Names s k →
    (replay_back start es).blobs k ≡ None →
    (number : ℕ) (last : ShardState) → LastIs (replay_back start (gs ++ es)) shard number last → ¬ IsHeld last n
missing_back start shard list gs es st l n s is k named none number last now held =
    let base = base_of start shard list st in
    let older = lawful_of_older start gs es l in
    let kept = kept_at start shard base.start_member base.begin es older n s is in
    let here = presence start shard base.start_member base.begin base.present es older kept.number kept.last kept.newest kept.state in
    let (newest, state) = last_ever start shard list st (gs ++ es) l number last now in
    let all = kept_at start shard base.start_member base.begin (gs ++ es) l number last state in
    let then = ever_behind start shard gs es kept.number kept.last kept.state.0 kept.state.1 in
    let (low, high) = version_below shard (ever start shard (gs ++ es)) kept.number kept.last kept.state.0 then in
    let end : number + 1 ≡ end_of (ever start shard (gs ++ es)) = newest in
    let rises : floor kept.last ≤ floor last =
    floors_rise shard (ever start shard (gs ++ es)) all.chain kept.number number (omega arith) kept.last last (kept.state.0, then) state in
    let le : floor last ≤ n = floor_by last.number n last.members held in
    let p = here.present n s k (omega arith) is named in
    let there : (replay_back start es).blobs k ≡ Some p.0 = p.2 in cc

-- later entries in two parts, newest first
parted : (later mid rest trail : List Entry) → later ≡ mid ++ rest →
    reverse later ++ reverse trail ≡ reverse rest ++ (reverse mid ++ reverse trail)
parted later mid rest trail e =
    ap (λ (q : List Entry). reverse q ++ reverse trail) e ∙ ap (λ (q : List Entry). q ++ reverse trail) (reverse-append mid rest)
    ∙ append_assoc (reverse rest) (reverse mid) (reverse trail)

pub missing_law : MissingIsGone
missing_law shard list h later st l n s is c member owns quiet mid rest e k named none number last now stands =
    let es = reverse h.trail in
    let fs = reverse mid in
    let parts = parted later mid rest h.trail e in
    let lawful : LawfulBack h.start (reverse rest ++ (fs ++ es)) = subst (LawfulBack h.start) parts (lawful_both h later l) in
    let there : LastIs (replay_back h.start (reverse rest ++ (fs ++ es))) shard number last =
    subst (λ (q : List Entry). LastIs (replay_back h.start q) shard number last) parts
    (subst (λ (q : Stored). LastIs q shard number last) (store_both h later) now) in
    let older = lawful_of_older h.start fs es (lawful_of_older h.start (reverse rest) (fs ++ es) lawful) in
    let (newest, state) =
    last_ever h.start shard list st es older n s (subst (λ (q : Stored). LastIs q shard n s) (replay-newest h.start h.trail) is) in
    missing_back h.start shard list (reverse rest) (fs ++ es) st lawful n s
    (state.0, ever_behind h.start shard fs es n s state.0 state.1) k named
    (subst (λ (q : Stored). q.blobs k ≡ None) (store_both h mid) none) number last there
    (held_by n member last.members (hold_law shard list h later st l n s is c member owns quiet number last now) stands)
