-- The laws of lawful histories.
use Rattle.std.proofs.Common.{◌++◌, ◌≡◌, ℕ, ◌+◌, ◌≤◌, false, List, [], ◌∷◌, inl, inr, arith, subst, sym, ap, ◌∙◌, Some}
use Rattle.std.specs.Prelude.{reverse}
use Rattle.std.proofs.lemmas.List.{reverse-append}
use Rattle.update_core.specs.declared.updates.Update.{Update}
use Rattle.store_core.specs.declared.shards.ShardId.{ShardId}
use Rattle.store_core.specs.declared.part_keys.PartKey.{PartKey}
use Rattle.store_core.specs.declared.calls.Call.TheVariants as calls
use Rattle.store_core.specs.declared.replies.Reply.TheVariants as replies
use Rattle.store_core.specs.declared.entries.Entry.{Entry}
use Rattle.store_core.specs.Stores.{Stored, reply_of}
use Rattle.store_core.specs.Histories.{History, store_after}
use Rattle.store_core.specs.Ports.{with_entries}
use Rattle.store_core.specs.Newest.{replay_back}
use Rattle.store_core.proofs.NewestLaws.{replay-newest}
use Rattle.state_core.specs.Lists.{Among}
use Rattle.state_core.specs.declared.members.Member.{Member}
use Rattle.state_core.specs.declared.transitions.Transition.{Transition}
use Rattle.state_core.specs.States.{ShardState, is_writer, least_hold, floor, Names}
use Rattle.state_core.proofs.ListLemmas.{bool_cases}
use Rattle.history_core.specs.Histories.{ever}
use Rattle.history_core.specs.Discipline.{LawfulBack, Lawful}
use Rattle.history_core.specs.Stands.{VersionIs, StateIn, StateAt, end_of, StandsFor, accepted_of}
use Rattle.history_core.specs.Laws.{LastIs, IsHeld, LawfulStandsFor, LeasedPresent, LeasedUnchanged, FloorNeverFalls}
use Rattle.history_core.proofs.Prefixes.{lawful_back}
use Rattle.history_core.proofs.Entries.{lawful_older}
use Rattle.history_core.proofs.Chains.{version_is, version_below, floors_rise}
use Rattle.history_core.proofs.Turns.{version_ever_on}
use Rattle.history_core.proofs.Presence.{presence, kept_at}
use Rattle.history_core.proofs.Bases.{none_there, newest_one, base_of}
use Rattle.history_core.proofs.StandsAfter.{agree_at, live_ever, stands_after}
use Rattle.history_core.proofs.Stays.{bytes_stay}

-- from a store that stands for a list, each lawful history leads to a store that stands for the accepted list
pub lawful_law : LawfulStandsFor
lawful_law shard list h st l =
    subst (λ (s : Stored). StandsFor s shard (accepted_of shard list h)) (sym (replay-newest h.start h.trail))
    (stands_after h.start shard list (base_of h.start shard list st) (reverse h.trail) (lawful_back h l))

-- the floor isn't above the hold of a reader or keeper that stands
floor_held : (top n : ℕ) (ms : List Member) → Among (λ m. (is_writer m.kind ≡ false) × (m.hold ≤ n)) ms → least_hold top ms ≤ n
floor_held top n [] h = absurd h
floor_held top n (m ∷ ms) (inl p) = let le : m.hold ≤ n = p.1 in rw p.0 (omega arith)
floor_held top n (m ∷ ms) (inr p) =
    let le = floor_held top n ms p in
    elim (bool_cases (is_writer m.kind)) [ inl e ↦ rw e le | inr e ↦ rw e (omega arith) ]

-- what a reader or keeper holds is there
pub leased_law : LeasedPresent
leased_law shard list h st l number last newest n held up =
    elim (lawful_law shard list h st l) [
      | inl e ↦ absurd (none_there shard ((store_after h).logs shard) number last e.no_version newest.1)
      | inr c ↦
          let (e, f) = newest_one shard ((store_after h).logs shard) c.number number c.last last c.newest c.state newest.0 newest.1 in
          let low : floor last ≤ n = floor_held last.number n last.members held in
          let low2 : floor c.last ≤ n = subst (λ (s : ShardState). floor s ≤ n) (sym f) low in
          let (b, there) = c.live n low2 (subst (λ (j : ℕ). n ≤ j) (sym e) up) in
          let (s, x, reads) = c.chain.each n b there in
          let is = version_is shard ((store_after h).logs shard) n b s x there reads in
          (s, (x, is), λ k named. let p = c.present n s k low2 (x, is) named in (p.0, p.1, ap replies.Bytes p.2, p.3))
    ]

pub ever_behind : (start : Stored) (shard : ShardId) (fs es : List Entry) (n : ℕ) (s : ShardState) (x : Transition) → VersionIs shard (ever start shard es) n s x → VersionIs shard (ever start shard (fs ++ es)) n s x
ever_behind start shard [] es n s x h = h
ever_behind start shard (f ∷ fs) es n s x h = version_ever_on start shard f (fs ++ es) n s x (ever_behind start shard fs es n s x h)

pub lawful_of_older : (start : Stored) (fs es : List Entry) → LawfulBack start (fs ++ es) → LawfulBack start es
lawful_of_older start [] es l = l
lawful_of_older start (f ∷ fs) es l = lawful_of_older start fs es (lawful_older start f (fs ++ es) l)

unchanged_back : (start : Stored) (shard : ShardId) (list : List Update) (fs es : List Entry) → StandsFor start shard list → LawfulBack start (fs ++ es)
    → (n : ℕ) (s : ShardState) (k : PartKey) (b : List ℕ) → StateAt (replay_back start es) shard n s → Names s k → (replay_back start es).blobs k ≡ Some b
    → (number : ℕ) (last : ShardState) → LastIs (replay_back start (fs ++ es)) shard number last → IsHeld last n
    → reply_of (replay_back start (fs ++ es)) (calls.Get k) ≡ replies.Bytes (Some b)
unchanged_back start shard list fs es st l n s k b at_n named there number last now held =
    let base = base_of start shard list st in
    let older = lawful_of_older start fs es l in
    let then_ever = live_ever start shard list base es older n s at_n.0 at_n.1 in
    let now_ever = ever_behind start shard fs es n s at_n.0 then_ever in
    let agree = agree_at start shard list base (fs ++ es) l in
    let newest2 : number + 1 ≡ end_of (ever start shard (fs ++ es)) = now.0 ∙ agree.next in
    let st3 : StateIn shard (ever start shard (fs ++ es)) number last = (now.1.0, live_ever start shard list base (fs ++ es) l number last now.1.0 now.1.1) in
    let here = presence start shard base.start_member base.begin base.present (fs ++ es) l number last newest2 st3 in
    let low : floor last ≤ n = floor_held last.number n last.members held in
    let p = here.present n s k low (at_n.0, now_ever) named in
    let kept = kept_at start shard base.start_member base.begin (fs ++ es) l n s (at_n.0, now_ever) in
    let fits = kept.keys.named n s k (at_n.0, now_ever) named in
    let (o, holds) = bytes_stay start shard base.start_member base.begin fs es l k b fits.of_shard there in
    elim holds [ inl none ↦ absurd (let p2 = p.2 in cc) | inr some ↦ ap replies.Bytes some ]

-- a history with later entries, the newest first
pub turned : (h : History) (later : List Entry) → reverse (with_entries h later).trail ≡ reverse later ++ reverse h.trail
turned h later = reverse-append h.trail later

pub lawful_both : (h : History) (later : List Entry) → Lawful (with_entries h later) → LawfulBack h.start (reverse later ++ reverse h.trail)
lawful_both h later l = subst (LawfulBack h.start) (turned h later) (lawful_back (with_entries h later) l)

pub store_both : (h : History) (later : List Entry) → store_after (with_entries h later) ≡ replay_back h.start (reverse later ++ reverse h.trail)
store_both h later = replay-newest h.start (with_entries h later).trail ∙ ap (replay_back h.start) (turned h later)

-- and it doesn't change
pub unchanged_law : LeasedUnchanged
unchanged_law shard list h later st l n s k b at_n named there number last now held =
    let before : store_after h ≡ replay_back h.start (reverse h.trail) = replay-newest h.start h.trail in
    let after = store_both h later in
    subst (λ (q : Stored). reply_of q (calls.Get k) ≡ replies.Bytes (Some b)) (sym after)
    (unchanged_back h.start shard list (reverse later) (reverse h.trail) st (lawful_both h later l) n s k b
    (subst (λ (q : Stored). StateAt q shard n s) before at_n) named (subst (λ (q : Stored). q.blobs k ≡ Some b) before there)
    number last (subst (λ (q : Stored). LastIs q shard number last) after now) held)

floor_back : (start : Stored) (shard : ShardId) (list : List Update) (fs es : List Entry) → StandsFor start shard list → LawfulBack start (fs ++ es)
    → (m n : ℕ) (s last : ShardState) → LastIs (replay_back start es) shard m s → LastIs (replay_back start (fs ++ es)) shard n last → floor s ≤ floor last
floor_back start shard list fs es st l m n s last then now =
    let base = base_of start shard list st in
    let older = lawful_of_older start fs es l in
    let then_ever = ever_behind start shard fs es m s then.1.0 (live_ever start shard list base es older m s then.1.0 then.1.1) in
    let now_ever = live_ever start shard list base (fs ++ es) l n last now.1.0 now.1.1 in
    let agree = agree_at start shard list base (fs ++ es) l in
    let newest : n + 1 ≡ end_of (ever start shard (fs ++ es)) = now.0 ∙ agree.next in
    let kept = kept_at start shard base.start_member base.begin (fs ++ es) l n last (now.1.0, now_ever) in
    let (low, high) = version_below shard (ever start shard (fs ++ es)) m s then.1.0 then_ever in
    floors_rise shard (ever start shard (fs ++ es)) kept.chain m n (omega arith) s last (then.1.0, then_ever) (now.1.0, now_ever)

-- the floor of the last state never falls
pub floor_law : FloorNeverFalls
floor_law shard list h later st l m n s last then now =
    floor_back h.start shard list (reverse later) (reverse h.trail) st (lawful_both h later l) m n s last
    (subst (λ (q : Stored). LastIs q shard m s) (replay-newest h.start h.trail) then) (subst (λ (q : Stored). LastIs q shard n last) (store_both h later) now)
