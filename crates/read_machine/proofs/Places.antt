-- Where the calls of a reading stand in a history. Entries go newest first.
use Rattle.std.proofs.Common.{◌≡◌, ℕ, zero, suc, ◌+◌, ◌<◌, true, false, None, List, [], ◌∷◌, ◌++◌, ◌⊎◌, inl, inr, refl, sym, ap, subst}
use Rattle.std.proofs.Common.{◌∙◌, arith, eqb}
use Rattle.std.specs.Prelude.{reverse}
use Rattle.std.proofs.lemmas.Bool.{eq-eqb, eqb-true}
use Rattle.std.proofs.lemmas.List.{reverse-append, reverse-reverse}
use Rattle.update_core.specs.declared.updates.Update.{Update}
use Rattle.store_core.specs.declared.shards.ShardId.{ShardId}
use Rattle.store_core.specs.declared.part_keys.PartKey.{PartKey}
use Rattle.store_core.specs.declared.calls.Call.{Call}
use Rattle.store_core.specs.declared.calls.Call.TheVariants as calls
use Rattle.store_core.specs.declared.entries.Entry.{Entry}
use Rattle.store_core.specs.Stores.{Stored}
use Rattle.store_core.specs.Histories.{History, reply, store_after}
use Rattle.store_core.specs.Ports.{Answered, with_entries}
use Rattle.store_core.specs.Newest.{mine_back, replay_back}
use Rattle.store_core.proofs.NewestLaws.{mine-newest, replay-newest}
use Rattle.state_core.specs.declared.kinds.Kind.{Kind}
use Rattle.state_core.specs.States.{Names, ShardState, is_writer}
use Rattle.state_core.specs.Steps.{Stands}
use Rattle.update_core.specs.Limits.{most}
use Rattle.state_core.proofs.ListLemmas.{among_map, bool_cases}
use Rattle.history_core.specs.Accepting.{is_cas}
use Rattle.history_core.specs.Answers.{own_of, own_past}
use Rattle.history_core.specs.Discipline.{GotAs, IsGot, IsJoin, Lawful, LawfulBack, Owns}
use Rattle.history_core.specs.Laws.{LastIs}
use Rattle.history_core.specs.Members.{IsKindJoin, JoinedAs}
use Rattle.history_core.specs.Placing.{AtLastScan, IsAnsweredScan, Placed, placed, places, reply_at}
use Rattle.history_core.specs.Stands.{StandsFor}
use Rattle.history_core.specs.StretchLaws.{NoCasOf}
use Rattle.history_core.proofs.Holding.{missing_law}
use Rattle.history_core.proofs.LawfulLaws.{store_both, turned}
use Rattle.history_core.proofs.MemberStands.{is_join}
use Rattle.history_core.proofs.Walking.{all_back}
use Rattle.load_core.specs.Trying.{more}
use Rattle.load_core.proofs.Gaining.{lawful_forth}
use Rattle.read_machine.specs.Following.{IsRead}
use Rattle.read_machine.specs.Questions.{NoScanOf, own_count}
use Rattle.read_machine.proofs.Stretch.{replay_behind}

-- ---- a command's entries

-- a count below its last number counts one call more
pub next_count : (n m : ℕ) → m ≡ more n → m < most → m ≡ suc n
next_count n m h less = omega arith

is_mine : (client : ℕ) (e : Entry) → e.client ≡ client → eqb e.client client ≡ true
is_mine client e eq = eq-eqb e.client client eq

-- where no Scan of a client was answered since one of a command, what holds at that one's place holds at the last answered Scan
pub at_last : (client n : ℕ) (shard : ShardId) (later : List Entry) (scan : Entry) (before : List Entry) (P : Placed → Type 0) →
    NoScanOf client shard later → own_count client later < n → scan.client ≡ client →
    IsAnsweredScan shard (placed scan before) → P (placed scan before) →
    AtLastScan shard P (places client n (later ++ (scan ∷ before)))
at_last client zero shard later scan before P quiet few own answered p = absurd (omega arith)
at_last client (suc n) shard [] scan before P quiet few own answered p = rw (is_mine client scan own) (inl (answered, p))
at_last client (suc n) shard (x ∷ xs) scan before P quiet few own answered p = elim (bool_cases (eqb x.client client)) [
  | inl e ↦
      let few2 : own_count client xs + 1 < suc n = rw e at few in
      rw e (inr (
        quiet.0 (eqb-true x.client client e),
        at_last client n shard xs scan before P quiet.1
            (omega arith) own answered p,
      ))
  | inr e ↦
      let few2 : own_count client xs < suc n = rw e at few in
      rw e (at_last client (suc n) shard xs scan before P quiet.1 few2 own answered p)
]

-- What the client got since the Scan was got since the last answered Scan: with how X goes on past an entry that is no answered
-- Scan.
pub since_got : (client n : ℕ) (start : Stored) (shard : ShardId) (k : PartKey) (b : List ℕ) (X : List Placed → Type 0) →
    ((p : Placed) (ps : List Placed) → ¬ IsAnsweredScan shard p → IsGot k b p.entry.call (reply_at start p) ⊎ X ps → X (p ∷ ps)) →
    (later : List Entry) (scan : Entry) (before : List Entry) → NoScanOf client shard later → own_count client later < n →
    GotAs (mine_back (replay_back start (scan ∷ before)) later client) k b → X (places client n (later ++ (scan ∷ before)))
since_got client zero start shard k b X on later scan before quiet few got = absurd (omega arith)
since_got client (suc n) start shard k b X on [] scan before quiet few got = absurd got
since_got client (suc n) start shard k b X on (x ∷ xs) scan before quiet few got = elim (bool_cases (eqb x.client client)) [
  | inl e ↦
      let few2 : own_count client xs + 1 < suc n = rw e at few in
      let got2 = rw e at got in
      rw e (on (placed x (xs ++ (scan ∷ before))) (places client n (xs ++ (scan ∷ before))) (quiet.0
      (eqb-true x.client client e)) (elim got2 [
        | inl here ↦ inl (subst (λ (s : Stored). IsGot k b x.call (reply s x)) (sym (replay_behind start xs
            (scan ∷ before))) here)
        | inr older ↦ inr (since_got client n start shard k b X on xs scan before quiet.1 (omega arith) older)
      ]))
  | inr e ↦
      let few2 : own_count client xs < suc n = rw e at few in
      rw e (since_got client (suc n) start shard k b X on xs scan before quiet.1 few2 (rw e at got))
]

-- a Scan or a Get is no Cas
pub read_no_cas : (call : Call) → IsRead call → is_cas call ≡ false
read_no_cas (calls.Scan shard from) h = refl
read_no_cas (calls.Get k) h = refl
read_no_cas (calls.Head shard) h = absurd h
read_no_cas (calls.Cas shard expected bytes) h = absurd h
read_no_cas (calls.Truncate shard below) h = absurd h
read_no_cas (calls.Set k b) h = absurd h
read_no_cas (calls.Delete k) h = absurd h

-- ---- laws of histories, with the newest entry first

module _ (start : Stored) (es : List Entry) where
  abbrev pub past : History
  past = record { start = start; trail = reverse es }

  pub back_is : reverse past.trail ≡ es
  back_is = reverse-reverse es

  pub store_is : store_after past ≡ replay_back start es
  store_is = replay-newest start (reverse es) ∙ ap (replay_back start) back_is

  pub own_is : (c : ℕ) → own_of past c ≡ mine_back start es c
  own_is c = mine-newest past c ∙ ap (λ (q : List Entry). mine_back start q c) back_is

module _ (start : Stored) (es later : List Entry) where
  abbrev pub after : List Entry
  after = reverse later

  pub both_are : reverse (with_entries (past start es) after).trail ≡ later ++ es
  both_are =
      turned (past start es) after ∙ ap (λ (q : List Entry). q ++ reverse (reverse es)) (reverse-reverse later)
      ∙ ap (λ (q : List Entry). later ++ q) (reverse-reverse es)

  pub lawful_is : LawfulBack start (later ++ es) → Lawful (with_entries (past start es) after)
  lawful_is l = lawful_forth (with_entries (past start es) after) (subst (LawfulBack start) (sym both_are) l)

  pub own_past_is : (c : ℕ) → own_past (past start es) after c ≡ mine_back (replay_back start es) later c
  own_past_is c =
      mine-newest (record { start = store_after (past start es); trail = after }) c
      ∙ ap (λ (s : Stored). mine_back s (reverse (reverse later)) c) (store_is start es)
      ∙ ap (λ (q : List Entry). mine_back (replay_back start es) q c) (reverse-reverse later)

  -- where a named key was absent and the member's owner made no Cas, the member stands no more as one that holds
  pub gone_back : (shard : ShardId) (list : List Update) → StandsFor start shard list → LawfulBack start (later ++ es) →
      (n : ℕ) (s : ShardState) → LastIs (replay_back start es) shard n s → (c member : ℕ) →
      Owns (mine_back start es c) shard member → NoCasOf c later →
      (newer mid : List Entry) → later ≡ newer ++ mid → (k : PartKey) → Names s k →
      (replay_back start (mid ++ es)).blobs k ≡ None →
      (number : ℕ) (last : ShardState) → LastIs (replay_back start (later ++ es)) shard number last →
      ¬ Stands member (λ m. is_writer m.kind ≡ false) last.members
  gone_back shard list st l n s is c member owns quiet newer mid split k named none number last now =
      missing_law shard list (past start es) after st (lawful_is l) n s (subst (λ (q : Stored). LastIs q shard n s) (sym
      (store_is start es)) is) c member
      (subst (λ (own : List Answered). Owns own shard member) (sym (own_is start es c)) owns)
      (all_back (λ e. e.client ≡ c → is_cas e.call ≡ false) later quiet) (reverse mid) (reverse newer)
      (ap reverse split ∙ reverse-append newer mid) k named
      (subst (λ (q : Stored). q.blobs k ≡ None) (sym (store_both (past start es) (reverse mid)
      ∙ turned_store mid)) none) number last
      (subst (λ (q : Stored). LastIs q shard number last) (sym (store_both (past start es) after ∙ turned_store later)) now)
    where
      turned_store : (q : List Entry) → replay_back start (reverse (reverse q) ++ reverse (reverse es)) ≡ replay_back start
          (q ++ es)
      turned_store q = ap (λ (w : List Entry). replay_back start (w ++ reverse (reverse es))) (reverse-reverse q)
          ∙ ap (λ (w : List Entry). replay_back start (q ++ w)) (reverse-reverse es)

-- a client's Join makes the member its own
pub joined_owns : (kind : Kind) (own : List Answered) (shard : ShardId) (member : ℕ) → JoinedAs kind own shard member →
    Owns own shard member
joined_owns kind own shard member h =
    among_map (λ (o : Answered). IsKindJoin kind shard member o.entry.call o.reply) (λ
    (o : Answered). IsJoin shard member o.entry.call o.reply) own
    (λ o j. is_join kind shard member o.entry.call o.reply j) h
