-- What a reply at an entry's place gives: the machine follows, the poll is legal, and the bound is kept. Entries go newest first.
use Rattle.std.proofs.Common.{◌≡◌, ℕ, ◌<◌, ◌≤◌, Option, Some, None, Ok, List, [], ◌∷◌, ◌++◌, refl, sym, ap, subst, ◌∙◌, inl}
use Rattle.std.specs.Prelude.{IfSome}
use Rattle.std.specs.Option.{option_map}
use Rattle.update_core.specs.declared.updates.Update.{Update}
use Rattle.store_core.specs.declared.shards.ShardId.{ShardId}
use Rattle.store_core.specs.declared.calls.Call.{Call}
use Rattle.store_core.specs.declared.replies.Reply.{Reply}
use Rattle.store_core.specs.declared.entries.Entry.{Entry}
use Rattle.store_core.specs.Stores.{Stored}
use Rattle.store_core.specs.Ports.{Answered, answered}
use Rattle.store_core.specs.Newest.{mine_back, replay_back}
use Rattle.state_core.specs.States.{ShardState}
use Rattle.update_core.specs.Limits.{most}
use Rattle.history_core.specs.Discipline.{LawfulBack}
use Rattle.history_core.specs.Legal.{AtLast}
use Rattle.history_core.specs.Placing.{AtLastScan, Placed, placed, places}
use Rattle.history_core.proofs.Entries.{lawful_older}
use Rattle.history_core.proofs.Gaining.{mine_gained}
use Rattle.load_core.specs.declared.polls.Poll.{Poll}
use Rattle.load_core.specs.declared.polls.Poll.TheVariants as polls
use Rattle.load_core.specs.declared.tries.Tried.{Tried}
use Rattle.load_core.specs.declared.tries.Tried.TheVariants as tries
use Rattle.load_core.specs.declared.tryings.Trying.{Trying}
use Rattle.load_core.specs.Costing.{CostAfter, CostEnded, CostKept}
use Rattle.load_core.specs.Outcomes.{CallsAt}
use Rattle.load_core.specs.Trying as trying
use Rattle.load_core.proofs.CostSteps.{cost_step, ended_by}
use Rattle.load_core.proofs.Outcomes.{committed_here, follows_called, follows_gained, answered_scan, never_damaged, newest_refused}
use Rattle.load_core.proofs.Outcomes.{newest_spent, none_at}
use Rattle.load_core.proofs.Runs.{moves_same}
use Rattle.machine_core.specs.Machines.{Asking, Called, CostPoll, LegalPoll, reply_there}
use Rattle.change_core.proofs.Members.{places_now}
use Rattle.try_machine.specs.declared.tryers.Tryer.{Tryer}
use Rattle.try_machine.specs.Rules.{IsEnd, IsRule, LegalEnd, Rules, TriesAt}
use Rattle.try_machine.specs.Tryers.{Follows, HasLooked, Moves, asked_after, kept, verdict, words}
use Rattle.try_machine.proofs.Effects.{idle_of, sound_by}
use Rattle.try_machine.proofs.Tries.{before_less, scan_remains}
use Rattle.try_machine.proofs.Ways.{Way, counted, emptied, tried, way}

module _ {R A : Type 0} (Q : Rules R A) (L : IsRule Q) where
  module _ (client : ℕ) (m new : Tryer R) (call : Call) (list : List Update) (start : Stored) (e : Entry) (others es : List Entry)
      (a : Asking (words Q) client m call start es) (c : Called client m.trying.loader.shard call list start e others es) where
    entry_call : e.call ≡ trying.call_of m.trying
    entry_call = let is = a.call_is in let same : trying.call_of m.trying ≡ call = cc in c.call_is ∙ sym same

    before : LawfulBack start (others ++ es)
    before = lawful_older start e (others ++ es) c.lawful

    abbrev There : Reply
    There = reply_there start e others es

    pub called_follows : (o : Option R) → IfSome o (λ q. Q.Knows (Q.fixed q) m.trying.loader.shard (mine_back start es client)) →
        Follows Q client (record { trying = trying.called m.trying; asked = o }) start (e ∷ (others ++ es))
    called_follows o knows = record {
      trying = follows_called m.trying (trying.called m.trying) client start e others es c.own c.of_others a.follows.trying refl;
      asked = subst (λ (os : List Answered). IfSome o (λ q. Q.Knows (Q.fixed q) m.trying.loader.shard os))
          (sym (mine_gained start client e others es c.own c.of_others)) (on o knows);
    }
      where
        on : (o : Option R) → IfSome o (λ q. Q.Knows (Q.fixed q) m.trying.loader.shard (mine_back start es client)) →
            IfSome o (λ q. Q.Knows (Q.fixed q) m.trying.loader.shard (answered e There ∷ mine_back start es client))
        on None h = tt
        on (Some q) h = L.knows_on (Q.fixed q) m.trying.loader.shard (answered e There) (mine_back start es client) h

    pub moved_follows : (poll : Poll A) → Moves Q m There new poll → Follows Q client new start (e ∷ (others ++ es))
    moved_follows poll moves = by (way Q m new There poll moves)
      where
        by : Way Q m There new poll → Follows Q client new start (e ∷ (others ++ es))
        by (emptied q w is none shown some p n) = subst (λ (z : Tryer R). Follows Q client z start (e ∷ (others ++ es))) (sym n)
            (called_follows None tt)
        by (tried q t k is mv p n) = subst (λ (z : Tryer R). Follows Q client z start (e ∷ (others ++ es))) (sym n) (record {
          trying = follows_gained m.trying t client k start e others es a.ready.sound.trying c.own entry_call c.of_others
              a.follows.trying mv;
          asked = on poll;
        })
          where
            knows : Q.Knows (Q.fixed q) t.loader.shard (mine_back start (e ∷ (others ++ es)) client)
            knows =
                let h = a.follows.asked in
                let was : Q.Knows (Q.fixed q) m.trying.loader.shard (mine_back start es client) =
                subst (λ (o : Option R). IfSome o (λ z. Q.Knows (Q.fixed z) m.trying.loader.shard (mine_back start es client))) is h in
                subst (λ (os : List Answered). Q.Knows (Q.fixed q) t.loader.shard os)
                (sym (mine_gained start client e others es c.own c.of_others))
                (L.knows_on (Q.fixed q) t.loader.shard (answered e There) (mine_back start es client)
                (subst (λ (d : ShardId). Q.Knows (Q.fixed q) d (mine_back start es client))
                (sym (moves_same m.trying t There k mv).shard) was))

            on : (p : Poll A) → IfSome (asked_after (Some q) p) (λ z. Q.Knows (Q.fixed z) t.loader.shard
                (mine_back start (e ∷ (others ++ es)) client))
            on polls.Busy = knows
            on polls.More = knows
            on polls.Fault = knows
            on polls.Spent = tt
            on (polls.Damaged d) = tt
            on (polls.Done b) = tt

    -- ---- what is legal

    abbrev Legal : Poll A → Type 0
    Legal p = LegalPoll (words Q) client (kept Q m) new.trying.calls p start (e ∷ (others ++ es)) list

    abbrev Past : List Placed
    Past = places client m.trying.calls es

    abbrev Here : List Placed
    Here = placed e (others ++ es) ∷ Past

    legal_end : (q : R) → m.asked ≡ Some q → new.trying.calls ≡ trying.more m.trying.calls → (p : Poll A) →
        LegalEnd Q (Q.fixed q) m.trying.loader.shard start Here p → Legal p
    legal_end q is counts polls.Busy h = absurd h
    legal_end q is counts polls.More h = absurd h
    legal_end q is counts polls.Fault h = absurd h
    legal_end q is counts (polls.Damaged d) h = h
    legal_end q is counts polls.Spent h = λ less. subst (AtLastScan m.trying.loader.shard (AtLast start m.trying.loader.shard
        (λ n s. n ≡ most))) (sym (places_now client m.trying.calls new.trying.calls e others es counts less c.own c.of_others)) h
    legal_end q is counts (polls.Done b) h = λ less.
        let there : Q.Legal (Q.fixed q) m.trying.loader.shard start (places client new.trying.calls (e ∷ (others ++ es))) b =
        subst (λ (ps : List Placed). Q.Legal (Q.fixed q) m.trying.loader.shard start ps b)
        (sym (places_now client m.trying.calls new.trying.calls e others es counts less c.own c.of_others)) h in
        subst (λ (o : Option R). IfSome (option_map Q.fixed o) (λ f. Q.Legal f m.trying.loader.shard start
        (places client new.trying.calls (e ∷ (others ++ es))) b)) (sym is) there

    calls_at : CallsAt m.trying client list start e others es
    calls_at = record {
      sound = a.ready.sound.trying;
      own = c.own;
      call_is = entry_call;
      of_others = c.of_others;
      stands = c.stands;
      lawful = c.lawful;
      follows = a.follows.trying;
    }

    tries_at : (q : R) → m.asked ≡ Some q → TriesAt Q (Q.fixed q) m.trying client list start e others es
    tries_at q is = record {
      at = calls_at;
      step_is = (sound_by Q m q a.ready is).step_is;
      knows = (let h = a.follows.asked in subst (λ (o : Option R). IfSome o (λ z. Q.Knows (Q.fixed z) m.trying.loader.shard
          (mine_back start es client))) is h);
    }

    -- with the memory of the newest state
    committed_end : (q : R) → m.asked ≡ Some q → (t : Trying) (version : ℕ) → trying.Moves m.trying There t (tries.Committed version) →
        Q.Legal (Q.fixed q) m.trying.loader.shard start Here (Q.committed q t.loader.cached version)
    committed_end q is t version mv =
        let held = a.ready.looked in
        let (b, same) = subst (λ (o : Option R). IfSome o (HasLooked Q m.trying.loader.cached)) is held in
        let fixed : Q.fixed q ≡ Q.fixed b = ap Q.fixed same ∙ (L.same b m.trying.loader.cached).0 in
        let at : TriesAt Q (Q.fixed b) m.trying client list start e others es =
        subst (λ (f : Q.Fixed). TriesAt Q f m.trying client list start e others es) fixed (tries_at q is) in
        let k = committed_here start list client m.trying t e others es a.ready.sound.trying entry_call c.of_others c.stands before
        a.follows.trying version mv in
        let h = L.committed b m.trying t client list start e others es version Past at k in
        subst (λ (f : Q.Fixed). Q.Legal f m.trying.loader.shard start Here (Q.committed q t.loader.cached version)) (sym fixed)
        (subst (λ (z : R). Q.Legal (Q.fixed b) m.trying.loader.shard start Here (Q.committed z t.loader.cached version)) (sym same) h)

    pub moved_legal : (poll : Poll A) → Moves Q m There new poll → Legal poll
    moved_legal poll moves = by (way Q m new There poll moves)
      where
        counts : new.trying.calls ≡ trying.more m.trying.calls
        counts = counted Q m new There poll moves

        on : (q : R) → m.asked ≡ Some q → (t : Trying) (k : Tried) → trying.Moves m.trying There t k → Legal (verdict Q q t k)
        on q is t (tries.Committed version) mv = legal_end q is counts (polls.Done (Q.committed q t.loader.cached version))
            (committed_end q is t version mv)
        on q is t tries.Begun mv = tt
        on q is t tries.Again mv = tt
        on q is t tries.Goes mv = tt
        on q is t tries.Fault mv = tt
        on q is t (tries.Refused refusal) mv = legal_end q is counts (Q.refused q t.loader.cached refusal)
            (L.refused q m.trying t client list start e others es refusal Past (tries_at q is) (newest_refused start list client m.trying
            t e others es a.ready.sound.trying entry_call c.of_others c.stands before a.follows.trying refusal mv))
        on q is t tries.Spent mv =
            let at = newest_spent start list client m.trying t e others es a.ready.sound.trying entry_call c.of_others c.stands before
            a.follows.trying mv in
            legal_end q is counts polls.Spent (inl (at.scan, (at.state.number, at.state, at.last, at.so.1)))
        on q is t (tries.Damaged damage) mv = never_damaged start list client m.trying t e others es a.ready.sound.trying entry_call
            c.of_others c.stands before a.follows.trying damage mv

        by : Way Q m There new poll → Legal poll
        by (emptied q b is none shown some p n) =
            let idle = idle_of Q m q b a.ready is none some in
            let scan = answered_scan start list client m.trying new.trying e others es a.ready.sound.trying entry_call c.of_others
            c.stands before a.follows.trying [] idle shown in
            let nothing = none_at start list client m.trying new.trying e others es a.ready.sound.trying entry_call c.of_others c.stands
            before a.follows.trying [] idle shown (ap (λ (o : Option ShardState). Ok o) none) in
            subst Legal (sym p) (legal_end q is counts (polls.Done b) (L.empty q m.trying.loader.shard start e (others ++ es) b Past some
            scan nothing))
        by (tried q t k is mv p n) = subst Legal (sym p) (on q is t k mv)

    -- ---- what it costs

    abbrev CostOf : ℕ → Tryer R → Poll A → Type 0
    CostOf base old p = CostPoll (words Q) base client old new p start (e ∷ (others ++ es)) list

    pub moved_cost : (base : ℕ) (old : Tryer R) (poll : Poll A) → 3 ≤ base → Moves Q m There new poll →
        (m.trying.calls < most → CostKept base client m.trying start es) →
        CostPoll (words Q) base client old new poll start (e ∷ (others ++ es)) list
    moved_cost base old poll three moves at = by (way Q m new There poll moves)
      where
        less_before : new.trying.calls < most → m.trying.calls < most
        less_before = before_less m.trying.calls new.trying.calls (counted Q m new There poll moves)

        cost_end : (p : Poll A) → IsEnd p → (new.trying.calls < most → CostEnded base client new.trying start (e ∷ (others ++ es))) →
            CostOf base old p
        cost_end polls.Busy h k = absurd h
        cost_end polls.More h k = absurd h
        cost_end polls.Fault h k = absurd h
        cost_end polls.Spent h k = k
        cost_end (polls.Damaged d) h k = k
        cost_end (polls.Done b) h k = k

        on : (q : R) (t : Trying) (k : Tried) → new.trying ≡ t → trying.Moves m.trying There t k → CostOf base old (verdict Q q t k)
        on q t k now mv = go k refl mv
          where
            after : (z : Tried) → k ≡ z → new.trying.calls < most → CostAfter z base client new.trying start (e ∷ (others ++ es))
            after z same lt =
                let lt2 : t.calls < most = subst (λ (y : Trying). y.calls < most) now lt in
                subst (λ (y : Trying). CostAfter z base client y start (e ∷ (others ++ es))) (sym now)
                (cost_step start list client base m.trying t e others es (λ z. three) a.ready.sound.trying c.own entry_call c.of_others
                c.stands c.lawful a.follows.trying z a.ready.prepared (subst (λ (y : Tried). trying.Moves m.trying There t y) same
                mv) lt2 (at (less_before lt)))

            go : (z : Tried) → k ≡ z → trying.Moves m.trying There t z → CostOf base old (verdict Q q t z)
            go (tries.Committed version) e2 h = after (tries.Committed version) e2
            go tries.Begun e2 h = after tries.Begun e2
            go tries.Again e2 h = after tries.Again e2
            go tries.Goes e2 h = after tries.Goes e2
            go tries.Fault e2 h = after tries.Fault e2
            go (tries.Refused refusal) e2 h = cost_end (Q.refused q t.loader.cached refusal) (L.ends q t.loader.cached refusal)
                (after (tries.Refused refusal) e2)
            go tries.Spent e2 h = after tries.Spent e2
            go (tries.Damaged damage) e2 h = after (tries.Damaged damage) e2

        by : Way Q m There new poll → CostOf base old poll
        by (emptied q b is none shown some p n) = subst (CostOf base old) (sym p) (λ lt.
            let now : new.trying ≡ trying.called m.trying = ap (λ (z : Tryer R). z.trying) n in
            let idle = idle_of Q m q b a.ready is none some in
            ended_by start list client base m.trying new.trying e others es (λ z. three) a.ready.sound.trying c.own entry_call
            c.of_others c.stands c.lawful a.follows.trying (trying.called m.trying) now refl refl lt
            (scan_remains ((replay_back start es).logs m.trying.loader.shard) m.trying idle a.ready.prepared) (at (less_before lt)))
        by (tried q t k is mv p n) = subst (CostOf base old) (sym p) (on q t k (ap (λ (z : Tryer R). z.trying) n) mv)
