-- A standing member's token was spent by one entry, and no later one by any.
use Rattle.std.proofs.Common.{◌≡◌, ◌&&◌, ℕ, ◌+◌, ◌<◌, ◌≤◌, Bool, true, false, cond, List, [], ◌∷◌, inl, inr, refl, arith, subst, sym, ap, ◌∙◌, eqb, Some, None, Option}
use Rattle.std.proofs.lemmas.Bool.{eqb-true, eqb-false, eq-eqb}
use Rattle.state_core.specs.Lists.{Among}
use Rattle.state_core.proofs.ListLemmas.{bool_cases, each_among}
use Rattle.store_core.specs.declared.shards.ShardId.{ShardId}
use Rattle.store_core.specs.declared.calls.Call.{Call}
use Rattle.store_core.specs.declared.calls.Call.TheVariants as calls
use Rattle.store_core.specs.declared.entries.Entry.{Entry}
use Rattle.store_core.specs.Changes.{commits}
use Rattle.store_core.specs.Stores.{Log, Stored, no_log, committed}
use Rattle.store_core.specs.Newest.{replay_back}
use Rattle.state_core.specs.declared.transitions.Transition.{Transition}
use Rattle.state_core.specs.declared.transitions.Transition.TheVariants.{Init, Join, Leave, Renew, Advance, Expire, Append, Merge}
use Rattle.state_core.specs.States.{ShardState, IsState}
use Rattle.state_core.specs.Steps.{Applies, Spends}
use Rattle.version_codec.specs.Reading.{version_in}
use Rattle.history_core.specs.Histories.{same_shard, took_effect, grown, ever}
use Rattle.history_core.specs.Discipline.{LawfulBack}
use Rattle.history_core.specs.Stands.{StateIn, end_of, IsLast}
use Rattle.std.proofs.Common.{◌≢◌}
use Rattle.state_core.proofs.ListLemmas.{each_at}
use Rattle.state_core.specs.declared.members.Member.{Member}
use Rattle.state_core.specs.declared.kinds.Kind.TheVariants.{Keeper}
use Rattle.state_core.specs.States.{is_writer}
use Rattle.history_core.specs.Spending.{is_spending, is_commit_under, commits_under}
use Rattle.history_core.proofs.Logs.{end_of-committed}
use Rattle.history_core.proofs.Entries.{shard_same}
use Rattle.history_core.proofs.StateFacts.{state_rules, state_first, last_commit}
use Rattle.history_core.proofs.Entries.{lawful_older}
use Rattle.history_core.proofs.Turns.{Turn, still, shorter, begins, grows, turn}
use Rattle.history_core.proofs.Blobs.{Begins}
use Rattle.history_core.proofs.Entries.{shard_same}
use Rattle.history_core.proofs.Presence.{kept_at}
use Rattle.state_core.proofs.Tokens.{After, joined as has_joined, stayed, spent, members_after}
use Rattle.state_core.proofs.Keys.{next_rises}
use Rattle.history_core.proofs.Logs.{end_of-committed}

spends_true : (s : ShardState) (x : Transition) (m t : ℕ) → Spends x m t → is_spending (Some (s, x)) m t ≡ true
spends_true s (Append a b c d e f g) m t h = rw (eq-eqb a m h.0, eq-eqb b t h.1) refl
spends_true s (Merge a b c d e) m t h = rw (eq-eqb a m h.0, eq-eqb b t h.1) refl
spends_true s Init m t h = absurd h
spends_true s (Join a b c) m t h = absurd h
spends_true s (Leave a) m t h = absurd h
spends_true s (Renew a b) m t h = absurd h
spends_true s (Advance a b) m t h = absurd h
spends_true s (Expire a) m t h = absurd h

and_true2 : (a b : Bool) → (a && b) ≡ true → (a ≡ true) × (b ≡ true)
and_true2 true b h = (refl, h)
and_true2 false b h = cc

pub true_spends : (s : ShardState) (x : Transition) (m t : ℕ) → is_spending (Some (s, x)) m t ≡ true → Spends x m t
true_spends s (Append a b c d e f g) m t h = let (p, q) = and_true2 (eqb a m) (eqb b t) h in (eqb-true a m p, eqb-true b t q)
true_spends s (Merge a b c d e) m t h = let (p, q) = and_true2 (eqb a m) (eqb b t) h in (eqb-true a m p, eqb-true b t q)
true_spends s Init m t h = cc
true_spends s (Join a b c) m t h = cc
true_spends s (Leave a) m t h = cc
true_spends s (Renew a b) m t h = cc
true_spends s (Advance a b) m t h = cc
true_spends s (Expire a) m t h = cc

under_idle : (store : Stored) (shard : ShardId) (member token : ℕ) (e : Entry) (call : Call) (all : Log) →
    grown shard (store.logs shard) call e.outcome all ≡ all → is_commit_under store shard member token e call ≡ false
under_idle store shard member token e (calls.Cas s (Some n) bytes) all h = elim (bool_cases (took_effect e.outcome && (same_shard s shard && commits (store.logs shard) (Some n)))) [
  | inl t ↦
      let h2 : committed all bytes ≡ all = rw t at h in
      let n2 : end_of (committed all bytes) ≡ end_of all = ap end_of h2 in
      let n3 : end_of (committed all bytes) ≡ end_of all + 1 = end_of-committed all bytes in
      absurd (omega arith)
  | inr f ↦ rw f refl
]
under_idle store shard member token e (calls.Cas s None bytes) all h = refl
under_idle store shard member token e (calls.Head s) all h = refl
under_idle store shard member token e (calls.Scan s from) all h = refl
under_idle store shard member token e (calls.Truncate s below) all h = refl
under_idle store shard member token e (calls.Get k) all h = refl
under_idle store shard member token e (calls.Set k b) all h = refl
under_idle store shard member token e (calls.Delete k) all h = refl

under_none : (store : Stored) (shard : ShardId) (member token : ℕ) (e : Entry) (call : Call) (expected : Option ℕ)
    (bytes : List ℕ) → call ≡ calls.Cas shard expected bytes → expected ≡ None →
    is_commit_under store shard member token e call ≡ false
under_none store shard member token e call expected bytes c n =
    subst (λ (q : Call). is_commit_under store shard member token e q ≡ false) (sym c) (subst (λ (o : Option ℕ). is_commit_under store shard member token e (calls.Cas shard o bytes) ≡ false) (sym n) refl)

under_grown : (store : Stored) (shard : ShardId) (member token : ℕ) (e : Entry) (call : Call) (expected : Option ℕ) (n : ℕ)
    (bytes : List ℕ) (to : ShardState) (step : Transition) → call ≡ calls.Cas shard expected bytes → expected ≡ Some n →
    took_effect e.outcome ≡ true →
    commits (store.logs shard) expected ≡ true → version_in shard (n + 1) bytes ≡ Some (to, step) → is_commit_under store shard member token e call ≡ is_spending (Some (to, step)) member token
under_grown store shard member token e call expected n bytes to step c ex t k w =
    let k2 : commits (store.logs shard) (Some n) ≡ true = subst (λ (o : Option ℕ). commits (store.logs shard) o ≡ true) ex k in
    subst (λ (q : Call). is_commit_under store shard member token e q ≡ is_spending (Some (to, step)) member token) (sym c)
    (subst (λ (o : Option ℕ). is_commit_under store shard member token e (calls.Cas shard o bytes) ≡ is_spending (Some (to, step)) member token) (sym ex)
    (rw (t, shard_same shard, k2, w) refl))

-- what the count says at a standing member: none above its token, one at it, and at most one anywhere
pub record Told_by (count : ℕ → ℕ) (token : ℕ) : Type 0 where
  pub above : (t : ℕ) → token < t → count t ≡ 0
  pub at_token : token ≢ 0 → count token ≡ 1
  pub at_most : (t : ℕ) → count t ≤ 1

module _ (start : Stored) (shard : ShardId) (start_member : ℕ) (begin : Begins start shard start_member) (m : ℕ) (new : start_member ≤ m)
    (start_last : (number : ℕ) (last : ShardState) → IsLast (start.logs shard) number → StateIn shard (start.logs shard) number last → last.next_member ≤ start_member) where
  abbrev pub Count : List Entry → ℕ → ℕ
  Count es t = commits_under start shard m t es

  pub record Counted (es : List Entry) : Type 0 where
    -- before the member joins nothing is under it
    pub empty : ever start shard es ≡ no_log → (t : ℕ) → Count es t ≡ 0
    pub absent : (number : ℕ) (last : ShardState) → IsLast (ever start shard es) number →
        StateIn shard (ever start shard es) number last → last.next_member ≤ m → (t : ℕ) → Count es t ≡ 0
    pub standing : (number : ℕ) (last : ShardState) → IsLast (ever start shard es) number →
        StateIn shard (ever start shard es) number last → (w : Member) → Among (λ u. u ≡ w) last.members → w.number ≡ m →
        Told_by (Count es) w.token

  told_of : (count count2 : ℕ → ℕ) (token : ℕ) → ((t : ℕ) → count2 t ≡ count t) → Told_by count token → Told_by count2 token
  told_of count count2 token same b = record {
    above = λ t lt. same t ∙ b.above t lt;
    at_token = λ ne. same token ∙ b.at_token ne;
    at_most = λ t. let e : count2 t ≡ count t = same t in let le : count t ≤ 1 = b.at_most t in omega arith;
  }

  counted_step : (e : Entry) (es : List Entry) → LawfulBack start (e ∷ es) → Counted es → Counted (e ∷ es)
  counted_step e es l old = go (turn start shard begin.first e es l)
    where
      before : LawfulBack start es
      before = lawful_older start e es l

      idle : ever start shard (e ∷ es) ≡ ever start shard es → Counted (e ∷ es)
      idle q =
          let same : (t : ℕ) → Count (e ∷ es) t ≡ Count es t = λ t. rw (under_idle (replay_back start es) shard m t e e.call (ever start shard es) q) (omega arith) in
          record {
            empty = λ h t. same t ∙ old.empty (sym q ∙ h) t;
            absent = λ number last a b le t. same t ∙ old.absent number last (subst (λ (g : Log). IsLast g number) q a) (subst (λ (g : Log). StateIn shard g number last) q b) le t;
            standing = λ number last a b w among is. told_of (Count es) (Count (e ∷ es)) w.token same (old.standing number last (subst (λ (g : Log). IsLast g number) q a) (subst (λ (g : Log). StateIn shard g number last) q b) w among is);
          }

      full : (log : Log) (bytes : List ℕ) → ever start shard (e ∷ es) ≡ committed log bytes →
          ever start shard (e ∷ es) ≡ no_log → ⊥
      full log bytes q h =
          let a : end_of (committed log bytes) ≡ 0 = ap end_of (sym q ∙ h) in
          let b : end_of (committed log bytes) ≡ end_of log + 1 = end_of-committed log bytes in omega arith

      go : Turn start shard e es → Counted (e ∷ es)
      go (still q r) = idle q
      go (shorter below c q r) = idle q
      go (begins expected bytes c f q r) =
          let q2 = q ∙ ap (λ (g : Log). committed g bytes) f.empty in
          let zero_all : (t : ℕ) → Count (e ∷ es) t ≡ 0 = λ t. rw (under_none (replay_back start es) shard m t e e.call expected bytes c f.none, old.empty f.empty t) (omega arith) in
          record {
            empty = λ h t. zero_all t;
            absent = λ number last a b le t. zero_all t;
            standing = λ number last a b w among is.
                let b2 = subst (λ (g : Log). StateIn shard g number last) q2 b in
                let last_is = state_first shard bytes f.first number last b2 in
                absurd (subst (λ (s : ShardState). Among (λ u. u ≡ w) s.members) (sym last_is) among);
          }
      go (grows expected bytes c t0 k2 b q r) =
          let g = b.commit in
          let rules : IsState g.from = state_rules shard (ever start shard es) g.n g.from g.from_is in
          let kept = kept_at start shard start_member begin es before g.n g.from g.from_is in
          let counts : (t : ℕ) → Count (e ∷ es) t ≡ cond (is_spending (Some (g.to, g.step)) m t) 1 0 + Count es t =
          λ t. rw (under_grown (replay_back start es) shard m t e e.call expected g.n bytes g.to g.step c b.number t0 k2 g.written) refl in
          let unspent : (t : ℕ) → (Spends g.step m t → ⊥) → Count (e ∷ es) t ≡ Count es t =
          λ t unspent_by. elim (bool_cases (is_spending (Some (g.to, g.step)) m t)) [ inl y ↦ absurd (unspent_by (true_spends g.to g.step m t y)) | inr y ↦ counts t ∙ rw y (omega arith) ] in
          let once : (t : ℕ) → Spends g.step m t → Count (e ∷ es) t ≡ Count es t + 1 = λ t y. counts t ∙ rw (spends_true g.to g.step m t y) (omega arith) in
          let newest : (number : ℕ) (last : ShardState) → IsLast (ever start shard (e ∷ es)) number → StateIn shard (ever start shard (e ∷ es)) number last → last ≡ g.to =
          λ number last a s. (last_commit shard (ever start shard es) bytes g number last (subst (λ (w : Log). IsLast w number) q a) (subst (λ (w : Log). StateIn shard w number last) q s)).1 in
          record {
            empty = λ h. absurd (full (ever start shard es) bytes q h);
            absent = λ number last a s le t.
                let up : g.from.next_member ≤ g.to.next_member = next_rises g.from g.to g.step g.applies in
                let e2 : last.next_member ≡ g.to.next_member = ap (λ (w : ShardState). w.next_member) (newest number last a s) in
                let none : Count es t ≡ 0 = old.absent g.n g.from g.last g.from_is (omega arith) t in
                unspent t (λ y. let k : m < g.from.next_member = spent_known g.from g.to g.step m t rules g.applies y in omega arith) ∙ none;
            standing = λ number last a s w among is.
                let among2 = subst (λ (v : ShardState). Among (λ u. u ≡ w) v.members) (newest number last a s) among in
                after (Count es) (Count (e ∷ es)) g.from g.step w is unspent once (members_after g.from g.to g.step w rules g.applies among2)
                (λ v in_from is_m. old.standing g.n g.from g.last g.from_is v in_from is_m)
                (λ le t. old.absent g.n g.from g.last g.from_is le t);
          }
        where
          -- a spent token is of a member that the state knows
          spent_known : (s s2 : ShardState) (x : Transition) (member t : ℕ) → IsState s → Applies s x s2 → Spends x member t →
              member < s.next_member
          spent_known s s2 (Append a b c2 d e2 f g2) member t r ap2 y =
              let (w, lt, stands) = each_among (λ u. u.number < s.next_member) (λ u. (u.number ≡ a) × ((is_writer u.kind ≡ true) × (u.token < b))) s.members r.known ap2.makes.stands in
              let l2 : w.number < s.next_member = lt in let e3 : w.number ≡ a = stands.0 in let e4 : a ≡ member = y.0 in omega arith
          spent_known s s2 (Merge a b c2 d e2) member t r ap2 y =
              let (w, lt, stands) = each_among (λ u. u.number < s.next_member) (λ u. (u.number ≡ a) × ((u.kind ≡ Keeper) × (u.token < b))) s.members r.known ap2.makes.stands in
              let l2 : w.number < s.next_member = lt in let e3 : w.number ≡ a = stands.0 in let e4 : a ≡ member = y.0 in omega arith
          spent_known s s2 Init member t r ap2 y = absurd y
          spent_known s s2 (Join a b c2) member t r ap2 y = absurd y
          spent_known s s2 (Leave a) member t r ap2 y = absurd y
          spent_known s s2 (Renew a b) member t r ap2 y = absurd y
          spent_known s s2 (Advance a b) member t r ap2 y = absurd y
          spent_known s s2 (Expire a) member t r ap2 y = absurd y

          after : (count count2 : ℕ → ℕ) (from : ShardState) (x : Transition) (w : Member) → w.number ≡ m →
              ((t : ℕ) → (Spends x m t → ⊥) → count2 t ≡ count t) → ((t : ℕ) → Spends x m t → count2 t ≡ count t + 1) →
              After from x w →
              ((v : Member) → Among (λ u. u ≡ v) from.members → v.number ≡ m → Told_by count v.token) → (from.next_member ≤ m → (t : ℕ) → count t ≡ 0) → Told_by count2 w.token
          after count count2 from x w is un on (has_joined n z unspent_by) told none =
              let le : from.next_member ≤ m = (let a : w.number ≡ from.next_member = n in let b : w.number ≡ m = is in omega arith) in
              record { above = λ t lt. un t (unspent_by m t) ∙ none le t; at_token = λ ne. absurd (ne z); at_most = λ t. let e2 : count2 t ≡ 0 = un t (unspent_by m t) ∙ none le t in omega arith }
          after count count2 from x w is un on (stayed v among n z unspent_by) told none =
              let b = told v among (n ∙ is) in
              let same : (t : ℕ) → count2 t ≡ count t = λ t. un t (λ y. unspent_by t (subst (λ (j : ℕ). Spends x j t) (sym is) y)) in
              subst (Told_by count2) z (told_of count count2 v.token same b)
          after count count2 from x w is un on (spent v among n lt sp only) told none =
              let b = told v among (n ∙ is) in
              let sp2 : Spends x m w.token = subst (λ (j : ℕ). Spends x j w.token) is sp in
              let other : (t : ℕ) → (w.token ≡ t → ⊥) → count2 t ≡ count t = λ t ne. un t (λ y. ne (only t (subst (λ (j : ℕ). Spends x j t) (sym is) y))) in
              let one : count2 w.token ≡ 1 = on w.token sp2 ∙ ap (λ j. j + 1) (b.above w.token lt) in
              record {
                above = λ t gt. other t (λ e2. (let gt2 : w.token < t = gt in omega arith)) ∙ b.above t (let gt2 : w.token < t = gt in let l2 : v.token < w.token = lt in omega arith);
                at_token = λ ne. one;
                at_most = λ t. elim (bool_cases (eqb w.token t)) [
                  | inl y ↦ let e2 : w.token ≡ t = eqb-true w.token t y in let e3 : count2 t ≡ 1 = subst (λ (j : ℕ). count2 j ≡ 1) e2 one in omega arith
                  | inr y ↦ let e3 : count2 t ≡ count t = other t (eqb-false w.token t y) in let le : count t ≤ 1 = b.at_most t in omega arith
                ];
              }

  pub counted : (es : List Entry) → LawfulBack start es → Counted es
  counted [] l = record {
    empty = λ h t. refl;
    absent = λ number last a b le t. refl;
    standing = λ number last a b w among is. absurd (
        let rules : IsState last = state_rules shard (start.logs shard) number last b in
        let lt : w.number < last.next_member = each_at (λ (u : Member). u.number < last.next_member) last.members w rules.known among in
        let le = start_last number last a b in
        omega arith);
  }
  counted (e ∷ es) l = counted_step e es l (counted es (lawful_older start e es l))
