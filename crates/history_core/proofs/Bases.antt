-- What a lawful history begins from.
use Rattle.std.proofs.Common.{◌≡◌, ℕ, ◌+◌, ◌≤◌, true, List, [], inl, inr, refl, arith, subst, sym, ap, ◌∙◌, length}
use Rattle.std.specs.List.{AllByRecursion}
use Rattle.update_core.specs.declared.updates.Update.{Update}
use Rattle.update_core.specs.Frontiers.{covers}
use Rattle.update_core.specs.Updates.{weight_of}
use Rattle.store_core.specs.declared.shards.ShardId.{ShardId}
use Rattle.store_core.specs.Stores.{Log, Stored, no_log}
use Rattle.state_core.specs.States.{ShardState, floor}
use Rattle.state_core.proofs.Batches.{Unweighed}
use Rattle.history_core.specs.Stands.{VersionIs, StateIn, end_of, IsLast, StandsFor, Empty, Collection}
use Rattle.history_core.proofs.Chains.{version_below, one_state}
use Rattle.history_core.proofs.Blobs.{Begins}
use Rattle.history_core.proofs.Presence.{Present}
use Rattle.history_core.proofs.Content.{Contained}

-- what a lawful history begins from
pub record Base (start : Stored) (shard : ShardId) (list : List Update) : Type 0 where
  pub start_member : ℕ
  pub begin : Begins start shard start_member
  pub present : Present shard (start.logs shard) start
  pub content : Contained shard (start.logs shard) start list
  pub unstarted : start.logs shard ≡ no_log → list ≡ []
  -- no member of the start is above the bound
  pub known : (number : ℕ) (last : ShardState) → IsLast (start.logs shard) number → StateIn shard (start.logs shard) number last → last.next_member ≤ start_member

pub none_there : (shard : ShardId) (log : Log) (n : ℕ) (s : ShardState) → log ≡ no_log → StateIn shard log n s → ⊥
none_there shard log n s e h = let g = subst (λ (l : Log). VersionIs shard l n s h.0) e h.1 in cc

base_empty : (start : Stored) (shard : ShardId) (list : List Update) → Empty start shard list → Base start shard list
base_empty start shard list e = record {
  start_member = 0;
  begin = record {
    first = λ v. ap (λ (l : Log). l.first) e.no_version;
    stands = inl (e.no_version, refl);
    named = λ n s k h named. absurd (none_there shard (start.logs shard) n s e.no_version h);
    known = λ k b here there. absurd (let no = e.no_key k here in cc);
  };
  present = λ number last newest st. absurd (none_there shard (start.logs shard) number last e.no_version st);
  content = λ number last newest st. absurd (none_there shard (start.logs shard) number last e.no_version st);
  unstarted = λ v. e.no_update;
  known = λ number last newest st. absurd (none_there shard (start.logs shard) number last e.no_version st);
}

pub newest_one : (shard : ShardId) (log : Log) (number number2 : ℕ) (last last2 : ShardState) → IsLast log number → StateIn shard log number last → IsLast log number2 → StateIn shard log number2 last2 → (number ≡ number2) × (last ≡ last2)
newest_one shard log number number2 last last2 a st b st2 =
    let e : number2 ≡ number = (let a2 : (number + 1) ≡ end_of log = a in let b2 : (number2 + 1) ≡ end_of log = b in omega arith) in
    let st3 = subst (λ (j : ℕ). StateIn shard log j last2) e st2 in
    (sym e, (one_state shard log number last last2 st.0 st3.0 st.1 st3.1).0)

base_collection : (start : Stored) (shard : ShardId) (list : List Update) → Collection start shard list → Base start shard list
base_collection start shard list c = record {
  start_member = c.last.next_member;
  begin = record {
    first = λ v. absurd (not_empty (start.logs shard) v c.number c.last c.state);
    stands = inr (record { number = c.number; last = c.last; newest = c.newest; state = c.state; chain = c.chain; keys = c.keys; bound = omega arith });
    named = λ n s k h named. (c.keys.named n s k h named).below;
    known = λ k b here there. c.known k b here there;
  };
  present = λ number last newest st. let (e, f) = newest_one shard (start.logs shard) c.number number c.last last c.newest c.state newest st in
      record {
        live_on = λ n le up. c.live n (subst (λ (s : ShardState). floor s ≤ n) (sym f) le) (subst (λ (j : ℕ). n ≤ j) (sym e) up);
        present = λ n s k le h named. c.present n s k (subst (λ (s : ShardState). floor s ≤ n) (sym f) le) h named;
      };
  content = λ number last newest st. let (e, f) = newest_one shard (start.logs shard) c.number number c.last last c.newest c.state newest st in
      record {
        content = λ n s le h. c.content n s (subst (λ (s : ShardState). floor s ≤ n) (sym f) le) h;
        before_upper = subst (λ (s : ShardState). AllByRecursion (λ u. covers s.upper u.time ≡ true) list) f c.before_upper;
        light = subst (λ (s : ShardState). weight_of list ≤ s.weight) f c.light;
        unweighed = subst Unweighed f c.unweighed;
      };
  unstarted = λ v. absurd (none_there shard (start.logs shard) c.number c.last v c.state);
  known = λ number last newest st.
      let (e, f) = newest_one shard (start.logs shard) c.number number c.last last c.newest c.state newest st in
      let same : c.last.next_member ≡ last.next_member = ap (λ (s : ShardState). s.next_member) f in omega arith;
}
  where
    not_empty : (log : Log) → log.versions ≡ [] → (n : ℕ) (s : ShardState) → StateIn shard log n s → ⊥
    not_empty log v n s h =
        let (low, high) = version_below shard log n s h.0 h.1 in
        let e : end_of log ≡ log.first = ap (λ (vs : List (List ℕ)). log.first + length vs) v ∙ omega arith in
        omega arith

pub base_of : (start : Stored) (shard : ShardId) (list : List Update) → StandsFor start shard list → Base start shard list
base_of start shard list (inl e) = base_empty start shard list e
base_of start shard list (inr c) = base_collection start shard list c
