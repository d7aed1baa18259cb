-- A writer's open and its close are changes of its member. Entries go newest first.
use Rattle.std.proofs.Common.{◌≡◌, ℕ, ◌<◌, true, false, Option, Some, List, ◌∷◌, ◌++◌, refl, sym, ap, subst}
use Rattle.std.specs.Prelude.{IfSome, unwrap_or}
use Rattle.update_core.specs.declared.updates.Update.{Update}
use Rattle.store_core.specs.declared.entries.Entry.{Entry}
use Rattle.store_core.specs.Histories.{reply}
use Rattle.store_core.specs.Stores.{Stored}
use Rattle.store_core.specs.Ports.{OfOthers}
use Rattle.store_core.specs.Newest.{mine_back, replay_back}
use Rattle.state_core.specs.declared.kinds.Kind.TheVariants.{Writer as AsWriter}
use Rattle.state_core.specs.declared.transitions.Transition.TheVariants.{Join, Leave}
use Rattle.update_core.specs.Limits.{most}
use Rattle.history_core.specs.declared.asked.Asked.{Asked}
use Rattle.history_core.specs.Discipline.{LawfulBack}
use Rattle.history_core.specs.Placing.{places}
use Rattle.history_core.specs.Stands.{StandsFor}
use Rattle.load_core.specs.declared.tries.Tried.{Tried}
use Rattle.load_core.specs.declared.tryings.Trying.{Trying}
use Rattle.load_core.specs.Trying as trying
use Rattle.change_core.specs.declared.outcomes.Outcome.{Outcome}
use Rattle.change_core.specs.declared.outcomes.Outcome.TheVariants as outcomes
use Rattle.change_core.specs.Changes.{IsAnswerTo, IsChange, IsOfMember, outcome}
use Rattle.change_core.specs.Legality.{ChangesAt, LegalChange}
use Rattle.change_core.proofs.Coming.{change_answered, change_legal}
use Rattle.token_machine.specs.declared.storings.Storing.{Storing}
use Rattle.token_machine.specs.Following.{Draws}
use Rattle.token_machine.specs.Legality.{StoringMoves}
use Rattle.token_machine.proofs.Ways.{SetWay, Way, call_false, fails, goes, set, set_way, try, way}
use Rattle.write_client.specs.declared.writers.Writer.{Writer}
use Rattle.write_client.specs.Following.{Follows, FollowsMember}
use Rattle.write_client.specs.Writing.{IsSound, appends, call_of, own_member, shard_of}
use Rattle.write_client.proofs.Asking.{Asks, appends as asks_append, closes, opens}

join_change : (member : ℕ) → IsChange AsWriter member (Join AsWriter 0 0)
join_change member = record { changes = refl; shaped = λ s. refl }

leave_change : (member : ℕ) → IsChange AsWriter member (Leave member)
leave_change member = record { changes = refl; shaped = λ s. refl }

module _ (client : ℕ) (w : Writer) (list : List Update) (start : Stored) (e : Entry) (others es : List Entry) (sound : IsSound w)
    (follows : Follows client w start es) (own : e.client ≡ client) (of : OfOthers client others)
    (st : StandsFor start (shard_of w) list)
    (lawful : LawfulBack start (e ∷ (others ++ es))) (call : e.call ≡ trying.call_of w.storing.trying) where
  abbrev Changes : ℕ → Type 0
  Changes member = ChangesAt AsWriter member w.storing.trying client list start e others es

  changes : (member : ℕ) → IsChange AsWriter member w.storing.trying.step →
      (IsOfMember w.storing.trying.step → Draws AsWriter (shard_of w) member w.token (mine_back start es client)) →
      Changes member
  changes member change joined = record {
    at = record {
      sound = sound.storing.trying;
      own = own;
      call_is = call;
      of_others = of;
      stands = st;
      lawful = lawful;
      follows = follows.trying;
    };
    change = change;
    joined = λ of. (joined of).joined;
  }

  open_changes : w.storing.trying.step ≡ Join AsWriter 0 0 → Changes (own_member w)
  open_changes step = changes (own_member w) (subst (IsChange AsWriter (own_member w)) (sym step) (join_change (own_member w)))
      (λ of. absurd (let join : IsOfMember (Join AsWriter 0 0) = subst IsOfMember step of in join))

  close_changes : (m : ℕ) → w.member ≡ Some m → w.storing.trying.step ≡ Leave m → Changes m
  close_changes m is leaves = changes m (subst (IsChange AsWriter m) (sym leaves) (leave_change m))
      (λ of. (subst (λ (o : Option ℕ). IfSome o (FollowsMember w (mine_back start es client))) is follows.member).draws)

  -- so is what was asked, but for an append
  pub asked_changes : (asked : Asked) → appends asked ≡ false → Asks w asked → Changes (own_member w)
  asked_changes asked other (opens shard e of step none) = open_changes step
  asked_changes asked other (asks_append rows expected new e a) =
      absurd (let bad : true ≡ false = subst (λ (z : Asked). appends z ≡ false) e other in cc)
  asked_changes asked other (closes m e named step none) = subst (λ (o : Option ℕ). Changes (unwrap_or o 0)) (sym named)
      (close_changes m named step)

-- its outcome means what it says, however it came to it
module _ (client : ℕ) (w : Writer) (list : List Update) (start : Stored) (e : Entry) (others es : List Entry) (sound : IsSound w)
    (follows : Follows client w start es) (own : e.client ≡ client) (of : OfOthers client others)
    (st : StandsFor start (shard_of w) list)
    (lawful : LawfulBack start (e ∷ (others ++ es))) (call_is : call_of w ≡ Some e.call) (s : Storing) (tried : Tried)
    (moves : StoringMoves w.storing start e (others ++ es) s tried) (asked : Asked) (other : appends asked ≡ false)
    (a : Asks w asked) where
  abbrev Came : Outcome
  Came = outcome s.trying (own_member w) tried

  by_way : (P : Outcome → Type 0) → P outcomes.Going → P outcomes.Fault →
      ((t : Trying) → e.call ≡ trying.call_of w.storing.trying → trying.Moves w.storing.trying
      (reply (replay_back start (others ++ es)) e) t tried →
      t ≡ s.trying → P (outcome t (own_member w) tried)) → P Came
  by_way P going fault on = by (way w.storing s (reply (replay_back start (others ++ es)) e) tried moves)
    where
      set_by : SetWay (reply (replay_back start (others ++ es)) e) tried → P Came
      set_by (goes is stored) = subst (λ (k : Tried). P (outcome s.trying (own_member w) k)) (sym is) going
      set_by (fails is failed) = subst (λ (k : Tried). P (outcome s.trying (own_member w) k)) (sym is) fault

      by : Way w.storing (reply (replay_back start (others ++ es)) e) s tried → P Came
      by (set h m) = set_by (set_way w.storing s (reply (replay_back start (others ++ es)) e) tried m)
      by (try h (t, m, n)) =
          let same : t ≡ s.trying = sym (ap (λ (z : Storing). z.trying) n) in
          subst (λ (z : Trying). P (outcome z (own_member w) tried)) same (on t (call_false w.storing e.call h call_is) m same)

  pub answers_change : IsAnswerTo w.storing.trying.step Came
  answers_change = by_way (IsAnswerTo w.storing.trying.step) tt tt (λ t call m same.
      change_answered AsWriter (own_member w) w.storing.trying t client list start e others es
      (asked_changes client w list start e others es sound follows own of st lawful call asked other a) tried m)

  pub means_change : s.trying.calls < most → LegalChange start (shard_of w) (own_member w) w.storing.trying.step Came
      (places client s.trying.calls (e ∷ (others ++ es)))
  means_change lt = by_way (λ o. LegalChange start (shard_of w) (own_member w) w.storing.trying.step o
      (places client s.trying.calls (e ∷ (others ++ es)))) tt tt
      (λ t call m same. subst (λ (n : ℕ). LegalChange start (shard_of w) (own_member w) w.storing.trying.step
      (outcome t (own_member w) tried)
      (places client n (e ∷ (others ++ es)))) (ap (λ (z : Trying). z.calls) same)
      (change_legal AsWriter (own_member w) w.storing.trying t client list start e others es
      (asked_changes client w list start e others es sound follows own of st lawful call asked other a) tried m
      (subst (λ (n : ℕ). n < most) (sym (ap (λ (z : Trying). z.calls) same)) lt)))
