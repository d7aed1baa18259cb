-- The laws on which answers rest, over entries that go newest first.
use Rattle.std.proofs.Common.{◌≡◌, ◌≢◌, ℕ, ◌<◌, List, [], ◌∷◌, inl, inr, refl, arith, subst, sym, ap, ◌∙◌, drop}
use Rattle.std.specs.Prelude.{reverse, ⊤}
use Rattle.update_core.specs.declared.updates.Update.{Update}
use Rattle.store_core.specs.declared.shards.ShardId.{ShardId}
use Rattle.store_core.specs.declared.entries.Entry.{Entry}
use Rattle.store_core.specs.Stores.{Stored}
use Rattle.store_core.specs.Ports.{Answered}
use Rattle.store_core.specs.Newest.{replay_back, mine_back}
use Rattle.store_core.proofs.NewestLaws.{replay-newest, mine-newest}
use Rattle.state_core.specs.declared.members.Member.{Member}
use Rattle.state_core.specs.Lists.{Among}
use Rattle.state_core.specs.States.{ShardState}
use Rattle.state_core.specs.Steps.{Stands}
use Rattle.history_core.specs.Discipline.{Owns, IsCasUnder, LawfulBack}
use Rattle.history_core.specs.Stands.{StandsFor}
use Rattle.history_core.specs.Spending.{commits_under}
use Rattle.history_core.specs.Laws.{LastIs}
use Rattle.history_core.specs.Placing.{places, OnlyOne, CommitsUnder}
use Rattle.history_core.specs.AnswerLaws.{CommittedOnce}
use Rattle.history_core.proofs.Prefixes.{lawful_back}
use Rattle.history_core.proofs.Bases.{base_of}
use Rattle.history_core.proofs.Blobs.{owners_at}
use Rattle.history_core.proofs.Lasts.{last_ever}
use Rattle.history_core.proofs.Once.{counted}
use Rattle.history_core.proofs.Committed.{one_placed}

-- an element that has P
found : {A : Type 0} (P : A → Type 0) (xs : List A) → Among P xs → (x : A) × Among (λ y. y ≡ x) xs × P x
found P [] h = absurd h
found P (x ∷ xs) (inl h) = (x, inl refl, h)
found P (x ∷ xs) (inr h) = let (y, among, is) = found P xs h in (y, inr among, is)

-- where an owned member's token isn't 0, and no own Cas under it is older than the command, exactly one entry of the command committed under it
pub committed_once : (start : Stored) (shard : ShardId) (list : List Update) (es : List Entry) → StandsFor start shard list → LawfulBack start es →
    (client calls member token n : ℕ) (s : ShardState) → Owns (mine_back start es client) shard member → LastIs (replay_back start es) shard n s → 0 < token →
    Stands member (λ m. m.token ≡ token) s.members → (¬ Among (λ o. IsCasUnder shard member token o.entry.call) (drop calls (mine_back start es client))) →
    OnlyOne (CommitsUnder start shard member token) (λ p. ⊤) (places client calls es)
committed_once start shard list es st l client calls member token n s owned newest pos stands none =
    let base = base_of start shard list st in
    let who = owners_at start shard base.start_member base.begin es l in
    let (last, state) = last_ever start shard list st es l n s newest in
    let (w, among, is) = found (λ (m : Member). (m.number ≡ member) × (m.token ≡ token)) s.members stands in
    let has = is.1 in
    let told = (counted start shard base.start_member base.begin member (who.new client member owned) base.known es l).standing n s last state w among is.0 in
    let spent : w.token ≢ 0 = (λ z. let e : w.token ≡ token = has in let e2 : w.token ≡ 0 = z in omega arith) in
    let one = ap (λ t. commits_under start shard member t es) (sym has) ∙ told.at_token spent in
    one_placed start shard base.begin.first member token client calls es l (λ d o. who.one d client member o owned) one none

pub once_law : CommittedOnce
once_law shard list h st l client calls member token n s owned newest pos stands none =
    let own_is = mine-newest h client in
    committed_once h.start shard list (reverse h.trail) st (lawful_back h l) client calls member token n s
    (subst (λ (own : List Answered). Owns own shard member) own_is owned)
    (subst (λ (t : Stored). LastIs t shard n s) (replay-newest h.start h.trail) newest) pos stands
    (subst (λ (own : List Answered). ¬ Among (λ o. IsCasUnder shard member token o.entry.call) (drop calls own)) own_is none)
