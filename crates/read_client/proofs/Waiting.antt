-- A reader follows past entries of others, and with no open command past a call of another machine of its client.
use Rattle.std.proofs.Common.{◌≡◌, ℕ, Option, Some, None, List, ◌∷◌, ◌++◌, inr, refl, sym, ap, subst}
use Rattle.std.specs.Prelude.{IfSome}
use Rattle.store_core.specs.declared.entries.Entry.{Entry}
use Rattle.store_core.specs.Stores.{Stored}
use Rattle.store_core.specs.Histories.{reply}
use Rattle.store_core.specs.Ports.{Answered, OfOthers, answered}
use Rattle.store_core.specs.Newest.{mine_back, replay_back}
use Rattle.state_core.specs.declared.kinds.Kind.TheVariants.{Reader as AsReader}
use Rattle.history_core.specs.declared.asked.Asked.{Asked}
use Rattle.history_core.specs.Members.{JoinedAs}
use Rattle.history_core.proofs.Gaining.{mine_gained, mine_others}
use Rattle.load_core.specs.Following.{FollowsTrying}
use Rattle.load_core.proofs.Following.{shows_on, with_newest}
use Rattle.read_machine.specs.Readings as readings
use Rattle.read_client.specs.declared.questions.Question.{Question}
use Rattle.read_client.specs.declared.readers.Reader.{Reader}
use Rattle.read_client.specs.Asking.{asking, question_of}
use Rattle.read_client.specs.Following.{Follows}
use Rattle.read_client.specs.Reading.{question, shard_of}
use Rattle.read_client.proofs.Questioning.{read_keeps}

-- ---- entries of others

module _ (start : Stored) (client : ℕ) (others es : List Entry) (of : OfOthers client others) (r : Reader) where
  pub others_on : Follows client r start es → Follows client r start (others ++ es)
  others_on f = record {
    trying = subst (λ (os : List Answered). FollowsTrying r.trying os) (sym (mine_others start client others es of)) f.trying;
    member = subst (λ (os : List Answered). IfSome r.member (JoinedAs AsReader os (shard_of r)))
        (sym (mine_others start client others es of)) f.member;
    reading = reads (question r) f.reading;
  }
    where
      reads : (q : Option Question) → IfSome q (λ q. readings.Follows asking client r.reading start es) →
          IfSome q (λ q. readings.Follows asking client r.reading start (others ++ es))
      reads None h = h
      reads (Some q) h = read_keeps.others_follow client r.reading start others es of h

-- ---- a call of another machine of its client

pub follows_spared : (client : ℕ) (r : Reader) (start : Stored) (e : Entry) (others es : List Entry) → r.asked ≡ None →
    e.client ≡ client →
    OfOthers client others → Follows client r start es →
    Follows client r start (e ∷ (others ++ es))
follows_spared client r start e others es idle own of f = record {
  trying = subst (λ (os : List Answered). FollowsTrying r.trying os) (sym gained)
      (with_newest r.trying r.trying This (mine_back start es client) f.trying refl refl
      (shows_on This (mine_back start es client) (shard_of r) r.trying.loader.cached f.trying.shown));
  member = subst (λ (os : List Answered). IfSome r.member (JoinedAs AsReader os (shard_of r))) (sym gained)
      (joined r.member f.member);
  reading = subst (λ (q : Option Question). IfSome q (λ q. readings.Follows asking client r.reading start (e ∷ (others ++ es))))
      (sym unasked) tt;
}
  where
    This : Answered
    This = answered e (reply (replay_back start (others ++ es)) e)

    gained : mine_back start (e ∷ (others ++ es)) client ≡ This ∷ mine_back start es client
    gained = mine_gained start client e others es own of

    unasked : question r ≡ None
    unasked = ap (λ (a : Option Asked). question_of a r.listen) idle

    joined : (o : Option ℕ) → IfSome o (JoinedAs AsReader (mine_back start es client) (shard_of r)) →
        IfSome o (JoinedAs AsReader (This ∷ mine_back start es client) (shard_of r))
    joined None h = tt
    joined (Some m) h = inr h
