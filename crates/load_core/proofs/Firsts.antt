-- The call of a transition that is tried makes a shard's first version only where no state is known.
use Rattle.std.proofs.Common.{◌≡◌, ℕ, Option, Some, None, refl, sym, subst}
use Rattle.store_core.specs.declared.calls.Call.TheVariants as calls
use Rattle.state_core.specs.States.{ShardState}
use Rattle.load_core.specs.declared.nexts.Next.{Next}
use Rattle.load_core.specs.declared.nexts.Next.TheVariants as nexts
use Rattle.load_core.specs.declared.readies.Ready.{Ready}
use Rattle.load_core.specs.declared.tryings.Trying.{Trying}
use Rattle.load_core.specs.Firsts.{MakesFirst}
use Rattle.load_core.specs.Trying.{IsReadyAfter, IsReadyNext, IsSound, call_by, call_of}

pub tried_first : (Opens : Type 0) (t : Trying) → IsSound t → (t.loader.cached ≡ None → Opens) → MakesFirst Opens t.loader.shard (call_of t)
tried_first Opens t sound opens = go t.next sound
  where
    ready : (r : Ready) (c : Option ShardState) → t.loader.cached ≡ c → IsReadyAfter t.loader.shard c t.step r →
        MakesFirst Opens t.loader.shard (calls.Cas t.loader.shard r.expected r.bytes)
    ready r None cached first =
        subst (λ (n : Option ℕ). MakesFirst Opens t.loader.shard (calls.Cas t.loader.shard n r.bytes)) (sym first.expected_is)
        (opens cached, refl, first.spelled)
    ready r (Some s) cached is =
        subst (λ (n : Option ℕ). MakesFirst Opens t.loader.shard (calls.Cas t.loader.shard n r.bytes)) (sym is.expected_is) tt

    go : (next : Next) → IsReadyNext t.loader t.step next → MakesFirst Opens t.loader.shard (call_by t.loader next)
    go nexts.Attempt h = tt
    go nexts.Scan h = tt
    go (nexts.Cas r) h = ready r t.loader.cached refl h.0
