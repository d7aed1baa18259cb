-- What each entry of a client has goes on as its front grows.
use Rattle.std.proofs.Common.{◌≡◌, ◌≢◌, ℕ, Option, Some, None, List, [], ◌∷◌, ◌++◌, inl, inr, refl, sym, ap, subst, ◌∙◌, append_assoc}
use Rattle.std.proofs.Common.{append-nil}
use Rattle.std.specs.Prelude.{reverse}
use Rattle.store_core.specs.declared.shards.ShardId.{ShardId}
use Rattle.store_core.specs.declared.calls.Call.{Call}
use Rattle.store_core.specs.declared.replies.Reply.{Reply}
use Rattle.store_core.specs.declared.entries.Entry.{Entry}
use Rattle.store_core.specs.Stores.{Stored}
use Rattle.store_core.specs.Histories.{History, entry_of, with_entry}
use Rattle.store_core.specs.Ports.{GainsWhereTold, GrowsByOthers, OfOthers, with_entries}
use Rattle.history_core.specs.Discipline.{Lawful}
use Rattle.crew_core.specs.Keeping.{Keeps}
use Rattle.crew_core.specs.KeepingOn.{KeepsOn, WouldKeep}
use Rattle.crew_core.proofs.Splits.{none_in, only_one, split_at}

-- a history of entries
abbrev pub of_entries : Stored → List Entry → History
of_entries start es = record { start = start; trail = es }

-- more entries after more entries
pub entries_joined : (h : History) (xs ys : List Entry) → with_entries (with_entries h xs) ys ≡ with_entries h (xs ++ ys)
entries_joined h xs ys = ap (λ (es : List Entry). of_entries h.start es) (append_assoc h.trail xs ys)

module _ (P : Stored → List Entry → Entry → Type 0) (shard : ShardId) (client : ℕ) where
  -- no entry has come
  pub keeps_none : (h : History) → Keeps P shard client h []
  keeps_none h before after e split own list st l = absurd (none_in before after e split)

  -- entries of others have come
  among_others : (before after : List Entry) (e : Entry) → OfOthers client (before ++ e ∷ after) → e.client ≢ client
  among_others [] after e of = of.0
  among_others (b ∷ before) after e of = among_others before after e of.1

  pub keeps_others : (h : History) (others : List Entry) → OfOthers client others → Keeps P shard client h others
  keeps_others h others of before after e split own list st l = absurd (among_others before after e (subst (OfOthers client) split of) own)

  -- one part of the entries after the other
  pub keeps_both : (h : History) (xs ys : List Entry) → Keeps P shard client h xs → Keeps P shard client (with_entries h xs) ys →
      Keeps P shard client h (xs ++ ys)
  keeps_both h xs ys first second before after e split own list st l = elim (split_at xs ys before after e split) [
    | inl k ↦ first before k.rest e k.first_is own list st l
    | inr k ↦
        let joined : with_entries (with_entries h xs) k.rest ≡ with_entries h before =
        entries_joined h xs k.rest ∙ ap (with_entries h) (sym k.before_is) in
        subst (λ (g : History). P g.start (reverse g.trail) e) joined
        (second k.rest after e k.second_is own list st (subst Lawful (sym joined) l))
  ]

  -- the first part of the entries alone
  pub keeps_first : (h : History) (xs ys : List Entry) → Keeps P shard client h (xs ++ ys) → Keeps P shard client h xs
  keeps_first h xs ys k before after e split own list st l =
      k before (after ++ ys) e (ap (λ zs. zs ++ ys) split ∙ append_assoc before (e ∷ after) ys) own list st l

  -- the second part, of the history with the first
  pub keeps_second : (h : History) (xs ys : List Entry) → Keeps P shard client h (xs ++ ys) → Keeps P shard client (with_entries h xs) ys
  keeps_second h xs ys k before after e split own list st l =
      let joined = entries_joined h xs before in
      subst (λ (g : History). P g.start (reverse g.trail) e) (sym joined)
      (k (xs ++ before) after e (ap (λ zs. xs ++ zs) split ∙ sym (append_assoc xs before (e ∷ after))) own list st (subst Lawful joined l))

  -- ---- fronts

  pub on_same : (front : Option History) → KeepsOn P shard client front front
  on_same None = refl
  on_same (Some h) = ([], ap (λ (es : List Entry). Some (of_entries h.start es)) (sym (append-nil h.trail)), keeps_none h)

  pub on_others : (front now : Option History) → GrowsByOthers client front now → KeepsOn P shard client front now
  on_others None now g = g
  on_others (Some h) now (others, of, is) = (others, is, keeps_others h others of)

  pub on_both : (a b c : Option History) → KeepsOn P shard client a b → KeepsOn P shard client b c → KeepsOn P shard client a c
  on_both None b c first second = subst (λ (f : Option History). KeepsOn P shard client f c) first second
  on_both (Some h) b c (xs, b_is, first) second = go (subst (λ (f : Option History). KeepsOn P shard client f c) b_is second)
    where
      go : KeepsOn P shard client (Some (with_entries h xs)) c → KeepsOn P shard client (Some h) c
      go (ys, c_is, more) = (xs ++ ys, c_is ∙ ap Some (entries_joined h xs ys), keeps_both h xs ys first more)

  -- a call of the client that is answered, whose entry has P
  pub on_gains : (a b : Option History) (call : Call) (r : Reply) → GainsWhereTold client a b call r →
      WouldKeep P shard client a call → KeepsOn P shard client a b
  on_gains None b call r g p = g
  on_gains (Some h) b call r (k, b_is, g) p = (
    g.others ++ entry_of client call g.outcome ∷ [],
    b_is ∙ ap Some (g.new_is ∙ new),
    keeps_both h g.others (entry_of client call g.outcome ∷ []) (keeps_others h g.others g.of_others) last,
  )
    where
      new : with_entry (with_entries h g.others) (entry_of client call g.outcome) ≡
          with_entries h (g.others ++ entry_of client call g.outcome ∷ [])
      new = entries_joined h g.others (entry_of client call g.outcome ∷ [])

      last : Keeps P shard client (with_entries h g.others) (entry_of client call g.outcome ∷ [])
      last before after e split own list st l =
          let only = only_one (entry_of client call g.outcome) before after e split in
          let here : with_entries h g.others ≡ with_entries (with_entries h g.others) before =
          ap (λ (es : List Entry). of_entries h.start es)
          (sym (append-nil (h.trail ++ g.others)) ∙ ap (λ (es : List Entry). (h.trail ++ g.others) ++ es) (sym only.before_is)) in
          subst (λ (f : Entry). P h.start (reverse ((h.trail ++ g.others) ++ before)) f) (sym only.same)
          (subst (λ (f : History). P f.start (reverse f.trail) (entry_of client call g.outcome)) here
          (p h refl g.others g.outcome list g.of_others st (subst Lawful (sym here) l)))

-- what has P has what follows from it
pub on_as : (P Q : Stored → List Entry → Entry → Type 0) (shard : ShardId) (client : ℕ) →
    ((start : Stored) (es : List Entry) (e : Entry) → P start es e → Q start es e) →
    (front now : Option History) → KeepsOn P shard client front now → KeepsOn Q shard client front now
on_as P Q shard client so None now k = k
on_as P Q shard client so (Some h) now (more, is, keeps) =
    (more, is, λ before after e split own list st l. so h.start (reverse (h.trail ++ before)) e (keeps before after e split own list st l))
