-- Keys that versions name and take, along a chain.
use Rattle.std.proofs.Common.{◌≡◌, ℕ, ◌+◌, List, inl, inr, arith, subst, sym, ap, Some}
use Rattle.store_core.specs.declared.shards.ShardId.{ShardId}
use Rattle.store_core.specs.declared.part_keys.PartKey.{PartKey}
use Rattle.store_core.specs.Stores.{Log, no_log, committed}
use Rattle.state_core.specs.declared.transitions.Transition.{Transition}
use Rattle.state_core.specs.declared.transitions.Transition.TheVariants.{Init}
use Rattle.state_core.specs.States.{ShardState, IsState, KeyFits, Names}
use Rattle.state_core.specs.Steps.{Takes, Adds, init}
use Rattle.version_codec.specs.Reading.{version_in}
use Rattle.version_codec.proofs.Facts.{version_in_state, version_in_shard}
use Rattle.history_core.specs.Histories.{version_at}
use Rattle.history_core.specs.Stands.{VersionIs, end_of, KeysIn}
use Rattle.state_core.proofs.Keys.{fits_on, names_fit, named_after, added_fresh, taken_named, taken_unnamed}
use Rattle.history_core.proofs.Chains.{Commit, after_commit, version_below, bytes_of, either_version}

-- a key fits a state of its shard
abbrev pub Fits : ShardId → ShardState → PartKey → Type 0
Fits shard s k = KeyFits shard s.next_member s.members k

module _ (shard : ShardId) (log : Log) (bytes : List ℕ) (c : Commit shard log bytes) (kept : KeysIn shard log c.from) where
  pub from_state : IsState c.from
  from_state = let (b, there, reads) = bytes-from in version_in_state shard c.n b c.from c.from_is.0 reads
    where
      bytes-from : (b : List ℕ) × (version_at log c.n ≡ Some b) × (version_in shard c.n b ≡ Some (c.from, c.from_is.0))
      bytes-from = bytes_of shard log c.n c.from c.from_is.0 c.from_is.1

  pub from_shard : c.from.shard ≡ shard
  from_shard = let (b, there, reads) = bytes_of shard log c.n c.from c.from_is.0 c.from_is.1 in version_in_shard shard c.n b c.from c.from_is.0 reads

  pub to_shard : c.to.shard ≡ shard
  to_shard = version_in_shard shard (c.n + 1) bytes c.to c.step c.written

  pub fits_to : (k : PartKey) → Fits shard c.from k → Fits shard c.to k
  fits_to k f =
      let f2 = subst (λ (q : ShardId). KeyFits q c.from.next_member c.from.members k) (sym from_shard) f in
      subst (λ (q : ShardId). KeyFits q c.to.next_member c.to.members k) to_shard (fits_on c.from c.to c.step k c.applies f2)

  pub named_to : (k : PartKey) → Names c.to k → Fits shard c.to k
  named_to k h = subst (λ (q : ShardId). KeyFits q c.to.next_member c.to.members k) to_shard (names_fit c.to k c.applies.rules h)

  pub taken_to : (k : PartKey) → Takes c.step k → Fits shard c.to k
  taken_to k h = fits_to k (subst (λ (q : ShardId). KeyFits q c.from.next_member c.from.members k) from_shard (names_fit c.from k from_state (taken_named c.from c.to c.step k c.applies h)))

  -- a key that fits isn't added
  pub fresh_to : (k : PartKey) → Adds c.step k → Fits shard c.from k → ⊥
  fresh_to k a f = added_fresh c.from c.to c.step k c.applies a (subst (λ (q : ShardId). KeyFits q c.from.next_member c.from.members k) (sym from_shard) f)

  -- the keys go on being kept
  pub keys_commit : KeysIn shard (committed log bytes) c.to
  keys_commit = record {
    named = λ n s k h named. elim (after_commit shard log bytes c n s h.0 h.1) [
      | inl g ↦ fits_to k (kept.named n s k (h.0, g) named)
      | inr g ↦ named_to k (subst (λ (t : ShardState). Names t k) g.1 named)
    ];
    taken = λ n k t. elim (after_commit shard log bytes c n t.0 t.1 t.2) [
      | inl g ↦ fits_to k (kept.taken n k (t.0, t.1, g, t.3))
      | inr g ↦ taken_to k (subst (λ (y : Transition). Takes y k) g.2 t.3)
    ];
    gone = λ m n s k t le h named. elim (after_commit shard log bytes c m t.0 t.1 t.2) [
      | inl g ↦ elim (after_commit shard log bytes c n s h.0 h.1) [
        | inl g2 ↦ kept.gone m n s k (t.0, t.1, g, t.3) le (h.0, g2) named
        | inr g2 ↦
            let (low, high) = version_below shard log m t.0 t.1 g in
            let last : (c.n + 1) ≡ end_of log = c.last in
            elim (named_after c.from c.to c.step k c.applies (subst (λ (t : ShardState). Names t k) g2.1 named)) [
              | inl before ↦ kept.gone m c.n c.from k (t.0, t.1, g, t.3) (omega arith) c.from_is before
              | inr added ↦ fresh_to k added (kept.taken m k (t.0, t.1, g, t.3))
            ]
      ]
      | inr g ↦ elim (after_commit shard log bytes c n s h.0 h.1) [
        | inl g2 ↦
            let (low, high) = version_below shard log n s h.0 g2 in
            let last : (c.n + 1) ≡ end_of log = c.last in
            let e : m ≡ (c.n + 1) = g.0 in absurd (omega arith)
        | inr g2 ↦ taken_unnamed c.from c.to c.step k from_state c.applies (subst (λ (y : Transition). Takes y k) g.2 t.3) (subst (λ (t : ShardState). Names t k) g2.1 named)
      ]
    ];
  }

-- the log of a shard's first version has that one alone
pub only_first : (shard : ShardId) (bytes : List ℕ) → version_in shard 0 bytes ≡ Some (init shard, Init) →
    (n : ℕ) (s : ShardState) (x : Transition) → VersionIs shard (committed no_log bytes) n s x → (init shard ≡ s) × (Init ≡ x)
only_first shard bytes d n s x h = elim (either_version shard no_log bytes n s x h) [
  | inl g ↦ cc
  | inr g ↦
      let g2 : version_in shard 0 bytes ≡ Some (s, x) = subst (λ (j : ℕ). version_in shard j bytes ≡ Some (s, x)) g.0 g.1 in
      let e : (init shard, Init) ≡ (s, x) = cc in
      (ap (λ (p : ShardState × Transition). p.0) e, ap (λ (p : ShardState × Transition). p.1) e)
]

-- Init names and takes no key
pub keys_first : (shard : ShardId) (bytes : List ℕ) → version_in shard 0 bytes ≡ Some (init shard, Init) →
    KeysIn shard (committed no_log bytes) (init shard)
keys_first shard bytes d = record {
  named = λ n s k h named. absurd (subst (λ (t : ShardState). Names t k) (sym (only_first shard bytes d n s h.0 h.1).0) named);
  taken = λ n k t. absurd (subst (λ (y : Transition). Takes y k) (sym (only_first shard bytes d n t.0 t.1 t.2).1) t.3);
  gone = λ m n s k t le h named. absurd (subst (λ (y : Transition). Takes y k) (sym (only_first shard bytes d m t.0 t.1 t.2).1) t.3);
}
