-- The state of a version that is read keeps the rules, and one that keeps them is read.
use Rattle.std.proofs.Common.{◌≡◌, ℕ, ◌+◌, ◌^◌, ◌≤◌, List, [], ◌++◌, Ok, Option, refl, sym, ap, subst, ◌∙◌, append_assoc, arith}
use Rattle.spine_core.specs.Spines.{rows_of}
use Rattle.store_core.specs.declared.shards.ShardId.{ShardId}
use Rattle.state_core.specs.States.{ShardState, IsState}
use Rattle.state_core.specs.Steps.{init}
use Rattle.version_codec.specs.Reading.{number_at, limited_at, frontier_at, head_at, all_members_at, all_batches_at, state_at}
use Rattle.version_codec.specs.Versions.{number_bytes, frontier_bytes, members_bytes, batches_bytes, state_bytes, NumberFits, FrontierFits, StateFits}
use Rattle.state_core.proofs.Rules.{rise_of}
use Rattle.version_codec.proofs.FieldLaws.{bind_then, ok_is, Took, took_then, number_took, number_again, limited_took, limited_again, frontier_took, frontier_again}
use Rattle.version_codec.proofs.MemberLists.{with_members, MemberRules, may_rules, rules_may, AllMembers, all_members_took, all_members_again}
use Rattle.version_codec.proofs.BatchRules.{BatchRules, may_rules as rules_of_batches, rules_may as batches_of_rules}
use Rattle.version_codec.proofs.BatchLists.{AllBatches, all_batches_took, all_batches_again}

abbrev pub start : ShardId → ℕ → ShardState
start shard number = record (init shard) { number = number }

-- the state with the fields before the members
abbrev pub headed : ShardState → ℕ → ℕ → Option ℕ → ℕ → ShardState
headed s next since upper weight = record s { next_member = next; since = since; upper = upper; weight = weight }

abbrev pub head_bytes : ℕ → ℕ → Option ℕ → ℕ → List ℕ
head_bytes next since upper weight = number_bytes next ++ (number_bytes since ++ (frontier_bytes upper ++ number_bytes weight))

-- the fields before the members, then the rest
regroup : (a b c d e f : List ℕ) → (a ++ (b ++ (c ++ d))) ++ (e ++ f) ≡ a ++ (b ++ (c ++ (d ++ (e ++ f))))
regroup a b c d e f = simp append_assoc

module _ (total : ℕ) where
  record ReadHead (s : ShardState) (bytes : List ℕ) (y : ShardState × List ℕ) : Type 0 where
    pub next : ℕ
    pub since : ℕ
    pub upper : Option ℕ
    pub weight : ℕ
    pub state : y.0 ≡ headed s next since upper weight
    pub took : Took bytes (head_bytes next since upper weight) y.1 (NumberFits next × (NumberFits since × (FrontierFits upper × NumberFits weight)))
    pub joined : next ≤ s.number
    pub light : weight ≤ 2 ^ 62

  head_made : (s : ShardState) (bytes : List ℕ) (next since : ℕ × List ℕ) (upper : Option ℕ × List ℕ) (weight : ℕ × List ℕ)
      → Took bytes (number_bytes next.0) next.1 (NumberFits next.0) × (next.0 ≤ s.number)
      → Took next.1 (number_bytes since.0) since.1 (NumberFits since.0)
      → Took since.1 (frontier_bytes upper.0) upper.1 (FrontierFits upper.0)
      → Took upper.1 (number_bytes weight.0) weight.1 (NumberFits weight.0) × (weight.0 ≤ 2 ^ 62)
      → ReadHead s bytes (headed s next.0 since.0 upper.0 weight.0, weight.1)
  head_made s bytes next since upper weight t0 t1 t2 t3 =
      let e2 = took_then since.1 (frontier_bytes upper.0) upper.1 (number_bytes weight.0) weight.1 t2 t3.0 in
      let e1 = took_then next.1 (number_bytes since.0) since.1 (frontier_bytes upper.0 ++ number_bytes weight.0) weight.1 t1 e2 in
      let e0 = took_then bytes (number_bytes next.0) next.1 (number_bytes since.0 ++ (frontier_bytes upper.0 ++ number_bytes weight.0)) weight.1 t0.0 e1 in
      record { next = next.0; since = since.0; upper = upper.0; weight = weight.0; state = refl; took = e0; joined = t0.1; light = t3.1 }

  head_took : (s : ShardState) (bytes : List ℕ) (x : ShardState × List ℕ) → head_at total s bytes ≡ Ok x → ReadHead s bytes x
  unfolding head_at
  head_took s bytes x e =
      bind_then (limited_at total s.number bytes) _ x e (λ next h0 k0.
      bind_then (number_at total next.1) _ x k0 (λ since h1 k1.
      bind_then (frontier_at total since.1) _ x k1 (λ upper h2 k2.
      bind_then (limited_at total (2 ^ 62) upper.1) _ x k2 (λ weight h3 k3.
      subst (λ (y : ShardState × List ℕ). ReadHead s bytes y) (ok_is (headed s next.0 since.0 upper.0 weight.0, weight.1) x k3)
      (head_made s bytes next since upper weight (limited_took total s.number bytes next h0) (number_took total next.1 since h1) (frontier_took total since.1 upper h2) (limited_took total (2 ^ 62) upper.1 weight h3))))))

  pub record ReadState (shard : ShardId) (number : ℕ) (bytes : List ℕ) (y : ShardState × List ℕ) : Type 0 where
    pub took : Took bytes (state_bytes y.0) y.1 (StateFits y.0)
    pub state : IsState y.0
    pub is_of : y.0.shard ≡ shard
    pub is_at : y.0.number ≡ number

  state_made : (shard : ShardId) (number : ℕ) (bytes : List ℕ) (head members x : ShardState × List ℕ) (h : ReadHead (start shard number) bytes head)
      (m : AllMembers total (headed (start shard number) h.next h.since h.upper h.weight) head.1 members)
      → AllBatches total (with_members (headed (start shard number) h.next h.since h.upper h.weight) m.members) members.1 x → ReadState shard number bytes x
  state_made shard number bytes head members x h m b =
      let made : ShardState = record { shard = shard; number = number; next_member = h.next; since = h.since; upper = h.upper; weight = h.weight; members = m.members; batches = b.batches } in
      let own : MemberRules h.next number m.members = may_rules h.next number m.members m.may in
      let before : ShardState = with_members (headed (start shard number) h.next h.since h.upper h.weight) m.members in
      let none : rows_of [] ≤ h.weight = (let z : rows_of [] ≡ 0 = refl in omega arith) in
      let r : BatchRules before b.batches = rules_of_batches b.batches before none tt b.may in
      let rows : rows_of b.batches ≤ h.weight = (let z : rows_of [] ≡ 0 = refl in let le : rows_of [] + rows_of b.batches ≤ h.weight = r.rows in omega arith) in
      let both = took_then head.1 (members_bytes m.members) members.1 (batches_bytes b.batches) x.1 m.took b.took in
      let all = took_then bytes (head_bytes h.next h.since h.upper h.weight) head.1 (members_bytes m.members ++ batches_bytes b.batches) x.1 h.took both in
      let whole : ReadState shard number bytes (made, x.1) = record {
        took = record {
          parts = λ is. all.parts is ∙ ap (λ (text : List ℕ). text ++ x.1) (regroup (number_bytes h.next) (number_bytes h.since) (frontier_bytes h.upper) (number_bytes h.weight) (members_bytes m.members) (batches_bytes b.batches));
          rest_is = all.rest_is;
          fits = λ is. let f = all.fits is in record { next_member = f.0.0; since = f.0.1.0; upper = f.0.1.1.0; members = f.1.0; batches = f.1.1 };
        };
        state = record {
          few = m.few;
          rising = own.rising;
          known = own.known;
          joined = h.joined;
          holds = own.holds;
          kinds = own.kinds;
          since = m.since;
          spine = r.follows;
          upper_is = b.upper;
          sinces = r.sinces;
          rows = rows;
          light = h.light;
          parts = r.parts;
          keys = r.keys;
          distinct = r.distinct;
        };
        is_of = refl;
        is_at = refl;
      } in
      subst (λ (s : ShardState). ReadState shard number bytes (s, x.1)) (sym b.state) whole

  pub state_took : (shard : ShardId) (number : ℕ) (bytes : List ℕ) (x : ShardState × List ℕ) → state_at total shard number bytes ≡ Ok x → ReadState shard number bytes x
  unfolding state_at
  state_took shard number bytes x e =
      bind_then (head_at total (start shard number) bytes) _ x e (λ head h0 k0.
      bind_then (all_members_at total head.0 head.1) _ x k0 (λ members h1 k1.
      joined head members (head_took (start shard number) bytes head h0) (all_members_took total head.0 head.1 members h1) k1))
    where
      -- the members after the head
      joined : (head members : ShardState × List ℕ) (h : ReadHead (start shard number) bytes head) → AllMembers total head.0 head.1 members → all_batches_at total members.0 members.1 ≡ Ok x → ReadState shard number bytes x
      joined head members h m k =
          let m2 : AllMembers total (headed (start shard number) h.next h.since h.upper h.weight) head.1 members = subst (λ (s : ShardState). AllMembers total s head.1 members) h.state m in
          let k2 : all_batches_at total (with_members (headed (start shard number) h.next h.since h.upper h.weight) m2.members) members.1 ≡ Ok x = subst (λ (s : ShardState). all_batches_at total s members.1 ≡ Ok x) m2.state k in
          let own : MemberRules h.next number m2.members = may_rules h.next number m2.members m2.may in
          state_made shard number bytes head members x h m2 (all_batches_took total (with_members (headed (start shard number) h.next h.since h.upper h.weight) m2.members) members.1 x (rise_of m2.members own.rising) k2)

  head_again : (s : ShardState) (next since : ℕ) (upper : Option ℕ) (weight : ℕ) (rest : List ℕ) → NumberFits next → NumberFits since → FrontierFits upper → next ≤ s.number → weight ≤ 2 ^ 62
      → head_at total s (number_bytes next ++ (number_bytes since ++ (frontier_bytes upper ++ (number_bytes weight ++ rest)))) ≡ Ok (headed s next since upper weight, rest)
  unfolding head_at
  head_again s next since upper weight rest f0 f1 f2 low light =
      let r3 = number_bytes weight ++ rest in
      let r2 = frontier_bytes upper ++ r3 in
      let r1 = number_bytes since ++ r2 in
      rw (limited_again total s.number next r1 f0 low, number_again total since r2 f1, frontier_again total upper r3 f2, limited_again total (2 ^ 62) weight rest (omega arith) light) refl

  regroup_state : (a b c d e f r : List ℕ) → (a ++ (b ++ (c ++ (d ++ (e ++ f))))) ++ r ≡ a ++ (b ++ (c ++ (d ++ (e ++ (f ++ r)))))
  regroup_state a b c d e f r = simp append_assoc

  pub state_again : (s : ShardState) (rest : List ℕ) → IsState s → StateFits s → state_at total s.shard s.number (state_bytes s ++ rest) ≡ Ok (s, rest)
  unfolding state_at
  state_again s rest is fits =
      let before : ShardState = headed (start s.shard s.number) s.next_member s.since s.upper s.weight in
      let joined : ShardState = with_members before s.members in
      let own : MemberRules s.next_member s.number s.members = record { rising = is.rising; known = is.known; holds = is.holds; kinds = is.kinds } in
      let rows : rows_of [] + rows_of s.batches ≤ s.weight = (let z : rows_of [] ≡ 0 = refl in let le : rows_of s.batches ≤ s.weight = is.rows in omega arith) in
      let r : BatchRules joined s.batches = record { follows = is.spine; sinces = is.sinces; rows = rows; parts = is.parts; keys = is.keys; distinct = is.distinct } in
      let r1 = batches_bytes s.batches ++ rest in
      let r0 = members_bytes s.members ++ r1 in
      ap (state_at total s.shard s.number) (regroup_state (number_bytes s.next_member) (number_bytes s.since) (frontier_bytes s.upper) (number_bytes s.weight) (members_bytes s.members) (batches_bytes s.batches) rest)
      ∙ rw (
        head_again (start s.shard s.number) s.next_member s.since s.upper s.weight r0 fits.next_member fits.since fits.upper is.joined is.light,
        all_members_again total before s.members r1 is.few fits.members (rules_may s.next_member s.number s.members own) is.since,
      )
      (all_batches_again total joined s.batches rest fits.batches (batches_of_rules s.batches joined r is.upper_is) is.upper_is)
