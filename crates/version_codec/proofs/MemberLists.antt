-- All members of a version: those that are read keep the rules, and those that keep them are read.
use Rattle.std.proofs.Common.{◌≡◌, ℕ, zero, suc, ◌^◌, ◌<◌, ◌≤◌, true, ltb, List, [], ◌∷◌, ◌++◌, length, Result, Ok, Option, Some, None, refl, sym, ap, subst, ◌∙◌, append_assoc, arith}
use Rattle.std.specs.Int.{w16, to_be_bytes}
use Rattle.std.specs.List.{flat_map, AllByRecursion}
use Rattle.std.proofs.lemmas.Bool.{ltb-false, ltb-true, le-leb, le-ltb, eq-eqb, eqb-true}
use Rattle.std.proofs.lemmas.List.{append-nil}
use Rattle.std.proofs.lemmas.List.Concat.{flat_map-cons}
use Rattle.store_core.specs.Stores.{last_of}
use Rattle.state_core.specs.declared.members.Member.{Member}
use Rattle.version_codec.specs.declared.version_faults.VersionFault.{VersionFault}
use Rattle.state_core.specs.States.{ShardState, MembersRise, KindRules, SinceIs, least_since}
use Rattle.version_codec.specs.Reading.{wide_at, may_join, member_at, members_at, with_member, member_count_at, all_members_at, since_is}
use Rattle.version_codec.specs.Versions.{member_bytes, members_bytes, MemberFits}
use Rattle.version_codec.proofs.FieldLaws.{bind_then, guard_ok, guard_passed, ok_is, Took, took_then, wide_took, wide_again}
use Rattle.byte_core.proofs.Wide.{wide16}
use Rattle.version_codec.proofs.Members.{and_true, last_of-push, MembersMay, TookMember, member_took, member_again}

-- the state with members more
abbrev pub with_members : ShardState → List Member → ShardState
with_members s ms = record s { members = s.members ++ ms }

-- ---- the rules that members keep by themselves

pub record MemberRules (next number : ℕ) (ms : List Member) : Type 0 where
  pub rising : MembersRise ms
  pub known : AllByRecursion (λ m. m.number < next) ms
  pub holds : AllByRecursion (λ m. m.hold ≤ number) ms
  pub kinds : AllByRecursion (λ m. KindRules m.kind m) ms

joins_below : (before : Option Member) (next n : ℕ) → may_join before next n ≡ true → n < next
joins_below None next n h = ltb-true n next h
joins_below (Some b) next n h = let (p, q) = and_true (ltb b.number n) _ h in ltb-true n next q

joins_above : (b : Member) (next n : ℕ) → may_join (Some b) next n ≡ true → b.number < n
joins_above b next n h = let (p, q) = and_true (ltb b.number n) _ h in ltb-true b.number n p

may_rise : (b : Member) (next number : ℕ) (ms : List Member) → MembersMay (Some b) next number ms → MembersRise (b ∷ ms)
may_rise b next number [] h = tt
may_rise b next number (m ∷ ms) h = (joins_above b next m.number h.0.joins, may_rise m next number ms h.1)

may_rise_all : (next number : ℕ) (ms : List Member) → MembersMay None next number ms → MembersRise ms
may_rise_all next number [] h = tt
may_rise_all next number (m ∷ ms) h = may_rise m next number ms h.1

may_known : (before : Option Member) (next number : ℕ) (ms : List Member) → MembersMay before next number ms → AllByRecursion (λ m. m.number < next) ms
may_known before next number [] h = tt
may_known before next number (m ∷ ms) h = (joins_below before next m.number h.0.joins, may_known (Some m) next number ms h.1)

may_hold : (before : Option Member) (next number : ℕ) (ms : List Member) → MembersMay before next number ms → AllByRecursion (λ m. m.hold ≤ number) ms
may_hold before next number [] h = tt
may_hold before next number (m ∷ ms) h = (h.0.hold, may_hold (Some m) next number ms h.1)

may_kind : (before : Option Member) (next number : ℕ) (ms : List Member) → MembersMay before next number ms → AllByRecursion (λ m. KindRules m.kind m) ms
may_kind before next number [] h = tt
may_kind before next number (m ∷ ms) h = (h.0.kind, may_kind (Some m) next number ms h.1)

pub may_rules : (next number : ℕ) (ms : List Member) → MembersMay None next number ms → MemberRules next number ms
may_rules next number ms h = record { rising = may_rise_all next number ms h; known = may_known None next number ms h; holds = may_hold None next number ms h; kinds = may_kind None next number ms h }

rules_after : (b : Member) (next number : ℕ) (ms : List Member) → MemberRules next number (b ∷ ms) → MembersMay (Some b) next number ms
rules_after b next number [] r = tt
rules_after b next number (m ∷ ms) r =
    let above : ltb b.number m.number ≡ true = le-leb (suc b.number) m.number r.rising.0 in
    let below : ltb m.number next ≡ true = le-leb (suc m.number) next r.known.1.0 in
    (record { joins = rw (above, below) refl; hold = r.holds.1.0; kind = r.kinds.1.0 }, rules_after m next number ms (record { rising = r.rising.1; known = r.known.1; holds = r.holds.1; kinds = r.kinds.1 }))

pub rules_may : (next number : ℕ) (ms : List Member) → MemberRules next number ms → MembersMay None next number ms
rules_may next number [] r = tt
rules_may next number (m ∷ ms) r =
    let below : ltb m.number next ≡ true = le-leb (suc m.number) next r.known.0 in
    (record { joins = below; hold = r.holds.0; kind = r.kinds.0 }, rules_after m next number ms r)

-- ---- reading them

pub record ReadMembers (s : ShardState) (n : ℕ) (bytes : List ℕ) (y : ShardState × List ℕ) : Type 0 where
  pub members : List Member
  pub state : y.0 ≡ with_members s members
  pub count : length members ≡ n
  pub took : Took bytes (flat_map member_bytes members) y.1 (AllByRecursion MemberFits members)
  pub may : MembersMay (last_of s.members) s.next_member s.number members

-- no member more
none_read : (s : ShardState) (bytes : List ℕ) → ReadMembers s 0 bytes (s, bytes)
none_read s bytes = record {
  members = [];
  state = ap (λ (ms : List Member). let t : ShardState = record s { members = ms } in t) (sym (append-nil s.members));
  count = refl;
  took = record { parts = λ h. refl; rest_is = λ h. h; fits = λ h. tt };
  may = tt;
}

module _ (total : ℕ) where
  -- one member more, and others
  one_more : (s : ShardState) (n : ℕ) (bytes : List ℕ) (m : Member × List ℕ) (x : ShardState × List ℕ) → TookMember total s bytes m → ReadMembers (with_member s m.0) n m.1 x → ReadMembers s (suc n) bytes x
  one_more s n bytes m x t r =
      let both = took_then bytes (member_bytes m.0) m.1 (flat_map member_bytes r.members) x.1 t.0 r.took in
      record {
        members = m.0 ∷ r.members;
        state = r.state ∙ ap (λ (ms : List Member). let t : ShardState = record s { members = ms } in t) (append_assoc s.members (m.0 ∷ []) r.members);
        count = ap suc r.count;
        took = record { parts = λ h. both.parts h ∙ ap (λ (text : List ℕ). text ++ x.1) (sym (flat_map-cons member_bytes m.0 r.members)); rest_is = both.rest_is; fits = both.fits };
        may = (t.1, subst (λ (b : Option Member). MembersMay b s.next_member s.number r.members) (last_of-push s.members m.0) r.may);
      }

  pub members_took : (n : ℕ) (s : ShardState) (bytes : List ℕ) (x : ShardState × List ℕ) → members_at total s n bytes ≡ Ok x → ReadMembers s n bytes x
  unfolding members_at
  members_took zero s bytes x e = subst (λ (y : ShardState × List ℕ). ReadMembers s 0 bytes y) (ok_is (s, bytes) x e) (none_read s bytes)
  members_took (suc n) s bytes x e =
      bind_then (member_at total s bytes) _ x e (λ m h k. one_more s n bytes m x (member_took total s bytes m h) (members_took n (with_member s m.0) m.1 x k))

  pub members_again : (ms : List Member) (s : ShardState) (rest : List ℕ) → AllByRecursion MemberFits ms → MembersMay (last_of s.members) s.next_member s.number ms
      → members_at total s (length ms) (flat_map member_bytes ms ++ rest) ≡ Ok (with_members s ms, rest)
  unfolding members_at
  members_again [] s rest f may = ap (λ (ms : List Member). let t : Result (ShardState × List ℕ) VersionFault = Ok (record s { members = ms }, rest) in t) (sym (append-nil s.members))
  members_again (m ∷ ms) s rest f may =
      let regrouped : flat_map member_bytes (m ∷ ms) ++ rest ≡ member_bytes m ++ (flat_map member_bytes ms ++ rest) =
      ap (λ (x : List ℕ). x ++ rest) (flat_map-cons member_bytes m ms) ∙ append_assoc (member_bytes m) (flat_map member_bytes ms) rest in
      let later : MembersMay (last_of (s.members ++ m ∷ [])) s.next_member s.number ms = subst (λ (b : Option Member). MembersMay b s.next_member s.number ms) (sym (last_of-push s.members m)) may.1 in
      ap (members_at total s (suc (length ms))) regrouped
      ∙ rw (member_again total s m (flat_map member_bytes ms ++ rest) f.0 may.0) (members_again ms (with_member s m) rest f.1 later)
      ∙ ap (λ (us : List Member). let t : Result (ShardState × List ℕ) VersionFault = Ok (record s { members = us }, rest) in t) (append_assoc s.members (m ∷ []) ms)

  count_took : (bytes : List ℕ) (x : ℕ × List ℕ) → member_count_at total bytes ≡ Ok x → Took bytes (to_be_bytes w16 x.0) x.1 (Unit {0}) × (x.0 ≤ 256)
  unfolding member_count_at
  count_took bytes x e =
      bind_then (wide_at w16 total bytes) _ x e (λ n h k.
      let (few, is) = guard_ok (ltb 256 n.0) _ n x k in
      let t = wide_took total w16 (2 ^ 16) wide16 bytes n h in
      subst (λ (y : ℕ × List ℕ). Took bytes (to_be_bytes w16 y.0) y.1 (Unit {0}) × (y.0 ≤ 256)) is (record { parts = t.parts; rest_is = t.rest_is; fits = λ h. tt }, ltb-false _ _ few))

  count_again : (n : ℕ) (rest : List ℕ) → n ≤ 256 → member_count_at total (to_be_bytes w16 n ++ rest) ≡ Ok (n, rest)
  unfolding member_count_at
  count_again n rest few = rw (wide_again total w16 (2 ^ 16) wide16 n rest (omega arith), le-ltb 256 n few) refl

  -- all members of a state that has none yet
  pub record AllMembers (s : ShardState) (bytes : List ℕ) (y : ShardState × List ℕ) : Type 0 where
    pub members : List Member
    pub state : y.0 ≡ with_members s members
    pub few : length members ≤ 256
    pub took : Took bytes (members_bytes members) y.1 (AllByRecursion MemberFits members)
    pub may : MembersMay (last_of s.members) s.next_member s.number members
    pub since : SinceIs (least_since (s.members ++ members)) s.since

  since_holds : (o : Option ℕ) (since : ℕ) → since_is o since ≡ true → SinceIs o since
  since_holds None since h = tt
  since_holds (Some n) since h = eqb-true since n h

  since_passes : (o : Option ℕ) (since : ℕ) → SinceIs o since → since_is o since ≡ true
  since_passes None since h = refl
  since_passes (Some n) since h = eq-eqb since n h

  all_of : (s : ShardState) (bytes : List ℕ) (count : ℕ × List ℕ) (x : ShardState × List ℕ) → Took bytes (to_be_bytes w16 count.0) count.1 (Unit {0}) × (count.0 ≤ 256)
      → ReadMembers s count.0 count.1 x → since_is (least_since x.0.members) x.0.since ≡ true → AllMembers s bytes x
  all_of s bytes count x t r since =
      let both = took_then bytes (to_be_bytes w16 count.0) count.1 (flat_map member_bytes r.members) x.1 t.0 r.took in
      let few : count.0 ≤ 256 = t.1 in
      record {
        members = r.members;
        state = r.state;
        few = subst (λ (n : ℕ). n ≤ 256) (sym r.count) few;
        took = record { parts = λ h. both.parts h ∙ ap (λ (n : ℕ). (to_be_bytes w16 n ++ flat_map member_bytes r.members) ++ x.1) (sym r.count); rest_is = both.rest_is; fits = λ h. (both.fits h).1 };
        may = r.may;
        since = since_holds (least_since (s.members ++ r.members)) s.since (subst (λ (y : ShardState). since_is (least_since y.members) y.since ≡ true) r.state since);
      }

  pub all_members_took : (s : ShardState) (bytes : List ℕ) (x : ShardState × List ℕ) → all_members_at total s bytes ≡ Ok x → AllMembers s bytes x
  unfolding all_members_at
  all_members_took s bytes x e =
      bind_then (member_count_at total bytes) _ x e (λ count h k.
      bind_then (members_at total s count.0 count.1) _ x k (λ read h2 k2.
      let (since, is) = guard_passed (since_is (least_since read.0.members) read.0.since) _ read x k2 in
      subst (λ (y : ShardState × List ℕ). AllMembers s bytes y) is (all_of s bytes count read (count_took bytes count h) (members_took count.0 s count.1 read h2) since)))

  pub all_members_again : (s : ShardState) (ms : List Member) (rest : List ℕ) → length ms ≤ 256 → AllByRecursion MemberFits ms → MembersMay (last_of s.members) s.next_member s.number ms → SinceIs (least_since (s.members ++ ms)) s.since
      → all_members_at total s (members_bytes ms ++ rest) ≡ Ok (with_members s ms, rest)
  unfolding all_members_at
  all_members_again s ms rest few f may since =
      let regrouped : members_bytes ms ++ rest ≡ to_be_bytes w16 (length ms) ++ (flat_map member_bytes ms ++ rest) = append_assoc (to_be_bytes w16 (length ms)) (flat_map member_bytes ms) rest in
      let passes : since_is (least_since (s.members ++ ms)) s.since ≡ true = since_passes (least_since (s.members ++ ms)) s.since since in
      ap (all_members_at total s) regrouped
      ∙ rw (count_again (length ms) (flat_map member_bytes ms ++ rest) few, members_again ms s rest f may, passes) refl
