-- Members that are read keep the rules, and members that keep them are read.
use Rattle.std.proofs.Common.{◌≡◌, ◌&&◌, ℕ, ◌^◌, ◌<◌, ◌≤◌, Bool, true, false, List, [], ◌∷◌, ◌++◌, Ok, Option, Some, refl, ap, subst, ◌∙◌, append_assoc, arith}
use Rattle.std.specs.Bool.{⊤}
use Rattle.store_core.specs.Stores.{last_of}
use Rattle.state_core.specs.declared.kinds.Kind.{Kind}
use Rattle.state_core.specs.declared.kinds.Kind.TheVariants.{Writer, Reader, Keeper}
use Rattle.state_core.specs.declared.members.Member.{Member}
use Rattle.state_core.specs.States.{ShardState, KindRules}
use Rattle.version_codec.specs.Reading.{number_at, limited_at, kind_at, may_join, joined_at, most_since, most_token, unless_writer, member_at}
use Rattle.update_core.specs.Limits.{most}
use Rattle.version_codec.specs.Versions.{number_bytes, kind_byte, member_bytes, NumberFits, MemberFits}
use Rattle.version_codec.proofs.FieldLaws.{bind_ok, bind_then, guard_passed, ok_is, Took, took_then, number_took, number_again, limited_took, limited_again, kind_took, kind_again}

pub and_true : (a b : Bool) → (a && b) ≡ true → (a ≡ true) × (b ≡ true)
and_true true b h = (refl, h)
and_true false b h = cc

pub last_of-push : {A : Type 0} (xs : List A) (x : A) → last_of (xs ++ x ∷ []) ≡ Some x
last_of-push [] x = refl
last_of-push (y ∷ []) x = refl
last_of-push (y ∷ z ∷ xs) x = last_of-push (z ∷ xs) x

-- what a member keeps that is read after another
pub record MemberMay (before : Option Member) (next number : ℕ) (m : Member) : Type 0 where
  pub joins : may_join before next m.number ≡ true
  pub hold : m.hold ≤ number
  pub kind : KindRules m.kind m

-- what members keep that are read one after the other
abbrev pub MembersMay : Option Member → ℕ → ℕ → List Member → Type 0
MembersMay before next number [] = ⊤
MembersMay before next number (m ∷ ms) = MemberMay before next number m × MembersMay (Some m) next number ms

-- the limits of a kind are its rules
pub record InLimits (number : ℕ) (m : Member) : Type 0 where
  pub since : m.since ≤ most_since m.kind
  pub hold : m.hold ≤ unless_writer m.kind number
  pub beat : m.beat ≤ unless_writer m.kind most
  pub lease : m.lease ≤ unless_writer m.kind most
  pub token : m.token ≤ most_token m.kind

make_member : ℕ → Kind → ℕ → ℕ → ℕ → ℕ → ℕ → Member
make_member number kind since hold beat lease token = record { number = number; kind = kind; since = since; hold = hold; beat = beat; lease = lease; token = token }

limits_rule : (number n : ℕ) (kind : Kind) (since hold beat lease token : ℕ) → InLimits number (make_member n kind since hold beat lease token) → (hold ≤ number) × KindRules kind (make_member n kind since hold beat lease token)
unfolding make_member
limits_rule number n Writer since hold beat lease token l =
    let a : since ≤ 0 = l.since in let b : hold ≤ 0 = l.hold in let c : beat ≤ 0 = l.beat in let d : lease ≤ 0 = l.lease in
    (omega arith, (omega arith, omega arith, omega arith, omega arith))
limits_rule number n Reader since hold beat lease token l = let a : token ≤ 0 = l.token in (l.hold, omega arith)
limits_rule number n Keeper since hold beat lease token l = let a : since ≤ 0 = l.since in (l.hold, omega arith)

rule_limits : (number n : ℕ) (kind : Kind) (since hold beat lease token : ℕ) → MemberFits (make_member n kind since hold beat lease token) → hold ≤ number → KindRules kind (make_member n kind since hold beat lease token) → InLimits number (make_member n kind since hold beat lease token)
unfolding make_member
rule_limits number n Writer since hold beat lease token f h k =
    let a : since ≡ 0 = k.0 in let b : hold ≡ 0 = k.1 in let c : beat ≡ 0 = k.2 in let d : lease ≡ 0 = k.3 in let e : token < 2 ^ 64 = f.token in
    record { since = omega arith; hold = omega arith; beat = omega arith; lease = omega arith; token = omega arith }
rule_limits number n Reader since hold beat lease token f h k =
    let a : since < 2 ^ 64 = f.since in let c : beat < 2 ^ 64 = f.beat in let d : lease < 2 ^ 64 = f.lease in let e : token ≡ 0 = k in
    record { since = omega arith; hold = h; beat = omega arith; lease = omega arith; token = omega arith }
rule_limits number n Keeper since hold beat lease token f h k =
    let a : since ≡ 0 = k in let c : beat < 2 ^ 64 = f.beat in let d : lease < 2 ^ 64 = f.lease in let e : token < 2 ^ 64 = f.token in
    record { since = omega arith; hold = h; beat = omega arith; lease = omega arith; token = omega arith }

in_limits : (number : ℕ) (m : Member) → MemberFits m → m.hold ≤ number → KindRules m.kind m → InLimits number m
unfolding make_member
in_limits number m f h k = rule_limits number m.number m.kind m.since m.hold m.beat m.lease m.token f h k

module _ (total : ℕ) where
  joined_took : (s : ShardState) (bytes : List ℕ) (x : ℕ × List ℕ) → joined_at total s bytes ≡ Ok x → Took bytes (number_bytes x.0) x.1 (NumberFits x.0) × (may_join (last_of s.members) s.next_member x.0 ≡ true)
  unfolding joined_at
  joined_took s bytes x e =
      let (n, h, k) = bind_ok (number_at total bytes) _ x e in
      let (joins, is) = guard_passed (may_join (last_of s.members) s.next_member n.0) _ n x k in
      subst (λ (y : ℕ × List ℕ). Took bytes (number_bytes y.0) y.1 (NumberFits y.0) × (may_join (last_of s.members) s.next_member y.0 ≡ true)) is (number_took total bytes n h, joins)

  abbrev pub TookMember : ShardState → List ℕ → Member × List ℕ → Type 0
  TookMember s bytes y = Took bytes (member_bytes y.0) y.1 (MemberFits y.0) × MemberMay (last_of s.members) s.next_member s.number y.0

  fields_took : (s : ShardState) (bytes : List ℕ) (n : ℕ × List ℕ) (kind : Kind × List ℕ) (since hold beat lease token : ℕ × List ℕ)
      → Took bytes (number_bytes n.0) n.1 (NumberFits n.0) × (may_join (last_of s.members) s.next_member n.0 ≡ true)
      → Took n.1 (kind_byte kind.0 ∷ []) kind.1 (Unit {0})
      → Took kind.1 (number_bytes since.0) since.1 (NumberFits since.0) × (since.0 ≤ most_since kind.0)
      → Took since.1 (number_bytes hold.0) hold.1 (NumberFits hold.0) × (hold.0 ≤ unless_writer kind.0 s.number)
      → Took hold.1 (number_bytes beat.0) beat.1 (NumberFits beat.0) × (beat.0 ≤ unless_writer kind.0 most)
      → Took beat.1 (number_bytes lease.0) lease.1 (NumberFits lease.0) × (lease.0 ≤ unless_writer kind.0 most)
      → Took lease.1 (number_bytes token.0) token.1 (NumberFits token.0) × (token.0 ≤ most_token kind.0)
      → TookMember s bytes (record { number = n.0; kind = kind.0; since = since.0; hold = hold.0; beat = beat.0; lease = lease.0; token = token.0 }, token.1)
  unfolding make_member
  fields_took s bytes n kind since hold beat lease token t0 t1 t2 t3 t4 t5 t6 =
      let b6 = number_bytes token.0 in
      let b5 = number_bytes lease.0 ++ b6 in
      let b4 = number_bytes beat.0 ++ b5 in
      let b3 = number_bytes hold.0 ++ b4 in
      let b2 = number_bytes since.0 ++ b3 in
      let b1 = kind_byte kind.0 ∷ b2 in
      let e5 = took_then beat.1 (number_bytes lease.0) lease.1 b6 token.1 t5.0 t6.0 in
      let e4 = took_then hold.1 (number_bytes beat.0) beat.1 b5 token.1 t4.0 e5 in
      let e3 = took_then since.1 (number_bytes hold.0) hold.1 b4 token.1 t3.0 e4 in
      let e2 = took_then kind.1 (number_bytes since.0) since.1 b3 token.1 t2.0 e3 in
      let e1 = took_then n.1 (kind_byte kind.0 ∷ []) kind.1 b2 token.1 t1 e2 in
      let e0 = took_then bytes (number_bytes n.0) n.1 b1 token.1 t0.0 e1 in
      let (low, rule) = limits_rule s.number n.0 kind.0 since.0 hold.0 beat.0 lease.0 token.0 (record { since = t2.1; hold = t3.1; beat = t4.1; lease = t5.1; token = t6.1 }) in (
        record { parts = e0.parts; rest_is = e0.rest_is; fits = λ h. let f = e0.fits h in record { number = f.0; since = f.1.1.0; hold = f.1.1.1.0; beat = f.1.1.1.1.0; lease = f.1.1.1.1.1.0; token = f.1.1.1.1.1.1 } },
        record { joins = t0.1; hold = low; kind = rule },
      )

  pub member_took : (s : ShardState) (bytes : List ℕ) (x : Member × List ℕ) → member_at total s bytes ≡ Ok x → TookMember s bytes x
  unfolding member_at
  member_took s bytes x e =
      bind_then (joined_at total s bytes) _ x e (λ n h0 k0.
      bind_then (kind_at total n.1) _ x k0 (λ kind h1 k1.
      bind_then (limited_at total (most_since kind.0) kind.1) _ x k1 (λ since h2 k2.
      bind_then (limited_at total (unless_writer kind.0 s.number) since.1) _ x k2 (λ hold h3 k3.
      bind_then (limited_at total (unless_writer kind.0 most) hold.1) _ x k3 (λ beat h4 k4.
      bind_then (limited_at total (unless_writer kind.0 most) beat.1) _ x k4 (λ lease h5 k5.
      bind_then (limited_at total (most_token kind.0) lease.1) _ x k5 (λ token h6 k6.
      subst (λ (y : Member × List ℕ). TookMember s bytes y) (ok_is (record { number = n.0; kind = kind.0; since = since.0; hold = hold.0; beat = beat.0; lease = lease.0; token = token.0 }, token.1) x k6)
      (fields_took s bytes n kind since hold beat lease token (joined_took s bytes n h0) (kind_took total n.1 kind h1) (limited_took total (most_since kind.0) kind.1 since h2)
      (limited_took total (unless_writer kind.0 s.number) since.1 hold h3) (limited_took total (unless_writer kind.0 most) hold.1 beat h4)
      (limited_took total (unless_writer kind.0 most) beat.1 lease h5) (limited_took total (most_token kind.0) lease.1 token h6)))))))))

  pub member_again : (s : ShardState) (m : Member) (rest : List ℕ) → MemberFits m → MemberMay (last_of s.members) s.next_member s.number m → member_at total s (member_bytes m ++ rest) ≡ Ok (m, rest)
  unfolding member_at joined_at
  member_again s m rest f may =
      let l = in_limits s.number m f may.hold may.kind in
      let r6 = number_bytes m.token ++ rest in
      let r5 = number_bytes m.lease ++ r6 in
      let r4 = number_bytes m.beat ++ r5 in
      let r3 = number_bytes m.hold ++ r4 in
      let r2 = number_bytes m.since ++ r3 in
      let regrouped : member_bytes m ++ rest ≡ number_bytes m.number ++ (kind_byte m.kind ∷ r2) = simp append_assoc in
      ap (member_at total s) regrouped
      ∙ rw (
        number_again total m.number (kind_byte m.kind ∷ r2) f.number,
        may.joins,
        kind_again total m.kind r2,
        limited_again total (most_since m.kind) m.since r3 f.since l.since,
        limited_again total (unless_writer m.kind s.number) m.hold r4 f.hold l.hold,
        limited_again total (unless_writer m.kind most) m.beat r5 f.beat l.beat,
        limited_again total (unless_writer m.kind most) m.lease r6 f.lease l.lease,
        limited_again total (most_token m.kind) m.token rest f.token l.token,
      ) refl
