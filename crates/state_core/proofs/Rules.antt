use Rattle.std.proofs.Common.{◌≡◌, ℕ, suc, ◌+◌, ◌<◌, ◌≤◌, ◌^◌, min, max, true, false, List, [], ◌∷◌, ◌++◌, inl, inr, refl, arith, subst, sym, ap, ◌∙◌, eqb, Some, None, Option, length, length-append}
use Rattle.std.specs.Bool.{⊤}
use Rattle.std.proofs.lemmas.Bool.{eqb-true, eqb-false}
use Rattle.std.proofs.lemmas.List.Sums.{sum_by-append, sum_by-cons}
use Rattle.state_core.specs.Lists.{Among, Distinct}
use Rattle.std.specs.List.{AllByRecursion}
use Rattle.update_core.specs.Frontiers.{covers}
use Rattle.state_core.proofs.ListLemmas.{each_map, each_append, each_among, each_front, each_back, each_intro, among_map, among_front, among_back, among_split, apart, distinct_back, bool_cases, append-nil}
use Rattle.store_core.specs.declared.shards.ShardId.{ShardId}
use Rattle.store_core.specs.declared.part_keys.PartKey.{PartKey}
use Rattle.state_core.specs.declared.kinds.Kind.{Kind}
use Rattle.state_core.specs.declared.kinds.Kind.TheVariants.{Writer, Reader, Keeper}
use Rattle.spine_core.specs.Spines.{rows_of}
use Rattle.spine_core.specs.declared.batches.Batch.{Batch}
use Rattle.state_core.specs.declared.members.Member.{Member}
use Rattle.state_core.specs.declared.transitions.Transition.{Transition}
use Rattle.state_core.specs.declared.transitions.Transition.TheVariants.{Init, Join, Leave, Renew, Advance, Expire, Append, Merge}
use Rattle.state_core.proofs.Batches.{Runs, runs_state, runs_follow, runs_upper, runs_pair, covers_open, covers_earlier}
use Rattle.state_core.specs.States.{ShardState, IsState, MembersRise, SinceIs, KindRules, least_since, or_least, greater_of, raised, is_reader, is_writer, IsPartCount, KeyFits, keys_of}
use Rattle.state_core.specs.Steps.{Applies, Makes, Adds, AreKeys, without, unexpired, changed, is_out, joining, beat_of, since_of, Stands, JoinShape}
use Rattle.state_core.proofs.Keys.{each_without, each_unexpired, each_changed, is_of, Spent, Is, Unlike, fresh_makes, fits_makes, names_fit, keys-append}

-- numbers rise: each is below all that follow
abbrev pub Rise : List Member → Type 0
Rise [] = ⊤
Rise (m ∷ ms) = AllByRecursion (λ x. m.number < x.number) ms × Rise ms

pub rise_of : (ms : List Member) → MembersRise ms → Rise ms
rise_of [] h = tt
rise_of (m ∷ []) h = (tt, tt)
rise_of (m ∷ n ∷ ms) h =
    let rest = rise_of (n ∷ ms) h.1 in
    let lt : m.number < n.number = h.0 in
    ((lt, each_map (λ (x : Member). n.number < x.number) (λ (x : Member). m.number < x.number) ms (λ x g. let g2 : n.number < x.number = g in omega arith) rest.0), rest)

rises : (ms : List Member) → Rise ms → MembersRise ms
rises [] h = tt
rises (m ∷ []) h = tt
rises (m ∷ n ∷ ms) h = (h.0.0, rises (n ∷ ms) h.1)

rise_without : (k : ℕ) (ms : List Member) → Rise ms → Rise (without k ms)
rise_without k [] h = tt
rise_without k (m ∷ ms) h = elim (bool_cases (eqb m.number k)) [
  | inl e ↦ rw e (rise_without k ms h.1)
  | inr e ↦ rw e (each_without (λ x. m.number < x.number) k ms h.0, rise_without k ms h.1)
]

rise_unexpired : (now : ℕ) (ms : List Member) → Rise ms → Rise (unexpired now ms)
rise_unexpired now [] h = tt
rise_unexpired now (m ∷ ms) h = elim (bool_cases (is_out now m)) [
  | inl e ↦ rw e (rise_unexpired now ms h.1)
  | inr e ↦ rw e (each_unexpired (λ x. m.number < x.number) now ms h.0, rise_unexpired now ms h.1)
]

rise_changed : (k : ℕ) (f : Member → Member) → ((m : Member) → (f m).number ≡ m.number) → (ms : List Member) → Rise ms → Rise (changed k f ms)
rise_changed k f same [] h = tt
rise_changed k f same (m ∷ ms) h =
    let rest = rise_changed k f same ms h.1 in
    let above : AllByRecursion (λ x. m.number < x.number) (changed k f ms) = each_changed (λ x. m.number < x.number) k f ms (λ x e g. let s : (f x).number ≡ x.number = same x in let g2 : m.number < x.number = g in omega arith) h.0 in
    elim (bool_cases (eqb m.number k)) [
      | inl e ↦ rw e (each_map (λ (x : Member). m.number < x.number) (λ (x : Member). (f m).number < x.number) (changed k f ms) (λ x g. let s : (f m).number ≡ m.number = same m in let g2 : m.number < x.number = g in omega arith) above, rest)
      | inr e ↦ rw e (above, rest)
    ]

rise_push : (ms : List Member) (new : Member) → Rise ms → AllByRecursion (λ m. m.number < new.number) ms → Rise (ms ++ new ∷ [])
rise_push [] new h g = (tt, tt)
rise_push (m ∷ ms) new h g = (each_append (λ x. m.number < x.number) ms _ h.0 (g.0, tt), rise_push ms new h.1 g.1)

length_without : (k : ℕ) (ms : List Member) → length (without k ms) ≤ length ms
length_without k [] = omega arith
length_without k (m ∷ ms) = let rest = length_without k ms in elim (bool_cases (eqb m.number k)) [ inl e ↦ rw e (omega arith) | inr e ↦ rw e (omega arith) ]

length_unexpired : (now : ℕ) (ms : List Member) → length (unexpired now ms) ≤ length ms
length_unexpired now [] = omega arith
length_unexpired now (m ∷ ms) = let rest = length_unexpired now ms in elim (bool_cases (is_out now m)) [ inl e ↦ rw e (omega arith) | inr e ↦ rw e (omega arith) ]

length_changed : (k : ℕ) (f : Member → Member) (ms : List Member) → length (changed k f ms) ≡ length ms
length_changed k f [] = refl
length_changed k f (m ∷ ms) = ap suc (length_changed k f ms)

-- what holds of a member that stands holds of each with its number
pub one_stands : (k : ℕ) (P : Member → Type 0) (ms : List Member) → Rise ms → Stands k P ms → AllByRecursion (λ m. m.number ≡ k → P m) ms
one_stands k P [] h s = absurd s
one_stands k P (m ∷ ms) h (inl s) =
    ((λ e. s.1), each_map (λ (x : Member). m.number < x.number) (λ (x : Member). x.number ≡ k → P x) ms (λ x g e. absurd (let g2 : m.number < x.number = g in let e2 : m.number ≡ k = s.0 in omega arith)) h.0)
one_stands k P (m ∷ ms) h (inr s) =
    let (x, above, stands) = each_among (λ (x : Member). m.number < x.number) (λ (x : Member). (x.number ≡ k) × P x) ms h.0 s in
    ((λ e. absurd (let a : m.number < x.number = above in let b : x.number ≡ k = stands.0 in omega arith)), one_stands k P ms h.1 s)

-- the since isn't above a reader's
abbrev Low : ℕ → Member → Type 0
Low since m = is_reader m.kind ≡ true → since ≤ m.since

or_least-is : (o : Option ℕ) (n since : ℕ) → SinceIs (or_least o n) since → (since ≤ n) × ((m : ℕ) → o ≡ Some m → since ≤ m)
or_least-is None n since h = (let e : since ≡ n = h in omega arith, λ m e. cc)
or_least-is (Some k) n since h = (let e : since ≡ min k n = h in omega arith, λ m q. let e : since ≡ min k n = h in let e2 : k ≡ m = cc in omega arith)

-- below the least since is below each
low_all : (ms : List Member) (since : ℕ) → ((m : ℕ) → least_since ms ≡ Some m → since ≤ m) → AllByRecursion (Low since) ms
low_all [] since h = tt
low_all (m ∷ ms) since h = elim (bool_cases (is_reader m.kind)) [
  | inl e ↦
      let g : (k : ℕ) → or_least (least_since ms) m.since ≡ Some k → since ≤ k = λ k q. h k (rw e q) in
      ((λ r. own (least_since ms) m.since g), low_all ms since (rest (least_since ms) m.since g))
  | inr e ↦ ((λ r. cc), low_all ms since (λ k q. h k (rw e q)))
]
  where
    own : (o : Option ℕ) (n : ℕ) → ((k : ℕ) → or_least o n ≡ Some k → since ≤ k) → since ≤ n
    own None n g = g n refl
    own (Some j) n g = let le : since ≤ min j n = g (min j n) refl in omega arith

    rest : (o : Option ℕ) (n : ℕ) → ((k : ℕ) → or_least o n ≡ Some k → since ≤ k) → (k : ℕ) → o ≡ Some k → since ≤ k
    rest None n g k q = cc
    rest (Some j) n g k q = let le : since ≤ min j n = g (min j n) refl in let e2 : j ≡ k = cc in omega arith

low_of : (o : Option ℕ) (since : ℕ) → SinceIs o since → (m : ℕ) → o ≡ Some m → since ≤ m
low_of None since h m e = cc
low_of (Some k) since h m e = let q : since ≡ k = h in let e2 : k ≡ m = cc in omega arith

least_low : (ms : List Member) (since : ℕ) → AllByRecursion (Low since) ms → (m : ℕ) → least_since ms ≡ Some m → since ≤ m
least_low [] since h m e = cc
least_low (x ∷ ms) since h m e = elim (bool_cases (is_reader x.kind)) [
  | inl r ↦ both (least_since ms) x.since (h.0 r) (least_low ms since h.1) m (rw r at e)
  | inr r ↦ least_low ms since h.1 m (rw r at e)
]
  where
    both : (o : Option ℕ) (n : ℕ) → since ≤ n → ((j : ℕ) → o ≡ Some j → since ≤ j) → (k : ℕ) → or_least o n ≡ Some k → since ≤ k
    both None n a g k q = let e2 : n ≡ k = cc in omega arith
    both (Some j) n a g k q = let b : since ≤ j = g j refl in let e2 : min j n ≡ k = cc in omega arith

raised_is : (o : Option ℕ) (since : ℕ) → ((m : ℕ) → o ≡ Some m → since ≤ m) → SinceIs o (greater_of since o)
raised_is None since h = tt
raised_is (Some n) since h = let le : since ≤ n = h n refl in omega arith

-- since rises to the least since of the readers that are left
since_raised : (ms : List Member) (since : ℕ) → AllByRecursion (Low since) ms → SinceIs (least_since ms) (raised since ms)
since_raised ms since h = raised_is (least_since ms) since (least_low ms since h)

lows : (s : ShardState) → IsState s → AllByRecursion (Low s.since) s.members
lows s r = low_all s.members s.since (low_of (least_since s.members) s.since r.since)

pub above_raised : (o : Option ℕ) (since : ℕ) → since ≤ greater_of since o
above_raised None since = omega arith
above_raised (Some n) since = omega arith

least_changed : (k : ℕ) (f : Member → Member) → ((m : Member) → ((f m).kind ≡ m.kind) × ((f m).since ≡ m.since)) → (ms : List Member) → least_since (changed k f ms) ≡ least_since ms
least_changed k f same [] = refl
least_changed k f same (m ∷ ms) =
    let rest = least_changed k f same ms in
    let e1 = (same m).0 in
    let e2 = (same m).1 in
    elim (bool_cases (eqb m.number k)) [ inl e ↦ rw (e, rest, e1, e2) refl | inr e ↦ rw (e, rest) refl ]

least_push : (ms : List Member) (new : Member) (since : ℕ) → SinceIs (least_since ms) since → (is_reader new.kind ≡ true → new.since ≡ since) → SinceIs (least_since (ms ++ new ∷ [])) since
least_push ms new since h g = elim (bool_cases (is_reader new.kind)) [
  | inl r ↦ is_least (least_since (ms ++ new ∷ [])) (some_push ms r) (low_push ms r) (at_push ms r (g r))
  | inr r ↦ subst (λ (o : Option ℕ). SinceIs o since) (sym (same_push ms r)) h
]
  where
    same_push : (xs : List Member) → is_reader new.kind ≡ false → least_since (xs ++ new ∷ []) ≡ least_since xs
    same_push [] r = rw r refl
    same_push (x ∷ xs) r = rw (same_push xs r) refl

    some_push : (xs : List Member) → is_reader new.kind ≡ true → (m : ℕ) × (least_since (xs ++ new ∷ []) ≡ Some m)
    some_push [] r = (new.since, rw r refl)
    some_push (x ∷ xs) r =
        let (m, e) = some_push xs r in
        elim (bool_cases (is_reader x.kind)) [ inl q ↦ (min m x.since, rw (q, e) refl) | inr q ↦ (m, rw (q, e) refl) ]

    low_push : (xs : List Member) → is_reader new.kind ≡ true → (m : ℕ) → least_since (ms ++ new ∷ []) ≡ Some m → since ≤ m
    low_push xs r = least_low (ms ++ new ∷ []) since (each_append (Low since) ms _ (low_all ms since (low_of (least_since ms) since h)) ((λ q. let e : new.since ≡ since = g q in omega arith), tt))

    at_push : (xs : List Member) → is_reader new.kind ≡ true → new.since ≡ since → (m : ℕ) → least_since (xs ++ new ∷ []) ≡ Some m → m ≤ since
    at_push [] r e m q = let q2 : Some new.since ≡ Some m = rw r at q in let e2 : new.since ≡ m = cc in omega arith
    at_push (x ∷ xs) r e m q =
        let (k, e3) = some_push xs r in
        let le : k ≤ since = at_push xs r e k e3 in
        elim (bool_cases (is_reader x.kind)) [
          | inl w ↦ (let q2 : Some (min k x.since) ≡ Some m = rw (w, e3) at q in let e2 : min k x.since ≡ m = cc in omega arith)
          | inr w ↦ (let q2 : Some k ≡ Some m = rw (w, e3) at q in let e2 : k ≡ m = cc in omega arith)
        ]

    is_least : (o : Option ℕ) → ((m : ℕ) × (o ≡ Some m)) → ((m : ℕ) → o ≡ Some m → since ≤ m) → ((m : ℕ) → o ≡ Some m → m ≤ since) → SinceIs o since
    is_least o some low high = let (m, e) = some in
        let a : since ≤ m = low m e in let b : m ≤ since = high m e in
        subst (λ (q : Option ℕ). SinceIs q since) (sym e) (let c : since ≡ m = omega arith in c)

each_changed_to : (P : Member → Type 0) (k : ℕ) (f : Member → Member) → ((m : Member) → m.number ≡ k → P (f m)) → ((m : Member) → (m.number ≡ k → ⊥) → P m) → (ms : List Member) → AllByRecursion P (changed k f ms)
each_changed_to P k f a b [] = tt
each_changed_to P k f a b (m ∷ ms) =
    let rest = each_changed_to P k f a b ms in
    elim (bool_cases (eqb m.number k)) [ inl e ↦ rw e (a m (eqb-true m.number k e), rest) | inr e ↦ rw e (b m (eqb-false m.number k e), rest) ]

each_changed_at : (P Q : Member → Type 0) (k : ℕ) (f : Member → Member) (ms : List Member) → ((m : Member) → P m → Q m → Q (f m)) → AllByRecursion (λ m. m.number ≡ k → P m) ms → AllByRecursion Q ms → AllByRecursion Q (changed k f ms)
each_changed_at P Q k f [] g a b = tt
each_changed_at P Q k f (m ∷ ms) g a b =
    let rest = each_changed_at P Q k f ms g a.1 b.1 in
    elim (bool_cases (eqb m.number k)) [ inl e ↦ rw e (g m (a.0 (eqb-true m.number k e)) b.0, rest) | inr e ↦ rw e (b.0, rest) ]

above_index : (shard : ShardId) (member token i : ℕ) (ks : List PartKey) (k : PartKey) → AreKeys shard member token i ks → Among (λ q. q ≡ k) ks → i ≤ k.index
above_index shard member token i [] k a h = absurd h
above_index shard member token i (q ∷ ks) k a (inl e) = let x : k.index ≡ i = ap (λ (w : PartKey). w.index) (sym e ∙ a.0) in omega arith
above_index shard member token i (q ∷ ks) k a (inr h) = let x : suc i ≤ k.index = above_index shard member token (suc i) ks k a.1 h in omega arith

-- numbered keys are all different
keys_distinct : (shard : ShardId) (member token i : ℕ) (ks : List PartKey) → AreKeys shard member token i ks → Distinct Unlike ks
keys_distinct shard member token i [] a = tt
keys_distinct shard member token i (q ∷ ks) a = (
  (λ h. let x : suc i ≤ q.index = above_index shard member token (suc i) ks q a.1 (among_map (λ b. q ≡ b) (λ b. b ≡ q) ks (λ b e. sym e) h) in
      let y : q.index ≡ i = ap (λ (w : PartKey). w.index) a.0 in omega arith),
  keys_distinct shard member token (suc i) ks a.1,
)

distinct_append : (xs ys : List PartKey) → Distinct Unlike xs → Distinct Unlike ys → ((k : PartKey) → Among (Is k) xs → Among (Is k) ys → ⊥) → Distinct Unlike (xs ++ ys)
distinct_append [] ys a b f = b
distinct_append (x ∷ xs) ys a b f = (
  (λ h. elim (among_split (λ q. x ≡ q) xs ys h) [ inl g ↦ a.0 g | inr g ↦ f x (inl refl) (among_map (λ q. x ≡ q) (Is x) ys (λ q e. sym e) g) ]),
  distinct_append xs ys a.1 b (λ k g h. f k (inr g) h),
)

distinct_front : (xs ys : List PartKey) → Distinct Unlike (xs ++ ys) → Distinct Unlike xs
distinct_front [] ys d = tt
distinct_front (x ∷ xs) ys d = ((λ h. d.0 (among_front (λ q. x ≡ q) xs ys h)), distinct_front xs ys d.1)

-- a state's key fits it, so it isn't among those that a transition adds
apart_added : (s s2 : ShardState) (x : Transition) → IsState s → Makes s x s2 → (k : PartKey) → Among (Is k) (keys_of s.batches) → Adds x k → ⊥
apart_added s s2 x r m k h a = fresh_makes s s2 x k m a (names_fit s k r h)

-- the keys of an addition fit the next state
part_fits : (shard : ShardId) (next member token : ℕ) (ms : List Member) (P : Member → Type 0) (f : Member → Member) (i : ℕ) (ks : List PartKey) → ((m : Member) → (f m).token ≡ token) → ((m : Member) → (f m).number ≡ m.number) →
    AllByRecursion (λ m. m.number < next) ms → Stands member P ms → AreKeys shard member token i ks → (k : PartKey) → Among (λ q. q ≡ k) ks → KeyFits shard next (changed member f ms) k
part_fits shard next member token ms P f i ks same number known st a k h =
    let of = is_of shard member token i ks k a h in
    let (m, lt, stands) = each_among (λ m. m.number < next) (λ m. (m.number ≡ member) × P m) ms known st in
    let e1 : k.member ≡ member = of.member_is in
    let e2 : k.token ≡ token = of.token_is in
    record {
      of_shard = of.shard_is;
      below = (let lt2 : m.number < next = lt in let e3 : m.number ≡ member = stands.0 in omega arith);
      spent = each_changed_to (Spent k) member f (λ w e g. let e4 : (f w).token ≡ token = same w in omega arith) (λ w ne g. absurd (ne (g ∙ e1))) ms;
    }

rows_of-append : (us bs : List Batch) → rows_of (us ++ bs) ≡ rows_of us + rows_of bs
rows_of-append us bs = sum_by-append (λ (b : Batch). b.rows) us bs

rows_of-cons : (b : Batch) (bs : List Batch) → rows_of (b ∷ bs) ≡ b.rows + rows_of bs
rows_of-cons b bs = sum_by-cons (λ (w : Batch). w.rows) b bs

runs_push : (f : Option ℕ) (bs : List Batch) (to : Option ℕ) (b : Batch) → Runs f bs to → to ≡ Some b.desc.lower → covers b.desc.upper b.desc.lower ≡ true → Runs f (bs ++ b ∷ []) b.desc.upper
runs_push f [] to b r e c = (r ∙ e, c, refl)
runs_push f (a ∷ bs) to b r e c = (r.0, r.1, runs_push a.desc.upper bs to b r.2 e c)

runs_merged : (f : Option ℕ) (before behind : List Batch) (l r m : Batch) (to : Option ℕ) → Runs f (before ++ l ∷ r ∷ behind) to → m.desc.lower ≡ l.desc.lower → m.desc.upper ≡ r.desc.upper → covers m.desc.upper m.desc.lower ≡ true → Runs f (before ++ m ∷ behind) to
runs_merged f [] behind l r m to h a b c = (h.0 ∙ ap Some (sym a), c, subst (λ (g : Option ℕ). Runs g behind to) (sym b) h.2.2)
runs_merged f (x ∷ before) behind l r m to h a b c = (h.0, h.1, runs_merged x.desc.upper before behind l r m to h.2 a b c)

-- each next state keeps the rules: where no refusal meets a transition, its state is one
pub rules_kept : (s s2 : ShardState) (x : Transition) → IsState s → s.number + 1 < 2 ^ 64 → Makes s x s2 → IsState s2
rules_kept s s2 Init r room m = absurd m
rules_kept s s2 (Join kind now lease) r room m =
    let known = r.known in let joined = r.joined in
    let up : AllByRecursion (λ w. w.number < s.next_member + 1) s.members = each_map (λ (w : Member). w.number < s.next_member) (λ (w : Member). w.number < s.next_member + 1) s.members (λ w h. let h2 : w.number < s.next_member = h in omega arith) known in
    let new_kind : (k : Kind) → JoinShape k now lease → KindRules k (joining s k now lease) = elim [ Writer ↦ (λ h. (refl, refl, refl, refl)) | Reader ↦ (λ h. refl) | Keeper ↦ (λ h. refl) ] in
    let new_hold : (k : Kind) → beat_of k (s.number + 1) ≤ s.number + 1 = elim [ Writer ↦ omega arith | Reader ↦ omega arith | Keeper ↦ omega arith ] in
    let new_since : (k : Kind) → is_reader k ≡ true → since_of k s.since ≡ s.since = elim [ Writer ↦ (λ e. cc) | Reader ↦ (λ e. refl) | Keeper ↦ (λ e. cc) ] in
    rw m.effect (record {
      few = (let l = length-append s.members (joining s kind now lease ∷ []) in let room2 : length s.members < 256 = m.room in omega arith);
      rising = rises _ (rise_push s.members (joining s kind now lease) (rise_of s.members r.rising) known);
      known = each_append (λ w. w.number < s.next_member + 1) s.members _ up (omega arith, tt);
      joined = omega arith;
      holds = each_append (λ w. w.hold ≤ s.number + 1) s.members _ (each_map (λ (w : Member). w.hold ≤ s.number) (λ (w : Member). w.hold ≤ s.number + 1) s.members (λ w h. let h2 : w.hold ≤ s.number = h in omega arith) r.holds) (new_hold kind, tt);
      kinds = each_append (λ w. KindRules w.kind w) s.members _ r.kinds (new_kind kind m.shape, tt);
      since = least_push s.members (joining s kind now lease) s.since r.since (new_since kind);
      spine = r.spine;
      upper_is = r.upper_is;
      sinces = r.sinces;
      rows = r.rows;
      light = r.light;
      parts = r.parts;
      keys = each_map (KeyFits s.shard s.next_member s.members) _ (keys_of s.batches) (λ k f. subst (λ (t : ShardState). KeyFits t.shard t.next_member t.members k) m.effect (fits_makes s s2 (Join kind now lease) k m f)) r.keys;
      distinct = r.distinct;
    })
rules_kept s s2 (Leave member) r room m =
    let joined = r.joined in
    let ms = without member s.members in
    let rise = above_raised (least_since ms) s.since in
    rw m.effect (record {
      few = (let l = length_without member s.members in let few = r.few in omega arith);
      rising = rises ms (rise_without member s.members (rise_of s.members r.rising));
      known = each_without (λ w. w.number < s.next_member) member s.members r.known;
      joined = omega arith;
      holds = each_map (λ (w : Member). w.hold ≤ s.number) (λ (w : Member). w.hold ≤ s.number + 1) ms (λ w h. let h2 : w.hold ≤ s.number = h in omega arith) (each_without (λ w. w.hold ≤ s.number) member s.members r.holds);
      kinds = each_without (λ w. KindRules w.kind w) member s.members r.kinds;
      since = since_raised ms s.since (each_without (Low s.since) member s.members (lows s r));
      spine = r.spine;
      upper_is = r.upper_is;
      sinces = each_map (λ (b : Batch). b.desc.since ≤ s.since) (λ (b : Batch). b.desc.since ≤ raised s.since ms) s.batches (λ b h. let h2 : b.desc.since ≤ s.since = h in omega arith) r.sinces;
      rows = r.rows;
      light = r.light;
      parts = r.parts;
      keys = each_map (KeyFits s.shard s.next_member s.members) _ (keys_of s.batches) (λ k f. subst (λ (t : ShardState). KeyFits t.shard t.next_member t.members k) m.effect (fits_makes s s2 (Leave member) k m f)) r.keys;
      distinct = r.distinct;
    })
rules_kept s s2 (Expire now) r room m =
    let joined = r.joined in
    let ms = unexpired now s.members in
    let rise = above_raised (least_since ms) s.since in
    rw m.effect (record {
      few = (let l = length_unexpired now s.members in let few = r.few in omega arith);
      rising = rises ms (rise_unexpired now s.members (rise_of s.members r.rising));
      known = each_unexpired (λ w. w.number < s.next_member) now s.members r.known;
      joined = omega arith;
      holds = each_map (λ (w : Member). w.hold ≤ s.number) (λ (w : Member). w.hold ≤ s.number + 1) ms (λ w h. let h2 : w.hold ≤ s.number = h in omega arith) (each_unexpired (λ w. w.hold ≤ s.number) now s.members r.holds);
      kinds = each_unexpired (λ w. KindRules w.kind w) now s.members r.kinds;
      since = since_raised ms s.since (each_unexpired (Low s.since) now s.members (lows s r));
      spine = r.spine;
      upper_is = r.upper_is;
      sinces = each_map (λ (b : Batch). b.desc.since ≤ s.since) (λ (b : Batch). b.desc.since ≤ raised s.since ms) s.batches (λ b h. let h2 : b.desc.since ≤ s.since = h in omega arith) r.sinces;
      rows = r.rows;
      light = r.light;
      parts = r.parts;
      keys = each_map (KeyFits s.shard s.next_member s.members) _ (keys_of s.batches) (λ k f. subst (λ (t : ShardState). KeyFits t.shard t.next_member t.members k) m.effect (fits_makes s s2 (Expire now) k m f)) r.keys;
      distinct = r.distinct;
    })
rules_kept s s2 (Renew member now) r room m =
    let joined = r.joined in
    let f : Member → Member = λ w. record w { beat = max w.beat now; hold = s.number + 1 } in
    let stands = one_stands member (λ w. is_writer w.kind ≡ false) s.members (rise_of s.members r.rising) m.stands in
    let still : (k : Kind) (w : Member) → is_writer k ≡ false → KindRules k w → KindRules k (f w) = elim [ Writer ↦ (λ w e h. cc) | Reader ↦ (λ w e h. h) | Keeper ↦ (λ w e h. h) ] in
    rw m.effect (record {
      few = (let l = length_changed member f s.members in let few = r.few in omega arith);
      rising = rises _ (rise_changed member f (λ w. refl) s.members (rise_of s.members r.rising));
      known = each_changed (λ w. w.number < s.next_member) member f s.members (λ w e h. h) r.known;
      joined = omega arith;
      holds = each_changed (λ w. w.hold ≤ s.number + 1) member f s.members (λ w e h. omega arith) (each_map (λ (w : Member). w.hold ≤ s.number) (λ (w : Member). w.hold ≤ s.number + 1) s.members (λ w h. let h2 : w.hold ≤ s.number = h in omega arith) r.holds);
      kinds = each_changed_at (λ w. is_writer w.kind ≡ false) (λ w. KindRules w.kind w) member f s.members (λ w e h. still w.kind w e h) stands r.kinds;
      since = subst (λ (o : Option ℕ). SinceIs o s.since) (sym (least_changed member f (λ w. (refl, refl)) s.members)) r.since;
      spine = r.spine;
      upper_is = r.upper_is;
      sinces = r.sinces;
      rows = r.rows;
      light = r.light;
      parts = r.parts;
      keys = each_map (KeyFits s.shard s.next_member s.members) _ (keys_of s.batches) (λ k g. subst (λ (t : ShardState). KeyFits t.shard t.next_member t.members k) m.effect (fits_makes s s2 (Renew member now) k m g)) r.keys;
      distinct = r.distinct;
    })
rules_kept s s2 (Advance member to) r room m =
    let joined = r.joined in
    let f : Member → Member = λ w. record w { since = to } in
    let ms = changed member f s.members in
    let rise = above_raised (least_since ms) s.since in
    let stands = one_stands member (λ w. (is_reader w.kind ≡ true) × (w.since ≤ to)) s.members (rise_of s.members r.rising) m.stands in
    let still : (k : Kind) (w : Member) → is_reader k ≡ true → KindRules k w → KindRules k (f w) = elim [ Writer ↦ (λ w e h. cc) | Reader ↦ (λ w e h. h) | Keeper ↦ (λ w e h. cc) ] in
    rw m.effect (record {
      few = (let l = length_changed member f s.members in let few = r.few in omega arith);
      rising = rises _ (rise_changed member f (λ w. refl) s.members (rise_of s.members r.rising));
      known = each_changed (λ w. w.number < s.next_member) member f s.members (λ w e h. h) r.known;
      joined = omega arith;
      holds = each_changed (λ w. w.hold ≤ s.number + 1) member f s.members (λ w e h. h) (each_map (λ (w : Member). w.hold ≤ s.number) (λ (w : Member). w.hold ≤ s.number + 1) s.members (λ w h. let h2 : w.hold ≤ s.number = h in omega arith) r.holds);
      kinds = each_changed_at (λ w. (is_reader w.kind ≡ true) × (w.since ≤ to)) (λ w. KindRules w.kind w) member f s.members (λ w e h. still w.kind w e.0 h) stands r.kinds;
      since = since_raised ms s.since (each_changed_at (λ w. (is_reader w.kind ≡ true) × (w.since ≤ to)) (Low s.since) member f s.members
          (λ w e h q. let a : s.since ≤ w.since = h e.0 in let b : w.since ≤ to = e.1 in omega arith) stands (lows s r));
      spine = r.spine;
      upper_is = r.upper_is;
      sinces = each_map (λ (b : Batch). b.desc.since ≤ s.since) (λ (b : Batch). b.desc.since ≤ raised s.since ms) s.batches (λ b h. let h2 : b.desc.since ≤ s.since = h in omega arith) r.sinces;
      rows = r.rows;
      light = r.light;
      parts = r.parts;
      keys = each_map (KeyFits s.shard s.next_member s.members) _ (keys_of s.batches) (λ k g. subst (λ (t : ShardState). KeyFits t.shard t.next_member t.members k) m.effect (fits_makes s s2 (Advance member to) k m g)) r.keys;
      distinct = r.distinct;
    })
rules_kept s s2 (Append member token expected new parts rows weight) r room m =
    let joined = r.joined in
    let f : Member → Member = λ w. record w { token = token } in
    let stands = one_stands member (λ w. (is_writer w.kind ≡ true) × (w.token < token)) s.members (rise_of s.members r.rising) m.stands in
    let still : (k : Kind) (w : Member) → is_writer k ≡ true → KindRules k w → KindRules k (f w) = elim [ Writer ↦ (λ w e h. h) | Reader ↦ (λ w e h. cc) | Keeper ↦ (λ w e h. h) ] in
    let b : Batch = record { desc = record { lower = expected; upper = new; since = 0 }; parts = parts; rows = rows } in
    let ks = keys-append s.batches (b ∷ []) in
    let pushed : Runs (Some 0) (s.batches ++ b ∷ []) new = runs_push (Some 0) s.batches s.upper b (runs_state s r) m.fits m.shape.forward in
    rw m.effect (record {
      few = (let l = length_changed member f s.members in let few = r.few in omega arith);
      rising = rises _ (rise_changed member f (λ w. refl) s.members (rise_of s.members r.rising));
      known = each_changed (λ w. w.number < s.next_member) member f s.members (λ w e h. h) r.known;
      joined = omega arith;
      holds = each_changed (λ w. w.hold ≤ s.number + 1) member f s.members (λ w e h. h) (each_map (λ (w : Member). w.hold ≤ s.number) (λ (w : Member). w.hold ≤ s.number + 1) s.members (λ w h. let h2 : w.hold ≤ s.number = h in omega arith) r.holds);
      kinds = each_changed_at (λ w. (is_writer w.kind ≡ true) × (w.token < token)) (λ w. KindRules w.kind w) member f s.members (λ w e h. still w.kind w e.0 h) stands r.kinds;
      since = subst (λ (o : Option ℕ). SinceIs o s.since) (sym (least_changed member f (λ w. (refl, refl)) s.members)) r.since;
      spine = runs_follow (Some 0) (s.batches ++ b ∷ []) new pushed;
      upper_is = runs_upper (Some 0) (s.batches ++ b ∷ []) new pushed;
      sinces = each_append (λ w. w.desc.since ≤ s.since) s.batches _ r.sinces (omega arith, tt);
      rows = (let e = rows_of-append s.batches (b ∷ []) in let e2 = rows_of-cons b [] in let old = r.rows in let dense = m.shape.dense in omega arith);
      light = m.light;
      parts = each_append (λ w. IsPartCount w.rows (length w.parts)) s.batches _ r.parts (m.shape.count, tt);
      keys = rw ks (each_append _ (keys_of s.batches) _
          (each_map (KeyFits s.shard s.next_member s.members) _ (keys_of s.batches) (λ k g. subst (λ (t : ShardState). KeyFits t.shard t.next_member t.members k) m.effect (fits_makes s s2 (Append member token expected new parts rows weight) k m g)) r.keys)
          (each_append _ parts [] (each_intro _ parts (λ k h. part_fits s.shard s.next_member member token s.members _ f 0 parts (λ w. refl) (λ w. refl) r.known m.stands m.shape.keys k h)) tt));
      distinct = rw ks (distinct_append (keys_of s.batches) (parts ++ []) r.distinct
          (subst (Distinct Unlike) (sym (append-nil parts)) (keys_distinct s.shard member token 0 parts m.shape.keys))
          (λ k g h. apart_added s s2 (Append member token expected new parts rows weight) r m k g (subst (λ (qs : List PartKey). Among (Is k) qs) (append-nil parts) h)));
    })
rules_kept s s2 (Merge member token left right merged) r room m =
    let joined = r.joined in
    let x : Transition = Merge member token left right merged in
    let f : Member → Member = λ w. record w { token = token; hold = s.number + 1 } in
    let stands = one_stands member (λ w. (w.kind ≡ Keeper) × (w.token < token)) s.members (rise_of s.members r.rising) m.stands in
    let still : (k : Kind) (w : Member) → k ≡ Keeper → KindRules k w → KindRules k (f w) = elim [ Writer ↦ (λ w e h. cc) | Reader ↦ (λ w e h. cc) | Keeper ↦ (λ w e h. h) ] in
    let kb = keys_of m.before in
    let kh = keys_of m.behind in
    let ks = keys-append m.before (merged ∷ m.behind) in
    let was : keys_of s.batches ≡ kb ++ (left.parts ++ (right.parts ++ kh)) = ap keys_of m.present ∙ keys-append m.before (left ∷ right ∷ m.behind) in
    let d : Distinct Unlike (kb ++ (left.parts ++ (right.parts ++ kh))) = subst (Distinct Unlike) was r.distinct in
    let runs : Runs (Some 0) (m.before ++ left ∷ right ∷ m.behind) s.upper = subst (λ (bs : List Batch). Runs (Some 0) bs s.upper) m.present (runs_state s r) in
    let pair = runs_pair (Some 0) m.before m.behind left right s.upper runs in
    let order : left.desc.lower < right.desc.lower = covers_open right.desc.lower left.desc.lower (subst (λ (g : Option ℕ). covers g left.desc.lower ≡ true) pair.0 pair.1) in
    let whole : covers right.desc.upper left.desc.lower ≡ true = covers_earlier right.desc.upper right.desc.lower left.desc.lower (omega arith) pair.2 in
    let forward : covers merged.desc.upper merged.desc.lower ≡ true = subst (λ (g : Option ℕ). covers g merged.desc.lower ≡ true) (sym m.shape.upper) (subst (λ (t : ℕ). covers right.desc.upper t ≡ true) (sym m.shape.lower) whole) in
    let replaced : Runs (Some 0) (m.before ++ merged ∷ m.behind) s.upper = runs_merged (Some 0) m.before m.behind left right merged s.upper runs m.shape.lower m.shape.upper forward in
    let fits2 : (k : PartKey) → KeyFits s.shard s.next_member s.members k → KeyFits s.shard s.next_member (changed member f s.members) k =
    λ k g. subst (λ (t : ShardState). KeyFits t.shard t.next_member t.members k) m.effect (fits_makes s s2 x k m g) in
    let keys2 : AllByRecursion (KeyFits s.shard s.next_member (changed member f s.members)) (kb ++ (left.parts ++ (right.parts ++ kh))) =
    subst (λ (qs : List PartKey). AllByRecursion (KeyFits s.shard s.next_member (changed member f s.members)) qs) was (each_map (KeyFits s.shard s.next_member s.members) _ (keys_of s.batches) fits2 r.keys) in
    let named : (k : PartKey) → Among (Is k) (kb ++ (left.parts ++ (right.parts ++ kh))) → Among (Is k) (keys_of s.batches) = λ k h. subst (λ (qs : List PartKey). Among (Is k) qs) (sym was) h in
    let behind_in : (k : PartKey) → Among (Is k) kh → Among (Is k) (left.parts ++ (right.parts ++ kh)) = λ k h. among_back (Is k) left.parts _ (among_back (Is k) right.parts _ h) in
    rw m.effect (record {
      few = (let l = length_changed member f s.members in let few = r.few in omega arith);
      rising = rises _ (rise_changed member f (λ w. refl) s.members (rise_of s.members r.rising));
      known = each_changed (λ w. w.number < s.next_member) member f s.members (λ w e h. h) r.known;
      joined = omega arith;
      holds = each_changed (λ w. w.hold ≤ s.number + 1) member f s.members (λ w e h. omega arith) (each_map (λ (w : Member). w.hold ≤ s.number) (λ (w : Member). w.hold ≤ s.number + 1) s.members (λ w h. let h2 : w.hold ≤ s.number = h in omega arith) r.holds);
      kinds = each_changed_at (λ w. (w.kind ≡ Keeper) × (w.token < token)) (λ w. KindRules w.kind w) member f s.members (λ w e h. still w.kind w e.0 h) stands r.kinds;
      since = subst (λ (o : Option ℕ). SinceIs o s.since) (sym (least_changed member f (λ w. (refl, refl)) s.members)) r.since;
      spine = runs_follow (Some 0) (m.before ++ merged ∷ m.behind) s.upper replaced;
      upper_is = runs_upper (Some 0) (m.before ++ merged ∷ m.behind) s.upper replaced;
      sinces = (let old = subst (λ (bs : List Batch). AllByRecursion (λ b. b.desc.since ≤ s.since) bs) m.present r.sinces in
          each_append (λ (b : Batch). b.desc.since ≤ s.since) m.before _ (each_front (λ (b : Batch). b.desc.since ≤ s.since) m.before _ old) (m.shape.since, (each_back (λ (b : Batch). b.desc.since ≤ s.since) m.before _ old).1.1));
      rows = (let old = r.rows in let e0 = ap rows_of m.present in let e1 = rows_of-append m.before (left ∷ right ∷ m.behind) in let e2 = rows_of-append m.before (merged ∷ m.behind) in let e3 = rows_of-cons left (right ∷ m.behind) in let e4 = rows_of-cons right m.behind in let e5 = rows_of-cons merged m.behind in let le = m.shape.rows in omega arith);
      light = r.light;
      parts = (let old = subst (λ (bs : List Batch). AllByRecursion (λ b. IsPartCount b.rows (length b.parts)) bs) m.present r.parts in
          each_append (λ (b : Batch). IsPartCount b.rows (length b.parts)) m.before _ (each_front (λ (b : Batch). IsPartCount b.rows (length b.parts)) m.before _ old) (m.shape.count, (each_back (λ (b : Batch). IsPartCount b.rows (length b.parts)) m.before _ old).1.1));
      keys = rw ks (each_append _ kb _ (each_front _ kb _ keys2)
          (each_append _ merged.parts kh (each_intro _ merged.parts (λ k h. part_fits s.shard s.next_member member token s.members _ f 0 merged.parts (λ w. refl) (λ w. refl) r.known m.stands m.shape.keys k h))
          (each_back _ right.parts kh (each_back _ left.parts _ (each_back _ kb _ keys2)))));
      distinct = rw ks (distinct_append kb (merged.parts ++ kh) (distinct_front kb _ d)
          (distinct_append merged.parts kh (keys_distinct s.shard member token 0 merged.parts m.shape.keys) (distinct_back right.parts kh (distinct_back left.parts _ (distinct_back kb _ d)))
          (λ k g h. apart_added s s2 x r m k (named k (among_back (Is k) kb _ (behind_in k h))) g))
          (λ k g h. elim (among_split (Is k) merged.parts kh h) [
            | inl a ↦ apart_added s s2 x r m k (named k (among_front (Is k) kb _ g)) a
            | inr a ↦ apart kb _ k d g (behind_in k a)
          ]));
    })

-- what applies: no refusal, and the number isn't spent
pub applies_of : (s s2 : ShardState) (x : Transition) → IsState s → s.number + 1 < 2 ^ 64 → Makes s x s2 → Applies s x s2
applies_of s s2 x r room m = record { room = room; makes = m; rules = rules_kept s s2 x r room m }
