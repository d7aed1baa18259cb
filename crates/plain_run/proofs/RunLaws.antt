-- What of a plain run is written so far.
use Rattle.std.proofs.Common.{Result, Ok, Err, ◌≡◌, ℕ, true, false, Option, List, [], ◌∷◌, ◌++◌, length, refl, sym, ap, subst, ◌∙◌, append_assoc}
use Rattle.std.specs.Prelude.{⊤}
use Rattle.std.proofs.lemmas.List.{append-nil}
use Rattle.update_core.specs.declared.updates.Update.{Update}
use Rattle.feed_text.specs.declared.feed_lines.FeedLine.{FeedLine}
use Rattle.feed_text.specs.declared.feed_lines.FeedLine.TheVariants.{Append, Snapshot, Listen, Since, Compact}
use Rattle.feed_text.specs.declared.replies.RunReply.{RunReply}
use Rattle.feed_text.specs.Replies.{reply_text}
use Rattle.feed_text.specs.Streams.{Gains}
use Rattle.feed_text.proofs.Streams.{Gains-none, Gains-append}
use Rattle.store_core.specs.declared.entries.Entry.{Entry}
use Rattle.store_core.specs.Stores.{Stored}
use Rattle.store_core.specs.Histories.{History}
use Rattle.store_core.specs.Newest.{replay_back}
use Rattle.update_core.specs.Limits.{most}
use Rattle.plain_run.specs.declared.run_faults.RunFault.{RunFault}
use Rattle.plain_run.specs.declared.run_faults.RunFault.TheVariants as runs
use Rattle.plain_run.specs.declared.session_faults.SessionFault.{SessionFault}
use Rattle.plain_run.specs.declared.session_faults.SessionFault.TheVariants as faults
use Rattle.plain_run.specs.declared.sessions.Session.{Session}
use Rattle.plain_run.specs.Answering.{AnswersLine, AnswersLines, Closed, Executes, FailedRun, Opens, Replies, number_of}
use Rattle.plain_run.specs.Drives.{Failed}
use Rattle.plain_run.specs.Endings.{StaysLawful}
use Rattle.driving.specs.Goings.{Goes}
use Rattle.plain_run.specs.PlainRuns.{View, plain_end, plain_run, reply_to, view_after}
use Rattle.plain_run.specs.RunFaults.{fault_of}
use Rattle.plain_run.specs.Sessions.{StartsAt, ViewAt}
use Rattle.plain_run.specs.Settling.{IsSettledIn, SettledBy, ends_compact, is_compact}
use Rattle.plain_run.proofs.DriveLaws.{scanned_before}
use Rattle.driving.proofs.GoingLaws.{Between, going_so, more_going, no_going}
use Rattle.plain_run.proofs.Views.{accepted_stands, starts_somehow, view_accepted}
use Rattle.store_core.specs.declared.shards.ShardId.{ShardId}

-- the sink has gained the run's text but for that of the commands that are left, and these end with the run's view
pub record RunSoFar (taken now : Option (List ℕ)) (all : List FeedLine) (first view : View) (rest : List FeedLine) : Type 0 where
  pub done : List ℕ
  pub gained : Gains taken now done
  pub split : plain_run first all ≡ done ++ plain_run view rest
  pub end : plain_end first all ≡ plain_end view rest

pub run_starts : (taken : Option (List ℕ)) (all : List FeedLine) (view : View) → RunSoFar taken taken all view view all
run_starts taken all view = record { done = []; gained = Gains-none taken; split = refl; end = refl }

-- the text of one reply more
pub run_goes_on : (taken before now : Option (List ℕ)) (all : List FeedLine) (first view : View) (line : FeedLine) (rest : List FeedLine) (text : List ℕ) → RunSoFar taken before all first view (line ∷ rest) →
    text ≡ reply_text (reply_to view line) → Gains before now text → RunSoFar taken now all first (view_after view line) rest
run_goes_on taken before now all first view line rest text so_far is more = record {
  done = so_far.done ++ text;
  gained = Gains-append taken before now so_far.done text so_far.gained more;
  split = so_far.split ∙ ap (λ t. so_far.done ++ (t ++ plain_run (view_after view line) rest)) (sym is) ∙ sym (append_assoc so_far.done text (plain_run (view_after view line) rest));
  end = so_far.end;
}

-- all of it
pub run_ends : (taken now : Option (List ℕ)) (all : List FeedLine) (first view : View) → RunSoFar taken now all first view [] → Gains taken now (plain_run first all) × (plain_end first all ≡ view)
run_ends taken now all first view so_far = (subst (λ t. Gains taken now t) (sym (so_far.split ∙ append-nil so_far.done)) so_far.gained, so_far.end)

-- ---- settled batches

-- where the whole feed ends with `compact`, so do the commands that are left, or the batches are settled
abbrev pub SettledLeft : List FeedLine → ShardId → Stored → Type 0
SettledLeft [] shard store = IsSettledIn store shard
SettledLeft (line ∷ lines) shard store = ends_compact (line ∷ lines) ≡ true

abbrev pub SettlesAtEnd : List FeedLine → List FeedLine → ShardId → Stored → Type 0
SettlesAtEnd all rest shard store = ends_compact all ≡ true → SettledLeft rest shard store

settles_first : (all : List FeedLine) (shard : ShardId) (store : Stored) → SettlesAtEnd all all shard store
settles_first [] shard store = λ h. (let bad : false ≡ true = h in cc)
settles_first (line ∷ lines) shard store = λ h. h

settled_last : (line : FeedLine) (shard : ShardId) (store : Stored) → is_compact line ≡ true → SettledBy line shard store → IsSettledIn store shard
settled_last (Append a) shard store is by = (let bad : false ≡ true = is in cc)
settled_last (Snapshot t) shard store is by = (let bad : false ≡ true = is in cc)
settled_last (Listen t) shard store is by = (let bad : false ≡ true = is in cc)
settled_last (Since to) shard store is by = (let bad : false ≡ true = is in cc)
settled_last Compact shard store is by = by

settles_next : (all : List FeedLine) (line : FeedLine) (rest : List FeedLine) (shard : ShardId) (store now : Stored) →
    SettlesAtEnd all (line ∷ rest) shard store → SettledBy line shard now → SettlesAtEnd all rest shard now
settles_next all line [] shard store now so by = λ h. settled_last line shard now (so h) by
settles_next all line (next ∷ rest) shard store now so by = λ h. so h

module _ (shard : ShardId) where
  -- ---- over a store

  -- where the run had a view at its begin, it has one now, and the run has come so far
  abbrev pub Comes : ℕ → Option (List ℕ) → Option (List ℕ) → List FeedLine → List FeedLine → List Update → Stored → List Entry → List Entry → Type 0
  Comes reader taken taken_now all rest list start es now =
      (view : View) → ViewAt shard list start es reader view → (next : View) × ViewAt shard list start now reader next ×
      RunSoFar taken taken_now all view next rest × SettlesAtEnd all rest shard (replay_back start now)

  abbrev pub RunOver : ℕ → Option History → Option History → Option (List ℕ) → Option (List ℕ) → List FeedLine → List FeedLine → Type 0
  RunOver reader a b taken taken_now all rest = Goes shard a b (Comes reader taken taken_now all rest)

  pub run_over_starts : (reader : ℕ) (a : Option History) (taken : Option (List ℕ)) (all : List FeedLine) → RunOver reader a a taken taken all all
  run_over_starts reader a taken all = no_going shard a (Comes reader taken taken all all) (λ list start es view v. (view, v, run_starts taken all view, settles_first all shard (replay_back start es)))

  pub run_over_goes_on : (reader : ℕ) (a b d : Option History) (taken before now : Option (List ℕ)) (all had rest : List FeedLine) (line : FeedLine) (reply : RunReply) (text : List ℕ) → had ≡ line ∷ rest →
      RunOver reader a b taken before all had → Goes shard b d (AnswersLine shard reader line (Ok reply)) → text ≡ reply_text reply → Gains before now text →
      RunOver reader a d taken now all rest
  run_over_goes_on reader a b d taken before now all had rest line reply text split so_far told is more =
      more_going shard a b d (Comes reader taken before all had) (AnswersLine shard reader line (Ok reply)) (Comes reader taken now all rest) so_far told
      (λ list start es mid fs b1 b2 come replied view v.
      let (next, at, so, settles) = come view v in
      let (same, after, settled) = replied next at in
      let here : RunSoFar taken before all view next (line ∷ rest) = subst (RunSoFar taken before all view next) split so in
      let still : SettlesAtEnd all (line ∷ rest) shard (replay_back start mid) =
      subst (λ (ls : List FeedLine). SettlesAtEnd all ls shard (replay_back start mid)) split settles in (
        view_after next line,
        after,
        run_goes_on taken before now all view next line rest text here (is ∙ ap reply_text same) more,
        settles_next all line rest shard (replay_back start mid) (replay_back start fs) still settled,
      ))

  pub run_over_ends : (reader : ℕ) (a b : Option History) (taken now : Option (List ℕ)) (all rest : List FeedLine) → rest ≡ [] → RunOver reader a b taken now all rest → Goes shard a b (AnswersLines shard reader all taken now (Ok tt))
  run_over_ends reader a b taken now all rest none so_far =
      going_so shard a b (Comes reader taken now all rest) (AnswersLines shard reader all taken now (Ok tt)) so_far (λ list start es fs bt come view v.
      let (next, at, so, settles) = come view v in
      let (gained, end) = run_ends taken now all view next (subst (RunSoFar taken now all view next) none so) in (
        gained,
        subst (λ (w : View). ViewAt shard list start fs reader w) (sym end) at,
        subst (λ (ls : List FeedLine). SettlesAtEnd all ls shard (replay_back start fs)) none settles,
      ))

  -- a line other than `compact` says nothing of the batches
  pub line_told : (a d : Option History) (reader : ℕ) (line : FeedLine) (result : Result RunReply SessionFault) →
      ((store : Stored) → SettledBy line shard store) →
      Goes shard a d (Replies shard reader (λ view. reply_to view line) (λ view. view_after view line) result) →
      Goes shard a d (AnswersLine shard reader line result)
  line_told a d reader line (Ok reply) any went =
      going_so shard a d (Replies shard reader (λ view. reply_to view line) (λ view. view_after view line) (Ok reply))
      (AnswersLine shard reader line (Ok reply)) went
      (λ list start es now b f view v. let (same, at) = f view v in (same, at, any (replay_back start now)))
  line_told a d reader line (Err faults.Damaged) any went = went
  line_told a d reader line (Err faults.Memory) any went = went
  line_told a d reader line (Err faults.Store) any went = went
  line_told a d reader line (Err faults.MembersFull) any went = went
  line_told a d reader line (Err faults.Spent) any went = went

  -- a session's fault is one of the run
  failed_run : (fault : SessionFault) (list : List Update) (start : Stored) (es mid now : List Entry) → Between shard list start es mid → Failed shard fault start mid now → FailedRun shard (fault_of fault) start es now
  failed_run faults.Memory list start es mid now b h = tt
  failed_run faults.Store list start es mid now b h = tt
  failed_run faults.Damaged list start es mid now b h = absurd h
  failed_run faults.MembersFull list start es mid now b h = scanned_before shard (λ n s. length s.members ≡ 256) list start es mid now b h
  failed_run faults.Spent list start es mid now b h = scanned_before shard (λ n s. n ≡ most) list start es mid now b h

  -- a command that gave no reply
  pub run_over_fails : (reader : ℕ) (a b d : Option History) (taken before now : Option (List ℕ)) (all had : List FeedLine) (line : FeedLine) (fault : SessionFault) → RunOver reader a b taken before all had →
      Goes shard b d (AnswersLine shard reader line (Err fault)) → Goes shard a d (AnswersLines shard reader all taken now (Err (fault_of fault)))
  run_over_fails reader a b d taken before now all had line faults.Damaged so_far told =
      more_going shard a b d (Comes reader taken before all had) (AnswersLine shard reader line (Err faults.Damaged)) (AnswersLines shard reader all taken now (Err runs.Damaged)) so_far told
      (λ list start es mid fs b1 b2 come replied view v. let (next, at, so, settles) = come view v in replied next at)
  run_over_fails reader a b d taken before now all had line faults.Memory so_far told =
      more_going shard a b d (Comes reader taken before all had) (AnswersLine shard reader line (Err faults.Memory)) (AnswersLines shard reader all taken now (Err runs.Memory)) so_far told
      (λ list start es mid fs b1 b2 come h. failed_run faults.Memory list start es mid fs b1 h)
  run_over_fails reader a b d taken before now all had line faults.Store so_far told =
      more_going shard a b d (Comes reader taken before all had) (AnswersLine shard reader line (Err faults.Store)) (AnswersLines shard reader all taken now (Err runs.Store)) so_far told
      (λ list start es mid fs b1 b2 come h. failed_run faults.Store list start es mid fs b1 h)
  run_over_fails reader a b d taken before now all had line faults.MembersFull so_far told =
      more_going shard a b d (Comes reader taken before all had) (AnswersLine shard reader line (Err faults.MembersFull)) (AnswersLines shard reader all taken now (Err runs.MembersFull)) so_far told
      (λ list start es mid fs b1 b2 come h. failed_run faults.MembersFull list start es mid fs b1 h)
  run_over_fails reader a b d taken before now all had line faults.Spent so_far told =
      more_going shard a b d (Comes reader taken before all had) (AnswersLine shard reader line (Err faults.Spent)) (AnswersLines shard reader all taken now (Err runs.Spent)) so_far told
      (λ list start es mid fs b1 b2 come h. failed_run faults.Spent list start es mid fs b1 h)

  -- memory or the sink failed after a reply
  pub run_over_stops : (reader : ℕ) (a b d : Option History) (taken before now : Option (List ℕ)) (all had : List FeedLine) (how : List Update → Stored → List Entry → List Entry → Type 0) (fault : RunFault) →
      ((list : List Update) (start : Stored) (es fs : List Entry) → AnswersLines shard reader all taken now (Err fault) list start es fs) → RunOver reader a b taken before all had → Goes shard b d how → Goes shard a d (AnswersLines shard reader all taken now (Err fault))
  run_over_stops reader a b d taken before now all had how fault any so_far told =
      more_going shard a b d (Comes reader taken before all had) how (AnswersLines shard reader all taken now (Err fault)) so_far told (λ list start es mid fs b1 b2 come h. any list start es fs)

  -- ---- a run, from its open to its close

  pub open_fails : (a b : Option History) (all : List FeedLine) (taken now : Option (List ℕ)) (fault : SessionFault) → Goes shard a b (λ list start es fs. Failed shard fault start es fs) → Goes shard a b (Executes shard all taken now (Err (fault_of fault)))
  open_fails a b all taken now fault went =
      going_so shard a b (λ list start es fs. Failed shard fault start es fs) (Executes shard all taken now (Err (fault_of fault))) went (λ list start es fs bt h. failed_run fault list start es es fs (itself list start es fs bt) h)
    where
      itself : (list : List Update) (start : Stored) (es fs : List Entry) → Between shard list start es fs → Between shard list start es es
      itself list start es fs bt = record { stands = bt.stands; lawful = bt.lawful; lawful_now = bt.lawful; more = []; split = refl }

  -- a run that failed within later entries has failed
  run_later : (fault : RunFault) (list : List Update) (start : Stored) (es mid now : List Entry) → Between shard list start es mid → FailedRun shard fault start mid now → FailedRun shard fault start es now
  run_later runs.Memory list start es mid now b h = tt
  run_later runs.Sink list start es mid now b h = tt
  run_later runs.Store list start es mid now b h = tt
  run_later runs.Damaged list start es mid now b h = h
  run_later runs.MembersFull list start es mid now b h = scanned_before shard (λ n s. length s.members ≡ 256) list start es mid now b h
  run_later runs.Spent list start es mid now b h = scanned_before shard (λ n s. n ≡ most) list start es mid now b h

  -- the commands failed
  pub lines_fail : (a b d : Option History) (s : Session) (all : List FeedLine) (taken now : Option (List ℕ)) (fault : RunFault) → Goes shard a b (Opens shard (Ok s)) → Goes shard b d (AnswersLines shard (number_of s.reader) all taken now (Err fault)) →
      Goes shard a d (Executes shard all taken now (Err fault))
  lines_fail a b d s all taken now runs.Damaged x y =
      more_going shard a b d (Opens shard (Ok s)) (AnswersLines shard (number_of s.reader) all taken now (Err runs.Damaged)) (Executes shard all taken now (Err runs.Damaged)) x y
      (λ list start es mid fs b1 b2 opened damaged. let (view, at) = starts_somehow shard list start es b1.stands b1.lawful in damaged view (opened view at))
  lines_fail a b d s all taken now runs.Memory x y =
      more_going shard a b d (Opens shard (Ok s)) (AnswersLines shard (number_of s.reader) all taken now (Err runs.Memory)) (Executes shard all taken now (Err runs.Memory)) x y
      (λ list start es mid fs b1 b2 opened h. run_later runs.Memory list start es mid fs b1 h)
  lines_fail a b d s all taken now runs.Sink x y =
      more_going shard a b d (Opens shard (Ok s)) (AnswersLines shard (number_of s.reader) all taken now (Err runs.Sink)) (Executes shard all taken now (Err runs.Sink)) x y
      (λ list start es mid fs b1 b2 opened h. run_later runs.Sink list start es mid fs b1 h)
  lines_fail a b d s all taken now runs.Store x y =
      more_going shard a b d (Opens shard (Ok s)) (AnswersLines shard (number_of s.reader) all taken now (Err runs.Store)) (Executes shard all taken now (Err runs.Store)) x y
      (λ list start es mid fs b1 b2 opened h. run_later runs.Store list start es mid fs b1 h)
  lines_fail a b d s all taken now runs.MembersFull x y =
      more_going shard a b d (Opens shard (Ok s)) (AnswersLines shard (number_of s.reader) all taken now (Err runs.MembersFull)) (Executes shard all taken now (Err runs.MembersFull)) x y
      (λ list start es mid fs b1 b2 opened h. run_later runs.MembersFull list start es mid fs b1 h)
  lines_fail a b d s all taken now runs.Spent x y =
      more_going shard a b d (Opens shard (Ok s)) (AnswersLines shard (number_of s.reader) all taken now (Err runs.Spent)) (Executes shard all taken now (Err runs.Spent)) x y
      (λ list start es mid fs b1 b2 opened h. run_later runs.Spent list start es mid fs b1 h)

  -- the close failed
  pub close_fails : (a b d : Option History) (how : List Update → Stored → List Entry → List Entry → Type 0) (all : List FeedLine) (taken now : Option (List ℕ)) (fault : SessionFault) → Goes shard a b how →
      Goes shard b d (λ list start es fs. Failed shard fault start es fs) → Goes shard a d (Executes shard all taken now (Err (fault_of fault)))
  close_fails a b d how all taken now fault x y =
      more_going shard a b d how (λ list start es fs. Failed shard fault start es fs) (Executes shard all taken now (Err (fault_of fault))) x y (λ list start es mid fs b1 b2 so h. failed_run fault list start es mid fs b1 h)

  -- what the session's open and the commands have come to
  pub lines_done : (a b d : Option History) (s : Session) (all : List FeedLine) (taken now : Option (List ℕ)) → Goes shard a b (Opens shard (Ok s)) → Goes shard b d (AnswersLines shard (number_of s.reader) all taken now (Ok tt)) →
      Goes shard a d (λ list start es fs. (view : View) → StartsAt shard list start es view → Gains taken now (plain_run view all) × ViewAt shard list start fs (number_of s.reader) (plain_end view all) × (ends_compact all ≡ true → IsSettledIn (replay_back start fs) shard))
  lines_done a b d s all taken now x y =
      more_going shard a b d (Opens shard (Ok s)) (AnswersLines shard (number_of s.reader) all taken now (Ok tt))
      (λ list start es fs. (view : View) → StartsAt shard list start es view → Gains taken now (plain_run view all) × ViewAt shard list start fs (number_of s.reader) (plain_end view all) × (ends_compact all ≡ true → IsSettledIn (replay_back start fs) shard)) x y
      (λ list start es mid fs b1 b2 opened lines view at. lines view (opened view at))

  -- all of it was done
  pub run_done : (a b d : Option History) (reader : ℕ) (all : List FeedLine) (taken now : Option (List ℕ)) →
      Goes shard a b (λ list start es fs. (view : View) → StartsAt shard list start es view → Gains taken now (plain_run view all) × ViewAt shard list start fs reader (plain_end view all) × (ends_compact all ≡ true → IsSettledIn (replay_back start fs) shard)) →
      Goes shard b d (Closed shard (Ok tt)) → Goes shard a d (Executes shard all taken now (Ok tt))
  run_done a b d reader all taken now x y =
      more_going shard a b d (λ list start es fs. (view : View) → StartsAt shard list start es view → Gains taken now (plain_run view all) × ViewAt shard list start fs reader (plain_end view all) × (ends_compact all ≡ true → IsSettledIn (replay_back start fs) shard)) (Closed shard (Ok tt)) (Executes shard all taken now (Ok tt)) x y
      (λ list start es mid fs b1 b2 lines closed view at.
      let (gained, v, settles) = lines view at in (
        gained,
        accepted_stands shard list (plain_end view all).collection.updates start fs b2.stands b2.lawful_now
            (closed.0 ∙ view_accepted shard list start mid reader (plain_end view all) v),
        λ h. closed.1 (settles h),
      ))

-- a store that failed the run failed the session
pub store_fault : (fault : SessionFault) → fault_of fault ≡ runs.Store → fault ≡ faults.Store
store_fault faults.Store is = refl
store_fault faults.Memory is = cc
store_fault faults.Damaged is = cc
store_fault faults.MembersFull is = cc
store_fault faults.Spent is = cc

pub err_same : (r : Result Unit RunFault) (x y : RunFault) → r ≡ Err x → r ≡ Err y → x ≡ y
err_same r x y a b = cc

module _ (shard : ShardId) where
  -- where it was lawful it still is, whatever else is so
  pub stays_lawful : (a b : Option History) (how : List Update → Stored → List Entry → List Entry → Type 0) → Goes shard a b how → StaysLawful shard a b
  stays_lawful a b how went = going_so shard a b how (λ list start es now. ⊤) went (λ list start es now bt h. tt)

  -- nothing was done
  pub rests_lawful : (a : Option History) → StaysLawful shard a a
  rests_lawful a = no_going shard a (λ list start es now. ⊤) (λ list start es. tt)
