-- The worked history's writer as a worker: its three calls that make the two appends, over real bytes. Entries go newest first.
use Rattle.std.proofs.Common.{◌≡◌, ℕ, Some, List, [], ◌∷◌, ◌++◌, inl, inr, refl, ap, subst, ◌∙◌, arith}
use Rattle.std.specs.Prelude.{reverse}
use Rattle.update_core.specs.declared.appends.FeedAppend.{FeedAppend}
use Rattle.update_core.specs.Totals.{consolidated}
use Rattle.update_core.specs.Updates.{cons}
use Rattle.update_core.specs.Collections.{Collection, empty_collection}
use Rattle.store_core.specs.declared.calls.Call.TheVariants.{Cas, Set}
use Rattle.store_core.specs.declared.entries.Entry.{Entry}
use Rattle.store_core.specs.Stores.{empty_store}
use Rattle.store_core.specs.Newest.{mine_back, replay_back}
use Rattle.state_core.specs.States.{ShardState}
use Rattle.history_core.specs.Laws.{LastIs}
use Rattle.worked_histories.specs.Worked.{the_shard, key, early_row, late_row, early_part, late_part, version4, version5}
use Rattle.worked_histories.specs.Worked.{state3, state4, state5, step3, step4, step5}
use Rattle.worked_histories.specs.WorkedTrail.{did, first_calls}
use Rattle.history_core.proofs.Bases.{none_there}
use Rattle.history_core.proofs.Endings.{last_law}
use Rattle.history_core.proofs.Entries.{lawful_newest}
use Rattle.history_core.proofs.Prefixes.{lawful_back}
use Rattle.worked_histories.proofs.WorkedAccepted.{accepted_before}
use Rattle.worked_histories.proofs.WorkedLaw.{prefixes_lawful}
use Rattle.worked_histories.proofs.WorkedParts.{reads_early, reads_late}
use Rattle.worked_histories.proofs.WorkedStands.{starts}
use Rattle.worked_histories.proofs.WorkedVersions.{reads3, reads4, reads5}
use Rattle.crew_core.specs.Competing.{FromWorkers, HasAppended, HasCollection}
use Rattle.crew_core.specs.Completing.{plain_after}
use Rattle.appends_core.specs.Feeds.{IsFeed}
use Rattle.crew_core.specs.Keeping.{Keeps}
use Rattle.crew_core.specs.Working.{IsOneOf, IsWorkersEntry, as_writer}
use Rattle.crew_core.proofs.Completing.{empty_law}
use Rattle.crew_core.proofs.CrewLaws.{competing_law}
use Rattle.crew_core.proofs.Splits.{head_is, nil_not, tail_is}

abbrev early : FeedAppend
early = record { lower = 0; upper = Some 5; rows = early_row ∷ [] }

abbrev late : FeedAppend
late = record { lower = 5; upper = Some 10; rows = late_row ∷ [] }

abbrev feed : List FeedAppend
feed = early ∷ late ∷ []

-- past the first eight calls
abbrev commits_early : Entry
commits_early = did 0 (Cas the_shard (Some 3) version4)

abbrev stores_late : Entry
stores_late = did 0 (Set (key 0 2) late_part)

abbrev commits_late : Entry
commits_late = did 0 (Cas the_shard (Some 4) version5)

abbrev gain : List Entry
gain = commits_early ∷ stores_late ∷ commits_late ∷ []

one_early : cons (early_row ∷ []) ≡ early_row ∷ []
unfolding consolidated
one_early = refl

one_late : cons (late_row ∷ []) ≡ late_row ∷ []
unfolding consolidated
one_late = refl

is_early : IsOneOf feed (mine_back empty_store (reverse (first_calls 8).trail) 0) step4
is_early = record {
  append = early;
  among = inl refl;
  member = 0;
  token = 1;
  parts = key 0 1 ∷ [];
  count = 1;
  step_is = refl;
  holds = (early_part, early_row ∷ [], [], inl (refl, refl), reads_early, one_early, refl);
}

is_late : IsOneOf feed (mine_back empty_store (reverse (first_calls 10).trail) 0) step5
is_late = record {
  append = late;
  among = inr (inl refl);
  member = 0;
  token = 2;
  parts = key 0 2 ∷ [];
  count = 1;
  step_is = refl;
  holds = (late_part, late_row ∷ [], [], inl (refl, refl), reads_late, one_late, refl);
}

first_entry : IsWorkersEntry (as_writer feed) the_shard empty_store (reverse (first_calls 8).trail) commits_early
first_entry = record {
  allowed = lawful_newest empty_store commits_early (reverse (first_calls 8).trail) (lawful_back (first_calls 9) (prefixes_lawful 9));
  carries = (refl, (state4, step4, reads4, inr (inr is_early)));
}

second_entry : IsWorkersEntry (as_writer feed) the_shard empty_store (reverse (first_calls 9).trail) stores_late
second_entry = record {
  allowed = lawful_newest empty_store stores_late (reverse (first_calls 9).trail) (lawful_back (first_calls 10) (prefixes_lawful 10));
  carries = tt;
}

third_entry : IsWorkersEntry (as_writer feed) the_shard empty_store (reverse (first_calls 10).trail) commits_late
third_entry = record {
  allowed = lawful_newest empty_store commits_late (reverse (first_calls 10).trail) (lawful_back (first_calls 11) (prefixes_lawful 11));
  carries = (refl, (state5, step5, reads5, inr (inr is_late)));
}

-- what holds at each of three places holds wherever one of them stands
at_three : {A : Type 0} (Q : List A → A → Type 0) (x y z : A) → Q [] x → Q (x ∷ []) y → Q (x ∷ y ∷ []) z →
    (before after : List A) (e : A) → x ∷ y ∷ z ∷ [] ≡ before ++ e ∷ after → Q before e
at_three Q x y z p q r [] after e split = subst (Q []) (head_is x e (y ∷ z ∷ []) after split) p
at_three {A = A} Q x y z p q r (b ∷ before) after e split = go before (tail_is x b (y ∷ z ∷ []) (before ++ e ∷ after) split)
  where
    x_is : x ≡ b
    x_is = head_is x b (y ∷ z ∷ []) (before ++ e ∷ after) split

    go : (before : List A) → y ∷ z ∷ [] ≡ before ++ e ∷ after → Q (b ∷ before) e
    go [] s = subst (λ (c : A). Q (c ∷ []) e) x_is (subst (Q (x ∷ [])) (head_is y e (z ∷ []) after s) q)
    go (c ∷ []) s =
        let y_is : y ≡ c = head_is y c (z ∷ []) (e ∷ after) s in
        let z_is : z ≡ e = head_is z e [] after (tail_is y c (z ∷ []) (e ∷ after) s) in
        subst (λ (d : A). Q (d ∷ c ∷ []) e) x_is (subst (λ (d : A). Q (x ∷ d ∷ []) e) y_is (subst (Q (x ∷ y ∷ [])) z_is r))
    go (c ∷ d ∷ more) s =
        absurd (nil_not more after e (tail_is z d [] (more ++ e ∷ after) (tail_is y c (z ∷ []) (d ∷ more ++ e ∷ after) s)))

keeps : (client : ℕ) → Keeps (IsWorkersEntry (as_writer feed) the_shard) the_shard client (first_calls 8) gain
keeps client before after e split own list st l =
    at_three (λ (es : List Entry) (f : Entry). IsWorkersEntry (as_writer feed) the_shard empty_store (reverse ((first_calls 8).trail ++ es)) f)
    commits_early stores_late commits_late first_entry second_entry third_entry before after e split

came : FromWorkers (λ n. as_writer feed) feed the_shard ((0, []) ∷ []) (first_calls 8) gain
came = record {
  each_of = (omega arith, (omega arith, (omega arith, tt)));
  each_suits = λ client h. refl;
  each_keeps = λ client h. keeps client;
}

last_before : LastIs (replay_back empty_store (reverse (first_calls 8).trail)) the_shard 3 state3
last_before = (refl, (step3, rw reads3 refl))

before_is : HasCollection [] empty_store the_shard (reverse (first_calls 8).trail) empty_collection
before_is = inr (3, state3, last_before, rw accepted_before refl)

-- the law at work: what the three calls make of the empty collection
grown : (after : Collection) × HasCollection [] empty_store the_shard (reverse (first_calls 11).trail) after ×
    HasAppended feed empty_collection after
grown = competing_law (λ n. as_writer feed) feed the_shard [] ((0, []) ∷ []) (first_calls 8) gain (refl, refl, (refl, refl, tt)) starts (prefixes_lawful 8) came
    empty_collection before_is

last_after : LastIs (replay_back empty_store (reverse (first_calls 11).trail)) the_shard 5 state5
last_after = (refl, (step5, rw reads5 refl))

makes_feed : IsFeed feed
makes_feed = record {
  follow = (refl, refl, (refl, refl, tt));
  fit = (record { in_range = refl; few = omega arith }, (record { in_range = refl; few = omega arith }, tt));
  light = omega arith;
}

-- the feed is complete, so whatever collection that is, one writer alone makes it
one_writers : (after : Collection) → HasCollection [] empty_store the_shard (reverse (first_calls 11).trail) after →
    HasAppended feed empty_collection after → after ≡ plain_after empty_collection feed
one_writers after has h = empty_law feed after makes_feed h (upper has)
  where
    upper : HasCollection [] empty_store the_shard (reverse (first_calls 11).trail) after → after.upper ≡ Some 10
    upper (inl k) =
        absurd (none_there the_shard ((replay_back empty_store (reverse (first_calls 11).trail)).logs the_shard) 5 state5 k.0 last_after.1)
    upper (inr (n, s, last, is)) =
        ap (λ (c : Collection). c.upper) is
        ∙ ap (λ (t : ShardState). t.upper)
        (last_law (replay_back empty_store (reverse (first_calls 11).trail)) the_shard n 5 s state5 last last_after).1

one_writers_rows : (plain_after empty_collection feed).updates ≡ early_row ∷ late_row ∷ []
unfolding consolidated
one_writers_rows = refl
