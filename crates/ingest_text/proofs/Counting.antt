-- The counts of a feed, and what they tell.
use Rattle.std.proofs.Common.{◌≡◌, ℕ, ◌+◌, ◌-◌, ◌<◌, ◌≤◌, true, Option, Some, None, List, [], ◌∷◌, ◌++◌, length, length-append, refl, sym, ap, subst, ◌∙◌, arith}
use Rattle.std.proofs.lemmas.List.Sums.{sum_by_push}
use Rattle.std.specs.Int.RustNames.{unsigned_abs}
use Rattle.update_core.specs.declared.appends.FeedAppend.{FeedAppend}
use Rattle.update_core.specs.declared.updates.Update.{Update}
use Rattle.update_core.specs.Frontiers.{covers}
use Rattle.update_core.specs.Updates.{weight_of}
use Rattle.appends_core.proofs.FeedSteps.{end_on, weight_on}
use Rattle.feed_text.specs.declared.limits.TheConstants.{MAX_COMMANDS, MAX_ROWS}
use Rattle.ingest_text.specs.declared.counts.Counts.{Counts}
use Rattle.ingest_text.specs.declared.limits.TheConstants.{MAX_LISTENS, MAX_WEIGHT}
use Rattle.ingest_text.specs.Reading.{IsCounted}
use Rattle.feed_text.specs.declared.feed_lines.FeedLine.{FeedLine}
use Rattle.feed_text.specs.declared.feed_lines.FeedLine.TheVariants as commands
use Rattle.ingest_text.specs.declared.feeds.IngestFeed.{IngestFeed}
use Rattle.ingest_text.specs.declared.feeds.Said.{Said}
use Rattle.ingest_text.specs.Feeds.{MayAdd, MayAsk, commands_in, listens_in, nothing, since_count, with_append, with_query, with_row}

pub listens_on : (qs : List FeedLine) (q : FeedLine) → listens_in (qs ++ q ∷ []) ≡ listens_in qs + listens_in (q ∷ [])
listens_on [] q = omega arith
listens_on (commands.Append a ∷ qs) q = listens_on qs q
listens_on (commands.Snapshot t ∷ qs) q = listens_on qs q
listens_on (commands.Listen t ∷ qs) q = let h = listens_on qs q in omega (arith, h)
listens_on (commands.Since t ∷ qs) q = listens_on qs q
listens_on (commands.Compact ∷ qs) q = listens_on qs q

empty_since : (o : Option ℕ) → since_count o ≡ 0 → o ≡ None
empty_since None h = refl
empty_since (Some t) h = absurd (omega (arith, h))

empty_list : {X : Type 0} (xs : List X) → length xs ≡ 0 → xs ≡ []
empty_list [] h = refl
empty_list (x ∷ xs) h = absurd (omega (arith, h))

-- a feed of no command says nothing
pub nothing_said : (f : IngestFeed) → commands_in f ≡ 0 → ◌≡◌ {A = Said} (record { feed = f; block = None }) nothing
nothing_said f h =
    let since = empty_since f.since (omega (arith, h)) in
    let appends = empty_list f.appends (omega (arith, h)) in
    let queries = empty_list f.queries (omega (arith, h)) in
    λ i. record { feed = record { since = since i; appends = appends i; queries = queries i }; block = None }

-- where something was said there is a command
pub something_said : (f : IngestFeed) → 0 < commands_in f → ◌≡◌ {A = Said} (record { feed = f; block = None }) nothing → ⊥
something_said f some is =
    let none : commands_in f ≡ 0 = ap (λ (s : Said). commands_in s.feed) is in
    omega (arith, some, none)

-- ---- the counts after a line

module _ (f : IngestFeed) (c : Counts) (a : FeedAppend) (had : IsCounted (record { feed = f; block = Some a }) c) where
  abbrev Here : Said
  Here = record { feed = f; block = Some a }

  -- the dot
  counted_end : IsCounted (with_append Here a) (record c { end = a.upper })
  counted_end = record {
    end = sym (end_on (Some 0) f.appends a);
    weight = let weight = had.weight in omega (arith, weight, weight_on f.appends a);
    light = had.light;
    listens = had.listens;
    few_listens = had.few_listens;
    commands = let commands = had.commands in omega (arith, commands, length-append f.appends (a ∷ []));
    few_commands = had.few_commands;
  }

  pub ended : (appends : List FeedAppend) → appends ≡ f.appends ++ a ∷ [] →
      let x : Said = record { feed = record f { appends = appends }; block = None } in
      (x ≡ with_append Here a) × IsCounted x (record c { end = a.upper })
  ended appends is = (
    λ i. record { feed = record f { appends = is i }; block = None },
    subst (λ (as_ : List FeedAppend). IsCounted (record { feed = record f { appends = as_ }; block = None }) (record c {
      end =
          a.upper;
    })) (sym is) counted_end,
  )

  -- a row
  module _ (row : Update) (more : ℕ) (is_more : more ≡ unsigned_abs row.diff) where
    heavier : weight_of (a.rows ++ row ∷ []) ≡ weight_of a.rows + more
    heavier = sum_by_push (λ (u : Update). unsigned_abs u.diff) a.rows row ∙ ap (λ (n : ℕ). weight_of a.rows + n) (sym is_more)

    pub too_heavy : MAX_WEIGHT - c.weight < more → MayAdd f a row → ⊥
    too_heavy over may =
        let light = may.light in
        let weight = had.weight in
        let few = had.light in
        omega (arith, light, weight, few, over, heavier)

    pub added : (rows : List Update) → a.lower ≤ row.time → covers a.upper row.time ≡ true → length a.rows < MAX_ROWS →
        more ≤ MAX_WEIGHT - c.weight → rows ≡ a.rows ++ row ∷ [] →
        let x : Said = record { feed = f; block = Some (record a { rows = rows }) } in
        MayAdd f a row × (x ≡ with_row Here a row) × IsCounted x (record c { weight = c.weight + more })
    added rows from before few under is = (
      record {
        in_range = (from, before);
        few = few;
        light = let weight = had.weight in let light = had.light in omega (arith, weight, light, under, heavier);
      },
      λ i. record { feed = f; block = Some (record a { rows = is i }) },
      record {
        end = had.end;
        weight = let weight = had.weight in omega (arith, weight, heavier, ap weight_of is);
        light = let light = had.light in omega (arith, light, under);
        listens = had.listens;
        few_listens = had.few_listens;
        commands = had.commands;
        few_commands = had.few_commands;
      },
    )

-- a question
module _ (f : IngestFeed) (c : Counts) (q : FeedLine) (more : ℕ) (had : IsCounted (record { feed = f; block = None }) c)
    (is_more : more ≡ listens_in (q ∷ [])) where
  pub too_many : MAX_LISTENS < c.listens + more → MayAsk f q → ⊥
  too_many over may =
      let few = may.few in
      let listens = had.listens in
      omega (arith, few, listens, over, is_more, listens_on f.queries q)

  pub asked : (queries : List FeedLine) → c.listens + more ≤ MAX_LISTENS → c.commands < MAX_COMMANDS → queries ≡ f.queries ++ q ∷ [] →
      let x : Said = record { feed = record f { queries = queries }; block = None } in
      MayAsk f q × (x ≡ with_query (record { feed = f; block = None }) q)
      × IsCounted x (record c { listens = c.listens + more; commands = c.commands + 1 })
  asked queries few room is = (
    record {
      few = let listens = had.listens in omega (arith, few, listens, is_more, listens_on f.queries q);
      room = let commands = had.commands in omega (arith, room, commands);
    },
    λ i. record { feed = record f { queries = is i }; block = None },
    record {
      end = had.end;
      weight = had.weight;
      light = had.light;
      listens = let listens = had.listens in omega (arith, listens, is_more, listens_on f.queries q, ap listens_in is);
      few_listens = few;
      commands = let commands = had.commands in omega (
        arith,
        commands,
        ap (λ (qs : List FeedLine). length qs) is,
        length-append
            f.queries (q ∷ []),
      );
      few_commands = omega (arith, room);
    },
  )
