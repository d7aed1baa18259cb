-- How far the lines of a text have been taken.
use Rattle.std.proofs.Common.{◌≡◌, inl, inr, ℕ, ◌+◌, ◌≤◌, true, false, Option, Some, None, List, [], ◌∷◌, ◌++◌, length, append_assoc, append-nil, length-append, refl, sym, ap, subst, ◌∙◌, arith}
use Rattle.std.specs.Prelude.{⊤, is_some}
use Rattle.std.specs.List.{AllByRecursion}
use Rattle.std.proofs.lemmas.List.{take_all}
use Rattle.update_core.specs.declared.appends.FeedAppend.{FeedAppend}
use Rattle.update_core.specs.Frontiers.{covers}
use Rattle.update_core.specs.Updates.{weight_of}
use Rattle.appends_core.specs.Feeds.{IsFeed, IsWithin, end_of_feed, weight_of_all}
use Rattle.appends_core.proofs.FeedSteps.{feed_on, no_feed}
use Rattle.appends_core.proofs.Ranges.{within_all}
use Rattle.feed_text.specs.declared.limits.TheConstants.{MAX_BYTES, MAX_COMMANDS, MAX_ROWS}
use Rattle.feed_text.specs.Grammar.{lines_read}
use Rattle.feed_text.specs.Lines.{lines_of}
use Rattle.ingest_text.specs.declared.feeds.IngestFeed.{IngestFeed}
use Rattle.ingest_text.specs.declared.feeds.Said.{Said}
use Rattle.ingest_text.specs.declared.limits.TheConstants.{MAX_LISTENS, MAX_WEIGHT}
use Rattle.ingest_text.specs.Feeds.{Free, IsFewEnough, IsQuery, Leads, RowLine, Spells, StopsAt, Takes, TakesIn, commands_in, listens_in, nothing, with_append, with_since}
use Rattle.ingest_text.specs.Reading.{open_count}

leads_on : (s : Said) (taken : List (List ℕ)) (mid : Said) (line : List ℕ) (t : Said) → Leads s taken mid → Takes mid line t →
    Leads s (taken ++ line ∷ []) t
leads_on s [] mid line t is takes = (t, subst (λ (x : Said). Takes x line t) is takes, refl)
leads_on s (l ∷ ls) mid line t (next, first, more) takes = (next, first, leads_on next ls mid line t more takes)

-- of all lines those that are left are to come, and the others have led here
pub record Reads (all left : List (List ℕ)) (s : Said) (n : ℕ) : Type 0 where
  pub taken : List (List ℕ)
  pub parts : all ≡ taken ++ left
  pub leads : Leads nothing taken s
  pub counted : n ≡ length taken

pub reads_start : (all : List (List ℕ)) (s : Said) (n : ℕ) → s ≡ nothing → n ≡ 0 → Reads all all s n
reads_start all s n is zero_is = record { taken = []; parts = refl; leads = is; counted = zero_is }

pub reads_on : (all left : List (List ℕ)) (line : List ℕ) (s t : Said) (n : ℕ) → Reads all (line ∷ left) s n → Takes s line t →
    Reads all left t (n + 1)
reads_on all left line s t n r takes = record {
  taken = r.taken ++ line ∷ [];
  parts = r.parts ∙ sym (append_assoc r.taken (line ∷ []) left);
  leads = leads_on nothing r.taken s line t r.leads takes;
  counted = ap (λ (m : ℕ). m + 1) r.counted ∙ sym (length-append r.taken (line ∷ []));
}

pub reads_stop : (all left : List (List ℕ)) (line : List ℕ) (s : Said) (n : ℕ) → Reads all (line ∷ left) s n →
    ((t : Said) → Takes s line t → ⊥) → StopsAt all (n + 1)
reads_stop all left line s n r stuck = record {
  taken = r.taken;
  line = line;
  rest = left;
  parts = r.parts;
  counted = ap (λ (m : ℕ). m + 1) r.counted;
  before = s;
  leads = r.leads;
  stuck = stuck;
}

pub reads_end : (all : List (List ℕ)) (s : Said) (n : ℕ) → Reads all [] s n → Leads nothing all s
reads_end all s n r = subst (λ (ls : List (List ℕ)). Leads nothing ls s) (sym (r.parts ∙ append-nil r.taken)) r.leads

pub none_of : (o : Option FeedAppend) → is_some o ≡ false → o ≡ None
none_of None h = refl
none_of (Some b) h = cc

-- lines that end well spell the feed
pub spelled : (s : Said) (text : List ℕ) → Leads nothing (lines_read text) s → length text ≤ MAX_BYTES → s.block ≡ None → Spells s.feed text
spelled s text leads few closed = record {
  end = s;
  leads = subst (λ (t : List ℕ). Leads nothing (lines_of t) s) (take_all (MAX_BYTES + 1) text (omega (arith, few))) leads;
  is = refl;
  closed = closed;
  few = few;
}

-- ---- limits

-- the open block goes on from a feed, and its rows are in its range, few and not too heavy
pub record IsOpenFit (f : IngestFeed) (a : FeedAppend) : Type 0 where
  pub begins : end_of_feed f.appends ≡ Some a.lower
  pub later : covers a.upper a.lower ≡ true
  pub in_range : AllByRecursion (IsWithin a.lower a.upper) a.rows
  pub few : length a.rows ≤ MAX_ROWS
  pub light : weight_of_all f.appends + weight_of a.rows ≤ MAX_WEIGHT

abbrev pub IsOpen : IngestFeed → Option FeedAppend → Type 0
IsOpen f None = ⊤
IsOpen f (Some a) = IsOpenFit f a

pub record Holds (s : Said) : Type 0 where
  pub feed : IsFeed s.feed.appends
  pub block : IsOpen s.feed s.block
  pub commands : commands_in s.feed + open_count s.block ≤ MAX_COMMANDS
  pub queries : AllByRecursion IsQuery s.feed.queries
  pub listens : listens_in s.feed.queries ≤ MAX_LISTENS

pub nothing_holds : Holds nothing
nothing_holds = record { feed = no_feed; block = tt; commands = omega arith; queries = tt; listens = omega arith }

one_more : {X : Type 0} (P : X → Type 0) (xs : List X) (x : X) → AllByRecursion P xs → P x → AllByRecursion P (xs ++ x ∷ [])
one_more P [] x h p = (p, tt)
one_more P (y ∷ ys) x h p = (h.0, one_more P ys x h.1 p)

weight_nothing : weight_of [] ≡ 0
weight_nothing = refl

abbrev Closed : IngestFeed → Said
Closed f = record { feed = f; block = None }

after_free : (f : IngestFeed) (line : List ℕ) (t : Said) → Holds (Closed f) → Free (Closed f) line t → Holds t
after_free f line t h (inl x) = subst Holds (sym (x.after ∙ ap (λ (y : Said). with_since y x.to) x.first))
    (record { feed = no_feed; block = tt; commands = omega arith; queries = tt; listens = omega arith })
after_free f line t h (inr (inl x)) = subst Holds (sym x.after) (record {
  feed = h.feed;
  block = record {
    begins = x.may.begins;
    later = x.may.later;
    in_range = tt;
    few = omega arith;
    light = let light = h.feed.light in omega (arith, light, weight_nothing);
  };
  commands = let room = x.may.room in omega (arith, room);
  queries = h.queries;
  listens = h.listens;
})
after_free f line t h (inr (inr x)) = subst Holds (sym x.after) (record {
  feed = h.feed;
  block = tt;
  commands = let room = x.may.room in omega (arith, room, length-append f.queries (x.query ∷ []));
  queries = one_more IsQuery f.queries x.query h.queries x.within;
  listens = x.may.few;
})

after_dot : (f : IngestFeed) (a : FeedAppend) → Holds (record { feed = f; block = Some a }) →
    Holds (with_append (record { feed = f; block = Some a }) a)
after_dot f a h = record {
  feed = feed_on f.appends a h.feed (record {
    begins = h.block.begins;
    later = h.block.later;
    fit = record {
      in_range = within_all a.lower a.upper a.rows h.block.in_range;
      few = let few = h.block.few in omega (arith, few);
    };
    light = let light = h.block.light in omega (arith, light);
  });
  block = tt;
  commands = let had = h.commands in omega (arith, had, length-append f.appends (a ∷ []));
  queries = h.queries;
  listens = h.listens;
}

after_row : (f : IngestFeed) (a : FeedAppend) (line : List ℕ) (t : Said) → Holds (record { feed = f; block = Some a }) →
    RowLine (record { feed = f; block = Some a }) a line t → Holds t
after_row f a line t h x = subst Holds (sym x.after) (record {
  feed = h.feed;
  block = record {
    begins = h.block.begins;
    later = h.block.later;
    in_range = one_more (IsWithin a.lower a.upper) a.rows x.row h.block.in_range x.may.in_range;
    few = let few = x.may.few in omega (arith, few, length-append a.rows (x.row ∷ []));
    light = x.may.light;
  };
  commands = h.commands;
  queries = h.queries;
  listens = h.listens;
})

-- a line keeps the limits, by the block that is open
after_in : (f : IngestFeed) (block : Option FeedAppend) (line : List ℕ) (t : Said) → Holds (record { feed = f; block = block }) →
    TakesIn block (record { feed = f; block = block }) line t → Holds t
after_in f None line t h x = after_free f line t h x
after_in f (Some a) line t h (inl x) = subst Holds (sym x.1) (after_dot f a h)
after_in f (Some a) line t h (inr x) = after_row f a line t h x

leads_hold : (s : Said) (lines : List (List ℕ)) (t : Said) → Holds s → Leads s lines t → Holds t
leads_hold s [] t h is = subst Holds (sym is) h
leads_hold s (line ∷ more) t h (next, first, rest) = leads_hold next more t (after_in s.feed s.block line next h first) rest

pub holds : (lines : List (List ℕ)) (t : Said) → Leads nothing lines t → Holds t
holds lines t leads = leads_hold nothing lines t nothing_holds leads

pub few_enough : (s : Said) → Holds s → IsFewEnough s.feed
few_enough s h = record { commands = let had = h.commands in omega (arith, had); queries = h.queries; listens = h.listens }
