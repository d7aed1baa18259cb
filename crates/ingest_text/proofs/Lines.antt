-- What takes a line outside a block.
use Rattle.std.proofs.Common.{◌≡◌, ◌⊎◌, inl, inr, ℕ, ◌^◌, ◌<◌, Option, Some, None, Result, Ok, Err, List, [], ◌∷◌, codes, sym, ap, subst, ◌∙◌}
use Rattle.std.specs.Prelude.{IfOk}
use Rattle.update_core.specs.declared.appends.FeedAppend.{FeedAppend}
use Rattle.feed_text.specs.declared.feed_lines.FeedLine.{FeedLine}
use Rattle.feed_text.specs.declared.feed_lines.FeedLine.TheVariants as commands
use Rattle.feed_text.specs.Grammar.{IsAppend, append_line, command_lines, since_line}
use Rattle.feed_text.proofs.LineWords.{NoHead}
use Rattle.feed_text.proofs.Rows.{append_no_listen, append_no_since, append_no_snapshot, append_one, listen_no_since, listen_no_snapshot, listen_one, since_no_snapshot, snapshot_one}
use Rattle.ingest_text.specs.declared.counts.SoFar.{SoFar}
use Rattle.ingest_text.specs.declared.feeds.Said.{Said}
use Rattle.ingest_text.specs.Feeds.{Free, IsQuery, MayAsk, MayOpen, QueryLine, SinceLine, nothing, with_block, with_query, with_since}
use Rattle.ingest_text.specs.Reading.{Answers, Does}
use Rattle.ingest_text.proofs.Texts.{NoTime}

only : {x y : List ℕ} → x ∷ [] ≡ y ∷ [] → y ≡ x
only e = cc

-- ---- no line is of two kinds

pub query_no_append : (q : FeedLine) (line : List ℕ) (l : ℕ) (u : Option ℕ) → IsQuery q → command_lines q ≡ line ∷ [] →
    line ≡ append_line l u → ⊥
query_no_append (commands.Append a) line l u h e is = h
query_no_append (commands.Snapshot t) line l u h e is = append_no_snapshot l u t (sym is ∙ only e)
query_no_append (commands.Listen t) line l u h e is = append_no_listen l u t (sym is ∙ only e)
query_no_append (commands.Since t) line l u h e is = h
query_no_append commands.Compact line l u h e is = h

pub query_no_since : (q : FeedLine) (line : List ℕ) (to : ℕ) → IsQuery q → command_lines q ≡ line ∷ [] → line ≡ since_line to → ⊥
query_no_since (commands.Append a) line to h e is = h
query_no_since (commands.Snapshot t) line to h e is = since_no_snapshot to t (sym is ∙ only e)
query_no_since (commands.Listen t) line to h e is = listen_no_since t to (sym (only e) ∙ is)
query_no_since (commands.Since t) line to h e is = h
query_no_since commands.Compact line to h e is = h

pub query_one : (q r : FeedLine) (line : List ℕ) → IsQuery q → IsQuery r → command_lines q ≡ line ∷ [] → command_lines r ≡ line ∷ [] → q ≡ r
query_one (commands.Append a) r line h k e f = absurd h
query_one (commands.Since t) r line h k e f = absurd h
query_one commands.Compact r line h k e f = absurd h
query_one q (commands.Append a) line h k e f = absurd k
query_one q (commands.Since t) line h k e f = absurd k
query_one q commands.Compact line h k e f = absurd k
query_one (commands.Snapshot s) (commands.Snapshot t) line h k e f = ap commands.Snapshot (snapshot_one s t h k (sym (only e) ∙ only f))
query_one (commands.Snapshot s) (commands.Listen t) line h k e f = absurd (listen_no_snapshot t s (sym (only f) ∙ only e))
query_one (commands.Listen s) (commands.Snapshot t) line h k e f = absurd (listen_no_snapshot s t (sym (only e) ∙ only f))
query_one (commands.Listen s) (commands.Listen t) line h k e f = ap commands.Listen (listen_one s t h k (sym (only e) ∙ only f))

-- ---- what is answered of each kind

-- the same is answered of what comes to the same
same_answers : {E : Type 0} (P Q : Said → Type 0) → ((t : Said) → P t → Q t) → ((t : Said) → Q t → P t) → (r : Result (Option SoFar) E) →
    IfOk r (Answers P) → IfOk r (Answers Q)
same_answers P Q there back (Err e) h = tt
same_answers P Q there back (Ok None) h = λ t q. h t (back t q)
same_answers P Q there back (Ok (Some x)) h = (there x.said h.0, h.1)

module _ (s : Said) (line : List ℕ) where
  abbrev Short : Said → Type 0
  Short t = SinceLine s line t ⊎ QueryLine s line t

  pub since_found : (to : ℕ) → to < 2 ^ 64 → line ≡ since_line to → (o : Option SoFar) → Does (s ≡ nothing) (with_since s to) o →
      Answers Short o
  since_found to small is None h = go
    where
      go : (t : Said) → Short t → ⊥
      go t (inl x) = h x.first
      go t (inr x) = query_no_since x.query line to x.within x.text is
  since_found to small is (Some x) h =
      (inl (record { to = to; small = small; text = is; first = h.0; after = h.1 }), h.2)

  pub no_since : {E : Type 0} → NoTime (codes "since") line → (r : Result (Option SoFar) E) → IfOk r (Answers (λ t. QueryLine s line t)) →
      IfOk r (Answers Short)
  no_since none r h = same_answers (λ t. QueryLine s line t) Short (λ t x. inr x) back r h
    where
      back : (t : Said) → Short t → QueryLine s line t
      back t (inl x) = absurd (none x.to x.small x.text)
      back t (inr x) = x

  pub query_found : {E : Type 0} (q : FeedLine) → IsQuery q → command_lines q ≡ line ∷ [] → (r : Result (Option SoFar) E) →
      IfOk r (Does (MayAsk s.feed q) (with_query s q)) → IfOk r (Answers (λ t. QueryLine s line t))
  query_found q within is (Err e) h = tt
  query_found q within is (Ok None) h = λ t x. h (subst (λ (p : FeedLine). MayAsk s.feed p) (query_one x.query q line x.within
      within x.text is) x.may)
  query_found q within is (Ok (Some x)) h = (record { query = q; within = within; text = is; may = h.0; after = h.1 }, h.2)

  pub no_query : ((q : FeedLine) → IsQuery q → command_lines q ≡ line ∷ [] → ⊥) → (t : Said) → QueryLine s line t → ⊥
  no_query none t x = none x.query x.within x.text

  pub head_found : (a : FeedAppend) → IsAppend a → a.rows ≡ [] → line ≡ append_line a.lower a.upper → (o : Option SoFar) →
      Does (MayOpen s.feed a.lower a.upper) (with_block s a) o → Answers (λ t. Free s line t) o
  head_found a within empty is None h = go
    where
      go : (t : Said) → Free s line t → ⊥
      go t (inl x) = append_no_since a.lower a.upper x.to (sym is ∙ x.text)
      go t (inr (inl x)) =
          let same = append_one x.lower a.lower x.upper a.upper x.small within.lower x.bound within.upper (sym x.text ∙ is) in
          h (subst (λ (u : Option ℕ). MayOpen s.feed a.lower u) same.1 (subst (λ (l : ℕ). MayOpen s.feed l x.upper) same.0 x.may))
      go t (inr (inr x)) = query_no_append x.query line a.lower a.upper x.within x.text is
  head_found a within empty is (Some x) h = (
    inr (inl (record {
      lower = a.lower;
      upper = a.upper;
      small = within.lower;
      bound = within.upper;
      text = is;
      may = h.0;
      after = h.1 ∙ (λ i. with_block s (record { lower = a.lower; upper = a.upper; rows = empty i }));
    })),
    h.2,
  )

  pub no_head : {E : Type 0} → NoHead line → (r : Result (Option SoFar) E) → IfOk r (Answers Short) → IfOk r (Answers (λ t. Free s line t))
  no_head none r h = same_answers Short (λ t. Free s line t) there back r h
    where
      there : (t : Said) → Short t → Free s line t
      there t (inl x) = inl x
      there t (inr x) = inr (inr x)

      back : (t : Said) → Free s line t → Short t
      back t (inl x) = inl x
      back t (inr (inl x)) = absurd (none x.lower x.upper x.small x.bound x.text)
      back t (inr (inr x)) = inr x
