-- The appends that are left of a feed, and one more append at its end.
use Rattle.std.proofs.Common.{◌≡◌, ◌↔◌, ℕ, ◌+◌, ◌-◌, ◌≤◌, ◌^◌, true, Option, Some, List, [], ◌∷◌, ◌++◌, refl, sym, ap, subst}
use Rattle.std.proofs.Common.{◌∙◌, arith, append_assoc, append-nil}
use Rattle.std.specs.List.{AllByRecursion}
use Rattle.update_core.specs.declared.updates.Update.{Update}
use Rattle.update_core.specs.declared.appends.FeedAppend.{FeedAppend}
use Rattle.update_core.specs.Frontiers.{covers}
use Rattle.update_core.specs.Updates.{cons, weight_of}
use Rattle.appends_core.specs.Feeds.{FollowOn, IsFeed, IsFit, MayFollow, end_from, end_of_feed, rows_of, weight_of_all}

-- these follow on from this frontier, each is fit, and together they weigh no more than this
pub record AreLeft (upper : Option ℕ) (left : ℕ) (appends : List FeedAppend) : Type 0 where
  pub follow : FollowOn upper appends
  pub fit : AllByRecursion IsFit appends
  pub light : weight_of_all appends ≤ left

-- ---- one more append

pub rows_on : (xs : List FeedAppend) (a : FeedAppend) → rows_of (xs ++ a ∷ []) ≡ rows_of xs ++ cons a.rows
rows_on [] a = append-nil (cons a.rows)
rows_on (x ∷ xs) a = ap (λ (us : List Update). cons x.rows ++ us) (rows_on xs a)
    ∙ sym (append_assoc (cons x.rows) (rows_of xs) (cons a.rows))

pub weight_on : (xs : List FeedAppend) (a : FeedAppend) → weight_of_all (xs ++ a ∷ []) ≡ weight_of_all xs + weight_of a.rows
weight_on [] a = omega arith
weight_on (x ∷ xs) a = let h : weight_of_all (xs ++ a ∷ []) ≡ weight_of_all xs + weight_of a.rows = weight_on xs a in omega arith

pub end_on : (u : Option ℕ) (xs : List FeedAppend) (a : FeedAppend) → end_from u (xs ++ a ∷ []) ≡ a.upper
end_on u [] a = refl
end_on u (x ∷ xs) a = end_on x.upper xs a

pub follow_on : (u : Option ℕ) (xs : List FeedAppend) (a : FeedAppend) → FollowOn u xs → end_from u xs ≡ Some a.lower →
    covers a.upper a.lower ≡ true → FollowOn u (xs ++ a ∷ [])
follow_on u [] a f at c = (at, c, tt)
follow_on u (x ∷ xs) a f at c = (f.0, f.1, follow_on x.upper xs a f.2 at c)

-- those before the last follow on, and it begins where they end
pub follow_before : (u : Option ℕ) (xs : List FeedAppend) (a : FeedAppend) → FollowOn u (xs ++ a ∷ []) →
    FollowOn u xs × (end_from u xs ≡ Some a.lower) × (covers a.upper a.lower ≡ true)
follow_before u [] a f = (tt, f.0, f.1)
follow_before u (x ∷ xs) a f = let k = follow_before x.upper xs a f.2 in ((f.0, f.1, k.0), k.1, k.2)

fit_on : (xs : List FeedAppend) (a : FeedAppend) → AllByRecursion IsFit xs → IsFit a → AllByRecursion IsFit (xs ++ a ∷ [])
fit_on [] a all fit = (fit, tt)
fit_on (x ∷ xs) a all fit = (all.0, fit_on xs a all.1 fit)

fit_before : (xs : List FeedAppend) (a : FeedAppend) → AllByRecursion IsFit (xs ++ a ∷ []) → AllByRecursion IsFit xs × IsFit a
fit_before [] a all = (tt, all.0)
fit_before (x ∷ xs) a all = let k = fit_before xs a all.1 in ((all.0, k.0), k.1)

-- what one more append of a feed keeps to
pub record GoesOn (appends : List FeedAppend) (a : FeedAppend) : Type 0 where
  pub begins : end_of_feed appends ≡ Some a.lower
  pub later : covers a.upper a.lower ≡ true
  pub fit : IsFit a
  pub light : weight_of_all appends + weight_of a.rows ≤ 2 ^ 62

pub feed_on : (xs : List FeedAppend) (a : FeedAppend) → IsFeed xs → GoesOn xs a → IsFeed (xs ++ a ∷ [])
feed_on xs a feed g = record {
  follow = follow_on (Some 0) xs a feed.follow g.begins g.later;
  fit = fit_on xs a feed.fit g.fit;
  light = subst (λ (w : ℕ). w ≤ 2 ^ 62) (sym (weight_on xs a)) g.light;
}

pub feed_before : (xs : List FeedAppend) (a : FeedAppend) → IsFeed (xs ++ a ∷ []) → IsFeed xs × GoesOn xs a
feed_before xs a feed =
    let f = follow_before (Some 0) xs a feed.follow in
    let k = fit_before xs a feed.fit in
    let w : weight_of_all xs + weight_of a.rows ≤ 2 ^ 62 = subst (λ (w : ℕ). w ≤ 2 ^ 62) (weight_on xs a) feed.light in (
      record { follow = f.0; fit = k.0; light = lighter (weight_of_all xs) (weight_of a.rows) w },
      record { begins = f.1; later = f.2; fit = k.1; light = w },
    )
  where
    lighter : (a b : ℕ) → a + b ≤ 2 ^ 62 → a ≤ 2 ^ 62
    lighter a b h = omega arith

pub no_feed : IsFeed []
no_feed = record { follow = tt; fit = tt; light = omega arith }

-- ---- what is left of a feed

pub all_left : (xs : List FeedAppend) → IsFeed xs ↔ AreLeft (Some 0) (2 ^ 62) xs
all_left xs = (
  λ feed. record { follow = feed.follow; fit = feed.fit; light = feed.light },
  λ left. record { follow = left.follow; fit = left.fit; light = left.light },
)

pub none_left : (upper : Option ℕ) (left : ℕ) → AreLeft upper left []
none_left upper left = record { follow = tt; fit = tt; light = omega arith }

pub first_may : (upper : Option ℕ) (left : ℕ) (a : FeedAppend) (xs : List FeedAppend) → AreLeft upper left (a ∷ xs) → MayFollow upper left a
first_may upper left a xs k =
    let light : weight_of a.rows + weight_of_all xs ≤ left = k.light in
    record { begins = k.follow.0; later = k.follow.1; fit = k.fit.0; light = omega arith }

pub rest_left : (upper : Option ℕ) (left : ℕ) (a : FeedAppend) (xs : List FeedAppend) → MayFollow upper left a →
    AreLeft upper left (a ∷ xs) ↔ AreLeft a.upper (left - weight_of a.rows) xs
rest_left upper left a xs m = (
  λ k. let light : weight_of a.rows + weight_of_all xs ≤ left = k.light in
      record { follow = k.follow.2; fit = k.fit.1; light = omega arith },
  λ k. let light : weight_of_all xs ≤ left - weight_of a.rows = k.light in let one = m.light in
      record { follow = (m.begins, m.later, k.follow); fit = (m.fit, k.fit); light = omega arith },
)
