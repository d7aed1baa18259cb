-- The texts of lines of one word and a time.
use Rattle.std.proofs.Common.{◌≡◌, ◌≢◌, ℕ, ◌^◌, ◌<◌, Option, Some, None, List, [], ◌∷◌, ◌++◌, codes, sym, ◌∙◌}
use Rattle.std.specs.Prelude.{IfNone, IfSome, MatchOption}
use Rattle.std.specs.Fmt.{decimal}
use Rattle.feed_text.proofs.Cuts.{Lacks, no_cut}
use Rattle.feed_text.proofs.Words.{cut_once}
use Rattle.feed_text.specs.declared.feed_lines.FeedLine.{FeedLine}
use Rattle.feed_text.specs.declared.feed_lines.FeedLine.TheVariants as commands
use Rattle.feed_text.specs.Grammar.{command_lines}
use Rattle.ingest_text.specs.Feeds.{IsQuery}

-- a line without this word and a time
abbrev pub NoTime : List ℕ → List ℕ → Type 0
NoTime word line = (t : ℕ) → t < 2 ^ 64 → line ≡ word ++ 32 ∷ decimal t → ⊥

pub time_uncut : (word line : List ℕ) → Lacks 32 line → NoTime word line
time_uncut word line lacks t small is = no_cut 32 line word (decimal t) lacks is

module _ (word line first rest : List ℕ) (own : Lacks 32 word) (cut : line ≡ first ++ 32 ∷ rest) (lacks : Lacks 32 first) where
  pub other_word : first ≢ word → NoTime word line
  other_word apart t small is = apart (cut_once first word rest (decimal t) lacks own (sym cut ∙ is)).0

  -- what is told of the time behind the word
  pub time_found : first ≡ word → (r : Option ℕ) → IfSome r (λ t. (t < 2 ^ 64) × (rest ≡ decimal t)) →
      IfNone r ((t : ℕ) → t < 2 ^ 64 → rest ≡ decimal t → ⊥) →
      MatchOption r (NoTime word line) (λ t. (t < 2 ^ 64) × (line ≡ word ++ 32 ∷ decimal t))
  time_found same None told bad = λ t small is. bad t small (cut_once first word rest (decimal t) lacks own (sym cut ∙ is)).1
  time_found same (Some t) told bad = (told.0, cut ∙ (λ i. same i ++ 32 ∷ told.1 i))

only : {x y : List ℕ} → x ∷ [] ≡ y ∷ [] → y ≡ x
only e = cc

-- no question is asked
pub no_question : (line : List ℕ) → NoTime (codes "snapshot") line → NoTime (codes "listen") line → (q : FeedLine) → IsQuery q →
    command_lines q ≡ line ∷ [] → ⊥
no_question line snapshot listen (commands.Append a) h e = h
no_question line snapshot listen (commands.Snapshot t) h e = snapshot t h (only e)
no_question line snapshot listen (commands.Listen t) h e = listen t h (only e)
no_question line snapshot listen (commands.Since t) h e = h
no_question line snapshot listen commands.Compact h e = h
