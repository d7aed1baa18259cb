-- Nothing stands against the inner command of an operator's step.
use Rattle.std.proofs.Common.{◌≡◌, ◌≢◌, ℕ, ◌≤◌, Bool, true, false, cond, not, Option, Some, None, List, [], length, refl, sym, ap, subst}
use Rattle.std.proofs.Common.{◌∙◌, arith}
use Rattle.std.proofs.lemmas.Bool.Decides.{nat_tests}
use Rattle.std.specs.Prelude.{⊤, IsSome, is_some, nat_lt, position, ◌==◌}
use Rattle.update_core.specs.declared.updates.Update.{Update}
use Rattle.update_core.specs.Frontiers.{after, covers}
use Rattle.update_core.specs.Updates.{slice_of}
use Rattle.update_core.specs.Limits.{most}
use Rattle.history_core.specs.declared.asked.Asked.{Asked}
use Rattle.load_core.specs.declared.begin_faults.BeginFault.{BeginFault}
use Rattle.load_core.specs.declared.begin_faults.BeginFault.TheVariants as faults
use Rattle.read_client.specs.Beginning as reads
use Rattle.write_client.specs.declared.writers.Writer.{Writer}
use Rattle.write_client.specs.Beginning as writes
use Rattle.write_client.specs.Beginning.{append_fault, close_fault, or_fault, range_fault, row_fault}
use Rattle.write_client.specs.Drafting.{is_outside}
use Rattle.remap_core.specs.declared.source_rows.SourceRow.{SourceRow}
use Rattle.remap_core.specs.Reclocking.{reclocked}
use Rattle.reclock_client.specs.declared.errands.Errand.{Errand}
use Rattle.reclock_client.specs.declared.errands.Errand.TheVariants as errands
use Rattle.reclock_client.specs.declared.operators.Operator.{Operator}
use Rattle.reclock_client.specs.declared.steps.Step.{Step}
use Rattle.reclock_client.specs.declared.steps.Step.TheVariants as steps
use Rattle.reclock_client.specs.Minting.{rises}
use Rattle.reclock_client.specs.Starting.{MayAppend}
use Rattle.reclock_client.specs.Turns.{Clients, Heard, AtStep, IsFew, Takes, clients, heard}
use Rattle.reclock_client.proofs.MintFits.{mint_fits}
use Rattle.reclock_client.proofs.Turning.{serves_at}
use Rattle.reclock_client.proofs.SliceFits.{published_few, published_inside}

-- ---- an append

not_most : (a : ℕ) → (a == most) ≡ false → a ≢ most
not_most a h = λ e. grind (arith, nat_tests)

unspent : (a : ℕ) → a ≢ most → (a == most) ≡ false
unspent a h = grind (arith, nat_tests)

fewer : (n : ℕ) → n ≤ 65536 → nat_lt 65536 n ≡ false
fewer n h = grind (arith, nat_tests)

module _ (w : Writer) (rows : List Update) (from : ℕ) (to : Option ℕ) (free : close_fault w ≡ None) where
  may_append : (w.token ≢ most → range_fault w rows from to ≡ None) → MayAppend (append_fault w rows from to)
  may_append fits = subst (λ (f : Option BeginFault). MayAppend (or_fault f (range_fault w rows from to))) (sym free) (by
      (w.token == most) refl)
    where
      by : (b : Bool) → (w.token == most) ≡ b → MayAppend (range_fault w rows from to)
      by true e = subst (λ (b : Bool). MayAppend (cond b (Some faults.TokensSpent) (cond (not (covers to from)) (Some faults.EmptyRange)
          (cond (nat_lt 65536 (length rows)) (Some (faults.TooMany (length rows))) (row_fault (position (is_outside from to) rows))))))
          (sym e) tt
      by false e = subst MayAppend (sym (fits (not_most w.token e))) tt

  slice_may : covers to from ≡ true → length rows ≤ 65536 → position (is_outside from to) rows ≡ None →
      MayAppend (append_fault w rows from to)
  slice_may forward few inside = may_append (λ token.
      (λ i. cond (unspent w.token token i) (Some faults.TokensSpent) (cond (ap not forward i) (Some faults.EmptyRange)
      (cond (fewer (length rows) few i) (Some (faults.TooMany (length rows))) (row_fault (inside i))))))

-- ---- who has a member

pub none_asked : (a : Option Asked) → is_some a ≡ false → a ≡ None
none_asked None e = refl
none_asked (Some asked) e = absurd (let bad : true ≡ false = e in cc)

free_of : (asked : Option Asked) (member : Option ℕ) → asked ≡ None → IsSome member → writes.member_fault asked member ≡ None
free_of asked None idle some = absurd (let bad : false ≡ true = some in cc)
free_of asked (Some member) idle some = ap (λ (a : Option Asked). writes.member_fault a (Some member)) idle

read_free_of : (asked : Option Asked) (member : Option ℕ) → asked ≡ None → IsSome member → reads.member_fault asked member ≡ None
read_free_of asked None idle some = absurd (let bad : false ≡ true = some in cc)
read_free_of asked (Some member) idle some = ap (λ (a : Option Asked). reads.member_fault a (Some member)) idle

-- at these steps the remap shard's writer has one
abbrev pub OfRemap : Step → Type 0
OfRemap (steps.AppendRemap from) = ⊤
OfRemap steps.LeaveRemap = ⊤
OfRemap other = ⊥

-- the data shard's
abbrev pub OfData : Step → Type 0
OfData (steps.AppendData from) = ⊤
OfData steps.LeaveData = ⊤
OfData other = ⊥

-- the reader
abbrev pub OfReader : Step → Type 0
OfReader steps.Snapshot = ⊤
OfReader steps.Listen = ⊤
OfReader steps.Next = ⊤
OfReader steps.LeaveReader = ⊤
OfReader other = ⊥

pub has_remap : (k : Clients) (h : Heard) (errand : Errand) (step : Step) → OfRemap step → Takes k h errand step → IsSome k.remap_member
has_remap k h (errands.Mint t seen) (steps.AppendRemap from) here t_ = t_.0.0
has_remap k h (errands.Mint t seen) steps.LeaveRemap here t_ = t_.0
has_remap k h errands.Close steps.LeaveRemap here t_ = t_.0
has_remap k h errands.Open (steps.AppendRemap from) here t_ = absurd t_
has_remap k h errands.Open steps.LeaveRemap here t_ = absurd t_
has_remap k h errands.Sync (steps.AppendRemap from) here t_ = absurd t_
has_remap k h errands.Sync steps.LeaveRemap here t_ = absurd t_
has_remap k h (errands.Publish rows) (steps.AppendRemap from) here t_ = absurd t_
has_remap k h (errands.Publish rows) steps.LeaveRemap here t_ = absurd t_
has_remap k h errands.Close (steps.AppendRemap from) here t_ = absurd t_
has_remap k h errand other here t_ = absurd here

pub has_data : (k : Clients) (h : Heard) (errand : Errand) (step : Step) → OfData step → Takes k h errand step → IsSome k.data_member
has_data k h (errands.Publish rows) (steps.AppendData from) here t_ = t_.0.2
has_data k h (errands.Publish rows) steps.LeaveData here t_ = t_.2
has_data k h errands.Close steps.LeaveData here t_ = t_
has_data k h errands.Open (steps.AppendData from) here t_ = absurd t_
has_data k h errands.Open steps.LeaveData here t_ = absurd t_
has_data k h errands.Sync (steps.AppendData from) here t_ = absurd t_
has_data k h errands.Sync steps.LeaveData here t_ = absurd t_
has_data k h (errands.Mint t seen) (steps.AppendData from) here t_ = absurd t_
has_data k h (errands.Mint t seen) steps.LeaveData here t_ = absurd t_
has_data k h errands.Close (steps.AppendData from) here t_ = absurd t_
has_data k h errand other here t_ = absurd here

pub has_reader : (k : Clients) (h : Heard) (errand : Errand) (step : Step) → OfReader step → Takes k h errand step → IsSome k.reader_member
has_reader k h errands.Sync steps.Snapshot here t_ = t_.0.1
has_reader k h errands.Sync steps.Listen here t_ = t_.0.1
has_reader k h errands.Sync steps.Next here t_ = t_.0.1
has_reader k h (errands.Mint t seen) steps.Snapshot here t_ = t_.0.1
has_reader k h (errands.Mint t seen) steps.Listen here t_ = t_.0.1
has_reader k h (errands.Mint t seen) steps.Next here t_ = t_.0.1
has_reader k h errands.Close steps.LeaveReader here t_ = t_.0
has_reader k h errands.Open steps.Snapshot here t_ = absurd t_
has_reader k h errands.Open steps.Listen here t_ = absurd t_
has_reader k h errands.Open steps.Next here t_ = absurd t_
has_reader k h (errands.Publish rows) steps.Snapshot here t_ = absurd t_
has_reader k h (errands.Publish rows) steps.Listen here t_ = absurd t_
has_reader k h (errands.Publish rows) steps.Next here t_ = absurd t_
has_reader k h errands.Close steps.Snapshot here t_ = absurd t_
has_reader k h errands.Close steps.Listen here t_ = absurd t_
has_reader k h errands.Close steps.Next here t_ = absurd t_
has_reader k h errands.Open steps.LeaveReader here t_ = absurd t_
has_reader k h errands.Sync steps.LeaveReader here t_ = absurd t_
has_reader k h (errands.Mint t seen) steps.LeaveReader here t_ = absurd t_
has_reader k h (errands.Publish rows) steps.LeaveReader here t_ = absurd t_
has_reader k h errand other here t_ = absurd here

-- ---- an operator

-- an append to the remap shard is a mint's, from an upper that isn't above its time
pub record IsMint (o : Operator) (from : ℕ) : Type 0 where
  pub time : ℕ
  pub seen : List ℕ
  pub is : o.course.errand ≡ Some (errands.Mint time seen)
  pub before : from ≤ time

-- an append to the data shard is a publish's, from an upper below the synced frontier
pub record IsPublish (o : Operator) (from : ℕ) : Type 0 where
  pub rows : List SourceRow
  pub is : o.course.errand ≡ Some (errands.Publish rows)
  pub forward : covers o.course.synced from ≡ true
  pub few : length rows ≤ 65536

abbrev minted : Option Errand → ℕ
minted (Some (errands.Mint t seen)) = t
minted other = 0

abbrev published : Option Errand → List SourceRow
published (Some (errands.Publish rows)) = rows
published other = []

module _ (o : Operator) (turn : AtStep o) (busy : IsSome o.course.errand) (step : Step) (at : o.course.step ≡ step) where
  pub remap_free : OfRemap step → o.remap_writer.asked ≡ None → close_fault o.remap_writer ≡ None
  remap_free here idle = serves_at o turn busy step at (λ errand e s. free_of o.remap_writer.asked o.remap_writer.member idle
      (has_remap (clients o) (heard o.course) errand step here s.takes))

  pub data_free : OfData step → o.data_writer.asked ≡ None → close_fault o.data_writer ≡ None
  data_free here idle = serves_at o turn busy step at (λ errand e s. free_of o.data_writer.asked o.data_writer.member idle
      (has_data (clients o) (heard o.course) errand step here s.takes))

  pub read_free : OfReader step → o.reader.asked ≡ None → reads.member_fault o.reader.asked o.reader.member ≡ None
  read_free here idle = serves_at o turn busy step at (λ errand e s. read_free_of o.reader.asked o.reader.member idle
      (has_reader (clients o) (heard o.course) errand step here s.takes))

module _ (o : Operator) (turn : AtStep o) (busy : IsSome o.course.errand) where
  -- the next step of a listen, which stands
  pub next_free : o.course.step ≡ steps.Next → o.reader.asked ≡ None → reads.next_fault o.reader ≡ None
  next_free at idle = subst (λ (f : Option BeginFault). reads.listen_fault f o.reader.listen ≡ None)
      (sym (read_free o turn busy steps.Next at tt idle)) (serves_at o turn busy steps.Next at (λ errand e s.
      listens errand s.takes s.listens))
    where
      stands : (l : Option (Option ℕ)) → l ≡ Some o.course.synced → reads.listen_fault None l ≡ None
      stands l is = subst (λ (x : Option (Option ℕ)). reads.listen_fault None x ≡ None) (sym is) refl

      listens : (errand : Errand) → Takes (clients o) (heard o.course) errand steps.Next →
          (o.course.listens ≡ true → o.reader.listen ≡ Some o.course.synced) → reads.listen_fault None o.reader.listen ≡ None
      listens errands.Sync t h = stands o.reader.listen (h t.1)
      listens (errands.Mint at_ seen) t h = stands o.reader.listen (h t.1)
      listens other t h = absurd t

  pub is_mint : (from : ℕ) → o.course.step ≡ steps.AppendRemap from → IsMint o from
  is_mint from at = serves_at o turn busy (steps.AppendRemap from) at (λ errand e s. by errand e s.takes)
    where
      by : (errand : Errand) → o.course.errand ≡ Some errand → Takes (clients o) (heard o.course) errand (steps.AppendRemap from) →
          IsMint o from
      by (errands.Mint t seen) e h = record { time = t; seen = seen; is = e; before = h.1 }
      by other e h = absurd h

  pub is_publish : (from : ℕ) → o.course.step ≡ steps.AppendData from → IsPublish o from
  is_publish from at = serves_at o turn busy (steps.AppendData from) at (λ errand e s. by errand e s.takes s.few)
    where
      by : (errand : Errand) → o.course.errand ≡ Some errand → Takes (clients o) (heard o.course) errand (steps.AppendData from) →
          IsFew errand → IsPublish o from
      by (errands.Publish rows) e h few = record { rows = rows; is = e; forward = h.1; few = few }
      by other e h few = absurd h

  not_above : {from t : ℕ} {seen : List ℕ} → IsMint o from → o.course.errand ≡ Some (errands.Mint t seen) → from ≤ t
  not_above {from} m e = subst (λ (x : ℕ). from ≤ x) (ap minted (sym m.is ∙ e)) m.before

  as_few : {from : ℕ} {rows : List SourceRow} → IsPublish o from → o.course.errand ≡ Some (errands.Publish rows) → length rows ≤ 65536
  as_few p e = subst (λ (x : List SourceRow). length x ≤ 65536) (ap published (sym p.is ∙ e)) p.few

  pub rises_fit : (from t : ℕ) (seen : List ℕ) (rows : List Update) (had : List ℕ) → o.course.errand ≡ Some (errands.Mint t seen) →
      o.course.step ≡ steps.AppendRemap from → o.remap_writer.asked ≡ None → rows ≡ rises t had seen →
      MayAppend (append_fault o.remap_writer rows from (after t))
  rises_fit from t seen rows had e at idle are =
      let before : from ≤ t = not_above (is_mint from at) e in
      subst (λ (us : List Update). MayAppend (append_fault o.remap_writer us from (after t))) (sym are)
      (may_append o.remap_writer (rises t had seen) from (after t) (remap_free o turn busy (steps.AppendRemap from) at tt idle)
      (λ token. mint_fits o.remap_writer t from had seen before token))

  pub slice_fits : (from : ℕ) (rows : List SourceRow) (us : List Update) → o.course.errand ≡ Some (errands.Publish rows) →
      o.course.step ≡ steps.AppendData from → o.data_writer.asked ≡ None →
      us ≡ slice_of (reclocked rows o.course.bindings 0) (Some from) o.course.synced →
      MayAppend (append_fault o.data_writer us from o.course.synced)
  slice_fits from rows us e at idle are = let p = is_publish from at in
      let few : length rows ≤ 65536 = as_few p e in
      subst (λ (x : List Update). MayAppend (append_fault o.data_writer x from o.course.synced)) (sym are)
      (slice_may o.data_writer (slice_of (reclocked rows o.course.bindings 0) (Some from) o.course.synced) from o.course.synced
      (data_free o turn busy (steps.AppendData from) at tt idle) p.forward
      (published_few rows o.course.bindings from o.course.synced few)
      (published_inside (reclocked rows o.course.bindings 0) from o.course.synced))
