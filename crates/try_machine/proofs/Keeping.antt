-- What holds of a machine whose commands each try one transition, by its rule. Entries go newest first.
use Rattle.std.proofs.Common.{◌≡◌, Some, ◌∷◌, ◌++◌, sym, ap, subst, ◌∙◌, arith}
use Rattle.std.specs.Prelude.{IsSome}
use Rattle.store_core.specs.declared.calls.Call.{Call}
use Rattle.load_core.specs.Trying as trying
use Rattle.load_core.proofs.Outcomes.{scan_call}
use Rattle.machine_core.specs.Machines.{Ending, IsReading, Keeps}
use Rattle.try_machine.specs.declared.tryers.Tryer.{Tryer}
use Rattle.try_machine.specs.Rules.{IsRule, Rules}
use Rattle.try_machine.specs.Tryers.{Follows, kept, words}
use Rattle.try_machine.proofs.Effects.{allowed, effect}
use Rattle.try_machine.proofs.Places.{called_follows, moved_cost, moved_follows, moved_legal}
use Rattle.try_machine.proofs.Preparing.{open_looked, others_follow, prepared_calls, prepared_costs, prepared_follows, prepared_kept}
use Rattle.try_machine.proofs.Preparing.{spared_follows}
use Rattle.try_machine.proofs.Ways.{counted, done_ended, fault_failed, more_answered, moved_kept, moved_open, moved_shard, never_busy}

module _ (R A : Type 0) (Q : Rules R A) (L : IsRule Q) where
  -- ---- want of memory

  wants_reads : (m : Tryer R) (call : Call) → trying.IsScanning m.trying.next → Some (trying.call_of m.trying) ≡ Some call → IsReading call
  wants_reads m call idle is = let same : trying.call_of m.trying ≡ call = cc in
      subst IsReading same (subst IsReading (sym (scan_call m.trying idle)) tt)

  -- ---- together

  pub keeps : Keeps (words Q)
  keeps = record {
    prepared_kept = prepared_kept Q L;
    prepared_calls = prepared_calls Q L;
    prepared_open = λ old new p is. subst (λ (m : Tryer R). IsSome m.asked) (sym p.2) (open_looked Q L old.asked old.trying.loader.cached
        is);
    prepared_follows = prepared_follows Q L;
    prepared_cost = λ base client old new start es list. prepared_costs Q L base client old new start es;
    others_follow = others_follow Q L;
    spared_follows = λ client m start e others es closed spares. spared_follows Q L client m start e others es;
    moved_kept = λ m new r poll ready. moved_kept Q L m new r poll;
    moved_open = λ m new r poll ready is moves on. moved_open Q L m new r poll moves on;
    moved_shard = moved_shard Q;
    ended = done_ended Q;
    never_busy = λ m new r ready. never_busy Q L m new r;
    fault_failed = λ m new r ready. fault_failed Q L m new r;
    more_answered = λ m new r ready. more_answered Q L m new r;
    counted = counted Q;
    effect = λ m new call r poll ready is call_is moves. effect Q L m new call r poll ready call_is moves;
    allowed = allowed Q L;
    follows = λ client m new call poll list start e others es a c moves. moved_follows Q L client m new call list start e others es a c
        poll moves;
    legal = λ client m new call poll list start e others es a c moves. moved_legal Q L client m new call list start e others es a c poll
        moves;
    cost = λ base client old ready new call poll list start e others es least p a c moves at. moved_cost Q L client ready new call list
        start e others es a c base old poll least moves at;
    wanted_kept = λ m new h. ap (kept Q) h.1;
    wanted_counted = λ m new h. ap (λ (z : Tryer R). z.trying.calls) h.1;
    wanted_open = λ m new h is. subst (λ (z : Tryer R). IsSome z.asked) (sym h.1) is;
    wanted_reads = λ m new call ready h is. (
      wants_reads m call h.0 is,
      ap (λ (z : Tryer R). Some (trying.call_of z.trying)) h.1 ∙
          ap (λ (q : Call). Some q) (sym (scan_call m.trying h.0)) ∙ is,
    );
    wanted_follows = λ client m new call list start e others es a c h. subst (λ (z : Tryer R). Follows Q client z start
        (e ∷ (others ++ es))) (sym h.1) (called_follows Q L client m new call list start e others es a c m.asked a.follows.asked);
  }

  pub ending : Ending (words Q)
  ending = record {
    more_begins = λ k call r did. did.did;
    spent_shown = λ k call r did. did.did.1;
    few = λ client m start es list is sound follows low at failed_none foreign. omega (arith, at low, failed_none, foreign);
  }
