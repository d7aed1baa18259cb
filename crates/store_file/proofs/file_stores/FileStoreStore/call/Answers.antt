use Rattle.std.proofs.Common.{◌≡◌, sym, subst}
use Rattle.store_core.specs.declared.replies.Reply.{Reply}
use Rattle.store_core.specs.declared.outcomes.Outcome.TheVariants.{Took}
use Rattle.store_core.specs.Stores.{Stored, reply_of, after_call}
use Rattle.store_core.specs.Histories.{IsReplyTo}
use Rattle.store_core.proofs.HistoryLaws.{shaped}
use Rattle.store_file.specs.Replays.{Keeps}
use Rattle.store_file.specs.FileStores.{store_now, disk_of}
use Rattle.store_file.proofs.Keeping.{stays_safely}
use Rattle.store_file.proofs.Results.{on_ok, if_ok_so}
use Rattle.store_file.proofs.file_stores.FileStoreStore.call.Goals as goal

pub returns-clause-shape : goal.returns-clause-shape
returns-clause-shape g c =
    let s = store_now c.args.self.now in
    if_ok_so (λ (reply : Reply). reply ≡ reply_of s c.args.call.now) (IsReplyTo c.args.call.now) c.look.result
    (λ reply is. subst (λ (r : Reply). IsReplyTo c.args.call.now r) (sym is) (shaped s c.args.call.now Took)) c.look.ensures.reply

pub returns-clause-any_moment : goal.returns-clause-any_moment
returns-clause-any_moment g c open_ =
    let s = c.args.self.now in
    let t = store_now s in
    on_ok c.look.result (stays_safely t (after_call t c.args.call.now) s.journal.end (disk_of s) (disk_of c.look.new.self)
    (λ h is. subst (λ (u : Stored). Keeps u s.journal.end h) (s.replayed open_) (s.kept h is open_)) c.look.ensures.disk)
