-- What is printed of a client: its name, and what it says.
use Rattle.std.specs.Prelude.{ℕ, suc, zero, Option, Some, None, List, [], ◌∷◌, ◌++◌, codes}
use Rattle.std.specs.Fmt.{decimal}
use Rattle.std.specs.List.{flat_map}
use Rattle.update_core.specs.declared.rows.Row.{Row}
use Rattle.update_core.specs.declared.updates.Update.{Update}
use Rattle.store_core.specs.declared.versions.Version.{Version}
use Rattle.history_core.specs.declared.write_answers.WriteAnswer.{WriteAnswer}
use Rattle.history_core.specs.declared.write_answers.WriteAnswer.TheVariants as writes
use Rattle.history_core.specs.declared.read_answers.ReadAnswer.{ReadAnswer}
use Rattle.history_core.specs.declared.read_answers.ReadAnswer.TheVariants as reads
use Rattle.history_core.specs.declared.merge_answers.MergeAnswer.{MergeAnswer}
use Rattle.history_core.specs.declared.merge_answers.MergeAnswer.TheVariants as merges
use Rattle.history_core.specs.declared.collect_answers.CollectAnswer.{CollectAnswer}
use Rattle.history_core.specs.declared.collect_answers.CollectAnswer.TheVariants as collects
use Rattle.history_core.specs.declared.expire_answers.ExpireAnswer.{ExpireAnswer}
use Rattle.history_core.specs.declared.expire_answers.ExpireAnswer.TheVariants as expires
use Rattle.load_core.specs.declared.begin_faults.BeginFault.{BeginFault}
use Rattle.load_core.specs.declared.begin_faults.BeginFault.TheVariants as begins
use Rattle.feed_text.specs.Grammar.{frontier_text}
use Rattle.feed_text.specs.Replies.{row_text, update_text}
use Rattle.step_run.specs.declared.sayings.Saying.{Saying}
use Rattle.step_run.specs.declared.sayings.Saying.TheVariants as says

-- ---- lines

-- a word and a number
abbrev pub number_line : List ℕ → List ℕ → ℕ → List ℕ
number_line name word n = name ++ (word ++ (decimal n ++ 10 ∷ []))

-- a word and a frontier
abbrev pub frontier_line : List ℕ → List ℕ → Option ℕ → List ℕ
frontier_line name word f = name ++ (word ++ (frontier_text f ++ 10 ∷ []))

-- the name before a row
abbrev pub named_row : List ℕ → Row → List ℕ
named_row name r = name ++ 32 ∷ row_text r

-- the name before an update
abbrev pub named_update : List ℕ → Update → List ℕ
named_update name u = name ++ 32 ∷ update_text u

-- a number behind a space
abbrev pub spaced : ℕ → List ℕ
spaced n = 32 ∷ decimal n

-- the lines of what is said, each behind the client's name
abbrev pub saying_text : List ℕ → Saying → List ℕ
saying_text name says.Full = name ++ codes " full\n"
saying_text name says.Gone = name ++ codes " gone\n"
saying_text name says.Open = name ++ codes " open\n"
saying_text name says.Empty = name ++ codes " empty\n"
saying_text name (says.Range row) = number_line name (codes " range ") row
saying_text name says.NoListen = name ++ codes " no listen\n"
saying_text name says.TokensSpent = name ++ codes " tokens spent\n"
saying_text name says.Fault = name ++ codes " fault\n"
saying_text name says.Accepted = name ++ codes " ok\n"
saying_text name (says.Mismatch upper) = frontier_line name (codes " mismatch ") upper
saying_text name (says.Heavy weight) = number_line name (codes " heavy ") weight
saying_text name (says.Rows rows) = flat_map (named_row name) rows ++ (name ++ codes " .\n")
saying_text name (says.Early since) = number_line name (codes " early ") since
saying_text name (says.Late upper) = frontier_line name (codes " late ") upper
saying_text name (says.Step updates upper) = flat_map (named_update name) updates ++ frontier_line name (codes " upto ") upper
saying_text name says.Ended = name ++ codes " ended\n"
saying_text name (says.Quiet upper) = frontier_line name (codes " quiet ") upper
saying_text name (says.Back since) = number_line name (codes " back ") since
saying_text name (says.Merged version) = number_line name (codes " merged ") version
saying_text name (says.Nothing version) = number_line name (codes " nothing ") version
saying_text name (says.Superseded version) = number_line name (codes " superseded ") version
saying_text name (says.Expired version) = number_line name (codes " expired ") version
saying_text name (says.Collected floor deleted) = name ++ (codes " collected " ++ (decimal floor ++ 32 ∷ (decimal deleted ++ 10 ∷ [])))
saying_text name (says.Removed members) = name ++ (codes " removed" ++ (flat_map spaced members ++ 10 ∷ []))
saying_text name (says.NoneDue version) = number_line name (codes " none ") version

-- what is said, if anything is
abbrev pub said_text : List ℕ → Option Saying → List ℕ
said_text name None = []
said_text name (Some saying) = saying_text name saying

-- so many lines that a call failed
abbrev pub fault_lines : List ℕ → ℕ → List ℕ
fault_lines name zero = []
fault_lines name (suc n) = fault_lines name n ++ saying_text name says.Fault

-- the line of a Head: the last number, where there is a version
abbrev pub head_text : Option Version → List ℕ
head_text None = codes "head none\n"
head_text (Some v) = codes "head " ++ (decimal v.number ++ 10 ∷ [])

-- ---- what the answers say

abbrev pub write_says : WriteAnswer → Option Saying
write_says (writes.Opened member version) = None
write_says (writes.MembersFull version) = Some says.Full
write_says writes.Ok = Some says.Accepted
write_says (writes.Mismatch current) = Some (says.Mismatch current)
write_says (writes.Heavy weight) = Some (says.Heavy weight)
write_says (writes.Closed version) = Some says.Accepted

abbrev pub read_says : ReadAnswer → Option Saying
read_says (reads.Opened member version since) = None
read_says (reads.MembersFull version) = Some says.Full
read_says (reads.Rows rows) = Some (says.Rows rows)
read_says (reads.Early since) = Some (says.Early since)
read_says (reads.Late upper) = Some (says.Late upper)
read_says (reads.Step from to rows) = Some (says.Step rows to)
read_says (reads.Quiet upper) = Some (says.Quiet upper)
read_says reads.Ended = Some says.Ended
read_says (reads.Advanced version) = Some says.Accepted
read_says (reads.Back since) = Some (says.Back since)
read_says (reads.Renewed version) = Some says.Accepted
read_says (reads.Closed version) = Some says.Accepted
read_says (reads.Expired version) = Some (says.Expired version)

abbrev pub merge_says : MergeAnswer → Option Saying
merge_says (merges.Opened member version) = None
merge_says (merges.MembersFull version) = Some says.Full
merge_says (merges.Merged version) = Some (says.Merged version)
merge_says (merges.NothingDue version) = Some (says.Nothing version)
merge_says (merges.Superseded version) = Some (says.Superseded version)
merge_says (merges.Renewed version) = Some says.Accepted
merge_says (merges.Closed version) = Some says.Accepted
merge_says (merges.Expired version) = Some (says.Expired version)

abbrev pub collect_says : CollectAnswer → Option Saying
collect_says (collects.Collected floor deleted) = Some (says.Collected floor deleted)

abbrev pub expire_says : ExpireAnswer → Option Saying
expire_says (expires.Removed members) = Some (says.Removed members)
expire_says (expires.NoneDue version) = Some (says.NoneDue version)

-- what is said where a command isn't begun; that there are too many rows, and that they are too heavy, is ruled out by the grammar
abbrev pub refusal_says : BeginFault → Option Saying
refusal_says begins.Gone = Some says.Gone
refusal_says begins.Open = Some says.Open
refusal_says begins.NoListen = Some says.NoListen
refusal_says begins.TokensSpent = Some says.TokensSpent
refusal_says begins.EmptyRange = Some says.Empty
refusal_says (begins.OutOfRange index) = Some (says.Range index)
refusal_says _ = None
