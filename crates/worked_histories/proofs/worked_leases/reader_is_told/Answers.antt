use Rattle.worked_histories.proofs.worked_leases.reader_is_told.Goals as goal
use Rattle.worked_histories.proofs.WorkedLeases.{expired_stands, part_missing, is_told, no_rows}
use Rattle.worked_histories.proofs.WorkedLeaseLaws.{told_lawful}

pub returns-clause-lawful : goal.returns-clause-lawful
returns-clause-lawful c = told_lawful

pub returns-clause-stands : goal.returns-clause-stands
returns-clause-stands c = expired_stands

pub returns-clause-missing : goal.returns-clause-missing
returns-clause-missing c = part_missing

pub returns-clause-told : goal.returns-clause-told
returns-clause-told c = is_told

pub returns-clause-no_rows : goal.returns-clause-no_rows
returns-clause-no_rows c h = no_rows h
