use Rattle.std.proofs.Common.{◌∙◌}
use Rattle.store_file.proofs.file_stores.FileStore.open.Goals as goal

pub returns-in-Ok-clause-whole : goal.returns-in-Ok-clause-whole
returns-in-Ok-clause-whole g c s h is stands = c.starting.ensures.start ∙ c.in-Ok.ensures.whole s h is stands
