-- A processor and the platform as a write of a backup register leaves them.
-- Assumes nothing.
use Rattle.model.specs.Backup as backup
use Rattle.model.specs.declared.Platform.{Platform}
use Rattle.model.specs.declared.Processor.{Processor}

abbrev pub copied : Processor → Platform → backup.Copied
copied e f = record { processor = e; platform = f }
