-- Why a disk isn't opened, and what tells so.
use Rattle.std.specs.Prelude.{◌≡◌}
use Rattle.journal_core.specs.declared.load_faults.LoadFault.{LoadFault}
use Rattle.journal_core.specs.declared.load_faults.LoadFault.TheVariants as loads
use Rattle.store_file.specs.declared.open_faults.OpenFault.{OpenFault}
use Rattle.store_file.specs.declared.open_faults.OpenFault.TheVariants as faults

-- the fault that a fault of loading is
abbrev pub IsSameFault : LoadFault → OpenFault → Type 0
IsSameFault loads.Broken e = e ≡ faults.DiskFault
IsSameFault loads.Memory e = e ≡ faults.Memory
