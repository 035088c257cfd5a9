-- What is printed of the fault of a payload.
use Rattle.std.specs.Prelude.{ℕ, List, ◌++◌, codes, decimal}
use Rattle.ts_payload.specs.declared.fault.TsFault.{TsFault}
use Rattle.ts_payload.specs.declared.fault.TsFault.TheVariants.{Short, LengthMismatch, TooMany, CountMismatch, SelectorLength, AddressOrder, PortOrder}
use Rattle.ts_payload.specs.declared.fault.TsFault.TheVariants.{PortNoProtocol, NoMemory}

-- What is wrong with the selector with this index.
abbrev pub selector_text : ℕ → List ℕ → List ℕ
selector_text index what = codes "selector " ++ (decimal index ++ (codes ": " ++ what))

-- What is printed of a fault.
abbrev pub ts_fault_text : TsFault → List ℕ
ts_fault_text Short = codes "short"
ts_fault_text LengthMismatch = codes "length mismatch"
ts_fault_text TooMany = codes "too many"
ts_fault_text CountMismatch = codes "count mismatch"
ts_fault_text (SelectorLength index) = selector_text index (codes "length")
ts_fault_text (AddressOrder index) = selector_text index (codes "address order")
ts_fault_text (PortOrder index) = selector_text index (codes "port order")
ts_fault_text (PortNoProtocol index) = selector_text index (codes "port no protocol")
ts_fault_text NoMemory = codes "out of memory"
