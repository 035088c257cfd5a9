-- What a text means as an address, by its family.
use Rattle.std.proofs.Common.{◌≡◌, true, false, List, ℕ}
use Rattle.sel_text.specs.declared.address.Address.TheVariants.{Four, Six}
use Rattle.sel_text.proofs.Faults.{mapped}
use Rattle.sel_text.specs.inner.Reading.{four_meaning, six_meaning}
use Rattle.sel_text.specs.Address.{has_colon, address_meaning}
use Rattle.sel_text.proofs.Faults.{mapped-bounded, bounded-option_map}

pub meaning_as_six : (text : List ℕ) → has_colon text ≡ true → address_meaning text ≡ mapped Six (six_meaning text)
meaning_as_six text colon = rw (colon, bounded-option_map, mapped-bounded)

pub meaning_as_four : (text : List ℕ) → has_colon text ≡ false → address_meaning text ≡ mapped Four (four_meaning text)
meaning_as_four text none = rw (none, bounded-option_map, mapped-bounded)
