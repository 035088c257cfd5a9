-- Proposals: two lines of hexadecimal digits, each a traffic selector payload (RFC 7296 sections 2.9 and 3.13).
use Rattle.std.specs.Prelude.{ℕ, Bool, true, false, List, [], ◌∷◌, map, Result, Ok, Err}
use Rattle.hex.specs.Hex.{decode_of}
use Rattle.hex.specs.declared.error.FromHexError.{FromHexError}
use Rattle.sel_text.specs.Lines.{before_feed, lines_of}
use Rattle.ts_payload.specs.declared.fault.TsFault.{TsFault}
use Rattle.ts_payload.specs.declared.selector.Ts.{Ts}
use Rattle.ts_payload.specs.Reading.{payload_of}
use Rattle.ts_wire.specs.declared.fault.ProposalFault.{ProposalFault}
use Rattle.ts_wire.specs.declared.fault.ProposalFault.TheVariants.{Lines, Hex, Payload}
use Rattle.ts_wire.specs.declared.proposal.Proposal.{Proposal}

-- The lines of a text, each without its LF.
abbrev pub texts_of : List ℕ → List (List ℕ)
texts_of text = map before_feed (lines_of text)

-- What the payload of the line with this number gives, by what its bytes give.
abbrev pub of_line : ℕ → Result (List Ts) TsFault → Result (List Ts) ProposalFault
of_line line (Ok selectors) = Ok selectors
of_line line (Err fault) = Err (Payload line fault)

-- The same by what its digits give.
abbrev pub of_digits : ℕ → Result (List ℕ) FromHexError → Result (List Ts) ProposalFault
of_digits line (Ok bytes) = of_line line (payload_of bytes)
of_digits line (Err fault) = Err (Hex line)

-- What the line with this number gives: digits, an even number of them, and of their bytes a payload.
abbrev pub line_payload : ℕ → List ℕ → Result (List Ts) ProposalFault
line_payload line text = of_digits line (decode_of text)

-- The two payloads, or the first fault.
abbrev pub both_payloads : Result (List Ts) ProposalFault → Result (List Ts) ProposalFault → Result Proposal ProposalFault
both_payloads (Ok tsi) (Ok tsr) = Ok (record { tsi = tsi; tsr = tsr })
both_payloads (Ok tsi) (Err fault) = Err fault
both_payloads (Err fault) second = Err fault

-- What these lines give: there are two, the first of TSi and the second of TSr.
abbrev pub lines_give : List (List ℕ) → Result Proposal ProposalFault
lines_give (tsi ∷ tsr ∷ []) = both_payloads (line_payload 1 tsi) (line_payload 2 tsr)
lines_give _ = Err Lines

-- What a proposal file gives.
unfoldable pub proposal_of : List ℕ → Result Proposal ProposalFault
proposal_of bytes = lines_give (texts_of bytes)

-- A fault of a payload isn't want of memory.
abbrev pub names_a_fault : ProposalFault → Bool
names_a_fault (Payload line TsFault.NoMemory) = false
names_a_fault _ = true
