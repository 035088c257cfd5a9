-- How long the parts of a fault's text are at most.
use Rattle.std.proofs.Common.{◌≤◌, length, arith}
use Rattle.spd_line.specs.declared.fault.LineFault.{LineFault}
use Rattle.spd_line.specs.Fault.{line_fault_text}
use Rattle.spd_file.specs.declared.key.LineKey.{LineKey}
use Rattle.spd_file.specs.declared.key.TopKey.{TopKey}
use Rattle.spd_file.specs.declared.why.Why.{Why}
use Rattle.spd_file.specs.Key.{line_key_text, top_key_text}
use Rattle.spd_file.specs.Why.{why_text}

pub short_top : (key : TopKey) → length (top_key_text key) ≤ 11
short_top TopKey.Format = omega arith
short_top TopKey.Line = omega arith
short_top TopKey.Unknown = omega arith

pub short_line : (key : LineKey) → length (line_key_text key) ≤ 11
short_line LineKey.Whole = omega arith
short_line LineKey.Unknown = omega arith
short_line LineKey.Name = omega arith
short_line LineKey.Action = omega arith
short_line LineKey.Direction = omega arith
short_line LineKey.Local = omega arith
short_line LineKey.Remote = omega arith
short_line LineKey.Protocol = omega arith
short_line LineKey.LocalPort = omega arith
short_line LineKey.RemotePort = omega arith
short_line LineKey.Pfp = omega arith
short_line LineKey.Ipsec = omega arith
short_line LineKey.Mode = omega arith
short_line LineKey.GateLocal = omega arith
short_line LineKey.GateRemote = omega arith

pub short_why : (why : Why) → length (why_text why) ≤ 14
short_why Why.NotHere = omega arith
short_why Why.Missing = omega arith
short_why Why.WrongKind = omega arith
short_why Why.Empty = omega arith
short_why Why.NotInGrammar = omega arith
short_why Why.OutOfRange = omega arith
short_why Why.Reserved = omega arith

pub short_fault : (fault : LineFault) → length (line_fault_text fault) ≤ 16
short_fault LineFault.ProtectOneWay = omega arith
short_fault LineFault.GateFamily = omega arith
short_fault LineFault.NoFamily = omega arith
short_fault LineFault.PortNoProtocol = omega arith
short_fault LineFault.PfpNoField = omega arith
short_fault LineFault.PfpOpaque = omega arith
short_fault LineFault.TooWide = omega arith

pub ruleset short_texts = (short_top, short_line, short_why, short_fault)
