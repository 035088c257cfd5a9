-- The keys of a policy file.
use Rattle.std.specs.Prelude.{ℕ, List, codes}
use Rattle.spd_file.specs.declared.key.LineKey.{LineKey}
use Rattle.spd_file.specs.declared.key.TopKey.{TopKey}

-- A key of the whole policy, as it stands in the file.
abbrev pub top_key_text : TopKey → List ℕ
top_key_text TopKey.Format = codes "format"
top_key_text TopKey.Line = codes "line"
top_key_text TopKey.Unknown = codes "unknown key"

-- A key of a line, as it stands in the file.
abbrev pub line_key_text : LineKey → List ℕ
line_key_text LineKey.Whole = codes "table"
line_key_text LineKey.Unknown = codes "unknown key"
line_key_text LineKey.Name = codes "name"
line_key_text LineKey.Action = codes "action"
line_key_text LineKey.Direction = codes "direction"
line_key_text LineKey.Local = codes "local"
line_key_text LineKey.Remote = codes "remote"
line_key_text LineKey.Protocol = codes "protocol"
line_key_text LineKey.LocalPort = codes "local_port"
line_key_text LineKey.RemotePort = codes "remote_port"
line_key_text LineKey.Pfp = codes "pfp"
line_key_text LineKey.Ipsec = codes "ipsec"
line_key_text LineKey.Mode = codes "mode"
line_key_text LineKey.GateLocal = codes "gate_local"
line_key_text LineKey.GateRemote = codes "gate_remote"
