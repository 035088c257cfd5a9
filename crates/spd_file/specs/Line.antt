-- The line of a TOML table: the keys in their order and then the line's own rules, or the first fault.
use Rattle.std.specs.Prelude.{ℕ, Bool, true, ◌&&◌, not, List, [], ◌∷◌, Option, Some, None, Result, Ok, Err, if◌then◌else◌}
use Rattle.std.specs.List.{list_any}
use Rattle.std.specs.Str.{bytes_eq}
use Rattle.toml.specs.Data.{Data, table, Members, no_members, member, get_member}
use Rattle.toml.specs.Parse.{parse_value}
use Rattle.sel_text.specs.declared.item.AddressItem.{AddressItem}
use Rattle.sel_text.specs.declared.port.PortItem.{PortItem}
use Rattle.sel_text.specs.Address.{address_meaning}
use Rattle.sel_text.specs.Item.{item_meaning}
use Rattle.sel_text.specs.Port.{port_meaning}
use Rattle.spd_line.specs.declared.action.Action.{Action}
use Rattle.spd_line.specs.declared.action.Mode.{Mode}
use Rattle.spd_line.specs.declared.fault.LineFault.{LineFault}
use Rattle.spd_line.specs.declared.line.LineParts.{LineParts}
use Rattle.spd_line.specs.declared.line.Pfp.{Pfp}
use Rattle.spd_line.specs.declared.line.ProtocolItem.{ProtocolItem}
use Rattle.spd_line.specs.declared.line.Way.{Way}
use Rattle.spd_line.specs.Fault.{line_fault}
use Rattle.spd_file.specs.declared.fault.PolicyFault.{PolicyFault}
use Rattle.spd_file.specs.declared.key.LineKey.{LineKey}
use Rattle.spd_file.specs.declared.why.Why.{Why}
use Rattle.spd_file.specs.declared.word.ActionWord.{ActionWord}
use Rattle.spd_file.specs.declared.word.ModeWord.{ModeWord}
use Rattle.spd_file.specs.Flags.{flags_of, no_flags}
use Rattle.spd_file.specs.Key.{line_key_text}
use Rattle.spd_file.specs.Parsed.{parsed}
use Rattle.spd_file.specs.Steps.{◌>>=◌, ◌>>◌}
use Rattle.spd_file.specs.Values.{forbidden, text_by_grammar, optional, required, texts_of, of_text}
use Rattle.spd_file.specs.Words.{action_word_of, ipsec_of, mode_word_of, line_name_of, protocol_item, way_of}

-- Every key passes the test.
abbrev pub only_keys : (List ℕ → Bool) → Members → Bool
only_keys test no_members = true
only_keys test (member key value others) = test key && only_keys test others

-- The keys of a line, in their order.
abbrev pub line_keys : List LineKey
line_keys =
    LineKey.Name ∷ LineKey.Action ∷ LineKey.Direction ∷ LineKey.Local ∷ LineKey.Remote ∷ LineKey.Protocol
    ∷ LineKey.LocalPort ∷ LineKey.RemotePort ∷ LineKey.Pfp ∷ LineKey.Ipsec ∷ LineKey.Mode
    ∷ LineKey.GateLocal ∷ LineKey.GateRemote ∷ []

abbrev pub is_line_key : List ℕ → Bool
is_line_key text = list_any (λ known. bytes_eq text (line_key_text known)) line_keys

-- The value at a key, where the key stands.
abbrev pub key_value : LineKey → Members → Option Data
key_value key members = get_member (line_key_text key) members

-- What is wrong with a key of a line, as a fault of the policy.
abbrev pub at_key : {A : Type 0} → ℕ → LineKey → Result A Why → Result A PolicyFault
at_key index key (Ok value) = Ok value
at_key index key (Err why) = Err (PolicyFault.Line index key why)

-- A line, by its number and the members of its table.
module _ (index : ℕ) (members : Members) where
  -- What a key means.
  abbrev pub key : {A : Type 0} → LineKey → (Option Data → Result A Why) → Result A PolicyFault
  key name meaning = at_key index name (meaning (key_value name members))

  -- A line that protects nothing: it has no flags, and none of the keys of protection.
  unfoldable pub unprotected : Action → Result (Pfp × Action) PolicyFault
  unprotected action = do
    key LineKey.Pfp forbidden
    key LineKey.Ipsec forbidden
    key LineKey.Mode forbidden
    key LineKey.GateLocal forbidden
    key LineKey.GateRemote forbidden
    Ok (no_flags, action)

  -- The mode of a word: a tunnel has both gates, and transport has none.
  unfoldable pub mode_of : ModeWord → Result Mode PolicyFault
  mode_of ModeWord.Transport = do
    key LineKey.GateLocal forbidden
    key LineKey.GateRemote forbidden
    Ok Mode.Transport
  mode_of ModeWord.Tunnel = do
    local ← key LineKey.GateLocal (required (text_by_grammar address_meaning))
    remote ← key LineKey.GateRemote (required (text_by_grammar address_meaning))
    Ok (Mode.Tunnel local remote)

  -- A line that protects (RFC 4301 section 4.4.1.2).
  unfoldable pub protected : Result (Pfp × Action) PolicyFault
  protected = do
    flags ← key LineKey.Pfp (optional no_flags flags_of)
    ipsec ← key LineKey.Ipsec (required (of_text ipsec_of))
    word ← key LineKey.Mode (required (of_text mode_word_of))
    mode ← mode_of word
    Ok (flags, Action.Protect ipsec mode)

  -- The flags and the action of a line whose action has this word.
  abbrev pub treatment_of : ActionWord → Result (Pfp × Action) PolicyFault
  treatment_of ActionWord.Discard = unprotected Action.Discard
  treatment_of ActionWord.Bypass = unprotected Action.Bypass
  treatment_of ActionWord.Protect = protected

  -- The parts of the line: a selector that has no key is ANY.
  unfoldable pub parts_of : Result LineParts PolicyFault
  parts_of =
      if not (only_keys is_line_key members) then Err (PolicyFault.Line index LineKey.Unknown Why.NotHere) else do
        name ← key LineKey.Name (required (of_text line_name_of))
        word ← key LineKey.Action (required (of_text action_word_of))
        way ← key LineKey.Direction (optional Way.Both (of_text way_of))
        local ← key LineKey.Local (optional (AddressItem.Any ∷ []) (texts_of item_meaning))
        remote ← key LineKey.Remote (optional (AddressItem.Any ∷ []) (texts_of item_meaning))
        protocol ← key LineKey.Protocol (optional ProtocolItem.Any protocol_item)
        local_port ← key LineKey.LocalPort (optional (PortItem.Any ∷ []) (texts_of port_meaning))
        remote_port ← key LineKey.RemotePort (optional (PortItem.Any ∷ []) (texts_of port_meaning))
        (pfp, action) ← treatment_of word
        Ok record {
          name = name;
          action = action;
          way = way;
          local = local;
          remote = remote;
          protocol = protocol;
          local_port = local_port;
          remote_port = remote_port;
          pfp = pfp;
        }

-- The parts, where they break no rule of a line.
abbrev pub or_rule_fault : ℕ → LineParts → Option LineFault → Result LineParts PolicyFault
or_rule_fault index parts None = Ok parts
or_rule_fault index parts (Some fault) = Err (PolicyFault.Rule index fault)

unfoldable pub checked_by_rules : ℕ → LineParts → Result LineParts PolicyFault
checked_by_rules index parts = or_rule_fault index parts (line_fault parts)

-- The line that a value is.
abbrev pub line_of_value : ℕ → Data → Result LineParts PolicyFault
line_of_value index (table members) = parts_of index members >>= checked_by_rules index
line_of_value index _ = Err (PolicyFault.Line index LineKey.Whole Why.WrongKind)

-- The line that a text is by itself, as line 1.
abbrev pub table_meaning : List ℕ → Result LineParts PolicyFault
table_meaning text = parsed parse_value text >>= line_of_value 1
