-- The three views of a decorrelated policy (RFC 4301 section 4.4.1).
use Rattle.std.specs.Prelude.{ℕ, Bool, true, false, not, List, ◌++◌, codes, filter, map}
use Rattle.sel_box.specs.declared.packet.Direction.{Direction}
use Rattle.sel_box.specs.declared.packet.Direction.TheVariants.{Outbound, Inbound}
use Rattle.spd_cut.specs.declared.entry.Entry.{Entry}
use Rattle.spd_line.specs.declared.judgement.Judgement.{Judgement}
use Rattle.spd_views.specs.declared.listing.Listing.{Listing}
use Rattle.spd_views.specs.declared.listing.View.{View}

-- An entry with its direction.
pub record ListedEntry : Type 0 where
  pub direction : Direction
  pub entry : Entry

-- The entry that is lent, with its direction.
abbrev pub listed : Listing → ListedEntry
listed l = record { direction = l.direction; entry = l.entry.now }

-- The name of a view.
abbrev pub view_text : View → List ℕ
view_text View.SpdS = codes "SPD-S"
view_text View.SpdO = codes "SPD-O"
view_text View.SpdI = codes "SPD-I"

-- A judgement under which packets are protected.
abbrev pub is_protect : Judgement → Bool
is_protect Judgement.Discard = false
is_protect Judgement.Bypass = false
is_protect (Judgement.Protect ipsec carriage) = true

-- A view has the entries of a direction with this judgement: SPD-S those that protect, SPD-O the outbound
-- ones that don't, SPD-I the inbound ones.
abbrev pub view_has : View → Direction → Judgement → Bool
view_has View.SpdS direction judgement = is_protect judgement
view_has View.SpdO Outbound judgement = not (is_protect judgement)
view_has View.SpdO Inbound judgement = false
view_has View.SpdI Outbound judgement = false
view_has View.SpdI Inbound judgement = not (is_protect judgement)

-- The entries of a direction that a view has, in their order.
abbrev pub listed_in : View → Direction → List Entry → List ListedEntry
listed_in view direction entries =
    map (λ entry. record { direction = direction; entry = entry }) (filter (λ entry. view_has view direction entry.judgement) entries)

-- A view: the outbound entries that it has, and then the inbound ones.
abbrev pub listing : View → List Entry → List Entry → List ListedEntry
listing view outbound inbound = listed_in view Outbound outbound ++ listed_in view Inbound inbound
