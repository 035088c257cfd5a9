-- Which of the peer's entries are passed over.
use Rattle.std.specs.Prelude.{◌≡◌, ℕ, ◌<◌, ◌≤◌, Bool, true, not, ◌||◌, List, map, length, Option, Some, None, is_some, slice_get, IsTrue}
use Rattle.sel_box.specs.declared.any_box.AnyBox.{AnyBox}
use Rattle.sel_box.specs.LeastPacket.{is_packet_in, packet_at_most}
use Rattle.sel_box.specs.Packet.{PacketFields}
use Rattle.sel_box.specs.Swap.{box_swapped}
use Rattle.spd_cut.specs.declared.entry.Entry.{Entry}
use Rattle.spd_line.specs.Agree.{same_judgement}
use Rattle.pair_gap.specs.declared.gap.Gap.{Gap}
use Rattle.pair_gap.specs.LeastGap.{common_region}

-- The regions of the entries, with their sides exchanged.
abbrev pub mirrored : List Entry → List AnyBox
mirrored entries = map (λ (entry : Entry). box_swapped entry.region) entries

-- Two entries are judged alike, or have no point in common.
abbrev pub cannot_differ : Entry → Entry → Bool
cannot_differ ours theirs = same_judgement ours.judgement theirs.judgement || not (is_some (common_region ours theirs))

-- So it is of each entry from an index on, up to another.
abbrev pub ArePassed : Entry → List Entry → ℕ → ℕ → Type 0
ArePassed ours inbound from past =
    (j : ℕ) (theirs : Entry) → from ≤ j → j < past → slice_get inbound j ≡ Some theirs → cannot_differ ours theirs ≡ true

-- The entries from an index on, up to another, are judged as the first of them is.
pub record IsRun (entries : List Entry) (from past : ℕ) : Type 0 where
  pub behind : from < past
  pub alike : (j : ℕ) (first entry : Entry) → from ≤ j → j < past →
      slice_get entries from ≡ Some first → slice_get entries j ≡ Some entry → entry.judgement ≡ first.judgement

-- For each entry an index up to which it is so.
pub record AreRuns (entries : List Entry) (ends : List ℕ) : Type 0 where
  pub all : length ends ≡ length entries
  pub each : (k past : ℕ) → slice_get ends k ≡ Some past → IsRun entries k past

-- What is kept of the peer's entries.
pub record IsKeptOf (entries : List Entry) (regions : List AnyBox) (ends : List ℕ) : Type 0 where
  pub regions_are : regions ≡ mirrored entries
  pub runs : AreRuns entries ends

-- There is a gap whose packet is at most this one.
abbrev pub IsNoLesser : Option Gap → PacketFields → Type 0
IsNoLesser None p = ⊥
IsNoLesser (Some gap) p = packet_at_most gap.packet p ≡ true

-- So it is of each packet that the entry has.
abbrev pub HasNoLesser : Option Gap → Entry → Type 0
HasNoLesser best ours = (p : PacketFields) → is_packet_in ours.region p ≡ true → IsNoLesser best p
