-- The lines of the views, and the text that they leave.
use Rattle.std.proofs.Common.{◌≡◌, ℕ, zero, suc, ◌+◌, ◌-◌, ◌<◌, ◌≤◌, List, ◌∷◌, ◌++◌, Option, Some, get_or, length, map, refl, sym, ◌∙◌, ap, arith, subst}
use Rattle.std.proofs.lemmas.List.{length-map}
use Rattle.std.proofs.lemmas.List.Elements.{All-append, All-filter, All-map}
use Rattle.std.proofs.lemmas.Option.{slice_get-map, slice_get_read}
use Rattle.std.proofs.lemmas.Simd.{map-map}
use Rattle.std.proofs.Math.ListN.{get_or-map}
use Rattle.std.specs.Prelude.{All, option_map, slice_get}
use Rattle.pair_io.specs.Gains.{Gains, GainsPrefix}
use Rattle.pair_io.proofs.Gains.{Gains-then, GainsPrefix-first, GainsPrefix-second}
use Rattle.sel_box.specs.declared.packet.Direction.{Direction}
use Rattle.sel_box.specs.declared.packet.Direction.TheVariants.{Outbound, Inbound}
use Rattle.spd_cut.specs.declared.entry.Entry.{Entry}
use Rattle.spd_cut.specs.StandsFor.{AreLinked}
use Rattle.spd_line.specs.declared.line.LineParts.{LineParts}
use Rattle.spd_views.specs.declared.listing.Listing.{Listing}
use Rattle.spd_views.specs.declared.listing.View.{View}
use Rattle.spd_views.specs.Listing.{listed, listed_in, listing, view_has, ListedEntry}
use Rattle.audit_frame.specs.Answer.{text_of}
use Rattle.audit_frame.proofs.Lines.{text_of-append}
use Rattle.cmd_decorrelate.specs.Decorrelate.{entry_line, view_lines, views_lines}

-- The entry is linked to one of so many lines, or to `final` behind them.
abbrev pub IsLinked : ℕ → Entry → Type 0
IsLinked count entry = (1 ≤ entry.link) × (entry.link ≤ count + 1)

AreLinked-listed_in : (count : ℕ) (view : View) (direction : Direction) (entries : List Entry)
    → AreLinked count entries → All (λ (l : ListedEntry). IsLinked count l.entry) (listed_in view direction entries)
AreLinked-listed_in count view direction entries linked =
    All-map (λ (l : ListedEntry). IsLinked count l.entry) _ _
    (All-filter (λ (entry : Entry). view_has view direction entry.judgement) (IsLinked count) entries linked)

-- The entries of a view are linked as those of both directions are.
pub AreLinked-listing : (count : ℕ) (view : View) (outbound inbound : List Entry) (listings : List Listing)
    → AreLinked count outbound → AreLinked count inbound → map listed listings ≡ listing view outbound inbound
    → AreLinked count (map (λ (l : Listing). l.entry.now) listings)
AreLinked-listing count view outbound inbound listings first second same =
    let linked = All-append (λ (l : ListedEntry). IsLinked count l.entry) _ _
    (AreLinked-listed_in count view Outbound outbound first)
    (AreLinked-listed_in count view Inbound inbound second) in
    let entries : map (λ (l : ListedEntry). l.entry) (listing view outbound inbound) ≡ map (λ (l : Listing). l.entry.now) listings =
    ap (map (λ (l : ListedEntry). l.entry)) (sym same) ∙ map-map (λ (l : ListedEntry). l.entry) listed listings in
    subst (AreLinked count) entries (All-map (IsLinked count) (λ (l : ListedEntry). l.entry) _ linked)

-- The line with the name stands first, so a line behind it is that of the listing one place earlier.
within_listings : (lines : List LineParts) (listings : List Listing) (i : ℕ)
    → 0 < i → i < suc (length (map (entry_line lines) (map listed listings))) → i - 1 < length listings
within_listings lines listings i behind within =
    let inside : i < suc (length listings) = rw (length-map, length-map) at within in
    omega arith

-- That listing is linked to a line of the policy.
pub linked_behind : (lines : List LineParts) (listings : List Listing) (i : ℕ) (here : Listing)
    → 0 < i → i < suc (length (map (entry_line lines) (map listed listings))) → here ≡ get_or listings (i - 1) here
    → AreLinked (length lines) (map (λ (l : Listing). l.entry.now) listings) → IsLinked (length lines) here.entry.now
linked_behind lines listings i here behind within is linked =
    let inside : i - 1 < length (map (λ (l : Listing). l.entry.now) listings) = rw length-map (within_listings lines listings i behind within) in
    let same : get_or (map (λ (l : Listing). l.entry.now) listings) (i - 1) here.entry.now ≡ here.entry.now =
    get_or-map (λ (l : Listing). l.entry.now) listings (i - 1) here ∙ ap (λ (l : Listing). l.entry.now) (sym is) in
    subst (IsLinked (length lines)) same (linked (i - 1) here.entry.now inside)

pub line_behind : (lines : List LineParts) (name : List ℕ) (listings : List Listing) (i : ℕ) (here : Listing)
    → 0 < i → i < suc (length (map (entry_line lines) (map listed listings))) → here ≡ get_or listings (i - 1) here
    → slice_get (name ∷ map (entry_line lines) (map listed listings)) i ≡ Some (entry_line lines (listed here))
line_behind lines name listings zero here behind within is = absurd (omega arith)
line_behind lines name listings (suc k) here behind within is =
    let P : ℕ → Type 0 = λ n. here ≡ get_or listings n here in
    let same : suc k - 1 ≡ k = omega arith in
    let inside : k < length listings = subst (λ (n : ℕ). n < length listings) same (within_listings lines listings (suc k) behind within) in
    slice_get-map (entry_line lines) (map listed listings) k
    ∙ ap (option_map (entry_line lines)) (slice_get-map listed listings k
    ∙ ap (option_map listed) (slice_get_read listings (length listings) k here refl inside (subst P same is)))

-- The text of the three views is that of one after another.
views_text : (lines : List LineParts) (outbound inbound : List Entry)
    → text_of (views_lines lines outbound inbound) ≡ text_of (view_lines lines outbound inbound View.SpdS)
    ++ (text_of (view_lines lines outbound inbound View.SpdO) ++ text_of (view_lines lines outbound inbound View.SpdI))
views_text lines outbound inbound =
    text_of-append (view_lines lines outbound inbound View.SpdS) _
    ∙ ap (λ (rest : List ℕ). text_of (view_lines lines outbound inbound View.SpdS)
    ++ rest) (text_of-append (view_lines lines outbound inbound View.SpdO) (view_lines lines outbound inbound View.SpdI))

-- All three were written.
pub Gains-views : (lines : List LineParts) (outbound inbound : List Entry) (before first second now : Option (List ℕ))
    → Gains before first (text_of (view_lines lines outbound inbound View.SpdS))
    → Gains first second (text_of (view_lines lines outbound inbound View.SpdO))
    → Gains second now (text_of (view_lines lines outbound inbound View.SpdI))
    → Gains before now (text_of (views_lines lines outbound inbound))
Gains-views lines outbound inbound before first second now spd_s spd_o spd_i =
    subst (Gains before now) (sym (views_text lines outbound inbound))
    (Gains-then before first now _ _ spd_s (Gains-then first second now _ _ spd_o spd_i))

-- A write of the first was refused, of the second, or of the third.

pub GainsPrefix-spd_s : (lines : List LineParts) (outbound inbound : List Entry) (before now : Option (List ℕ))
    → GainsPrefix before now (text_of (view_lines lines outbound inbound View.SpdS))
    → GainsPrefix before now (text_of (views_lines lines outbound inbound))
GainsPrefix-spd_s lines outbound inbound before now prefix =
    subst (GainsPrefix before now) (sym (views_text lines outbound inbound)) (GainsPrefix-first _ prefix)

pub GainsPrefix-spd_o : (lines : List LineParts) (outbound inbound : List Entry) (before first now : Option (List ℕ))
    → Gains before first (text_of (view_lines lines outbound inbound View.SpdS))
    → GainsPrefix first now (text_of (view_lines lines outbound inbound View.SpdO))
    → GainsPrefix before now (text_of (views_lines lines outbound inbound))
GainsPrefix-spd_o lines outbound inbound before first now spd_s prefix =
    subst (GainsPrefix before now) (sym (views_text lines outbound inbound)) (GainsPrefix-second _ spd_s (GainsPrefix-first _ prefix))

pub GainsPrefix-spd_i : (lines : List LineParts) (outbound inbound : List Entry) (before first second now : Option (List ℕ))
    → Gains before first (text_of (view_lines lines outbound inbound View.SpdS))
    → Gains first second (text_of (view_lines lines outbound inbound View.SpdO))
    → GainsPrefix second now (text_of (view_lines lines outbound inbound View.SpdI))
    → GainsPrefix before now (text_of (views_lines lines outbound inbound))
GainsPrefix-spd_i lines outbound inbound before first second now spd_s spd_o prefix =
    subst (GainsPrefix before now) (sym (views_text lines outbound inbound))
    (GainsPrefix-second _ spd_s (GainsPrefix-second _ spd_o prefix))
