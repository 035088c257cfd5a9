-- Where entries stand for two policies, their least gap is that of the policies.
use Rattle.std.proofs.Common.{◌≡◌, Bool, true, false, not, ◌&&◌, ◌||◌, cond, List, [], ◌∷◌, Option, Some, None, IfSome, IfNone, option_map}
use Rattle.std.proofs.Common.{refl, sym, ap, ap₂, ◌∙◌, subst, arith}
use Rattle.std.specs.List.{All, list_any}
use Rattle.std.specs.Option.{option_and_then}
use Rattle.std.proofs.Math.Bool.{and-false, and-true}
use Rattle.std.proofs.lemmas.Bool.{and_from, and_parts, both_ways, not-true, not_from_false}
use Rattle.std.proofs.lemmas.List.Elements.{All-head, All-tail}
use Rattle.sel_box.specs.declared.packet.Direction.{Direction}
use Rattle.sel_box.specs.declared.packet.Direction.TheVariants.{Outbound, Inbound}
use Rattle.sel_box.specs.LeastPacket.{IsTotalOrder, packet_at_most}
use Rattle.sel_box.specs.Packet.{PacketFields, is_packet}
use Rattle.sel_box.specs.Point.{PointFields, is_point, view_of}
use Rattle.sel_box.proofs.RealPoints.{is_point-from_real}
use Rattle.spd_cut.specs.declared.entry.Entry.{Entry}
use Rattle.spd_cut.specs.Entries.{entry_has}
use Rattle.spd_cut.specs.StandsFor.{StandsFor}
use Rattle.spd_cut.proofs.Groups.{some_from_one}
use Rattle.spd_line.specs.Agree.{Agree, same_judgement}
use Rattle.spd_line.specs.First.{verdict_of}
use Rattle.spd_line.specs.declared.judgement.Judgement.{Judgement}
use Rattle.spd_line.specs.declared.judgement.Verdict.{Verdict}
use Rattle.spd_line.specs.declared.line.LineParts.{LineParts}
use Rattle.pair_gap.specs.declared.gap.Gap.{Gap}
use Rattle.pair_gap.specs.Gap.{IsGap, IsLeastGap, verdict_in, verdict_out}
use Rattle.pair_gap.specs.LeastGap.{common_region, gap_at, gap_of, least_from, least_gap_of, least_with, lesser}
use Rattle.pair_gap.specs.LeastPacketOf.{least_packet_of}
use Rattle.pair_gap.proofs.LeastGaps.{LeastOf, both_have, gap_of-least, least_gap_of-least, pair_differs, some_differs, some_differs_with}

-- What the laws of judgements give.
pub record JudgementLaws : Type 0 where
  pub reflexive : (a : Judgement) → same_judgement a a ≡ true
  pub equal : (a b : Judgement) → same_judgement a b ≡ true → a ≡ b

-- An entry's line and judgement.
abbrev pub verdict_by : Entry → Verdict
verdict_by entry = record { line = entry.link; judgement = entry.judgement }

-- An entry tells the verdict of the lines on each packet that it has.
pub record Tells (d : Direction) (lines : List LineParts) (entry : Entry) : Type 0 where
  pub verdict : (p : PacketFields) → is_packet p ≡ true → entry_has entry (view_of d p) ≡ true → verdict_by entry ≡ verdict_of d (view_of d p) lines

view_is_point : (d : Direction) (p : PacketFields) → is_packet p ≡ true → is_point (view_of d p) ≡ true
view_is_point d p packet = is_point-from_real (view_of d p) (d, (p, (packet, refl)))

pub all_tell : (d : Direction) (lines : List LineParts) (entries : List Entry) → StandsFor entries d lines → All (Tells d lines) entries
all_tell d lines entries stands = λ k other within. record {
  verdict = λ p packet has.
      let point = view_is_point d p packet in
      let line = stands.link (view_of d p) point k other within has in
      let judgement = stands.judged (view_of d p) point k other within has in
      λ i. record { line = line i; judgement = judgement i };
}

pub some_has_packet : (d : Direction) (lines : List LineParts) (entries : List Entry) (p : PacketFields) → StandsFor entries d lines →
    is_packet p ≡ true → list_any (λ entry. entry_has entry (view_of d p)) entries ≡ true
some_has_packet d lines entries p stands packet = some_from_one (view_of d p) entries (stands.one (view_of d p) (d, (p, (packet, refl))))

-- Two policies judge a packet differently.
abbrev pub differ : List LineParts → List LineParts → PacketFields → Bool
differ a b p = not (same_judgement (verdict_out a p).judgement (verdict_in b p).judgement)

-- Both entries have the packet, and the policies judge it differently.
pair_differs-told : (a b : List LineParts) (ours theirs : Entry) (p : PacketFields) → Tells Outbound a ours → Tells Inbound b theirs →
    pair_differs ours theirs p
    ≡ ((entry_has ours (view_of Outbound p) && entry_has theirs (view_of Inbound p)) && (is_packet p && differ a b p))
pair_differs-told a b ours theirs p tells tells' =
    go (is_packet p) (entry_has ours (view_of Outbound p)) (entry_has theirs (view_of Inbound p))
    (λ packet has. ap (λ (v : Verdict). v.judgement) (tells.verdict p packet has))
    (λ packet has. ap (λ (v : Verdict). v.judgement) (tells'.verdict p packet has))
  where
    go : (packet here there : Bool) → (packet ≡ true → here ≡ true → ours.judgement ≡ (verdict_out a p).judgement) →
        (packet ≡ true → there ≡ true → theirs.judgement ≡ (verdict_in b p).judgement) →
        (not (same_judgement ours.judgement theirs.judgement) && (packet && (here && there)))
        ≡ ((here && there) && (packet && differ a b p))
    go true true true is is' =
        ap₂ (λ (j k : Judgement). not (same_judgement j k) && true) (is refl refl) (is' refl refl) ∙ and-true (differ a b p)
    go true true false is is' = and-false (not (same_judgement ours.judgement theirs.judgement))
    go true false there is is' = and-false (not (same_judgement ours.judgement theirs.judgement))
    go false here there is is' = and-false (not (same_judgement ours.judgement theirs.judgement)) ∙ sym (and-false (here && there))

either_with : (a b r d : Bool) → (((a && b) && d) || ((a && r) && d)) ≡ ((a && (b || r)) && d)
either_with a b r d = grind arith

either_all : (a r b d : Bool) → (((a && b) && d) || ((r && b) && d)) ≡ (((a || r) && b) && d)
either_all a r b d = grind arith

none_with : (a d : Bool) → false ≡ ((a && false) && d)
none_with true d = refl
none_with false d = refl

some_differs_with-told : (a b : List LineParts) (ours : Entry) (inbound : List Entry) (p : PacketFields) → Tells Outbound a ours →
    All (Tells Inbound b) inbound → some_differs_with ours inbound p
    ≡ ((entry_has ours (view_of Outbound p) && list_any (λ theirs. entry_has theirs (view_of Inbound p)) inbound)
    && (is_packet p && differ a b p))
some_differs_with-told a b ours [] p tells all = none_with (entry_has ours (view_of Outbound p)) (is_packet p && differ a b p)
some_differs_with-told a b ours (theirs ∷ rest) p tells all =
    ap₂ (λ (x y : Bool). x || y)
    (pair_differs-told a b ours theirs p tells (All-head (Tells Inbound b) theirs rest all))
    (some_differs_with-told a b ours rest p tells (All-tail (Tells Inbound b) theirs rest all))
    ∙ either_with (entry_has ours (view_of Outbound p)) (entry_has theirs (view_of Inbound p))
    (list_any (λ entry. entry_has entry (view_of Inbound p)) rest) (is_packet p && differ a b p)

some_differs-told : (a b : List LineParts) (outbound inbound : List Entry) (p : PacketFields) → All (Tells Outbound a) outbound →
    All (Tells Inbound b) inbound → some_differs outbound inbound p
    ≡ ((list_any (λ ours. entry_has ours (view_of Outbound p)) outbound && list_any (λ theirs. entry_has theirs (view_of Inbound p)) inbound)
    && (is_packet p && differ a b p))
some_differs-told a b [] inbound p all all' = refl
some_differs-told a b (ours ∷ rest) inbound p all all' =
    ap₂ (λ (x y : Bool). x || y)
    (some_differs_with-told a b ours inbound p (All-head (Tells Outbound a) ours rest all) all')
    (some_differs-told a b rest inbound p (All-tail (Tells Outbound a) ours rest all) all')
    ∙ either_all (entry_has ours (view_of Outbound p)) (list_any (λ entry. entry_has entry (view_of Outbound p)) rest)
    (list_any (λ entry. entry_has entry (view_of Inbound p)) inbound) (is_packet p && differ a b p)

-- Some pair differs on a packet exactly where the policies judge it differently.
pub some_differs-stands : (a b : List LineParts) (outbound inbound : List Entry) (p : PacketFields) → StandsFor outbound Outbound a →
    StandsFor inbound Inbound b → is_packet p ≡ true → some_differs outbound inbound p ≡ differ a b p
some_differs-stands a b outbound inbound p stands stands' packet =
    some_differs-told a b outbound inbound p (all_tell Outbound a outbound stands) (all_tell Inbound b inbound stands')
    ∙ all_true _ _ _ (differ a b p) (some_has_packet Outbound a outbound p stands packet) (some_has_packet Inbound b inbound p stands' packet) packet
  where
    all_true : (x y z d : Bool) → x ≡ true → y ≡ true → z ≡ true → ((x && y) && (z && d)) ≡ d
    all_true x y z d e f g = rw (e, f, g) refl

some_differs-packet : (a b : List LineParts) (outbound inbound : List Entry) (p : PacketFields) → StandsFor outbound Outbound a →
    StandsFor inbound Inbound b → some_differs outbound inbound p ≡ true → is_packet p ≡ true
some_differs-packet a b outbound inbound p stands stands' some =
    let told = some_differs-told a b outbound inbound p (all_tell Outbound a outbound stands) (all_tell Inbound b inbound stands') in
    (and_parts _ _ (and_parts _ _ (sym told ∙ some)).1).0

-- The verdicts of a gap are those of both policies.
pub record IsTold (a b : List LineParts) (gap : Gap) : Type 0 where
  pub ours : gap.a ≡ verdict_out a gap.packet
  pub theirs : gap.b ≡ verdict_in b gap.packet

-- A gap of a pair has the verdicts of both entries.
gap_of-verdicts : (ours theirs : Entry) (gap : Gap) → gap_of ours theirs ≡ Some gap → (gap.a ≡ verdict_by ours) × (gap.b ≡ verdict_by theirs)
gap_of-verdicts ours theirs gap is =
    go (same_judgement ours.judgement theirs.judgement) (option_and_then least_packet_of (common_region ours theirs)) is
  where
    go : (same : Bool) (found : Option PacketFields) → cond same None (option_map (gap_at ours theirs) found) ≡ Some gap →
        (gap.a ≡ verdict_by ours) × (gap.b ≡ verdict_by theirs)
    go true found e = absurd (let none : ⊥ = cc in none)
    go false None e = absurd (let none : ⊥ = cc in none)
    go false (Some p) e =
        let same : gap_at ours theirs p ≡ gap = cc in
        (ap (λ (g : Gap). g.a) (sym same), ap (λ (g : Gap). g.b) (sym same))

gap_of-told : (a b : List LineParts) (ours theirs : Entry) → Tells Outbound a ours → Tells Inbound b theirs → IfSome (gap_of ours theirs) (IsTold a b)
gap_of-told a b ours theirs tells tells' = go (gap_of ours theirs) refl (gap_of-least ours theirs)
  where
    go : (found : Option Gap) → gap_of ours theirs ≡ found → LeastOf (pair_differs ours theirs) found → IfSome found (IsTold a b)
    go None is least = tt
    go (Some gap) is least =
        let verdicts = gap_of-verdicts ours theirs gap is in
        let both = and_parts (is_packet gap.packet) _
        (and_parts (not (same_judgement ours.judgement theirs.judgement)) (both_have ours theirs gap.packet) least.0).1 in
        let have = and_parts (entry_has ours (view_of Outbound gap.packet)) (entry_has theirs (view_of Inbound gap.packet)) both.1 in
        record {
          ours = verdicts.0 ∙ tells.verdict gap.packet both.0 have.0;
          theirs = verdicts.1 ∙ tells'.verdict gap.packet both.0 have.1;
        }

lesser-keeps : (P : Gap → Type 0) (best found : Option Gap) → IfSome best P → IfSome found P → IfSome (lesser best found) P
lesser-keeps P None found here there = there
lesser-keeps P (Some best) None here there = here
lesser-keeps P (Some best) (Some found) here there = go (packet_at_most best.packet found.packet)
  where
    go : (first : Bool) → P (cond first best found)
    go true = here
    go false = there

least_with-told : (a b : List LineParts) (best : Option Gap) (ours : Entry) (inbound : List Entry) → IfSome best (IsTold a b) → Tells Outbound a ours →
    All (Tells Inbound b) inbound → IfSome (least_with best ours inbound) (IsTold a b)
least_with-told a b best ours [] told tells all = told
least_with-told a b best ours (theirs ∷ rest) told tells all =
    least_with-told a b (lesser best (gap_of ours theirs)) ours rest
    (lesser-keeps (IsTold a b) best (gap_of ours theirs) told (gap_of-told a b ours theirs tells (All-head (Tells Inbound b) theirs rest all)))
    tells (All-tail (Tells Inbound b) theirs rest all)

least_from-told : (a b : List LineParts) (best : Option Gap) (outbound inbound : List Entry) → IfSome best (IsTold a b) →
    All (Tells Outbound a) outbound → All (Tells Inbound b) inbound → IfSome (least_from best outbound inbound) (IsTold a b)
least_from-told a b best [] inbound told all all' = told
least_from-told a b best (ours ∷ rest) inbound told all all' =
    least_from-told a b (least_with best ours inbound) rest inbound
    (least_with-told a b best ours inbound told (All-head (Tells Outbound a) ours rest all) all')
    (All-tail (Tells Outbound a) ours rest all) all'

-- Two judgements differ exactly where the test says so.
differ-from : JudgementLaws → (a b : List LineParts) (p : PacketFields) → IsGap a b p → differ a b p ≡ true
differ-from laws a b p gap = go (same_judgement (verdict_out a p).judgement (verdict_in b p).judgement) refl
  where
    go : (same : Bool) → same_judgement (verdict_out a p).judgement (verdict_in b p).judgement ≡ same → not same ≡ true
    go true e = absurd (gap.differ (laws.equal _ _ e))
    go false e = refl

IsGap-from : JudgementLaws → (a b : List LineParts) (p : PacketFields) → is_packet p ≡ true → differ a b p ≡ true → IsGap a b p
IsGap-from laws a b p packet differs = record {
  packet = packet;
  differ = λ same.
      let alike : same_judgement (verdict_out a p).judgement (verdict_in b p).judgement ≡ true =
      subst (λ (j : Judgement). same_judgement (verdict_out a p).judgement j ≡ true) same (laws.reflexive (verdict_out a p).judgement) in
      both_ways _ (not-true _ differs) alike;
}

module _ (order : IsTotalOrder packet_at_most) (laws : JudgementLaws) (a b : List LineParts) (outbound inbound : List Entry)
    (stands : StandsFor outbound Outbound a) (stands' : StandsFor inbound Inbound b) where
  same_differ : (p : PacketFields) → is_packet p ≡ true → some_differs outbound inbound p ≡ differ a b p
  same_differ p packet = some_differs-stands a b outbound inbound p stands stands' packet

  pub least_gap_of-some : IfSome (least_gap_of outbound inbound) (IsLeastGap a b)
  least_gap_of-some =
      go (least_gap_of outbound inbound) (least_gap_of-least order outbound inbound)
      (least_from-told a b None outbound inbound tt (all_tell Outbound a outbound stands) (all_tell Inbound b inbound stands'))
    where
      go : (found : Option Gap) → LeastOf (some_differs outbound inbound) found → IfSome found (IsTold a b) → IfSome found (IsLeastGap a b)
      go None least told = tt
      go (Some gap) least told =
          let packet = some_differs-packet a b outbound inbound gap.packet stands stands' least.0 in
          record {
            differs = IsGap-from laws a b gap.packet packet (sym (same_differ gap.packet packet) ∙ least.0);
            least = λ p other. least.1 p (same_differ p other.packet ∙ differ-from laws a b p other);
            ours = told.ours;
            theirs = told.theirs;
          }

  pub least_gap_of-none : IfNone (least_gap_of outbound inbound) (Agree a b)
  least_gap_of-none = go (least_gap_of outbound inbound) (least_gap_of-least order outbound inbound)
    where
      go : (found : Option Gap) → LeastOf (some_differs outbound inbound) found → IfNone found (Agree a b)
      go None none = λ p packet. laws.equal _ _ (same_from _ (sym (same_differ p packet) ∙ none p))
        where
          same_from : (same : Bool) → not same ≡ false → same ≡ true
          same_from true e = refl
          same_from false e = absurd (let none : ⊥ = cc in none)
      go (Some gap) least = tt
