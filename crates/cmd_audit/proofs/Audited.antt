-- A run that ended by the command's own answer wrote that the policies agree, or their least gap.
use Rattle.std.proofs.Common.{◌≡◌, ℕ, ◌≤◌, ◌↔◌, List, length, Option, Some, None, IfSome, IfNone, Ok, refl, subst}
use Rattle.pair_io.specs.Gains.{Gains}
use Rattle.sel_box.specs.declared.packet.Direction.{Direction}
use Rattle.sel_box.specs.declared.packet.Direction.TheVariants.{Outbound, Inbound}
use Rattle.spd_cut.specs.declared.entry.Entry.{Entry}
use Rattle.spd_cut.specs.Entries.{entries}
use Rattle.spd_cut.specs.StandsFor.{StandsFor}
use Rattle.spd_line.specs.Agree.{Agree}
use Rattle.spd_line.specs.Policy.{most_lines}
use Rattle.spd_line.specs.declared.line.LineParts.{LineParts}
use Rattle.pair_gap.specs.declared.gap.Gap.{Gap}
use Rattle.pair_gap.specs.Gap.{IsLeastGap}
use Rattle.pair_gap.specs.LeastGap.{least_gap_of}
use Rattle.audit_frame.specs.Answer.{with_policy}
use Rattle.audit_frame.specs.Ends.{Ends, IsAnswer}
use Rattle.audit_frame.proofs.Done.{Ends-lines, Ends-under}
use Rattle.audit_frame.proofs.Further.{Ends-under_before}
use Rattle.cert_check.specs.declared.answer.Checked.{Checked}
use Rattle.cert_check.specs.Answer.{check_answer}
use Rattle.cert_make.specs.Text.{certificate_text}
use Rattle.cert_make.specs.Trees.{made_nodes}
use Rattle.cmd_audit.specs.declared.command.Audit.{Audit}
use Rattle.cmd_audit.specs.declared.command.AuditEnd.{AuditEnd}
use Rattle.cmd_audit.specs.Audit.{audit_answer, by_first, by_gap, by_second, pair_answer}
use Rattle.cmd_audit.specs.Headline.{IsAudited}
use Rattle.spd_file.specs.Policy.{policy_meaning}
use Rattle.cmd_audit.proofs.Certificates.{text_of-certificate}

-- What the laws of gaps and of entries give.
pub record GapLaws : Type 0 where
  pub stands : (d : Direction) (lines : List LineParts) → StandsFor (entries d lines) d lines
  pub some : (a b : List LineParts) (outbound inbound : List Entry) → StandsFor outbound Outbound a → StandsFor inbound Inbound b →
      IfSome (least_gap_of outbound inbound) (IsLeastGap a b)
  pub none : (a b : List LineParts) (outbound inbound : List Entry) → StandsFor outbound Outbound a → StandsFor inbound Inbound b →
      IfNone (least_gap_of outbound inbound) (Agree a b)

-- What the law of made certificates gives.
abbrev pub CertificateLaw : Type 0
CertificateLaw =
    (a b : List LineParts) → length a ≤ most_lines → length b ≤ most_lines → Agree a b →
    check_answer a b (certificate_text (made_nodes a b)) ≡ Ok Checked.Accepted

-- What the law of policy files gives.
abbrev pub FewLaw : Type 0
FewLaw = (bytes : List ℕ) (lines : List LineParts) → policy_meaning bytes ≡ Ok lines → length lines ≤ most_lines

by_gap-means : CertificateLaw → FewLaw → (policy_a policy_b : List ℕ) (a b : List LineParts) (found : Option Gap) (before now : Option (List ℕ))
    (end : AuditEnd) → policy_meaning policy_a ≡ Ok a → policy_meaning policy_b ≡ Ok b → IfSome found (IsLeastGap a b) →
    IfNone found (Agree a b) → IsAnswer (by_gap a b found) before now (Ok end) → IsAudited policy_a policy_b before now end
by_gap-means made few policy_a policy_b a b None before now AuditEnd.Agree a_is b_is some none is = record {
  a = a;
  b = b;
  a_is = a_is;
  b_is = b_is;
  agree = none;
  certificate = certificate_text (made_nodes a b);
  accepted = made a b (few policy_a a a_is) (few policy_b b b_is) none;
  written = subst (Gains before now) (text_of-certificate (made_nodes a b)) is.all_lines;
}
by_gap-means made few policy_a policy_b a b None before now AuditEnd.Differ a_is b_is some none is =
    absurd (let no_way : ⊥ = cc (is.ended_is) in no_way)
by_gap-means made few policy_a policy_b a b (Some gap) before now AuditEnd.Differ a_is b_is some none is =
    record { a = a; b = b; a_is = a_is; b_is = b_is; gap = gap; least = some; written = is.all_lines }
by_gap-means made few policy_a policy_b a b (Some gap) before now AuditEnd.Agree a_is b_is some none is =
    absurd (let no_way : ⊥ = cc (is.ended_is) in no_way)

pub audited : GapLaws → CertificateLaw → FewLaw → (told : List ℕ → Option (List ℕ)) (command : Audit) (policy_a policy_b : List ℕ) (before now : Option (List ℕ))
    (end : AuditEnd) → told command.policy_a.name ≡ Some policy_a → told command.policy_b.name ≡ Some policy_b →
    Ends (audit_answer told command) before now (Ok end) → IsAudited policy_a policy_b before now end
audited laws made few told command policy_a policy_b before now end tells_a tells_b ends =
    let first = Ends-lines told command.policy_a policy_a (by_first told command) before now end tells_a ends in
    let a = first.lines in
    let under_a = Ends-under_before command.policy_a.word command.limit Outbound a (with_policy told command.policy_b (by_second command a))
    before now end first.ends in
    let second = Ends-lines told command.policy_b policy_b (by_second command a) before now end tells_b under_a in
    let b = second.lines in
    let done = Ends-under command.policy_b.word command.limit Inbound b (pair_answer a b) before now end second.ends in
    by_gap-means made few policy_a policy_b a b (least_gap_of (entries Outbound a) (entries Inbound b)) before now end first.policy second.policy
    (laws.some a b (entries Outbound a) (entries Inbound b) (laws.stands Outbound a) (laws.stands Inbound b))
    (laws.none a b (entries Outbound a) (entries Inbound b) (laws.stands Outbound a) (laws.stands Inbound b))
    done

by_gap-agrees : (a b : List LineParts) (found : Option Gap) → IfNone found (Agree a b) → (IfSome found (λ gap. Agree a b → ⊥)) →
    ((by_gap a b found).ended ≡ Ok AuditEnd.Agree) ↔ Agree a b
by_gap-agrees a b None agree some = (λ e. agree, λ agrees. refl)
by_gap-agrees a b (Some gap) none differ = (λ e. absurd (let no_way : ⊥ = cc in no_way), λ agrees. absurd (differ agrees))

differs-from : (a b : List LineParts) (found : Option Gap) → ((gap : Gap) → IsLeastGap a b gap → Agree a b → ⊥) → IfSome found (IsLeastGap a b) →
    IfSome found (λ gap. Agree a b → ⊥)
differs-from a b None never some = tt
differs-from a b (Some gap) never some = never gap some

-- The answer is that they agree exactly where they do.
pub agrees_exactly : GapLaws → ((a b : List LineParts) (gap : Gap) → IsLeastGap a b gap → Agree a b → ⊥) → (a b : List LineParts) →
    ((pair_answer a b).ended ≡ Ok AuditEnd.Agree) ↔ Agree a b
agrees_exactly laws never a b =
    by_gap-agrees a b (least_gap_of (entries Outbound a) (entries Inbound b))
    (laws.none a b (entries Outbound a) (entries Inbound b) (laws.stands Outbound a) (laws.stands Inbound b))
    (differs-from a b (least_gap_of (entries Outbound a) (entries Inbound b)) (never a b)
    (laws.some a b (entries Outbound a) (entries Inbound b) (laws.stands Outbound a) (laws.stands Inbound b)))
