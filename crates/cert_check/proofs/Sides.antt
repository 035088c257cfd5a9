-- The answer by the boxes that were gathered of both policies.
use Rattle.std.proofs.Common.{◌≡◌, ℕ, Bool, List, None, Some, Result, Ok, Err, sym, ap, ap₂, ◌∙◌}
use Rattle.std.specs.Prelude.{IfOk}
use Rattle.std.proofs.Math.Path.{fun_ext}
use Rattle.sel_box.specs.declared.any_box.AnyBox.{AnyBox}
use Rattle.sel_text.specs.Lines.{lines_of}
use Rattle.spd_line.specs.declared.line.LineParts.{LineParts}
use Rattle.cert_text.specs.declared.node.Node.{Node}
use Rattle.cert_text.specs.Rows.{Row, a_rows, b_rows, decided_at}
use Rattle.cert_text.specs.Valid.{holds, rule_of}
use Rattle.cert_check.specs.declared.answer.CheckFault.{CheckFault}
use Rattle.cert_check.specs.declared.answer.Checked.{Checked}
use Rattle.cert_rows.specs.declared.gateway.Gateway.TheVariants.{A, B}
use Rattle.cert_rows.specs.declared.side.Side.{Side}
use Rattle.cert_check.specs.Answer.{check_answer}
use Rattle.cert_rows.specs.Gathered.{AreGathered, rows_at}
use Rattle.cert_check.specs.inner.Scan.{scan}
use Rattle.cert_check.specs.inner.Steps.{answer_behind, behind_agree, decided_by, rule_by}
use Rattle.cert_check.proofs.Forms.{by_nodes-behind, by_nodes-other}
use Rattle.cert_rows.proofs.Gathers.{rows_at-a, rows_at-b}
use Rattle.cert_check.proofs.Scans.{scan-rows}

side-decides : (side : Side) (rows : List Row) → AreGathered rows side.regions side.marks.items → decided_by side ≡ decided_at rows
side-decides side rows gathered =
    fun_ext (λ line. fun_ext (λ b. ap₂ (scan line b) gathered.regions_are gathered.marks_are ∙ scan-rows rows line b))

module _ (a b : List LineParts) (ours theirs : Side)
    (ours_are : AreGathered (rows_at A a) ours.regions ours.marks.items) (theirs_are : AreGathered (rows_at B b) theirs.regions theirs.marks.items)
  where
    pub sides-rule : rule_by ours theirs ≡ holds (a_rows a) (b_rows b)
    sides-rule =
        ap₂ rule_of (side-decides ours (rows_at A a) ours_are ∙ ap decided_at (rows_at-a a))
        (side-decides theirs (rows_at B b) theirs_are ∙ ap decided_at (rows_at-b b))

    pub check-by_sides : (text : List ℕ) (nodes : List (List ℕ)) → Some nodes ≡ behind_agree (lines_of text)
        → answer_behind (rule_by ours theirs) nodes ≡ check_answer a b text
    unfolding check_answer
    check-by_sides text nodes is =
        ap (λ (rule : Node → AnyBox → Bool). answer_behind rule nodes) sides-rule
        ∙ sym (by_nodes-behind (holds (a_rows a) (b_rows b)) (lines_of text) nodes is)

pub check-other : (a b : List LineParts) (text : List ℕ) → None ≡ behind_agree (lines_of text) → check_answer a b text ≡ Err 1
unfolding check_answer
check-other a b text is = by_nodes-other (holds (a_rows a) (b_rows b)) (lines_of text) is

-- What an accepted answer shows, the call shows too.
pub accepted_shows : (P : Type 0) (result : Result Checked CheckFault) (answer : Result Checked ℕ)
    → IfOk result (λ found. answer ≡ Ok found) → (answer ≡ Ok Checked.Accepted → P) → IfOk result (λ found. found ≡ Checked.Accepted → P)
accepted_shows P (Err fault) answer is shows = tt
accepted_shows P (Ok found) answer is shows = λ same. shows (is ∙ ap Ok same)
