-- What the checker answers.
use Rattle.std.specs.Prelude.{◌≡◌, ℕ, Bool, true, List, Option, Some, None, Result, Ok, Err}
use Rattle.sel_box.specs.declared.any_box.AnyBox.{AnyBox}
use Rattle.spd_line.specs.declared.line.LineParts.{LineParts}
use Rattle.cert_text.specs.declared.node.Node.{Node}
use Rattle.cert_text.specs.Certificate.{certificate_of}
use Rattle.cert_text.specs.Rows.{a_rows, b_rows}
use Rattle.cert_text.specs.Valid.{first_broken, holds, valid, whole_boxes}
use Rattle.cert_check.specs.declared.answer.CheckFault.{CheckFault}
use Rattle.cert_check.specs.declared.answer.Checked.{Checked}

-- A certificate is accepted where no node is broken, and else rejected with the first that is.
abbrev pub checked : Option ℕ → Checked
checked None = Checked.Accepted
checked (Some node) = Checked.Rejected node

-- The answer by the nodes of a text, counted from 1, or the number of the line that makes it no certificate.
abbrev pub by_nodes : (Node → AnyBox → Bool) → Result (List Node) ℕ → Result Checked ℕ
by_nodes rule (Err line) = Err line
by_nodes rule (Ok nodes) = Ok (checked (first_broken rule 1 nodes whole_boxes))

-- What a text shows of the policies of A, from which packets go out, and of B, at which they come in: the form of the
-- whole text comes before its nodes.
unfoldable pub check_answer : List LineParts → List LineParts → List ℕ → Result Checked ℕ
check_answer a b text = by_nodes (holds (a_rows a) (b_rows b)) (certificate_of text)

-- The fault is that of the answer. A lack of memory may come anywhere.
abbrev pub IsCheckFault : Result Checked ℕ → CheckFault → Type 0
IsCheckFault answer (CheckFault.CertFault line) = answer ≡ Err line
IsCheckFault answer CheckFault.NoMemory = Unit {0}

-- The text is a certificate, and each of its nodes holds.
pub record IsValidCertificate (a b : List LineParts) (text : List ℕ) : Type 0 where
  pub nodes : List Node
  pub read : certificate_of text ≡ Ok nodes
  pub each : valid (holds (a_rows a) (b_rows b)) nodes whole_boxes ≡ true
