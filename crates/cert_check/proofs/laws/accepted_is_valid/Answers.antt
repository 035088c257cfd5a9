use Rattle.sel_text.specs.Lines.{lines_of}
use Rattle.cert_text.specs.Rows.{a_rows, b_rows}
use Rattle.cert_text.specs.Valid.{holds}
use Rattle.cert_check.specs.Answer.{check_answer}
use Rattle.cert_check.proofs.Forms.{accepted-valid, valid-accepted}
use Rattle.cert_check.proofs.laws.accepted_is_valid.Goals as goal

pub returns : goal.returns
unfolding check_answer
returns c = λ a b text. (
  λ is. let found = accepted-valid (holds (a_rows a) (b_rows b)) (lines_of text) is in
      record { nodes = found.nodes; read = found.read; each = found.each },
  λ certificate. valid-accepted (holds (a_rows a) (b_rows b)) (lines_of text) certificate.nodes certificate.read certificate.each,
)
