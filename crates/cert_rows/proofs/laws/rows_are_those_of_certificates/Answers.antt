use Rattle.cert_rows.proofs.Gathers.{marks-length, rows_at-a, rows_at-b}
use Rattle.cert_rows.proofs.laws.rows_are_those_of_certificates.Goals as goal

pub returns-clause-a : goal.returns-clause-a
returns-clause-a c = rows_at-a

pub returns-clause-b : goal.returns-clause-b
returns-clause-b c = rows_at-b

pub returns-clause-marks : goal.returns-clause-marks
returns-clause-marks c = marks-length
