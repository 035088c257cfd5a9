use Rattle.ts_payload.proofs.Payloads.{answers_fault, answers_payload}
use Rattle.ts_payload.proofs.reading.decode.Goals as goal

pub returns-clause-payload : goal.returns-clause-payload
returns-clause-payload c = answers_payload c.args.bytes.now c.read_payload.result c.read_payload.ensures.list

pub returns-clause-first_fault : goal.returns-clause-first_fault
returns-clause-first_fault c = answers_fault c.args.bytes.now c.read_payload.result c.read_payload.ensures.fault
