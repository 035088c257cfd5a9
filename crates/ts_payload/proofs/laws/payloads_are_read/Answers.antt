use Rattle.ts_payload.proofs.Payloads.{fault-refused, payload-read, read-payload, refused-fault}
use Rattle.ts_payload.proofs.laws.payloads_are_read.Goals as goal

pub returns-clause-payload : goal.returns-clause-payload
returns-clause-payload c = λ bytes list. (payload-read bytes list, read-payload bytes list)

pub returns-clause-fault : goal.returns-clause-fault
returns-clause-fault c = λ bytes fault. (fault-refused bytes fault, refused-fault bytes fault)
