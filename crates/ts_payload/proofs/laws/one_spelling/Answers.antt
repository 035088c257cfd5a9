use Rattle.ts_payload.proofs.Payloads.{one_list, payload-read}
use Rattle.ts_payload.proofs.Written.{no_prefix, written_payload}
use Rattle.ts_payload.specs.Payload.{payload_bytes}
use Rattle.ts_payload.proofs.laws.one_spelling.Goals as goal

pub returns : goal.returns
returns c = record {
  one_list = one_list;
  written = written_payload;
  read_back = λ next list right few. payload-read (payload_bytes next list) list (written_payload next list right few);
  no_prefix = no_prefix;
}
