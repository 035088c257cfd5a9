use Rattle.ts_payload.proofs.Joined.{joined, on_ok}
use Rattle.ts_payload.proofs.writing.put_selector.Goals as goal

pub returns-in_ok-extend-in-Four-2-clause-bytes : goal.returns-in_ok-extend-in-Four-2-clause-bytes
returns-in_ok-extend-in-Four-2-clause-bytes c =
    rw c.in-Four.is (on_ok c.extend-in-Four-2.result c.extend-in-Four-2.ensures.ok
    (λ e. joined _ _ _ _ _ _ _ _ _ _ _ c.in_ok-extend-in-Four.ensures.ok c.in_ok-put_ports-in-Four.ensures c.in_ok-extend-in-Four-2.ensures.ok e
    c.to_be_bytes.ensures c.to_be_bytes-in-Four.ensures))

pub returns-in_ok-extend-in-Six-2-clause-bytes : goal.returns-in_ok-extend-in-Six-2-clause-bytes
returns-in_ok-extend-in-Six-2-clause-bytes c =
    rw c.in-Six.is (on_ok c.extend-in-Six-3.result c.extend-in-Six-3.ensures.ok
    (λ e. joined _ _ _ _ _ _ _ _ _ _ _ c.in_ok-extend-in-Six.ensures.ok c.in_ok-put_ports-in-Six.ensures c.in_ok-extend-in-Six-2.ensures.ok e
    c.to_be_bytes-in-Six.ensures c.to_be_bytes-in-Six-2.ensures))
