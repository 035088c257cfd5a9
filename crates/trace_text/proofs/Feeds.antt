-- What the first line of a trace means.
use Rattle.std.proofs.Common.{◌≡◌, ℕ, suc, ◌<◌, List, ◌∷◌, false, nat_le, length, drop, Result, Err, refl, arith, add-one}
use Rattle.std.specs.Prelude.{Option}
use Rattle.std.proofs.lemmas.Bool.Decides.{nat_tests}
use Rattle.sel_text.specs.Lines.{before_feed, behind_feed}
use Rattle.sel_text.proofs.Lines.{before_feed-line, feed_place, lines-cut}
use Rattle.trace_text.specs.declared.fault.EventFault.{EventFault}
use Rattle.trace_text.specs.declared.fault.EventFault.TheVariants.{LineTooLong}
use Rattle.trace_text.specs.Event.{TraceEvent}
use Rattle.trace_text.specs.Trace.{bytes_meaning, events_of, trace_line_meaning}

events-cut : (bytes : List ℕ) → 0 < length bytes
    → events_of bytes ≡ bytes_meaning (before_feed bytes) ∷ events_of (drop (suc (feed_place bytes)) bytes)
unfolding trace_line_meaning
events-cut bytes some = rw (lines-cut bytes some, before_feed-line bytes) refl

-- What the first line means comes first.
pub events_of-first : (bytes line : List ℕ) (meaning : Result (Option TraceEvent) EventFault) → 0 < length bytes
    → line ≡ before_feed bytes → meaning ≡ bytes_meaning line → events_of bytes ≡ meaning ∷ events_of (behind_feed bytes)
events_of-first bytes line meaning some is means = rw (means, is, add-one) (events-cut bytes some)

pub long_line : (bytes : List ℕ) → 4096 < length bytes → Err LineTooLong ≡ bytes_meaning bytes
long_line bytes long =
    let no : nat_le (length bytes) 4096 ≡ false = grind (arith, nat_tests) in
    rw no refl
