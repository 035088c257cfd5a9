use Rattle.cmd_replay.proofs.Headline.{AreServed, replayed_to_its_end}
use Rattle.cmd_replay.proofs.laws.each_event_is_answered.Goals as goal

pub returns : goal.returns
returns c =
    let served : AreServed = record {
      each = λ lines limit capacity. record {
        fill = c.served.ensures.fill lines limit capacity;
        hit = c.served.ensures.hit;
        at_once = c.served.ensures.at_once;
      };
    } in
    record {
      lines = λ told command policy trace before now end tells_policy tells_trace ends.
          (replayed_to_its_end served told command policy trace before now end tells_policy tells_trace ends).lines;
      machine = λ told command policy trace before now end tells_policy tells_trace ends.
          (replayed_to_its_end served told command policy trace before now end tells_policy tells_trace ends).machine;
    }
