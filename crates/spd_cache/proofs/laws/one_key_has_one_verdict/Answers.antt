use Rattle.spd_line.specs.First.{first_place}
use Rattle.spd_cache.proofs.Named.{verdict_same}
use Rattle.spd_cache.proofs.laws.one_key_has_one_verdict.Goals as goal

pub returns : goal.returns
returns c = λ d x y lines policy one.
    let first = c.the_first_line_is_the_least.ensures in
    let told = c.names_tell_their_lines.ensures in
    verdict_same d x y lines
    (told (first_place d x lines) lines policy (first.low d x lines) (first.high d x lines))
    (told (first_place d y lines) lines policy (first.low d y lines) (first.high d y lines))
    one
