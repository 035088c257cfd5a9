use Rattle.std.proofs.Common.{◌≡◌, ◌<◌, ◌^◌, ℕ, SomeIff, subst}
use Rattle.std.specs.Str.Parse.{digits_value, digits_value_after}
use Rattle.sel_text.proofs.Digits.{digits_value-split}
use Rattle.sel_text.proofs.number.value_of.Goals as goal

pub returns : goal.returns
returns c =
    let whole = digits_value-split c.min.result c.args.digits.now in
    let same : digits_value_after 10 c.from.result c.split_at.result.1.now ≡ digits_value 10 c.args.digits.now = cc in
    subst (λ (value : ℕ). SomeIff c.value_after.result (value < 2 ^ 128) value) same c.value_after.ensures
