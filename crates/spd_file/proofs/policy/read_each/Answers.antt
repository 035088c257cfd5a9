use Rattle.std.proofs.Common.{◌≡◌, refl, length-append, ◌++◌, ◌∷◌, [], ap, false, arith, sym, ◌∙◌, nat_cmp}
use Rattle.std.specs.BTreeSet.{contains}
use Rattle.std.specs.Cmp.Lexicographic.{slice_cmp}
use Rattle.std.specs.List.{list_any}
use Rattle.std.specs.Str.{bytes_eq}
use Rattle.std.proofs.lemmas.Bool.{not-true}
use Rattle.spd_line.specs.declared.line.LineParts.{LineParts}
use Rattle.spd_line.specs.Policy.{names}
use Rattle.spd_file.proofs.Lines.{lines_behind-more}
use Rattle.spd_file.proofs.Names.{names-more, new-more, new-none, policy-new}
use Rattle.spd_file.proofs.policy.read_each.Goals as goal

pub loop-value-preserved : goal.loop-value-preserved
loop-value-preserved c =
    let lines = c.loop-value.lines in
    let line = c.in_ok-line.line in
    let same : c.parts.result.now.name ≡ line.name = ap (λ (parts : LineParts). parts.name) c.parts.ensures.value in
    let absent : contains (slice_cmp nat_cmp) c.loop-value.names c.parts.result.now.name ≡ false =
    not-true _ (sym c.in_ok-is_new.ensures.added ∙ c.if-not-is_new.false) in
    let new : list_any (bytes_eq line.name) (names lines) ≡ false =
    sym (c.loop-value.invariant.found line.name) ∙ (rw same at absent) in
    let after : c.push.new.self ≡ lines ++ line ∷ [] = c.in_ok-push.ensures.ok in
    record {
      lines = rw after (c.loop-value.invariant.lines
          ∙ lines_behind-more lines c.args.values.now c.loop-value.value-index c.value-item.result line
          c.loop-value-test.true c.value-item.is (rw c.len.ensures at c.in_ok-line.ensures.line) new);
      few = rw after (omega (arith, length-append lines (line ∷ [])));
      new = rw after (new-more lines line c.loop-value.invariant.new new c.in_ok-line.ensures.unreserved);
      found = λ name. c.in_ok-is_new.ensures.updates.0 name
          ∙ rw (after, same, c.loop-value.invariant.found name) (names-more lines line name);
    }

pub loop-value-init : goal.loop-value-init
loop-value-init c = rw (c.new-lines.ensures, c.new-names.ensures.empty) record {
  lines = refl;
  few = omega arith;
  new = new-none;
  found = λ name. refl;
}

pub returns-clause-policy : goal.returns-clause-policy
returns-clause-policy c = policy-new c.loop-value.lines (omega arith) c.loop-value.invariant.new
