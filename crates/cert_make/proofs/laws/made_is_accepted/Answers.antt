use Rattle.cert_make.specs.Text.{certificate_text}
use Rattle.cert_make.specs.Trees.{made_nodes}
use Rattle.cert_make.proofs.laws.made_is_accepted.Goals as goal

pub returns : goal.returns
returns c = λ a b a_few b_few agree.
    let valid = c.made_is_valid.ensures a b agree in
    (c.accepted_is_valid.ensures a b (certificate_text (made_nodes a b))).1 (record {
      nodes = made_nodes a b;
      read = c.what_is_made_reads_back.ensures a b (made_nodes a b) a_few b_few valid;
      each = valid;
    })
